use Rattle.std.proofs.Common.{ℕ, ◌+◌, ◌*◌, ◌<◌, ◌≡◌, length, slice_index}
use Rattle.tau_desk.proofs.opens.put_words.Given as goal

abbrev pub invariant-loop-j : goal.invariant-loop-j
invariant-loop-j l = record {
  count : length l.words.items ≡ length l.initial.words.items;
  put : (i : ℕ) → i < l.j → slice_index l.words.items (8 * (l.from + i)) ≡ slice_index l.lv i;
  others : (k : ℕ) → ((i : ℕ) → i < l.j → k ≡ l.from + i → ⊥) → slice_index l.words.items (8 * k) ≡ slice_index l.initial.words.items (8 * k);
}
