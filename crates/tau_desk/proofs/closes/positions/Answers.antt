use Rattle.std.proofs.Common.{rules, ℕ, ◌+◌, ◌*◌, ◌<◌, ◌≡◌, inl, inr, length, ap, sym, ◌∙◌, arith, length-set, get_or-set_same, get_or-set_other}
use Rattle.std.specs.Prelude.{slice_index, slice_set}
use Rattle.std.specs.Slots.{slots_items}
use Rattle.std.proofs.lemmas.Bool.{cases_eq}
use Rattle.tau_shown.proofs.Lists.{index_of}
use Rattle.tau_desk.proofs.closes.positions.Goals as goal

pub set-requires-clause-small : goal.set-requires-clause-small
set-requires-clause-small c =
    let j = c.loop-j.j in
    let is : slice_index (slots_items c.args.closed.now.words) (8 * (c.args.from + j)) ≡ c.word.result = index_of (slots_items c.args.closed.now.words) (8 * (c.args.from + j)) c.word.result 0 c.word.ensures in
    let low : j < c.args.streams = search rules in
    let small = c.requires.small j low in
    omega (arith, is, small)

pub loop-j-preserved : goal.loop-j-preserved
loop-j-preserved c =
    let j = c.loop-j.j in
    let i = c.loop-j.invariant in
    let is : slice_index (slots_items c.args.closed.now.words) (8 * (c.args.from + j)) ≡ c.word.result = index_of (slots_items c.args.closed.now.words) (8 * (c.args.from + j)) c.word.result 0 c.word.ensures in
    let low : j < c.args.streams = search rules in
    let inside : j < length c.loop-j.lv = (let n = i.count in omega (arith, n, low)) in
    record {
      count = ap (λ l. length l) c.set.ensures ∙ length-set c.loop-j.lv j c.word.result ∙ i.count;
      each = λ k lt. ap (λ l. slice_index l k) c.set.ensures ∙ elim (cases_eq k j) [
        | inl e ↦ ap (λ (n : ℕ). slice_index (slice_set c.loop-j.lv j c.word.result) n) e ∙ get_or-set_same c.loop-j.lv j c.word.result 0 inside ∙ sym is ∙ ap (λ (n : ℕ). slice_index (slots_items c.args.closed.now.words) (8 * (c.args.from + n))) (sym e)
        | inr ne ↦ get_or-set_other c.loop-j.lv j k c.word.result 0 ne ∙ i.each k (below k j lt ne)
      ];
    }
  where
    below : (k j : ℕ) → k < j + 1 → (k ≡ j → ⊥) → k < j
    below k j lt ne = omega (arith, lt, ne)
