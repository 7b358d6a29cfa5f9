use Rattle.std.proofs.Common.{rules, ℕ, ◌+◌, ◌*◌, ◌<◌, ◌≡◌, inl, inr, length, ap, sym, ◌∙◌, arith, length-set}
use Rattle.std.specs.Prelude.{slice_index}
use Rattle.std.proofs.lemmas.Bool.{cases_eq}
use Rattle.tau_desk.proofs.Slots.{word_put, word_else}
use Rattle.tau_desk.proofs.opens.put_words.Goals as goal

pub loop-j-preserved : goal.loop-j-preserved
loop-j-preserved c =
    let i = c.loop-j.invariant in
    let from = c.args.from in
    let j = c.loop-j.j in
    let ws = c.loop-j.words.items in
    let x = c.get.result in
    let inside : 8 * (from + j) < length ws = search rules in
    record {
      count = length-set ws (8 * (from + j)) x ∙ i.count;
      put = λ k lt. elim (cases_eq k j) [
        | inl is ↦ word_put ws (from + j) (from + k) x (ap (λ (n : ℕ). from + n) is) inside ∙ c.get.ensures.same ∙ ap (slice_index c.args.lv.now) (sym is)
        | inr ne ↦ word_else ws (from + j) (from + k) x (λ e. ne (omega (arith, e))) ∙ i.put k (below k j lt ne)
      ];
      others = λ k apart. word_else ws (from + j) k x (λ e. apart j (omega arith) e) ∙ i.others k (λ n lt. apart n (omega (arith, lt)));
    }
  where
    below : (k j : ℕ) → k < j + 1 → (k ≡ j → ⊥) → k < j
    below k j lt ne = omega (arith, lt, ne)

pub returns-clause-others : goal.returns-clause-others
returns-clause-others c = λ k apart. c.loop-j.invariant.others k (λ n lt. apart n (let low : n < length c.args.lv.now = search rules in low))
