use Rattle.std.proofs.Common.{◌≡◌, ◌++◌, ◌+◌, ◌-◌, ℕ, List, length, take, drop, arith, length-drop, append_assoc, sym, ◌∙◌, ap}
use Rattle.std.proofs.Math.Seq.{take-add}
use Rattle.std.proofs.lemmas.List.{take_all}
use Rattle.tau_disk.proofs.sink.write_all.Goals as goal

more : (first before now bytes : List ℕ) (i n : ℕ) → before ≡ first ++ take i bytes → now ≡ before ++ take n (take (length bytes - i) (drop i bytes)) → now ≡ first ++ take (i + n) bytes
more first before now bytes i n was is =
    let all : take (length bytes - i) (drop i bytes) ≡ drop i bytes = take_all (length bytes - i) (drop i bytes) (omega (arith, length-drop i bytes)) in
    is ∙ ap (λ (xs : List ℕ). before ++ take n xs) all ∙ ap (λ (xs : List ℕ). xs ++ take n (drop i bytes)) was ∙ append_assoc first (take i bytes) (take n (drop i bytes))
    ∙ ap (λ (xs : List ℕ). first ++ xs) (sym (take-add i n bytes))

pub loop-at-preserved : goal.loop-at-preserved
loop-at-preserved g c = record {
  within = omega (arith, c.in_ok-count.ensures.bound, length-drop c.loop-at.at c.args.bytes.now, c.loop-at.invariant.within);
  written = λ tells. more (g.K.Sink.held c.args.sink.now) (g.K.Sink.held c.loop-at.sink) (g.K.Sink.held c.write.new.self) c.args.bytes.now c.loop-at.at c.in_ok-count.count (c.loop-at.invariant.written tells) (c.in_ok-count.ensures.bytes tells);
  later = omega (arith, c.loop-at.invariant.later, c.in_ok-count.ensures.cause.later);
}
