use Rattle.std.proofs.Common.{ℕ, ◌∙◌, subst, sym}
use Rattle.std.proofs.lemmas.Bool.{eqb-true}
use Rattle.tau_desk.specs.Manages.{PlacedTo}
use Rattle.tau_crew.proofs.ending_done.is_flushed.Goals as goal

pub returns-clause-all : goal.returns-clause-all
returns-clause-all g c = λ yes works. record {
  manages = c.agrees.ensures;
  own = c.has_own.ensures.none c.if-has_own.false;
  all = subst (λ (z : ℕ × ℕ). PlacedTo c.args.desk.now.table.shared.key.value c.args.head.now.me.0 z.0 z.1) (λ i. (sym c.requires.stream i, (sym (eqb-true c.gathered-gathered.result c.placed_end.result yes) ∙ c.gathered-gathered.ensures.same) i)) c.placed_end.ensures.end;
}
