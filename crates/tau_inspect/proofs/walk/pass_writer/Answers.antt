-- The next record of the lowest stream is passed.
use Rattle.std.proofs.Common.{ℕ, suc, ◌+◌, ◌≡◌, refl, ap, sym, ◌∙◌, arith}
use Rattle.std.specs.Prelude.{slice_index, slice_index_or, slice_set}
use Rattle.tau_inspect.specs.Cases.{in_case}
use Rattle.tau_inspect.specs.Walks.{head_of, start_or, IsFor}
use Rattle.tau_inspect.proofs.Steps.{goes}
use Rattle.tau_inspect.proofs.walk.pass_writer.Goals as goal

pub returns : goal.returns
returns c =
    let w = c.args.walk.now in let j = c.in-Some.j in let q = c.index-all-index.result in let all = c.args.all.now in
    let after : c.next_index-index.result + 1 ≡ suc (slice_index w.nexts.items j) = omega (arith, c.next_index-index.ensures) in
    λ t. goes all c.args.case.now.log.now.elv (IsFor (in_case c.args.case.now) c.args.number c.args.writes.now) c.args.number w _ j c.next_start-next.result q (c.is_for.ensures c.if-not-is_for.false) c.in-Some.ensures refl
    (c.index-all-index.is ∙ ap (λ (i : ℕ). slice_index_or all i q) c.next_index-index.ensures)
    (omega (arith, c.if-number.false, c.number.ensures))
    (ap (slice_set w.nexts.items j) after)
    c.set.ensures
    (c.next_start-next.ensures ∙ ap (λ (i : ℕ). start_or (head_of all i j) c.get.result) after ∙ ap (λ (e : ℕ). start_or (head_of all (suc (slice_index w.nexts.items j)) j) e) c.get.ensures.same)
    (omega (arith, c.if-next-start.false, c.start.ensures))
    refl
    c.start-walk.ensures

pub is_for-requires-clause-named : goal.is_for-requires-clause-named
is_for-requires-clause-named c = sym c.number.ensures ∙ c.if-number.false
