use Rattle.std.proofs.Common.{ℕ, ◌∙◌, List, sym, ap, subst}
use Rattle.std.specs.List.{All}
use Rattle.tau_model.specs.declared.committed.Committed.{Committed}
use Rattle.tau_model.specs.Committed.{IsWithin, reported_numbers}
use Rattle.tau_run.specs.Fates.{IsNumberOf, fates_in}
use Rattle.tau_run.proofs.Fates.{committed_numbers, committed_within, fates_stand, order_stands}
use Rattle.tau_run.proofs.end.tell_end.Goals as goal

pub fates_of-requires-clause-committed : goal.fates_of-requires-clause-committed
fates_of-requires-clause-committed c =
    let (K, h, g) = c.requires.stood in
    subst (λ (l : List Committed). All (λ x. IsNumberOf c.args.calls x.number) l) (sym c.committed.ensures.same)
    (subst (λ (n : ℕ). All (λ x. IsNumberOf n x.number) c.args.core.now.committed) (sym c.requires.calls) (committed_numbers c.args.core.now K h g))

pub reported-requires : goal.reported-requires
reported-requires c =
    let (K, h, g) = c.requires.stood in
    subst (λ (l : List Committed). All (IsWithin c.ends.result) l) (sym c.committed-2.ensures.same)
    (subst (λ (e : List ℕ). All (IsWithin e) c.args.core.now.committed) (sym c.ends.ensures) (committed_within c.args.core.now K h g))

pub returns-clause-fates : goal.returns-clause-fates
returns-clause-fates c = λ K h g.
    let acks : List (ℕ × List ℕ) = c.args.acks in
    c.of.ensures ∙ c.in_ok-fates.ensures
    ∙ ap (λ (l : List Committed). fates_in c.args.calls l acks) c.committed.ensures.same
    ∙ ap (λ (n : ℕ). fates_in n c.args.core.now.committed acks) c.requires.calls
    ∙ fates_stand c.args.core.now K h g acks

pub returns-clause-order : goal.returns-clause-order
returns-clause-order c = λ K h g.
    c.of-2.ensures ∙ c.in_ok-order.ensures
    ∙ ap (λ (e : List ℕ). reported_numbers e c.committed-2.result.now.items) c.ends.ensures
    ∙ ap (reported_numbers c.args.core.now.ends) c.committed-2.ensures.same
    ∙ order_stands c.args.core.now K h g
