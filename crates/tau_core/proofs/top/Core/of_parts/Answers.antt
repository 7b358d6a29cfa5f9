use Rattle.tau_core.specs.State.{plain}
use Rattle.tau_core.specs.Parts.{IsOfParts, hidden_of}
use Rattle.tau_core.proofs.Rested.{of_parts}
use Rattle.tau_core.proofs.top.Core.of_parts.Goals as goal

pub state_of-requires : goal.state_of-requires
state_of-requires c = record { rests = λ w s e. (let r = c.requires.rests.seat w s e in (r.joined, r.held)) }

pub invariant_of-result : goal.invariant_of-result
invariant_of-result c =
    let q = c.requires.shown in
    let is : IsOfParts c.args.parts (plain c.state_of.result) = of_parts c.args.parts (plain c.state_of.result) c.requires.rests c.state_of.ensures in
    (q.order, hidden_of q.state q.taken, is.stands q.order q.state q.taken q.inv q.shows)

pub returns : goal.returns
returns c = of_parts c.args.parts (plain c.state_of.result) c.requires.rests c.state_of.ensures
