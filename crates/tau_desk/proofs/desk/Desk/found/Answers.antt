use Rattle.std.proofs.Common.{rules, ◌+◌, ◌*◌, ◌∙◌, refl, arith}
use Rattle.tau_desk.proofs.Words.{sees_stop_as}
use Rattle.tau_desk.proofs.desk.Desk.found.Goals as goal

pub load-requires : goal.load-requires
load-requires c =
    let sized = c.args.self.now.sized in
    let streams = c.args.self.now.streams_are in (
      search rules,
      (let a = sized.0 in let b = streams.0 in omega arith),
      sees_stop_as c.args.self.now.table.shared.key.value _ _ _ c.args.seat.now.me (sized.1 ∙ sized.2) c.requires.opened (λ i. 8 * (sized.2 i + (streams.0 i + streams.0 i))),
    )

pub returns-clause-found : goal.returns-clause-found
returns-clause-found c = (c.load.result, refl, c.load.ensures.2.0)

pub returns-clause-stands : goal.returns-clause-stands
returns-clause-stands c =
    let sized = c.args.self.now.sized in
    let streams = c.args.self.now.streams_are in
    c.load.ensures.2.1 _ c.requires.opened (λ i. 8 * (sized.2 i + (streams.0 i + streams.0 i)))
