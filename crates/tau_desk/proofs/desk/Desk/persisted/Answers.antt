use Rattle.std.proofs.Common.{rules, ◌+◌, ◌*◌, ◌∙◌, arith}
use Rattle.tau_desk.proofs.Words.{sees_persisted_as}
use Rattle.tau_desk.proofs.desk.Desk.persisted.Goals as goal

pub load-requires : goal.load-requires
load-requires c =
    let sized = c.args.self.now.sized in
    let streams = c.args.self.now.streams_are in (
      search rules,
      (let a = sized.0 in let b = streams.0 in let d = c.requires.there in omega arith),
      sees_persisted_as c.args.self.now.table.shared.key.value _ _ c.args.stream _ c.args.seat.now.me (sized.1 ∙ sized.2) c.requires.opened (let b = streams.0 in let d = c.requires.there in omega arith) (λ i. 8 * (sized.2 i + (streams.0 i + c.args.stream))),
    )

pub returns-clause-small : goal.returns-clause-small
returns-clause-small c =
    let sized = c.args.self.now.sized in
    let streams = c.args.self.now.streams_are in
    (c.load.ensures.2.0 _ c.requires.opened c.args.stream (λ i. 8 * (sized.2 i + (streams.0 i + c.args.stream)))).1

pub returns-clause-seen : goal.returns-clause-seen
returns-clause-seen c =
    let sized = c.args.self.now.sized in
    let streams = c.args.self.now.streams_are in
    let t = c.load.ensures.2.0 _ c.requires.opened c.args.stream (λ i. 8 * (sized.2 i + (streams.0 i + c.args.stream))) in
    (t.0, t.2)

pub returns-clause-stands : goal.returns-clause-stands
returns-clause-stands c =
    let sized = c.args.self.now.sized in
    let streams = c.args.self.now.streams_are in
    c.load.ensures.2.1 _ c.requires.opened c.args.stream (let b = streams.0 in let d = c.requires.there in omega (arith, b, d)) (λ i. 8 * (sized.2 i + (streams.0 i + c.args.stream)))
