use Rattle.std.proofs.Common.{rules, ◌+◌, ◌*◌, ◌∙◌, ap, arith}
use Rattle.tau_desk.proofs.EndStops.{head_stops_as}
use Rattle.tau_desk.proofs.desk.Desk.raise_head_as.Goals as goal

pub store-requires : goal.store-requires
store-requires g c =
    let sized = c.args.self.now.sized in
    let streams = c.args.self.now.streams_are in
    let who = c.requires.role in (
      search rules,
      (let a = sized.0 in let b = streams.0 in omega arith),
      head_stops_as c.args.self.now.table.shared.key.value _ _ who.0 _ c.args.seat.now.me who.1 _ (sized.1 ∙ sized.2) who.2 (λ i. 8 * (sized.2 i + (streams.0 i + streams.0 i))) c.requires.told,
    )

pub returns-clause-raised : goal.returns-clause-raised
returns-clause-raised g c = c.store.ensures.2 ∙ ap (λ k. (k 1, c.args.seat.now.me.1)) c.requires.told
