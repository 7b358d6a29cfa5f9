use Rattle.std.proofs.Common.{rules, ◌+◌, ◌*◌, ◌∙◌, arith}
use Rattle.tau_rule.proofs.Persisting.{persists_as}
use Rattle.tau_desk.proofs.desk.Desk.persist.Goals as goal

pub store-requires : goal.store-requires
store-requires c =
    let sized = c.args.self.now.sized in
    let streams = c.args.self.now.streams_are in
    let who = c.requires.manager in (
      search rules,
      (let a = sized.0 in let b = streams.0 in let d = who.1.there in omega arith),
      persists_as c.args.self.now.table.shared.key.value _ _ c.args.stream _ c.args.new c.args.seat.now.me who.0 who.1 who.2 who.3 (sized.1 ∙ sized.2) (λ i. 8 * (sized.2 i + (streams.0 i + c.args.stream))),
    )

pub returns-clause-stored : goal.returns-clause-stored
returns-clause-stored c =
    let sized = c.args.self.now.sized in
    let streams = c.args.self.now.streams_are in
    c.store.ensures.2 _ c.requires.manager.1.opened c.args.stream ((λ i. 8 * (sized.2 i + (streams.0 i + c.args.stream))))
