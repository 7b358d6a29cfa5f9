use Rattle.std.proofs.Common.{rules, ◌+◌, ◌*◌, ℕ, ap, ◌∙◌, arith}
use Rattle.tau_desk.proofs.Ends.{sees_end_as}
use Rattle.tau_desk.proofs.desk.Desk.placed_end.Goals as goal

pub load-requires : goal.load-requires
load-requires c =
    let sized = c.args.self.now.sized in
    let streams = c.args.self.now.streams_are in (
      search rules,
      (let a = sized.0 in let b = streams.0 in let d = c.requires.there in omega (arith, a, b, d)),
      sees_end_as c.args.self.now.table.shared.key.value _ _ c.args.stream _ c.args.seat.now.me c.requires.opened (let b = streams.0 in let d = c.requires.there in omega (arith, b, d)) (sized.1 ∙ sized.2) (ap (λ (n : ℕ). 8 * (n + c.args.stream)) sized.2),
    )

pub returns-clause-end : goal.returns-clause-end
returns-clause-end c =
    let sized = c.args.self.now.sized in
    let streams = c.args.self.now.streams_are in
    c.load.ensures.2.1 _ c.requires.opened c.args.stream (let b = streams.0 in let d = c.requires.there in omega (arith, b, d)) (ap (λ (n : ℕ). 8 * (n + c.args.stream)) sized.2)
