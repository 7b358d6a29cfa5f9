use Rattle.std.proofs.Common.{rules, ◌≡◌, ◌+◌, ◌*◌, ◌%◌, ◌<◌, ℕ, ap, ◌∙◌, arith}
use Rattle.tau_rule.proofs.Placing.{places_as}
use Rattle.tau_desk.proofs.desk.Desk.place_as.Goals as goal

pub fetch_add-requires : goal.fetch_add-requires
fetch_add-requires g c =
    let sized = c.args.self.now.sized in
    let streams = c.args.self.now.streams_are in
    let k : ℕ = c.stream_of-stream.result in
    let is : k ≡ c.args.worker % c.args.self.now.table.shared.key.value.load.streams = c.stream_of-stream.ensures.same ∙ (λ i. (c.from.ensures i) % (streams.0 i)) in
    let low : k < c.args.self.now.streams = c.stream_of-stream.ensures.there in (
      search rules,
      (let a = sized.0 in let b = streams.0 in omega arith),
      places_as c.args.self.now.table.shared.key.value _ _ c.args.worker k _ _ c.args.seat.now.me c.args.txn.now c.requires.call _ (sized.1 ∙ sized.2) is (let b = streams.0 in omega arith) (ap (λ (n : ℕ). 8 * (n + k)) sized.2) c.size_of-size.ensures c.requires.told,
    )
