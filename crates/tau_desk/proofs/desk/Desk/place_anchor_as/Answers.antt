use Rattle.std.proofs.Common.{rules, ◌≡◌, ◌+◌, ◌*◌, ℕ, length, ap, ◌∙◌, arith}
use Rattle.tau_desk.proofs.Anchored.{anchors_as}
use Rattle.tau_desk.proofs.desk.Desk.place_anchor_as.Goals as goal

pub fetch_add-requires : goal.fetch_add-requires
fetch_add-requires g c =
    let sized = c.args.self.now.sized in
    let streams = c.args.self.now.streams_are in
    let there = c.requires.anchor.is.there in
    let size : c.len-size.result ≡ length c.args.bytes.now.items = (let e = c.len-size.ensures in let o = c.args.bytes.now.ok in omega (arith, e, o)) in (
      search rules,
      (let a = sized.0 in let b = streams.0 in omega (arith, a, b, there)),
      anchors_as c.args.self.now.table.shared.key.value _ _ c.args.stream _ _ c.args.seat.now.me c.args.bytes.now.items c.requires.anchor _ (sized.1 ∙ sized.2) (ap (λ (n : ℕ). 8 * (n + c.args.stream)) sized.2) size c.requires.told,
    )
