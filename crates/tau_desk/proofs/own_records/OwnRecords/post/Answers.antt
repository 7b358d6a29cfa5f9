use Rattle.std.proofs.Common.{rules, ◌≡◌, ◌+◌, ◌≤◌, ℕ, List, length, sym, subst}
use Rattle.tau_outbox.specs.declared.Piece.{Piece}
use Rattle.tau_outbox.specs.Pieces.{PlainOutbox, end_of}
use Rattle.tau_desk.specs.Shares.{AreCounted}
use Rattle.tau_desk.proofs.OwnCount.{counted_more}
use Rattle.tau_desk.proofs.own_records.OwnRecords.post.Goals as goal

pub invariant_of-self : goal.invariant_of-self
invariant_of-self c =
    let size : c.len.result ≡ length c.args.bytes.items = search rules in
    let order : end_of 0 c.self.inside.outbox.pieces ≤ c.args.start = subst (λ (o : PlainOutbox). end_of 0 o.pieces ≤ c.args.start) (sym c.self.view_is) c.requires.order in
    let some : 1 ≤ length c.args.bytes.items = search rules in
    subst (λ (z : ℕ × List Piece). AreCounted (c.self.inside.bytes + z.0) z.1) (λ i. (sym size i, sym c.post.ensures.pieces i))
    (counted_more c.self.inside.bytes c.args.start c.args.bytes.items c.self.inside.outbox.pieces c.self.invariant order some)
