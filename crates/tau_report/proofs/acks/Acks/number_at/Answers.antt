use Rattle.std.proofs.Common.{◌<◌, ◌≡◌, List, ℕ, length, sym, ap, subst, arith}
use Rattle.std.specs.Prelude.{Some, slice_get}
use Rattle.tau_report.specs.KeptAcks.{acks_of}
use Rattle.tau_report.proofs.KeptAcks.{acks_long, acks_number}
use Rattle.tau_report.proofs.acks.Acks.number_at.Goals as goal

pub index-requires : goal.index-requires
index-requires c =
    let long = acks_long c.self.inside.heads.items c.self.inside.parts.items in
    let same = ap (λ (l : List (ℕ × List ℕ)). length l) c.self.view_is in
    let ok = c.self.inside.heads.ok.0 in
    let lt = c.requires in
    omega (arith, long, same, ok, lt)

pub returns : goal.returns
returns c =
    let long = acks_long c.self.inside.heads.items c.self.inside.parts.items in
    let same = ap (λ (l : List (ℕ × List ℕ)). length l) c.self.view_is in
    let lt : c.args.index < length c.self.inside.heads.items = (let r = c.requires in omega (arith, long, same, r)) in
    subst (λ (l : List (ℕ × List ℕ)). (lv : List ℕ) × (slice_get l c.args.index ≡ Some (c.index.result.now.0, lv))) c.self.view_is
    (subst (λ (h : ℕ × ℕ). (lv : List ℕ) × (slice_get (acks_of c.self.inside.heads.items c.self.inside.parts.items) c.args.index ≡ Some (h.0, lv))) (sym c.index.ensures)
    (acks_number c.self.inside.heads.items c.self.inside.parts.items c.args.index c.index.result.now lt))
