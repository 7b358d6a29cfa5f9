-- The seat of a manager that has stored a position.
use Rattle.std.proofs.Common.{ℕ, List, [], ◌∷◌, ap, ◌∙◌, refl, length-set}
use Rattle.std.specs.Prelude.{slice_set}
use Rattle.tau_rule.specs.Role.{Managed, Managing, Role, managed_in_share}
use Rattle.tau_rule.specs.Positions.{stores_to, storing}
use Rattle.tau_rule.specs.Steps.{Sat, first_role}
use Rattle.tau_desk.specs.Seats.{IsManagerSeat}
use Rattle.tau_desk.specs.Shares.{PlainStock}

pub seat_stored : (m : Sat) (j n : ℕ) (o : PlainStock) (seen : List ℕ) → IsManagerSeat m j o seen → IsManagerSeat (stores_to j n m.0, m.1) j o (slice_set seen j n)
seat_stored m j n o seen h =
    let s = h.stock in
    let g : Managed = storing n s.managed in
    record {
      origin = h.origin;
      role = record h.role { share = Managing g };
      opened = h.opened;
      roles = λ i. ((first_role (h.roles i)).0, record (first_role (h.roles i)).1 { share = Managing (storing n ((ap (λ (r : List (ℕ × Role)). managed_in_share (first_role r).1.share) h.roles ∙ ap managed_in_share s.share) i)) }) ∷ [];
      idle = h.idle;
      none = h.none;
      stock = record { managed = g; share = refl; there = s.there; anchors = s.anchors; own = s.own; gathered = s.gathered; small = s.small; wide = s.wide };
      seen_is = ap (λ (v : List ℕ). slice_set v j n) h.seen_is;
      seen_wide = length-set seen j n ∙ h.seen_wide;
    }
