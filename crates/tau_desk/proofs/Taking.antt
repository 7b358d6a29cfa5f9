-- A manager has gathered front pieces: what its seat knows then.
use Rattle.std.proofs.Common.{◌≡◌, ℕ, ◌+◌, ◌-◌, ◌%◌, ◌<◌, ◌≤◌, List, [], ◌∷◌, ◌++◌, length, length-append, refl, sym, ap, ◌∙◌, subst, arith}
use Rattle.std.specs.Prelude.{Some, None, take}
use Rattle.std.proofs.Math.Seq.{take-append_seam}
use Rattle.tau_base.specs.declared.limits.TheConstants.{MAX_LSN}
use Rattle.tau_outbox.specs.declared.Piece.{Piece}
use Rattle.tau_outbox.specs.Gather.{Gathers}
use Rattle.tau_outbox.specs.Pieces.{bytes_of}
use Rattle.tau_core.specs.Pieces.{IsPieceOf, Paired}
use Rattle.tau_core.specs.State.{Plain}
use Rattle.tau_core.specs.View.{tickets}
use Rattle.tau_rule.specs.Role.{Managed, Managing, Role, Share, managed_in_share}
use Rattle.tau_rule.specs.Knows.{Knows}
use Rattle.tau_rule.specs.Rule.{IsManaged, IsOutbox, IsShare, anchors_at, manager_role, outbox_part}
use Rattle.tau_rule.specs.Steps.{Agrees, IsBack, Sat, first_role, handed, holding, idle}
use Rattle.tau_rule.specs.Boxes.{BoxOf, GivesGathered, box_in, gathered_by}
use Rattle.tau_rule.specs.declared.part.Part.{Part}
use Rattle.tau_rule.proofs.Gives.{one_origin}
use Rattle.tau_rule.proofs.Boxes.{box_part, part_box, part_rooms}
use Rattle.tau_rule.proofs.Gathering.{past_small}
use Rattle.tau_rule.proofs.Turns.{one_role}
use Rattle.tau_desk.specs.Shares.{IsStock, PlainStock}
use Rattle.tau_desk.specs.Seats.{IsManagerSeat}
use Rattle.tau_desk.specs.Manages.{gone, managed_in, managing, pieces_held, pieces_in, told_gathered}

pub gone_is : (taken left : List Piece) → gone (taken ++ left) left ≡ taken
gone_is taken left =
    let size : length (taken ++ left) - length left ≡ length taken = (let a = length-append taken left in omega (arith, a)) in
    ap (λ (n : ℕ). take n (taken ++ left)) size ∙ take-append_seam taken left

pub managed_is : (v : Knows) (u : ℕ) (r : Role) (g : Managed) → v.roles ≡ (u, r) ∷ [] → r.share ≡ Managing g → managed_in v ≡ g
managed_is v u r g roles share = ap (λ (rs : List (ℕ × Role)). managed_in_share (first_role rs).1.share) roles ∙ ap managed_in_share share

pub managing_is : (v : Knows) (u : ℕ) (r : Role) (g : Managed) → v.roles ≡ (u, r) ∷ [] → managing v g ≡ handed v u (record r { share = Managing g })
managing_is v u r g roles = λ i. handed v (first_role (roles i)).0 (record (first_role (roles i)).1 { share = Managing g })

pub told_gathered_is : (origin : Plain) (m : Sat) (q : Part) (w j : ℕ) (taken : List Piece) (g : GivesGathered origin m q w j taken) (b : BoxOf) → box_in q ≡ Some b →
    told_gathered m.0 b.0.pieces ≡ handed m.0 (manager_role origin.load j) (record g.role { share = Managing (gathered_by g.managed taken) })
told_gathered_is origin m q w j taken g b is =
    let same : b ≡ g.after = (let e : Some b ≡ Some g.after = sym is ∙ g.is in cc) in
    let held : pieces_held m.0.hand ≡ taken ++ b.0.pieces = ap pieces_held g.held ∙ ap pieces_in g.was ∙ g.front ∙ ap (λ (x : BoxOf). taken ++ x.0.pieces) (sym same) in
    let front : gone (pieces_held m.0.hand) b.0.pieces ≡ taken = ap (λ (ps : List Piece). gone ps b.0.pieces) held ∙ gone_is taken b.0.pieces in
    ap (managing m.0) (λ i. gathered_by (managed_is m.0 (manager_role origin.load j) g.role g.managed g.roles g.share i) (front i))
    ∙ managing_is m.0 (manager_role origin.load j) g.role (gathered_by g.managed taken) g.roles

-- the seat of a manager of the desk that was opened with this core
pub record At (origin : Plain) (m : Sat) (j : ℕ) (o : PlainStock) : Type 0 where
  pub role : Role
  pub opened : m.0.opened ≡ Some origin
  pub roles : m.0.roles ≡ (manager_role origin.load j, role) ∷ []
  pub stock : IsStock origin.load j role o

pub at_key : (m : Sat) (j : ℕ) (o : PlainStock) (seen : List ℕ) (key : Plain) → IsManagerSeat m j o seen → m.0.opened ≡ Some key → At key m j o
at_key m j o seen key h opened = subst (λ (p : Plain). At p m j o) (one_origin h.origin key (sym h.opened ∙ opened)) (record { role = h.role; opened = h.opened; roles = h.roles; stock = h.stock })

-- what it gives back after a Gather of a worker's outbox
pub box_gathered : (key : Plain) (m m' : Sat) (j w : ℕ) (o : PlainStock) (h : At key m j o) (p q : Part) (b b' : BoxOf) (body longer : List ℕ) (past : ℕ) → w < key.load.workers → w % key.load.streams ≡ j → m' ≡ (holding (outbox_part w) m.0 p, (outbox_part w, None) ∷ []) → box_in p ≡ Some b → box_in q ≡ Some b' →
    b'.1.calls ≡ b.1.calls → b.0.room ≤ b'.0.room → b.1.room ≤ b'.1.room → (g : Gathers o.gathered b.0.pieces b'.0.pieces body longer past) → GivesGathered key m' q w j g.taken
box_gathered key m m' j w o h p q b b' body longer past low whose is was after calls records pending g =
    let s = h.stock in record {
      part_taken = p;
      role = h.role;
      managed = s.managed;
      before = b;
      after = b';
      opened = ap (λ (x : Sat). x.0.opened) is ∙ h.opened;
      held = ap (λ (x : Sat). x.0.hand) is;
      roles = ap (λ (x : Sat). x.0.roles) is ∙ h.roles;
      share = s.share;
      was = was;
      is = after;
      there = s.there;
      low = low;
      whose = whose;
      front = g.front;
      calls = calls;
      continues = subst (λ (n : ℕ). Rattle.tau_outbox.specs.Gather.Continues n g.taken) (sym s.gathered) g.continues;
      records = records;
      pending = pending;
    }

-- the gathered end does not wrap
pub box_small : (key : Plain) (m : Sat) (j w : ℕ) (o : PlainStock) (h : At key m j o) (p : Part) (b : BoxOf) (left : List Piece) (body longer : List ℕ) (past : ℕ) → w < key.load.workers → w % key.load.streams ≡ j → Agrees key m.0 (outbox_part w) p → box_in p ≡ Some b → Gathers o.gathered b.0.pieces left body longer past → past < MAX_LSN
box_small key m j w o h p b left body longer upto low whose a was g =
    let s = h.stock in
    let u : ℕ = manager_role key.load j in
    let mine = a.roles u h.role (one_role m.0 u h.role h.roles) in
    let share = subst (λ (x : Share). IsShare key.load u x a.state) s.share mine.0 in
    let managed : IsManaged key.load j s.managed a.state = subst (λ (i : ℕ). IsManaged key.load i s.managed a.state) (let e = share.1 in omega (arith, e)) share.3 in
    let small = past_small key a.state w j g.taken left b.0 (record b.0 { pieces = left }) b.1 b.1 s.managed h.role s.there low whose g.front refl refl (subst (λ (n : ℕ). Rattle.tau_outbox.specs.Gather.Continues n g.taken) (sym s.gathered) g.continues) a.meets managed (part_box key a.state w p b was a.part) in
    let is = s.gathered in
    let end = g.past in
    omega (arith, small, is, end)

-- what its seat is then
pub seat_gathered : (m : Sat) (j : ℕ) (o : PlainStock) (seen : List ℕ) (taken : List Piece) (past : ℕ) → IsManagerSeat m j o seen → past ≡ o.gathered + length (bytes_of taken) → past < MAX_LSN → IsManagerSeat (managing m.0 (gathered_by (managed_in m.0) taken), []) j (record o { gathered = past }) seen
seat_gathered m j o seen taken past h end small =
    let s = h.stock in
    let u : ℕ = manager_role h.origin.load j in
    let y : Role = record h.role { share = Managing (gathered_by s.managed taken) } in
    let knows : managing m.0 (gathered_by (managed_in m.0) taken) ≡ handed m.0 u y =
    ap (λ (g : Managed). managing m.0 (gathered_by g taken)) (managed_is m.0 u h.role s.managed h.roles s.share) ∙ managing_is m.0 u h.role (gathered_by s.managed taken) h.roles in
    subst (λ (v : Knows). IsManagerSeat (v, []) j (record o { gathered = past }) seen) (sym knows) (record {
      origin = h.origin;
      role = y;
      opened = h.opened;
      roles = refl;
      idle = refl;
      none = refl;
      stock = record {
        managed = gathered_by s.managed taken;
        share = refl;
        there = s.there;
        anchors = s.anchors;
        own = s.own;
        gathered = ap (λ (n : ℕ). n + length (bytes_of taken)) s.gathered ∙ sym end;
        small = small;
        wide = s.wide;
      };
      seen_is = h.seen_is;
      seen_wide = h.seen_wide;
    })

-- what a seat tells that has taken an outbox and gives it home with these pieces left
pub told_holding : (k : ℕ) (v : Knows) (p : Part) (b : BoxOf) (taken left : List Piece) → box_in p ≡ Some b → b.0.pieces ≡ taken ++ left → told_gathered (holding k v p) left ≡ managing v (gathered_by (managed_in v) taken)
told_holding k v p b taken left was front =
    let held : pieces_in (box_in p) ≡ taken ++ left = ap pieces_in was ∙ front in
    let is : gone (pieces_in (box_in p)) left ≡ taken = ap (λ (ps : List Piece). gone ps left) held ∙ gone_is taken left in
    ap (λ (ps : List Piece). managing v (gathered_by (managed_in v) ps)) is

-- an outbox comes home with the same pieces and calls
pub box_back : (key : Plain) (m m' : Sat) (u : ℕ) (r : Role) (w k : ℕ) (p q : Part) (b b' : BoxOf) → m.0.roles ≡ (u, r) ∷ [] → w < key.load.workers → k ≡ outbox_part w → m' ≡ (holding (outbox_part w) m.0 p, (outbox_part w, None) ∷ []) → box_in p ≡ Some b → box_in q ≡ Some b' →
    b'.0.pieces ≡ b.0.pieces → b'.1.calls ≡ b.1.calls → b.0.room ≤ b'.0.room → b.1.room ≤ b'.1.room → IsBack key m' k q
box_back key m m' u r w k p q b b' roles low number is was after pieces calls records pending =
    subst (λ (n : ℕ). IsBack key m' n q) (sym number) (record {
      taken = p;
      number = u;
      role = r;
      held = ap (λ (x : Sat). x.0.hand) is;
      carried = ap (λ (x : Sat). x.1) is;
      roles = ap (λ (x : Sat). x.0.roles) is ∙ roles;
      same = λ c h. (let box = part_box key c w p b was h in
          let rooms = part_rooms key c w p b was h in
          let now : IsOutbox key.load b'.0 b'.1 (anchors_at c.core) (c.core.outboxes w) = record {
            posted = subst (λ (ps : List Piece). Paired (IsPieceOf key.load (anchors_at c.core)) ps (c.core.outboxes w).posted) (sym pieces) box.posted;
            pending = box.pending ∙ ap tickets (sym calls);
          } in
          box_part key c w q b' after low now (let x = rooms.0 in omega (arith, x, records)) (let x = rooms.1 in omega (arith, x, pending)));
    })

-- a seat that gave its part back knows what it knew
pub idle_again : (k : ℕ) (m : Sat) (p : Part) → m.0.hand ≡ None → m.1 ≡ [] → (idle (holding k m.0 p), []) ≡ m
idle_again k m p none bare = λ i. (record m.0 { hand = sym none i }, sym bare i)
