-- The clerk acknowledges a call.
use Rattle.std.proofs.Common.{◌≡◌, ℕ, ◌+◌, ◌<◌, ◌≤◌, inl, inr, List, [], ◌∷◌, ◌++◌, length, refl, sym, ap, ◌∙◌, subst, arith, length-append, length-set, get_or-set_same, get_or-set_other}
use Rattle.std.specs.Prelude.{Some, None, slice_index_or, slice_set}
use Rattle.std.proofs.lemmas.Bool.{cases_eq}
use Rattle.tau_base.specs.Vectors.{AtMost}
use Rattle.tau_shard.specs.Shard.{at}
use Rattle.tau_machine.specs.State.{Outbox, Ticket}
use Rattle.tau_machine.specs.Events.{Ack, Leads, with_outbox}
use Rattle.tau_shard.proofs.At.{at_same, at_other}
use Rattle.tau_outbox.specs.declared.Piece.{Piece}
use Rattle.tau_outbox.specs.Pieces.{PlainOutbox}
use Rattle.tau_ack.specs.Pending.{TakesFirst}
use Rattle.tau_ack.specs.declared.Waiting.{Waiting}
use Rattle.tau_core.specs.Pieces.{IsPieceOf, Paired}
use Rattle.tau_core.specs.State.{Plain}
use Rattle.tau_core.specs.View.{setting_of, tickets}
use Rattle.tau_core.specs.declared.state.Load.{Load}
use Rattle.tau_shown.proofs.Steps.{gives_part}
use Rattle.tau_occ.specs.declared.style.Style.{Style}
use Rattle.tau_rule.specs.Role.{Clerking, Managing, Role, Share, Working}
use Rattle.tau_rule.specs.Knows.{Knows}
use Rattle.tau_rule.specs.Rule.{IsOutbox, IsPart, IsRole, IsShare, Meets, Now, Sees, anchors_at, clerk_role, hand_of, has, manager_role, outbox_part, part_count, word_of}
use Rattle.tau_rule.specs.Steps.{ComesHome, Sat, first_role, handed, holding}
use Rattle.tau_rule.specs.Boxes.{BoxOf, box_in}
use Rattle.tau_rule.specs.declared.part.Part.{Part}
use Rattle.tau_rule.specs.declared.part.Part.TheVariants as part
use Rattle.tau_rule.proofs.Gives.{one_origin}
use Rattle.tau_rule.proofs.Turns.{Turn, alone, more, one_role, reached_on, role_alone, stored_on}
use Rattle.tau_rule.proofs.Boxes.{box_part, part_box, part_rooms}
use Rattle.tau_desk.specs.Seats.{IsClerkSeat}
use Rattle.tau_desk.specs.Manages.{GivesAcked, acked_in, acked_in_share, told_acked}
use Rattle.tau_base.proofs.Lists.{map_append}

abbrev ticket_of : Waiting → Ticket
ticket_of call = record { number = call.number; lv = call.lv }

-- what the clerk has then
abbrev acked_with : List (List Ticket) → ℕ → Waiting → List (List Ticket)
acked_with acked w call = slice_set acked w (slice_index_or acked w [] ++ ticket_of call ∷ [])

module _ (origin : Plain) {style : Style} (c : Now) (seen : List ℕ) (w : ℕ) (call : Waiting) (b b' : BoxOf) (acked : List (List Ticket)) (old : Role) (low : w < origin.load.workers) (wide : length acked ≡ origin.load.workers) (pieces : b'.0.pieces ≡ b.0.pieces) (t : TakesFirst seen b.1.calls call b'.1.calls)
    (meets : Meets origin style c) (licensed : AtMost seen c.core.plv) (lists : (u : ℕ) → u < origin.load.workers → c.core.acked u ≡ slice_index_or acked u []) (box : IsOutbox origin.load b.0 b.1 (anchors_at c.core) (c.core.outboxes w)) where
  abbrev box_then : Outbox
  box_then = record (c.core.outboxes w) { pending = tickets t.front ++ tickets t.back }

  abbrev acked_now : Now
  acked_now = record { core = record (with_outbox c.core w box_then) { acked = at w (c.core.acked w ++ ticket_of call ∷ []) c.core.acked }; raised = c.raised; spare = c.spare; stored = c.stored }

  ack_leads : Leads (setting_of origin.load) (Ack w seen) c.core acked_now.core []
  ack_leads = (
    record {
      licensed = licensed;
      front = tickets t.front;
      ticket = ticket_of call;
      back = tickets t.back;
      is = box.pending ∙ ap tickets t.is ∙ map_append (λ (x : Waiting). ticket_of x) t.front (call ∷ t.back);
      covered = t.covered;
      after = refl;
    },
    refl,
  )

  acked_box : IsOutbox origin.load b'.0 b'.1 (anchors_at acked_now.core) (acked_now.core.outboxes w)
  acked_box = record {
    posted = subst (λ (z : List Piece × Outbox). Paired (IsPieceOf origin.load (anchors_at c.core)) z.0 z.1.posted) (λ i. (sym pieces i, sym (at_same w box_then c.core.outboxes) i)) box.posted;
    pending = ap (λ (x : Outbox). x.pending) (at_same w box_then c.core.outboxes) ∙ sym (ap tickets t.left ∙ map_append (λ (x : Waiting). ticket_of x) t.front t.back);
  }

  lists_then : (u : ℕ) → u < origin.load.workers → acked_now.core.acked u ≡ slice_index_or (acked_with acked w call) u []
  lists_then u lt = elim (cases_eq u w) [
    | inl is ↦ subst (λ (k : ℕ). acked_now.core.acked k ≡ slice_index_or (acked_with acked w call) k []) (sym is)
        (at_same w (c.core.acked w ++ ticket_of call ∷ []) c.core.acked ∙ ap (λ (l : List Ticket). l ++ ticket_of call ∷ []) (lists w low)
        ∙ sym (get_or-set_same acked w (slice_index_or acked w [] ++ ticket_of call ∷ []) [] (omega (arith, low, wide))))
    | inr ne ↦ at_other w (c.core.acked w ++ ticket_of call ∷ []) c.core.acked u ne ∙ lists u lt ∙ sym (get_or-set_other acked w u (slice_index_or acked w [] ++ ticket_of call ∷ []) [] ne)
  ]

  parts_stay : (k : ℕ) (q : Part) → (k ≡ outbox_part w → ⊥) → IsPart origin.load k q c → IsPart origin.load k q acked_now
  parts_stay k (part.Shard x) apart h = h
  parts_stay k (part.Outbox o p) apart h =
      let other : h.0 ≡ w → ⊥ = (λ e. apart (h.1 ∙ ap outbox_part e)) in
      (h.0, h.1, h.2, subst (λ (z : Outbox). IsOutbox origin.load o.value p.value (anchors_at c.core) z) (sym (at_other w box_then c.core.outboxes h.0 other)) h.3, h.4, h.5)
  parts_stay k (part.Anchor number lv) apart h = h

  shares_stay : (u : ℕ) (x : Share) → (u ≡ clerk_role origin.load → ⊥) → IsShare origin.load u x c → IsShare origin.load u x acked_now
  shares_stay u (Working x) apart h = h
  shares_stay u (Managing g) apart h = (h.0, h.1, h.2, record { moved = h.3.moved; gathered = h.3.gathered; anchors = h.3.anchors; own = h.3.own; stored = h.3.stored })
  shares_stay u (Clerking other) apart h = absurd (apart h.0)

  sight_stays : (v : Knows) → Sees origin c v → Sees origin acked_now v
  sight_stays v h = record { opened = h.opened; wide = h.wide; low = h.low; own = h.own; read = h.read; found = h.found }

  ack_turn : c.raised (clerk_role origin.load) ≡ old.raised → c.spare (clerk_role origin.load) ≡ old.spare → Turn origin style c acked_now (outbox_part w) (clerk_role origin.load) (record old { share = Clerking (acked_with acked w call) })
  ack_turn raised spare = record {
    parts = λ k q lt apart h. parts_stay k q apart h;
    mine = ((refl, lists_then), raised, spare);
    others = λ u x apart h. (shares_stay u x.share apart h.0, h.1, h.2);
    sight = λ v lacks h. sight_stays v h;
    kept = record {
      reached = reached_on origin (Ack w seen) c.core acked_now.core [] meets.reached ack_leads tt;
      stored = stored_on c.stored meets.reached.events (Ack w seen) meets.stored tt;
      going = meets.going;
      fits = λ j lt. more _ _ (length meets.reached.joined) (length (meets.reached.joined ++ [])) _ (meets.fits j lt) (let a = length-append meets.reached.joined [] in omega arith);
      anchors = meets.anchors;
      opened = meets.opened;
      limited = meets.limited;
      beyond = meets.beyond;
      shards = meets.shards;
      streams = meets.streams;
    };
  }

-- the clerk's seat, with another share of its own
clerking_sees : (origin : Plain) (c : Now) (v : Knows) (x y : Role) → v.opened ≡ Some origin → has (clerk_role origin.load) v ≡ Some x → Sees origin c v → Sees origin c (handed v (clerk_role origin.load) y)
clerking_sees origin c v x y opened is h = record {
  opened = λ u r e. opened;
  wide = λ u r e. h.wide (clerk_role origin.load) x is;
  low = h.low;
  own = λ j r lt e. absurd (let a = alone (clerk_role origin.load) y (manager_role origin.load j) r e in omega (arith, a, lt));
  read = λ u r lt e. absurd (let a = alone (clerk_role origin.load) y u r e in omega (arith, a, lt));
  found = h.found;
}

share_clerk : (origin : Plain) (u : ℕ) (x : Share) (acked : List (List Ticket)) (c : Now) → x ≡ Clerking acked → IsShare origin.load u x c → (w : ℕ) → w < origin.load.workers → c.core.acked w ≡ slice_index_or acked w []
share_clerk origin u x acked c is h = (subst (λ (y : Share). IsShare origin.load u y c) is h).1

-- an outbox comes home of which the clerk has acknowledged this call
pub gives_acked : (origin : Plain) {style : Style} (id : ℕ) (m : Sat) (q : Part) (b : BoxOf) (w : ℕ) (call : Waiting) → box_in q ≡ Some b → (g : GivesAcked origin.load m b w call) → m.0.opened ≡ Some origin →
    ComesHome origin style id m.0 (outbox_part w) q (handed m.0 (clerk_role origin.load) (record g.role { share = Clerking (acked_with g.acked w call) }))
gives_acked origin {style} id m q b w call is g opened =
    let v : Knows = m.0 in
    let u : ℕ = clerk_role origin.load in
    let y : Role = record g.role { share = Clerking (acked_with g.acked w call) } in
    gives_part (IsPart origin.load) (IsRole origin.load) (word_of origin.load) hand_of has (Sees origin) (Meets origin style) (part_count origin.load) (origin.load.streams + origin.load.streams + 1) id (outbox_part w) v (handed v u y) g.taken q u g.role y g.held (one_role v u g.role g.roles) refl
    (role_alone u y) (λ a z h. alone u y a z h)
    (λ c meets part mine seen.
    let box = part_box origin c w g.taken g.before g.was part in
    let rooms = part_rooms origin c w g.taken g.before g.was part in
    let lists = share_clerk origin u g.role.share g.acked c g.share mine.0 in
    let c' : Now = acked_now origin c v.seen w call g.before b g.acked g.role g.there g.wide g.pieces g.takes meets seen.low lists box in (
      c',
      ack_turn origin c v.seen w call g.before b g.acked g.role g.there g.wide g.pieces g.takes meets seen.low lists box mine.1 mine.2,
      box_part origin c' w q b is g.there (acked_box origin c v.seen w call g.before b g.acked g.role g.there g.wide g.pieces g.takes meets seen.low lists box) (let a = rooms.0 in let e = g.records in omega (arith, a, e)) (let a = rooms.1 in let e = g.calls in omega (arith, a, e)),
      clerking_sees origin c' v g.role y opened (one_role v u g.role g.roles) (sight_stays origin c v.seen w call g.before b g.acked g.role g.there g.wide g.pieces g.takes meets seen.low lists box v seen),
      (λ i lt. refl),
    ))
    (λ found z. z ≡ (handed v u y, []))
    (λ z. refl)

pub told_acked_is : (l : Load) (m : Sat) (b : BoxOf) (w : ℕ) (call : Waiting) (g : GivesAcked l m b w call) → told_acked m.0 w call ≡ handed m.0 (clerk_role l) (record g.role { share = Clerking (acked_with g.acked w call) })
told_acked_is l m b w call g =
    let lists : acked_in m.0 ≡ g.acked = ap (λ (rs : List (ℕ × Role)). acked_in_share (first_role rs).1.share) g.roles ∙ ap acked_in_share g.share in
    λ i. handed m.0 (first_role (g.roles i)).0 (record (first_role (g.roles i)).1 { share = Clerking (acked_with (lists i) w call) })

-- the clerk's seat of the desk that was opened with this core
pub record At (origin : Plain) (m : Sat) : Type 0 where
  pub role : Role
  pub acked : List (List Ticket)
  pub roles : m.0.roles ≡ (clerk_role origin.load, role) ∷ []
  pub share : role.share ≡ Clerking acked
  pub wide : length acked ≡ origin.load.workers

pub at_key : (m : Sat) (seen : List ℕ) (key : Plain) → IsClerkSeat m seen → m.0.opened ≡ Some key → At key m
at_key m seen key h opened = subst (λ (p : Plain). At p m) (one_origin h.origin key (sym h.opened ∙ opened)) (record { role = h.role; acked = h.acked; roles = h.roles; share = h.share; wide = h.wide })

-- what it gives home with a call taken out
pub box_acked : (key : Plain) (m m' : Sat) (h : At key m) (seen : List ℕ) (w : ℕ) (call : Waiting) (p : Part) (b b' : BoxOf) → m.0.seen ≡ seen → w < key.load.workers → m' ≡ (holding (outbox_part w) m.0 p, (outbox_part w, None) ∷ []) → box_in p ≡ Some b → b'.0 ≡ b.0 → b.1.room ≤ b'.1.room →
    TakesFirst seen b.1.calls call b'.1.calls → GivesAcked key.load m' b' w call
box_acked key m m' h seen w call p b b' seen_is low is was box room takes = record {
  taken = p;
  role = h.role;
  acked = h.acked;
  before = b;
  held = ap (λ (x : Sat). x.0.hand) is;
  carried = ap (λ (x : Sat). x.1) is;
  roles = ap (λ (x : Sat). x.0.roles) is ∙ h.roles;
  share = h.share;
  wide = h.wide;
  was = was;
  there = low;
  pieces = ap (λ (o : PlainOutbox). o.pieces) box;
  takes = subst (λ (v : List ℕ). TakesFirst v b.1.calls call b'.1.calls) (sym (ap (λ (x : Sat). x.0.seen) is ∙ seen_is)) takes;
  records = (let e = ap (λ (o : PlainOutbox). o.room) box in omega (arith, e));
  calls = room;
}

pub seat_acked : (m : Sat) (seen : List ℕ) (w : ℕ) (call : Waiting) → IsClerkSeat m seen → IsClerkSeat (told_acked m.0 w call, []) seen
seat_acked m seen w call h =
    let u : ℕ = clerk_role h.origin.load in
    let y : Role = record h.role { share = Clerking (acked_with h.acked w call) } in
    let lists : acked_in m.0 ≡ h.acked = ap (λ (rs : List (ℕ × Role)). acked_in_share (first_role rs).1.share) h.roles ∙ ap acked_in_share h.share in
    let knows : told_acked m.0 w call ≡ handed m.0 u y = (λ i. handed m.0 (first_role (h.roles i)).0 (record (first_role (h.roles i)).1 { share = Clerking (acked_with (lists i) w call) })) in
    subst (λ (v : Knows). IsClerkSeat (v, []) seen) (sym knows) (record {
      origin = h.origin;
      role = y;
      acked = acked_with h.acked w call;
      opened = h.opened;
      roles = refl;
      idle = refl;
      none = refl;
      share = refl;
      wide = length-set h.acked w (slice_index_or h.acked w [] ++ ticket_of call ∷ []) ∙ h.wide;
      seen_is = h.seen_is;
      seen_wide = h.seen_wide;
    })
