-- A manager places an anchor: what its seat knows then, and how its record stands after those before.
use Rattle.std.proofs.Common.{◌≡◌, ℕ, false, ◌+◌, ◌-◌, ◌*◌, ◌%◌, ◌^◌, ◌<◌, ◌≤◌, inl, inr, List, [], ◌∷◌, ◌++◌, length, refl, sym, ap, ◌∙◌, subst, arith, length-append}
use Rattle.std.specs.Prelude.{slice_index}
use Rattle.std.specs.Int.{to_be_bytes, w32, w64}
use Rattle.std.specs.List.{flat_map}
use mathlib.Core.Option.{none}
use Rattle.atomic_table.specs.Table.{Allows, step}
use Rattle.tau_base.specs.declared.limits.TheConstants.{MAX_STREAMS}
use Rattle.tau_base.specs.declared.format.Format.{Format}
use Rattle.tau_base.specs.Modes.{format_of}
use Rattle.tau_model.specs.History.{Member}
use Rattle.tau_machine.specs.Pieces.{Ascending}
use Rattle.tau_machine.specs.State.{Item, past_of, start_of}
use Rattle.tau_record.specs.Record.{Spells}
use Rattle.tau_record.specs.declared.entry.Entry.TheVariants as entry
use Rattle.tau_outbox.specs.declared.Piece.{Piece}
use Rattle.tau_outbox.specs.Pieces.{end_of}
use Rattle.tau_core.specs.Pieces.{IsPieceOf, Paired}
use Rattle.tau_core.specs.State.{Plain}
use Rattle.tau_core.proofs.Lists.{member_snoc}
use Rattle.tau_core.proofs.AnchorNames.{end_low}
use Rattle.tau_core.proofs.Spellings.{Split, paired_split}
use Rattle.tau_occ.specs.declared.style.Style.{Style}
use Rattle.tau_rule.specs.Anchoring.{IsToAnchor, anchored}
use Rattle.tau_rule.proofs.Anchoring.{anchored_view}
use Rattle.tau_rule.specs.Places.{got_place}
use Rattle.tau_rule.specs.Role.{Managed, Managing, Role}
use Rattle.tau_rule.specs.Knows.{Knows}
use Rattle.tau_rule.specs.Rule.{IsManaged, MAX_ANCHOR, Rule, anchors_at, manager_role, part_count}
use Rattle.tau_rule.specs.Steps.{Agrees, Sat, first_role}
use Rattle.tau_rule.specs.declared.part.Part.{Part}
use Rattle.tau_rule.proofs.Anchoring.{anchors}
use Rattle.tau_rule.proofs.Turns.{one_role, reached_invariant}
use Rattle.tau_desk.specs.Shares.{PlainStock}
use Rattle.tau_desk.specs.Seats.{IsManagerSeat}
use Rattle.tau_desk.specs.Manages.{PutsAnchor, told_anchored}
use Rattle.tau_desk.proofs.OwnAnchors.{share_managed}
use Rattle.tau_desk.proofs.Taking.{At, managed_is}
use Rattle.tau_record.proofs.SizeLaws.{lv_len}

-- the record of an anchor is short
pub anchor_long : (f : Format) (n : ℕ) (lv bytes : List ℕ) → length lv ≤ MAX_STREAMS → Spells f n [] false (entry.Anchor lv) bytes → (1 ≤ length bytes) × (length bytes ≤ MAX_ANCHOR)
anchor_long f n lv bytes few s =
    let fields : List ℕ = flat_map (to_be_bytes w64) lv in
    let text : length bytes ≡ 1 + length (to_be_bytes w32 (5 + length fields) ++ fields) = (let e = ap (length {A = ℕ}) s.text in omega (arith, e)) in
    let all = length-append (to_be_bytes w32 (5 + length fields)) fields in
    let long = lv_len lv in
    (omega (arith, text), omega (arith, text, all, long, few))

pub anchored_is : (m : Sat) (u : ℕ) (r : Role) (g : Managed) (bytes : List ℕ) (start : ℕ) → m.0.roles ≡ (u, r) ∷ [] → r.share ≡ Managing g → told_anchored m.0 bytes start ≡ record m.0 { roles = (u, record r { share = Managing (anchored g m.0.seen bytes start) }) ∷ [] }
anchored_is m u r g bytes start roles share =
    λ i. record m.0 { roles = ((first_role (roles i)).0, record (first_role (roles i)).1 { share = Managing (anchored (managed_is m.0 u r g roles share i) m.0.seen bytes start) }) ∷ [] }

pub to_anchor : (key : Plain) (m : Sat) (j : ℕ) (o : PlainStock) (h : At key m j o) (seen bytes : List ℕ) → m.0.seen ≡ seen → length seen ≡ key.load.streams → key.load.streams ≤ MAX_STREAMS → ((vectors : List (List ℕ)) → Spells (format_of key.load.mode) (length seen) vectors false (entry.Anchor seen) bytes) →
    slice_index key.load.opening.anchors.items j + length o.anchors < 2 ^ 32 - 1 → IsToAnchor key j m bytes
to_anchor key m j o h seen bytes is wide few spelled room =
    let s = h.stock in
    let long = anchor_long (format_of key.load.mode) (length seen) seen bytes (omega (arith, wide, few)) (spelled []) in record {
      managed = s.managed;
      is = record { role = h.role; opened = h.opened; roles = h.roles; share = s.share; there = s.there };
      spelled = λ vectors. subst (λ (z : ℕ × List ℕ). Spells (format_of key.load.mode) z.0 vectors false (entry.Anchor z.1) bytes) (λ i. (wide i, sym is i)) (spelled vectors);
      low = long.0;
      high = long.1;
      room = subst (λ (l : List (List ℕ)). slice_index key.load.opening.anchors.items j + length l < 2 ^ 32 - 1) (sym s.anchors) room;
    }

pub anchors_as : (origin : Plain) {style : Style} (slots id j word size : ℕ) (m : Sat) (bytes : List ℕ) (p : IsToAnchor origin j m bytes) (told : ℕ → Knows) → slots ≡ part_count origin.load → word ≡ 8 * (part_count origin.load + j) → size ≡ length bytes → told ≡ told_anchored m.0 bytes →
    Allows (Rule origin style) slots id m word (λ n. (n + size) % 2 ^ 64) (got_place told (step slots word size 0 none) m)
anchors_as origin {style} slots id j word size m bytes p told es is sized same =
    let knows : told ≡ anchored_view origin.load j p.is.role p.managed bytes m.0 = same ∙ (λ i start. anchored_is m (manager_role origin.load j) p.is.role p.managed bytes start p.is.roles p.is.share i) in
    subst (λ (z : (ℕ × ℕ) × (ℕ × (ℕ → Knows))). Allows (Rule origin style) z.0.0 id m z.0.1 (λ n. (n + z.1.0) % 2 ^ 64) (got_place z.1.1 (step z.0.0 z.0.1 z.1.0 0 none) m)) (λ i. ((sym es i, sym is i), (sym sized i, sym knows i)))
    (anchors origin j m bytes p id (step (part_count origin.load) (8 * (part_count origin.load + j)) (length bytes) 0 none) refl)

-- the items before the last one end where that starts, or earlier
before_last : (xs : List Item) (y : Item) → Ascending (xs ++ y ∷ []) → (i : Item) → Member i xs → past_of i ≤ start_of y
before_last [] y up i m = absurd m
before_last (x ∷ xs) y up i (inl e) = subst (λ (z : Item). past_of z ≤ start_of y) e (up.0 y (last xs))
  where
    last : (zs : List Item) → Member y (zs ++ y ∷ [])
    last [] = inl refl
    last (z ∷ zs) = inr (last zs)
before_last (x ∷ xs) y up i (inr m) = before_last xs y up.1 i m

one_behind : (l : Plain) (a : ℕ → List (List ℕ)) (p : Piece) (back : List Item) → Paired (IsPieceOf l.load a) (p ∷ []) back → (y : Item) × (back ≡ y ∷ []) × (p.start ≡ start_of y)
one_behind l a p [] h = absurd h
one_behind l a p (y ∷ []) h = (y, refl, h.0.start)
one_behind l a p (y ∷ z ∷ rest) h = absurd h.1

-- the new record stands after the others of the manager
pub own_order : (key : Plain) (m : Sat) (j k : ℕ) (o : PlainStock) (h : At key m j o) (bytes : List ℕ) (start : ℕ) (p : Part) → Agrees key (told_anchored m.0 bytes start) k p → end_of 0 o.own.pieces ≤ start
own_order key m j k o h bytes start p a =
    let u : ℕ = manager_role key.load j in
    let s = h.stock in
    let g : Managed = anchored s.managed m.0.seen bytes start in
    let r : Role = record h.role { share = Managing g } in
    let piece : Piece = record { start = start; bytes = bytes } in
    let roles : (told_anchored m.0 bytes start).roles ≡ (u, r) ∷ [] = ap (λ (v : Knows). v.roles) (anchored_is m u h.role s.managed bytes start h.roles s.share) in
    let mine = a.roles u r (one_role (told_anchored m.0 bytes start) u r roles) in
    let managed : IsManaged key.load j g a.state = share_managed key j r.share g a.state refl mine.0 in
    let posted : List Item = (a.state.core.streams j).posted in
    let pair : Paired (IsPieceOf key.load (anchors_at a.state.core)) (o.own.pieces ++ piece ∷ []) posted = subst (λ (ps : List Piece). Paired (IsPieceOf key.load (anchors_at a.state.core)) (ps ++ piece ∷ []) posted) s.own managed.own in
    let cut : Split (IsPieceOf key.load (anchors_at a.state.core)) o.own.pieces (piece ∷ []) posted = paired_split (IsPieceOf key.load (anchors_at a.state.core)) o.own.pieces (piece ∷ []) posted pair in
    let last = one_behind key (anchors_at a.state.core) piece cut.back cut.backs in
    let up : Ascending posted = (reached_invariant key a.state.core a.meets.reached).agrees.pieces.ascending_own j in
    let up' : Ascending (cut.front ++ last.0 ∷ []) = subst Ascending (cut.is ∙ ap (λ (b : List Item). cut.front ++ b) last.1) up in
    end_low key.load (anchors_at a.state.core) 0 start o.own.pieces cut.front cut.fronts (omega arith) (λ i n. subst (λ (z : ℕ). past_of i ≤ z) (sym last.2) (before_last cut.front last.0 up' i n))

pub seat_anchored : (m : Sat) (j : ℕ) (o o' : PlainStock) (seen bytes : List ℕ) (start : ℕ) → IsManagerSeat m j o seen → PutsAnchor o seen bytes start o' → IsManagerSeat (told_anchored m.0 bytes start, m.1) j o' seen
seat_anchored m j o o' seen bytes start h put =
    let s = h.stock in
    let u : ℕ = manager_role h.origin.load j in
    let g : Managed = anchored s.managed m.0.seen bytes start in
    subst (λ (v : Knows). IsManagerSeat (v, m.1) j o' seen) (sym (anchored_is m u h.role s.managed bytes start h.roles s.share)) (record {
      origin = h.origin;
      role = record h.role { share = Managing g };
      opened = h.opened;
      roles = refl;
      idle = h.idle;
      none = h.none;
      stock = record {
        managed = g;
        share = refl;
        there = s.there;
        anchors = (λ i. s.anchors i ++ h.seen_is i ∷ []) ∙ sym put.anchors;
        own = ap (λ (ps : List Piece). ps ++ record { start = start; bytes = bytes } ∷ []) s.own ∙ sym put.pieces;
        gathered = s.gathered ∙ sym put.gathered;
        small = (let a = s.small in let e = put.gathered in omega (arith, a, e));
        wide = λ a e. member_snoc (λ (v : List ℕ). length v ≡ h.origin.load.streams) o.anchors seen s.wide h.seen_wide a (subst (λ (l : List (List ℕ)). Member a l) put.anchors e);
      };
      seen_is = h.seen_is;
      seen_wide = h.seen_wide;
    })

pub seat_role : (m : Sat) (j : ℕ) (o : PlainStock) (seen : List ℕ) (h : IsManagerSeat m j o seen) → (u : ℕ) × (x : Role) × (m.0.roles ≡ (u, x) ∷ [])
seat_role m j o seen h = (manager_role h.origin.load j, h.role, h.roles)
