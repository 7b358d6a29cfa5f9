-- A manager looks, removes entries and places anchors.
use Rattle.std.proofs.Common.{ℕ, zero, suc, ◌+◌, ◌<◌, ◌≤◌, ◌≡◌, List, [], ◌∷◌, ◌++◌, length, refl, sym, ap, subst, ◌∙◌, arith, length-append, slice_index}
use Rattle.std.specs.Prelude.{Err, Ok, OnErr, OnOk, Option, Result, Some, slice_set}
use Rattle.std.proofs.lemmas.List.{length-map, map-append}
use Rattle.tau_base.specs.declared.format.Format.{Format}
use Rattle.tau_base.specs.declared.value.NoMemory.{NoMemory}
use Rattle.tau_base.specs.Modes.{format_of}
use Rattle.tau_record.specs.declared.entry.Entry.TheVariants as entry
use Rattle.tau_record.proofs.ContentLaws.{spelling_long}
use Rattle.tau_outbox.specs.declared.Piece.{Piece}
use Rattle.tau_core.specs.State.{Plain}
use Rattle.tau_core.specs.declared.state.Load.{Load}
use Rattle.tau_desk.specs.declared.desk.Desk.{Desk}
use Rattle.tau_desk.specs.Manages.{OnlyRoom, PlacesAnchor, told_raised}
use Rattle.tau_desk.specs.Seats.{PlainManagerSeat}
use Rattle.tau_crew_facts.specs.Spacing.{IsSpacing, newest}
use Rattle.tau_crew_facts.specs.Writers.{AllBecameDurable, HasWritten}
use Rattle.tau_crew_facts.proofs.Spacing.{newest_more, spacing_places, spacing_stays}
use Rattle.tau_crew.specs.Gathering.{AreLong, raised_in, stored_in, taken_in}
use Rattle.tau_disk.specs.declared.disk.Disk.{Ghosts}
use Rattle.tau_stream.specs.declared.writer.Writer.{Writer}
use Rattle.tau_stream.specs.Writer.{disk_of}
use Rattle.tau_base.specs.declared.limits.TheConstants.{ANCHOR_BYTES, MAX_ANCHORS}
use Rattle.tau_crew.specs.Driving.{IsApart, IsBlock, IsDriven, IsDrivenShort, KeepsSeat, anchors_in, before_of, own_of}
use Rattle.tau_crew.proofs.Driving.{driven_same}
use Rattle.tau_crew.proofs.Gathering.{long_append}

set_elsewhere : (xs : List ℕ) (i j x : ℕ) → (i ≡ j → ⊥) → slice_index (slice_set xs i x) j ≡ slice_index xs j
set_elsewhere [] i j x ne = refl
set_elsewhere (y ∷ xs) zero zero x ne = absurd (ne refl)
set_elsewhere (y ∷ xs) zero (suc j) x ne = refl
set_elsewhere (y ∷ xs) (suc i) zero x ne = refl
set_elsewhere (y ∷ xs) (suc i) (suc j) x ne = set_elsewhere xs i j x (λ e. ne (ap suc e))

pub keeps_itself : (s : PlainManagerSeat) → KeepsSeat s s
keeps_itself s = record { table = refl; stream = refl; opened = refl; raised = refl; taken = refl; gathered = refl; stored = refl; all_stored = refl; long = λ a. a }

pub keeps_same : (s s' : PlainManagerSeat) → s' ≡ s → KeepsSeat s s'
keeps_same s s' e = subst (λ (x : PlainManagerSeat). KeepsSeat s x) (sym e) (keeps_itself s)

pub keeps_on : (s1 s2 s3 : PlainManagerSeat) → KeepsSeat s1 s2 → KeepsSeat s2 s3 → KeepsSeat s1 s3
keeps_on s1 s2 s3 p q = record {
  table = q.table ∙ p.table;
  stream = q.stream ∙ p.stream;
  opened = q.opened ∙ p.opened;
  raised = q.raised ∙ p.raised;
  taken = q.taken ∙ p.taken;
  gathered = q.gathered ∙ p.gathered;
  stored = subst (λ (j : ℕ). slice_index s3.seen j ≡ slice_index s2.seen j) p.stream q.stored ∙ p.stored;
  all_stored = q.all_stored ∙ p.all_stored;
  long = λ a. q.long (p.long a);
}

-- only room was made
pub keeps_room : (s s' : PlainManagerSeat) → OnlyRoom s.stock s'.stock × (s' ≡ record s { stock = s'.stock }) → KeepsSeat s s'
keeps_room s s' (o, e) = record {
  table = ap (λ (x : PlainManagerSeat). x.table_id) e;
  stream = ap (λ (x : PlainManagerSeat). x.stream) e;
  opened = ap (λ (x : PlainManagerSeat). x.me.0.opened) e;
  raised = ap (λ (x : PlainManagerSeat). raised_in x.me.0) e;
  taken = ap taken_in e;
  gathered = o.gathered;
  stored = ap (λ (x : PlainManagerSeat). slice_index x.seen s.stream) e;
  all_stored = ap stored_in e;
  long = λ a. subst AreLong (sym o.pieces) a;
}

-- an anchor was placed
pub keeps_placed : (l : Load) (s s' : PlainManagerSeat) → PlacesAnchor l s s' → KeepsSeat s s'
keeps_placed l s s' p =
    let five : 5 ≤ length p.bytes = (let t = p.spelled [] in subst (λ (b : List ℕ). 5 ≤ length b) (sym t.text) (spelling_long (format_of l.mode) [] (entry.Anchor s.seen))) in
    record {
      table = ap (λ (x : PlainManagerSeat). x.table_id) p.after;
      stream = ap (λ (x : PlainManagerSeat). x.stream) p.after;
      opened = ap (λ (x : PlainManagerSeat). x.me.0.opened) p.after;
      raised = ap (λ (x : PlainManagerSeat). raised_in x.me.0) p.after;
      taken = ap taken_in p.after;
      gathered = p.puts.gathered;
      stored = ap (λ (x : PlainManagerSeat). slice_index x.seen s.stream) p.after;
      all_stored = ap stored_in p.after;
      long = λ a. subst AreLong (sym p.puts.pieces) (long_append s.stock.own.pieces (record { start = p.start; bytes = p.bytes } ∷ []) a (five, tt));
    }

pub keeps_anchored : (l : Load) (s1 s2 s3 : PlainManagerSeat) (r : Result Unit NoMemory) → KeepsSeat s1 s2 → OnOk r (PlacesAnchor l s2 s3) → OnErr r (s3 ≡ s2) → KeepsSeat s1 s3
keeps_anchored l s1 s2 s3 (Ok u) k ok err = keeps_on s1 s2 s3 k (keeps_placed l s2 s3 ok)
keeps_anchored l s1 s2 s3 (Err e) k ok err = keeps_on s1 s2 s3 k (keeps_same s2 s3 err)

-- what the desk of a seat says of its stream
pub before_is : (desk : Desk) (s : PlainManagerSeat) (j : ℕ) → s.me.0.opened ≡ Some desk.table.shared.key.value → s.stream ≡ j → before_of s ≡ slice_index desk.load.opening.anchors.items j
before_is desk s j opened stream =
    ap (λ (o : Option Plain). anchors_in o s.stream) opened ∙ ap (slice_index desk.table.shared.key.value.load.opening.anchors.items) stream ∙ sym (ap (λ (l : Load). slice_index l.opening.anchors.items j) desk.same_load)

-- the stream had as many anchors before
before_same : (s s' : PlainManagerSeat) → s'.stream ≡ s.stream → s'.me.0.opened ≡ s.me.0.opened → before_of s' ≡ before_of s
before_same s s' stream opened = ap (anchors_in s'.me.0.opened) stream ∙ ap (λ (o : Option Plain). anchors_in o s.stream) opened

-- a step that places no anchor and stores nothing
pub apart_same : (base durable last placed : ℕ) (s s' : PlainManagerSeat) → IsApart base durable last placed s → s'.stream ≡ s.stream → s'.me.0.opened ≡ s.me.0.opened → s'.stock.anchors ≡ s.stock.anchors → IsApart base durable last placed s'
apart_same base durable last placed s s' a stream opened anchors =
    let same : own_of s'.stream s'.stock.anchors ≡ own_of s.stream s.stock.anchors = ap (λ (j : ℕ). own_of j s'.stock.anchors) stream ∙ ap (own_of s.stream) anchors in
    record {
      spacing = subst (λ (k : ℕ). IsSpacing k base durable (own_of s'.stream s'.stock.anchors)) (sym (before_same s s' stream opened)) (subst (λ (xs : List ℕ). IsSpacing (before_of s) base durable xs) (sym same) a.spacing);
      last_is = a.last_is ∙ ap (newest base) (sym same);
      placed_is = a.placed_is ∙ ap (length {A = List ℕ}) (sym anchors);
    }

-- after a flush none is due, or none can be placed
pub apart_stays : (base before durable last placed : ℕ) (s s' : PlainManagerSeat) → IsApart base before last placed s → before ≤ durable → (before_of s + placed < MAX_ANCHORS → durable < last + ANCHOR_BYTES) → s'.stream ≡ s.stream → s'.me.0.opened ≡ s.me.0.opened → s'.stock.anchors ≡ s.stock.anchors →
    IsApart base durable last placed s'
apart_stays base before durable last placed s s' a later near stream opened anchors =
    let xs : List ℕ = own_of s.stream s.stock.anchors in
    let long : length xs ≡ placed = length-map s.stock.anchors (λ (p : List ℕ). slice_index p s.stream) ∙ sym a.placed_is in
    let spacing : IsSpacing (before_of s) base durable xs =
    spacing_stays (before_of s) base before durable xs a.spacing later (λ few. (let lt = near (omega (arith, few, long)) in let e = a.last_is in omega (arith, lt, e))) in
    apart_same base durable last placed s s' (record { spacing = spacing; last_is = a.last_is; placed_is = a.placed_is }) stream opened anchors

-- one is placed, whose own component is what is durable now
pub apart_places : (base before durable last placed : ℕ) (s s' : PlainManagerSeat) (v : List ℕ) → IsApart base before last placed s → IsBlock before durable → before_of s + placed < MAX_ANCHORS → last + ANCHOR_BYTES ≤ durable → s'.stream ≡ s.stream → s'.me.0.opened ≡ s.me.0.opened →
    s'.stock.anchors ≡ s.stock.anchors ++ v ∷ [] → slice_index v s.stream ≡ durable → IsApart base durable durable (placed + 1) s'
apart_places base before durable last placed s s' v a block few due stream opened anchors own =
    let xs : List ℕ = own_of s.stream s.stock.anchors in
    let all : own_of s'.stream s'.stock.anchors ≡ xs ++ durable ∷ [] =
    ap (λ (j : ℕ). own_of j s'.stock.anchors) stream ∙ ap (own_of s.stream) anchors ∙ map-append (λ (p : List ℕ). slice_index p s.stream) s.stock.anchors (v ∷ []) ∙ ap (λ (k : ℕ). own_of s.stream s.stock.anchors ++ k ∷ []) own in
    let long : length xs ≡ placed = length-map s.stock.anchors (λ (p : List ℕ). slice_index p s.stream) ∙ sym a.placed_is in
    let spacing : IsSpacing (before_of s) base durable (xs ++ durable ∷ []) =
    spacing_places (before_of s) base before durable xs a.spacing (omega (arith, few, long)) block.1 (let e = a.last_is in omega (arith, due, e)) in
    record {
      spacing = subst (λ (k : ℕ). IsSpacing k base durable (own_of s'.stream s'.stock.anchors)) (sym (before_same s s' stream opened)) (subst (λ (ys : List ℕ). IsSpacing (before_of s) base durable ys) (sym all) spacing);
      last_is = sym (ap (newest base) all ∙ newest_more base durable xs);
      placed_is = (let e = ap (length {A = List ℕ}) anchors in let f = length-append s.stock.anchors (v ∷ []) in let d = a.placed_is in omega (arith, e, f, d));
    }

-- such a step leaves what the loop keeps
pub driven_keeps : {D : Type 0} {G : Ghosts D} (format : Format) (n j : ℕ) (base : List ℕ) (w0 : Writer D G) (s s' : PlainManagerSeat) (w : Writer D G) → IsDriven format n j base w0 s w → KeepsSeat s s' → IsDriven format n j base w0 s' w
driven_keeps format n j base w0 s s' w d k =
    driven_same format n j base w0 s s' w d k.stream k.taken (subst (λ (i : ℕ). slice_index s'.seen i ≡ slice_index s.seen i) d.stream k.stored) k.gathered (k.long d.long) k.raised k.all_stored

-- the stop was raised
pub short_stopped : {D : Type 0} {G : Ghosts D} (format : Format) (n j : ℕ) (base : List ℕ) (w0 : Writer D G) (s s' : PlainManagerSeat) (w : Writer D G) → IsDrivenShort format n j base w0 s w → s' ≡ record s { me = (told_raised s.me.0, s.me.1) } → IsDrivenShort format n j base w0 s' w
short_stopped {D} {G} format n j base w0 s s' w d e = record {
  stream = ap (λ (x : PlainManagerSeat). x.stream) e ∙ d.stream;
  stored = ap (λ (x : PlainManagerSeat). slice_index x.seen j) e ∙ d.stored;
  written =
      subst (λ (ps : List Piece). HasWritten format n j base ps (slice_index s'.seen j) w0 w) (sym (ap taken_in e))
      (subst (λ (k : ℕ). HasWritten format n j base (taken_in s) k w0 w) (sym (ap (λ (x : PlainManagerSeat). slice_index x.seen j) e)) d.written);
  lasts = λ t. subst (λ (us : List ℕ). AllBecameDurable G format n j (disk_of w) us) (sym (ap stored_in e)) (d.lasts t);
}
