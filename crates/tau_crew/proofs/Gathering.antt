-- What a manager gathers, step by step.
use Rattle.std.proofs.Common.{ℕ, ◌≤◌, ◌≡◌, ◌⊎◌, inl, inr, List, [], ◌∷◌, ◌++◌, length, refl, sym, ap, subst, ◌∙◌, append_assoc, arith, length-append}
use Rattle.std.specs.Prelude.{Err, Ok, OnErr, OnOk, Result, Some}
use Rattle.tau_base.specs.declared.value.NoMemory.{NoMemory}
use Rattle.std.proofs.lemmas.List.{append-nil}
use Rattle.tau_base.specs.declared.limits.TheConstants.{MAX_BODY}
use Rattle.tau_outbox.specs.declared.Piece.{Piece}
use Rattle.tau_outbox.specs.Pieces.{bytes_of}
use Rattle.tau_outbox.specs.Gather.{Gathers}
use Rattle.tau_machine.specs.State.{Item}
use Rattle.tau_core.specs.Pieces.{IsPieceOf, Paired}
use Rattle.tau_core.specs.State.{Plain}
use Rattle.tau_core.specs.declared.state.Load.{Load}
use Rattle.tau_run.proofs.Bodies.{five}
use Rattle.tau_rule.specs.Boxes.{BoxOf, box_in}
use Rattle.tau_rule.specs.Role.{Role, Share, managed_in_share}
use Rattle.tau_rule.specs.Rule.{IsPart, Now, anchors_at, outbox_part}
use Rattle.tau_rule.specs.declared.part.Part.{Part}
use Rattle.tau_rule.specs.declared.part.Part.TheVariants as part
use Rattle.tau_desk.specs.Manages.{GathersBox, GathersOwn, OnlyRoom, gone, managed_in}
use Rattle.tau_desk.specs.Seats.{Manages, PlainManagerSeat}
use Rattle.tau_rule.specs.Steps.{first_role}
use Rattle.tau_crew_facts.proofs.ManagerWriter.{bytes_append}
use Rattle.tau_crew.specs.Gathering.{AreLong, GathersMore, raised_in, stored_in, taken_in}
use Rattle.tau_desk.proofs.Taking.{gone_is}

pub long_append : (xs ys : List Piece) → AreLong xs → AreLong ys → AreLong (xs ++ ys)
long_append [] ys a b = b
long_append (p ∷ xs) ys a b = (a.0, long_append xs ys a.1 b)

pub long_front : (xs ys : List Piece) → AreLong (xs ++ ys) → AreLong xs
long_front [] ys a = tt
long_front (p ∷ xs) ys a = (a.0, long_front xs ys a.1)

pub long_back : (xs ys : List Piece) → AreLong (xs ++ ys) → AreLong ys
long_back [] ys a = a
long_back (p ∷ xs) ys a = long_back xs ys a.1

-- such pieces have no bytes, or five and more
pub long_bytes : (xs : List Piece) → AreLong xs → (bytes_of xs ≡ []) ⊎ (5 ≤ length (bytes_of xs))
long_bytes [] a = inl refl
long_bytes (p ∷ xs) a = inr (let e = length-append p.bytes (bytes_of xs) in let f = a.0 in omega (arith, e, f))

-- pieces that belong to items are whole records
paired_long : (l : Load) (anchors : ℕ → List (List ℕ)) (pieces : List Piece) (items : List Item) → Paired (IsPieceOf l anchors) pieces items → AreLong pieces
paired_long l anchors [] items pair = tt
paired_long l anchors (p ∷ pieces) [] pair = absurd pair
paired_long l anchors (p ∷ pieces) (i ∷ items) pair = (five l anchors i p.bytes pair.0.bytes, paired_long l anchors pieces items pair.1)

-- the pieces of an outbox that agrees with some state are
box_long : (l : Load) (w : ℕ) (p : Part) (c : Now) (b : BoxOf) → IsPart l (outbox_part w) p c → box_in p ≡ Some b → AreLong b.0.pieces
box_long l w (part.Shard s) c b is e = absurd (cc e)
box_long l w (part.Anchor number lv) c b is e = absurd (cc e)
box_long l w (part.Outbox o pending) c b is e =
    let same : (o.value, pending.value) ≡ b = cc e in
    subst (λ (x : BoxOf). AreLong x.0.pieces) same (paired_long l (anchors_at c.core) o.value.pieces (c.core.outboxes is.0).posted is.3.posted)

-- ---- steps

pub gathers_none : (s : PlainManagerSeat) (body : List ℕ) → GathersMore s s body body
gathers_none s body = record {
  pieces = [];
  taken = sym (append-nil (taken_in s));
  bytes = sym (append-nil body);
  gathered = omega arith;
  gone = [];
  own = refl;
  long = λ a. tt;
  fits = λ a. a;
  table = refl;
  stream = refl;
  seen = refl;
  opened = refl;
  raised = refl;
  stored = refl;
  anchors = refl;
}

pub gathers_on : (s1 s2 s3 : PlainManagerSeat) (b1 b2 b3 : List ℕ) → GathersMore s1 s2 b1 b2 → GathersMore s2 s3 b2 b3 → GathersMore s1 s3 b1 b3
gathers_on s1 s2 s3 b1 b2 b3 p q = record {
  pieces = p.pieces ++ q.pieces;
  taken = q.taken ∙ ap (λ (xs : List Piece). xs ++ q.pieces) p.taken ∙ append_assoc (taken_in s1) p.pieces q.pieces;
  bytes = q.bytes ∙ ap (λ (b : List ℕ). b ++ bytes_of q.pieces) p.bytes ∙ append_assoc b1 (bytes_of p.pieces) (bytes_of q.pieces) ∙ ap (λ (b : List ℕ). b1 ++ b) (sym (bytes_append p.pieces q.pieces));
  gathered = (let a = p.gathered in let b = q.gathered in let c = ap (length {A = ℕ}) (bytes_append p.pieces q.pieces) in let d = length-append (bytes_of p.pieces) (bytes_of q.pieces) in omega (arith, a, b, c, d));
  gone = p.gone ++ q.gone;
  own = p.own ∙ ap (λ (xs : List Piece). p.gone ++ xs) q.own ∙ sym (append_assoc p.gone q.gone s3.stock.own.pieces);
  long = λ a. long_append p.pieces q.pieces (p.long a) (q.long (long_back p.gone s2.stock.own.pieces (subst AreLong p.own a)));
  fits = λ a. q.fits (p.fits a);
  table = q.table ∙ p.table;
  stream = q.stream ∙ p.stream;
  seen = q.seen ∙ p.seen;
  opened = q.opened ∙ p.opened;
  raised = q.raised ∙ p.raised;
  stored = q.stored ∙ p.stored;
  anchors = q.anchors ∙ p.anchors;
}

fits_by : (next answer : ℕ) (pieces left : List Piece) (body longer : List ℕ) (g : Gathers next pieces left body longer answer) → length body ≤ MAX_BODY → length longer ≤ MAX_BODY
fits_by next answer pieces left body longer g low = elim g.fits [
  | inl none ↦ (let e : longer ≡ body = g.bytes ∙ ap (λ (ps : List Piece). body ++ bytes_of ps) none ∙ append-nil body in subst (λ (b : List ℕ). length b ≤ MAX_BODY) (sym e) low)
  | inr fits ↦ fits
]

pub gathers_box : (origin : Plain) (s s' : PlainManagerSeat) (w : ℕ) (body longer : List ℕ) → GathersBox origin s w body s' longer → GathersMore s s' body longer
gathers_box origin s s' w body longer g = record {
  pieces = g.moved.taken;
  taken = ap taken_in g.after;
  bytes = g.moved.bytes;
  gathered = g.moved.past;
  gone = [];
  own = sym (ap (λ (x : PlainManagerSeat). x.stock.own.pieces) g.after);
  long = λ a. long_front g.moved.taken g.left (subst AreLong g.moved.front (box_long origin.load w g.part_taken g.agrees.state g.before g.agrees.part g.was));
  fits = fits_by s.stock.gathered s'.stock.gathered g.before.0.pieces g.left body longer g.moved;
  table = ap (λ (x : PlainManagerSeat). x.table_id) g.after;
  stream = ap (λ (x : PlainManagerSeat). x.stream) g.after;
  seen = ap (λ (x : PlainManagerSeat). x.seen) g.after;
  opened = ap (λ (x : PlainManagerSeat). x.me.0.opened) g.after;
  raised = ap (λ (x : PlainManagerSeat). raised_in x.me.0) g.after;
  stored = ap stored_in g.after;
  anchors = ap (λ (x : PlainManagerSeat). x.stock.anchors) g.after;
}

-- the view of a manager's seat has what its stock has
pub managed_own : (s : PlainManagerSeat) → Manages s → (managed_in s.me.0).own ≡ s.stock.own.pieces
managed_own s m = ap (λ (xs : List (ℕ × Role)). (managed_in_share (first_role xs).1.share).own) m.roles ∙ ap (λ (x : Share). (managed_in_share x).own) m.stock.share ∙ m.stock.own

pub managed_anchors : (s : PlainManagerSeat) → Manages s → (managed_in s.me.0).anchors ≡ s.stock.anchors
managed_anchors s m = ap (λ (xs : List (ℕ × Role)). (managed_in_share (first_role xs).1.share).anchors) m.roles ∙ ap (λ (x : Share). (managed_in_share x).anchors) m.stock.share ∙ m.stock.anchors

pub managed_gathered : (s : PlainManagerSeat) → Manages s → (managed_in s.me.0).gathered ≡ s.stock.gathered
managed_gathered s m = ap (λ (xs : List (ℕ × Role)). (managed_in_share (first_role xs).1.share).gathered) m.roles ∙ ap (λ (x : Share). (managed_in_share x).gathered) m.stock.share ∙ m.stock.gathered

pub gathers_own : (s s' : PlainManagerSeat) (body longer : List ℕ) → Manages s → GathersOwn s body s' longer → GathersMore s s' body longer
gathers_own s s' body longer m g =
    let pieces_are : gone (managed_in s.me.0).own s'.stock.own.pieces ≡ g.moved.taken =
    ap (λ (ps : List Piece). gone ps s'.stock.own.pieces) (managed_own s m ∙ g.moved.front) ∙ gone_is g.moved.taken s'.stock.own.pieces in
    record {
      pieces = g.moved.taken;
      taken = ap taken_in g.after ∙ ap (λ (ps : List Piece). taken_in s ++ ps) pieces_are;
      bytes = g.moved.bytes;
      gathered = g.moved.past;
      gone = g.moved.taken;
      own = g.moved.front;
      long = λ a. long_front g.moved.taken s'.stock.own.pieces (subst AreLong g.moved.front a);
      fits = fits_by s.stock.gathered s'.stock.gathered s.stock.own.pieces s'.stock.own.pieces body longer g.moved;
      table = ap (λ (x : PlainManagerSeat). x.table_id) g.after;
      stream = ap (λ (x : PlainManagerSeat). x.stream) g.after;
      seen = ap (λ (x : PlainManagerSeat). x.seen) g.after;
      opened = ap (λ (x : PlainManagerSeat). x.me.0.opened) g.after;
      raised = ap (λ (x : PlainManagerSeat). raised_in x.me.0) g.after;
      stored = ap stored_in g.after;
      anchors = ap (λ (x : PlainManagerSeat). x.stock.anchors) g.after;
    }

-- only room was made
pub gathers_room : (s s' : PlainManagerSeat) (body longer : List ℕ) → OnlyRoom s.stock s'.stock → s' ≡ record s { stock = s'.stock } → longer ≡ body → GathersMore s s' body longer
gathers_room s s' body longer o after same = record {
  pieces = [];
  taken = ap taken_in after ∙ sym (append-nil (taken_in s));
  bytes = same ∙ sym (append-nil body);
  gathered = (let e = o.gathered in omega (arith, e));
  gone = [];
  own = sym o.pieces;
  long = λ a. tt;
  fits = λ a. subst (λ (b : List ℕ). length b ≤ MAX_BODY) (sym same) a;
  table = ap (λ (x : PlainManagerSeat). x.table_id) after;
  stream = ap (λ (x : PlainManagerSeat). x.stream) after;
  seen = ap (λ (x : PlainManagerSeat). x.seen) after;
  opened = ap (λ (x : PlainManagerSeat). x.me.0.opened) after;
  raised = ap (λ (x : PlainManagerSeat). raised_in x.me.0) after;
  stored = ap stored_in after;
  anchors = o.anchors;
}

-- a step of the seat that may be out of memory
pub gathers_worker : (origin : Plain) (s s' : PlainManagerSeat) (w : ℕ) (body longer : List ℕ) (r : Result Unit NoMemory) → OnOk r (GathersBox origin s w body s' longer) → OnErr r ((s' ≡ s) × (longer ≡ body)) → GathersMore s s' body longer
gathers_worker origin s s' w body longer (Ok u) ok err = gathers_box origin s s' w body longer ok
gathers_worker origin s s' w body longer (Err e) ok err =
    subst (λ (x : PlainManagerSeat). GathersMore s x body longer) (sym err.0) (subst (λ (b : List ℕ). GathersMore s s body b) (sym err.1) (gathers_none s body))

pub gathers_anchors : (s s' : PlainManagerSeat) (body longer : List ℕ) (r : Result Unit NoMemory) → Manages s → OnOk r (GathersOwn s body s' longer) → OnErr r (OnlyRoom s.stock s'.stock × (s' ≡ record s { stock = s'.stock }) × (longer ≡ body)) → GathersMore s s' body longer
gathers_anchors s s' body longer (Ok u) m ok err = gathers_own s s' body longer m ok
gathers_anchors s s' body longer (Err e) m ok err = gathers_room s s' body longer err.0 err.1 err.2
