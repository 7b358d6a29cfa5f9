-- A manager's writer on its way: its invariant holds at first, and is kept by gathering and by flushing.
use Rattle.std.proofs.Common.{ℕ, suc, ◌+◌, ◌-◌, ◌<◌, ◌≤◌, ◌≡◌, ◌⊎◌, inl, inr, Bool, true, false, List, [], ◌∷◌, ◌++◌, length, take, drop, refl, sym, ap, subst, ◌∙◌, append_assoc, arith, length-append, take-append-drop, drop-cons}
use Rattle.std.specs.Prelude.{Some, slice_index}
use Rattle.std.proofs.lemmas.List.{append-nil}
use Rattle.std.proofs.Math.Seq.{take-append_seam, drop-append_seam}
use Rattle.tau_base.specs.declared.format.Format.{Format}
use Rattle.tau_block.specs.Image.{HasContent, IsLog, content_of}
use Rattle.tau_disk.specs.Disk.{Passes, Rose}
use Rattle.tau_disk.specs.Used.{GoesOn, IsStopped}
use Rattle.tau_disk.proofs.Passing.{passes_none, passes_weaker, passes_on, left_by}
use Rattle.tau_disk.specs.declared.disk.Disk.{Ghosts}
use Rattle.tau_outbox.specs.declared.Piece.{Piece}
use Rattle.tau_outbox.specs.Pieces.{bytes_of}
use Rattle.tau_stream.specs.declared.writer.Writer.{Writer}
use Rattle.tau_stream.specs.Stream.{IsSettled, IsOldOrNew, MayHold}
use Rattle.tau_stream.specs.Writer.{disk_of, durable_of, left_of, has_failed, part_upto, IsReady}
use Rattle.tau_crew_facts.specs.Writers.{HasPieces, HasEnough, HasLong, HasWritten, IsCurrent, IsManaging}
use Rattle.tau_crew_facts.proofs.DiskLaws.{SeenNow, CountsNow, OnlyNow}

-- as a writer is handed to a manager: the base is durable, and nothing else was added
pub record IsFresh {D : Type 0} {G : Ghosts D} (format : Format) (n j : ℕ) (base : List ℕ) (w : Writer D G) : Type 0 where
  pub works : has_failed w ≡ false
  pub durable : durable_of w ≡ length base
  pub none : left_of w ≡ bytes_of []
  pub ready : G.tells → IsReady format n j w base

-- ---- bytes of pieces

pub bytes_append : (xs ys : List Piece) → bytes_of (xs ++ ys) ≡ bytes_of xs ++ bytes_of ys
bytes_append [] ys = refl
bytes_append (p ∷ xs) ys = ap (λ (b : List ℕ). p.bytes ++ b) (bytes_append xs ys) ∙ sym (append_assoc p.bytes (bytes_of xs) (bytes_of ys))

-- ---- a settled log is read as its content

log_has : (format : Format) (n j : ℕ) (image : List ℕ) (gate_at : ℕ) (content : List ℕ) → IsLog format n j image gate_at content → HasContent format n j content image
log_has format n j image gate_at content log =
    let lt : gate_at < length image = log.within in
    let split : take gate_at image ++ slice_index image gate_at ∷ drop (suc gate_at) image ≡ image =
    ap (λ (xs : List ℕ). take gate_at image ++ xs) (sym (drop-cons image gate_at 0 lt)) ∙ take-append-drop gate_at image in
    subst (λ (xs : List ℕ). content_of format n j xs ≡ Some content) split (log.front.closed (slice_index image gate_at) (drop (suc gate_at) image) log.shut)

settled_has : (format : Format) (n j : ℕ) (file : List ℕ) (may_leave : List ℕ → Type 0) (gate_at : ℕ) (content : List ℕ) → IsSettled format n j file may_leave gate_at content →
    (x : List ℕ) → may_leave x → HasContent format n j content x
settled_has format n j file may_leave gate_at content settled x left =
    subst (λ (y : List ℕ). HasContent format n j content y) (sym (settled.only x left)) (log_has format n j file gate_at content settled.log)

pub ready_has : {D : Type 0} {G : Ghosts D} (format : Format) (n j : ℕ) (w : Writer D G) (content : List ℕ) → IsReady format n j w content → (x : List ℕ) → G.may_leave (disk_of w) x → HasContent format n j content x
ready_has {D} {G} format n j w content r x left = settled_has format n j (G.seen (disk_of w)) (G.may_leave (disk_of w)) w.gate_at content r.settled x left

-- ---- disks in a row

true_false : (b : Bool) → b ≡ true → b ≡ false → ⊥
true_false b e f = let bad : true ≡ false = sym e ∙ f in cc

goes_none : {D : Type 0} (number : D → ℕ) (fails : D → ℕ → Bool) (d : D) → GoesOn number fails d d
goes_none number fails d = record { same = λ k. refl; later = omega arith; clean = λ k low high. absurd (omega (arith, low, high)) }

goes_on : {D : Type 0} (number : D → ℕ) (fails : D → ℕ → Bool) (d e f : D) → GoesOn number fails d e → GoesOn number fails e f → GoesOn number fails d f
goes_on number fails d e f a b = record {
  same = λ k. b.same k ∙ a.same k;
  later = (let x = a.later in let y = b.later in omega (arith, x, y));
  clean = λ k low high. by_side k low high (split k (number e));
}
  where
    split : (x y : ℕ) → (x ≤ y) ⊎ (y < x)
    split x y = grind arith

    by_side : (k : ℕ) → number d < k → k ≤ number f → (k ≤ number e) ⊎ (number e < k) → fails d k ≡ false
    by_side k low high (inl under) = a.clean k low under
    by_side k low high (inr over) = sym (a.same k) ∙ b.clean k over high

stops_on : {D : Type 0} (tells : Type 0) (number : D → ℕ) (fails : D → ℕ → Bool) (short : D → Bool) (d e f : D) → (tells → GoesOn number fails d e) → IsStopped tells number fails short e f → IsStopped tells number fails short d f
stops_on tells number fails short d e f goes stopped t = after (goes t) (stopped t)
  where
    split : (x y : ℕ) → (x ≤ y) ⊎ (y < x)
    split x y = grind arith

    after : GoesOn number fails d e → (short f ≡ true) ⊎ ((number e < number f) × (fails e (number f) ≡ true) × ((k : ℕ) → number e < k → k < number f → fails e k ≡ false))
        → (short f ≡ true) ⊎ ((number d < number f) × (fails d (number f) ≡ true) × ((k : ℕ) → number d < k → k < number f → fails d k ≡ false))
    after first (inl memory) = inl memory
    after first (inr rest) = inr (
      (let x = first.later in let y = rest.0 in omega (arith, x, y)),
      sym (first.same (number f)) ∙ rest.1,
      λ k low high. by_side k low high (split k (number e)),
    )
      where
        by_side : (k : ℕ) → number d < k → k < number f → (k ≤ number e) ⊎ (number e < k) → fails d k ≡ false
        by_side k low high (inl under) = first.clean k low under
        by_side k low high (inr over) = sym (first.same k) ∙ rest.2 k over high

-- ---- the images, where more was gathered

module _ (format : Format) (n j : ℕ) (base : List ℕ) where
  pub pieces_grow : (taken more : List Piece) (x : List ℕ) → HasPieces format n j base taken x → HasPieces format n j base (taken ++ more) x
  pieces_grow taken more x p = record {
    front = p.front;
    rest = p.rest ++ more;
    is = ap (λ (ps : List Piece). ps ++ more) p.is ∙ append_assoc p.front p.rest more;
    has = p.has;
  }

module _ {D : Type 0} {G : Ghosts D} (format : Format) (n j : ℕ) (base : List ℕ) where
  pub managed_grows : (taken more : List Piece) (stored : ℕ) (w w' : Writer D G) → HasWritten format n j base taken stored w w' → HasWritten format n j base (taken ++ more) stored w w'
  unfolding pieces_grow
  managed_grows taken more stored w w' g = record {
    before = λ t. passes_weaker G.moment G.may_leave_since (disk_of w) (disk_of w') (HasEnough format n j base taken (durable_of w)) (HasEnough format n j base (taken ++ more) (durable_of w)) (g.before t) (λ x p. (pieces_grow format n j base taken more x p.0, p.1));
    grown = g.grown;
    present = λ t x left. (let p = g.present t x left in (pieces_grow format n j base taken more x p.0, p.1));
    reached = g.reached;
    goes = g.goes;
    stops = g.stops;
    faults = g.faults;
  }

  -- the same disk in another writer
  pub managed_same : (taken : List Piece) (stored : ℕ) (w w1 w2 : Writer D G) → disk_of w2 ≡ disk_of w1 → has_failed w2 ≡ has_failed w1 → HasWritten format n j base taken stored w w1 → HasWritten format n j base taken stored w w2
  managed_same taken stored w w1 w2 disk works g = record {
    before = λ t. subst (λ (d : D). Passes G.moment G.may_leave_since (disk_of w) d (HasEnough format n j base taken (durable_of w))) (sym disk) (g.before t);
    grown = g.grown;
    present = λ t x left. g.present t x (subst (λ (d : D). G.may_leave d x) disk left);
    reached = λ t. (let r = g.reached t in (r.0, r.1, subst (λ (d : D). G.may_leave d r.0) (sym disk) r.2, r.3, r.4));
    goes = λ e t. subst (λ (d : D). GoesOn G.number G.fails (disk_of w) d) (sym disk) (g.goes (sym works ∙ e) t);
    stops = λ e. subst (λ (d : D). Rose (G.faults (disk_of w)) (G.faults d) × IsStopped G.tells G.number G.fails G.short (disk_of w) d) (sym disk) (g.stops (sym works ∙ e));
    faults = subst (λ (d : D). G.faults (disk_of w) ≤ G.faults d) (sym disk) g.faults;
  }

  module _ (seen_now : SeenNow G) where
    -- a writer that works, with these pieces durable
    ready_managed : (taken front rest : List Piece) (w w' : Writer D G) → taken ≡ front ++ rest → (G.tells → Passes G.moment G.may_leave_since (disk_of w) (disk_of w') (HasEnough format n j base taken (durable_of w))) → durable_of w ≤ durable_of w' →
        (G.tells → IsReady format n j w' (base ++ bytes_of front)) → has_failed w' ≡ false → durable_of w' ≡ length base + length (bytes_of front) →
        (G.tells → GoesOn G.number G.fails (disk_of w) (disk_of w')) → G.faults (disk_of w) ≤ G.faults (disk_of w') → HasWritten format n j base taken (durable_of w') w w'
    ready_managed taken front rest w w' is before grown ready works durable goes faults = record {
      before = before;
      grown = grown;
      present = λ t x left. (
        record { front = front; rest = rest; is = is; has = ready_has format n j w' (base ++ bytes_of front) (ready t) x left },
        omega (arith, durable),
      );
      reached = λ t.
          (let now = seen_now (disk_of w') t in
          (G.seen (disk_of w'), base ++ bytes_of front, now, ready_has format n j w' (base ++ bytes_of front) (ready t) (G.seen (disk_of w')) now, sym (ready t).counts));
      goes = λ e. goes;
      stops = λ e. absurd (true_false (has_failed w') e works);
      faults = faults;
    }

    -- at first
    pub begins : (w : Writer D G) → IsFresh format n j base w → IsManaging format n j base [] w w
    begins w f =
        let ready : G.tells → IsReady format n j w (base ++ []) = λ t. subst (λ (c : List ℕ). IsReady format n j w c) (sym (append-nil base)) (f.ready t) in
        let size : durable_of w ≡ length base + length (bytes_of []) = (let e = f.durable in omega (arith, e)) in
        record {
          managed = ready_managed [] [] [] w w refl (λ t. passes_none G.moment G.may_leave_since (disk_of w) (HasEnough format n j base [] (durable_of w))) (omega arith) ready f.works size (λ t. goes_none G.number G.fails (disk_of w)) (omega arith);
          current = λ e. record { front = []; rest = []; is = refl; left = f.none; durable = size; ready = ready };
        }

    -- `Writer::add` of the bytes of the pieces that a give with Gather appended (and `Writer::prepare`, with none)
    pub gathers : (taken more : List Piece) (w w1 w2 : Writer D G) → IsManaging format n j base taken w w1 → left_of w2 ≡ left_of w1 ++ bytes_of more → disk_of w2 ≡ disk_of w1 → durable_of w2 ≡ durable_of w1 → has_failed w2 ≡ has_failed w1 →
        ((format : Format) (n j : ℕ) (content : List ℕ) → IsReady format n j w1 content → IsReady format n j w2 content) → IsManaging format n j base (taken ++ more) w w2
    gathers taken more w w1 w2 g left disk durable works ready = record {
      managed = subst (λ (k : ℕ). HasWritten format n j base (taken ++ more) k w w2) (sym durable) (managed_grows taken more (durable_of w1) w w2 (managed_same taken (durable_of w1) w w1 w2 disk works g.managed));
      current = λ e.
          (let c = g.current (sym works ∙ e) in
          record {
            front = c.front;
            rest = c.rest ++ more;
            is = ap (λ (ps : List Piece). ps ++ more) c.is ∙ append_assoc c.front c.rest more;
            left = left ∙ ap (λ (b : List ℕ). b ++ bytes_of more) c.left ∙ sym (bytes_append c.rest more);
            durable = durable ∙ c.durable;
            ready = λ t. ready format n j (base ++ bytes_of c.front) (c.ready t);
          });
    }

    -- lack of memory after the give: the pieces are gathered, and the disk is as it was
    pub gathers_short : (taken more : List Piece) (w w1 w2 : Writer D G) → IsManaging format n j base taken w w1 → disk_of w2 ≡ disk_of w1 → durable_of w2 ≡ durable_of w1 → has_failed w2 ≡ has_failed w1 →
        HasWritten format n j base (taken ++ more) (durable_of w2) w w2
    gathers_short taken more w w1 w2 g disk durable works =
        subst (λ (k : ℕ). HasWritten format n j base (taken ++ more) k w w2) (sym durable) (managed_grows taken more (durable_of w1) w w2 (managed_same taken (durable_of w1) w w1 w2 disk works g.managed))

    -- a flush of the first pieces that are left, by the clauses of `Writer::flush_gated`
    module _ (counts_now : CountsNow G) (only_now : OnlyNow G) (taken : List Piece) (upto : ℕ) (w w1 w2 : Writer D G) (g : IsManaging format n j base taken w w1) (worked : has_failed w1 ≡ false)
        (now later : List Piece) (part : (g.current worked).rest ≡ now ++ later) (all : upto ≡ durable_of w1 + length (bytes_of now))
        (moments : G.tells → (format : Format) (n j : ℕ) (content : List ℕ) → IsReady format n j w1 content → Passes G.moment G.may_leave_since (disk_of w1) (disk_of w2) (IsOldOrNew format n j content (part_upto w1 upto)))
        (faults : G.faults (disk_of w1) ≤ G.faults (disk_of w2)) where
      abbrev c : IsCurrent format n j base taken w1
      c = g.current worked

      left_is : left_of w1 ≡ bytes_of now ++ bytes_of later
      left_is = c.left ∙ ap bytes_of part ∙ bytes_append now later

      size_is : upto - durable_of w1 ≡ length (bytes_of now)
      size_is = omega (arith, all)

      part_is : part_upto w1 upto ≡ bytes_of now
      part_is = ap (λ (k : ℕ). take k (left_of w1)) size_is ∙ ap (take (length (bytes_of now))) left_is ∙ take-append_seam (bytes_of now) (bytes_of later)

      whole_is : (base ++ bytes_of c.front) ++ part_upto w1 upto ≡ base ++ bytes_of (c.front ++ now)
      whole_is = ap (λ (b : List ℕ). (base ++ bytes_of c.front) ++ b) part_is ∙ append_assoc base (bytes_of c.front) (bytes_of now) ∙ ap (λ (b : List ℕ). base ++ b) (sym (bytes_append c.front now))

      split_is : taken ≡ (c.front ++ now) ++ later
      split_is = c.is ∙ ap (λ (ps : List Piece). c.front ++ ps) part ∙ sym (append_assoc c.front now later)

      long_is : length (bytes_of (c.front ++ now)) ≡ length (bytes_of c.front) + length (bytes_of now)
      long_is = ap (length {A = ℕ}) (bytes_append c.front now) ∙ length-append (bytes_of c.front) (bytes_of now)

      either : (x : List ℕ) → IsOldOrNew format n j (base ++ bytes_of c.front) (part_upto w1 upto) x → HasEnough format n j base taken (durable_of w) x
      either x (inl has) = (record { front = c.front; rest = c.rest; is = c.is; has = has }, (let d = c.durable in let up = g.managed.grown in omega (arith, d, up)))
      either x (inr has) = (
        record { front = c.front ++ now; rest = later; is = split_is; has = subst (λ (b : List ℕ). HasContent format n j b x) whole_is has },
        (let d = c.durable in let up = g.managed.grown in let long = long_is in omega (arith, d, up, long)),
      )

      passed : G.tells → Passes G.moment G.may_leave_since (disk_of w) (disk_of w2) (HasEnough format n j base taken (durable_of w))
      passed t = passes_on G.moment G.may_leave_since (disk_of w) (disk_of w1) (disk_of w2) (HasEnough format n j base taken (durable_of w)) (IsOldOrNew format n j (base ++ bytes_of c.front) (part_upto w1 upto)) (HasEnough format n j base taken (durable_of w))
          (g.managed.before t) (moments t format n j (base ++ bytes_of c.front) (c.ready t)) (λ x p. p) either

      -- these are durable
      pub flushed : durable_of w2 ≡ upto → left_of w2 ≡ drop (upto - durable_of w1) (left_of w1) → has_failed w2 ≡ false →
          (G.tells → (format : Format) (n j : ℕ) (content : List ℕ) → IsReady format n j w1 content → IsReady format n j w2 (content ++ part_upto w1 upto)) → (G.tells → GoesOn G.number G.fails (disk_of w1) (disk_of w2)) → IsManaging format n j base taken w w2
      flushed durable left works done goes =
          let ready : G.tells → IsReady format n j w2 (base ++ bytes_of (c.front ++ now)) = λ t. subst (λ (b : List ℕ). IsReady format n j w2 b) whole_is (done t format n j (base ++ bytes_of c.front) (c.ready t)) in
          let was = c.durable in
          let long = long_is in
          let size : durable_of w2 ≡ length base + length (bytes_of (c.front ++ now)) = omega (arith, durable, all, was, long) in
          record {
            managed = ready_managed taken (c.front ++ now) later w w2 split_is passed (let up = g.managed.grown in omega (arith, up, durable, all)) ready works size (λ t. goes_on G.number G.fails (disk_of w) (disk_of w1) (disk_of w2) (g.managed.goes worked t) (goes t)) (let x = g.managed.faults in omega (arith, x, faults));
            current = λ e. record {
              front = c.front ++ now;
              rest = later;
              is = split_is;
              left = left ∙ ap (λ (k : ℕ). drop k (left_of w1)) size_is ∙ ap (drop (length (bytes_of now))) left_is ∙ drop-append_seam (bytes_of now) (bytes_of later);
              durable = size;
              ready = ready;
            };
          }

      -- the disk failed
      pub broke : durable_of w2 ≡ durable_of w1 → has_failed w2 ≡ true → Rose (G.faults (disk_of w1)) (G.faults (disk_of w2)) →
          (G.tells → (format : Format) (n j : ℕ) (content : List ℕ) → IsReady format n j w1 content → MayHold format n j content (G.may_leave (disk_of w2))) → IsStopped G.tells G.number G.fails G.short (disk_of w1) (disk_of w2) → IsManaging format n j base taken w w2
      broke durable fails rose reached stops = record {
        managed = record {
          before = passed;
          grown = (let up = g.managed.grown in omega (arith, up, durable));
          present = λ t x left. by_image x (left_by G.moment G.may_leave_since G.may_leave counts_now only_now (disk_of w1) (disk_of w2) (IsOldOrNew format n j (base ++ bytes_of c.front) (part_upto w1 upto))
              (moments t format n j (base ++ bytes_of c.front) (c.ready t)) x left) t;
          reached = λ t.
              (let some = reached t format n j (base ++ bytes_of c.front) (c.ready t) in
              (some.0, base ++ bytes_of c.front, some.1, some.2, (let d = c.durable in let e = length-append base (bytes_of c.front) in omega (arith, d, e, durable))));
          goes = λ e. absurd (true_false (has_failed w2) fails e);
          stops = λ e. ((let x = g.managed.faults in rose_on (G.faults (disk_of w)) (G.faults (disk_of w1)) (G.faults (disk_of w2)) x rose), stops_on G.tells G.number G.fails G.short (disk_of w) (disk_of w1) (disk_of w2) (g.managed.goes worked) stops);
          faults = (let x = g.managed.faults in omega (arith, x, faults));
        };
        current = λ e. absurd (true_false (has_failed w2) fails e);
      }
        where
          rose_on : (a b c : ℕ) → a ≤ b → Rose b c → Rose a c
          rose_on a b c le r = omega (arith, le, r)

          by_image : (x : List ℕ) → G.may_leave (disk_of w1) x ⊎ IsOldOrNew format n j (base ++ bytes_of c.front) (part_upto w1 upto) x → G.tells →
              HasEnough format n j base taken (durable_of w2) x
          by_image x (inl was) t = (
            record { front = c.front; rest = c.rest; is = c.is; has = ready_has format n j w1 (base ++ bytes_of c.front) (c.ready t) x was },
            (let d = c.durable in omega (arith, d, durable)),
          )
          by_image x (inr (inl has)) t = (record { front = c.front; rest = c.rest; is = c.is; has = has }, (let d = c.durable in omega (arith, d, durable)))
          by_image x (inr (inr has)) t = (
            record { front = c.front ++ now; rest = later; is = split_is; has = subst (λ (b : List ℕ). HasContent format n j b x) whole_is has },
            (let d = c.durable in let long = long_is in omega (arith, d, durable, long)),
          )

-- ---- what was stored stays stored

module _ {D : Type 0} {G : Ghosts D} (format : Format) (n j : ℕ) (base : List ℕ) where
  -- a manager whose disk works may count its present writer as that of the entry
  pub entry_moves : (taken : List Piece) (w0 w : Writer D G) → has_failed w ≡ false → HasWritten format n j base taken (durable_of w) w0 w → HasWritten format n j base taken (durable_of w) w w
  entry_moves taken w0 w works g = record {
    before = λ t. passes_none G.moment G.may_leave_since (disk_of w) (HasEnough format n j base taken (durable_of w));
    grown = omega arith;
    present = g.present;
    reached = g.reached;
    goes = λ e t. goes_none G.number G.fails (disk_of w);
    stops = λ e. absurd (true_false (has_failed w) e works);
    faults = omega arith;
  }

  -- since then every image has at least what was durable
  pub stored_kept : (only_now : OnlyNow G) (taken more : List Piece) (stored : ℕ) (w0 w w' : Writer D G) → HasWritten format n j base taken (durable_of w) w0 w → HasWritten format n j base more stored w w' → G.tells →
      (x : List ℕ) → G.may_leave_since (disk_of w') (G.moment (disk_of w)) x → HasLong format n j (durable_of w) x
  stored_kept only_now taken more stored w0 w w' g h t x since = elim ((h.before t).new_ones (G.moment (disk_of w)) x (omega arith) since) [
    | inl was ↦ long taken (g.present t x (only_now (disk_of w) x was))
    | inr new ↦ long more new
  ]
    where
      long : (ps : List Piece) → HasEnough format n j base ps (durable_of w) x → HasLong format n j (durable_of w) x
      long ps p = (base ++ bytes_of p.0.front, p.0.has, (let e = length-append base (bytes_of p.0.front) in let low = p.1 in omega (arith, e, low)))
