-- A manager with its writer: each step keeps what its loop keeps.
use Rattle.std.proofs.Common.{ℕ, zero, suc, ◌+◌, ◌-◌, ◌<◌, ◌≤◌, ◌≡◌, inl, inr, true, false, List, [], ◌∷◌, ◌++◌, length, drop, refl, sym, ap, subst, ◌∙◌, arith, length-append, slice_index}
use Rattle.std.specs.Prelude.{slice_set}
use Rattle.std.proofs.lemmas.List.{append-nil}
use Rattle.tau_base.specs.declared.format.Format.{Format}
use Rattle.tau_disk.specs.Disk.{Passes, Rose}
use Rattle.tau_disk.specs.Used.{GoesOn, IsStopped}
use Rattle.tau_disk.specs.declared.disk.Disk.{Ghosts}
use Rattle.tau_outbox.specs.declared.Piece.{Piece}
use Rattle.tau_outbox.specs.Pieces.{bytes_of}
use Rattle.tau_stream.specs.declared.writer.Writer.{Writer}
use Rattle.tau_stream.specs.Stream.{IsOldOrNew, MayHold}
use Rattle.tau_stream.specs.Writer.{disk_of, durable_of, left_of, has_failed, part_upto, IsReady}
use Rattle.tau_rule.specs.Positions.{stores_to}
use Rattle.tau_desk.specs.Manages.{told_raised}
use Rattle.tau_desk.specs.Seats.{Manages, PlainManagerSeat}
use Rattle.tau_crew_facts.specs.Writers.{AllBecameDurable, BecameDurable, HasWritten, IsCurrent, IsManaging}
use Rattle.tau_crew_facts.proofs.DiskLaws.{CountsNow, OnlyNow, SeenNow}
use Rattle.tau_machine.proofs.Snoc.{member_snoc}
use Rattle.tau_crew_facts.proofs.Lasting.{durable_now, flush_keeps}
use Rattle.tau_crew_facts.proofs.ManagerWriter.{broke, bytes_append, flushed, gathers, gathers_short}
use Rattle.tau_crew.specs.Gathering.{AreLong, GathersMore, raised_in, stored_in, taken_in}
use Rattle.tau_crew.specs.Driving.{IsDriven, IsDrivenShort, IsFlushed}
use Rattle.tau_crew.proofs.Gathering.{long_back}

drop_long : (xs : List ℕ) (k : ℕ) → k ≡ length xs → drop k xs ≡ []
drop_long xs k e = subst (λ (i : ℕ). drop i xs ≡ []) (sym e) (all xs)
  where
    all : (ys : List ℕ) → drop (length ys) ys ≡ []
    all [] = refl
    all (y ∷ ys) = all ys

pub set_there : (xs : List ℕ) (j x : ℕ) → j < length xs → slice_index (slice_set xs j x) j ≡ x
set_there [] j x lt = absurd (omega (arith, lt))
set_there (y ∷ xs) zero x lt = refl
set_there (y ∷ xs) (suc j) x lt = set_there xs j x (omega (arith, lt))

-- the stream of a manager's seat is there
pub stream_there : (s : PlainManagerSeat) → Manages s → s.stream < length s.seen
stream_there s m = let a = m.stock.there in let b = m.seen_wide in omega (arith, a, b)

module _ {D : Type 0} {G : Ghosts D} (format : Format) (n j : ℕ) (base : List ℕ) (w0 : Writer D G) where
  -- the same positions, on the same disk
  all_same : (us vs : List ℕ) (d e : D) → vs ≡ us → e ≡ d → AllBecameDurable G format n j d us → AllBecameDurable G format n j e vs
  all_same us vs d e positions disk all = subst (λ (z : D × List ℕ). AllBecameDurable G format n j z.0 z.1) (λ i. (sym disk i, sym positions i)) all

  -- how many bytes the writer has that are not durable
  pub left_long : (s : PlainManagerSeat) (w : Writer D G) → IsDriven format n j base w0 s w → has_failed w ≡ false → s.stock.gathered ≡ durable_of w + length (left_of w)
  left_long s w d works =
      let c : IsCurrent format n j base (taken_in s) w = d.managing.current works in
      let a = d.counted in
      let b = c.durable in
      let left = ap (length {A = ℕ}) c.left in
      let whole : length (bytes_of (taken_in s)) ≡ length (bytes_of c.front) + length (bytes_of c.rest) = ap (λ (ps : List Piece). length (bytes_of ps)) c.is ∙ ap (length {A = ℕ}) (bytes_append c.front c.rest) ∙ length-append (bytes_of c.front) (bytes_of c.rest) in
      omega (arith, a, b, left, whole)

  -- what was gathered is handed to the writer
  pub driven_loaded : (seen_now : SeenNow G) (s s' : PlainManagerSeat) (body : List ℕ) (w w' : Writer D G) → IsDriven format n j base w0 s w → IsFlushed w → has_failed w ≡ false → GathersMore s s' [] body → left_of w' ≡ body → disk_of w' ≡ disk_of w → durable_of w' ≡ durable_of w → has_failed w' ≡ has_failed w →
      ((format : Format) (n j : ℕ) (content : List ℕ) → IsReady format n j w content → IsReady format n j w' content) → IsDriven format n j base w0 s' w'
  driven_loaded seen_now s s' body w w' d all works g left disk durable same ready =
      let more : left_of w' ≡ left_of w ++ bytes_of g.pieces = left ∙ g.bytes ∙ ap (λ (b : List ℕ). b ++ bytes_of g.pieces) (sym (all works)) in
      record {
        stream = g.stream ∙ d.stream;
        managing = subst (λ (ps : List Piece). IsManaging format n j base ps w0 w') (sym g.taken) (gathers format n j base seen_now (taken_in s) g.pieces w0 w w' d.managing more disk durable same ready);
        stored = ap (λ (v : List ℕ). slice_index v j) g.seen ∙ d.stored ∙ sym durable;
        counted =
            (let a = g.gathered in
            let b = d.counted in
            let c = ap (λ (ps : List Piece). length (bytes_of ps)) g.taken in
            let e = ap (length {A = ℕ}) (bytes_append (taken_in s) g.pieces) in
            let f = length-append (bytes_of (taken_in s)) (bytes_of g.pieces) in
            omega (arith, a, b, c, e, f));
        long = long_back g.gone s'.stock.own.pieces (subst AreLong g.own d.long);
        raised = g.raised ∙ d.raised ∙ sym same;
        lasts = λ t. all_same (stored_in s) (stored_in s') (disk_of w) (disk_of w') g.stored disk (d.lasts t);
      }

  -- or memory ran out
  pub driven_short : (seen_now : SeenNow G) (s s' : PlainManagerSeat) (b b' : List ℕ) (w w' : Writer D G) → IsDriven format n j base w0 s w → GathersMore s s' b b' → disk_of w' ≡ disk_of w → durable_of w' ≡ durable_of w → has_failed w' ≡ has_failed w → IsDrivenShort format n j base w0 s' w'
  driven_short seen_now s s' b b' w w' d g disk durable same = record {
    stream = g.stream ∙ d.stream;
    stored = ap (λ (v : List ℕ). slice_index v j) g.seen ∙ d.stored ∙ sym durable;
    written =
        subst (λ (k : ℕ). HasWritten format n j base (taken_in s') k w0 w') (sym (ap (λ (v : List ℕ). slice_index v j) g.seen ∙ d.stored ∙ sym durable))
        (subst (λ (ps : List Piece). HasWritten format n j base ps (durable_of w') w0 w') (sym g.taken) (gathers_short format n j base seen_now (taken_in s) g.pieces w0 w w' d.managing disk durable same));
    lasts = λ t. all_same (stored_in s) (stored_in s') (disk_of w) (disk_of w') g.stored disk (d.lasts t);
  }

  -- a step that leaves the writer, and of the seat what the loop speaks of
  pub driven_same : (s s' : PlainManagerSeat) (w : Writer D G) → IsDriven format n j base w0 s w → s'.stream ≡ s.stream → taken_in s' ≡ taken_in s → slice_index s'.seen j ≡ slice_index s.seen j → s'.stock.gathered ≡ s.stock.gathered → AreLong s'.stock.own.pieces → raised_in s'.me.0 ≡ raised_in s.me.0 → stored_in s' ≡ stored_in s →
      IsDriven format n j base w0 s' w
  driven_same s s' w d stream taken seen gathered long raised all_stored = record {
    stream = stream ∙ d.stream;
    managing = subst (λ (ps : List Piece). IsManaging format n j base ps w0 w) (sym taken) d.managing;
    stored = seen ∙ d.stored;
    counted = gathered ∙ d.counted ∙ ap (λ (ps : List Piece). length base + length (bytes_of ps)) (sym taken);
    long = long;
    raised = raised ∙ d.raised;
    lasts = λ t. all_same (stored_in s) (stored_in s') (disk_of w) (disk_of w) all_stored refl (d.lasts t);
  }

  -- what is driven has written so much
  pub short_of : (s : PlainManagerSeat) (w : Writer D G) → IsDriven format n j base w0 s w → IsDrivenShort format n j base w0 s w
  short_of s w d = record { stream = d.stream; stored = d.stored; written = subst (λ (k : ℕ). HasWritten format n j base (taken_in s) k w0 w) (sym d.stored) d.managing.managed; lasts = d.lasts }

  module _ (seen_now : SeenNow G) (counts_now : CountsNow G) (only_now : OnlyNow G) (s s' : PlainManagerSeat) (w w' : Writer D G) (d : IsDriven format n j base w0 s w) (works : has_failed w ≡ false) (upto : ℕ) (all : upto ≡ durable_of w + length (left_of w))
      (moments : G.tells → (format : Format) (n j : ℕ) (content : List ℕ) → IsReady format n j w content → Passes G.moment G.may_leave_since (disk_of w) (disk_of w') (IsOldOrNew format n j content (part_upto w upto))) (faults : G.faults (disk_of w) ≤ G.faults (disk_of w')) where
    abbrev current : IsCurrent format n j base (taken_in s) w
    current = d.managing.current works

    abbrev rest : List Piece
    rest = current.rest

    whole : rest ≡ rest ++ []
    whole = sym (append-nil rest)

    upto_is : upto ≡ durable_of w + length (bytes_of rest)
    upto_is = all ∙ ap (λ (b : List ℕ). durable_of w + length b) current.left

    -- a flush of all, and its end was stored
    pub driven_flushed : Manages s → s' ≡ record s { me = (stores_to s.stream upto s.me.0, s.me.1); seen = slice_set s.seen s.stream upto } → durable_of w' ≡ upto → left_of w' ≡ drop (upto - durable_of w) (left_of w) → has_failed w' ≡ false →
        (G.tells → (format : Format) (n j : ℕ) (content : List ℕ) → IsReady format n j w content → IsReady format n j w' (content ++ part_upto w upto)) → (G.tells → GoesOn G.number G.fails (disk_of w) (disk_of w')) → IsDriven format n j base w0 s' w' × IsFlushed w'
    driven_flushed m knows durable left fine done goes = (
      record {
        stream = ap (λ (x : PlainManagerSeat). x.stream) knows ∙ d.stream;
        managing = subst (λ (ps : List Piece). IsManaging format n j base ps w0 w') (sym (ap taken_in knows)) written;
        stored =
            (let here : slice_index (slice_set s.seen s.stream upto) s.stream ≡ upto = set_there s.seen s.stream upto (stream_there s m) in
            ap (λ (x : PlainManagerSeat). slice_index x.seen j) knows ∙ subst (λ (i : ℕ). slice_index (slice_set s.seen s.stream upto) i ≡ upto) d.stream here ∙ sym durable);
        counted = ap (λ (x : PlainManagerSeat). x.stock.gathered) knows ∙ d.counted ∙ ap (λ (ps : List Piece). length base + length (bytes_of ps)) (sym (ap taken_in knows));
        long = subst (λ (x : PlainManagerSeat). AreLong x.stock.own.pieces) (sym knows) d.long;
        raised = ap (λ (x : PlainManagerSeat). raised_in x.me.0) knows ∙ d.raised ∙ works ∙ sym fine;
        lasts = λ t. subst (λ (us : List ℕ). AllBecameDurable G format n j (disk_of w') us) (sym (ap stored_in knows)) (lasts t);
      },
      λ f. left ∙ drop_long (left_of w) (upto - durable_of w) (let e = all in omega (arith, e)),
    )
      where
        written : IsManaging format n j base (taken_in s) w0 w'
        written = flushed format n j base seen_now counts_now only_now (taken_in s) upto w0 w w' d.managing works rest [] whole upto_is moments faults durable left fine done goes

        -- those before and the new one
        lasts : G.tells → AllBecameDurable G format n j (disk_of w') (stored_in s ++ upto ∷ [])
        lasts t u m = elim (member_snoc (stored_in s) upto u m) [
          | inl was ↦ flush_keeps format n j counts_now base (taken_in s) w0 w w' upto d.managing works moments (stored_in s) t (d.lasts t) u was
          | inr is ↦ subst (λ (k : ℕ). BecameDurable G format n j (disk_of w') k) (durable ∙ is) (durable_now format n j counts_now only_now base (taken_in s) (durable_of w') w0 w' written.managed t)
        ]

    -- the disk failed, and the stop was raised
    pub driven_broke : s' ≡ record s { me = (told_raised s.me.0, s.me.1) } → durable_of w' ≡ durable_of w → has_failed w' ≡ true → Rose (G.faults (disk_of w)) (G.faults (disk_of w')) →
        (G.tells → (format : Format) (n j : ℕ) (content : List ℕ) → IsReady format n j w content → MayHold format n j content (G.may_leave (disk_of w'))) → IsStopped G.tells G.number G.fails G.short (disk_of w) (disk_of w') → IsDriven format n j base w0 s' w' × IsFlushed w'
    driven_broke knows durable fails rose reached stops = (
      record {
        stream = ap (λ (x : PlainManagerSeat). x.stream) knows ∙ d.stream;
        managing = subst (λ (ps : List Piece). IsManaging format n j base ps w0 w') (sym (ap taken_in knows))
            (broke format n j base seen_now counts_now only_now (taken_in s) upto w0 w w' d.managing works rest [] whole upto_is moments faults durable fails rose reached stops);
        stored = ap (λ (x : PlainManagerSeat). slice_index x.seen j) knows ∙ d.stored ∙ sym durable;
        counted = ap (λ (x : PlainManagerSeat). x.stock.gathered) knows ∙ d.counted ∙ ap (λ (ps : List Piece). length base + length (bytes_of ps)) (sym (ap taken_in knows));
        long = subst (λ (x : PlainManagerSeat). AreLong x.stock.own.pieces) (sym knows) d.long;
        raised = ap (λ (x : PlainManagerSeat). raised_in x.me.0) knows ∙ sym fails;
        lasts = λ t. subst (λ (us : List ℕ). AllBecameDurable G format n j (disk_of w') us) (sym (ap stored_in knows)) (flush_keeps format n j counts_now base (taken_in s) w0 w w' upto d.managing works moments (stored_in s) t (d.lasts t));
      },
      λ f. (let bad : true ≡ false = sym fails ∙ f in absurd (cc bad)),
    )
