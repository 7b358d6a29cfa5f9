-- A stream starts on what was read of its disk.
use Rattle.std.proofs.Common.{ℕ, ◌≡◌, ◌+◌, ◌<◌, ◌≤◌, List, [], ◌∷◌, refl, sym, ap, subst, ◌∙◌, inl, inr, length, take, drop, arith}
use Rattle.std.specs.Prelude.{Option, Some, None, IsSome, IsNone, slice_get, slice_index}
use Rattle.tau_base.proofs.Logic.{some_is}
use Rattle.tau_base.proofs.Lists.{got_within, some_at}
use Rattle.tau_base.specs.declared.format.Format.{Format}
use Rattle.tau_block.specs.declared.content.Content.{Content}
use Rattle.tau_block.specs.Image.{IfBorn, IsLog, count_in, format_in, index_in}
use Rattle.tau_disk.specs.declared.disk.Disk.{Ghosts}
use Rattle.tau_disk.specs.Disk.{Passes}
use Rattle.tau_disk.specs.Used.{EachIn}
use Rattle.tau_scan.specs.Contents.{IsContentOf, bytes_in}
use Rattle.tau_stream.specs.declared.writer.Writer.{Writer}
use Rattle.tau_stream.specs.Stream.{IsOldOrNew, IsRead, IsSettled, IsUnborn, calls_to_reopen}
use Rattle.tau_stream.proofs.Heads.{of_stream}
use Rattle.tau_open.specs.declared.refusal.OpenRefusal.{OpenRefusal}
use Rattle.tau_open.specs.declared.refusal.OpenRefusal.TheVariants as opens
use Rattle.tau_open.specs.declared.start.StreamStart.{StreamStart}
use Rattle.tau_open.specs.Reopening.{AreRead, AreStreamStarts, Starts, StartedAt, FailsAt, RefusesStart, Starting}
use Rattle.tau_disk.specs.Stages.{Staged, StageFails}
use Rattle.tau_disk.proofs.Calls.{went_on}
use Rattle.tau_disk.proofs.Places.{get_dropped, dropped_more}
use Rattle.tau_scan.specs.declared.fault.LogFault.{LogFault}
use Rattle.tau_scan.specs.declared.fault.ScanRefusal.{ScanRefusal}
use Rattle.tau_scan.specs.declared.fault.ScanRefusal.TheVariants as refusal
use Rattle.tau_begin.specs.Given.{next_epoch}
use Rattle.tau_begin.specs.Starts.{IsStartOf}
use Rattle.tau_begin.specs.Reading.{calls_before_writes, WasRead, WereRead}
use Rattle.tau_begin.specs.Opened.{IsTouched, TouchedAt, OpenedAt, BreaksAt, StartsSome, StopsStarting, IsBegun, IsOpenRun, RefusesReading, RefusesRun}
use Rattle.tau_begin.proofs.Slices.{get_take}

-- what is said of stream j of n is said of the stream that its head names
to_stream : (f : Format) (n j : ℕ) (head : List ℕ) → format_in head ≡ f → (count_in head ≡ n) × (index_in head ≡ j) → (P : Format → ℕ → ℕ → Type 0) → P f n j → P (format_in head) (count_in head) (index_in head)
to_stream f n j head format names P p =
    subst (λ (i : ℕ). P (format_in head) (count_in head) i) (sym names.1) (subst (λ (m : ℕ). P (format_in head) m j) (sym names.0) (subst (λ (g : Format). P g n j) (sym format) p))

born_log : (f : Format) (n j : ℕ) (image : List ℕ) (gate : ℕ) (bytes : List ℕ) (fo : Option Format) (co : Option ℕ) → IfBorn fo co (λ g m. IsLog g m j image gate bytes) → IfBorn fo co (λ g m. (g ≡ f) × (m ≡ n)) →
    (IsNone fo → IsNone co) → IsSome co → IsLog f n j image gate bytes
born_log f n j image gate bytes (Some g) (Some m) is states stated some = subst (λ (k : ℕ). IsLog f k j image gate bytes) states.1 (subst (λ (h : Format). IsLog h m j image gate bytes) states.0 is)
born_log f n j image gate bytes None (Some m) is states stated some = absurd (cc (stated refl))
born_log f n j image gate bytes (Some g) None is states stated some = absurd (cc some)
born_log f n j image gate bytes None None is states stated some = absurd (cc some)

module _ {D : Type 0} (G : Ghosts D) (f : Format) (n j : ℕ) (text : List ℕ) (epoch : ℕ) (lv : List ℕ) (long : ℕ) (d mid : D) (read : WasRead G long d mid) (c : Content) (p : StreamStart) (content : G.tells → IsContentOf f n j (G.seen d) c)
    (start : IsStartOf f n j text epoch lv c p) where
  module _ (t : G.tells) where
    is : IsContentOf f n j (G.seen d) c
    is = content t

    -- a born stream is settled
    settled : IsSome c.count → IsSettled f n j (G.seen mid) (G.may_leave mid) c.gate_at c.bytes
    settled some =
        let log : IsLog f n j (G.seen d) c.gate_at c.bytes = born_log f n j (G.seen d) c.gate_at c.bytes c.format c.count is.gate is.states is.stated.0 some in
        record {
          log = subst (λ (x : List ℕ). IsLog f n j x c.gate_at c.bytes) (sym (read.same t)) log;
          only = read.settled t (λ none. let low = log.within in absurd (no_place low (ap (λ (x : List ℕ). length x) none)));
        }
      where
        no_place : c.gate_at < length (G.seen d) → length (G.seen d) ≡ 0 → ⊥
        no_place low none = omega (arith, low, none)

    short : IsNone c.count → length (G.seen mid) ≤ 17
    short none = subst (λ (x : List ℕ). length x ≤ 17) (sym (read.same t)) (is.short none).1

    pub can_read : IsRead p.head p.content (G.seen mid) (G.may_leave mid)
    can_read = subst (λ (x : Content). IsRead p.head x (G.seen mid) (G.may_leave mid)) (sym start.content) (record {
      settled = λ some. to_stream f n j p.head start.format start.names (λ (g : Format) (m i : ℕ). IsSettled g m i (G.seen mid) (G.may_leave mid) c.gate_at c.bytes) (settled some);
      unborn = short;
    })

    unborn_by : (xs : List ℕ) → G.seen d ≡ xs → (G.seen d ≡ [] → IsUnborn (G.may_leave d)) → IsNone c.count → IsUnborn (G.may_leave mid)
    unborn_by [] empty unborn none x m = unborn empty x (read.only.no_more x m)
    unborn_by (y ∷ ys) full unborn none x m =
        let same : x ≡ G.seen mid = read.settled t (λ empty. no_list (sym full ∙ empty)) x m in
        subst (λ (z : List ℕ). length z ≤ 17) (sym same) (short none)
      where
        no_list : y ∷ ys ≡ [] → ⊥
        no_list e = cc

    still_unborn : (G.seen d ≡ [] → IsUnborn (G.may_leave d)) → IsNone p.content.count → IsUnborn (G.may_leave mid)
    still_unborn unborn none = unborn_by (G.seen d) refl unborn (subst (λ (x : Content). IsNone x.count) start.content none)

  pub touched : (e : D) → Starts G p mid e → IsTouched G f n j long p.content.bytes p.body d e
  touched e starts = record {
    mid = mid;
    read = read;
    starts = λ t unborn. of_stream f n j p.head start.format start.names (λ (g : Format) (m i : ℕ). Passes G.moment G.may_leave_since mid e (IsOldOrNew g m i p.content.bytes p.body)) (starts t (still_unborn t unborn));
  }

-- ---- over the list

module _ {D : Type 0} (G : Ghosts D) (f : Format) (n : ℕ) (text : List ℕ) (old mid : List D) (sizes : List ℕ) (starts : List StreamStart) (begun : IsBegun G f text (take n old) sizes starts) (many : length starts ≡ n) (there : n ≤ length old)
    (were : WereRead G sizes n old mid) where
  counted : length begun.contents ≡ n
  counted = sym begun.begins.starts_are.many ∙ many

  content_at : (j : ℕ) (d : D) (c : Content) → j < n → slice_get old j ≡ Some d → slice_get begun.contents j ≡ Some c → G.tells → IsContentOf f (length begun.contents) j (G.seen d) c
  content_at j d c low was at t =
      let has = begun.read.contents_are in
      let is = has.each t j d c (get_take old n j low ∙ was) at in
      subst (λ (m : ℕ). IsContentOf f m j (G.seen d) c) (sym has.many) (subst (λ (g : Format). IsContentOf g (length (take n old)) j (G.seen d) c) (has.as_asked f refl) is)

  -- what stream j starts with
  start_at : (j : ℕ) (p : StreamStart) → slice_get starts j ≡ Some p → (c : Content) × (slice_get begun.contents j ≡ Some c) × IsStartOf f (length begun.contents) j text (next_epoch (bytes_in begun.contents) begun.log) begun.log.elv c p
  start_at j p at = begun.begins.starts_are.each j p at

  pub are_sound : AreStreamStarts starts
  are_sound j p at = let (c, here, is) = start_at j p at in is.sound

  pub are_read : G.tells → AreRead G starts mid
  are_read t j e p now at =
      let low : j < n = subst (λ (k : ℕ). j < k) many (got_within starts j p at) in
      let (d, was) = some_at old j (omega (arith, low, there)) in
      let (g, is, rd) = were j d low was in
      let (c, here, start) = start_at j p at in
      let same : g ≡ e = some_is g e (sym is ∙ now) in
      can_read G f (length begun.contents) j text (next_epoch (bytes_in begun.contents) begun.log) begun.log.elv (slice_index sizes j) d e (subst (λ (z : D). WasRead G (slice_index sizes j) d z) same rd) c p (content_at j d c low was here) start t

  resized : (j : ℕ) (p : StreamStart) (d e : D) → IsTouched G f (length begun.contents) j (slice_index sizes j) p.content.bytes p.body d e → IsTouched G f (length starts) j (slice_index sizes j) p.content.bytes p.body d e
  resized j p d e touched = subst (λ (m : ℕ). IsTouched G f m j (slice_index sizes j) p.content.bytes p.body d e) (counted ∙ sym many) touched

  -- a stream that started, or failed to
  touched_at : (j : ℕ) (d e g : D) → j < n → slice_get old j ≡ Some d → WasRead G (slice_index sizes j) d e → ((p : StreamStart) → slice_get starts j ≡ Some p → Starts G p e g) → TouchedAt G f sizes starts j d g
  touched_at j d e g low was rd st p at =
      let (c, here, start) = start_at j p at in
      resized j p d g (touched G f (length begun.contents) j text (next_epoch (bytes_in begun.contents) begun.log) begun.log.elv (slice_index sizes j) d e rd c p (content_at j d c low was here) start g (st p at))

  opened_at : (j : ℕ) (d e g : D) → j < n → slice_get old j ≡ Some d → WasRead G (slice_index sizes j) d e → StartedAt G starts j e g → OpenedAt G f sizes starts j d g
  opened_at j d e g low was rd st = (
    touched_at j d e g low was rd (λ p at. (st p at).starts),
    λ p at. went_on G (calls_before_writes (slice_index sizes j)) (calls_to_reopen p.content.count) d e g rd.went (st p at).went,
  )

  breaks_at : (j : ℕ) (d e g : D) → j < n → slice_get old j ≡ Some d → WasRead G (slice_index sizes j) d e → FailsAt G starts j e g → BreaksAt G f sizes starts j d g
  breaks_at j d e g low was rd fails = (touched_at j d e g low was rd (λ p at. (fails p at).starts), λ p at. (e, rd, (fails p at).broke))

  pub is_open : (new : List D) (ws : List (Writer D G)) → drop n mid ≡ drop n old → Starting G starts (length starts) mid new ws → IsOpenRun G f n text old new begun.opening ws
  is_open new ws rest st = record {
    sizes = sizes;
    starts = starts;
    begun = begun;
    opening = refl;
    count = st.count ∙ many;
    rest = st.rest_is ∙ ap (λ (k : ℕ). drop k mid) many ∙ rest;
    disks = λ j d low was.
        let (e, there, rd) = were j d low was in
        let (g, is, r) = st.disks j e (subst (λ (k : ℕ). j < k) (sym many) low) there in
        (g, is, opened_at j d e g low was rd r);
    writers = st.begun;
  }

  -- the disks below a place, whose streams have started, and those above one, which were read alone
  below_in : (new : List D) (k : ℕ) → k ≤ n → EachIn (λ i. i < k) (StartedAt G starts) mid new → EachIn (λ i. i < k) (OpenedAt G f sizes starts) old new
  below_in new k le each j d under was =
      let (e, there, rd) = were j d (omega (arith, under, le)) was in
      let (g, is, r) = each j e under there in
      (g, is, opened_at j d e g (omega (arith, under, le)) was rd r)

  above_in : (new : List D) (k j : ℕ) (d : D) → drop k new ≡ drop k mid → k ≤ j → j < n → slice_get old j ≡ Some d → (e : D) × (slice_get new j ≡ Some e) × WasRead G (slice_index sizes j) d e
  above_in new k j d rest le lt was = let (e, there, rd) = were j d lt was in (e, get_dropped new mid k j rest le ∙ there, rd)

  starts_some : (new : List D) (k : ℕ) → Staged (StartedAt G starts) k mid new → k ≤ n → StartsSome G f n text k old new
  starts_some new k staged le = record {
    sizes = sizes;
    starts = starts;
    begun = begun;
    below = below_in new k le staged.each;
    above = λ j d p was. above_in new k j d staged.rest p.0 p.1 was;
  }

  stops_starting : (new : List D) (k : ℕ) → StageFails (StartedAt G starts) (FailsAt G starts) k mid new → k < n → StopsStarting G f n text k old new
  stops_starting new k fails lt =
      let (d, was) = some_at old k (omega (arith, lt, there)) in
      let (e, now, rd) = were k d lt was in
      let (b, g, here, is, r) = fails.here in
      let it : b ≡ e = some_is b e (sym here ∙ now) in
      record {
        sizes = sizes;
        starts = starts;
        begun = begun;
        low = lt;
        below = below_in new k (omega (arith, lt)) fails.below;
        here = (d, g, was, is, breaks_at k d e g lt was rd (subst (λ (z : D). FailsAt G starts k z g) it r));
        above = λ j d p was. above_in new (k + 1) j d fails.rest (let over = p.0 in omega (arith, over)) p.1 was;
      }

  -- what the refusal of a start tells
  pub refused_start : (new : List D) (e : OpenRefusal) (told : ScanRefusal) → RefusesStart G starts mid new e → ((j : ℕ) → e ≡ opens.Failed j → told ≡ refusal.Failed j) → ((j : ℕ) → told ≡ refusal.Failed j → e ≡ opens.Failed j) →
      ((fault : LogFault) → told ≡ refusal.Bad fault → ⊥) → RefusesRun G f n text old new told
  refused_start new opens.NoMemory refusal.NoMemory (k, le, staged) failed only good = let low : k ≤ n = omega (arith, le, many) in inr (k, low, starts_some new k staged low)
  refused_start new opens.NoMemory (refusal.Failed j) refuses failed only good = absurd (no_failure (only j refl))
    where
      no_failure : opens.NoMemory ≡ opens.Failed j → ⊥
      no_failure e = cc
  refused_start new opens.NoMemory (refusal.Bad fault) refuses failed only good = absurd (good fault refl)
  refused_start new (opens.Failed k) told (lt, fails) failed only good =
      let low : k < n = omega (arith, lt, many) in
      subst (λ (r : ScanRefusal). RefusesRun G f n text old new r) (sym (failed k refl)) (inr (stops_starting new k fails low))
  refused_start new (opens.NotEmpty j long) told refuses failed only good = absurd refuses

  pub start_rest : (new : List D) (e : OpenRefusal) → RefusesStart G starts mid new e → drop n mid ≡ drop n old → drop n new ≡ drop n old
  start_rest new opens.NoMemory (k, le, staged) rest = dropped_more new mid k n staged.rest (omega (arith, le, many)) ∙ rest
  start_rest new (opens.Failed k) (lt, fails) rest = dropped_more new mid (k + 1) n fails.rest (omega (arith, lt, many)) ∙ rest
  start_rest new (opens.NotEmpty j long) refuses rest = absurd refuses

-- a refusal before anything was written is one of the opening
pub reading_refused : {D : Type 0} (G : Ghosts D) (f : Format) (n : ℕ) (text : List ℕ) (old new : List D) (e : ScanRefusal) → RefusesReading G f n text old new e → RefusesRun G f n text old new e
reading_refused G f n text old new refusal.NoMemory refuses = inl refuses
reading_refused G f n text old new (refusal.Failed j) refuses = inl refuses
reading_refused G f n text old new (refusal.Bad fault) refuses = refuses
