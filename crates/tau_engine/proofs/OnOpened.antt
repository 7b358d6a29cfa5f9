-- What a run begins on once its streams were opened.
use Rattle.std.proofs.Common.{ℕ, suc, ◌+◌, ◌<◌, ◌≤◌, ◌≡◌, true, false, Bool, List, [], ◌∷◌, ◌++◌, map, length, take, drop, Result, Err, refl, sym, ap, subst, ◌∙◌, arith}
use Rattle.std.specs.Prelude.{Option, Some, None, Ok, nat_le, slice_get, slice_index, IsNone, if◌then◌else◌}
use Rattle.std.proofs.lemmas.Bool.Decides.{nat_tests}
use Rattle.std.proofs.lemmas.List.{length-append}
use Rattle.tau_base.specs.declared.format.Format.{Format}
use Rattle.tau_base.specs.Vectors.{AtMost}
use Rattle.tau_base.proofs.Lists.{some_at, got_within, length_mapped}
use Rattle.tau_base.proofs.Logic.{some_is}
use Rattle.tau_block.specs.declared.content.Content.{Content}
use Rattle.tau_block.specs.declared.fault.ImageFault.{ImageFault}
use Rattle.tau_block.specs.Image.{HasContent, IfBorn, IsLog, Reading, behind_header, bodies, header_fault, image_of, count_in, format_in, index_in}
use Rattle.tau_block.proofs.Blocks.{short_content, log_read}
use Rattle.tau_disk.specs.declared.disk.Disk.{Ghosts}
use Rattle.tau_disk.specs.Plan.{MadeAll}
use Rattle.tau_disk.specs.Stages.{Went}
use Rattle.tau_stream.specs.declared.writer.Writer.{Writer}
use Rattle.tau_stream.specs.Stream.{calls_to_reopen}
use Rattle.tau_stream.specs.Writer.{IsReady}
use Rattle.tau_open.specs.declared.start.StreamStart.{StreamStart}
use Rattle.tau_open.specs.Reopening.{HasStarted, started}
use Rattle.tau_scan.specs.Begins.{begins_fault}
use Rattle.tau_scan.specs.Contents.{IsContentOf, bytes_in}
use Rattle.tau_scan.specs.Reading.{contents_of}
use Rattle.tau_core.specs.declared.opening.Opening.{Opening}
use Rattle.tau_core.specs.Opens.{Fits}
use Rattle.tau_text.specs.declared.load.Workload.{Workload}
use Rattle.tau_text.specs.Canonical.{declarations_text}
use Rattle.tau_run.specs.Start.{Start, IsStart, given_first, old_at, opened_at, opened_with}
use Rattle.tau_run.specs.CoreRun.{IsOpeningOn}
use Rattle.tau_run.proofs.Begins.{elv_at, elv_wide, streams_wide}
use Rattle.tau_run.proofs.History.{index_mapped}
use Rattle.tau_run.proofs.Logs.{length_at}
use Rattle.tau_record.specs.declared.entry.Placed.{Placed}
use Rattle.tau_record.specs.Content.{anchors_of}
use Rattle.tau_scan.proofs.Streams.{map_get}
use Rattle.tau_base.proofs.Vectors.{at_most_within}
use Rattle.tau_run.specs.Writers.{AreNew, IsBegun as StreamsBegun}
use Rattle.tau_begin.specs.Reading.{calls_before_writes}
use Rattle.tau_begin.specs.Opened.{IsBegun}
use Rattle.tau_begin.proofs.Slices.{get_take, taken_long}
use Rattle.tau_begin_laws.specs.Laws.{start_on, IsOpened}
use Rattle.tau_begin_laws.proofs.Starting as starting
use Rattle.tau_begin_laws.proofs.Images.{images_hold, seen_hold}
use Rattle.tau_engine.specs.Opening.{opening_calls}
use Rattle.tau_commands.specs.Recovery.{images_of}

-- ---- contents of images

born_has : (f : Format) (n j : ℕ) (image bytes : List ℕ) (gate : ℕ) (fo : Option Format) (co : Option ℕ) → IfBorn fo co (λ g m. IsLog g m j image gate bytes) → IfBorn fo co (λ g m. (g ≡ f) × (m ≡ n)) → (IsNone fo → IsNone co) → (IsNone co → (bytes ≡ []) × (length image ≤ 17)) →
    HasContent f n j bytes image
born_has f n j image bytes gate fo None is states stated short =
    let (none, low) = short refl in
    subst (λ (xs : List ℕ). HasContent f n j xs image) (sym none) (short_content f n j image low)
born_has f n j image bytes gate None (Some m) is states stated short = absurd (cc (stated refl))
born_has f n j image bytes gate (Some g) (Some m) is states stated short =
    log_read f n j image gate bytes (subst (λ (k : ℕ). IsLog f k j image gate bytes) states.1 (subst (λ (h : Format). IsLog h m j image gate bytes) states.0 is))

pub content_has : (f : Format) (n j : ℕ) (image : List ℕ) (c : Content) → IsContentOf f n j image c → HasContent f n j c.bytes image
content_has f n j image c is = born_has f n j image c.bytes c.gate_at c.format c.count is.gate is.states is.stated.0 is.short

pub no_content : (f : Format) (n j : ℕ) (old : List ℕ) → HasContent f n j old [] → old ≡ []
no_content f n j old has = sym (some_is [] old has)

abbrev counted : Result Reading ImageFault → Option ℕ
counted (Ok r) = r.count
counted (Err e) = None

-- an image is born exactly if it is longer than a header and a gate
calls_by : (j : ℕ) (image : List ℕ) (format : Option Format) (count : Option ℕ) (bytes : List ℕ) (b : Bool) → nat_le (length image) 17 ≡ b → image_of j image ≡ Ok (record { format = format; count = count; bytes = bytes }) → (IsNone count → length image ≤ 17) →
    calls_to_reopen count ≡ (if b then 6 else 4)
calls_by j image format None bytes true e is short = refl
calls_by j image format None bytes false e is short = absurd (let low = short refl in let no : nat_le (length image) 17 ≡ true = grind (arith, nat_tests, low) in cc (sym e ∙ no))
calls_by j image format (Some m) bytes false e is short = refl
calls_by j image format (Some m) bytes true e is short = absurd (born_short e is)
  where
    born_short : nat_le (length image) 17 ≡ true → image_of j image ≡ Ok (record { format = format; count = Some m; bytes = bytes }) → ⊥
    born_short short has =
        let by : Bool → Result Reading ImageFault = λ b. if b then Ok (record { format = None; count = None; bytes = [] }) else behind_header (take 16 image) (header_fault j (take 16 image)) (bodies 0 (drop 16 image)) in
        let none : by true ≡ Ok (record { format = format; count = Some m; bytes = bytes }) = sym (ap by short) ∙ has in
        let bad : None ≡ Some m = ap counted none in
        cc bad

pub reopen_calls : (f : Format) (n j : ℕ) (image : List ℕ) (c : Content) → IsContentOf f n j image c → calls_to_reopen c.count ≡ (if nat_le (length image) 17 then 6 else 4)
reopen_calls f n j image c is = calls_by j image c.format c.count c.bytes (nat_le (length image) 17) refl is.is (λ none. (is.short none).1)

pub went_as : {D : Type 0} (G : Ghosts D) (a b : ℕ) (d e : D) → Went G a d e → (G.tells → a ≡ b) → Went G b d e
went_as G a b d e went same = record { counts = went.counts; same = went.same; made = λ t. subst (λ (k : ℕ). MadeAll k (G.number d) (G.number e) (G.fails d) (G.short d) (G.short e)) (same t) (went.made t) }

-- ---- the state in which the run begins

module _ (f : Format) (n : ℕ) (load : Workload) (start : Start) (begins : IsStart f n load start) (o : Opening) (on : IsOpeningOn load start o) where
  pub ends_long : length o.ends ≡ n
  ends_long = ap length on.ends ∙ length_mapped (λ (old : List ℕ). length (opened_with load start old)) start.old ∙ begins.count

  pub end_at : (j : ℕ) → j < n → length (opened_at load start j) ≡ slice_index o.ends j
  end_at j lt = sym (ap (λ (v : List ℕ). slice_index v j) on.ends ∙ index_mapped (λ (old : List ℕ). length (opened_with load start old)) start.old [] j (let count = begins.count in omega (arith, count, lt)))

  -- its parts fit
  pub fits : Fits o
  fits = record {
    floor = ap length on.floor ∙ elv_wide f n load start begins ∙ sym ends_long;
    covered = subst (λ (v : List ℕ). AtMost v o.ends) (sym on.floor) (at_most_within start.log.elv o.ends (λ j lt.
        let low : j < n = (let wide = elv_wide f n load start begins in omega (arith, lt, wide)) in
        let here = elv_at f n load start begins j low in
        let there = end_at j low in
        let more = length-append (old_at start j) (given_first load start (old_at start j)) in
        omega (arith, here, there, more)));
    anchors = ap length on.anchors ∙ length_mapped (λ (ps : List Placed). length (anchors_of ps)) start.log.streams ∙ streams_wide f n load start begins ∙ sym ends_long;
  }

  -- the writers have what the opening says of their streams
  module _ {D : Type 0} {G : Ghosts D} (starts : List StreamStart) (ws : List (Writer D G)) (count : length ws ≡ n) (long : length starts ≡ n)
      (names : (j : ℕ) (p : StreamStart) → slice_get starts j ≡ Some p → (format_in p.head ≡ f) × (count_in p.head ≡ n) × (index_in p.head ≡ j))
      (alike : (j : ℕ) (p : StreamStart) → slice_get starts j ≡ Some p → started p ≡ opened_at load start j)
      (writers : (j : ℕ) (w : Writer D G) (p : StreamStart) → slice_get ws j ≡ Some w → slice_get starts j ≡ Some p → HasStarted p w) where
    are_new : AreNew f (opened_at load start) ws
    are_new j w at =
        let low : j < n = subst (λ (k : ℕ). j < k) count (got_within ws j w at) in
        let (p, at_p) = some_at starts j (omega (arith, low, long)) in
        let h = writers j w p at at_p in
        let same = alike j p at_p in
        let (format, many, index) = names j p at_p in
        record {
          works = h.works;
          durable = h.durable ∙ ap length same;
          left = h.left;
          ready = λ t.
              subst (λ (k : ℕ). IsReady f k j w (opened_at load start j)) (many ∙ sym count)
              (subst (λ (i : ℕ). IsReady f (count_in p.head) i w (opened_at load start j)) index
              (subst (λ (g : Format). IsReady g (count_in p.head) (index_in p.head) w (opened_at load start j)) format
              (subst (λ (content : List ℕ). IsReady (format_in p.head) (count_in p.head) (index_in p.head) w content) same (h.ready t))));
        }

    pub streams_begun : StreamsBegun f (opened_at load start) ws o
    streams_begun = record { count = count ∙ sym ends_long; long = λ j lt. end_at j (let wide = ends_long in omega (arith, lt, wide)); new = are_new }

-- ---- what was read is where the run may begin

pub same_sizes : {D : Type 0} (G : Ghosts D) (xs : List ℕ) (ds : List D) → length xs ≡ length ds → ((j : ℕ) (d : D) → slice_get ds j ≡ Some d → slice_index xs j ≡ length (G.seen d)) → xs ≡ map length (map G.seen ds)
same_sizes G [] [] long is = refl
same_sizes G [] (d ∷ ds) long is = absurd (omega (arith, long))
same_sizes G (x ∷ xs) [] long is = absurd (omega (arith, long))
same_sizes G (x ∷ xs) (d ∷ ds) long is = ap (λ (k : ℕ). k ∷ xs) (is 0 d refl) ∙ ap (λ (ks : List ℕ). length (G.seen d) ∷ ks) (same_sizes G xs ds (omega (arith, long)) (λ j e at. is (suc j) e at))

module _ {D : Type 0} (G : Ghosts D) (f : Format) (n : ℕ) (load : Workload) (old : List D) (there : n ≤ length old) (sizes : List ℕ) (starts : List StreamStart) (b : IsBegun G f (declarations_text load.declarations) (take n old) sizes starts) where
  pub opened : IsOpened f n load b.contents b.log starts b.opening
  opened = subst (λ (k : ℕ). IsOpened f k load b.contents b.log starts b.opening) (taken_long old n there) (starting.opened G f load (take n old) sizes starts b)

  abbrev pub start : Start
  start = start_on b.contents b.log opened.order

  pub contents_long : length b.contents ≡ n
  contents_long = b.read.contents_are.many ∙ taken_long old n there

  pub starts_long : length starts ≡ n
  starts_long = b.begins.starts_are.many ∙ contents_long

  pub names : (j : ℕ) (p : StreamStart) → slice_get starts j ≡ Some p → (format_in p.head ≡ f) × (count_in p.head ≡ n) × (index_in p.head ≡ j)
  names j p at =
      let (c, here, s) = b.begins.starts_are.each j p at in
      (s.format, s.names.0 ∙ contents_long, s.names.1)

  pub alike : (j : ℕ) (p : StreamStart) → slice_get starts j ≡ Some p → started p ≡ opened_at load start j
  alike j p at =
      let (content, body) = opened.given j p at in
      ap (λ (bytes : List ℕ). bytes ++ p.body) content ∙ ap (λ (body : List ℕ). old_at start j ++ body) body

  pub old_is : (j : ℕ) (p : StreamStart) → slice_get starts j ≡ Some p → p.content.bytes ≡ old_at start j
  old_is j p at = (opened.given j p at).0

  module _ (t : G.tells) (j : ℕ) (d : D) (lt : j < n) (was : slice_get old j ≡ Some d) where
    pub size_is : slice_index sizes j ≡ length (G.seen d)
    size_is =
        let many = b.read.many in
        b.read.lengths j d (let long = taken_long old n there in omega (arith, lt, many, long)) (get_take old n j lt ∙ was) t

    content_is : (c : Content) → slice_get b.contents j ≡ Some c → IsContentOf f n j (G.seen d) c
    content_is c at =
        let has = b.read.contents_are in
        subst (λ (k : ℕ). IsContentOf f k j (G.seen d) c) (taken_long old n there)
        (subst (λ (g : Format). IsContentOf g (length (take n old)) j (G.seen d) c) (has.as_asked f refl) (has.each t j d c (get_take old n j lt ∙ was) at))

    pub has_old : (p : StreamStart) → slice_get starts j ≡ Some p → HasContent f n j p.content.bytes (G.seen d)
    has_old p at =
        let (c, here, s) = b.begins.starts_are.each j p at in
        subst (λ (x : Content). HasContent f n j x.bytes (G.seen d)) (sym s.content) (content_has f n j (G.seen d) c (content_is c here))

    pub calls_are : (p : StreamStart) → slice_get starts j ≡ Some p → calls_before_writes (slice_index sizes j) + calls_to_reopen p.content.count ≡ opening_calls (map length (images_of G.seen old n)) j
    calls_are p at =
        let (c, here, s) = b.begins.starts_are.each j p at in
        let size : slice_index (map length (images_of G.seen old n)) j ≡ length (G.seen d) = image_long j d (get_take old n j lt ∙ was) in
        ap (λ (k : ℕ). calls_before_writes k + calls_to_reopen p.content.count) (size_is ∙ sym size)
        ∙ ap (λ (k : ℕ). calls_before_writes (slice_index (map length (images_of G.seen old n)) j) + k) (ap (λ (x : Content). calls_to_reopen x.count) s.content ∙ reopen_calls f n j (G.seen d) c (content_is c here))
        ∙ ap (λ (k : ℕ). calls_before_writes (slice_index (map length (images_of G.seen old n)) j) + (if nat_le k 17 then 6 else 4)) (sym size)
      where
        image_long : (j : ℕ) (d : D) → slice_get (take n old) j ≡ Some d → slice_index (map length (images_of G.seen old n)) j ≡ length (G.seen d)
        image_long j d at = length_at (images_of G.seen old n) j (G.seen d) (map_get G.seen (take n old) j d at)

  -- what the disks held, and no cause applies
  module _ (t : G.tells) where
    pub sizes_are : sizes ≡ map length (images_of G.seen old n)
    sizes_are = same_sizes G sizes (take n old) b.read.many (λ j d at. b.read.lengths j d (let low = got_within (take n old) j d at in let many = b.read.many in omega (arith, low, many)) at t)

    pub fits_are : begins_fault (declarations_text load.declarations) (map length (images_of G.seen old n)) b.log ≡ None
    fits_are = subst (λ (xs : List ℕ). begins_fault (declarations_text load.declarations) xs b.log ≡ None) sizes_are b.begins.fits

    pub contents_are : contents_of f (images_of G.seen old n) ≡ Ok (bytes_in b.contents)
    contents_are = images_hold f (images_of G.seen old n) b.contents (seen_hold G.tells G.seen f (take n old) b.log b.contents b.read.contents_are t)

  module _ (o : Opening) (is : b.opening ≡ o) where
    pub opening_on : IsOpeningOn load start o
    opening_on = subst (λ (p : Opening). IsOpeningOn load start p) is opened.opening

    pub opening_fits : Fits o
    opening_fits = fits f n load start opened.starts o opening_on

    pub writers_begun : (ws : List (Writer D G)) → length ws ≡ n → ((j : ℕ) (w : Writer D G) (p : StreamStart) → slice_get ws j ≡ Some w → slice_get starts j ≡ Some p → HasStarted p w) → StreamsBegun f (opened_at load start) ws o
    writers_begun ws count writers = streams_begun f n load start opened.starts o opening_on starts ws count starts_long names alike writers
