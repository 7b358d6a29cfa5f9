-- What the steps of reading come to together, disk by disk.
use Rattle.std.proofs.Common.{ℕ, suc, ◌≡◌, ◌+◌, ◌<◌, ◌≤◌, List, [], ◌∷◌, refl, sym, ap, subst, ◌∙◌, inl, inr, ⊎_elim, length, map, take, drop, arith}
use Rattle.std.specs.Prelude.{Option, Some, Result, Ok, Err, IfErr, slice_get, slice_index}
use Rattle.std.specs.List.{AllZip}
use Rattle.std.proofs.lemmas.Bool.{cases_eq}
use Rattle.tau_base.proofs.Logic.{some_is, below_or_not}
use Rattle.tau_base.proofs.Lists.{got_within, some_at, length_mapped}
use Rattle.tau_base.specs.declared.format.Format.{Format}
use Rattle.tau_block.specs.declared.content.Content.{Content}
use Rattle.tau_disk.specs.declared.disk.Disk.{Ghosts}
use Rattle.tau_disk.specs.Disk.{Rose}
use Rattle.tau_disk.specs.Used.{EachIn, EachUsed}
use Rattle.tau_disk.specs.Stages.{OnlySynced, StageFails, AreLengths}
use Rattle.tau_disk.proofs.Calls.{went_on}
use Rattle.tau_disk.proofs.Places.{get_dropped, dropped_more}
use Rattle.tau_disk.proofs.Syncing.{only_none, only_of_read, only_on}
use Rattle.tau_scan.specs.declared.log.Log.{Log}
use Rattle.tau_scan.specs.declared.fault.LogFault.{LogFault}
use Rattle.tau_scan.specs.declared.fault.ScanRefusal.{ScanRefusal}
use Rattle.tau_scan.specs.declared.fault.ScanRefusal.TheVariants as refusal
use Rattle.tau_scan.specs.Contents.{IsContentOf, HasContents, bytes_in}
use Rattle.tau_scan.specs.Reading.{HasRead, IsLog}
use Rattle.tau_scan.specs.Outside.{calls_to_settle, IsSynced, IsSettled, AreSynced, AreSettled, SyncedFirst}
use Rattle.tau_open.specs.declared.refusal.OpenRefusal.{OpenRefusal}
use Rattle.tau_open.specs.declared.refusal.OpenRefusal.TheVariants as opens
use Rattle.tau_open.specs.Opening.{Asked, FailsAsked}
use Rattle.tau_begin.specs.Reading.{AtMostRead, WasRead, WereRead, AreAskedFor, StopsReading}
use Rattle.tau_begin.specs.Opened.{IsReadFrom, IsRefusedOn, RefusesReading}
use Rattle.tau_begin.proofs.Slices.{get_take, taken_long, lengths_first}

no_length : (xs : List ℕ) → 0 ≡ length xs → xs ≡ []
no_length [] is = refl
no_length (x ∷ xs) is = absurd (omega (arith, is))

module _ {D : Type 0} (G : Ghosts D) where
  only_asked : (d e : D) → Asked G d e → OnlySynced G d e
  only_asked d e asked = only_of_read G d e asked.read asked.went.counts

  only_failed : (d e : D) → FailsAsked G d e → OnlySynced G d e
  only_failed d e fails = only_of_read G d e fails.read fails.broke.counts

  -- a disk that was left alone, one that was asked, one that failed then, and one that was synced and read after it
  alone_at_most : (d : D) → AtMostRead G d d
  alone_at_most d = record { only = only_none G d; settled = λ t more none. absurd (omega (arith, more)) }

  asked_at_most : (d e : D) → Asked G d e → AtMostRead G d e
  asked_at_most d e asked = record { only = only_asked d e asked; settled = λ t more none. absurd (let one = (asked.went.made t).0 in omega (arith, one, more)) }

  failed_at_most : (d e : D) → FailsAsked G d e → AtMostRead G d e
  failed_at_most d e fails = record { only = only_failed d e fails; settled = λ t more none. absurd (none fails.broke.rose) }

  read_at_most : (d e f : D) → Asked G d e → OnlySynced G e f → SyncedFirst G e f → AtMostRead G d f
  read_at_most d e f asked only first = record {
    only = only_on G d e f (only_asked d e asked) only;
    settled = λ t more none. first t (let one = (asked.went.made t).0 in omega (arith, one, more)) (λ rose. none (later rose));
  }
    where
      later : Rose (G.faults e) (G.faults f) → Rose (G.faults d) (G.faults f)
      later rose = (let counts = asked.went.counts in omega (arith, counts, rose))

  was_read : (long : ℕ) (d e f : D) → (G.tells → long ≡ length (G.seen d)) → Asked G d e → IsSynced G long e f → IsSettled G long e f → WasRead G long d f
  was_read long d e f is asked synced settled = record {
    only = only_on G d e f (only_asked d e asked) synced.only;
    same = λ t. settled.same t ∙ asked.read.same t;
    settled = λ t some. settled.settled t (λ none. some (no_length (G.seen d) (sym none ∙ is t)));
    went = went_on G 1 (calls_to_settle long) d e f asked.went settled.went;
  }

  module _ (sizes : List ℕ) (n : ℕ) (old mid : List D) (are : AreAskedFor G sizes n old mid) where
    -- the disks are as long as they were
    pub lengths_still : n ≤ length old → AreLengths G.tells G.seen mid sizes
    lengths_still there j e low now t =
        let (d, was) = some_at old j (omega (arith, low, are.count, there)) in
        let (f, at, r) = are.asked.each j d (omega (arith, low, are.count)) was in
        are.lengths j d low was t ∙ sym (ap (λ (z : D). length (G.seen z)) (some_is e f (sym now ∙ at)) ∙ ap (λ (xs : List ℕ). length xs) (r.read.same t))

    pub only_after : (new : List D) → AreSynced G sizes mid new → EachIn (λ j. j < length sizes) (λ j. SyncedFirst G) mid new → EachUsed (AtMostRead G) old new n
    only_after new synced first j d low was =
        let (e, there, r) = are.asked.each j d low was in
        let (f, is, s) = synced j e (omega (arith, low, are.count)) there in
        let (g, at, q) = first j e (omega (arith, low, are.count)) there in
        (f, is, read_at_most d e f r s.only (subst (λ (z : D). SyncedFirst G e z) (some_is g f (sym at ∙ is)) q))

    pub were_read : (new : List D) → AreSynced G sizes mid new → AreSettled G sizes mid new → WereRead G sizes n old new
    were_read new synced settled j d low was =
        let (e, there, r) = are.asked.each j d low was in
        let (f, is, s) = synced j e (omega (arith, low, are.count)) there in
        let (g, is_too, q) = settled.each j e (omega (arith, low, are.count)) there in
        let same : g ≡ f = some_is g f (sym is_too ∙ is) in
        (f, is, was_read (slice_index sizes j) d e f (λ t. are.lengths j d (omega (arith, low, are.count)) was t) r s (subst (λ (z : D). IsSettled G (slice_index sizes j) e z) same q))

  -- asking that was refused
  module _ (n : ℕ) (old new : List D) (j : ℕ) (fails : StageFails (λ i. Asked G) (λ i. FailsAsked G) j old new) where
    only_asking : EachUsed (AtMostRead G) old new n
    only_asking i b low before = elim (cases_eq i j) [
      | inl same ↦
          let (d, e, was, is, r) = fails.here in
          let it : d ≡ b = some_is d b (sym was ∙ subst (λ (k : ℕ). slice_get old k ≡ Some b) same before) in
          (e, subst (λ (k : ℕ). slice_get new k ≡ Some e) (sym same) is, subst (λ (z : D). AtMostRead G z e) it (failed_at_most d e r))
      | inr other ↦ ⊎_elim
          (λ under. let (c, at, q) = fails.below i b under before in (c, at, asked_at_most b c q))
          (λ above. (b, get_dropped new old (j + 1) i fails.rest (omega (arith, above, other)) ∙ before, alone_at_most b))
          (below_or_not i j)
    ]

pub asking_refused : {D : Type 0} (G : Ghosts D) (n : ℕ) (old new : List D) (r : Result Unit OpenRefusal) (e : OpenRefusal) → r ≡ Err e →
    ((j : ℕ) → r ≡ Err (opens.Failed j) → (j < n) × StageFails (λ i. Asked G) (λ i. FailsAsked G) j old new) →
    (r ≡ Err opens.NoMemory → ⊥) → ((j size : ℕ) → r ≡ Err (opens.NotEmpty j size) → ⊥) → EachUsed (AtMostRead G) old new n
asking_refused G n old new r opens.NoMemory is failed memory long = absurd (memory is)
asking_refused G n old new r (opens.Failed j) is failed memory long = let (low, fails) = failed j is in only_asking G n old new j fails
asking_refused G n old new r (opens.NotEmpty j size) is failed memory long = absurd (long j size is)

-- ---- what reads give

map_same : {D A : Type 0} (f : D → A) (xs ys : List D) → length xs ≡ length ys → ((j : ℕ) (d e : D) → slice_get xs j ≡ Some d → slice_get ys j ≡ Some e → f d ≡ f e) → map f xs ≡ map f ys
map_same f [] [] long same = refl
map_same f [] (y ∷ ys) long same = absurd (omega (arith, long))
map_same f (x ∷ xs) [] long same = absurd (omega (arith, long))
map_same {D} {A} f (x ∷ xs) (y ∷ ys) long same =
    let rest = map_same f xs ys (omega (arith, long)) (λ j d e at here. same (suc j) d e at here) in
    ap (λ (a : A). a ∷ map f xs) (same 0 x y refl refl) ∙ ap (λ (vs : List A). f y ∷ vs) rest

-- the first n disks, which were only asked, give the same to a read
module _ {D : Type 0} (G : Ghosts D) (sizes : List ℕ) (n : ℕ) (old mid : List D) (are : AreAskedFor G sizes n old mid) (there : n ≤ length old) where
  long_before : length (take n old) ≡ n
  long_before = taken_long old n there

  long_after : length (take n mid) ≡ n
  long_after = taken_long mid n (omega (arith, there, are.asked.many))

  still : (j : ℕ) (d : D) → slice_get (take n old) j ≡ Some d → (e : D) × (slice_get (take n mid) j ≡ Some e) × (G.tells → G.seen e ≡ G.seen d)
  still j d was =
      let low : j < n = subst (λ (k : ℕ). j < k) long_before (got_within (take n old) j d was) in
      let (e, at, r) = are.asked.each j d low (sym (get_take old n j low) ∙ was) in
      (e, get_take mid n j low ∙ at, r.read.same)

  seen_same : G.tells → map G.seen (take n mid) ≡ map G.seen (take n old)
  seen_same t = map_same G.seen (take n mid) (take n old) (long_after ∙ sym long_before) (λ j e d now was. let (f, at, is) = still j d was in ap G.seen (some_is e f (sym now ∙ at)) ∙ is t)

  pub has_read : (asked : Option Format) (result : Result Log ScanRefusal) → HasRead G.tells G.seen asked (take n mid) result → HasRead G.tells G.seen asked (take n old) result
  has_read asked result read = record { images = read.images; as_seen = λ t. read.as_seen t ∙ seen_same t; gives = read.gives }

  has_contents : (asked : Option Format) (log : Log) (contents : List Content) → HasContents G.tells G.seen asked (take n mid) log contents → HasContents G.tells G.seen asked (take n old) log contents
  has_contents asked log contents has = record {
    format = has.format;
    as_asked = has.as_asked;
    many = has.many ∙ long_after ∙ sym long_before;
    each = λ t j d c was at.
        let (f, there, is) = still j d was in
        subst (λ (n : ℕ). IsContentOf has.format n j (G.seen d) c) (long_after ∙ sym long_before) (subst (λ (x : List ℕ). IsContentOf has.format (length (take n mid)) j x c) (is t) (has.each t j f c there at));
    log_of_them = has.log_of_them;
    short = has.short;
  }

  pub read_from : (f : Format) (log : Log) (contents : List Content) → HasRead G.tells G.seen (Some f) (take n mid) (Ok log) → HasContents G.tells G.seen (Some f) (take n mid) log contents → IsLog log → IsReadFrom G f (take n old) sizes log contents
  read_from f log contents read contents_are sound = record {
    lengths = lengths_first G.tells G.seen old n sizes are.count are.lengths;
    many = are.count ∙ sym long_before;
    read = has_read (Some f) (Ok log) read;
    contents_are = has_contents (Some f) log contents contents_are;
    sound = sound;
  }

-- ---- what a beginning tells that was refused after all was read

zip_long : {A B : Type 0} (R : A → B → Type 0) (xs : List A) (ys : List B) → AllZip R xs ys → length xs ≡ length ys
zip_long R [] [] zip = refl
zip_long R [] (y ∷ ys) zip = absurd zip
zip_long R (x ∷ xs) [] zip = absurd zip
zip_long R (x ∷ xs) (y ∷ ys) zip = let rest = zip_long R xs ys zip.1 in omega (arith, rest)

-- as many streams as contents
pub streams_long : {D : Type 0} (G : Ghosts D) (f : Format) (disks : List D) (sizes : List ℕ) (log : Log) (contents : List Content) → IsReadFrom G f disks sizes log contents → length log.streams ≡ length contents
streams_long G f disks sizes log contents read =
    let zip = zip_long _ (bytes_in contents) log.streams read.contents_are.log_of_them.read in
    let long = length_mapped (λ (c : Content). c.bytes) contents in
    omega (arith, zip, long)

module _ {D : Type 0} (G : Ghosts D) (f : Format) (n : ℕ) (text : List ℕ) (old new : List D) (there : n ≤ length old) (sizes : List ℕ) (log : Log) (contents : List Content) (read : IsReadFrom G f (take n old) sizes log contents)
    (were : WereRead G sizes n old new) (only : EachUsed (AtMostRead G) old new n) where
  by_cause : (e : ScanRefusal) → ((fault : LogFault) → e ≡ refusal.Bad fault → IsRefusedOn text sizes log fault) → ((j : ℕ) → e ≡ refusal.Failed j → ⊥) → RefusesReading G f n text old new e
  by_cause refusal.NoMemory bad no_disk = only
  by_cause (refusal.Failed j) bad no_disk = absurd (no_disk j refl)
  by_cause (refusal.Bad fault) bad no_disk = record {
    sizes = sizes;
    lengths = read.lengths;
    count = read.many ∙ taken_long old n there;
    read = were;
    why = inr (log, contents, read, bad fault refl);
  }

  pub refused_on : {A : Type 0} (r : Result A ScanRefusal) → ((fault : LogFault) → r ≡ Err (refusal.Bad fault) → IsRefusedOn text sizes log fault) → ((j : ℕ) → r ≡ Err (refusal.Failed j) → ⊥) → IfErr r (RefusesReading G f n text old new)
  refused_on (Ok x) bad no_disk = tt
  refused_on (Err e) bad no_disk = by_cause e (λ fault is. bad fault (ap (λ x. Err x) is)) (λ j is. no_disk j (ap (λ x. Err x) is))

pub asking_rest : {D : Type 0} (G : Ghosts D) (n : ℕ) (old new : List D) (r : Result Unit OpenRefusal) (e : OpenRefusal) → r ≡ Err e →
    ((j : ℕ) → r ≡ Err (opens.Failed j) → (j < n) × StageFails (λ i. Asked G) (λ i. FailsAsked G) j old new) →
    (r ≡ Err opens.NoMemory → ⊥) → ((j size : ℕ) → r ≡ Err (opens.NotEmpty j size) → ⊥) → drop n new ≡ drop n old
asking_rest G n old new r opens.NoMemory is failed memory long = absurd (memory is)
asking_rest G n old new r (opens.Failed j) is failed memory long = let (low, fails) = failed j is in dropped_more new old (j + 1) n fails.rest (omega (arith, low))
asking_rest G n old new r (opens.NotEmpty j size) is failed memory long = absurd (long j size is)

-- what a beginning tells that was refused before all was read, or since the log is bad
pub reading_fails : {A D : Type 0} (G : Ghosts D) (f : Format) (n : ℕ) (text : List ℕ) (old new : List D) (r : Result A ScanRefusal) (e : ScanRefusal) → r ≡ Err e → EachUsed (AtMostRead G) old new n →
    ((j : ℕ) → r ≡ Err (refusal.Failed j) → StopsReading G n j old new) →
    ((fault : LogFault) → r ≡ Err (refusal.Bad fault) → HasRead G.tells G.seen (Some f) (take n old) (Err (refusal.Bad fault)) × ((sizes : List ℕ) × AreLengths G.tells G.seen (take n old) sizes × (length sizes ≡ n) × WereRead G sizes n old new)) →
    RefusesReading G f n text old new e
reading_fails G f n text old new r refusal.NoMemory is only failed bad = only
reading_fails G f n text old new r (refusal.Failed j) is only failed bad = (failed j is, only)
reading_fails G f n text old new r (refusal.Bad fault) is only failed bad =
    let (read, were) = bad fault is in
    record { sizes = were.0; lengths = were.1; count = were.2; read = were.3; why = inl read }
