-- What a flush that stopped leaves of a stream, in each kind of image.
use Rattle.std.proofs.Common.{◌≡◌, ◌⊎◌, inl, inr, ℕ, ◌+◌, ◌-◌, ◌≤◌, Bool, true, false, if◌then◌else◌, List, [], ◌∷◌, ◌++◌, length, get_or, refl, sym, ◌∙◌, ap, subst, arith}
use Rattle.std.specs.Prelude.{Result, Ok, Err}
use Rattle.std.proofs.lemmas.List.{length-replicate}
use Rattle.tau_base.specs.declared.format.Format.{Format}
use Rattle.tau_disk.specs.declared.call.Tear.{Tear}
use Rattle.tau_disk.specs.declared.call.Tear.TheVariants as tear
use Rattle.tau_disk.specs.declared.disk.Disk.{Ghosts}
use Rattle.tau_disk.specs.Disk.{Only, Torn, Holds}
use Rattle.tau_disk.specs.Replay.{over, sevens}
use Rattle.tau_disk.specs.Left.{AreImages, IsHalfWritten, LeavesDurably, MayLeaveEach, SameLast, after_failed_write, after_write}
use Rattle.tau_disk.proofs.Images.{holds_torn}
use Rattle.tau_disk.proofs.Tears.{torn_same}
use Rattle.tau_block.specs.Image.{HasContent, IsBody, IsLog, count_in, format_in, index_in, tail_of}
use Rattle.tau_base.specs.declared.format.Format.TheVariants.{One}
use Rattle.tau_stream.specs.Stream.{CreateStops, IsCutShort, IsSettled, MakingStops, PublishStops, catalogue_record, is_through}
use Rattle.tau_stream.specs.declared.writer.Writer.{Writer}
use Rattle.tau_stream.specs.Writer.{FlushStops, disk_of, part_upto}
use Rattle.tau_stream.proofs.Heads.{of_stream}
use Rattle.tau_stream.proofs.Tears.{torn_behind, gated, staged, regated, shut_has, open_has, torn_unborn}

-- what is said of a write and a sync

pub durably_last : {T E : Type 0} (at : ℕ) (bytes seen : List ℕ) (number number' : ℕ) (short cut : Bool) (image image' : Tear → List ℕ) (keeps keeps' : ℕ → Bool) (r : Result T E) → LeavesDurably at bytes seen number number' short cut image image' keeps keeps' r → SameLast keeps keeps'
unfolding LeavesDurably
durably_last at bytes seen number number' short cut image image' keeps keeps' r left = left.2

pub durably_ok : {T : Type 0} (E : Type 0) (at : ℕ) (bytes seen : List ℕ) (number number' : ℕ) (short cut : Bool) (image image' : Tear → List ℕ) (keeps keeps' : ℕ → Bool) (v : T) → LeavesDurably {E = E} at bytes seen number number' short cut image image' keeps keeps' (Ok v) → (kind : Tear) → image' kind ≡ seen
unfolding LeavesDurably
durably_ok E at bytes seen number number' short cut image image' keeps keeps' v left = left.0

pub durably_err : {E : Type 0} (T : Type 0) (at : ℕ) (bytes seen : List ℕ) (number number' : ℕ) (short cut : Bool) (image image' : Tear → List ℕ) (keeps keeps' : ℕ → Bool) (e : E) → LeavesDurably {T = T} at bytes seen number number' short cut image image' keeps keeps' (Err e) → short ≡ false → cut ≡ false → IsHalfWritten at bytes number number' image image' keeps
unfolding LeavesDurably
durably_err T at bytes seen number number' short cut image image' keeps keeps' e left = left.1

-- if a stop leaves one file alone, each kind is that one
pub kinds_are : {D : Type 0} (tells : Type 0) (may_leave : D → List ℕ → Type 0) (image : D → Tear → List ℕ) (d : D) (file : List ℕ) → MayLeaveEach tells may_leave image → tells → Only file (may_leave d) → (kind : Tear) → image d kind ≡ file
unfolding MayLeaveEach
kinds_are tells may_leave image d file each t only kind = only (image d kind) (each d kind t)

module _ (at : ℕ) (bytes : List ℕ) (image : Tear → List ℕ) (le : (kind : Tear) → at ≤ length (image kind)) where
  written_torn : (kind : Tear) → Torn at (length bytes) (image kind) (after_write image at bytes kind)
  written_torn tear.Old = torn_same at (length bytes) (image tear.Old)
  written_torn tear.New = holds_torn at bytes (image tear.New) (over at bytes (image tear.New)) (le tear.New) refl
  written_torn tear.Torn = subst (λ (k : ℕ). Torn at k (image tear.Torn) (over at (sevens (length bytes)) (image tear.Torn))) (length-replicate (length bytes) 7)
      (holds_torn at (sevens (length bytes)) (image tear.Torn) (over at (sevens (length bytes)) (image tear.Torn)) (le tear.Torn) refl)

  failed_torn : (keeps : Bool) (kind : Tear) → Torn at (length bytes) (image kind) (after_failed_write keeps image at bytes kind)
  failed_torn true kind = written_torn kind
  failed_torn false kind = torn_same at (length bytes) (image kind)

  -- each kind is what it was, torn
  pub half_torn : (number number' : ℕ) (image' : Tear → List ℕ) (keeps : ℕ → Bool) → IsHalfWritten at bytes number number' image image' keeps → (kind : Tear) → Torn at (length bytes) (image kind) (image' kind)
  half_torn number number' image' keeps (inl one) kind = subst (λ (x : List ℕ). Torn at (length bytes) (image kind) x) (sym (one.1 kind)) (failed_torn (keeps number') kind)
  half_torn number number' image' keeps (inr two) kind = subst (λ (x : List ℕ). Torn at (length bytes) (image kind) x) (sym (two.1 kind)) (written_torn kind)

-- how many calls were made of the two
pub half_calls : (at : ℕ) (bytes : List ℕ) (number number' : ℕ) (image image' : Tear → List ℕ) (keeps : ℕ → Bool) → IsHalfWritten at bytes number number' image image' keeps → (number' ≡ number + 1) ⊎ (number' ≡ number + 2)
half_calls at bytes number number' image image' keeps (inl one) = inl one.0
half_calls at bytes number number' image image' keeps (inr two) = inr two.0

early : (call : ℕ) (keeps : Bool) → (call ≡ 0) ⊎ ((call ≡ 1) ⊎ (call ≡ 2)) → is_through call keeps ≡ false
early call keeps (inl is) = subst (λ (c : ℕ). is_through c keeps ≡ false) (sym is) refl
early call keeps (inr (inl is)) = subst (λ (c : ℕ). is_through c keeps ≡ false) (sym is) refl
early call keeps (inr (inr is)) = subst (λ (c : ℕ). is_through c keeps ≡ false) (sym is) refl

module _ (f : Format) (n j : ℕ) (content body : List ℕ) where
  -- all kinds have the content, and the flush was not through
  pub cut_early : (call : ℕ) (keeps : Bool) (image : Tear → List ℕ) → (call ≡ 0) ⊎ ((call ≡ 1) ⊎ (call ≡ 2)) → ((kind : Tear) → HasContent f n j content (image kind)) → IsCutShort f n j content body (is_through call keeps) image
  cut_early call keeps image is each = record {
    old = each tear.Old;
    torn = each tear.Torn;
    new = subst (λ (b : Bool). HasContent f n j (if b then content ++ body else content) (image tear.New)) (sym (early call keeps is)) (each tear.New);
  }

  module _ (file : List ℕ) (gate_at : ℕ) (log : IsLog f n j file gate_at content) where
    -- of the block's write and its sync one failed
    pub first_stops : (block : List ℕ) (number number' : ℕ) (image image' : Tear → List ℕ) (keeps : ℕ → Bool) (kept : Bool) → ((kind : Tear) → image kind ≡ file) → IsHalfWritten (gate_at + 1) block number number' image image' keeps →
        IsCutShort f n j content body (is_through (number' - number) kept) image'
    first_stops block number number' image image' keeps kept all half = cut_early (number' - number) kept image' (made (half_calls (gate_at + 1) block number number' image image' keeps half))
        (λ kind. torn_behind f n j file gate_at content log (length block) (image' kind)
        (subst (λ (x : List ℕ). Torn (gate_at + 1) (length block) x (image' kind)) (all kind)
        (half_torn (gate_at + 1) block image (λ k. subst (λ (x : List ℕ). gate_at + 1 ≤ length x) (sym (all k)) (omega (arith, log.within))) number number' image' keeps half kind)))
      where
        made : (number' ≡ number + 1) ⊎ (number' ≡ number + 2) → (number' - number ≡ 0) ⊎ ((number' - number ≡ 1) ⊎ (number' - number ≡ 2))
        made (inl one) = inr (inl (omega (arith, one)))
        made (inr two) = inr (inr (omega (arith, two)))

    module _ (some : IsBody body) (gate : ℕ) (shut : gate ≡ 1 → ⊥) (image : Tear → List ℕ) (all : (kind : Tear) → image kind ≡ gated f n j file gate_at content log body some gate) where
      abbrev block_is : ℕ → List ℕ
      block_is byte = gated f n j file gate_at content log body some byte

      at_gate : (byte : ℕ) (kind : Tear) → over gate_at (byte ∷ []) (image kind) ≡ block_is byte
      at_gate byte kind = ap (over gate_at (byte ∷ [])) (all kind) ∙ regated f n j file gate_at content log body some gate byte

      -- the gate was written, and not synced
      opened_cut : (through : Bool) (image' : Tear → List ℕ) → through ≡ true → AreImages (after_write image gate_at (1 ∷ [])) image' → IsCutShort f n j content body through image'
      opened_cut through image' is images = record {
        old = subst (HasContent f n j content) (sym (images tear.Old ∙ all tear.Old)) (shut_has f n j file gate_at content log body some gate shut);
        torn = subst (HasContent f n j content) (sym (images tear.Torn ∙ at_gate 7 tear.Torn)) (shut_has f n j file gate_at content log body some 7 (λ e. omega (arith, e)));
        new = subst (λ (b : Bool). HasContent f n j (if b then content ++ body else content) (image' tear.New)) (sym is)
            (subst (HasContent f n j (content ++ body)) (sym (images tear.New ∙ at_gate 1 tear.New)) (open_has f n j file gate_at content log body some));
      }

      -- the gate was not written
      shut_cut : (through : Bool) (image' : Tear → List ℕ) → through ≡ false → AreImages image image' → IsCutShort f n j content body through image'
      shut_cut through image' is images =
          let has : (kind : Tear) → HasContent f n j content (image' kind) = λ kind. subst (HasContent f n j content) (sym (images kind ∙ all kind)) (shut_has f n j file gate_at content log body some gate shut) in record {
            old = has tear.Old;
            torn = has tear.Torn;
            new = subst (λ (b : Bool). HasContent f n j (if b then content ++ body else content) (image' tear.New)) (sym is) (has tear.New);
          }

      third : (kept : Bool) (image' : Tear → List ℕ) → AreImages (after_failed_write kept image gate_at (1 ∷ [])) image' → IsCutShort f n j content body (is_through 3 kept) image'
      third true image' images = opened_cut true image' refl images
      third false image' images = shut_cut false image' refl images

      -- of the gate's write and its sync one failed
      pub second_stops : (number mid number' : ℕ) (image' : Tear → List ℕ) (keeps keeps_mid : ℕ → Bool) → mid ≡ number + 2 → SameLast keeps keeps_mid → IsHalfWritten gate_at (1 ∷ []) mid number' image image' keeps_mid →
          IsCutShort f n j content body (is_through (number' - number) (keeps number')) image'
      second_stops number mid number' image' keeps keeps_mid two same (inl one) =
          let three : 3 ≡ number' - number = omega (arith, two, one.0) in
          subst (λ (call : ℕ). IsCutShort f n j content body (is_through call (keeps number')) image') three
          (subst (λ (kept : Bool). IsCutShort f n j content body (is_through 3 kept) image') (same number') (third (keeps_mid number') image' one.1))
      second_stops number mid number' image' keeps keeps_mid two same (inr both) =
          let four : 4 ≡ number' - number = omega (arith, two, both.0) in
          subst (λ (call : ℕ). IsCutShort f n j content body (is_through call (keeps number')) image') four (opened_cut true image' refl both.1)

-- each kind is one that a stop may leave
kind_left : {D : Type 0} (tells : Type 0) (may_leave : D → List ℕ → Type 0) (image : D → Tear → List ℕ) (d : D) → MayLeaveEach tells may_leave image → tells → (kind : Tear) → may_leave d (image d kind)
unfolding MayLeaveEach
kind_left tells may_leave image d each t kind = each d kind t

-- so it is of a disk

module _ {D : Type 0} (G : Ghosts D) (each : MayLeaveEach G.tells G.may_leave G.image) (tells : G.tells) (gate_at : ℕ) (block : List ℕ) (d e : D) where
  pub publish_first : (T E : Type 0) (x : E) → LeavesDurably {T = T} (gate_at + 1) block (G.seen e) (G.number d) (G.number e) (G.short e) (G.cut e) (G.image d) (G.image e) (G.keeps d) (G.keeps e) (Err x) → PublishStops G gate_at block d e
  unfolding PublishStops
  publish_first T E x left = λ room whole f n j content body s some is.
      first_stops f n j content body (G.seen d) gate_at s.log block (G.number d) (G.number e) (G.image d) (G.image e) (G.keeps d) (G.keeps d (G.number e))
      (kinds_are G.tells G.may_leave G.image d (G.seen d) each tells s.only)
      (durably_err T (gate_at + 1) block (G.seen e) (G.number d) (G.number e) (G.short e) (G.cut e) (G.image d) (G.image e) (G.keeps d) (G.keeps e) x left room whole)

  pub publish_second : (U E T E' : Type 0) (y : U) (x : E') (mid : D) (gate : List ℕ) → gate ≡ 1 ∷ [] → Holds (G.seen d) (gate_at + 1) block (G.seen mid) → G.number mid ≡ G.number d + 2 →
      LeavesDurably {E = E} (gate_at + 1) block (G.seen mid) (G.number d) (G.number mid) (G.short mid) (G.cut mid) (G.image d) (G.image mid) (G.keeps d) (G.keeps mid) (Ok y) →
      LeavesDurably {T = T} gate_at gate (G.seen e) (G.number mid) (G.number e) (G.short e) (G.cut e) (G.image mid) (G.image e) (G.keeps mid) (G.keeps e) (Err x) → PublishStops G gate_at block d e
  unfolding PublishStops
  publish_second U E T E' y x mid gate is_open holds made first second = λ room whole f n j content body s some is.
      let staged_is = staged f n j (G.seen d) gate_at content s.log body some (G.seen mid) (subst (λ (b : List ℕ). Holds (G.seen d) (gate_at + 1) b (G.seen mid)) is holds) in
      let kinds = durably_ok E (gate_at + 1) block (G.seen mid) (G.number d) (G.number mid) (G.short mid) (G.cut mid) (G.image d) (G.image mid) (G.keeps d) (G.keeps mid) y first in
      let half = durably_err T gate_at gate (G.seen e) (G.number mid) (G.number e) (G.short e) (G.cut e) (G.image mid) (G.image e) (G.keeps mid) (G.keeps e) x second room whole in
      second_stops f n j content body (G.seen d) gate_at s.log some (get_or (G.seen d) gate_at 0) s.log.shut (G.image mid) (λ kind. kinds kind ∙ staged_is)
      (G.number d) (G.number mid) (G.number e) (G.image e) (G.keeps d) (G.keeps mid) made
      (durably_last (gate_at + 1) block (G.seen mid) (G.number d) (G.number mid) (G.short mid) (G.cut mid) (G.image d) (G.image mid) (G.keeps d) (G.keeps mid) (Ok y) first)
      (subst (λ (b : List ℕ). IsHalfWritten gate_at b (G.number mid) (G.number e) (G.image mid) (G.image e) (G.keeps mid)) is_open half)

module _ {D : Type 0} (G : Ghosts D) (each : MayLeaveEach G.tells G.may_leave G.image) (tells : G.tells) (head block : List ℕ) (long : length head ≡ 17) (d e : D) where
  pub making_first : (T E : Type 0) (x : E) → LeavesDurably {T = T} 0 head (G.seen e) (G.number d) (G.number e) (G.short e) (G.cut e) (G.image d) (G.image e) (G.keeps d) (G.keeps e) (Err x) → MakingStops G head block d e
  unfolding MakingStops
  making_first T E x left = λ room whole first some is unborn.
      let half = durably_err T 0 head (G.seen e) (G.number d) (G.number e) (G.short e) (G.cut e) (G.image d) (G.image e) (G.keeps d) (G.keeps e) x left room whole in
      cut_early (format_in head) (count_in head) (index_in head) [] first (G.number e - (G.number d + 2)) (G.keeps d (G.number e)) (G.image e) (inl (none (half_calls 0 head (G.number d) (G.number e) (G.image d) (G.image e) (G.keeps d) half)))
      (λ kind. torn_unborn (format_in head) (count_in head) (index_in head) (G.image d kind) (G.image e kind) (unborn (G.image d kind) (kind_left G.tells G.may_leave G.image d each tells kind))
      (subst (λ (size : ℕ). Torn 0 size (G.image d kind) (G.image e kind)) long (half_torn 0 head (G.image d) (λ k. omega arith) (G.number d) (G.number e) (G.image e) (G.keeps d) half kind)))
    where
      none : (G.number e ≡ G.number d + 1) ⊎ (G.number e ≡ G.number d + 2) → G.number e - (G.number d + 2) ≡ 0
      none (inl one) = omega (arith, one)
      none (inr two) = omega (arith, two)

  pub making_second : (U E : Type 0) (y : U) (mid : D) → G.number mid ≡ G.number d + 2 →
      LeavesDurably {E = E} 0 head (G.seen mid) (G.number d) (G.number mid) (G.short mid) (G.cut mid) (G.image d) (G.image mid) (G.keeps d) (G.keeps mid) (Ok y) →
      IsSettled (format_in head) (count_in head) (index_in head) (G.seen mid) (G.may_leave mid) 16 [] → PublishStops G 16 block mid e → MakingStops G head block d e
  unfolding PublishStops MakingStops
  making_second U E y mid made first settled stops = λ room whole body some is unborn.
      subst (λ (n : ℕ). IsCutShort (format_in head) (count_in head) (index_in head) [] body (is_through (G.number e - n) (G.keeps d (G.number e))) (G.image e)) made
      (subst (λ (kept : Bool). IsCutShort (format_in head) (count_in head) (index_in head) [] body (is_through (G.number e - G.number mid) kept) (G.image e))
      (durably_last 0 head (G.seen mid) (G.number d) (G.number mid) (G.short mid) (G.cut mid) (G.image d) (G.image mid) (G.keeps d) (G.keeps mid) (Ok y) first (G.number e))
      (stops room whole (format_in head) (count_in head) (index_in head) [] body settled some is))

-- a publish that stopped is the flush of a writer that stopped
pub flush_stops : {D : Type 0} {G : Ghosts D} (w w' : Writer D G) (upto : ℕ) (block : List ℕ) → IsBody (part_upto w upto) → block ≡ tail_of (part_upto w upto) → PublishStops G w.gate_at block (disk_of w) (disk_of w') → FlushStops upto w w'
unfolding PublishStops FlushStops
flush_stops w w' upto block some is stops = λ room whole f n j content ready. stops room whole f n j content (part_upto w upto) ready.settled some is

-- a stream that was not made whole is that of its header
pub create_stops : {D : Type 0} (G : Ghosts D) (n j : ℕ) (text head block : List ℕ) (d e : D) → format_in head ≡ One → (count_in head ≡ n) × (index_in head ≡ j) → IsBody (catalogue_record text) → block ≡ tail_of (catalogue_record text) → MakingStops G head block d e → CreateStops G n j text d e
unfolding MakingStops CreateStops
create_stops G n j text head block d e format names some is stops = λ room whole unborn.
    of_stream One n j head format names (λ (f : Format) (n j : ℕ). IsCutShort f n j [] (catalogue_record text) (is_through (G.number e - (G.number d + 2)) (G.keeps d (G.number e))) (G.image e))
    (stops room whole (catalogue_record text) some is unborn)
