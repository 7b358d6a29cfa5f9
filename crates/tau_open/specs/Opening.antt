-- What an opening makes of the disks, stream by stream, and which calls of each disk it makes.
use Rattle.std.specs.Prelude.{ℕ, ◌+◌, ◌-◌, ◌<◌, ◌≤◌, ◌⊎◌, ◌==◌, if◌then◌else◌, false, ◌≡◌, List, [], length, map, drop, slice_get, Some, Option, None, Result, Ok, Err}
use Rattle.tau_base.specs.declared.format.Format.TheVariants.{One}
use Rattle.tau_block.specs.Image.{HasContent}
use Rattle.tau_disk.specs.declared.disk.Disk.{Ghosts}
use Rattle.tau_disk.specs.Disk.{Passes}
use Rattle.tau_disk.specs.Left.{SameLast}
use Rattle.tau_disk.specs.Stages.{Went, Broke}
use Rattle.tau_stream.specs.declared.writer.Writer.{Writer}
use Rattle.tau_stream.specs.Stream.{IsCutShort, IsOldOrNew, IsUnborn, is_through}
use Rattle.tau_stream.specs.Writer.{disk_of, durable_of, left_of, added_of, has_failed, IsReady}
use Rattle.tau_open.specs.declared.refusal.OpenRefusal.{OpenRefusal}
use Rattle.tau_open.specs.declared.refusal.OpenRefusal.TheVariants.{NoMemory, Failed, NotEmpty}
use Rattle.tau_disk.specs.Used.{EachIn, EachUsed, OfDisk, AreEmpty, IsFirstLong, OnlyRead}
use Rattle.tau_open.specs.Outside.{calls_to_make, calls_to_open}

module _ {D : Type 0} (G : Ghosts D) where
  -- at each moment a stop leaves no content or the whole of this one, where the disk was unborn
  abbrev pub Begins : ℕ → List ℕ → ℕ → D → D → Type 0
  Begins n content j d e = G.tells → IsUnborn (G.may_leave d) → Passes G.moment G.may_leave_since d e (IsOldOrNew One n j [] content)

  -- the same writes of the disk count as written though they fail
  abbrev pub StillKeeps : D → D → Type 0
  StillKeeps d e = G.tells → SameLast (G.keeps d) (G.keeps e)

  -- The disk was unborn and failed while stream j of n was made on it. So many calls stand before the flush of the first block; if
  -- that was through, the image with all that was written has the content, and no other kind has a byte of it.
  unfoldable pub MakesHalf : ℕ → ℕ → List ℕ → ℕ → D → D → Type 0
  MakesHalf before n content j d e = G.tells → G.short e ≡ false → G.cut e ≡ false → IsUnborn (G.may_leave d) →
      IsCutShort One n j [] content (is_through (G.number e - (G.number d + before)) (G.keeps d (G.number e))) (G.image e)

  -- whatever a stop now leaves has this content
  abbrev pub Holds : ℕ → List ℕ → ℕ → D → Type 0
  Holds n content j e = G.tells → (x : List ℕ) → G.may_leave e x → HasContent One n j content x

  -- the length of the disk was asked
  pub record Asked (d e : D) : Type 0 where
    pub read : OnlyRead G.tells G.seen G.may_leave G.moment G.may_leave_since d e
    pub went : Went G 1 d e
    pub last : StillKeeps d e

  -- the length of the disk was asked, and it failed
  pub record FailsAsked (d e : D) : Type 0 where
    pub read : OnlyRead G.tells G.seen G.may_leave G.moment G.may_leave_since d e
    pub broke : Broke G 1 d e

  -- stream j of n was made on the disk
  pub record IsCreated (n : ℕ) (content : List ℕ) (j : ℕ) (d e : D) : Type 0 where
    pub went : Went G calls_to_make d e
    pub begins : Begins n content j d e
    pub holds : Holds n content j e
    pub last : StillKeeps d e

  -- the disk failed while stream j of n was made on it
  pub record FailsCreated (n : ℕ) (content : List ℕ) (j : ℕ) (d e : D) : Type 0 where
    pub broke : Broke G calls_to_make d e
    pub begins : Begins n content j d e
    pub half : MakesHalf 2 n content j d e

  -- the length of the disk was asked, and stream j of n was made on it
  pub record IsOpened (n : ℕ) (content : List ℕ) (j : ℕ) (d e : D) : Type 0 where
    pub went : Went G calls_to_open d e
    pub begins : Begins n content j d e
    pub holds : Holds n content j e
    pub last : StillKeeps d e

  -- the length of the disk was asked, and then it failed while stream j of n was made on it
  pub record FailsOpened (n : ℕ) (content : List ℕ) (j : ℕ) (d e : D) : Type 0 where
    pub broke : Broke G calls_to_open d e
    pub asked : G.tells → G.fails d (G.number d + 1) ≡ false
    pub begins : Begins n content j d e
    pub half : MakesHalf 3 n content j d e

  -- all lengths were asked, and nothing else
  pub record AreAsked (n : ℕ) (old new : List D) : Type 0 where
    pub each : EachUsed Asked old new n
    pub rest : drop n new ≡ drop n old
    pub many : length new ≡ length old

  -- the disk of stream j was the first that failed when it was asked, and those above it were not asked
  pub record FailsAsking (j : ℕ) (old new : List D) : Type 0 where
    pub below : EachUsed Asked old new j
    pub here : OfDisk FailsAsked old new j
    pub rest : drop (j + 1) new ≡ drop (j + 1) old
    pub many : length new ≡ length old

  -- the streams below j are made, the disk of stream j failed while its own was made, and those above it were asked alone
  pub record FailsMaking (n : ℕ) (content : List ℕ) (j : ℕ) (old new : List D) : Type 0 where
    pub empty : AreEmpty G.tells G.seen old n
    pub below : EachIn (λ i. i < j) (IsOpened n content) old new
    pub here : OfDisk (FailsOpened n content j) old new j
    pub above : EachIn (λ i. (j < i) × (i < n)) (λ i. Asked) old new
    pub rest : drop n new ≡ drop n old
    pub many : length new ≡ length old

  -- the streams below j are made, and the disks from j on were asked alone
  pub record GivesUp (n : ℕ) (content : List ℕ) (j : ℕ) (old new : List D) : Type 0 where
    pub empty : AreEmpty G.tells G.seen old n
    pub below : EachIn (λ i. i < j) (IsOpened n content) old new
    pub above : EachIn (λ i. (j ≤ i) × (i < n)) (λ i. Asked) old new
    pub rest : drop n new ≡ drop n old
    pub many : length new ≡ length old

  -- what a refusal of an opening leaves of the disks, which stand in their places
  abbrev pub Refuses : ℕ → List ℕ → List D → List D → OpenRefusal → Type 0
  Refuses n content old new NoMemory = (new ≡ old) ⊎ ((j : ℕ) × (j < n) × GivesUp n content j old new)
  Refuses n content old new (Failed j) = (j < n) × (FailsAsking j old new ⊎ FailsMaking n content j old new)
  Refuses n content old new (NotEmpty j long) = (j < n) × AreAsked n old new × (G.tells → IsFirstLong G.seen old j long)

-- the writer of stream j of n has this content, all of it durable, and nothing was added
pub record IsBegun {D : Type 0} {G : Ghosts D} (n : ℕ) (content : List ℕ) (j : ℕ) (writer : Writer D G) : Type 0 where
  pub ready : G.tells → IsReady One n j writer content
  pub durable : durable_of writer ≡ length content
  pub left : left_of writer ≡ []
  pub added : added_of writer ≡ 0
  pub works : has_failed writer ≡ false

-- the writers have the first n disks, with a stream on each, and the others stand as they stood
pub record AreOpened {D : Type 0} (G : Ghosts D) (n : ℕ) (content : List ℕ) (old new : List D) (writers : List (Writer D G)) : Type 0 where
  pub count : length writers ≡ n
  pub rest : new ≡ drop n old
  pub empty : AreEmpty G.tells G.seen old n
  pub disks : EachIn (λ j. j < n) (IsOpened G n content) old (map disk_of writers)
  pub begun : (j : ℕ) (writer : Writer D G) → slice_get writers j ≡ Some writer → IsBegun n content j writer

-- where a disk has a length, the first such disk is named, unless memory ran out or a disk failed
abbrev pub TellsLong : {T : Type 0} → ℕ → ℕ → Result T OpenRefusal → Type 0
TellsLong j long (Ok x) = ⊥
TellsLong j long (Err NoMemory) = Unit {0}
TellsLong j long (Err (Failed i)) = Unit {0}
TellsLong j long (Err (NotEmpty i length)) = (i ≡ j) × (length ≡ long)

-- the stream and length of the first long disk: the one that was found before, or this one
abbrev pub lower_of : Option (ℕ × ℕ) → ℕ → ℕ → Option (ℕ × ℕ)
lower_of (Some found) stream length = Some found
lower_of None stream length = if length == 0 then None else Some (stream, length)
