-- How streams are made on disks that were asked their lengths, the lowest first.
use Rattle.std.specs.Prelude.{ℕ, ◌+◌, ◌<◌, ◌≡◌, List, [], ◌∷◌, ◌++◌, length, map, drop, slice_get, Some}
use Rattle.tau_disk.specs.declared.disk.Disk.{Ghosts}
use Rattle.tau_stream.specs.declared.writer.Writer.{Writer}
use Rattle.tau_stream.specs.Writer.{disk_of}
use Rattle.tau_open.specs.declared.refusal.OpenRefusal.{OpenRefusal}
use Rattle.tau_open.specs.declared.refusal.OpenRefusal.TheVariants.{NoMemory, Failed, NotEmpty}
use Rattle.tau_disk.specs.Used.{EachIn, OfDisk}
use Rattle.tau_open.specs.Opening.{IsCreated, FailsCreated, IsBegun}

module _ {D : Type 0} (G : Ghosts D) (n : ℕ) (content : List ℕ) where
  -- the first disk that was left has become the last writer
  pub record CreatesNext (j : ℕ) (old new : List D) (before after : List (Writer D G)) : Type 0 where
    pub disk : D
    pub writer : Writer D G
    pub taken : old ≡ disk ∷ new
    pub put : after ≡ before ++ writer ∷ []
    pub created : IsCreated G n content j disk (disk_of writer)
    pub begun : IsBegun n content j writer

  -- why a disk has become no writer, and what it is then
  abbrev pub Fails : ℕ → D → D → OpenRefusal → Type 0
  Fails j d e NoMemory = e ≡ d
  Fails j d e (Failed i) = (i ≡ j) × FailsCreated G n content j d e
  Fails j d e (NotEmpty i long) = ⊥

  -- the first disk that was left stands there again
  pub record KeepsPlace (j : ℕ) (old new : List D) (refusal : OpenRefusal) : Type 0 where
    pub disk : D
    pub now : D
    pub rest : List D
    pub taken : old ≡ disk ∷ rest
    pub put : new ≡ now ∷ rest
    pub why : Fails j disk now refusal

  -- the first j disks have become writers, and the others are left
  pub record Creating (j : ℕ) (old left : List D) (writers : List (Writer D G)) : Type 0 where
    pub count : length writers ≡ j
    pub rest : left ≡ drop j old
    pub disks : EachIn (λ i. i < j) (IsCreated G n content) old (map disk_of writers)
    pub begun : (i : ℕ) (writer : Writer D G) → slice_get writers i ≡ Some writer → IsBegun n content i writer

  -- the first j disks have a stream, and one more call of the next disk came to nothing
  pub record StopsCreating (old new : List D) (j : ℕ) : Type 0 where
    pub below : EachIn (λ i. i < j) (IsCreated G n content) old new
    pub rest : drop (j + 1) new ≡ drop (j + 1) old
    pub many : length new ≡ length old

  -- where the making stopped, and why
  abbrev pub Stops : List D → List D → OpenRefusal → Type 0
  Stops old new NoMemory = (j : ℕ) × (j < n) × StopsCreating old new j × OfDisk (λ d e. e ≡ d) old new j
  Stops old new (Failed j) = (j < n) × StopsCreating old new j × OfDisk (FailsCreated G n content j) old new j
  Stops old new (NotEmpty j long) = ⊥
