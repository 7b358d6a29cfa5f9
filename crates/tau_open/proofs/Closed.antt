-- What holds of the writers' disks holds of all disks once they are back.
use Rattle.std.proofs.Common.{ℕ, ◌≡◌, ◌<◌, List, ◌++◌, ap, ◌∙◌, length, map, drop, arith}
use Rattle.std.specs.Prelude.{slice_get}
use Rattle.std.proofs.lemmas.List.{length-map, drop_at}
use Rattle.tau_disk.specs.declared.disk.Disk.{Ghosts}
use Rattle.tau_stream.specs.declared.writer.Writer.{Writer}
use Rattle.tau_stream.specs.Writer.{disk_of}
use Rattle.tau_disk.specs.Used.{EachIn, OfDisk}
use Rattle.tau_disk.proofs.Places.{get_append, each_moved}

module _ {D : Type 0} {G : Ghosts D} (n : ℕ) (old new rest : List D) (writers : List (Writer D G)) (many : length writers ≡ n) (back : new ≡ map disk_of writers ++ rest) where
  back_at : (j : ℕ) → j < n → slice_get new j ≡ slice_get (map disk_of writers) j
  back_at j low = ap (λ (ds : List D). slice_get ds j) back ∙ get_append (map disk_of writers) rest j (omega (arith, length-map writers (disk_of {D = D} {G = G}), many, low))

  pub each_back : (R : ℕ → D → D → Type 0) → EachIn (λ j. j < n) R old (map disk_of writers) → EachIn (λ j. j < n) R old new
  each_back R each = each_moved (λ j. j < n) R old (map disk_of writers) new each back_at

  pub of_back : (R : D → D → Type 0) (j : ℕ) → j < n → OfDisk R old (map disk_of writers) j → OfDisk R old new j
  of_back R j low (d, e, was, is, r) = (d, e, was, back_at j low ∙ is, r)

  pub rest_back : drop n new ≡ rest
  rest_back = ap (λ (ds : List D). drop n ds) back ∙ drop_at (map disk_of writers) rest n (length-map writers disk_of ∙ many)
