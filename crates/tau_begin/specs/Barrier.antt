-- What stops might have left of a disk since the moment of its barrier.
use Rattle.std.specs.Prelude.{ℕ, ◌≤◌, ◌≡◌, ◌⊎◌, List, []}
use Rattle.tau_base.specs.declared.format.Format.{Format}
use Rattle.tau_block.specs.Image.{HasContent}
use Rattle.tau_disk.specs.declared.disk.Disk.{Ghosts}
use Rattle.tau_stream.specs.Stream.{IsOldOrNew, IsUnborn}
use Rattle.tau_begin.specs.Opened.{IsTouched}

module _ {D : Type 0} (G : Ghosts D) where
  -- b is the moment of the disk's barrier, or the entry where it has no byte: an image that a stop might have left since the
  -- entry is one of the entry, or one since b
  pub record IsBarrier (b : ℕ) (d e : D) : Type 0 where
    pub low : G.moment d ≤ b
    pub high : b ≤ G.moment e
    pub since_b : (x : List ℕ) → G.may_leave_since e (G.moment d) x → G.may_leave d x ⊎ G.may_leave_since e b x
    pub entry : G.tells → G.seen d ≡ [] → b ≡ G.moment d

  -- A disk that tells, whose content was `old`, and on which the opening of a run did no more than start stream j of n: its
  -- barrier, and what is left since then.
  abbrev pub OpeningHasBarrier : Type 0
  OpeningHasBarrier = (f : Format) (n j long : ℕ) (old body : List ℕ) (d e : D) → G.tells → IsTouched G f n j long old body d e → HasContent f n j old (G.seen d) → (G.seen d ≡ [] → (old ≡ []) × IsUnborn (G.may_leave d)) →
      (b : ℕ) × IsBarrier b d e × ((x : List ℕ) → G.may_leave_since e b x → IsOldOrNew f n j old body x)
