-- Disks on which a slot may be written, and tables of one row.
use Rattle.std.proofs.Common.{◌≡◌, ℕ, zero, suc, List, [], ◌∷◌, ◌++◌, length, sym, ap, subst, ◌∙◌, arith}
use Rattle.std.specs.Prelude.{◌≢◌, ℤ}
use Rattle.std.specs.List.{All}
use Rattle.std.specs.List.Sorted.{IsStrictlySortedBy}
use Rattle.tau_base.specs.declared.value.Key.{Key}
use Rattle.tau_base.specs.declared.value.Value.{Value}
use Rattle.tau_base.specs.declared.value.Value.TheVariants.{Absent, Int}
use Rattle.tau_disk.specs.Disk.{Only}
use Rattle.tau_disk.specs.Replay.{DiskState, leaves, opened}
use Rattle.tau_disk.proofs.Images.{image_synced}
use Rattle.tau_ckpt.specs.Slot.{AreTables, Holds}
use Rattle.tau_ckpt.specs.Writing.{IsQuiet}
use Rattle.tau_ckpt.specs.declared.checkpoint.Checkpoint.{Checkpoint}

-- on a disk with this image nothing is pending
pub quiet_of : (image file : List ℕ) (s : DiskState) → file ≡ image → s ≡ opened image → IsQuiet file (leaves s)
quiet_of image file s same is some x left = image_synced image x (subst (λ (t : DiskState). leaves t x) is left) ∙ sym same

-- nor on one whose slot was written
pub quiet_again : (file : List ℕ) (may_leave : List ℕ → Type 0) (slot : ℕ) (c : Checkpoint) → Only file may_leave → Holds slot file c → IsQuiet file may_leave
quiet_again file may_leave slot c only holds some = only

no_int : (z : ℤ) → Int z ≢ Absent
no_int z e = cc

present_int : (k : Key) (z : ℤ) → All (λ (r : Key × Value). r.1 ≢ Absent) ((k, Int z) ∷ [])
present_int k z zero d lt = no_int z
present_int k z (suc n) d lt = absurd (omega (arith, lt))

-- one row of a whole number, put into an empty list, is a table
pub one_row : (rows before made : List (Key × Value)) (k : Key) (z : ℤ) → rows ≡ made → made ≡ before ++ (k, Int z) ∷ [] → before ≡ [] → AreTables rows
unfolding IsStrictlySortedBy
one_row rows before made k z is put none =
    subst AreTables (sym (is ∙ put ∙ ap (λ (l : List (Key × Value)). l ++ (k, Int z) ∷ []) none)) (record { ascending = (tt, tt); present = present_int k z })
