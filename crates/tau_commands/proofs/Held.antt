-- What images of slots hold is one.
use Rattle.std.proofs.Common.{ℕ, ◌≡◌, List, [], refl, ap, sym, ◌∙◌}
use Rattle.std.specs.Prelude.{Option, Some, None, slice_index_or}
use Rattle.tau_ckpt.proofs.Parts.{held_once}
use Rattle.tau_ckpt.specs.declared.checkpoint.Checkpoint.{Checkpoint}
use Rattle.tau_ckpt.specs.declared.slots.Slots.{Slots}
use Rattle.tau_ckpt.specs.Chosen.{AreHeld, HoldsJust}
use Rattle.tau_commands.specs.Checkpoints.{HoldSlots}

same_one : (slot : ℕ) (image : List ℕ) (a b : Option Checkpoint) → HoldsJust slot image a → HoldsJust slot image b → a ≡ b
same_one slot image None None one two = refl
same_one slot image None (Some b) one two = absurd (one b two)
same_one slot image (Some a) None one two = absurd (two a one)
same_one slot image (Some a) (Some b) one two = ap (λ (c : Checkpoint). Some c) (held_once slot image a b one two)

slots_are : (a b : Slots) → a.first ≡ b.first → a.second ≡ b.second → a ≡ b
slots_are a b first second = (λ i. record { first = first i; second = second i })

-- the slots hold one thing
pub same_held : (images : List (List ℕ)) (a b : Slots) → HoldSlots images a → HoldSlots images b → a ≡ b
same_held images a b one two =
    slots_are a b
    (same_one 0 (slice_index_or images 0 []) a.first b.first one.first_is two.first_is)
    (same_one 1 (slice_index_or images 1 []) a.second b.second one.second_is two.second_is)
