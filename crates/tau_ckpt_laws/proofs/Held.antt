-- The checkpoint that is taken is one that a slot holds.
use Rattle.std.proofs.Common.{ℕ, Bool, true, false, ◌≡◌, ◌⊎◌, inl, inr, List, Option, Some, None, sym, subst}
use Rattle.std.specs.Prelude.{if◌then◌else◌, nat_lt}
use Rattle.tau_scan.specs.declared.log.Log.{Log}
use Rattle.tau_ckpt.specs.declared.checkpoint.Checkpoint.{Checkpoint}
use Rattle.tau_ckpt.specs.declared.slots.Slots.{Slots}
use Rattle.tau_ckpt.specs.Slot.{Holds}
use Rattle.tau_ckpt.specs.Chosen.{HoldsJust, chosen, fits, fitting, newer}
use Rattle.tau_ckpt_laws.specs.Laws.{TakenIsTrue, WritesKeepTrue}
use Rattle.tau_ckpt_laws.specs.True.{IsTrue}

either_is : (t : Bool) (a b c : Checkpoint) → (if t then Some b else Some a) ≡ Some c → (Some a ≡ Some c) ⊎ (Some b ≡ Some c)
either_is true a b c e = inr e
either_is false a b c e = inl e

newer_is : (first second : Option Checkpoint) (c : Checkpoint) → newer first second ≡ Some c → (first ≡ Some c) ⊎ (second ≡ Some c)
newer_is None second c e = inr e
newer_is (Some a) None c e = inl e
newer_is (Some a) (Some b) c e = either_is (nat_lt a.number b.number) a b c e

if_fits : (t : Bool) (a c : Checkpoint) → (if t then Some a else None) ≡ Some c → Some a ≡ Some c
if_fits true a c e = e
if_fits false a c e = absurd cc

fitting_is : (log : Log) (held : Option Checkpoint) (c : Checkpoint) → fitting log held ≡ Some c → held ≡ Some c
fitting_is log None c e = e
fitting_is log (Some a) c e = if_fits (fits log a) a c e

chosen_is : (log : Log) (slots : Slots) (c : Checkpoint) → chosen log slots ≡ Some c → (slots.first ≡ Some c) ⊎ (slots.second ≡ Some c)
chosen_is log slots c e = elim (newer_is (fitting log slots.first) (fitting log slots.second) c e) [
  | inl one ↦ inl (fitting_is log slots.first c one)
  | inr other ↦ inr (fitting_is log slots.second c other)
]

held_is : (slot : ℕ) (image : List ℕ) (held : Option Checkpoint) (c : Checkpoint) → HoldsJust slot image held → held ≡ Some c → Holds slot image c
held_is slot image held c h e = subst (HoldsJust slot image) e h

pub taken_is_true : TakenIsTrue
taken_is_true f contents log first second slots held one other c e = elim (chosen_is log slots c e) [
  | inl is ↦ one c (held_is 0 first slots.first c held.first_is is)
  | inr is ↦ other c (held_is 1 second slots.second c held.second_is is)
]

pub writes_keep_true : WritesKeepTrue
writes_keep_true f contents slot before c old new after left b h = elim (left b h) [
  | inl was ↦ old b was
  | inr is ↦ subst (IsTrue f contents) (sym is) new
]
