-- Who stands against a lock, and who holds a key that is locked.
use Rattle.std.proofs.Common.{ℕ, true, false, ◌≡◌, ◌⊎◌, inl, inr, refl, ap, ◌∙◌, Option}
use Rattle.std.specs.Prelude.{Some, None}
use Rattle.tau_base.specs.declared.value.Key.{Key}
use Rattle.tau_base.specs.declared.value.Mode.{Mode}
use Rattle.tau_base.specs.declared.value.Mode.TheVariants.{Read, Write}
use Rattle.tau_shard.specs.Shard.{Entry, Shard, entry_in, held_as, shard_locked}
use Rattle.tau_shard.proofs.At.{at_same, entry_same}
use Rattle.tau_shard.specs.Blocks.{against}

pub against_from : (m n : Mode) → (m ≡ Write) ⊎ (n ≡ Write) → against m (Some n) ≡ true
against_from Read Read h = elim h [ inl e ↦ absurd (let bad : Read ≡ Write = e in cc) | inr e ↦ absurd (let bad : Read ≡ Write = e in cc) ]
against_from Read Write h = refl
against_from Write n h = refl

pub against_to : (m : Mode) (o : Option Mode) → against m o ≡ true → (n : Mode) × (o ≡ Some n) × ((m ≡ Write) ⊎ (n ≡ Write))
against_to Read None h = absurd (let bad : false ≡ true = h in cc)
against_to Write None h = absurd (let bad : false ≡ true = h in cc)
against_to Read (Some Read) h = absurd (let bad : false ≡ true = h in cc)
against_to Read (Some Write) h = (Write, refl, inr refl)
against_to Write (Some n) h = (n, refl, inl refl)

-- a locked key is held
pub locked_held : (sh : Shard) (w : ℕ) (x : Key) (m : Mode) → (entry_in (shard_locked sh w x m) x).holders w ≡ Some m
locked_held sh w x m = ap (λ (e : Entry). e.holders w) (entry_same sh x (held_as (entry_in sh x) w (Some m))) ∙ at_same w (Some m) (entry_in sh x).holders
