-- What a stop leaves of a memory disk, of three kinds.
use Rattle.std.specs.Prelude.{◌≡◌, ℕ, ◌≤◌, List, [], ◌∷◌, length, take, drop}
use Rattle.std.proofs.Common.{arith, refl, subst}
use Rattle.tau_disk.specs.declared.call.DiskCall.{DiskCall}
use Rattle.tau_disk.specs.declared.call.DiskCall.TheVariants.{Wrote, Lost, Synced}
use Rattle.tau_disk.specs.declared.call.Tear.{Tear}
use Rattle.tau_disk.specs.declared.call.Tear.TheVariants.{Old, New, Torn}
use Rattle.tau_disk.specs.Replay.{DiskState, leaves, opened, over, reach, sevens, replayed}

-- the image that a stop leaves: of what was synced last, with all later writes, or with those bytes reading 7
abbrev pub image_by : DiskState → Tear → List ℕ
image_by s Old = s.synced
image_by s New = s.seen
image_by s Torn = s.torn

reaches_back : (len : ℕ) (tears : List (ℕ × ℕ)) → len ≤ reach len tears
reaches_back len [] = omega arith
reaches_back len (tear ∷ tears) = omega (arith, reaches_back len tears)

-- a stop may leave each of the kinds
pub leaves_kind : (s : DiskState) (seen : List ℕ) → seen ≡ s.seen → leaves s seen → leaves s s.torn → (kind : Tear) → leaves s (image_by s kind)
leaves_kind s seen reads sound torn_sound Old = record { same = λ k within outside. refl; no_shorter = omega arith; no_longer = reaches_back (length s.synced) s.tears }
leaves_kind s seen reads sound torn_sound New = subst (λ (x : List ℕ). leaves s x) reads sound
leaves_kind s seen reads sound torn_sound Torn = torn_sound

-- no sync is among these calls
abbrev pub IsUnsynced : List DiskCall → Type 0
IsUnsynced [] = Unit {0}
IsUnsynced (Synced ∷ calls) = ⊥
IsUnsynced (Wrote at bytes ∷ calls) = IsUnsynced calls
IsUnsynced (Lost at count ∷ calls) = IsUnsynced calls

-- nothing was written since a sync
pub record IsCalm (s : DiskState) : Type 0 where
  pub seen : s.seen ≡ s.synced
  pub torn : s.torn ≡ s.synced

-- so many calls end with the last sync
pub record EndsAtSync (calls : List DiskCall) (last : ℕ) : Type 0 where
  pub within : last ≤ length calls
  pub calm : (bytes : List ℕ) → IsCalm (replayed (opened bytes) (take last calls))
  pub rest : IsUnsynced (drop last calls)

-- a file after the writes among these calls
abbrev pub rewritten : List ℕ → List DiskCall → List ℕ
rewritten file [] = file
rewritten file (Wrote at bytes ∷ calls) = rewritten (over at bytes.items file) calls
rewritten file (Lost at count ∷ calls) = rewritten file calls
rewritten file (Synced ∷ calls) = rewritten file calls

-- the same with each byte that they wrote reading 7
abbrev pub sevened : List ℕ → List DiskCall → List ℕ
sevened file [] = file
sevened file (Wrote at bytes ∷ calls) = sevened (over at (sevens (length bytes.items)) file) calls
sevened file (Lost at count ∷ calls) = sevened file calls
sevened file (Synced ∷ calls) = sevened file calls
