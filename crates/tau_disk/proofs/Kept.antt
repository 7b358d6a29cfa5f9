-- What a write of a memory disk leaves.
use Rattle.std.proofs.Common.{◌≡◌, ◌&&◌, ℕ, Bool, true, false, List, ◌++◌, ◌∷◌, [], length, sym, ◌∙◌, ap, Vec, Global}
use Rattle.tau_disk.specs.declared.call.DiskCall.{DiskCall}
use Rattle.tau_disk.specs.declared.call.DiskCall.TheVariants.{Wrote, Lost}
use Rattle.tau_disk.specs.Replay.{DiskState, replayed, wrote}
use Rattle.tau_disk.specs.Memory.{failed_write}
use Rattle.tau_disk.proofs.Replays.{one_more}

module _ (s : DiskState) (old new : List DiskCall) (at : ℕ) (bytes : List ℕ) where
  pub written : (v : Vec ℕ Global) → v.items ≡ bytes → new ≡ old ++ Wrote at v ∷ [] → replayed s new ≡ wrote (replayed s old) at bytes
  written v same is = one_more s old new (Wrote at v) is ∙ ap (wrote (replayed s old) at) same

  -- the last write, which counts as written
  pub kept : (is_last : Bool) → is_last ≡ true → (v : Vec ℕ Global) → v.items ≡ bytes → new ≡ old ++ Wrote at v ∷ [] → replayed s new ≡ failed_write is_last (replayed s old) at bytes
  kept is_last last v same is = written v same is ∙ ap (λ (b : Bool). failed_write b (replayed s old) at bytes) (sym last)

  -- another one
  pub not_kept : (is_last : Bool) → is_last ≡ false → new ≡ old ++ Lost at (length bytes) ∷ [] → replayed s new ≡ failed_write is_last (replayed s old) at bytes
  not_kept is_last other is = one_more s old new (Lost at (length bytes)) is ∙ ap (λ (b : Bool). failed_write b (replayed s old) at bytes) (sym other)

pub both : (a b c : Bool) → a ≡ true → c ≡ b → c ≡ true → (a && b) ≡ true
both a b c first is second = λ i. first i && (sym is ∙ second) i

pub second_not : (a b c : Bool) → a ≡ true → c ≡ b → c ≡ false → (a && b) ≡ false
second_not a b c first is second = λ i. first i && (sym is ∙ second) i
