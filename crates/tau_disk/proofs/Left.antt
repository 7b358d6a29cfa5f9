-- What a write and a sync after it leave.
use Rattle.std.proofs.Common.{◌≡◌, ◌⊎◌, ◌+◌, ℕ, Bool, false, true≢false, List, sym, ◌∙◌, inl, inr, arith}
use Rattle.std.specs.Prelude.{Result, Ok, Err, OnOk}
use Rattle.tau_disk.specs.declared.call.Tear.{Tear}
use Rattle.tau_disk.specs.Disk.{IsPlanned, WasToFail, WasRefused}
use Rattle.tau_disk.specs.Left.{LeavesDurably, LeavesSync, LeavesWrite}

-- a call that failed and was refused no growth is counted
failed_counts : (number number' : ℕ) (fails : ℕ → Bool) (short short' : Bool) → WasToFail number number' fails short short' ⊎ WasRefused number number' fails short' → short' ≡ false → number' ≡ number + 1
failed_counts number number' fails short short' (inl planned) room = planned.0
failed_counts number number' fails short short' (inr refused) room = absurd (true≢false (sym refused.1 ∙ room))

module _ (T E : Type 0) (at : ℕ) (bytes : List ℕ) where
  pub write_stopped : (T' E' : Type 0) (seen : List ℕ) (number number' : ℕ) (fails fails' : ℕ → Bool) (short short' cut : Bool) (image image' : Tear → List ℕ) (keeps keeps' : ℕ → Bool) (e : E) (e' : E') →
      LeavesWrite {T = T} {E = E} at bytes number' short' cut image image' keeps keeps' (Err e) → IsPlanned {T = T} {E = E} number number' fails fails' short short' (Err e) →
      LeavesDurably {T = T'} {E = E'} at bytes seen number number' short' cut image image' keeps keeps' (Err e')
  unfolding LeavesWrite LeavesDurably
  write_stopped T' E' seen number number' fails fails' short short' cut image image' keeps keeps' e e' wrote plan =
      (tt, λ room whole. inl (failed_counts number number' fails short short' plan.failed room, wrote.1 room whole), wrote.2)

  pub write_synced : (T' E' : Type 0) (seen seen' : List ℕ) (number mid number' : ℕ) (fails' fails'' : ℕ → Bool) (short_mid short' cut_mid cut : Bool) (image image_mid image' : Tear → List ℕ) (keeps keeps_mid keeps' : ℕ → Bool) (v : T) (r : Result T' E') →
      LeavesWrite {T = T} {E = E} at bytes mid short_mid cut_mid image image_mid keeps keeps_mid (Ok v) → mid ≡ number + 1 →
      LeavesSync seen image_mid image' keeps_mid keeps' r → OnOk r (seen' ≡ seen) → IsPlanned mid number' fails' fails'' short_mid short' r →
      LeavesDurably at bytes seen' number number' short' cut image image' keeps keeps' r
  unfolding LeavesWrite LeavesSync LeavesDurably
  write_synced T' E' seen seen' number mid number' fails' fails'' short_mid short' cut_mid cut image image_mid image' keeps keeps_mid keeps' v (Ok w) wrote one synced same plan =
      (λ kind. synced.0 kind ∙ sym same, tt, λ k. synced.2 k ∙ wrote.2 k)
  write_synced T' E' seen seen' number mid number' fails' fails'' short_mid short' cut_mid cut image image_mid image' keeps keeps_mid keeps' v (Err e) wrote one synced same plan =
      (tt, λ room whole. inr (omega (arith, one, failed_counts mid number' fails' short_mid short' plan.failed room), λ kind. synced.1 kind ∙ wrote.0 kind), λ k. synced.2 k ∙ wrote.2 k)
