use Rattle.std.proofs.Common.{ℕ, ◌+◌, List, length, take, subst, sym, ap, ◌∙◌, ◌≡◌, ◌++◌, ◌∷◌, [], arith, get_or, refl, ◌<◌}
use Rattle.std.proofs.lemmas.List.{take_all, take_more, length-take-le}
use Rattle.tau_disk.specs.declared.call.DiskCall.{DiskCall}
use Rattle.tau_disk.specs.declared.call.DiskCall.TheVariants.{Synced}
use Rattle.tau_disk.specs.Tear.{EndsAtSync, IsUnsynced}
use Rattle.tau_disk.proofs.Replays.{ends_none, ends_synced, ends_other}
use Rattle.tau_disk.proofs.image.last_sync.Goals as goal
use Rattle.tau_disk.proofs.image.last_sync.Goals.{then-is_sync, else-is_sync}

pub loop-k-init : goal.loop-k-init
loop-k-init c = ends_none

module _ (calls : List DiskCall) (k last : ℕ) (call : DiskCall) (lt : k < length calls) (here : call ≡ get_or calls k call) (ends : EndsAtSync (take k calls) last) where
  grown : (next : DiskCall) → call ≡ next → take (k + 1) calls ≡ take k calls ++ next ∷ []
  grown next is = take_more calls k call lt ∙ ap (λ (one : DiskCall). take k calls ++ one ∷ []) (sym here ∙ is)

  step_synced : call ≡ Synced → EndsAtSync (take (k + 1) calls) (k + 1)
  step_synced is = subst (λ (l : List DiskCall). EndsAtSync l (k + 1)) (sym (grown Synced is))
      (subst (λ (n : ℕ). EndsAtSync (take k calls ++ Synced ∷ []) (n + 1)) (length-take-le k calls (omega (arith, lt))) (ends_synced (take k calls)))

  step_other : IsUnsynced (call ∷ []) → EndsAtSync (take (k + 1) calls) last
  step_other other = subst (λ (l : List DiskCall). EndsAtSync l last) (sym (grown call refl)) (ends_other (take k calls) last call ends other)

pub loop-k-preserved : goal.loop-k-preserved
loop-k-preserved c =
    let calls = c.args.calls.now in
    elim c.if-is_sync.branch [
      | then-is_sync w ↦ subst (EndsAtSync (take (c.loop-k.k + 1) calls)) (sym w.last-is) (step_synced calls c.loop-k.k c.loop-k.last c.index-calls-k.result c.loop-k-test.true c.index-calls-k.is c.loop-k.invariant (c.is_sync.ensures.sync w.if-is_sync.true))
      | else-is_sync w ↦ subst (EndsAtSync (take (c.loop-k.k + 1) calls)) (sym w.last-is) (step_other calls c.loop-k.k c.loop-k.last c.index-calls-k.result c.loop-k-test.true c.index-calls-k.is c.loop-k.invariant (c.is_sync.ensures.other w.if-is_sync.false))
    ]

pub returns : goal.returns
returns c = subst (λ (l : List DiskCall). EndsAtSync l c.loop-k.last) (take_all c.loop-k.k c.args.calls.now c.loop-k-test.false) c.loop-k.invariant
