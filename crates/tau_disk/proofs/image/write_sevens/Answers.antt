use Rattle.std.proofs.Common.{ℕ, ◌+◌, List, take, sym, ap, ◌∙◌, ◌≡◌, ◌++◌, ◌∷◌, []}
use Rattle.std.proofs.lemmas.List.{take_more}
use Rattle.tau_disk.specs.declared.call.DiskCall.{DiskCall}
use Rattle.tau_disk.specs.Tear.{sevened}
use Rattle.tau_disk.proofs.Replays.{sevened_append}
use Rattle.tau_disk.proofs.image.write_sevens.Goals as goal

pub loop-call-preserved : goal.loop-call-preserved
loop-call-preserved c =
    let calls = c.args.calls.now in
    let k = c.loop-call.call-index in
    let first = c.args.image.now.items in
    let grown : take (k + 1) calls ≡ take k calls ++ c.call-item.result ∷ [] =
    take_more calls k c.call-item.result c.loop-call-test.true ∙ ap (λ (call : DiskCall). take k calls ++ call ∷ []) (sym c.call-item.is) in
    c.in_ok-write_one_sevens.ensures
    ∙ ap (λ (file : List ℕ). sevened file (c.call-item.result ∷ [])) c.loop-call.invariant
    ∙ sym (sevened_append first (take k calls) (c.call-item.result ∷ []))
    ∙ ap (sevened first) (sym grown)
