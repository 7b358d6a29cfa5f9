use Rattle.std.proofs.Common.{sym, ◌∙◌, ap, List, ℕ, take, rules, ◌≡◌}
use Rattle.tau_disk.specs.Tear.{rewritten}
use Rattle.tau_disk.proofs.Replays.{old_is}
use Rattle.tau_disk.proofs.image.old_image.Goals as goal

pub returns : goal.returns
returns c =
    let calls = c.args.calls.now in
    let last = c.last_sync-last.result in
    let begun : c.in_ok-image.image.items ≡ c.args.first.now = search rules in
    c.in_ok-write_again.ensures ∙ ap (λ (file : List ℕ). rewritten file (take last calls)) begun ∙ sym (old_is c.args.first.now calls last c.last_sync-last.ensures)
