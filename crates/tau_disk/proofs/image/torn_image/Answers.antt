use Rattle.std.proofs.Common.{sym, ◌∙◌, ap, List, ℕ, length, take, drop, rules, ◌≡◌, ◌-◌, arith, length-drop}
use Rattle.std.proofs.lemmas.List.{take_all}
use Rattle.tau_disk.specs.Tear.{rewritten, sevened}
use Rattle.tau_disk.proofs.Replays.{torn_is}
use Rattle.tau_disk.proofs.image.torn_image.Goals as goal

pub returns : goal.returns
returns c =
    let calls = c.args.calls.now in
    let last = c.last_sync-last.result in
    let begun : c.in_ok-image.image.items ≡ c.args.first.now = search rules in
    c.in_ok-write_sevens.ensures
    ∙ ap (sevened c.write_again.new.image.items) (take_all (length calls - last) (drop last calls) (omega (arith, length-drop last calls)))
    ∙ ap (λ (file : List ℕ). sevened file (drop last calls)) (c.in_ok-write_again.ensures ∙ ap (λ (file : List ℕ). rewritten file (take last calls)) begun)
    ∙ sym (torn_is c.args.first.now calls last c.last_sync-last.ensures)
