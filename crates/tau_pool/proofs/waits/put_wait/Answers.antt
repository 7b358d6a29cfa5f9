-- The record is passed over, or put at the end.
use Rattle.std.proofs.Common.{◌≡◌, ◌+◌, ◌++◌, ◌∷◌, [], ◌∙◌, true, false, List, drop, ap, sym, rules}
use Rattle.tau_pool.specs.declared.waits.Wait.{Wait}
use Rattle.tau_pool.specs.Passing.{waits_for, waits_at}
use Rattle.tau_pool.proofs.Waiting.{wait_passed, wait_put, put_after}
use Rattle.tau_pool.proofs.waits.put_wait.Goals as goal
use Rattle.tau_base.proofs.Lists.{some_at}

pub returns-then-not-waits_for : goal.returns-then-not-waits_for
returns-then-not-waits_for c =
    let (x, there) = some_at c.args.items.now c.args.item c.requires in
    let is : waits_for c.args.k c.args.reach x ≡ false = sym (c.waits_for.ensures x there) ∙ c.if-not-waits_for.true in
    ap (λ (ws : List Wait). c.args.waits.now.items ++ ws) (sym (wait_passed c.args.k c.args.reach c.args.items.now c.args.item x there is))

pub returns : goal.returns
returns c =
    let (x, there) = some_at c.args.items.now c.args.item c.requires in
    let is : waits_for c.args.k c.args.reach x ≡ true = sym (c.waits_for.ensures x there) ∙ c.if-not-waits_for.false in
    let w : Wait = record { at = c.position.result; item = c.args.item } in
    let rest : List Wait = waits_at c.args.k c.args.reach (c.args.item + 1) (drop (c.args.item + 1) c.args.items.now) in
    let pushed : c.push.new.self.items ≡ c.args.waits.now.items ++ w ∷ [] = search rules in
    ap (λ (ws : List Wait). ws ++ rest) pushed ∙ put_after c.args.waits.now.items w rest
    ∙ (λ i. c.args.waits.now.items ++ record { at = c.position.ensures x there i; item = c.args.item } ∷ rest)
    ∙ ap (λ (ws : List Wait). c.args.waits.now.items ++ ws) (sym (wait_put c.args.k c.args.reach c.args.items.now c.args.item x there is))
