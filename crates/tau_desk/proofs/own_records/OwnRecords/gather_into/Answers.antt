use Rattle.std.proofs.Common.{rules, ◌≡◌, ◌-◌, ◌≤◌, ℕ, length, sym, subst}
use Rattle.tau_desk.specs.Shares.{AreCounted}
use Rattle.tau_desk.proofs.OwnCount.{counted_less, moved_few}
use Rattle.tau_desk.proofs.own_records.OwnRecords.gather_into.Goals as goal

pub overflow_sub-self-2 : goal.overflow_sub-self-2
overflow_sub-self-2 c =
    let before : c.len-before.result ≡ length c.args.body.now.items = search rules in
    let after : c.len.result ≡ length c.gather_into.new.body.items = search rules in
    subst (λ (z : ℕ × ℕ). z.1 - z.0 ≤ c.self.inside.bytes) (λ i. (sym before i, sym after i)) (moved_few c.self.inside.bytes _ _ _ _ _ _ c.self.invariant c.in_ok-past.ensures.gathers)

pub invariant_of-self-2 : goal.invariant_of-self-2
invariant_of-self-2 c =
    let before : c.len-before.result ≡ length c.args.body.now.items = search rules in
    let after : c.len.result ≡ length c.gather_into.new.body.items = search rules in
    subst (λ (z : ℕ × ℕ). AreCounted (c.self.inside.bytes - (z.1 - z.0)) c.gather_into.new.self.pieces) (λ i. (sym before i, sym after i)) (counted_less c.self.inside.bytes _ _ _ _ _ _ c.self.invariant c.in_ok-past.ensures.gathers)
