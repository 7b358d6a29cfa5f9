-- It follows on.
use Rattle.std.proofs.Common.{ℕ, ◌≡◌, ◌∙◌, sym, subst, arith}
use Rattle.tau_base.specs.declared.format.Format.{Format}
use Rattle.tau_follow_laws.specs.Feeding.{Piece, with_piece, HasFed}
use Rattle.tau_follow.specs.State.{IsAt}
use Rattle.tau_follow.proofs.Spots.{spots_long}
use Rattle.tau_follow.proofs.follower.Follower.feed_on.Goals as goal

pub returns-in-Ok-clause-ok : goal.returns-in-Ok-clause-ok
returns-in-Ok-clause-ok c = λ f n fed s h yes.
    (let p : Piece = record { stream = c.args.stream; bytes = c.args.bytes.now } in
    let now = with_piece fed p in
    let as_f : c.format.result ≡ f = c.format.ensures ∙ h.format in
    let as_n : c.n.result ≡ n = c.n.ensures.same ∙ h.width in
    let before : IsAt c.format.result c.n.result fed s c.args.self.now.state = subst (λ (g : Format). IsAt g c.n.result fed s c.args.self.now.state) (sym as_f) (subst (λ (m : ℕ). IsAt f m fed s c.args.self.now.state) (sym as_n) h.state) in
    let w = c.in-Ok.ensures.ok fed s before in
    let after = subst (λ (g : Format). IsAt g n now w.0 c.feed.new.self) as_f (subst (λ (m : ℕ). IsAt c.format.result m now w.0 c.feed.new.self) as_n w.2) in
    let stands = after.stands in (
      w.0,
      subst (λ (g : Format). HasFed g now s w.0) as_f w.1,
      record {
        format = h.format;
        width = h.width;
        state = after;
        count = (let k = c.len-self.ensures in let l = spots_long w.0.streams c.feed.new.self.applier.order.items w.0.order stands.spots in omega (arith, k, l));
        good = h.good;
        open_still = h.open_still;
      },
    ))
