use Rattle.std.proofs.Common.{◌≡◌, ◌∙◌, ◌++◌, ℕ, Err, refl, subst, ap}
use Rattle.tau_follow_laws.specs.Feeding.{Piece, with_piece, read_now, HasFed}
use Rattle.tau_follow.specs.Follower.{Follows}
use Rattle.tau_commands.specs.Following.{applied_line}
use Rattle.tau_commands.proofs.follower.feed_piece.Goals as goal

pub returns-in-Err-clause-bad : goal.returns-in-Err-clause-bad
returns-in-Err-clause-bad c f n fed s fault follows e =
    (subst (λ (p : Piece). read_now f (with_piece fed p) s.order ≡ Err fault) c.piece.view_is (c.feed.ensures.bad f n fed s fault follows (c.in-Err.is ∙ e)), refl)

pub returns-in-Ok-put_applied-clause-ok : goal.returns-in-Ok-put_applied-clause-ok
returns-in-Ok-put_applied-clause-ok c f n fed s follows =
    let done = c.in-Ok.ensures.ok f n fed s follows in
    let count = c.applied.ensures.fed f n _ done.0 done.2 in (
      done.0,
      subst (λ (p : Piece). HasFed f (with_piece fed p) s done.0) c.piece.view_is done.1,
      subst (λ (p : Piece). Follows f n (with_piece fed p) done.0 c.feed.new.self) c.piece.view_is done.2,
      c.in-Ok-put_applied.ensures.ok ∙ ap (λ (k : ℕ). c.args.lines.now.items ++ applied_line k) count,
    )
