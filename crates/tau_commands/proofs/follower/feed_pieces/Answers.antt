use Rattle.std.proofs.Common.{◌≤◌, ◌∙◌, ◌+◌, ℕ, List, length, refl, subst, sym}
use Rattle.tau_follow_laws.specs.Feeding.{Piece}
use Rattle.tau_commands.specs.Sources.{NoPiece, BeginsWith}
use Rattle.tau_commands.proofs.Spelled.{rest_all}
use Rattle.tau_commands.proofs.Going.{IsFedTo, more_fed, all_fed, bad_fed, begins_within}
use Rattle.tau_commands.proofs.follower.feed_pieces.Goals as goal

pub returns-in-Err-clause-bad : goal.returns-in-Err-clause-bad
returns-in-Err-clause-bad c pieces fault are e =
    let at = c.loop-piece.at in
    let front = subst (λ (l : List ℕ). BeginsWith c.args.streams l c.in-Some.piece) (rest_all c.args.text.now at c.loop-piece.invariant.within) c.in-Some.ensures.some in
    bad_fed c.args.streams c.args.text.now at c.loop-piece.lines.items c.feed_piece.new.lines.items c.loop-piece.follower c.in-Some.piece fault pieces c.requires.within front
    (λ f m fed s follows. c.feed_piece.ensures.bad f m fed s fault follows (c.in-Err.is ∙ e)) (c.loop-piece.invariant.fed pieces are)

pub loop-piece-preserved : goal.loop-piece-preserved
loop-piece-preserved c =
    let at = c.loop-piece.at in
    let front = subst (λ (l : List ℕ). BeginsWith c.args.streams l c.in-Some.piece) (rest_all c.args.text.now at c.loop-piece.invariant.within) c.in-Some.ensures.some in
    record {
      within = subst (λ (p : Piece). at + (5 + length p.bytes) ≤ length c.args.text.now) (sym c.piece.view_is) (begins_within c.args.streams c.args.text.now at c.in-Some.piece c.loop-piece.invariant.within front);
      opened = c.in-Ok-feed_piece.ensures.open;
      width = c.feed_piece.ensures.width ∙ c.loop-piece.invariant.width;
      told = c.feed_piece.ensures.told;
      fed = λ pieces are. subst (λ (p : Piece). IsFedTo c.args.streams c.args.text.now (at + (5 + length p.bytes)) c.feed_piece.new.lines.items c.feed_piece.new.follower pieces) (sym c.piece.view_is)
          (more_fed c.args.streams c.args.text.now at c.loop-piece.lines.items c.feed_piece.new.lines.items c.loop-piece.follower c.feed_piece.new.follower c.in-Some.piece pieces c.requires.within front
          (λ f m fed s follows. c.in-Ok-feed_piece.ensures.ok f m fed s follows) (c.loop-piece.invariant.fed pieces are));
    }

pub returns-clause-ok : goal.returns-clause-ok
returns-clause-ok c pieces are =
    let none = subst (NoPiece c.args.streams) (rest_all c.args.text.now c.loop-piece.at c.loop-piece.invariant.within) (c.in_default-piece_in.ensures.none refl) in
    all_fed c.args.streams c.args.text.now c.loop-piece.at c.loop-piece.lines.items c.loop-piece.follower pieces none (c.loop-piece.invariant.fed pieces are)
