use Rattle.std.proofs.Common.{◌+◌, List, ℕ, length, refl, subst, sym}
use Rattle.tau_follow_laws.specs.Feeding.{Piece}
use Rattle.tau_commands.specs.Sources.{NoPiece, BeginsWith}
use Rattle.tau_commands.proofs.Spelled.{Pieced, more_pieced, bad_pieced, rest_all}
use Rattle.tau_commands.proofs.pieces.bad_piece.Goals as goal

pub returns-in-None-clause-some : goal.returns-in-None-clause-some
returns-in-None-clause-some c =
    let none = subst (NoPiece c.args.streams) (rest_all c.args.text.now c.loop-at.at c.loop-at.invariant.within) (c.in-None.ensures.none refl) in
    bad_pieced c.args.streams c.args.text.now c.loop-at.at c.loop-at.invariant c.requires.within c.loop-at-test.true none

pub loop-at-preserved : goal.loop-at-preserved
loop-at-preserved c =
    let front = subst (λ (l : List ℕ). BeginsWith c.args.streams l c.in-Some.piece) (rest_all c.args.text.now c.loop-at.at c.loop-at.invariant.within) c.in-Some.ensures.some in
    subst (λ (p : Piece). Pieced c.args.streams c.args.text.now (c.loop-at.at + (5 + length p.bytes))) (sym c.piece.view_is)
    (more_pieced c.args.streams c.args.text.now c.loop-at.at c.in-Some.piece c.loop-at.invariant front)
