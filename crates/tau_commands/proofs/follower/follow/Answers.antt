use Rattle.std.proofs.Common.{List, ℕ, subst}
use Rattle.tau_disk.specs.Disk.{Rose}
use Rattle.tau_commands.specs.Following.{HasFollowedText}
use Rattle.tau_commands.specs.Outside.{Wrote}
use Rattle.tau_commands.proofs.Answering.{follows_text}
use Rattle.tau_commands.proofs.follower.follow.Goals as goal

pub returns-in-Ok-clause-source : goal.returns-in-Ok-clause-source
returns-in-Ok-clause-source g c =
    let said = follows_text
    (record { tells = g.S.Source.tells; left = g.S.Source.left c.args.source.now; left' = g.S.Source.left c.read_text.new.source; rose = Rose (g.S.Source.faults c.args.source.now) (g.S.Source.faults c.read_text.new.source) })
    (record { hears = g.K.Sink.tells; held = g.K.Sink.held c.args.sink.now; held' = g.K.Sink.held c.follow_pieces.new.sink; faults = g.K.Sink.faults c.args.sink.now; faults' = g.K.Sink.faults c.follow_pieces.new.sink })
    c.args.streams c.follow_pieces.result c.in-Ok.text.items c.read_text.ensures.reads c.in-Ok.ensures.text c.in-Ok.ensures.within
    (subst (λ (l : List ℕ). HasFollowedText c.args.streams l (Wrote g.K.Sink.tells (g.K.Sink.held c.args.sink.now) (g.K.Sink.held c.follow_pieces.new.sink)) (Rose (g.K.Sink.faults c.args.sink.now) (g.K.Sink.faults c.follow_pieces.new.sink)) c.follow_pieces.result)
    c.deref.ensures.value c.follow_pieces.ensures) in
    said.source

pub returns-in-Ok-clause-ends : goal.returns-in-Ok-clause-ends
returns-in-Ok-clause-ends g c =
    let said = follows_text
    (record { tells = g.S.Source.tells; left = g.S.Source.left c.args.source.now; left' = g.S.Source.left c.read_text.new.source; rose = Rose (g.S.Source.faults c.args.source.now) (g.S.Source.faults c.read_text.new.source) })
    (record { hears = g.K.Sink.tells; held = g.K.Sink.held c.args.sink.now; held' = g.K.Sink.held c.follow_pieces.new.sink; faults = g.K.Sink.faults c.args.sink.now; faults' = g.K.Sink.faults c.follow_pieces.new.sink })
    c.args.streams c.follow_pieces.result c.in-Ok.text.items c.read_text.ensures.reads c.in-Ok.ensures.text c.in-Ok.ensures.within
    (subst (λ (l : List ℕ). HasFollowedText c.args.streams l (Wrote g.K.Sink.tells (g.K.Sink.held c.args.sink.now) (g.K.Sink.held c.follow_pieces.new.sink)) (Rose (g.K.Sink.faults c.args.sink.now) (g.K.Sink.faults c.follow_pieces.new.sink)) c.follow_pieces.result)
    c.deref.ensures.value c.follow_pieces.ensures) in
    said.ends

pub returns-in-Ok-clause-of : goal.returns-in-Ok-clause-of
returns-in-Ok-clause-of g c =
    let said = follows_text
    (record { tells = g.S.Source.tells; left = g.S.Source.left c.args.source.now; left' = g.S.Source.left c.read_text.new.source; rose = Rose (g.S.Source.faults c.args.source.now) (g.S.Source.faults c.read_text.new.source) })
    (record { hears = g.K.Sink.tells; held = g.K.Sink.held c.args.sink.now; held' = g.K.Sink.held c.follow_pieces.new.sink; faults = g.K.Sink.faults c.args.sink.now; faults' = g.K.Sink.faults c.follow_pieces.new.sink })
    c.args.streams c.follow_pieces.result c.in-Ok.text.items c.read_text.ensures.reads c.in-Ok.ensures.text c.in-Ok.ensures.within
    (subst (λ (l : List ℕ). HasFollowedText c.args.streams l (Wrote g.K.Sink.tells (g.K.Sink.held c.args.sink.now) (g.K.Sink.held c.follow_pieces.new.sink)) (Rose (g.K.Sink.faults c.args.sink.now) (g.K.Sink.faults c.follow_pieces.new.sink)) c.follow_pieces.result)
    c.deref.ensures.value c.follow_pieces.ensures) in
    said.of
