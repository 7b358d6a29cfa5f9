use Rattle.tau_desk.specs.Manages.{told_anchored}
use Rattle.tau_desk.proofs.desk.Desk.place_anchor.Given as goal

abbrev pub ghosts-place_anchor_as : goal.ghosts-place_anchor_as
ghosts-place_anchor_as a = record { knows = λ start. told_anchored a.seat.now.me.0 a.bytes.now.items start }
