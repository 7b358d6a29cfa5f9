use Rattle.tau_desk.specs.Works.{told_room}
use Rattle.tau_desk.proofs.desk.Desk.give_room.Given as goal

abbrev pub ghosts-give_room_told : goal.ghosts-give_room_told
ghosts-give_room_told a = record { knows = λ _. told_room a.seat.now.me.0 (a.room.records, a.room.calls) }
