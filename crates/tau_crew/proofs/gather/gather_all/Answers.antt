use Rattle.std.proofs.Common.{◌∙◌, ap, subst, sym}
use Rattle.tau_desk.specs.Seats.{PlainManagerSeat}
use Rattle.tau_crew.specs.Gathering.{GathersMore}
use Rattle.tau_crew.proofs.Gathering.{gathers_none}
use Rattle.tau_crew.proofs.gather.gather_all.Goals as goal

pub returns-then-not-is_behind : goal.returns-then-not-is_behind
returns-then-not-is_behind g c = subst (λ (s : PlainManagerSeat). GathersMore c.args.seat.now s c.args.body.now.items c.args.body.now.items) (sym c.is_behind.ensures) (gathers_none c.args.seat.now c.args.body.now.items)

pub gather_rounds-requires-clause-own : goal.gather_rounds-requires-clause-own
gather_rounds-requires-clause-own g c = ap (λ (s : PlainManagerSeat). s.table_id) c.is_behind.ensures ∙ c.requires.own

pub gather_rounds-requires-clause-opened : goal.gather_rounds-requires-clause-opened
gather_rounds-requires-clause-opened g c = ap (λ (s : PlainManagerSeat). s.me.0.opened) c.is_behind.ensures ∙ c.requires.opened

pub gather_rounds-requires-clause-stream : goal.gather_rounds-requires-clause-stream
gather_rounds-requires-clause-stream g c = ap (λ (s : PlainManagerSeat). s.stream) c.is_behind.ensures ∙ c.requires.stream

pub returns : goal.returns
returns g c = subst (λ (s : PlainManagerSeat). GathersMore s c.gather_rounds.new.seat c.args.body.now.items c.gather_rounds.new.body.items) c.is_behind.ensures c.gather_rounds.ensures
