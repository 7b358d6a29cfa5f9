use Rattle.std.proofs.Common.{List, ℕ, subst, sym, ap, ◌∙◌}
use Rattle.tau_shard.specs.Shard.{Dropped}
use Rattle.tau_shard.specs.Plain.{PlainShard}
use Rattle.tau_shard.specs.Read.{shard_of}
use Rattle.tau_rule.specs.Rule.{manager_role}
use Rattle.tau_rule.specs.Steps.{Sat}
use Rattle.tau_rule.proofs.Turns.{one_role}
use Rattle.tau_core.specs.State.{Plain}
use Rattle.tau_desk.specs.Seats.{PlainManagerSeat}
use Rattle.tau_desk.specs.Visits.{Sweeps}
use Rattle.tau_desk.proofs.seat.ManagerSeat.drop_covered.Goals as goal

pub take_free-shard-requires-clause-role : goal.take_free-shard-requires-clause-role
take_free-shard-requires-clause-role g c =
    let h = c.self.invariant in
    (manager_role h.origin.load c.self.inside.stream, h.role, one_role c.self.inside.seat.me.0 (manager_role h.origin.load c.self.inside.stream) h.role h.roles)

pub give_swept-requires-clause-event : goal.give_swept-requires-clause-event
give_swept-requires-clause-event g c =
    let h = c.self.invariant in
    let held = c.take_free-shard.ensures.held in record {
      taken = held.0;
      number = manager_role h.origin.load c.self.inside.stream;
      role = h.role;
      before = shard_of c.take_free-shard.result.value;
      held = ap (λ (x : Sat). x.0.hand) held.1;
      carried = ap (λ (x : Sat). x.1) held.1;
      roles = ap (λ (x : Sat). x.0.roles) held.1 ∙ h.roles;
      was = held.2;
      dropped = subst (λ (z : List ℕ × PlainShard). Dropped z.0 (shard_of z.1) (shard_of c.drop_covered.new.self)) (λ i. (sym (ap (λ (x : Sat). x.0.seen) held.1 ∙ h.seen_is) i, c.deref_mut.ensures.value i)) c.drop_covered.ensures.dropped;
    }

pub returns-clause-sweeps : goal.returns-clause-sweeps
returns-clause-sweeps g c =
    let key : Plain = c.args.desk.now.table.shared.key.value in
    let held = c.take_free-shard.ensures.held in
    let s : PlainManagerSeat = record { table_id = c.self.inside.seat.table_id; id = c.self.inside.seat.id; me = c.self.inside.seat.me; stream = c.self.inside.stream; stock = c.self.inside.stock; seen = c.self.inside.seen } in
    let all : Sweeps key s c.args.number = record {
      part_taken = held.0;
      agrees = held.3;
      before = shard_of c.take_free-shard.result.value;
      was = held.2;
      after = shard_of c.drop_covered.new.self;
      dropped = subst (λ (z : PlainShard). Dropped c.self.inside.seen (shard_of z) (shard_of c.drop_covered.new.self)) c.deref_mut.ensures.value c.drop_covered.ensures.dropped;
    } in
    subst (λ (z : PlainManagerSeat). Sweeps key z c.args.number) c.self.view_is all
