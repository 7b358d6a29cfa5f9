use Rattle.std.proofs.Common.{◌≡◌, true, false}
use Rattle.tau_crew.proofs.Anchoring.{short_stopped}
use Rattle.tau_crew.proofs.Driving.{short_of}
use Rattle.tau_crew.proofs.manager.ManagerJob.turn.Goals as goal

pub manager_turn-requires-clause-driven : goal.manager_turn-requires-clause-driven
manager_turn-requires-clause-driven g c = let q = c.requires.manages in (q.format, q.n, q.j, q.base, q.w0, q.manager.driven c.if-self.false)

pub returns-in-Ok-Flushed-clause-keeps : goal.returns-in-Ok-Flushed-clause-keeps
returns-in-Ok-Flushed-clause-keeps g c = λ format n j base w0 m.
    let d = c.in-Ok-Flushed.ensures.keeps format n j base w0 (m.driven c.if-self.false) in record {
      wrote = short_of format n j base w0 c.manager_turn.new.seat c.manager_turn.new.writer d;
      driven = λ e. d;
      flushed = λ e. c.in-Ok-Flushed.ensures.flushed;
      apart = λ e. c.in-Ok-Flushed.ensures.apart _ (m.apart c.if-self.false);
    }

pub returns-in-Ok-Idle-clause-keeps : goal.returns-in-Ok-Idle-clause-keeps
returns-in-Ok-Idle-clause-keeps g c = λ format n j base w0 m.
    let d = c.in-Ok-Idle.ensures.keeps format n j base w0 (m.driven c.if-self.false) in record {
      wrote = short_of format n j base w0 c.manager_turn.new.seat c.manager_turn.new.writer d;
      driven = λ e. d;
      flushed = λ e. c.in-Ok-Idle.ensures.flushed;
      apart = λ e. c.in-Ok-Idle.ensures.apart _ (m.apart c.if-self.false);
    }

pub returns-in-Ok-Failed-clause-keeps : goal.returns-in-Ok-Failed-clause-keeps
returns-in-Ok-Failed-clause-keeps g c = λ format n j base w0 m.
    let d = c.in-Ok-Failed.ensures.keeps format n j base w0 (m.driven c.if-self.false) in record {
      wrote = short_of format n j base w0 c.manager_turn.new.seat c.manager_turn.new.writer d;
      driven = λ e. d;
      flushed = λ e. c.in-Ok-Failed.ensures.flushed;
      apart = λ e. c.in-Ok-Failed.ensures.apart _ (m.apart c.if-self.false);
    }

pub returns-in-Err-clause-keeps : goal.returns-in-Err-clause-keeps
returns-in-Err-clause-keeps g c = λ format n j base w0 m.
    let short = c.in-Err.ensures.short format n j base w0 (m.driven c.if-self.false) (m.flushed c.if-self.false) in record {
      wrote = short_stopped format n j base w0 c.manager_turn.new.seat c.stop.new.self c.manager_turn.new.writer short c.stop.ensures.knows;
      driven = λ e. absurd (let bad : true ≡ false = e in cc);
      flushed = λ e. absurd (let bad : true ≡ false = e in cc);
      apart = λ e. absurd (let bad : true ≡ false = e in cc);
    }
