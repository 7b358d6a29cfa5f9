use Rattle.std.proofs.Common.{◌≡◌, Option, ap, subst, sym, ◌∙◌, arith, length}
use Rattle.std.specs.Prelude.{None}
use Rattle.std.proofs.lemmas.Result.{err_from_is_err_and}
use Rattle.tau_rule.specs.Rule.{has}
use Rattle.tau_desk.specs.Ends.{told_head_raised}
use Rattle.tau_desk.specs.Resumes.{CanGoOn, IsResumed, ResumedBy}
use Rattle.tau_desk.specs.Seats.{PlainHead}
use Rattle.tau_crew.specs.LeftOver.{LeftWent}
use Rattle.tau_crew.proofs.LeftOver.{few_out, its, left_out, resumed_rests, went_none, went_on, went_refused, went_short}
use Rattle.tau_crew.proofs.left_over.run_lowest.Goals as goal

pub stop-requires-clause-role : goal.stop-requires-clause-role
stop-requires-clause-role g c =
    let low = c.requires.run.stands.sound.workers_low in
    let r = its _ _ c.args.head.now c.args.head.now c.requires.head c.agrees.ensures 0 (omega (arith, low)) in
    (0, r.0, ap (λ (h : PlainHead). has 0 h.me.0) c.in-Err.ensures.refused ∙ r.1)

pub returns-in-Err : goal.returns-in-Err
returns-in-Err g c =
    went_refused _ _ c.args.head.now c.stop.new.self c.requires.head c.agrees.ensures
    (subst (λ (h : PlainHead). c.stop.new.self ≡ record h { me = (told_head_raised h.me.0, h.me.1) }) c.in-Err.ensures.refused c.stop.ensures.knows) c.requires.run.stands.sound.workers_low c.in-Err.error

pub returns-in-Ok-None : goal.returns-in-Ok-None
returns-in-Ok-None g c =
    let l = c.args.desk.now.table.shared.key.value.load in
    let none : (c.split_resumed.new.head ≡ c.args.head.now) × CanGoOn (length l.calls) c.args.head.now.workers None = subst (λ (o : Option _). ResumedBy l c.args.head.now c.split_resumed.new.head o) c.in-Ok-None.field-0-is c.in-Ok-None.ensures.split in
    went_none _ _ c.args.head.now c.split_resumed.new.head c.requires.head c.agrees.ensures c.requires.ran none.0 none.1

pub first_out-worker-requires : goal.first_out-worker-requires
first_out-worker-requires g c =
    let l = c.args.desk.now.table.shared.key.value.load in
    let q : IsResumed l c.args.head.now c.split_resumed.new.head c.in-Ok-Some.seat = subst (λ (o : Option _). ResumedBy l c.args.head.now c.split_resumed.new.head o) c.in-Ok-Some.field-0-is c.in-Ok-Some.ensures.split in
    record {
      out = (
        q.left.worker,
        few_out _ c.args.desk.now.table.shared.table_id c.args.head.now c.split_resumed.new.head c.in-Ok-Some.seat c.requires.head c.agrees.ensures q c.requires.run.stands.sound.workers_high,
        left_out _ c.args.desk.now.table.shared.table_id c.args.head.now c.split_resumed.new.head c.in-Ok-Some.seat c.requires.head c.agrees.ensures q,
      );
    }

pub run_alone-requires-clause-worker : goal.run_alone-requires-clause-worker
run_alone-requires-clause-worker g c =
    let l = c.args.desk.now.table.shared.key.value.load in
    let q : IsResumed l c.args.head.now c.split_resumed.new.head c.in-Ok-Some.seat = subst (λ (o : Option _). ResumedBy l c.args.head.now c.split_resumed.new.head o) c.in-Ok-Some.field-0-is c.in-Ok-Some.ensures.split in
    c.first_out-worker.ensures q.left.worker (left_out _ c.args.desk.now.table.shared.table_id c.args.head.now c.split_resumed.new.head c.in-Ok-Some.seat c.requires.head c.agrees.ensures q) ∙ sym q.worker

pub run_alone-requires-clause-rests : goal.run_alone-requires-clause-rests
run_alone-requires-clause-rests g c =
    let l = c.args.desk.now.table.shared.key.value.load in
    let q : IsResumed l c.args.head.now c.split_resumed.new.head c.in-Ok-Some.seat = subst (λ (o : Option _). ResumedBy l c.args.head.now c.split_resumed.new.head o) c.in-Ok-Some.field-0-is c.in-Ok-Some.ensures.split in
    resumed_rests _ c.args.desk.now.table.shared.table_id c.args.head.now c.split_resumed.new.head c.in-Ok-Some.seat c.requires.head c.agrees.ensures q

pub returns-in_err-run_alone-in-Ok-Some : goal.returns-in_err-run_alone-in-Ok-Some
returns-in_err-run_alone-in-Ok-Some g c =
    let l = c.args.desk.now.table.shared.key.value.load in
    let q : IsResumed l c.args.head.now c.split_resumed.new.head c.in-Ok-Some.seat = subst (λ (o : Option _). ResumedBy l c.args.head.now c.split_resumed.new.head o) c.in-Ok-Some.field-0-is c.in-Ok-Some.ensures.split in
    let p = err_from_is_err_and c.from_residual.result c.from_residual.ensures.1 in
    subst (λ r. LeftWent c.args.desk.now.table.shared.key.value c.args.desk.now.table.shared.table_id c.args.head.now c.run_alone.new.head r) (sym p.1)
    (went_short _ _ c.args.head.now c.split_resumed.new.head c.in-Ok-Some.seat c.requires.head c.agrees.ensures q c.run_alone.new.head _ c.in_err-run_alone-in-Ok-Some.ensures)

pub returns-in_ok-run_alone-in-Ok-Some : goal.returns-in_ok-run_alone-in-Ok-Some
returns-in_ok-run_alone-in-Ok-Some g c =
    let l = c.args.desk.now.table.shared.key.value.load in
    let q : IsResumed l c.args.head.now c.split_resumed.new.head c.in-Ok-Some.seat = subst (λ (o : Option _). ResumedBy l c.args.head.now c.split_resumed.new.head o) c.in-Ok-Some.field-0-is c.in-Ok-Some.ensures.split in
    went_on _ _ c.args.head.now c.split_resumed.new.head c.in-Ok-Some.seat c.requires.head c.agrees.ensures q c.run_alone.new.head c.requires.ran c.in_ok-run_alone-in-Ok-Some.ensures
