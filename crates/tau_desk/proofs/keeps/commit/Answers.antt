use Rattle.std.proofs.Common.{◌≡◌, ◌≤◌, ℕ, false, List, sym, subst, ◌∙◌}
use Rattle.tau_base.specs.declared.value.LogMode.{LogMode}
use Rattle.tau_base.specs.Modes.{format_of, most_streams}
use Rattle.tau_proc.specs.declared.proc.Proc.{Proc}
use Rattle.tau_record.specs.Record.{base_of, Spells}
use Rattle.tau_txn.specs.declared.action.Action.{Action}
use Rattle.tau_txn.specs.Next.{Commits, Means, act_at, next_action}
use Rattle.tau_txn.specs.Record.{entry_of}
use Rattle.tau_txn.specs.Txn.{bytes_in}
use Rattle.tau_core.specs.State.{Plain}
use Rattle.tau_core.proofs.ActionKinds.{commit_kind}
use Rattle.tau_rule.specs.Places.{IsToPlace}
use Rattle.tau_desk.proofs.Committing.{has_committed, placed_joined, raised_by, to_place}
use Rattle.tau_desk.proofs.keeps.commit.Goals as goal

pub place-requires-clause-call : goal.place-requires-clause-call
place-requires-clause-call c =
    let origin : Plain = c.args.desk.now.table.shared.key.value in
    let procs : List Proc = origin.load.procs in
    let r = c.requires.ready in
    let next = commit_kind (next_action c.args.txn.now) c.requires.next in
    let q : Commits procs c.args.txn.now next.0 = subst (λ (a : Action). Means procs c.args.txn.now a) next.1 (c.means.ensures procs r.runs) in
    let raised = c.in_ok-prepare.ensures.raised procs q.hand q.is in
    let fit = subst (λ (x : LogMode). origin.load.streams ≤ most_streams (format_of x)) (sym c.requires.mode) c.args.desk.now.fit in
    to_place origin c.args.worker c.args.seat.now.me c.args.txn.now c.prepare.new.self next.0 c.args.number c.args.anchor.now r q c.requires.read c.requires.wide fit c.in_ok-prepare.ensures.same raised
    c.in_ok-prepare.ensures.anchor c.in_ok-prepare.ensures.sized (λ vectors e. c.in_ok-prepare.ensures.bytes procs (raised_by q.hand c.args.anchor.now) 0 vectors r.runs raised e)

pub place-requires-clause-runs : goal.place-requires-clause-runs
place-requires-clause-runs c = c.prepare.ensures.runs c.args.desk.now.table.shared.key.value.load.procs c.requires.ready.runs

pub returns-clause-step : goal.returns-clause-step
returns-clause-step c =
    let origin : Plain = c.args.desk.now.table.shared.key.value in
    let procs : List Proc = origin.load.procs in
    let r = c.requires.ready in
    let next = commit_kind (next_action c.args.txn.now) c.requires.next in
    let q : Commits procs c.args.txn.now next.0 = subst (λ (a : Action). Means procs c.args.txn.now a) next.1 (c.means.ensures procs r.runs) in
    let raised = c.in_ok-prepare.ensures.raised procs q.hand q.is in
    let fit = subst (λ (x : LogMode). origin.load.streams ≤ most_streams (format_of x)) (sym c.requires.mode) c.args.desk.now.fit in
    let spelled : (start : ℕ) (vectors : List (List ℕ)) → base_of vectors c.args.number ≡ c.args.anchor.now →
    Spells (format_of c.args.txn.now.mode) c.args.txn.now.width vectors false (entry_of c.args.txn.now.mode (act_at procs c.prepare.new.self start (raised_by q.hand c.args.anchor.now))) (bytes_in c.prepare.new.self) =
    (λ start vectors e. c.in_ok-prepare.ensures.bytes procs (raised_by q.hand c.args.anchor.now) start vectors r.runs raised e) in
    let to : IsToPlace origin c.args.worker c.args.seat.now.me c.prepare.new.self =
    to_place origin c.args.worker c.args.seat.now.me c.args.txn.now c.prepare.new.self next.0 c.args.number c.args.anchor.now r q c.requires.read c.requires.wide fit c.in_ok-prepare.ensures.same raised
    c.in_ok-prepare.ensures.anchor c.in_ok-prepare.ensures.sized (spelled 0) in
    let kept = c.place.ensures.call in (
      kept.0,
      (
        c.place.ensures.step ∙ placed_joined origin c.args.worker c.args.seat.now.me c.prepare.new.self c.place.new.txn c.place.result kept.0 to kept.1,
        has_committed procs c.args.txn.now c.prepare.new.self c.place.new.txn next.0 c.args.number c.args.anchor.now c.place.result kept.0 q c.in_ok-prepare.ensures.same c.prepare.ensures.stays raised c.in_ok-prepare.ensures.anchor c.place.ensures.small (spelled c.place.result) kept.1,
      ),
      kept.2,
    )
