use Rattle.std.proofs.Common.{◌≡◌, [], false, length, sym, ap, subst, ◌∙◌}
use Rattle.std.specs.Prelude.{Bool, Some, OnOk, OnErr}
use Rattle.tau_shard.specs.Shard.{entry_in}
use Rattle.tau_shard.specs.Blocks.{dep_locked}
use Rattle.tau_shard.specs.Read.{shard_of}
use Rattle.tau_txn.specs.Kept.{KeepsHand, keeps_in, kept}
use Rattle.tau_txn.specs.Next.{next_action}
use Rattle.tau_txn.specs.Locked.{TxnLocked}
use Rattle.tau_txn.specs.Txn.{PlainTxn, RunsBy, runs_in, dep_in, leaves_in, leaves_by, bytes_in, bytes_by}
use Rattle.tau_txn.proofs.Locks.{asks_lock, txn_locked, txn_same}
use Rattle.tau_txn.proofs.txn.Txn.lock_on.Goals as goal

pub lock_on-requires-clause-run : goal.lock_on-requires-clause-run
lock_on-requires-clause-run c =
    let asked = asks_lock c.self.inside.in_hand c.self.inside.hand c.args.key c.args.mode (ap next_action c.self.view_is ∙ c.requires.lock) in
    let keeps : KeepsHand c.self.inside.streams c.self.inside.hand = subst (λ (b : Bool). keeps_in c.self.inside.streams (kept b c.self.inside.hand)) asked.0 c.self.invariant.hand in
    keeps.run

pub lock_on-requires-clause-running : goal.lock_on-requires-clause-running
lock_on-requires-clause-running c = (asks_lock c.self.inside.in_hand c.self.inside.hand c.args.key c.args.mode (ap next_action c.self.view_is ∙ c.requires.lock)).1.running

pub lock_on-requires-clause-wanted : goal.lock_on-requires-clause-wanted
lock_on-requires-clause-wanted c = (asks_lock c.self.inside.in_hand c.self.inside.hand c.args.key c.args.mode (ap next_action c.self.view_is ∙ c.requires.lock)).1.lock

pub invariant_of-self : goal.invariant_of-self
invariant_of-self c =
    let asked = asks_lock c.self.inside.in_hand c.self.inside.hand c.args.key c.args.mode (ap next_action c.self.view_is ∙ c.requires.lock) in
    let at : ◌≡◌ {A = PlainTxn} (record { worker = c.self.inside.worker; width = c.self.inside.streams; mode = c.self.inside.mode; hand = Some c.self.inside.hand }) c.args.self.now =
    ap (λ (b : Bool). record { worker = c.self.inside.worker; width = c.self.inside.streams; mode = c.self.inside.mode; hand = kept b c.self.inside.hand }) (sym asked.0) ∙ c.self.view_is in
    let keeps : KeepsHand c.self.inside.streams c.self.inside.hand = subst (λ (b : Bool). keeps_in c.self.inside.streams (kept b c.self.inside.hand)) asked.0 c.self.invariant.hand in
    let wide : length (dep_locked c.args.mode c.self.inside.hand.dep (entry_in (shard_of c.args.shard.now) c.args.key)) ≡ c.self.inside.streams =
    subst (λ (t : PlainTxn). length (dep_locked c.args.mode (dep_in t) (entry_in (shard_of c.args.shard.now) c.args.key)) ≡ t.width) (sym at) c.requires.wide in
    record {
      low = c.self.invariant.low;
      high = c.self.invariant.high;
      fits = c.self.invariant.fits;
      hand = subst (λ (b : Bool). keeps_in c.self.inside.streams (kept b c.lock_on.new.self)) (sym asked.0) (c.lock_on.ensures.runs.keeps c.self.inside.streams wide keeps);
    }

pub returns-clause-step : goal.returns-clause-step
returns-clause-step c =
    let asked = asks_lock c.self.inside.in_hand c.self.inside.hand c.args.key c.args.mode (ap next_action c.self.view_is ∙ c.requires.lock) in
    subst (λ (t : PlainTxn). OnOk c.lock_on.result (TxnLocked c.args.worker c.args.key c.args.mode (shard_of c.args.shard.now) (shard_of c.lock_on.new.shard) t
    (record { worker = c.self.inside.worker; width = c.self.inside.streams; mode = c.self.inside.mode; hand = kept c.self.inside.in_hand c.lock_on.new.self })))
    c.self.view_is
    (txn_locked c.self.inside.worker c.self.inside.streams c.self.inside.mode c.lock_on.result c.args.worker c.args.key c.args.mode (shard_of c.args.shard.now) (shard_of c.lock_on.new.shard) c.self.inside.in_hand c.self.inside.hand c.lock_on.new.self
    asked.0 c.lock_on.ensures.runs.standing c.lock_on.ensures.step)

pub returns-clause-as_before : goal.returns-clause-as_before
returns-clause-as_before c =
    subst (λ (t : PlainTxn). OnErr c.lock_on.result (◌≡◌ {A = PlainTxn} (record { worker = c.self.inside.worker; width = c.self.inside.streams; mode = c.self.inside.mode; hand = kept c.self.inside.in_hand c.lock_on.new.self }) t)) c.self.view_is
    (txn_same c.self.inside.worker c.self.inside.streams c.self.inside.mode c.lock_on.result c.self.inside.in_hand c.self.inside.hand c.lock_on.new.self c.lock_on.ensures.same)

pub returns-clause-runs : goal.returns-clause-runs
returns-clause-runs c = λ procs run.
    let asked = asks_lock c.self.inside.in_hand c.self.inside.hand c.args.key c.args.mode (ap next_action c.self.view_is ∙ c.requires.lock) in
    let was : runs_in procs (kept c.self.inside.in_hand c.self.inside.hand) = subst (RunsBy procs) (sym c.self.view_is) run in
    subst (λ (b : Bool). runs_in procs (kept b c.lock_on.new.self)) (sym asked.0) (c.lock_on.ensures.runs.runs procs (subst (λ (b : Bool). runs_in procs (kept b c.self.inside.hand)) asked.0 was))

pub returns-clause-stays : goal.returns-clause-stays
returns-clause-stays c = λ stays.
    let asked = asks_lock c.self.inside.in_hand c.self.inside.hand c.args.key c.args.mode (ap next_action c.self.view_is ∙ c.requires.lock) in
    let was : leaves_by (kept c.self.inside.in_hand c.self.inside.hand) ≡ false = ap leaves_in c.self.view_is ∙ stays in
    subst (λ (b : Bool). leaves_by (kept b c.lock_on.new.self) ≡ false) (sym asked.0) (c.lock_on.ensures.runs.leaves ∙ subst (λ (b : Bool). leaves_by (kept b c.self.inside.hand) ≡ false) asked.0 was)

pub returns-clause-bytes : goal.returns-clause-bytes
returns-clause-bytes c = λ none.
    let asked = asks_lock c.self.inside.in_hand c.self.inside.hand c.args.key c.args.mode (ap next_action c.self.view_is ∙ c.requires.lock) in
    let was : bytes_by (kept c.self.inside.in_hand c.self.inside.hand) ≡ [] = ap bytes_in c.self.view_is ∙ none in
    subst (λ (b : Bool). bytes_by (kept b c.lock_on.new.self) ≡ []) (sym asked.0) (c.lock_on.ensures.runs.bytes ∙ subst (λ (b : Bool). bytes_by (kept b c.self.inside.hand) ≡ []) asked.0 was)
