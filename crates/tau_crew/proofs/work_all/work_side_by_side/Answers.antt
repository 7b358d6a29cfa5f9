use Rattle.std.proofs.Common.{◌+◌, ◌-◌, ◌≤◌, ◌≡◌, ℕ, ap, subst, arith}
use Rattle.tau_core.specs.declared.state.Load.{Load}
use Rattle.tau_crew.specs.WorkersBack.{WorkersBack}
use Rattle.tau_crew.proofs.WorkReturn.{all_back, all_ran}
use Rattle.tau_crew.proofs.work_all.work_side_by_side.Goals as goal

pub returns-clause-all : goal.returns-clause-all
returns-clause-all g c =
    let l : Load = c.args.desk.now.table.shared.key.value.load in
    let same : c.args.desk.now.load.workers ≡ l.workers = ap (λ (x : Load). x.workers) c.args.desk.now.same_load in
    let low : 1 ≤ l.workers = c.requires.run.stands.sound.workers_low in
    let count : 0 + (c.args.desk.now.load.workers - 1 + 1) ≡ l.workers = omega (arith, same, low) in
    let all : WorkersBack l 0 l.workers c.args.head c.work_all.result.0 c.work_all.result.1 = subst (λ (n : ℕ). WorkersBack l 0 n c.args.head c.work_all.result.0 c.work_all.result.1) count c.work_all.ensures in
    all

pub returns-clause-back : goal.returns-clause-back
returns-clause-back g c =
    let l : Load = c.args.desk.now.table.shared.key.value.load in
    let same : c.args.desk.now.load.workers ≡ l.workers = ap (λ (x : Load). x.workers) c.args.desk.now.same_load in
    let low : 1 ≤ l.workers = c.requires.run.stands.sound.workers_low in
    let count : 0 + (c.args.desk.now.load.workers - 1 + 1) ≡ l.workers = omega (arith, same, low) in
    let all : WorkersBack l 0 l.workers c.args.head c.work_all.result.0 c.work_all.result.1 = subst (λ (n : ℕ). WorkersBack l 0 n c.args.head c.work_all.result.0 c.work_all.result.1) count c.work_all.ensures in
    all_back l c.args.head c.work_all.result.0 c.work_all.result.1 all

pub returns-clause-ran : goal.returns-clause-ran
returns-clause-ran g c =
    let l : Load = c.args.desk.now.table.shared.key.value.load in
    let same : c.args.desk.now.load.workers ≡ l.workers = ap (λ (x : Load). x.workers) c.args.desk.now.same_load in
    let low : 1 ≤ l.workers = c.requires.run.stands.sound.workers_low in
    let count : 0 + (c.args.desk.now.load.workers - 1 + 1) ≡ l.workers = omega (arith, same, low) in
    let all : WorkersBack l 0 l.workers c.args.head c.work_all.result.0 c.work_all.result.1 = subst (λ (n : ℕ). WorkersBack l 0 n c.args.head c.work_all.result.0 c.work_all.result.1) count c.work_all.ensures in
    all_ran l c.args.head c.work_all.result.0 c.work_all.result.1 all
