-- A ready record is started.
use Rattle.std.proofs.Common.{◌≡◌, ◌+◌, ◌-◌, ◌≤◌, List, true, refl, sym, ap, subst, arith, length}
use Rattle.std.proofs.Math.ListN.{set}
use Rattle.tau_pool.specs.Item.{Item}
use Rattle.tau_pool.specs.declared.item.Job.{Job}
use Rattle.tau_pool.specs.declared.item.Stage.TheVariants.{Flying}
use Rattle.tau_pool.specs.Items.{is_waiting}
use Rattle.tau_pool.specs.Passing.{is_ready}
use Rattle.tau_pool.specs.Kept.{IsKept}
use Rattle.tau_pool.specs.Pooled.{Pooled, IsStarted, IsRecovered, job_of, staged}
use Rattle.tau_pool.proofs.Counts.{waiting_set, counts_few, one}
use Rattle.tau_pool.proofs.Passes.{ready_inv}
use Rattle.tau_pool.proofs.Keeping.{start_kept}
use Rattle.tau_pool.proofs.Firsts.{recovered}
use Rattle.tau_pool.proofs.pools.Pools.start.Goals as goal
use Rattle.tau_base.proofs.Lists.{got_within}

pub job-job-requires : goal.job-job-requires
job-job-requires c =
    let ready : is_ready c.self.inside.items c.self.inside.rlv c.args.place ≡ true = subst (λ (p : Pooled). is_ready p.items p.rlv c.args.place ≡ true) (sym c.self.view_is) c.requires in
    let (x, there, waits, covered) = ready_inv c.self.inside.items c.self.inside.rlv c.args.place ready in
    got_within c.self.inside.items c.args.place x there

pub set_stage-requires : goal.set_stage-requires
set_stage-requires c =
    let ready : is_ready c.self.inside.items c.self.inside.rlv c.args.place ≡ true = subst (λ (p : Pooled). is_ready p.items p.rlv c.args.place ≡ true) (sym c.self.view_is) c.requires in
    let (x, there, waits, covered) = ready_inv c.self.inside.items c.self.inside.rlv c.args.place ready in
    got_within c.self.inside.items c.args.place x there

pub overflow_sub-self : goal.overflow_sub-self
overflow_sub-self c =
    let ready : is_ready c.self.inside.items c.self.inside.rlv c.args.place ≡ true = subst (λ (p : Pooled). is_ready p.items p.rlv c.args.place ≡ true) (sym c.self.view_is) c.requires in
    let (x, there, waits, covered) = ready_inv c.self.inside.items c.self.inside.rlv c.args.place ready in
    let count = waiting_set c.self.inside.items c.args.place x (staged Flying x) there in
    let o : one (is_waiting x.stage) ≡ 1 = ap one waits in
    omega (arith, count, o, c.self.invariant.unstarted)

pub overflow_add-self : goal.overflow_add-self
overflow_add-self c =
    let ready : is_ready c.self.inside.items c.self.inside.rlv c.args.place ≡ true = subst (λ (p : Pooled). is_ready p.items p.rlv c.args.place ≡ true) (sym c.self.view_is) c.requires in
    let (x, there, waits, covered) = ready_inv c.self.inside.items c.self.inside.rlv c.args.place ready in
    let count = waiting_set c.self.inside.items c.args.place x (staged Flying x) there in
    let o : one (is_waiting x.stage) ≡ 1 = ap one waits in
    let few = counts_few c.self.inside.items in
    let some : c.self.inside.flying + 1 ≤ length c.self.inside.items = omega (arith, count, o, few, c.self.invariant.started) in
    omega (arith, some, c.job-job.ensures.few)

pub invariant_of-self : goal.invariant_of-self
invariant_of-self c =
    let ready : is_ready c.self.inside.items c.self.inside.rlv c.args.place ≡ true = subst (λ (p : Pooled). is_ready p.items p.rlv c.args.place ≡ true) (sym c.self.view_is) c.requires in
    let (x, there, waits, covered) = ready_inv c.self.inside.items c.self.inside.rlv c.args.place ready in
    let set_is : c.set_stage.new.self ≡ set c.self.inside.items c.args.place (staged Flying x) = c.set_stage.ensures x there in
    subst (λ (xs : List Item). IsKept c.self.inside.ends c.self.inside.rlv xs c.self.inside.waits.items c.self.inside.nexts.items c.self.inside.passed.items (c.self.inside.waiting - 1) (c.self.inside.flying + 1) c.self.inside.listed) (sym set_is)
    (start_kept c.self.inside.ends c.self.inside.rlv c.self.inside.items c.self.inside.waits.items c.self.inside.nexts.items c.self.inside.passed.items c.self.inside.waiting c.self.inside.flying c.args.place x c.self.inside.listed c.self.invariant there waits)

pub returns-clause-started : goal.returns-clause-started
returns-clause-started c =
    let ready : is_ready c.self.inside.items c.self.inside.rlv c.args.place ≡ true = subst (λ (p : Pooled). is_ready p.items p.rlv c.args.place ≡ true) (sym c.self.view_is) c.requires in
    let (x, there, waits, covered) = ready_inv c.self.inside.items c.self.inside.rlv c.args.place ready in
    let set_is : c.set_stage.new.self ≡ set c.self.inside.items c.args.place (staged Flying x) = c.set_stage.ensures x there in
    let job : c.job-job.result ≡ job_of c.args.place x = c.job-job.ensures.same x there in
    let ends = c.self.inside.ends in
    let rlv = c.self.inside.rlv in
    subst (λ (b : Job). IsStarted c.args.self.now b (record { ends = ends; rlv = rlv; items = c.set_stage.new.self })) (sym job)
    (subst (λ (p : Pooled). IsStarted p (job_of c.args.place x) (record { ends = ends; rlv = rlv; items = c.set_stage.new.self })) c.self.view_is (record {
      item = x;
      there = there;
      unstarted = waits;
      ready = covered;
      named = refl;
      new = λ i. record { ends = ends; rlv = rlv; items = set_is i };
    }))

pub returns-clause-recovered : goal.returns-clause-recovered
returns-clause-recovered c =
    let ready : is_ready c.self.inside.items c.self.inside.rlv c.args.place ≡ true = subst (λ (p : Pooled). is_ready p.items p.rlv c.args.place ≡ true) (sym c.self.view_is) c.requires in
    let (x, there, waits, covered) = ready_inv c.self.inside.items c.self.inside.rlv c.args.place ready in
    let set_is : c.set_stage.new.self ≡ set c.self.inside.items c.args.place (staged Flying x) = c.set_stage.ensures x there in
    let kept = start_kept c.self.inside.ends c.self.inside.rlv c.self.inside.items c.self.inside.waits.items c.self.inside.nexts.items c.self.inside.passed.items c.self.inside.waiting c.self.inside.flying c.args.place x c.self.inside.listed c.self.invariant there waits in
    subst (λ (xs : List Item). IsRecovered c.self.inside.ends c.self.inside.rlv xs) (sym set_is)
    (recovered c.self.inside.ends c.self.inside.rlv (set c.self.inside.items c.args.place (staged Flying x)) c.self.inside.nexts.items kept.wide kept.ordered kept.within kept.reached)
