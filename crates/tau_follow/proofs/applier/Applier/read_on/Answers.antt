-- The new records stand after those that stood.
use Rattle.std.proofs.Common.{ap, refl, subst, sym, ℕ, List, set, drop, length, arith}
use Rattle.tau_follow.specs.declared.stage.Stage.{Stage}
use Rattle.tau_follow.specs.Applying.{ArePassed, first_stages}
use Rattle.tau_follow.specs.Judging.{judged_in, with_judged}
use Rattle.tau_follow.proofs.Feeding.{got_at}
use Rattle.tau_follow.proofs.Passing.{passed_on}
use Rattle.tau_follow.proofs.Queued.{kept_more}
use Rattle.tau_follow.proofs.applier.Applier.read_on.Goals as goal

pub returns-in-Ok-stand_on-clause-ok : goal.returns-in-Ok-stand_on-clause-ok
returns-in-Ok-stand_on-clause-ok c =
    (let there = got_at c.args.self.now.stages.items c.args.stream c.index_mut.result.now (omega (arith, c.if-stream-len.false, c.len.ensures)) c.index_mut.ensures.value in
    let is = c.in-Ok-stand_on.ensures.ok in
    record {
      stood = c.index_mut.result.now;
      there = there;
      within = c.in-Ok-stand_on.ensures.long;
      stages_are = ap (set c.args.self.now.stages.items c.args.stream) is;
      passed = λ passed. subst (λ (l : List Stage). ArePassed (set c.args.self.now.stages.items c.args.stream l) c.lower.new.firsts.items) (sym is)
          (subst (λ (l : List ℕ). ArePassed (set c.args.self.now.stages.items c.args.stream (with_judged c.args.known.now c.args.number c.args.records.now c.index_mut.result.now)) l) (sym c.in-Ok.ensures.ok) (passed_on c.args.self.now.stages.items c.args.self.now.firsts.items c.args.stream c.stand_count-many.result c.index_mut.result.now (judged_in c.args.known.now c.args.number (drop (length c.index_mut.result.now) c.args.records.now) (first_stages (drop (length c.index_mut.result.now) c.args.records.now))) there (c.stand_count-many.ensures c.index_mut.result.now there) passed));
      more = c.look_on.ensures.more;
      looked = λ i le lt. (let many = c.stand_count-many.ensures c.index_mut.result.now there in c.in-Ok-look_on.ensures.added i (omega (arith, le, many)) (omega (arith, lt)));
      reached_same = refl;
      known_same = refl;
    })

pub returns-in-Err-look_on-clause-kept : goal.returns-in-Err-look_on-clause-kept
returns-in-Err-look_on-clause-kept c = λ streams k. kept_more streams c.args.self.now.stages.items c.args.self.now.waits _ c.look_on.ensures.more k

pub returns-in-Err-stand_on-clause-kept : goal.returns-in-Err-stand_on-clause-kept
returns-in-Err-stand_on-clause-kept c = λ streams k. kept_more streams c.args.self.now.stages.items c.args.self.now.waits _ c.look_on.ensures.more k
