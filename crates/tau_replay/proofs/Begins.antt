-- Nothing of a course is started.
use Rattle.std.proofs.Common.{ℕ, List, ◌≡◌, [], length, replicate, refl, sym, ap, subst, ◌∙◌}
use Rattle.std.specs.Prelude.{Option, None, true, Result, Ok, Err, IfOk}
use Rattle.std.proofs.lemmas.List.{length-replicate}
use Rattle.tau_base.specs.Database.{Db}
use Rattle.tau_base.specs.declared.value.NoMemory.{NoMemory}
use Rattle.tau_model.proofs.Reorder.{reordered_itself}
use Rattle.tau_model.specs.History.{Member, Reordered}
use Rattle.tau_model.specs.Store.{database}
use Rattle.tau_model.proofs.Logged.{member_filtered}
use Rattle.tau_scan.specs.declared.log.Log.{Log}
use Rattle.tau_scan.specs.Reading.{IsLog}
use Rattle.tau_scan.specs.Epochs.{judge_of}
use Rattle.tau_scan.specs.Taken.{Kept}
use Rattle.tau_pool.specs.Item.{Item}
use Rattle.tau_pool.specs.declared.item.Job.{Job}
use Rattle.tau_pool.specs.Items.{is_waiting, items_from, item_after}
use Rattle.tau_pool.specs.Pooled.{Pooled, IsRecovered, flying_in}
use Rattle.tau_pool.proofs.Counts.{none_flying}
use Rattle.tau_pool.proofs.Opening.{of_log, all_wait}
use Rattle.tau_replay.specs.declared.turns.Replay.{Replay}
use Rattle.tau_replay.specs.Course.{Course, whole, after, IsPart}
use Rattle.tau_replay.specs.Recovering.{AreOf, left_in}
use Rattle.tau_replay.specs.Way.{IsOnCourse}
use Rattle.tau_replay.specs.Followed.{FollowedOn}
use Rattle.tau_replay.proofs.Starting.{of_taken, of_after, whole_part, all_left}
use Rattle.tau_replay.proofs.Hands.{empty_hands}

-- the records have their items, and none is started
pub record AreUnstarted (log : Log) (course : Course) : Type 0 where
  pub part : IsPart log course
  pub items : AreOf log course.records course.items
  pub waits : (x : Item) → Member x course.items → is_waiting x.stage ≡ true

log_waits : (log : Log) → IsLog log → (x : Item) → Member x (items_from (judge_of log) 0 log.streams) → is_waiting x.stage ≡ true
log_waits log l x m = ((of_log log l).1 x m).waits

pub whole_unstarted : (log : Log) → IsLog log → AreUnstarted log (whole log)
whole_unstarted log l = record { part = whole_part log; items = of_taken log; waits = log_waits log l }

pub after_unstarted : (log : Log) → IsLog log → (from : List ℕ) (base : Db) → AreUnstarted log (after log from base)
after_unstarted log l from base = record {
  part = (from, refl);
  items = of_after log from;
  waits = λ x m. log_waits log l x (member_filtered (item_after from) x (items_from (judge_of log) 0 log.streams) m).0;
}

module _ (log : Log) (course : Course) (u : AreUnstarted log course) (p : Pooled) (items : p.items ≡ course.items) (ends : p.ends ≡ log.elv) (recovered : IsRecovered p.ends p.rlv p.items) where
  begins : (r : Replay) → r.pools ≡ p → r.hands.items ≡ replicate 16 None → database r.store ≡ course.base → IsOnCourse log course r
  begins r pools hands db =
      let left : left_in course.records course.items ≡ course.records = all_left log course.records course.items u.items u.waits in
      let is : r.pools.items ≡ course.items = ap (λ (z : Pooled). z.items) pools ∙ items in
      let idle : flying_in r.pools.items ≡ 0 = ap flying_in is ∙ (all_wait course.items u.waits).1 in
      record {
        order = [];
        going = record {
          part = u.part;
          ends = ap (λ (z : Pooled). z.ends) pools ∙ ends;
          recovered = subst (λ (z : Pooled). IsRecovered z.ends z.rlv z.items) (sym pools) recovered;
          items = subst (λ (xs : List Item). AreOf log course.records xs) (sym is) u.items;
          each_once = subst (λ (zs : List Kept). Reordered course.records zs) (sym (ap (λ (xs : List Item). left_in course.records xs) is ∙ left)) (reordered_itself course.records);
          orderly = tt;
          ahead = λ k m. absurd m;
          flying = λ i x k at held flies. absurd (none_flying r.pools.items idle i x at flies);
          database = db;
        };
        hands = empty_hands 16 r.pools r.hands.items hands idle;
        sixteen = ap length hands ∙ length-replicate {A = Option Job} 16 None;
      }

  begins_followed : (r : Replay) → r.pools ≡ p → r.hands.items ≡ replicate 16 None → database r.store ≡ course.base → FollowedOn log course [] r
  begins_followed r pools hands db = record {
    begun = record { pools = r.pools; hands = r.hands.items; order = [] };
    unstarted = record {
      items = ap (λ (z : Pooled). z.items) pools ∙ items;
      ends = ap (λ (z : Pooled). z.ends) pools ∙ ends;
      recovered = subst (λ (z : Pooled). IsRecovered z.ends z.rlv z.items) (sym pools) recovered;
      hands = hands;
      order = refl;
    };
    order = [];
    steps = refl;
    holds = db;
  }

  pub begins_ok : (result : Result Replay NoMemory) (db : Db) → db ≡ course.base → IfOk result (λ r. r.pools ≡ p) → IfOk result (λ r. r.hands.items ≡ replicate 16 None) → IfOk result (λ r. database r.store ≡ db) →
      IfOk result (λ r. IsOnCourse log course r) × IfOk result (λ r. FollowedOn log course [] r)
  begins_ok (Ok r) db base pools hands store = (begins r pools hands (store ∙ base), begins_followed r pools hands (store ∙ base))
  begins_ok (Err e) db base pools hands store = (tt, tt)
