-- The taken records of a log that start at or after the place of their stream, of which none is started.
use Rattle.std.proofs.Common.{ℕ, List, ◌≡◌, length, sym, ap, subst, ◌∙◌, arith}
use Rattle.std.specs.Prelude.{slice_get, Some}
use Rattle.tau_record.specs.declared.entry.Placed.{Placed}
use Rattle.tau_model.specs.History.{Member}
use Rattle.tau_scan.specs.declared.log.Log.{Log}
use Rattle.tau_scan.specs.Epochs.{judge_of, vector_by}
use Rattle.tau_pool.specs.Item.{Item}
use Rattle.tau_pool.specs.Items.{items_after}
use Rattle.tau_pool.specs.Passing.{Ordered}
use Rattle.tau_pool.proofs.Gets.{get_member}
use Rattle.tau_pool.proofs.Firsts.{recovered}
use Rattle.tau_pool.proofs.Opening.{OfLog, opened, streams_many, of_log_after}
use Rattle.tau_pool.proofs.pools.Pools.behind.Goals as goal

-- the items that are put are those of the log
items_are : (log : Log) (from : List ℕ) (items : List Item) (judge : ℕ → List ℕ) (streams : List (List Placed)) → items ≡ items_after from judge streams → judge ≡ judge_of log → streams ≡ log.streams →
    items ≡ items_after from (judge_of log) log.streams
items_are log from items judge streams is same read = is ∙ ap (λ (f : ℕ → List ℕ). items_after from f streams) same ∙ ap (items_after from (judge_of log)) read

pub items_of-requires : goal.items_of-requires
items_of-requires c =
    let many = streams_many c.args.log.now c.requires in
    let size : length c.as_slice.result.now ≡ length c.args.log.now.streams = ap (λ (ss : List (List Placed)). length ss) c.as_slice.ensures in
    omega (arith, many, size, c.width-n.ensures.same, c.width-n.ensures.high)

pub reached_of-requires-clause-narrow : goal.reached_of-requires-clause-narrow
reached_of-requires-clause-narrow c = omega (arith, c.width-n.ensures.same, c.width-n.ensures.high)

pub reached_of-requires-clause-within : goal.reached_of-requires-clause-within
reached_of-requires-clause-within c i x there =
    let is : c.in_ok-items.items ≡ items_after c.args.from.now (judge_of c.args.log.now) c.args.log.now.streams = items_are c.args.log.now c.args.from.now c.in_ok-items.items (vector_by c.in_ok-judge.judge) c.as_slice.result.now c.in_ok-items.ensures c.in_ok-judge.ensures c.as_slice.ensures in
    let o = (of_log_after c.args.from.now c.args.log.now c.requires).1 x (get_member (items_after c.args.from.now (judge_of c.args.log.now) c.args.log.now.streams) i x (subst (λ (xs : List Item). slice_get xs i ≡ Some x) is there)) in
    record { stream = o.below; start = o.start; taken = o.taken }

pub invariant_of-result : goal.invariant_of-result
invariant_of-result c =
    let elv = c.args.log.now.elv in
    let is : c.in_ok-items.items ≡ items_after c.args.from.now (judge_of c.args.log.now) c.args.log.now.streams = items_are c.args.log.now c.args.from.now c.in_ok-items.items (vector_by c.in_ok-judge.judge) c.as_slice.result.now c.in_ok-items.ensures c.in_ok-judge.ensures c.as_slice.ensures in
    let o = of_log_after c.args.from.now c.args.log.now c.requires in
    opened elv c.in_ok-rlv.rlv c.in_ok-items.items _ c.in_ok-rlv.nexts.items _ c.len-waiting.result
    (omega (arith, c.width-n.ensures.same, c.width-n.ensures.high)) c.in_ok-rlv.ensures.wide.0 c.in_ok-rlv.ensures.wide.1 c.len-waiting.ensures
    (subst (λ (xs : List Item). Ordered xs) (sym is) o.0) (subst (λ (xs : List Item). (x : Item) → Member x xs → OfLog elv 0 (length elv) x) (sym is) o.1)
    c.in_ok-rlv.ensures.reached

pub returns-clause-recovered : goal.returns-clause-recovered
returns-clause-recovered c =
    let elv = c.args.log.now.elv in
    let is : c.in_ok-items.items ≡ items_after c.args.from.now (judge_of c.args.log.now) c.args.log.now.streams = items_are c.args.log.now c.args.from.now c.in_ok-items.items (vector_by c.in_ok-judge.judge) c.as_slice.result.now c.in_ok-items.ensures c.in_ok-judge.ensures c.as_slice.ensures in
    let o = of_log_after c.args.from.now c.args.log.now c.requires in
    let all = subst (λ (xs : List Item). (x : Item) → Member x xs → OfLog elv 0 (length elv) x) (sym is) o.1 in
    recovered elv c.in_ok-rlv.rlv c.in_ok-items.items c.in_ok-rlv.nexts.items c.in_ok-rlv.ensures.wide.0 (subst (λ (xs : List Item). Ordered xs) (sym is) o.0)
    (λ i x there. let w = all x (get_member c.in_ok-items.items i x there) in record { stream = w.below; start = w.start; taken = w.taken })
    c.in_ok-rlv.ensures.reached
