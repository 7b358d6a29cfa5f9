-- One more place is found.
use Rattle.std.proofs.Common.{◌+◌, ap, arith, length, length-append, List, ℕ, subst, sym, take}
use Rattle.std.specs.Prelude.{[], ◌∷◌}
use Rattle.tau_follow.specs.Renewing.{keys_in, ArePut}
use Rattle.tau_follow.proofs.Renewing.{got_at, puts_all, puts_more}
use Rattle.tau_follow.proofs.renew.places_put.Goals as goal

pub loop-i-preserved : goal.loop-i-preserved
loop-i-preserved c =
    let old = c.loop-i.invariant in
    let long = old.long in
    let there = got_at c.args.writes.now c.loop-i.i c.index-writes-i.result (omega (arith, c.loop-i-test.true)) c.index-writes-i.is in record {
      long = (let l = ap length c.in_ok-push.ensures.items in let m = length-append c.loop-i.places.items (c.in-Some.place ∷ []) in omega (arith, l, m, long));
      put = subst (λ (l : List ℕ). ArePut (keys_in c.args.rows.now) (take (c.loop-i.i + 1) c.args.writes.now) l) (sym c.in_ok-push.ensures.items)
          (puts_more (keys_in c.args.rows.now) c.args.writes.now c.loop-i.places.items c.loop-i.i c.in-Some.place c.index-writes-i.result long there old.put c.in-Some.ensures);
    }

pub returns : goal.returns
returns c = let old = c.loop-i.invariant in puts_all (keys_in c.args.rows.now) c.args.writes.now c.loop-i.places.items c.loop-i.i (omega (arith, c.loop-i-test.false)) old.put
