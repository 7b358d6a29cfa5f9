-- A record in flight is finished.
use Rattle.std.proofs.Common.{ℕ, List, ◌≡◌, ◌<◌, ◌-◌, refl, sym, ap, subst, ◌∙◌, arith, length, drop, slice_index}
use Rattle.std.specs.Prelude.{Some, slice_get}
use Rattle.std.proofs.Math.ListN.{set}
use Rattle.std.proofs.lemmas.List.{length-set, get_or_read}
use Rattle.tau_pool.specs.Item.{Item}
use Rattle.tau_pool.specs.declared.item.Job.{Job}
use Rattle.tau_pool.specs.declared.item.Stage.TheVariants.{Finished}
use Rattle.tau_pool.specs.Items.{is_flying}
use Rattle.tau_pool.specs.First.{first_from, reach_one}
use Rattle.tau_pool.specs.Kept.{IsKept}
use Rattle.tau_pool.specs.Pooled.{Pooled, IsFlying, IsFinished, IsRecovered, staged}
use Rattle.tau_pool.proofs.Counts.{flying_set, one}
use Rattle.tau_pool.proofs.Firsts.{first_bounds, recovered}
use Rattle.tau_pool.proofs.Keeping.{within_set, finish_kept}
use Rattle.tau_pool.proofs.Flights.{flying_left}
use Rattle.tau_pool.proofs.pools.Pools.finish.Goals as goal
use Rattle.tau_base.proofs.Logic.{some_is}
use Rattle.tau_base.proofs.Lists.{got_within}

pub set_stage-requires : goal.set_stage-requires
set_stage-requires c =
    let f : IsFlying _ c.args.job = subst (λ (p : Pooled). IsFlying p c.args.job) (sym c.self.view_is) (record { item = c.requires.item; there = c.requires.there; started = c.requires.started; named = c.requires.named }) in
    let items = c.self.inside.items in
    let x = f.item in
    let k = c.self.invariant in
    let w = k.within c.args.job.place x f.there in
    let of : c.args.job.stream ≡ x.stream = ap (λ (b : Job). b.stream) f.named in
    got_within items c.args.job.place x f.there

pub overflow_sub-self : goal.overflow_sub-self
overflow_sub-self c =
    let f : IsFlying _ c.args.job = subst (λ (p : Pooled). IsFlying p c.args.job) (sym c.self.view_is) (record { item = c.requires.item; there = c.requires.there; started = c.requires.started; named = c.requires.named }) in
    let items = c.self.inside.items in
    let x = f.item in
    let k = c.self.invariant in
    let w = k.within c.args.job.place x f.there in
    let of : c.args.job.stream ≡ x.stream = ap (λ (b : Job). b.stream) f.named in
    let count = flying_set items c.args.job.place x (staged Finished x) f.there in
    let o : one (is_flying x.stage) ≡ 1 = ap one f.started in
    omega (arith, count, o, k.started)

pub index-requires : goal.index-requires
index-requires c =
    let f : IsFlying _ c.args.job = subst (λ (p : Pooled). IsFlying p c.args.job) (sym c.self.view_is) (record { item = c.requires.item; there = c.requires.there; started = c.requires.started; named = c.requires.named }) in
    let items = c.self.inside.items in
    let x = f.item in
    let k = c.self.invariant in
    let w = k.within c.args.job.place x f.there in
    let of : c.args.job.stream ≡ x.stream = ap (λ (b : Job). b.stream) f.named in
    let stream : c.from-j.result ≡ x.stream = c.from-j.ensures ∙ of in
    let room : x.stream < length c.self.inside.nexts.items = omega (arith, w.stream, k.cursors) in
    let v = c.self.inside.nexts in
    omega (arith, room, v.ok, stream)

pub first_left-next-requires : goal.first_left-next-requires
first_left-next-requires c =
    let f : IsFlying _ c.args.job = subst (λ (p : Pooled). IsFlying p c.args.job) (sym c.self.view_is) (record { item = c.requires.item; there = c.requires.there; started = c.requires.started; named = c.requires.named }) in
    let items = c.self.inside.items in
    let x = f.item in
    let k = c.self.invariant in
    let w = k.within c.args.job.place x f.there in
    let of : c.args.job.stream ≡ x.stream = ap (λ (b : Job). b.stream) f.named in
    let stream : c.from-j.result ≡ x.stream = c.from-j.ensures ∙ of in
    let at : c.index.result.now ≡ slice_index c.self.inside.nexts.items x.stream = get_or_read c.self.inside.nexts.items c.from-j.result c.index.result.now (omega (arith, w.stream, k.cursors, stream)) c.index.ensures 0 ∙ ap (λ (n : ℕ). slice_index c.self.inside.nexts.items n) stream in
    let done : List Item = set items c.args.job.place (staged Finished x) in
    let done_is : c.set_stage.new.self ≡ done = c.set_stage.ensures x f.there in
    let first = k.reached.firsts x.stream w.stream in
    let high = (first_bounds x.stream 0 items).1 in
    let size : length c.set_stage.new.self ≡ length items = ap (λ (xs : List Item). length xs) done_is ∙ length-set items c.args.job.place (staged Finished x) in
    omega (arith, at, first, high, size)

pub index_mut-requires : goal.index_mut-requires
index_mut-requires c =
    let f : IsFlying _ c.args.job = subst (λ (p : Pooled). IsFlying p c.args.job) (sym c.self.view_is) (record { item = c.requires.item; there = c.requires.there; started = c.requires.started; named = c.requires.named }) in
    let items = c.self.inside.items in
    let x = f.item in
    let k = c.self.invariant in
    let w = k.within c.args.job.place x f.there in
    let of : c.args.job.stream ≡ x.stream = ap (λ (b : Job). b.stream) f.named in
    let stream : c.from-j.result ≡ x.stream = c.from-j.ensures ∙ of in
    let room : x.stream < length c.self.inside.nexts.items = omega (arith, w.stream, k.cursors) in
    let v = c.self.inside.nexts in
    omega (arith, room, v.ok, stream)

pub get-requires : goal.get-requires
get-requires c =
    let f : IsFlying _ c.args.job = subst (λ (p : Pooled). IsFlying p c.args.job) (sym c.self.view_is) (record { item = c.requires.item; there = c.requires.there; started = c.requires.started; named = c.requires.named }) in
    let items = c.self.inside.items in
    let x = f.item in
    let k = c.self.invariant in
    let w = k.within c.args.job.place x f.there in
    let of : c.args.job.stream ≡ x.stream = ap (λ (b : Job). b.stream) f.named in
    let stream : c.from-j.result ≡ x.stream = c.from-j.ensures ∙ of in
    omega (arith, w.stream, stream)

pub reach_of-reach-requires : goal.reach_of-reach-requires
reach_of-reach-requires c =
    let f : IsFlying _ c.args.job = subst (λ (p : Pooled). IsFlying p c.args.job) (sym c.self.view_is) (record { item = c.requires.item; there = c.requires.there; started = c.requires.started; named = c.requires.named }) in
    let items = c.self.inside.items in
    let x = f.item in
    let k = c.self.invariant in
    let w = k.within c.args.job.place x f.there in
    let of : c.args.job.stream ≡ x.stream = ap (λ (b : Job). b.stream) f.named in
    let stream : c.from-j.result ≡ x.stream = c.from-j.ensures ∙ of in
    let done : List Item = set items c.args.job.place (staged Finished x) in
    let done_is : c.set_stage.new.self ≡ done = c.set_stage.ensures x f.there in
    let end : c.get.result ≡ slice_index c.self.inside.ends x.stream = c.get.ensures.same ∙ ap (λ (n : ℕ). slice_index c.self.inside.ends n) stream in
    λ i z at same.
    let all = within_set c.self.inside.ends items c.args.job.place x Finished f.there k.within in
    let low = (all i z (subst (λ (xs : List Item). slice_get xs i ≡ Some z) done_is at)).start in
    let here : slice_index c.self.inside.ends z.stream ≡ c.get.result = ap (λ (n : ℕ). slice_index c.self.inside.ends n) (same ∙ of) ∙ sym end in
    omega (arith, low, here)

pub set-requires-clause-there : goal.set-requires-clause-there
set-requires-clause-there c =
    let f : IsFlying _ c.args.job = subst (λ (p : Pooled). IsFlying p c.args.job) (sym c.self.view_is) (record { item = c.requires.item; there = c.requires.there; started = c.requires.started; named = c.requires.named }) in
    let items = c.self.inside.items in
    let x = f.item in
    let k = c.self.invariant in
    let w = k.within c.args.job.place x f.there in
    let of : c.args.job.stream ≡ x.stream = ap (λ (b : Job). b.stream) f.named in
    let stream : c.from-j.result ≡ x.stream = c.from-j.ensures ∙ of in
    omega (arith, w.stream, k.wide, stream)

pub invariant_of-self : goal.invariant_of-self
invariant_of-self c =
    let f : IsFlying _ c.args.job = subst (λ (p : Pooled). IsFlying p c.args.job) (sym c.self.view_is) (record { item = c.requires.item; there = c.requires.there; started = c.requires.started; named = c.requires.named }) in
    let items = c.self.inside.items in
    let x = f.item in
    let k = c.self.invariant in
    let w = k.within c.args.job.place x f.there in
    let of : c.args.job.stream ≡ x.stream = ap (λ (b : Job). b.stream) f.named in
    let stream : c.from-j.result ≡ x.stream = c.from-j.ensures ∙ of in
    let at : c.index.result.now ≡ slice_index c.self.inside.nexts.items x.stream = get_or_read c.self.inside.nexts.items c.from-j.result c.index.result.now (omega (arith, w.stream, k.cursors, stream)) c.index.ensures 0 ∙ ap (λ (n : ℕ). slice_index c.self.inside.nexts.items n) stream in
    let done : List Item = set items c.args.job.place (staged Finished x) in
    let done_is : c.set_stage.new.self ≡ done = c.set_stage.ensures x f.there in
    let next : c.first_left-next.result ≡ first_from x.stream (slice_index c.self.inside.nexts.items x.stream) (drop (slice_index c.self.inside.nexts.items x.stream) done) =
    c.first_left-next.ensures.same ∙ (λ i. first_from (of i) (at i) (drop (at i) (done_is i))) in
    let end : c.get.result ≡ slice_index c.self.inside.ends x.stream = c.get.ensures.same ∙ ap (λ (n : ℕ). slice_index c.self.inside.ends n) stream in
    let reach : c.reach_of-reach.result ≡ reach_one x.stream (slice_index c.self.inside.ends x.stream) (slice_get done c.first_left-next.result) =
    c.reach_of-reach.ensures.same ∙ (λ i. reach_one (of i) (end i) (slice_get (done_is i) c.first_left-next.result)) in
    let kept = finish_kept c.self.inside.ends c.self.inside.rlv items c.self.inside.waits.items c.self.inside.nexts.items c.self.inside.passed.items c.self.inside.waiting c.self.inside.flying c.args.job.place x c.self.inside.listed k f.there f.started c.first_left-next.result c.reach_of-reach.result next reach in
    let rlv : c.set.new.self ≡ set c.self.inside.rlv x.stream c.reach_of-reach.result = c.set.ensures ∙ ap (λ (n : ℕ). set c.self.inside.rlv n c.reach_of-reach.result) stream in
    subst (λ (r : List ℕ). IsKept c.self.inside.ends r c.set_stage.new.self c.self.inside.waits.items (set c.self.inside.nexts.items c.from-j.result c.first_left-next.result) c.self.inside.passed.items c.self.inside.waiting (c.self.inside.flying - 1) c.self.inside.listed) (sym rlv)
    (subst (λ (xs : List Item). IsKept c.self.inside.ends (set c.self.inside.rlv x.stream c.reach_of-reach.result) xs c.self.inside.waits.items (set c.self.inside.nexts.items c.from-j.result c.first_left-next.result) c.self.inside.passed.items c.self.inside.waiting (c.self.inside.flying - 1) c.self.inside.listed) (sym done_is)
    (subst (λ (n : ℕ). IsKept c.self.inside.ends (set c.self.inside.rlv x.stream c.reach_of-reach.result) done c.self.inside.waits.items (set c.self.inside.nexts.items n c.first_left-next.result) c.self.inside.passed.items c.self.inside.waiting (c.self.inside.flying - 1) c.self.inside.listed) (sym stream) kept))

pub returns-clause-finished : goal.returns-clause-finished
returns-clause-finished c =
    let f : IsFlying _ c.args.job = subst (λ (p : Pooled). IsFlying p c.args.job) (sym c.self.view_is) (record { item = c.requires.item; there = c.requires.there; started = c.requires.started; named = c.requires.named }) in
    let items = c.self.inside.items in
    let x = f.item in
    let k = c.self.invariant in
    let w = k.within c.args.job.place x f.there in
    let of : c.args.job.stream ≡ x.stream = ap (λ (b : Job). b.stream) f.named in
    let done : List Item = set items c.args.job.place (staged Finished x) in
    let done_is : c.set_stage.new.self ≡ done = c.set_stage.ensures x f.there in
    subst (λ (p : Pooled). IsFinished p c.args.job (record { ends = c.self.inside.ends; rlv = c.set.new.self; items = c.set_stage.new.self })) c.self.view_is (record { ends = refl; items = λ z at. done_is ∙ ap (λ (q : Item). set items c.args.job.place (staged Finished q)) (some_is x z (sym f.there ∙ at)) })

pub returns-clause-recovered : goal.returns-clause-recovered
returns-clause-recovered c =
    let f : IsFlying _ c.args.job = subst (λ (p : Pooled). IsFlying p c.args.job) (sym c.self.view_is) (record { item = c.requires.item; there = c.requires.there; started = c.requires.started; named = c.requires.named }) in
    let items = c.self.inside.items in
    let x = f.item in
    let k = c.self.invariant in
    let w = k.within c.args.job.place x f.there in
    let of : c.args.job.stream ≡ x.stream = ap (λ (b : Job). b.stream) f.named in
    let stream : c.from-j.result ≡ x.stream = c.from-j.ensures ∙ of in
    let at : c.index.result.now ≡ slice_index c.self.inside.nexts.items x.stream = get_or_read c.self.inside.nexts.items c.from-j.result c.index.result.now (omega (arith, w.stream, k.cursors, stream)) c.index.ensures 0 ∙ ap (λ (n : ℕ). slice_index c.self.inside.nexts.items n) stream in
    let done : List Item = set items c.args.job.place (staged Finished x) in
    let done_is : c.set_stage.new.self ≡ done = c.set_stage.ensures x f.there in
    let next : c.first_left-next.result ≡ first_from x.stream (slice_index c.self.inside.nexts.items x.stream) (drop (slice_index c.self.inside.nexts.items x.stream) done) =
    c.first_left-next.ensures.same ∙ (λ i. first_from (of i) (at i) (drop (at i) (done_is i))) in
    let end : c.get.result ≡ slice_index c.self.inside.ends x.stream = c.get.ensures.same ∙ ap (λ (n : ℕ). slice_index c.self.inside.ends n) stream in
    let reach : c.reach_of-reach.result ≡ reach_one x.stream (slice_index c.self.inside.ends x.stream) (slice_get done c.first_left-next.result) =
    c.reach_of-reach.ensures.same ∙ (λ i. reach_one (of i) (end i) (slice_get (done_is i) c.first_left-next.result)) in
    let kept = finish_kept c.self.inside.ends c.self.inside.rlv items c.self.inside.waits.items c.self.inside.nexts.items c.self.inside.passed.items c.self.inside.waiting c.self.inside.flying c.args.job.place x c.self.inside.listed k f.there f.started c.first_left-next.result c.reach_of-reach.result next reach in
    let rlv : c.set.new.self ≡ set c.self.inside.rlv x.stream c.reach_of-reach.result = c.set.ensures ∙ ap (λ (n : ℕ). set c.self.inside.rlv n c.reach_of-reach.result) stream in
    subst (λ (xs : List Item). IsRecovered c.self.inside.ends c.set.new.self xs) (sym done_is)
    (subst (λ (r : List ℕ). IsRecovered c.self.inside.ends r done) (sym rlv) (recovered c.self.inside.ends (set c.self.inside.rlv x.stream c.reach_of-reach.result) done (set c.self.inside.nexts.items x.stream c.first_left-next.result) kept.wide kept.ordered kept.within kept.reached))

pub returns-clause-kept : goal.returns-clause-kept
returns-clause-kept c other f apart = flying_left c.args.self.now c.args.job other _ (record { item = c.requires.item; there = c.requires.there; started = c.requires.started; named = c.requires.named }) (returns-clause-finished c) f apart
