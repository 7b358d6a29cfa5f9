use Rattle.std.proofs.Common.{ℕ, ◌+◌, ◌≡◌, List, Option, length, refl, sym, ap, subst, ◌∙◌, arith}
use Rattle.std.specs.Prelude.{Some, replicate}
use mathlib.Core.Option.{some}
use lib.ListN.{get_elem?, length-replicate}
use Rattle.tau_base.specs.declared.limits.TheConstants.{SHARDS}
use Rattle.tau_core.specs.Plain.{PlainSeat}
use Rattle.tau_rule.specs.declared.part.Part.{Part}
use Rattle.tau_desk.specs.Close.{IsBoxOf}
use Rattle.tau_desk.specs.Taken.{IsSeatAt}
use Rattle.tau_desk.proofs.closes.put_together.Goals as goal

pub positions-ends-requires-clause-low : goal.positions-ends-requires-clause-low
positions-ends-requires-clause-low c = c.requires.limits.0

pub positions-ends-requires-clause-high : goal.positions-ends-requires-clause-high
positions-ends-requires-clause-high c = c.requires.limits.1

pub positions-ends-requires-clause-few : goal.positions-ends-requires-clause-few
positions-ends-requires-clause-few c = (let s = c.requires.sized.3 in omega (arith, s))

pub positions-ends-requires-clause-there : goal.positions-ends-requires-clause-there
positions-ends-requires-clause-there c = (let s = c.requires.sized.0 in omega (arith, s))

pub positions-ends-requires-clause-small : goal.positions-ends-requires-clause-small
positions-ends-requires-clause-small c = c.requires.can.ends

pub positions-plv-requires-clause-low : goal.positions-plv-requires-clause-low
positions-plv-requires-clause-low c = c.requires.limits.0

pub positions-plv-requires-clause-high : goal.positions-plv-requires-clause-high
positions-plv-requires-clause-high c = c.requires.limits.1

pub positions-plv-requires-clause-few : goal.positions-plv-requires-clause-few
positions-plv-requires-clause-few c = (let s = c.requires.sized.3 in let h = c.requires.limits.1 in omega (arith, s, h))

pub positions-plv-requires-clause-there : goal.positions-plv-requires-clause-there
positions-plv-requires-clause-there c = (let s = c.requires.sized.0 in omega (arith, s))

pub positions-plv-requires-clause-small : goal.positions-plv-requires-clause-small
positions-plv-requires-clause-small c = c.requires.can.plv

pub take_shards-shards-requires-clause-there : goal.take_shards-shards-requires-clause-there
take_shards-shards-requires-clause-there c = (
  let s1 = c.requires.sized.1 in
      let s2 = c.requires.sized.2 in
      omega (arith, s1, s2),
  c.requires.can.shards,
)

pub take_seats-seats-requires-clause-few : goal.take_seats-seats-requires-clause-few
take_seats-seats-requires-clause-few c = (let h = c.requires.limits.2 in omega (arith, h))

pub take_seats-seats-requires-clause-there : goal.take_seats-seats-requires-clause-there
take_seats-seats-requires-clause-there c =
    let s1 = c.requires.sized.1 in
    let s2 = c.requires.sized.2 in
    let d = c.take_shards-shards.ensures.same.1 in
    omega (arith, s1, s2, d)

pub take_seats-seats-requires-clause-works : goal.take_seats-seats-requires-clause-works
take_seats-seats-requires-clause-works c = c.requires.can.works

pub take_seats-seats-requires-clause-boxes : goal.take_seats-seats-requires-clause-boxes
take_seats-seats-requires-clause-boxes c = λ w low.
    subst (λ (slots : List (Option Part)). (p : Part) × (x : PlainSeat) × (get_elem? slots (SHARDS + w) ≡ some (Some p)) × IsBoxOf p x) (sym c.take_shards-shards.ensures.same.0) (c.requires.can.boxes w low)

-- how long a vector of zeros is
zeros_length : (n : ℕ) (v : List ℕ) → v ≡ replicate n 0 → length v ≡ n
zeros_length n v e = ap (λ (l : List ℕ). length l) e ∙ length-replicate n zero_word
  where
    zero_word : ℕ
    zero_word = 0

pub take_streams-streams-requires-clause-few : goal.take_streams-streams-requires-clause-few
take_streams-streams-requires-clause-few c = (let h = c.requires.limits.2 in omega (arith, h))

pub take_streams-streams-requires-clause-there : goal.take_streams-streams-requires-clause-there
take_streams-streams-requires-clause-there c =
    let s1 = c.requires.sized.1 in
    let s2 = c.requires.sized.2 in
    let d = c.take_shards-shards.ensures.same.1 in
    let b = c.take_seats-seats.ensures.same.1 in
    let z = zeros_length c.args.load.streams c.zero.result c.zero.ensures in
    omega (arith, s1, s2, d, b, z)

pub free-requires : goal.free-requires
free-requires c = λ k lt.
    let a = c.take_streams-streams.ensures.same.1 in
    let b = c.take_seats-seats.ensures.same.1 in
    let d = c.take_shards-shards.ensures.same.1 in
    let s = c.requires.sized in
    let s1 = s.1 in
    let s2 = s.2 in
    let z = zeros_length c.args.load.streams c.zero.result c.zero.ensures in
    c.take_streams-streams.ensures.taken.empty k (omega (arith, lt, a, b, d, s1, s2, z))

pub returns : goal.returns
returns c =
    let width : ℕ = c.args.load.streams in
    let z = zeros_length width c.zero.result c.zero.ensures in
    record {
      load = refl;
      shard_count = c.take_shards-shards.ensures.count;
      shards = c.take_shards-shards.ensures.each;
      seat_count = c.take_seats-seats.ensures.count;
      seats = λ w x e. subst (λ (slots : List (Option Part)). IsSeatAt slots c.args.works.items w x) c.take_shards-shards.ensures.same.0 (c.take_seats-seats.ensures.each w x e);
      stream_count = c.take_streams-streams.ensures.count.0 ∙ z;
      streams = c.take_streams-streams.ensures.each;
      committed = c.take_seats-seats.ensures.calls;
      gathered_count = c.take_streams-streams.ensures.count.1 ∙ z;
      ends_count = c.positions-ends.ensures.count;
      ends = c.positions-ends.ensures.each;
      plv_count = c.positions-plv.ensures.count;
      plv = c.positions-plv.ensures.each;
    }
