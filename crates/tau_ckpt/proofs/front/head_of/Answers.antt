use Rattle.std.proofs.Common.{◌≡◌, ◌∙◌, ℕ, length, sym, ap, subst, arith}
use Rattle.std.proofs.lemmas.List.{length-replicate}
use Rattle.tau_ckpt.specs.Slot.{ArePositions}
use Rattle.tau_ckpt.proofs.Parts.{counted, head_begins, first_is, third_is, positions_here, whole}
use Rattle.tau_ckpt.proofs.front.head_of.Goals as goal

pub returns-in_default-clause-none : goal.returns-in_default-clause-none
returns-in_default-clause-none c = λ k y q.
    omega (arith, c.in_default.ensures.none, ap length (whole c.args.streams c.args.body.now k y q))

pub returns-in_default-u32_of-clause-none : goal.returns-in_default-u32_of-clause-none
returns-in_default-u32_of-clause-none c = λ k y q.
    let one = first_is c.args.streams c.args.body.now k y q c.in-Some.number c.in-Some.rest.now c.in-Some.ensures.some in
    omega (arith, c.in_default-u32_of.ensures.none, ap length one)

pub returns-in_default-positions_of-clause-none : goal.returns-in_default-positions_of-clause-none
returns-in_default-positions_of-clause-none c = λ k y q.
    let wide : length c.zero-lv.result ≡ c.args.streams = ap length c.zero-lv.ensures ∙ length-replicate {A = ℕ} c.args.streams 0 in
    c.in_default-positions_of.ensures.none k.lv (counted c.args.streams c.args.body.now k y q)
    (subst (λ (n : ℕ). ArePositions n c.in-Some-u32_of.rest.now k.lv (counted c.args.streams c.args.body.now k y q)) (sym wide)
    (positions_here c.args.streams c.args.body.now k y q c.in-Some.number c.in-Some.rest.now c.in-Some.ensures.some c.in-Some-u32_of.epoch c.in-Some-u32_of.rest.now c.in-Some-u32_of.ensures.some))

pub returns-in_default-u64_of-clause-none : goal.returns-in_default-u64_of-clause-none
returns-in_default-u64_of-clause-none c = λ k y q.
    let wide : length c.zero-lv.result ≡ c.args.streams = ap length c.zero-lv.ensures ∙ length-replicate {A = ℕ} c.args.streams 0 in
    let there = subst (λ (n : ℕ). ArePositions n c.in-Some-u32_of.rest.now c.positions_of.new.lv c.in-Some-positions_of.rest.now) wide c.in-Some-positions_of.ensures.some in
    let three = third_is c.args.streams c.args.body.now k y q c.in-Some.number c.in-Some.rest.now c.in-Some.ensures.some c.in-Some-u32_of.epoch c.in-Some-u32_of.rest.now c.in-Some-u32_of.ensures.some
    c.positions_of.new.lv c.in-Some-positions_of.rest.now there in
    omega (arith, c.in_default-u64_of.ensures.none, ap length three)

pub returns-clause-some : goal.returns-clause-some
returns-clause-some c =
    let wide : length c.zero-lv.result ≡ c.args.streams = ap length c.zero-lv.ensures ∙ length-replicate {A = ℕ} c.args.streams 0 in
    let there = subst (λ (n : ℕ). ArePositions n c.in-Some-u32_of.rest.now c.positions_of.new.lv c.in-Some-positions_of.rest.now) wide c.in-Some-positions_of.ensures.some in
    head_begins c.args.streams c.args.body.now (record { number = c.in-Some.number; epoch = c.in-Some-u32_of.epoch; lv = c.positions_of.new.lv; count = c.in-Some-u64_of.count })
    c.in-Some.rest.now c.in-Some-u32_of.rest.now c.in-Some-positions_of.rest.now c.in-Some-u64_of.rest.now c.in-Some.ensures.fits c.in-Some-u32_of.ensures.fits c.in-Some-u64_of.ensures.fits c.in-Some.ensures.some c.in-Some-u32_of.ensures.some there c.in-Some-u64_of.ensures.some
