use Rattle.std.proofs.Common.{ℕ, List, refl, ◌∙◌, inl, inr, drop, length, ◌≡◌, ◌≤◌, take, ◌-◌, ap, arith, length-drop}
use Rattle.std.proofs.lemmas.List.{take_all}
use Rattle.tau_block.proofs.Blocks.{no_block, size_in}
use Rattle.tau_block.proofs.content.body_at.Goals as goal

-- the bytes from a place on, as the code takes them
rest_all : (image : List ℕ) (at : ℕ) → at ≤ length image → take (length image - at) (drop at image) ≡ drop at image
rest_all image at le = take_all (length image - at) (drop at image) (omega (arith, length-drop at image))

pub returns-then-size-eq0-clause-bad : goal.returns-then-size-eq0-clause-bad
returns-then-size-eq0-clause-bad c =
    let all = rest_all c.args.image.now c.args.at c.requires in
    let size : c.from_be_bytes-size.result ≡ size_in (drop c.args.at c.args.image.now) = c.from_be_bytes-size.ensures ∙ ap size_in all in
    (refl, no_block (drop c.args.at c.args.image.now) c.from_be_bytes-size.result (omega (arith, ap length all, c.if-behind-lt4.false)) size (inl c.if-size-eq0.true))

pub returns-then-behind-size-clause-bad : goal.returns-then-behind-size-clause-bad
returns-then-behind-size-clause-bad c =
    let all = rest_all c.args.image.now c.args.at c.requires in
    let size : c.from_be_bytes-size.result ≡ size_in (drop c.args.at c.args.image.now) = c.from_be_bytes-size.ensures ∙ ap size_in all in
    (refl, no_block (drop c.args.at c.args.image.now) c.from_be_bytes-size.result (omega (arith, ap length all, c.if-behind-lt4.false)) size (inr (omega (arith, ap length all, c.if-behind-size.true))))
