-- One number after the other.
use Rattle.std.proofs.Common.{ℕ, pos, ◌≡◌, ◌+◌, ◌-◌, ◌++◌, ◌∷◌, [], take, subst, ◌∙◌, arith}
use Rattle.tau_base.specs.declared.value.Value.TheVariants.{Int}
use Rattle.tau_text.specs.Forms.{literals}
use Rattle.tau_text.specs.Quick.{IsRead}
use Rattle.tau_text.proofs.OnePass.{SoFar, none_read, one_more, last_one}
use Rattle.tau_text.proofs.quick.numbers.Goals as goal

pub loop-place-init : goal.loop-place-init
loop-place-init c = record { kept = omega arith; read = none_read c.args.text.now c.args.args.now.items }

pub loop-place-preserved : goal.loop-place-preserved
loop-place-preserved c = record {
  kept = c.keep.ensures.within;
  read = one_more c.loop-place.place c.args.text.now c.loop-place.args.items c.keep.new.args.items c.loop-place.rest.now c.in_ok-z.more.now c.in_ok-z.z c.loop-place.invariant.read c.in_ok-z.ensures c.keep.ensures.kept;
}

pub returns-clause-read : goal.returns-clause-read
returns-clause-read c =
    let text = c.args.text.now in
    let last : ℕ = c.args.count - 1 in
    let at : c.loop-place.place ≡ last = omega (arith, c.loop-place-test.false, c.loop-place.auto.place-end) in
    let all : last + 1 ≡ c.args.count = omega (arith, c.if-count-eq0.false) in
    let here : SoFar last text (take last c.loop-place.args.items) c.loop-place.rest.now = subst (λ (n : ℕ). SoFar n text (take n c.loop-place.args.items) c.loop-place.rest.now) at c.loop-place.invariant.read in
    let kept : take (last + 1) c.keep-2.new.args.items ≡ take last c.loop-place.args.items ++ Int (pos c.in_ok-z-2.z) ∷ [] = c.keep-2.ensures.kept in
    let is : c.truncate.new.self.items ≡ take last c.loop-place.args.items ++ Int (pos c.in_ok-z-2.z) ∷ [] = c.truncate.ensures.items ∙ subst (λ (n : ℕ). take n c.keep-2.new.args.items ≡ take last c.loop-place.args.items ++ Int (pos c.in_ok-z-2.z) ∷ []) all kept in
    subst (λ (n : ℕ). IsRead (literals n) text (c.truncate.new.self.items, []) c.in_ok-z-2.more.now) all
    (last_one last text c.loop-place.args.items c.truncate.new.self.items c.loop-place.rest.now c.in_ok-z-2.more.now c.in_ok-z-2.z here c.in_ok-z-2.ensures is)

pub keep-requires-clause-small : goal.keep-requires-clause-small
keep-requires-clause-small c = omega (arith, c.in_ok-z.ensures.few)

pub keep-requires-2-clause-small : goal.keep-requires-2-clause-small
keep-requires-2-clause-small c = omega (arith, c.in_ok-z-2.ensures.few)
