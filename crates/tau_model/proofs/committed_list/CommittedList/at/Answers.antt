use Rattle.std.proofs.Common.{◌≡◌, ◌∙◌, List, ℕ, length, ap, subst, sym, arith}
use Rattle.std.specs.Prelude.{Some, slice_get, vec_len}
use Rattle.std.proofs.lemmas.Option.{get_or_from_slice_get, slice_get-get_or}
use Rattle.tau_model.specs.declared.committed.Committed.{Committed}
use Rattle.tau_model.specs.declared.committed_list.Head.{Head}
use Rattle.tau_model.specs.KeptCommitted.{HasText, call_of}
use Rattle.tau_model.proofs.KeptCalls.{called, calls_get, calls_within}
use Rattle.tau_model.proofs.committed_list.CommittedList.at.Goals as goal

pub index-requires : goal.index-requires
index-requires c =
    let lt = calls_within c.self.inside.texts.items c.self.inside.heads.items c.self.inside.deps.items c.args.self.now.items c.args.index c.self.invariant.same (λ i. (c.self.view_is i).items) c.requires in
    let long : vec_len c.self.inside.heads ≡ length c.self.inside.heads.items = c.self.inside.heads.ok.0 in
    omega (arith, lt, long)

pub get-requires : goal.get-requires
get-requires c =
    let lt = calls_within c.self.inside.texts.items c.self.inside.heads.items c.self.inside.deps.items c.args.self.now.items c.args.index c.self.invariant.same (λ i. (c.self.view_is i).items) c.requires in
    let same = c.self.invariant.same in
    omega (arith, lt, same)

pub invariant_of-result : goal.invariant_of-result
invariant_of-result c =
    let lt = calls_within c.self.inside.texts.items c.self.inside.heads.items c.self.inside.deps.items c.args.self.now.items c.args.index c.self.invariant.same (λ i. (c.self.view_is i).items) c.requires in
    subst (λ (ts : List (List ℕ)). HasText (length ts) c.index.result.now.reply) (sym c.as_slice.ensures.value)
    (subst (λ (h : Head). HasText (length c.self.inside.texts.items) h.reply) (sym c.index.ensures) (c.self.invariant.replies c.args.index c.index.result.now lt))

pub returns-clause-at : goal.returns-clause-at
returns-clause-at c =
    let lt = calls_within c.self.inside.texts.items c.self.inside.heads.items c.self.inside.deps.items c.args.self.now.items c.args.index c.self.invariant.same (λ i. (c.self.view_is i).items) c.requires in
    let head : slice_get c.self.inside.heads.items c.args.index ≡ Some c.index.result.now =
    slice_get-get_or c.self.inside.heads.items c.args.index c.index.result.now lt ∙ ap (λ (h : Head). Some h) (sym c.index.ensures) in
    (λ i. slice_get (sym c.self.view_is i).items c.args.index)
    ∙ calls_get c.self.inside.texts.items c.self.inside.heads.items c.self.inside.deps.items c.args.index c.self.invariant.same
    ∙ (λ i. called c.self.inside.texts.items (head i) (c.get.ensures i))
    ∙ ap (λ (ts : List (List ℕ)). Some (call_of ts c.index.result.now c.get.result.now)) (sym c.as_slice.ensures.value)

pub returns-clause-is : goal.returns-clause-is
returns-clause-is c =
    let call : Committed = call_of c.as_slice.result.now c.index.result.now c.get.result.now in
    sym (get_or_from_slice_get c.args.self.now.items c.args.index call call (returns-clause-at c))
