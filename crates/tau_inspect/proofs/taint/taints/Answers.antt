-- The marks tell of one more call, and at the end of all.
use Rattle.std.proofs.Common.{arith, ℕ, replicate, ◌+◌, Bool, ◌≡◌, ◌++◌, ◌∷◌, [], List, drop, get_or, false, sym, ap, ◌∙◌, append_assoc}
use Rattle.std.proofs.lemmas.List.{append-nil}
use Rattle.tau_inspect.specs.Marks.{marks_of}
use Rattle.tau_inspect.specs.Taint.{Marks, taints, is_tainted, pass}
use Rattle.tau_inspect.proofs.Marked.{none_tainted, taints_next, taints_end}
use Rattle.tau_inspect.proofs.taint.taints.Goals as goal

pub returns-then-not-is_any : goal.returns-then-not-is_any
returns-then-not-is_any c =
    c.in_ok-clean.ensures.items_if_clones_equal (λ y e. e) ∙ ap (λ (n : ℕ). replicate n false) c.len.ensures ∙ sym (none_tainted c.args.all.now c.args.missing.now c.requires (sym c.is_any.ensures ∙ c.if-not-is_any.true))

pub loop-i-preserved : goal.loop-i-preserved
loop-i-preserved c =
    let es = c.args.all.now in let ms = c.args.missing.now in let i = c.loop-i.i in let marks : Marks = marks_of c.loop-i.taint in let e = c.at-did.result in
    let next = taints_next marks es ms i e (omega (arith, c.len-i-end.ensures, c.loop-i-test.true)) c.requires c.at-did.ensures.is in
    let rest : List Bool = taints (pass (get_or ms i false) e marks) (drop (i + 1) es) (drop (i + 1) ms) in
    let items : c.push.new.self.items ≡ c.loop-i.tainted.items ++ is_tainted marks e ∷ [] =
    c.in_ok-push.ensures.items ∙ ap (λ (b : Bool). c.loop-i.tainted.items ++ b ∷ []) c.in_ok-pass.ensures.tells in
    ap (λ (l : List Bool). l ++ taints (marks_of c.pass.new.self) (drop (i + 1) es) (drop (i + 1) ms)) items
    ∙ ap (λ (m : Marks). (c.loop-i.tainted.items ++ is_tainted marks e ∷ []) ++ taints m (drop (i + 1) es) (drop (i + 1) ms)) c.in_ok-pass.ensures.marks
    ∙ append_assoc c.loop-i.tainted.items (is_tainted marks e ∷ []) rest
    ∙ ap (λ (l : List Bool). c.loop-i.tainted.items ++ l) (sym next)
    ∙ c.loop-i.invariant

pub returns : goal.returns
returns c =
    let es = c.args.all.now in let ms = c.args.missing.now in let i = c.loop-i.i in
    sym (append-nil c.loop-i.tainted.items) ∙ ap (λ (l : List Bool). c.loop-i.tainted.items ++ l) (sym (taints_end (marks_of c.loop-i.taint) es ms i (omega (arith, c.len-i-end.ensures, c.loop-i-test.false)))) ∙ c.loop-i.invariant
