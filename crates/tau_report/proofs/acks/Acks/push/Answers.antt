use Rattle.std.proofs.Common.{◌∙◌, ◌++◌, ◌∷◌, [], List, ℕ, length, sym, ap, subst}
use Rattle.tau_report.specs.KeptAcks.{acks_of, IsWhole}
use Rattle.tau_report.proofs.KeptAcks.{acks_more, acks_whole}
use Rattle.tau_report.proofs.acks.Acks.push.Goals as goal

pub invariant_of-self-2 : goal.invariant_of-self-2
invariant_of-self-2 c =
    let heads = c.push_reserved.ensures.items ∙ ap (λ l. l ++ (c.args.number, c.width-width.result) ∷ []) c.reserve.ensures.items
    ∙ ap (λ (w : ℕ). c.self.inside.heads.items ++ (c.args.number, w) ∷ []) c.width-width.ensures.same in
    let parts = c.put_parts.ensures ∙ ap (λ l. l ++ c.args.lv.now) c.reserve-2.ensures.items in
    subst (λ (h : List (ℕ × ℕ)). IsWhole h c.put_parts.new.parts.items) (sym heads)
    (subst (λ (p : List ℕ). IsWhole (c.self.inside.heads.items ++ (c.args.number, length c.args.lv.now) ∷ []) p) (sym parts)
    (acks_whole c.args.number c.args.lv.now c.self.inside.heads.items c.self.inside.parts.items c.self.invariant))

pub returns-clause-ok : goal.returns-clause-ok
returns-clause-ok c =
    let heads = c.push_reserved.ensures.items ∙ ap (λ l. l ++ (c.args.number, c.width-width.result) ∷ []) c.reserve.ensures.items
    ∙ ap (λ (w : ℕ). c.self.inside.heads.items ++ (c.args.number, w) ∷ []) c.width-width.ensures.same in
    let parts = c.put_parts.ensures ∙ ap (λ l. l ++ c.args.lv.now) c.reserve-2.ensures.items in
    ap (λ (h : List (ℕ × ℕ)). acks_of h c.put_parts.new.parts.items) heads
    ∙ ap (λ (p : List ℕ). acks_of (c.self.inside.heads.items ++ (c.args.number, length c.args.lv.now) ∷ []) p) parts
    ∙ acks_more c.args.number c.args.lv.now c.self.inside.heads.items c.self.inside.parts.items c.self.invariant
    ∙ ap (λ (l : List (ℕ × List ℕ)). l ++ (c.args.number, c.args.lv.now) ∷ []) c.self.view_is
