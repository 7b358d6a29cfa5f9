-- One call after the other is told, or one is not.
use Rattle.std.proofs.Common.{ℕ, Bool, false, ◌≡◌, inl, inr, List, get_or, true, refl, sym, ap, subst, ◌∙◌, arith}
use Rattle.std.specs.Prelude.{slice_get, slice_index_or, if◌then◌else◌}
use Rattle.std.proofs.lemmas.Bool.{both_ways}
use Rattle.std.proofs.lemmas.Option.{slice_get_within}
use Rattle.tau_base.proofs.Logic.{below_or_not, some_is}
use Rattle.tau_model.specs.History.{Act, Numbered, updates}
use Rattle.tau_inspect.specs.Audit.{Case, acts, is_told}
use Rattle.tau_inspect.specs.Executed.{numbered}
use Rattle.tau_inspect.proofs.Acts.{member_get, get_member}
use Rattle.tau_inspect.proofs.Survivals.{read_there, act_count, told_is}
use Rattle.tau_inspect.specs.Cases.{in_case}
use Rattle.tau_inspect.proofs.check_taint.is_whole.Goals as goal

pub loop-i-preserved : goal.loop-i-preserved
loop-i-preserved c =
    let k : Case = (in_case c.args.case.now) in let i : ℕ = c.loop-i.i in let e = c.at-did.result in
    let y : Act Numbered = record { call = numbered c.args.case.now.load.now.calls (get_or c.args.case.now.report.now.order i 0); effect = e } in
    let at = read_there k c.args.done.now c.requires.done c.requires.many i e (omega (arith, c.len-i-end.ensures, c.loop-i-test.true)) c.at-did.ensures.is in
    let n : ℕ = get_or c.args.case.now.report.now.order i 0 in
    let turn : get_or c.deref.result.now i 0 ≡ n = ap (λ (l : List ℕ). get_or l i 0) c.deref.ensures in
    let told : is_told k y ≡ true =
    sym (told_is k c.args.recorded.now c.args.acked.now c.requires.there c.requires.recorded c.requires.acked i y at)
    ∙ ap (λ (b : Bool). if updates e then b else slice_index_or c.args.acked.now n false) (ap (λ (m : ℕ). slice_index_or c.args.recorded.now m false) (sym turn) ∙ sym c.is_flagged.ensures)
    ∙ ap (λ (b : Bool). if updates e then c.is_flagged.result else b) (ap (λ (m : ℕ). slice_index_or c.args.acked.now m false) (sym turn) ∙ sym c.is_flagged-in-loop-i.ensures)
    ∙ sym c.is_told.ensures ∙ c.if-not-is_told.false in
    λ j x lt there. elim (below_or_not j i) [
      | inl less ↦ c.loop-i.invariant j x less there
      | inr le ↦
          let same : i ≡ j = omega (arith, lt, le) in
          subst (λ (z : Act Numbered). is_told k z ≡ true) (some_is y x (sym at ∙ ap (slice_get (acts k)) same ∙ there)) told
    ]

pub returns-then-not-is_told : goal.returns-then-not-is_told
returns-then-not-is_told c =
    let k : Case = (in_case c.args.case.now) in let i : ℕ = c.loop-i.i in let e = c.at-did.result in
    let y : Act Numbered = record { call = numbered c.args.case.now.load.now.calls (get_or c.args.case.now.report.now.order i 0); effect = e } in
    let at = read_there k c.args.done.now c.requires.done c.requires.many i e (omega (arith, c.len-i-end.ensures, c.loop-i-test.true)) c.at-did.ensures.is in
    let n : ℕ = get_or c.args.case.now.report.now.order i 0 in
    let turn : get_or c.deref.result.now i 0 ≡ n = ap (λ (l : List ℕ). get_or l i 0) c.deref.ensures in
    let told : is_told k y ≡ false =
    sym (told_is k c.args.recorded.now c.args.acked.now c.requires.there c.requires.recorded c.requires.acked i y at)
    ∙ ap (λ (b : Bool). if updates e then b else slice_index_or c.args.acked.now n false) (ap (λ (m : ℕ). slice_index_or c.args.recorded.now m false) (sym turn) ∙ sym c.is_flagged.ensures)
    ∙ ap (λ (b : Bool). if updates e then c.is_flagged.result else b) (ap (λ (m : ℕ). slice_index_or c.args.acked.now m false) (sym turn) ∙ sym c.is_flagged-in-loop-i.ensures)
    ∙ sym c.is_told.ensures ∙ c.if-not-is_told.true in
    ((λ t. absurd (both_ways false refl t)), (λ h. absurd (both_ways (is_told k y) told (h y (get_member y (acts k) i at)))))

pub returns : goal.returns
returns c =
    let k : Case = (in_case c.args.case.now) in (
      (λ t x m.
          let w = member_get x (acts k) m in
          c.loop-i.invariant w.0 x (omega (arith, c.len-i-end.ensures, c.loop-i-test.false, act_count k c.args.done.now c.requires.many, slice_get_within (acts k) w.0 x w.1)) w.1),
      (λ h. refl),
    )
