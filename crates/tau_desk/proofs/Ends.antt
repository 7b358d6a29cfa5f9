-- Any seat looks up to where a stream is placed.
use Rattle.std.proofs.Common.{◌≡◌, ℕ, ◌+◌, ◌*◌, ◌<◌, refl, sym, ap, ◌∙◌, subst, arith}
use Rattle.std.specs.Prelude.{Option, Some, slice_index}
use mathlib.Core.Option.{none}
use Rattle.atomic_table.specs.Table.{Allows, Step, step}
use Rattle.tau_shown.proofs.Steps.{loads_word}
use Rattle.tau_core.specs.State.{Plain}
use Rattle.tau_occ.specs.declared.style.Style.{Style}
use Rattle.tau_rule.specs.Rule.{IsPart, IsRole, Meets, Rule, Sees, hand_of, has, part_count, word_of}
use Rattle.tau_rule.specs.Steps.{Sat}
use Rattle.tau_rule.specs.declared.part.Part.{Part}
use Rattle.tau_rule.proofs.Gives.{one_origin}
use Rattle.tau_rule.proofs.Placing.{word_alloc}
use Rattle.tau_desk.specs.Manages.{PlacedTo, saw_end}

pub sees_end : (origin : Plain) {style : Style} (id j : ℕ) (m : Sat) (st : Step (Option Part)) → m.0.opened ≡ Some origin → j < origin.load.streams → st.word ≡ 8 * (part_count origin.load + j) → Allows (Rule origin style) (part_count origin.load) id m (8 * (part_count origin.load + j)) (λ n. n) (saw_end st m)
sees_end origin {style} id j m st opened there word s rule len at small =
    -- the step changes nothing
    let went = loads_word (IsPart origin.load) (IsRole origin.load) (word_of origin.load) hand_of has (Sees origin) (Meets origin style) (part_count origin.load) (origin.load.streams + origin.load.streams + 1) id j m.0 m.1 (omega (arith, there))
    (λ _. m.0) (λ _. refl) (λ _ _. refl) (λ c meets sees. sees) (λ _ (m' : Sat). m' ≡ m) (λ c meets sees. refl) s rule len at small in
    -- so what the seat knew agrees with the state at this step, whose word it has read
    let mine = rule.each_view id m.0 at in
    let end = sym (word_alloc origin j rule.core there) ∙ sym (rule.numbers j (omega (arith, there))) in (
      went.0,
      went.1,
      went.2,
      went.3,
      (
        went.4,
        λ o its i low at-i.
            subst (λ (z : Plain × ℕ). PlacedTo z.0 m.0 z.1 (slice_index s.words (8 * (part_count origin.load + j)))) (λ k. (one_origin origin o (sym opened ∙ its) k, same o i its at-i k)) (record {
              style = style;
              state = rule.core;
              meets = rule.kept;
              sees = mine.seen;
              roles = λ u r h. (mine.roles u r h).0;
              end = end;
            }),
      ),
    )
  where
    same : (o : Plain) (i : ℕ) → m.0.opened ≡ Some o → st.word ≡ 8 * (part_count o.load + i) → j ≡ i
    same o i its at =
        let e : 8 * (part_count origin.load + j) ≡ 8 * (part_count origin.load + i) = sym word ∙ at ∙ ap (λ (q : Plain). 8 * (part_count q.load + i)) (sym (one_origin origin o (sym opened ∙ its))) in
        omega (arith, e)

pub sees_end_as : (origin : Plain) {style : Style} (slots id j word : ℕ) (m : Sat) → m.0.opened ≡ Some origin → j < origin.load.streams → slots ≡ part_count origin.load → word ≡ 8 * (part_count origin.load + j) → Allows (Rule origin style) slots id m word (λ n. n) (saw_end (step slots word 0 0 none) m)
sees_end_as origin {style} slots id j word m opened there es is =
    subst (λ (z : ℕ × ℕ). Allows (Rule origin style) z.0 id m z.1 (λ n. n) (saw_end (step z.0 z.1 0 0 none) m)) (λ i. (sym es i, sym is i))
    (sees_end origin id j m (step (part_count origin.load) (8 * (part_count origin.load + j)) 0 0 none) opened there refl)
