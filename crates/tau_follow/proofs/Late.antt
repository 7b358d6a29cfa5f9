-- The first applied record that an epoch leaves out.
use Rattle.std.proofs.Common.{ℕ, suc, ◌+◌, ◌≤◌, Bool, true, false, cond, ◌&&◌, ◌≡◌, ◌⊎◌, inl, inr, List, [], ◌∷◌, ◌++◌, length, drop, Option, Some, None, refl, sym, ap, subst, ◌∙◌, arith}
use Rattle.std.specs.Prelude.{slice_get}
use Rattle.std.specs.List.{filter}
use Rattle.std.proofs.lemmas.Bool.{cases_Bool}
use Rattle.std.proofs.lemmas.List.{drop_all}
use Rattle.std.proofs.lemmas.List.Elements.{filter-append}
use Rattle.tau_model.specs.History.{Member}
use Rattle.tau_epoch.specs.Epochs.{Mark}
use Rattle.tau_record.specs.declared.entry.Placed.{Placed}
use Rattle.tau_record.specs.Record.{epoch_after}
use Rattle.tau_scan.specs.declared.fault.LogFault.{LogFault}
use Rattle.tau_scan.specs.declared.fault.LogCause.TheVariants as cause
use Rattle.tau_scan.specs.Epochs.{marks_from, with_marks}
use Rattle.tau_scan.specs.Reading.{or_else}
use Rattle.tau_scan.specs.Taken.{Kept, kept_as}
use Rattle.tau_follow_laws.specs.Following.{chosen_in, chosen_from, is_left_out, is_among}
use Rattle.tau_follow_laws.specs.Feeding.{late_at, late_in}
use Rattle.tau_follow_laws.proofs.Among.{among_member, member_among}
use Rattle.tau_follow.specs.declared.stage.Stage.{Stage}
use Rattle.tau_follow.specs.declared.stage.Stage.TheVariants as stages
use Rattle.tau_follow.specs.Applying.{stage_as, stages_in, stages_from, dep_of}
use Rattle.tau_follow.specs.Judging.{is_applied_stage, late_of, late_one, late_from}
use Rattle.tau_follow.proofs.Staging.{entry_kept}
use Rattle.tau_follow.proofs.Judging.{known_judge}
use Rattle.tau_follow.proofs.Reaching.{drop_got}

late_append : (xs ys : List Kept) → late_at (xs ++ ys) ≡ or_else (late_at xs) (late_at ys)
late_append [] ys = refl
late_append (x ∷ xs) ys = refl

module _ (out order : List Kept) (apart : (r : Kept) → Member r order → is_among out r ≡ false) where
  out_not : (r : Kept) → is_among order r ≡ true → is_among out r ≡ false
  out_not r y =
      let w = among_member order r.place.stream r.place.start y in
      elim (cases_Bool (is_among out r)) [
        | inr f ↦ f
        | inl t ↦
            let o = among_member out r.place.stream r.place.start t in
            absurd (let z : true ≡ false = sym (member_among out w.0.place.stream w.0.place.start o.0 o.1 (o.2 ∙ sym w.2) (o.3 ∙ sym w.3)) ∙ apart w.0 w.1 in cc z)
      ]

  applied_is : (r : Kept) → is_applied_stage (stage_as out order (r ∷ [])) ≡ is_among order r
  applied_is r = by (is_among order r) (is_among out r) refl refl
    where
      by : (b a : Bool) → is_among order r ≡ b → is_among out r ≡ a → is_applied_stage (stage_as out order (r ∷ [])) ≡ is_among order r
      by true a e f = let free = out_not r e in ap (λ (x : Bool). is_applied_stage (cond x stages.Out (cond (is_among order r) stages.Applied stages.Open))) free ∙ ap (λ (x : Bool). is_applied_stage (cond x stages.Applied stages.Open)) e ∙ sym e
      by false true e f = ap (λ (x : Bool). is_applied_stage (cond x stages.Out (cond (is_among order r) stages.Applied stages.Open))) f ∙ sym e
      by false false e f = ap (λ (x : Bool). is_applied_stage (cond x stages.Out (cond (is_among order r) stages.Applied stages.Open))) f ∙ ap (λ (x : Bool). is_applied_stage (cond x stages.Applied stages.Open)) e ∙ sym e

  module _ (known marks : List Mark) (judges : (k : ℕ) (dep : List ℕ) → is_left_out known k dep ≡ is_left_out marks k dep) where
    -- one record, and those after it
    late_here : (j k : ℕ) (p : Placed) (ks : List Kept) (rest : List Kept) (later : Option ℕ) → ((r : Kept) × (ks ≡ r ∷ []) × (r.place.dep ≡ dep_of p.entry) × (r.place.stream ≡ j) × (r.place.start ≡ p.start)) ⊎ (ks ≡ []) →
        late_one j later ≡ late_at (filter (is_among order) rest) →
        late_one j (cond (is_applied_stage (stage_as out order ks) && is_left_out known k (dep_of p.entry)) (Some p.start) later) ≡ late_at (filter (is_among order) (filter (λ (r : Kept). is_left_out marks k r.place.dep) ks ++ rest))
    late_here j k p ks rest later (inr none) e =
        subst (λ (l : List Kept). late_one j (cond (is_applied_stage (stage_as out order l) && is_left_out known k (dep_of p.entry)) (Some p.start) later) ≡ late_at (filter (is_among order) (filter (λ (r : Kept). is_left_out marks k r.place.dep) l ++ rest))) (sym none) e
    late_here j k p ks rest later (inl w) e =
        subst (λ (l : List Kept). late_one j (cond (is_applied_stage (stage_as out order l) && is_left_out known k (dep_of p.entry)) (Some p.start) later) ≡ late_at (filter (is_among order) (filter (λ (r : Kept). is_left_out marks k r.place.dep) l ++ rest))) (sym w.1)
        (by (is_among order w.0) (is_left_out marks k w.0.place.dep) refl refl)
      where
        left : is_left_out known k (dep_of p.entry) ≡ is_left_out marks k w.0.place.dep
        left = judges k (dep_of p.entry) ∙ ap (is_left_out marks k) (sym w.2)

        none : List Kept
        none = filter (is_among order) rest

        fault : ℕ → ℕ → Option LogFault
        fault i at = Some (record { stream = i; cause = cause.Late at })

        by : (a l : Bool) → is_among order w.0 ≡ a → is_left_out marks k w.0.place.dep ≡ l →
            late_one j (cond (is_applied_stage (stage_as out order (w.0 ∷ [])) && is_left_out known k (dep_of p.entry)) (Some p.start) later) ≡ late_at (filter (is_among order) (filter (λ (r : Kept). is_left_out marks k r.place.dep) (w.0 ∷ []) ++ rest))
        by true true f g =
            ap (λ (x : Bool). late_one j (cond (x && is_left_out known k (dep_of p.entry)) (Some p.start) later)) (applied_is w.0 ∙ f) ∙ ap (λ (x : Bool). late_one j (cond (true && x) (Some p.start) later)) (left ∙ g)
            ∙ ap (λ (i : ℕ). fault i p.start) (sym w.3) ∙ ap (fault w.0.place.stream) (sym w.4)
            ∙ sym (ap (λ (x : Bool). late_at (filter (is_among order) (cond x (w.0 ∷ []) [] ++ rest))) g ∙ ap (λ (x : Bool). late_at (cond x (w.0 ∷ filter (is_among order) rest) (filter (is_among order) rest))) f)
        by false true f g =
            ap (λ (x : Bool). late_one j (cond (x && is_left_out known k (dep_of p.entry)) (Some p.start) later)) (applied_is w.0 ∙ f) ∙ e
            ∙ sym (ap (λ (x : Bool). late_at (filter (is_among order) (cond x (w.0 ∷ []) [] ++ rest))) g ∙ ap (λ (x : Bool). late_at (cond x (w.0 ∷ filter (is_among order) rest) (filter (is_among order) rest))) f)
        by true false f g =
            ap (λ (x : Bool). late_one j (cond (x && is_left_out known k (dep_of p.entry)) (Some p.start) later)) (applied_is w.0 ∙ f) ∙ ap (λ (x : Bool). late_one j (cond (true && x) (Some p.start) later)) (left ∙ g) ∙ e
            ∙ sym (ap (λ (x : Bool). late_at (filter (is_among order) (cond x (w.0 ∷ []) [] ++ rest))) g)
        by false false f g =
            ap (λ (x : Bool). late_one j (cond (x && is_left_out known k (dep_of p.entry)) (Some p.start) later)) (applied_is w.0 ∙ f) ∙ e
            ∙ sym (ap (λ (x : Bool). late_at (filter (is_among order) (cond x (w.0 ∷ []) [] ++ rest))) g)

    late_stream : (j k : ℕ) (ps : List Placed) → late_one j (late_of known k ps (stages_in out order j ps)) ≡ late_at (filter (is_among order) (chosen_in (is_left_out marks) j k ps))
    late_stream j k [] = refl
    late_stream j k (p ∷ ps) =
        late_here j k p (kept_as j p p.entry) (chosen_in (is_left_out marks) j (epoch_after k p.entry) ps) (late_of known (epoch_after k p.entry) ps (stages_in out order j ps))
        (elim (entry_kept j p p.entry) [ inl w ↦ inl (w.0, w.1, w.2, w.3, w.4) | inr none ↦ inr none ]) (late_stream j (epoch_after k p.entry) ps)

    late_streams : (j : ℕ) (streams : List (List Placed)) → late_from known j streams (stages_from out order j streams) ≡ late_at (filter (is_among order) (chosen_from (is_left_out marks) j streams))
    late_streams j [] = refl
    late_streams j (ps ∷ streams) =
        ap (λ (o : Option LogFault). or_else o (late_from known (suc j) streams (stages_from out order (suc j) streams))) (late_stream j 0 ps)
        ∙ ap (or_else (late_at (filter (is_among order) (chosen_in (is_left_out marks) j 0 ps)))) (late_streams (suc j) streams)
        ∙ sym (ap late_at (filter-append (is_among order) (chosen_in (is_left_out marks) j 0 ps) (chosen_from (is_left_out marks) (suc j) streams))
        ∙ late_append (filter (is_among order) (chosen_in (is_left_out marks) j 0 ps)) (filter (is_among order) (chosen_from (is_left_out marks) (suc j) streams)))

-- what the stages tell is the first applied record that is left out
pub late_is : (streams : List (List Placed)) (out order : List Kept) (known : List Mark) → known ≡ with_marks [] (marks_from streams) → ((r : Kept) → Member r order → is_among out r ≡ false) → late_from known 0 streams (stages_from out order 0 streams) ≡ late_in streams order
late_is streams out order known is apart =
    late_streams out order apart known (marks_from streams) (λ k dep. ap (λ (ms : List Mark). is_left_out ms k dep) is ∙ known_judge (marks_from streams) k dep) 0 streams

-- ---- stream by stream

pub late_next : (known : List Mark) (streams : List (List Placed)) (all : List (List Stage)) (j : ℕ) (ps : List Placed) (ss : List Stage) (whole : Option LogFault) → slice_get streams j ≡ Some ps → slice_get all j ≡ Some ss →
    late_from known j (drop j streams) (drop j all) ≡ whole → or_else (late_one j (late_of known 0 ps ss)) (late_from known (j + 1) (drop (j + 1) streams) (drop (j + 1) all)) ≡ whole
late_next known streams all j ps ss whole e g so_far =
    let next : suc j ≡ j + 1 = omega arith in
    ap (λ (i : ℕ). or_else (late_one j (late_of known 0 ps ss)) (late_from known i (drop (j + 1) streams) (drop (j + 1) all))) (sym next)
    ∙ sym (ap (λ (xs : List (List Placed)). late_from known j xs (drop j all)) (drop_got streams j ps e) ∙ ap (late_from known j (ps ∷ drop (j + 1) streams)) (drop_got all j ss g)) ∙ so_far

pub late_end : (known : List Mark) (streams : List (List Placed)) (all : List (List Stage)) (j : ℕ) (whole : Option LogFault) → length streams ≤ j → late_from known j (drop j streams) (drop j all) ≡ whole → None ≡ whole
late_end known streams all j whole le e = sym (ap (λ (xs : List (List Placed)). late_from known j xs (drop j all)) (drop_all j streams le)) ∙ e
