-- Where records stand once more epochs are known.
use Rattle.std.proofs.Common.{ℕ, suc, ◌+◌, ◌≤◌, Bool, true, false, cond, not, ◌&&◌, ◌≡◌, inl, inr, List, [], ◌∷◌, ◌++◌, length, drop, Some, refl, sym, ap, subst, ◌∙◌, append_assoc}
use Rattle.std.specs.Prelude.{slice_get}
use Rattle.std.proofs.lemmas.List.{append-nil, drop_all}
use Rattle.std.proofs.lemmas.Bool.{cases_Bool}
use Rattle.tau_base.specs.Vectors.{covers}
use Rattle.tau_base.proofs.Vectors.{at_most_covers, at_most_itself}
use Rattle.tau_model.specs.History.{Member}
use Rattle.tau_model.proofs.Orders.{member_front, member_back}
use Rattle.tau_epoch.specs.Epochs.{Mark, least_above, judging}
use Rattle.tau_record.specs.declared.entry.Placed.{Placed}
use Rattle.tau_record.specs.Record.{epoch_after}
use Rattle.tau_scan.specs.Epochs.{marks_from, with_marks, is_below}
use Rattle.tau_scan.specs.Taken.{Kept, kept_as}
use Rattle.tau_scan.proofs.Known.{same_judge, judged_covers}
use Rattle.tau_follow_laws.specs.Following.{is_left_out, left_out, is_among}
use Rattle.tau_follow_laws.proofs.Kept.{Dated, dated_as, dated_in, dated_from, chosen_are, are_chosen}
use Rattle.tau_follow_laws.proofs.Rises.{AreStanding, one_there}
use Rattle.tau_follow_laws.proofs.Among.{among_member, member_among, not_both}
use Rattle.tau_follow.specs.declared.stage.Stage.{Stage}
use Rattle.tau_follow.specs.declared.stage.Stage.TheVariants as stages
use Rattle.tau_follow.specs.Applying.{stage_as, stage_of, stages_in, stages_from, dep_of}
use Rattle.tau_follow.specs.Judging.{judged_stage, judged_in, judged_from}
use Rattle.tau_follow.proofs.Staging.{entry_kept}
use Rattle.tau_follow.proofs.Reaching.{drop_got}

-- known epochs judge as the marks do of which they are
pub known_judge : (ms : List Mark) (k : ℕ) (dep : List ℕ) → is_left_out (with_marks [] ms) k dep ≡ is_left_out ms k dep
known_judge ms k dep = ap not (told (with_marks [] ms) ∙ ap (λ (f : ℕ → List ℕ). covers (f k) dep) (same_judge dep ms) ∙ sym (told ms))
  where
    told : (known : List Mark) → is_below dep (least_above k known) ≡ covers (judging dep known k) dep
    told known = sym (ap (λ (b : Bool). b && is_below dep (least_above k known)) (at_most_covers dep dep (at_most_itself dep))) ∙ judged_covers dep dep (least_above k known)

module _ (streams : List (List Placed)) (stands : AreStanding streams) where
  -- a record is among those that are left out exactly if it is left out
  pub left_is : (k : ℕ) (r : Kept) → Member (k, r) (dated_from 0 streams) → is_among (left_out streams) r ≡ is_left_out (marks_from streams) k r.place.dep
  left_is k r m = elim (cases_Bool (is_left_out (marks_from streams) k r.place.dep)) [
    | inl t ↦ member_among (left_out streams) r.place.stream r.place.start r (are_chosen (is_left_out (marks_from streams)) 0 streams (k, r) m t) refl refl ∙ sym t
    | inr f ↦ (elim (cases_Bool (is_among (left_out streams) r)) [
      | inr n ↦ n
      | inl y ↦
          let w = among_member (left_out streams) r.place.stream r.place.start y in
          let o = chosen_are (is_left_out (marks_from streams)) 0 streams w.0 w.1 in
          let one : (o.0, w.0) ≡ (k, r) = one_there streams (o.0, w.0) (k, r) stands o.1 m w.2 w.3 in
          let out : is_left_out (marks_from streams) k r.place.dep ≡ true = subst (λ (x : Dated). is_left_out (marks_from streams) x.0 x.1.place.dep ≡ true) one o.2 in
          absurd (let z : true ≡ false = sym out ∙ f in cc z)
    ]) ∙ sym f
  ]

  module _ (out order : List Kept) (known : List Mark) (is : known ≡ with_marks [] (marks_from streams)) (in_time : (r : Kept) → Member r order → is_among (left_out streams) r ≡ false) where
    new_out : List Kept
    new_out = out ++ left_out streams

    -- an applied record is not left out
    free : (r : Kept) → is_among order r ≡ true → is_among (left_out streams) r ≡ false
    free r y =
        let w = among_member order r.place.stream r.place.start y in
        elim (cases_Bool (is_among (left_out streams) r)) [
          | inr f ↦ f
          | inl t ↦
              let o = among_member (left_out streams) r.place.stream r.place.start t in
              absurd (let z : true ≡ false = sym (member_among (left_out streams) w.0.place.stream w.0.place.start o.0 o.1 (o.2 ∙ sym w.2) (o.3 ∙ sym w.3)) ∙ in_time w.0 w.1 in cc z)
        ]

    in_front : (r : Kept) → is_among out r ≡ true → is_among (out ++ left_out streams) r ≡ true
    in_front r y = let w = among_member out r.place.stream r.place.start y in member_among (out ++ left_out streams) r.place.stream r.place.start w.0 (member_front w.0 out (left_out streams) w.1) w.2 w.3

    in_back : (r : Kept) → is_among (left_out streams) r ≡ true → is_among (out ++ left_out streams) r ≡ true
    in_back r y = let w = among_member (left_out streams) r.place.stream r.place.start y in member_among (out ++ left_out streams) r.place.stream r.place.start w.0 (member_back w.0 out (left_out streams) w.1) w.2 w.3

    -- one record
    judged_kept : (k : ℕ) (p : Placed) (r : Kept) → r.place.dep ≡ dep_of p.entry → Member (k, r) (dated_from 0 streams) → judged_stage known k p (stage_as out order (r ∷ [])) ≡ stage_as (out ++ left_out streams) order (r ∷ [])
    judged_kept k p r dep m = by (is_among out r) (is_among order r) (is_among (left_out streams) r) refl refl refl
      where
        left : is_left_out known k (dep_of p.entry) ≡ is_among (left_out streams) r
        left = ap (λ (ms : List Mark). is_left_out ms k (dep_of p.entry)) is ∙ known_judge (marks_from streams) k (dep_of p.entry) ∙ ap (is_left_out (marks_from streams) k) (sym dep) ∙ sym (left_is k r m)

        by : (a b l : Bool) → is_among out r ≡ a → is_among order r ≡ b → is_among (left_out streams) r ≡ l → judged_stage known k p (stage_as out order (r ∷ [])) ≡ stage_as (out ++ left_out streams) order (r ∷ [])
        by true b l e f g = ap (λ (x : Bool). judged_stage known k p (cond x stages.Out (cond (is_among order r) stages.Applied stages.Open))) e
            ∙ sym (ap (λ (x : Bool). cond x stages.Out (cond (is_among order r) stages.Applied stages.Open)) (in_front r e))
        by false true true e f g = absurd (let z : true ≡ false = sym g ∙ free r f in cc z)
        by false true false e f g =
            ap (λ (x : Bool). judged_stage known k p (cond x stages.Out (cond (is_among order r) stages.Applied stages.Open))) e ∙ ap (λ (x : Bool). judged_stage known k p (cond x stages.Applied stages.Open)) f
            ∙ sym (ap (λ (x : Bool). cond x stages.Out (cond (is_among order r) stages.Applied stages.Open)) (not_both out (left_out streams) r.place.stream r.place.start e g) ∙ ap (λ (x : Bool). cond x stages.Applied stages.Open) f)
        by false false true e f g =
            ap (λ (x : Bool). judged_stage known k p (cond x stages.Out (cond (is_among order r) stages.Applied stages.Open))) e ∙ ap (λ (x : Bool). judged_stage known k p (cond x stages.Applied stages.Open)) f
            ∙ ap (λ (x : Bool). cond x stages.Out stages.Open) (left ∙ g)
            ∙ sym (ap (λ (x : Bool). cond x stages.Out (cond (is_among order r) stages.Applied stages.Open)) (in_back r g))
        by false false false e f g =
            ap (λ (x : Bool). judged_stage known k p (cond x stages.Out (cond (is_among order r) stages.Applied stages.Open))) e ∙ ap (λ (x : Bool). judged_stage known k p (cond x stages.Applied stages.Open)) f
            ∙ ap (λ (x : Bool). cond x stages.Out stages.Open) (left ∙ g)
            ∙ sym (ap (λ (x : Bool). cond x stages.Out (cond (is_among order r) stages.Applied stages.Open)) (not_both out (left_out streams) r.place.stream r.place.start e g) ∙ ap (λ (x : Bool). cond x stages.Applied stages.Open) f)

    judged_one : (j k : ℕ) (p : Placed) → ((x : Dated) → Member x (dated_as k (kept_as j p p.entry)) → Member x (dated_from 0 streams)) → judged_stage known k p (stage_of out order j p) ≡ stage_of (out ++ left_out streams) order j p
    judged_one j k p there = elim (entry_kept j p p.entry) [
      | inr none ↦ ap (λ (l : List Kept). judged_stage known k p (stage_as out order l)) none ∙ sym (ap (stage_as (out ++ left_out streams) order) none)
      | inl w ↦ ap (λ (l : List Kept). judged_stage known k p (stage_as out order l)) w.1 ∙ judged_kept k p w.0 w.2 (there (k, w.0) (subst (λ (l : List Kept). Member (k, w.0) (dated_as k l)) (sym w.1) (inl refl))) ∙ sym (ap (stage_as (out ++ left_out streams) order) w.1)
    ]

    judged_stream : (j k : ℕ) (ps : List Placed) → ((x : Dated) → Member x (dated_in j k ps) → Member x (dated_from 0 streams)) → judged_in known k ps (stages_in out order j ps) ≡ stages_in (out ++ left_out streams) order j ps
    judged_stream j k [] there = refl
    judged_stream j k (p ∷ ps) there =
        let here = judged_one j k p (λ x m. there x (member_front x (dated_as k (kept_as j p p.entry)) (dated_in j (epoch_after k p.entry) ps) m)) in
        let rest = judged_stream j (epoch_after k p.entry) ps (λ x m. there x (member_back x (dated_as k (kept_as j p p.entry)) (dated_in j (epoch_after k p.entry) ps) m)) in
        λ i. here i ∷ rest i

    judged_some : (j : ℕ) (some : List (List Placed)) → ((x : Dated) → Member x (dated_from j some) → Member x (dated_from 0 streams)) → judged_from known some (stages_from out order j some) ≡ stages_from (out ++ left_out streams) order j some
    judged_some j [] there = refl
    judged_some j (ps ∷ some) there =
        let here = judged_stream j 0 ps (λ x m. there x (member_front x (dated_in j 0 ps) (dated_from (suc j) some) m)) in
        let rest = judged_some (suc j) some (λ x m. there x (member_back x (dated_in j 0 ps) (dated_from (suc j) some) m)) in
        λ i. here i ∷ rest i

    -- all records stand then as they do once what these epochs leave out is out
    pub judged_all : judged_from known streams (stages_from out order 0 streams) ≡ stages_from (out ++ left_out streams) order 0 streams
    judged_all = judged_some 0 streams (λ x m. m)

-- ---- stream by stream

pub judged_next : (known : List Mark) (streams : List (List Placed)) (all : List (List Stage)) (j : ℕ) (ps : List Placed) (ss x : List Stage) (list whole : List (List Stage)) → slice_get streams j ≡ Some ps → slice_get all j ≡ Some ss → x ≡ judged_in known 0 ps ss →
    list ++ judged_from known (drop j streams) (drop j all) ≡ whole → (list ++ x ∷ []) ++ judged_from known (drop (j + 1) streams) (drop (j + 1) all) ≡ whole
judged_next known streams all j ps ss x list whole e g is so_far =
    append_assoc list (x ∷ []) (judged_from known (drop (j + 1) streams) (drop (j + 1) all))
    ∙ ap (λ (v : List Stage). list ++ v ∷ judged_from known (drop (j + 1) streams) (drop (j + 1) all)) is
    ∙ sym (ap (λ (l : List (List Stage)). list ++ l) (ap (λ (xs : List (List Placed)). judged_from known xs (drop j all)) (drop_got streams j ps e) ∙ ap (judged_from known (ps ∷ drop (j + 1) streams)) (drop_got all j ss g)))
    ∙ so_far

pub judged_end : (known : List Mark) (streams : List (List Placed)) (all : List (List Stage)) (j : ℕ) (list whole : List (List Stage)) → length streams ≤ j → list ++ judged_from known (drop j streams) (drop j all) ≡ whole → list ≡ whole
judged_end known streams all j list whole le e = sym (ap (λ (xs : List (List Placed)). list ++ judged_from known xs (drop j all)) (drop_all j streams le) ∙ append-nil list) ∙ e
