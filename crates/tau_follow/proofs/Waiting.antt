-- A feed that completes no record.
use Rattle.std.proofs.Common.{ℕ, zero, suc, Bool, true, false, not, cond, ◌&&◌, ◌≡◌, inl, inr, List, [], ◌∷◌, ◌++◌, replicate, Option, None, Result, Ok, refl, sym, ap, subst, ◌∙◌}
use Rattle.std.specs.List.{filter}
use Rattle.std.proofs.lemmas.Bool.{cases_Bool}
use Rattle.tau_base.specs.Vectors.{AtMost}
use Rattle.tau_base.specs.declared.format.Format.{Format}
use Rattle.tau_model.specs.History.{Member}
use Rattle.tau_record.specs.declared.entry.Placed.{Placed}
use Rattle.tau_scan.specs.declared.fault.LogFault.{LogFault}
use Rattle.tau_scan.specs.Reading.{catalogue_in}
use Rattle.tau_scan.specs.Epochs.{marks_from}
use Rattle.tau_scan.specs.Taken.{Kept, kept_as, kept_in, kept_from}
use Rattle.tau_epoch_laws.proofs.Parts.{filter_none}
use Rattle.tau_follow_laws.specs.Fed.{fronts_of}
use Rattle.tau_follow_laws.specs.Following.{Followed, is_among, is_open, is_left_out, chosen_from, left_out, read_to, first_start, reach_from, NoneReady, with_read, begun}
use Rattle.tau_follow_laws.specs.Feeding.{late_at, late_in, Piece, with_piece, HasFed, Feeds, IsFollower}
use Rattle.tau_follow_laws.proofs.Among.{among_member, member_among, not_front, not_back, not_both}
use Rattle.tau_follow_laws.proofs.Order.{applies_is}
use Rattle.tau_follow_laws.proofs.Follows.{follower_following}
use Rattle.tau_follow.specs.declared.stage.Stage.TheVariants as stages
use Rattle.tau_follow.specs.Applying.{stage_as, stages_in, stages_from}
use Rattle.tau_follow.proofs.Checked.{all_good}
use Rattle.tau_follow.proofs.Sealing.{follower_epochs}

-- what is left out among the records read is out, and none of them is ready
pub record IsThrough (s : Followed) : Type 0 where
  pub out : (r : Kept) → is_among s.out r ≡ false → is_among (left_out s.streams) r ≡ false
  none : NoneReady s

none_chosen : (test : ℕ → List ℕ → Bool) (j n : ℕ) → chosen_from test j (replicate n []) ≡ []
none_chosen test j zero = refl
none_chosen test j (suc n) = none_chosen test (suc j) n

none_kept : (j n : ℕ) → kept_from j (replicate n []) ≡ []
none_kept j zero = refl
none_kept j (suc n) = none_kept (suc j) n

begun_through : (n : ℕ) → IsThrough (begun n)
begun_through n = record {
  out = λ r e. ap (λ (l : List Kept). is_among l r) (none_chosen (is_left_out (marks_from (replicate n []))) 0 n);
  none = λ r is. absurd (subst (λ (l : List Kept). Member r l) (none_kept 0 n) is.read);
}

fed_through : (f : Format) (fed : List (List ℕ)) (s t : Followed) → HasFed f fed s t → IsThrough t
fed_through f fed s t h =
    let w = applies_is (with_read s h.streams) t h.news h.applies in
    record {
      out = λ r e. ap (λ (l : List (List Placed)). is_among (left_out l) r) w.0 ∙ not_back s.out (left_out h.streams) r.place.stream r.place.start (ap (λ (l : List Kept). is_among l r) (sym w.1) ∙ e);
      none = h.through;
    }

feeds_through : (f : Format) (fed now : List (List ℕ)) (s t : Followed) (pieces : List Piece) → IsThrough s → Feeds f fed s pieces now t → IsThrough t
feeds_through f fed now s t [] k h = subst IsThrough (sym h.1) k
feeds_through f fed now s t (p ∷ pieces) k h = feeds_through f (with_piece fed p) now h.0 t pieces (fed_through f (with_piece fed p) s h.0 h.1) h.2

pub follower_through : (f : Format) (n : ℕ) (fed : List (List ℕ)) (s : Followed) → IsFollower f n fed s → IsThrough s
follower_through f n fed s h = feeds_through f (replicate n []) fed (begun n) s h.0 (begun_through n) h.1

-- where no applied record is left out, none is late
pub late_none : (streams : List (List Placed)) (order : List Kept) → ((r : Kept) → Member r order → is_among (left_out streams) r ≡ false) → late_in streams order ≡ None
late_none streams order free = ap late_at (filter_none (is_among order) (left_out streams) in_time)
  where
    in_time : (x : Kept) → Member x (left_out streams) → is_among order x ≡ false
    in_time x m = elim (cases_Bool (is_among order x)) [
      | inr f ↦ f
      | inl t ↦
          let w = among_member order x.place.stream x.place.start t in
          let there : is_among (left_out streams) w.0 ≡ true = member_among (left_out streams) w.0.place.stream w.0.place.start x m (sym w.2) (sym w.3) in
          absurd (let z = sym there ∙ free w.0 w.1 in cc z)
    ]

-- ---- records that are left out once more

filter_same : (p q : Kept → Bool) (xs : List Kept) → ((x : Kept) → p x ≡ q x) → filter p xs ≡ filter q xs
filter_same p q [] h = refl
filter_same p q (x ∷ xs) h =
    let rest = filter_same p q xs h in
    elim (cases_Bool (q x)) [
      | inl t ↦ let s : p x ≡ true = h x ∙ t in rw (s, t) (ap (λ (l : List Kept). x ∷ l) rest)
      | inr f ↦ let s : p x ≡ false = h x ∙ f in rw (s, f) rest
    ]

module _ (out more order : List Kept) (same : (r : Kept) → is_among more r ≡ is_among out r) where
  open_same : (r : Kept) → is_open more order r ≡ is_open out order r
  open_same r = ap (λ (b : Bool). not b && not (is_among order r)) (same r)

  reach_same : (j : ℕ) (streams : List (List Placed)) → reach_from more order j streams ≡ reach_from out order j streams
  reach_same j [] = refl
  reach_same j (ps ∷ streams) =
      let here = ap (first_start (read_to ps)) (filter_same (is_open more order) (is_open out order) (kept_in j ps) open_same) in
      let rest = reach_same (suc j) streams in
      λ i. here i ∷ rest i

  stage_same : (rs : List Kept) → stage_as more order rs ≡ stage_as out order rs
  stage_same [] = refl
  stage_same (r ∷ rs) = ap (λ (b : Bool). cond b stages.Out (cond (is_among order r) stages.Applied stages.Open)) (same r)

  stages_same_in : (j : ℕ) (ps : List Placed) → stages_in more order j ps ≡ stages_in out order j ps
  stages_same_in j [] = refl
  stages_same_in j (p ∷ ps) = let here = stage_same (kept_as j p p.entry) in let rest = stages_same_in j ps in λ i. here i ∷ rest i

  pub stages_same : (j : ℕ) (streams : List (List Placed)) → stages_from more order j streams ≡ stages_from out order j streams
  stages_same j [] = refl
  stages_same j (ps ∷ streams) = let here = stages_same_in j ps in let rest = stages_same (suc j) streams in λ i. here i ∷ rest i

-- ---- the same streams are read once more

module _ (f : Format) (n : ℕ) (fed : List (List ℕ)) (s : Followed) (p : Piece) (h : IsFollower f n fed s) where
  through : IsThrough s
  through = follower_through f n fed s h

  again : Followed
  again = with_read s s.streams

  pub same_out : (r : Kept) → is_among (s.out ++ left_out s.streams) r ≡ is_among s.out r
  same_out r = elim (cases_Bool (is_among (s.out ++ left_out s.streams) r)) [
    | inr neither ↦ neither ∙ sym (not_front s.out (left_out s.streams) r.place.stream r.place.start neither)
    | inl either ↦ (elim (cases_Bool (is_among s.out r)) [
      | inl t ↦ either ∙ sym t
      | inr free ↦ absurd (let z = sym either ∙ not_both s.out (left_out s.streams) r.place.stream r.place.start free (through.out r free) in cc z)
    ])
  ]

  none_late : late_in s.streams s.order ≡ None
  none_late = late_none s.streams s.order (λ r m. (let k = follower_following f n fed s h in let kept = k.kept in through.out r (kept.in_time r m)))

  none_more : NoneReady (with_read s s.streams)
  none_more r is = through.none r (record {
    read = is.read;
    open_still = sym (open_same s.out (s.out ++ left_out s.streams) s.order same_out r) ∙ is.open_still;
    covered = subst (AtMost r.place.dep) (reach_same s.out (s.out ++ left_out s.streams) s.order same_out 0 s.streams) is.covered;
  })

  pub waits : (c : Option (List ℕ)) → fronts_of f (with_piece fed p) ≡ Ok s.streams → catalogue_in s.streams ≡ Ok c → HasFed f (with_piece fed p) s (with_read s s.streams)
  waits c fronts one = record {
    streams = s.streams;
    read = all_good f (with_piece fed p) s.order s.streams fronts c one (follower_epochs f n fed s h) none_late;
    news = [];
    applies = refl;
    through = none_more;
  }

-- the records that are read are those that it follows
pub at_streams : (f : Format) (n : ℕ) (fed : List (List ℕ)) (s : Followed) (streams : List (List Placed)) → IsFollower f n fed s → fronts_of f fed ≡ Ok streams → streams ≡ s.streams
at_streams f n fed s streams h e = let k = follower_following f n fed s h in same streams s.streams (sym e ∙ k.fronts)
  where
    same : (x y : List (List Placed)) → ◌≡◌ {A = Result (List (List Placed)) LogFault} (Ok x) (Ok y) → x ≡ y
    same x y e = cc
