-- What a feed leaves applied is the least set that is closed.
use Rattle.std.proofs.Common.{ℕ, zero, suc, ◌+◌, ◌≤◌, ◌<◌, true, false, ◌≡◌, ◌⊎◌, inl, inr, List, [], ◌∷◌, map, Some, None, refl, sym, ap, subst, ◌∙◌, arith, slice_index}
use Rattle.std.specs.Prelude.{slice_get}
use Rattle.std.specs.List.{filter}
use Rattle.std.proofs.lemmas.Bool.{cases_Bool, cases_lt}
use Rattle.tau_base.specs.Vectors.{AtMost}
use Rattle.tau_base.proofs.Vectors.{at_most_trans}
use Rattle.tau_model.specs.History.{Member}
use Rattle.tau_model.proofs.Orders.{member_front, member_back}
use Rattle.tau_model.proofs.Logged.{member_filtered}
use Rattle.tau_record.specs.declared.entry.Placed.{Placed}
use Rattle.tau_scan.specs.Taken.{Kept, kept_in, kept_from}
use Rattle.tau_epoch_laws.proofs.Records.{Stand}
use Rattle.tau_follow_laws.specs.Following.{Followed, is_among, is_open, read_to, reach, rlv, IsReady, NoneReady, applied, Applies, with_read, IsApplied, before, next}
use Rattle.tau_epoch_laws.specs.Marked.{last_past}
use Rattle.tau_follow_laws.specs.Laws.{AppliedIsLeast}
use Rattle.tau_follow_laws.proofs.Kept.{kept_dated}
use Rattle.tau_follow_laws.proofs.Rises.{first_is, dated_at}
use Rattle.tau_follow_laws.proofs.Among.{among_member, member_among, open_parts, open_from}
use Rattle.tau_follow_laws.proofs.Reached.{reach_low, reach_at, reach_past, stands_at, stream_at, rlv_ahead, kept_one}
use Rattle.tau_follow_laws.proofs.Order.{IsKept, apply_keeps, applies_is, applies_keep, pushed}
use Rattle.tau_follow_laws.proofs.Judged.{reach_alone}
use Rattle.tau_follow_laws.proofs.Follows.{follower_following, read_kept}

-- ---- the vector up to which the streams are read

abbrev read_all : List (List Placed) → List ℕ
read_all streams = map read_to streams

read_at : (i : ℕ) (streams : List (List Placed)) (ps : List Placed) → slice_get streams i ≡ Some ps → slice_index (read_all streams) i ≡ read_to ps
read_at i [] ps e = absurd cc
read_at zero (qs ∷ streams) ps e = let same : qs ≡ ps = cc in ap read_to same
read_at (suc i) (qs ∷ streams) ps e = read_at i streams ps e

read_past : (i : ℕ) (streams : List (List Placed)) → slice_get streams i ≡ None → slice_index (read_all streams) i ≡ 0
read_past i [] e = refl
read_past zero (qs ∷ streams) e = absurd cc
read_past (suc i) (qs ∷ streams) e = read_past i streams e

kept_in_from : (j i : ℕ) (streams : List (List Placed)) (ps : List Placed) (r : Kept) → slice_get streams i ≡ Some ps → Member r (kept_in (j + i) ps) → Member r (kept_from j streams)
kept_in_from j i [] ps r e m = absurd cc
kept_in_from j zero (qs ∷ streams) ps r e m =
    let same : qs ≡ ps = cc in
    let k : j + 0 ≡ j = omega arith in
    member_front r (kept_in j qs) (kept_from (suc j) streams) (subst (λ (l : List Placed). Member r (kept_in j l)) (sym same) (subst (λ (l : ℕ). Member r (kept_in l ps)) k m))
kept_in_from j (suc i) (qs ∷ streams) ps r e m =
    let k : j + suc i ≡ suc j + i = omega arith in
    member_back r (kept_in j qs) (kept_from (suc j) streams) (kept_in_from (suc j) i streams ps r e (subst (λ (l : ℕ). Member r (kept_in l ps)) k m))

module _ (s : Followed) (k : IsKept s) where
  -- how far a stream is followed: to where it is read, or to an open record
  pub rlv_is : (i : ℕ) → (slice_index (rlv s) i ≡ slice_index (read_all s.streams) i)
      ⊎ ((r : Kept) × Member r (kept_from 0 s.streams) × (is_open s.out s.order r ≡ true) × (r.place.stream ≡ i) × (slice_index (rlv s) i ≡ r.place.start))
  rlv_is i = elim (stream_at i s.streams) [
    | inr none ↦ inl (reach_past s.out s.order 0 i s.streams none ∙ sym (read_past i s.streams none))
    | inl w ↦
        let ps : List Placed = w.0 in
        let is = reach_at s.out s.order 0 i s.streams ps w.1 in
        let zero_more : 0 + i ≡ i = omega arith in
        elim (first_is (read_to ps) (filter (is_open s.out s.order) (kept_in (0 + i) ps))) [
          | inl e ↦ inl (is ∙ e ∙ sym (read_at i s.streams ps w.1))
          | inr f ↦
              let m = member_filtered (is_open s.out s.order) f.0 (kept_in (0 + i) ps) f.1 in
              let d = kept_dated (0 + i) 0 ps f.0 m.0 in
              let at = dated_at (0 + i) 0 0 (last_past 0 ps) ps (d.0, f.0) (stands_at i s.streams ps k.standing w.1) d.1 in
              inr (f.0, kept_in_from 0 i s.streams ps f.0 w.1 m.0, m.1, at.0 ∙ zero_more, is ∙ f.2)
        ]
  ]

  reach_read : (out order : List Kept) (j : ℕ) (ps : List Placed) → Stand 0 (last_past 0 ps) ps → reach out order j ps ≤ read_to ps
  reach_read out order j [] h = omega arith
  reach_read out order j (p ∷ []) h = reach_alone out order j (p ∷ []) h (omega arith)
  reach_read out order j (p ∷ q ∷ ps) h = reach_low out order j (p ∷ q ∷ ps) h

  pub rlv_read : AtMost (rlv s) (read_all s.streams)
  rlv_read i = elim (stream_at i s.streams) [
    | inr none ↦ let is = reach_past s.out s.order 0 i s.streams none in omega (arith, is)
    | inl w ↦
        let is = reach_at s.out s.order 0 i s.streams w.0 w.1 in
        let low = reach_read s.out s.order (0 + i) w.0 (stands_at i s.streams w.0 k.standing w.1) in
        let at = read_at i s.streams w.0 w.1 in
        omega (arith, is, low, at)
  ]

-- ---- what is applied is in the set

ready_in : (s u : Followed) (r : Kept) → u.streams ≡ s.streams → u.out ≡ s.out → IsKept u → ((x : Kept) → Member x u.order → IsApplied s x) → IsReady u r → IsApplied s r
ready_in s u r es eo k all is = next
    (subst (λ (l : List (List Placed)). Member r (kept_from 0 l)) es is.read)
    (subst (λ (l : List Kept). is_among l r ≡ false) eo (open_parts u.out u.order r is.open_still).0)
    (subst (λ (l : List (List Placed)). AtMost r.place.dep (read_all l)) es (at_most_trans r.place.dep (rlv u) (read_all u.streams) is.covered (rlv_read u k)))
    (λ q m free lt. held q (subst (λ (l : List (List Placed)). Member q (kept_from 0 l)) (sym es) m) (subst (λ (l : List Kept). is_among l q ≡ false) (sym eo) free) lt)
  where
    held : (q : Kept) → Member q (kept_from 0 u.streams) → is_among u.out q ≡ false → q.place.start < slice_index r.place.dep q.place.stream → IsApplied s q
    held q m free lt = elim (cases_Bool (is_among u.order q)) [
      | inl t ↦
          let w = among_member u.order q.place.stream q.place.start t in
          subst (IsApplied s) (kept_one u.streams w.0 q k.standing (k.read w.0 w.1) m w.2 w.3) (all w.0 w.1)
      | inr f ↦ absurd (let low = is.covered q.place.stream in let high = rlv_ahead u q k.standing m (open_from u.out u.order q free f) in omega (arith, low, high, lt))
    ]

applies_in : (s u t : Followed) (news : List Kept) → u.streams ≡ s.streams → u.out ≡ s.out → IsKept u → ((x : Kept) → Member x u.order → IsApplied s x) → Applies u news t → (x : Kept) → Member x t.order → IsApplied s x
applies_in s u t [] es eo k all h x m = all x (subst (λ (z : Followed). Member x z.order) h m)
applies_in s u t (r ∷ news) es eo k all h x m =
    applies_in s (applied u r) t news es eo (apply_keeps u r k h.0) (λ y n. elim (pushed u.order r y n) [ inl a ↦ all y a | inr e ↦ subst (IsApplied s) e (ready_in s u r es eo k all h.0) ]) h.1 x m

-- ---- what is in the set is applied

set_in : (s t : Followed) → t.streams ≡ s.streams → t.out ≡ s.out → IsKept t → NoneReady t → ((x : Kept) → Member x s.order → Member x t.order) → (r : Kept) → IsApplied s r → Member r t.order
set_in s t es eo k none old r (before m) = old r m
set_in s t es eo k none old r (next m free low each) = by_order r m free low (λ q mq fq lt. set_in s t es eo k none old q (each q mq fq lt))
  where
    by_order : (r : Kept) → Member r (kept_from 0 s.streams) → is_among s.out r ≡ false → AtMost r.place.dep (read_all s.streams) →
        ((q : Kept) → Member q (kept_from 0 s.streams) → is_among s.out q ≡ false → q.place.start < slice_index r.place.dep q.place.stream → Member q t.order) → Member r t.order
    by_order r m free low each =
        let here : Member r (kept_from 0 t.streams) = subst (λ (l : List (List Placed)). Member r (kept_from 0 l)) (sym es) m in
        let open_out : is_among t.out r ≡ false = subst (λ (l : List Kept). is_among l r ≡ false) (sym eo) free in
        elim (cases_Bool (is_among t.order r)) [
          | inl y ↦
              let w = among_member t.order r.place.stream r.place.start y in
              subst (λ (z : Kept). Member z t.order) (kept_one t.streams w.0 r k.standing (k.read w.0 w.1) here w.2 w.3) w.1
          | inr n ↦ absurd (none r (record {
            read = here;
            open_still = open_from t.out t.order r open_out n;
            covered = λ i. elim (rlv_is t k i) [
              | inl e ↦ let a = subst (λ (l : List (List Placed)). AtMost r.place.dep (read_all l)) (sym es) low i in omega (arith, a, e)
              | inr w ↦ elim (cases_lt w.0.place.start (slice_index r.place.dep i)) [
                | inr le ↦ let e = w.4 in omega (arith, le, e)
                | inl lt ↦
                    let parts = open_parts t.out t.order w.0 w.2 in
                    let there = each w.0 (subst (λ (l : List (List Placed)). Member w.0 (kept_from 0 l)) es w.1) (subst (λ (l : List Kept). is_among l w.0 ≡ false) eo parts.0)
                    (subst (λ (j : ℕ). w.0.place.start < slice_index r.place.dep j) (sym w.3) lt) in
                    absurd (let f : true ≡ false = sym (member_among t.order w.0.place.stream w.0.place.start w.0 there refl refl) ∙ parts.1 in cc f)
              ]
            ];
          }))
        ]

pub applied_is_least : AppliedIsLeast
applied_is_least f n fed s t p a h =
    let following = follower_following f n fed s a in
    let r = read_kept f fed p s t following h in
    let u : Followed = with_read s h.streams in
    let is = applies_is u t h.news h.applies in
    let kept : IsKept t = applies_keep u t h.news r.1 h.applies in
    let old : (x : Kept) → Member x s.order → Member x t.order = λ x m. subst (λ (l : List Kept). Member x l) (sym is.2) (member_front x s.order h.news m) in
    ((h.news, is.2), λ x. (applies_in u u t h.news refl refl r.1 (λ y m. before m) h.applies x, set_in u t is.0 is.1 kept h.through old x))
