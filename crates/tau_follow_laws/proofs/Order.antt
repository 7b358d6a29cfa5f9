-- What a follower has applied stands in an orderly order.
use Rattle.std.proofs.Common.{ℕ, ◌≤◌, true, false, ◌≡◌, ◌⊎◌, inl, inr, List, [], ◌∷◌, ◌++◌, map, replicate, refl, sym, ap, subst, ◌∙◌, arith, slice_index, append_assoc, zero, suc}
use Rattle.std.proofs.lemmas.List.{append-nil}
use Rattle.tau_base.specs.Vectors.{AtMost}
use Rattle.tau_base.proofs.Vectors.{at_most_trans}
use Rattle.tau_model.specs.History.{Member}
use Rattle.tau_model.specs.Logged.{Place, Orderly, StartBehind}
use Rattle.tau_record.specs.declared.entry.Placed.{Placed}
use Rattle.tau_scan.specs.Taken.{Kept, kept_from}
use Rattle.tau_epoch_laws.specs.Continues.{Grown}
use Rattle.tau_epoch_laws.proofs.Parts.{in_either}
use Rattle.tau_follow_laws.specs.Following.{Followed, is_among, is_open, left_out, rlv, IsReady, applied, Applies, with_read, begun}
use Rattle.tau_follow_laws.specs.Laws.{AreApart, IsInOrder}
use Rattle.tau_follow_laws.proofs.Kept.{kept_grown}
use Rattle.tau_follow_laws.proofs.Rises.{AreStanding}
use Rattle.tau_follow_laws.proofs.Among.{not_both, open_parts, open_less, apart_push}
use Rattle.tau_follow_laws.proofs.Reached.{ends, rlv_low, rlv_ahead, ends_grow, kept_split}

abbrev pub place_of : Kept → Place
place_of r = r.place

start_push : (v : List ℕ) (xs : List Kept) (r : Kept) → StartBehind v (map place_of xs) → slice_index v r.place.stream ≤ r.place.start → StartBehind v (map place_of (xs ++ r ∷ []))
start_push v [] r h e = (e, tt)
start_push v (x ∷ xs) r h e = (h.0, start_push v xs r h.1 e)

pub orderly_push : (xs : List Kept) (r : Kept) → Orderly (map place_of xs) → ((x : Kept) → Member x xs → slice_index x.place.dep r.place.stream ≤ r.place.start) →
    slice_index r.place.dep r.place.stream ≤ r.place.start → Orderly (map place_of (xs ++ r ∷ []))
orderly_push [] r h all own = ((own, tt), tt)
orderly_push (x ∷ xs) r h all own = ((h.0.0, start_push x.place.dep xs r h.0.1 (all x (inl refl))), orderly_push xs r h.1 (λ y m. all y (inr m)) own)

-- Applied records were read, wait for nothing that is open, and ask for no more than was read.
pub record IsKept (s : Followed) : Type 0 where
  pub standing : AreStanding s.streams
  pub orderly : Orderly (map place_of s.order)
  pub within : (r : Kept) → Member r s.order → AtMost r.place.dep (ends s.streams)
  pub ahead : (r q : Kept) → Member r s.order → Member q (kept_from 0 s.streams) → is_open s.out s.order q ≡ true → slice_index r.place.dep q.place.stream ≤ q.place.start
  pub read : (r : Kept) → Member r s.order → Member r (kept_from 0 s.streams)
  pub in_time : (r : Kept) → Member r s.order → is_among s.out r ≡ false
  pub once : AreApart s.order

pub pushed : (xs : List Kept) (r : Kept) (x : Kept) → Member x (xs ++ r ∷ []) → Member x xs ⊎ (r ≡ x)
pushed xs r x m = elim (in_either x xs (r ∷ []) m) [ inl a ↦ inl a | inr (inl e) ↦ inr e | inr (inr n) ↦ absurd n ]

pub apply_keeps : (s : Followed) (r : Kept) → IsKept s → IsReady s r → IsKept (applied s r)
apply_keeps s r k is =
    let fresh = open_parts s.out s.order r is.open_still in
    let behind : (q : Kept) → Member q (kept_from 0 s.streams) → is_open s.out s.order q ≡ true → slice_index r.place.dep q.place.stream ≤ q.place.start = λ q m e.
    (let low = is.covered q.place.stream in let high = rlv_ahead s q k.standing m e in omega (arith, low, high)) in
    record {
      standing = k.standing;
      orderly = orderly_push s.order r k.orderly (λ x m. k.ahead x r m is.read is.open_still) (behind r is.read is.open_still);
      within = λ x m. elim (pushed s.order r x m) [
        | inl a ↦ k.within x a
        | inr e ↦ subst (λ (z : Kept). AtMost z.place.dep (ends s.streams)) e (at_most_trans r.place.dep (rlv s) (ends s.streams) is.covered (rlv_low s k.standing))
      ];
      ahead = λ x q m n e.
          (let old : is_open s.out s.order q ≡ true = open_before s.out s.order r q e in
          elim (pushed s.order r x m) [
            | inl a ↦ k.ahead x q a n old
            | inr i ↦ subst (λ (z : Kept). slice_index z.place.dep q.place.stream ≤ q.place.start) i (behind q n old)
          ]);
      read = λ x m. elim (pushed s.order r x m) [ inl a ↦ k.read x a | inr e ↦ subst (λ (z : Kept). Member z (kept_from 0 s.streams)) e is.read ];
      in_time = λ x m. elim (pushed s.order r x m) [ inl a ↦ k.in_time x a | inr e ↦ subst (λ (z : Kept). is_among s.out z ≡ false) e fresh.0 ];
      once = apart_push s.order r k.once fresh.1;
    }
  where
    open_before : (out order : List Kept) (r q : Kept) → is_open out (order ++ r ∷ []) q ≡ true → is_open out order q ≡ true
    open_before out order r q e = open_less out [] order (r ∷ []) q (subst (λ (l : List Kept). is_open l (order ++ r ∷ []) q ≡ true) (sym (append-nil out)) e)

-- streams that grow, where no applied record is left out
pub read_keeps : (s : Followed) (more streams : List (List Placed)) → IsKept s → Grown s.streams more streams → AreStanding streams → ((r : Kept) → Member r s.order → is_among (left_out streams) r ≡ false) → IsKept (with_read s streams)
read_keeps s more streams k g h in_time = record {
  standing = h;
  orderly = k.orderly;
  within = λ r m. at_most_trans r.place.dep (ends s.streams) (ends streams) (k.within r m) (ends_grow s.streams more streams g h);
  ahead = λ r q m n e. elim (kept_split s.streams more streams q g h n) [
    | inl a ↦ k.ahead r q m a (less q e)
    | inr b ↦ let low = k.within r m q.place.stream in omega (arith, low, b)
  ];
  read = λ r m. kept_grown s.streams more streams g r (k.read r m);
  in_time = λ r m. not_both s.out (left_out streams) r.place.stream r.place.start (k.in_time r m) (in_time r m);
  once = k.once;
}
  where
    less : (q : Kept) → is_open (s.out ++ left_out streams) s.order q ≡ true → is_open s.out s.order q ≡ true
    less q e = open_less s.out (left_out streams) s.order [] q (subst (λ (l : List Kept). is_open (s.out ++ left_out streams) l q ≡ true) (sym (append-nil s.order)) e)

-- ---- one record after another

pub applies_is : (s t : Followed) (news : List Kept) → Applies s news t → (t.streams ≡ s.streams) × (t.out ≡ s.out) × (t.order ≡ s.order ++ news)
applies_is s t [] h = (ap (λ (z : Followed). z.streams) h, ap (λ (z : Followed). z.out) h, ap (λ (z : Followed). z.order) h ∙ sym (append-nil s.order))
applies_is s t (r ∷ news) h = let w = applies_is (applied s r) t news h.1 in (w.0, w.1, w.2 ∙ append_assoc s.order (r ∷ []) news)

pub applies_keep : (s t : Followed) (news : List Kept) → IsKept s → Applies s news t → IsKept t
applies_keep s t [] k h = subst IsKept (sym h) k
applies_keep s t (r ∷ news) k h = applies_keep (applied s r) t news (apply_keeps s r k h.0) h.1

none_standing : (n : ℕ) → AreStanding (replicate n [])
none_standing zero = tt
none_standing (suc n) = (refl, none_standing n)

pub begun_kept : (n : ℕ) → IsKept (begun n)
begun_kept n = record {
  standing = none_standing n;
  orderly = tt;
  within = λ r m. absurd m;
  ahead = λ r q m. absurd m;
  read = λ r m. absurd m;
  in_time = λ r m. absurd m;
  once = tt;
}

pub in_order : (s : Followed) → IsKept s → IsInOrder s
in_order s k = record { orderly = k.orderly; read = k.read; once = k.once }
