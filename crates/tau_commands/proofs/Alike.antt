-- Whatever the order in which it applies what is ready, a follower that is fed the same pieces tells the same.
use Rattle.std.proofs.Common.{ℕ, ◌≡◌, ◌≤◌, ◌↔◌, ◌⊎◌, Bool, true, false, inl, inr, List, [], ◌∷◌, ◌++◌, length, map, Option, Result, Ok, Err, if◌then◌else◌, refl, sym, ◌∙◌, ap, subst, arith, length-append}
use Rattle.std.specs.List.{filter}
use Rattle.tau_base.specs.declared.format.Format.{Format}
use Rattle.tau_base.specs.Vectors.{AtMost}
use Rattle.tau_model.specs.History.{Member}
use Rattle.tau_record.specs.declared.entry.Placed.{Placed}
use Rattle.tau_scan.specs.declared.fault.LogFault.{LogFault}
use Rattle.tau_scan.specs.Reading.{◌>>=◌, unless, or_else, catalogue_in, epoch_fault}
use Rattle.tau_scan.specs.Taken.{Kept, kept_from}
use Rattle.tau_follow_laws.specs.Fed.{fronts_of}
use Rattle.tau_follow_laws.specs.Following.{Followed, is_among, starts_among, left_out, with_read, read_to, IsApplied, before, next}
use Rattle.tau_follow_laws.specs.Feeding.{late_at, late_in, read_now, HasFed, Piece, with_piece, IsFollower}
use Rattle.tau_follow_laws.specs.Laws.{AreApart}
use Rattle.tau_follow_laws.proofs.Among.{among_member, member_among}
use Rattle.tau_follow_laws.proofs.Order.{applies_is}
use Rattle.tau_follow_laws.proofs.Follows.{applied_in_order}
use Rattle.tau_follow_laws.proofs.Closing.{applied_is_least}

-- ---- lists with the same records

abbrev SameMembers : List Kept → List Kept → Type 0
SameMembers xs ys = (r : Kept) → Member r xs ↔ Member r ys

both_false : (a b : Bool) → (a ≡ true → b ≡ true) → (b ≡ true → a ≡ true) → a ≡ b
both_false true b to from = sym (to refl)
both_false false true to from = from refl
both_false false false to from = refl

among_within : (xs ys : List Kept) (j at : ℕ) → ((r : Kept) → Member r xs → Member r ys) → starts_among xs j at ≡ true → starts_among ys j at ≡ true
among_within xs ys j at to e = let w = among_member xs j at e in member_among ys j at w.0 (to w.0 w.1) w.2 w.3

among_same : (xs ys : List Kept) (r : Kept) → SameMembers xs ys → is_among xs r ≡ is_among ys r
among_same xs ys r same =
    both_false (is_among xs r) (is_among ys r) (among_within xs ys r.place.stream r.place.start (λ q. (same q).0)) (among_within ys xs r.place.stream r.place.start (λ q. (same q).1))

filter_same : (p q : Kept → Bool) (rs : List Kept) → ((r : Kept) → p r ≡ q r) → filter p rs ≡ filter q rs
filter_same p q [] e = refl
filter_same p q (r ∷ rs) e = ap (λ (b : Bool). if b then r ∷ filter p rs else filter p rs) (e r) ∙ ap (λ (l : List Kept). if q r then r ∷ l else l) (filter_same p q rs e)

late_same : (streams : List (List Placed)) (xs ys : List Kept) → SameMembers xs ys → late_in streams xs ≡ late_in streams ys
late_same streams xs ys same = ap late_at (filter_same (is_among xs) (is_among ys) (left_out streams) (λ r. among_same xs ys r same))

bind_same : {A B : Type 0} (r : Result A LogFault) (g h : A → Result B LogFault) → ((x : A) → g x ≡ h x) → (r >>= g) ≡ (r >>= h)
bind_same (Ok x) g h e = e x
bind_same (Err fault) g h e = refl

pub read_same : (f : Format) (fed : List (List ℕ)) (xs ys : List Kept) → SameMembers xs ys → read_now f fed xs ≡ read_now f fed ys
read_same f fed xs ys same =
    let checked : List Kept → List (List Placed) → Result (List (List Placed)) LogFault = λ order streams. unless (or_else (epoch_fault streams) (late_in streams order)) streams in
    bind_same (fronts_of f fed) (λ streams. catalogue_in streams >>= λ c. checked xs streams) (λ streams. catalogue_in streams >>= λ c. checked ys streams)
    (λ streams. bind_same (catalogue_in streams) (λ c. checked xs streams) (λ c. checked ys streams)
    (λ c. ap (λ (o : Option LogFault). unless (or_else (epoch_fault streams) o) streams) (late_same streams xs ys same)))

split_at : (x : Kept) (xs : List Kept) → Member x xs → (front : List Kept) × (back : List Kept) × (xs ≡ front ++ x ∷ back)
split_at x [] m = absurd m
split_at x (y ∷ ys) (inl e) = ([], ys, ap (λ (r : Kept). r ∷ ys) e)
split_at x (y ∷ ys) (inr m) = let w = split_at x ys m in (y ∷ w.0, w.1, ap (λ (l : List Kept). y ∷ l) w.2)

in_either : (r : Kept) (xs ys : List Kept) → Member r (xs ++ ys) → Member r xs ⊎ Member r ys
in_either r [] ys m = inr m
in_either r (x ∷ xs) ys (inl e) = inl (inl e)
in_either r (x ∷ xs) ys (inr m) = elim (in_either r xs ys m) [ inl a ↦ inl (inr a) | inr b ↦ inr b ]

in_front : (r : Kept) (xs ys : List Kept) → Member r xs → Member r (xs ++ ys)
in_front r [] ys m = absurd m
in_front r (x ∷ xs) ys (inl e) = inl e
in_front r (x ∷ xs) ys (inr m) = inr (in_front r xs ys m)

in_back : (r : Kept) (xs ys : List Kept) → Member r ys → Member r (xs ++ ys)
in_back r [] ys m = m
in_back r (x ∷ xs) ys m = inr (in_back r xs ys m)

-- lists of records that are apart are no longer than one that has them all
no_longer : (xs ys : List Kept) → AreApart xs → ((r : Kept) → Member r xs → Member r ys) → length xs ≤ length ys
no_longer [] ys apart to = omega arith
no_longer (x ∷ xs) ys apart to =
    let w = split_at x ys (to x (inl refl)) in
    let without : (r : Kept) → Member r xs → Member r (w.0 ++ w.1) =
    λ r m. elim (in_either r w.0 (x ∷ w.1) (subst (λ (l : List Kept). Member r l) w.2 (to r (inr m)))) [
      | inl a ↦ in_front r w.0 w.1 a
      | inr (inl e) ↦ absurd (let f : true ≡ false = sym (member_among xs x.place.stream x.place.start x (subst (λ (q : Kept). Member q xs) (sym e) m) refl refl) ∙ apart.0 in cc f)
      | inr (inr b) ↦ in_back r w.0 w.1 b
    ] in
    let rest = no_longer xs (w.0 ++ w.1) apart.1 without in
    omega (arith, rest, ap length w.2, length-append w.0 (x ∷ w.1), length-append w.0 w.1)

-- ---- followers with the same records

-- They have read the same, have left out the same, and have applied the same records, in orders of their own.
pub record Alike (s t : Followed) : Type 0 where
  pub streams : s.streams ≡ t.streams
  pub out : s.out ≡ t.out
  pub order : SameMembers s.order t.order

pub alike_itself : (s : Followed) → Alike s s
alike_itself s = record { streams = refl; out = refl; order = λ r. (λ m. m, λ m. m) }

applied_alike : (s t : Followed) → s.streams ≡ t.streams → s.out ≡ t.out → ((r : Kept) → Member r s.order → Member r t.order) → (r : Kept) → IsApplied s r → IsApplied t r
applied_alike s t es eo all r (before m) = before (all r m)
applied_alike s t es eo all r (next m free low each) =
    next (subst (λ (l : List (List Placed)). Member r (kept_from 0 l)) es m) (subst (λ (l : List Kept). is_among l r ≡ false) eo free) (subst (λ (l : List (List Placed)). AtMost r.place.dep (map read_to l)) es low)
    (λ q mq fq lt. applied_alike s t es eo all q (each q (subst (λ (l : List (List Placed)). Member q (kept_from 0 l)) (sym es) mq) (subst (λ (l : List Kept). is_among l q ≡ false) (sym eo) fq) lt))

done_is : (x y : List (List Placed)) → ◌≡◌ {A = Result (List (List Placed)) LogFault} (Ok x) (Ok y) → x ≡ y
done_is x y e = cc

module _ (f : Format) (n : ℕ) where
  pub fed_alike : (fed : List (List ℕ)) (s t u v : Followed) (p : Piece) → IsFollower f n fed s → IsFollower f n fed t → Alike s t → HasFed f (with_piece fed p) s u → HasFed f (with_piece fed p) t v → Alike u v
  fed_alike fed s t u v p a b same g h =
      let streams = done_is g.streams h.streams (sym g.read ∙ read_same f (with_piece fed p) s.order t.order same.order ∙ h.read) in
      let one = applies_is (with_read s g.streams) u g.news g.applies in
      let other = applies_is (with_read t h.streams) v h.news h.applies in
      let left = ap left_out streams in
      let out = ap (λ (l : List Kept). l ++ left_out g.streams) same.out ∙ ap (λ (l : List Kept). t.out ++ l) left in
      let first = applied_is_least f n fed s u p a g in
      let second = applied_is_least f n fed t v p b h in
      record {
        streams = one.0 ∙ streams ∙ sym other.0;
        out = one.1 ∙ out ∙ sym other.1;
        order = λ r. (
          λ m. (second.1 r).1 (applied_alike (with_read s g.streams) (with_read t h.streams) streams out (λ q. (same.order q).0) r ((first.1 r).0 m)),
          λ m. (first.1 r).1 (applied_alike (with_read t h.streams) (with_read s g.streams) (sym streams) (sym out) (λ q. (same.order q).1) r ((second.1 r).0 m)),
        );
      }

  pub count_alike : (fed : List (List ℕ)) (s t : Followed) → IsFollower f n fed s → IsFollower f n fed t → Alike s t → length s.order ≡ length t.order
  count_alike fed s t a b same =
      let one = no_longer s.order t.order (applied_in_order f n fed s a).once (λ r. (same.order r).0) in
      let other = no_longer t.order s.order (applied_in_order f n fed t b).once (λ r. (same.order r).1) in
      omega (arith, one, other)
