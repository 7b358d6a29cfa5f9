-- Streams in their order: what is done below an index, and what is left from there on.
use Rattle.std.proofs.Common.{ℕ, zero, suc, ◌≡◌, ◌+◌, ◌-◌, ◌<◌, ◌≤◌, min, List, [], ◌∷◌, ◌++◌, map, take, drop, replicate, length, get_or, inl, inr, Result, Ok, Err, refl, sym, ap, subst, ◌∙◌, arith, add-one, length-take-le, slice_set, is_some}
use Rattle.std.specs.Prelude.{Bool, true, false, Option, Some, None, slice_get, bytes_eq, if◌then◌else◌}
use Rattle.std.proofs.lemmas.Bool.Decides.{leb_tells}
use Rattle.std.specs.List.{All, AllZip}
use Rattle.std.proofs.lemmas.List.{get_or_append_left, get_or_push, length-append, length-map, drop_all, take_all}
use Rattle.std.proofs.lemmas.Option.{slice_get_read, slice_get_within}
use Rattle.tau_record.specs.declared.entry.Placed.{Placed}
use Rattle.tau_record.specs.declared.fault.RecordCause.TheVariants.{BadBody}
use Rattle.tau_text.specs.declared.load.Declarations.{Declarations}
use Rattle.tau_scan.specs.declared.fault.LogCause.TheVariants as cause
use Rattle.tau_scan.specs.declared.fault.LogFault.{LogFault}
use Rattle.tau_scan.specs.declared.fault.LogRefusal.{LogRefusal}
use Rattle.tau_scan.specs.declared.fault.LogRefusal.TheVariants as refusals
use Rattle.tau_scan.specs.Found.{Lost, other_text}
use Rattle.tau_scan.specs.Reading.{◌>>=◌, in_front, each_from, is_declared, first_undeclared, catalogue_from, unless_other, alike}
use Rattle.tau_base.proofs.Lists.{drop_at}
use Rattle.tau_base.proofs.Logic.{some_is}

-- these values in front of the others
abbrev pub behind : {A E : Type 0} → List A → Result (List A) E → Result (List A) E
behind [] r = r
behind (x ∷ xs) r = in_front x (behind xs r)

pub behind_more : {A E : Type 0} (done : List A) (y : A) (r : Result (List A) E) → behind (done ++ y ∷ []) r ≡ behind done (in_front y r)
behind_more [] y r = refl
behind_more (x ∷ xs) y r = ap (λ q. in_front x q) (behind_more xs y r)

pub behind_ok : {A E : Type 0} (done : List A) → behind {E = E} done (Ok []) ≡ Ok done
behind_ok [] = refl
behind_ok {E} (x ∷ xs) = ap (λ q. in_front x q) (behind_ok {E = E} xs)

pub behind_err : {A E : Type 0} (done : List A) (e : E) → behind done (Err e) ≡ Err e
behind_err [] e = refl
behind_err (x ∷ xs) e = ap (λ q. in_front x q) (behind_err xs e)

pub record IsGoing {A B : Type 0} (f : ℕ → A → Result B LogFault) (xs : List A) (i : ℕ) (done : List B) : Type 0 where
  pub same : each_from f 0 xs ≡ behind done (each_from f i (drop i xs))
  pub count : length done ≡ i

module _ {A B : Type 0} (f : ℕ → A → Result B LogFault) (xs : List A) where
  pub going_first : IsGoing f xs 0 []
  going_first = record { same = refl; count = refl }

  step_of : (i : ℕ) (done : List B) (x : A) → IsGoing f xs i done → slice_get xs i ≡ Some x → each_from f 0 xs ≡ behind done (f i x >>= λ y. in_front y (each_from f (suc i) (drop (suc i) xs)))
  step_of i done x g here = g.same ∙ ap (λ (ys : List A). behind done (each_from f i ys)) (drop_at xs i x here)

  pub going_on : (i : ℕ) (done : List B) (x : A) (y : B) → IsGoing f xs i done → slice_get xs i ≡ Some x → f i x ≡ Ok y → IsGoing f xs (i + 1) (done ++ y ∷ [])
  going_on i done x y g here is = subst (λ (k : ℕ). IsGoing f xs k (done ++ y ∷ [])) (sym (add-one i)) (record {
    same = step_of i done x g here ∙ ap (λ (r : Result B LogFault). behind done (r >>= λ y. in_front y (each_from f (suc i) (drop (suc i) xs)))) is ∙ sym (behind_more done y (each_from f (suc i) (drop (suc i) xs)));
    count = omega (arith, length-append done (y ∷ []), g.count);
  })

  pub going_bad : (i : ℕ) (done : List B) (x : A) (e : LogFault) → IsGoing f xs i done → slice_get xs i ≡ Some x → f i x ≡ Err e → each_from f 0 xs ≡ Err e
  going_bad i done x e g here is =
      step_of i done x g here ∙ ap (λ (r : Result B LogFault). behind done (r >>= λ y. in_front y (each_from f (suc i) (drop (suc i) xs)))) is ∙ behind_err done e

  pub going_last : (i : ℕ) (done : List B) → length xs ≤ i → IsGoing f xs i done → each_from f 0 xs ≡ Ok done
  going_last i done le g = g.same ∙ ap (λ (ys : List A). behind done (each_from f i ys)) (drop_all i xs le) ∙ behind_ok done

  pub going_lost : (i : ℕ) (done : List B) (x : A) (e : LogRefusal) → IsGoing f xs i done → slice_get xs i ≡ Some x → Lost e (f i x) → Lost e (each_from f 0 xs)
  going_lost i done x refusals.NoMemory g here is = tt
  going_lost i done x (refusals.Bad fault) g here is = going_bad i done x fault g here is

-- ---- the first record that names what is not declared

pub undeclared_here : (d : Declarations) (ps : List Placed) (i : ℕ) (p : Placed) → slice_get ps i ≡ Some p → is_declared d p.entry ≡ false →
    first_undeclared d (drop i ps) ≡ Some (record { at = p.start; cause = BadBody })
unfolding first_undeclared
undeclared_here d ps i p here fails = rw (drop_at ps i p here, fails) refl

pub declared_here : (d : Declarations) (ps : List Placed) (i : ℕ) (p : Placed) → slice_get ps i ≡ Some p → is_declared d p.entry ≡ true →
    first_undeclared d (drop i ps) ≡ first_undeclared d (drop (i + 1) ps)
unfolding first_undeclared
declared_here d ps i p here passes = rw (drop_at ps i p here, passes, add-one i) refl

pub all_declared : (d : Declarations) (ps : List Placed) (i : ℕ) → length ps ≤ i → first_undeclared d (drop i ps) ≡ None
unfolding first_undeclared
all_declared d ps i le = rw (drop_all i ps le) refl

-- ---- the one catalogue

abbrev fault_of : ℕ → List ℕ → ℕ → List ℕ → LogFault
fault_of first text j other = record { stream = j; cause = cause.Catalogue first (alike text other) }

pub no_text_here : (xs : List (Option (List ℕ))) (j : ℕ) → slice_get xs j ≡ Some None → catalogue_from j (drop j xs) ≡ catalogue_from (j + 1) (drop (j + 1) xs)
no_text_here xs j here = rw (drop_at xs j None here, add-one j) refl

pub no_text : (xs : List (Option (List ℕ))) (j : ℕ) → length xs ≤ j → catalogue_from j (drop j xs) ≡ Ok None
no_text xs j le = rw (drop_all j xs le) refl

pub text_here : (xs : List (Option (List ℕ))) (j : ℕ) (text : List ℕ) → slice_get xs j ≡ Some (Some text) → catalogue_from j (drop j xs) ≡ unless_other j text (j + 1) (drop (j + 1) xs)
text_here xs j text here = rw (drop_at xs j (Some text) here, add-one j) refl

pub same_here : (first : ℕ) (text : List ℕ) (xs : List (Option (List ℕ))) (j : ℕ) (x : Option (List ℕ)) → slice_get xs j ≡ Some x → other_text first text j x ≡ None →
    unless_other first text j (drop j xs) ≡ unless_other first text (j + 1) (drop (j + 1) xs)
same_here first text xs j x here same = rw (drop_at xs j x here, add-one j) (by_case x same)
  where
    by_case : (x : Option (List ℕ)) → other_text first text j x ≡ None → unless_other first text j (x ∷ drop (suc j) xs) ≡ unless_other first text (suc j) (drop (suc j) xs)
    by_case None same = refl
    by_case (Some other) same = by_test (bytes_eq text other) same
      where
        by_test : (b : Bool) → (if b then None else Some (fault_of first text j other)) ≡ None → (if b then unless_other first text (suc j) (drop (suc j) xs) else Err (fault_of first text j other)) ≡ unless_other first text (suc j) (drop (suc j) xs)
        by_test true same = refl
        by_test false same = absurd cc

pub other_here : (first : ℕ) (text : List ℕ) (xs : List (Option (List ℕ))) (j : ℕ) (x : Option (List ℕ)) (fault : LogFault) → slice_get xs j ≡ Some x → other_text first text j x ≡ Some fault →
    unless_other first text j (drop j xs) ≡ Err fault
other_here first text xs j x fault here is = rw (drop_at xs j x here) (by_case x is)
  where
    by_case : (x : Option (List ℕ)) → other_text first text j x ≡ Some fault → unless_other first text j (x ∷ drop (suc j) xs) ≡ Err fault
    by_case None is = absurd cc
    by_case (Some other) is = by_test (bytes_eq text other) is
      where
        by_test : (b : Bool) → (if b then None else Some (fault_of first text j other)) ≡ Some fault → (if b then unless_other first text (suc j) (drop (suc j) xs) else Err (fault_of first text j other)) ≡ Err fault
        by_test true is = absurd cc
        by_test false is = ap (λ (e : LogFault). Err e) (some_is (fault_of first text j other) fault is)

-- the element of a mapped list at the index of a read one
pub map_get : {A B : Type 0} (f : A → B) (xs : List A) (i : ℕ) (x : A) → slice_get xs i ≡ Some x → slice_get (map f xs) i ≡ Some (f x)
map_get f [] i x is = absurd cc
map_get {A} f (y ∷ xs) zero x is = ap (λ (z : A). Some (f z)) (some_is y x is)
map_get f (y ∷ xs) (suc i) x is = map_get f xs i x is

-- a read element, also through a view of it
pub read_as : {A : Type 0} (xs : List A) (i : ℕ) (x y : A) → i < length xs → x ≡ get_or xs i x → y ≡ x → slice_get xs i ≡ Some y
read_as {A} xs i x y lt is same = subst (λ (z : A). slice_get xs i ≡ Some z) (sym same) (slice_get_read xs (length xs) i x refl lt is)

pub no_text_of : (x : Option (List ℕ)) → is_some x ≡ false → x ≡ None
no_text_of None is = refl
no_text_of (Some text) is = absurd cc

pub a_text_of : (x : Option (List ℕ)) → is_some x ≡ true → (text : List ℕ) × (x ≡ Some text)
a_text_of None is = absurd cc
a_text_of (Some text) is = (text, refl)

-- ---- texts that begin alike

pub alike_end : (xs ys : List ℕ) (n : ℕ) → min (length xs) (length ys) ≤ n → alike (drop n xs) (drop n ys) ≡ 0
alike_end xs ys n le = elim (leb_tells (length xs) n) [
  | inl h ↦ rw (drop_all n xs h.1) refl
  | inr h ↦ rw (drop_all n ys (omega (arith, le, h.1))) (none (drop n xs))
]
  where
    none : (zs : List ℕ) → alike zs [] ≡ 0
    none [] = refl
    none (z ∷ zs) = refl

-- ---- the lengths

set_next : (ls : List ℕ) (k v : ℕ) → slice_set (ls ++ replicate (suc k) 0) (length ls) v ≡ (ls ++ v ∷ []) ++ replicate k 0
set_next [] k v = refl
set_next (l ∷ ls) k v = ap (λ (zs : List ℕ). l ∷ zs) (set_next ls k v)

abbrev pub lengths_to : List (List ℕ) → ℕ → List ℕ
lengths_to xs j = map (λ (bytes : List ℕ). length bytes) (take j xs) ++ replicate (length xs - j) 0

pub lengths_more : (xs : List (List ℕ)) (j : ℕ) (x : List ℕ) → slice_get xs j ≡ Some x → slice_set (lengths_to xs j) j (length x) ≡ lengths_to xs (j + 1)
lengths_more xs j x here =
    let lt = slice_get_within xs j x here in
    let front : List ℕ = map (λ (bytes : List ℕ). length bytes) (take j xs) in
    let size : length front ≡ j = length-map (take j xs) (λ (bytes : List ℕ). length bytes) ∙ length-take-le j xs (omega (arith, lt)) in
    let left : length xs - j ≡ suc (length xs - (j + 1)) = omega (arith, lt) in
    let set : slice_set (front ++ replicate (length xs - j) 0) j (length x) ≡ (front ++ length x ∷ []) ++ replicate (length xs - (j + 1)) 0
    = subst (λ (k : ℕ). slice_set (front ++ replicate k 0) j (length x) ≡ (front ++ length x ∷ []) ++ replicate (length xs - (j + 1)) 0) (sym left)
    (subst (λ (k : ℕ). slice_set (front ++ replicate (suc (length xs - (j + 1))) 0) k (length x) ≡ (front ++ length x ∷ []) ++ replicate (length xs - (j + 1)) 0) size
    (set_next front (length xs - (j + 1)) (length x))) in
    set ∙ ap (λ (zs : List ℕ). zs ++ replicate (length xs - (j + 1)) 0) (sym (taken_more xs j x here))
  where
    taken_more : (xs : List (List ℕ)) (j : ℕ) (x : List ℕ) → slice_get xs j ≡ Some x → map (λ (bytes : List ℕ). length bytes) (take (j + 1) xs) ≡ map (λ (bytes : List ℕ). length bytes) (take j xs) ++ length x ∷ []
    taken_more [] j x here = absurd cc
    taken_more (y ∷ xs) zero x here = ap (λ (z : List ℕ). length z ∷ []) (some_is y x here)
    taken_more (y ∷ xs) (suc j) x here =
        let next : suc j + 1 ≡ suc (j + 1) = omega arith in
        rw next (ap (λ (zs : List ℕ). length y ∷ zs) (taken_more xs j x here))

-- ---- chains

pub lost_here : {A B : Type 0} (e : LogRefusal) (r : Result A LogFault) (f : A → Result B LogFault) → Lost e r → Lost e (r >>= f)
lost_here refusals.NoMemory r f is = tt
lost_here (refusals.Bad fault) r f is = rw is refl

pub all_push : {A : Type 0} (P : A → Type 0) (xs : List A) (x : A) → All P xs → P x → All P (xs ++ x ∷ [])
all_push P xs x all here k d lt = elim (leb_tells (length xs) k) [
  | inl h ↦ let last : length xs ≡ k = omega (arith, h.1, lt, length-append xs (x ∷ [])) in rw (get_or_push xs x d k last) here
  | inr h ↦ rw (get_or_append_left xs (x ∷ []) d k h.1) (all k d h.1)
]

-- ---- two lists place by place

pub zip_on : {A B : Type 0} (R : A → B → Type 0) (xs : List A) (j : ℕ) (ys : List B) (x : A) (y : B) → AllZip R (take j xs) ys → slice_get xs j ≡ Some x → R x y → AllZip R (take (j + 1) xs) (ys ++ y ∷ [])
zip_on R [] j ys x y all here r = absurd cc
zip_on R (z ∷ xs) zero [] x y all here r = (subst (λ w. R w y) (sym (some_is z x here)) r, tt)
zip_on R (z ∷ xs) zero (w ∷ ys) x y all here r = absurd all
zip_on R (z ∷ xs) (suc j) [] x y all here r = absurd all
zip_on R (z ∷ xs) (suc j) (w ∷ ys) x y all here r =
    let next : suc j + 1 ≡ suc (j + 1) = omega arith in
    rw next (all.0, zip_on R xs j ys x y all.1 here r)

pub zip_whole : {A B : Type 0} (R : A → B → Type 0) (xs : List A) (j : ℕ) (ys : List B) → length xs ≤ j → AllZip R (take j xs) ys → AllZip R xs ys
zip_whole {A} R xs j ys le all = subst (λ (zs : List A). AllZip R zs ys) (take_all j xs le) all
