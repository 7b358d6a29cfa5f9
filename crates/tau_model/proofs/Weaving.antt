-- Buckets of read-only calls, and the records between them.
use Rattle.std.proofs.Common.{ℕ, zero, suc, ◌+◌, ◌<◌, cond, ◌≡◌, inl, inr, List, [], ◌∷◌, ◌++◌, length, map, drop, refl, sym, ap, ◌∙◌, arith, add-one, drop-cons, append_assoc}
use Rattle.std.proofs.lemmas.List.{append-nil}
use Rattle.std.specs.Prelude.{◌==◌, slice_index, slice_index_or, slice_set}
use Rattle.std.specs.List.{filter}
use Rattle.std.proofs.lemmas.Bool.{cases_Bool, eq-eqb, ne_eqb}
use Rattle.std.proofs.lemmas.List.Elements.{filter-append}
use Rattle.tau_model.specs.Reported.{each}
use Rattle.tau_model.specs.Listing.{Entry, entry_number, slot_of, bucket, woven}
use Rattle.tau_base.proofs.Lists.{map_append}
use Rattle.tau_model.proofs.Ascending.{each_at}

pub each_same : {A : Type 0} (n : ℕ) (f g : ℕ → A) → ((k : ℕ) → f k ≡ g k) → each n f ≡ each n g
each_same zero f g h = refl
each_same (suc n) f g h = let first = h 0 in let rest = each_same n (λ k. f (suc k)) (λ k. g (suc k)) (λ k. h (suc k)) in λ i. first i ∷ rest i

-- one place of a list that a function gives
pub each_set : {A : Type 0} (n s : ℕ) (f g : ℕ → A) (v : A) → ((k : ℕ) → (k ≡ s → ⊥) → f k ≡ g k) → (s < n → v ≡ g s) → slice_set (each n f) s v ≡ each n g
each_set zero s f g v others at = refl
each_set (suc n) zero f g v others at =
    let first = at (omega arith) in let rest = each_same n (λ k. f (suc k)) (λ k. g (suc k)) (λ k. others (suc k) (λ e. omega arith)) in λ i. first i ∷ rest i
each_set (suc n) (suc s) f g v others at =
    let first = others 0 (λ e. omega arith) in
    let rest = each_set n s (λ k. f (suc k)) (λ k. g (suc k)) v (λ k ne. others (suc k) (λ e. ne (omega arith))) (λ lt. at (omega arith)) in λ i. first i ∷ rest i

-- one more reader
bucket_push : (reached : List (List ℕ)) (rs : List Entry) (r : Entry) (k : ℕ) →
    bucket reached (rs ++ r ∷ []) k ≡ bucket reached rs k ++ cond (slot_of reached r.dep == k) (r.number ∷ []) []
bucket_push reached rs r k =
    ap (map entry_number) (filter-append (λ e. slot_of reached e.dep == k) rs (r ∷ [])) ∙
    map_append entry_number (filter (λ e. slot_of reached e.dep == k) rs) (filter (λ e. slot_of reached e.dep == k) (r ∷ [])) ∙
    ap (λ l. bucket reached rs k ++ l) (elim (cases_Bool (slot_of reached r.dep == k)) [
      | inl is ↦ rw is refl
      | inr no' ↦ rw no' refl
    ])

pub buckets_push : (reached : List (List ℕ)) (rs : List Entry) (r : Entry) (n : ℕ) →
    slice_set (each n (bucket reached rs)) (slot_of reached r.dep) (slice_index_or (each n (bucket reached rs)) (slot_of reached r.dep) [] ++ r.number ∷ []) ≡ each n (bucket reached (rs ++ r ∷ []))
buckets_push reached rs r n =
    let s : ℕ = slot_of reached r.dep in
    each_set n s (bucket reached rs) (bucket reached (rs ++ r ∷ [])) (slice_index_or (each n (bucket reached rs)) s [] ++ r.number ∷ [])
    (λ k ne. sym (bucket_push reached rs r k ∙ rw (ne_eqb s k (λ e. ne (sym e))) (append-nil (bucket reached rs k))))
    (λ lt. ap (λ l. l ++ r.number ∷ []) (each_at n (bucket reached rs) s lt) ∙ sym (bucket_push reached rs r s ∙ rw (eq-eqb s s refl) refl))

-- one more bucket and record
pub woven_step : (buckets : List (List ℕ)) (numbers : List ℕ) (k : ℕ) → k < length numbers → length buckets ≡ length numbers + 1 →
    woven (drop k buckets) (drop k numbers) ≡ slice_index_or buckets k [] ++ slice_index numbers k ∷ woven (drop (k + 1) buckets) (drop (k + 1) numbers)
woven_step buckets numbers k lt e =
    rw (add-one, drop-cons buckets k [] (omega arith), drop-cons numbers k 0 lt) refl

-- what is written and what is left, after one more bucket and record
pub woven_more : (out grown old bucket' : List ℕ) (n : ℕ) (rest next : List ℕ) → out ≡ grown ++ n ∷ [] → grown ≡ old ++ bucket' → rest ≡ bucket' ++ n ∷ next → out ++ next ≡ old ++ rest
woven_more out grown old bucket' n rest next o g r =
    rw (o, g, r, append_assoc (old ++ bucket') (n ∷ []) next, append_assoc old bucket' (n ∷ next)) refl

-- where no call only reads, the records are all
pub woven_none : (numbers : List ℕ) (n : ℕ) → n ≡ length numbers + 1 → woven (each n (λ k. [])) numbers ≡ numbers
woven_none numbers zero e = absurd (omega arith)
woven_none [] (suc n) e = refl
woven_none (m ∷ numbers) (suc n) e = ap (λ l. m ∷ l) (woven_none numbers n (omega arith))
