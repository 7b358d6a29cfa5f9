-- Marks and fates by number, and what a core that stands says of them.
use Rattle.std.proofs.Common.{ℕ, zero, suc, ◌+◌, ◌-◌, ◌<◌, ◌≡◌, inl, inr, Bool, true, false, List, [], ◌∷◌, ◌++◌, length, map, take, get_or, refl, sym, ap, subst, ◌∙◌, ◌⊎◌, ⊎_elim, Option, arith, length-append}
use Rattle.std.specs.Prelude.{Some, None, ◌==◌, ◌||◌, if◌then◌else◌, replicate, slice_get, slice_set, slice_index_or}
use Rattle.std.specs.List.{All}
use Rattle.std.proofs.lemmas.List.{map-append, take_more, get_or_append_left, set-append_left, replicate-append-replicate}
use Rattle.std.proofs.lemmas.List.Folds.{list_any-append}
use Rattle.std.proofs.Math.Seq.{get_or-append_seam, set-append_seam}
use Rattle.std.proofs.lemmas.Bool.{cases_eq, eq-eqb, ne_eqb}
use Rattle.std.proofs.lemmas.Option.{get_or_from_slice_get, slice_get_within}
use Rattle.tau_base.specs.declared.value.Call.{Call}
use Rattle.tau_proc.specs.declared.reply.Reply.{Reply}
use Rattle.tau_model.specs.declared.committed.Committed.{Committed}
use Rattle.tau_model.specs.Committed.{number_of, has_record, place_of, reported_numbers, IsWithin}
use Rattle.tau_model.specs.History.{Act, Member, Reordered}
use Rattle.tau_model.proofs.Orders.{member_reordered}
use Rattle.tau_model.proofs.Reorder.{reordered_itself, reordered_sym}
use Rattle.tau_model.proofs.Assembling.{member_mapped}
use Rattle.tau_machine.specs.Hands.{Txn, committed_of}
use Rattle.tau_machine.specs.Reports.{reported}
use Rattle.tau_machine.proofs.Mapped.{reported_map}
use Rattle.tau_core.specs.State.{Plain}
use Rattle.tau_core.specs.View.{Hidden, call_of, core_of, setting_of}
use Rattle.tau_core.specs.Stands.{Stands}
use Rattle.tau_core.proofs.Promises.{committed_law, numbers_law}
use Rattle.tau_report.specs.declared.report.Fate.{Fate}
use Rattle.tau_report.specs.declared.report.Fate.TheVariants.{Unrun}
use Rattle.tau_run.specs.Run.{below, fate}
use Rattle.tau_run.proofs.CommittedTold.{Apart, apart_reordered}
use Rattle.tau_run.proofs.Order.{again_of}
use Rattle.tau_run.specs.Fates.{IsNumberOf, fates_by, fates_in, is_told, marks_in, reply_at, reply_in}
use Rattle.tau_base.proofs.Logic.{if_true, if_false}

-- a function of the numbers below one, as a list
module _ {A : Type 0} where
  length_below : (f : ℕ → A) (n : ℕ) → length (map f (below n)) ≡ n
  length_below f zero = refl
  length_below f (suc n) =
      let e = ap (length {A = A}) (map-append f (below n) (n ∷ [])) ∙ length-append (map f (below n)) (f n ∷ []) in
      let r = length_below f n in
      omega arith

  same_below : (f g : ℕ → A) (n : ℕ) → ((k : ℕ) → k < n → g k ≡ f k) → map f (below n) ≡ map g (below n)
  same_below f g zero same = refl
  same_below f g (suc n) same =
      let first = same_below f g n (λ k lt. same k (omega arith)) in
      let last = same n (omega arith) in
      map-append f (below n) (n ∷ []) ∙ ap (λ (l : List A). l ++ f n ∷ []) first ∙ ap (λ (x : A). map g (below n) ++ x ∷ []) (sym last) ∙ sym (map-append g (below n) (n ∷ []))

  pub get_below : (f : ℕ → A) (n i : ℕ) (d : A) → i < n → get_or (map f (below n)) i d ≡ f i
  get_below f zero i d lt = absurd (omega arith)
  get_below f (suc n) i d lt = elim (cases_eq i n) [
    | inl e ↦ ap (λ (l : List A). get_or l i d) (map-append f (below n) (n ∷ []))
        ∙ ap (λ (k : ℕ). get_or (map f (below n) ++ f n ∷ []) k d) (e ∙ sym (length_below f n))
        ∙ get_or-append_seam (map f (below n)) (f n) [] d ∙ ap f (sym e)
    | inr ne ↦ (let r = length_below f n in
        ap (λ (l : List A). get_or l i d) (map-append f (below n) (n ∷ []))
        ∙ get_or_append_left (map f (below n)) (f n ∷ []) d i (omega arith) ∙ get_below f n i d (omega arith))
  ]

  -- one of them set
  pub set_below : (f g : ℕ → A) (n i : ℕ) → i < n → ((k : ℕ) → (k ≡ i → ⊥) → g k ≡ f k) → slice_set (map f (below n)) i (g i) ≡ map g (below n)
  set_below f g zero i lt same = absurd (omega arith)
  set_below f g (suc n) i lt same = elim (cases_eq i n) [
    | inl e ↦ (let first = same_below f g n (λ k under. same k (λ is. omega (arith, is, e, under))) in
        ap (λ (l : List A). slice_set l i (g i)) (map-append f (below n) (n ∷ []))
        ∙ ap (λ (k : ℕ). slice_set (map f (below n) ++ f n ∷ []) k (g i)) (e ∙ sym (length_below f n))
        ∙ set-append_seam (map f (below n)) (f n) [] (g i)
        ∙ ap (λ (l : List A). l ++ g i ∷ []) first ∙ ap (λ (k : ℕ). map g (below n) ++ g k ∷ []) e ∙ sym (map-append g (below n) (n ∷ [])))
    | inr ne ↦ (let r = length_below f n in
        let last = same n (λ is. ne (sym is)) in
        ap (λ (l : List A). slice_set l i (g i)) (map-append f (below n) (n ∷ []))
        ∙ set-append_left (map f (below n)) (f n ∷ []) i (g i) (omega arith)
        ∙ ap (λ (l : List A). l ++ f n ∷ []) (set_below f g n i (omega arith) same)
        ∙ ap (λ (x : A). map g (below n) ++ x ∷ []) (sym last) ∙ sym (map-append g (below n) (n ∷ [])))
  ]

  all_below : (a : A) (n : ℕ) → replicate n a ≡ map (λ k. a) (below n)
  all_below a zero = refl
  all_below a (suc n) =
      let e : suc n ≡ n + 1 = omega arith in
      ap (λ (k : ℕ). replicate k a) e ∙ sym (replicate-append-replicate n 1 a) ∙ ap (λ (l : List A). l ++ a ∷ []) (all_below a n) ∙ sym (map-append (λ (k : ℕ). a) (below n) (n ∷ []))

or_true : (b : Bool) → (b || (true || false)) ≡ true
or_true true = refl
or_true false = refl

or_false : (b : Bool) → (b || (false || false)) ≡ b
or_false true = refl
or_false false = refl

-- one more was told
told_here : (told : List (ℕ × List ℕ)) (a : ℕ × List ℕ) (k : ℕ) → a.0 ≡ k → is_told (told ++ a ∷ []) k ≡ true
told_here told a k e = list_any-append (λ (b : ℕ × List ℕ). b.0 == k) told (a ∷ []) ∙ ap (λ (b : Bool). is_told told k || (b || false)) (eq-eqb a.0 k e) ∙ or_true (is_told told k)

told_other : (told : List (ℕ × List ℕ)) (a : ℕ × List ℕ) (k : ℕ) → (a.0 ≡ k → ⊥) → is_told (told ++ a ∷ []) k ≡ is_told told k
told_other told a k ne = list_any-append (λ (b : ℕ × List ℕ). b.0 == k) told (a ∷ []) ∙ ap (λ (b : Bool). is_told told k || (b || false)) (ne_eqb a.0 k ne) ∙ or_false (is_told told k)

pub marks_none : (calls : ℕ) → replicate calls false ≡ marks_in calls []
marks_none calls = all_below false calls

-- the call that a list has at an index has a number, and comes next
pub told_number : (calls : ℕ) (acks : List (ℕ × List ℕ)) (i n : ℕ) (lv : List ℕ) → slice_get acks i ≡ Some (n, lv) → All (λ a. IsNumberOf calls a.0) acks → IsNumberOf calls n
told_number calls acks i n lv is all =
    subst (λ (a : ℕ × List ℕ). IsNumberOf calls a.0) (get_or_from_slice_get acks i (n, lv) (n, lv) is) (all i (n, lv) (slice_get_within acks i (n, lv) is))

pub told_more : (acks : List (ℕ × List ℕ)) (i n : ℕ) (lv : List ℕ) → slice_get acks i ≡ Some (n, lv) → take (i + 1) acks ≡ take i acks ++ (n, lv) ∷ []
told_more acks i n lv is =
    take_more acks i (n, lv) (slice_get_within acks i (n, lv) is) ∙ ap (λ (a : ℕ × List ℕ). take i acks ++ a ∷ []) (get_or_from_slice_get acks i (n, lv) (n, lv) is)

pub marks_more : (calls : ℕ) (told : List (ℕ × List ℕ)) (a : ℕ × List ℕ) → IsNumberOf calls a.0 → slice_set (marks_in calls told) (a.0 - 1) true ≡ marks_in calls (told ++ a ∷ [])
marks_more calls told a (low, high) =
    let here : is_told (told ++ a ∷ []) (a.0 - 1 + 1) ≡ true = told_here told a (a.0 - 1 + 1) (omega arith) in
    ap (λ (b : Bool). slice_set (marks_in calls told) (a.0 - 1) b) (sym here)
    ∙ set_below (λ k. is_told told (k + 1)) (λ k. is_told (told ++ a ∷ []) (k + 1)) calls (a.0 - 1) (omega arith) (λ k ne. told_other told a (k + 1) (λ e. ne (omega arith)))

pub fates_none : (calls : ℕ) (told : List (ℕ × List ℕ)) → replicate calls Unrun ≡ fates_in calls [] told
fates_none calls told = all_below Unrun calls

-- one more call that committed, in front of the others
pub fates_more : (calls : ℕ) (c : Committed) (others : List Committed) (told : List (ℕ × List ℕ)) (v : Fate) → IsNumberOf calls c.number → v ≡ fate (Some c.reply) (is_told told (c.number - 1 + 1)) →
    slice_set (fates_in calls others told) (c.number - 1) v ≡ fates_in calls (c ∷ others) told
fates_more calls c others told v (low, high) is =
    let i : ℕ = c.number - 1 in
    let here : reply_in (i + 1) (c ∷ others) ≡ Some c.reply = if_true (c.number == i + 1) (Some c.reply) (reply_in (i + 1) others) (eq-eqb c.number (i + 1) (omega arith)) in
    ap (λ (x : Fate). slice_set (fates_in calls others told) i x) (is ∙ ap (λ (r : Option Reply). fate r (is_told told (i + 1))) (sym here))
    ∙ set_below (λ k. fate (reply_in (k + 1) others) (is_told told (k + 1))) (λ k. fate (reply_in (k + 1) (c ∷ others)) (is_told told (k + 1))) calls i (omega arith)
    (λ k ne. ap (λ (r : Option Reply). fate r (is_told told (k + 1))) (if_false (c.number == k + 1) (Some c.reply) (reply_in (k + 1) others) (ne_eqb c.number (k + 1) (λ e. ne (omega arith)))))

-- in the words of acts
reply_same : (k : ℕ) (K : List (Act Txn)) → reply_in k (map committed_of K) ≡ reply_at k K
reply_same k [] = refl
reply_same k (t ∷ ts) = ap (λ (r : Option Reply). if t.call.call.number == k then Some t.effect.reply else r) (reply_same k ts)

pub fates_same : (calls : ℕ) (K : List (Act Txn)) (told : List (ℕ × List ℕ)) → fates_in calls (map committed_of K) told ≡ fates_by calls K told
fates_same calls K told =
    same_below (λ k. fate (reply_in (k + 1) (map committed_of K)) (is_told told (k + 1))) (λ k. fate (reply_at (k + 1) K) (is_told told (k + 1))) calls
    (λ k lt. ap (λ (r : Option Reply). fate r (is_told told (k + 1))) (sym (reply_same (k + 1) K)))

map_map : {A B C : Type 0} (f : A → B) (h : B → C) (xs : List A) → map h (map f xs) ≡ map (λ (x : A). h (f x)) xs
map_map f h [] = refl
map_map {C = C} f h (x ∷ xs) = ap (λ (l : List C). h (f x) ∷ l) (map_map f h xs)

pub order_same : (ends : List ℕ) (K : List (Act Txn)) → reported_numbers ends (map committed_of K) ≡ map (λ (t : Act Txn). t.call.call.number) (reported ends K)
order_same ends K = ap (map number_of) (sym (reported_map committed_of place_of has_record number_of ends K)) ∙ map_map committed_of number_of (reported ends K)

pub at_member : {A : Type 0} (xs : List A) (k : ℕ) (d : A) → k < length xs → Member (slice_index_or xs k d) xs
at_member [] k d lt = absurd (omega arith)
at_member (x ∷ xs) zero d lt = inl refl
at_member (x ∷ xs) (suc k) d lt = inr (at_member xs k d (omega arith))

-- a call that there is has a number
pub number_is : (calls : List Call) (n : ℕ) (c : Call) → call_of calls n ≡ Some c → IsNumberOf (length calls) n
number_is calls n c e = elim (cases_eq n 0) [
  | inl z ↦ absurd (let bad : None ≡ Some c = sym (if_true (n == 0) None (slice_get calls (n - 1)) (eq-eqb n 0 z)) ∙ e in cc)
  | inr nz ↦ (let lt = slice_get_within calls (n - 1) c (sym (if_false (n == 0) None (slice_get calls (n - 1)) (ne_eqb n 0 nz)) ∙ e) in (omega (arith, nz), omega (arith, lt, nz)))
]

-- the reply of the call with this number, where no two have one
reply_of : (k : ℕ) (ts : List (Act Txn)) → Apart ts → (t : Act Txn) → Member t ts → t.call.call.number ≡ k → reply_at k ts ≡ Some t.effect.reply
reply_of k [] apart t m e = absurd m
reply_of k (x ∷ ts) apart t (inl s) e =
    if_true (x.call.call.number == k) (Some x.effect.reply) (reply_at k ts) (eq-eqb x.call.call.number k (ap (λ (y : Act Txn). y.call.call.number) s ∙ e)) ∙ ap (λ (y : Act Txn). Some y.effect.reply) s
reply_of k (x ∷ ts) apart t (inr m) e =
    if_false (x.call.call.number == k) (Some x.effect.reply) (reply_at k ts) (ne_eqb x.call.call.number k (λ f. apart x t (inl (refl, m)) (f ∙ sym e)))
    ∙ reply_of k ts (λ u v b. apart u v (inr b)) t m e

reply_none : (k : ℕ) (ts : List (Act Txn)) → ((t : Act Txn) → Member t ts → t.call.call.number ≡ k → ⊥) → reply_at k ts ≡ None
reply_none k [] none = refl
reply_none k (x ∷ ts) none =
    if_false (x.call.call.number == k) (Some x.effect.reply) (reply_at k ts) (ne_eqb x.call.call.number k (none x (inl refl))) ∙ reply_none k ts (λ t m. none t (inr m))

-- there is one, or none
one_or_none : (k : ℕ) (ts : List (Act Txn)) → ((t : Act Txn) × Member t ts × (t.call.call.number ≡ k)) ⊎ ((t : Act Txn) → Member t ts → t.call.call.number ≡ k → ⊥)
one_or_none k [] = inr (λ t m e. m)
one_or_none k (x ∷ ts) = elim (cases_eq x.call.call.number k) [
  | inl e ↦ inl (x, inl refl, e)
  | inr ne ↦ elim (one_or_none k ts) [
    | inl q ↦ inl (q.0, inr q.1, q.2)
    | inr none ↦ inr (λ t m e. ⊎_elim (λ (s : x ≡ t). ne (ap (λ (y : Act Txn). y.call.call.number) s ∙ e)) (λ n. none t n e) m)
  ]
]

replies_again : (K calls : List (Act Txn)) → Apart K → Reordered K calls → (k : ℕ) → reply_at k calls ≡ reply_at k K
replies_again K calls apart same k = elim (one_or_none k K) [
  | inl q ↦ reply_of k calls (apart_reordered K calls apart same) q.0 (member_reordered calls K (reordered_sym K calls same) q.0 q.1) q.2 ∙ sym (reply_of k K apart q.0 q.1 q.2)
  | inr none ↦ reply_none k calls (λ t m e. none t (member_reordered K calls same t m) e) ∙ sym (reply_none k K none)
]

module _ (p : Plain) (K : List (Act Txn)) (h : Hidden) (g : Stands p K h) where
  -- the committed calls, in whatever order they are kept, have the fates and the history of the commit order
  pub fates_stand : (told : List (ℕ × List ℕ)) → fates_in (length p.load.calls) p.committed told ≡ fates_by (length p.load.calls) K told
  fates_stand told =
      let q = numbers_law p K h g p.committed (reordered_itself p.committed) in
      ap (λ (l : List Committed). fates_in (length p.load.calls) l told) (sym q.2) ∙ fates_same (length p.load.calls) q.0 told
      ∙ same_below (λ k. fate (reply_at (k + 1) q.0) (is_told told (k + 1))) (λ k. fate (reply_at (k + 1) K) (is_told told (k + 1))) (length p.load.calls)
      (λ k lt. ap (λ (r : Option Reply). fate r (is_told told (k + 1))) (sym (replies_again K q.0 (committed_law p K h g).1 q.1 (k + 1))))

  pub order_stands : reported_numbers p.ends p.committed ≡ map (λ (t : Act Txn). t.call.call.number) (reported p.ends K)
  order_stands =
      let q = numbers_law p K h g p.committed (reordered_itself p.committed) in
      q.3 ∙ ap (map (λ (t : Act Txn). t.call.call.number)) (again_of (setting_of p.load) K (core_of p h) g.inv q.0 q.1)

  of_committed : (P : Committed → Type 0) → ((t : Act Txn) → Member t K → P (committed_of t)) → All P p.committed
  of_committed P each k d lt =
      let (t, m, e) = member_mapped committed_of (slice_index_or p.committed k d) K (member_reordered (map committed_of K) p.committed g.order (slice_index_or p.committed k d) (at_member p.committed k d lt)) in
      subst P e (each t m)

  pub committed_numbers : All (λ c. IsNumberOf (length p.load.calls) c.number) p.committed
  committed_numbers = of_committed (λ c. IsNumberOf (length p.load.calls) c.number) (λ t m. number_is p.load.calls t.call.call.number t.call.call.call ((committed_law p K h g).0 t m).0)

  pub committed_within : All (IsWithin p.ends) p.committed
  committed_within = of_committed (IsWithin p.ends) (λ t m. ((committed_law p K h g).0 t m).2)
