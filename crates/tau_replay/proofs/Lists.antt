-- Orders that grow, and records that are left.
use Rattle.std.proofs.Common.{ℕ, zero, suc, ◌≡◌, ◌≤◌, ◌⊎◌, inl, inr, Bool, true, false, List, [], ◌∷◌, ◌++◌, map, refl, ap, subst, ◌∙◌, append_assoc, slice_index}
use Rattle.std.specs.Prelude.{Some, slice_get, if◌then◌else◌}
use Rattle.std.proofs.Math.ListN.{set}
use Rattle.tau_base.specs.Database.{Db}
use Rattle.tau_proc.specs.declared.proc.Proc.{Proc}
use Rattle.tau_model.specs.History.{Member, Reordered}
use Rattle.tau_model.specs.Logged.{Place, StartBehind, Orderly}
use Rattle.tau_model.specs.Redo.{Content, redone, redo_contents}
use Rattle.tau_model.proofs.Reorder.{reordered_itself, reordered_trans, reordered_put}
use Rattle.tau_model.proofs.Replays.{reordered_behind}
use Rattle.tau_scan.specs.declared.log.Log.{Log}
use Rattle.tau_scan.specs.Taken.{Kept}
use Rattle.tau_pool.specs.Item.{Item}
use Rattle.tau_pool.specs.declared.item.Stage.{Stage}
use Rattle.tau_pool.specs.declared.item.Stage.TheVariants.{Finished}
use Rattle.tau_pool.specs.Items.{is_left}
use Rattle.tau_pool.specs.Pooled.{staged}
use Rattle.tau_replay.specs.Recovering.{IsOf, AreOf, left_in}
use Rattle.tau_base.proofs.Logic.{some_is}

-- ---- orders

start_push : (v : List ℕ) (xs : List Place) (p : Place) → StartBehind v xs → slice_index v p.stream ≤ p.start → StartBehind v (xs ++ p ∷ [])
start_push v [] p h e = (e, tt)
start_push v (x ∷ xs) p h e = (h.0, start_push v xs p h.1 e)

pub orderly_push : (xs : List Place) (p : Place) → Orderly xs → ((x : Place) → Member x xs → slice_index x.dep p.stream ≤ p.start) → slice_index p.dep p.stream ≤ p.start → Orderly (xs ++ p ∷ [])
orderly_push [] p h all own = ((own, tt), tt)
orderly_push (x ∷ xs) p h all own = ((h.0.0, start_push x.dep xs p h.0.1 (all x (inl refl))), orderly_push xs p h.1 (λ y m. all y (inr m)) own)

pub map_push : {A B : Type 0} (f : A → B) (xs : List A) (x : A) → map f (xs ++ x ∷ []) ≡ map f xs ++ f x ∷ []
map_push f [] x = refl
map_push f (y ∷ ys) x = ap (λ zs. f y ∷ zs) (map_push f ys x)

pub member_map : {A B : Type 0} (f : A → B) (xs : List A) (b : B) → Member b (map f xs) → (a : A) × Member a xs × (f a ≡ b)
member_map f [] b m = absurd m
member_map f (x ∷ xs) b (inl e) = (x, inl refl, e)
member_map f (x ∷ xs) b (inr m) = let (a, n, e) = member_map f xs b m in (a, inr n, e)

pub pushed : {A : Type 0} (xs : List A) (r p : A) → Member p (xs ++ r ∷ []) → Member p xs ⊎ (r ≡ p)
pushed [] r p (inl e) = inr e
pushed [] r p (inr m) = absurd m
pushed (x ∷ xs) r p (inl e) = inl (inl e)
pushed (x ∷ xs) r p (inr m) = elim (pushed xs r p m) [ inl a ↦ inl (inr a) | inr b ↦ inr b ]

-- a record that was left stands at the end of the order instead
pub moved : {A : Type 0} (taken order front back : List A) (r : A) → Reordered taken (order ++ (front ++ r ∷ back)) → Reordered taken ((order ++ r ∷ []) ++ (front ++ back))
moved taken order front back r h = reordered_trans taken (order ++ (front ++ r ∷ back)) ((order ++ r ∷ []) ++ (front ++ back)) h
    (rw (append_assoc order (r ∷ []) (front ++ back)) (reordered_behind order (front ++ r ∷ back) (r ∷ (front ++ back)) (reordered_put r front back (front ++ back) (reordered_itself (front ++ back)))))

pub redo_push : (procs : List Proc) (xs : List Content) (x : Content) (db : Db) → redo_contents procs (xs ++ x ∷ []) db ≡ redone procs x (redo_contents procs xs db)
redo_push procs [] x db = refl
redo_push procs (y ∷ ys) x db = redo_push procs ys x (redone procs y db)

-- ---- records and their items

pub of_get : (log : Log) (rs : List Kept) (xs : List Item) (i : ℕ) (x : Item) → AreOf log rs xs → slice_get xs i ≡ Some x → (r : Kept) × (slice_get rs i ≡ Some r) × IsOf log r x
of_get log [] [] i x all is = absurd cc
of_get log [] (y ∷ ys) i x all is = absurd all
of_get log (r ∷ rs) [] i x all is = absurd all
of_get log (r ∷ rs) (y ∷ ys) zero x all is = (r, refl, subst (λ (q : Item). IsOf log r q) (some_is y x is) all.0)
of_get log (r ∷ rs) (y ∷ ys) (suc i) x all is = of_get log rs ys i x all.1 is

pub of_set : (log : Log) (s : Stage) (rs : List Kept) (xs : List Item) (i : ℕ) (x : Item) → slice_get xs i ≡ Some x → AreOf log rs xs → AreOf log rs (set xs i (staged s x))
of_set log s [] [] i x is all = absurd cc
of_set log s [] (y ∷ ys) i x is all = absurd all
of_set log s (r ∷ rs) [] i x is all = absurd all
of_set log s (r ∷ rs) (y ∷ ys) zero x is all = let o = subst (λ (q : Item). IsOf log r q) (some_is y x is) all.0 in (record { stream = o.stream; start = o.start; dep = o.dep; stands = o.stands }, all.1)
of_set log s (r ∷ rs) (y ∷ ys) (suc i) x is all = (all.0, of_set log s rs ys i x is all.1)

pub left_same : (s : Stage) (rs : List Kept) (xs : List Item) (i : ℕ) (x : Item) → slice_get xs i ≡ Some x → is_left s ≡ is_left x.stage → left_in rs (set xs i (staged s x)) ≡ left_in rs xs
left_same s [] xs i x is same = refl
left_same s (r ∷ rs) [] i x is same = absurd cc
left_same s (r ∷ rs) (y ∷ ys) zero x is same = let e : y ≡ x = some_is y x is in rw (same, e) refl
left_same s (r ∷ rs) (y ∷ ys) (suc i) x is same = ap (λ (qs : List Kept). if is_left y.stage then r ∷ qs else qs) (left_same s rs ys i x is same)

-- what is left has its item among those that are left
pub left_get : (log : Log) (rs : List Kept) (xs : List Item) (q : Kept) → AreOf log rs xs → Member q (left_in rs xs) → (i : ℕ) × (x : Item) × (slice_get xs i ≡ Some x) × (slice_get rs i ≡ Some q) × (is_left x.stage ≡ true) × IsOf log q x
left_get log [] xs q all m = absurd m
left_get log (r ∷ rs) [] q all m = absurd m
left_get log (r ∷ rs) (y ∷ ys) q all m = by_stage (λ n. left_get log rs ys q all.1 n) (is_left y.stage) refl m
  where
    by_stage : (Member q (left_in rs ys) → (i : ℕ) × (x : Item) × (slice_get ys i ≡ Some x) × (slice_get rs i ≡ Some q) × (is_left x.stage ≡ true) × IsOf log q x) →
        (b : Bool) → is_left y.stage ≡ b → Member q (if b then r ∷ left_in rs ys else left_in rs ys) → (i : ℕ) × (x : Item) × (slice_get (y ∷ ys) i ≡ Some x) × (slice_get (r ∷ rs) i ≡ Some q) × (is_left x.stage ≡ true) × IsOf log q x
    by_stage more true is (inl e) = (0, y, refl, ap (λ (z : Kept). Some z) e, is, subst (λ (z : Kept). IsOf log z y) e all.0)
    by_stage more true is (inr n) = let (i, x, a, b, c, d) = more n in (suc i, x, a, b, c, d)
    by_stage more false is n = let (i, x, a, b, c, d) = more n in (suc i, x, a, b, c, d)

pub left_put : (rs : List Kept) (xs : List Item) (i : ℕ) (x : Item) (r : Kept) → slice_get xs i ≡ Some x → slice_get rs i ≡ Some r → is_left x.stage ≡ true → Member r (left_in rs xs)
left_put [] xs i x r a b c = absurd cc
left_put (q ∷ rs) [] i x r a b c = absurd cc
left_put (q ∷ rs) (y ∷ ys) zero x r a b c =
    let here : is_left y.stage ≡ true = ap (λ (z : Item). is_left z.stage) (some_is y x a) ∙ c in
    rw here (inl (some_is q r b))
left_put (q ∷ rs) (y ∷ ys) (suc i) x r a b c = more (is_left y.stage) (left_put rs ys i x r a b c)
  where
    more : (d : Bool) → Member r (left_in rs ys) → Member r (if d then q ∷ left_in rs ys else left_in rs ys)
    more true m = inr m
    more false m = m

-- a record that is finished is left no more
pub left_out : (rs : List Kept) (xs : List Item) (i : ℕ) (x : Item) (r : Kept) → slice_get xs i ≡ Some x → slice_get rs i ≡ Some r → is_left x.stage ≡ true →
    (front back : List Kept) × (left_in rs xs ≡ front ++ r ∷ back) × (left_in rs (set xs i (staged Finished x)) ≡ front ++ back)
left_out [] xs i x r a b c = absurd cc
left_out (q ∷ rs) [] i x r a b c = absurd cc
left_out (q ∷ rs) (y ∷ ys) zero x r a b c =
    let here : is_left y.stage ≡ true = ap (λ (z : Item). is_left z.stage) (some_is y x a) ∙ c in
    let same : q ≡ r = some_is q r b in
    ([], left_in rs ys, rw (here, same) refl, refl)
left_out (q ∷ rs) (y ∷ ys) (suc i) x r a b c = by_stage (is_left y.stage) (left_out rs ys i x r a b c)
  where
    by_stage : (d : Bool) → ((front back : List Kept) × (left_in rs ys ≡ front ++ r ∷ back) × (left_in rs (set ys i (staged Finished x)) ≡ front ++ back)) →
        (front back : List Kept) × ((if d then q ∷ left_in rs ys else left_in rs ys) ≡ front ++ r ∷ back) × ((if d then q ∷ left_in rs (set ys i (staged Finished x)) else left_in rs (set ys i (staged Finished x))) ≡ front ++ back)
    by_stage true (front, back, e, f) = (q ∷ front, back, ap (λ (zs : List Kept). q ∷ zs) e, ap (λ (zs : List Kept). q ∷ zs) f)
    by_stage false (front, back, e, f) = (front, back, e, f)
