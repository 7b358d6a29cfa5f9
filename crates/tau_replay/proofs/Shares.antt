-- Which workers a view steps for, and what they have in flight.
use Rattle.std.proofs.Common.{◌≡◌, ◌≢◌, ℕ, zero, suc, ◌+◌, ◌==◌, ◌<◌, ◌≤◌, Bool, true, false, List, [], ◌∷◌, ◌++◌, length, refl, ◌∙◌, arith, Option, Some, None}
use Rattle.std.specs.Prelude.{slice_get, if◌then◌else◌}
use Rattle.std.proofs.lemmas.Bool.Decides.{nat_tests}
use Rattle.tau_pool.specs.declared.item.Job.{Job}
use Rattle.tau_replay.specs.declared.view.TheConstants.{HANDS}
use Rattle.tau_replay.specs.Rule.{Hand, weigh, idle_from, all_idle, Names, rest_of, front_of, in_hand, hands_now, IsNoneOf, OthersStay}

-- each worker counts for one
abbrev pub one : ℕ → ℕ
one w = 1

-- this worker alone counts
abbrev pub this : ℕ → ℕ → ℕ
this w v = if v == w then 1 else 0

pub weigh_one : (xs : List Hand) → weigh one xs ≡ length xs
weigh_one [] = refl
weigh_one (x ∷ xs) = let r = weigh_one xs in omega arith

same_counts : (w v : ℕ) → v ≡ w → this w v ≡ 1
same_counts w v e = grind (arith, nat_tests)

other_counts : (w v : ℕ) → v ≢ w → this w v ≡ 0
other_counts w v e = grind (arith, nat_tests)

pub is_other : (w v : ℕ) → this w v ≡ 0 → v ≢ w
is_other w v e same = let r = same_counts w v same in omega arith

none_above : (w k n : ℕ) → w < k → weigh (this w) (idle_from k n) ≡ 0
none_above w k zero lt = refl
none_above w k (suc n) lt = let r = none_above w (suc k) n (omega (arith, lt)) in let o = other_counts w k (λ e. omega (arith, e, lt)) in omega arith

at_most_one : (w k n : ℕ) → weigh (this w) (idle_from k n) ≤ 1
at_most_one w k zero = omega arith
at_most_one w k (suc n) = by_test (at_most_one w (suc k) n) (k == w) refl
  where
    by_test : weigh (this w) (idle_from (suc k) n) ≤ 1 → (b : Bool) → (k == w) ≡ b → weigh (this w) (idle_from k (suc n)) ≤ 1
    by_test more true e = let same : k ≡ w = grind (arith, nat_tests) in let o = same_counts w k same in let r = none_above w (suc k) n (omega (arith, same)) in omega arith
    by_test more false e = let o : this w k ≡ 0 = grind (arith, nat_tests) in omega arith

-- each hand is one of all once, and they are so many
pub all_once : (w : ℕ) → weigh (this w) all_idle ≤ 1
unfolding all_idle
all_once w = at_most_one w 0 HANDS

one_each : (k n : ℕ) → weigh one (idle_from k n) ≡ n
one_each k zero = refl
one_each k (suc n) = let r = one_each (suc k) n in omega (arith, r)

pub all_many : weigh one all_idle ≡ HANDS
unfolding all_idle
all_many = one_each 0 HANDS

-- a worker that does not count among these is none of them
none_of : (w : ℕ) (xs : List Hand) → weigh (this w) xs ≡ 0 → IsNoneOf w xs
none_of w [] none = tt
none_of w (x ∷ xs) none = (is_other w x.0 (omega (arith, none)), none_of w xs (omega (arith, none)))

-- names stay where no worker of them is one of those that change
pub names_stay : (mine : List Hand) (old new : List (Option Job)) (xs : List Hand) → OthersStay mine old new → ((w : ℕ) → 1 ≤ weigh (this w) xs → weigh (this w) mine ≡ 0) → Names old xs → Names new xs
names_stay mine old new [] others apart names = tt
names_stay mine old new (x ∷ xs) others apart names =
    let here : this x.0 x.0 ≡ 1 = same_counts x.0 x.0 refl in (
      others x.0 (none_of x.0 mine (apart x.0 (omega (arith, here)))) ∙ names.0,
      names_stay mine old new xs others (λ w le. apart w (omega (arith, le))) names.1,
    )

pub names_append : (hands : List (Option Job)) (xs ys : List Hand) → Names hands xs → Names hands ys → Names hands (xs ++ ys)
names_append hands [] ys a b = b
names_append hands (x ∷ xs) ys a b = (a.0, names_append hands xs ys a.1 b)

pub names_rest : (hands : List (Option Job)) (xs : List Hand) → Names hands xs → Names hands (rest_of xs)
names_rest hands [] a = tt
names_rest hands (x ∷ xs) a = a.1

pub names_front : (hands : List (Option Job)) (xs : List Hand) → Names hands xs → Names hands (front_of xs)
names_front hands [] a = tt
names_front hands (x ∷ xs) a = (a.0, tt)

pub weigh_parts : (h : ℕ → ℕ) (xs : List Hand) → weigh h (rest_of xs) + weigh h (front_of xs) ≡ weigh h xs
weigh_parts h [] = refl
weigh_parts h (x ∷ xs) = omega arith

pub weigh_now : (h : ℕ → ℕ) (hands : List (Option Job)) (xs : List Hand) → weigh h (hands_now hands xs) ≡ weigh h xs
weigh_now h hands [] = refl
weigh_now h hands (x ∷ xs) = let r = weigh_now h hands xs in omega arith

-- within the list each place has something
get_some : (xs : List (Option Job)) (w : ℕ) → w < length xs → slice_get xs w ≡ Some (in_hand (slice_get xs w))
get_some [] w lt = absurd (omega (arith, lt))
get_some (x ∷ xs) zero lt = refl
get_some (x ∷ xs) (suc w) lt = get_some xs w (omega (arith, lt))

got_within : (xs : List (Option Job)) (w : ℕ) (o : Option Job) → slice_get xs w ≡ Some o → w < length xs
got_within [] w o e = absurd cc
got_within (x ∷ xs) zero o e = omega arith
got_within (x ∷ xs) (suc w) o e = let r = got_within xs w o e in omega arith

-- the workers' hands are as they are now
pub names_now : (old new : List (Option Job)) (xs : List Hand) → length old ≡ length new → Names old xs → Names new (hands_now new xs)
names_now old new [] long names = tt
names_now old new (x ∷ xs) long names = (get_some new x.0 (let l = got_within old x.0 x.1 names.0 in omega (arith, l, long)), names_now old new xs long names.1)

abbrev no_jobs : ℕ → List (Option Job)
no_jobs n = Rattle.std.specs.Prelude.replicate n None

replicated : (n w : ℕ) → w < n → slice_get (no_jobs n) w ≡ Some None
replicated zero w lt = absurd (omega (arith, lt))
replicated (suc n) zero lt = refl
replicated (suc n) (suc w) lt = replicated n w (omega (arith, lt))

names_idle : (n k m : ℕ) → k + m ≤ n → Names (no_jobs n) (idle_from k m)
names_idle n k zero le = tt
names_idle n k (suc m) le = (replicated n k (omega (arith, le)), names_idle n (suc k) m (omega (arith, le)))

pub names_all : Names (no_jobs HANDS) all_idle
unfolding all_idle
names_all = names_idle HANDS 0 HANDS (omega arith)
