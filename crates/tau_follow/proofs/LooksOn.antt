-- Of a stream more records are read, and looked at.
use Rattle.std.proofs.Common.{ℕ, zero, suc, ◌+◌, ◌≤◌, ◌<◌, true, false, ◌≡◌, ◌⊎◌, inl, inr, List, [], ◌∷◌, ◌++◌, length, drop, set, Some, sym, ap, subst, ◌∙◌, arith}
use Rattle.std.specs.Prelude.{slice_get, nat_lt}
use Rattle.std.specs.List.{Contains}
use Rattle.std.specs.Global.{Vec}
use Rattle.std.proofs.lemmas.Bool.{cases_Bool}
use Rattle.std.proofs.lemmas.Bool.Decides.{nat_tests}
use Rattle.std.proofs.lemmas.List.{length-append, length-drop}
use Rattle.std.proofs.lemmas.Option.{same_Some}
use Rattle.tau_base.proofs.Lists.{got_within, get_set_same, get_set_other}
use Rattle.tau_epoch.specs.Epochs.{Mark}
use Rattle.tau_record.specs.declared.entry.Placed.{Placed}
use Rattle.tau_record.specs.Record.{epoch_after}
use Rattle.tau_follow.specs.declared.stage.Stage.{Stage}
use Rattle.tau_follow.specs.declared.waits.Waits.{Waits}
use Rattle.tau_follow.specs.Applying.{first_stages, is_open_stage}
use Rattle.tau_follow.specs.Judging.{judged_in}
use Rattle.tau_follow.specs.Queue.{Wait, spot_at}
use Rattle.tau_follow.specs.Waits.{IsQueued, AreFound, AreKept, IsMore}
use Rattle.tau_follow.proofs.Queued.{got_set}

judged_long : (known : List Mark) (k : ℕ) (ps : List Placed) (ss : List Stage) → length (judged_in known k ps ss) ≤ length ps
judged_long known k [] ss = omega arith
judged_long known k (p ∷ ps) [] = omega arith
judged_long known k (p ∷ ps) (s ∷ ss) = let h = judged_long known (epoch_after k p.entry) ps ss in omega (arith, h)

pub judged_within : (known : List Mark) (k stood : ℕ) (ps : List Placed) → stood ≤ length ps → stood + length (judged_in known k (drop stood ps) (first_stages (drop stood ps))) ≤ length ps
judged_within known k stood ps le =
    let h = judged_long known k (drop stood ps) (first_stages (drop stood ps)) in
    let d = length-drop stood ps in
    omega (arith, h, d, le)

front_got : {A : Type 0} (xs ys : List A) (i : ℕ) (y : A) → i < length xs → slice_get (xs ++ ys) i ≡ Some y → slice_get xs i ≡ Some y
front_got [] ys i y lt e = absurd (omega (arith, lt))
front_got (x ∷ xs) ys zero y lt e = e
front_got (x ∷ xs) ys (suc i) y lt e = front_got xs ys i y (omega (arith, lt)) e

less_is : (a b : ℕ) → nat_lt a b ≡ true → a < b
less_is a b e = grind (arith, nat_tests)

at_least : (a b : ℕ) → nat_lt a b ≡ false → b ≤ a
at_least a b e = grind (arith, nat_tests)

module _ (old : List (List Placed)) (stages : List (List Stage)) (j : ℕ) (before news : List Placed) (stood added : List Stage) (long : ℕ) (a b : Waits) (there : slice_get old j ≡ Some before) (stands : slice_get stages j ≡ Some stood)
    (as_long : length stood ≡ length before) (more : IsMore a b) (looked : (i : ℕ) → length stood ≤ i → i < long → Contains b.looked.items (spot_at j i)) (within : length stood + length added ≤ long) where
  abbrev now : List (List Placed)
  now = set old j (before ++ news)

  asked_here : (l i : ℕ) → (l ≡ j) → i < length stood → IsQueued old a.queues.items l i → IsQueued now b.queues.items l i
  asked_here l i e lt w = record {
    k = w.k;
    queue = w.queue;
    wait = w.wait;
    there = ap (λ (v : Vec (List Wait)). slice_get v.items w.k) more.queues ∙ w.there;
    among = w.among;
    of = w.of;
    asked = λ ps p x y.
        (let is : ps ≡ before ++ news = same_Some ps (before ++ news) (sym x ∙ ap (slice_get now) e ∙ get_set_same old j (before ++ news) (got_within old j before there)) in
        w.asked before p (ap (slice_get old) e ∙ there) (front_got before news i p (omega (arith, lt, as_long)) (ap (λ (z : List Placed). slice_get z i) (sym is) ∙ y)));
  }

  asked_other : (l i : ℕ) → (l ≡ j → ⊥) → IsQueued old a.queues.items l i → IsQueued now b.queues.items l i
  asked_other l i other w = record {
    k = w.k;
    queue = w.queue;
    wait = w.wait;
    there = ap (λ (v : Vec (List Wait)). slice_get v.items w.k) more.queues ∙ w.there;
    among = w.among;
    of = w.of;
    asked = λ ps p x y. w.asked ps p (sym (get_set_other old j l (before ++ news) other) ∙ x) y;
  }

  found_on : AreFound old stages a.looked.items a.queues.items → AreFound now (set stages j (stood ++ added)) b.looked.items b.queues.items
  found_on h = λ l i ss s x y o. (elim (got_set stages j l (stood ++ added) ss x) [
    | inl w ↦ here l i w.0 s (ap (λ (z : List Stage). slice_get z i) w.1 ∙ y) o
    | inr w ↦ (elim (h l i ss s w.1 y o) [ inl c ↦ inl (more.kept (spot_at l i) c) | inr q ↦ inr (asked_other l i w.0 q) ])
  ])
    where
      here : (l i : ℕ) → (l ≡ j) → (s : Stage) → slice_get (stood ++ added) i ≡ Some s → is_open_stage s ≡ true → Contains b.looked.items (spot_at l i) ⊎ IsQueued now b.queues.items l i
      here l i e s y o = elim (cases_Bool (nat_lt i (length stood))) [
        | inl t ↦
            let lt = less_is i (length stood) t in
            (elim (h l i stood s (ap (slice_get stages) e ∙ stands) (front_got stood added i s lt y) o) [ inl c ↦ inl (more.kept (spot_at l i) c) | inr q ↦ inr (asked_here l i e lt q) ])
        | inr f ↦
            let le = at_least i (length stood) f in
            let lt = got_within (stood ++ added) i s y in
            let all = length-append stood added in
            inl (subst (λ (n : ℕ). Contains b.looked.items (spot_at n i)) (sym e) (looked i le (omega (arith, lt, all, within))))
      ]

  -- what was known of what waits is known still
  pub kept_on : AreKept old stages a → AreKept now (set stages j (stood ++ added)) b
  kept_on (inl lost) = inl (more.lost ∙ lost)
  kept_on (inr h) = inr (found_on h)
