-- The reported history, as the report has it, stands in its own order.
use Rattle.std.proofs.Common.{ℕ, ◌≤◌, ◌<◌, Bool, true, false, ◌≡◌, inl, inr, List, [], ◌∷◌, map, refl, sym, ap, subst, ◌∙◌, arith}
use Rattle.std.specs.Prelude.{not, ◌==◌}
use Rattle.std.specs.List.{filter}
use Rattle.std.proofs.lemmas.Bool.{and_parts, eqb-true}
use Rattle.tau_model.specs.History.{Act, Member, Before, Reordered, updates}
use Rattle.tau_model.specs.Logged.{Place}
use Rattle.tau_model.specs.Committed.{place_at, place_of, has_record}
use Rattle.tau_model.specs.Reported.{ascending, in_stream, reported_of}
use Rattle.tau_model.proofs.Ascending.{ascending_unique, ascending_reordered}
use Rattle.tau_model.proofs.Sorting.{Rising, ascending_rising}
use Rattle.tau_model.proofs.Reorder.{reordered_itself}
use Rattle.tau_model.proofs.Orders.{member_reordered}
use Rattle.tau_model.proofs.Logged.{member_first, member_second, member_filtered, before_filtered}
use Rattle.tau_machine.specs.Hands.{Txn, committed_of, unplaced_at, spot_of}
use Rattle.tau_machine.specs.State.{Setting, Core}
use Rattle.tau_machine.specs.Invariant.{Invariant}
use Rattle.tau_machine.specs.Reports.{reported}
use Rattle.tau_machine.proofs.Mapped.{reported_map}
use Rattle.tau_machine.proofs.Results.{reported_theorem, committed_theorem, spot_is}
use Rattle.tau_run.specs.Run.{Committed, told_of}
use Rattle.tau_run.proofs.CommittedTold.{number_of, Apart, apart_reordered}
use Rattle.tau_run.proofs.Again.{Rises, reported_again}

abbrev kept_place : Act Txn → Place
kept_place t = place_of (committed_of t)

abbrev kept_up : Act Txn → Bool
kept_up t = has_record (committed_of t)

spot_place : (b : Bool) (t : Txn) → (b ≡ false → t.place ≡ unplaced_at t.place.dep) → place_at t.place.dep (spot_of b t) ≡ t.place
spot_place true t h = refl
spot_place false t h = sym (h refl)

-- as what is kept of it says
abbrev kept_told : Act Txn → Committed
kept_told t = record { number = t.call.call.number; call = t.call.call.call; logs = kept_up t; place = kept_place t }

map_alike : {A B : Type 0} (f g : A → B) (xs : List A) → ((x : A) → Member x xs → f x ≡ g x) → map f xs ≡ map g xs
map_alike f g [] h = refl
map_alike {B = B} f g (x ∷ xs) h = ap (λ (b : B). b ∷ map f xs) (h x (inl refl)) ∙ ap (λ (l : List B). g x ∷ l) (map_alike f g xs (λ y m. h y (inr m)))

rising_before : {A : Type 0} (key : A → ℕ) (xs : List A) → Rising key xs → (u t : A) → Before u t xs → key u ≤ key t
rising_before key [] r u t b = absurd b
rising_before key (x ∷ xs) r u t (inl b) = subst (λ k. k ≤ key t) (ap key b.0) (r.0 t b.1)
rising_before key (x ∷ xs) r u t (inr b) = rising_before key xs r.1 u t b

module _ (set : Setting) (K : List (Act Txn)) (s : Core) (g : Invariant set K s) where
  pub apart : Apart K
  apart = (committed_theorem set K s g).1

  abbrev pub history : List (Act Txn)
  history = reported s.ends K

  pub once : Reordered K history
  once = (reported_theorem set K s g K (reordered_itself K)).0

  pub there : (t : Act Txn) → Member t history → Member t K
  there t m = member_reordered K history once t m

  up_is : (t : Act Txn) → kept_up t ≡ updates t.effect
  up_is t = spot_is (updates t.effect) t.call

  place_is : (t : Act Txn) → Member t K → kept_place t ≡ t.call.place
  place_is t m = spot_place (updates t.effect) t.call (λ e. g.agrees.good.unplaced t m e)

  told_same : (t : Act Txn) → Member t K → told_of t ≡ kept_told t
  told_same t m = λ i. record { number = t.call.call.number; call = t.call.call.call; logs = sym (up_is t) i; place = sym (place_is t m) i }

  starts : (j : ℕ) → Rises (λ t. (kept_place t).start) (ascending (λ t. (kept_place t).start) (filter (in_stream kept_place kept_up j) K))
  starts j =
      let of_j : List (Act Txn) = filter (in_stream kept_place kept_up j) K in
      let up : Rises (λ t. (kept_place t).start) of_j = λ u t b.
      (let h = before_filtered (in_stream kept_place kept_up j) u t K b in
      let mu = member_filtered (in_stream kept_place kept_up j) u K (member_first u t of_j b) in
      let mt = member_filtered (in_stream kept_place kept_up j) t K (member_second u t of_j b) in
      let pu = and_parts (kept_up u) ((kept_place u).stream == j) mu.1 in
      let pt = and_parts (kept_up t) ((kept_place t).stream == j) mt.1 in
      let eu = place_is u mu.0 in
      let et = place_is t mt.0 in
      let su : u.call.place.stream ≡ j = sym (ap (λ (p : Place). p.stream) eu) ∙ eqb-true (kept_place u).stream j pu.1 in
      let st : t.call.place.stream ≡ j = sym (ap (λ (p : Place). p.stream) et) ∙ eqb-true (kept_place t).stream j pt.1 in
      let lt : u.call.place.start < t.call.place.start = g.agrees.good.good.order.logged.places.starts u t h (sym (up_is u) ∙ pu.0) (sym (up_is t) ∙ pt.0) (su ∙ sym st) in
      let ku : (kept_place u).start ≡ u.call.place.start = ap (λ (p : Place). p.start) eu in
      let kt : (kept_place t).start ≡ t.call.place.start = ap (λ (p : Place). p.start) et in
      omega (arith, lt, ku, kt)) in
      subst (Rises (λ t. (kept_place t).start)) (sym (ascending_unique (λ t. (kept_place t).start) of_j of_j up (reordered_itself of_j))) up

  numbers : Rises number_of (ascending number_of (filter (λ t. not (kept_up t)) K))
  numbers u t b =
      let readers : List (Act Txn) = filter (λ t. not (kept_up t)) K in
      let low = rising_before number_of (ascending number_of readers) (ascending_rising number_of readers) u t b in
      let other : Apart (ascending number_of readers) = apart_reordered readers (ascending number_of readers) (λ x y c e. apart x y (before_filtered (λ t. not (kept_up t)) x y K c) e) (ascending_reordered number_of readers) in
      below (number_of u) (number_of t) low (other u t b)
    where
      below : (a c : ℕ) → a ≤ c → (a ≡ c → ⊥) → a < c
      below a c le ne = grind (arith, ne)

  -- the calls in any order have the same history
  pub again_of : (calls : List (Act Txn)) → Reordered K calls → reported s.ends calls ≡ reported s.ends K
  again_of calls same = reported_again kept_place kept_up number_of s.ends K calls same starts numbers

  again : reported s.ends history ≡ history
  again = again_of history once

  pub in_order : map told_of history ≡ reported_of (λ (c : Committed). c.place) (λ c. c.logs) (λ c. c.number) s.ends (map told_of history)
  in_order =
      let same : map told_of history ≡ map kept_told history = map_alike told_of kept_told history (λ t m. told_same t (there t m)) in
      let natural : map kept_told (reported s.ends history) ≡ reported_of (λ (c : Committed). c.place) (λ c. c.logs) (λ c. c.number) s.ends (map kept_told history) =
      reported_map kept_told (λ (c : Committed). c.place) (λ c. c.logs) (λ c. c.number) s.ends history in
      same ∙ ap (map kept_told) (sym again) ∙ natural ∙ ap (reported_of (λ (c : Committed). c.place) (λ c. c.logs) (λ c. c.number) s.ends) (sym same)
