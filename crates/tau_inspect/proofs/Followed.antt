-- What an order that was followed along the records is worth.
use Rattle.std.proofs.Common.{ℕ, ◌≡◌, Bool, true, false, inl, inr, List, [], ◌∷◌, length, refl, ap, subst, ◌∙◌, not}
use Rattle.std.specs.List.{list_any}
use Rattle.std.proofs.lemmas.Bool.{cases_Bool, and_left, and_right}
use Rattle.tau_model.specs.History.{Member, updates}
use Rattle.tau_scan.specs.Taken.{Kept}
use Rattle.tau_scan.proofs.Listed.{taken_plain}
use Rattle.tau_inspect.specs.declared.verdict.Check.TheVariants as check
use Rattle.tau_inspect.specs.declared.verdict.Verdict.TheVariants as verdict
use Rattle.tau_inspect.specs.Audit.{Case, acts, has_record, is_taken, records, before, FitRows, Pass, IsVerdict}
use Rattle.tau_inspect.specs.Cases.{IsCase}
use Rattle.tau_inspect.specs.declared.walk.Walk.{Walk}
use Rattle.tau_inspect.specs.Taint.{is_missing}
use Rattle.tau_inspect.specs.Walks.{IsAt, IsFollowed, IsPassed, Walks}
use Rattle.tau_inspect.proofs.NoneMissing.{none_missing}
use Rattle.tau_inspect.proofs.Passed.{numbered_once, records_fit, replies_fit}
use Rattle.tau_inspect.proofs.Staged.{unique_order}
use Rattle.tau_inspect.proofs.Steps.{order_fits}
use Rattle.tau_inspect.proofs.Walking.{followed_is}

none_of : {A : Type 0} (p : A → Bool) (xs : List A) → ((x : A) → Member x xs → p x ≡ false) → list_any p xs ≡ false
none_of p [] h = refl
none_of p (x ∷ xs) h = rw (h x (inl refl), none_of p xs (λ y m. h y (inr m))) refl

-- all checks pass
pub followed_yes : (c : Case) → Pass c (before check.Ack) → IsFollowed c → IsVerdict c verdict.Yes
followed_yes c passed f =
    let none : list_any (is_missing (is_taken c)) (acts c) ≡ false = none_of (is_missing (is_taken c)) (acts c) (λ x m. elim (cases_Bool (updates x.effect)) [
      | inl u ↦
          let there : is_taken c x.call ≡ true = ap (λ (rs : List Kept). has_record x.call.number rs) (taken_plain c.log passed.0) ∙ f.taken x m u in
          and_right (updates x.effect) (not (is_taken c x.call)) (ap not there)
      | inr u ↦ and_left (updates x.effect) (not (is_taken c x.call)) u
    ]) in
    (none_missing c none passed, f.whole, order_fits c f.order)

-- the order was executed along the records: all checks pass
pub walked_yes : (c : Case) → IsCase c → Pass c (before check.Reply) → (first stop : Walk) → Walks c first (acts c) stop → IsAt (records c) c.log.elv first →
    IsPassed (length (records c)) (length c.log.elv) first.nexts.items stop.nexts.items → FitRows c → IsVerdict c verdict.Yes
walked_yes c is passed first stop walks at whole rows =
    let unique = unique_order c is passed.1.0 in
    let once = numbered_once c stop first walks whole unique in
    followed_yes c (passed.0, (passed.1.0, (replies_fit c stop first walks, (rows, (records_fit c stop first walks whole unique, tt))))) (followed_is c once stop first walks at)

-- the way from the first records to the ends of their streams, as it was tested
pub passed_whole : (c : Case) (all : List Kept) (first stop : Walk) (copy last : List ℕ) (count : ℕ) → all ≡ records c → copy ≡ first.nexts.items → last ≡ stop.nexts.items → count ≡ length all →
    IsAt all c.log.elv first → IsPassed count (length copy) copy last → IsPassed (length (records c)) (length c.log.elv) first.nexts.items stop.nexts.items
passed_whole c all first stop copy last count are copied ends counted at h =
    subst (λ (n : ℕ). IsPassed n (length c.log.elv) first.nexts.items stop.nexts.items) (counted ∙ ap length are)
    (subst (λ (n : ℕ). IsPassed count n first.nexts.items stop.nexts.items) (ap length copied ∙ at.nexts)
    (subst (λ (l : List ℕ). IsPassed count (length copy) l stop.nexts.items) copied
    (subst (λ (l : List ℕ). IsPassed count (length copy) copy l) ends h)))
