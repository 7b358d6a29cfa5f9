-- The reported history does not depend on the order in which the calls are given.
use Rattle.std.proofs.Common.{ℕ, ◌<◌, Bool, ◌≡◌, List, length, sym, ap, ◌∙◌}
use Rattle.std.specs.Prelude.{not}
use Rattle.std.specs.List.{filter}
use Rattle.tau_model.specs.History.{Before, Reordered}
use Rattle.tau_model.specs.Logged.{Place}
use Rattle.tau_model.specs.Reported.{Left, ascending, each, in_stream, left_of, reported_within, reported_of}
use Rattle.tau_model.proofs.Ascending.{ascending_unique, ascending_reordered}
use Rattle.tau_model.proofs.Reorder.{reordered_sym, reordered_trans, reordered_filter, reordered_length}

-- from the first on the key is higher
abbrev pub Rises : {A : Type 0} → (A → ℕ) → List A → Type 0
Rises {A} key xs = (u t : A) → Before u t xs → key u < key t

pub ascending_again : {A : Type 0} (key : A → ℕ) (xs ys : List A) → Rises key (ascending key xs) → Reordered xs ys → ascending key ys ≡ ascending key xs
ascending_again key xs ys up r =
    ascending_unique key (ascending key xs) ys up (reordered_trans (ascending key xs) xs ys (reordered_sym xs (ascending key xs) (ascending_reordered key xs)) r)

pub reported_again : {A : Type 0} (place : A → Place) (up : A → Bool) (number : A → ℕ) (ends : List ℕ) (K H : List A) → Reordered K H →
    ((j : ℕ) → Rises (λ x. (place x).start) (ascending (λ x. (place x).start) (filter (in_stream place up j) K))) →
    Rises number (ascending number (filter (λ x. not (up x)) K)) → reported_of place up number ends H ≡ reported_of place up number ends K
reported_again {A} place up number ends K H r starts numbers =
    let readers : ascending number (filter (λ x. not (up x)) H) ≡ ascending number (filter (λ x. not (up x)) K) =
    ascending_again number (filter (λ x. not (up x)) K) (filter (λ x. not (up x)) H) numbers (reordered_filter (λ x. not (up x)) K H r) in
    let streams : (j : ℕ) → ascending (λ x. (place x).start) (filter (in_stream place up j) H) ≡ ascending (λ x. (place x).start) (filter (in_stream place up j) K) =
    λ j. ascending_again (λ x. (place x).start) (filter (in_stream place up j) K) (filter (in_stream place up j) H) (starts j) (reordered_filter (in_stream place up j) K H r) in
    let left : left_of place up number (length ends) H ≡ left_of place up number (length ends) K = λ i. record { readers = readers i; streams = each (length ends) (λ j. streams j i) } in
    ap (λ (n : ℕ). reported_within place n ends (left_of place up number (length ends) H)) (sym (reordered_length K H r))
    ∙ ap (λ (l : Left A). reported_within place (length K) ends l) left
