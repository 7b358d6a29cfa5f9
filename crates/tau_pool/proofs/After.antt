-- Records that start at or after a place of their stream.
use Rattle.std.proofs.Common.{ℕ, ◌≡◌, ◌<◌, ◌≤◌, Bool, true, false, List, [], ◌∷◌, replicate, refl, ap, arith, slice_index}
use Rattle.std.specs.Prelude.{nat_le, if◌then◌else◌}
use Rattle.std.specs.List.{filter}
use Rattle.std.proofs.lemmas.Bool.Decides.{nat_tests}
use Rattle.tau_base.proofs.Logic.{zeros}
use Rattle.tau_model.proofs.Logged.{member_filtered}
use Rattle.tau_pool.specs.Item.{Item}
use Rattle.tau_pool.specs.Items.{is_after, item_after}
use Rattle.tau_pool.specs.Passing.{Ordered}

-- ---- a record that is kept or passed over

one_kept : (from : List ℕ) (x : Item) → is_after from x.stream x.start ≡ true → filter (item_after from) (x ∷ []) ≡ x ∷ []
one_kept from x yes' = rw yes' refl

-- ---- some of the records, in their order

pub ordered_filter : (p : Item → Bool) (xs : List Item) → Ordered xs → Ordered (filter p xs)
ordered_filter p [] h = tt
ordered_filter p (x ∷ xs) h = by_test (p x) (ordered_filter p xs h.1)
  where
    by_test : (b : Bool) → Ordered (filter p xs) → Ordered (if b then x ∷ filter p xs else filter p xs)
    by_test true rest = (λ y m. h.0 y (member_filtered p y xs m).0, rest)
    by_test false rest = rest

-- ---- from the beginning of each stream all are kept

pub all_after : (from : List ℕ) → ((j : ℕ) → slice_index from j ≡ 0) → (xs : List Item) → filter (item_after from) xs ≡ xs
all_after from zero_at [] = refl
all_after from zero_at (x ∷ xs) = rw (is_low (slice_index from x.stream) x.start (zero_at x.stream)) (ap (λ (ys : List Item). x ∷ ys) (all_after from zero_at xs))
  where
    is_low : (a b : ℕ) → a ≡ 0 → nat_le a b ≡ true
    is_low a b e = grind (arith, nat_tests)

pub zeros_after : (n : ℕ) (xs : List Item) → filter (item_after (replicate n 0)) xs ≡ xs
zeros_after n xs = all_after (replicate n 0) (λ j. zeros n j) xs
