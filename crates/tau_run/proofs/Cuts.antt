-- What a cut of a stream holds.
use Rattle.std.proofs.Common.{ℕ, zero, suc, ◌≤◌, ◌<◌, Bool, true, false, ◌≡◌, List, [], ◌∷◌, ◌++◌, take, refl, sym, ap, arith}
use Rattle.std.specs.Prelude.{nat_le}
use Rattle.std.specs.List.{filter}
use Rattle.std.proofs.lemmas.Bool.Decides.{nat_tests}
use Rattle.tau_model.specs.History.{Act}
use Rattle.tau_machine.specs.Hands.{Txn}
use Rattle.tau_machine.specs.Pieces.{Chain, records_in}
use Rattle.tau_machine.specs.State.{Item, Record, Anchor}
use Rattle.tau_machine.proofs.Pieces.{chain_low}

-- the record ends at or below this place
abbrev pub ends_by : ℕ → Act Txn → Bool
ends_by c t = nat_le t.call.place.past c

le_true : (a b : ℕ) → a ≤ b → nat_le a b ≡ true
le_true a b h = grind (arith, nat_tests)

le_false : (a b : ℕ) → b < a → nat_le a b ≡ false
le_false a b h = grind (arith, nat_tests)

pub chain_none : (a b c : ℕ) (items : List Item) → Chain a items b → c ≤ a → filter (ends_by c) (records_in items) ≡ []
chain_none a b c [] h le = refl
chain_none a b c (Record t ∷ items) h le =
    let lt : c < t.call.place.past = (let f = h.1 in omega (arith, f, le)) in
    rw (le_false t.call.place.past c lt) (chain_none t.call.place.past b c items h.2 (omega (arith, lt)))
chain_none a b c (Anchor x y v ∷ items) h le = chain_none y b c items h.2 (let f = h.1 in omega (arith, f, le))

pub record Taken (a b : ℕ) (items : List Item) (i : ℕ) : Type 0 where
  pub end : ℕ
  pub chain : Chain a (take i items) end
  pub within : end ≤ b
  pub records : records_in (take i items) ≡ filter (ends_by end) (records_in items)
  pub count : ℕ
  pub firsts : records_in (take i items) ≡ take count (records_in items)

pub chain_take : (a b : ℕ) (items : List Item) (i : ℕ) → Chain a items b → Taken a b items i
chain_take a b items zero h = record { end = a; chain = refl; within = chain_low a b items h; records = sym (chain_none a b a items h (omega arith)); count = 0; firsts = refl }
chain_take a b [] (suc i) h = record { end = a; chain = refl; within = omega (arith, h); records = refl; count = 0; firsts = refl }
chain_take a b (Record t ∷ items) (suc i) h =
    let q = chain_take t.call.place.past b items i h.2 in
    let low = chain_low t.call.place.past q.end (take i items) q.chain in
    record {
      end = q.end;
      chain = (h.0, h.1, q.chain);
      within = q.within;
      records = rw (le_true t.call.place.past q.end low) (ap (λ (l : List (Act Txn)). t ∷ l) q.records);
      count = suc q.count;
      firsts = ap (λ (l : List (Act Txn)). t ∷ l) q.firsts;
    }
chain_take a b (Anchor x y v ∷ items) (suc i) h =
    let q = chain_take y b items i h.2 in
    record { end = q.end; chain = (h.0, h.1, q.chain); within = q.within; records = q.records; count = q.count; firsts = q.firsts }

-- the first elements of a list are the first ones of a longer one
pub take_within : {A : Type 0} (xs ys : List A) (i : ℕ) → (k : ℕ) × (take i xs ≡ take k (xs ++ ys))
take_within xs ys zero = (0, refl)
take_within [] ys (suc i) = (0, refl)
take_within {A} (x ∷ xs) ys (suc i) = let q = take_within xs ys i in (suc q.0, ap (λ (l : List A). x ∷ l) q.1)
