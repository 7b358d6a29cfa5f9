-- The taken records of a log, and their items.
use Rattle.std.proofs.Common.{ℕ, suc, ◌≡◌, ◌+◌, inl, inr, Bool, true, false, List, [], ◌∷◌, ◌++◌, refl, sym, ap, subst, ◌∙◌, arith, slice_index}
use Rattle.std.specs.Prelude.{Some, slice_get, nat_le, if◌then◌else◌}
use Rattle.std.specs.List.{filter}
use Rattle.std.proofs.lemmas.Bool.Decides.{nat_tests}
use Rattle.tau_base.specs.Vectors.{AtMost, covers}
use Rattle.tau_base.proofs.Logic.{zeros}
use Rattle.tau_model.specs.History.{Member}
use Rattle.tau_model.proofs.Logged.{member_filtered}
use Rattle.tau_record.specs.declared.entry.Entry.{Entry}
use Rattle.tau_record.specs.declared.entry.Entry.TheVariants.{Written, Command, Anchor, Catalogue, Epoch}
use Rattle.tau_record.specs.declared.entry.Placed.{Placed}
use Rattle.tau_record.specs.Record.{epoch_after}
use Rattle.tau_scan.specs.declared.log.Log.{Log}
use Rattle.tau_scan.specs.Epochs.{marks_of, judge_of}
use Rattle.tau_scan.specs.Taken.{Kept, kept_as, taken_in, taken_from, taken}
use Rattle.tau_scan.proofs.Known.{judged_low}
use Rattle.tau_pool.specs.Item.{Item}
use Rattle.tau_pool.specs.declared.item.Stage.TheVariants.{Waiting, Flying, Finished}
use Rattle.tau_pool.specs.declared.item.Stage.{Stage}
use Rattle.tau_pool.specs.Items.{is_left, is_waiting, dep_of, item_as, with_item, items_in, items_from, is_after, item_after, items_after}
use Rattle.tau_pool.proofs.Gets.{member_either}
use Rattle.tau_replay.specs.Redone.{kept_after, taken_after}
use Rattle.tau_replay.specs.Course.{Course, whole, IsPart}
use Rattle.tau_replay.specs.Recovering.{IsOf, AreOf, left_in}

-- whether the vector covers that of the record
abbrev is_kept : List ℕ → Kept → Bool
is_kept lv r = covers lv r.place.dep

are_append : (log : Log) (rs qs : List Kept) (xs ys : List Item) → AreOf log rs xs → AreOf log qs ys → AreOf log (rs ++ qs) (xs ++ ys)
are_append log [] qs [] ys a b = b
are_append log [] qs (x ∷ xs) ys a b = absurd a
are_append log (r ∷ rs) qs [] ys a b = absurd a
are_append log (r ∷ rs) qs (x ∷ xs) ys a b = (a.0, are_append log rs qs xs ys a.1 b)

one_kept : (log : Log) (lv : List ℕ) (j i : ℕ) (records : List Placed) (p : Placed) (rs : List Kept) (xs : List Item) → slice_get log.streams j ≡ Some records → slice_get records i ≡ Some p → AreOf log rs xs →
    (e : Entry) → p.entry ≡ e → AreOf log (filter (is_kept lv) (kept_as j p e) ++ rs) (with_item (item_as lv j i p.start (dep_of e)) xs)
one_kept log lv j i records p rs xs stream there rest (Anchor v) is = rest
one_kept log lv j i records p rs xs stream there rest (Catalogue text) is = rest
one_kept log lv j i records p rs xs stream there rest (Epoch number v) is = rest
one_kept log lv j i records p rs xs stream there rest (Written number anchor dep writes) is = by_test (covers lv dep) refl
  where
    by_test : (b : Bool) → covers lv dep ≡ b → AreOf log (filter (is_kept lv) (kept_as j p (Written number anchor dep writes)) ++ rs) (with_item (item_as lv j i p.start (Some dep)) xs)
    by_test true c = rw c (record { stream = refl; start = refl; dep = refl; stands = record { records = records; placed = p; stream = stream; there = there; is = ap (λ (e : Entry). kept_as j p e) is } }, rest)
    by_test false c = rw c rest
one_kept log lv j i records p rs xs stream there rest (Command number anchor dep call) is = by_test (covers lv dep) refl
  where
    by_test : (b : Bool) → covers lv dep ≡ b → AreOf log (filter (is_kept lv) (kept_as j p (Command number anchor dep call)) ++ rs) (with_item (item_as lv j i p.start (Some dep)) xs)
    by_test true c = rw c (record { stream = refl; start = refl; dep = refl; stands = record { records = records; placed = p; stream = stream; there = there; is = ap (λ (e : Entry). kept_as j p e) is } }, rest)
    by_test false c = rw c rest

of_stream : (log : Log) (judge : ℕ → List ℕ) (j k i : ℕ) (records rest : List Placed) → slice_get log.streams j ≡ Some records → ((m : ℕ) → slice_get records (i + m) ≡ slice_get rest m) →
    AreOf log (taken_in judge j k rest) (items_in judge j k i rest)
of_stream log judge j k i records [] stream at = tt
of_stream log judge j k i records (p ∷ ps) stream at =
    one_kept log (judge k) j i records p (taken_in judge j (epoch_after k p.entry) ps) (items_in judge j (epoch_after k p.entry) (suc i) ps) stream (ap (λ (n : ℕ). slice_get records n) (omega arith) ∙ at 0)
    (of_stream log judge j (epoch_after k p.entry) (suc i) records ps stream (λ m. ap (λ (n : ℕ). slice_get records n) (omega arith) ∙ at (suc m))) p.entry refl

of_streams : (log : Log) (judge : ℕ → List ℕ) (j : ℕ) (streams : List (List Placed)) → ((m : ℕ) → slice_get log.streams (j + m) ≡ slice_get streams m) → AreOf log (taken_from judge j streams) (items_from judge j streams)
of_streams log judge j [] at = tt
of_streams log judge j (ps ∷ streams) at =
    are_append log (taken_in judge j 0 ps) (taken_from judge (suc j) streams) (items_in judge j 0 0 ps) (items_from judge (suc j) streams)
    (of_stream log judge j 0 0 ps ps (ap (λ (n : ℕ). slice_get log.streams n) (omega arith) ∙ at 0) (λ m. ap (λ (n : ℕ). slice_get ps n) (omega arith)))
    (of_streams log judge (suc j) streams (λ m. ap (λ (n : ℕ). slice_get log.streams n) (omega arith) ∙ at (suc m)))

pub of_taken : (log : Log) → AreOf log (taken log) (items_from (judge_of log) 0 log.streams)
of_taken log = of_streams log (judge_of log) 0 log.streams (λ m. ap (λ (n : ℕ). slice_get log.streams n) (omega arith))

pub all_left : (log : Log) (rs : List Kept) (xs : List Item) → AreOf log rs xs → ((x : Item) → Member x xs → is_waiting x.stage ≡ true) → left_in rs xs ≡ rs
all_left log [] xs all w = refl
all_left log (r ∷ rs) [] all w = absurd all
all_left log (r ∷ rs) (x ∷ xs) all w =
    let here : is_left x.stage ≡ true = waits_left x.stage (w x (inl refl)) in
    rw here (ap (λ (qs : List Kept). r ∷ qs) (all_left log rs xs all.1 (λ y m. w y (inr m))))
  where
    waits_left : (s : Stage) → is_waiting s ≡ true → is_left s ≡ true
    waits_left Waiting is = refl
    waits_left Flying is = absurd cc
    waits_left Finished is = absurd cc

pub kept_passes : {A : Type 0} (p : A → Bool) (xs : List A) (x : A) → Member x (filter p xs) → p x ≡ true
kept_passes p [] x m = absurd m
kept_passes p (y ∷ ys) x m = by_test (λ n. kept_passes p ys x n) (p y) refl m
  where
    by_test : (Member x (filter p ys) → p x ≡ true) → (b : Bool) → p y ≡ b → Member x (filter p (y ∷ ys)) → p x ≡ true
    by_test more true e m = elim (subst (λ (b : Bool). Member x (if b then y ∷ filter p ys else filter p ys)) e m) [ inl is ↦ subst (λ z. p z ≡ true) is e | inr n ↦ more n ]
    by_test more false e m = more (subst (λ (b : Bool). Member x (if b then y ∷ filter p ys else filter p ys)) e m)

-- a taken record is covered by the vector of some epoch
in_stream : (judge : ℕ → List ℕ) (j k : ℕ) (ps : List Placed) (r : Kept) → Member r (taken_in judge j k ps) → (n : ℕ) × (covers (judge n) r.place.dep ≡ true)
in_stream judge j k [] r m = absurd m
in_stream judge j k (p ∷ ps) r m = elim (member_either (filter (is_kept (judge k)) (kept_as j p p.entry)) (taken_in judge j (epoch_after k p.entry) ps) r m) [
  | inl n ↦ (k, kept_passes (is_kept (judge k)) (kept_as j p p.entry) r n)
  | inr n ↦ in_stream judge j (epoch_after k p.entry) ps r n
]

in_streams : (judge : ℕ → List ℕ) (j : ℕ) (streams : List (List Placed)) (r : Kept) → Member r (taken_from judge j streams) → (n : ℕ) × (covers (judge n) r.place.dep ≡ true)
in_streams judge j [] r m = absurd m
in_streams judge j (ps ∷ streams) r m = elim (member_either (taken_in judge j 0 ps) (taken_from judge (suc j) streams) r m) [ inl n ↦ in_stream judge j 0 ps r n | inr n ↦ in_streams judge (suc j) streams r n ]

pub taken_covered : (log : Log) (r : Kept) → Member r (taken log) → AtMost r.place.dep log.elv
taken_covered log r m = let (k, covered) = in_streams (judge_of log) 0 log.streams r m in judged_low log.elv (marks_of log) k r.place.dep covered

-- ---- those that start at or after a place of their stream

after_same : (log : Log) (from : List ℕ) (r : Kept) (x : Item) → IsOf log r x → kept_after from r ≡ item_after from x
after_same log from r x o = ap (λ (j : ℕ). is_after from j r.place.start) (sym o.stream) ∙ ap (λ (n : ℕ). is_after from x.stream n) (sym o.start)

of_filter : (log : Log) (from : List ℕ) (rs : List Kept) (xs : List Item) → AreOf log rs xs → AreOf log (filter (kept_after from) rs) (filter (item_after from) xs)
of_filter log from [] [] a = tt
of_filter log from [] (x ∷ xs) a = absurd a
of_filter log from (r ∷ rs) [] a = absurd a
of_filter log from (r ∷ rs) (x ∷ xs) a = by_test (kept_after from r) (item_after from x) (after_same log from r x a.0) (of_filter log from rs xs a.1)
  where
    by_test : (b c : Bool) → b ≡ c → AreOf log (filter (kept_after from) rs) (filter (item_after from) xs) →
        AreOf log (if b then r ∷ filter (kept_after from) rs else filter (kept_after from) rs) (if c then x ∷ filter (item_after from) xs else filter (item_after from) xs)
    by_test true true e rest = (a.0, rest)
    by_test true false e rest = absurd cc
    by_test false true e rest = absurd cc
    by_test false false e rest = rest

pub of_after : (log : Log) (from : List ℕ) → AreOf log (taken_after from log) (items_after from (judge_of log) log.streams)
of_after log from = of_filter log from (taken log) (items_from (judge_of log) 0 log.streams) (of_taken log)

pub part_covered : (log : Log) (course : Course) → IsPart log course → (r : Kept) → Member r course.records → AtMost r.place.dep log.elv
part_covered log course (from, is) r m = taken_covered log r (member_filtered (kept_after from) r (taken log) (subst (λ (rs : List Kept). Member r rs) is m)).0

-- from the beginning of each stream nothing is left out
pub all_kept : (from : List ℕ) → ((j : ℕ) → slice_index from j ≡ 0) → (rs : List Kept) → filter (kept_after from) rs ≡ rs
all_kept from zero_at [] = refl
all_kept from zero_at (r ∷ rs) = rw (is_low (slice_index from r.place.stream) r.place.start (zero_at r.place.stream)) (ap (λ (qs : List Kept). r ∷ qs) (all_kept from zero_at rs))
  where
    is_low : (a b : ℕ) → a ≡ 0 → nat_le a b ≡ true
    is_low a b e = grind (arith, nat_tests)

pub whole_part : (log : Log) → IsPart log (whole log)
whole_part log = ([], sym (all_kept [] (λ j. zeros 0 j) (taken log)))
