-- The numbers that the words of a command name are within their bounds.
use Rattle.std.proofs.Common.{ℕ, ◌-◌, ◌<◌, ◌≤◌, ◌≡◌, ◌⊎◌, inl, inr, Bool, true, false, List, [], ◌∷◌, refl, subst, arith}
use Rattle.std.specs.Prelude.{◌&&◌, nat_le, nat_lt, if◌then◌else◌, codes, Option, Some, None, option_map, option_and_then}
use Rattle.std.specs.Str.Parse.{digits_value}
use Rattle.std.proofs.lemmas.Bool.Decides.{nat_tests}
use Rattle.std.proofs.lemmas.Bool.{and_parts}
use Rattle.tau_base.specs.declared.limits.TheConstants.{MAX_CALLS, MAX_RECOVERY_WORKERS, MAX_STREAMS, MAX_WORKERS}
use Rattle.tau_base.specs.Modes.{format_of, most_streams}
use Rattle.tau_disk.specs.declared.call.Tear.{Tear}
use Rattle.tau_words.specs.declared.command.Command.{Command}
use Rattle.tau_words.specs.declared.command.Command.TheVariants.{Run, Recover, Drill, Bench, Checkpoint, Restore, Follow, Inspect, Audit}
use Rattle.tau_words.specs.declared.command.Ending.{Ending}
use Rattle.tau_words.specs.declared.command.Ending.TheVariants.{Stop, Fail}
use Rattle.tau_words.specs.Words.{Word, same_word, is_number, bounded, number_in, count_of, streams_of, workers_of, run_count_of, call_of, run_with, mode_by, wide_in, run_as, run_by, run_of_counts, run_of, recover_of, checkpoint_of, restore_of, follow_of, inspect_of, audit_of, tear_of, ending_of, drill_of, bench_of, command_on_streams, command_of}
use Rattle.tau_engine.specs.declared.limits.TheConstants.{MAX_COUNT}
use Rattle.tau_engine.specs.Drill.{is_ending}

-- the bounds of the numbers that a command names
abbrev pub IsWithin : Command → Type 0
IsWithin (Run n m mode optimistic) = ((1 ≤ n) × (n ≤ most_streams (format_of mode))) × (1 ≤ m) × (m ≤ most_streams (format_of mode))
IsWithin (Recover n p) = ((1 ≤ n) × (n ≤ MAX_STREAMS)) × (1 ≤ p) × (p ≤ MAX_RECOVERY_WORKERS)
IsWithin (Drill n m p ending) = ((1 ≤ n) × (n ≤ MAX_COUNT)) × ((1 ≤ m) × (m ≤ MAX_COUNT)) × (is_ending n ending ≡ true)
IsWithin (Bench start calls n m) = ((start ≤ 999) × (calls ≤ MAX_CALLS)) × ((1 ≤ n) × (n ≤ MAX_COUNT)) × (1 ≤ m) × (m ≤ MAX_COUNT)
IsWithin (Checkpoint n p) = ((1 ≤ n) × (n ≤ MAX_STREAMS)) × (1 ≤ p) × (p ≤ MAX_RECOVERY_WORKERS)
IsWithin (Restore n p) = ((1 ≤ n) × (n ≤ MAX_STREAMS)) × (1 ≤ p) × (p ≤ MAX_RECOVERY_WORKERS)
IsWithin (Follow n) = (1 ≤ n) × (n ≤ MAX_STREAMS)
IsWithin (Inspect n) = (1 ≤ n) × (n ≤ MAX_STREAMS)
IsWithin (Audit n m) = ((1 ≤ n) × (n ≤ MAX_STREAMS)) × (1 ≤ m) × (m ≤ MAX_WORKERS)

-- ---- steps that may give nothing

and_then_some : {A B : Type 0} (f : A → Option B) (o : Option A) (b : B) → option_and_then f o ≡ Some b → (a : A) × (o ≡ Some a) × (f a ≡ Some b)
and_then_some f None b e = absurd (cc e)
and_then_some f (Some a) b e = (a, refl, e)

map_some : {A B : Type 0} (f : A → B) (o : Option A) (b : B) → option_map f o ≡ Some b → (a : A) × (o ≡ Some a) × (f a ≡ b)
map_some f None b e = absurd (cc e)
map_some f (Some a) b e = (a, refl, cc)

one_or_other : {A : Type 0} (t : Bool) (x y c : A) → (if t then x else y) ≡ c → (x ≡ c) ⊎ (y ≡ c)
one_or_other true x y c e = inl e
one_or_other false x y c e = inr e

same_within : (d c : Command) → d ≡ c → IsWithin d → IsWithin c
same_within d c e within = subst IsWithin e within

-- ---- numbers

le_of : (j k : ℕ) → nat_le j k ≡ true → j ≤ k
le_of j k e = grind (arith, nat_tests)

both_true : (a b : Bool) → a ≡ true → b ≡ true → (a && b) ≡ true
both_true true b p q = q
both_true false b p q = p

bounded_tested : (low high n k : ℕ) → bounded low high n ≡ Some k → (nat_le low k && nat_le k high) ≡ true
bounded_tested low high n k e = by (nat_le low n && nat_le n high) refl e
  where
    by : (t : Bool) → (nat_le low n && nat_le n high) ≡ t → (if t then Some n else None) ≡ Some k → (nat_le low k && nat_le k high) ≡ true
    by true is f = let same : n ≡ k = cc in subst (λ (x : ℕ). (nat_le low x && nat_le x high) ≡ true) same is
    by false is f = absurd (cc f)

number_tested : (low high : ℕ) (word : Word) (k : ℕ) → number_in low high word ≡ Some k → (nat_le low k && nat_le k high) ≡ true
number_tested low high word k e = by (is_number word) e
  where
    by : (t : Bool) → (if t then bounded low high (digits_value 10 word) else None) ≡ Some k → (nat_le low k && nat_le k high) ≡ true
    by true f = bounded_tested low high (digits_value 10 word) k f
    by false f = absurd (cc f)

number_within : (low high : ℕ) (word : Word) (k : ℕ) → number_in low high word ≡ Some k → (low ≤ k) × (k ≤ high)
number_within low high word k e = let parts = and_parts (nat_le low k) (nat_le k high) (number_tested low high word k e) in (le_of low k parts.0, le_of k high parts.1)

-- ---- a run

room_within : (command wide : Bool) (word : Word) (k : ℕ) → run_count_of wide word ≡ Some k → (1 ≤ k) × (k ≤ most_streams (format_of (mode_by command wide)))
room_within true true word k e = number_within 1 32 word k e
room_within false true word k e = number_within 1 32 word k e
room_within true false word k e = number_within 1 16 word k e
room_within false false word k e = number_within 1 16 word k e

with_within : (command wide optimistic : Bool) (n m : Word) (c : Command) → run_with (mode_by command wide) wide optimistic n m ≡ Some c → IsWithin c
with_within command wide optimistic n m c e =
    let (streams, some, rest) = and_then_some (λ (streams : ℕ). option_map (λ (workers : ℕ). Run streams workers (mode_by command wide) optimistic) (run_count_of wide m)) (run_count_of wide n) c e in
    let (workers, also, is) = map_some (λ (workers : ℕ). Run streams workers (mode_by command wide) optimistic) (run_count_of wide m) c rest in
    let few = room_within command wide m workers also in
    same_within (Run streams workers (mode_by command wide) optimistic) c is (room_within command wide n streams some, few.0, few.1)

as_within : (command optimistic : Bool) (n m : Word) (words : List Word) (c : Command) → run_as command optimistic n m words ≡ Some c → IsWithin c
as_within command optimistic n m words c e =
    let (wide, is, rest) = and_then_some (λ (wide : Bool). run_with (mode_by command wide) wide optimistic n m) (wide_in words) c e in
    with_within command wide optimistic n m c rest

by_within : (command : Bool) (n m : Word) (words : List Word) (c : Command) → run_by command n m words ≡ Some c → IsWithin c
by_within command n m [] c e = as_within command false n m [] c e
by_within command n m (word ∷ rest) c e = elim (one_or_other (same_word word (codes "optimistic")) (run_as command true n m rest) (run_as command false n m (word ∷ rest)) (Some c) e) [
  | inl f ↦ as_within command true n m rest c f
  | inr f ↦ as_within command false n m (word ∷ rest) c f
]

counts_within : (n m : Word) (words : List Word) (c : Command) → run_of_counts n m words ≡ Some c → IsWithin c
counts_within n m [] c e = by_within false n m [] c e
counts_within n m (word ∷ rest) c e =
    elim (one_or_other (same_word word (codes "data")) (run_by false n m rest) (if same_word word (codes "command") then run_by true n m rest else run_by false n m (word ∷ rest)) (Some c) e) [
      | inl f ↦ by_within false n m rest c f
      | inr f ↦ elim (one_or_other (same_word word (codes "command")) (run_by true n m rest) (run_by false n m (word ∷ rest)) (Some c) f) [
        | inl h ↦ by_within true n m rest c h
        | inr h ↦ by_within false n m (word ∷ rest) c h
      ]
    ]

run_within : (words : List Word) (c : Command) → run_of words ≡ Some c → IsWithin c
run_within [] c e = absurd (cc e)
run_within (n ∷ []) c e = absurd (cc e)
run_within (n ∷ m ∷ rest) c e = counts_within n m rest c e

-- ---- the other commands

recover_within : (words : List Word) (c : Command) → recover_of words ≡ Some c → IsWithin c
recover_within [] c e = absurd (cc e)
recover_within (n ∷ []) c e = absurd (cc e)
recover_within (n ∷ p ∷ []) c e =
    let (streams, some, rest) = and_then_some (λ (streams : ℕ). option_map (λ (workers : ℕ). Recover streams workers) (count_of p)) (streams_of n) c e in
    let (workers, also, is) = map_some (λ (workers : ℕ). Recover streams workers) (count_of p) c rest in
    let few = number_within 1 16 p workers also in
    same_within (Recover streams workers) c is (number_within 1 32 n streams some, few.0, few.1)
recover_within (n ∷ p ∷ more ∷ words) c e = absurd (cc e)

ending_within : (n : ℕ) (how first second : Word) (ending : Ending) → 1 ≤ n → ending_of n how first second ≡ Some ending → is_ending n ending ≡ true
ending_within n how first second ending some e =
    elim (one_or_other (same_word how (codes "stop")) (option_and_then (λ (after : ℕ). option_map (λ (tear : Tear). Stop after tear) (tear_of second)) (call_of first))
    (if same_word how (codes "fail") then option_and_then (λ (stream : ℕ). option_map (λ (call : ℕ). Fail stream call) (call_of second)) (number_in 0 (n - 1) first) else None) (Some ending) e) [
      | inl f ↦
          let (after, there, rest) = and_then_some (λ (after : ℕ). option_map (λ (tear : Tear). Stop after tear) (tear_of second)) (call_of first) ending f in
          let (tear, also, is) = map_some (λ (tear : Tear). Stop after tear) (tear_of second) ending rest in
          subst (λ (x : Ending). is_ending n x ≡ true) is (number_tested 1 1000000 first after there)
      | inr f ↦ elim (one_or_other (same_word how (codes "fail")) (option_and_then (λ (stream : ℕ). option_map (λ (call : ℕ). Fail stream call) (call_of second)) (number_in 0 (n - 1) first)) None (Some ending) f) [
        | inl h ↦
            let (stream, there, rest) = and_then_some (λ (stream : ℕ). option_map (λ (call : ℕ). Fail stream call) (call_of second)) (number_in 0 (n - 1) first) ending h in
            let (call, also, is) = map_some (λ (call : ℕ). Fail stream call) (call_of second) ending rest in
            let high = (number_within 0 (n - 1) first stream there).1 in
            let below : nat_lt stream n ≡ true = lt_test stream n (omega (arith, high, some)) in
            let parts = and_parts (nat_le 1 call) (nat_le call 1000000) (number_tested 1 1000000 second call also) in
            subst (λ (x : Ending). is_ending n x ≡ true) is (both_true (nat_lt stream n && nat_le 1 call) (nat_le call 1000000) (both_true (nat_lt stream n) (nat_le 1 call) below parts.0) parts.1)
        | inr h ↦ absurd (cc h)
      ]
    ]
  where
    lt_test : (j k : ℕ) → j < k → nat_lt j k ≡ true
    lt_test j k lt = grind (arith, nat_tests)

drill_within : (words : List Word) (c : Command) → drill_of words ≡ Some c → IsWithin c
drill_within [] c e = absurd (cc e)
drill_within (n ∷ []) c e = absurd (cc e)
drill_within (n ∷ m ∷ []) c e = absurd (cc e)
drill_within (n ∷ m ∷ p ∷ []) c e = absurd (cc e)
drill_within (n ∷ m ∷ p ∷ how ∷ []) c e = absurd (cc e)
drill_within (n ∷ m ∷ p ∷ how ∷ first ∷ []) c e = absurd (cc e)
drill_within (n ∷ m ∷ p ∷ how ∷ first ∷ second ∷ more ∷ words) c e = absurd (cc e)
drill_within (n ∷ m ∷ p ∷ how ∷ first ∷ second ∷ []) c e =
    let (streams, some, e1) = and_then_some (λ (streams : ℕ). option_and_then (λ (workers : ℕ). option_and_then (λ (recovery : ℕ). option_map (λ (ending : Ending). Drill streams workers recovery ending) (ending_of streams how first second)) (count_of p)) (count_of m)) (count_of n) c e in
    let (workers, also, e2) = and_then_some (λ (workers : ℕ). option_and_then (λ (recovery : ℕ). option_map (λ (ending : Ending). Drill streams workers recovery ending) (ending_of streams how first second)) (count_of p)) (count_of m) c e1 in
    let (recovery, too, e3) = and_then_some (λ (recovery : ℕ). option_map (λ (ending : Ending). Drill streams workers recovery ending) (ending_of streams how first second)) (count_of p) c e2 in
    let (ending, ends, is) = map_some (λ (ending : Ending). Drill streams workers recovery ending) (ending_of streams how first second) c e3 in
    let many = number_within 1 16 n streams some in
    same_within (Drill streams workers recovery ending) c is (many, number_within 1 16 m workers also, ending_within streams how first second ending many.0 ends)

bench_within : (words : List Word) (c : Command) → bench_of words ≡ Some c → IsWithin c
bench_within [] c e = absurd (cc e)
bench_within (a ∷ []) c e = absurd (cc e)
bench_within (a ∷ b ∷ []) c e = absurd (cc e)
bench_within (a ∷ b ∷ n ∷ []) c e = absurd (cc e)
bench_within (a ∷ b ∷ n ∷ m ∷ more ∷ words) c e = absurd (cc e)
bench_within (a ∷ b ∷ n ∷ m ∷ []) c e =
    let (start, first, e1) = and_then_some (λ (start : ℕ). option_and_then (λ (calls : ℕ). option_and_then (λ (streams : ℕ). option_map (λ (workers : ℕ). Bench start calls streams workers) (count_of m)) (count_of n)) (number_in 0 MAX_CALLS b)) (number_in 0 999 a) c e in
    let (calls, many, e2) = and_then_some (λ (calls : ℕ). option_and_then (λ (streams : ℕ). option_map (λ (workers : ℕ). Bench start calls streams workers) (count_of m)) (count_of n)) (number_in 0 MAX_CALLS b) c e1 in
    let (streams, some, e3) = and_then_some (λ (streams : ℕ). option_map (λ (workers : ℕ). Bench start calls streams workers) (count_of m)) (count_of n) c e2 in
    let (workers, also, is) = map_some (λ (workers : ℕ). Bench start calls streams workers) (count_of m) c e3 in
    let few = number_within 1 16 m workers also in
    same_within (Bench start calls streams workers) c is (((number_within 0 999 a start first).1, (number_within 0 MAX_CALLS b calls many).1), number_within 1 16 n streams some, few.0, few.1)

-- two numbers
pair_within : (make : ℕ → ℕ → Command) (o q : Option ℕ) (c : Command) → ((k l : ℕ) → o ≡ Some k → q ≡ Some l → IsWithin (make k l)) → option_and_then (λ (k : ℕ). option_map (λ (l : ℕ). make k l) q) o ≡ Some c → IsWithin c
pair_within make o q c each e =
    let (k, some, rest) = and_then_some (λ (k : ℕ). option_map (λ (l : ℕ). make k l) q) o c e in
    let (l, also, is) = map_some (λ (l : ℕ). make k l) q c rest in
    subst IsWithin is (each k l some also)

both_within : (high : ℕ) (n p : Word) (k l : ℕ) → streams_of n ≡ Some k → number_in 1 high p ≡ Some l → ((1 ≤ k) × (k ≤ 32)) × (1 ≤ l) × (l ≤ high)
both_within high n p k l some also = (let few = number_within 1 high p l also in (number_within 1 32 n k some, few.0, few.1))

checkpoint_within : (words : List Word) (c : Command) → checkpoint_of words ≡ Some c → IsWithin c
checkpoint_within [] c e = absurd (cc e)
checkpoint_within (n ∷ []) c e = absurd (cc e)
checkpoint_within (n ∷ p ∷ []) c e = pair_within Checkpoint (streams_of n) (count_of p) c (both_within 16 n p) e
checkpoint_within (n ∷ p ∷ more ∷ words) c e = absurd (cc e)

restore_within : (words : List Word) (c : Command) → restore_of words ≡ Some c → IsWithin c
restore_within [] c e = absurd (cc e)
restore_within (n ∷ []) c e = absurd (cc e)
restore_within (n ∷ p ∷ []) c e = pair_within Restore (streams_of n) (count_of p) c (both_within 16 n p) e
restore_within (n ∷ p ∷ more ∷ words) c e = absurd (cc e)

audit_within : (words : List Word) (c : Command) → audit_of words ≡ Some c → IsWithin c
audit_within [] c e = absurd (cc e)
audit_within (n ∷ []) c e = absurd (cc e)
audit_within (n ∷ m ∷ []) c e = pair_within Audit (streams_of n) (workers_of m) c (both_within 32 n m) e
audit_within (n ∷ m ∷ more ∷ words) c e = absurd (cc e)

follow_within : (words : List Word) (c : Command) → follow_of words ≡ Some c → IsWithin c
follow_within [] c e = absurd (cc e)
follow_within (n ∷ []) c e = let (k, some, is) = map_some Follow (streams_of n) c e in subst IsWithin is (number_within 1 32 n k some)
follow_within (n ∷ more ∷ words) c e = absurd (cc e)

inspect_within : (words : List Word) (c : Command) → inspect_of words ≡ Some c → IsWithin c
inspect_within [] c e = absurd (cc e)
inspect_within (n ∷ []) c e = let (k, some, is) = map_some Inspect (streams_of n) c e in subst IsWithin is (number_within 1 32 n k some)
inspect_within (n ∷ more ∷ words) c e = absurd (cc e)

-- the first of these names that is the word
named : (t : Bool) (x y : Option Command) (c : Command) → (x ≡ Some c → IsWithin c) → (y ≡ Some c → IsWithin c) → (if t then x else y) ≡ Some c → IsWithin c
named true x y c one other e = one e
named false x y c one other e = other e

streams_within : (name : Word) (rest : List Word) (c : Command) → command_on_streams name rest ≡ Some c → IsWithin c
streams_within name rest c e =
    named (same_word name (codes "checkpoint")) (checkpoint_of rest) _ c (checkpoint_within rest c)
    (named (same_word name (codes "restore")) (restore_of rest) _ c (restore_within rest c)
    (named (same_word name (codes "follow")) (follow_of rest) _ c (follow_within rest c)
    (named (same_word name (codes "inspect")) (inspect_of rest) _ c (inspect_within rest c)
    (named (same_word name (codes "audit")) (audit_of rest) None c (audit_within rest c) (λ none. absurd (cc none)))))) e

pub command_within : (words : List Word) (c : Command) → command_of words ≡ Some c → IsWithin c
command_within [] c e = absurd (cc e)
command_within (name ∷ rest) c e =
    named (same_word name (codes "run")) (run_of rest) _ c (run_within rest c)
    (named (same_word name (codes "recover")) (recover_of rest) _ c (recover_within rest c)
    (named (same_word name (codes "drill")) (drill_of rest) _ c (drill_within rest c)
    (named (same_word name (codes "bench")) (bench_of rest) (command_on_streams name rest) c (bench_within rest c) (streams_within name rest c)))) e
