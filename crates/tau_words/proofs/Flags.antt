-- A command has no word that begins with a hyphen.
use Rattle.std.proofs.Common.{◌≡◌, ◌⊎◌, ℕ, ◌-◌, Bool, true, false, cond, List, [], ◌∷◌, Option, Some, None, refl, ap, ◌∙◌, inl, inr}
use Rattle.std.specs.Prelude.{◌||◌, codes, option_map, option_and_then}
use Rattle.std.proofs.lemmas.Bool.{eqb-true}
use Rattle.tau_base.specs.declared.value.LogMode.{LogMode}
use Rattle.tau_disk.specs.declared.call.Tear.{Tear}
use Rattle.tau_words.specs.declared.command.Ending.{Ending}
use Rattle.tau_words.specs.declared.command.Ending.TheVariants.{Stop, Fail}
use Rattle.tau_words.specs.declared.command.Command.TheVariants.{Drill}
use Rattle.tau_words.specs.Words.{Word, same_word, is_number, number_in, count_of, streams_of, call_of, run_count_of, run_with, wide_in, run_as, run_by, run_of_counts, run_of, recover_of, checkpoint_of, restore_of, follow_of, inspect_of, audit_of, tear_of, ending_of, drill_of, bench_of, command_of}
use Rattle.tau_words.specs.Split.{is_flag, has_flag}
use Rattle.tau_words.proofs.Lengths.{one_of}

flag_is : (word : Word) → is_flag word ≡ true → (cs : Word) × (word ≡ 45 ∷ cs)
flag_is [] h = absurd cc
flag_is (c ∷ cs) h = (cs, ap (λ (x : ℕ). x ∷ cs) (eqb-true c 45 h))

-- what holds of each word that begins with a hyphen
along : {A : Type 0} (f : Word → A) (a : A) (word : Word) → is_flag word ≡ true → ((cs : Word) → f (45 ∷ cs) ≡ a) → f word ≡ a
along f a word h each = let is = flag_is word h in ap f is.1 ∙ each is.0

no_number : (word : Word) → is_flag word ≡ true → is_number word ≡ false
no_number word h = along is_number false word h each
  where
    each : (cs : Word) → is_number (45 ∷ cs) ≡ false
    each [] = refl
    each (d ∷ cs) = refl

none_in : (low high : ℕ) (word : Word) → is_flag word ≡ true → number_in low high word ≡ None
none_in low high word h = rw (no_number word h) refl

no_tear : (word : Word) → is_flag word ≡ true → tear_of word ≡ None
no_tear word h = along tear_of None word h (λ cs. refl)

and_none : {A B : Type 0} (f : A → Option B) (o : Option A) → ((x : A) → f x ≡ None) → option_and_then f o ≡ None
and_none f None h = refl
and_none f (Some x) h = h x

or_cases : (x y : Bool) → (x || y) ≡ true → (x ≡ true) ⊎ (y ≡ true)
or_cases true y h = inl refl
or_cases false y h = inr h

no_count : (wide : Bool) (word : Word) → is_flag word ≡ true → run_count_of wide word ≡ None
no_count true word h = none_in 1 32 word h
no_count false word h = none_in 1 16 word h

-- a hyphen before one of the counts
no_run_with : (mode : LogMode) (wide optimistic : Bool) (n m : Word) → (is_flag n ≡ true) ⊎ (is_flag m ≡ true) → run_with mode wide optimistic n m ≡ None
no_run_with mode wide optimistic n m (inl h) = rw (no_count wide n h) refl
no_run_with mode wide optimistic n m (inr h) = and_none _ (run_count_of wide n) (λ streams. rw (no_count wide m h) refl)

no_run_as : (command optimistic : Bool) (n m : Word) (words : List Word) → (is_flag n ≡ true) ⊎ (is_flag m ≡ true) → run_as command optimistic n m words ≡ None
no_run_as command optimistic n m words h = and_none _ (wide_in words) (λ wide. no_run_with _ wide optimistic n m h)

no_run_by : (command : Bool) (n m : Word) (words : List Word) → (is_flag n ≡ true) ⊎ (is_flag m ≡ true) → run_by command n m words ≡ None
no_run_by command n m [] h = no_run_as command false n m [] h
no_run_by command n m (word ∷ rest) h = one_of (same_word word (codes "optimistic")) _ _ (no_run_as command true n m rest h) (no_run_as command false n m (word ∷ rest) h)

no_counts : (n m : Word) (words : List Word) → (is_flag n ≡ true) ⊎ (is_flag m ≡ true) → run_of_counts n m words ≡ None
no_counts n m [] h = no_run_by false n m [] h
no_counts n m (word ∷ rest) h =
    one_of (same_word word (codes "data")) _ _ (no_run_by false n m rest h)
    (one_of (same_word word (codes "command")) _ _ (no_run_by true n m rest h) (no_run_by false n m (word ∷ rest) h))

-- a hyphen before one of the words after them
no_wide : (words : List Word) → has_flag words ≡ true → wide_in words ≡ None
no_wide [] h = absurd cc
no_wide (word ∷ []) h = elim (or_cases (is_flag word) false h) [ inl a ↦ along (λ (w : Word). wide_in (w ∷ [])) None word a (λ cs. refl) | inr bad ↦ absurd cc ]
no_wide (word ∷ more ∷ words) h = refl

flag_as : (command optimistic : Bool) (n m : Word) (words : List Word) → has_flag words ≡ true → run_as command optimistic n m words ≡ None
flag_as command optimistic n m words h = rw (no_wide words h) refl

flag_by : (command : Bool) (n m : Word) (words : List Word) → has_flag words ≡ true → run_by command n m words ≡ None
flag_by command n m [] h = absurd cc
flag_by command n m (word ∷ rest) h = elim (or_cases (is_flag word) (has_flag rest) h) [
  | inl a ↦ along (λ (w : Word). run_by command n m (w ∷ rest)) None word a (λ cs. flag_as command false n m ((45 ∷ cs) ∷ rest) refl)
  | inr b ↦ one_of (same_word word (codes "optimistic")) _ _ (flag_as command true n m rest b) (flag_as command false n m (word ∷ rest) h)
]

flag_counts : (n m : Word) (words : List Word) → has_flag words ≡ true → run_of_counts n m words ≡ None
flag_counts n m [] h = absurd cc
flag_counts n m (word ∷ rest) h = elim (or_cases (is_flag word) (has_flag rest) h) [
  | inl a ↦ along (λ (w : Word). run_of_counts n m (w ∷ rest)) None word a (λ cs. flag_by false n m ((45 ∷ cs) ∷ rest) refl)
  | inr b ↦ one_of (same_word word (codes "data")) _ _ (flag_by false n m rest b)
      (one_of (same_word word (codes "command")) _ _ (flag_by true n m rest b) (flag_by false n m (word ∷ rest) h))
]

no_run : (words : List Word) → has_flag words ≡ true → run_of words ≡ None
no_run [] h = refl
no_run (n ∷ []) h = refl
no_run (n ∷ m ∷ rest) h = elim (or_cases (is_flag n) (is_flag m || has_flag rest) h) [
  | inl a ↦ no_counts n m rest (inl a)
  | inr b ↦ elim (or_cases (is_flag m) (has_flag rest) b) [ inl a ↦ no_counts n m rest (inr a) | inr d ↦ flag_counts n m rest d ]
]

no_recover : (words : List Word) → has_flag words ≡ true → recover_of words ≡ None
no_recover [] h = refl
no_recover (n ∷ []) h = refl
no_recover (n ∷ p ∷ []) h = elim (or_cases (is_flag n) (is_flag p || false) h) [
  | inl a ↦ rw (none_in 1 32 n a) refl
  | inr b ↦ elim (or_cases (is_flag p) false b) [ inl a ↦ and_none _ (streams_of n) (λ streams. rw (none_in 1 16 p a) refl) | inr bad ↦ absurd cc ]
]
no_recover (n ∷ p ∷ more ∷ words) h = refl

no_ending_how : (streams : ℕ) (how first second : Word) → is_flag how ≡ true → ending_of streams how first second ≡ None
no_ending_how streams how first second h = along (λ (w : Word). ending_of streams w first second) None how h (λ cs. refl)

no_ending_first : (streams : ℕ) (how first second : Word) → is_flag first ≡ true → ending_of streams how first second ≡ None
no_ending_first streams how first second h =
    rw (none_in 1 1000000 first h, none_in 0 (streams - 1) first h)
    (elim (same_word how (codes "stop")) as (λ v. cond {A = Option Ending} v None (cond (same_word how (codes "fail")) None None) ≡ None) [
      | true ↦ refl
      | false ↦ elim (same_word how (codes "fail")) as (λ v. cond {A = Option Ending} v None None ≡ None) [ true ↦ refl | false ↦ refl ]
    ])

no_ending_second : (streams : ℕ) (how first second : Word) → is_flag second ≡ true → ending_of streams how first second ≡ None
no_ending_second streams how first second h =
    let stop = option_and_then (λ (after : ℕ). option_map (λ (tear : Tear). Stop after tear) (tear_of second)) (call_of first) in
    let fail = option_and_then (λ (stream : ℕ). option_map (λ (call : ℕ). Fail stream call) (call_of second)) (number_in 0 (streams - 1) first) in
    let no_stop : stop ≡ None = and_none _ (call_of first) (λ after. rw (no_tear second h) refl) in
    let no_fail : fail ≡ None = and_none _ (number_in 0 (streams - 1) first) (λ stream. rw (none_in 1 1000000 second h) refl) in
    elim (same_word how (codes "stop")) as (λ v. cond v stop (cond (same_word how (codes "fail")) fail None) ≡ None) [
      | true ↦ no_stop
      | false ↦ elim (same_word how (codes "fail")) as (λ v. cond v fail None ≡ None) [ true ↦ no_fail | false ↦ refl ]
    ]

no_drill : (words : List Word) → has_flag words ≡ true → drill_of words ≡ None
no_drill [] h = refl
no_drill (n ∷ []) h = refl
no_drill (n ∷ m ∷ []) h = refl
no_drill (n ∷ m ∷ p ∷ []) h = refl
no_drill (n ∷ m ∷ p ∷ how ∷ []) h = refl
no_drill (n ∷ m ∷ p ∷ how ∷ first ∷ []) h = refl
no_drill (n ∷ m ∷ p ∷ how ∷ first ∷ second ∷ []) h =
    elim (or_cases (is_flag n) (is_flag m || (is_flag p || (is_flag how || (is_flag first || (is_flag second || false))))) h) [
      | inl a ↦ rw (none_in 1 16 n a) refl
      | inr h1 ↦ and_none _ (count_of n) (λ streams. elim (or_cases (is_flag m) (is_flag p || (is_flag how || (is_flag first || (is_flag second || false)))) h1) [
        | inl a ↦ rw (none_in 1 16 m a) refl
        | inr h2 ↦ and_none _ (count_of m) (λ workers. elim (or_cases (is_flag p) (is_flag how || (is_flag first || (is_flag second || false))) h2) [
          | inl a ↦ rw (none_in 1 16 p a) refl
          | inr h3 ↦ and_none _ (count_of p) (λ recovery. ap (option_map (λ (e : Ending). Drill streams workers recovery e)) (last streams h3))
        ])
      ])
    ]
  where
    last : (streams : ℕ) → (is_flag how || (is_flag first || (is_flag second || false))) ≡ true → ending_of streams how first second ≡ None
    last streams h3 = elim (or_cases (is_flag how) (is_flag first || (is_flag second || false)) h3) [
      | inl a ↦ no_ending_how streams how first second a
      | inr h4 ↦ elim (or_cases (is_flag first) (is_flag second || false) h4) [
        | inl a ↦ no_ending_first streams how first second a
        | inr h5 ↦ elim (or_cases (is_flag second) false h5) [ inl a ↦ no_ending_second streams how first second a | inr bad ↦ absurd cc ]
      ]
    ]
no_drill (n ∷ m ∷ p ∷ how ∷ first ∷ second ∷ more ∷ words) h = refl

no_bench : (words : List Word) → has_flag words ≡ true → bench_of words ≡ None
no_bench [] h = refl
no_bench (a ∷ []) h = refl
no_bench (a ∷ c ∷ []) h = refl
no_bench (a ∷ c ∷ n ∷ []) h = refl
no_bench (a ∷ c ∷ n ∷ m ∷ []) h =
    elim (or_cases (is_flag a) (is_flag c || (is_flag n || (is_flag m || false))) h) [
      | inl b ↦ rw (none_in 0 999 a b) refl
      | inr h1 ↦ and_none _ (number_in 0 999 a) (λ start. elim (or_cases (is_flag c) (is_flag n || (is_flag m || false)) h1) [
        | inl b ↦ rw (none_in 0 200000 c b) refl
        | inr h2 ↦ and_none _ (number_in 0 200000 c) (λ calls. elim (or_cases (is_flag n) (is_flag m || false) h2) [
          | inl b ↦ rw (none_in 1 16 n b) refl
          | inr h3 ↦ and_none _ (count_of n) (λ streams. elim (or_cases (is_flag m) false h3) [ inl b ↦ rw (none_in 1 16 m b) refl | inr bad ↦ absurd cc ])
        ])
      ])
    ]
no_bench (a ∷ c ∷ n ∷ m ∷ more ∷ words) h = refl

no_checkpoint : (words : List Word) → has_flag words ≡ true → checkpoint_of words ≡ None
no_checkpoint [] h = refl
no_checkpoint (n ∷ []) h = refl
no_checkpoint (n ∷ p ∷ []) h = elim (or_cases (is_flag n) (is_flag p || false) h) [
  | inl a ↦ rw (none_in 1 32 n a) refl
  | inr b ↦ elim (or_cases (is_flag p) false b) [ inl a ↦ and_none _ (streams_of n) (λ streams. rw (none_in 1 16 p a) refl) | inr bad ↦ absurd cc ]
]
no_checkpoint (n ∷ p ∷ more ∷ words) h = refl

no_restore : (words : List Word) → has_flag words ≡ true → restore_of words ≡ None
no_restore [] h = refl
no_restore (n ∷ []) h = refl
no_restore (n ∷ p ∷ []) h = elim (or_cases (is_flag n) (is_flag p || false) h) [
  | inl a ↦ rw (none_in 1 32 n a) refl
  | inr b ↦ elim (or_cases (is_flag p) false b) [ inl a ↦ and_none _ (streams_of n) (λ streams. rw (none_in 1 16 p a) refl) | inr bad ↦ absurd cc ]
]
no_restore (n ∷ p ∷ more ∷ words) h = refl

no_follow : (words : List Word) → has_flag words ≡ true → follow_of words ≡ None
no_follow [] h = refl
no_follow (n ∷ []) h = elim (or_cases (is_flag n) false h) [ inl a ↦ rw (none_in 1 32 n a) refl | inr bad ↦ absurd cc ]
no_follow (n ∷ more ∷ words) h = refl

no_inspect : (words : List Word) → has_flag words ≡ true → inspect_of words ≡ None
no_inspect [] h = refl
no_inspect (n ∷ []) h = elim (or_cases (is_flag n) false h) [ inl a ↦ rw (none_in 1 32 n a) refl | inr bad ↦ absurd cc ]
no_inspect (n ∷ more ∷ words) h = refl

no_audit : (words : List Word) → has_flag words ≡ true → audit_of words ≡ None
no_audit [] h = refl
no_audit (n ∷ []) h = refl
no_audit (n ∷ p ∷ []) h = elim (or_cases (is_flag n) (is_flag p || false) h) [
  | inl a ↦ rw (none_in 1 32 n a) refl
  | inr b ↦ elim (or_cases (is_flag p) false b) [ inl a ↦ and_none _ (streams_of n) (λ streams. rw (none_in 1 32 p a) refl) | inr bad ↦ absurd cc ]
]
no_audit (n ∷ p ∷ more ∷ words) h = refl

pub no_command : (words : List Word) → has_flag words ≡ true → command_of words ≡ None
no_command [] h = refl
no_command (name ∷ rest) h = elim (or_cases (is_flag name) (has_flag rest) h) [
  | inl a ↦ along (λ (w : Word). command_of (w ∷ rest)) None name a (λ cs. refl)
  | inr b ↦
      one_of (same_word name (codes "run")) _ _ (no_run rest b)
      (one_of (same_word name (codes "recover")) _ _ (no_recover rest b)
      (one_of (same_word name (codes "drill")) _ _ (no_drill rest b)
      (one_of (same_word name (codes "bench")) _ _ (no_bench rest b)
      (one_of (same_word name (codes "checkpoint")) _ _ (no_checkpoint rest b)
      (one_of (same_word name (codes "restore")) _ _ (no_restore rest b)
      (one_of (same_word name (codes "follow")) _ _ (no_follow rest b)
      (one_of (same_word name (codes "inspect")) _ _ (no_inspect rest b)
      (one_of (same_word name (codes "audit")) _ _ (no_audit rest b) refl))))))))
]
