-- Lists of words that are too short or too long for a command.
use Rattle.std.proofs.Common.{◌≡◌, ◌<◌, ◌≤◌, Bool, true, false, cond, List, [], ◌∷◌, length, Option, None, refl, arith}
use Rattle.std.specs.Prelude.{codes}
use Rattle.tau_words.specs.declared.command.Command.{Command}
use Rattle.tau_words.specs.Words.{Word, same_word, command_of, run_by, run_of, recover_of, drill_of, bench_of, checkpoint_of, restore_of, follow_of, inspect_of, audit_of}

pub no_run : (words : List Word) → (2 ≤ length words → ⊥) → run_of words ≡ None
no_run [] a = refl
no_run (n ∷ []) a = refl
no_run (n ∷ m ∷ rest) a = absurd (a (omega arith))

pub no_recover : (words : List Word) → (length words ≡ 2 → ⊥) → recover_of words ≡ None
no_recover [] a = refl
no_recover (n ∷ []) a = refl
no_recover (n ∷ p ∷ []) a = absurd (a refl)
no_recover (n ∷ p ∷ more ∷ words) a = refl

pub no_checkpoint : (words : List Word) → (length words ≡ 2 → ⊥) → checkpoint_of words ≡ None
no_checkpoint [] a = refl
no_checkpoint (n ∷ []) a = refl
no_checkpoint (n ∷ p ∷ []) a = absurd (a refl)
no_checkpoint (n ∷ p ∷ more ∷ words) a = refl

pub no_restore : (words : List Word) → (length words ≡ 2 → ⊥) → restore_of words ≡ None
no_restore [] a = refl
no_restore (n ∷ []) a = refl
no_restore (n ∷ p ∷ []) a = absurd (a refl)
no_restore (n ∷ p ∷ more ∷ words) a = refl

pub no_audit : (words : List Word) → (length words ≡ 2 → ⊥) → audit_of words ≡ None
no_audit [] a = refl
no_audit (n ∷ []) a = refl
no_audit (n ∷ m ∷ []) a = absurd (a refl)
no_audit (n ∷ m ∷ more ∷ words) a = refl

pub no_follow : (words : List Word) → (length words ≡ 1 → ⊥) → follow_of words ≡ None
no_follow [] a = refl
no_follow (n ∷ []) a = absurd (a refl)
no_follow (n ∷ more ∷ words) a = refl

pub no_inspect : (words : List Word) → (length words ≡ 1 → ⊥) → inspect_of words ≡ None
no_inspect [] a = refl
no_inspect (n ∷ []) a = absurd (a refl)
no_inspect (n ∷ more ∷ words) a = refl

pub no_drill : (words : List Word) → (length words ≡ 6 → ⊥) → drill_of words ≡ None
no_drill [] a = refl
no_drill (n ∷ []) a = refl
no_drill (n ∷ m ∷ []) a = refl
no_drill (n ∷ m ∷ p ∷ []) a = refl
no_drill (n ∷ m ∷ p ∷ how ∷ []) a = refl
no_drill (n ∷ m ∷ p ∷ how ∷ first ∷ []) a = refl
no_drill (n ∷ m ∷ p ∷ how ∷ first ∷ second ∷ []) a = absurd (a refl)
no_drill (n ∷ m ∷ p ∷ how ∷ first ∷ second ∷ more ∷ words) a = refl

pub no_bench : (words : List Word) → (length words ≡ 4 → ⊥) → bench_of words ≡ None
no_bench [] a = refl
no_bench (s ∷ []) a = refl
no_bench (s ∷ c ∷ []) a = refl
no_bench (s ∷ c ∷ n ∷ []) a = refl
no_bench (s ∷ c ∷ n ∷ m ∷ []) a = absurd (a refl)
no_bench (s ∷ c ∷ n ∷ m ∷ more ∷ words) a = refl

-- of two that are none either is
pub one_of : (b : Bool) (x y : Option Command) → x ≡ None → y ≡ None → cond b x y ≡ None
one_of true x y e f = e
one_of false x y e f = f

-- of the words after the counts of a run at most three are taken
long_by : (command : Bool) (n m c d e : Word) (rest : List Word) → run_by command n m (c ∷ d ∷ e ∷ rest) ≡ None
long_by command n m c d e rest = one_of (same_word c (codes "optimistic")) _ _ refl refl

long_run : (n m c d e f : Word) (rest : List Word) → run_of (n ∷ m ∷ c ∷ d ∷ e ∷ f ∷ rest) ≡ None
long_run n m c d e f rest =
    one_of (same_word c (codes "data")) _ _ (long_by false n m d e f rest)
    (one_of (same_word c (codes "command")) _ _ (long_by true n m d e f rest) (long_by false n m c d e (f ∷ rest)))

pub too_long : (words : List Word) → 7 < length words → command_of words ≡ None
too_long [] h = absurd (omega arith)
too_long (name ∷ []) h = absurd (omega arith)
too_long (name ∷ a ∷ []) h = absurd (omega arith)
too_long (name ∷ a ∷ b ∷ []) h = absurd (omega arith)
too_long (name ∷ a ∷ b ∷ c ∷ []) h = absurd (omega arith)
too_long (name ∷ a ∷ b ∷ c ∷ d ∷ []) h = absurd (omega arith)
too_long (name ∷ a ∷ b ∷ c ∷ d ∷ e ∷ []) h = absurd (omega arith)
too_long (name ∷ a ∷ b ∷ c ∷ d ∷ e ∷ f ∷ []) h = absurd (omega arith)
too_long (name ∷ a ∷ b ∷ c ∷ d ∷ e ∷ f ∷ g ∷ rest) h =
    one_of (same_word name (codes "run")) _ _ (long_run a b c d e f (g ∷ rest))
    (one_of (same_word name (codes "recover")) _ _ refl
    (one_of (same_word name (codes "drill")) _ _ refl
    (one_of (same_word name (codes "bench")) _ _ refl
    (one_of (same_word name (codes "checkpoint")) _ _ refl
    (one_of (same_word name (codes "restore")) _ _ refl
    (one_of (same_word name (codes "follow")) _ _ refl
    (one_of (same_word name (codes "inspect")) _ _ refl
    (one_of (same_word name (codes "audit")) _ _ refl refl))))))))
