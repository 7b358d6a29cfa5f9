-- Which calls depend on an updating call that is not taken: found by marks of keys, which are carried along the history.
use Rattle.std.specs.Prelude.{Bool, true, false, not, ◌||◌, ◌&&◌, ◌≡◌, List, [], ◌∷◌, ◌++◌, if◌then◌else◌}
use Rattle.tau_base.specs.declared.value.Key.{Key}
use Rattle.tau_base.specs.declared.value.Value.{Value}
use Rattle.tau_proc.specs.Effect.{Effect, has_key}
use Rattle.tau_inspect.specs.declared.taint.Mark.{Mark}
use Rattle.tau_model.specs.History.{Numbered, Act, Before, Depends, updates}

-- of each key, whether it was read and whether it was written by a call that is updating and not taken, or that depends on one
abbrev pub Marks : Type 0
Marks = Key → Mark

abbrev pub unmarked : Marks
unmarked key = record { read = false; written = false }

-- whether one of these keys was written so
abbrev pub any_written : Marks → List (Key × Value) → Bool
any_written marks [] = false
any_written marks (e ∷ es) = (marks e.0).written || any_written marks es

-- whether one of them was read or written so
abbrev pub any_touched : Marks → List (Key × Value) → Bool
any_touched marks [] = false
any_touched marks (e ∷ es) = ((marks e.0).read || (marks e.0).written) || any_touched marks es

-- whether the marks say that a call with this effect depends on an updating call that is not taken
abbrev pub is_tainted : Marks → Effect → Bool
is_tainted marks e = any_written marks e.reads || any_touched marks e.writes

-- the marks with those that a call leaves
abbrev pub marked : Effect → Marks → Marks
marked e marks key = record { read = has_key key e.reads || (marks key).read; written = has_key key e.writes || (marks key).written }

-- whether the call is updating and not taken
abbrev pub is_missing : (Numbered → Bool) → Act Numbered → Bool
is_missing taken x = updates x.effect && not (taken x.call)

-- whether it is, or depends on one that is
abbrev pub spreads : (Numbered → Bool) → Marks → Act Numbered → Bool
spreads taken marks x = is_missing taken x || is_tainted marks x.effect

-- the marks after a call with this effect, that is missing or not
abbrev pub pass : Bool → Effect → Marks → Marks
pass missing e marks = if missing || is_tainted marks e then marked e marks else marks

abbrev pub passed : (Numbered → Bool) → Marks → Act Numbered → Marks
passed taken marks x = pass (is_missing taken x) x.effect marks

-- the marks after these calls
abbrev pub marks_after : (Numbered → Bool) → Marks → List (Act Numbered) → Marks
marks_after taken marks [] = marks
marks_after taken marks (x ∷ xs) = marks_after taken (passed taken marks x) xs

abbrev pub first_of : List Bool → Bool
first_of [] = false
first_of (b ∷ bs) = b

abbrev pub rest_of : List Bool → List Bool
rest_of [] = []
rest_of (b ∷ bs) = bs

-- what the marks say of each of these effects, of calls that are missing or not
unfoldable pub taints : Marks → List Effect → List Bool → List Bool
taints marks [] missing = []
taints marks (e ∷ es) missing = is_tainted marks e ∷ taints (pass (first_of missing) e marks) es (rest_of missing)

-- each call stands there once
abbrev pub Once : List (Act Numbered) → Type 0
Once acts = (x : Act Numbered) → Before x x acts → ⊥

-- the call depends on an updating call that is not taken
abbrev pub DependsOnMissing : (Numbered → Bool) → List (Act Numbered) → Act Numbered → Type 0
DependsOnMissing taken acts x = (u : Act Numbered) × Depends acts x u × (is_missing taken u ≡ true)

-- Marks that are carried along a history, in which each call stands once, say of each call just whether it depends on an updating call that is not taken.
abbrev pub TaintIsDependence : Type 0
TaintIsDependence = (acts : List (Act Numbered)) (taken : Numbered → Bool) → Once acts →
    (front back : List (Act Numbered)) (x : Act Numbered) → acts ≡ front ++ x ∷ back →
    (is_tainted (marks_after taken unmarked front) x.effect ≡ true → DependsOnMissing taken acts x)
    × (DependsOnMissing taken acts x → is_tainted (marks_after taken unmarked front) x.effect ≡ true)
