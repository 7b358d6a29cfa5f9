-- Seats of workers.
use Rattle.std.proofs.Common.{ℕ, zero, suc, ◌≡◌, ◌+◌, ◌-◌, ◌≤◌, List, [], ◌∷◌, ◌++◌, length, refl, sym, ap, subst, ◌∙◌, arith}
use Rattle.std.specs.Prelude.{Option, None, Result, Ok, Err, IfOk}
use Rattle.tau_base.specs.declared.value.Key.{Key}
use Rattle.tau_base.specs.declared.value.Value.{Value}
use Rattle.tau_scan.specs.declared.fault.ReplayRefusal.{ReplayRefusal}
use Rattle.std.proofs.lemmas.List.{length-append}
use Rattle.tau_scan.specs.declared.log.Log.{Log}
use Rattle.tau_pool.specs.declared.item.Job.{Job}
use Rattle.tau_replay.specs.declared.view.TheConstants.{HANDS}
use Rattle.tau_replay.specs.Rule.{Hand, Sat, Boxed, hands_of, Names, view, rest_of, front_of, in_hand, idle_from, all_idle, hands_now, first_alone, without_first, both, holding, given, MayGive, IsIdle}
use Rattle.tau_replay.specs.Sound.{AreWorking}
use Rattle.tau_replay.specs.Working.{AreFrom, IsFor, IsSpare}
use Rattle.tau_replay.proofs.Visits.{from_length, for_idle}

-- ---- a part that is given back as it was

pub may_give_same : (m taken : Sat) (b : Boxed) → IsIdle m → taken ≡ (holding m.0 b, (0, None) ∷ []) → AreWorking m.0.log b.value.replay → MayGive taken.0 b
may_give_same m taken b idle now sound = subst (λ v. MayGive v b) (sym (ap (λ (z : Sat). z.0) now)) (record {
  some = idle.2;
  old = hands_of b;
  held = refl;
  others = λ w far. refl;
  sound = sound;
})

now_same : (hands : List (Option Job)) (xs : List Hand) → Names hands xs → hands_now hands xs ≡ xs
now_same hands [] names = refl
now_same hands (x ∷ xs) names = ap (λ o. (x.0, in_hand o) ∷ hands_now hands xs) names.0 ∙ ap (λ zs. x ∷ zs) (now_same hands xs names.1)

pub gave_same : (m taken after : Sat) (b : Boxed) → IsIdle m → Names (hands_of b) m.0.hands → taken ≡ (holding m.0 b, (0, None) ∷ []) → after ≡ (given taken.0 b, []) → after ≡ m
gave_same m taken after b idle names now gave =
    gave ∙ ap (λ (z : Sat). (given z.0 b, [])) now ∙ (λ i. (view m.0.log (now_same (hands_of b) m.0.hands names i) (sym idle.1 i), sym idle.0 i))

-- ---- a worker goes on

pub went_length : (first many : ℕ) (m m' : Sat) → IsFor first many m → IsFor first many m' → length m'.0.hands ≡ length m.0.hands
went_length first many m m' a b = from_length first many m'.0.hands b.hands ∙ sym (from_length first many m.0.hands a.hands)

-- ---- workers side by side

length_idle : (w n : ℕ) → length (idle_from w n) ≡ n
length_idle w zero = refl
length_idle w (suc n) = ap suc (length_idle (suc w) n)

from_idle : (w n : ℕ) → AreFrom w n (idle_from w n)
from_idle w zero = refl
from_idle w (suc n) = (refl, omega arith, subst (λ (m : ℕ). AreFrom (suc w) m (idle_from (suc w) n)) (omega arith) (from_idle (suc w) n))

pub spare_for : (first many : ℕ) (m : Sat) → IsSpare first many m → IsFor first many m
spare_for first many m s = record { none = s.none; free = s.free; some = s.some; hands = subst (AreFrom first many) (sym s.hands) (from_idle first many) }

pub spare_idle : (first many : ℕ) (m : Sat) → IsSpare first many m → IsIdle m
spare_idle first many m s = for_idle first many m (spare_for first many m s)

pub spare_length : (first many : ℕ) (m : Sat) → IsSpare first many m → length m.0.hands ≡ many
spare_length first many m s = ap length s.hands ∙ length_idle first many

-- the hands of a seat that is split
pub spare_parts : (first k : ℕ) (m mine left : Sat) → IsSpare first (HANDS - first) m → IsSpare first k mine → IsSpare (first + k) (HANDS - (first + k)) left → length left.0.hands + length mine.0.hands ≡ length m.0.hands
spare_parts first k m mine left all one other =
    let a = spare_length first (HANDS - first) m all in
    let b = spare_length first k mine one in
    let c = spare_length (first + k) (HANDS - (first + k)) left other in
    omega (arith, a, b, c, other.some)

-- the seat of all hands
pub spare_all : (log : Log) (m : Sat) → m ≡ (view log all_idle None, []) → IsSpare 0 HANDS m
unfolding all_idle
spare_all log m now = subst (IsSpare 0 HANDS) (sym now) (record { none = refl; free = refl; some = omega arith; hands = refl })

first_idle : (first many : ℕ) → 2 ≤ many → idle_from first many ≡ (first, None) ∷ idle_from (first + 1) (many - 1)
first_idle first zero le = absurd (omega (arith, le))
first_idle first (suc n) le =
    let e : suc first ≡ first + 1 = omega arith in
    let d : n ≡ suc n - 1 = omega arith in
    λ i. (first, None) ∷ idle_from (e i) (d i)

pub spare_first : (first many : ℕ) (m mine : Sat) → 2 ≤ many → IsSpare first many m → mine ≡ (first_alone m.0, []) → IsSpare first 1 mine
spare_first first many m mine le s now = subst (IsSpare first 1) (sym now) (record { none = refl; free = refl; some = omega arith; hands = ap front_of (s.hands ∙ first_idle first many le) })

pub spare_left : (first many : ℕ) (m left : Sat) → 2 ≤ many → IsSpare first many m → left ≡ (without_first m.0, []) → IsSpare (first + 1) (many - 1) left
spare_left first many m left le s now = subst (IsSpare (first + 1) (many - 1)) (sym now) (record { none = refl; free = s.free; some = omega (arith, le); hands = ap rest_of (s.hands ∙ first_idle first many le) })

idle_append : (first many : ℕ) → idle_from first many ++ (first + many, None) ∷ [] ≡ idle_from first (many + 1)
idle_append first zero = ap (λ (w : ℕ). (w, None) ∷ []) (omega arith)
idle_append first (suc n) =
    let d : first + suc n ≡ suc first + n = omega arith in
    let e : suc (n + 1) ≡ suc n + 1 = omega arith in
    ap (λ (xs : List Hand). (first, None) ∷ xs) (ap (λ (w : ℕ). idle_from (suc first) n ++ (w, None) ∷ []) d ∙ idle_append (suc first) n) ∙ ap (idle_from first) e

pub spare_more : (first many : ℕ) (m next after : Sat) → IsSpare first many m → IsSpare (first + many) 1 next → after ≡ (both m.0 next.0, []) → IsSpare first (many + 1) after
spare_more first many m next after s t now = subst (IsSpare first (many + 1)) (sym now) (record {
  none = refl;
  free = s.free;
  some = omega arith;
  hands = (λ i. s.hands i ++ t.hands i) ∙ idle_append first many;
})

pub joined_idle : (m mine after : Sat) → IsIdle m → after ≡ (both m.0 mine.0, []) → IsIdle after × (length after.0.hands ≡ length m.0.hands + length mine.0.hands)
joined_idle m mine after idle now =
    let sum = ap (λ (z : Sat). length z.0.hands) now ∙ length-append m.0.hands mine.0.hands in
    ((ap (λ (z : Sat). z.1) now, ap (λ (z : Sat). z.0.held) now ∙ idle.1, let some = idle.2 in omega (arith, sum, some)), sum)

-- what is said of each table is said of the one
pub ok_some : (r : Result (List (Key × Value)) ReplayRefusal) (P : List ℕ → List (Key × Value) → Type 0) (turns : List ℕ) → IfOk r (P turns) → IfOk r (λ t. (x : List ℕ) × P x t)
ok_some (Ok t) P turns h = (turns, h)
ok_some (Err e) P turns h = tt
