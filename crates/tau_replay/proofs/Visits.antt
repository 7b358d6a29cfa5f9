-- What a worker does under the lock leaves a recovery that turns led to.
use Rattle.std.proofs.Common.{ℕ, suc, ◌≡◌, ◌≢◌, ◌+◌, ◌-◌, ◌<◌, ◌≤◌, List, [], ◌∷◌, ◌++◌, length, refl, sym, ap, subst, ◌∙◌, ◌⊎◌, inl, inr, arith}
use Rattle.std.proofs.lemmas.Bool.Decides.{leb_tells}
use Rattle.std.specs.Prelude.{Option, Some, None, slice_get}
use Rattle.std.proofs.Math.ListN.{set}
use Rattle.tau_scan.specs.declared.log.Log.{Log}
use Rattle.tau_pool.specs.declared.item.Job.{Job}
use Rattle.tau_replay.specs.declared.turns.Replay.{Replay}
use Rattle.tau_replay.specs.Followed.{Followed}
use Rattle.tau_replay.specs.Way.{IsOnWay}
use Rattle.tau_replay.specs.Rule.{Hand, Sat, Boxed, hands_of, holding, given, hands_now, IsNoneOf, OthersStay, MayGive, IsIdle}
use Rattle.tau_replay.specs.Sound.{IsSound, AreWorking}
use Rattle.tau_replay.specs.Working.{AreFrom, IsFor, Went, RestStays}
use Rattle.tau_base.proofs.Lists.{got_within, get_set_same, get_set_other}

-- one more turn
pub sound_turn : (log : Log) (r s : Replay) (worker : ℕ) (k : IsSound log r) → IsOnWay log s → ((turns : List ℕ) → Followed log turns r → Followed log (turns ++ worker ∷ []) s) → IsSound log s
sound_turn log r s worker k way step = record { way = way; turns = k.turns ++ worker ∷ []; followed = step k.turns k.followed }

pub rest_same : (first many : ℕ) (old new : List (Option Job)) → new ≡ old → RestStays first many old new
rest_same first many old new is v far = ap (λ hs. slice_get hs v) is

not_within : (w v : ℕ) → (v < w) ⊎ (w + 1 ≤ v) → v ≢ w
not_within w v (inl lt) same = omega (arith, lt, same)
not_within w v (inr le) same = omega (arith, le, same)

pub rest_set : (w : ℕ) (old new : List (Option Job)) (x : Option Job) → new ≡ set old w x → RestStays w 1 old new
rest_set w old new x is v far = ap (λ hs. slice_get hs v) is ∙ get_set_other old w v x (not_within w v far)

pub rest_trans : (first many : ℕ) (a b c : List (Option Job)) → RestStays first many a b → RestStays first many b c → RestStays first many a c
rest_trans first many a b c one two v far = two v far ∙ one v far

-- some hands are among many
pub rest_wide : (first some many : ℕ) (old new : List (Option Job)) → some ≤ many → RestStays first some old new → RestStays first many old new
rest_wide first some many old new few rest v far = rest v (by_side far)
  where
    by_side : (v < first) ⊎ (first + many ≤ v) → (v < first) ⊎ (first + some ≤ v)
    by_side (inl lt) = inl lt
    by_side (inr le) = inr (omega (arith, le, few))

-- one hand more
pub rest_more : (first i : ℕ) (a b c : List (Option Job)) → RestStays first i a b → RestStays (first + i) 1 b c → RestStays first (i + 1) a c
rest_more first i a b c one two v far = two v (by_side far).0 ∙ one v (by_side far).1
  where
    by_side : (v < first) ⊎ (first + (i + 1) ≤ v) → ((v < first + i) ⊎ (first + i + 1 ≤ v)) × ((v < first) ⊎ (first + i ≤ v))
    by_side (inl lt) = (inl (omega (arith, lt)), inl lt)
    by_side (inr le) = (inr (omega (arith, le)), inr (omega (arith, le)))

pub set_here : (w : ℕ) (old new : List (Option Job)) (o x : Option Job) → slice_get old w ≡ Some o → new ≡ set old w x → slice_get new w ≡ Some x
set_here w old new o x at is = ap (λ hs. slice_get hs w) is ∙ get_set_same old w x (got_within old w o at)

-- ---- of a seat

-- who is none of so many workers from one on is below or after them
outside : (w first many : ℕ) (xs : List Hand) → AreFrom first many xs → IsNoneOf w xs → (w < first) ⊎ (first + many ≤ w)
outside w first many [] from none = elim (leb_tells first w) [ inl le ↦ inr (omega (arith, le, from)) | inr n ↦ inl (omega (arith, n)) ]
outside w first many (x ∷ xs) from none = elim (outside w (suc first) (many - 1) xs from.2 none.1) [
  | inl lt ↦ elim (leb_tells first w) [ inl le ↦ absurd (none.0 (omega (arith, le, lt, from.0))) | inr n ↦ inl (omega (arith, n)) ]
  | inr le ↦ inr (omega (arith, le, from.1))
]

others_stay : (first many : ℕ) (xs : List Hand) (old new : List (Option Job)) → AreFrom first many xs → RestStays first many old new → OthersStay xs old new
others_stay first many xs old new from rest w none = rest w (outside w first many xs from none)

pub from_length : (first many : ℕ) (xs : List Hand) → AreFrom first many xs → length xs ≡ many
from_length first many [] from = sym from
from_length first many (x ∷ xs) from = let r = from_length (suc first) (many - 1) xs from.2 in omega (arith, r, from.1)

from_now : (first many : ℕ) (xs : List Hand) (hands : List (Option Job)) → AreFrom first many xs → AreFrom first many (hands_now hands xs)
from_now first many [] hands from = from
from_now first many (x ∷ xs) hands from = (from.0, from.1, from_now (suc first) (many - 1) xs hands from.2)

pub for_idle : (first many : ℕ) (m : Sat) → IsFor first many m → IsIdle m
for_idle first many m f = (f.none, f.free, let l = from_length first many m.0.hands f.hands in omega (arith, l, f.some))

-- the part may be given back
pub may_give : (first many : ℕ) (m taken : Sat) (b c : Boxed) → IsFor first many m → taken ≡ (holding m.0 b, (0, None) ∷ []) → RestStays first many (hands_of b) (hands_of c) → AreWorking m.0.log c.value.replay → MayGive taken.0 c
may_give first many m taken b c stands now rest sound = subst (λ v. MayGive v c) (sym (ap (λ (z : Sat). z.0) now)) (record {
  some = (for_idle first many m stands).2;
  old = hands_of b;
  held = refl;
  others = others_stay first many m.0.hands (hands_of b) (hands_of c) stands.hands rest;
  sound = sound;
})

-- and then the seat steps for the workers as before
pub gave_back : (first many : ℕ) (m taken after : Sat) (b c : Boxed) → IsFor first many m → taken ≡ (holding m.0 b, (0, None) ∷ []) → after ≡ (given taken.0 c, []) → Went first many m after
gave_back first many m taken after b c stands now gave =
    let is : after ≡ (given (holding m.0 b) c, []) = gave ∙ ap (λ (z : Sat). (given z.0 c, [])) now in
    subst (λ (z : Sat). Went first many m z) (sym is) (record {
      stands = record { none = refl; free = refl; some = stands.some; hands = from_now first many m.0.hands (hands_of c) stands.hands };
      of_log = refl;
    })
