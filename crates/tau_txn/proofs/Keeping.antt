-- Steps keep what a worker keeps of its call in hand.
use Rattle.std.proofs.Common.{ℕ, ◌≤◌, ◌≡◌, Bool, true, false, List, [], ◌∷◌, length, refl, sym, ap, subst, ◌∙◌, arith, T}
use Rattle.std.specs.Prelude.{if◌then◌else◌, not}
use Rattle.std.specs.FinMap.{is_sorted, put}
use Rattle.std.specs.FinMap.Entries.{is_sorted-put, is_sorted-where_key, by_order, where_key}
use Rattle.std.specs.declared.cmp.Ordering.TheVariants.{Less, Equal, Greater}
use Rattle.tau_base.specs.declared.value.Key.{Key}
use Rattle.tau_base.specs.declared.value.Value.{Value}
use Rattle.tau_base.specs.declared.value.Mode.{Mode}
use Rattle.tau_base.specs.Database.{same_key, key_cmp}
use Rattle.tau_proc.proofs.Ascending.{key_total}
use Rattle.tau_proc.specs.Progress.{Progress}
use Rattle.tau_machine.specs.Hands.{hold, without}
use Rattle.tau_txn.specs.declared.standing.Standing.{Standing}
use Rattle.tau_txn.specs.declared.standing.Standing.TheVariants.{Running, Quitting, Placed, Freeing, LeftOver}
use Rattle.tau_txn.specs.Hand.{PlainHand}
use Rattle.tau_txn.specs.Progress.{IsRun}
use Rattle.tau_txn.specs.Kept.{Shaped, Settled, KeepsHand, keeps_in, kept, is_leaving}
use Rattle.tau_txn.specs.Steps.{without_first}
use Rattle.tau_txn.specs.Txn.{joined_by}

of_T : (b : Bool) → T b → b ≡ true
of_T true h = refl
of_T false h = absurd h

to_T : (b : Bool) → b ≡ true → T b
to_T b e = subst T (sym e) tt

pub hold_ascends : (x : Key) (m : Mode) (held : List (Key × Mode)) → is_sorted key_cmp held ≡ true → is_sorted key_cmp (hold x m held) ≡ true
hold_ascends x m held e = of_T (is_sorted key_cmp (hold x m held)) (is_sorted-put key_cmp key_total x m held (to_T (is_sorted key_cmp held) e))

pub hold_some : (x : Key) (m : Mode) (held : List (Key × Mode)) → 1 ≤ length (hold x m held)
hold_some x m [] = omega arith
hold_some x m (k ∷ ks) = elim (key_cmp x k.0) as (λ o. 1 ≤ length (by_order o ((x, m) ∷ k ∷ ks) ((k.0, m) ∷ ks) (k ∷ put key_cmp x m ks))) [ Less ↦ omega arith | Equal ↦ omega arith | Greater ↦ omega arith ]

without_where : (x : Key) (held : List (Key × Mode)) → without x held ≡ where_key key_cmp (λ (k : Key). not (same_key x k)) held
without_where x [] = refl
without_where x (e ∷ es) = elim (same_key x e.0) as (λ b. (if b then without x es else e ∷ without x es) ≡ (if not b then e ∷ where_key key_cmp (λ (k : Key). not (same_key x k)) es else where_key key_cmp (λ (k : Key). not (same_key x k)) es)) [
  | true ↦ without_where x es
  | false ↦ ap (λ (l : List (Key × Mode)). e ∷ l) (without_where x es)
]

without_ascends : (x : Key) (held : List (Key × Mode)) → is_sorted key_cmp held ≡ true → is_sorted key_cmp (without x held) ≡ true
without_ascends x held e =
    ap (is_sorted key_cmp) (without_where x held)
    ∙ of_T (is_sorted key_cmp (where_key key_cmp (λ (k : Key). not (same_key x k)) held)) (is_sorted-where_key key_cmp (λ (k : Key). not (same_key x k)) held (to_T (is_sorted key_cmp held) e))

pub first_ascends : (held : List (Key × Mode)) → is_sorted key_cmp held ≡ true → is_sorted key_cmp (without_first held) ≡ true
first_ascends [] e = e
first_ascends (k ∷ ks) e = without_ascends k.0 (k ∷ ks) e

pub locked_keeps : (width : ℕ) (h : PlainHand) (x : Key) (m : Mode) (machine : Progress) (seen : List (Key × Value)) (dep : List ℕ) (new : PlainHand) →
    new ≡ record h { machine = machine; held = hold x m h.held; seen = seen; dep = dep } → KeepsHand width h → h.standing ≡ Running → length dep ≡ width → IsRun new → KeepsHand width new
locked_keeps width h x m machine seen dep new e keeps running wide run =
    record {
      run = run;
      shaped = subst (Shaped width) (sym e) (record { wide = wide; ascend = hold_ascends x m h.held keeps.shaped.ascend });
      settled = subst Settled (sym e) (record { holds = λ leaving. hold_some x m h.held; last = λ left. let bad : Running ≡ LeftOver = sym running ∙ left in cc });
    }

-- a call that has joined the committed ones
pub joined_keeps : (width : ℕ) (h new : PlainHand) → new.dep ≡ h.dep → is_sorted key_cmp new.held ≡ true → joined_by new.standing ≡ true → Shaped width h → IsRun new → KeepsHand width new
joined_keeps width h new dep ascend joined shaped run =
    record { run = run; shaped = record { wide = ap length dep ∙ shaped.wide; ascend = ascend }; settled = record { holds = λ leaving. absurd (at new.standing joined leaving); last = λ left. absurd (later new.standing joined left) } }
  where
    at : (s : Standing) → joined_by s ≡ true → is_leaving s new.leaves ≡ true → ⊥
    at Running j l = cc
    at Quitting j l = cc
    at Placed j l = cc
    at Freeing j l = cc
    at LeftOver j l = cc

    later : (s : Standing) → joined_by s ≡ true → s ≡ LeftOver → ⊥
    later Running j l = cc
    later Quitting j l = cc
    later Placed j l = cc
    later Freeing j l = cc
    later LeftOver j l = cc

-- a call that frees its keys
pub freed_keeps : (width : ℕ) (h new : PlainHand) (stays : Bool) → new.held ≡ without_first h.held → new.dep ≡ h.dep → new.standing ≡ Freeing → Shaped width h → IsRun new → keeps_in width (kept stays new)
freed_keeps width h new false held dep freeing shaped run = tt
freed_keeps width h new true held dep freeing shaped run =
    joined_keeps width h new dep (ap (is_sorted key_cmp) held ∙ first_ascends h.held shaped.ascend) (ap joined_by freeing) shaped run
