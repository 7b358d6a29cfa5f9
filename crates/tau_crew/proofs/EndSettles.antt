-- The head looks how far the streams are persisted.
use Rattle.std.proofs.Common.{ℕ, zero, suc, ◌≤◌, ◌≡◌, ◌||◌, inl, inr, true, false, Bool, Option, List, [], ◌∷◌, ◌++◌, refl, sym, ap, subst, ◌∙◌, arith, slice_index}
use Rattle.std.specs.Prelude.{Some, slice_set}
use Rattle.std.proofs.lemmas.Bool.{cases_eq}
use Rattle.tau_base.specs.Vectors.{join}
use Rattle.tau_base.proofs.Vectors.{join_at}
use Rattle.tau_core.specs.State.{Plain}
use Rattle.tau_rule.specs.Heads.{both, role_or, without}
use Rattle.tau_rule.specs.Role.{Role, role_in}
use Rattle.tau_rule.specs.Rule.{clerk_role, has}
use Rattle.tau_desk.specs.Ends.{IsClerkSplit}
use Rattle.tau_desk.specs.Seats.{Heads, PlainClerkSeat, PlainHead}
use Rattle.tau_desk.proofs.SplittingOff.{role_stays}
use Rattle.tau_rule.specs.Positions.{sees_to}
use Rattle.tau_crew.specs.EndSettles.{IsSameHead, KeepsSight}
use Rattle.tau_crew.proofs.EndJoins.{role_here, role_other, same_origin}

same_or : (b : Bool) → (b || b) ≡ b
same_or true = refl
same_or false = refl

-- the clerk's role went out and came back
pub same_head : (first : Plain) (h m h' : PlainHead) (s s' : PlainClerkSeat) → Heads h → h.me.0.opened ≡ Some first → h.clerk ≡ true → IsClerkSplit first.load h m s → KeepsSight s s' →
    h' ≡ record m { me = (both m.me.0 s'.me.0, []); clerk = true; seen = join m.seen s'.seen } → IsSameHead h h'
same_head first h m h' s s' d opened there split keeps e =
    let k = clerk_role first.load in
    let as_first : d.origin ≡ first = same_origin h.me.0.opened d.opened opened in
    let mine = d.clerk_is there in
    let is : has k h.me.0 ≡ Some mine.role = subst (λ (o : Plain). has (clerk_role o.load) h.me.0 ≡ Some mine.role) as_first mine.is in
    let seat_roles : s'.me.0.roles ≡ (k, role_or (role_in k h.me.0.roles)) ∷ [] = ap (λ (x : _). x.0.roles) keeps.me ∙ ap (λ (x : _). x.0.roles) split.split.new_is in
    let left_roles : m.me.0.roles ≡ without k h.me.0.roles = ap (λ (x : _). x.0.roles) split.split.head_is in
    record {
      table = ap (λ (x : PlainHead). x.table_id) e ∙ ap (λ (x : PlainHead). x.table_id) split.left;
      opened = ap (λ (x : PlainHead). x.me.0.opened) e ∙ ap (λ (x : _). x.0.opened) split.split.head_is;
      found = ap (λ (x : PlainHead). x.me.0.found) e
          ∙ ap (λ (b : Bool). b || s'.me.0.found) (ap (λ (x : _). x.0.found) split.split.head_is)
          ∙ ap (λ (b : Bool). h.me.0.found || b) (ap (λ (x : _). x.0.found) keeps.me ∙ ap (λ (x : _). x.0.found) split.split.new_is)
          ∙ same_or h.me.0.found;
      workers = ap (λ (x : PlainHead). x.workers) e ∙ ap (λ (x : PlainHead). x.workers) split.left;
      managers = ap (λ (x : PlainHead). x.managers) e ∙ ap (λ (x : PlainHead). x.managers) split.left;
      clerk = ap (λ (x : PlainHead). x.clerk) e ∙ sym there;
      up = λ j.
          (let a : slice_index h'.seen j ≡ slice_index (join m.seen s'.seen) j = ap (λ (x : PlainHead). slice_index x.seen j) e in
          let b = join_at m.seen s'.seen j in
          let same : slice_index m.seen j ≡ slice_index h.seen j = ap (λ (x : PlainHead). slice_index x.seen j) split.left in
          omega (arith, a, b, same));
      roles = λ u. elim (cases_eq u k) [
        | inl at ↦ ap (λ (x : PlainHead). has u x.me.0) e ∙ ap (λ (i : ℕ). role_in i (s'.me.0.roles ++ m.me.0.roles)) at ∙ role_here s'.me.0.roles m.me.0.roles k (role_or (role_in k h.me.0.roles)) seat_roles ∙ ap (λ (o : Option Role). Some (role_or o)) is ∙ sym is ∙ ap (λ (i : ℕ). has i h.me.0) (sym at)
        | inr ne ↦ ap (λ (x : PlainHead). has u x.me.0) e ∙ role_other s'.me.0.roles m.me.0.roles k (role_or (role_in k h.me.0.roles)) u seat_roles ne ∙ ap (role_in u) left_roles ∙ role_stays k u h.me.0.roles ne
      ];
    }

-- what the seat has seen then, the head has seen
pub seen_joined : (first : Plain) (h m h' : PlainHead) (s s' : PlainClerkSeat) (j : ℕ) → IsClerkSplit first.load h m s → KeepsSight s s' →
    h' ≡ record m { me = (both m.me.0 s'.me.0, []); clerk = true; seen = join m.seen s'.seen } → slice_index h'.seen j ≡ slice_index s'.seen j
seen_joined first h m h' s s' j split keeps e =
    let a : slice_index h'.seen j ≡ slice_index (join m.seen s'.seen) j = ap (λ (x : PlainHead). slice_index x.seen j) e in
    let b = join_at m.seen s'.seen j in
    let low = keeps.up j in
    let same : slice_index s.seen j ≡ slice_index m.seen j = ap (λ (v : List ℕ). slice_index v j) split.seen ∙ ap (λ (x : PlainHead). slice_index x.seen j) (sym split.left) in
    omega (arith, a, b, low, same)

set_up : (xs : List ℕ) (j x : ℕ) → slice_index xs j ≤ x → (i : ℕ) → slice_index xs i ≤ slice_index (slice_set xs j x) i
set_up [] j x le i = omega arith
set_up (y ∷ xs) zero x le zero = le
set_up (y ∷ xs) zero x le (suc i) = omega arith
set_up (y ∷ xs) (suc j) x le zero = omega arith
set_up (y ∷ xs) (suc j) x le (suc i) = set_up xs j x le i

pub set_other : (xs : List ℕ) (j x i : ℕ) → (i ≡ j → ⊥) → slice_index (slice_set xs j x) i ≡ slice_index xs i
set_other [] j x i ne = refl
set_other (y ∷ xs) zero x zero ne = absurd (ne refl)
set_other (y ∷ xs) zero x (suc i) ne = refl
set_other (y ∷ xs) (suc j) x zero ne = refl
set_other (y ∷ xs) (suc j) x (suc i) ne = set_other xs j x i (λ e. ne (ap suc e))

pub look_others : (s s' : PlainClerkSeat) (j x i : ℕ) → s' ≡ record s { me = (sees_to j x s.me.0, s.me.1); seen = slice_set s.seen j x } → (i ≡ j → ⊥) → slice_index s'.seen i ≡ slice_index s.seen i
look_others s s' j x i e ne = ap (λ (t : PlainClerkSeat). slice_index t.seen i) e ∙ set_other s.seen j x i ne

pub same_head_on : (h h' h'' : PlainHead) → IsSameHead h h' → IsSameHead h' h'' → IsSameHead h h''
same_head_on h h' h'' a b = record {
  table = b.table ∙ a.table;
  opened = b.opened ∙ a.opened;
  found = b.found ∙ a.found;
  workers = b.workers ∙ a.workers;
  managers = b.managers ∙ a.managers;
  clerk = b.clerk ∙ a.clerk;
  roles = λ u. b.roles u ∙ a.roles u;
  up = λ j. (let x = a.up j in let y = b.up j in omega (arith, x, y));
}
