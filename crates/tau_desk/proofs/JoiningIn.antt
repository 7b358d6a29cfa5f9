-- The head takes in a role, and goes on with it and the others.
use Rattle.std.proofs.Common.{ℕ, ◌<◌, ◌≡◌, inl, inr, cond, true, Bool, List, [], ◌∷◌, ◌++◌, length, refl, sym, ap, subst, ◌∙◌, Option, arith, eq-eqb, ne_eqb, length-set}
use Rattle.std.specs.Prelude.{Some, None, slice_get, slice_index, slice_set}
use Rattle.std.proofs.lemmas.Bool.{cases_eq}
use Rattle.tau_base.specs.Vectors.{join}
use Rattle.tau_base.proofs.Vectors.{join_wider}
use Rattle.tau_txn.specs.Next.{next_action}
use Rattle.tau_txn.specs.declared.action.Action.TheVariants as action
use Rattle.tau_core.specs.State.{Plain}
use Rattle.tau_core.proofs.Lists.{got_same, got_other}
use Rattle.tau_rule.specs.Heads.{both, both_at}
use Rattle.tau_rule.specs.Knows.{Knows}
use Rattle.tau_rule.specs.Role.{Role, role_in}
use Rattle.tau_rule.specs.Rule.{clerk_role, has, manager_role}
use Rattle.tau_rule.specs.Steps.{Sat}
use Rattle.tau_desk.specs.Seats.{HasClerk, HasStock, HasWork, IsHead}
use Rattle.tau_desk.specs.Shares.{IsStock, IsWork, PlainStock, PlainWork}

pub same_origin : (m : Option Plain) (a b : Plain) → m ≡ Some a → m ≡ Some b → a ≡ b
same_origin m a b e f = cc

same_inside : {A : Type 0} (a b : A) → Some (Some a) ≡ Some (Some b) → a ≡ b
same_inside a b e = cc

-- the role comes first, and hides no other
role_is_first : (r : ℕ) (x : Role) (rs qs : List (ℕ × Role)) → rs ≡ (r, x) ∷ [] → role_in r (rs ++ qs) ≡ Some x
role_is_first r x rs qs e = ap (λ (l : List (ℕ × Role)). role_in r (l ++ qs)) e ∙ ap (λ b. cond b (Some x) (role_in r qs)) (eq-eqb r r refl)

pub has_own : (r : ℕ) (x : Role) (v : Knows) → v.roles ≡ (r, x) ∷ [] → has r v ≡ Some x
has_own r x v e = ap (role_in r) e ∙ ap (λ b. cond b (Some x) None) (eq-eqb r r refl)

later_role : (r u : ℕ) (x : Role) (rs qs : List (ℕ × Role)) → rs ≡ (r, x) ∷ [] → (u ≡ r → ⊥) → role_in u (rs ++ qs) ≡ role_in u qs
later_role r u x rs qs e ne = ap (λ (l : List (ℕ × Role)). role_in u (l ++ qs)) e ∙ ap (λ b. cond b (Some x) (role_in u qs)) (ne_eqb r u (λ d. ne (sym d)))

pub join_wide : (a b : List ℕ) (n : ℕ) → length a ≡ n → length b ≡ n → length (join a b) ≡ n
join_wide a b n e f = (let w = join_wider a b in let x = w.0 in let y = w.1 in let z = w.2 in omega (arith, e, f, x, y, z))

module _ (m : Sat) (works : List (Option PlainWork)) (stocks : List (Option PlainStock)) (clerk : Bool) (seen : List ℕ) (h : IsHead m works stocks clerk seen) (m' : Sat) (seen' : List ℕ) (seen_is : m'.0.seen ≡ seen') (seen_wide : length seen' ≡ h.origin.load.streams) (r : ℕ) (x : Role) (roles : m'.0.roles ≡ (r, x) ∷ []) where
  abbrev after : Knows
  after = both m.0 m'.0

  work_on : (u : ℕ) (o : PlainWork) → (u ≡ r → ⊥) → HasWork h.origin m.0 u o → HasWork h.origin after u o
  work_on u o ne g = record { role = g.role; is = later_role r u x m'.0.roles m.0.roles roles ne ∙ g.is; work = g.work; rests = g.rests }

  stock_on : (j : ℕ) (o : PlainStock) → (manager_role h.origin.load j ≡ r → ⊥) → HasStock h.origin m.0 j o → HasStock h.origin after j o
  stock_on j o ne g = record { role = g.role; is = later_role r (manager_role h.origin.load j) x m'.0.roles m.0.roles roles ne ∙ g.is; stock = g.stock }

  clerk_on : (clerk_role h.origin.load ≡ r → ⊥) → HasClerk h.origin m.0 → HasClerk h.origin after
  clerk_on ne g = record { role = g.role; acked = g.acked; is = later_role r (clerk_role h.origin.load) x m'.0.roles m.0.roles roles ne ∙ g.is; share = g.share; wide = g.wide }

  seen_is_that : after.seen ≡ join seen seen'
  seen_is_that = ap (λ (a : List ℕ). join a m'.0.seen) h.seen_is ∙ ap (join seen) seen_is

  seen_is_wide : length (join seen seen') ≡ h.origin.load.streams
  seen_is_wide = join_wide seen seen' h.origin.load.streams h.seen_wide seen_wide

  pub head_and_worker : (w : ℕ) (o : PlainWork) → r ≡ w → IsWork h.origin.load w x o → (next_action o.txn ≡ action.Post → ⊥) → IsHead (after, []) (slice_set works w (Some o)) stocks clerk (join seen seen')
  head_and_worker w o at work rests =
      let there : w < h.origin.load.workers = work.there in
      let inside : w < length works = (let c = h.worker_count in omega (arith, c, there)) in
      record {
        origin = h.origin;
        opened = h.opened;
        idle = h.idle;
        none = refl;
        read = h.read;
        seen_is = seen_is_that;
        seen_wide = seen_is_wide;
        worker_count = length-set works w (Some o) ∙ h.worker_count;
        manager_count = h.manager_count;
        worker = λ u y e. elim (cases_eq u w) [
          | inl is ↦
              let same : o ≡ y = same_inside o y (sym (got_same works w (Some o) inside) ∙ ap (slice_get (slice_set works w (Some o))) (sym is) ∙ e) in
              subst (λ (z : ℕ × PlainWork). HasWork h.origin after z.0 z.1) (λ i. (sym is i, same i))
              (record { role = x; is = ap (λ (k : ℕ). role_in k (m'.0.roles ++ m.0.roles)) (sym at) ∙ role_is_first r x m'.0.roles m.0.roles roles; work = work; rests = rests })
          | inr ne ↦ work_on u y (λ d. ne (d ∙ at)) (h.worker u y (sym (got_other works w u (Some o) ne) ∙ e))
        ];
        manager = λ j y e. stock_on j y (λ d. omega (arith, d, at, there)) (h.manager j y e);
        clerk_is = λ e. clerk_on (λ d. omega (arith, d, at, there)) (h.clerk_is e);
      }

  -- the same, with just what the manager has seen of its own stream
  abbrev after_at : ℕ → Knows
  after_at j = both_at j m.0 m'.0

  pub head_and_manager : (j : ℕ) (o : PlainStock) → r ≡ manager_role h.origin.load j → IsStock h.origin.load j x o → IsHead (after_at j, []) works (slice_set stocks j (Some o)) clerk (slice_set (join seen seen') j (slice_index seen' j))
  head_and_manager j o at stock =
      let there : j < h.origin.load.streams = stock.there in
      let inside : j < length stocks = (let c = h.manager_count in omega (arith, c, there)) in
      record {
        origin = h.origin;
        opened = h.opened;
        idle = h.idle;
        none = refl;
        read = h.read;
        seen_is = λ i. slice_set (join (h.seen_is i) (seen_is i)) j (slice_index (seen_is i) j);
        seen_wide = length-set (join seen seen') j (slice_index seen' j) ∙ seen_is_wide;
        worker_count = h.worker_count;
        manager_count = length-set stocks j (Some o) ∙ h.manager_count;
        worker = λ u y e. (let g = h.worker u y e in let t = g.work.there in let k = work_on u y (λ d. omega (arith, d, at, t)) g in record { role = k.role; is = k.is; work = k.work; rests = k.rests });
        manager = λ i y e. elim (cases_eq i j) [
          | inl is ↦
              let same : o ≡ y = same_inside o y (sym (got_same stocks j (Some o) inside) ∙ ap (slice_get (slice_set stocks j (Some o))) (sym is) ∙ e) in
              subst (λ (z : ℕ × PlainStock). HasStock h.origin (after_at j) z.0 z.1) (λ k. (sym is k, same k))
              (record { role = x; is = ap (λ (k : ℕ). role_in k (m'.0.roles ++ m.0.roles)) (sym at) ∙ role_is_first r x m'.0.roles m.0.roles roles; stock = stock })
          | inr ne ↦ (let k = stock_on i y (λ d. ne (omega (arith, d, at))) (h.manager i y (sym (got_other stocks j i (Some o) ne) ∙ e)) in record { role = k.role; is = k.is; stock = k.stock })
        ];
        clerk_is = λ e. (let k = clerk_on (λ d. omega (arith, d, at, there)) (h.clerk_is e) in record { role = k.role; acked = k.acked; is = k.is; share = k.share; wide = k.wide });
      }

  pub head_and_clerk : r ≡ clerk_role h.origin.load → HasClerk h.origin m'.0 → IsHead (after, []) works stocks true (join seen seen')
  head_and_clerk at g = record {
    origin = h.origin;
    opened = h.opened;
    idle = h.idle;
    none = refl;
    read = h.read;
    seen_is = seen_is_that;
    seen_wide = seen_is_wide;
    worker_count = h.worker_count;
    manager_count = h.manager_count;
    worker = λ u y e. (let f = h.worker u y e in let t = f.work.there in work_on u y (λ d. omega (arith, d, at, t)) f);
    manager = λ i y e. (let f = h.manager i y e in let t = f.stock.there in stock_on i y (λ d. omega (arith, d, at, t)) f);
    clerk_is = λ _. record {
      role = x;
      acked = g.acked;
      is = ap (λ (k : ℕ). role_in k (m'.0.roles ++ m.0.roles)) (sym at) ∙ role_is_first r x m'.0.roles m.0.roles roles;
      share = (let same : Some g.role ≡ Some x = sym g.is ∙ ap (λ (k : ℕ). role_in k m'.0.roles) (sym at) ∙ ap (role_in r) roles ∙ ap (λ b. cond b (Some x) None) (eq-eqb r r refl) in let is : g.role ≡ x = cc in ap (λ z. z.share) (sym is) ∙ g.share);
      wide = g.wide;
    };
  }
