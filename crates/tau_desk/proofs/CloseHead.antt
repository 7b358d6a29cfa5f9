-- The head that has each role.
use Rattle.std.proofs.Common.{ℕ, ◌+◌, ◌-◌, ◌<◌, ◌≡◌, inl, inr, true, List, length, sym, ap, subst, ◌∙◌, Option, arith}
use Rattle.std.specs.Prelude.{Some, None, slice_get}
use Rattle.std.proofs.lemmas.Bool.Decides.{leb_tells}
use Rattle.tau_core.specs.State.{Plain}
use Rattle.tau_rule.specs.Rule.{clerk_role, has, manager_role}
use Rattle.tau_desk.specs.Ends.{HasAll, IsWhole}
use Rattle.tau_desk.specs.Seats.{HasClerk, HasStock, HasWork, Heads, PlainHead}
use Rattle.tau_desk.specs.Shares.{PlainStock, PlainWork}
use Rattle.tau_base.proofs.Lists.{some_at}
use Rattle.tau_desk.proofs.JoiningIn.{same_origin}

-- the head of the desk that was opened with this core
pub record HeadAt (origin : Plain) (h : PlainHead) : Type 0 where
  pub idle : h.me.0.hand ≡ None
  pub worker_count : length h.workers ≡ origin.load.workers
  pub manager_count : length h.managers ≡ origin.load.streams
  pub worker : (w : ℕ) (o : PlainWork) → slice_get h.workers w ≡ Some (Some o) → HasWork origin h.me.0 w o
  pub manager : (j : ℕ) (o : PlainStock) → slice_get h.managers j ≡ Some (Some o) → HasStock origin h.me.0 j o
  pub clerk_is : h.clerk ≡ true → HasClerk origin h.me.0

pub head_at : (h : PlainHead) (g : Heads h) (key : Plain) → h.me.0.opened ≡ Some key → HeadAt key h
head_at h g key opened = subst (λ (p : Plain). HeadAt p h) (same_origin h.me.0.opened g.origin key g.opened opened) (record {
  idle = g.idle;
  worker_count = g.worker_count;
  manager_count = g.manager_count;
  worker = g.worker;
  manager = g.manager;
  clerk_is = g.clerk_is;
})

-- where nothing is out, each is there
there_at : {A : Type 0} (xs : List (Option A)) (i : ℕ) → i < length xs → (slice_get xs i ≡ Some None → ⊥) → (o : A) × (slice_get xs i ≡ Some (Some o))
there_at {A} xs i low whole = (let x = some_at xs i low in by_case x.0 x.1)
  where
    by_case : (o : Option A) → slice_get xs i ≡ Some o → (a : A) × (slice_get xs i ≡ Some (Some a))
    by_case None e = absurd (whole e)
    by_case (Some a) e = (a, e)

module _ (origin : Plain) (h : PlainHead) (g : HeadAt origin h) (whole : IsWhole h) where
  pub work_there : (w : ℕ) → w < origin.load.workers → (o : PlainWork) × (slice_get h.workers w ≡ Some (Some o))
  work_there w low = there_at h.workers w (let n = g.worker_count in omega (arith, n, low)) (whole.workers w)

  pub stock_there : (j : ℕ) → j < origin.load.streams → (o : PlainStock) × (slice_get h.managers j ≡ Some (Some o))
  stock_there j low = there_at h.managers j (let n = g.manager_count in omega (arith, n, low)) (whole.managers j)

  pub has_all : HasAll origin h.me.0
  has_all u lt = elim (leb_tells (u + 1) origin.load.workers) [
    | inl a ↦
        let o = work_there u (let b = a.1 in omega (arith, b)) in
        let k = g.worker u o.0 o.1 in
        (k.role, k.is)
    | inr a ↦ elim (leb_tells (u + 1) (origin.load.workers + origin.load.streams)) [
      | inl b ↦
          let j : ℕ = u - origin.load.workers in
          let low : j < origin.load.streams = (let c = a.1 in let d = b.1 in omega (arith, c, d)) in
          let back : manager_role origin.load j ≡ u = (let c = a.1 in omega (arith, c)) in
          let o = stock_there j low in
          let k = g.manager j o.0 o.1 in
          (k.role, ap (λ (n : ℕ). has n h.me.0) (sym back) ∙ k.is)
      | inr b ↦
          let at : clerk_role origin.load ≡ u = (let c = b.1 in omega (arith, c, lt)) in
          let k = g.clerk_is whole.clerk in
          (k.role, ap (λ (n : ℕ). has n h.me.0) (sym at) ∙ k.is)
    ]
  ]
