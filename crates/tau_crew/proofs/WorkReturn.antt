-- What is told of a worker that is back, in the words of the ending; and where workers stand when a run begins.
use Rattle.std.proofs.Common.{ℕ, zero, suc, ◌+◌, ◌<◌, ◌≡◌, ◌⊎◌, Bool, true, false, inl, inr, arith, List, [], ◌∷◌, length, refl, sym, ap, subst, ◌∙◌, Option}
use Rattle.std.specs.Prelude.{Some, None, if◌then◌else◌, slice_get}
use Rattle.std.proofs.lemmas.Bool.Decides.{leb_tells}
use Rattle.tau_machine.specs.Accounts.{in_calls, in_worker}
use Rattle.tau_core.specs.Opens.{Opened, calls_of}
use Rattle.tau_core.specs.State.{Plain}
use Rattle.tau_core.specs.View.{worker_at}
use Rattle.tau_core.specs.declared.state.Load.{Load}
use Rattle.tau_rule.specs.First.{first_view, outer_share, role_at, worker_share}
use Rattle.tau_rule.specs.Heads.{role_or}
use Rattle.tau_rule.specs.Role.{Role, role_in}
use Rattle.tau_rule.specs.Rule.{has}
use Rattle.tau_rule.specs.Steps.{Sat, worker_in_share}
use Rattle.tau_desk.proofs.Beginning.{role_below}
use Rattle.tau_desk.specs.Laid.{AreUnbegun}
use Rattle.tau_desk.specs.Resumes.{RestsWork}
use Rattle.tau_desk.specs.Seats.{Heads, PlainHead}
use Rattle.tau_desk.specs.Shares.{PlainWork}
use Rattle.tau_crew_facts.specs.Ends.{IsLoose}
use Rattle.tau_crew.specs.Ending.{HasRunBack, IsWorkerBack, role_back}
use Rattle.tau_crew.specs.WorkersBack.{AreReady, IsAtStart, WorkerIsBack, WorkersBack, worker_of}

module _ (l : Load) (w : ℕ) (h h' : PlainHead) (short : Bool) (b : WorkerIsBack l w h h' short) where
  role_is : role_back h' w ≡ b.role'
  role_is = ap role_or b.is

  pub worker_is_back : IsWorkerBack h' w
  worker_is_back = record {
    work = b.work';
    there = b.there;
    loose = subst (λ (r : Role). IsLoose (worker_of r).hand) (sym role_is) b.loose;
    held = b.held;
    unjoined = b.unjoined.joined;
  }

  pub worker_run : IsAtStart l h w → short ≡ false → HasRunBack l h' w
  worker_run s e =
      let r = b.ran e in
      let same : s.role ≡ b.role = one_role s.role b.role (sym s.is ∙ b.was) in
      record {
        rests = ap (λ (x : Role). (worker_of x).hand) role_is ∙ r.rests;
        kept = λ k.
            (let a = s.calls k in
            let c = ap (λ (x : Role). in_worker k (worker_of x)) same in
            let d = r.keeps.all k in
            let f = ap (λ (x : Role). in_worker k (worker_of x)) role_is in
            omega (arith, a, c, d, f));
        raised = ap (λ (x : Role). x.raised) role_is ∙ r.raised ∙ ap (λ (x : Role). x.raised) (sym same) ∙ s.raised;
        ended = elim r.ended [ inl found ↦ inl found | inr none ↦ inr (ap (λ (x : Role). (worker_of x).waiting) role_is ∙ none) ];
        resting = λ work is. subst (λ (o : PlainWork). (h'.me.0.found ≡ true) ⊎ RestsWork (length l.calls) o) (one_work b.work' work (sym b.there ∙ is)) (r.resting (s.unmarked b.work b.had));
      }
    where
      one_role : (x y : Role) → Some x ≡ Some y → x ≡ y
      one_role x y f = cc f

      one_work : (x y : PlainWork) → Some (Some x) ≡ Some (Some y) → x ≡ y
      one_work x y f = cc f

-- ---- all of them

module _ (l : Load) (h h' : PlainHead) (short : Bool) (all : WorkersBack l 0 l.workers h h' short) where
  pub all_back : (w : ℕ) → w < l.workers → IsWorkerBack h' w
  all_back w low = worker_is_back l w h h' short (all.each w (omega arith) low)

  pub all_ran : short ≡ false → (w : ℕ) → w < l.workers → IsAtStart l h w → HasRunBack l h' w
  all_ran e w low s = worker_run l w h h' short (all.each w (omega arith) low) s e

-- ---- at the beginning

-- other actors leave the head
pub start_stays : (l : Load) (h h' : PlainHead) (w : ℕ) → has w h'.me.0 ≡ has w h.me.0 → h'.workers ≡ h.workers → IsAtStart l h w → IsAtStart l h' w
start_stays l h h' w role works s = record {
  role = s.role;
  is = role ∙ s.is;
  calls = s.calls;
  raised = s.raised;
  unmarked = λ work is. s.unmarked work (ap (λ (xs : List (Option PlainWork)). slice_get xs w) (sym works) ∙ is);
}

pub ready_stays : (h h' : PlainHead) (from to : ℕ) → h'.workers ≡ h.workers → AreReady h from to → AreReady h' from to
ready_stays h h' from to works ready w low high = (let o = ready w low high in (o.0, ap (λ (xs : List (Option PlainWork)). slice_get xs w) works ∙ o.1, o.2))

module _ (origin : Plain) (h : PlainHead) (q : Opened origin.load origin) (view : h.me ≡ (first_view origin, [])) (unbegun : AreUnbegun h.workers) where
  role_first : (w : ℕ) → w < origin.load.workers → has w h.me.0 ≡ Some (role_at origin w)
  role_first w low = ap (λ (m : Sat). role_in w m.0.roles) view ∙ role_below origin (origin.load.workers + origin.load.streams + 1) w (omega (arith, low))

  share_first : (w : ℕ) → w < origin.load.workers → (role_at origin w).share ≡ worker_share origin w
  share_first w low = elim (leb_tells (w + 1) origin.load.workers) [
    | inl a ↦ ap (λ (b : Bool). if b then worker_share origin w else outer_share origin w) a.0
    | inr b ↦ absurd (let e = b.1 in omega (arith, e, low))
  ]

  pub at_start : (w : ℕ) → w < origin.load.workers → IsAtStart origin.load h w
  at_start w low = record {
    role = role_at origin w;
    is = role_first w low;
    calls = λ k.
        (let a : in_calls k (worker_at origin w).waiting ≡ in_calls k (calls_of origin.load w) = ap (in_calls k) (q.waiting w low) in
        let b : worker_of (role_at origin w) ≡ worker_at origin w = ap worker_in_share (share_first w low) in
        let c = ap (in_worker k) b in
        omega (arith, a, c));
    raised = refl;
    unmarked = λ work is. (unbegun w work is).1;
  }

  -- each worker is ready that has its place in the head
  pub all_ready : Heads h → ((w : ℕ) → slice_get h.workers w ≡ Some None → ⊥) → length h.workers ≡ origin.load.workers → AreReady h 0 origin.load.workers
  all_ready g whole count w low high = by_case (slice_get h.workers w) refl
    where
      there : (xs : List (Option PlainWork)) (i : ℕ) → i < length xs → slice_get xs i ≡ None → ⊥
      there [] i lt e = omega (arith, lt)
      there (x ∷ xs) zero lt e = (let bad : Some x ≡ None = e in cc)
      there (x ∷ xs) (suc i) lt e = there xs i (omega (arith, lt)) e

      by_case : (x : Option (Option PlainWork)) → slice_get h.workers w ≡ x → (o : PlainWork) × (slice_get h.workers w ≡ Some (Some o)) × (o.txn.hand ≡ None)
      by_case None e = absurd (there h.workers w (omega (arith, high, count)) e)
      by_case (Some None) e = absurd (whole w e)
      by_case (Some (Some o)) e = (o, e, (unbegun w o e).0)
