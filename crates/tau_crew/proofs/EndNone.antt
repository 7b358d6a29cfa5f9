-- Where no disk failed, memory was there and no call was left over, no worker has a call to begin: the stop was raised by none.
use Rattle.std.proofs.Common.{ℕ, zero, suc, ◌+◌, ◌-◌, ◌<◌, ◌≤◌, ◌≡◌, ◌⊎◌, inl, inr, Bool, true, false, Option, List, [], length, map, sym, ap, subst, ◌∙◌, arith}
use Rattle.std.specs.Prelude.{Some, None, slice_get, if◌then◌else◌}
use Rattle.std.specs.Option.{option_map}
use Rattle.std.proofs.lemmas.Option.{slice_get-map}
use Rattle.atomic_table.specs.Seated.{TableId}
use Rattle.tau_disk.specs.declared.disk.Disk.{Ghosts}
use Rattle.tau_stream.specs.declared.writer.Writer.{Writer}
use Rattle.tau_machine.specs.Worker.{Worker}
use Rattle.tau_core.specs.State.{Plain}
use Rattle.tau_core.specs.View.{all_numbered}
use Rattle.tau_occ.specs.declared.style.Style.{Style}
use Rattle.tau_rule.specs.Heads.{role_or}
use Rattle.tau_rule.specs.Role.{Role}
use Rattle.tau_rule.specs.Rule.{clerk_role, has, is_raised, manager_role}
use Rattle.tau_rule.specs.Steps.{first_role, worker_in_share}
use Rattle.tau_desk.specs.Ends as desk
use Rattle.tau_desk.specs.Resumes.{AllRest, CanGoOn, Rests, RestsWork, left_in}
use Rattle.tau_desk.specs.Seats.{HasWork, Heads, PlainHead}
use Rattle.tau_desk.specs.Shares.{PlainWork, ShowsWorker, own_worker}
use Rattle.tau_run.specs.StopsLeave.{NamesLowest}
use Rattle.tau_crew_facts.specs.Ends.{stops_of}
use Rattle.tau_crew_facts.proofs.Stops.{works_at}
use Rattle.tau_crew.specs.declared.clerk.ClerkJob.{ClerkJob}
use Rattle.tau_crew.specs.declared.manager.ManagerJob.{ManagerJob}
use Rattle.tau_crew.specs.Gathering.{raised_in}
use Rattle.tau_crew.specs.Ending.{HasRunBack, role_back, worker_back}
use Rattle.tau_crew.specs.EndCloses.{IsAllBack}
use Rattle.tau_crew.specs.EndDone.{NoneShort}
use Rattle.tau_crew.specs.EndJoins.{writer_in}
use Rattle.tau_crew.proofs.EndCloses.{as_first, job_at}
use Rattle.tau_base.proofs.Lists.{some_at, got_within}

-- some actor has raised it
raised_by : (n : ℕ) (f : ℕ → Bool) → is_raised n f ≡ true → ((u : ℕ) → u < n → f u ≡ false) → ⊥
raised_by zero f e none = let bad : false ≡ true = e in cc bad
raised_by (suc n) f e none =
    let last : f n ≡ false = none n (omega arith) in
    raised_by n f (sym (ap (λ (b : Bool). if b then true else is_raised n f) last) ∙ e) (λ u lt. none u (omega (arith, lt)))

module _ {D : Type 0} {G : Ghosts D} (first : Plain) (table : TableId) (bases : ℕ → List ℕ) (ws : List (Writer D G)) (h : PlainHead) (jobs : List (ManagerJob D G)) (telling : ClerkJob) (b : IsAllBack first table bases ws h jobs telling) (d : Heads h) {style : Style} (result : Plain) (k : desk.IsClosing first style h.me.0 result)
    (memory : NoneShort jobs) (ran : (w : ℕ) → w < first.load.workers → HasRunBack first.load h w) (raised : raised_in telling.seat.me.0 ≡ false) (goes : NamesLowest first.load.streams (stops_of (map writer_in jobs) k.state.core.plv) None) where
  raised_at : (u : ℕ) (r : Role) → has u h.me.0 ≡ Some r → r.raised ≡ false → k.state.raised u ≡ false
  raised_at u r is low = (k.roles u r is).1 ∙ low

  raised_worker : (u : ℕ) → u < first.load.workers → k.state.raised u ≡ false
  raised_worker u lt =
      let back = b.head.workers u lt in
      let has_work : HasWork first h.me.0 u back.work = subst (λ (o : Plain). HasWork o h.me.0 u back.work) (as_first first table bases ws h jobs telling b d) (d.worker u back.work back.there) in
      let role : role_back h u ≡ has_work.role = ap role_or has_work.is in
      raised_at u has_work.role has_work.is (sym (ap (λ (r : Role). r.raised) role) ∙ (ran u lt).raised)

  raised_manager : (j : ℕ) → j < first.load.streams → k.state.raised (manager_role first.load j) ≡ false
  raised_manager j lt =
      let (job, at) = job_at first table bases ws h jobs telling b d j lt in
      let (w, is) = some_at ws j (let n = b.managers.writers in omega (arith, lt, n)) in
      let driven = (b.managers.each j w job is at).manager.driven (memory j job at) in
      let its : slice_get (map writer_in jobs) j ≡ Some job.writer = slice_get-map writer_in jobs j ∙ ap (option_map writer_in) at in
      raised_at (manager_role first.load j) (first_role job.seat.me.0.roles).1 (subst (λ (i : ℕ). has (manager_role first.load i) h.me.0 ≡ Some (first_role job.seat.me.0.roles).1) (let e : 0 + j ≡ j = omega arith in e) (b.has j job at).role) (driven.raised ∙ works_at (map writer_in jobs) k.state.core.plv j job.writer its (goes j lt))

  raised_clerk : k.state.raised (clerk_role first.load) ≡ false
  raised_clerk = raised_at (clerk_role first.load) (first_role telling.seat.me.0.roles).1 b.has_clerk raised

  raised_none : (u : ℕ) → u < first.load.workers + first.load.streams + 1 → k.state.raised u ≡ false
  raised_none u lt = elim (split u first.load.workers) [
    | inl low ↦ raised_worker u low
    | inr past ↦ elim (split u (first.load.workers + first.load.streams)) [
      | inl mid ↦ subst (λ (i : ℕ). k.state.raised i ≡ false) (let e : first.load.workers + (u - first.load.workers) ≡ u = omega (arith, past) in e) (raised_manager (u - first.load.workers) (omega (arith, past, mid)))
      | inr high ↦ subst (λ (i : ℕ). k.state.raised i ≡ false) (let e : first.load.workers + first.load.streams ≡ u = omega (arith, high, lt) in e) raised_clerk
    ]
  ]
    where
      split : (x y : ℕ) → (x < y) ⊎ (y ≤ x)
      split x y = grind arith

  not_found : h.me.0.found ≡ true → ⊥
  not_found so = raised_by (first.load.workers + first.load.streams + 1) k.state.raised (k.sees.found so) raised_none

  rests_at : (w : ℕ) (work : PlainWork) → w < first.load.workers → slice_get h.workers w ≡ Some (Some work) → RestsWork (length first.load.calls) work
  rests_at w work lt is = elim ((ran w lt).resting work is) [
    | inl so ↦ absurd (not_found so)
    | inr rests ↦ rests
  ]

  all_rest : AllRest (length first.load.calls) h.workers
  all_rest w o is =
      let count : length h.workers ≡ first.load.workers = d.worker_count ∙ ap (λ (p : Plain). p.load.workers) (as_first first table bases ws h jobs telling b d) in
      let low = got_within h.workers w o is in
      let lt : w < first.load.workers = omega (arith, low, count) in
      let back = b.head.workers w lt in
      let same : Some back.work ≡ o = (let e : Some (Some back.work) ≡ Some o = sym back.there ∙ is in cc e) in
      subst (Rests (length first.load.calls)) same (rests_at w back.work lt back.there)

  left_none : (h.me.0.found ≡ true) ⊎ CanGoOn (length first.load.calls) h.workers None → (w : ℕ) (o : Option PlainWork) → slice_get h.workers w ≡ Some o → left_in o ≡ []
  left_none can = elim can [
    | inl so ↦ absurd (not_found so)
    | inr rest ↦ elim rest [
      | inl some ↦ absurd (some all_rest)
      | inr none ↦ none
    ]
  ]

  -- no worker has a call to begin, and none was left over
  pub nothing_left : (h.me.0.found ≡ true) ⊎ CanGoOn (length first.load.calls) h.workers None → (w : ℕ) → w < first.load.workers → ((worker_back h w).waiting ≡ []) × ((worker_back h w).left ≡ [])
  nothing_left can w lt =
      let back = b.head.workers w lt in
      let has_work : HasWork first h.me.0 w back.work = subst (λ (o : Plain). HasWork o h.me.0 w back.work) (as_first first table bases ws h jobs telling b d) (d.worker w back.work back.there) in
      let role : role_back h w ≡ has_work.role = ap role_or has_work.is in
      let worker : worker_back h w ≡ has_work.work.worker = ap (λ (r : Role). worker_in_share r.share) role ∙ ap worker_in_share has_work.work.share in
      let shows : has_work.work.worker ≡ own_worker first.load back.work = subst (ShowsWorker first.load has_work.work.worker back.work) (rests_at w back.work lt back.there).begun has_work.work.shows in
      let none : back.work.left ≡ [] = left_none can w (Some back.work) back.there in (
        elim (ran w lt).ended [
          | inl so ↦ absurd (not_found so)
          | inr none ↦ none
        ],
        ap (λ (x : Worker). x.left) (worker ∙ shows) ∙ ap (all_numbered first.load.calls) none,
      )
