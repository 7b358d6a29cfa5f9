-- A call that was left over runs alone, and the head has every worker's role again.
use Rattle.std.proofs.Common.{ℕ, ◌+◌, ◌==◌, ◌<◌, ◌≤◌, ◌≡◌, ◌⊎◌, Bool, true, false, inl, inr, cond, arith, List, [], ◌∷◌, length, refl, sym, ap, subst, ◌∙◌, Option, eq-eqb, length-set}
use Rattle.std.specs.Prelude.{Some, None, is_err, Ok, Err, Result, slice_get, slice_index, slice_set}
use Rattle.std.proofs.lemmas.Bool.{cases_eq}
use Rattle.atomic_table.specs.Seated.{TableId}
use Rattle.tau_base.specs.declared.limits.TheConstants.{MAX_WORKERS}
use Rattle.tau_base.specs.declared.value.NoMemory.{NoMemory}
use Rattle.tau_base.proofs.Vectors.{join_at}
use Rattle.tau_machine.specs.Accounts.{in_calls, in_worker}
use Rattle.tau_machine.specs.Worker.{Worker}
use Rattle.tau_machine.proofs.Accounts.{calls_append}
use Rattle.tau_core.specs.Opens.{calls_of}
use Rattle.tau_core.specs.State.{Plain}
use Rattle.tau_core.specs.declared.state.Load.{Load}
use Rattle.tau_core.proofs.Lists.{got_other, got_same}
use Rattle.tau_core.proofs.GatheredItems.{set_set}
use Rattle.tau_rule.specs.Heads.{left_by, resumed, role_or, split_as, without}
use Rattle.tau_rule.specs.Knows.{Knows}
use Rattle.tau_rule.specs.Role.{Role, Share, role_in}
use Rattle.tau_rule.specs.Rule.{clerk_role, has, manager_role}
use Rattle.tau_rule.specs.Steps.{Sat, first_role, worker_in_share}
use Rattle.tau_desk.specs.Ends.{IsWorkerSplit, first_raised, told_head_raised}
use Rattle.tau_desk.specs.Manages.{told_found}
use Rattle.tau_desk.specs.Resumes.{CanGoOn, IsResumed, ResumesAt, RestsWork}
use Rattle.tau_desk.specs.Seats.{HasWork, Heads, PlainHead, PlainWorkerSeat, Works}
use Rattle.tau_desk.specs.Shares.{IsWork, PlainWork}
use Rattle.tau_desk.proofs.Assembling.{same_inside}
use Rattle.tau_desk.proofs.CloseHead.{HeadAt, head_at}
use Rattle.tau_desk.proofs.ResumeSplits.{lefts_as, resumes_at, resting}
use Rattle.tau_crew_facts.specs.Ends.{IsLoose}
use Rattle.tau_crew.specs.Ending.{HasRunBack, IsHeadBack, IsWorkerBack, role_back, worker_back}
use Rattle.tau_crew.specs.LeftOver.{AllHaveRun, HasRaised, IsFirstOut, KeepsBeside, LeftWent, SeatBack}
use Rattle.tau_crew.specs.WorkersBack.{AreReady, IsAtStart, IsStillRole, SeatRan, WorkersBack, worker_of}
use Rattle.tau_crew.proofs.EndJoins.{role_here, role_other, same_origin}
use Rattle.tau_crew.proofs.WorkBack.{none_back, one_back, refused_back}
use Rattle.tau_crew.proofs.WorkReturn.{worker_is_back, worker_run}
use Rattle.tau_crew.proofs.WorkSteps.{unjoined_none}
use Rattle.tau_base.proofs.Logic.{or_alone, or_true, or_left}

-- ---- the head beside the workers

pub beside_none : (h : PlainHead) → KeepsBeside h h
beside_none h = record { table = refl; opened = refl; managers = refl; clerk = refl; found = λ f. f; up = λ j. omega arith }

pub beside_then : (a b c : PlainHead) → KeepsBeside a b → KeepsBeside b c → KeepsBeside a c
beside_then a b c p q = record {
  table = q.table ∙ p.table;
  opened = q.opened ∙ p.opened;
  managers = q.managers ∙ p.managers;
  clerk = q.clerk ∙ p.clerk;
  found = λ f. q.found (p.found f);
  up = λ j. (let x = p.up j in let y = q.up j in omega (arith, x, y));
}

-- ---- a worker whose role and calls are as they were

module _ (h h' : PlainHead) (u : ℕ) (role role' : Role) (is : has u h.me.0 ≡ Some role) (is' : has u h'.me.0 ≡ Some role') (works : slice_get h'.workers u ≡ slice_get h.workers u) where
  stays_back : role'.share ≡ role.share → IsWorkerBack h u → IsWorkerBack h' u
  stays_back same b =
      let share : (role_back h' u).share ≡ (role_back h u).share = ap (λ (o : Option Role). (role_or o).share) is' ∙ same ∙ ap (λ (o : Option Role). (role_or o).share) (sym is) in
      record {
        work = b.work;
        there = works ∙ b.there;
        loose = subst (λ (s : Share). IsLoose (worker_in_share s).hand) (sym share) b.loose;
        held = b.held;
        unjoined = b.unjoined;
      }

  stays_ran : (l : Load) → role' ≡ role → (h.me.0.found ≡ true → h'.me.0.found ≡ true) → HasRunBack l h u → HasRunBack l h' u
  stays_ran l same found b =
      let now : role_back h' u ≡ role_back h u = ap role_or is' ∙ same ∙ ap role_or (sym is) in
      record {
        rests = ap (λ (r : Role). (worker_of r).hand) now ∙ b.rests;
        kept = λ n. subst (λ (r : Role). in_calls n (calls_of l u) ≤ in_worker n (worker_of r)) (sym now) (b.kept n);
        raised = ap (λ (r : Role). r.raised) now ∙ b.raised;
        ended = elim b.ended [ inl so ↦ inl (found so) | inr none ↦ inr (ap (λ (r : Role). (worker_of r).waiting) now ∙ none) ];
        resting = λ work at. elim (b.resting work (sym works ∙ at)) [ inl so ↦ inl (found so) | inr rests ↦ inr rests ];
      }

-- ---- none went on

module _ (first : Plain) (table : TableId) (h h' : PlainHead) (b : IsHeadBack first table h) (g : Heads h) where
  -- the role of a worker
  pub its : (u : ℕ) → u < first.load.workers → (role : Role) × (has u h.me.0 ≡ Some role)
  its u lt = (let k = g.worker u (b.workers u lt).work (b.workers u lt).there in (k.role, k.is))

  -- the head has looked whether the stop is raised
  module _ (n : ℕ) (e : h' ≡ record h { me = (told_found h.me.0 n, h.me.1) }) where
    found_on : h.me.0.found ≡ true → h'.me.0.found ≡ true
    found_on so = ap (λ (x : PlainHead). x.me.0.found) e ∙ or_true (n == 1) h.me.0.found so

    pub looked_beside : KeepsBeside h h'
    looked_beside = record {
      table = ap (λ (x : PlainHead). x.table_id) e;
      opened = ap (λ (x : PlainHead). x.me.0.opened) e;
      managers = ap (λ (x : PlainHead). x.managers) e;
      clerk = ap (λ (x : PlainHead). x.clerk) e;
      found = found_on;
      up = λ j. (let s = ap (λ (x : PlainHead). slice_index x.seen j) e in omega (arith, s));
    }

    same_role : (u : ℕ) (role : Role) → has u h.me.0 ≡ Some role → has u h'.me.0 ≡ Some role
    same_role u role is = ap (λ (x : PlainHead). has u x.me.0) e ∙ is

    same_work : (u : ℕ) → slice_get h'.workers u ≡ slice_get h.workers u
    same_work u = ap (λ (x : PlainHead). slice_get x.workers u) e

    pub looked_back : IsHeadBack first table h'
    looked_back = record {
      own = looked_beside.table ∙ b.own;
      opened = looked_beside.opened ∙ b.opened;
      workers = λ u lt. (let r = its u lt in stays_back h h' u r.0 r.0 r.1 (same_role u r.0 r.1) (same_work u) refl (b.workers u lt));
    }

    pub looked_ran : AllHaveRun first.load h → AllHaveRun first.load h'
    looked_ran ran = λ u lt. (let r = its u lt in stays_ran h h' u r.0 r.0 r.1 (same_role u r.0 r.1) (same_work u) first.load refl found_on (ran u lt))

    -- and has found it so
    pub looked_stopped : AllHaveRun first.load h → (n == 1) ≡ true → LeftWent first table h h' (Ok false)
    looked_stopped ran so = record {
      beside = looked_beside;
      back = looked_back;
      ran = looked_ran ran;
      none = λ _. inl (ap (λ (x : PlainHead). x.me.0.found) e ∙ or_left (n == 1) h.me.0.found so);
      raised = tt;
    }

  -- no call can go on
  pub went_none : AllHaveRun first.load h → h' ≡ h → CanGoOn (length first.load.calls) h.workers None → LeftWent first table h h' (Ok false)
  went_none ran e can = subst (λ (x : PlainHead). LeftWent first table h x (Ok false)) (sym e) (record { beside = beside_none h; back = b; ran = ran; none = λ _. inr can; raised = tt })

  -- a seat could not be made, and the stop is raised
  module _ (e : h' ≡ record h { me = (told_head_raised h.me.0, h.me.1) }) where
    all_still : WorkersBack first.load 0 0 h h' true
    all_still = refused_back first.load 0 0 h h' g (λ w low high. absurd (omega (arith, high))) e

    refused_beside : KeepsBeside h h'
    refused_beside = record {
      table = all_still.table;
      opened = all_still.opened;
      managers = all_still.managers;
      clerk = all_still.clerk;
      found = all_still.found;
      up = λ j. (let s = ap (λ (x : PlainHead). slice_index x.seen j) e in omega (arith, s));
    }

    first_raises : (rs : List (ℕ × Role)) (u : ℕ) (r : Role) → role_in u rs ≡ Some r → (v : ℕ) × (r' : Role) × (role_in v (first_raised rs) ≡ Some r') × (r'.raised ≡ true)
    first_raises [] u r is = absurd (let bad : None ≡ Some r = is in cc)
    first_raises (x ∷ xs) u r is = (let r' : Role = record x.1 { raised = true } in (x.0, r', role_here ((x.0, r') ∷ []) xs x.0 r' refl, refl))

    pub went_refused : 1 ≤ first.load.workers → (x : NoMemory) → LeftWent first table h h' (Err x)
    went_refused some x = record {
      beside = refused_beside;
      back = record {
        own = all_still.table ∙ b.own;
        opened = all_still.opened ∙ b.opened;
        workers = λ u lt.
            (let r = its u lt in
            let now = all_still.roles u r.0 (inr (omega arith)) r.1 in
            stays_back h h' u r.0 now.0 r.1 now.1 (all_still.works u (inr (omega arith))) now.2.share (b.workers u lt));
      };
      ran = tt;
      none = tt;
      raised =
          (let r = its 0 some in
          let f = first_raises h.me.0.roles 0 r.0 r.1 in
          record { actor = f.0; role = f.1; is = ap (λ (y : PlainHead). has f.0 y.me.0) e ∙ f.2; raised = f.3 });
    }

-- the head had looked before it
pub went_after : (first : Plain) (table : TableId) (a b c : PlainHead) (r : Result Bool NoMemory) → KeepsBeside a b → LeftWent first table b c r → LeftWent first table a c r
went_after first table a b c r k q = record { beside = beside_then a b c k q.beside; back = q.back; ran = q.ran; none = q.none; raised = q.raised }

-- ---- a call went on

module _ (first : Plain) (table : TableId) (h h1 : PlainHead) (s : PlainWorkerSeat) (b : IsHeadBack first table h) (g : Heads h) (q : IsResumed first.load h h1 s) where
  abbrev w : ℕ
  w = q.left.worker

  at : HeadAt first h
  at = head_at h g first b.opened

  rest : (slice_get q.work.left q.left.at ≡ Some q.left.number) × RestsWork (length first.load.calls) q.work
  rest = lefts_as first h at q.left q.can q.work q.there

  goes : ResumesAt first.load h.me.0 w q.left.at
  goes = resumes_at first h at q.left q.can q.work q.there rest.0 rest.1

  -- the worker's role, for which the call comes next
  abbrev role : Role
  role = resumed goes.can.role goes.can.worker goes.call goes.front goes.back

  low : w < length h.workers
  low = (let n = at.worker_count in let t = goes.can.there in omega (arith, n, t))

  pub resumed_rests : s.work.txn.hand ≡ None
  resumed_rests = ap (λ (o : PlainWork). o.txn.hand) q.work_is ∙ rest.1.hand

  bare : s.work.mark ≡ None
  bare = ap (λ (o : PlainWork). o.mark) q.work_is ∙ rest.1.begun

  me_is_new : s.me ≡ (split_as w role h.me.0, [])
  me_is_new = q.new_me ∙ ap (λ (v : Knows). let m : Sat = (v, []) in m) goes.told

  seat_roles : s.me.0.roles ≡ (w, role) ∷ []
  seat_roles = ap (λ (m : Sat). m.0.roles) me_is_new

  pub resumed_opened : s.me.0.opened ≡ Some first
  resumed_opened = ap (λ (m : Sat). m.0.opened) me_is_new ∙ b.opened

  pub resumed_own : s.table_id ≡ table
  resumed_own = q.table ∙ b.own

  pub left_own : h1.table_id ≡ table
  left_own = ap (λ (x : PlainHead). x.table_id) q.head_is ∙ b.own

  pub left_opened : h1.me.0.opened ≡ Some first
  left_opened = ap (λ (m : Sat). m.0.opened) q.head_me ∙ b.opened

  left_work : (u : ℕ) → slice_get h1.workers u ≡ slice_get (slice_set h.workers w None) u
  left_work u = ap (λ (x : PlainHead). slice_get x.workers u) q.head_is

  -- of the workers this one alone is out
  pub left_out : IsFirstOut h1 w
  left_out = record {
    out = λ work is. (let gone : Some None ≡ Some (Some work) = sym (left_work w ∙ got_same h.workers w None low) ∙ is in not_there work gone);
    below = λ u lt.
        (let t = goes.can.there in
        let o = resting first h at q.left q.can u (omega (arith, lt, t)) in
        (o.0, left_work u ∙ got_other h.workers w u None (λ e. omega (arith, e, lt)) ∙ o.1));
  }
    where
      not_there : (work : PlainWork) → ◌≡◌ {A = Option (Option PlainWork)} (Some None) (Some (Some work)) → ⊥
      not_there work e = (let bad : ◌≡◌ {A = Option PlainWork} None (Some work) = inside None (Some work) e in cc)
        where
          inside : (x y : Option PlainWork) → Some x ≡ Some y → x ≡ y
          inside x y f = cc f

  pub few_out : first.load.workers ≤ MAX_WORKERS → w < MAX_WORKERS
  few_out few = (let t = goes.can.there in omega (arith, few, t))

  module _ (a : Works s) where
    -- the head as if the call came next there already, from which the worker's seat is split off
    abbrev ready : PlainHead
    ready = record h { me = (record h.me.0 { roles = (w, role) ∷ h.me.0.roles }, []); workers = slice_set h.workers w (Some s.work) }

    ready_here : has w ready.me.0 ≡ Some role
    ready_here = role_here ((w, role) ∷ []) h.me.0.roles w role refl

    ready_other : (u : ℕ) → (u ≡ w → ⊥) → has u ready.me.0 ≡ has u h.me.0
    ready_other u ne = role_other ((w, role) ∷ []) h.me.0.roles w role u refl ne

    ready_work : slice_get ready.workers w ≡ Some (Some s.work)
    ready_work = got_same h.workers w (Some s.work) low

    me_of_head : h1.me ≡ (left_by w ready.me.0, [])
    me_of_head = q.head_me ∙ ap (λ (x : Bool). let m : Sat = (record h.me.0 { roles = cond x (without w h.me.0.roles) ((w, role) ∷ without w h.me.0.roles) }, []) in m) (sym (eq-eqb w w refl))

    split : IsWorkerSplit w 0 ready h1 s
    split = record {
      split = record {
        head_is = me_of_head;
        new_is = me_is_new ∙ ap (λ (o : Option Role). let m : Sat = (record h.me.0 { roles = (w, role_or o) ∷ []; hand = None }, []) in m) (sym ready_here);
      };
      left = q.head_is ∙ ap (λ (ws : List (Option PlainWork)). record h { me = h1.me; workers = ws }) (sym (set_set h.workers w (Some s.work) None));
      table = q.table;
      worker = q.worker;
      room = s.work.committed_room;
      work = ready_work;
      roomy = omega arith;
      read = q.read;
      seen = q.seen;
    }

    below : w < g.origin.load.workers
    below = (let n = g.worker_count in let lt = low in omega (arith, n, lt))

    its_work : HasWork g.origin ready.me.0 w s.work
    its_work = record {
      role = role;
      is = ready_here;
      work = subst (λ (n : ℕ). IsWork g.origin.load n role s.work) q.worker
          (subst (λ (r : Role). IsWork g.origin.load s.worker r s.work) (ap (λ (rs : List (ℕ × Role)). (first_role rs).1) (sym a.seat.roles ∙ seat_roles))
          (subst (λ (p : Plain). IsWork p.load s.worker a.role s.work) (same_origin s.me.0.opened a.seat.opened (ap (λ (m : Sat). m.0.opened) me_is_new ∙ g.opened)) a.work));
      rests = (unjoined_none s.work.txn resumed_rests).posted;
    }

    heads : Heads ready
    heads = record {
      origin = g.origin;
      opened = g.opened;
      idle = g.idle;
      none = refl;
      read = g.read;
      seen_is = g.seen_is;
      seen_wide = g.seen_wide;
      worker_count = length-set h.workers w (Some s.work) ∙ g.worker_count;
      manager_count = g.manager_count;
      worker = λ u o e. elim (cases_eq u w) [
        | inl is ↦ by_same u o is e
        | inr ne ↦ (let k = g.worker u o (sym (got_other h.workers w u (Some s.work) ne) ∙ e) in record { role = k.role; is = ready_other u ne ∙ k.is; work = k.work; rests = k.rests })
      ];
      manager = λ j o e. (let k = g.manager j o e in record { role = k.role; is = ready_other (manager_role g.origin.load j) (λ d. (let lt = below in omega (arith, d, lt))) ∙ k.is; stock = k.stock });
      clerk_is = λ e. (let k = g.clerk_is e in record { role = k.role; acked = k.acked; is = ready_other (clerk_role g.origin.load) (λ d. (let lt = below in omega (arith, d, lt))) ∙ k.is; share = k.share; wide = k.wide });
    }
      where
        by_same : (u : ℕ) (o : PlainWork) → u ≡ w → slice_get ready.workers u ≡ Some (Some o) → HasWork g.origin ready.me.0 u o
        by_same u o is e =
            let same : s.work ≡ o = same_inside s.work o (slice_get ready.workers w) ready_work (ap (slice_get ready.workers) (sym is) ∙ e) in
            subst (λ (n : ℕ). HasWork g.origin ready.me.0 n o) (sym is) (subst (λ (x : PlainWork). HasWork g.origin ready.me.0 w x) same its_work)

    are_ready : AreReady ready w (w + 1)
    are_ready v from to =
        let e : v ≡ w = omega (arith, from, to) in
        subst (λ (n : ℕ). (o : PlainWork) × (slice_get ready.workers n ≡ Some (Some o)) × (o.txn.hand ≡ None)) (sym e) (s.work, ready_work, resumed_rests)

    -- the worker counts the same calls
    was : worker_back h w ≡ goes.can.worker
    was = ap (λ (o : Option Role). worker_of (role_or o)) goes.can.is ∙ ap worker_in_share goes.can.share

    waits : goes.can.worker.waiting ≡ []
    waits =
        let k = goes.can.all w goes.can.there in
        let same : worker_back h w ≡ k.1 = ap (λ (o : Option Role). worker_of (role_or o)) k.2 ∙ ap worker_in_share k.3 in
        ap (λ (x : Worker). x.waiting) (sym was ∙ same) ∙ k.5

    at_start : HasRunBack first.load h w → IsAtStart first.load ready w
    at_start r = record {
      role = role;
      is = ready_here;
      calls = λ k.
          (let kept = r.kept k in
          let whole = ap (in_worker k) was in
          let none = ap (in_calls k) waits in
          let left = ap (in_calls k) goes.can.left in
          let with = calls_append k goes.front (goes.call ∷ goes.back) in
          let rest = calls_append k goes.front goes.back in
          omega (arith, kept, whole, none, left, with, rest));
      raised = ap (λ (o : Option Role). (role_or o).raised) (sym goes.can.is) ∙ r.raised;
      unmarked = λ work is. ap (λ (o : PlainWork). o.mark) (sym (same_inside s.work work (slice_get ready.workers w) ready_work is)) ∙ bare;
    }

  module _ (h3 : PlainHead) (r : Result Unit NoMemory) (back : SeatBack first.load h1 h3 s r) where
    abbrev now : PlainHead
    now = ready back.was

    seat_ran : SeatRan first.load s back.seat (is_err r)
    seat_ran = record { returned = r; short_is = refl; ends = back.ends; works = back.works }

    all : WorkersBack first.load w (w + 1) now h3 (is_err r)
    all = subst (λ (x : Bool). WorkersBack first.load w (w + 1) now h3 x) (or_alone (is_err r))
        (one_back first.load w (w + 1) 0 now h1 h1 h3 s back.seat (is_err r) false (heads back.was) (split back.was) (omega arith) (are_ready back.was) seat_ran (none_back first.load (w + 1) (w + 1) h1 (omega arith)) back.joined)

    ran_beside : KeepsBeside h h3
    ran_beside = record {
      table = all.table;
      opened = all.opened;
      managers = all.managers;
      clerk = all.clerk;
      found = all.found;
      up = λ j.
          (let x = ap (λ (y : PlainHead). slice_index y.seen j) back.joined in
          let y = ap (λ (z : PlainHead). slice_index z.seen j) q.head_is in
          let z = join_at h1.seen back.seat.seen j in
          omega (arith, x, y, z));
    }

    apart : (u : ℕ) → (u ≡ w → ⊥) → (u < w) ⊎ (w + 1 ≤ u)
    apart u ne = grind (arith, ne)

    -- another worker
    module _ (u : ℕ) (lt : u < first.load.workers) (ne : u ≡ w → ⊥) where
      its_role : (x : Role) × (has u h.me.0 ≡ Some x)
      its_role = its first table h h b g u lt

      after : (x : Role) × (has u h3.me.0 ≡ Some x) × IsStillRole (is_err r) its_role.0 x
      after = all.roles u its_role.0 (apart u ne) (ready_other back.was u ne ∙ its_role.1)

      work_same : slice_get h3.workers u ≡ slice_get h.workers u
      work_same = all.works u (apart u ne) ∙ got_other h.workers w u (Some s.work) ne

      other_stays : IsWorkerBack h3 u
      other_stays = stays_back h h3 u its_role.0 after.0 its_role.1 after.1 work_same after.2.share (b.workers u lt)

      other_ran : is_err r ≡ false → HasRunBack first.load h u → HasRunBack first.load h3 u
      other_ran e x = stays_ran h h3 u its_role.0 after.0 its_role.1 after.1 work_same first.load (after.2.same e) all.found x

    ran_back : IsHeadBack first table h3
    ran_back = record {
      own = all.table ∙ b.own;
      opened = all.opened ∙ b.opened;
      workers = λ u lt. elim (cases_eq u w) [
        | inl is ↦ subst (λ (n : ℕ). IsWorkerBack h3 n) (sym is) (worker_is_back first.load w now h3 (is_err r) (all.each w (omega arith) (omega arith)))
        | inr ne ↦ other_stays u lt ne
      ];
    }

    all_ran : is_err r ≡ false → AllHaveRun first.load h → AllHaveRun first.load h3
    all_ran e ran = λ u lt. elim (cases_eq u w) [
      | inl is ↦ subst (λ (n : ℕ). HasRunBack first.load h3 n) (sym is) (worker_run first.load w now h3 (is_err r) (all.each w (omega arith) (omega arith)) (at_start back.was (ran w goes.can.there)) e)
      | inr ne ↦ other_ran u lt ne e (ran u lt)
    ]

    seat_raised : (first_role back.seat.me.0.roles).1.raised ≡ true → HasRaised h3
    seat_raised so = record {
      actor = back.seat.worker;
      role = back.works.role;
      is = ap (λ (x : PlainHead). has back.seat.worker x.me.0) back.joined ∙ role_here back.seat.me.0.roles h1.me.0.roles back.seat.worker back.works.role back.works.seat.roles;
      raised = ap (λ (rs : List (ℕ × Role)). (first_role rs).1.raised) (sym back.works.seat.roles) ∙ so;
    }

  pub went_on : (h3 : PlainHead) → AllHaveRun first.load h → SeatBack first.load h1 h3 s (Ok tt) → LeftWent first table h h3 (Ok true)
  went_on h3 ran back = record {
    beside = ran_beside h3 (Ok tt) back;
    back = ran_back h3 (Ok tt) back;
    ran = all_ran h3 (Ok tt) back refl ran;
    none = λ e. absurd (let bad : true ≡ false = e in cc);
    raised = tt;
  }

  pub went_short : (h3 : PlainHead) (x : NoMemory) → SeatBack first.load h1 h3 s (Err x) → LeftWent first table h h3 (Err x)
  went_short h3 x back = record {
    beside = ran_beside h3 (Err x) back;
    back = ran_back h3 (Err x) back;
    ran = tt;
    none = tt;
    raised = seat_raised h3 (Err x) back back.ends.short;
  }

-- ---- which worker is out

abbrev IsThere : PlainHead → ℕ → Type 0
IsThere h u = (work : PlainWork) × (slice_get h.workers u ≡ Some (Some work))

pub first_is_out : (h : PlainHead) (k w : ℕ) → IsFirstOut h w → ((u : ℕ) → u < k → IsThere h u) → ((work : PlainWork) → slice_get h.workers k ≡ Some (Some work) → ⊥) → k ≡ w
first_is_out h k w q below out = elim (cases_eq k w) [
  | inl is ↦ is
  | inr ne ↦ elim (apart_by k w ne) [
    | inl lt ↦ absurd (let o = q.below k lt in out o.0 o.1)
    | inr gt ↦ absurd (let o = below w gt in q.out o.0 o.1)
  ]
]
  where
    apart_by : (x y : ℕ) → (x ≡ y → ⊥) → (x < y) ⊎ (y < x)
    apart_by x y ne = grind (arith, ne)

pub one_there : (h : PlainHead) (k : ℕ) → ((u : ℕ) → u < k → IsThere h u) → IsThere h k → (u : ℕ) → u < k + 1 → IsThere h u
one_there h k below here u lt = elim (cases_eq u k) [
  | inl is ↦ subst (IsThere h) (sym is) here
  | inr ne ↦ below u (under u k lt ne)
]
  where
    under : (x y : ℕ) → x < y + 1 → (x ≡ y → ⊥) → x < y
    under x y lt ne = grind (arith, lt, ne)
