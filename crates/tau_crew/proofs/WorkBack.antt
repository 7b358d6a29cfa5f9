-- Workers leave the head for seats of their own, and come back.
use Rattle.std.proofs.Common.{ℕ, zero, suc, ◌+◌, ◌==◌, ◌<◌, ◌≤◌, ◌≡◌, ◌⊎◌, Bool, true, false, inl, inr, cond, arith, List, [], ◌∷◌, ◌++◌, length, refl, sym, ap, subst, ◌∙◌, Option, ne_eqb, length-set}
use Rattle.std.specs.Prelude.{Some, None, ◌||◌, is_err, Ok, Err, Result, slice_get, slice_set}
use Rattle.std.proofs.lemmas.Bool.{cases_eq}
use Rattle.tau_base.specs.Vectors.{join}
use Rattle.tau_base.specs.declared.value.NoMemory.{NoMemory}
use Rattle.tau_machine.specs.Worker.{Worker}
use Rattle.tau_txn.specs.Txn.{held_by, shown_of}
use Rattle.tau_core.specs.declared.state.Load.{Load}
use Rattle.tau_core.proofs.Lists.{got_other, got_same}
use Rattle.tau_rule.specs.Heads.{both, role_or}
use Rattle.tau_rule.specs.Role.{Role, role_in}
use Rattle.tau_rule.specs.Rule.{has}
use Rattle.tau_rule.specs.Steps.{Sat, first_role, worker_in_share}
use Rattle.tau_desk.specs.Ends.{IsWorkerSplit, first_raised, told_head_raised}
use Rattle.tau_desk.specs.Seats.{HasWork, Heads, PlainHead, PlainWorkerSeat, Works}
use Rattle.tau_desk.specs.Shares.{PlainWork}
use Rattle.tau_desk.proofs.CallBegins.{rests_own}
use Rattle.tau_desk.proofs.SplittingOff.{role_stays}
use Rattle.tau_crew_facts.specs.Ends.{IsLoose}
use Rattle.tau_run.specs.Keeping.{Keeps}
use Rattle.tau_crew.specs.Working.{HasRun, WorkerEnds, worker_at}
use Rattle.tau_crew.specs.WorkersBack.{AreReady, IsStillRole, SeatRan, WorkerIsBack, WorkerRan, WorkersBack, worker_of}
use Rattle.tau_crew.proofs.WorkSteps.{unjoined_none}
use Rattle.tau_base.proofs.Logic.{or_first, or_true, or_left}
use Rattle.tau_desk.proofs.EndStops.{first_there}

or_second : (a b : Bool) → (a || b) ≡ false → b ≡ false
or_second true b e = absurd (let bad : true ≡ false = e in cc)
or_second false b e = e

first_other : (w u : ℕ) (r : Role) (rs : List (ℕ × Role)) → (u ≡ w → ⊥) → role_in u ((w, r) ∷ rs) ≡ role_in u rs
first_other w u r rs ne = ap (λ (b : Bool). cond b (Some r) (role_in u rs)) (ne_eqb w u (λ e. ne (sym e)))

itself : (r : Role) (short : Bool) → IsStillRole short r r
itself r short = record { share = refl; spare = refl; same = λ _. refl }

still : (a b : Bool) (r s t : Role) → IsStillRole b r s → s ≡ t → IsStillRole (a || b) r t
still a b r s t q e = record { share = ap (λ (x : Role). x.share) (sym e) ∙ q.share; spare = ap (λ (x : Role). x.spare) (sym e) ∙ q.spare; same = λ f. sym e ∙ q.same (or_second a b f) }

-- the first role raises the stop
raised_still : (rs : List (ℕ × Role)) (u : ℕ) (r : Role) → role_in u rs ≡ Some r → (r' : Role) × (role_in u (first_raised rs) ≡ Some r') × IsStillRole true r r'
raised_still [] u r e = absurd (let bad : None ≡ Some r = e in cc)
raised_still (x ∷ xs) u r e = by_case (x.0 == u) e
  where
    some_role : (a b : Role) → Some a ≡ Some b → a ≡ b
    some_role a b f = cc f

    by_case : (b : Bool) → cond b (Some x.1) (role_in u xs) ≡ Some r → (r' : Role) × (cond b (Some (record x.1 { raised = true })) (role_in u xs) ≡ Some r') × IsStillRole true r r'
    by_case true f = (let same : x.1 ≡ r = some_role x.1 r f in (record x.1 { raised = true }, refl, record { share = ap (λ (y : Role). y.share) same; spare = ap (λ (y : Role). y.spare) same; same = λ g. absurd (let bad : true ≡ false = g in cc) }))
    by_case false f = (r, f, itself r true)

-- ---- no seat could be made

-- a worker of the head that has no call in hand
pub rests_there : (h : PlainHead) (g : Heads h) (w : ℕ) (o : PlainWork) → slice_get h.workers w ≡ Some (Some o) → o.txn.hand ≡ None → (role : Role) × (has w h.me.0 ≡ Some role) × ((worker_of role).hand ≡ None)
rests_there h g w o is rest =
    let q : HasWork g.origin h.me.0 w o = g.worker w o is in
    let gone = ap (shown_of g.origin.load.procs o.txn.worker) rest in (
      q.role,
      q.is,
      ap (λ (x : _). (worker_in_share x).hand) q.work.share ∙ ap (λ (x : Worker). x.hand) (rests_own g.origin.load q.work.worker o gone q.work.shows) ∙ gone,
    )

loose_none : (o : _) → o ≡ None → IsLoose o
loose_none o e = subst IsLoose (sym e) tt

pub refused_back : (l : Load) (from to : ℕ) (h h' : PlainHead) → Heads h → AreReady h from to → h' ≡ record h { me = (told_head_raised h.me.0, h.me.1) } → WorkersBack l from to h h' true
refused_back l from to h h' g ready e = subst (λ (x : PlainHead). WorkersBack l from to h x true) (sym e) (record {
  table = refl;
  opened = refl;
  managers = refl;
  clerk = refl;
  count = refl;
  found = λ f. f;
  roles = λ u r _ is. raised_still h.me.0.roles u r is;
  works = λ u _. refl;
  each = λ w low high.
      (let o = ready w low high in
      let there = rests_there h g w o.0 o.1 o.2 in
      let now = raised_still h.me.0.roles w there.0 there.1 in
      record {
        role = there.0;
        role' = now.0;
        work = o.0;
        work' = o.0;
        was = there.1;
        is = now.1;
        had = o.1;
        there = o.1;
        loose = loose_none (worker_of now.0).hand (ap (λ (x : _). (worker_in_share x).hand) now.2.share ∙ there.2);
        held = ap held_by o.2;
        unjoined = unjoined_none o.0.txn o.2;
        ran = λ f. absurd (let bad : true ≡ false = f in cc);
      });
})

-- ---- a worker beside the others

-- without workers nothing happens
pub none_back : (l : Load) (from to : ℕ) (h : PlainHead) → to ≤ from → WorkersBack l from to h h false
none_back l from to h none = record {
  table = refl;
  opened = refl;
  managers = refl;
  clerk = refl;
  count = refl;
  found = λ f. f;
  roles = λ u r _ is. (r, is, itself r false);
  works = λ u _. refl;
  each = λ w low high. absurd (omega (arith, low, high, none));
}

-- the others are as ready as they were
pub others_ready : (w to calls : ℕ) (h h1 : PlainHead) (s : PlainWorkerSeat) → IsWorkerSplit w calls h h1 s → AreReady h w to → AreReady h1 (w + 1) to
others_ready w to calls h h1 s q ready u low high =
    let o = ready u (omega (arith, low)) high in
    (o.0, ap (λ (x : PlainHead). slice_get x.workers u) q.left ∙ got_other h.workers w u None (λ e. omega (arith, e, low)) ∙ o.1, o.2)

-- the seat has no call in hand
pub seat_rests : (w to calls : ℕ) (h h1 : PlainHead) (s : PlainWorkerSeat) → IsWorkerSplit w calls h h1 s → AreReady h w to → w < to → s.work.txn.hand ≡ None
seat_rests w to calls h h1 s q ready high =
    let o = ready w (omega arith) high in
    let same : o.0 ≡ record s.work { committed_room = q.room } = inside o.0 (record s.work { committed_room = q.room }) (sym o.1 ∙ q.work) in
    ap (λ (x : PlainWork). x.txn.hand) (sym same) ∙ o.2
  where
    inside : (a b : PlainWork) → Some (Some a) ≡ Some (Some b) → a ≡ b
    inside a b e = cc e

module _ (l : Load) (w to calls : ℕ) (h h1 h2 h3 : PlainHead) (s s' : PlainWorkerSeat) (one rest : Bool) (g : Heads h) (split : IsWorkerSplit w calls h h1 s) (high : w < to) (ready : AreReady h w to) (ran : SeatRan l s s' one) (back : WorkersBack l (w + 1) to h1 h2 rest)
    (join_is : h3 ≡ record h2 { me = (both h2.me.0 s'.me.0, []); workers = slice_set h2.workers s'.worker (Some s'.work); seen = join h2.seen s'.seen }) where
  a' : Works s'
  a' = ran.works

  number : s'.worker ≡ w
  number = ran.ends.seat.2 ∙ split.worker

  -- what the head has at its end
  roles_are : h3.me.0.roles ≡ (w, a'.role) ∷ h2.me.0.roles
  roles_are = ap (λ (x : PlainHead). x.me.0.roles) join_is ∙ ap (λ (r : List (ℕ × Role)). r ++ h2.me.0.roles) a'.seat.roles ∙ ap (λ (n : ℕ). (n, a'.role) ∷ h2.me.0.roles) number

  mine : has w h3.me.0 ≡ Some a'.role
  mine = ap (role_in w) roles_are ∙ first_there w a'.role h2.me.0.roles

  others : (u : ℕ) → (u ≡ w → ⊥) → has u h3.me.0 ≡ has u h2.me.0
  others u ne = ap (role_in u) roles_are ∙ first_other w u a'.role h2.me.0.roles ne

  works_are : h3.workers ≡ slice_set h2.workers w (Some s'.work)
  works_are = ap (λ (x : PlainHead). x.workers) join_is ∙ ap (λ (n : ℕ). slice_set h2.workers n (Some s'.work)) number

  left_works : h1.workers ≡ slice_set h.workers w None
  left_works = ap (λ (x : PlainHead). x.workers) split.left

  other_work : (u : ℕ) → (u ≡ w → ⊥) → slice_get h3.workers u ≡ slice_get h2.workers u
  other_work u ne = ap (λ (xs : List (Option PlainWork)). slice_get xs u) works_are ∙ got_other h2.workers w u (Some s'.work) ne

  first_work : (u : ℕ) → (u ≡ w → ⊥) → slice_get h1.workers u ≡ slice_get h.workers u
  first_work u ne = ap (λ (xs : List (Option PlainWork)). slice_get xs u) left_works ∙ got_other h.workers w u None ne

  role_is_first : (u : ℕ) → (u ≡ w → ⊥) → has u h1.me.0 ≡ has u h.me.0
  role_is_first u ne = ap (λ (m : Sat). role_in u m.0.roles) split.split.head_is ∙ role_stays w u h.me.0.roles ne

  found_is : h3.me.0.found ≡ (h2.me.0.found || s'.me.0.found)
  found_is = ap (λ (x : PlainHead). x.me.0.found) join_is

  long : w < length h2.workers
  long = (let n : w < length h.workers = within h.workers w _ split.work in let x = back.count in let y = ap (length {A = Option PlainWork}) left_works in let z = length-set h.workers w None in omega (arith, n, x, y, z))
    where
      within : (xs : List (Option PlainWork)) (i : ℕ) (x : Option PlainWork) → slice_get xs i ≡ Some x → i < length xs
      within [] i x e = absurd (let bad : None ≡ Some x = e in cc)
      within (y ∷ ys) zero x e = omega arith
      within (y ∷ ys) (suc i) x e = (let q = within ys i x e in omega (arith, q))

  -- ---- the worker itself

  had : (o : PlainWork) × (slice_get h.workers w ≡ Some (Some o)) × (o.txn.hand ≡ None)
  had = ready w (omega arith) high

  there : (role : Role) × (has w h.me.0 ≡ Some role) × ((worker_of role).hand ≡ None)
  there = rests_there h g w had.0 had.1 had.2

  seat_role : first_role s.me.0.roles ≡ (w, there.0)
  seat_role = ap (λ (m : Sat). first_role m.0.roles) split.split.new_is ∙ ap (λ (r : Option Role). (w, role_or r)) there.1

  seat_role' : (first_role s'.me.0.roles).1 ≡ a'.role
  seat_role' = ap (λ (r : List (ℕ × Role)). (first_role r).1) a'.seat.roles

  same_work : had.0 ≡ record s.work { committed_room = split.room }
  same_work = inside had.0 (record s.work { committed_room = split.room }) (sym had.1 ∙ split.work)
    where
      inside : (x y : PlainWork) → Some (Some x) ≡ Some (Some y) → x ≡ y
      inside x y e = cc e

  itself_ran : one ≡ false → WorkerRan l there.0 a'.role had.0 s'.work h3.me.0.found
  itself_ran f = by_result ran.returned ran.ends (sym ran.short_is ∙ f)
    where
      from_run : HasRun l s s' → WorkerRan l there.0 a'.role had.0 s'.work h3.me.0.found
      from_run q = record {
        hand = q.hand;
        rests = ap (λ (r : Role). (worker_of r).hand) (sym seat_role') ∙ q.rests;
        keeps = subst (λ (x : Worker). Keeps x (worker_of a'.role)) (ap (λ (r : ℕ × Role). worker_of r.1) seat_role) (subst (λ (x : Worker). Keeps (worker_at s) x) (ap worker_of seat_role') q.keeps);
        raised = ap (λ (r : Role). r.raised) (sym seat_role') ∙ q.raised ∙ ap (λ (r : ℕ × Role). r.1.raised) seat_role;
        bare = λ e. q.bare (λ _. ap (λ (x : PlainWork). x.mark) (sym same_work) ∙ e) q.hand;
        ended = elim q.ended [
          | inl found ↦ inl (found_is ∙ or_true h2.me.0.found s'.me.0.found found)
          | inr none ↦ inr (ap (λ (r : Role). (worker_of r).waiting) (sym seat_role') ∙ none)
        ];
        resting = λ e. elim (q.resting (λ _. ap (λ (x : PlainWork). x.mark) (sym same_work) ∙ e)) [
          | inl found ↦ inl (found_is ∙ or_true h2.me.0.found s'.me.0.found found)
          | inr rest ↦ inr rest
        ];
      }

      by_result : (r : Result Unit NoMemory) → WorkerEnds l s s' r → is_err r ≡ false → WorkerRan l there.0 a'.role had.0 s'.work h3.me.0.found
      by_result (Ok u) q e = from_run q.done
      by_result (Err x) q e = absurd (let bad : true ≡ false = e in cc)

  itself_back : WorkerIsBack l w h h3 (one || rest)
  itself_back = record {
    role = there.0;
    role' = a'.role;
    work = had.0;
    work' = s'.work;
    was = there.1;
    is = mine;
    had = had.1;
    there = ap (λ (xs : List (Option PlainWork)). slice_get xs w) works_are ∙ got_same h2.workers w (Some s'.work) long;
    loose = subst (λ (r : Role). IsLoose (worker_of r).hand) seat_role' ran.ends.loose;
    held = ran.ends.held;
    unjoined = ran.ends.unjoined;
    ran = λ f. itself_ran (or_first one rest f);
  }

  -- ---- the others

  other_back : (u : ℕ) → (u ≡ w → ⊥) → WorkerIsBack l u h1 h2 rest → WorkerIsBack l u h h3 (one || rest)
  other_back u ne q = record {
    role = q.role;
    role' = q.role';
    work = q.work;
    work' = q.work';
    was = sym (role_is_first u ne) ∙ q.was;
    is = others u ne ∙ q.is;
    had = sym (first_work u ne) ∙ q.had;
    there = other_work u ne ∙ q.there;
    loose = q.loose;
    held = q.held;
    unjoined = q.unjoined;
    ran = λ f. (let r = q.ran (or_second one rest f) in record {
      hand = r.hand;
      rests = r.rests;
      keeps = r.keeps;
      raised = r.raised;
      bare = r.bare;
      ended = elim r.ended [ inl found ↦ inl (found_is ∙ or_left h2.me.0.found s'.me.0.found found) | inr none ↦ inr none ];
      resting = λ e. elim (r.resting e) [ inl found ↦ inl (found_is ∙ or_left h2.me.0.found s'.me.0.found found) | inr work ↦ inr work ];
    });
  }

  next_out : (u : ℕ) → (u < w) ⊎ (to ≤ u) → (u < w + 1) ⊎ (to ≤ u)
  next_out u out = elim out [ inl lt ↦ inl (omega (arith, lt)) | inr le ↦ inr le ]

  not_mine : (u : ℕ) → (u < w) ⊎ (to ≤ u) → u ≡ w → ⊥
  not_mine u out e = elim out [ inl lt ↦ omega (arith, lt, e) | inr le ↦ omega (arith, le, e, high) ]

  pub one_back : WorkersBack l w to h h3 (one || rest)
  one_back = record {
    table = ap (λ (x : PlainHead). x.table_id) join_is ∙ back.table ∙ ap (λ (x : PlainHead). x.table_id) split.left;
    opened = ap (λ (x : PlainHead). x.me.0.opened) join_is ∙ back.opened ∙ ap (λ (m : Sat). m.0.opened) split.split.head_is;
    managers = ap (λ (x : PlainHead). x.managers) join_is ∙ back.managers ∙ ap (λ (x : PlainHead). x.managers) split.left;
    clerk = ap (λ (x : PlainHead). x.clerk) join_is ∙ back.clerk ∙ ap (λ (x : PlainHead). x.clerk) split.left;
    count = ap (length {A = Option PlainWork}) works_are ∙ length-set h2.workers w (Some s'.work) ∙ back.count ∙ ap (length {A = Option PlainWork}) left_works ∙ length-set h.workers w None;
    found = λ f. found_is ∙ or_left h2.me.0.found s'.me.0.found (back.found (ap (λ (m : Sat). m.0.found) split.split.head_is ∙ f));
    roles = λ u r out is.
        (let ne = not_mine u out in
        let b = back.roles u r (next_out u out) (role_is_first u ne ∙ is) in
        (b.0, others u ne ∙ b.1, still one rest r b.0 b.0 b.2 refl));
    works = λ u out. (let ne = not_mine u out in other_work u ne ∙ back.works u (next_out u out) ∙ first_work u ne);
    each = λ u low top. elim (cases_eq u w) [
      | inl is ↦ subst (λ (x : ℕ). WorkerIsBack l x h h3 (one || rest)) (sym is) itself_back
      | inr ne ↦ other_back u ne (back.each u (above u w low ne) top)
    ];
  }
    where
      above : (u v : ℕ) → v ≤ u → (u ≡ v → ⊥) → v + 1 ≤ u
      above u v low ne = grind (arith, low, ne)
