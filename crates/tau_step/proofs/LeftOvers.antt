-- A worker that acts alone, and calls that are left over.
use Rattle.std.proofs.Common.{ℕ, zero, suc, ◌<◌, ◌≤◌, ◌≡◌, Bool, true, false, inl, inr, List, [], ◌∷◌, ◌++◌, length, refl, sym, ap, subst, ◌∙◌, Option, arith, length-append, ◌⊎◌}
use Rattle.std.specs.Prelude.{Some, None, is_some, not, slice_get, Ok, Err}
use Rattle.std.proofs.lemmas.Bool.{cases_lt, cases_eq}
use Rattle.std.proofs.lemmas.Option.{slice_get_past}
use Rattle.tau_base.specs.declared.value.NoMemory.{NoMemory}
use Rattle.tau_model.specs.History.{Act, Member, Numbered}
use Rattle.tau_machine.specs.Hands.{Txn}
use Rattle.tau_machine.specs.Worker.{Worker}
use Rattle.tau_machine.specs.State.{Core}
use Rattle.tau_machine.specs.Events as machine
use Rattle.tau_machine.specs.Events.{Resumes, with_worker}
use Rattle.tau_shard.specs.Shard.{at}
use Rattle.tau_shard.proofs.At.{at_same, at_other}
use Rattle.tau_core.specs.declared.state.Load.{Load}
use Rattle.tau_core.specs.State.{Plain}
use Rattle.tau_core.specs.View.{Hidden, core_of, setting_of, worker_at, worker_in, committed_by}
use Rattle.tau_core.specs.Plain.{PlainSeat}
use Rattle.tau_core.specs.Phases.{hand_phase}
use Rattle.tau_core.specs.declared.event.Phase.TheVariants.{Resting, Quitting}
use Rattle.tau_core.specs.Opens.{nothing}
use Rattle.tau_core.specs.Stands.{Stands, Stood}
use Rattle.tau_core.specs.Steps.{Happened, Unmoved}
use Rattle.tau_run.specs.Turns.{Progress, Goes, is_raised, is_empty, any_left}
use Rattle.tau_step.specs.TurnParts.{has_work, is_busy}
use Rattle.tau_run.specs.Schedule.{Alone, LeftOver}
use Rattle.tau_run.specs.StopsLeave.{NamesLowest, stops_in}
use Rattle.tau_step.specs.declared.run.Run.{Run}
use Rattle.tau_step.specs.Acting.{IsSettling, Settles}
use Rattle.tau_step.specs.Along.{Quiet}
use Rattle.tau_step.specs.RunEffects.{Works, calls_over, rests_in}
use Rattle.tau_step.specs.Progressed.{progress}
use Rattle.tau_step.specs.Remains.{sum_below}
use Rattle.tau_step.specs.Rounding.{ActedAlone, RanLeftOver, alone_by, acted_alone, ran_left_over, resumed_by}
use Rattle.tau_step.proofs.Fitting.{lowest_raised}
use Rattle.tau_step.proofs.EffectsInTurn.{works_on, works_none}
use Rattle.tau_step.proofs.Resting.{any_none, rest_hand, rest_waiting, busy_none, none_busy, resumed_later, resumed_quiet, alone_begun, alone_none, alone_more, alone_cut, alone_on, left_begun, left_more, left_over_on, left_none, left_raised}
use Rattle.tau_step.proofs.Totals.{sum_same, sum_less}
use Rattle.tau_step.proofs.Working.{goes, same_progress}

-- ---- alone

abbrev pub alone_so : ℕ → Bool → Load → Progress → Progress → Type 0
alone_so w whole l P P' = ActedAlone w (Alone w ∷ []) whole l P P'

pub alone_quiet : (w : ℕ) (whole : Bool) (l : Load) (P P' : Progress) → alone_so w whole l P P' → Quiet P.state P'.state
alone_quiet w whole l P P' h = h.quiet

pub acts_none : (w : ℕ) (run : Run) → Stood run.core → Works (alone_so w) true run run
acts_none w run stood = works_none (alone_so w) run stood (λ P. alone_begun run.core.load w P)

module _ (w : ℕ) (old mid new : Run) (x : Works (alone_so w) true old mid) where
  pub acts_more : Works (alone_by w (Ok true)) true mid new → Works (alone_so w) true old new
  acts_more y = works_on (alone_so w) (alone_by w (Ok true)) (alone_so w) true old mid new (λ l P Q P' p q. alone_on l w (Alone w ∷ []) true P Q P' p (alone_more l w Q P' (sym q.0) q.1)) x y

  pub acts_end : Works (alone_by w (Ok false)) true mid new → Works (acted_alone w) true old new
  acts_end y = works_on (alone_so w) (alone_by w (Ok false)) (acted_alone w) true old mid new (λ l P Q P' p q. alone_on l w [] true P Q P' p (alone_none l w Q P' (sym q.0) q.1)) x y

  pub acts_cut : (e : NoMemory) → Works (alone_by w (Err e)) false mid new → Works (acted_alone w) false old new
  acts_cut e y = works_on (alone_so w) (alone_by w (Err e)) (acted_alone w) false old mid new (λ l P Q P' p q. alone_on l w [] false P Q P' p (alone_cut l w Q P' q)) x y

-- ---- calls left over, one after another

abbrev pub left_so : Bool → Load → Progress → Progress → Type 0
left_so whole l P P' = RanLeftOver (LeftOver ∷ []) whole l P P'

pub left_so_quiet : (whole : Bool) (l : Load) (P P' : Progress) → left_so whole l P P' → Quiet P.state P'.state
left_so_quiet whole l P P' h = h.quiet

pub calls_none : (run : Run) → Stood run.core → Works left_so true run run
calls_none run stood = works_none left_so run stood (λ P. left_begun run.core.load P)

module _ (old mid new : Run) (x : Works left_so true old mid) where
  pub calls_more : Works (resumed_by (Ok true)) true mid new → Works left_so true old new
  calls_more y = works_on left_so (resumed_by (Ok true)) left_so true old mid new (λ l P Q P' p q. left_over_on l (LeftOver ∷ []) true P Q P' p q) x y

  pub calls_end : Works (resumed_by (Ok false)) true mid new → Works ran_left_over true old new
  calls_end y = works_on left_so (resumed_by (Ok false)) ran_left_over true old mid new (λ l P Q P' p q. left_over_on l [] true P Q P' p q) x y

  pub calls_cut : (e : NoMemory) → Works (resumed_by (Err e)) false mid new → Works ran_left_over false old new
  calls_cut e y = works_on left_so (resumed_by (Err e)) ran_left_over false old mid new (λ l P Q P' p q. left_over_on l [] false P Q P' p q) x y

-- after a stop none runs
pub none_run : (run : Run) → Stood run.core → NamesLowest run.core.load.streams (stops_in (core_of run.core nothing)) run.failed → is_some run.failed ≡ true → Works ran_left_over true run run
none_run run stood lowest some = record {
  comes = λ K h es told g. record {
    hidden = h;
    order = K;
    events = es;
    stands = g;
    load = refl;
    taken = refl;
    moved = left_raised run.core.load (progress run.core h es K told) (sym (lowest_raised run.core nothing h run.failed lowest) ∙ some);
  };
  stood = stood;
  load = refl;
  clerk = refl;
  failed = refl;
  workers = refl;
  streams = refl;
  flushes = refl;
}

pub is_none : (o : Option ℕ) → is_some o ≡ false → o ≡ None
is_none None e = refl
is_none (Some x) e = absurd (let bad : true ≡ false = e in cc)

-- ---- a call that goes back

none_not : {A : Type 0} (x : A) (xs ys : List A) → [] ≡ xs ++ x ∷ ys → ⊥
none_not x [] ys e = cc
none_not x (y ∷ xs) ys e = cc

-- beyond the workers there is none
module _ (p : Plain) (K : List (Act Txn)) (h : Hidden) (g : Stands p K h) where
  pub beyond : (w : ℕ) → p.load.workers ≤ w → slice_get p.seats w ≡ None
  beyond w le = slice_get_past p.seats w (let e = g.sound.seats in omega (arith, le, e))

  pub beyond_hand : (w : ℕ) → p.load.workers ≤ w → (worker_at p w).hand ≡ None
  beyond_hand w le = ap (λ (o : Option PlainSeat). (worker_in p.load o (committed_by p.load.workers w p.committed)).hand) (beyond w le)

  pub beyond_waiting : (w : ℕ) → p.load.workers ≤ w → (worker_at p w).waiting ≡ []
  beyond_waiting w le = ap (λ (o : Option PlainSeat). (worker_in p.load o (committed_by p.load.workers w p.committed)).waiting) (beyond w le)

  pub beyond_left : (w : ℕ) → p.load.workers ≤ w → (worker_at p w).left ≡ []
  beyond_left w le = ap (λ (o : Option PlainSeat). (worker_in p.load o (committed_by p.load.workers w p.committed)).left) (beyond w le)

-- the lowest of some calls, and of those of many workers

record LeastIn (xs : List Numbered) : Type 0 where
  front : List Numbered
  call : Numbered
  back : List Numbered
  is : xs ≡ front ++ call ∷ back
  lowest : (c : Numbered) → Member c xs → call.number ≤ c.number

least_in : (xs : List Numbered) → (xs ≡ []) ⊎ LeastIn xs
least_in [] = inl refl
least_in (x ∷ xs) = inr (elim (least_in xs) [
  | inl none ↦ record { front = []; call = x; back = xs; is = refl; lowest = λ c q. elim q [ inl e ↦ (let n = ap (λ (y : Numbered). y.number) e in omega (arith, n)) | inr more ↦ absurd (subst (λ (ys : List Numbered). Member c ys) none more) ] }
  | inr l ↦ elim (cases_lt l.call.number x.number) [
    | inl lt ↦ record {
      front = x ∷ l.front;
      call = l.call;
      back = l.back;
      is = ap (λ (ys : List Numbered). x ∷ ys) l.is;
      lowest = λ c q. elim q [ inl e ↦ (let n = ap (λ (y : Numbered). y.number) e in omega (arith, n, lt)) | inr more ↦ l.lowest c more ];
    }
    | inr le ↦ record {
      front = [];
      call = x;
      back = xs;
      is = refl;
      lowest = λ c q. elim q [ inl e ↦ (let n = ap (λ (y : Numbered). y.number) e in omega (arith, n)) | inr more ↦ (let low = l.lowest c more in omega (arith, low, le)) ];
    }
  ]
])

record LeastOf (f : ℕ → List Numbered) (m : ℕ) : Type 0 where
  worker : ℕ
  there : worker < m
  least : LeastIn (f worker)
  lowest : (u : ℕ) (c : Numbered) → u < m → Member c (f u) → least.call.number ≤ c.number

least_of : (f : ℕ → List Numbered) (m : ℕ) → ((u : ℕ) → u < m → f u ≡ []) ⊎ LeastOf f m
least_of f zero = inl (λ u lt. absurd (omega (arith, lt)))
least_of f (suc m) = elim (least_of f m) [
  | inl none ↦ elim (least_in (f m)) [
    | inl empty ↦ inl (λ u lt. elim (cases_eq u m) [ inl e ↦ ap f e ∙ empty | inr ne ↦ none u (omega (arith, lt, ne)) ])
    | inr l ↦ inr (record {
      worker = m;
      there = omega arith;
      least = l;
      lowest = λ u c lt q. elim (cases_eq u m) [ inl e ↦ l.lowest c (subst (λ (k : ℕ). Member c (f k)) e q) | inr ne ↦ absurd (subst (λ (ys : List Numbered). Member c ys) (none u (omega (arith, lt, ne))) q) ];
    })
  ]
  | inr o ↦ elim (least_in (f m)) [
    | inl empty ↦ inr (record {
      worker = o.worker;
      there = (let t = o.there in omega (arith, t));
      least = o.least;
      lowest = λ u c lt q. elim (cases_eq u m) [ inl e ↦ absurd (subst (λ (ys : List Numbered). Member c ys) empty (subst (λ (k : ℕ). Member c (f k)) e q)) | inr ne ↦ o.lowest u c (omega (arith, lt, ne)) q ];
    })
    | inr l ↦ elim (cases_lt o.least.call.number l.call.number) [
      | inl lower ↦ inr (record {
        worker = o.worker;
        there = (let t = o.there in omega (arith, t));
        least = o.least;
        lowest = λ u c lt q. elim (cases_eq u m) [ inl e ↦ (let low = l.lowest c (subst (λ (k : ℕ). Member c (f k)) e q) in omega (arith, low, lower)) | inr ne ↦ o.lowest u c (omega (arith, lt, ne)) q ];
      })
      | inr higher ↦ inr (record {
        worker = m;
        there = omega arith;
        least = l;
        lowest = λ u c lt q. elim (cases_eq u m) [ inl e ↦ l.lowest c (subst (λ (k : ℕ). Member c (f k)) e q) | inr ne ↦ (let low = o.lowest u c (omega (arith, lt, ne)) q in omega (arith, low, higher)) ];
      })
    ]
  ]
]

empty_not : {A : Type 0} (xs : List A) → xs ≡ [] → not (is_empty xs) ≡ false
empty_not [] e = refl
empty_not (x ∷ xs) e = absurd (let bad : x ∷ xs ≡ [] = e in cc)

shorter : {A : Type 0} (xs : List A) (x : A) (ys zs us : List A) → us ≡ xs ++ x ∷ ys → zs ≡ xs ++ ys → length zs < length us
shorter {A} xs x ys zs us e f =
    let a = ap (length {A = A}) e ∙ length-append xs (x ∷ ys) in
    let b = ap (length {A = A}) f ∙ length-append xs ys in
    omega (arith, a, b)

abbrev pub resume_so : ℕ → Bool → Load → Progress → Progress → Type 0
resume_so w whole l P P' = (w < l.workers) × (is_raised (setting_of l) l.workers l.streams P.state ≡ false) × Goes (setting_of l) l.workers l.streams (machine.Resume w) P P'

pub resume_quiet : (w : ℕ) (whole : Bool) (l : Load) (P P' : Progress) → resume_so w whole l P P' → Quiet P.state P'.state
resume_quiet w whole l P P' q = resumed_quiet (setting_of l) l.workers l.streams w P P' q.2

-- the lowest call goes back to this worker
module _ (w : ℕ) (old mid : Run) (stood : Stood old.core) (steps : (K : List (Act Txn)) (h : Hidden) → Stands old.core K h → Happened (machine.Resume w) old.core mid.core K h) where
  pub resume_there : w < old.core.load.workers
  resume_there = let (K, h, g) = stood in elim (cases_lt w old.core.load.workers) [
    | inl lt ↦ lt
    | inr le ↦ (let r = (steps K h g).leads.0 in absurd (none_not r.call r.front r.back (sym (beyond_left old.core K h g w le) ∙ r.is)))
  ]

  pub resume_works : mid.clerk ≡ old.clerk → mid.failed ≡ old.failed → mid.workers ≡ old.workers → mid.streams ≡ old.streams → mid.flushes ≡ old.flushes → NamesLowest old.core.load.streams (stops_in (core_of old.core nothing)) old.failed → old.failed ≡ None → Works (resume_so w) true old mid
  resume_works clerk failed workers streams flushes lowest none = record {
    comes = λ K h es told g. (let q = steps K h g in
        record {
          hidden = q.hidden;
          order = K ++ q.joined;
          events = es ++ machine.Resume w ∷ [];
          stands = q.stands;
          load = q.load;
          taken = q.taken;
          moved = (resume_there, sym (lowest_raised old.core nothing h old.failed lowest) ∙ ap is_some none, goes old.core mid.core K h es told (machine.Resume w) q);
        });
    stood = (let (K, h, g) = stood in let q = steps K h g in (K ++ q.joined, q.hidden, q.stands));
    load = (let (K, h, g) = stood in (steps K h g).load);
    clerk = clerk;
    failed = failed;
    workers = workers;
    streams = streams;
    flushes = flushes;
  }

  abbrev Back : (K : List (Act Txn)) (h : Hidden) → Type 0
  Back K h = Happened (machine.Resume w) old.core mid.core K h

  worker_now : (K : List (Act Txn)) (h : Hidden) (q : Back K h) (u : ℕ) →
      worker_at mid.core u ≡ at w (record (worker_at old.core w) { waiting = q.leads.0.call ∷ []; left = q.leads.0.front ++ q.leads.0.back }) (λ v. worker_at old.core v) u
  worker_now K h q u = ap (λ (c : Core). c.workers u) q.leads.0.after

  pub resume_hands : (u : ℕ) → (worker_at mid.core u).hand ≡ None
  resume_hands u = let (K, h, g) = stood in let q = steps K h g in let r = q.leads.0 in
      ap (λ (k : Worker). k.hand) (worker_now K h q u) ∙ elim (cases_eq u w) [
        | inl e ↦ subst (λ (v : ℕ). (at w (record (worker_at old.core w) { waiting = r.call ∷ []; left = r.front ++ r.back }) (λ v. worker_at old.core v) v).hand ≡ None) (sym e)
            (ap (λ (k : Worker). k.hand) (at_same w (record (worker_at old.core w) { waiting = r.call ∷ []; left = r.front ++ r.back }) (λ v. worker_at old.core v)) ∙ (r.resting w).0)
        | inr ne ↦ ap (λ (k : Worker). k.hand) (at_other w (record (worker_at old.core w) { waiting = r.call ∷ []; left = r.front ++ r.back }) (λ v. worker_at old.core v) u ne) ∙ (r.resting u).0
      ]

  pub resume_settling : IsSettling w mid.core
  resume_settling e = let bad : Resting ≡ Quitting = sym (ap (hand_phase mid.core.load.procs) (resume_hands w)) ∙ e in cc

  pub resume_fewer : calls_over mid.core < calls_over old.core
  resume_fewer = let (K, h, g) = stood in let q = steps K h g in let r = q.leads.0 in
      subst (λ (l : Load). sum_below (λ u. length (worker_at mid.core u).left) l.workers < calls_over old.core) (sym q.load)
      (sum_less (λ u. length (worker_at mid.core u).left) (λ u. length (worker_at old.core u).left) w old.core.load.workers resume_there
      (shorter r.front r.call r.back (worker_at mid.core w).left (worker_at old.core w).left r.is
      (ap (λ (k : Worker). k.left) (worker_now K h q w ∙ at_same w (record (worker_at old.core w) { waiting = r.call ∷ []; left = r.front ++ r.back }) (λ v. worker_at old.core v))))
      (λ u ne. ap (λ (k : Worker). length k.left) (worker_now K h q u ∙ at_other w (record (worker_at old.core w) { waiting = r.call ∷ []; left = r.front ++ r.back }) (λ v. worker_at old.core v) u ne)))

  -- and runs alone
  module _ (new : Run) (x : Works (resume_so w) true old mid) where
    pub resumed_on : Works (acted_alone w) true mid new → Works (resumed_by (Ok true)) true old new
    resumed_on y = works_on (resume_so w) (acted_alone w) (resumed_by (Ok true)) true old mid new (λ l P Q P' p q. left_more l w p.0 true P Q P' p.1 p.2 q) x y

    pub resumed_cut : (e : NoMemory) → Works (acted_alone w) false mid new → Works (resumed_by (Err e)) false old new
    resumed_cut e y = works_on (resume_so w) (acted_alone w) (resumed_by (Err e)) false old mid new (λ l P Q P' p q. (let r = left_more l w p.0 false P Q P' p.1 p.2 q in record { turns = r.turns; quiet = r.quiet; silent = r.silent })) x y

    pub resumed_fewer : Works (acted_alone w) true mid new → Settles w mid.core new.core → calls_over new.core < calls_over old.core
    resumed_fewer y settles =
        let (K, h, g) = x.stood in
        let c = y.comes K h [] [] g in
        let same : calls_over new.core ≡ calls_over mid.core =
        ap (λ (l : Load). sum_below (λ u. length (worker_at new.core u).left) l.workers) y.load
        ∙ sum_same (λ u. length (worker_at new.core u).left) (λ u. length (worker_at mid.core u).left) mid.core.load.workers
        (λ u lt. elim (cases_eq u w) [
          | inl e ↦ subst (λ (v : ℕ). length (worker_at new.core v).left ≡ length (worker_at mid.core v).left) (sym e) (ap (length {A = Numbered}) settles.left)
          | inr ne ↦ ap (λ (k : Worker). length k.left) (c.moved.apart u ne)
        ]) in
        let less = resume_fewer in
        omega (arith, same, less)

    pub resumed_rests : Works (acted_alone w) true mid new → rests_in old.core → rests_in new.core
    resumed_rests y rests =
        let (K, h, g) = stood in
        let a = x.comes K h [] [] g in
        let b = y.comes a.order a.hidden a.events [] a.stands in
        let l = old.core.load in
        let P = progress old.core h [] K [] in
        let Q = progress mid.core a.hidden a.events a.order [] in
        let R = progress new.core b.hidden b.events b.order [] in
        let acted : acted_alone w true l Q R = subst (λ (k : Load). acted_alone w true k Q R) a.load b.moved in
        let none : is_busy (setting_of l) l.workers l.streams R.state ≡ false =
        none_busy (setting_of l) l.workers l.streams R.state (λ u lt. elim (cases_eq u w) [
          | inl e ↦ subst (λ (v : ℕ). has_work (setting_of l) l.workers l.streams R.state v ≡ false) (sym e) (acted.rests refl refl)
          | inr ne ↦ acted.others u ne ∙ resumed_later (setting_of l) l.workers l.streams w u ne P Q a.moved.2 ∙ busy_none (setting_of l) l.workers l.streams P.state rests u lt
        ]) in
        subst (λ (k : Load). is_busy (setting_of k) k.workers k.streams (core_of new.core nothing) ≡ false) (sym (y.load ∙ x.load)) none

-- none is left
module _ (old new : Run) (stood : Stood old.core) (steps : (K : List (Act Txn)) (h : Hidden) → Stands old.core K h → Unmoved old.core new.core K h × ((w : ℕ) (s' : Core) → Resumes (setting_of old.core.load) w (core_of old.core h) s' → ⊥))
    (lowest : NamesLowest old.core.load.streams (stops_in (core_of old.core nothing)) old.failed) (none : old.failed ≡ None) (rests : rests_in old.core) where
  nothing_left : (K : List (Act Txn)) (h : Hidden) → Stands old.core K h → any_left (setting_of old.core.load) old.core.load.workers old.core.load.streams (core_of old.core h) ≡ false
  nothing_left K h g =
      let l = old.core.load in
      let going : is_raised (setting_of l) l.workers l.streams (core_of old.core h) ≡ false = sym (lowest_raised old.core nothing h old.failed lowest) ∙ ap is_some none in
      elim (least_of (λ u. (worker_at old.core u).left) l.workers) [
        | inl empty ↦ any_none (λ u. not (is_empty (worker_at old.core u).left)) l.workers (λ u lt. empty_not (worker_at old.core u).left (empty u lt))
        | inr o ↦ absurd ((steps K h g).1 o.worker (with_worker (core_of old.core h) o.worker (record (worker_at old.core o.worker) { waiting = o.least.call ∷ []; left = o.least.front ++ o.least.back })) (record {
          resting = λ u. elim (cases_lt u l.workers) [
            | inl lt ↦ (
              rest_hand (setting_of l) l.workers l.streams (core_of old.core h) u lt (busy_none (setting_of l) l.workers l.streams (core_of old.core h) rests u lt),
              rest_waiting (setting_of l) l.workers l.streams (core_of old.core h) u lt going (busy_none (setting_of l) l.workers l.streams (core_of old.core h) rests u lt),
            )
            | inr le ↦ (beyond_hand old.core K h g u le, beyond_waiting old.core K h g u le)
          ];
          front = o.least.front;
          call = o.least.call;
          back = o.least.back;
          is = o.least.is;
          lowest = λ u c q. elim (cases_lt u l.workers) [
            | inl lt ↦ o.lowest u c lt q
            | inr le ↦ absurd (subst (λ (cs : List Numbered). Member c cs) (beyond_left old.core K h g u le) q)
          ];
          after = refl;
        }))
      ]

  pub none_works : new.clerk ≡ old.clerk → new.failed ≡ old.failed → new.workers ≡ old.workers → new.streams ≡ old.streams → new.flushes ≡ old.flushes → Works (resumed_by (Ok false)) true old new
  none_works clerk failed workers streams flushes = record {
    comes = λ K h es told g. (let u = (steps K h g).0 in
        record {
          hidden = u.hidden;
          order = K;
          events = es;
          stands = u.stands;
          load = u.load;
          taken = u.taken;
          moved = left_none old.core.load (progress old.core h es K told) (progress new.core u.hidden es K told) (nothing_left K h g) (same_progress old.core new.core K h es told u);
        });
    stood = (let (K, h, g) = stood in let u = (steps K h g).0 in (K, u.hidden, u.stands));
    load = (let (K, h, g) = stood in (steps K h g).0.load);
    clerk = clerk;
    failed = failed;
    workers = workers;
    streams = streams;
    flushes = flushes;
  }

  pub none_rests : rests_in new.core
  none_rests =
      let (K, h, g) = stood in
      let u = (steps K h g).0 in
      subst (λ (k : Load). is_busy (setting_of k) k.workers k.streams (core_of new.core nothing) ≡ false) (sym u.load)
      (ap (λ (s : Core). is_busy (setting_of old.core.load) old.core.load.workers old.core.load.streams s) u.same ∙ rests)
