-- One more turn is followed.
use Rattle.std.proofs.Common.{ℕ, suc, zero, ◌≡◌, ◌+◌, ◌-◌, ◌<◌, ◌≤◌, length, inl, inr, List, [], ◌∷◌, ◌++◌, map, refl, sym, ap, subst, ◌∙◌, append_assoc, arith}
use Rattle.std.specs.Prelude.{Option, Some, None, slice_get}
use Rattle.std.proofs.Math.ListN.{set}
use Rattle.tau_base.specs.declared.value.Key.{Key}
use Rattle.tau_base.specs.declared.value.Value.{Value}
use Rattle.tau_base.specs.Database.{Db}
use Rattle.tau_model.specs.Redo.{Content, redone, redo_contents}
use Rattle.tau_model.specs.Store.{database}
use Rattle.tau_model.specs.Tables.{IsTablesOf}
use Rattle.tau_model.specs.History.{Member}
use Rattle.tau_scan.specs.declared.log.Log.{Log}
use Rattle.tau_scan.specs.Taken.{Kept}
use Rattle.tau_pool.specs.declared.item.Job.{Job}
use Rattle.tau_pool.specs.Pooled.{Pooled, IsRecovered, IsStarted, IsFinished, IsDone, NoneReady}
use Rattle.tau_replay.specs.declared.turns.Replay.{Replay}
use Rattle.tau_replay.specs.Course.{Course}
use Rattle.tau_replay.specs.Recovering.{IsHeld}
use Rattle.tau_replay.specs.Way.{IsOver}
use Rattle.tau_replay.specs.Followed.{Worked, TurnsBy, IsTurn, Follow, HasFollowedOn, FollowedOn, IsRedoneByOn, ascending, workers_from, rounds}
use Rattle.tau_replay.proofs.Lists.{map_push, redo_push, of_get, left_put}

follow_push : (log : Log) (turns : List ℕ) (worker : ℕ) (s m t : Worked) → Follow log turns s m → IsTurn log m worker t → Follow log (turns ++ worker ∷ []) s t
follow_push log [] worker s m t is step = (t, subst (λ (z : Worked). IsTurn log z worker t) is step, refl)
follow_push log (w ∷ ws) worker s m t (n, one, more) step = (n, one, follow_push log ws worker n m t more step)

abbrev at_turn : Pooled → List (Option Job) → List Kept → Worked
at_turn p hands order = record { pools = p; hands = hands; order = order }

module _ (log : Log) (course : Course) (turns : List ℕ) (worker : ℕ) where
  pub follow_start : (p q : Pooled) (hands : List (Option Job)) (job : Job) (db : Db) → HasFollowedOn log course turns p hands db → slice_get hands worker ≡ Some None → IsStarted p job q → HasFollowedOn log course (turns ++ worker ∷ []) q (set hands worker (Some job)) db
  follow_start p q hands job db f idle s = record {
    begun = f.begun;
    unstarted = f.unstarted;
    order = f.order;
    steps = follow_push log turns worker f.begun (at_turn p hands f.order) (at_turn q (set hands worker (Some job)) f.order) f.steps
        (subst (λ (o : Option (Option Job)). TurnsBy log (at_turn p hands f.order) worker (at_turn q (set hands worker (Some job)) f.order) o) (sym idle) (inl (record { job = job; started = s; hands = refl; order = refl })));
    holds = f.holds;
  }

  pub follow_idle : (p : Pooled) (hands : List (Option Job)) (db : Db) → HasFollowedOn log course turns p hands db → slice_get hands worker ≡ Some None → NoneReady p → HasFollowedOn log course (turns ++ worker ∷ []) p hands db
  follow_idle p hands db f idle none = record {
    begun = f.begun;
    unstarted = f.unstarted;
    order = f.order;
    steps = follow_push log turns worker f.begun (at_turn p hands f.order) (at_turn p hands f.order) f.steps
        (subst (λ (o : Option (Option Job)). TurnsBy log (at_turn p hands f.order) worker (at_turn p hands f.order) o) (sym idle) (inr (none, refl)));
    holds = f.holds;
  }

  pub follow_finish : (p q : Pooled) (hands : List (Option Job)) (job : Job) (r : Kept) (db after : Db) → HasFollowedOn log course turns p hands db → slice_get hands worker ≡ Some (Some job) → IsHeld log job r → IsFinished p job q → IsRecovered q.ends q.rlv q.items →
      after ≡ redone log.declarations.procs r.content db → HasFollowedOn log course (turns ++ worker ∷ []) q (set hands worker None) after
  follow_finish p q hands job r db after f busy held fin rec is = record {
    begun = f.begun;
    unstarted = f.unstarted;
    order = f.order ++ r ∷ [];
    steps = follow_push log turns worker f.begun (at_turn p hands f.order) (at_turn q (set hands worker None) (f.order ++ r ∷ [])) f.steps
        (subst (λ (o : Option (Option Job)). TurnsBy log (at_turn p hands f.order) worker (at_turn q (set hands worker None) (f.order ++ r ∷ [])) o) (sym busy)
        (record { kept = r; held = held; finished = fin; recovered = rec; hands = refl; order = refl }));
    holds = is ∙ ap (redone log.declarations.procs r.content) f.holds
        ∙ sym (ap (λ (cs : List Content). redo_contents log.declarations.procs cs course.base) (map_push content_of f.order r) ∙ redo_push log.declarations.procs (map content_of f.order) r.content course.base);
  }
    where
      content_of : Kept → Content
      content_of x = x.content

  pub follow_none : (p : Pooled) (hands : List (Option Job)) (db : Db) → HasFollowedOn log course turns p hands db → slice_get hands worker ≡ None → HasFollowedOn log course (turns ++ worker ∷ []) p hands db
  follow_none p hands db f none = record {
    begun = f.begun;
    unstarted = f.unstarted;
    order = f.order;
    steps = follow_push log turns worker f.begun (at_turn p hands f.order) (at_turn p hands f.order) f.steps
        (subst (λ (o : Option (Option Job)). TurnsBy log (at_turn p hands f.order) worker (at_turn p hands f.order) o) (sym none) refl);
    holds = f.holds;
  }

pub none_ready : (p : Pooled) → IsDone p → NoneReady p
none_ready p done i x at waits low = done i x at waits

-- ---- rounds

pub more_workers : (worker : ℕ) → worker < 16 → workers_from worker ≡ worker ∷ workers_from (worker + 1)
more_workers worker lt = ap (ascending worker) split ∙ ap (λ (n : ℕ). worker ∷ ascending n (16 - (worker + 1))) (omega arith)
  where
    split : 16 - worker ≡ suc (16 - (worker + 1))
    split = omega (arith, lt)

pub no_workers : (worker : ℕ) → 16 - worker ≡ 0 → workers_from worker ≡ []
no_workers worker is = ap (ascending worker) is

-- ---- the end

pub over_by : (log : Log) (course : Course) (r : Replay) (turns : List ℕ) (more : ℕ) (rows : List (Key × Value)) → IsOver log course r → FollowedOn log course (turns ++ rounds more) r → IsTablesOf (database r.store) rows → IsRedoneByOn log course turns rows
over_by log course r turns more rows o f tables = record {
  more = more;
  begun = f.begun;
  unstarted = f.unstarted;
  over = at_turn r.pools r.hands.items f.order;
  steps = f.steps;
  none_left = λ i x at left.
      let (q, held, of) = of_get log course.records r.pools.items i x o.way.going.items at in
      subst (λ (zs : List Kept). Member q zs) o.none (left_put course.records r.pools.items i x q at held left);
  tables = subst (λ (db : Db). IsTablesOf db rows) f.holds tables;
}

append_nil : (xs : List ℕ) → xs ++ [] ≡ xs
append_nil [] = refl
append_nil (x ∷ xs) = ap (λ (ys : List ℕ). x ∷ ys) (append_nil xs)

-- ---- a round on its way, and rounds

-- of all these turns those before this worker's are followed
abbrev pub Rounding : Log → Course → List ℕ → List ℕ → ℕ → Pooled → List (Option Job) → Db → Type 0
Rounding log course turns all worker p hands db = (done : List ℕ) × (done ++ workers_from worker ≡ all) × HasFollowedOn log course (turns ++ done) p hands db

module _ (log : Log) (course : Course) (turns : List ℕ) where
  pub round_begins : (from : ℕ) (p : Pooled) (hands : List (Option Job)) (db : Db) → HasFollowedOn log course turns p hands db → Rounding log course turns (workers_from from) from p hands db
  round_begins from p hands db f = ([], refl, subst (λ (ts : List ℕ). HasFollowedOn log course ts p hands db) (sym (append_nil turns)) f)

  pub round_goes : (all : List ℕ) (worker : ℕ) (p q : Pooled) (hands after : List (Option Job)) (db later : Db) → worker < 16 → Rounding log course turns all worker p hands db →
      ((ts : List ℕ) → HasFollowedOn log course ts p hands db → HasFollowedOn log course (ts ++ worker ∷ []) q after later) → Rounding log course turns all (worker + 1) q after later
  round_goes all worker p q hands after db later lt (done, is, f) step = (
    done ++ worker ∷ [],
    append_assoc done (worker ∷ []) (workers_from (worker + 1)) ∙ ap (λ (zs : List ℕ). done ++ zs) (sym (more_workers worker lt)) ∙ is,
    subst (λ (ts : List ℕ). HasFollowedOn log course ts q after later) (append_assoc turns done (worker ∷ [])) (step (turns ++ done) f),
  )

  pub round_ends : (all : List ℕ) (worker : ℕ) (p : Pooled) (hands : List (Option Job)) (db : Db) → 16 - worker ≡ 0 → Rounding log course turns all worker p hands db → HasFollowedOn log course (turns ++ all) p hands db
  round_ends all worker p hands db past (done, is, f) =
      let whole : done ≡ all = sym (append_nil done) ∙ ap (λ (zs : List ℕ). done ++ zs) (sym (no_workers worker past)) ∙ is in
      subst (λ (zs : List ℕ). HasFollowedOn log course (turns ++ zs) p hands db) whole f

  -- a round that began with the first worker
  pub round_of_first : (p : Pooled) (hands : List (Option Job)) (db : Db) → HasFollowedOn log course ((turns ++ 0 ∷ []) ++ workers_from 1) p hands db → HasFollowedOn log course (turns ++ workers_from 0) p hands db
  round_of_first p hands db f = subst (λ (ts : List ℕ). HasFollowedOn log course ts p hands db) (append_assoc turns (0 ∷ []) (workers_from 1)) f

  -- rounds of all workers are followed
  pub rounds_begin : (p : Pooled) (hands : List (Option Job)) (db : Db) → HasFollowedOn log course turns p hands db → (more : ℕ) × HasFollowedOn log course (turns ++ rounds more) p hands db
  rounds_begin p hands db f = (0, subst (λ (ts : List ℕ). HasFollowedOn log course ts p hands db) (sym (append_nil turns)) f)

  pub rounds_go : (p q : Pooled) (hands after : List (Option Job)) (db later : Db) → ((more : ℕ) × HasFollowedOn log course (turns ++ rounds more) p hands db) →
      ((ts : List ℕ) → HasFollowedOn log course ts p hands db → HasFollowedOn log course (ts ++ workers_from 0) q after later) → (more : ℕ) × HasFollowedOn log course (turns ++ rounds more) q after later
  rounds_go p q hands after db later (more, f) step = (suc more, subst (λ (ts : List ℕ). HasFollowedOn log course ts q after later) (append_assoc turns (rounds more) (workers_from 0)) (step (turns ++ rounds more) f))

pub past_hands : (hands : List (Option Job)) (worker : ℕ) → length hands ≤ worker → slice_get hands worker ≡ None
past_hands [] worker le = refl
past_hands (h ∷ hands) zero le = absurd (omega (arith, le))
past_hands (h ∷ hands) (suc worker) le = past_hands hands worker (omega (arith, le))
