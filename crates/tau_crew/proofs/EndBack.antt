-- Every role is in the head again.
use Rattle.std.proofs.Common.{ℕ, ◌+◌, ◌<◌, ◌≤◌, ◌≡◌, ◌||◌, inl, inr, Bool, true, Option, List, [], ◌∷◌, length, sym, ap, subst, ◌∙◌, arith, map, slice_index}
use Rattle.std.specs.Prelude.{Some, slice_get}
use Rattle.atomic_table.specs.Seated.{TableId}
use Rattle.tau_base.specs.Vectors.{AtMost, join}
use Rattle.tau_base.proofs.Vectors.{join_at}
use Rattle.tau_disk.specs.declared.disk.Disk.{Ghosts}
use Rattle.tau_stream.specs.declared.writer.Writer.{Writer}
use Rattle.tau_machine.specs.Accounts.{in_calls, in_worker}
use Rattle.tau_core.specs.Opens.{calls_of}
use Rattle.tau_core.specs.State.{Plain}
use Rattle.tau_desk.specs.Shares.{PlainWork}
use Rattle.tau_rule.specs.Heads.{both, role_or}
use Rattle.tau_rule.specs.Role.{Role}
use Rattle.tau_rule.specs.Rule.{clerk_role, has, manager_role}
use Rattle.tau_rule.specs.Steps.{first_role, worker_in_share}
use Rattle.tau_desk.specs.Seats.{Clerks, PlainClerkSeat, PlainHead}
use Rattle.tau_crew_facts.specs.Ends.{IsLoose}
use Rattle.tau_crew.specs.declared.clerk.ClerkJob.{ClerkJob}
use Rattle.tau_crew.specs.declared.manager.ManagerJob.{ManagerJob}
use Rattle.tau_crew.specs.Ending.{AreManagersBack, HasRunBack, IsClerkBack, IsHeadBack, IsWorkerBack, role_back}
use Rattle.tau_crew.specs.EndCloses.{IsAllBack}
use Rattle.tau_crew.specs.EndJoins.{AreSeats, HasClerkOf, HasManagers, KeepsHead, SeesDurable, writer_in}
use Rattle.tau_crew.specs.EndSettles.{IsSameHead}
use Rattle.tau_crew.proofs.EndJoins.{keeps_head, role_here, role_other, same_origin}
use Rattle.tau_base.proofs.Lists.{some_at, got_within}

-- the managers' seats are of this desk
pub are_seats : {D : Type 0} {G : Ghosts D} (first : Plain) (table : TableId) (bases : ℕ → List ℕ) (ws : List (Writer D G)) (jobs : List (ManagerJob D G)) → AreManagersBack first table bases ws jobs → AreSeats first table jobs
are_seats first table bases ws jobs m j job is =
    let (w, at) = some_at ws j (let low = got_within jobs j job is in let a = m.count in let b = m.writers in omega (arith, low, a, b)) in
    let back = m.each j w job at is in
    record { own = back.own; opened = back.opened; at = back.at }

pub worker_same : (first : Plain) (h h' : PlainHead) (w : ℕ) → w < first.load.workers → KeepsHead first h h' → role_back h' w ≡ role_back h w
worker_same first h h' w lt k = ap (λ (o : Option Role). role_or o) (k.roles w lt)

keeps_worker : (first : Plain) (h h' : PlainHead) (w : ℕ) → w < first.load.workers → KeepsHead first h h' → IsWorkerBack h w → IsWorkerBack h' w
keeps_worker first h h' w lt k b = record {
  work = b.work;
  there = ap (λ (xs : List (Option PlainWork)). slice_get xs w) k.workers ∙ b.there;
  loose = subst (λ (r : Role). IsLoose (worker_in_share r.share).hand) (sym (worker_same first h h' w lt k)) b.loose;
  held = b.held;
  unjoined = b.unjoined;
}

-- a step by which the head takes in nothing of the workers keeps what they have run
pub keeps_ran : (first : Plain) (h h' : PlainHead) (w : ℕ) → w < first.load.workers → KeepsHead first h h' → HasRunBack first.load h w → HasRunBack first.load h' w
keeps_ran first h h' w lt k b =
    let same = worker_same first h h' w lt k in
    record {
      rests = ap (λ (r : Role). (worker_in_share r.share).hand) same ∙ b.rests;
      kept = λ n. subst (λ (r : Role). in_calls n (calls_of first.load w) ≤ in_worker n (worker_in_share r.share)) (sym same) (b.kept n);
      raised = ap (λ (r : Role). r.raised) same ∙ b.raised;
      ended = elim b.ended [
        | inl so ↦ inl (k.found so)
        | inr none ↦ inr (ap (λ (r : Role). (worker_in_share r.share).waiting) same ∙ none)
      ];
      resting = λ work is. elim (b.resting work (ap (λ (xs : List (Option PlainWork)). slice_get xs w) (sym k.workers) ∙ is)) [
        | inl so ↦ inl (k.found so)
        | inr rests ↦ inr rests
      ];
    }

module _ (first : Plain) (h h' : PlainHead) (s : PlainClerkSeat) (c : Clerks s) (mine : s.me.0.opened ≡ Some first) (e : h' ≡ record h { me = (both h.me.0 s.me.0, []); clerk = true; seen = join h.seen s.seen }) where
  clerk_roles : s.me.0.roles ≡ (clerk_role first.load, c.role) ∷ []
  clerk_roles = c.roles ∙ ap (λ (o : Plain). (clerk_role o.load, c.role) ∷ []) (same_origin s.me.0.opened c.opened mine)

  -- the clerk's seat comes back
  pub clerk_keeps : KeepsHead first h h'
  clerk_keeps = record {
    table = ap (λ (x : PlainHead). x.table_id) e;
    opened = ap (λ (x : PlainHead). x.me.0.opened) e;
    found = λ yes. ap (λ (x : PlainHead). x.me.0.found) e ∙ ap (λ (b : Bool). b || s.me.0.found) yes;
    workers = ap (λ (x : PlainHead). x.workers) e;
    roles = λ u lt. ap (λ (x : PlainHead). has u x.me.0) e ∙ role_other s.me.0.roles h.me.0.roles (clerk_role first.load) c.role u clerk_roles (λ i. omega (arith, i, lt));
  }

  clerk_here : HasClerkOf first h' s
  clerk_here = ap (λ (x : PlainHead). has (clerk_role first.load) x.me.0) e ∙ role_here s.me.0.roles h.me.0.roles (clerk_role first.load) c.role clerk_roles ∙ ap (λ (r : Role). Some r) (sym (ap (λ (rs : List (ℕ × Role)). (first_role rs).1) clerk_roles))

  clerk_managers : {D : Type 0} {G : Ghosts D} (jobs : List (ManagerJob D G)) → length jobs ≡ first.load.streams → HasManagers first h 0 jobs → HasManagers first h' 0 jobs
  clerk_managers jobs count had j job is =
      let low = got_within jobs j job is in
      let was = had j job is in
      record {
        role = ap (λ (x : PlainHead). has (manager_role first.load (0 + j)) x.me.0) e ∙ role_other s.me.0.roles h.me.0.roles (clerk_role first.load) c.role (manager_role first.load (0 + j)) clerk_roles (λ i. omega (arith, i, low, count)) ∙ was.role;
        stock = ap (λ (x : PlainHead). slice_get x.managers (0 + j)) e ∙ was.stock;
      }

  clerk_up : AtMost s.seen h'.seen
  clerk_up j =
      let a : slice_index h'.seen j ≡ slice_index (join h.seen s.seen) j = ap (λ (x : PlainHead). slice_index x.seen j) e in
      let b = join_at h.seen s.seen j in
      omega (arith, a, b)

same_keeps : (first : Plain) (h h' : PlainHead) → IsSameHead h h' → KeepsHead first h h'
same_keeps first h h' s = record { table = s.table; opened = s.opened; found = λ yes. s.found ∙ yes; workers = s.workers; roles = λ u lt. s.roles u }

same_managers : {D : Type 0} {G : Ghosts D} (first : Plain) (h h' : PlainHead) (jobs : List (ManagerJob D G)) → IsSameHead h h' → HasManagers first h 0 jobs → HasManagers first h' 0 jobs
same_managers first h h' jobs s had j job is =
    let was = had j job is in
    record {
      role = s.roles (manager_role first.load (0 + j)) ∙ was.role;
      stock = ap (λ (xs : List _). slice_get xs (0 + j)) s.managers ∙ was.stock;
    }

-- the managers' seats came back, the clerk's then, and the head has looked
module _ {D : Type 0} {G : Ghosts D} (first : Plain) (table : TableId) (h h1 h2 h3 : PlainHead) (jobs : List (ManagerJob D G)) (telling : ClerkJob) (b : IsHeadBack first table h) (t : IsClerkBack first table telling) (keeps : KeepsHead first h h1) (had : HasManagers first h1 0 jobs) (c : Clerks telling.seat)
    (e : h2 ≡ record h1 { me = (both h1.me.0 telling.seat.me.0, []); clerk = true; seen = join h1.seen telling.seat.seen }) (same : IsSameHead h2 h3) (sees : SeesDurable h3 (map writer_in jobs)) where
  pub keeps_all : KeepsHead first h h3
  keeps_all = keeps_head first h h1 h3 keeps (keeps_head first h1 h2 h3 (clerk_keeps first h1 h2 telling.seat c t.opened e) (same_keeps first h2 h3 same))

  pub back_all : (bases : ℕ → List ℕ) (ws : List (Writer D G)) → AreManagersBack first table bases ws jobs → IsAllBack first table bases ws h3 jobs telling
  back_all bases ws m = record {
    head = record {
      own = keeps_all.table ∙ b.own;
      opened = keeps_all.opened ∙ b.opened;
      workers = λ w lt. keeps_worker first h h3 w lt keeps_all (b.workers w lt);
    };
    managers = m;
    has = same_managers first h2 h3 jobs same (clerk_managers first h1 h2 telling.seat c t.opened e jobs m.count had);
    clerk = t;
    has_clerk = same.roles (clerk_role first.load) ∙ clerk_here first h1 h2 telling.seat c t.opened e;
    clerk_seen = λ j. (let x = clerk_up first h1 h2 telling.seat c t.opened e j in let y = same.up j in omega (arith, x, y));
    there = same.clerk ∙ ap (λ (x : PlainHead). x.clerk) e;
    sees = sees;
  }
