-- Seats look at words, and raise the stop.
use Rattle.std.proofs.Common.{◌≡◌, ℕ, ◌+◌, ◌<◌, true, Bool, List, [], ◌∷◌, Option, refl, sym, ap, ◌∙◌, subst}
use Rattle.std.specs.Prelude.{Some, ◌⊎◌, replicate}
use mathlib.Core.Option.{none}
use Rattle.atomic_table.specs.Table.{step, Allows}
use Rattle.tau_txn.specs.Txn.{PlainTxn}
use Rattle.tau_core.specs.State.{Plain}
use Rattle.tau_core.specs.declared.state.Load.{Load}
use Rattle.tau_occ.specs.declared.style.Style.{Style}
use Rattle.tau_rule.specs.Role.{Role}
use Rattle.tau_rule.specs.Knows.{Knows}
use Rattle.tau_rule.specs.Rule.{Rule, part_count}
use Rattle.tau_rule.specs.Boxes.{IsToPost}
use Rattle.tau_rule.specs.Steps.{Sat, first_role, knew}
use Rattle.tau_rule.specs.Stopping.{stop_word}
use Rattle.tau_rule.proofs.Stopping.{raising}
use Rattle.tau_rule.proofs.Stopping.{stops}
use Rattle.tau_desk.specs.Shares.{IsWork, PlainStock, PlainWork}
use Rattle.tau_desk.specs.Seats.{IsClerkSeat, IsHead, IsManagerSeat, IsWorkerSeat}
use Rattle.tau_desk.specs.Manages.{told_found, told_raised}

raised_is : (u : ℕ) (x : Role) (v : Knows) → v.roles ≡ (u, x) ∷ [] → raising u x v ≡ told_raised v
raised_is u x v is = λ i. record v { roles = ((first_role (sym is i)).0, record (first_role (sym is i)).1 { raised = true }) ∷ [] }

pub raises_as : (origin : Plain) {style : Style} (slots id u word : ℕ) (m : Sat) (x : Role) (knows : ℕ → Knows) → slots ≡ part_count origin.load → m.0.opened ≡ Some origin → m.0.roles ≡ (u, x) ∷ [] → u < origin.load.workers + origin.load.streams + 1 → word ≡ stop_word origin.load → knows ≡ (λ _. told_raised m.0)
    → Allows (Rule origin style) slots id m word (λ _. 1) (λ _. knew knows (step slots word 1 0 none) m 1)
raises_as origin {style} slots id u word m x knows es opened roles low is told =
    let same : (λ (n : ℕ). raising u x m.0) ≡ knows = ap (λ (v : Knows). λ (n : ℕ). v) (raised_is u x m.0 roles) ∙ sym told in
    subst (λ (z : (ℕ × ℕ) × (ℕ → Knows)). Allows (Rule origin style) z.0.0 id m z.0.1 (λ _. 1) (λ _. knew z.1 (step z.0.0 z.0.1 1 0 none) m 1)) (λ i. ((sym es i, sym is i), same i))
    (stops origin id u m x (step (part_count origin.load) (stop_word origin.load) 1 0 none) opened roles low)

-- the seats that raise it, or have looked, are those of their actors as before

pub manager_raised : (m : Sat) (j : ℕ) (o : PlainStock) (seen : List ℕ) → IsManagerSeat m j o seen → IsManagerSeat (told_raised m.0, m.1) j o seen
manager_raised m j o seen h = record {
  origin = h.origin;
  role = record h.role { raised = true };
  opened = h.opened;
  roles = λ i. ((first_role (h.roles i)).0, record (first_role (h.roles i)).1 { raised = true }) ∷ [];
  idle = h.idle;
  none = h.none;
  stock = record { managed = h.stock.managed; share = h.stock.share; there = h.stock.there; anchors = h.stock.anchors; own = h.stock.own; gathered = h.stock.gathered; small = h.stock.small; wide = h.stock.wide };
  seen_is = h.seen_is;
  seen_wide = h.seen_wide;
}

pub clerk_raised : (m : Sat) (seen : List ℕ) → IsClerkSeat m seen → IsClerkSeat (told_raised m.0, m.1) seen
clerk_raised m seen h = record {
  origin = h.origin;
  role = record h.role { raised = true };
  acked = h.acked;
  opened = h.opened;
  roles = λ i. ((first_role (h.roles i)).0, record (first_role (h.roles i)).1 { raised = true }) ∷ [];
  idle = h.idle;
  none = h.none;
  share = h.share;
  wide = h.wide;
  seen_is = h.seen_is;
  seen_wide = h.seen_wide;
}

post_on : (origin : Plain) (m m' : Sat) (t : PlainTxn) (start : ℕ) → m'.0.read ≡ m.0.read → IsToPost origin m t start → IsToPost origin m' t start
post_on origin m m' t start same q = record {
  hand = q.hand;
  act = q.act;
  base = q.base;
  next = q.next;
  is = q.is;
  phase = q.phase;
  starts = q.starts;
  past = q.past;
  small = q.small;
  stream = q.stream;
  named = subst (λ (r : ℕ × List ℕ). ((q.act.call.anchor ≡ 0) × (q.base ≡ replicate origin.load.streams 0)) ⊎ ((q.act.call.anchor ≡ r.0) × (q.base ≡ r.1))) (sym same) q.named;
  spelled = q.spelled;
}

work_raised : (l : Load) (w : ℕ) (role : Role) (o : PlainWork) → IsWork l w role o → IsWork l w (record role { raised = true }) o
work_raised l w role o h = record { worker = h.worker; share = h.share; there = h.there; shows = h.shows; fits = h.fits; spare = h.spare }

pub worker_raised : (m : Sat) (w : ℕ) (o : PlainWork) (read : ℕ × List ℕ) (seen : List ℕ) → IsWorkerSeat m w o read seen → IsWorkerSeat (told_raised m.0, m.1) w o read seen
worker_raised m w o read seen h = record {
  origin = h.origin;
  role = record h.role { raised = true };
  seat = record { opened = h.seat.opened; roles = λ i. ((first_role (h.seat.roles i)).0, record (first_role (h.seat.roles i)).1 { raised = true }) ∷ []; idle = h.seat.idle; none = h.seat.none };
  work = work_raised h.origin.load w h.role o h.work;
  read_is = h.read_is;
  read_wide = h.read_wide;
  seen_is = h.seen_is;
  seen_wide = h.seen_wide;
  posts = λ e. post_on h.origin m (told_raised m.0, m.1) o.txn o.start refl (h.posts e);
}

pub head_found : (m : Sat) (workers : List (Option PlainWork)) (managers : List (Option PlainStock)) (clerk : Bool) (seen : List ℕ) (n : ℕ) → IsHead m workers managers clerk seen → IsHead (told_found m.0 n, m.1) workers managers clerk seen
head_found m workers managers clerk seen n h = record {
  origin = h.origin;
  opened = h.opened;
  idle = h.idle;
  none = h.none;
  read = h.read;
  seen_is = h.seen_is;
  seen_wide = h.seen_wide;
  worker_count = h.worker_count;
  manager_count = h.manager_count;
  worker = λ w o e. (let x = h.worker w o e in record { role = x.role; is = x.is; work = x.work; rests = x.rests });
  manager = λ j o e. (let x = h.manager j o e in record { role = x.role; is = x.is; stock = x.stock });
  clerk_is = λ e. (let x = h.clerk_is e in record { role = x.role; acked = x.acked; is = x.is; share = x.share; wide = x.wide });
}
