-- Disks that are at most read and synced.
use Rattle.std.proofs.Common.{ℕ, ◌≡◌, ◌≤◌, List, refl, ◌∙◌, inl, inr, ⊎_elim, arith}
use Rattle.std.specs.Prelude.{Result, Ok, Err, OnOk}
use Rattle.tau_disk.specs.declared.disk.Disk.{Ghosts}
use Rattle.tau_disk.specs.declared.disk.Failed.{Failed}
use Rattle.tau_disk.specs.Disk.{Rose, Passes, Elapses, HasCause}
use Rattle.tau_disk.proofs.Passing.{passes_none, passes_call, passes_on}
use Rattle.tau_disk.specs.Stages.{Broke, OnlySynced}
use Rattle.tau_disk.specs.Used.{OnlyRead}

module _ {D : Type 0} (G : Ghosts D) where
  pub only_none : (d : D) → OnlySynced G d d
  only_none d = record { no_more = λ x m. m; moments = passes_none G.moment G.may_leave_since d (G.may_leave d); counts = omega arith; same = λ t none. refl }

  pub only_of_read : (d e : D) → OnlyRead G.tells G.seen G.may_leave G.moment G.may_leave_since d e → G.faults d ≤ G.faults e → OnlySynced G d e
  only_of_read d e read counts = record { no_more = read.no_more; moments = read.moments; counts = counts; same = λ t none. read.same t }

  pub only_on : (d e f : D) → OnlySynced G d e → OnlySynced G e f → OnlySynced G d f
  only_on d e f a b = record {
    no_more = λ x m. a.no_more x (b.no_more x m);
    moments = passes_on G.moment G.may_leave_since d e f (G.may_leave d) (G.may_leave e) (G.may_leave d) a.moments b.moments (λ x m. m) a.no_more;
    counts = omega (arith, a.counts, b.counts);
    same = λ t none. b.same t (λ rose. none (later rose)) ∙ a.same t (λ rose. none (sooner rose));
  }
    where
      later : Rose (G.faults e) (G.faults f) → Rose (G.faults d) (G.faults f)
      later rose = omega (arith, a.counts, rose)

      sooner : Rose (G.faults d) (G.faults e) → Rose (G.faults d) (G.faults f)
      sooner rose = omega (arith, b.counts, rose)

  pub more_broke : (a b : ℕ) (d e : D) → a ≤ b → Broke G a d e → Broke G b d e
  more_broke a b d e le broke = record {
    counts = broke.counts;
    rose = broke.rose;
    same = broke.same;
    made = λ t. ⊎_elim (λ made. inl (made.0, omega (arith, made.1, le), made.2, made.3)) (λ memory. inr memory) (broke.made t);
  }

  -- one sync
  module _ (counts_now : (d : D) (t : ℕ) (x : List ℕ) → t ≤ G.moment d → G.may_leave d x → G.may_leave_since d t x) (d e : D) (crash : (x : List ℕ) → G.may_leave e x → G.may_leave d x)
      (time : Elapses (G.moment d) (G.moment e) (G.may_leave_since d) (G.may_leave_since e) (G.may_leave e)) where
    passed : Passes G.moment G.may_leave_since d e (G.may_leave d)
    passed = passes_call G.moment G.may_leave_since G.may_leave counts_now d e (G.may_leave d) time crash

    pub only_of_sync : (r : Result Unit Failed) → OnOk r (G.tells → G.seen e ≡ G.seen d) → HasCause (G.faults d) (G.faults e) r → OnlySynced G d e
    only_of_sync (Ok x) same cause = record { no_more = crash; moments = passed; counts = cause.later; same = λ t none. same t }
    only_of_sync (Err x) same cause = record { no_more = crash; moments = passed; counts = cause.later; same = λ t none. absurd (none cause.failed) }
