-- Slots are read one after another.
use Rattle.std.proofs.Common.{ℕ, ◌+◌, ◌<◌, ◌≤◌, ◌≡◌, Bool, List, length, ⊎_elim, sym, ap, ◌∙◌, arith}
use Rattle.std.specs.Prelude.{Result, Ok, Err, Some, slice_get}
use Rattle.std.proofs.Math.ListN.{set}
use Rattle.tau_base.proofs.Lists.{get_set_same, get_set_other, got_within}
use Rattle.tau_disk.specs.declared.disk.Disk.{Ghosts}
use Rattle.tau_disk.specs.declared.disk.Failed.{Failed}
use Rattle.tau_disk.specs.Disk.{Rose, Elapses, HasCause, IsPlanned}
use Rattle.tau_disk.proofs.Calls.{only_read}
use Rattle.tau_disk.proofs.Passing.{passes_on}
use Rattle.tau_disk.specs.Used.{AllCalls, Each, IsFirstStopped, IsStopped, OnlyRead, RoseAt}
use Rattle.tau_scan.specs.Outside.{IsRead, calls_to_read}
use Rattle.tau_scan.proofs.Plans.{IsGoing}
use Rattle.tau_scan.proofs.Contents.{err_is}
use Rattle.tau_commands.specs.declared.slots.SlotRefusal.{SlotRefusal}
use Rattle.tau_commands.specs.declared.slots.SlotRefusal.TheVariants.{Failed as FailedAt}

-- the disk that a part names is the one that the whole names
pub failed_is : {A B : Type 0} (r : Result A SlotRefusal) (y x : SlotRefusal) (j : ℕ) → r ≡ Err y → y ≡ x → r ≡ Err (FailedAt j) → ◌≡◌ {A = Result B SlotRefusal} (Err x) (Err (FailedAt j))
failed_is r y x j is same e = ap (λ (z : SlotRefusal). Err z) (sym same ∙ err_is y (FailedAt j) (sym is ∙ e))

-- the disks below an index were read, by calls of which none was to fail
module _ {D : Type 0} (number : D → ℕ) (fails : D → ℕ → Bool) (tells : Type 0) (short : D → Bool) (old new : List D) (n : ℕ) (going : IsGoing number fails tells short old new n) where
  -- and no other is there
  pub all_read : length old ≤ n → Each (AllCalls tells number fails short calls_to_read) old new
  all_read le j d was = going.calls j d (omega (arith, got_within old j d was, le)) was

  -- and that at the index failed
  pub stops_here : (d e : D) → n < length new → slice_get new n ≡ Some d → IsStopped tells number fails short d e → tells → IsFirstStopped tells number fails short old (set new n e) n
  stops_here d e low here stop t = (
    (d, e, sym (going.rest n (omega arith)) ∙ here, get_set_same new n e low, stop),
    λ i b under was. let (f, is, went) = going.went i b under was in (f, get_set_other new n i e (λ same. omega (arith, under, same)) ∙ is, λ told. (went told).clean),
  )

-- the disk at an index was read, and its count of faults rose
pub rose_here : {D : Type 0} (faults : D → ℕ) (old new : List D) (n : ℕ) (d e : D) → slice_get new n ≡ slice_get old n → n < length new → slice_get new n ≡ Some d → Rose (faults d) (faults e) → RoseAt faults old (set new n e) n
rose_here faults old new n d e rest low here rose = (d, e, sym rest ∙ here, get_set_same new n e low, rose)

-- disks that were read are at most read
pub each_only : {D : Type 0} (tells : Type 0) (seen : D → List ℕ) (may_leave : D → List ℕ → Type 0) (moment : D → ℕ) (since : D → ℕ → List ℕ → Type 0) (faults number : D → ℕ) (fails : D → ℕ → Bool) (old new : List D) →
    Each (IsRead tells seen may_leave moment since faults number fails) old new → Each (OnlyRead tells seen may_leave moment since) old new
each_only tells seen may_leave moment since faults number fails old new each j d was = let (e, is, r) = each j d was in (e, is, r.read)

few_once : {T E : Type 0} (number number' : ℕ) (fails fails' : ℕ → Bool) (short short' : Bool) (r : Result T E) → IsPlanned number number' fails fails' short short' r → number' ≤ number + 1
few_once number number' fails fails' short short' (Ok x) plan = let ok = plan.ok in omega (arith, ok.0)
few_once number number' fails fails' short short' (Err x) plan = ⊎_elim
    (λ made. omega (arith, made.0))
    (λ memory. ⊎_elim (λ one. omega (arith, one.0)) (λ none. omega (arith, none.1)) memory.0)
    plan.failed

module _ {D : Type 0} (G : Ghosts D) where
  -- the disk was read by one call
  pub record ReadOnce (d e : D) : Type 0 where
    pub read : IsRead G.tells G.seen G.may_leave G.moment G.may_leave_since G.faults G.number G.fails d e
    pub one : G.tells → G.number e ≤ G.number d + 1

  pub read_once : {T : Type 0} → ((d : D) (t : ℕ) (x : List ℕ) → t ≤ G.moment d → G.may_leave d x → G.may_leave_since d t x) → (d e : D) (r : Result T Failed) → (G.tells → G.seen e ≡ G.seen d) → ((x : List ℕ) → G.may_leave e x → G.may_leave d x)
      → ((x : List ℕ) → G.may_leave d x → G.may_leave e x) → Elapses (G.moment d) (G.moment e) (G.may_leave_since d) (G.may_leave_since e) (G.may_leave e)
      → (G.tells → IsPlanned (G.number d) (G.number e) (G.fails d) (G.fails e) (G.short d) (G.short e) r) → HasCause (G.faults d) (G.faults e) r → ReadOnce d e
  read_once counts_now d e r seen crash keeps time plan cause =
      let one : (t : G.tells) → G.number e ≤ G.number d + 1 = λ t. few_once (G.number d) (G.number e) (G.fails d) (G.fails e) (G.short d) (G.short e) r (plan t) in
      record {
        read = record {
          read = only_read G counts_now d e seen crash keeps time;
          counts = cause.later;
          plan = λ t. (plan t).same;
          few = λ t. (let few = one t in omega (arith, few));
        };
        one = one;
      }

  -- and by one more
  pub read_twice : (d e f : D) → ReadOnce d e → ReadOnce e f → IsRead G.tells G.seen G.may_leave G.moment G.may_leave_since G.faults G.number G.fails d f
  read_twice d e f a b = record {
    read = record {
      same = λ t. b.read.read.same t ∙ a.read.read.same t;
      no_more = λ x m. a.read.read.no_more x (b.read.read.no_more x m);
      no_less = λ x m. b.read.read.no_less x (a.read.read.no_less x m);
      moments = passes_on G.moment G.may_leave_since d e f (G.may_leave d) (G.may_leave e) (G.may_leave d) a.read.read.moments b.read.read.moments (λ x m. m) (λ x m. a.read.read.no_more x m);
    };
    counts = (let first = a.read.counts in let second = b.read.counts in omega (arith, first, second));
    plan = λ t k. b.read.plan t k ∙ a.read.plan t k;
    few = λ t. (let first = a.one t in let second = b.one t in omega (arith, first, second));
  }
