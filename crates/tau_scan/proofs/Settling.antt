-- Disks are synced and read one after another.
use Rattle.std.proofs.Common.{ℕ, zero, suc, ◌≡◌, inl, inr, ⊎_elim, ◌+◌, ◌<◌, ◌≤◌, Bool, List, refl, sym, ap, subst, ◌∙◌, length, arith}
use Rattle.std.specs.Prelude.{Some, Result, Ok, Err, OnOk, slice_get, slice_index}
use Rattle.std.proofs.Math.ListN.{set}
use Rattle.std.proofs.lemmas.Bool.{cases_eq}
use Rattle.tau_base.proofs.Logic.{below_or_not}
use Rattle.tau_disk.specs.declared.disk.Disk.{Ghosts}
use Rattle.tau_disk.specs.declared.disk.Failed.{Failed}
use Rattle.tau_disk.specs.Disk.{Rose, Only, Elapses, HasCause, IsPlanned}
use Rattle.tau_disk.specs.Stages.{Went, Broke, Staged}
use Rattle.tau_disk.specs.Used.{AllCalls, EachIn, IsStopped}
use Rattle.tau_disk.proofs.Calls.{went_on, went_broke}
use Rattle.tau_disk.proofs.Places.{get_set_same, get_set_other, get_dropped, was_here, each_weaker}
use Rattle.tau_disk.proofs.Stages.{stage_fails}
use Rattle.tau_disk.proofs.Syncing.{only_none, only_of_read, only_on, only_of_sync, more_broke}
use Rattle.tau_scan.specs.declared.fault.ReadRefusal.{ReadRefusal}
use Rattle.tau_scan.specs.declared.fault.ReadRefusal.TheVariants.{Failed as FailedAt}
use Rattle.tau_scan.proofs.Contents.{err_is}
use Rattle.tau_scan.specs.Outside.{calls_to_read, calls_to_settle, IsRead, IsSynced, IsSettled, AreSynced, StopsSettling, SyncedFirst}

few_once : {T E : Type 0} (number number' : ℕ) (fails fails' : ℕ → Bool) (short short' : Bool) (r : Result T E) → IsPlanned number number' fails fails' short short' r → number' ≤ number + 1
few_once number number' fails fails' short short' (Ok x) plan = let ok = plan.ok in omega (arith, ok.0)
few_once number number' fails fails' short short' (Err x) plan = ⊎_elim
    (λ made. omega (arith, made.0))
    (λ memory. ⊎_elim (λ one. omega (arith, one.0)) (λ none. omega (arith, none.1)) memory.0)
    plan.failed

module _ {D : Type 0} (G : Ghosts D) where
  -- ---- a disk without a byte

  -- a disk that is as it was, whatever its length
  pub alone_synced : (n : ℕ) (d : D) → IsSynced G n d d
  alone_synced n d = record { only = only_none G d; plan = λ t k. refl; few = λ t. omega arith; alone = λ none. refl }

  pub alone_settled : (n : ℕ) (d : D) → n ≡ 0 → IsSettled G n d d
  alone_settled zero d none = record {
    same = λ t. refl;
    settled = λ t some. absurd (some refl);
    went = record { counts = omega arith; same = λ t k. refl; made = λ t. (omega arith, refl, λ k low high. absurd (omega (arith, low, high))) };
  }
  alone_settled (suc n) d none = absurd (omega (arith, none))

  pub alone_first : (d : D) → SyncedFirst G d d
  alone_first d t more none = absurd (omega (arith, more))

  -- ---- a disk with a byte

  settle_some : (n : ℕ) → (n ≡ 0 → ⊥) → calls_to_settle n ≡ 1 + calls_to_read
  settle_some zero some = absurd (some refl)
  settle_some (suc n) some = refl

  module _ (counts_now : (d : D) (t : ℕ) (x : List ℕ) → t ≤ G.moment d → G.may_leave d x → G.may_leave_since d t x) (n : ℕ) (some : n ≡ 0 → ⊥) (d e : D) (r : Result Unit Failed)
      (crash : (x : List ℕ) → G.may_leave e x → G.may_leave d x) (time : Elapses (G.moment d) (G.moment e) (G.may_leave_since d) (G.may_leave_since e) (G.may_leave e)) (seen : OnOk r (G.tells → G.seen e ≡ G.seen d))
      (plan : G.tells → IsPlanned (G.number d) (G.number e) (G.fails d) (G.fails e) (G.short d) (G.short e) r) (cause : HasCause (G.faults d) (G.faults e) r) where
    few_calls : G.tells → G.number e ≤ G.number d + 1
    few_calls t = few_once (G.number d) (G.number e) (G.fails d) (G.fails e) (G.short d) (G.short e) r (plan t)

    -- its sync failed
    pub sync_alone : IsSynced G n d e
    sync_alone = record {
      only = only_of_sync G counts_now d e crash time r seen cause;
      plan = λ t. (plan t).same;
      few = λ t. (let few = few_calls t in omega (arith, few, settle_some n some));
      alone = λ none. absurd (some none);
    }

    -- it was read after its sync
    pub sync_read : (f : D) → IsRead G.tells G.seen G.may_leave G.moment G.may_leave_since G.faults G.number G.fails e f → IsSynced G n d f
    sync_read f read = record {
      only = only_on G d e f (only_of_sync G counts_now d e crash time r seen cause) (only_of_read G e f read.read read.counts);
      plan = λ t k. read.plan t k ∙ (plan t).same k;
      few = λ t. (let few = few_calls t in let more = read.few t in omega (arith, few, more, settle_some n some));
      alone = λ none. absurd (some none);
    }

  -- its sync failed, or it was read after its sync
  pub failed_first : (d e : D) → Rose (G.faults d) (G.faults e) → SyncedFirst G d e
  failed_first d e rose t more none = absurd (none rose)

  pub read_first : (d e f : D) → (G.tells → Only (G.seen e) (G.may_leave e)) → IsRead G.tells G.seen G.may_leave G.moment G.may_leave_since G.faults G.number G.fails e f → SyncedFirst G d f
  read_first d e f durable read t more none x m = durable t x (read.read.no_more x m) ∙ sym (read.read.same t)

  -- it was settled
  pub settled_first : (n : ℕ) (d e : D) → IsSynced G n d e → IsSettled G n d e → SyncedFirst G d e
  settled_first zero d e synced settled t more none = absurd (let still : e ≡ d = synced.alone refl in let same = ap G.number still in omega (arith, more, same))
  settled_first (suc n) d e synced settled t more none = settled.settled t (λ bad. absurd (omega (arith, bad)))

  -- its sync failed
  pub sync_broke : (n : ℕ) (d e : D) → (n ≡ 0 → ⊥) → Broke G 1 d e → Broke G (calls_to_settle n) d e
  sync_broke n d e some broke = more_broke G 1 (calls_to_settle n) d e (omega (arith, settle_some n some)) broke

  went_read : (d e : D) → IsRead G.tells G.seen G.may_leave G.moment G.may_leave_since G.faults G.number G.fails d e → AllCalls G.tells G.number G.fails G.short calls_to_read d e → Went G calls_to_read d e
  went_read d e read calls = record { counts = read.counts; same = read.plan; made = calls }

  broke_read : (d e : D) → IsRead G.tells G.seen G.may_leave G.moment G.may_leave_since G.faults G.number G.fails d e → Rose (G.faults d) (G.faults e) → IsStopped G.tells G.number G.fails G.short d e → Broke G calls_to_read d e
  broke_read d e read rose stop = record {
    counts = read.counts;
    rose = rose;
    same = read.plan;
    made = λ t. ⊎_elim (λ memory. inr memory) (λ made. inl (made.0, read.few t, made.1, made.2)) (stop t);
  }

  module _ (n : ℕ) (some : n ≡ 0 → ⊥) (d e f : D) (went : Went G 1 d e) (read : IsRead G.tells G.seen G.may_leave G.moment G.may_leave_since G.faults G.number G.fails e f) where
    pub sync_settled : (G.tells → G.seen e ≡ G.seen d) → (G.tells → Only (G.seen e) (G.may_leave e)) → AllCalls G.tells G.number G.fails G.short calls_to_read e f → IsSettled G n d f
    sync_settled same durable calls = record {
      same = λ t. read.read.same t ∙ same t;
      settled = λ t more x m. durable t x (read.read.no_more x m) ∙ sym (read.read.same t);
      went = subst (λ (k : ℕ). Went G k d f) (sym (settle_some n some)) (went_on G 1 calls_to_read d e f went (went_read e f read calls));
    }

    pub read_broke : Rose (G.faults e) (G.faults f) → IsStopped G.tells G.number G.fails G.short e f → Broke G (calls_to_settle n) d f
    read_broke rose stop = subst (λ (k : ℕ). Broke G k d f) (sym (settle_some n some)) (went_broke G 1 calls_to_read d e f went (broke_read e f read rose stop))

  -- ---- one disk after another

  module _ (lengths : List ℕ) where
    abbrev pub SettledAt : ℕ → D → D → Type 0
    SettledAt i d e = IsSynced G (slice_index lengths i) d e × IsSettled G (slice_index lengths i) d e

    pub settled_all : (j : ℕ) (old new : List D) → Staged SettledAt j old new → Staged (λ i. IsSettled G (slice_index lengths i)) j old new
    settled_all j old new staged = record {
      each = each_weaker (λ i. i < j) (λ i. i < j) SettledAt (λ i. IsSettled G (slice_index lengths i)) old new staged.each (λ i low. low) (λ i d e both. both.1);
      rest = staged.rest;
      many = staged.many;
    }

    pub synced_all : (old new : List D) → Staged SettledAt (length lengths) old new → AreSynced G lengths old new
    synced_all old new staged = each_weaker (λ i. i < length lengths) (λ i. i < length lengths) SettledAt (λ i. IsSynced G (slice_index lengths i)) old new staged.each (λ i low. low) (λ i d e both. both.0)

    pub first_all : (old new : List D) → Staged SettledAt (length lengths) old new → EachIn (λ i. i < length lengths) (λ i. SyncedFirst G) old new
    first_all old new staged = each_weaker (λ i. i < length lengths) (λ i. i < length lengths) SettledAt (λ i. SyncedFirst G) old new staged.each (λ i low. low) (λ i d e both. settled_first (slice_index lengths i) d e both.0 both.1)

    module _ (old cur : List D) (j : ℕ) (d e : D) (staged : Staged SettledAt j old cur) (lt : j < length cur) (here : slice_get cur j ≡ Some d) where
      -- whatever was told of the disk of stream j
      pub synced_at : IsSynced G (slice_index lengths j) d e → AreSynced G lengths old (set cur j e)
      synced_at now i b low was = elim (cases_eq i j) [
        | inl same ↦
            let mine : slice_get old j ≡ Some b = subst (λ (k : ℕ). slice_get old k ≡ Some b) same was in
            let is : d ≡ b = sym (was_here SettledAt old cur j d e staged.rest lt here b mine) in
            (e, subst (λ (k : ℕ). slice_get (set cur j e) k ≡ Some e) (sym same) (get_set_same cur j e lt), subst (λ (k : ℕ). IsSynced G (slice_index lengths k) b e) (sym same) (subst (λ (z : D). IsSynced G (slice_index lengths j) z e) is now))
        | inr other ↦ ⊎_elim
            (λ under. let (f, at, both) = staged.each i b under was in (f, get_set_other cur j i e other ∙ at, both.0))
            (λ above. (b, get_set_other cur j i e other ∙ get_dropped cur old j i staged.rest above ∙ was, alone_synced (slice_index lengths i) b))
            (below_or_not i j)
      ]

      pub first_at : SyncedFirst G d e → EachIn (λ i. i < length lengths) (λ i. SyncedFirst G) old (set cur j e)
      first_at now i b low was = elim (cases_eq i j) [
        | inl same ↦
            let mine : slice_get old j ≡ Some b = subst (λ (k : ℕ). slice_get old k ≡ Some b) same was in
            let is : d ≡ b = sym (was_here SettledAt old cur j d e staged.rest lt here b mine) in
            (e, subst (λ (k : ℕ). slice_get (set cur j e) k ≡ Some e) (sym same) (get_set_same cur j e lt), subst (λ (z : D). SyncedFirst G z e) is now)
        | inr other ↦ ⊎_elim
            (λ under. let (f, at, both) = staged.each i b under was in (f, get_set_other cur j i e other ∙ at, settled_first (slice_index lengths i) b f both.0 both.1))
            (λ above. (b, get_set_other cur j i e other ∙ get_dropped cur old j i staged.rest above ∙ was, alone_first b))
            (below_or_not i j)
      ]

      pub stops_at : j < length lengths → Broke G (calls_to_settle (slice_index lengths j)) d e → StopsSettling G lengths j old (set cur j e)
      stops_at low broke = (low, stage_fails (λ i. IsSettled G (slice_index lengths i)) old cur j d e (settled_all j old cur staged) lt here (λ i. Broke G (calls_to_settle (slice_index lengths i))) broke)

pub on_ok_then : {A E : Type 0} (P Q : Type 0) (r : Result A E) → OnOk r P → (P → Q) → OnOk r Q
on_ok_then P Q (Ok x) is then_so = then_so is
on_ok_then P Q (Err e) is then_so = tt

-- the disk that a part names is the one that the whole names
pub failed_is : {A B : Type 0} (r : Result A ReadRefusal) (y x : ReadRefusal) (j : ℕ) → r ≡ Err y → y ≡ x → r ≡ Err (FailedAt j) → ◌≡◌ {A = Result B ReadRefusal} (Err x) (Err (FailedAt j))
failed_is r y x j is same e = ap (λ (z : ReadRefusal). Err z) (sym same ∙ err_is y (FailedAt j) (sym is ∙ e))
