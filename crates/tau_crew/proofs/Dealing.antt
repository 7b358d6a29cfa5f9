-- A manager's seat leaves the head.
use Rattle.std.proofs.Common.{ℕ, zero, suc, ◌+◌, ◌-◌, ◌<◌, ◌≡◌, inl, inr, Bool, false, List, [], ◌∷◌, ◌++◌, length, refl, sym, ap, subst, ◌∙◌, arith, slice_index}
use Rattle.std.specs.Prelude.{None, Option, Some, drop, if◌then◌else◌, slice_get, slice_index_or}
use Rattle.std.specs.List.{remove}
use Rattle.std.proofs.lemmas.Bool.Decides.{leb_tells}
use Rattle.atomic_table.specs.Seated.{TableId}
use Rattle.tau_base.specs.Modes.{format_of}
use Rattle.tau_disk.specs.declared.disk.Disk.{Ghosts}
use Rattle.tau_stream.specs.declared.writer.Writer.{Writer}
use Rattle.tau_core.proofs.Lists.{got_other}
use Rattle.tau_core.specs.State.{Plain}
use Rattle.tau_rule.specs.First.{clerk_share, first_view, manager_share, outer_share, role_at, share_at, worker_share}
use Rattle.tau_rule.specs.Heads.{left_by, role_or, split_off}
use Rattle.tau_rule.specs.Knows.{Knows}
use Rattle.tau_rule.specs.Role.{Managed, Role, managed_in_share, role_in}
use Rattle.tau_rule.specs.Rule.{clerk_role, has, manager_role}
use Rattle.tau_rule.specs.Steps.{Sat}
use Rattle.tau_desk.specs.Ends.{IsFirst, IsManagerSplit, IsWhole}
use Rattle.tau_desk.specs.Shares.{PlainStock}
use Rattle.tau_desk.specs.Manages.{managed_in}
use Rattle.tau_desk.specs.Seats.{Heads, Manages, PlainHead, PlainManagerSeat}
use Rattle.tau_crew_facts.proofs.DiskLaws.{SeenNow}
use Rattle.tau_crew.specs.declared.manager.ManagerJob.{ManagerJob}
use Rattle.tau_crew.specs.Dealing.{AreDealt, DealsOne, IsDealing, IsDealt}
use Rattle.tau_crew.specs.Driving.{IsManagerAt}
use Rattle.tau_crew.specs.Gathering.{raised_in}
use Rattle.tau_crew.proofs.Gathering.{managed_anchors, managed_gathered, managed_own}
use Rattle.tau_crew.proofs.ManagerEnds.{manager_begins}
use Rattle.tau_base.proofs.Lists.{some_at, got_more}
use Rattle.tau_desk.proofs.SplittingOff.{role_stays}
use Rattle.tau_base.proofs.Logic.{some_is}
use Rattle.tau_run.specs.Writers.{IsBegun, IsNew}
use Rattle.tau_desk.proofs.Beginning.{role_below}

-- a manager's share in the opening
share_is : (first : Plain) (j : ℕ) → j < first.load.streams → share_at first (manager_role first.load j) ≡ manager_share first (manager_role first.load j)
share_is first j lt = elim (leb_tells (manager_role first.load j + 1) first.load.workers) [
  | inl a ↦ absurd (let low = a.1 in omega (arith, low))
  | inr a ↦
      ap (λ (b : Bool). if b then worker_share first (manager_role first.load j) else outer_share first (manager_role first.load j)) a.0
      ∙ elim (leb_tells (manager_role first.load j + 1) (first.load.workers + first.load.streams)) [
        | inl b ↦ ap (λ (c : Bool). if c then manager_share first (manager_role first.load j) else clerk_share first) b.0
        | inr b ↦ absurd (let high = b.1 in omega (arith, high, lt))
      ]
]

-- one more has left
pub dealing_more : (first : Plain) (table : TableId) (k : ℕ) (h h' : PlainHead) (s : PlainManagerSeat) → IsDealing first table k h → k < first.load.streams → IsManagerSplit first.load k h h' s → IsDealing first table (k + 1) h'
dealing_more first table k h h' s d lt split =
    let me : h'.me.0 ≡ left_by (manager_role first.load k) h.me.0 = ap (λ (m : Sat). m.0) split.split.head_is in
    record {
      own = ap (λ (x : PlainHead). x.table_id) split.left ∙ d.own;
      opened = ap (λ (v : Knows). v.opened) me ∙ d.opened;
      seen = ap (λ (x : PlainHead). x.seen) split.left ∙ d.seen;
      there = λ j le low.
          (let f = d.there j (omega (arith, le)) low in
          let ne : j ≡ k → ⊥ = (λ e. omega (arith, e, le)) in (
            f.0,
            ap (λ (x : PlainHead). slice_get x.managers j) split.left ∙ got_other h.managers k j None ne ∙ f.1,
            ap (has (manager_role first.load j)) me ∙ role_stays (manager_role first.load k) (manager_role first.load j) h.me.0.roles (λ e. ne (omega (arith, e))) ∙ f.2,
          ));
      clerk = (
        ap (λ (x : PlainHead). x.clerk) split.left ∙ d.clerk.0,
        ap (has (clerk_role first.load)) me ∙ role_stays (manager_role first.load k) (clerk_role first.load) h.me.0.roles (λ e. omega (arith, e, lt)) ∙ d.clerk.1,
      );
    }

-- and it is a manager that has done nothing
pub dealt : {D : Type 0} {G : Ghosts D} → SeenNow G → (first : Plain) (table : TableId) (bases : ℕ → List ℕ) (k : ℕ) (h h' : PlainHead) (w : Writer D G) (job : ManagerJob D G) → IsDealing first table k h → k < first.load.streams → IsManagerSplit first.load k h h' job.seat → Manages job.seat →
    IsNew (format_of first.load.mode) first.load.streams k (bases k) w → length (bases k) ≡ slice_index first.load.opening.ends k → job.writer ≡ w → job.stream ≡ k → job.marks.last ≡ length (bases k) → job.marks.placed ≡ 0 → job.short ≡ false → IsDealt first table bases k w job
dealt {D} {G} seen_now first table bases k h h' w job d lt split manages new long writer stream last placed short =
    let r : ℕ = manager_role first.load k in
    let s : PlainManagerSeat = job.seat in
    let me : s.me.0 ≡ split_off r h.me.0 = ap (λ (m : Sat). m.0) split.split.new_is in
    let role : role_or (role_in r h.me.0.roles) ≡ role_at first r = ap role_or (d.there k (omega arith) lt).2 in
    let managed : managed_in s.me.0 ≡ managed_in_share (manager_share first r) =
    ap managed_in me ∙ ap (λ (x : Role). managed_in_share x.share) role ∙ ap managed_in_share (share_is first k lt) in
    let offset : r - first.load.workers ≡ k = omega arith in
    let base_is : slice_index first.load.opening.ends (r - first.load.workers) ≡ length (bases k) = ap (slice_index first.load.opening.ends) offset ∙ sym long in
    let begun : IsManagerAt (format_of first.load.mode) first.load.streams k (bases k) w s w (length (bases k)) 0 false =
    manager_begins seen_now (format_of first.load.mode) first.load.streams k (bases k) s w new split.stream (ap (λ (g : Managed). g.taken) managed) (ap (λ (v : List ℕ). slice_index v k) (split.seen ∙ d.seen) ∙ sym long)
    (sym (managed_gathered s manages) ∙ ap (λ (g : Managed). g.gathered) managed ∙ base_is) (sym (managed_anchors s manages) ∙ ap (λ (g : Managed). g.anchors) managed) (sym (managed_own s manages) ∙ ap (λ (g : Managed). g.own) managed)
    (ap raised_in me ∙ ap (λ (x : Role). x.raised) role) (ap (λ (g : Managed). g.stored) managed) in
    record {
      own = split.table ∙ d.own;
      opened = ap (λ (v : Knows). v.opened) me ∙ d.opened;
      at = split.stream;
      stream = stream;
      manager =
          subst (λ (b : Bool). IsManagerAt (format_of first.load.mode) first.load.streams k (bases k) w s job.writer job.marks.last job.marks.placed b) (sym short)
          (subst (λ (p : ℕ). IsManagerAt (format_of first.load.mode) first.load.streams k (bases k) w s job.writer job.marks.last p false) (sym placed)
          (subst (λ (p : ℕ). IsManagerAt (format_of first.load.mode) first.load.streams k (bases k) w s job.writer p 0 false) (sym last)
          (subst (λ (x : Writer D G). IsManagerAt (format_of first.load.mode) first.load.streams k (bases k) w s x (length (bases k)) 0 false) (sym writer) begun)));
    }

-- the jobs with it
pub dealt_more : {D : Type 0} {G : Ghosts D} (first : Plain) (table : TableId) (bases : ℕ → List ℕ) (ws : List (Writer D G)) (k : ℕ) (w : Writer D G) (jobs : List (ManagerJob D G)) (job : ManagerJob D G) → AreDealt first table bases ws k jobs → slice_get ws k ≡ Some w → IsDealt first table bases k w job →
    AreDealt first table bases ws (k + 1) (jobs ++ job ∷ [])
dealt_more {D} {G} first table bases ws k w jobs job a is d = record {
  count = (let e = a.count in let f = length_more jobs job in omega (arith, e, f));
  each = λ j x y there got. elim (got_more jobs job y j got) [
    | inl old ↦ a.each j x y there old
    | inr (at, same) ↦
        let here : j ≡ k = at ∙ a.count in
        let writer : w ≡ x = some_is w x (sym is ∙ ap (slice_get ws) (sym here) ∙ there) in
        subst (λ (z : ManagerJob D G). IsDealt first table bases j x z) same (subst (λ (i : ℕ). IsDealt first table bases i x job) (sym here) (subst (λ (v : Writer D G). IsDealt first table bases k v job) writer d))
  ];
}
  where
    length_more : {A : Type 0} (xs : List A) (y : A) → length (xs ++ y ∷ []) ≡ length xs + 1
    length_more [] y = refl
    length_more (x ∷ xs) y = let e = length_more xs y in omega (arith, e)

pub first_got : {A : Type 0} (xs : List A) (y : A) → 0 < length xs → y ≡ slice_index_or xs 0 y → slice_get xs 0 ≡ Some y
first_got [] y lt e = absurd (omega (arith, lt))
first_got (x ∷ xs) y lt e = ap Some (sym e)

pub first_removed : {A : Type 0} (xs : List A) → remove xs 0 ≡ drop 1 xs
first_removed [] = refl
first_removed (x ∷ xs) = refl

drop_none : {A : Type 0} (xs : List A) (n : ℕ) → xs ≡ [] → drop n xs ≡ []
drop_none xs zero e = e
drop_none [] (suc n) e = refl
drop_none (x ∷ xs) (suc n) e = absurd (cc e)

pub drop_more : {A : Type 0} (xs : List A) (k : ℕ) → drop 1 (drop k xs) ≡ drop (k + 1) xs
drop_more [] zero = refl
drop_more {A} [] (suc k) = (let none : List A = [] in sym (drop_none none (suc k + 1) refl))
drop_more (x ∷ xs) zero = refl
drop_more (x ∷ xs) (suc k) = drop_more xs k ∙ ap (λ (i : ℕ). drop i (x ∷ xs)) (let e : suc (k + 1) ≡ suc k + 1 = omega arith in e)

pub got_dropped : {A : Type 0} (xs : List A) (k : ℕ) → slice_get (drop k xs) 0 ≡ slice_get xs k
got_dropped [] zero = refl
got_dropped [] (suc k) = refl
got_dropped (x ∷ xs) zero = refl
got_dropped (x ∷ xs) (suc k) = got_dropped xs k

pub one_longer : {A : Type 0} (xs ys : List A) (y : A) (k : ℕ) → ys ≡ xs ++ y ∷ [] → length xs ≡ k → length ys ≡ k + 1
one_longer {A} xs ys y k e l = (let a = ap (length {A = A}) e in let b = longer xs in omega (arith, a, b, l))
  where
    longer : (zs : List A) → length (zs ++ y ∷ []) ≡ length zs + 1
    longer [] = refl
    longer (z ∷ zs) = let e = longer zs in omega (arith, e)

-- one more manager was dealt
pub deals_more : {D : Type 0} {G : Ghosts D} (first : Plain) (table : TableId) (bases : ℕ → List ℕ) (ws left left' : List (Writer D G)) (k : ℕ) (jobs jobs' : List (ManagerJob D G)) → IsBegun (format_of first.load.mode) bases ws first.load.opening → length ws ≡ first.load.streams → k < first.load.streams → left ≡ drop k ws →
    AreDealt first table bases ws k jobs → DealsOne first table k left left' jobs jobs' → AreDealt first table bases ws (k + 1) jobs'
deals_more {D} {G} first table bases ws left left' k jobs jobs' b count lt left_is a d =
    let there : slice_get ws k ≡ Some d.writer = sym (got_dropped ws k) ∙ ap (λ (xs : List (Writer D G)). slice_get xs 0) (sym left_is) ∙ d.is in
    let new : IsNew (format_of first.load.mode) first.load.streams k (bases k) d.writer = subst (λ (n : ℕ). IsNew (format_of first.load.mode) n k (bases k) d.writer) count (b.new k d.writer there) in
    let long = b.long k (let e = b.count in omega (arith, e, count, lt)) in
    subst (λ (xs : List (ManagerJob D G)). AreDealt first table bases ws (k + 1) xs) (sym d.jobs_are) (dealt_more first table bases ws k d.writer jobs d.job a there (d.dealt bases new long))

-- ---- at first

-- nothing has left the head of a desk that has just opened
pub dealing_begins : (first : Plain) (table : TableId) (h : PlainHead) → IsFirst first h.me → IsWhole h → Heads h → h.table_id ≡ table → IsDealing first table 0 h
dealing_begins first table h f whole heads own =
    let me : h.me.0 ≡ first_view first = ap (λ (m : Sat). m.0) f.knows in
    let opened : h.me.0.opened ≡ Some first = ap (λ (v : Knows). v.opened) me in
    let same : heads.origin ≡ first = some_is heads.origin first (sym heads.opened ∙ opened) in
    let count : length h.managers ≡ first.load.streams = heads.manager_count ∙ ap (λ (p : Plain). p.load.streams) same in
    let role : (u : ℕ) → u < first.load.workers + first.load.streams + 1 → has u h.me.0 ≡ Some (role_at first u) = (λ u lt. ap (has u) me ∙ role_below first (first.load.workers + first.load.streams + 1) u lt) in
    record {
      own = own;
      opened = opened;
      seen = sym heads.seen_is ∙ ap (λ (v : Knows). v.seen) me;
      there = λ j le lt.
          (let got = some_at h.managers j (omega (arith, count, lt)) in
          let o = stock_there got.0 (λ e. whole.managers j (got.1 ∙ ap Some e)) in
          (o.0, got.1 ∙ ap Some o.1, role (manager_role first.load j) (omega (arith, lt))));
      clerk = (whole.clerk, role (clerk_role first.load) (omega arith));
    }
  where
    stock_there : (x : Option PlainStock) → (x ≡ None → ⊥) → (o : PlainStock) × (x ≡ Some o)
    stock_there None no_stock = absurd (no_stock refl)
    stock_there (Some o) no_stock = (o, refl)

-- ---- the clerk
