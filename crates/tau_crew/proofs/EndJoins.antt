-- The head takes the managers' seats in.
use Rattle.std.proofs.Common.{ℕ, zero, suc, ◌+◌, ◌<◌, ◌≡◌, ◌||◌, Bool, cond, Option, List, [], ◌∷◌, ◌++◌, length, refl, sym, ap, subst, ◌∙◌, arith, eq-eqb, ne_eqb, length-append, map, reverse}
use Rattle.std.specs.Prelude.{Some, slice_get, slice_index, slice_set}
use Rattle.std.proofs.lemmas.List.{reverse-append}
use Rattle.atomic_table.specs.Seated.{TableId}
use Rattle.tau_base.specs.Vectors.{join}
use Rattle.tau_core.specs.State.{Plain}
use Rattle.tau_core.proofs.Lists.{got_other, got_same}
use Rattle.tau_disk.specs.declared.disk.Disk.{Ghosts}
use Rattle.tau_stream.specs.declared.writer.Writer.{Writer}
use Rattle.tau_rule.specs.Heads.{both_at}
use Rattle.tau_rule.specs.Role.{Role, role_in}
use Rattle.tau_rule.specs.Rule.{has, manager_role}
use Rattle.tau_rule.specs.Steps.{first_role}
use Rattle.tau_desk.specs.Seats.{Heads, Manages, PlainHead, PlainManagerSeat}
use Rattle.tau_crew.specs.declared.manager.ManagerJob.{ManagerJob}
use Rattle.tau_crew.specs.EndJoins.{AreSeats, HasManager, HasManagers, IsSeatAt, KeepsHead, TakesManager, writer_in}
use Rattle.tau_base.proofs.Lists.{get_behind}

pub role_here : (rs qs : List (ℕ × Role)) (k : ℕ) (r : Role) → rs ≡ (k, r) ∷ [] → role_in k (rs ++ qs) ≡ Some r
role_here rs qs k r e = ap (λ (xs : List (ℕ × Role)). role_in k (xs ++ qs)) e ∙ ap (λ b. cond b (Some r) (role_in k qs)) (eq-eqb k k refl)

pub role_other : (rs qs : List (ℕ × Role)) (k : ℕ) (r : Role) (u : ℕ) → rs ≡ (k, r) ∷ [] → (u ≡ k → ⊥) → role_in u (rs ++ qs) ≡ role_in u qs
role_other rs qs k r u e ne = ap (λ (xs : List (ℕ × Role)). role_in u (xs ++ qs)) e ∙ ap (λ b. cond b (Some r) (role_in u qs)) (ne_eqb k u (λ i. ne (sym i)))

pub same_origin : {a b : Plain} (o : Option Plain) → o ≡ Some a → o ≡ Some b → a ≡ b
same_origin {a} {b} o e f = let g : Some a ≡ Some b = sym e ∙ f in cc g

-- the head has one manager's role more
pub manager_joined : (first : Plain) (h h' : PlainHead) (s : PlainManagerSeat) → Heads h → Manages s → h.me.0.opened ≡ Some first → s.me.0.opened ≡ Some first →
    h' ≡ record h { me = (both_at s.stream h.me.0 s.me.0, []); managers = slice_set h.managers s.stream (Some s.stock); seen = slice_set (join h.seen s.seen) s.stream (slice_index s.seen s.stream) } → TakesManager first h h' s
manager_joined first h h' s d m opened mine e =
    let as_head : d.origin ≡ first = same_origin h.me.0.opened d.opened opened in
    let as_seat : m.origin ≡ first = same_origin s.me.0.opened m.opened mine in
    let roles : s.me.0.roles ≡ (manager_role first.load s.stream, m.role) ∷ [] = m.roles ∙ ap (λ (o : Plain). (manager_role o.load s.stream, m.role) ∷ []) as_seat in
    let there : s.stream < first.load.streams = subst (λ (o : Plain). s.stream < o.load.streams) as_seat m.stock.there in
    let count : length h.managers ≡ first.load.streams = d.manager_count ∙ ap (λ (o : Plain). o.load.streams) as_head in
    let low : s.stream < length h.managers = omega (arith, there, count) in
    let k = manager_role first.load s.stream in
    let role_is : (first_role s.me.0.roles).1 ≡ m.role = ap (λ (rs : List (ℕ × Role)). (first_role rs).1) roles in
    record {
      keeps = record {
        table = ap (λ (x : PlainHead). x.table_id) e;
        opened = ap (λ (x : PlainHead). x.me.0.opened) e;
        found = λ yes. ap (λ (x : PlainHead). x.me.0.found) e ∙ ap (λ (b : Bool). b || s.me.0.found) yes;
        workers = ap (λ (x : PlainHead). x.workers) e;
        roles = λ u lt. ap (λ (x : PlainHead). has u x.me.0) e ∙ role_other s.me.0.roles h.me.0.roles k m.role u roles (λ i. omega (arith, i, lt));
      };
      here = record {
        role = ap (λ (x : PlainHead). has k x.me.0) e ∙ role_here s.me.0.roles h.me.0.roles k m.role roles ∙ ap (λ (r : Role). Some r) (sym role_is);
        stock = ap (λ (x : PlainHead). slice_get x.managers s.stream) e ∙ got_same h.managers s.stream (Some s.stock) low;
      };
      others = λ j t ne had. record {
        role = ap (λ (x : PlainHead). has (manager_role first.load j) x.me.0) e ∙ role_other s.me.0.roles h.me.0.roles k m.role (manager_role first.load j) roles (λ i. ne (omega (arith, i))) ∙ had.role;
        stock = ap (λ (x : PlainHead). slice_get x.managers j) e ∙ got_other h.managers s.stream j (Some s.stock) ne ∙ had.stock;
      };
    }

module _ {D : Type 0} {G : Ghosts D} where
  -- the last of the jobs that are left was taken in
  pub managers_more : (first : Plain) (h h' : PlainHead) (left done : List (ManagerJob D G)) (job : ManagerJob D G) → HasManagers first h (length left + 1) done → job.seat.stream ≡ length left → TakesManager first h h' job.seat → HasManagers first h' (length left) (job ∷ done)
  managers_more first h h' left done job had at t zero x is =
      let same : job ≡ x = (let e : Some job ≡ Some x = is in cc e) in
      subst (λ (y : ManagerJob D G). HasManager first h' (length left + 0) y.seat) same (subst (λ (j : ℕ). HasManager first h' j job.seat) (let a : job.seat.stream ≡ length left + 0 = omega (arith, at) in a) t.here)
  managers_more first h h' left done job had at t (suc i) x is =
      t.others (length left + suc i) x.seat (λ e. omega (arith, e, at)) (subst (λ (j : ℕ). HasManager first h j x.seat) (let a : length left + 1 + i ≡ length left + suc i = omega arith in a) (had i x is))

  front_join : (xs : List (ManagerJob D G)) (y : ManagerJob D G) (zs : List (ManagerJob D G)) → (xs ++ y ∷ []) ++ zs ≡ xs ++ y ∷ zs
  front_join [] y zs = refl
  front_join (x ∷ xs) y zs = ap (λ (r : List (ManagerJob D G)). x ∷ r) (front_join xs y zs)

  -- the last one that is left is that of the last stream that is left
  pub last_is : (jobs left new done : List (ManagerJob D G)) (job : ManagerJob D G) → jobs ≡ left ++ done → left ≡ new ++ job ∷ [] → jobs ≡ new ++ job ∷ done
  last_is jobs left new done job all pop = all ∙ ap (λ (xs : List (ManagerJob D G)). xs ++ done) pop ∙ front_join new job done

  pub last_seat : (first : Plain) (table : TableId) (jobs left new done : List (ManagerJob D G)) (job : ManagerJob D G) → AreSeats first table jobs → jobs ≡ left ++ done → left ≡ new ++ job ∷ [] → IsSeatAt first table (length new) job
  last_seat first table jobs left new done job seats all pop =
      seats (length new) job
      (ap (λ (xs : List (ManagerJob D G)). slice_get xs (length new)) (last_is jobs left new done job all pop)
      ∙ ap (slice_get (new ++ job ∷ done)) (let e : length new ≡ length new + 0 = omega arith in e)
      ∙ get_behind new (job ∷ done) 0)

  pub managers_step : (first : Plain) (table : TableId) (jobs left new done : List (ManagerJob D G)) (job : ManagerJob D G) (h h' : PlainHead) → AreSeats first table jobs → jobs ≡ left ++ done → left ≡ new ++ job ∷ [] → HasManagers first h (length left) done → TakesManager first h h' job.seat →
      HasManagers first h' (length new) (job ∷ done)
  managers_step first table jobs left new done job h h' seats all pop had t =
      let long : length left ≡ length new + 1 = ap (length {A = ManagerJob D G}) pop ∙ length-append new (job ∷ []) in
      managers_more first h h' new done job (subst (λ (k : ℕ). HasManagers first h k done) long had) (last_seat first table jobs left new done job seats all pop).at t

pub keeps_head : (first : Plain) (h h' h'' : PlainHead) → KeepsHead first h h' → KeepsHead first h' h'' → KeepsHead first h h''
keeps_head first h h' h'' a b = record {
  table = b.table ∙ a.table;
  opened = b.opened ∙ a.opened;
  found = λ yes. b.found (a.found yes);
  workers = b.workers ∙ a.workers;
  roles = λ u lt. b.roles u lt ∙ a.roles u lt;
}

-- none is left
pub managers_all : {D : Type 0} {G : Ghosts D} (first : Plain) (h : PlainHead) (jobs left done : List (ManagerJob D G)) → jobs ≡ left ++ done → left ≡ [] → HasManagers first h (length left) done → HasManagers first h 0 jobs
managers_all first h jobs left done all none had =
    subst (λ (xs : List _). HasManagers first h 0 xs) (sym (all ∙ ap (λ (xs : List _). xs ++ done) none)) (subst (λ (xs : List _). HasManagers first h (length xs) done) none had)

module _ {D : Type 0} {G : Ghosts D} where
  map_last : (new : List (ManagerJob D G)) (job : ManagerJob D G) (zs : List (Writer D G)) → map writer_in (new ++ job ∷ []) ++ zs ≡ map writer_in new ++ job.writer ∷ zs
  map_last [] job zs = refl
  map_last (x ∷ xs) job zs = ap (λ (r : List (Writer D G)). x.writer ∷ r) (map_last xs job zs)

  -- the writer of the last one comes back after the others
  pub writers_step : (left new : List (ManagerJob D G)) (job : ManagerJob D G) (ws ws' : List (Writer D G)) (w : Writer D G) → left ≡ new ++ job ∷ [] → ws' ≡ ws ++ w ∷ [] → w ≡ job.writer → map writer_in new ++ reverse ws' ≡ map writer_in left ++ reverse ws
  writers_step left new job ws ws' w pop push same =
      ap (λ (r : List (Writer D G)). map writer_in new ++ r) (ap (reverse {A = Writer D G}) push ∙ reverse-append ws (w ∷ []) ∙ ap (λ (x : Writer D G). x ∷ reverse ws) same) ∙ sym (map_last new job (reverse ws)) ∙ ap (λ (xs : List (ManagerJob D G)). map writer_in xs ++ reverse ws) (sym pop)
