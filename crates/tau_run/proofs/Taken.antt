-- What recovery takes of a log of the run: the calls that the cut of its contents holds.
use Rattle.std.proofs.Common.{ℕ, zero, suc, ◌≤◌, ◌<◌, Bool, true, ◌≡◌, ◌⊎◌, inl, inr, List, [], ◌∷◌, ◌++◌, map, length, refl, sym, ap, subst, ◌∙◌, arith, slice_index}
use Rattle.std.specs.Prelude.{◌&&◌, ◌==◌, slice_index_or}
use Rattle.std.specs.List.{filter, list_any}
use Rattle.std.proofs.lemmas.Bool.{and_parts, and_from, eq-eqb, eqb-true, leb-true, le-leb}
use Rattle.tau_base.specs.Database.{Db}
use Rattle.tau_base.specs.Vectors.{covers}
use Rattle.tau_base.specs.declared.value.LogMode.{LogMode}
use Rattle.tau_base.specs.declared.value.LogMode.TheVariants.{Values, Commands, WideValues, WideCommands}
use Rattle.tau_base.proofs.Vectors.{covers_at_most, at_most_covers}
use Rattle.tau_proc.specs.declared.proc.Proc.{Proc}
use Rattle.tau_text.specs.declared.load.Workload.{Workload}
use Rattle.tau_model.specs.History.{Act, Member, Reordered, Closed, exec, updates}
use Rattle.tau_model.specs.Logged.{Place, IsCutAt, Orderly}
use Rattle.tau_model.specs.Redo.{Content, redo_contents}
use Rattle.tau_model.proofs.Calls.{lifted}
use Rattle.tau_model.proofs.Dependence.{members_order}
use Rattle.tau_model.proofs.Orders.{member_reordered}
use Rattle.tau_model.proofs.Logged.{member_filtered}
use Rattle.tau_model.proofs.Reorder.{reordered_itself, reordered_sym, reordered_trans}
use Rattle.tau_machine.specs.Hands.{Txn}
use Rattle.tau_machine.specs.Hands as hands
use Rattle.tau_machine.specs.State.{Setting, Core}
use Rattle.tau_machine.specs.Invariant.{Invariant}
use Rattle.tau_machine.specs.Pieces.{records_of_stream}
use Rattle.tau_machine.specs.Reports.{calls_of, placed_at, held_by, in_turn}
use Rattle.tau_machine.specs.Reports as reports
use Rattle.tau_machine.proofs.Classes.{classes, in_turn_map, reordered_map}
use Rattle.tau_machine.proofs.Lists.{member_of}
use Rattle.tau_machine.proofs.Results.{committed_theorem, cuts_theorem, filter_alike}
use Rattle.tau_record.specs.declared.entry.Placed.{Placed}
use Rattle.tau_scan.specs.declared.log.Log.{Log}
use Rattle.tau_scan.specs.Taken.{Kept, kept_in, taken}
use Rattle.tau_scan.specs.Sound.{IsOrderOver}
use Rattle.tau_epoch_laws.specs.Continues.{news}
use Rattle.tau_run.specs.Start.{Start, old_at}
use Rattle.tau_run.specs.Run.{Committed, Run, told_of, acts, means}
use Rattle.tau_run.specs.RecoveredFacts.{takes}
use Rattle.tau_run.proofs.Lists.{map_member, filter_map, filter_twice, any_true, any_member, bool_same}
use Rattle.tau_run.proofs.CommittedTold.{apart_reordered, exec_told}
use Rattle.tau_run.proofs.Closed.{closed_told}
use Rattle.tau_run.proofs.Order.{apart, history, once, there}
use Rattle.tau_run.proofs.History.{IsSet, acts_are}
use Rattle.tau_run.proofs.Cuts.{ends_by}
use Rattle.tau_run.proofs.Reading.{kept_of}
use Rattle.tau_model.proofs.Assembling.{member_mapped}

-- ---- one stream after another

pub in_turn_alike : {A : Type 0} (n : ℕ) (f g : ℕ → List A) → ((j : ℕ) → j < n → f j ≡ g j) → in_turn n f ≡ in_turn n g
in_turn_alike zero f g h = refl
in_turn_alike {A} (suc n) f g h =
    ap (λ (l : List A). l ++ in_turn n (λ j. f (suc j))) (h 0 (omega arith)) ∙ ap (λ (l : List A). g 0 ++ l) (in_turn_alike n (λ j. f (suc j)) (λ j. g (suc j)) (λ j lt. h (suc j) (omega (arith, lt))))

places_are : (mode : LogMode) (ts : List (Act Txn)) → map (λ (r : Kept). r.place) (map (kept_of mode) ts) ≡ map (λ (t : Act Txn). t.call.place) ts
places_are mode [] = refl
places_are mode (t ∷ ts) = ap (λ (l : List Place). t.call.place ∷ l) (places_are mode ts)

contents_are : (mode : LogMode) (ts : List (Act Txn)) → map (λ (r : Kept). r.content) (map (kept_of mode) ts) ≡ map (λ t. reports.content_of mode t) ts
contents_are mode [] = refl
contents_are Values (t ∷ ts) = ap (λ (l : List Content). reports.content_of Values t ∷ l) (contents_are Values ts)
contents_are Commands (t ∷ ts) = ap (λ (l : List Content). reports.content_of Commands t ∷ l) (contents_are Commands ts)
contents_are WideValues (t ∷ ts) = ap (λ (l : List Content). reports.content_of WideValues t ∷ l) (contents_are WideValues ts)
contents_are WideCommands (t ∷ ts) = ap (λ (l : List Content). reports.content_of WideCommands t ∷ l) (contents_are WideCommands ts)

calls_filter : (p : Txn → Bool) (ts : List (Act Txn)) → filter p (calls_of ts) ≡ calls_of (filter (λ (t : Act Txn). p t.call) ts)
calls_filter p ts = filter_map (λ (t : Act Txn). t.call) p (λ (t : Act Txn). p t.call) ts (λ t m. refl)

module _ (set : Setting) (K : List (Act Txn)) (s : Core) (g : Invariant set K s) (mode : LogMode) (n : ℕ) (width : set.width ≡ n) where
  -- the log goes on from where the run began: of each stream it has the calls' records that end in its content, and of
  -- those it takes the ones that its lengths cover
  pub record IsLogOf (start : Start) (log : Log) (more : List (List Placed)) : Type 0 where
    pub kept : (j : ℕ) → j < n → kept_in j (slice_index_or more j []) ≡ map (kept_of mode) (filter (ends_by (slice_index log.elv j)) (records_of_stream j K))
    pub news_are : news start.log more log ≡ in_turn n (λ j. filter (λ (r : Kept). covers log.elv r.place.dep) (kept_in j (slice_index_or more j [])))
    pub either : (r : Kept) → Member r (taken log) → Member r (news start.log more log) ⊎ (r.place.start < length (old_at start r.place.stream))
    pub there : (r : Kept) → Member r (news start.log more log) → Member r (taken log)
    pub after : (t : Act Txn) → Member t K → updates t.effect ≡ true → length (old_at start t.call.place.stream) ≤ t.call.place.start

  cut_is : (cut : List ℕ) → IsCutAt placed_at cut K (held_by cut)
  cut_is cut = (cuts_theorem set K s g cut).0

  pub stream_low : (t : Act Txn) → Member t K → updates t.effect ≡ true → t.call.place.stream < n
  stream_low t m up =
      let own : t.call.place.stream ≡ set.stream_of t.call.worker = ((committed_theorem set K s g).0 t m).2 up in
      let low : set.stream_of t.call.worker < set.width = g.agrees.good.small t.call.worker in
      omega (arith, own, low, width)

  -- the records of a stream start apart
  one_of_place : (u t : Act Txn) → Member u K → Member t K → updates u.effect ≡ true → updates t.effect ≡ true → u.call.place.stream ≡ t.call.place.stream → u.call.place.start ≡ t.call.place.start → u ≡ t
  one_of_place u t mu mt pu pt stream start =
      let starts = g.agrees.good.good.order.logged.places.starts in
      elim (members_order u t K mu mt) [
        | inl o ↦ elim o [
          | inl b ↦ absurd (let lt = starts u t b pu pt stream in omega (arith, lt, start))
          | inr b ↦ absurd (let lt = starts t u b pt pu (sym stream) in omega (arith, lt, start))
        ]
        | inr same ↦ sym same
      ]

  module _ (run : Run) (log : Log) (more : List (List Placed)) (is : IsLogOf run.start log more) where
    abbrev fresh : List Kept
    fresh = news run.start.log more log

    abbrev held : Act Txn → Bool
    held t = held_by log.elv t.call

    abbrev made : ℕ → List Kept
    made j = filter (λ (r : Kept). covers log.elv r.place.dep) (kept_in j (slice_index_or more j []))

    abbrev part : ℕ → List (Act Txn)
    part j = filter (λ (t : Act Txn). t.call.place.stream == j) (filter held K)

    pointwise : (j : ℕ) (t : Act Txn) → Member t K →
        ((updates t.effect && t.call.place.stream == j) && (ends_by (slice_index log.elv j) t && covers log.elv t.call.place.dep)) ≡ (held t && t.call.place.stream == j)
    pointwise j t m = bool_same ((updates t.effect && t.call.place.stream == j) && (ends_by (slice_index log.elv j) t && covers log.elv t.call.place.dep)) (held t && t.call.place.stream == j)
        (λ e.
        let a = and_parts (updates t.effect && t.call.place.stream == j) (ends_by (slice_index log.elv j) t && covers log.elv t.call.place.dep) e in
        let b = and_parts (updates t.effect) (t.call.place.stream == j) a.0 in
        let c = and_parts (ends_by (slice_index log.elv j) t) (covers log.elv t.call.place.dep) a.1 in
        let own : t.call.place.stream ≡ j = eqb-true t.call.place.stream j b.1 in
        let low : t.call.place.past ≤ slice_index log.elv j = leb-true t.call.place.past (slice_index log.elv j) c.0 in
        and_from (held t) (t.call.place.stream == j)
        ((cut_is log.elv t m).1 (b.0, subst (λ k. t.call.place.past ≤ slice_index log.elv k) (sym own) low, covers_at_most log.elv t.call.place.dep c.1)) b.1)
        (λ e.
        let a = and_parts (held t) (t.call.place.stream == j) e in
        let b = (cut_is log.elv t m).0 a.0 in
        let own : t.call.place.stream ≡ j = eqb-true t.call.place.stream j a.1 in
        let low : t.call.place.past ≤ slice_index log.elv j = subst (λ k. t.call.place.past ≤ slice_index log.elv k) own b.1 in
        and_from (updates t.effect && t.call.place.stream == j) (ends_by (slice_index log.elv j) t && covers log.elv t.call.place.dep)
        (and_from (updates t.effect) (t.call.place.stream == j) b.0 a.1)
        (and_from (ends_by (slice_index log.elv j) t) (covers log.elv t.call.place.dep) (le-leb t.call.place.past (slice_index log.elv j) low) (at_most_covers log.elv t.call.place.dep b.2)))

    same_part : (j : ℕ) → j < n → made j ≡ map (kept_of mode) (part j)
    same_part j lt =
        let e : ℕ = slice_index log.elv j in
        let p3 : Act Txn → Bool = λ t. covers log.elv t.call.place.dep in
        ap (filter (λ (r : Kept). covers log.elv r.place.dep)) (is.kept j lt)
        ∙ filter_map (kept_of mode) (λ (r : Kept). covers log.elv r.place.dep) p3 (filter (ends_by e) (records_of_stream j K)) (λ t m. refl)
        ∙ ap (map (kept_of mode)) (
        filter_twice p3 (ends_by e) (records_of_stream j K)
        ∙ filter_twice (λ (t : Act Txn). ends_by e t && p3 t) (λ (t : Act Txn). updates t.effect && t.call.place.stream == j) K
        ∙ filter_alike (λ (t : Act Txn). (updates t.effect && t.call.place.stream == j) && (ends_by e t && p3 t)) (λ (t : Act Txn). held t && t.call.place.stream == j) K (pointwise j)
        ∙ sym (filter_twice (λ (t : Act Txn). t.call.place.stream == j) held K))

    -- the new ones that are taken are those of the calls that the cut holds
    pub taken_are : Reordered (map (kept_of mode) (filter held K)) fresh
    taken_are =
        let low : (t : Act Txn) → Member t (filter held K) → t.call.place.stream < n = λ t m.
        (let h = member_filtered held t K m in stream_low t h.0 ((cut_is log.elv t h.0).0 h.1).0) in
        let class : Reordered (filter held K) (in_turn n part) = classes (λ (t : Act Txn). t.call.place.stream) n (filter held K) low in
        let same : map (kept_of mode) (in_turn n part) ≡ fresh = in_turn_map (kept_of mode) n part ∙ in_turn_alike n (λ j. map (kept_of mode) (part j)) made (λ j lt. sym (same_part j lt)) ∙ sym is.news_are in
        subst (λ (l : List Kept). Reordered (map (kept_of mode) (filter held K)) l) same (reordered_map (kept_of mode) (filter held K) (in_turn n part) class)

    -- a new one that is taken is that of such a call
    pub held_of : (r : Kept) → Member r fresh → (t : Act Txn) × Member t K × (held t ≡ true) × (kept_of mode t ≡ r) × (updates t.effect ≡ true)
    held_of r m =
        let u = member_mapped (kept_of mode) r (filter held K) (member_reordered (map (kept_of mode) (filter held K)) fresh taken_are r m) in
        let h = member_filtered held u.0 K u.1 in
        (u.0, h.0, h.1, u.2, ((cut_is log.elv u.0 h.0).0 h.1).0)

    abbrev is_at : Act Txn → Kept → Bool
    is_at t r = (r.place.stream == t.call.place.stream) && (r.place.start == t.call.place.start)

    -- and by their places just these calls are taken
    pub takes_is : (t : Act Txn) → Member t K → takes log (told_of t) ≡ held t
    takes_is t m = bool_same (takes log (told_of t)) (held t)
        (λ e.
        let a = and_parts (updates t.effect) (list_any (is_at t) (taken log)) e in
        let r = any_member (is_at t) (taken log) a.1 in
        let q = and_parts (r.0.place.stream == t.call.place.stream) (r.0.place.start == t.call.place.start) r.2 in
        let stream : r.0.place.stream ≡ t.call.place.stream = eqb-true r.0.place.stream t.call.place.stream q.0 in
        let start : r.0.place.start ≡ t.call.place.start = eqb-true r.0.place.start t.call.place.start q.1 in
        elim (is.either r.0 r.1) [
          | inl new ↦
              let u = held_of r.0 new in
              let one : u.0 ≡ t = one_of_place u.0 t u.1 m u.4 a.0 (ap (λ (k : Kept). k.place.stream) u.3 ∙ stream) (ap (λ (k : Kept). k.place.start) u.3 ∙ start) in
              subst (λ (x : Act Txn). held x ≡ true) one u.2
          | inr low ↦ absurd (
              let after = is.after t m a.0 in
              let same : length (old_at run.start r.0.place.stream) ≡ length (old_at run.start t.call.place.stream) = ap (λ (j : ℕ). length (old_at run.start j)) stream in
              omega (arith, low, after, same, start))
        ])
        (λ e.
        let up = ((cut_is log.elv t m).0 e).0 in
        let there : Member (kept_of mode t) (map (kept_of mode) (filter held K)) = map_member (kept_of mode) t (filter held K) (member_of held t K m e) in
        let new : Member (kept_of mode t) fresh = member_reordered fresh (map (kept_of mode) (filter held K)) (reordered_sym (map (kept_of mode) (filter held K)) fresh taken_are) (kept_of mode t) there in
        let here : is_at t (kept_of mode t) ≡ true = and_from (t.call.place.stream == t.call.place.stream) (t.call.place.start == t.call.place.start) (eq-eqb t.call.place.stream t.call.place.stream refl) (eq-eqb t.call.place.start t.call.place.start refl) in
        and_from (updates t.effect) (list_any (is_at t) (taken log)) up (any_true (is_at t) (kept_of mode t) (taken log) (is.there (kept_of mode t) new) here))

    -- an orderly order of the new ones exists
    pub in_some_order : (order : List Kept) × IsOrderOver fresh order
    in_some_order = (
      map (kept_of mode) (filter held K),
      record {
        each_once = reordered_sym (map (kept_of mode) (filter held K)) fresh taken_are;
        orderly = subst Orderly (sym (places_are mode (filter held K))) (cuts_theorem set K s g log.elv).2;
      },
    )

    -- and each redoes to what executing just these calls gives
    order_redoes : (order : List Kept) → IsOrderOver fresh order → redo_contents set.procs (map (λ (r : Kept). r.content) order) set.base ≡ exec (hands.means set.procs) (filter (held_by log.elv) (calls_of K)) set.base
    order_redoes order is_order =
        let chain : Reordered (map (kept_of mode) (filter held K)) order = reordered_trans (map (kept_of mode) (filter held K)) fresh order taken_are is_order.each_once in
        let (ys, r, e) = lifted (kept_of mode) (filter held K) order chain in
        let orderly : Orderly (map (λ (t : Act Txn). t.call.place) ys) =
        subst Orderly (ap (map (λ (k : Kept). k.place)) (sym e) ∙ places_are mode ys) is_order.orderly in
        ap (λ (l : List Content). redo_contents set.procs l set.base) (ap (map (λ (k : Kept). k.content)) (sym e) ∙ contents_are mode ys)
        ∙ (cuts_theorem set K s g log.elv).3 ys (λ t. mode) r orderly

    module _ (m : ℕ) (load : Workload) (at : IsSet n m load run.start set) (calls : run.calls ≡ map told_of (history set K s g)) where
      abbrev H : List (Act Txn)
      H = history set K s g

      pub is_closed : Closed (acts load.declarations.procs run) (takes log)
      is_closed =
          let law = (cuts_theorem set K s g log.elv).4 K (reordered_itself K) in
          subst (λ (l : List (Act Committed)). Closed l (takes log)) (sym (acts_are set K s g n m load run at calls))
          (closed_told H (apart_reordered K H (apart set K s g) (once set K s g)) (held_by log.elv) (takes log) law.0 (λ t q. takes_is t (there set K s g t q)))

      pub all_redo : (order : List Kept) → IsOrderOver fresh order →
          redo_contents load.declarations.procs (map (λ (r : Kept). r.content) order) run.start.base ≡ exec (means load.declarations.procs) (filter (takes log) run.calls) run.start.base
      all_redo order is_order =
          let law = ((cuts_theorem set K s g log.elv).4 K (reordered_itself K)).1 in
          let chosen : filter (takes log) run.calls ≡ map told_of (filter held H) =
          ap (filter (takes log)) calls ∙ filter_map told_of (takes log) held H (λ t q. takes_is t (there set K s g t q)) in
          ap (λ (p : List Proc). redo_contents p (map (λ (r : Kept). r.content) order) run.start.base) (sym at.procs)
          ∙ ap (λ (d : Db). redo_contents set.procs (map (λ (r : Kept). r.content) order) d) (sym at.base)
          ∙ order_redoes order is_order ∙ sym law
          ∙ ap (λ (l : List Txn). exec (hands.means set.procs) l set.base) (calls_filter (held_by log.elv) H)
          ∙ sym (exec_told set.procs (filter held H) set.base)
          ∙ ap (λ (l : List Committed). exec (means set.procs) l set.base) (sym chosen)
          ∙ ap (λ (p : List Proc). exec (means p) (filter (takes log) run.calls) set.base) at.procs
          ∙ ap (exec (means load.declarations.procs) (filter (takes log) run.calls)) at.base
