-- The theorems on runs.
use Rattle.std.proofs.Common.{ℕ, ◌≤◌, ◌<◌, Bool, true, false, ◌≡◌, ◌⊎◌, inl, inr, List, [], ◌∷◌, ◌++◌, length, map, refl, sym, ap, subst, ◌∙◌, Option, arith, get_or-set_same}
use Rattle.std.specs.Prelude.{Some, None, ◌||◌, ◌==◌, ◌&&◌, slice_index, is_some, nat_lt, nat_le}
use Rattle.std.specs.List.{filter}
use Rattle.std.specs.Option.{ForSome}
use Rattle.std.proofs.lemmas.Bool.{cases_Bool, or_cases, eq-eqb, and_parts, and_from, leb-true, le-leb, ltb-true, lt-ltb}
use Rattle.tau_base.specs.declared.value.Key.{Key}
use Rattle.tau_base.specs.declared.value.Mode.{Mode}
use Rattle.tau_base.specs.declared.value.Mode.TheVariants.{Write}
use Rattle.tau_base.specs.declared.value.LogMode.{LogMode}
use Rattle.tau_base.specs.declared.value.LogMode.TheVariants.{Values, Commands, WideValues, WideCommands}
use Rattle.tau_base.specs.Database.{Db, written}
use Rattle.tau_base.specs.Vectors.{AtMost, covers}
use Rattle.tau_base.proofs.Vectors.{at_most_trans, covers_at_most, at_most_covers}
use Rattle.tau_proc.specs.declared.proc.Proc.{Proc}
use Rattle.tau_proc.specs.declared.reply.Reply.{Reply}
use Rattle.tau_proc.specs.Effect.{Effect, has_key, Sound}
use Rattle.tau_proc.proofs.Sound.{meaning_sound}
use Rattle.tau_model.specs.declared.committed.Committed.{Committed}
use Rattle.tau_model.specs.declared.committed.Spot.{Spot}
use Rattle.tau_model.specs.Committed.{place_at, place_of, has_record, number_of}
use Rattle.tau_model.specs.History.{Act, Member, Before, Reordered, Conflict, KeepsOrder, Closed, Depends, at_once, through, trace, exec, replies, redo, updates}
use Rattle.tau_model.specs.Light.{IsLight}
use Rattle.tau_model.specs.Logged.{Place, Orderly, IsLogged, IsPlaced, IsCutAt, lv}
use Rattle.tau_model.specs.Redo.{redone, redo_contents}
use Rattle.tau_model.specs.Reported.{Left, in_stream, left_of, reported_of}
use Rattle.tau_model.proofs.Ascending.{left_of_is}
use Rattle.tau_model.proofs.Calls.{lifted}
use Rattle.tau_model.proofs.Dependence.{conflict_sym, members_order, depends_here, closed_there, part_there}
use Rattle.tau_model.proofs.Logged.{cut_closed, orderly_redo, orderly_filtered, member_first, member_second, covered_taken, covered_depends}
use Rattle.tau_model.proofs.Orders.{Consistent, trace_calls, redo_trace, same_acts, member_reordered}
use Rattle.tau_model.proofs.Reorder.{reordered_sym, reordered_length}
use Rattle.tau_model.proofs.ReportOrder.{IsReport, reported_is}
use Rattle.tau_machine.specs.Hands.{Txn, committed_of, spot_of, Hand, means, lv_of, held_in}
use Rattle.tau_machine.specs.State.{Setting, Ticket, Item, Record, Anchor, Core, sight, hand_of}
use Rattle.tau_machine.specs.Accounts.{in_committed}
use Rattle.tau_machine.proofs.Lists.{in_acts, member_of, before_of, member_counts, before_counts, apart_counts, reordered_counts}
use Rattle.tau_machine.specs.Invariant.{Invariant}
use Rattle.tau_machine.specs.Pieces.{records_of_stream, records_in, placed_in}
use Rattle.tau_machine.specs.Reports.{calls_of, placed_at, reported, held_by, content_of, Unheld}
use Rattle.tau_machine.specs.Theorems.{KeptTheorem, RunTheorem, GoesOnTheorem, LetGoTheorem, OrderTheorem, RowsTheorem, ReportedTheorem, NumbersTheorem, CutsTheorem, StreamsTheorem, AcknowledgedTheorem, ContentsTheorem, LightTheorem, CommittedTheorem, EndedTheorem, OwnRowTheorem, PostedTheorem}
use Rattle.tau_machine.proofs.Classes.{classes_map}
use Rattle.tau_machine.proofs.Join as join
use Rattle.tau_machine.proofs.Mapped.{reported_map}
use Rattle.tau_machine.proofs.Pieces.{chain_member}
use Rattle.tau_machine.proofs.Snoc.{consistent_from}
use Rattle.tau_machine.proofs.Shapes.{invariant_kept, invariant_let_go}
use Rattle.tau_machine.proofs.Runs.{run_invariant, lead_on_more}
use Rattle.tau_base.proofs.Logic.{or_true, or_left}
use Rattle.tau_model.proofs.Reports.{writes_updates}

means_sound : (procs : List Proc) → Sound (means procs)
means_sound procs = record { seen = λ t db. (meaning_sound procs).seen t.call.call db; determined = λ t db other. (meaning_sound procs).determined t.call.call db other }

counts_map : (n : ℕ) (ts : List (Act Txn)) → in_committed n (map committed_of ts) ≡ in_acts n ts
counts_map n [] = refl
counts_map n (t ∷ ts) = let e = counts_map n ts in omega arith

-- the replies are those of the trace
replies_trace : {C : Type 0} (meaning : C → Db → Effect) (cs : List C) (db : Db) → replies meaning cs db ≡ map (λ t. t.effect.reply) (trace meaning cs db)
replies_trace meaning [] db = refl
replies_trace meaning (c ∷ cs) db = ap (λ (l : List Reply). (meaning c db).reply ∷ l) (replies_trace meaning cs (written (meaning c db).writes db))

-- the record of an act that is what its call means redoes to what the act wrote
content_redone : (procs : List Proc) (mode : LogMode) (t : Act Txn) (db : Db) → means procs t.call db ≡ t.effect → redone procs (content_of mode t) db ≡ written t.effect.writes db
content_redone procs Values t db is = refl
content_redone procs Commands t db is = ap (λ (e : Effect). written e.writes db) is
content_redone procs WideValues t db is = refl
content_redone procs WideCommands t db is = ap (λ (e : Effect). written e.writes db) is

contents_redone : (procs : List Proc) (mode : Act Txn → LogMode) (ts : List (Act Txn)) (db : Db) → Consistent (means procs) ts db →
    redo_contents procs (map (λ t. content_of (mode t) t) ts) db ≡ redo ts db
contents_redone procs mode [] db h = refl
contents_redone procs mode (t ∷ ts) db h =
    ap (λ (d : Db). redo_contents procs (map (λ y. content_of (mode y) y) ts) d) (content_redone procs (mode t) t db h.0) ∙
    contents_redone procs mode ts (written t.effect.writes db) h.1

depends_member : {C : Type 0} (acts : List (Act C)) (t u : Act C) → Depends acts t u → Member u acts
depends_member acts t u (at_once b c) = member_first u t acts b
depends_member acts t u (through {v = v} d e) = depends_member acts v u e

-- tests that agree on the elements filter alike
pub filter_alike : {A : Type 0} (p q : A → Bool) (xs : List A) → ((x : A) → Member x xs → p x ≡ q x) → filter p xs ≡ filter q xs
filter_alike p q [] h = refl
filter_alike {A} p q (x ∷ xs) h = elim (cases_Bool (q x)) [
  | inl is ↦ rw (h x (inl refl), is) (ap (λ (l : List A). x ∷ l) (filter_alike p q xs (λ y m. h y (inr m))))
  | inr no' ↦ rw (h x (inl refl), no') (filter_alike p q xs (λ y m. h y (inr m)))
]

-- the place of a committed call, as what is kept of it says
abbrev place' : Act Txn → Place
place' t = place_of (committed_of t)

abbrev up' : Act Txn → Bool
up' t = has_record (committed_of t)

pub spot_is : (b : Bool) (t : Txn) → is_some (spot_of b t) ≡ b
spot_is true t = refl
spot_is false t = refl

up_is : (t : Act Txn) → up' t ≡ updates t.effect
up_is t = spot_is (updates t.effect) t.call

module _ (set : Setting) (K : List (Act Txn)) (s : Core) (g : Invariant set K s) where
  is_trace : trace (means set.procs) (calls_of K) set.base ≡ K
  is_trace = g.agrees.good.good.order.effects

  logged : IsLogged placed_at s.ends (trace (means set.procs) (calls_of K) set.base)
  logged = subst (λ (l : List (Act Txn)). IsLogged placed_at s.ends l) (sym is_trace) g.agrees.good.good.order.logged

  -- no two committed calls have one number
  counted_in : (w n : ℕ) → in_committed n (s.workers w).committed ≡ in_acts n (filter (λ (x : Act Txn). x.call.worker == w) K)
  counted_in w n = ap (in_committed n) (g.agrees.good.members w) ∙ counts_map n (filter (λ (x : Act Txn). x.call.worker == w) K)

  own_number : (t : Act Txn) → Member t K → set.worker_of t.call.call.number ≡ t.call.worker
  own_number t m =
      let w : ℕ = t.call.worker in
      let n = member_counts t.call.call.number t (filter (λ (x : Act Txn). x.call.worker == w) K) (member_of (λ (x : Act Txn). x.call.worker == w) t K m (eq-eqb w w refl)) refl in
      let c = counted_in w t.call.call.number in
      (g.agrees.accounts w).whose t.call.call.number (omega arith)

  apart : (u t : Act Txn) → Before u t K → Member u K → u.call.call.number ≡ t.call.call.number → ⊥
  apart u t b mu e =
      let mt : Member t K = member_second u t K b in
      let same : t.call.worker ≡ u.call.worker = sym (own_number t mt) ∙ ap set.worker_of (sym e) ∙ own_number u mu in
      let w : ℕ = u.call.worker in
      let n = before_counts u.call.call.number u t (filter (λ (x : Act Txn). x.call.worker == w) K)
      (before_of (λ (x : Act Txn). x.call.worker == w) u t K b (eq-eqb w w refl) (eq-eqb t.call.worker w same)) refl e in
      let c = counted_in w u.call.call.number in
      let o = (g.agrees.accounts w).once u.call.call.number in
      absurd (omega arith)

  once_in : (n : ℕ) → in_acts n K ≤ 1
  once_in = apart_counts K (λ u t b. apart u t b (member_first u t K b))

  -- what is kept of a committed call has its place
  place_is : (t : Act Txn) → Member t K → place' t ≡ t.call.place
  place_is t m = by_record (updates t.effect) refl
    where
      by_record : (b : Bool) → updates t.effect ≡ b → place_at t.call.place.dep (spot_of b t.call) ≡ t.call.place
      by_record true e = refl
      by_record false e = sym (g.agrees.good.unplaced t m e)

  placed' : IsPlaced place' up' s.ends K
  placed' =
      let old = g.agrees.good.good.order.logged.places in
      let up_of : (t : Act Txn) → up' t ≡ true → updates t.effect ≡ true = λ t u. sym (up_is t) ∙ u in record {
        own = λ r m u. subst (λ (p : Place). slice_index p.dep p.stream ≤ p.start) (sym (place_is r m)) (old.own r m (up_of r u));
        later = λ t r b u. subst (λ (p : Place). slice_index (place' t).dep p.stream ≤ p.start) (sym (place_is r (member_second t r K b)))
            (subst (λ (p : Place). slice_index p.dep r.call.place.stream ≤ r.call.place.start) (sym (place_is t (member_first t r K b))) (old.later t r b (up_of r u)));
        starts = λ r q b u v same.
            let er = place_is r (member_first r q K b) in let eq = place_is q (member_second r q K b) in
            subst (λ (p : Place). (place' r).start < p.start) (sym eq) (subst (λ (p : Place). p.start < q.call.place.start) (sym er)
            (old.starts r q b (up_of r u) (up_of q v) (ap (λ (p : Place). p.stream) (sym er) ∙ same ∙ ap (λ (p : Place). p.stream) eq)));
        ended = λ t m. subst (λ (p : Place). AtMost p.dep s.ends) (sym (place_is t m)) (old.ended t m);
        placed = λ r m u. subst (λ (p : Place). (p.stream < length s.ends) × (p.stream < length p.dep) × (p.start < p.past)) (sym (place_is r m)) (old.placed r m (up_of r u));
      }

  -- the reported history
  module _ (calls : List (Act Txn)) (same : Reordered K calls) where
    left : Left (Act Txn)
    left = left_of place' up' (λ t. t.call.call.number) (length s.ends) calls

    is_report : IsReport place' up' K (left_of place' up' (λ t. t.call.call.number) (length s.ends) calls).streams (reported s.ends calls)
    is_report = reported_is place' up' s.ends (length calls) K (left_of place' up' (λ t. t.call.call.number) (length s.ends) calls)
        (let e = reordered_length K calls same in omega arith) placed' (left_of_is place' up' (λ t. t.call.call.number) s.ends K calls placed' same)

    keeps : KeepsOrder K (reported s.ends calls)
    keeps u t b c v =
        let mu = member_first u t K b in let mt = member_second u t K b in
        let covered = g.agrees.good.good.order.logged.ordered u t b c in
        let there : AtMost (lv (up' u) (place' u)) (place' t).dep =
        subst (λ (p : Place). AtMost (lv (up' u) (place' u)) p.dep) (sym (place_is t mt))
        (subst (λ (p : Place). AtMost (lv (up' u) p) t.call.place.dep) (sym (place_is u mu)) (subst (λ (b : Bool). AtMost (lv b u.call.place) t.call.place.dep) (sym (up_is u)) covered)) in
        let (k, a, d, w) = c in
        let writes : (up' u || up' t) ≡ true = elim (or_cases (has_key k u.effect.writes) (has_key k t.effect.writes) w) [
          | inl p ↦ or_left (up' u) (up' t) (up_is u ∙ writes_updates u.effect.writes k p)
          | inr p ↦ or_true (up' u) (up' t) (up_is t ∙ writes_updates t.effect.writes k p)
        ] in
        is_report.in_order t u v (there, writes)

    of_the_stream : (j : ℕ) → records_of_stream j (reported s.ends calls) ≡ records_of_stream j K
    of_the_stream j =
        let alike : (t : Act Txn) → Member t K → in_stream (λ (x : Act Txn). x.call.place) (λ x. updates x.effect) j t ≡ in_stream place' up' j t =
        λ t m. ap (λ (b : Bool). b && t.call.place.stream == j) (sym (up_is t)) ∙ ap (λ (p : Place). up' t && p.stream == j) (sym (place_is t m)) in
        filter_alike (in_stream (λ (x : Act Txn). x.call.place) (λ x. updates x.effect) j) (in_stream place' up' j) (reported s.ends calls)
        (λ t m. alike t (member_reordered K (reported s.ends calls) is_report.once t m))
        ∙ is_report.by_stream j ∙ (left_of_is place' up' (λ t. t.call.call.number) s.ends K calls placed' same).streams j
        ∙ sym (filter_alike (in_stream (λ (x : Act Txn). x.call.place) (λ x. updates x.effect) j) (in_stream place' up' j) K alike)

    acts_are_same : Consistent (means set.procs) (reported s.ends calls) set.base × (redo (reported s.ends calls) set.base ≡ redo K set.base)
    acts_are_same = same_acts (means set.procs) (means_sound set.procs) K (reported s.ends calls) set.base (consistent_from (means set.procs) K set.base is_trace) is_report.once keeps

    reported_trace : trace (means set.procs) (calls_of (reported s.ends calls)) set.base ≡ reported s.ends calls
    reported_trace = trace_calls (means set.procs) (reported s.ends calls) set.base acts_are_same.0

    reported_exec : exec (means set.procs) (calls_of (reported s.ends calls)) set.base ≡ exec (means set.procs) (calls_of K) set.base
    reported_exec =
        sym (redo_trace (means set.procs) (calls_of (reported s.ends calls)) set.base) ∙ ap (λ (l : List (Act Txn)). redo l set.base) reported_trace
        ∙ acts_are_same.1 ∙ ap (λ (l : List (Act Txn)). redo l set.base) (sym is_trace) ∙ redo_trace (means set.procs) (calls_of K) set.base

    not_itself : (u t : Act Txn) → Before u t (reported s.ends calls) → u ≡ t → ⊥
    not_itself u t b e =
        let n = before_counts u.call.call.number u t (reported s.ends calls) b refl (ap (λ (x : Act Txn). x.call.call.number) e) in
        let c = reordered_counts u.call.call.number K (reported s.ends calls) is_report.once in
        let o = once_in u.call.call.number in
        absurd (omega arith)

    -- it is ordered by vectors too
    reported_ordered : (u t : Act Txn) → Before u t (reported s.ends calls) → Conflict u.effect t.effect → AtMost (lv_of u) t.call.place.dep
    reported_ordered u t b c =
        let mu : Member u K = member_reordered K (reported s.ends calls) is_report.once u (member_first u t (reported s.ends calls) b) in
        let mt : Member t K = member_reordered K (reported s.ends calls) is_report.once t (member_second u t (reported s.ends calls) b) in
        elim (members_order u t K mu mt) [
          | inr e ↦ absurd (not_itself u t b (sym e))
          | inl o ↦ elim o [ inl d ↦ g.agrees.good.good.order.logged.ordered u t d c | inr d ↦ absurd (keeps t u d (conflict_sym u.effect t.effect c) b) ]
        ]

  -- the row of a key that nobody holds in write mode
  row_is : (x : Key) → Unheld s x → exec (means set.procs) (calls_of K) set.base x ≡ (sight set s).row x
  row_is x none =
      ap (λ (d : Db). d x) (sym (redo_trace (means set.procs) (calls_of K) set.base) ∙ ap (λ (l : List (Act Txn)). redo l set.base) is_trace)
      ∙ (g.agrees.good.good.keys x).freed (λ t h e.
      let (i, p, j) = join.in_hand set.procs set.width set.base K (sight set s) (hand_of s) g.agrees.good.good h.worker t h.act in
      let mode : h.mode ≡ Write = j.modes x h.mode e (subst (λ (o : Option Hand). held_in o x ≡ Some h.mode) p h.held) in
      none h.worker t h.act (subst (λ (m : Mode). held_in (hand_of s h.worker) x ≡ Some m) mode h.held))

  -- the calls that a cut holds
  cut_is : (cut : List ℕ) → IsCutAt placed_at cut K (held_by cut)
  cut_is cut t m = (
    λ held.
        let p : Place = t.call.place in
        let parts = and_parts (nat_lt 0 p.past && nat_le p.past (slice_index cut p.stream)) (covers cut p.dep) held in
        let ends = and_parts (nat_lt 0 p.past) (nat_le p.past (slice_index cut p.stream)) parts.0 in
        let above : 0 < p.past = ltb-true 0 p.past ends.0 in
        (updating' (updates t.effect) refl above, leb-true p.past (slice_index cut p.stream) ends.1, covers_at_most cut p.dep parts.1),
    λ is.
        let p : Place = t.call.place in
        let goes = (g.agrees.good.good.order.logged.places.placed t m is.0).2 in
        and_from (nat_lt 0 p.past && nat_le p.past (slice_index cut p.stream)) (covers cut p.dep)
        (and_from (nat_lt 0 p.past) (nat_le p.past (slice_index cut p.stream)) (lt-ltb 0 p.past (omega arith)) (le-leb p.past (slice_index cut p.stream) is.1)) (at_most_covers cut p.dep is.2),
  )
    where
      updating' : (b : Bool) → updates t.effect ≡ b → 0 < t.call.place.past → updates t.effect ≡ true
      updating' true e above = e
      updating' false e above = absurd (let none : t.call.place.past ≡ 0 = ap (λ (p : Place). p.past) (g.agrees.good.unplaced t m e) in omega arith)

  closed : (cut : List ℕ) → Closed K (held_by cut)
  closed cut = cut_closed placed_at s.ends K g.agrees.good.good.order.logged cut (held_by cut) (cut_is cut)

  orderly : (cut : List ℕ) → Orderly (map (λ (t : Act Txn). t.call.place) (filter (λ (t : Act Txn). held_by cut t.call) K))
  orderly cut = orderly_filtered placed_at (λ (x : Act Txn). held_by cut x.call) K
      (λ r m e. g.agrees.good.good.order.logged.places.own r m ((cut_is cut r m).0 e).0)
      (λ t r b e. g.agrees.good.good.order.logged.places.later t r b ((cut_is cut r (member_second t r K b)).0 e).0)

  every_orderly : (cut : List ℕ) (ys : List (Act Txn)) (mode : Act Txn → LogMode) → Reordered (filter (λ (t : Act Txn). held_by cut t.call) K) ys →
      Orderly (map (λ (t : Act Txn). t.call.place) ys) →
      redo_contents set.procs (map (λ t. content_of (mode t) t) ys) set.base ≡ exec (means set.procs) (filter (held_by cut) (calls_of K)) set.base
  every_orderly cut ys mode r ord =
      let w = orderly_redo (means set.procs) (means_sound set.procs) placed_at s.ends (calls_of K) set.base logged (held_by cut) ys
      (subst (λ (l : List (Act Txn)). Closed l (held_by cut)) (sym is_trace) (closed cut))
      (λ x m e. ((cut_is cut x (subst (λ (l : List (Act Txn)). Member x l) is_trace m)).0 e).0)
      (subst (λ (l : List (Act Txn)). Reordered (filter (λ (t : Act Txn). held_by cut t.call) l) ys) (sym is_trace) r) ord in
      contents_redone set.procs mode ys set.base w.0 ∙ w.1

  -- what a cut holds is closed in the reported history too, and does the same there
  reported_part : (cut : List ℕ) (calls : List (Act Txn)) → Reordered K calls →
      Closed (reported s.ends calls) (held_by cut) ×
      (exec (means set.procs) (filter (held_by cut) (calls_of (reported s.ends calls))) set.base ≡ exec (means set.procs) (filter (held_by cut) (calls_of K)) set.base)
  reported_part cut calls same =
      let out : List (Act Txn) = reported s.ends calls in
      let r = is_report calls same in let k = keeps calls same in (
        closed_there K out r.once k (held_by cut) (closed cut),
        part_there (means set.procs) (means_sound set.procs) (calls_of K) (calls_of out) set.base (held_by cut)
            (subst (λ (l : List (Act Txn)). Reordered l (trace (means set.procs) (calls_of out) set.base)) (sym is_trace)
            (subst (λ (l : List (Act Txn)). Reordered K l) (sym (reported_trace calls same)) r.once))
            (subst (λ (l : List (Act Txn)). KeepsOrder l (trace (means set.procs) (calls_of out) set.base)) (sym is_trace)
            (subst (λ (l : List (Act Txn)). KeepsOrder K l) (sym (reported_trace calls same)) k))
            (subst (λ (l : List (Act Txn)). Closed l (held_by cut)) (sym is_trace) (closed cut)),
      )

  -- a call whose vector a cut covers
  covered_held : (t : Act Txn) → Member t K → (cut : List ℕ) → AtMost (lv_of t) cut →
      (updates t.effect ≡ true → held_by cut t.call ≡ true) × ((u : Act Txn) → Depends K t u → updates u.effect ≡ true → held_by cut u.call ≡ true)
  covered_held t m cut low = (
    λ up. covered_taken placed_at s.ends K g.agrees.good.good.order.logged cut (held_by cut) (cut_is cut) t m up low,
    λ u d up. covered_depends placed_at s.ends K g.agrees.good.good.order.logged cut (held_by cut) (cut_is cut) t u low d up,
  )

  -- the vectors are light in the reported history
  light : (calls : List (Act Txn)) → Reordered K calls → (t : Act Txn) → Member t K → IsLight placed_at s.plv (reported s.ends calls) t
  light calls same t m j lt =
      let out : List (Act Txn) = reported s.ends calls in
      let l = g.agrees.good.good.order.light t m j lt in
      let there : Member l.last out = member_reordered out K (reordered_sym K out (is_report calls same).once) l.last (depends_member K t l.last l.how) in
      elim (depends_here K out (is_report calls same).once (keeps calls same) t l.last l.how) [
        | inl d ↦ (l.last, there, l.up, l.stream, l.past, d)
        | inr e ↦ absurd (
            let up : updates t.effect ≡ true = subst (λ (x : Act Txn). updates x.effect ≡ true) (sym e) l.up in
            let stream : t.call.place.stream ≡ j = ap (λ (x : Act Txn). x.call.place.stream) e ∙ l.stream in
            let past : t.call.place.past ≡ slice_index t.call.place.dep j = ap (λ (x : Act Txn). x.call.place.past) e ∙ l.past in
            let own = g.agrees.good.good.order.logged.places.own t m up in
            let at : slice_index t.call.place.dep t.call.place.stream ≡ slice_index t.call.place.dep j = ap (slice_index t.call.place.dep) stream in
            let goes = (g.agrees.good.good.order.logged.places.placed t m up).2 in omega arith)
      ]

pub kept_theorem : KeptTheorem
kept_theorem = invariant_kept

pub run_theorem : RunTheorem
run_theorem = run_invariant

pub goes_on_theorem : GoesOnTheorem
goes_on_theorem set opening = (
  λ o. record { opens = o; leads = (refl, refl) },
  λ events K s s' e new r leads. record { opens = r.opens; leads = lead_on_more set events K opening s s' e new r.leads leads },
)

pub let_go_theorem : LetGoTheorem
let_go_theorem = invariant_let_go

pub order_theorem : OrderTheorem
order_theorem set K s g = (g.agrees.good.good.order.logged.ordered, reported_ordered set K s g)

pub rows_theorem : RowsTheorem
rows_theorem set K s g = (
  is_trace set K s g,
  replies_trace (means set.procs) (calls_of K) set.base ∙ ap (λ (l : List (Act Txn)). map (λ t. t.effect.reply) l) (is_trace set K s g),
  row_is set K s g,
)

pub reported_theorem : ReportedTheorem
reported_theorem set K s g calls same = (
  (is_report set K s g calls same).once,
  keeps set K s g calls same,
  of_the_stream set K s g calls same,
  reported_trace set K s g calls same,
  replies_trace (means set.procs) (calls_of (reported s.ends calls)) set.base ∙ ap (λ (l : List (Act Txn)). map (λ t. t.effect.reply) l) (reported_trace set K s g calls same),
  λ x none. ap (λ (d : Db). d x) (reported_exec set K s g calls same) ∙ row_is set K s g x none,
)

map_map : {A B C : Type 0} (f : A → B) (h : B → C) (xs : List A) → map h (map f xs) ≡ map (λ x. h (f x)) xs
map_map f h [] = refl
map_map {C = C} f h (x ∷ xs) = ap (λ (l : List C). h (f x) ∷ l) (map_map f h xs)

pub numbers_theorem : NumbersTheorem
numbers_theorem set K s g list same =
    let (calls, r, is) = lifted committed_of K list same in (
      calls,
      r,
      is,
      ap (map number_of) (ap (λ (l : List Committed). reported_of place_of has_record number_of s.ends l) (sym is) ∙ sym (reported_map committed_of place_of has_record number_of s.ends calls))
          ∙ map_map committed_of number_of (reported s.ends calls),
    )

pub cuts_theorem : CutsTheorem
cuts_theorem set K s g cut = (cut_is set K s g cut, closed set K s g cut, orderly set K s g cut, every_orderly set K s g cut, reported_part set K s g cut)

pub streams_theorem : StreamsTheorem
streams_theorem set K s r j lt = let o = r.agrees.pieces.stream j lt in (o.waiting, o.moved, o.rest, o.records, o.anchors, o.named)

pub acknowledged_theorem : AcknowledgedTheorem
acknowledged_theorem set K s g w k m =
    let (low, c) = g.agrees.good.acked w k m in
    let (t, there, e) = c in
    let high : AtMost (lv_of t) s.plv = subst (λ (v : List ℕ). AtMost v s.plv) (sym (ap (λ (i : Ticket). i.lv) e)) low in
    (t, there, e, high, λ cut up. covered_held set K s g t there cut (at_most_trans (lv_of t) s.plv cut high up))

pub light_theorem : LightTheorem
light_theorem = light

within : (ends : List ℕ) (b : Bool) (t : Txn) → (b ≡ true → (t.place.stream < length ends) × (t.place.start ≤ slice_index ends t.place.stream)) →
    ForSome (spot_of b t) (λ p. (p.stream < length ends) × (p.start ≤ slice_index ends p.stream))
within ends true t place k e =
    let same : ◌≡◌ {A = Spot} (record { stream = t.place.stream; start = t.place.start; past = t.place.past; anchor = t.anchor }) k = cc in
    subst (λ (p : Spot). (p.stream < length ends) × (p.start ≤ slice_index ends p.stream)) same (place refl)
within ends false t place k e = cc

pub committed_theorem : CommittedTheorem
committed_theorem set K s g =
    let order = g.agrees.good.good.order in (
      λ t m. (
        (g.shapes.committed t m).0,
        own_number set K s g t m,
        g.agrees.good.streams t m,
        (g.shapes.committed t m).1,
        within s.ends (updates t.effect) t.call (λ up. let p = order.logged.places.placed t m up in (p.0, (let a = p.2 in let b = order.pasts t m up in omega arith))),
      ),
      λ u t b. apart set K s g u t b (member_first u t K b),
      g.agrees.good.members,
      λ m below. classes_map committed_of (λ t. t.call.worker) m K (λ w. (s.workers w).committed)
          (λ t there. subst (λ (w : ℕ). w < m) (own_number set K s g t there) (below t.call.call.number)) g.agrees.good.members,
    )

pub ended_theorem : EndedTheorem
ended_theorem set K s g w = let a = g.agrees.accounts w in (a.ended, a.committed, a.tickets)

-- where the write vector of a key is at most that of a call that wrote and freed it, the row is what that call wrote
pub own_row_theorem : OwnRowTheorem
own_row_theorem set K s r x t m e none low =
    let g = r.agrees.good.good in
    (g.keys x).row_of t m e none (λ u b f. elim ((g.keys x).wrote u (member_second t u K b) f) [
      | inl h ↦ h
      | inr covered ↦
          let up : updates u.effect ≡ true = writes_updates u.effect.writes x f in
          let mu : Member u K = member_second t u K b in
          let p = g.order.logged.places.placed u mu up in
          let c : Conflict t.effect u.effect = (x, or_true (has_key x t.effect.reads) (has_key x t.effect.writes) e, or_true (has_key x u.effect.reads) (has_key x u.effect.writes) f, or_left (has_key x t.effect.writes) (has_key x u.effect.writes) e) in
          let above : AtMost (lv_of u) u.call.place.dep = at_most_trans (lv_of u) ((sight set s).write_lv x) u.call.place.dep covered
          (at_most_trans ((sight set s).write_lv x) (lv_of t) u.call.place.dep low (g.order.logged.ordered t u b c)) in
          let raised : AtMost (lv true u.call.place) u.call.place.dep = subst (λ (k : Bool). AtMost (lv k u.call.place) u.call.place.dep) up above in
          let at = get_or-set_same u.call.place.dep u.call.place.stream u.call.place.past 0 p.1 in
          let high : u.call.place.past ≤ slice_index u.call.place.dep u.call.place.stream = rw at at (raised u.call.place.stream) in
          let own = g.order.logged.places.own u mu up in
          let goes = p.2 in
          absurd (omega arith)
    ])

in_records : (t : Act Txn) (xs : List Item) → Member t (records_in xs) → Member (Record t) xs
in_records t [] m = absurd m
in_records t (Record u ∷ xs) (inl e) = inl (ap (λ (r : Act Txn). Record r) e)
in_records t (Record u ∷ xs) (inr m) = inr (in_records t xs m)
in_records t (Anchor a b v ∷ xs) m = inr (in_records t xs m)

member_parts : {A : Type 0} (a : A) (xs ys : List A) → Member a (xs ++ ys) → Member a xs ⊎ Member a ys
member_parts a [] ys m = inr m
member_parts a (x ∷ xs) ys (inl e) = inl (inl e)
member_parts a (x ∷ xs) ys (inr m) = elim (member_parts a xs ys m) [ inl n ↦ inl (inr n) | inr n ↦ inr n ]

record_anchor : (t : Act Txn) (a b : ℕ) (v : List ℕ) → ◌≡◌ {A = Item} (Record t) (Anchor a b v) → ⊥
record_anchor t a b v e = cc

pub posted_theorem : PostedTheorem
posted_theorem set K s r t m up =
    let g = r in
    let j : ℕ = t.call.place.stream in
    let small : j < set.width = (let p = (g.agrees.good.good.order.logged.places.placed t m up).0 in let c = g.agrees.good.good.order.count in omega arith) in
    let o = g.agrees.pieces.stream j small in
    let in' : in_stream (λ (x : Act Txn). x.call.place) (λ x. updates x.effect) j t ≡ true = and_from (updates t.effect) (j == j) up (eq-eqb j j refl) in
    let there : Member (Record t) ((s.streams j).moved ++ o.waiting) = in_records t ((s.streams j).moved ++ o.waiting)
    (subst (λ (l : List (Act Txn)). Member t l) (sym o.records) (member_of (in_stream (λ (x : Act Txn). x.call.place) (λ x. updates x.effect) j) t K m in')) in
    elim (member_parts (Record t) (s.streams j).moved o.waiting there) [
      | inl moved ↦ inr (inr (chain_member (slice_index set.opening j) (slice_index s.gathered j) (s.streams j).moved (Record t) o.moved moved).2)
      | inr waits ↦ elim (o.there (Record t) waits) [
        | inl p ↦ inr (inl (elim p [
          | inl b ↦
              let (u, e, by) = g.agrees.pieces.whose b.0 (Record t) b.2 in
              let same : t ≡ u = cc in
              subst (λ (k : ℕ). Member (Record t) (s.outboxes k).posted) (sym by ∙ ap (λ (x : Act Txn). x.call.worker) (sym same)) b.2
          | inr b ↦ let (x, y, v, e) = g.agrees.pieces.own j (Record t) b in absurd (record_anchor t x y v e)
        ]))
        | inr f ↦
            let same : t ≡ f.2.0 = (let e = f.2.1 in cc) in
            let placed : placed_in (hand_of s f.0) ≡ Some t = f.2.2 ∙ ap (λ (x : Act Txn). Some x) (sym same) in
            inl (subst (λ (k : ℕ). placed_in (hand_of s k) ≡ Some t) (sym (g.agrees.pieces.worker f.0 t placed)) placed)
      ]
    ]

pub contents_theorem : ContentsTheorem
contents_theorem set K s r cut stopped going j = at' (s.streams j).stop refl
  where
    at' : (o : Option ℕ) → (s.streams j).stop ≡ o → slice_index s.plv j ≤ slice_index cut j
    at' None e = going j e
    at' (Some c) e = let a = (r.agrees.stops j c e).0 in let b = stopped j c e in omega arith
