-- The theorems, at the meaning of calls.
use Rattle.std.proofs.Common.{ℕ, ◌≡◌, List, [], ◌∷◌, map, length, refl, sym, ap, subst, ◌∙◌, arith}
use Rattle.std.specs.Prelude.{slice_index_or}
use Rattle.std.specs.List.{filter}
use Rattle.tau_base.specs.declared.value.LogMode.{LogMode}
use Rattle.tau_base.specs.declared.value.LogMode.TheVariants.{Values, Commands, WideValues, WideCommands}
use Rattle.tau_base.specs.Database.{Db, written}
use Rattle.tau_proc.specs.declared.proc.Proc.{Proc}
use Rattle.tau_proc.specs.Effect.{Effect, Sound}
use Rattle.tau_proc.proofs.Sound.{meaning_sound}
use Rattle.tau_model.specs.History.{Numbered, means, Act, trace, exec, redo, Reordered, KeepsOrder, updates}
use Rattle.tau_model.specs.Logged.{Place, IsLogged}
use Rattle.tau_model.specs.Redo.{content, redone, redo_contents}
use Rattle.tau_model.specs.Reported.{left_of, in_stream, reported_of}
use Rattle.tau_model.specs.Theorems.{SameConflicts, ClosedPart, CutClosed, OrderlyRedo, CoveredHeld, ReportedHistory, CutReported}
use Rattle.tau_model.proofs.Calls.{same_conflicts, closed_part}
use Rattle.tau_model.proofs.Logged.{cut_closed, orderly_redo, orderly_filtered, member_second, covered_taken, covered_depends}
use Rattle.tau_model.proofs.Orders.{Consistent, trace_consistent, redo_trace}
use Rattle.tau_model.proofs.Reorder.{reordered_length}
use Rattle.tau_model.proofs.Ascending.{left_of_is}
use Rattle.tau_model.proofs.Reports.{reported_acts}
use Rattle.tau_model.proofs.Dependence.{closed_there, part_there}

pub means_sound : (procs : List Proc) → Sound (means procs)
means_sound procs = record {
  seen = λ c db. (meaning_sound procs).seen c.call db;
  determined = λ c db other. (meaning_sound procs).determined c.call db other;
}

pub same_conflicts_law : SameConflicts
same_conflicts_law procs = same_conflicts (means procs) (means_sound procs)

pub closed_part_law : ClosedPart
closed_part_law procs = closed_part (means procs) (means_sound procs)

pub cut_closed_law : CutClosed
cut_closed_law procs h db place ends logged = cut_closed place ends (trace (means procs) h db) logged

-- the record of an act that is what its call means redoes to what the act wrote
content_redone : (procs : List Proc) (mode : LogMode) (x : Act Numbered) (db : Db) → means procs x.call db ≡ x.effect →
    redone procs (content mode x) db ≡ written x.effect.writes db
content_redone procs Values x db is = refl
content_redone procs Commands x db is = ap (λ (e : Effect). written e.writes db) is
content_redone procs WideValues x db is = refl
content_redone procs WideCommands x db is = ap (λ (e : Effect). written e.writes db) is

contents_redone : (procs : List Proc) (mode : Act Numbered → LogMode) (xs : List (Act Numbered)) (db : Db) → Consistent (means procs) xs db →
    redo_contents procs (map (λ x. content (mode x) x) xs) db ≡ redo xs db
contents_redone procs mode [] db h = refl
contents_redone procs mode (x ∷ xs) db h =
    ap (λ (d : Db). redo_contents procs (map (λ y. content (mode y) y) xs) d) (content_redone procs (mode x) x db h.0) ∙
    contents_redone procs mode xs (written x.effect.writes db) h.1

pub orderly_redo_law : OrderlyRedo
orderly_redo_law procs h db place ends logged cut chosen is = (
  orderly_filtered place (λ x. chosen x.call) (trace (means procs) h db)
      (λ r m in'. logged.places.own r m ((is r m).0 in').0)
      (λ t r b in'. logged.places.later t r b ((is r (member_second t r (trace (means procs) h db) b)).0 in').0),
  λ ys mode same ord.
      let w = orderly_redo (means procs) (means_sound procs) place ends h db logged chosen ys
      (cut_closed place ends (trace (means procs) h db) logged cut chosen is) (λ x m in'. ((is x m).0 in').0) same ord in
      contents_redone procs mode ys db w.0 ∙ w.1,
)

pub covered_held_law : CoveredHeld
covered_held_law procs h db place ends logged cut chosen is x m low = (
  λ up. covered_taken place ends (trace (means procs) h db) logged cut chosen is x m up low,
  λ u d up. covered_depends place ends (trace (means procs) h db) logged cut chosen is x u low d up,
)

module _ (procs : List Proc) (h : List Numbered) (db : Db) (place : Numbered → Place) (ends : List ℕ) (logged : IsLogged place ends (trace (means procs) h db))
    (calls : List (Act Numbered)) (same : Reordered (trace (means procs) h db) calls) where
  of_calls : let out : List (Act Numbered) = reported_of (λ x. place x.call) (λ x. updates x.effect) (λ x. x.call.number) ends calls in
      Reordered (trace (means procs) h db) out × KeepsOrder (trace (means procs) h db) out × (trace (means procs) (map (λ x. x.call) out) db ≡ out) ×
      (exec (means procs) (map (λ x. x.call) out) db ≡ redo (trace (means procs) h db) db) ×
      ((j : ℕ) → filter (in_stream (λ (x : Act Numbered). place x.call) (λ x. updates x.effect) j) out ≡
      slice_index_or (left_of (λ (x : Act Numbered). place x.call) (λ x. updates x.effect) (λ x. x.call.number) (length ends) calls).streams j [])
  of_calls = reported_acts (means procs) (means_sound procs) place ends db (trace (means procs) h db) (trace_consistent (means procs) h db) logged (length calls)
      (let e = reordered_length (trace (means procs) h db) calls same in omega arith)
      (left_of (λ (x : Act Numbered). place x.call) (λ x. updates x.effect) (λ x. x.call.number) (length ends) calls)
      (left_of_is (λ (x : Act Numbered). place x.call) (λ x. updates x.effect) (λ x. x.call.number) ends (trace (means procs) h db) calls logged.places same)

pub reported_history_law : ReportedHistory
reported_history_law procs h db place ends logged calls same =
    let r = of_calls procs h db place ends logged calls same in
    let left = left_of_is (λ (x : Act Numbered). place x.call) (λ x. updates x.effect) (λ x. x.call.number) ends (trace (means procs) h db) calls logged.places same in
    (r.0, r.1, λ j. r.4 j ∙ left.streams j, r.2, r.3 ∙ redo_trace (means procs) h db)

pub cut_reported_law : CutReported
cut_reported_law procs h db place ends logged calls same cut chosen is =
    let out : List (Act Numbered) = reported_of (λ x. place x.call) (λ x. updates x.effect) (λ x. x.call.number) ends calls in
    let r = of_calls procs h db place ends logged calls same in
    let closed = cut_closed place ends (trace (means procs) h db) logged cut chosen is in (
      closed_there (trace (means procs) h db) out r.0 r.1 chosen closed,
      part_there (means procs) (means_sound procs) h (map (λ x. x.call) out) db chosen
          (subst (λ (l : List (Act Numbered)). Reordered (trace (means procs) h db) l) (sym r.2) r.0)
          (subst (λ (l : List (Act Numbered)). KeepsOrder (trace (means procs) h db) l) (sym r.2) r.1) closed,
    )
