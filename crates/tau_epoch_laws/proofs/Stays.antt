-- A log stays sound, and what came after one that is sound is redone from its database.
use Rattle.std.proofs.Common.{ℕ, suc, ◌<◌, Bool, true, false, not, ◌≡◌, inl, inr, List, [], ◌∷◌, ◌++◌, map, refl, sym, ap, subst, ◌∙◌, arith, slice_index}
use Rattle.std.specs.List.{filter}
use Rattle.std.proofs.lemmas.Bool.{ltb-true}
use Rattle.tau_base.specs.Database.{Db, empty_db}
use Rattle.tau_base.specs.Vectors.{AtMost}
use Rattle.tau_base.specs.declared.format.Format.{Format}
use Rattle.tau_base.proofs.Lists.{map_append}
use Rattle.tau_base.proofs.Vectors.{at_most_trans}
use Rattle.tau_model.specs.History.{Member, Reordered}
use Rattle.tau_model.specs.Logged.{Place}
use Rattle.tau_model.specs.Redo.{Content, redone, redo_contents}
use Rattle.tau_model.proofs.Orders.{member_reordered}
use Rattle.tau_model.proofs.Reorder.{reordered_trans, reordered_sym, reordered_filter}
use Rattle.tau_model.proofs.Replays.{reordered_behind}
use Rattle.tau_proc.specs.declared.proc.Proc.{Proc}
use Rattle.tau_record.specs.declared.entry.Placed.{Placed}
use Rattle.tau_text.specs.declared.load.Declarations.{Declarations}
use Rattle.tau_scan.specs.declared.log.Log.{Log}
use Rattle.tau_scan.specs.Epochs.{judge_of}
use Rattle.tau_scan.specs.Taken.{Kept, taken_in, taken_from, taken}
use Rattle.tau_epoch_laws.specs.Continues.{none_in, Continues, news}
use Rattle.tau_scan.specs.Sound.{IsOrderOver, redo_in, Redoes, IsSound}
use Rattle.tau_epoch_laws.specs.Laws.{starts_in, StaysSound, RedoneAfter}
use Rattle.tau_epoch_laws.proofs.Parts.{in_either, reordered_front, filter_second}
use Rattle.tau_epoch_laws.proofs.Contents.{Holds, holds, same_declared, starts_after}
use Rattle.tau_epoch_laws.proofs.Grown.{mark_in}
use Rattle.tau_epoch_laws.proofs.Taken.{old_taken, taken_low}
use Rattle.tau_epoch_laws.proofs.Listed.{are_old, are_new}
use Rattle.tau_epoch_laws.proofs.Splits.{parts, orderly_filter, orderly_append}

abbrev place_of : Kept → Place
place_of r = r.place

-- ---- redoing

contents_append : (procs : List Proc) (xs ys : List Content) (db : Db) → redo_contents procs (xs ++ ys) db ≡ redo_contents procs ys (redo_contents procs xs db)
contents_append procs [] ys db = refl
contents_append procs (x ∷ xs) ys db = contents_append procs xs ys (redone procs x db)

redo_append : (log : Log) (xs ys : List Kept) (db : Db) → redo_in log (xs ++ ys) db ≡ redo_in log ys (redo_in log xs db)
redo_append log xs ys db =
    ap (λ (l : List Content). redo_contents log.declarations.procs l db) (map_append (λ (r : Kept). r.content) xs ys)
    ∙ contents_append log.declarations.procs (map (λ (r : Kept). r.content) xs) (map (λ (r : Kept). r.content) ys) db

-- nothing is taken if there is no record
pub none_taken : (judge : ℕ → List ℕ) (j : ℕ) (streams : List (List Placed)) → none_in streams → taken_from judge j streams ≡ []
none_taken judge j [] none = refl
none_taken judge j (ps ∷ streams) none = ap (λ (l : List Placed). taken_in judge j 0 l ++ taken_from judge (suc j) streams) none.0 ∙ none_taken judge (suc j) streams none.1

module _ (format : Format) (before after : List (List ℕ)) (old : Log) (more : List (List Placed)) (log : Log) (base : Db) (sound : IsSound format before old base) (read : Holds after log) (c : Continues old more log)
    (both : Reordered (taken old ++ news old more log) (taken log)) where
  held : Holds before old
  held = holds format before old sound.reads

  -- the new log redoes what the old one took to the same database
  old_redone : (order : List Kept) → IsOrderOver (taken old) order → redo_in log order empty_db ≡ base
  old_redone order is = elim (same_declared before after old more log held read c) [
    | inl none ↦
        let empty : order ≡ [] = subst (λ (l : List Kept). Reordered l order) (none_taken (judge_of old) 0 old.streams none) is.each_once in
        ap (λ (l : List Kept). redo_in log l empty_db) empty ∙ ap (λ (l : List Kept). redo_in old l empty_db) (sym empty) ∙ sound.redone.alike order is
    | inr same ↦ ap (λ (d : Declarations). redo_contents d.procs (map (λ (r : Kept). r.content) order) empty_db) same ∙ sound.redone.alike order is
  ]

  -- an order of the old ones, and after it one of the new ones
  together : (front back : List Kept) → IsOrderOver (taken old) front → IsOrderOver (news old more log) back → IsOrderOver (taken log) (front ++ back)
  together front back f b = record {
    each_once = reordered_trans (taken log) (taken old ++ news old more log) (front ++ back) (reordered_sym (taken old ++ news old more log) (taken log) both)
        (reordered_trans (taken old ++ news old more log) (front ++ news old more log) (front ++ back)
        (reordered_front (taken old) front (news old more log) f.each_once) (reordered_behind front (news old more log) back b.each_once));
    orderly = orderly_append place_of front back f.orderly b.orderly (λ o t mo mt.
        (let low = taken_low old o (member_reordered (taken old) front f.each_once o mo) t.place.stream in
        let high = starts_after before after old more log held read c t (member_reordered (news old more log) back b.each_once t mt) in
        omega (arith, low, high)));
  }

  abbrev is_new : Kept → Bool
  is_new r = not (starts_in old r)

  olds_are : (r : Kept) → Member r (taken old) → starts_in old r ≡ true
  olds_are = are_old before after old more log held read c

  news_are : (r : Kept) → Member r (news old more log) → starts_in old r ≡ false
  news_are = are_new before after old more log held read c

  whole_order : (order : List Kept) → IsOrderOver (taken log) order → Reordered (taken old ++ news old more log) order
  whole_order order is = reordered_trans (taken old ++ news old more log) (taken log) order both is.each_once

  redone_news : (base' : Db) → Redoes log (taken log) empty_db base' → Redoes log (news old more log) base base'
  redone_news base' now = record {
    ordered = (
      filter is_new now.ordered.0,
      record {
        each_once = subst (λ (l : List Kept). Reordered l (filter is_new now.ordered.0))
            (filter_second is_new (taken old) (news old more log) (λ r m. ap not (olds_are r m)) (λ r m. ap not (news_are r m)))
            (reordered_filter is_new (taken old ++ news old more log) now.ordered.0 (whole_order now.ordered.0 now.ordered.1));
        orderly = orderly_filter place_of is_new now.ordered.0 now.ordered.1.orderly;
      },
    );
    alike = λ order is.
        (let first = sound.redone.ordered.0 in
        ap (redo_in log order) (sym (old_redone first sound.redone.ordered.1)) ∙ sym (redo_append log first order empty_db)
        ∙ now.alike (first ++ order) (together first order sound.redone.ordered.1 is));
  }

  module _ (base' : Db) (floor : (r : Kept) → Member r (news old more log) → AtMost old.elv r.place.dep) (each : Redoes log (news old more log) base base') where
    waits : (o t : Kept) → Member o (taken old ++ news old more log) → Member t (taken old ++ news old more log) → starts_in old o ≡ true → starts_in old t ≡ false → o.place.start < slice_index t.place.dep o.place.stream
    waits o t mo mt is not_is = elim (in_either t (taken old) (news old more log) mt) [
      | inl m ↦ absurd (let e = sym (olds_are t m) ∙ not_is in cc e)
      | inr m ↦
          let lt = ltb-true o.place.start (slice_index old.elv o.place.stream) is in
          let low = floor t m o.place.stream in
          omega (arith, lt, low)
    ]

    all_alike : (order : List Kept) → IsOrderOver (taken log) order → redo_in log order empty_db ≡ base'
    all_alike order is =
        let p = parts place_of (starts_in old) (taken old) (news old more log) order (whole_order order is) is.orderly olds_are news_are waits in
        ap (λ (l : List Kept). redo_in log l empty_db) p.whole ∙ redo_append log (filter (starts_in old) order) (filter is_new order) empty_db
        ∙ ap (redo_in log (filter is_new order)) (old_redone (filter (starts_in old) order) (record { each_once = p.first; orderly = p.first_orderly }))
        ∙ each.alike (filter is_new order) (record { each_once = p.second; orderly = p.second_orderly })

    all_redone : Redoes log (taken log) empty_db base'
    all_redone = record {
      ordered = (sound.redone.ordered.0 ++ each.ordered.0, together sound.redone.ordered.0 each.ordered.0 sound.redone.ordered.1 each.ordered.1);
      alike = all_alike;
    }

pub redone_after : RedoneAfter
redone_after f before after old more log base base' sound now c =
    redone_news f before after old more log base sound (holds f after log now.reads) c (old_taken f before after old more log sound.reads sound.fit now.reads c) base' now.redone

pub stays_sound : StaysSound
stays_sound f before after old more log base base' sound reads c fit floor each = record {
  reads = reads;
  fit = λ m h. elim (mark_in old.streams more log.streams c.streams m h) [
    | inl p ↦ at_most_trans m.lv old.elv log.elv (sound.fit m p) c.longer
    | inr p ↦ fit m p
  ];
  redone = all_redone f before after old more log base sound (holds f after log reads) c (old_taken f before after old more log sound.reads sound.fit reads c) base' floor each;
}
