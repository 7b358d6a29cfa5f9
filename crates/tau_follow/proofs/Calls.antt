-- Streams that are read on by records of calls, and anchors.
use Rattle.std.proofs.Common.{ℕ, zero, suc, ◌+◌, true, cond, ◌≡◌, List, [], ◌∷◌, ◌++◌, map, length, drop, set, Option, Some, None, refl, sym, ap, subst, ◌∙◌, arith, append_assoc, is_some}
use Rattle.std.specs.Prelude.{slice_get}
use Rattle.std.proofs.lemmas.List.{append-nil, drop_all}
use Rattle.std.proofs.Math.Seq.{drop-append_seam}
use Rattle.tau_model.specs.History.{Member}
use Rattle.tau_epoch.specs.Epochs.{Mark}
use Rattle.tau_epoch.specs.Known.{vector_of}
use Rattle.tau_record.specs.declared.entry.Entry.{Entry}
use Rattle.tau_record.specs.declared.entry.Entry.TheVariants.{Written, Command, Anchor, Catalogue, Epoch}
use Rattle.tau_record.specs.declared.entry.Placed.{Placed}
use Rattle.tau_record.specs.Record.{epoch_after}
use Rattle.tau_record.specs.Content.{last_epoch}
use Rattle.tau_scan.specs.declared.fault.LogFault.{LogFault}
use Rattle.tau_scan.specs.declared.fault.LogCause.TheVariants as cause
use Rattle.tau_scan.specs.Epochs.{mark_of, marks_in, marks_from}
use Rattle.tau_scan.specs.Reading.{text_of, catalogue_of, catalogue_from, catalogue_in, lowest_with, is_vector, mark_fault, marks_fault, epochs_fault, epoch_fault, or_else}
use Rattle.tau_scan.specs.Taken.{Kept, kept_from}
use Rattle.tau_epoch_laws.specs.Continues.{Grown}
use Rattle.tau_follow_laws.specs.Following.{is_among, is_left_out, left_out}
use Rattle.tau_follow_laws.proofs.Kept.{all_dated, dated_grown}
use Rattle.tau_follow_laws.proofs.Rises.{AreStanding}
use Rattle.tau_follow.specs.declared.stage.Stage.{Stage}
use Rattle.tau_follow.specs.Applying.{is_call, stages_in, stages_from, first_stages, extended, extended_from}
use Rattle.tau_follow.specs.Judging.{judged_stage, judged_in, judged_from, with_judged}
use Rattle.tau_follow.specs.Feeding.{AreCalls}
use Rattle.tau_follow.proofs.Extending.{stages_long}
use Rattle.tau_follow.proofs.Judging.{left_is}

-- ---- the records of calls, and anchors

-- each of these records is one
abbrev Each : List Placed → Type 0
Each ms = (i : ℕ) (p : Placed) → slice_get ms i ≡ Some p → is_call p.entry ≡ true

got_after : (ps ms : List Placed) (i : ℕ) → slice_get (ps ++ ms) (length ps + i) ≡ slice_get ms i
got_after [] ms i = let k : 0 + i ≡ i = omega arith in ap (slice_get ms) k
got_after (p ∷ ps) ms i = let k : suc (length ps) + i ≡ suc (length ps + i) = omega arith in ap (slice_get (p ∷ ps ++ ms)) k ∙ got_after ps ms i

each_more : (ps ms : List Placed) → AreCalls (length ps) (ps ++ ms) → Each ms
each_more ps ms h i p e = h (length ps + i) p (omega arith) (got_after ps ms i ∙ e)

no_mark : (e : Entry) → is_call e ≡ true → mark_of e ≡ []
no_mark (Written number anchor dep writes) h = refl
no_mark (Command number anchor dep call) h = refl
no_mark (Anchor lv) h = refl
no_mark (Catalogue text) h = absurd cc
no_mark (Epoch number lv) h = absurd cc

no_text : (e : Entry) → is_call e ≡ true → text_of e ≡ None
no_text (Written number anchor dep writes) h = refl
no_text (Command number anchor dep call) h = refl
no_text (Anchor lv) h = refl
no_text (Catalogue text) h = absurd cc
no_text (Epoch number lv) h = absurd cc

same_epoch : (k : ℕ) (e : Entry) → is_call e ≡ true → epoch_after k e ≡ k
same_epoch k (Written number anchor dep writes) h = refl
same_epoch k (Command number anchor dep call) h = refl
same_epoch k (Anchor lv) h = refl
same_epoch k (Catalogue text) h = absurd cc
same_epoch k (Epoch number lv) h = absurd cc

-- ---- one stream

no_marks : (ms : List Placed) → Each ms → marks_in ms ≡ []
no_marks [] h = refl
no_marks (p ∷ ms) h = ap (λ (l : List Mark). l ++ marks_in ms) (no_mark p.entry (h 0 p refl)) ∙ no_marks ms (λ i q e. h (suc i) q e)

marks_append : (ps ms : List Placed) → marks_in (ps ++ ms) ≡ marks_in ps ++ marks_in ms
marks_append [] ms = refl
marks_append (p ∷ ps) ms = ap (λ (l : List Mark). mark_of p.entry ++ l) (marks_append ps ms) ∙ sym (append_assoc (mark_of p.entry) (marks_in ps) (marks_in ms))

marks_more : (ps ms : List Placed) → Each ms → marks_in (ps ++ ms) ≡ marks_in ps
marks_more ps ms h = marks_append ps ms ∙ ap (λ (l : List Mark). marks_in ps ++ l) (no_marks ms h) ∙ append-nil (marks_in ps)

catalogue_more : (ps ms : List Placed) → Each ms → catalogue_of (ps ++ ms) ≡ catalogue_of ps
catalogue_more [] [] h = refl
catalogue_more [] (p ∷ ms) h = no_text p.entry (h 0 p refl)
catalogue_more (p ∷ ps) ms h = refl

last_same : (k : ℕ) (ms : List Placed) → Each ms → last_epoch k ms ≡ k
last_same k [] h = refl
last_same k (p ∷ ms) h = ap (λ (e : ℕ). last_epoch e ms) (same_epoch k p.entry (h 0 p refl)) ∙ last_same k ms (λ i q e. h (suc i) q e)

last_more : (k : ℕ) (ps ms : List Placed) → Each ms → last_epoch k (ps ++ ms) ≡ last_epoch k ps
last_more k [] ms h = last_same k ms h
last_more k (p ∷ ps) ms h = last_more (epoch_after k p.entry) ps ms h

-- ---- all streams, of which one is read on

marks_set : (old : List (List Placed)) (j : ℕ) (ps qs : List Placed) → slice_get old j ≡ Some ps → marks_in qs ≡ marks_in ps → marks_from (set old j qs) ≡ marks_from old
marks_set [] j ps qs e h = refl
marks_set (xs ∷ old) zero ps qs e h = let same : xs ≡ ps = cc in ap (λ (l : List Mark). l ++ marks_from old) (h ∙ ap marks_in (sym same))
marks_set (xs ∷ old) (suc j) ps qs e h = ap (λ (l : List Mark). marks_in xs ++ l) (marks_set old j ps qs e h)

catalogues_set : (old : List (List Placed)) (j : ℕ) (ps qs : List Placed) → slice_get old j ≡ Some ps → catalogue_of qs ≡ catalogue_of ps → map catalogue_of (set old j qs) ≡ map catalogue_of old
catalogues_set [] j ps qs e h = refl
catalogues_set (xs ∷ old) zero ps qs e h = let same : xs ≡ ps = cc in ap (λ (o : Option (List ℕ)). o ∷ map catalogue_of old) (h ∙ ap catalogue_of (sym same))
catalogues_set (xs ∷ old) (suc j) ps qs e h = ap (λ (l : List (Option (List ℕ))). catalogue_of xs ∷ l) (catalogues_set old j ps qs e h)

lowest_set : (number k : ℕ) (old : List (List Placed)) (j : ℕ) (ps qs : List Placed) → slice_get old j ≡ Some ps → marks_in qs ≡ marks_in ps → lowest_with number k (set old j qs) ≡ lowest_with number k old
lowest_set number k [] j ps qs e h = refl
lowest_set number k (xs ∷ old) zero ps qs e h = let same : xs ≡ ps = cc in ap (λ (l : List Mark). cond (is_some (vector_of number l)) k (lowest_with number (suc k) old)) (h ∙ ap marks_in (sym same))
lowest_set number k (xs ∷ old) (suc j) ps qs e h = ap (λ (i : ℕ). cond (is_some (vector_of number (marks_in xs))) k i) (lowest_set number (suc k) old j ps qs e h)

module _ (old : List (List Placed)) (j : ℕ) (ps qs : List Placed) (there : slice_get old j ≡ Some ps) (same : marks_in qs ≡ marks_in ps) where
  mark_still : (i : ℕ) (m : Mark) → mark_fault (set old j qs) i m ≡ mark_fault old i m
  mark_still i m =
      ap (λ (l : List Mark). cond (is_vector m.lv (vector_of m.number l)) None (Some (record { stream = i; cause = cause.Epoch (lowest_with m.number 0 (set old j qs)) m.number }))) (marks_set old j ps qs there same)
      ∙ ap (λ (k : ℕ). cond (is_vector m.lv (vector_of m.number (marks_from old))) None (Some (record { stream = i; cause = cause.Epoch k m.number }))) (lowest_set m.number 0 old j ps qs there same)

  marks_still : (i : ℕ) (ms : List Mark) → marks_fault (set old j qs) i ms ≡ marks_fault old i ms
  marks_still i [] = refl
  marks_still i (m ∷ ms) = ap (λ (o : Option LogFault). or_else o (marks_fault (set old j qs) i ms)) (mark_still i m) ∙ ap (or_else (mark_fault old i m)) (marks_still i ms)

  epochs_still : (i : ℕ) (rest : List (List Placed)) → epochs_fault (set old j qs) i rest ≡ epochs_fault old i rest
  epochs_still i [] = refl
  epochs_still i (xs ∷ rest) = ap (λ (o : Option LogFault). or_else o (epochs_fault (set old j qs) (suc i) rest)) (marks_still i (marks_in xs)) ∙ ap (or_else (marks_fault old i (marks_in xs))) (epochs_still (suc i) rest)

epochs_set : (all : List (List Placed)) (i : ℕ) (old : List (List Placed)) (j : ℕ) (ps qs : List Placed) → slice_get old j ≡ Some ps → marks_in qs ≡ marks_in ps → epochs_fault all i (set old j qs) ≡ epochs_fault all i old
epochs_set all i [] j ps qs e h = refl
epochs_set all i (xs ∷ old) zero ps qs e h = let same : xs ≡ ps = cc in ap (λ (l : List Mark). or_else (marks_fault all i l) (epochs_fault all (suc i) old)) (h ∙ ap marks_in (sym same))
epochs_set all i (xs ∷ old) (suc j) ps qs e h = ap (or_else (marks_fault all i (marks_in xs))) (epochs_set all (suc i) old j ps qs e h)

module _ (old : List (List Placed)) (j : ℕ) (ps ms : List Placed) (there : slice_get old j ≡ Some ps) (calls : AreCalls (length ps) (ps ++ ms)) where
  each : Each ms
  each = each_more ps ms calls

  pub marks_are : marks_from (set old j (ps ++ ms)) ≡ marks_from old
  marks_are = marks_set old j ps (ps ++ ms) there (marks_more ps ms each)

  pub catalogue_is : catalogue_in (set old j (ps ++ ms)) ≡ catalogue_in old
  unfolding catalogue_in
  catalogue_is = ap (catalogue_from 0) (catalogues_set old j ps (ps ++ ms) there (catalogue_more ps ms each))

  pub epochs_are : epoch_fault (set old j (ps ++ ms)) ≡ epoch_fault old
  unfolding epoch_fault
  epochs_are = epochs_still old j ps (ps ++ ms) there (marks_more ps ms each) 0 (set old j (ps ++ ms)) ∙ epochs_set old 0 old j ps (ps ++ ms) there (marks_more ps ms each)

  pub last_is : last_epoch 0 (ps ++ ms) ≡ last_epoch 0 ps
  last_is = last_more 0 ps ms each

-- ---- what is left out

-- of the records that were read the same are left out
pub left_same : (old more new : List (List Placed)) → AreStanding old → AreStanding new → Grown old more new → marks_from new ≡ marks_from old → (r : Kept) → Member r (kept_from 0 old) → is_among (left_out new) r ≡ is_among (left_out old) r
left_same old more new h n g same r m =
    let d = all_dated 0 old r m in
    left_is new n d.0 r (dated_grown 0 old more new g (d.0, r) d.1) ∙ ap (λ (ms : List Mark). is_left_out ms d.0 r.place.dep) same ∙ sym (left_is old h d.0 r d.1)

-- ---- where the records stand

judged_append : (known : List Mark) (k : ℕ) (ps ms : List Placed) (ss ts : List Stage) → length ss ≡ length ps → judged_in known k (ps ++ ms) (ss ++ ts) ≡ judged_in known k ps ss ++ judged_in known (last_epoch k ps) ms ts
judged_append known k [] ms [] ts e = refl
judged_append known k [] ms (s ∷ ss) ts e = absurd (omega (arith, e))
judged_append known k (p ∷ ps) ms [] ts e = absurd (omega (arith, e))
judged_append known k (p ∷ ps) ms (s ∷ ss) ts e = ap (λ (l : List Stage). judged_stage known k p s ∷ l) (judged_append known (epoch_after k p.entry) ps ms ss ts (omega (arith, e)))

not_extended : (out order : List Kept) (j : ℕ) (ps : List Placed) → extended ps (stages_in out order j ps) ≡ stages_in out order j ps
not_extended out order j ps =
    let long = stages_long out order j ps in
    ap (λ (l : List Placed). stages_in out order j ps ++ first_stages l) (drop_all (length (stages_in out order j ps)) ps (omega (arith, long))) ∙ append-nil (stages_in out order j ps)

none_extended : (out order : List Kept) (j : ℕ) (streams : List (List Placed)) → extended_from streams (stages_from out order j streams) ≡ stages_from out order j streams
none_extended out order j [] = refl
none_extended out order j (ps ∷ streams) = let here = not_extended out order j ps in let rest = none_extended out order (suc j) streams in λ i. here i ∷ rest i

abbrev first_of : List Stage → List (List Stage) → List Stage
first_of d [] = d
first_of d (ss ∷ all) = ss

abbrev rest_of : List (List Stage) → List (List Stage)
rest_of [] = []
rest_of (ss ∷ all) = all

module _ (known : List Mark) (out order : List Kept) (k : ℕ) (ms : List Placed) where
  read_stream : (i : ℕ) (ps : List Placed) → k ≡ last_epoch 0 ps → judged_in known 0 ps (stages_in out order i ps) ≡ stages_in out order i ps →
      judged_in known 0 (ps ++ ms) (extended (ps ++ ms) (stages_in out order i ps)) ≡ with_judged known k (ps ++ ms) (stages_in out order i ps)
  read_stream i ps last same =
      let ss : List Stage = stages_in out order i ps in
      let long = stages_long out order i ps in
      let rest : drop (length ss) (ps ++ ms) ≡ ms = ap (λ (n : ℕ). drop n (ps ++ ms)) long ∙ drop-append_seam ps ms in
      ap (λ (l : List Placed). judged_in known 0 (ps ++ ms) (ss ++ first_stages l)) rest
      ∙ judged_append known 0 ps ms ss (first_stages ms) long
      ∙ ap (λ (l : List Stage). l ++ judged_in known (last_epoch 0 ps) ms (first_stages ms)) same
      ∙ ap (λ (e : ℕ). ss ++ judged_in known e ms (first_stages ms)) (sym last)
      ∙ sym (ap (λ (l : List Placed). ss ++ judged_in known k l (first_stages l)) rest)

  read_streams : (i j : ℕ) (old : List (List Placed)) (ps : List Placed) (ss : List Stage) → slice_get old j ≡ Some ps → slice_get (stages_from out order i old) j ≡ Some ss → k ≡ last_epoch 0 ps →
      judged_from known old (stages_from out order i old) ≡ stages_from out order i old →
      judged_from known (set old j (ps ++ ms)) (extended_from (set old j (ps ++ ms)) (stages_from out order i old)) ≡ set (stages_from out order i old) j (with_judged known k (ps ++ ms) ss)
  read_streams i j [] ps ss e g last same = absurd cc
  read_streams i zero (qs ∷ old) ps ss e g last same =
      let is : qs ≡ ps = cc in
      let stood : stages_in out order i qs ≡ ss = cc in
      let head : judged_in known 0 qs (stages_in out order i qs) ≡ stages_in out order i qs = ap (first_of []) same in
      let tail : judged_from known old (stages_from out order (suc i) old) ≡ stages_from out order (suc i) old = ap rest_of same in
      let here : judged_in known 0 (ps ++ ms) (extended (ps ++ ms) (stages_in out order i qs)) ≡ with_judged known k (ps ++ ms) ss
      = ap (λ (l : List Placed). judged_in known 0 (ps ++ ms) (extended (ps ++ ms) (stages_in out order i l))) is
      ∙ read_stream i ps last (subst (λ (l : List Placed). judged_in known 0 l (stages_in out order i l) ≡ stages_in out order i l) is head)
      ∙ ap (with_judged known k (ps ++ ms)) (ap (stages_in out order i) (sym is) ∙ stood) in
      let rest : judged_from known old (extended_from old (stages_from out order (suc i) old)) ≡ stages_from out order (suc i) old = ap (judged_from known old) (none_extended out order (suc i) old) ∙ tail in
      λ z. here z ∷ rest z
  read_streams i (suc j) (qs ∷ old) ps ss e g last same =
      let head : judged_in known 0 qs (stages_in out order i qs) ≡ stages_in out order i qs = ap (first_of []) same in
      let tail : judged_from known old (stages_from out order (suc i) old) ≡ stages_from out order (suc i) old = ap rest_of same in
      let here : judged_in known 0 qs (extended qs (stages_in out order i qs)) ≡ stages_in out order i qs = ap (judged_in known 0 qs) (not_extended out order i qs) ∙ head in
      let rest = read_streams (suc i) j old ps ss e g last tail in
      λ z. here z ∷ rest z

-- the stages of the stream that is read on, with those of its new records, are those of all streams, judged
pub all_read_on : (known : List Mark) (out order : List Kept) (k : ℕ) (ms : List Placed) (j : ℕ) (old : List (List Placed)) (ps : List Placed) (ss : List Stage) → slice_get old j ≡ Some ps → slice_get (stages_from out order 0 old) j ≡ Some ss → k ≡ last_epoch 0 ps →
    judged_from known old (stages_from out order 0 old) ≡ stages_from out order 0 old →
    judged_from known (set old j (ps ++ ms)) (extended_from (set old j (ps ++ ms)) (stages_from out order 0 old)) ≡ set (stages_from out order 0 old) j (with_judged known k (ps ++ ms) ss)
all_read_on known out order k ms j old ps ss e g last same = read_streams known out order k ms 0 j old ps ss e g last same
