-- A checkpoint is true when it is made, and fits whatever it is true for.
use Rattle.std.proofs.Common.{ℕ, ◌≤◌, true, ◌≡◌, inl, inr, List, [], ◌∷◌, length, Result, Ok, refl, sym, ap, subst, ◌∙◌, arith}
use Rattle.std.specs.Prelude.{◌==◌, ◌&&◌, nat_le}
use Rattle.std.proofs.lemmas.Bool.{and_from, eq-eqb, le-leb}
use Rattle.std.proofs.lemmas.List.{append-nil, length-map}
use Rattle.tau_base.specs.declared.format.Format.{Format}
use Rattle.tau_base.specs.Database.{Db}
use Rattle.tau_base.specs.Vectors.{covers}
use Rattle.tau_base.proofs.Vectors.{at_most_covers, at_most_itself}
use Rattle.tau_epoch.specs.Epochs.{largest}
use Rattle.tau_record.specs.declared.entry.Placed.{Placed}
use Rattle.tau_scan.specs.declared.fault.LogFault.{LogFault}
use Rattle.tau_scan.specs.declared.log.Log.{Log}
use Rattle.tau_scan.specs.Epochs.{marks_of}
use Rattle.tau_scan.specs.Sound.{IsSound}
use Rattle.tau_epoch_laws.specs.Continues.{Grown, none_in, Continues}
use Rattle.tau_epoch_laws.proofs.Contents.{AreStreams, holds}
use Rattle.tau_epoch_laws.proofs.Grown.{no_mark, old_mark}
use Rattle.tau_epoch_laws.proofs.Judging.{largest_at_most, up_to_largest}
use Rattle.tau_ckpt.specs.declared.checkpoint.Checkpoint.{Checkpoint}
use Rattle.tau_ckpt.specs.Chosen.{fits}
use Rattle.tau_ckpt_laws.specs.Laws.{MadeIsTrue, TrueFits}
use Rattle.tau_ckpt_laws.specs.True.{IsTrue}

-- ---- logs to which nothing came

abbrev nothing : List (List Placed) → List (List Placed)
nothing [] = []
nothing (ps ∷ streams) = [] ∷ nothing streams

none_nothing : (streams : List (List Placed)) → none_in (nothing streams)
none_nothing [] = tt
none_nothing (ps ∷ streams) = (refl, none_nothing streams)

grown_nothing : (streams : List (List Placed)) → Grown streams (nothing streams) streams
grown_nothing [] = tt
grown_nothing (ps ∷ streams) = (sym (append-nil ps), grown_nothing streams)

goes_nothing : (log : Log) → Continues log (nothing log.streams) log
goes_nothing log = record {
  longer = at_most_itself log.elv;
  streams = grown_nothing log.streams;
  above = λ m h. absurd (no_mark (nothing log.streams) (none_nothing log.streams) m h);
  next = inr (inl (none_nothing log.streams, refl));
}

pub made_is_true : MadeIsTrue
made_is_true f contents log base sound number rows redone = record {
  held = contents;
  log = log;
  base = base;
  sound = sound;
  lengths = (holds f contents log sound.reads).elv;
  epoch = refl;
  rows = redone;
  whole = log;
  reads = sound.reads;
  more = nothing log.streams;
  goes_on = goes_nothing log;
}

-- ---- what a true checkpoint is true for

abbrev done : Log → Result Log LogFault
done x = Ok x

done_is : (x y : Log) → done x ≡ done y → x ≡ y
done_is x y e = cc

streams_long : (contents : List (List ℕ)) (streams : List (List Placed)) → AreStreams contents streams → length contents ≡ length streams
streams_long [] [] are = refl
streams_long [] (ps ∷ streams) are = absurd are
streams_long (content ∷ contents) [] are = absurd are
streams_long (content ∷ contents) (ps ∷ streams) are = let rest = streams_long contents streams are.1 in omega (arith, rest)

grown_long : (old more new : List (List Placed)) → Grown old more new → length old ≡ length new
grown_long [] [] [] g = refl
grown_long [] [] (qs ∷ new) g = absurd g
grown_long [] (ms ∷ more) new g = absurd g
grown_long (ps ∷ old) [] new g = absurd g
grown_long (ps ∷ old) (ms ∷ more) [] g = absurd g
grown_long (ps ∷ old) (ms ∷ more) (qs ∷ new) g = let rest = grown_long old more new g.1 in omega (arith, rest)

module _ (f : Format) (contents : List (List ℕ)) (log : Log) (base : Db) (sound : IsSound f contents log base) (c : Checkpoint) (t : IsTrue f contents c) where
  same_log : t.whole ≡ log
  same_log = done_is t.whole log (sym t.reads ∙ sound.reads)

  -- their log goes on from that of the checkpoint
  pub true_goes_on : Continues t.log t.more log
  true_goes_on = subst (λ (g : Log). Continues t.log t.more g) same_log t.goes_on

  pub true_ends : c.lv ≡ t.log.elv
  true_ends = t.lengths ∙ sym (holds f t.held t.log t.sound.reads).elv

  as_wide : length c.lv ≡ length log.elv
  as_wide =
      let then = holds f t.held t.log t.sound.reads in
      let now = holds f contents log sound.reads in
      ap length t.lengths ∙ length-map t.held length ∙ streams_long t.held t.log.streams then.streams ∙ grown_long t.log.streams t.more log.streams true_goes_on.streams
      ∙ sym (streams_long contents log.streams now.streams) ∙ sym (length-map contents length) ∙ sym (ap length now.elv)

  largest_kept : largest (marks_of t.log) ≤ largest (marks_of log)
  largest_kept = largest_at_most (marks_of t.log) (largest (marks_of log)) (λ m h. up_to_largest (marks_of log) m (old_mark t.log.streams t.more log.streams true_goes_on.streams m h))

  true_fits_one : fits log c ≡ true
  true_fits_one =
      let low : covers log.elv c.lv ≡ true = subst (λ (v : List ℕ). covers log.elv v ≡ true) (sym true_ends) (at_most_covers log.elv t.log.elv true_goes_on.longer) in
      let known : nat_le c.epoch (largest (marks_of log)) ≡ true = subst (λ (k : ℕ). nat_le k (largest (marks_of log)) ≡ true) (sym t.epoch) (le-leb (largest (marks_of t.log)) (largest (marks_of log)) largest_kept) in
      and_from (length c.lv == length log.elv) (covers log.elv c.lv && nat_le c.epoch (largest (marks_of log))) (eq-eqb (length c.lv) (length log.elv) as_wide)
      (and_from (covers log.elv c.lv) (nat_le c.epoch (largest (marks_of log))) low known)

pub true_fits : TrueFits
true_fits f contents log base sound c t = true_fits_one f contents log base sound c t
