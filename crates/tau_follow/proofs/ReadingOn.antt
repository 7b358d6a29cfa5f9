-- A stream is read on by records of calls, and anchors, and goes back.
use Rattle.std.proofs.Common.{ℕ, zero, suc, ◌+◌, ◌≤◌, ◌<◌, true, false, ◌≡◌, inl, inr, List, [], ◌∷◌, ◌++◌, length, take, drop, set, Option, None, Some, Ok, refl, sym, ap, subst, ◌∙◌, arith}
use Rattle.std.specs.Prelude.{slice_get}
use Rattle.std.proofs.Math.Seq.{take-append_seam}
use Rattle.tau_base.proofs.Lists.{get_set_same}
use Rattle.tau_base.specs.declared.format.Format.{Format}
use Rattle.tau_model.specs.History.{Member}
use Rattle.tau_epoch.specs.Epochs.{Mark}
use Rattle.tau_record.specs.declared.entry.Placed.{Placed}
use Rattle.tau_record.specs.Content.{last_epoch}
use Rattle.tau_scan.specs.Epochs.{marks_from, with_marks}
use Rattle.tau_scan.specs.Reading.{catalogue_in, epoch_fault}
use Rattle.tau_scan.specs.Taken.{Kept}
use Rattle.tau_follow_laws.specs.Fed.{fronts_of}
use Rattle.tau_follow_laws.specs.Following.{Followed, is_among, left_out, with_read}
use Rattle.tau_follow_laws.specs.Feeding.{Piece, with_piece, read_now, IsFollower}
use Rattle.tau_follow_laws.proofs.GoesOn.{fronts_stand}
use Rattle.tau_follow.specs.declared.applier.Applier.{Applier}
use Rattle.tau_follow.specs.declared.spot.Spot.{Spot}
use Rattle.tau_follow.specs.declared.stage.Stage.{Stage}
use Rattle.tau_follow.specs.Applying.{stages_in, stages_from, first_stages, extended_from, AreSpots, AreZero, is_call}
use Rattle.tau_follow.specs.Judging.{judged_in, judged_from, with_judged}
use Rattle.tau_follow.specs.Feeding.{IsReadOn, AreCallsAt}
use Rattle.tau_follow.specs.Holding.{HasApplied, HasReadOn, WasTold}
use Rattle.tau_follow.specs.State.{Stands}
use Rattle.tau_follow.specs.Waits.{AreKept, AreAllAbove}
use Rattle.std.specs.Global.{Vec}
use Rattle.tau_follow.specs.Queue.{Wait}
use Rattle.tau_follow.proofs.Calls.{marks_are, catalogue_is, epochs_are, last_is, left_same, all_read_on}
use Rattle.tau_follow.proofs.Checked.{all_good}
use Rattle.tau_follow.proofs.Extending.{extend_all, stages_long}
use Rattle.tau_follow.proofs.Staging.{stages_at}
use Rattle.tau_follow.proofs.LooksOn.{kept_on, judged_within}
use Rattle.tau_follow.proofs.Fed.{Read, reads, none_passed}
use Rattle.tau_follow.proofs.Judging.{judged_all}
use Rattle.tau_follow.proofs.Sealing.{follower_epochs}
use Rattle.tau_follow.proofs.Spots.{spots_grow}
use Rattle.tau_follow.proofs.Undoing.{set_back}
use Rattle.tau_follow.proofs.Waiting.{IsThrough, follower_through, late_none, stages_same, same_out}

some_same : {A : Type 0} (xs : List A) (j : ℕ) (x y : A) → slice_get xs j ≡ Some x → slice_get xs j ≡ Some y → x ≡ y
some_same xs j x y e g = let z : Some x ≡ Some y = sym e ∙ g in cc

got_lt : {A : Type 0} (xs : List A) (j : ℕ) (x : A) → slice_get xs j ≡ Some x → j < length xs
got_lt [] j x e = absurd cc
got_lt (y ∷ xs) zero x e = omega arith
got_lt (y ∷ xs) (suc j) x e = let h = got_lt xs j x e in omega (arith, h)

module _ (f : Format) (n : ℕ) (fed : List (List ℕ)) (s : Followed) (p : Piece) (streams : List (List Placed)) (h : IsFollower f n fed s) (after : fronts_of f (with_piece fed p) ≡ Ok streams)
    (j count : ℕ) (on : IsReadOn j count s.streams streams) (calls_at : AreCallsAt j count streams) where
  pub there_now : slice_get streams j ≡ Some (on.before ++ on.news)
  there_now = ap (λ (l : List (List Placed)). slice_get l j) on.streams_are ∙ get_set_same s.streams j (on.before ++ on.news) (got_lt s.streams j on.before on.there)

  w : Read f n fed s p streams
  w = reads f n fed s p streams h after

  calls : (i : ℕ) (q : Placed) → length on.before ≤ i → slice_get (on.before ++ on.news) i ≡ Some q → is_call q.entry ≡ true
  calls i q le e = let is = on.count_is in calls_at (on.before ++ on.news) there_now i q (omega (arith, le, is)) e

  pub same_marks : marks_from streams ≡ marks_from s.streams
  same_marks = ap marks_from on.streams_are ∙ marks_are s.streams j on.before on.news on.there calls

  pub same_catalogue : catalogue_in streams ≡ catalogue_in s.streams
  same_catalogue = ap catalogue_in on.streams_are ∙ catalogue_is s.streams j on.before on.news on.there calls

  no_fault : epoch_fault streams ≡ None
  no_fault = ap epoch_fault on.streams_are ∙ epochs_are s.streams j on.before on.news on.there calls ∙ follower_epochs f n fed s h

  through : IsThrough s
  through = follower_through f n fed s h

  -- no applied record is left out
  before_in_time : (r : Kept) → Member r s.order → is_among (left_out s.streams) r ≡ false
  before_in_time r m = through.out r (w.apart r m)

  in_time : (r : Kept) → Member r s.order → is_among (left_out streams) r ≡ false
  in_time r m = left_same s.streams w.more streams (fronts_stand f fed s.streams w.before) (fronts_stand f (with_piece fed p) streams after) w.grown same_marks r (w.order_read r m) ∙ before_in_time r m

  pub read_calls : (c : Option (List ℕ)) → catalogue_in s.streams ≡ Ok c → read_now f (with_piece fed p) s.order ≡ Ok streams
  read_calls c one = all_good f (with_piece fed p) s.order streams after c (same_catalogue ∙ one) no_fault (late_none streams s.order in_time)

  module _ (a b : Applier) (stands : Stands s a) (known : List Mark) (known_is : known ≡ with_marks [] (marks_from s.streams)) (records : List Placed) (records_at : slice_get streams j ≡ Some records) (k : ℕ) (k_is : k ≡ last_epoch 0 records)
      (r : HasReadOn known k records j a b) (order : b.order ≡ a.order) where
    records_are : records ≡ on.before ++ on.news
    records_are = some_same streams j records (on.before ++ on.news) records_at there_now

    last : k ≡ last_epoch 0 on.before
    last = k_is ∙ ap (last_epoch 0) records_are ∙ last_is s.streams j on.before on.news on.there calls

    judged_before : judged_from known s.streams (stages_from s.out s.order 0 s.streams) ≡ stages_from s.out s.order 0 s.streams
    judged_before =
        judged_all s.streams (fronts_stand f fed s.streams w.before) s.out s.order known known_is before_in_time
        ∙ stages_same s.out (s.out ++ left_out s.streams) s.order (same_out f n fed s p h) 0 s.streams

    stood_there : slice_get (stages_from s.out s.order 0 s.streams) j ≡ Some r.stood
    stood_there = ap (λ (l : List (List Stage)). slice_get l j) (sym stands.staged.stages_are) ∙ r.there

    stages_now : b.stages.items ≡ stages_from (s.out ++ left_out streams) s.order 0 streams
    stages_now =
        r.stages_are
        ∙ ap (λ (l : List (List Stage)). set l j (with_judged known k records r.stood)) stands.staged.stages_are
        ∙ ap (λ (l : List Placed). set (stages_from s.out s.order 0 s.streams) j (with_judged known k l r.stood)) records_are
        ∙ sym (all_read_on known s.out s.order k on.news j s.streams on.before r.stood on.there stood_there last judged_before)
        ∙ ap (λ (l : List (List Placed)). judged_from known l (extended_from l (stages_from s.out s.order 0 s.streams))) (sym on.streams_are)
        ∙ ap (judged_from known streams) (extend_all s.streams w.more streams s.out s.order (fronts_stand f fed s.streams w.before) w.grown (fronts_stand f (with_piece fed p) streams after) w.out_read w.order_read)
        ∙ judged_all streams (fronts_stand f (with_piece fed p) streams after) s.out s.order known (known_is ∙ ap (with_marks []) (sym same_marks)) in_time

    stood_is : r.stood ≡ stages_in s.out s.order (0 + j) on.before
    stood_is = some_same (stages_from s.out s.order 0 s.streams) j r.stood (stages_in s.out s.order (0 + j) on.before) stood_there (stages_at s.out s.order 0 j s.streams on.before on.there)

    long : length r.stood ≡ length on.before
    long = ap length stood_is ∙ stages_long s.out s.order (0 + j) on.before

    -- the new records are looked at
    kept_now : AreKept streams b.stages.items b.waits
    kept_now =
        subst (λ (xs : List (List Placed)). AreKept xs b.stages.items b.waits) (sym on.streams_are)
        (subst (λ (l : List (List Stage)). AreKept (set s.streams j (on.before ++ on.news)) l b.waits) (sym r.stages_are)
        (kept_on s.streams a.stages.items j on.before on.news r.stood (judged_in known k (drop (length r.stood) records) (first_stages (drop (length r.stood) records))) (length records) a.waits b.waits on.there r.there long
        r.more r.looked (judged_within known k (length r.stood) records r.within) stands.staged.kept))

    -- how far all other streams were followed is known, if it was
    pub told_on : WasTold j streams b
    told_on = elim stands.told [
      | inl unknown ↦ inl (r.known_same ∙ unknown)
      | inr told ↦ elim told [
        | inl lost ↦ inr (inl (r.more.lost ∙ lost))
        | inr to ↦ inr (inr (record {
          old = s.streams;
          before = a.stages.items;
          records = on.before ++ on.news;
          stood = with_judged known k records r.stood;
          streams_are = on.streams_are;
          stages_are = r.stages_are;
          reached_is = ap (λ (v : Vec ℕ). v.items) r.reached_same ∙ to.reached_is;
          above = subst (λ (v : Vec ℕ). AreAllAbove v.items b.waits.queues.items) (sym r.reached_same) (subst (λ (v : Vec (List Wait)). AreAllAbove a.reached.items v.items) (sym r.more.queues) to.above);
        }))
      ]
    ]

    -- the records stand, and nothing more is applied yet
    pub begun_on : HasApplied streams (with_read s streams) b
    begun_on = record {
      news = [];
      now = with_read s streams;
      applies = refl;
      holds = record {
        streams_are = refl;
        format = f;
        fed = with_piece fed p;
        fronts = after;
        staged = record { stages_are = stages_now; passed = r.passed stands.staged.passed; kept = kept_now };
        spots = subst (λ v. AreSpots streams v.items s.order) (sym order) (spots_grow s.streams w.more streams w.grown a.order.items s.order stands.spots);
      };
    }

    module _ (e : Applier) (many : ℕ) (many_is : (ss : List Stage) → slice_get a.stages.items j ≡ Some ss → many ≡ length ss) (zeros : AreZero e.firsts.items) (lost : e.waits.lost ≡ true) (spots : e.order.items ≡ a.order.items)
        (cut : (ss : List Stage) → slice_get (stages_from (s.out ++ left_out streams) s.order 0 streams) j ≡ Some ss → e.stages.items ≡ set (stages_from (s.out ++ left_out streams) s.order 0 streams) j (take many ss)) where
      -- all stand as before
      pub undone_on : Stands s e
      undone_on = record {
        staged = record { stages_are = stages_back ∙ stands.staged.stages_are; passed = none_passed e.stages.items e.firsts.items zeros; kept = inl lost };
        spots = subst (λ (l : List Spot). AreSpots s.streams l s.order) (sym spots) stands.spots;
        told = inr (inl lost);
      }
        where
          now_is : stages_from (s.out ++ left_out streams) s.order 0 streams ≡ set a.stages.items j (with_judged known k records r.stood)
          now_is = sym stages_now ∙ r.stages_are

          more_there : slice_get (stages_from (s.out ++ left_out streams) s.order 0 streams) j ≡ Some (with_judged known k records r.stood)
          more_there = ap (λ (l : List (List Stage)). slice_get l j) now_is ∙ get_set_same a.stages.items j (with_judged known k records r.stood) (got_lt a.stages.items j r.stood r.there)

          taken : take many (with_judged known k records r.stood) ≡ r.stood
          taken = ap (λ (i : ℕ). take i (with_judged known k records r.stood)) (many_is r.stood r.there) ∙ take-append_seam r.stood _

          stages_back : e.stages.items ≡ a.stages.items
          stages_back =
              cut (with_judged known k records r.stood) more_there
              ∙ ap (λ (l : List Stage). set (stages_from (s.out ++ left_out streams) s.order 0 streams) j l) taken
              ∙ ap (λ (l : List (List Stage)). set l j r.stood) now_is
              ∙ set_back a.stages.items j r.stood (with_judged known k records r.stood) r.there
