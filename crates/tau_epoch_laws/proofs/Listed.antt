-- What is taken, told by where it starts.
use Rattle.std.proofs.Common.{ℕ, suc, Bool, true, false, not, ◌≡◌, List, [], ◌∷◌, ◌++◌, refl, ap, ◌∙◌, slice_index}
use Rattle.std.specs.List.{filter}
use Rattle.std.proofs.lemmas.Bool.{lt-ltb, le-ltb}
use Rattle.std.proofs.lemmas.List.Elements.{filter-append}
use Rattle.tau_model.specs.History.{Member}
use Rattle.tau_model.proofs.Orders.{member_front, member_back}
use Rattle.tau_record.specs.declared.entry.Placed.{Placed}
use Rattle.tau_record.specs.Content.{last_epoch}
use Rattle.tau_scan.specs.declared.log.Log.{Log}
use Rattle.tau_scan.specs.Epochs.{judge_of}
use Rattle.tau_scan.specs.Taken.{Kept, taken_in, taken_from, taken}
use Rattle.tau_epoch_laws.specs.Continues.{Grown, Continues, news_from, news}
use Rattle.tau_epoch_laws.specs.Laws.{starts_in, OldListed, NewsListed}
use Rattle.tau_epoch_laws.proofs.Parts.{filter_first, filter_second}
use Rattle.tau_epoch_laws.proofs.Contents.{Holds, holds, starts_before, starts_after}
use Rattle.tau_epoch_laws.proofs.Taken.{JudgeAlike, rest_alike, stream_parts, alike}

module _ (p : Kept → Bool) (f g : ℕ → List ℕ) where
  -- a test that keeps the first part of each stream
  firsts : (j : ℕ) (old more new : List (List Placed)) → Grown old more new → JudgeAlike f g old → ((r : Kept) → Member r (taken_from g j old) → p r ≡ true) → ((r : Kept) → Member r (news_from f j old more) → p r ≡ false)
      → filter p (taken_from f j new) ≡ taken_from g j old
  firsts j [] [] [] w same all none = refl
  firsts j [] [] (qs ∷ new) w same all none = absurd w
  firsts j [] (ms ∷ more) new w same all none = absurd w
  firsts j (ps ∷ old) [] new w same all none = absurd w
  firsts j (ps ∷ old) (ms ∷ more) [] w same all none = absurd w
  firsts j (ps ∷ old) (ms ∷ more) (qs ∷ new) w same all none =
      let olds : List Kept = taken_in g j 0 ps in
      let news : List Kept = taken_in f j (last_epoch 0 ps) ms in
      let here : filter p (taken_in f j 0 qs) ≡ olds = ap (filter p) (stream_parts f g j ps ms qs old w.0 same)
      ∙ filter_first p olds news (λ r m. all r (member_front r olds (taken_from g (suc j) old) m)) (λ r m. none r (member_front r news (news_from f (suc j) old more) m)) in
      let rest = firsts (suc j) old more new w.1 (rest_alike f g ps old same) (λ r m. all r (member_back r olds (taken_from g (suc j) old) m)) (λ r m. none r (member_back r news (news_from f (suc j) old more) m)) in
      filter-append p (taken_in f j 0 qs) (taken_from f (suc j) new) ∙ λ i. here i ++ rest i

  -- a test that keeps the second part
  seconds : (j : ℕ) (old more new : List (List Placed)) → Grown old more new → JudgeAlike f g old → ((r : Kept) → Member r (taken_from g j old) → p r ≡ false) → ((r : Kept) → Member r (news_from f j old more) → p r ≡ true)
      → filter p (taken_from f j new) ≡ news_from f j old more
  seconds j [] [] [] w same none all = refl
  seconds j [] [] (qs ∷ new) w same none all = absurd w
  seconds j [] (ms ∷ more) new w same none all = absurd w
  seconds j (ps ∷ old) [] new w same none all = absurd w
  seconds j (ps ∷ old) (ms ∷ more) [] w same none all = absurd w
  seconds j (ps ∷ old) (ms ∷ more) (qs ∷ new) w same none all =
      let olds : List Kept = taken_in g j 0 ps in
      let news : List Kept = taken_in f j (last_epoch 0 ps) ms in
      let here : filter p (taken_in f j 0 qs) ≡ news = ap (filter p) (stream_parts f g j ps ms qs old w.0 same)
      ∙ filter_second p olds news (λ r m. none r (member_front r olds (taken_from g (suc j) old) m)) (λ r m. all r (member_front r news (news_from f (suc j) old more) m)) in
      let rest = seconds (suc j) old more new w.1 (rest_alike f g ps old same) (λ r m. none r (member_back r olds (taken_from g (suc j) old) m)) (λ r m. all r (member_back r news (news_from f (suc j) old more) m)) in
      filter-append p (taken_in f j 0 qs) (taken_from f (suc j) new) ∙ λ i. here i ++ rest i

module _ (before after : List (List ℕ)) (old : Log) (more : List (List Placed)) (log : Log) (h : Holds before old) (g : Holds after log) (c : Continues old more log) where
  pub are_old : (r : Kept) → Member r (taken old) → starts_in old r ≡ true
  are_old r m = lt-ltb r.place.start (slice_index old.elv r.place.stream) (starts_before before old h r m)

  pub are_new : (r : Kept) → Member r (news old more log) → starts_in old r ≡ false
  are_new r m = le-ltb r.place.start (slice_index old.elv r.place.stream) (starts_after before after old more log h g c r m)

pub old_listed : OldListed
old_listed f before after old more log read fit now c =
    let h = holds f before old read in
    let g = holds f after log now in
    firsts (starts_in old) (judge_of log) (judge_of old) 0 old.streams more log.streams c.streams (alike before after old more log h fit g c)
    (are_old before after old more log h g c) (are_new before after old more log h g c)

pub news_listed : NewsListed
news_listed f before after old more log read fit now c =
    let h = holds f before old read in
    let g = holds f after log now in
    seconds (λ r. not (starts_in old r)) (judge_of log) (judge_of old) 0 old.streams more log.streams c.streams (alike before after old more log h fit g c)
    (λ r m. ap not (are_old before after old more log h g c r m)) (λ r m. ap not (are_new before after old more log h g c r m))
