-- What was taken stays taken, and what was left out stays left out.
use Rattle.std.proofs.Common.{ℕ, suc, true, ◌≡◌, ◌⊎◌, inl, inr, List, [], ◌∷◌, ◌++◌, refl, sym, ap, subst, ◌∙◌, append_assoc}
use Rattle.std.specs.List.{filter}
use Rattle.std.proofs.lemmas.List.Elements.{filter_agree}
use Rattle.tau_base.specs.Vectors.{AtMost, covers}
use Rattle.tau_model.specs.History.{Member, Reordered}
use Rattle.tau_model.proofs.Orders.{member_front, member_back}
use Rattle.tau_model.proofs.Logged.{member_filtered}
use Rattle.tau_epoch.specs.Epochs.{Mark}
use Rattle.tau_record.specs.declared.entry.Entry.{Entry}
use Rattle.tau_record.specs.declared.entry.Entry.TheVariants.{Written, Command, Anchor, Catalogue, Epoch}
use Rattle.tau_record.specs.declared.entry.Placed.{Placed}
use Rattle.tau_record.specs.Record.{epoch_after}
use Rattle.tau_record.specs.Content.{last_epoch}
use Rattle.tau_scan.specs.declared.log.Log.{Log}
use Rattle.tau_scan.specs.Epochs.{mark_of, marks_in, marks_from, marks_of, judge_of}
use Rattle.tau_scan.specs.Taken.{Kept, kept_as, taken_in, taken_from, taken}
use Rattle.tau_scan.proofs.Known.{judged_low}
use Rattle.tau_epoch_laws.specs.Continues.{Grown, none_in, Continues, news_from}
use Rattle.tau_scan.specs.Sound.{MarksFit}
use Rattle.tau_epoch_laws.specs.Laws.{OldTaken}
use Rattle.tau_epoch_laws.proofs.Parts.{in_either, reordered_parts}
use Rattle.tau_epoch_laws.proofs.Contents.{Holds, holds}
use Rattle.tau_epoch_laws.proofs.Grown.{judged_alike, none_or_some}

-- ---- the records of a stream

pub taken_append : (judge : ℕ → List ℕ) (j k : ℕ) (xs ms : List Placed) → taken_in judge j k (xs ++ ms) ≡ taken_in judge j k xs ++ taken_in judge j (last_epoch k xs) ms
taken_append judge j k [] ms = refl
taken_append judge j k (p ∷ xs) ms =
    let here : List Kept = filter (λ r. covers (judge k) r.place.dep) (kept_as j p p.entry) in
    ap (λ (l : List Kept). here ++ l) (taken_append judge j (epoch_after k p.entry) xs ms)
    ∙ sym (append_assoc here (taken_in judge j (epoch_after k p.entry) xs) (taken_in judge j (last_epoch (epoch_after k p.entry) xs) ms))

-- the epoch after a record is the one before it, or that of the record
pub epoch_is : (k : ℕ) (e : Entry) → (epoch_after k e ≡ k) ⊎ ((m : Mark) × Member m (mark_of e) × (m.number ≡ epoch_after k e))
epoch_is k (Written number anchor dep writes) = inl refl
epoch_is k (Command number anchor dep call) = inl refl
epoch_is k (Anchor lv) = inl refl
epoch_is k (Catalogue text) = inl refl
epoch_is k (Epoch number lv) = inr (record { number = number; lv = lv }, inl refl, refl)

module _ (f g : ℕ → List ℕ) where
  abbrev pub Alike : ℕ → Type 0
  Alike k = (dep : List ℕ) → covers (f k) dep ≡ covers (g k) dep

  taken_alike : (j k : ℕ) (ps : List Placed) → Alike k → ((m : Mark) → Member m (marks_in ps) → Alike m.number) → taken_in f j k ps ≡ taken_in g j k ps
  taken_alike j k [] same all = refl
  taken_alike j k (p ∷ ps) same all =
      let next : Alike (epoch_after k p.entry) = (elim (epoch_is k p.entry) [
        | inl e ↦ subst Alike (sym e) same
        | inr w ↦ subst Alike w.2 (all w.0 (member_front w.0 (mark_of p.entry) (marks_in ps) w.1))
      ]) in
      let here = filter_agree (λ (r : Kept). covers (f k) r.place.dep) (λ (r : Kept). covers (g k) r.place.dep) (λ r. same r.place.dep) (kept_as j p p.entry) in
      let rest = taken_alike j (epoch_after k p.entry) ps next (λ m h. all m (member_back m (mark_of p.entry) (marks_in ps) h)) in
      λ i. here i ++ rest i

  -- nothing is there to judge, or it is judged alike
  abbrev pub JudgeAlike : List (List Placed) → Type 0
  JudgeAlike old = none_in old ⊎ (Alike 0 × ((m : Mark) → Member m (marks_from old) → Alike m.number))

  pub first_alike : (j : ℕ) (ps : List Placed) (old : List (List Placed)) → JudgeAlike (ps ∷ old) → taken_in f j 0 ps ≡ taken_in g j 0 ps
  first_alike j ps old (inl none) = ap (taken_in f j 0) none.0 ∙ ap (taken_in g j 0) (sym none.0)
  first_alike j ps old (inr same) = taken_alike j 0 ps same.0 (λ m h. same.1 m (member_front m (marks_in ps) (marks_from old) h))

  pub rest_alike : (ps : List Placed) (old : List (List Placed)) → JudgeAlike (ps ∷ old) → JudgeAlike old
  rest_alike ps old (inl none) = inl none.1
  rest_alike ps old (inr same) = inr (same.0, λ m h. same.1 m (member_back m (marks_in ps) (marks_from old) h))

  -- what is taken of a stream in two parts
  pub stream_parts : (j : ℕ) (ps ms qs : List Placed) (old : List (List Placed)) → qs ≡ ps ++ ms → JudgeAlike (ps ∷ old) → taken_in f j 0 qs ≡ taken_in g j 0 ps ++ taken_in f j (last_epoch 0 ps) ms
  stream_parts j ps ms qs old e same = ap (taken_in f j 0) e ∙ taken_append f j 0 ps ms ∙ ap (λ (l : List Kept). l ++ taken_in f j (last_epoch 0 ps) ms) (first_alike j ps old same)

  parted : (j : ℕ) (old more new : List (List Placed)) → Grown old more new → JudgeAlike old → Reordered (taken_from g j old ++ news_from f j old more) (taken_from f j new)
  parted j [] [] [] w same = refl
  parted j [] [] (qs ∷ new) w same = absurd w
  parted j [] (ms ∷ more) new w same = absurd w
  parted j (ps ∷ old) [] new w same = absurd w
  parted j (ps ∷ old) (ms ∷ more) [] w same = absurd w
  parted j (ps ∷ old) (ms ∷ more) (qs ∷ new) w same =
      let rest = parted (suc j) old more new w.1 (rest_alike ps old same) in
      let olds : List Kept = taken_in g j 0 ps in
      let news : List Kept = taken_in f j (last_epoch 0 ps) ms in
      subst (λ (l : List Kept). Reordered ((olds ++ taken_from g (suc j) old) ++ (news ++ news_from f (suc j) old more)) (l ++ taken_from f (suc j) new)) (sym (stream_parts j ps ms qs old w.0 same))
      (reordered_parts olds (taken_from g (suc j) old) news (news_from f (suc j) old more) (taken_from f (suc j) new) rest)

-- ---- the log

pub alike : (before after : List (List ℕ)) (old : Log) (more : List (List Placed)) (log : Log) → Holds before old → MarksFit old → Holds after log → Continues old more log → JudgeAlike (judge_of log) (judge_of old) old.streams
alike before after old more log h fit g c = elim (none_or_some old.streams) [
  | inl none ↦ inl none
  | inr some ↦ inr (judged_alike old more log h.agree fit g.agree c some 0 (inl refl), λ m p. judged_alike old more log h.agree fit g.agree c some m.number (inr (m, p, refl)))
]

pub old_taken : OldTaken
old_taken f before after old more log read fit now c =
    parted (judge_of log) (judge_of old) 0 old.streams more log.streams c.streams (alike before after old more log (holds f before old read) fit (holds f after log now) c)

-- ---- the deps of what is taken

low_in : (judge : ℕ → List ℕ) (v : List ℕ) → ((k : ℕ) (dep : List ℕ) → covers (judge k) dep ≡ true → AtMost dep v) → (j k : ℕ) (ps : List Placed) (r : Kept) → Member r (taken_in judge j k ps) → AtMost r.place.dep v
low_in judge v low j k [] r m = absurd m
low_in judge v low j k (p ∷ ps) r m = elim (in_either r (filter (λ (q : Kept). covers (judge k) q.place.dep) (kept_as j p p.entry)) (taken_in judge j (epoch_after k p.entry) ps) m) [
  | inl here ↦ low k r.place.dep (member_filtered (λ (q : Kept). covers (judge k) q.place.dep) r (kept_as j p p.entry) here).1
  | inr there ↦ low_in judge v low j (epoch_after k p.entry) ps r there
]

low_from : (judge : ℕ → List ℕ) (v : List ℕ) → ((k : ℕ) (dep : List ℕ) → covers (judge k) dep ≡ true → AtMost dep v) → (j : ℕ) (streams : List (List Placed)) (r : Kept) → Member r (taken_from judge j streams) → AtMost r.place.dep v
low_from judge v low j [] r m = absurd m
low_from judge v low j (ps ∷ streams) r m = elim (in_either r (taken_in judge j 0 ps) (taken_from judge (suc j) streams) m) [
  | inl here ↦ low_in judge v low j 0 ps r here
  | inr there ↦ low_from judge v low (suc j) streams r there
]

-- no taken record asks for more than the log has
pub taken_low : (log : Log) (r : Kept) → Member r (taken log) → AtMost r.place.dep log.elv
taken_low log r m = low_from (judge_of log) log.elv (λ k dep e. judged_low log.elv (marks_of log) k dep e) 0 log.streams r m
