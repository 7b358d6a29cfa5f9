-- Each record of the old log is judged as it was.
use Rattle.std.proofs.Common.{ℕ, zero, suc, ◌<◌, ◌≡◌, ◌⊎◌, inl, inr, List, [], ◌∷◌, ◌++◌, length, take, refl, sym, ap, subst, ◌∙◌, arith}
use Rattle.std.specs.Prelude.{Option, Some, slice_get}
use Rattle.std.proofs.lemmas.List.{take-append-le}
use Rattle.tau_base.specs.Vectors.{covers}
use Rattle.tau_base.proofs.Lists.{some_at, got_front}
use Rattle.tau_base.proofs.Logic.{some_is}
use Rattle.tau_model.specs.History.{Member}
use Rattle.tau_model.proofs.Orders.{member_front, member_back}
use Rattle.tau_epoch.specs.Epochs.{Mark}
use Rattle.tau_record.specs.declared.entry.Entry.{Entry}
use Rattle.tau_record.specs.declared.entry.Entry.TheVariants.{Written, Command, Anchor, Catalogue, Epoch}
use Rattle.tau_record.specs.declared.entry.Placed.{Placed}
use Rattle.tau_record.specs.Record.{epoch_after}
use Rattle.tau_record.specs.Content.{last_epoch}
use Rattle.tau_scan.specs.Epochs.{mark_of, marks_in, marks_from, judge_of}
use Rattle.tau_scan.specs.Taken.{is_taken_by, is_taken_one, is_taken_in}
use Rattle.tau_epoch_laws.specs.Continues.{Grown, none_in}
use Rattle.tau_epoch_laws.specs.Laws.{OldJudged}
use Rattle.tau_epoch_laws.proofs.Contents.{holds}
use Rattle.tau_epoch_laws.proofs.Taken.{Alike, JudgeAlike, epoch_is, alike}

-- ---- streams by their numbers

grown_at : (old more new : List (List Placed)) → Grown old more new → (j : ℕ) (ps : List Placed) → slice_get old j ≡ Some ps → (ms : List Placed) × (slice_get new j ≡ Some (ps ++ ms))
grown_at [] [] [] g j ps at = absurd cc
grown_at [] [] (qs ∷ new) g j ps at = absurd g
grown_at [] (ms ∷ more) new g j ps at = absurd g
grown_at (qs ∷ old) [] new g j ps at = absurd g
grown_at (qs ∷ old) (ms ∷ more) [] g j ps at = absurd g
grown_at (qs ∷ old) (ms ∷ more) (rs ∷ new) g zero ps at =
    let same : rs ≡ ps ++ ms = g.0 ∙ ap (λ (l : List Placed). l ++ ms) (some_is qs ps at) in
    (ms, ap (λ (l : List Placed). Some l) same)
grown_at (qs ∷ old) (ms ∷ more) (rs ∷ new) g (suc j) ps at = grown_at old more new g.1 j ps at

marks_at : (streams : List (List Placed)) (j : ℕ) (ps : List Placed) (m : Mark) → slice_get streams j ≡ Some ps → Member m (marks_in ps) → Member m (marks_from streams)
marks_at [] j ps m at h = absurd cc
marks_at (qs ∷ streams) zero ps m at h = member_front m (marks_in qs) (marks_from streams) (subst (λ (l : List Placed). Member m (marks_in l)) (sym (some_is qs ps at)) h)
marks_at (qs ∷ streams) (suc j) ps m at h = member_back m (marks_in qs) (marks_from streams) (marks_at streams j ps m at h)

none_at : (streams : List (List Placed)) (j : ℕ) (ps : List Placed) → none_in streams → slice_get streams j ≡ Some ps → ps ≡ []
none_at [] j ps none at = absurd cc
none_at (qs ∷ streams) zero ps none at = sym (some_is qs ps at) ∙ none.0
none_at (qs ∷ streams) (suc j) ps none at = none_at streams j ps none.1 at

-- ---- records by their places

-- the epoch of a record is the first one, or that of a mark of its stream
epoch_of : (k : ℕ) (ps : List Placed) (i : ℕ) → (last_epoch k (take i ps) ≡ k) ⊎ ((m : Mark) × Member m (marks_in ps) × (m.number ≡ last_epoch k (take i ps)))
epoch_of k ps zero = inl refl
epoch_of k [] (suc i) = inl refl
epoch_of k (p ∷ ps) (suc i) = elim (epoch_of (epoch_after k p.entry) ps i) [
  | inl same ↦ elim (epoch_is k p.entry) [
    | inl kept ↦ inl (same ∙ kept)
    | inr w ↦ inr (w.0, member_front w.0 (mark_of p.entry) (marks_in ps) w.1, w.2 ∙ sym same)
  ]
  | inr w ↦ inr (w.0, member_back w.0 (mark_of p.entry) (marks_in ps) w.1, w.2)
]

taken_by_alike : (v w : List ℕ) → ((dep : List ℕ) → covers v dep ≡ covers w dep) → (e : Entry) → is_taken_by v e ≡ is_taken_by w e
taken_by_alike v w same (Written number anchor dep writes) = same dep
taken_by_alike v w same (Command number anchor dep call) = same dep
taken_by_alike v w same (Anchor lv) = refl
taken_by_alike v w same (Catalogue text) = refl
taken_by_alike v w same (Epoch number lv) = refl

module _ (f g : ℕ → List ℕ) where
  epoch_alike : (streams : List (List Placed)) (j i : ℕ) (ps : List Placed) → slice_get streams j ≡ Some ps → i < length ps → JudgeAlike f g streams → Alike f g (last_epoch 0 (take i ps))
  epoch_alike streams j i ps at lt (inl none) = absurd (let empty = ap length (none_at streams j ps none at) in omega (arith, lt, empty))
  epoch_alike streams j i ps at lt (inr same) = elim (epoch_of 0 ps i) [
    | inl first ↦ subst (Alike f g) (sym first) same.0
    | inr w ↦ subst (Alike f g) w.2 (same.1 w.0 (marks_at streams j ps w.0 at w.1))
  ]

  judged_at : (old more new : List (List Placed)) (j i : ℕ) (ps : List Placed) → Grown old more new → JudgeAlike f g old → slice_get old j ≡ Some ps → i < length ps → is_taken_in f (slice_get new j) i ≡ is_taken_in g (slice_get old j) i
  judged_at old more new j i ps w same at lt =
      let longer = grown_at old more new w j ps at in
      let there = some_at ps i lt in
      let entry : Entry = there.0.entry in
      ap (λ (o : Option (List Placed)). is_taken_in f o i) longer.1
      ∙ ap (λ (l : List Placed). is_taken_one (f (last_epoch 0 l)) (slice_get (ps ++ longer.0) i)) (take-append-le i ps longer.0 (omega (arith, lt)))
      ∙ ap (λ (o : Option Placed). is_taken_one (f (last_epoch 0 (take i ps))) o) (got_front ps longer.0 i there.0 there.1)
      ∙ taken_by_alike (f (last_epoch 0 (take i ps))) (g (last_epoch 0 (take i ps))) (epoch_alike old j i ps at lt same) entry
      ∙ sym (ap (λ (o : Option (List Placed)). is_taken_in g o i) at ∙ ap (λ (o : Option Placed). is_taken_one (g (last_epoch 0 (take i ps))) o) there.1)

pub old_judged : OldJudged
old_judged f before after old more log read fit now c j i ps at lt =
    judged_at (judge_of log) (judge_of old) old.streams more log.streams j i ps c.streams (alike before after old more log (holds f before old read) fit (holds f after log now) c) at lt
