-- The marks of streams that have grown, and how their records are judged.
use Rattle.std.proofs.Common.{ℕ, ◌≤◌, ◌<◌, ◌≡◌, ◌⊎◌, inl, inr, List, [], ◌∷◌, ◌++◌, refl, sym, ap, subst, ◌∙◌, arith, append_assoc}
use Rattle.std.specs.List.{Contains}
use Rattle.tau_base.specs.Vectors.{AtMost, covers}
use Rattle.tau_base.proofs.Vectors.{at_most_trans}
use Rattle.tau_model.specs.History.{Member}
use Rattle.tau_model.proofs.Orders.{member_front, member_back}
use Rattle.tau_epoch.specs.Epochs.{Mark, meet}
use Rattle.tau_epoch.specs.Laws.{IsLeast}
use Rattle.tau_epoch.proofs.Least.{found}
use Rattle.tau_record.specs.declared.entry.Placed.{Placed}
use Rattle.tau_scan.specs.declared.log.Log.{Log}
use Rattle.tau_scan.specs.Epochs.{mark_of, marks_in, marks_from, marks_of, judge_of}
use Rattle.tau_epoch_laws.specs.Continues.{Grown, none_in, NextEpochHas, Continues}
use Rattle.tau_scan.specs.Sound.{MarksFit}
use Rattle.tau_epoch_laws.proofs.Parts.{in_either, member_of, contains_of}
use Rattle.tau_epoch_laws.proofs.Judging.{Agree, judging_is, judging_none, meet_covers, up_to_largest}

-- ---- marks

pub marks_append : (xs ms : List Placed) → marks_in (xs ++ ms) ≡ marks_in xs ++ marks_in ms
marks_append [] ms = refl
marks_append (p ∷ xs) ms = ap (λ (l : List Mark). mark_of p.entry ++ l) (marks_append xs ms) ∙ sym (append_assoc (mark_of p.entry) (marks_in xs) (marks_in ms))

-- a mark of a stream in two parts, and of the others
mark_in_part : (ps ms qs : List Placed) (new : List (List Placed)) (x : Mark) → qs ≡ ps ++ ms → Member x (marks_in qs) → Member x (marks_in ps) ⊎ Member x (marks_in ms)
mark_in_part ps ms qs new x e m = in_either x (marks_in ps) (marks_in ms) (subst (λ (l : List Mark). Member x l) (ap marks_in e ∙ marks_append ps ms) m)

mark_of_part : (ps ms qs : List Placed) (x : Mark) → qs ≡ ps ++ ms → Member x (marks_in ps ++ marks_in ms) → Member x (marks_in qs)
mark_of_part ps ms qs x e m = subst (λ (l : List Mark). Member x l) (sym (ap marks_in e ∙ marks_append ps ms)) m

-- a mark of the grown streams is an old or a new one
pub mark_in : (old more new : List (List Placed)) → Grown old more new → (x : Mark) → Member x (marks_from new) → Member x (marks_from old) ⊎ Member x (marks_from more)
mark_in [] [] [] g x m = inl m
mark_in [] [] (qs ∷ new) g x m = absurd g
mark_in [] (ms ∷ more) new g x m = absurd g
mark_in (ps ∷ old) [] new g x m = absurd g
mark_in (ps ∷ old) (ms ∷ more) [] g x m = absurd g
mark_in (ps ∷ old) (ms ∷ more) (qs ∷ new) g x m = elim (in_either x (marks_in qs) (marks_from new) m) [
  | inl here ↦ elim (mark_in_part ps ms qs new x g.0 here) [
    | inl p ↦ inl (member_front x (marks_in ps) (marks_from old) p)
    | inr p ↦ inr (member_front x (marks_in ms) (marks_from more) p)
  ]
  | inr there ↦ elim (mark_in old more new g.1 x there) [
    | inl p ↦ inl (member_back x (marks_in ps) (marks_from old) p)
    | inr p ↦ inr (member_back x (marks_in ms) (marks_from more) p)
  ]
]

pub old_mark : (old more new : List (List Placed)) → Grown old more new → (x : Mark) → Member x (marks_from old) → Member x (marks_from new)
old_mark [] [] [] g x m = m
old_mark [] [] (qs ∷ new) g x m = absurd g
old_mark [] (ms ∷ more) new g x m = absurd g
old_mark (ps ∷ old) [] new g x m = absurd g
old_mark (ps ∷ old) (ms ∷ more) [] g x m = absurd g
old_mark (ps ∷ old) (ms ∷ more) (qs ∷ new) g x m = elim (in_either x (marks_in ps) (marks_from old) m) [
  | inl here ↦ member_front x (marks_in qs) (marks_from new) (mark_of_part ps ms qs x g.0 (member_front x (marks_in ps) (marks_in ms) here))
  | inr there ↦ member_back x (marks_in qs) (marks_from new) (old_mark old more new g.1 x there)
]

pub new_mark : (old more new : List (List Placed)) → Grown old more new → (x : Mark) → Member x (marks_from more) → Member x (marks_from new)
new_mark [] [] [] g x m = m
new_mark [] [] (qs ∷ new) g x m = absurd g
new_mark [] (ms ∷ more) new g x m = absurd g
new_mark (ps ∷ old) [] new g x m = absurd g
new_mark (ps ∷ old) (ms ∷ more) [] g x m = absurd g
new_mark (ps ∷ old) (ms ∷ more) (qs ∷ new) g x m = elim (in_either x (marks_in ms) (marks_from more) m) [
  | inl here ↦ member_front x (marks_in qs) (marks_from new) (mark_of_part ps ms qs x g.0 (member_back x (marks_in ps) (marks_in ms) here))
  | inr there ↦ member_back x (marks_in qs) (marks_from new) (new_mark old more new g.1 x there)
]

pub no_mark : (more : List (List Placed)) → none_in more → (x : Mark) → Member x (marks_from more) → ⊥
no_mark [] none x m = m
no_mark (ms ∷ more) none x m = elim (in_either x (marks_in ms) (marks_from more) m) [
  | inl here ↦ subst (λ (l : List Placed). Member x (marks_in l)) none.0 here
  | inr there ↦ no_mark more none.1 x there
]

-- whether streams have a record is known
pub none_or_some : (streams : List (List Placed)) → none_in streams ⊎ (none_in streams → ⊥)
none_or_some [] = inl tt
none_or_some ([] ∷ streams) = elim (none_or_some streams) [ inl none ↦ inl (refl, none) | inr some ↦ inr (λ none. some none.1) ]
none_or_some ((p ∷ ps) ∷ streams) = inr (λ none. absurd (let e = none.0 in cc e))

-- ---- the same judgement

-- an epoch in which records of streams with these marks may stand
abbrev pub IsEpochOf : List Mark → ℕ → Type 0
IsEpochOf marks k = (k ≡ 0) ⊎ ((m : Mark) × Member m marks × (m.number ≡ k))

module _ (old : Log) (more : List (List Placed)) (log : Log) (agree : Agree (marks_of old)) (fit : MarksFit old) (all : Agree (marks_of log)) (c : Continues old more log) where
  -- both logs judge records of this epoch alike
  abbrev Alike : ℕ → Type 0
  Alike k = (dep : List ℕ) → covers (judge_of log k) dep ≡ covers (judge_of old k) dep

  mark_either : (x : Mark) → Contains (marks_of log) x → Contains (marks_of old) x ⊎ Member x (marks_from more)
  mark_either x h = elim (mark_in old.streams more log.streams c.streams x (member_of x (marks_of log) h)) [
    | inl p ↦ inl (contains_of x (marks_of old) p)
    | inr p ↦ inr p
  ]

  new_above : (x m : Mark) → Member x (marks_from more) → Contains (marks_of old) m → m.number < x.number
  new_above x m h g = let high = c.above x h in let low = up_to_largest (marks_of old) m (member_of m (marks_of old) g) in omega (arith, high, low)

  judged_old : (k : ℕ) (m : Mark) → IsLeast k (marks_of old) m → judge_of old k ≡ meet m.lv old.elv
  judged_old k m is = judging_is old.elv (marks_of old) k m (λ x y hx hy. agree x y (member_of x (marks_of old) hx) (member_of y (marks_of old) hy)) is

  judged_new : (k : ℕ) (m : Mark) → IsLeast k (marks_of log) m → judge_of log k ≡ meet m.lv log.elv
  judged_new k m is = judging_is log.elv (marks_of log) k m (λ x y hx hy. all x y (member_of x (marks_of log) hx) (member_of y (marks_of log) hy)) is

  -- an old epoch judges, and it still does
  by_old : (k : ℕ) (m : Mark) → IsLeast k (marks_of old) m → Alike k
  by_old k m is dep =
      let low : AtMost m.lv old.elv = fit m (member_of m (marks_of old) is.there) in
      let still : IsLeast k (marks_of log) m = record {
        there = contains_of m (marks_of log) (old_mark old.streams more log.streams c.streams m (member_of m (marks_of old) is.there));
        above = is.above;
        least = λ x h lt. elim (mark_either x h) [
          | inl p ↦ is.least x p lt
          | inr p ↦ let high = new_above x m p is.there in omega (arith, high)
        ];
      } in
      ap (λ (v : List ℕ). covers v dep) (judged_new k m still) ∙ meet_covers m.lv log.elv dep (at_most_trans m.lv old.elv log.elv low c.longer)
      ∙ sym (ap (λ (v : List ℕ). covers v dep) (judged_old k m is) ∙ meet_covers m.lv old.elv dep low)

  module _ (k : ℕ) (none : (x : Mark) → Contains (marks_of old) x → x.number ≤ k) where
    by_ends : judge_of old k ≡ old.elv
    by_ends = judging_none old.elv (marks_of old) k none

    -- the old lengths judge, and now the next epoch, which has them
    by_next : IsEpochOf (marks_of old) k → NextEpochHas more old.elv → Alike k
    by_next epoch next dep =
        let high = c.above next.mark next.there in
        let above : k < next.mark.number = (elim epoch [
          | inl zero ↦ omega (arith, zero, high)
          | inr w ↦ let low = up_to_largest (marks_of old) w.0 w.1 in let is = w.2 in omega (arith, high, low, is)
        ]) in
        let least : IsLeast k (marks_of log) next.mark = record {
          there = contains_of next.mark (marks_of log) (new_mark old.streams more log.streams c.streams next.mark next.there);
          above = above;
          least = λ x h lt. elim (mark_either x h) [
            | inl p ↦ absurd (let low = none x p in omega (arith, low, lt))
            | inr p ↦ next.first x p
          ];
        } in
        ap (λ (v : List ℕ). covers v dep) (judged_new k next.mark least ∙ ap (λ (v : List ℕ). meet v log.elv) next.vector) ∙ meet_covers old.elv log.elv dep c.longer
        ∙ ap (λ (v : List ℕ). covers v dep) (sym by_ends)

    -- nothing came after them
    by_none : none_in more → log.elv ≡ old.elv → Alike k
    by_none empty same dep =
        let still : (x : Mark) → Contains (marks_of log) x → x.number ≤ k = λ x h. elim (mark_either x h) [ inl p ↦ none x p | inr p ↦ absurd (no_mark more empty x p) ] in
        ap (λ (v : List ℕ). covers v dep) (judging_none log.elv (marks_of log) k still ∙ same ∙ sym by_ends)

  pub judged_alike : (none_in old.streams → ⊥) → (k : ℕ) → IsEpochOf (marks_of old) k → Alike k
  judged_alike some k epoch = elim (found k (marks_of old)) [
    | inl w ↦ by_old k w.0 w.2
    | inr none ↦ elim c.next [
      | inl empty ↦ absurd (some empty)
      | inr rest ↦ elim rest [
        | inl nothing ↦ by_none k none.1 nothing.0 nothing.1
        | inr next ↦ by_next k none.1 epoch next
      ]
    ]
  ]
