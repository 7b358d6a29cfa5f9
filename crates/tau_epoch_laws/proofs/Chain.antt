-- Logs that go on from logs that go on.
use Rattle.std.proofs.Common.{◌≤◌, ◌<◌, ◌≡◌, ◌⊎◌, inl, inr, List, [], ◌∷◌, ◌++◌, refl, sym, ap, subst, ◌∙◌, arith, append_assoc}
use Rattle.std.proofs.lemmas.List.{append-nil}
use Rattle.tau_base.proofs.Vectors.{at_most_trans}
use Rattle.tau_model.specs.History.{Member}
use Rattle.tau_model.proofs.Orders.{member_front, member_back}
use Rattle.tau_epoch.specs.Epochs.{Mark, largest}
use Rattle.tau_record.specs.declared.entry.Placed.{Placed}
use Rattle.tau_scan.specs.declared.log.Log.{Log}
use Rattle.tau_scan.specs.Epochs.{marks_in, marks_from, marks_of}
use Rattle.tau_epoch_laws.specs.Continues.{Grown, none_in, NextEpochHas, Continues, in_turn, Step}
use Rattle.tau_epoch_laws.specs.Laws.{GoesOn, StepsGoOn, JudgedForGood}
use Rattle.tau_epoch_laws.proofs.Parts.{in_either}
use Rattle.tau_epoch_laws.proofs.Judging.{up_to_largest, largest_at_most}
use Rattle.tau_epoch_laws.proofs.Judged.{old_judged}
use Rattle.tau_epoch_laws.proofs.Grown.{marks_append, old_mark, new_mark, no_mark}

grown_on : (old more mid later new : List (List Placed)) → Grown old more mid → Grown mid later new → Grown old (in_turn more later) new
grown_on [] [] [] [] [] g h = tt
grown_on [] [] [] [] (ns ∷ new) g h = absurd h
grown_on [] [] [] (ks ∷ later) new g h = absurd h
grown_on [] [] (qs ∷ mid) later new g h = absurd g
grown_on [] (ms ∷ more) mid later new g h = absurd g
grown_on (ps ∷ old) [] mid later new g h = absurd g
grown_on (ps ∷ old) (ms ∷ more) [] later new g h = absurd g
grown_on (ps ∷ old) (ms ∷ more) (qs ∷ mid) [] new g h = absurd h
grown_on (ps ∷ old) (ms ∷ more) (qs ∷ mid) (ks ∷ later) [] g h = absurd h
grown_on (ps ∷ old) (ms ∷ more) (qs ∷ mid) (ks ∷ later) (ns ∷ new) g h =
    (h.0 ∙ ap (λ (l : List Placed). l ++ ks) g.0 ∙ append_assoc ps ms ks, grown_on old more mid later new g.1 h.1)

-- both steps have as many streams
abbrev Even : List (List Placed) → List (List Placed) → Type 0
Even [] [] = Unit {0}
Even (ms ∷ more) (ks ∷ later) = Even more later
Even _ _ = ⊥

even_on : (old more mid later new : List (List Placed)) → Grown old more mid → Grown mid later new → Even more later
even_on [] [] [] [] new g h = tt
even_on [] [] [] (ks ∷ later) new g h = absurd h
even_on [] [] (qs ∷ mid) later new g h = absurd g
even_on [] (ms ∷ more) mid later new g h = absurd g
even_on (ps ∷ old) [] mid later new g h = absurd g
even_on (ps ∷ old) (ms ∷ more) [] later new g h = absurd g
even_on (ps ∷ old) (ms ∷ more) (qs ∷ mid) [] new g h = absurd h
even_on (ps ∷ old) (ms ∷ more) (qs ∷ mid) (ks ∷ later) [] g h = absurd h
even_on (ps ∷ old) (ms ∷ more) (qs ∷ mid) (ks ∷ later) (ns ∷ new) g h = even_on old more mid later new g.1 h.1

mark_in_turn : (more later : List (List Placed)) → Even more later → (x : Mark) → Member x (marks_from (in_turn more later)) → Member x (marks_from more) ⊎ Member x (marks_from later)
mark_in_turn [] [] e x m = inl m
mark_in_turn [] (ks ∷ later) e x m = absurd e
mark_in_turn (ms ∷ more) [] e x m = absurd e
mark_in_turn (ms ∷ more) (ks ∷ later) e x m = elim (in_either x (marks_in (ms ++ ks)) (marks_from (in_turn more later)) m) [
  | inl here ↦ elim (in_either x (marks_in ms) (marks_in ks) (subst (λ (l : List Mark). Member x l) (marks_append ms ks) here)) [
    | inl p ↦ inl (member_front x (marks_in ms) (marks_from more) p)
    | inr p ↦ inr (member_front x (marks_in ks) (marks_from later) p)
  ]
  | inr there ↦ elim (mark_in_turn more later e x there) [
    | inl p ↦ inl (member_back x (marks_in ms) (marks_from more) p)
    | inr p ↦ inr (member_back x (marks_in ks) (marks_from later) p)
  ]
]

mark_of_first : (more later : List (List Placed)) → Even more later → (x : Mark) → Member x (marks_from more) → Member x (marks_from (in_turn more later))
mark_of_first [] [] e x m = m
mark_of_first [] (ks ∷ later) e x m = absurd e
mark_of_first (ms ∷ more) [] e x m = absurd e
mark_of_first (ms ∷ more) (ks ∷ later) e x m = elim (in_either x (marks_in ms) (marks_from more) m) [
  | inl here ↦ member_front x (marks_in (ms ++ ks)) (marks_from (in_turn more later)) (subst (λ (l : List Mark). Member x l) (sym (marks_append ms ks)) (member_front x (marks_in ms) (marks_in ks) here))
  | inr there ↦ member_back x (marks_in (ms ++ ks)) (marks_from (in_turn more later)) (mark_of_first more later e x there)
]

mark_of_second : (more later : List (List Placed)) → Even more later → (x : Mark) → Member x (marks_from later) → Member x (marks_from (in_turn more later))
mark_of_second [] [] e x m = m
mark_of_second [] (ks ∷ later) e x m = absurd e
mark_of_second (ms ∷ more) [] e x m = absurd e
mark_of_second (ms ∷ more) (ks ∷ later) e x m = elim (in_either x (marks_in ks) (marks_from later) m) [
  | inl here ↦ member_front x (marks_in (ms ++ ks)) (marks_from (in_turn more later)) (subst (λ (l : List Mark). Member x l) (sym (marks_append ms ks)) (member_back x (marks_in ms) (marks_in ks) here))
  | inr there ↦ member_back x (marks_in (ms ++ ks)) (marks_from (in_turn more later)) (mark_of_second more later e x there)
]

none_in_turn : (more later : List (List Placed)) → Even more later → none_in more → none_in later → none_in (in_turn more later)
none_in_turn [] [] e n k = tt
none_in_turn [] (ks ∷ later) e n k = absurd e
none_in_turn (ms ∷ more) [] e n k = absurd e
none_in_turn (ms ∷ more) (ks ∷ later) e n k = (ap (λ (l : List Placed). l ++ ks) n.0 ∙ k.0, none_in_turn more later e n.1 k.1)

same_streams : (old more new : List (List Placed)) → Grown old more new → none_in more → new ≡ old
same_streams [] [] [] g n = refl
same_streams [] [] (qs ∷ new) g n = absurd g
same_streams [] (ms ∷ more) new g n = absurd g
same_streams (ps ∷ old) [] new g n = absurd g
same_streams (ps ∷ old) (ms ∷ more) [] g n = absurd g
same_streams (ps ∷ old) (ms ∷ more) (qs ∷ new) g n =
    let here : qs ≡ ps = g.0 ∙ ap (λ (l : List Placed). ps ++ l) n.0 ∙ append-nil ps in
    let rest = same_streams old more new g.1 n.1 in
    λ i. here i ∷ rest i

module _ (old : Log) (more : List (List Placed)) (mid : Log) (later : List (List Placed)) (log : Log) (c : Continues old more mid) (d : Continues mid later log) where
  even : Even more later
  even = even_on old.streams more mid.streams later log.streams c.streams d.streams

  largest_kept : largest (marks_of old) ≤ largest (marks_of mid)
  largest_kept = largest_at_most (marks_of old) (largest (marks_of mid)) (λ m h. up_to_largest (marks_of mid) m (old_mark old.streams more mid.streams c.streams m h))

  above_both : (m : Mark) → Member m (marks_from (in_turn more later)) → largest (marks_of old) < m.number
  above_both m h = elim (mark_in_turn more later even m h) [
    | inl p ↦ c.above m p
    | inr p ↦ let high = d.above m p in let kept = largest_kept in omega (arith, high, kept)
  ]

  -- the next epoch comes in the first step
  by_first : NextEpochHas more old.elv → NextEpochHas (in_turn more later) old.elv
  by_first next = record {
    mark = next.mark;
    there = mark_of_first more later even next.mark next.there;
    vector = next.vector;
    first = λ m h. elim (mark_in_turn more later even m h) [
      | inl p ↦ next.first m p
      | inr p ↦
          let high = d.above m p in
          let low = up_to_largest (marks_of mid) next.mark (new_mark old.streams more mid.streams c.streams next.mark next.there) in
          omega (arith, high, low)
    ];
  }

  -- or in the second, if the first has no record
  by_second : none_in more → mid.elv ≡ old.elv → NextEpochHas later mid.elv → NextEpochHas (in_turn more later) old.elv
  by_second none same next = record {
    mark = next.mark;
    there = mark_of_second more later even next.mark next.there;
    vector = next.vector ∙ same;
    first = λ m h. elim (mark_in_turn more later even m h) [ inl p ↦ absurd (no_mark more none m p) | inr p ↦ next.first m p ];
  }

  abbrev NextBoth : Type 0
  NextBoth = none_in old.streams ⊎ ((none_in (in_turn more later) × (log.elv ≡ old.elv)) ⊎ NextEpochHas (in_turn more later) old.elv)

  after_none : none_in more → mid.elv ≡ old.elv → NextBoth
  after_none none same = elim d.next [
    | inl empty ↦ inl (subst none_in (same_streams old.streams more mid.streams c.streams none) empty)
    | inr rest ↦ elim rest [
      | inl nothing ↦ inr (inl (none_in_turn more later even none nothing.0, nothing.1 ∙ same))
      | inr next ↦ inr (inr (by_second none same next))
    ]
  ]

  next_both : NextBoth
  next_both = elim c.next [
    | inl empty ↦ inl empty
    | inr rest ↦ elim rest [
      | inl nothing ↦ after_none nothing.0 nothing.1
      | inr next ↦ inr (inr (by_first next))
    ]
  ]

  all_on : Continues old (in_turn more later) log
  all_on = record {
    longer = at_most_trans old.elv mid.elv log.elv c.longer d.longer;
    streams = grown_on old.streams more mid.streams later log.streams c.streams d.streams;
    above = above_both;
    next = next_both;
  }

pub goes_on : GoesOn
goes_on old more mid later log c d = all_on old more mid later log c d

-- ---- any number of steps

pub steps_go_on : StepsGoOn
steps_go_on old [] are step m = absurd m
steps_go_on old (first ∷ steps) are step (inl is) = (first.more, subst (λ (x : Step). Continues old first.more x.log) is are.0)
steps_go_on old (first ∷ steps) are step (inr m) =
    let rest = steps_go_on first.log steps are.1 step m in
    (in_turn first.more rest.0, goes_on old first.more first.log rest.0 step.log are.0 rest.1)

pub judged_for_good : JudgedForGood
judged_for_good f before after old steps step read fit are m now =
    let on = steps_go_on old steps are step m in
    old_judged f before after old on.0 step.log read fit now on.1
