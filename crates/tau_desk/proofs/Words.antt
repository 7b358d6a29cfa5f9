-- What a seat is told by a look at a word: that of the stop, and those of persisted positions.
use Rattle.std.proofs.Common.{◌≡◌, ℕ, zero, suc, ◌+◌, ◌<◌, inl, inr, true, false, Bool, List, Option, refl, sym, ap, ◌∙◌, subst, arith}
use Rattle.std.specs.Prelude.{Some, ◌==◌, ◌⊎◌, if◌then◌else◌, slice_index}
use Rattle.std.proofs.lemmas.Bool.{cases_eq}
use mathlib.Core.Option.{none}
use Rattle.atomic_table.specs.Table.{Allows, Step, step}
use Rattle.tau_base.specs.Vectors.{AtMost}
use Rattle.tau_base.proofs.Vectors.{at_most_trans}
use Rattle.tau_core.specs.State.{Plain}
use Rattle.tau_occ.specs.declared.style.Style.{Style}
use Rattle.tau_rule.specs.Knows.{Knows}
use Rattle.tau_rule.specs.Positions.{plv_word}
use Rattle.tau_rule.specs.Rule.{Rule, has, is_raised, number_if, part_count}
use Rattle.tau_rule.specs.Steps.{Sat}
use Rattle.tau_rule.specs.Stopping.{stop_word}
use Rattle.tau_rule.specs.declared.part.Part.{Part}
use Rattle.tau_rule.proofs.Gives.{one_origin}
use Rattle.tau_rule.proofs.Persisting.{loads_plv, word_plv}
use Rattle.tau_rule.proofs.Stopping.{looks_stop}
use Rattle.tau_desk.specs.Looks.{HasRaised, LooksOver, PersistedAt, StopStands, saw_persisted, saw_stop}
use Rattle.tau_desk.specs.Manages.{SeesOn}
use Rattle.tau_desk.proofs.Closing.{in_range}
use Rattle.tau_desk.proofs.EndStops.{bound, stop_at, word_stop}

is_one : (b : Bool) → (number_if b == 1) ≡ b
is_one true = refl
is_one false = refl

pub sees_stop : (origin : Plain) {style : Style} (id : ℕ) (m : Sat) (st : Step (Option Part)) → m.0.opened ≡ Some origin → Allows (Rule origin style) (part_count origin.load) id m (stop_word origin.load) (λ n. n) (saw_stop st m)
sees_stop origin {style} id m st opened s rule len at small =
    let went = looks_stop origin id m st s rule len at small in
    let mine = rule.each_view id m.0 at in
    let n : ℕ = slice_index s.words (stop_word origin.load) in
    let word : n ≡ number_if (is_raised (bound origin) rule.core.raised) = rule.numbers (stop_at origin) (omega arith) ∙ word_stop origin rule.core in (
      went.0,
      went.1,
      went.2,
      went.3,
      (
        went.4,
        λ o its is. subst (λ (p : Plain). StopStands p m.0 (n == 1)) (one_origin origin o (sym opened ∙ its)) (record {
          style = style;
          state = rule.core;
          meets = rule.kept;
          sees = mine.seen;
          roles = λ u r h. (mine.roles u r h).0;
          is = sym (is_one (is_raised (bound origin) rule.core.raised)) ∙ ap (λ (k : ℕ). k == 1) (sym word);
        }),
      ),
    )

pub sees_stop_as : (origin : Plain) {style : Style} (slots id word : ℕ) (m : Sat) → slots ≡ part_count origin.load → m.0.opened ≡ Some origin → word ≡ stop_word origin.load → Allows (Rule origin style) slots id m word (λ n. n) (saw_stop (step slots word 0 0 none) m)
sees_stop_as origin {style} slots id word m es opened is =
    subst (λ (z : ℕ × ℕ). Allows (Rule origin style) z.0 id m z.1 (λ n. n) (saw_stop (step z.0 z.1 0 0 none) m)) (λ i. (sym es i, sym is i))
    (sees_stop origin id m (step (part_count origin.load) (stop_word origin.load) 0 0 none) opened)

-- one of the first so many actors has raised it
one_raises : (n u : ℕ) (f : ℕ → Bool) → u < n → f u ≡ true → is_raised n f ≡ true
one_raises zero u f low up = absurd (omega arith)
one_raises (suc n) u f low up = elim (cases_eq n u) [
  | inl is ↦ ap (λ (b : Bool). if b then true else is_raised n f) (ap f is ∙ up)
  | inr ne ↦ ap (λ (b : Bool). if f n then true else b) (one_raises n u f (omega arith) up) ∙ either_way (f n)
]
  where
    either_way : (b : Bool) → (if b then true else true) ≡ true
    either_way true = refl
    either_way false = refl

-- who has raised the stop, or found it raised, finds it raised
pub has_raised : (origin : Plain) (v : Knows) (stands : Bool) → StopStands origin v stands → HasRaised v → stands ≡ true
has_raised origin v stands s (inl (u, r, is, up)) =
    let mine = s.roles u r is in
    sym s.is ∙ one_raises (bound origin) u s.state.raised (in_range origin s.state u r.share mine.0) (mine.1 ∙ up)
has_raised origin v stands s (inr found) = sym s.is ∙ s.sees.found found

pub sees_persisted : (origin : Plain) {style : Style} (id j : ℕ) (m : Sat) (st : Step (Option Part)) → m.0.opened ≡ Some origin → j < origin.load.streams → st.word ≡ plv_word origin.load j → Allows (Rule origin style) (part_count origin.load) id m (plv_word origin.load j) (λ n. n) (saw_persisted st m)
sees_persisted origin {style} id j m st opened there word s rule len at small =
    let went = loads_plv origin id j m st opened there word s rule len at small in
    let mine = rule.each_view id m.0 at in
    let end = sym (word_plv origin j rule.core there) ∙ sym (rule.numbers (origin.load.streams + j) (omega (arith, there))) in (
      went.0,
      went.1,
      went.2,
      went.3,
      (
        went.4,
        λ o its i low is.
            subst (λ (z : Plain × ℕ). PersistedAt z.0 m.0 m.0.seen z.1 (slice_index s.words (plv_word origin.load j))) (λ k. (one_origin origin o (sym opened ∙ its) k, same o i its is k)) (record {
              style = style;
              state = rule.core;
              meets = rule.kept;
              roles = λ u r h. (mine.roles u r h).0;
              low = mine.seen.low;
              is = end;
            }),
      ),
    )
  where
    same : (o : Plain) (i : ℕ) → m.0.opened ≡ Some o → st.word ≡ plv_word o.load i → j ≡ i
    same o i its is =
        let e : plv_word origin.load j ≡ plv_word origin.load i = sym word ∙ is ∙ ap (λ (q : Plain). plv_word q.load i) (sym (one_origin origin o (sym opened ∙ its))) in
        omega (arith, e)

pub sees_persisted_as : (origin : Plain) {style : Style} (slots id j word : ℕ) (m : Sat) → slots ≡ part_count origin.load → m.0.opened ≡ Some origin → j < origin.load.streams → word ≡ plv_word origin.load j
    → Allows (Rule origin style) slots id m word (λ n. n) (saw_persisted (step slots word 0 0 none) m)
sees_persisted_as origin {style} slots id j word m es opened low is =
    subst (λ (z : ℕ × ℕ). Allows (Rule origin style) z.0 id m z.1 (λ n. n) (saw_persisted (step z.0 z.1 0 0 none) m)) (λ i. (sym es i, sym is i))
    (sees_persisted origin id j m (step (part_count origin.load) (plv_word origin.load j) 0 0 none) opened low refl)

-- what a seat is told that had seen more by then
pub persisted_before : (origin : Plain) (m m' : Sat) (seen seen' : List ℕ) (j upto : ℕ) → SeesOn m m' seen seen' → PersistedAt origin m'.0 seen' j upto → PersistedAt origin m.0 seen j upto
persisted_before origin m m' seen seen' j upto s p = record {
  style = p.style;
  state = p.state;
  meets = p.meets;
  roles = λ u r h. p.roles u r (ap (λ (x : Sat). has u x.0) s.knows ∙ h);
  low = at_most_trans seen seen' p.state.core.plv s.up p.low;
  is = p.is;
}

-- seeing more, and more again
pub sees_again : (m m' m'' : Sat) (seen seen' seen'' : List ℕ) → SeesOn m m' seen seen' → SeesOn m' m'' seen' seen'' → SeesOn m m'' seen seen''
sees_again m m' m'' seen seen' seen'' p q = record {
  up = at_most_trans seen seen' seen'' p.up q.up;
  wide = q.wide ∙ p.wide;
  knows = q.knows ∙ ap (λ (x : Sat). (record x.0 { seen = m''.0.seen }, x.1)) p.knows;
}

-- one stream more
pub looks_on : (origin : Plain) (m m' : Sat) (count : ℕ) (seen seen' seen'' : List ℕ) (rose rose' : Bool) → LooksOver origin m.0 count seen seen' rose → SeesOn m m' seen seen' → AtMost seen' seen''
    → ((j : ℕ) → (j ≡ count → ⊥) → slice_index seen'' j ≡ slice_index seen' j) → PersistedAt origin m'.0 seen' count (slice_index seen'' count) → (rose' ≡ true → (rose ≡ true) ⊎ (slice_index seen' count < slice_index seen'' count)) → LooksOver origin m.0 (count + 1) seen seen'' rose'
looks_on origin m m' count seen seen' seen'' rose rose' o s up others here more = record {
  each = λ j low. elim (cases_eq j count) [
    | inl is ↦ subst (λ (n : ℕ). PersistedAt origin m.0 seen n (slice_index seen'' n)) (sym is) (persisted_before origin m m' seen seen' count (slice_index seen'' count) s here)
    | inr ne ↦ subst (λ (n : ℕ). PersistedAt origin m.0 seen j n) (sym (others j ne)) (o.each j (omega arith))
  ];
  rose = λ yes. elim (more yes) [
    | inl before ↦ (let r = o.rose before in let a = up r.0 in let low = r.1 in let less = r.2 in (r.0, omega (arith, low), omega (arith, a, less)))
    | inr now ↦ (let a = s.up count in (count, omega arith, omega (arith, a, now)))
  ];
}
