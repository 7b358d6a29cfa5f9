-- Splitting and joining seats.
use Rattle.std.proofs.Common.{◌≡◌, ◌≢◌, ℕ, zero, suc, ◌<◌, ◌+◌, length-set, ◌⊎◌, inl, inr, cond, true, false, Bool, List, [], ◌∷◌, ◌++◌, length, refl, sym, ap, ◌∙◌, arith, eq-eqb, ne_eqb, ⊎_elim}
use Rattle.std.specs.Prelude.{Some, None, ◌||◌, replicate, slice_index, slice_set}
use Rattle.std.proofs.lemmas.Bool.{cases_eq}
use Rattle.atomic_table.specs.Table.{Splits, Joins}
use Rattle.tau_shown.proofs.Steps.{splits_role, joins_roles}
use Rattle.tau_base.specs.Vectors.{AtMost, join}
use Rattle.tau_base.proofs.Vectors.{join_left, join_right, join_below, join_wider}
use Rattle.tau_core.specs.State.{Plain}
use Rattle.tau_occ.specs.declared.style.Style.{Style}
use Rattle.tau_rule.specs.Role.{Role, role_in}
use Rattle.tau_rule.specs.Knows.{Knows, spent}
use Rattle.tau_rule.specs.Rule.{Now, Rule, IsPart, IsRole, Sees, Meets, word_of, hand_of, has, part_count, manager_role}
use Rattle.tau_rule.specs.Heads.{without, role_or, left_by, split_off, both, both_at}
use Rattle.tau_rule.proofs.Turns.{Turn, role_alone, alone}

pub still_in : (r : ℕ) (rs : List (ℕ × Role)) (u : ℕ) (z : Role) → role_in u (without r rs) ≡ Some z → (u ≢ r) × (role_in u rs ≡ Some z)
still_in r [] u z h = absurd (let bad : None ≡ Some z = h in cc)
still_in r (x ∷ xs) u z h = elim (cases_eq x.0 r) [
  | inl is ↦
      let gone : role_in u (without r xs) ≡ Some z = sym (ap (λ b. role_in u (cond b (without r xs) (x ∷ without r xs))) (eq-eqb x.0 r is)) ∙ h in
      let old = still_in r xs u z gone in
      (old.0, ap (λ b. cond b (Some x.1) (role_in u xs)) (ne_eqb x.0 u (λ e. old.0 (sym e ∙ is))) ∙ old.1)
  | inr ne ↦
      let kept : role_in u (x ∷ without r xs) ≡ Some z = sym (ap (λ b. role_in u (cond b (without r xs) (x ∷ without r xs))) (ne_eqb x.0 r ne)) ∙ h in
      elim (cases_eq x.0 u) [
        | inl at ↦ ((λ e. ne (at ∙ e)), ap (λ b. cond b (Some x.1) (role_in u xs)) (eq-eqb x.0 u at) ∙ sym (ap (λ b. cond b (Some x.1) (role_in u (without r xs))) (eq-eqb x.0 u at)) ∙ kept)
        | inr off ↦
            let old = still_in r xs u z (sym (ap (λ b. cond b (Some x.1) (role_in u (without r xs))) (ne_eqb x.0 u off)) ∙ kept) in
            (old.0, ap (λ b. cond b (Some x.1) (role_in u xs)) (ne_eqb x.0 u off) ∙ old.1)
      ]
]

pub in_either : (rs qs : List (ℕ × Role)) (u : ℕ) (z : Role) → role_in u (rs ++ qs) ≡ Some z → (role_in u rs ≡ Some z) ⊎ (role_in u qs ≡ Some z)
in_either [] qs u z h = inr h
in_either (x ∷ xs) qs u z h = elim (cases_eq x.0 u) [
  | inl at ↦ inl (ap (λ b. cond b (Some x.1) (role_in u xs)) (eq-eqb x.0 u at) ∙ sym (ap (λ b. cond b (Some x.1) (role_in u (xs ++ qs))) (eq-eqb x.0 u at)) ∙ h)
  | inr off ↦ ⊎_elim (λ (e : role_in u xs ≡ Some z). inl (ap (λ b. cond b (Some x.1) (role_in u xs)) (ne_eqb x.0 u off) ∙ e)) inr
      (in_either xs qs u z (sym (ap (λ b. cond b (Some x.1) (role_in u (xs ++ qs))) (ne_eqb x.0 u off)) ∙ h))
]

same_turn : (origin : Plain) {style : Style} (c : Now) (k r : ℕ) (x : Role) → IsRole origin.load r x c → Meets origin style c → Turn origin style c c k r x
same_turn origin c k r x mine meets = record { parts = λ j p low apart h. h; mine = mine; others = λ u y apart h. h; sight = λ v lacks h. h; kept = meets }

-- the head gives a role to a new seat, and no event happens
pub splits : (origin : Plain) {style : Style} (id r : ℕ) (v : Knows) (x : Role) → v.hand ≡ None → has r v ≡ Some x → Splits (Rule origin style) id v (left_by r v) (split_off r v)
splits origin {style} id r v x idle is =
    let it : role_or (role_in r v.roles) ≡ x = ap role_or is in
    splits_role (IsPart origin.load) (IsRole origin.load) (word_of origin.load) hand_of has (Sees origin) (Meets origin style) (part_count origin.load) (origin.load.streams + origin.load.streams + 1) id r v (left_by r v) (split_off r v) x x idle idle refl is
    (ap (λ (y : Role). role_in r ((r, y) ∷ [])) it ∙ role_alone r x)
    (λ u z h. still_in r v.roles u z h) (λ u z h. alone r (role_or (role_in r v.roles)) u z h)
    (λ c meets roles sees. (
      c,
      same_turn origin c (part_count origin.load) r x (roles r x is) meets,
      record {
        opened = λ u y h. sees.opened u y (still_in r v.roles u y h).1;
        wide = λ u y h. sees.wide u y (still_in r v.roles u y h).1;
        low = sees.low;
        own = λ j y lt h. sees.own j y lt (still_in r v.roles (manager_role origin.load j) y h).1;
        read = λ w y lt h. sees.read w y lt (still_in r v.roles w y h).1;
        found = sees.found;
      },
      record {
        opened = λ u y h. sees.opened r x is;
        wide = λ u y h. sees.wide r x is;
        low = sees.low;
        own = λ j y lt h. let e = alone r (role_or (role_in r v.roles)) (manager_role origin.load j) y h in sees.own j x lt (ap (λ (n : ℕ). has n v) e ∙ is);
        read = λ w y lt h. let e = alone r (role_or (role_in r v.roles)) w y h in sees.read w x lt (ap (λ (n : ℕ). has n v) e ∙ is);
        found = sees.found;
      },
      (λ i low. refl),
    ))

-- the head takes in what a seat has
pub joins : (origin : Plain) {style : Style} (id other : ℕ) (v w : Knows) → v.hand ≡ None → w.hand ≡ None → v.opened ≡ Some origin → length v.seen ≡ origin.load.streams → length w.seen ≡ origin.load.streams → v.read ≡ (0, replicate origin.load.streams 0) → Joins (Rule origin style) id v other w (both v w) spent
joins origin {style} id other v w idle rests opened wide_v wide_w read =
    joins_roles (IsPart origin.load) (IsRole origin.load) (word_of origin.load) hand_of has (Sees origin) (Meets origin style) (part_count origin.load) (origin.load.streams + origin.load.streams + 1) id v other w (both v w) spent idle rests idle refl
    (λ u z h. in_either w.roles v.roles u z h) (λ u z h. let bad : None ≡ Some z = h in cc)
    (λ c meets a b.
    let low : AtMost (join v.seen w.seen) c.core.plv = join_below v.seen w.seen c.core.plv a.low b.low in record {
      opened = λ u r h. opened;
      wide = λ u r h. (let q = join_wider v.seen w.seen in let q0 = q.0 in let q1 = q.1 in let q2 = q.2 in omega arith);
      low = low;
      own = λ j r lt h. let top = low j in ⊎_elim
          (λ (e : has (manager_role origin.load j) w ≡ Some r). (let s = b.own j r lt e in let up = join_right v.seen w.seen j in omega arith))
          (λ (e : has (manager_role origin.load j) v ≡ Some r). (let s = a.own j r lt e in let up = join_left v.seen w.seen j in omega arith))
          (in_either w.roles v.roles (manager_role origin.load j) r h);
      read = λ u r lt h. inl (ap (λ (z : ℕ × List ℕ). z.0) read, ap (λ (z : ℕ × List ℕ). z.1) read);
      found = λ h. found_of v.found w.found h a.found b.found;
    })
    (λ c meets. record {
      opened = λ u r h. let bad : None ≡ Some r = h in cc;
      wide = λ u r h. let bad : None ≡ Some r = h in cc;
      low = λ j. omega arith;
      own = λ j r lt h. let bad : None ≡ Some r = h in cc;
      read = λ u r lt h. let bad : None ≡ Some r = h in cc;
      found = λ h. let bad : false ≡ true = h in cc;
    })
  where
    found_of : {A : Type 0} (a b : Bool) → (a || b) ≡ true → (a ≡ true → A) → (b ≡ true → A) → A
    found_of true b h f g = f refl
    found_of false b h f g = g h

-- it takes in what the seat of the manager of stream j has
pub joins_at : (origin : Plain) {style : Style} (id other : ℕ) (v w : Knows) (j : ℕ) (x : Role) → v.hand ≡ None → w.hand ≡ None → v.opened ≡ Some origin → length v.seen ≡ origin.load.streams → length w.seen ≡ origin.load.streams → v.read ≡ (0, replicate origin.load.streams 0) →
    j < origin.load.streams → w.roles ≡ (manager_role origin.load j, x) ∷ [] → Joins (Rule origin style) id v other w (both_at j v w) spent
joins_at origin {style} id other v w j x idle rests opened wide wide_w read there manages =
    joins_roles (IsPart origin.load) (IsRole origin.load) (word_of origin.load) hand_of has (Sees origin) (Meets origin style) (part_count origin.load) (origin.load.streams + origin.load.streams + 1) id v other w (both_at j v w) spent idle rests idle refl
    (λ u z h. in_either w.roles v.roles u z h) (λ u z h. let bad : None ≡ Some z = h in cc)
    (λ c meets a b.
    let own_is : has (manager_role origin.load j) w ≡ Some x = ap (role_in (manager_role origin.load j)) manages ∙ role_alone (manager_role origin.load j) x in
    let all : List ℕ = join v.seen w.seen in
    let all_wide : length all ≡ origin.load.streams = (let q = join_wider v.seen w.seen in let q0 = q.0 in let q1 = q.1 in let q2 = q.2 in omega arith) in
    let below : AtMost all c.core.plv = join_below v.seen w.seen c.core.plv a.low b.low in
    let inside : j < length all = omega (arith, all_wide, there) in
    let now : List ℕ = slice_set all j (slice_index w.seen j) in record {
      opened = λ u r h. opened;
      wide = λ u r h. length-set all j (slice_index w.seen j) ∙ all_wide;
      low = λ i. elim (cases_eq i j) [
        | inl is ↦ (let e = ap (slice_index now) is in let f = set_there all j (slice_index w.seen j) inside in let g = b.low j in let k = ap (slice_index c.core.plv) is in omega (arith, e, f, g, k))
        | inr ne ↦ (let e = set_elsewhere all j i (slice_index w.seen j) (λ d. ne (sym d)) in let g = below i in omega (arith, e, g))
      ];
      own = λ i r lt h. elim (cases_eq i j) [
        | inl is ↦ (let e = ap (slice_index now) is in let f = set_there all j (slice_index w.seen j) inside in let g = b.own j x there own_is in let k = ap (slice_index c.core.plv) is in omega (arith, e, f, g, k))
        | inr ne ↦ (let e = set_elsewhere all j i (slice_index w.seen j) (λ d. ne (sym d)) in let top = below i in let up = join_left v.seen w.seen i in ⊎_elim
            (λ (q : has (manager_role origin.load i) w ≡ Some r).
            (let same = alone (manager_role origin.load j) x (manager_role origin.load i) r (sym (ap (role_in (manager_role origin.load i)) manages) ∙ q) in absurd (ne (omega (arith, same)))))
            (λ (q : has (manager_role origin.load i) v ≡ Some r). (let s = a.own i r lt q in omega (arith, e, s, top, up)))
            (in_either w.roles v.roles (manager_role origin.load i) r h))
      ];
      read = λ u r lt h. inl (ap (λ (z : ℕ × List ℕ). z.0) read, ap (λ (z : ℕ × List ℕ). z.1) read);
      found = λ h. found_of v.found w.found h a.found b.found;
    })
    (λ c meets. record {
      opened = λ u r h. let bad : None ≡ Some r = h in cc;
      wide = λ u r h. let bad : None ≡ Some r = h in cc;
      low = λ i. omega arith;
      own = λ i r lt h. let bad : None ≡ Some r = h in cc;
      read = λ u r lt h. let bad : None ≡ Some r = h in cc;
      found = λ h. let bad : false ≡ true = h in cc;
    })
  where
    found_of : {A : Type 0} (a b : Bool) → (a || b) ≡ true → (a ≡ true → A) → (b ≡ true → A) → A
    found_of true b h f g = f refl
    found_of false b h f g = g h

    set_there : (xs : List ℕ) (i y : ℕ) → i < length xs → slice_index (slice_set xs i y) i ≡ y
    set_there [] i y lt = absurd (omega (arith, lt))
    set_there (z ∷ xs) zero y lt = refl
    set_there (z ∷ xs) (suc i) y lt = set_there xs i y (omega (arith, lt))

    set_elsewhere : (xs : List ℕ) (i k y : ℕ) → (i ≡ k → ⊥) → slice_index (slice_set xs i y) k ≡ slice_index xs k
    set_elsewhere [] i k y ne = refl
    set_elsewhere (z ∷ xs) zero zero y ne = absurd (ne refl)
    set_elsewhere (z ∷ xs) zero (suc k) y ne = refl
    set_elsewhere (z ∷ xs) (suc i) zero y ne = refl
    set_elsewhere (z ∷ xs) (suc i) (suc k) y ne = set_elsewhere xs i k y (λ e. ne (ap suc e))
