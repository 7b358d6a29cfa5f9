-- Marks that are carried along a history say of each call just whether it depends on an updating call that is not taken.
use Rattle.std.proofs.Common.{Bool, true, false, ◌||◌, ◌≡◌, ◌⊎◌, inl, inr, List, [], ◌∷◌, ◌++◌, refl, sym, subst, ◌∙◌, cond, append_assoc}
use Rattle.std.proofs.lemmas.Bool.{cases_Bool, or_cases, both_ways}
use Rattle.std.proofs.lemmas.List.{append-nil}
use Rattle.tau_base.specs.declared.value.Key.{Key}
use Rattle.tau_base.specs.declared.value.Value.{Value}
use Rattle.tau_base.specs.Database.{same_key}
use Rattle.tau_base.proofs.Keys.{same_key_is, same_key_itself}
use Rattle.tau_base.proofs.Logic.{or_true, or_left}
use Rattle.tau_proc.specs.Effect.{has_key}
use Rattle.tau_model.specs.History.{Numbered, Act, Member, Before, Depends, at_once, through, Conflict}
use Rattle.tau_inspect.specs.Taint.{Marks, unmarked, any_written, any_touched, is_tainted, marked, is_missing, spreads, passed, marks_after, Once, DependsOnMissing, TaintIsDependence}

-- a key that is in a list and was written so
written_there : (marks : Marks) (es : List (Key × Value)) (k : Key) → has_key k es ≡ true → (marks k).written ≡ true → any_written marks es ≡ true
written_there marks [] k h w = h
written_there marks (e ∷ es) k h w = elim (or_cases (same_key k e.0) (has_key k es) h) [
  | inl s ↦ or_left (marks e.0).written (any_written marks es) (subst (λ (q : Key). (marks q).written ≡ true) (same_key_is k e.0 s) w)
  | inr t ↦ or_true (marks e.0).written (any_written marks es) (written_there marks es k t w)
]

touched_there : (marks : Marks) (es : List (Key × Value)) (k : Key) → has_key k es ≡ true → ((marks k).read || (marks k).written) ≡ true → any_touched marks es ≡ true
touched_there marks [] k h w = h
touched_there marks (e ∷ es) k h w = elim (or_cases (same_key k e.0) (has_key k es) h) [
  | inl s ↦ or_left ((marks e.0).read || (marks e.0).written) (any_touched marks es) (subst (λ (q : Key). ((marks q).read || (marks q).written) ≡ true) (same_key_is k e.0 s) w)
  | inr t ↦ or_true ((marks e.0).read || (marks e.0).written) (any_touched marks es) (touched_there marks es k t w)
]

some_written : (marks : Marks) (es : List (Key × Value)) → any_written marks es ≡ true → (k : Key) × (has_key k es ≡ true) × ((marks k).written ≡ true)
some_written marks [] h = absurd (both_ways false refl h)
some_written marks (e ∷ es) h = elim (or_cases (marks e.0).written (any_written marks es) h) [
  | inl w ↦ (e.0, or_left (same_key e.0 e.0) (has_key e.0 es) (same_key_itself e.0), w)
  | inr t ↦ let m = some_written marks es t in (m.0, or_true (same_key m.0 e.0) (has_key m.0 es) m.1, m.2)
]

some_touched : (marks : Marks) (es : List (Key × Value)) → any_touched marks es ≡ true → (k : Key) × (has_key k es ≡ true) × (((marks k).read || (marks k).written) ≡ true)
some_touched marks [] h = absurd (both_ways false refl h)
some_touched marks (e ∷ es) h = elim (or_cases ((marks e.0).read || (marks e.0).written) (any_touched marks es) h) [
  | inl w ↦ (e.0, or_left (same_key e.0 e.0) (has_key e.0 es) (same_key_itself e.0), w)
  | inr t ↦ let m = some_touched marks es t in (m.0, or_true (same_key m.0 e.0) (has_key m.0 es) m.1, m.2)
]

-- ---- places in a list

member_end : {A : Type 0} (v x : A) (front : List A) → Member v (front ++ x ∷ []) → Member v front ⊎ (x ≡ v)
member_end v x [] (inl e) = inr e
member_end v x [] (inr m) = absurd m
member_end v x (y ∷ ys) (inl e) = inl (inl e)
member_end v x (y ∷ ys) (inr m) = elim (member_end v x ys m) [ inl n ↦ inl (inr n) | inr e ↦ inr e ]

member_kept : {A : Type 0} (v x : A) (front : List A) → Member v front → Member v (front ++ x ∷ [])
member_kept v x [] m = absurd m
member_kept v x (y ∷ ys) (inl e) = inl e
member_kept v x (y ∷ ys) (inr m) = inr (member_kept v x ys m)

member_last : {A : Type 0} (x : A) (front : List A) → Member x (front ++ x ∷ [])
member_last x [] = inl refl
member_last x (y ∷ ys) = inr (member_last x ys)

member_middle : {A : Type 0} (x : A) (front back : List A) → Member x (front ++ x ∷ back)
member_middle x [] back = inl refl
member_middle x (y ∷ ys) back = inr (member_middle x ys back)

-- what stands in the front is before x
before_of_front : {A : Type 0} (v x : A) (front back : List A) → Member v front → Before v x (front ++ x ∷ back)
before_of_front v x [] back m = absurd m
before_of_front v x (y ∷ ys) back (inl e) = inl (e, member_middle x ys back)
before_of_front v x (y ∷ ys) back (inr m) = inr (before_of_front v x ys back m)

-- two members of a list of which one is at the head or behind it
before_head : {A : Type 0} (v x : A) (back : List A) → Before v x (x ∷ back) → Before x x (x ∷ back)
before_head {A} v x back (inl p) = inl (refl, p.1)
before_head {A} v x back (inr b) = inl (refl, second back b)
  where
    second : (ys : List A) → Before v x ys → Member x ys
    second [] c = absurd c
    second (y ∷ ys) (inl p) = inr p.1
    second (y ∷ ys) (inr c) = inr (second ys c)

-- what is before x stands in the front, where x stands once
front_of_before : {A : Type 0} (v x : A) (front back : List A) → (Before x x (front ++ x ∷ back) → ⊥) → Before v x (front ++ x ∷ back) → Member v front
front_of_before v x [] back once b = absurd (once (before_head v x back b))
front_of_before v x (y ∷ ys) back once (inl p) = inl p.0
front_of_before v x (y ∷ ys) back once (inr b) = inr (front_of_before v x ys back (λ c. once (inr c)) b)

-- ---- the marks

module _ (acts : List (Act Numbered)) (taken : Numbered → Bool) (once : Once acts) where
  -- the call is updating and not taken, or depends on one that is
  abbrev Spreads : Act Numbered → Type 0
  Spreads v = (is_missing taken v ≡ true) ⊎ DependsOnMissing taken acts v

  -- the marks after these calls are of those that spread
  record Shown (marks : Marks) (front : List (Act Numbered)) : Type 0 where
    read_by : (k : Key) → (marks k).read ≡ true → (v : Act Numbered) × Member v front × Spreads v × (has_key k v.effect.reads ≡ true)
    written_by : (k : Key) → (marks k).written ≡ true → (v : Act Numbered) × Member v front × Spreads v × (has_key k v.effect.writes ≡ true)
    read : (k : Key) (v : Act Numbered) → Member v front → Spreads v → has_key k v.effect.reads ≡ true → (marks k).read ≡ true
    written : (k : Key) (v : Act Numbered) → Member v front → Spreads v → has_key k v.effect.writes ≡ true → (marks k).written ≡ true

  shown_none : Shown unmarked []
  shown_none = record {
    read_by = λ k e. absurd (both_ways false refl e);
    written_by = λ k e. absurd (both_ways false refl e);
    read = λ k v m s h. absurd m;
    written = λ k v m s h. absurd m;
  }

  -- it depends on one that spreads
  reaches : (x v : Act Numbered) → Depends acts x v → Spreads v → DependsOnMissing taken acts x
  reaches x v d (inl m) = (v, d, m)
  reaches x v d (inr w) = (w.0, through d w.1, w.2)

  -- what depends on one that spreads conflicts with an earlier one that does
  nearest : (x v : Act Numbered) → Depends acts x v → Spreads v → (w : Act Numbered) × Before w x acts × Conflict w.effect x.effect × Spreads w
  nearest x v (at_once b c) s = (v, b, c, s)
  nearest x v (through {v = y} d e) s = nearest x y d (inr (reaches y v e s))

  module _ (front back : List (Act Numbered)) (x : Act Numbered) (is : acts ≡ front ++ x ∷ back) (marks : Marks) (shown : Shown marks front) where
    found : (v : Act Numbered) → Member v front → Spreads v → Conflict v.effect x.effect → DependsOnMissing taken acts x
    found v m s c = reaches x v (at_once (subst (λ (zs : List (Act Numbered)). Before v x zs) (sym is) (before_of_front v x front back m)) c) s

    conflict_read : (v : Act Numbered) (k : Key) → has_key k v.effect.writes ≡ true → has_key k x.effect.reads ≡ true → Conflict v.effect x.effect
    conflict_read v k w r = (
      k,
      or_true (has_key k v.effect.reads) (has_key k v.effect.writes) w,
      or_left (has_key k x.effect.reads) (has_key k x.effect.writes) r,
      or_left (has_key k v.effect.writes) (has_key k x.effect.writes) w,
    )

    conflict_write : (v : Act Numbered) (k : Key) → (has_key k v.effect.reads || has_key k v.effect.writes) ≡ true → has_key k x.effect.writes ≡ true → Conflict v.effect x.effect
    conflict_write v k t w = (
      k,
      t,
      or_true (has_key k x.effect.reads) (has_key k x.effect.writes) w,
      or_true (has_key k v.effect.writes) (has_key k x.effect.writes) w,
    )

    tainted_depends : is_tainted marks x.effect ≡ true → DependsOnMissing taken acts x
    tainted_depends t = elim (or_cases (any_written marks x.effect.reads) (any_touched marks x.effect.writes) t) [
      | inl r ↦
          let k = some_written marks x.effect.reads r in
          let v = shown.written_by k.0 k.2 in
          found v.0 v.1 v.2 (conflict_read v.0 k.0 v.3 k.1)
      | inr w ↦
          let k = some_touched marks x.effect.writes w in
          elim (or_cases (marks k.0).read (marks k.0).written k.2) [
            | inl a ↦
                let v = shown.read_by k.0 a in
                found v.0 v.1 v.2 (conflict_write v.0 k.0 (or_left (has_key k.0 v.0.effect.reads) (has_key k.0 v.0.effect.writes) v.3) k.1)
            | inr a ↦
                let v = shown.written_by k.0 a in
                found v.0 v.1 v.2 (conflict_write v.0 k.0 (or_true (has_key k.0 v.0.effect.reads) (has_key k.0 v.0.effect.writes) v.3) k.1)
          ]
    ]

    by_conflict : (v : Act Numbered) → Member v front → Spreads v → Conflict v.effect x.effect → is_tainted marks x.effect ≡ true
    by_conflict v m s (k, tv, tx, w) = elim (or_cases (has_key k x.effect.reads) (has_key k x.effect.writes) tx) [
      | inl r ↦ elim (or_cases (has_key k v.effect.writes) (has_key k x.effect.writes) w) [
        | inl a ↦ or_left (any_written marks x.effect.reads) (any_touched marks x.effect.writes) (written_there marks x.effect.reads k r (shown.written k v m s a))
        | inr a ↦ wrote a
      ]
      | inr a ↦ wrote a
    ]
      where
        mark : (marks k).read ≡ true ⊎ (marks k).written ≡ true → ((marks k).read || (marks k).written) ≡ true
        mark (inl a) = or_left (marks k).read (marks k).written a
        mark (inr a) = or_true (marks k).read (marks k).written a

        wrote : has_key k x.effect.writes ≡ true → is_tainted marks x.effect ≡ true
        wrote a = or_true (any_written marks x.effect.reads) (any_touched marks x.effect.writes) (touched_there marks x.effect.writes k a (mark (elim (or_cases (has_key k v.effect.reads) (has_key k v.effect.writes) tv) [
          | inl r ↦ inl (shown.read k v m s r)
          | inr r ↦ inr (shown.written k v m s r)
        ])))

    depends_tainted : DependsOnMissing taken acts x → is_tainted marks x.effect ≡ true
    depends_tainted (u, d, m) =
        let w = nearest x u d (inl m) in
        let there : Before w.0 x (front ++ x ∷ back) = subst (λ (zs : List (Act Numbered)). Before w.0 x zs) is w.1 in
        by_conflict w.0 (front_of_before w.0 x front back (λ b. once x (subst (λ (zs : List (Act Numbered)). Before x x zs) (sym is) b)) there) w.3 w.2

    spreads_is : spreads taken marks x ≡ true → Spreads x
    spreads_is e = elim (or_cases (is_missing taken x) (is_tainted marks x.effect) e) [
      | inl m ↦ inl m
      | inr t ↦ inr (tainted_depends t)
    ]

    is_spreads : Spreads x → spreads taken marks x ≡ true
    is_spreads (inl m) = or_left (is_missing taken x) (is_tainted marks x.effect) m
    is_spreads (inr d) = or_true (is_missing taken x) (is_tainted marks x.effect) (depends_tainted d)

    shown_marked : Spreads x → Shown (marked x.effect marks) (front ++ x ∷ [])
    shown_marked s = record {
      read_by = λ k e. elim (or_cases (has_key k x.effect.reads) (marks k).read e) [
        | inl h ↦ (x, member_last x front, s, h)
        | inr h ↦ let v = shown.read_by k h in (v.0, member_kept v.0 x front v.1, v.2, v.3)
      ];
      written_by = λ k e. elim (or_cases (has_key k x.effect.writes) (marks k).written e) [
        | inl h ↦ (x, member_last x front, s, h)
        | inr h ↦ let v = shown.written_by k h in (v.0, member_kept v.0 x front v.1, v.2, v.3)
      ];
      read = λ k v m t h. elim (member_end v x front m) [
        | inl n ↦ or_true (has_key k x.effect.reads) (marks k).read (shown.read k v n t h)
        | inr e ↦ or_left (has_key k x.effect.reads) (marks k).read (subst (λ (z : Act Numbered). has_key k z.effect.reads ≡ true) (sym e) h)
      ];
      written = λ k v m t h. elim (member_end v x front m) [
        | inl n ↦ or_true (has_key k x.effect.writes) (marks k).written (shown.written k v n t h)
        | inr e ↦ or_left (has_key k x.effect.writes) (marks k).written (subst (λ (z : Act Numbered). has_key k z.effect.writes ≡ true) (sym e) h)
      ];
    }

    shown_unmarked : (Spreads x → ⊥) → Shown marks (front ++ x ∷ [])
    shown_unmarked calm = record {
      read_by = λ k e. let v = shown.read_by k e in (v.0, member_kept v.0 x front v.1, v.2, v.3);
      written_by = λ k e. let v = shown.written_by k e in (v.0, member_kept v.0 x front v.1, v.2, v.3);
      read = λ k v m t h. elim (member_end v x front m) [
        | inl n ↦ shown.read k v n t h
        | inr e ↦ absurd (calm (subst (λ (z : Act Numbered). Spreads z) (sym e) t))
      ];
      written = λ k v m t h. elim (member_end v x front m) [
        | inl n ↦ shown.written k v n t h
        | inr e ↦ absurd (calm (subst (λ (z : Act Numbered). Spreads z) (sym e) t))
      ];
    }

    shown_passed : Shown (passed taken marks x) (front ++ x ∷ [])
    shown_passed = elim (cases_Bool (spreads taken marks x)) [
      | inl e ↦ subst (λ (b : Bool). Shown (cond b (marked x.effect marks) marks) (front ++ x ∷ [])) (sym e) (shown_marked (spreads_is e))
      | inr e ↦ subst (λ (b : Bool). Shown (cond b (marked x.effect marks) marks) (front ++ x ∷ [])) (sym e) (shown_unmarked (λ s. both_ways (spreads taken marks x) e (is_spreads s)))
    ]

  -- the marks after some more of the calls
  shown_after : (rest front back : List (Act Numbered)) (marks : Marks) → acts ≡ front ++ (rest ++ back) → Shown marks front → Shown (marks_after taken marks rest) (front ++ rest)
  shown_after [] front back marks is shown = subst (λ (zs : List (Act Numbered)). Shown marks zs) (sym (append-nil front)) shown
  shown_after (x ∷ xs) front back marks is shown =
      let on = shown_passed front (xs ++ back) x is marks shown in
      let is' : acts ≡ (front ++ x ∷ []) ++ (xs ++ back) = is ∙ sym (append_assoc front (x ∷ []) (xs ++ back)) in
      subst (λ (zs : List (Act Numbered)). Shown (marks_after taken (passed taken marks x) xs) zs) (append_assoc front (x ∷ []) xs)
      (shown_after xs (front ++ x ∷ []) back (passed taken marks x) is' on)

pub taint_is_dependence : TaintIsDependence
taint_is_dependence acts taken once front back x is =
    let shown = shown_after acts taken once front [] (x ∷ back) unmarked is (shown_none acts taken once) in
    (tainted_depends acts taken once front back x is (marks_after taken unmarked front) shown, depends_tainted acts taken once front back x is (marks_after taken unmarked front) shown)
