-- Which orders of acts do the same.
use Rattle.std.proofs.Common.{Bool, true, false, ◌≡◌, ◌⊎◌, inl, inr, List, [], ◌∷◌, ◌++◌, map, refl, sym, ap, subst, ◌∙◌}
use Rattle.std.proofs.lemmas.Bool.{cases_Bool, both_ways}
use Rattle.std.specs.List.{filter}
use Rattle.tau_base.specs.declared.value.Key.{Key}
use Rattle.tau_base.specs.declared.value.Value.{Value}
use Rattle.tau_base.specs.Database.{Db, written}
use Rattle.tau_proc.specs.Effect.{Effect, has_key, Agrees}
use Rattle.tau_proc.specs.Effect.{Sound}
use Rattle.tau_model.specs.History.{Act, trace, exec, redo, Member, Before, Reordered, updating, updates, Conflict, KeepsOrder}
use Rattle.tau_model.proofs.Dbs.{written_swap, agrees_before, agrees_after}
use Rattle.tau_base.proofs.Logic.{or_true, or_left}

-- each act is what its call means at its place
abbrev pub Consistent : {C : Type 0} → (C → Db → Effect) → List (Act C) → Db → Type 0
Consistent meaning [] db = Unit {0}
Consistent meaning (x ∷ xs) db = (meaning x.call db ≡ x.effect) × Consistent meaning xs (written x.effect.writes db)

module _ {C : Type 0} (meaning : C → Db → Effect) where
  pub trace_consistent : (cs : List C) (db : Db) → Consistent meaning (trace meaning cs db) db
  trace_consistent [] db = tt
  trace_consistent (c ∷ cs) db = (refl, trace_consistent cs (written (meaning c db).writes db))

  pub redo_trace : (cs : List C) (db : Db) → redo (trace meaning cs db) db ≡ exec meaning cs db
  redo_trace [] db = refl
  redo_trace (c ∷ cs) db = redo_trace cs (written (meaning c db).writes db)

  -- acts that are consistent are the trace of their calls
  pub trace_calls : (xs : List (Act C)) (db : Db) → Consistent meaning xs db → trace meaning (map (λ x. x.call) xs) db ≡ xs
  trace_calls [] db h = refl
  trace_calls (x ∷ xs) db h =
      let rest : trace meaning (map (λ y. y.call) xs) (written x.effect.writes db) ≡ xs = trace_calls xs (written x.effect.writes db) h.1 in
      rw h.0 (ap (λ ys. x ∷ ys) rest)

  pub calls_trace : (cs : List C) (db : Db) → map (λ x. x.call) (trace meaning cs db) ≡ cs
  calls_trace [] db = refl
  calls_trace (c ∷ cs) db = ap (λ ds. c ∷ ds) (calls_trace cs (written (meaning c db).writes db))

-- two effects of which none writes what the other touches
abbrev pub Apart : Effect → Effect → Type 0
Apart e f = Conflict e f → ⊥

no_read : (e f : Effect) → Apart e f → (k : Key) → has_key k f.reads ≡ true → has_key k e.writes ≡ true → ⊥
no_read e f apart k r w = apart (k, or_true (has_key k e.reads) (has_key k e.writes) w, or_left (has_key k f.reads) (has_key k f.writes) r, or_left (has_key k e.writes) (has_key k f.writes) w)

no_reader : (e f : Effect) → Apart e f → (k : Key) → has_key k e.reads ≡ true → has_key k f.writes ≡ true → ⊥
no_reader e f apart k r w = apart (k, or_left (has_key k e.reads) (has_key k e.writes) r, or_true (has_key k f.reads) (has_key k f.writes) w, or_true (has_key k e.writes) (has_key k f.writes) w)

no_writer : (e f : Effect) → Apart e f → (k : Key) → has_key k e.writes ≡ true → has_key k f.writes ≡ true → ⊥
no_writer e f apart k r w = apart (k, or_true (has_key k e.reads) (has_key k e.writes) r, or_true (has_key k f.reads) (has_key k f.writes) w, or_left (has_key k e.writes) (has_key k f.writes) r)

module _ {C : Type 0} (meaning : C → Db → Effect) (sound : Sound meaning) where
  -- a call that conflicts with none of the writes means the same before them
  unread : (e : Effect) (z : Act C) (db : Db) → Apart e z.effect → meaning z.call (written e.writes db) ≡ z.effect → meaning z.call db ≡ z.effect
  unread e z db apart is =
      let see : Agrees (meaning z.call (written e.writes db)).reads (written e.writes db) = sound.seen z.call (written e.writes db) in
      let saw : Agrees z.effect.reads (written e.writes db) = rw is at see in
      let now : Agrees z.effect.reads db = agrees_before z.effect.reads e.writes db (no_read e z.effect apart) saw in
      sound.determined z.call (written e.writes db) db (subst (λ (f : Effect). Agrees f.reads db) (sym is) now) ∙ is

  -- and after them
  kept : (e : Effect) (z : Act C) (db : Db) → Apart z.effect e → meaning z.call db ≡ z.effect → meaning z.call (written e.writes db) ≡ z.effect
  kept e z db apart is =
      let saw : Agrees z.effect.reads db = subst (λ (f : Effect). Agrees f.reads db) is (sound.seen z.call db) in
      let now : Agrees z.effect.reads (written e.writes db) = agrees_after z.effect.reads e.writes db (no_reader z.effect e apart) saw in
      sound.determined z.call db (written e.writes db) (subst (λ (f : Effect). Agrees f.reads (written e.writes db)) (sym is) now) ∙ is

  -- an act that comes before acts with which it does not conflict may come after them
  pub moved : (x : Act C) (front back : List (Act C)) (db : Db) → ((z : Act C) → Member z front → Apart x.effect z.effect) →
      meaning x.call db ≡ x.effect → Consistent meaning (front ++ back) (written x.effect.writes db) →
      Consistent meaning (front ++ x ∷ back) db × (redo (front ++ x ∷ back) db ≡ redo (front ++ back) (written x.effect.writes db))
  moved x [] back db apart is h = ((is, h), refl)
  moved x (z ∷ front) back db apart is h =
      let far : Apart x.effect z.effect = apart z (inl refl) in
      let swap : written z.effect.writes (written x.effect.writes db) ≡ written x.effect.writes (written z.effect.writes db) =
      sym (written_swap x.effect.writes z.effect.writes db (no_writer x.effect z.effect far)) in
      let rest = moved x front back (written z.effect.writes db) (λ y m. apart y (inr m)) (kept z.effect x db far is)
      (subst (λ (d : Db). Consistent meaning (front ++ back) d) swap h.1) in
      ((unread x.effect z db far h.0, rest.0), rest.1 ∙ ap (λ (d : Db). redo (front ++ back) d) (sym swap))

  -- an act with which none of those after it conflicts may be left out
  pub left_out : (x : Act C) (zs : List (Act C)) (db : Db) → ((z : Act C) → Member z zs → Apart x.effect z.effect) →
      Consistent meaning zs (written x.effect.writes db) → Consistent meaning zs db
  left_out x [] db apart h = tt
  left_out x (z ∷ zs) db apart h =
      let far : Apart x.effect z.effect = apart z (inl refl) in
      let swap : written z.effect.writes (written x.effect.writes db) ≡ written x.effect.writes (written z.effect.writes db) =
      sym (written_swap x.effect.writes z.effect.writes db (no_writer x.effect z.effect far)) in
      (unread x.effect z db far h.0, left_out x zs (written z.effect.writes db) (λ y m. apart y (inr m)) (subst (λ (d : Db). Consistent meaning zs d) swap h.1))

-- where one element is put between others, what was there before is still there
pub member_put : {A : Type 0} (x a : A) (front back : List A) → Member a (front ++ back) → Member a (front ++ x ∷ back)
member_put x a [] back m = inr m
member_put x a (y ∷ front) back (inl e) = inl e
member_put x a (y ∷ front) back (inr m) = inr (member_put x a front back m)

pub member_front : {A : Type 0} (a : A) (front back : List A) → Member a front → Member a (front ++ back)
member_front a [] back m = absurd m
member_front a (y ∷ front) back (inl e) = inl e
member_front a (y ∷ front) back (inr m) = inr (member_front a front back m)

pub member_back : {A : Type 0} (a : A) (front back : List A) → Member a back → Member a (front ++ back)
member_back a [] back m = m
member_back a (y ∷ front) back m = inr (member_back a front back m)

pub before_put : {A : Type 0} (x u t : A) (front back : List A) → Before u t (front ++ back) → Before u t (front ++ x ∷ back)
before_put x u t [] back b = inr b
before_put x u t (y ∷ front) back (inl p) = inl (p.0, member_put x t front back p.1)
before_put x u t (y ∷ front) back (inr b) = inr (before_put x u t front back b)

-- what stands in front of x is before x
before_at : {A : Type 0} (x u : A) (front back : List A) → Member u front → Before u x (front ++ x ∷ back)
before_at x u [] back m = absurd m
before_at x u (y ∷ front) back (inl e) = inl (e, member_back x front (x ∷ back) (inl refl))
before_at x u (y ∷ front) back (inr m) = inr (before_at x u front back m)

member_cases : {A : Type 0} (a x : A) (front back : List A) → Member a (front ++ x ∷ back) → (x ≡ a) ⊎ Member a (front ++ back)
member_cases a x [] back m = m
member_cases a x (y ∷ front) back (inl e) = inr (inl e)
member_cases a x (y ∷ front) back (inr m) = elim (member_cases a x front back m) [ inl e ↦ inl e | inr n ↦ inr (inr n) ]

pub member_reordered : {A : Type 0} (xs ys : List A) → Reordered xs ys → (a : A) → Member a ys → Member a xs
member_reordered {A} [] ys e a m = subst (λ (zs : List A). Member a zs) e m
member_reordered {A} (x ∷ xs) ys (front, back, e, r) a m =
    elim (member_cases a x front back (subst (λ (zs : List A). Member a zs) e m)) [
      | inl is ↦ inl is
      | inr n ↦ inr (member_reordered xs (front ++ back) r a n)
    ]

module _ {C : Type 0} (meaning : C → Db → Effect) (sound : Sound meaning) where
  -- an order that keeps that of all conflicting pairs does the same, and each act in it
  pub same_acts : (xs ys : List (Act C)) (db : Db) → Consistent meaning xs db → Reordered xs ys → KeepsOrder xs ys →
      Consistent meaning ys db × (redo ys db ≡ redo xs db)
  same_acts [] ys db h e keeps = rw e (tt, refl)
  same_acts (x ∷ xs) ys db h (front, back, e, r) keeps =
      let order : (u t : Act C) → Before u t (x ∷ xs) → Conflict u.effect t.effect → Before t u (front ++ x ∷ back) → ⊥ =
      λ u t b c v. keeps u t b c (subst (λ (zs : List (Act C)). Before t u zs) (sym e) v) in
      let rest = same_acts xs (front ++ back) (written x.effect.writes db) h.1 r (λ u t b c v. order u t (inr b) c (before_put x t u front back v)) in
      let back_in = moved meaning sound x front back db
      (λ z m c. order x z (inl (refl, member_reordered xs (front ++ back) r z (member_front z front back m))) c (before_at x z front back m)) h.0 rest.0 in
      rw e (back_in.0, back_in.1 ∙ rest.1)

  member_filter : (p : Act C → Bool) (xs : List (Act C)) (t : Act C) → Member t (filter p xs) → Member t xs × (p t ≡ true)
  member_filter p [] t m = absurd m
  member_filter p (x ∷ xs) t m =
      elim (cases_Bool (p x)) [
        | inl in' ↦ elim (rw in' at m) [
          | inl e ↦ (inl e, subst (λ (y : Act C). p y ≡ true) e in')
          | inr n ↦ let w = member_filter p xs t n in (inr w.0, w.1)
        ]
        | inr out ↦ let w = member_filter p xs t (rw out at m) in (inr w.0, w.1)
      ]

  unwritten : (ws : List (Key × Value)) (db : Db) → updating ws ≡ false → written ws db ≡ db
  unwritten [] db e = refl
  unwritten (w ∷ ws) db e = absurd (both_ways true e refl)

  -- a part that holds, with each act, the updating acts before it that conflict with it
  pub same_part : (xs : List (Act C)) (chosen : Act C → Bool) (db : Db) → Consistent meaning xs db →
      ((u t : Act C) → Before u t xs → Conflict u.effect t.effect → chosen t ≡ true → updates u.effect ≡ true → chosen u ≡ true) →
      Consistent meaning (filter chosen xs) db
  same_part [] chosen db h closed = tt
  same_part (x ∷ xs) chosen db h closed =
      let rest = same_part xs chosen (written x.effect.writes db) h.1 (λ u t b. closed u t (inr b)) in
      elim (cases_Bool (chosen x)) [
        | inl in' ↦ rw in' (h.0, rest)
        | inr out ↦ rw out (elim (cases_Bool (updates x.effect)) [
          | inl u ↦ left_out meaning sound x (filter chosen xs) db
              (λ z m c. let w = member_filter chosen xs z m in both_ways (chosen x) out (closed x z (inl (refl, w.0)) c w.1 u)) rest
          | inr no_update ↦ subst (λ (d : Db). Consistent meaning (filter chosen xs) d) (unwritten x.effect.writes db no_update) rest
        ])
      ]
