-- Whatever the turns, records finish in an orderly order; and where one exists, some record is ready.
use Rattle.std.proofs.Common.{ℕ, ◌≤◌, ◌≡◌, ◌⊎◌, inl, inr, List, [], ◌∷◌, ◌++◌, map, refl, sym, ap, subst, ◌∙◌, append_assoc}
use Rattle.std.specs.Prelude.{slice_index}
use Rattle.tau_model.specs.History.{Member, Reordered}
use Rattle.tau_model.specs.Logged.{Place, StartBehind, Orderly}
use Rattle.tau_model.specs.Replay.{Replaying, Turn, Start, Finish, IsReady, Turned, Turns}
use Rattle.tau_model.proofs.Orders.{member_back, member_put, member_reordered}
use Rattle.tau_model.proofs.Reorder.{reordered_itself, reordered_trans, reordered_put, reordered_sym, two_cuts}

pub reordered_behind : {A : Type 0} (us xs ys : List A) → Reordered xs ys → Reordered (us ++ xs) (us ++ ys)
reordered_behind [] xs ys r = r
reordered_behind (u ∷ us) xs ys r = ([], us ++ ys, refl, reordered_behind us xs ys r)

to_front : {A : Type 0} (front : List A) (x : A) (back : List A) → Reordered (front ++ x ∷ back) (x ∷ (front ++ back))
to_front front x back = reordered_put x front back (front ++ back) (reordered_itself (front ++ back))

module _ {A : Type 0} (place : A → Place) where
  start_push : (v : List ℕ) (xs : List A) (r : A) → StartBehind v (map place xs) → slice_index v (place r).stream ≤ (place r).start → StartBehind v (map place (xs ++ r ∷ []))
  start_push v [] r h e = (e, tt)
  start_push v (x ∷ xs) r h e = (h.0, start_push v xs r h.1 e)

  orderly_push : (xs : List A) (r : A) → Orderly (map place xs) → ((x : A) → Member x xs → slice_index (place x).dep (place r).stream ≤ (place r).start) →
      slice_index (place r).dep (place r).stream ≤ (place r).start → Orderly (map place (xs ++ r ∷ []))
  orderly_push [] r h all own = ((own, tt), tt)
  orderly_push (x ∷ xs) r h all own =
      ((h.0.0, start_push (place x).dep xs r h.0.1 (all x (inl refl))), orderly_push xs r h.1 (λ y m. all y (inr m)) own)

  pub record Going (taken : List A) (s : Replaying A) : Type 0 where
    pub all : Reordered taken (s.order ++ (s.flight ++ s.todo))
    pub orderly : Orderly (map place s.order)
    pub ahead : (r : A) → Member r s.order ⊎ Member r s.flight → IsReady place s r

  pub turn_keeps : (taken : List A) (s : Replaying A) (e : Turn A) (t : Replaying A) → Going taken s → Turned place s e t → Going taken t
  turn_keeps taken s (Start r) t g (front, back, cut, ready, is) = subst (λ (z : Replaying A). Going taken z) (sym is) (record {
    all = reordered_trans taken (s.order ++ (s.flight ++ s.todo)) (s.order ++ ((r ∷ s.flight) ++ (front ++ back))) g.all
        (reordered_behind s.order (s.flight ++ s.todo) ((r ∷ s.flight) ++ (front ++ back))
        (rw (cut, ← append_assoc s.flight front (r ∷ back), ← append_assoc s.flight front back) (to_front (s.flight ++ front) r back)));
    orderly = g.orderly;
    ahead = λ p m q u. now p (elim m [ inl a ↦ inl (inl a) | inr (inl a) ↦ inr a | inr (inr a) ↦ inl (inr a) ]) q (elim u [
      | inl a ↦ inl (rw cut (member_put r q front back a))
      | inr (inl a) ↦ inl (rw cut (member_back q front (r ∷ back) (inl a)))
      | inr (inr a) ↦ inr a
    ]);
  })
    where
      now : (p : A) → (Member p s.order ⊎ Member p s.flight) ⊎ (r ≡ p) → IsReady place s p
      now p (inl m) = g.ahead p m
      now p (inr e) = subst (λ (z : A). IsReady place s z) e ready
  turn_keeps taken s (Finish r) t g (front, back, cut, is) = subst (λ (z : Replaying A). Going taken z) (sym is) (record {
    all = reordered_trans taken (s.order ++ (s.flight ++ s.todo)) ((s.order ++ r ∷ []) ++ ((front ++ back) ++ s.todo)) g.all
        (rw (cut, append_assoc s.order (r ∷ []) ((front ++ back) ++ s.todo)) (reordered_behind s.order ((front ++ r ∷ back) ++ s.todo) (r ∷ ((front ++ back) ++ s.todo))
        (rw (append_assoc front (r ∷ back) s.todo, append_assoc front back s.todo) (to_front front r (back ++ s.todo)))));
    orderly = orderly_push s.order r g.orderly (λ x m. g.ahead x (inl m) r (inr mine)) (g.ahead r (inr mine) r (inr mine));
    ahead = λ p m q u. g.ahead p (was p m) q (elim u [ inl a ↦ inl a | inr a ↦ inr (rw cut (member_put r q front back a)) ]);
  })
    where
      mine : Member r s.flight
      mine = rw cut (member_back r front (r ∷ back) (inl refl))

      pushed : (xs : List A) (p : A) → Member p (xs ++ r ∷ []) → Member p xs ⊎ (r ≡ p)
      pushed [] p (inl e) = inr e
      pushed [] p (inr m) = absurd m
      pushed (x ∷ xs) p (inl e) = inl (inl e)
      pushed (x ∷ xs) p (inr m) = elim (pushed xs p m) [ inl a ↦ inl (inr a) | inr a ↦ inr a ]

      was : (p : A) → Member p (s.order ++ r ∷ []) ⊎ Member p (front ++ back) → Member p s.order ⊎ Member p s.flight
      was p (inl m) = elim (pushed s.order p m) [ inl a ↦ inl a | inr a ↦ inr (subst (λ (z : A). Member z s.flight) a mine) ]
      was p (inr m) = inr (rw cut (member_put r p front back m))

  pub turns_keep : (taken : List A) (s : Replaying A) (es : List (Turn A)) (t : Replaying A) → Going taken s → Turns place s es t → Going taken t
  turns_keep taken s [] t g is = subst (λ (z : Replaying A). Going taken z) (sym is) g
  turns_keep taken s (e ∷ es) t g (m, step, rest) = turns_keep taken m es t (turn_keeps taken s e m g step) rest

  pub started : (taken : List A) → Going taken (record { todo = taken; flight = []; order = [] })
  started taken = record {
    all = reordered_itself taken;
    orderly = tt;
    ahead = λ r m. absurd (elim m [ inl a ↦ a | inr a ↦ a ]);
  }

  -- when nothing is left, the records finished in an orderly order
  pub finished : (taken : List A) (es : List (Turn A)) (order : List A) → Turns place (record { todo = taken; flight = []; order = [] }) es (record { todo = []; flight = []; order = order }) →
      Reordered taken order × Orderly (map place order)
  finished taken es order turns =
      let g = turns_keep taken (record { todo = taken; flight = []; order = [] }) es (record { todo = []; flight = []; order = order }) (started taken) turns in
      (subst (λ (l : List A). Reordered taken l) (append_nil order) g.all, g.orderly)
    where
      append_nil : (xs : List A) → xs ++ [] ≡ xs
      append_nil [] = refl
      append_nil (x ∷ xs) = ap (λ l. x ∷ l) (append_nil xs)

  behind_each : (v : List ℕ) (xs : List A) (q : A) → StartBehind v (map place xs) → Member q xs → slice_index v (place q).stream ≤ (place q).start
  behind_each v [] q h m = absurd m
  behind_each v (x ∷ xs) q h (inl e) = subst (λ (z : A). slice_index v (place z).stream ≤ (place z).start) e h.0
  behind_each v (x ∷ xs) q h (inr m) = behind_each v xs q h.1 m

  -- where an orderly order exists and nothing is in flight, a record that is not started is ready, if there is one
  some_ready : (o order todo : List A) → Reordered o (order ++ todo) → Orderly (map place o) →
      (todo ≡ []) ⊎ ((r : A) × Member r todo × ((q : A) → Member q todo → slice_index (place r).dep (place q).stream ≤ (place q).start))
  some_ready [] [] todo r h = inl r
  some_ready [] (y ∷ order) todo r h = cc
  some_ready (x ∷ o) order todo (front, back, e, r) h =
      elim (two_cuts order todo front back x e) [
        | inl w ↦ some_ready o (front ++ w.0) todo
            (subst (λ (l : List A). Reordered o l) (ap (λ (l : List A). front ++ l) w.2 ∙ sym (append_assoc front w.0 todo)) r) h.1
        | inr w ↦ inr (
          x,
          rw w.2 (member_back x w.0 (x ∷ back) (inl refl)),
          λ q m. behind_each (place x).dep (x ∷ o) q h.0 (member_reordered (x ∷ o) (order ++ todo) (front, back, e, r) q (member_back q order todo m)),
        )
      ]

  pub ready_exists : (taken order : List A) (s : Replaying A) → Going taken s → s.flight ≡ [] → Reordered taken order → Orderly (map place order) →
      (s.todo ≡ []) ⊎ ((r : A) × Member r s.todo × IsReady place s r)
  ready_exists taken order s g idle same orderly =
      let left : Reordered order (s.order ++ s.todo) = reordered_trans order taken (s.order ++ s.todo) (reordered_sym taken order same)
      (subst (λ (l : List A). Reordered taken (s.order ++ (l ++ s.todo))) idle g.all) in
      elim (some_ready order s.order s.todo left orderly) [
        | inl none ↦ inl none
        | inr w ↦ let (r, m, behind) = w in inr (
          r,
          m,
          λ q u. elim u [
            | inl a ↦ behind q a
            | inr a ↦ absurd (subst (λ (l : List A). Member q l) idle a)
          ],
        )
      ]
