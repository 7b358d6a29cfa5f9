-- A case has one verdict.
use Rattle.std.proofs.Common.{ℕ, ◌≡◌, ◌⊎◌, inl, inr, List, [], ◌∷◌, ◌++◌, refl, sym, ap, subst, ◌∙◌}
use Rattle.std.specs.Prelude.{Some}
use Rattle.tau_inspect.specs.declared.verdict.Check.{Check}
use Rattle.tau_inspect.specs.declared.verdict.Check.TheVariants as check
use Rattle.tau_inspect.specs.declared.verdict.Verdict.TheVariants as verdict
use Rattle.tau_inspect.specs.Firsts.{AllFit, Finds}
use Rattle.tau_inspect.specs.Audit.{Case, Passes, FailsAt, before, Pass, OneVerdict}
use Rattle.tau_model.specs.History.{Member}

-- two places in one list: one is before the other, or they are the same
places : {A : Type 0} (f b g d : List A) (x y : A) → f ++ x ∷ b ≡ g ++ y ∷ d → (((r : List A) × (g ≡ f ++ x ∷ r)) ⊎ ((r : List A) × (f ≡ g ++ y ∷ r))) ⊎ ((f ≡ g) × (x ≡ y))
places [] b [] d x y e = inr (refl, cc)
places {A} [] b (z ∷ g) d x y e = inl (inl (g, λ i. first i ∷ g))
  where
    first : z ≡ x
    first = cc
places {A} (z ∷ f) b [] d x y e = inl (inr (f, λ i. first i ∷ f))
  where
    first : z ≡ y
    first = cc
places {A} (z ∷ f) b (w ∷ g) d x y e = more (places f b g d x y rest)
  where
    first : z ≡ w
    first = cc

    rest : f ++ x ∷ b ≡ g ++ y ∷ d
    rest = cc

    more : (((r : List A) × (g ≡ f ++ x ∷ r)) ⊎ ((r : List A) × (f ≡ g ++ y ∷ r))) ⊎ ((f ≡ g) × (x ≡ y)) →
        (((r : List A) × (w ∷ g ≡ z ∷ (f ++ x ∷ r))) ⊎ ((r : List A) × (z ∷ f ≡ w ∷ (g ++ y ∷ r)))) ⊎ ((z ∷ f ≡ w ∷ g) × (x ≡ y))
    more (inl (inl (r, q))) = inl (inl (r, λ i. sym first i ∷ q i))
    more (inl (inr (r, q))) = inl (inr (r, λ i. first i ∷ q i))
    more (inr (q, s)) = inr ((λ i. first i ∷ q i), s)

module _ {A : Type 0} (number : A → ℕ) (Fits : List A → A → Type 0) (xs : List A) where
  pub finds_one : (k l : ℕ) → Finds number Fits xs (Some k) → Finds number Fits xs (Some l) → k ≡ l
  finds_one k l (x, p, m) (y, q, n) = elim (places p.front p.back q.front q.back x y (sym p.there ∙ q.there)) [
    | inl w ↦ elim w [
      | inl (r, e) ↦ absurd (p.unfit (q.before p.front r x e))
      | inr (r, e) ↦ absurd (q.unfit (p.before q.front r y e))
    ]
    | inr (e, same) ↦ sym m ∙ ap number same ∙ n
  ]

  pub finds_none : (k : ℕ) → Finds number Fits xs (Some k) → AllFit Fits xs → ⊥
  finds_none k (x, p, m) all = p.unfit (all p.front p.back x p.there)

-- a check that fails does not pass, and fails in one way
fails_passes : (c : Case) (f : Check) (k : ℕ) → FailsAt c f k → Passes c f → ⊥
fails_passes c check.Epoch k h p = h.0 p
fails_passes c check.Fate k h p = finds_none _ _ _ k h p
fails_passes c check.Reply k h p = finds_none _ _ _ k h p
fails_passes c check.Row k h p = h.0 p
fails_passes c check.Record k h p = finds_none _ _ _ k h p
fails_passes c check.Ack k h p = finds_none _ _ _ k h p
fails_passes c check.Closed k h p = finds_none _ _ _ k h p
fails_passes c check.Order k h p = finds_none _ _ _ k h.1 p

fails_one : (c : Case) (f : Check) (k l : ℕ) → FailsAt c f k → FailsAt c f l → k ≡ l
fails_one c check.Epoch k l h g = h.1 ∙ sym g.1
fails_one c check.Fate k l h g = finds_one _ _ _ k l h g
fails_one c check.Reply k l h g = finds_one _ _ _ k l h g
fails_one c check.Row k l h g = h.1 ∙ sym g.1
fails_one c check.Record k l h g = finds_one _ _ _ k l h g
fails_one c check.Ack k l h g = finds_one _ _ _ k l h g
fails_one c check.Closed k l h g = finds_one _ _ _ k l h g
fails_one c check.Order k l h g = finds_one _ _ _ k l h.1 g.1

-- one of two checks is before the other, or they are the same
passed : (c : Case) (f : Check) (ks : List Check) → Pass c ks → Member f ks → Passes c f
passed c f [] p m = absurd m
passed c f (k ∷ ks) p (inl e) = subst (λ (g : Check). Passes c g) e p.0
passed c f (k ∷ ks) p (inr m) = passed c f ks p.1 m

-- of two checks one is before the other, or they are the same
compared : (f g : Check) → ((f ≡ g) ⊎ Member f (before g)) ⊎ Member g (before f)
compared check.Epoch check.Epoch = inl (inl refl)
compared check.Epoch check.Fate = inl (inr (inl refl))
compared check.Epoch check.Reply = inl (inr (inl refl))
compared check.Epoch check.Row = inl (inr (inl refl))
compared check.Epoch check.Record = inl (inr (inl refl))
compared check.Epoch check.Ack = inl (inr (inl refl))
compared check.Epoch check.Closed = inl (inr (inl refl))
compared check.Epoch check.Order = inl (inr (inl refl))
compared check.Fate check.Epoch = inr (inl refl)
compared check.Fate check.Fate = inl (inl refl)
compared check.Fate check.Reply = inl (inr (inr (inl refl)))
compared check.Fate check.Row = inl (inr (inr (inl refl)))
compared check.Fate check.Record = inl (inr (inr (inl refl)))
compared check.Fate check.Ack = inl (inr (inr (inl refl)))
compared check.Fate check.Closed = inl (inr (inr (inl refl)))
compared check.Fate check.Order = inl (inr (inr (inl refl)))
compared check.Reply check.Epoch = inr (inl refl)
compared check.Reply check.Fate = inr (inr (inl refl))
compared check.Reply check.Reply = inl (inl refl)
compared check.Reply check.Row = inl (inr (inr (inr (inl refl))))
compared check.Reply check.Record = inl (inr (inr (inr (inl refl))))
compared check.Reply check.Ack = inl (inr (inr (inr (inl refl))))
compared check.Reply check.Closed = inl (inr (inr (inr (inl refl))))
compared check.Reply check.Order = inl (inr (inr (inr (inl refl))))
compared check.Row check.Epoch = inr (inl refl)
compared check.Row check.Fate = inr (inr (inl refl))
compared check.Row check.Reply = inr (inr (inr (inl refl)))
compared check.Row check.Row = inl (inl refl)
compared check.Row check.Record = inl (inr (inr (inr (inr (inl refl)))))
compared check.Row check.Ack = inl (inr (inr (inr (inr (inl refl)))))
compared check.Row check.Closed = inl (inr (inr (inr (inr (inl refl)))))
compared check.Row check.Order = inl (inr (inr (inr (inr (inl refl)))))
compared check.Record check.Epoch = inr (inl refl)
compared check.Record check.Fate = inr (inr (inl refl))
compared check.Record check.Reply = inr (inr (inr (inl refl)))
compared check.Record check.Row = inr (inr (inr (inr (inl refl))))
compared check.Record check.Record = inl (inl refl)
compared check.Record check.Ack = inl (inr (inr (inr (inr (inr (inl refl))))))
compared check.Record check.Closed = inl (inr (inr (inr (inr (inr (inl refl))))))
compared check.Record check.Order = inl (inr (inr (inr (inr (inr (inl refl))))))
compared check.Ack check.Epoch = inr (inl refl)
compared check.Ack check.Fate = inr (inr (inl refl))
compared check.Ack check.Reply = inr (inr (inr (inl refl)))
compared check.Ack check.Row = inr (inr (inr (inr (inl refl))))
compared check.Ack check.Record = inr (inr (inr (inr (inr (inl refl)))))
compared check.Ack check.Ack = inl (inl refl)
compared check.Ack check.Closed = inl (inr (inr (inr (inr (inr (inr (inl refl)))))))
compared check.Ack check.Order = inl (inr (inr (inr (inr (inr (inr (inl refl)))))))
compared check.Closed check.Epoch = inr (inl refl)
compared check.Closed check.Fate = inr (inr (inl refl))
compared check.Closed check.Reply = inr (inr (inr (inl refl)))
compared check.Closed check.Row = inr (inr (inr (inr (inl refl))))
compared check.Closed check.Record = inr (inr (inr (inr (inr (inl refl)))))
compared check.Closed check.Ack = inr (inr (inr (inr (inr (inr (inl refl))))))
compared check.Closed check.Closed = inl (inl refl)
compared check.Closed check.Order = inl (inr (inr (inr (inr (inr (inr (inr (inl refl))))))))
compared check.Order check.Epoch = inr (inl refl)
compared check.Order check.Fate = inr (inr (inl refl))
compared check.Order check.Reply = inr (inr (inr (inl refl)))
compared check.Order check.Row = inr (inr (inr (inr (inl refl))))
compared check.Order check.Record = inr (inr (inr (inr (inr (inl refl)))))
compared check.Order check.Ack = inr (inr (inr (inr (inr (inr (inl refl))))))
compared check.Order check.Closed = inr (inr (inr (inr (inr (inr (inr (inl refl)))))))
compared check.Order check.Order = inl (inl refl)

-- a check that fails is not among those that passed before
not_before : (c : Case) (f : Check) (k : ℕ) (ks : List Check) → FailsAt c f k → Pass c ks → Member f ks → ⊥
not_before c f k ks h p m = fails_passes c f k h (passed c f ks p m)

-- nor is one that fails among all, where the last passes or cannot be tested
ends : (c : Case) (f : Check) (k : ℕ) → FailsAt c f k → Pass c (before check.Order) → (FailsAt c check.Order k → ⊥) → ⊥
ends c check.Order k h p last = last h
ends c check.Epoch k h p last = not_before c check.Epoch k (before check.Order) h p (inl refl)
ends c check.Fate k h p last = not_before c check.Fate k (before check.Order) h p (inr (inl refl))
ends c check.Reply k h p last = not_before c check.Reply k (before check.Order) h p (inr (inr (inl refl)))
ends c check.Row k h p last = not_before c check.Row k (before check.Order) h p (inr (inr (inr (inl refl))))
ends c check.Record k h p last = not_before c check.Record k (before check.Order) h p (inr (inr (inr (inr (inl refl)))))
ends c check.Ack k h p last = not_before c check.Ack k (before check.Order) h p (inr (inr (inr (inr (inr (inl refl))))))
ends c check.Closed k h p last = not_before c check.Closed k (before check.Order) h p (inr (inr (inr (inr (inr (inr (inl refl)))))))

pub one_verdict : OneVerdict
one_verdict c verdict.Yes verdict.Yes v w = refl
one_verdict c verdict.Yes verdict.Cut v w = absurd (w.1 v.1)
one_verdict c verdict.Cut verdict.Yes v w = absurd (v.1 w.1)
one_verdict c verdict.Cut verdict.Cut v w = refl
one_verdict c verdict.Yes (verdict.No g l) v w = absurd (ends c g l w.1 v.0 (λ h. fails_passes c check.Order l h v.2))
one_verdict c verdict.Cut (verdict.No g l) v w = absurd (ends c g l w.1 v.0 (λ h. v.1 h.0))
one_verdict c (verdict.No f k) verdict.Yes v w = absurd (ends c f k v.1 w.0 (λ h. fails_passes c check.Order k h w.2))
one_verdict c (verdict.No f k) verdict.Cut v w = absurd (ends c f k v.1 w.0 (λ h. w.1 h.0))
one_verdict c (verdict.No f k) (verdict.No g l) v w = elim (compared f g) [
  | inl a ↦ elim a [
    | inl e ↦
        let number : k ≡ l = fails_one c g k l (subst (λ (x : Check). FailsAt c x k) e v.1) w.1 in
        λ i. verdict.No (e i) (number i)
    | inr m ↦ absurd (not_before c f k (before g) v.1 w.0 m)
  ]
  | inr m ↦ absurd (not_before c g l (before f) w.1 v.0 m)
]
