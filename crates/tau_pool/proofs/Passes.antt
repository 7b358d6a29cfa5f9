-- Passing over what waits for a stream.
use Rattle.std.proofs.Common.{ℕ, zero, suc, ◌≡◌, ◌≢◌, ◌+◌, ◌<◌, ◌≤◌, ◌⊎◌, inl, inr, Bool, true, false, List, [], ◌∷◌, ◌++◌, take, drop, length, refl, sym, ap, subst, ◌∙◌, arith, slice_index}
use Rattle.std.specs.Prelude.{Option, Some, None, slice_get, nat_lt, if◌then◌else◌}
use Rattle.std.proofs.Math.ListN.{set}
use Rattle.std.proofs.Math.Seq.{take-add}
use Rattle.std.proofs.lemmas.Bool.{cases_eq, cases_lt, and_from, and_parts}
use Rattle.std.proofs.lemmas.List.{length-drop, get_or-set_same, get_or-set_other}
use Rattle.tau_base.specs.Vectors.{AtMost, covers}
use Rattle.tau_base.proofs.Vectors.{at_most_covers, covers_at_most}
use Rattle.tau_model.specs.History.{Member}
use Rattle.tau_pool.specs.Item.{Item}
use Rattle.tau_pool.specs.declared.waits.Wait.{Wait}
use Rattle.tau_pool.specs.declared.pass.Pass.{Pass}
use Rattle.tau_pool.specs.Items.{is_waiting}
use Rattle.tau_pool.specs.Passing.{is_ready_one, is_ready, pass_from, wait_of, Rises}
use Rattle.tau_pool.specs.Kept.{IsMet, AreRising, waits_in}
use Rattle.tau_pool.proofs.Gets.{member_split, member_either, drop_more}
use Rattle.tau_base.proofs.Logic.{some_is, below_of_true, at_most_of_false}

pub ready_is : (items : List Item) (rlv : List ℕ) (i : ℕ) (x : Item) → slice_get items i ≡ Some x → is_waiting x.stage ≡ true → AtMost x.dep rlv → is_ready items rlv i ≡ true
ready_is items rlv i x there waiting covered = rw there (and_from (is_waiting x.stage) (covers rlv x.dep) waiting (at_most_covers rlv x.dep covered))

pub record Passed (items : List Item) (rlv : List ℕ) (reach p : ℕ) (ws : List Wait) (r : Pass) : Type 0 where
  pub by : ℕ
  pub far : r.passed ≡ p + by
  pub within : by ≤ length ws
  pub met : (w : Wait) → Member w (take by ws) → (w.at ≤ reach) × (is_ready items rlv w.item ≡ false)
  pub found : (i : ℕ) → r.found ≡ Some i → is_ready items rlv i ≡ true
  pub blocked : r.found ≡ None → Rises ws → (w : Wait) → Member w (drop by ws) → reach < w.at

module _ (items : List Item) (rlv : List ℕ) (reach : ℕ) where
  stopped : (p : ℕ) (ws : List Wait) → ((w : Wait) → Rises ws → Member w ws → reach < w.at) → Passed items rlv reach p ws (record { passed = p; found = None })
  stopped p ws none = record {
    by = 0;
    far = omega arith;
    within = omega arith;
    met = λ w m. absurd m;
    found = λ i e. absurd cc;
    blocked = λ e rises w m. none w rises m;
  }

  ready_here : (p : ℕ) (w : Wait) (ws : List Wait) → is_ready items rlv w.item ≡ true → Passed items rlv reach p (w ∷ ws) (record { passed = p; found = Some w.item })
  ready_here p w ws is = record {
    by = 0;
    far = omega arith;
    within = omega arith;
    met = λ v m. absurd m;
    found = λ i e. subst (λ (k : ℕ). is_ready items rlv k ≡ true) (some_is w.item i e) is;
    blocked = λ e. absurd cc;
  }

  one_more : (p : ℕ) (w : Wait) (ws : List Wait) (r : Pass) → w.at ≤ reach → is_ready items rlv w.item ≡ false → Passed items rlv reach (suc p) ws r → Passed items rlv reach p (w ∷ ws) r
  one_more p w ws r low other h = record {
    by = suc h.by;
    far = omega (arith, h.far);
    within = omega (arith, h.within);
    met = λ v m. elim m [
      | inl e ↦ subst (λ (u : Wait). (u.at ≤ reach) × (is_ready items rlv u.item ≡ false)) e (low, other)
      | inr n ↦ h.met v n
    ];
    found = h.found;
    blocked = λ e rises v m. h.blocked e rises.1 v m;
  }

  pub passes : (ws : List Wait) (p : ℕ) → Passed items rlv reach p ws (pass_from items rlv reach p ws)
  passes [] p = stopped p [] (λ w rises m. absurd m)
  passes (w ∷ ws) p = by_tests (passes ws (suc p)) (nat_lt reach w.at) (is_ready items rlv w.item) refl refl
    where
      by_tests : Passed items rlv reach (suc p) ws (pass_from items rlv reach (suc p) ws) → (b c : Bool) → nat_lt reach w.at ≡ b → is_ready items rlv w.item ≡ c →
          Passed items rlv reach p (w ∷ ws) (if b then record { passed = p; found = None } else (if c then record { passed = p; found = Some w.item } else pass_from items rlv reach (suc p) ws))
      by_tests more true c far is = stopped p (w ∷ ws) (λ v rises m. let here = below_of_true reach w.at far in elim m [
        | inl e ↦ subst (λ (u : Wait). reach < u.at) e here
        | inr n ↦ let next = rises.0 v n in omega (arith, here, next)
      ])
      by_tests more false true far is = ready_here p w ws is
      by_tests more false false far is = one_more p w ws (pass_from items rlv reach (suc p) ws) (at_most_of_false reach w.at far) is more

-- ---- a cursor moves on

module _ (rlv : List ℕ) (items : List Item) (waits : List (List Wait)) (passed : List ℕ) (k : ℕ) (r : Pass) where
  abbrev here : ℕ
  here = slice_index passed k

  abbrev mine : List Wait
  mine = waits_in waits k

  moved_here : k < length passed → slice_index (set passed k r.passed) k ≡ r.passed
  moved_here lt = get_or-set_same passed k r.passed 0 lt

  moved_other : (i : ℕ) → i ≢ k → slice_index (set passed k r.passed) i ≡ slice_index passed i
  moved_other i other = get_or-set_other passed k i r.passed 0 other

  pub met_on : IsMet rlv items waits passed → k < length rlv → k < length passed → Passed items rlv (slice_index rlv k) here (drop here mine) r → IsMet rlv items waits (set passed k r.passed)
  met_on m lt room p = record {
    upto = λ i low. elim (cases_eq i k) [
      | inl e ↦ subst (λ (n : ℕ). slice_index (set passed k r.passed) n ≤ length (waits_in waits n)) (sym e) (rw (moved_here room) end)
      | inr other ↦ rw (moved_other i other) (m.upto i low)
    ];
    met = λ i w low there. elim (cases_eq i k) [
      | inl e ↦ subst (λ (n : ℕ). w.at ≤ slice_index rlv n) (sym e) (met_here w (subst (λ (n : ℕ). Member w (take n mine)) (moved_here room) (subst (λ (n : ℕ). Member w (take (slice_index (set passed k r.passed) n) (waits_in waits n))) e there)))
      | inr other ↦ m.met i w low (subst (λ (n : ℕ). Member w (take n (waits_in waits i))) (moved_other i other) there)
    ];
    unmet = λ i x there waiting covered. let (j, low, n) = m.unmet i x there waiting covered in elim (cases_eq j k) [
      | inl e ↦ (k, lt, subst (λ (n : ℕ). Member (wait_of k i x) (drop n mine)) (sym (moved_here room)) (unmet_here i x there waiting covered (subst (λ (q : ℕ). Member (wait_of q i x) (drop (slice_index passed q) (waits_in waits q))) e n)))
      | inr other ↦ (j, low, subst (λ (q : ℕ). Member (wait_of j i x) (drop q (waits_in waits j))) (sym (moved_other j other)) n)
    ];
  }
    where
      end : r.passed ≤ length mine
      end = let u = m.upto k lt in omega (arith, p.far, p.within, length-drop here mine, u)

      met_here : (w : Wait) → Member w (take r.passed mine) → w.at ≤ slice_index rlv k
      met_here w t =
          let cut : take r.passed mine ≡ take here mine ++ take p.by (drop here mine) = ap (λ (n : ℕ). take n mine) p.far ∙ take-add here p.by mine in
          elim (member_either (take here mine) (take p.by (drop here mine)) w (subst (λ (xs : List Wait). Member w xs) cut t)) [
            | inl a ↦ m.met k w lt a
            | inr b ↦ (p.met w b).0
          ]

      unmet_here : (i : ℕ) (x : Item) → slice_get items i ≡ Some x → is_waiting x.stage ≡ true → AtMost x.dep rlv → Member (wait_of k i x) (drop here mine) → Member (wait_of k i x) (drop r.passed mine)
      unmet_here i x there waiting covered n =
          let rest : drop r.passed mine ≡ drop p.by (drop here mine) = ap (λ (q : ℕ). drop q mine) p.far ∙ drop_more here p.by mine in
          elim (member_split p.by (drop here mine) (wait_of k i x) n) [
            | inl a ↦ let fails = (p.met (wait_of k i x) a).1 in let is = ready_is items rlv i x there waiting covered in absurd cc
            | inr b ↦ subst (λ (xs : List Wait). Member (wait_of k i x) xs) (sym rest) b
          ]

  pub blocked_on : (n : ℕ) → n ≡ k → k < length passed → k < length waits → AreRising waits → r.found ≡ None → Passed items rlv (slice_index rlv k) here (drop here mine) r →
      ((i : ℕ) (w : Wait) → i < n → Member w (drop (slice_index passed i) (waits_in waits i)) → slice_index rlv i < w.at) →
      (i : ℕ) (w : Wait) → i < n + 1 → Member w (drop (slice_index (set passed k r.passed) i) (waits_in waits i)) → slice_index rlv i < w.at
  blocked_on n same room there rising none p below i w low q = elim (cases_eq i k) [
    | inl e ↦
        let at_k : Member w (drop (slice_index (set passed k r.passed) k) mine) = subst (λ (z : ℕ). Member w (drop (slice_index (set passed k r.passed) z) (waits_in waits z))) e q in
        let rest : drop (slice_index (set passed k r.passed) k) mine ≡ drop p.by (drop here mine) = ap (λ (z : ℕ). drop z mine) (moved_here room ∙ p.far) ∙ drop_more here p.by mine in
        subst (λ (z : ℕ). slice_index rlv z < w.at) (sym e) (p.blocked none (rises_behind here mine (rising k there)) w (subst (λ (xs : List Wait). Member w xs) rest at_k))
    | inr other ↦ below i w (omega (arith, low, same, other_than i k other)) (subst (λ (z : ℕ). Member w (drop z (waits_in waits i))) (moved_other i other) q)
  ]
    where
      rises_behind : (n : ℕ) (ws : List Wait) → Rises ws → Rises (drop n ws)
      rises_behind zero ws h = h
      rises_behind (suc n) [] h = h
      rises_behind (suc n) (v ∷ ws) h = rises_behind n ws h.1

      other_than : (i k : ℕ) → i ≢ k → (i < k) ⊎ (k < i)
      other_than i k other = elim (cases_lt i k) [ inl a ↦ inl a | inr b ↦ inr (past b) ]
        where
          past : k ≤ i → k < i
          past le = elim (cases_lt k i) [ inl a ↦ a | inr b ↦ absurd (other (omega (arith, le, b))) ]

-- what a pass over the waiting ones of a stream gave
pub pass_is : (items : List Item) (rlv : List ℕ) (waits : List (List Wait)) (passed : List ℕ) (k reach p : ℕ) (ws : List Wait) (r : Pass) →
    r ≡ pass_from items rlv reach p (drop p ws) → reach ≡ slice_index rlv k → p ≡ slice_index passed k → ws ≡ waits_in waits k →
    Passed items rlv (slice_index rlv k) (slice_index passed k) (drop (slice_index passed k) (waits_in waits k)) r
pass_is items rlv waits passed k reach p ws r is reach_is p_is ws_is =
    let all : pass_from items rlv reach p (drop p ws) ≡ pass_from items rlv (slice_index rlv k) (slice_index passed k) (drop (slice_index passed k) (waits_in waits k)) = rw (reach_is, p_is, ws_is) refl in
    subst (λ (q : Pass). Passed items rlv (slice_index rlv k) (slice_index passed k) (drop (slice_index passed k) (waits_in waits k)) q) (sym (is ∙ all))
    (passes items rlv (slice_index rlv k) (drop (slice_index passed k) (waits_in waits k)) (slice_index passed k))

-- what is still to be met is below_of_true what is recovered, so nothing is ready
pub none_ready : (rlv : List ℕ) (items : List Item) (waits : List (List Wait)) (passed : List ℕ) (n : ℕ) → length rlv ≤ n → IsMet rlv items waits passed →
    ((k : ℕ) (w : Wait) → k < n → Member w (drop (slice_index passed k) (waits_in waits k)) → slice_index rlv k < w.at) →
    (i : ℕ) (x : Item) → slice_get items i ≡ Some x → is_waiting x.stage ≡ true → AtMost x.dep rlv → ⊥
none_ready rlv items waits passed n le m blocked i x there waiting covered =
    let (k, lt, u) = m.unmet i x there waiting covered in
    let high = blocked k (wait_of k i x) (omega (arith, lt, le)) u in
    let low = covered k in
    omega (arith, high, low)

pub ready_inv : (items : List Item) (rlv : List ℕ) (i : ℕ) → is_ready items rlv i ≡ true → (x : Item) × (slice_get items i ≡ Some x) × (is_waiting x.stage ≡ true) × AtMost x.dep rlv
ready_inv items rlv i is = by_get (slice_get items i) refl is
  where
    by_get : (o : Option Item) → slice_get items i ≡ o → is_ready_one rlv o ≡ true → (x : Item) × (slice_get items i ≡ Some x) × (is_waiting x.stage ≡ true) × AtMost x.dep rlv
    by_get None there is = absurd cc
    by_get (Some x) there is = let both = and_parts (is_waiting x.stage) (covers rlv x.dep) is in (x, there, both.0, covers_at_most rlv x.dep both.1)
