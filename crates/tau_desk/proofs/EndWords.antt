-- A number after the turns changes, by a seat that has several roles.
use Rattle.std.proofs.Common.{◌≡◌, ◌≢◌, ℕ, ◌+◌, ◌*◌, ◌<◌, List, Option, length, get_or, set, Some, sym, ap, ◌∙◌, subst, arith, length-set, get_or-set_same, get_or-set_other}
use Rattle.std.specs.Prelude.{slice_index}
use mathlib.Core.Option.{some, some-injective}
use mathlib.Core.Logic.{dite}
use native.Mathlib.Decide.{ℕ_discrete}
use lib.ListN.{get_elem?}
use Rattle.atomic_table.specs.Table.{State, Me, keeps, Allows}
use Rattle.atomic_table.proofs.Lists.{set_else, set_here}
use Rattle.tau_shown.specs.Shown.{Shown, Turns, ViewIs}
use Rattle.tau_shown.proofs.Lists.{inside, each_set}

module _ {C P W V : Type 0} (IsPart : ℕ → P → C → Type 0) (IsRole : ℕ → W → C → Type 0) (word : ℕ → C → ℕ) (hand : V → Option (ℕ × P)) (has : ℕ → V → Option W) (sees : C → V → Type 0) (meets : C → Type 0) where
  abbrev Held : List V → ℕ → ℕ → P → Type 0
  Held vs j k p = (t : V) × (get_elem? vs j ≡ some t) × (hand t ≡ Some (k, p))

  kept_hand : (s : State (Option P) V) (id : ℕ) (v u : V) → get_elem? s.views id ≡ some v → hand u ≡ hand v → (i j : ℕ) (p : P) → Held s.views i j p → Held (set s.views id u) i j p
  kept_hand s id v u here same i j p (t, found, has) = dite (ℕ_discrete i id)
      (λ e. (u, ap (get_elem? (set s.views id u)) e ∙ set_here s.views id u (inside s.views id v here), same ∙ ap hand (some-injective v t (sym here ∙ ap (get_elem? s.views) (sym e) ∙ found)) ∙ has))
      (λ n. (t, set_else s.views id i u n ∙ found, has))

  -- the word i after the turns changes, with a turn of the state that the seat's role w takes part in; the seat has its other roles as before
  module _ (n e id i : ℕ) (v : V) (carried : List (ℕ × Option P)) (w : ℕ) (x : W) (low : i < e) (is_mine : has w v ≡ Some x) (f : ℕ → ℕ)
      (t : ℕ → V) (y : ℕ → W) (same_hand : (m : ℕ) → hand (t m) ≡ hand v) (now : (m : ℕ) → has w (t m) ≡ Some (y m)) (rest : (m u : ℕ) (z : W) → (u ≡ w → ⊥) → has u (t m) ≡ Some z → has u v ≡ Some z)
      (turn : (c : C) → meets c → IsRole w x c → sees c v →
      (c' : C) × Turns IsPart IsRole word hand has sees meets n c c' n w (y (word i c)) × sees c' (t (word i c)) × (word i c' ≡ f (word i c)) × ((j : ℕ) → j < e → ¬ (j ≡ i) → word j c' ≡ word j c)) where
    pub words_step_of : (then : ℕ → Me (Option P) V → Type 0) → ((c : C) → meets c → IsRole w x c → sees c v → then (word i c) (t (word i c), carried)) → Allows (Shown IsPart IsRole word hand has sees meets n e) n id (v, carried) (8 * (n + i)) f then
    words_step_of then told s r len at _ =
        let m : ℕ = slice_index s.words (8 * (n + i)) in
        let is_word : m ≡ word i r.core = r.numbers i low in
        let mine = r.each_view id v at in
        let mine_role = mine.roles w x is_mine in
        let went = turn r.core r.kept mine_role.0 mine.seen in
        let c' : C = went.0 in
        let is = went.1 in
        let u : V = t m in
        let uu : t (word i r.core) ≡ u = ap t (sym is_word) in
        let at_word : 8 * (n + i) < length s.words = (let d = r.wide in omega arith) in (
          u,
          keeps,
          tt,
          record {
            core = c';
            at = r.at;
            wide = length-set s.words (8 * (n + i)) (f m) ∙ r.wide;
            slots = r.slots;
            numbers = λ j l. dite (ℕ_discrete j i)
                (λ same. ap (λ (z : ℕ). get_or (set s.words (8 * (n + i)) (f m)) (8 * (n + z)) 0) same ∙ (get_or-set_same s.words (8 * (n + i)) (f m) 0 at_word ∙ (ap f is_word ∙ (sym went.3 ∙ ap (λ (z : ℕ). word z c') (sym same)))))
                (λ other. get_or-set_other s.words (8 * (n + i)) (8 * (n + j)) (f m) 0 (λ z. other (omega arith)) ∙ (r.numbers j l ∙ sym (went.4 j l other)));
            is_part = λ k l. is.parts k (r.at.part k) l (λ z. omega arith) (r.is_part k l);
            each_part = λ k l.
                let was = r.each_part k l in
                let apart : 8 * k ≢ 8 * (n + i) = (λ z. omega arith) in record {
                  home = λ o. (get_or-set_other s.words (8 * (n + i)) (8 * k) (f m) 0 apart ∙ (was.home o).0, (was.home o).1);
                  away = λ o. (subst (λ (z : ℕ). 0 < z) (sym (get_or-set_other s.words (8 * (n + i)) (8 * k) (f m) 0 apart)) (was.away o).0, (was.away o).1, kept_hand s id v u at (same_hand m) (r.at.holder k) k (r.at.part k) (was.away o).2);
                };
            each_view = each_set (ViewIs IsPart IsRole word hand has sees meets n c' r.at) s.views id u
                (λ j z apart g. let known = r.each_view j z g in record {
                  held = known.held;
                  roles = λ a b h. let was = known.roles a b h in (is.others a b (λ same. apart (sym was.1 ∙ ap r.at.seat_of same ∙ mine_role.1)) was.0, was.1);
                  busy = known.busy;
                  seen = is.sight z (λ b h. apart (sym (known.roles w b h).1 ∙ mine_role.1)) known.seen;
                })
                record {
                  held = λ k p h. mine.held k p (sym (same_hand m) ∙ h);
                  roles = λ a b h. dite (ℕ_discrete a w)
                      (λ it.
                      let same : Some (y m) ≡ Some b = sym (now m) ∙ ap (λ (z : ℕ). has z u) (sym it) ∙ h in
                      let yb : y (word i r.core) ≡ b = ap y (sym is_word) ∙ (let z : y m ≡ b = cc in z) in
                      (subst (λ (z : ℕ × W). IsRole z.0 z.1 c') (λ i. (sym it i, yb i)) is.mine, ap r.at.seat_of it ∙ mine_role.1))
                      (λ ne. let was = mine.roles a b (rest m a b ne h) in (is.others a b ne was.0, was.1));
                  busy = λ k p h. (w, y m, now m);
                  seen = subst (sees c') uu went.2;
                };
            kept = is.kept;
          },
          subst (λ (z : ℕ). then z (t z, carried)) (sym is_word) (told r.core r.kept mine_role.0 mine.seen),
        )
