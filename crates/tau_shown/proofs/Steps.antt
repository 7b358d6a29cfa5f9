-- The steps of a table that shows a state, whatever the state is.
use Rattle.std.proofs.Common.{◌≡◌, ◌≢◌, ◌⊎◌, ℕ, zero, suc, ◌+◌, ◌*◌, ◌<◌, ◌==◌, cond, Bool, true, false, true≢false, List, [], ◌∷◌, ◌++◌, length, map, get_or, set, Some, None, Option, refl, sym, ap, ◌∙◌, subst, ⊎_elim, arith, eq-eqb, ne_eqb, length-set, get_or-set_same, get_or-set_other}
use Rattle.std.specs.Prelude.{slice_index}
use mathlib.Core.Option.{some, none, some-ne-none, some-injective}
use mathlib.Core.Option as maybe
use mathlib.Core.Logic.{dite}
use native.Mathlib.Decide.{ℕ_discrete}
use lib.ListN.{get_elem?}
use Rattle.atomic_table.specs.Table.{State, Me, Act, keeps, takes, gives, stepped, Valid, Allows, Splits, Joins, Final, Seen as SeenBy, carried_after, opening}
use Rattle.atomic_table.proofs.Lists.{set_again, set_else, set_here, at_longer}
use Rattle.tau_shown.specs.Shown.{Places, PartIs, ViewIs, Shown, Turns}
use Rattle.tau_shown.proofs.Lists.{put, put_here, put_else, inside, each_set, each_end}

module _ {C P W V : Type 0} (IsPart : ℕ → P → C → Type 0) (IsRole : ℕ → W → C → Type 0) (word : ℕ → C → ℕ) (hand : V → Option (ℕ × P)) (has : ℕ → V → Option W) (sees : C → V → Type 0) (meets : C → Type 0) where
  abbrev TableState : Type 0
  TableState = State (Option P) V

  abbrev Part : TableState → Places P → ℕ → Type 0
  Part = PartIs IsPart IsRole word hand has sees meets

  abbrev Seen : ℕ → C → Places P → ℕ → V → Type 0
  Seen = ViewIs IsPart IsRole word hand has sees meets

  abbrev Rule : ℕ → ℕ → TableState → Type 0
  Rule = Shown IsPart IsRole word hand has sees meets

  abbrev Turn : ℕ → C → C → ℕ → ℕ → W → Type 0
  Turn = Turns IsPart IsRole word hand has sees meets

  abbrev places_put : Places P → ℕ → P → Bool → ℕ → Places P
  places_put at k q b j = record { part = put at.part k q; out = put at.out k b; holder = put at.holder k j; seat_of = at.seat_of }

  abbrev Held : List V → ℕ → ℕ → P → Type 0
  Held vs j k p = (t : V) × (get_elem? vs j ≡ some t) × (hand t ≡ Some (k, p))

  holder_stays : (s : TableState) (i id j : ℕ) (v u : V) (p : P) → get_elem? s.views id ≡ some v → ¬ (hand v ≡ Some (j, p)) → Held s.views i j p → Held (set s.views id u) i j p
  holder_stays s i id j v u p here apart (t, found, has) =
      (t, set_else s.views id i u (λ same. apart (let e : v ≡ t = some-injective v t (sym here ∙ ap (get_elem? s.views) (sym same) ∙ found) in ap hand e ∙ has)) ∙ found, has)

  kept_hand : (s : TableState) (id : ℕ) (v u : V) → get_elem? s.views id ≡ some v → hand u ≡ hand v → (i j : ℕ) (p : P) → Held s.views i j p → Held (set s.views id u) i j p
  kept_hand s id v u here same i j p (t, found, has) = dite (ℕ_discrete i id)
      (λ e. (u, ap (get_elem? (set s.views id u)) e ∙ set_here s.views id u (inside s.views id v here), same ∙ ap hand (some-injective v t (sym here ∙ ap (get_elem? s.views) (sym e) ∙ found)) ∙ has))
      (λ n. (t, set_else s.views id i u n ∙ found, has))

  others_stay : (s : TableState) (at : Places P) (k x j id : ℕ) (q : P) (h : maybe.Option (Option P)) (b : Bool) (v u : V) → j ≢ k → get_elem? s.views id ≡ some v → ¬ (hand v ≡ Some (j, at.part j)) → Part s at j
      → Part (record { words = set s.words (8 * k) x; homes = set s.homes k h; views = set s.views id u }) (places_put at k q b id) j
  others_stay s at k x j id q h b v u n here apart is =
      let part : put at.part k q j ≡ at.part j = put_else at.part k q j n in record {
        home = λ o. let was = is.home (sym (put_else at.out k b j n) ∙ o) in (get_or-set_other s.words (8 * k) (8 * j) x 0 (λ z. n (omega arith)) ∙ was.0, set_else s.homes k j h n ∙ was.1 ∙ ap (λ (p : P). some (some (Some p))) (sym part));
        away = λ o. let was = is.away (sym (put_else at.out k b j n) ∙ o) in (
          subst (λ (z : ℕ). 0 < z) (sym (get_or-set_other s.words (8 * k) (8 * j) x 0 (λ z. n (omega arith)))) was.0,
          set_else s.homes k j h n ∙ was.1,
          subst (λ (z : ℕ × P). Held (set s.views id u) z.0 j z.1) (λ i. (sym (put_else at.holder k id j n) i, sym part i)) (holder_stays s (at.holder j) id j v u (at.part j) here apart was.2),
        );
      }

  -- a part k of the seat id comes home, with a turn of the state that the seat's role w takes part in
  module _ (n e id k : ℕ) (v t : V) (p q : P) (w : ℕ) (x y : W) (held : hand v ≡ Some (k, p)) (is_mine : has w v ≡ Some x) (bare : hand t ≡ None)
      (now : has w t ≡ Some y) (alone : (u : ℕ) (z : W) → has u t ≡ Some z → u ≡ w)
      (turn : (c : C) → meets c → IsPart k p c → IsRole w x c → sees c v → (c' : C) × Turn n c c' k w y × IsPart k q c' × sees c' t × ((i : ℕ) → i < e → word i c' ≡ word i c)) where
    pub gives_part : (then : ℕ → Me (Option P) V → Type 0) → ((m : ℕ) → then m (t, [])) → Allows (Rule n e) n id (v, (k, Some q) ∷ []) (8 * k) (λ _. 0) then
    gives_part then told s r len at _ =
        let mine = r.each_view id v at in
        let own = mine.held k p held in
        let low : k < n = own.0 in
        let mine_role = mine.roles w x is_mine in
        let part : IsPart k p r.core = subst (λ (z : P). IsPart k z r.core) own.1 (r.is_part k low) in
        let went = turn r.core r.kept part mine_role.0 mine.seen in
        let c' : C = went.0 in
        let is = went.1 in
        let new : Places P = places_put r.at k q false id in (
          t,
          gives,
          tt,
          record {
            core = c';
            at = new;
            wide = length-set s.words (8 * k) 0 ∙ r.wide;
            slots = (let d = length-set s.homes k (some (Some q)) in let g = r.slots in omega arith);
            numbers = λ i l. get_or-set_other s.words (8 * k) (8 * (n + i)) 0 0 (λ z. omega arith) ∙ r.numbers i l ∙ sym (went.4 i l);
            is_part = λ j l. dite (ℕ_discrete j k)
                (λ same. subst (λ (z : ℕ × P). IsPart z.0 z.1 c') (λ i. (sym same i, sym (put_here r.at.part k q j same) i)) went.2)
                (λ apart. subst (λ (z : P). IsPart j z c') (sym (put_else r.at.part k q j apart)) (is.parts j (r.at.part j) l apart (r.is_part j l)));
            each_part = λ j l. dite (ℕ_discrete j k)
                (λ same. record {
                  home = λ _. (
                    ap (λ (z : ℕ). get_or (set s.words (8 * k) 0) (8 * z) 0) same ∙ get_or-set_same s.words (8 * k) 0 0 (let d = r.wide in omega arith),
                    ap (get_elem? (set s.homes k (some (Some q)))) same ∙ set_here s.homes k (some (Some q)) (omega arith) ∙ ap (λ (z : P). some (some (Some z))) (sym (put_here r.at.part k q j same)),
                  );
                  away = λ o. absurd (true≢false (sym o ∙ put_here r.at.out k false j same));
                })
                (λ apart. others_stay s r.at k 0 j id q (some (Some q)) false v t apart at (λ h. apart (let a : Some (k, p) ≡ Some (j, r.at.part j) = sym held ∙ h in let b : (k, p) ≡ (j, r.at.part j) = cc in sym (ap (λ (z : ℕ × P). z.0) b))) (r.each_part j l));
            each_view = each_set (Seen n c' new) s.views id t
                (λ j u apart f. let known = r.each_view j u f in record {
                  held = λ k' p' h.
                      let was = known.held k' p' h in
                      let other : k' ≢ k = λ same. apart (sym was.3 ∙ ap r.at.holder same ∙ own.3) in
                      (was.0, put_else r.at.part k q k' other ∙ was.1, put_else r.at.out k false k' other ∙ was.2, put_else r.at.holder k id k' other ∙ was.3);
                  roles = λ a z h.
                      let was = known.roles a z h in
                      (is.others a z (λ same. apart (sym was.1 ∙ ap r.at.seat_of same ∙ mine_role.1)) was.0, was.1);
                  busy = known.busy;
                  seen = is.sight u (λ b h. apart (sym (known.roles w b h).1 ∙ mine_role.1)) known.seen;
                })
                record {
                  held = λ k' p' h. absurd (cc);
                  roles = λ a z h.
                      let it : a ≡ w = alone a z h in
                      let same : Some y ≡ Some z = sym now ∙ ap (λ (b : ℕ). has b t) (sym it) ∙ h in
                      let yz : y ≡ z = cc in
                      (subst (λ (b : ℕ × W). IsRole b.0 b.1 c') (λ i. (sym it i, yz i)) is.mine, ap r.at.seat_of it ∙ mine_role.1);
                  busy = λ _ _ h. absurd (cc);
                  seen = went.3;
                };
            kept = is.kept;
          },
          told (slice_index s.words (8 * k)),
        )

  -- the word i after the turns changes, with a turn of the state that the seat's role w takes part in
  module _ (n e id i : ℕ) (v : V) (carried : List (ℕ × Option P)) (w : ℕ) (x : W) (low : i < e) (is_mine : has w v ≡ Some x) (f : ℕ → ℕ)
      (t : ℕ → V) (y : ℕ → W) (same_hand : (m : ℕ) → hand (t m) ≡ hand v) (now : (m : ℕ) → has w (t m) ≡ Some (y m)) (alone : (m u : ℕ) (z : W) → has u (t m) ≡ Some z → u ≡ w)
      (turn : (c : C) → meets c → IsRole w x c → sees c v → (c' : C) × Turn n c c' n w (y (word i c)) × sees c' (t (word i c)) × (word i c' ≡ f (word i c)) × ((j : ℕ) → j < e → ¬ (j ≡ i) → word j c' ≡ word j c)) where
    pub words_step : (then : ℕ → Me (Option P) V → Type 0) → ((c : C) → meets c → IsRole w x c → sees c v → then (word i c) (t (word i c), carried)) → Allows (Rule n e) n id (v, carried) (8 * (n + i)) f then
    words_step then told s r len at _ =
        let m : ℕ = slice_index s.words (8 * (n + i)) in
        let is_word : m ≡ word i r.core = r.numbers i low in
        let mine = r.each_view id v at in
        let mine_role = mine.roles w x is_mine in
        let went = turn r.core r.kept mine_role.0 mine.seen in
        let c' : C = went.0 in
        let is = went.1 in
        let u : V = t m in
        let uu : t (word i r.core) ≡ u = ap t (sym is_word) in
        let at_word : 8 * (n + i) < length s.words = (let d = r.wide in omega arith) in (
          u,
          keeps,
          tt,
          record {
            core = c';
            at = r.at;
            wide = length-set s.words (8 * (n + i)) (f m) ∙ r.wide;
            slots = r.slots;
            numbers = λ j l. dite (ℕ_discrete j i)
                (λ same. ap (λ (z : ℕ). get_or (set s.words (8 * (n + i)) (f m)) (8 * (n + z)) 0) same ∙ (get_or-set_same s.words (8 * (n + i)) (f m) 0 at_word ∙ (ap f is_word ∙ (sym went.3 ∙ ap (λ (z : ℕ). word z c') (sym same)))))
                (λ other. get_or-set_other s.words (8 * (n + i)) (8 * (n + j)) (f m) 0 (λ z. other (omega arith)) ∙ (r.numbers j l ∙ sym (went.4 j l other)));
            is_part = λ k l. is.parts k (r.at.part k) l (λ z. omega arith) (r.is_part k l);
            each_part = λ k l.
                let was = r.each_part k l in
                let apart : 8 * k ≢ 8 * (n + i) = (λ z. omega arith) in record {
                  home = λ o. (get_or-set_other s.words (8 * (n + i)) (8 * k) (f m) 0 apart ∙ (was.home o).0, (was.home o).1);
                  away = λ o. (subst (λ (z : ℕ). 0 < z) (sym (get_or-set_other s.words (8 * (n + i)) (8 * k) (f m) 0 apart)) (was.away o).0, (was.away o).1, kept_hand s id v u at (same_hand m) (r.at.holder k) k (r.at.part k) (was.away o).2);
                };
            each_view = each_set (Seen n c' r.at) s.views id u
                (λ j z apart g. let known = r.each_view j z g in record {
                  held = known.held;
                  roles = λ a b h. let was = known.roles a b h in (is.others a b (λ same. apart (sym was.1 ∙ ap r.at.seat_of same ∙ mine_role.1)) was.0, was.1);
                  busy = known.busy;
                  seen = is.sight z (λ b h. apart (sym (known.roles w b h).1 ∙ mine_role.1)) known.seen;
                })
                record {
                  held = λ k p h. mine.held k p (sym (same_hand m) ∙ h);
                  roles = λ a b h.
                      let it : a ≡ w = alone m a b h in
                      let same : Some (y m) ≡ Some b = sym (now m) ∙ ap (λ (z : ℕ). has z u) (sym it) ∙ h in
                      let yb : y (word i r.core) ≡ b = ap y (sym is_word) ∙ (let z : y m ≡ b = cc in z) in
                      (subst (λ (z : ℕ × W). IsRole z.0 z.1 c') (λ i. (sym it i, yb i)) is.mine, ap r.at.seat_of it ∙ mine_role.1);
                  busy = λ k p h. (w, y m, now m);
                  seen = subst (sees c') uu went.2;
                };
            kept = is.kept;
          },
          subst (λ (z : ℕ). then z (t z, carried)) (sym is_word) (told r.core r.kept mine_role.0 mine.seen),
        )

  -- a part is taken: the seat has it in hand, and learns what is true of it; or it is out, and the word stays above 0
  module _ (n e id k : ℕ) (v : V) (idle : hand v ≡ None) (low : k < n) (w : ℕ) (x : W) (is_mine : has w v ≡ Some x) (f : ℕ → ℕ) (up : (m : ℕ) → 0 < f m)
      (t : P → V) (in_hand : (p : P) → hand (t p) ≡ Some (k, p)) (same_roles : (p : P) (u : ℕ) → has u (t p) ≡ has u v) (sight : (c : C) (p : P) → sees c v → sees c (t p))
      (then : ℕ → Me (Option P) V → Type 0)
      (told : (c : C) (p : P) → meets c → IsPart k p c → ((u : ℕ) (z : W) → has u v ≡ Some z → IsRole u z c) → sees c v → then 0 (t p, (k, Some p) ∷ []))
      (missed : (m : ℕ) → m ≢ 0 → then m (v, [])) where
    abbrev TakesAt : TableState → Type 0
    TakesAt s = (w : V) × (a : Act (Option P)) × Valid s.homes [] a
        × Rule n e (stepped s (8 * k) (f (slice_index s.words (8 * k))) id [] w a) × then (slice_index s.words (8 * k)) (w, carried_after [] a)

    takes_home : (s : TableState) (r : Rule n e s) → get_elem? s.views id ≡ some v → length s.homes ≡ n → r.at.out k ≡ false → TakesAt s
    takes_home s r at len home =
        let p : P = r.at.part k in
        let u : V = t p in
        let is = (r.each_part k low).home home in
        let mine = r.each_view id v at in
        let m : ℕ = f (slice_index s.words (8 * k)) in
        let new : Places P = places_put r.at k p true id in
        let part_same : (j : ℕ) → put r.at.part k p j ≡ r.at.part j = (λ j. dite (ℕ_discrete j k) (λ same. put_here r.at.part k p j same ∙ ap r.at.part (sym same)) (λ apart. put_else r.at.part k p j apart)) in (
          u,
          takes k (Some p),
          is.1,
          record {
            core = r.core;
            at = new;
            wide = length-set s.words (8 * k) m ∙ r.wide;
            slots = (let d = length-set s.homes k none in let g = r.slots in omega arith);
            numbers = λ i l. get_or-set_other s.words (8 * k) (8 * (n + i)) m 0 (λ z. omega arith) ∙ r.numbers i l;
            is_part = λ j l. subst (λ (z : P). IsPart j z r.core) (sym (part_same j)) (r.is_part j l);
            each_part = λ j l. dite (ℕ_discrete j k)
                (λ same. record {
                  home = λ o. absurd (true≢false (sym (put_here r.at.out k true j same) ∙ o));
                  away = λ _. (
                    subst (λ (z : ℕ). 0 < z) (sym (ap (λ (i : ℕ). get_or (set s.words (8 * k) m) (8 * i) 0) same ∙ get_or-set_same s.words (8 * k) m 0 (let d = r.wide in omega arith))) (up (slice_index s.words (8 * k))),
                    ap (get_elem? (set s.homes k none)) same ∙ set_here s.homes k none (omega arith),
                    (
                      u,
                      ap (get_elem? (set s.views id u)) (put_here r.at.holder k id j same) ∙ set_here s.views id u (inside s.views id v at),
                      in_hand p ∙ ap (λ (z : ℕ × P). Some z) (λ i. (sym same i, sym (put_here r.at.part k p j same) i)),
                    ),
                  );
                })
                (λ apart. others_stay s r.at k m j id p none true v u apart at (λ h. cc) (r.each_part j l));
            each_view = each_set (Seen n r.core new) s.views id u
                (λ j z apart g. let known = r.each_view j z g in record {
                  held = λ k' q h.
                      let was = known.held k' q h in
                      let other : k' ≢ k = λ same. true≢false (sym was.2 ∙ ap r.at.out same ∙ home) in
                      (was.0, part_same k' ∙ was.1, put_else r.at.out k true k' other ∙ was.2, put_else r.at.holder k id k' other ∙ was.3);
                  roles = known.roles;
                  busy = known.busy;
                  seen = known.seen;
                })
                record {
                  held = λ k' q h.
                      let some_pair : Some (k, p) ≡ Some (k', q) = sym (in_hand p) ∙ h in
                      let pair : (k, p) ≡ (k', q) = cc in
                      let same : k' ≡ k = sym (ap (λ (z : ℕ × P). z.0) pair) in
                      (subst (λ (z : ℕ). z < n) (sym same) low, part_same k' ∙ ap r.at.part same ∙ ap (λ (z : ℕ × P). z.1) pair, put_here r.at.out k true k' same, put_here r.at.holder k id k' same);
                  roles = λ a z h. mine.roles a z (sym (same_roles p a) ∙ h);
                  busy = λ _ _ _. (w, x, same_roles p w ∙ is_mine);
                  seen = sight r.core p mine.seen;
                };
            kept = r.kept;
          },
          subst (λ (m : ℕ). then m (u, (k, Some p) ∷ [])) (sym is.0) (told r.core p r.kept (r.is_part k low) (λ a z h. (mine.roles a z h).0) mine.seen),
        )

    waits : (s : TableState) (r : Rule n e s) → get_elem? s.views id ≡ some v → r.at.out k ≡ true → TakesAt s
    waits s r at out =
        let is = (r.each_part k low).away out in
        let m : ℕ = f (slice_index s.words (8 * k)) in (
          v,
          keeps,
          tt,
          subst (λ (z : List V). Rule n e (record { words = set s.words (8 * k) m; homes = s.homes; views = z })) (sym (set_again s.views id v at)) (record {
            core = r.core;
            at = r.at;
            wide = length-set s.words (8 * k) m ∙ r.wide;
            slots = r.slots;
            numbers = λ i l. get_or-set_other s.words (8 * k) (8 * (n + i)) m 0 (λ z. omega arith) ∙ r.numbers i l;
            is_part = r.is_part;
            each_part = λ j l. dite (ℕ_discrete j k)
                (λ same. record {
                  home = λ o. absurd (true≢false (sym out ∙ ap r.at.out (sym same) ∙ o));
                  away = λ o. let was = (r.each_part j l).away o in (
                    subst (λ (z : ℕ). 0 < z) (sym (ap (λ (i : ℕ). get_or (set s.words (8 * k) m) (8 * i) 0) same ∙ get_or-set_same s.words (8 * k) m 0 (let d = r.wide in omega arith))) (up (slice_index s.words (8 * k))),
                    was.1,
                    was.2,
                  );
                })
                (λ apart. let was = r.each_part j l in record {
                  home = λ o. (get_or-set_other s.words (8 * k) (8 * j) m 0 (λ z. apart (omega arith)) ∙ (was.home o).0, (was.home o).1);
                  away = λ o. (subst (λ (z : ℕ). 0 < z) (sym (get_or-set_other s.words (8 * k) (8 * j) m 0 (λ z. apart (omega arith)))) (was.away o).0, (was.away o).1, (was.away o).2);
                });
            each_view = r.each_view;
            kept = r.kept;
          }),
          missed (slice_index s.words (8 * k)) (λ z. absurd (let o = is.0 in omega arith)),
        )

    pub takes_part : Allows (Rule n e) n id (v, []) (8 * k) f then
    takes_part s r len at _ =
        let go : (b : Bool) → r.at.out k ≡ b → TakesAt s = λ b. elim b as (λ b. r.at.out k ≡ b → TakesAt s) [ true ↦ λ o. waits s r at o | false ↦ λ o. takes_home s r at len o ] in
        go (r.at.out k) refl

  part_stays : (s : TableState) (at at' : Places P) (vs : List V) (k : ℕ) → at'.part k ≡ at.part k → at'.out k ≡ at.out k → at'.holder k ≡ at.holder k
      → (Held s.views (at.holder k) k (at.part k) → Held vs (at.holder k) k (at.part k)) → Part s at k → Part (record { words = s.words; homes = s.homes; views = vs }) at' k
  part_stays s at at' vs k part out holder stays is = record {
    home = λ o. let was = is.home (sym out ∙ o) in (was.0, was.1 ∙ ap (λ (p : P). some (some (Some p))) (sym part));
    away = λ o. let was = is.away (sym out ∙ o) in (was.0, was.1, subst (λ (z : ℕ × P). Held vs z.0 k z.1) (λ i. (sym holder i, sym part i)) (stays was.2));
  }

  -- a seat with nothing in hand gives a role r to a new seat, with a turn of the state that the role takes part in (or none)
  pub splits_role : (n e id r : ℕ) (v l o : V) (x y : W) → hand v ≡ None → hand l ≡ None → hand o ≡ None → has r v ≡ Some x → has r o ≡ Some y
      → ((u : ℕ) (z : W) → has u l ≡ Some z → (u ≢ r) × (has u v ≡ Some z)) → ((u : ℕ) (z : W) → has u o ≡ Some z → u ≡ r)
      → ((c : C) → meets c → ((u : ℕ) (z : W) → has u v ≡ Some z → IsRole u z c) → sees c v → (c' : C) × Turn n c c' n r y × sees c' l × sees c' o × ((i : ℕ) → i < e → word i c' ≡ word i c))
      → Splits (Rule n e) id v l o
  splits_role n e id r v l o x y idle rest bare is new left alone turn s rule here =
      let mine = rule.each_view id v here in
      let mine_role = mine.roles r x is in
      let vs : List V = set s.views id l in
      let went = turn rule.core rule.kept (λ u z h. (mine.roles u z h).0) mine.seen in
      let c' : C = went.0 in
      let step = went.1 in
      let at' : Places P = record { part = rule.at.part; out = rule.at.out; holder = rule.at.holder; seat_of = put rule.at.seat_of r (length vs) } in record {
        core = c';
        at = at';
        wide = rule.wide;
        slots = rule.slots;
        numbers = λ i q. rule.numbers i q ∙ sym (went.4 i q);
        is_part = λ k l. step.parts k (rule.at.part k) l (λ z. omega arith) (rule.is_part k l);
        each_part = λ k q. part_stays s rule.at at' (vs ++ o ∷ []) k refl refl refl
            (λ t. let u = kept_hand s id v l here (rest ∙ sym idle) (rule.at.holder k) k (rule.at.part k) t in (u.0, at_longer vs (o ∷ []) (rule.at.holder k) u.0 u.1, u.2)) (rule.each_part k q);
        each_view = each_end (Seen n c' at') vs o
            (each_set (Seen n c' at') s.views id l
            (λ j u apart f. let known = rule.each_view j u f in record {
              held = known.held;
              roles = λ a z h.
                  let was = known.roles a z h in
                  let other : a ≢ r = λ same. apart (sym was.1 ∙ ap rule.at.seat_of same ∙ mine_role.1) in
                  (step.others a z other was.0, put_else rule.at.seat_of r (length vs) a other ∙ was.1);
              busy = known.busy;
              seen = step.sight u (λ b h. apart (sym (known.roles r b h).1 ∙ mine_role.1)) known.seen;
            })
            record {
              held = λ _ _ h. absurd (cc);
              roles = λ a z h. let old = left a z h in let was = mine.roles a z old.1 in (step.others a z old.0 was.0, put_else rule.at.seat_of r (length vs) a old.0 ∙ was.1);
              busy = λ _ _ h. absurd (cc);
              seen = went.2;
            })
            record {
              held = λ _ _ h. absurd (cc);
              roles = λ a z h.
                  let it = alone a z h in
                  let same : Some y ≡ Some z = sym new ∙ ap (λ (b : ℕ). has b o) (sym it) ∙ h in
                  let yz : y ≡ z = cc in
                  (subst (λ (b : ℕ × W). IsRole b.0 b.1 c') (λ i. (sym it i, yz i)) step.mine, put_here rule.at.seat_of r (length vs) a it);
              busy = λ _ _ h. absurd (cc);
              seen = went.3;
            };
        kept = step.kept;
      }

  abbrev moved_to : (ℕ → ℕ) → ℕ → ℕ → ℕ → ℕ
  moved_to f other id u = cond (f u == other) id (f u)

  -- a seat takes in the roles of another
  pub joins_roles : (n e id : ℕ) (v : V) (other : ℕ) (w b gone : V) → hand v ≡ None → hand w ≡ None → hand b ≡ None → hand gone ≡ None
      → ((u : ℕ) (z : W) → has u b ≡ Some z → (has u w ≡ Some z) ⊎ (has u v ≡ Some z)) → ((u : ℕ) (z : W) → has u gone ≡ Some z → ⊥) → ((c : C) → meets c → sees c v → sees c w → sees c b) → ((c : C) → meets c → sees c gone)
      → Joins (Rule n e) id v other w b gone
  joins_roles n e id v other w b gone idle rests bare empty either_of none_of sight nothing s rule here apart found =
      let mine = rule.each_view id v here in
      let was_there : get_elem? s.views other ≡ some w = sym (set_else s.views id other b apart) ∙ found in
      let theirs = rule.each_view other w was_there in
      let vs : List V = set s.views id b in
      let mid : TableState = record { words = s.words; homes = s.homes; views = vs } in
      let at' : Places P = record { part = rule.at.part; out = rule.at.out; holder = rule.at.holder; seat_of = moved_to rule.at.seat_of other id } in
      let stays : (u j : ℕ) → rule.at.seat_of u ≡ j → j ≢ other → moved_to rule.at.seat_of other id u ≡ j = λ u j q a.
      ap (λ t. cond t id (rule.at.seat_of u)) (ne_eqb (rule.at.seat_of u) other (λ z. a (sym q ∙ z))) ∙ q in
      let comes : (u : ℕ) → rule.at.seat_of u ≡ other → moved_to rule.at.seat_of other id u ≡ id = λ u q. ap (λ t. cond t id (rule.at.seat_of u)) (eq-eqb (rule.at.seat_of u) other q) in record {
        core = rule.core;
        at = at';
        wide = rule.wide;
        slots = rule.slots;
        numbers = rule.numbers;
        is_part = rule.is_part;
        each_part = λ k l. part_stays s rule.at at' (set vs other gone) k refl refl refl
            (λ t. holder_stays mid (rule.at.holder k) other k w gone (rule.at.part k) found (λ h. cc) (kept_hand s id v b here (bare ∙ sym idle) (rule.at.holder k) k (rule.at.part k) t)) (rule.each_part k l);
        each_view = each_set (Seen n rule.core at') vs other gone
            (λ j u off f. each_set (λ i t. i ≢ other → Seen n rule.core at' i t) s.views id b
            (λ i t away f' no_other. let known = rule.each_view i t f' in record {
              held = known.held;
              roles = λ a y h. let was = known.roles a y h in (was.0, stays a i was.1 no_other);
              busy = known.busy;
              seen = known.seen;
            })
            (λ _. record {
              held = λ _ _ h. absurd (cc);
              roles = λ a y h. ⊎_elim
                  (λ (q : has a w ≡ Some y). let was = theirs.roles a y q in (was.0, comes a was.1))
                  (λ (q : has a v ≡ Some y). let was = mine.roles a y q in (was.0, stays a id was.1 (λ z. apart (sym z))))
                  (either_of a y h);
              busy = λ _ _ h. absurd (cc);
              seen = sight rule.core rule.kept mine.seen theirs.seen;
            })
            j u f off)
            record {
              held = λ _ _ h. absurd (cc);
              roles = λ a y h. absurd (none_of a y h);
              busy = λ _ _ h. absurd (cc);
              seen = nothing rule.core rule.kept;
            };
        kept = rule.kept;
      }

  abbrev pub Closes : ℕ → ℕ → V → List ℕ → List (Option P) → Type 0
  Closes n e v ws xs =
      (c : C) × meets c × sees c v × ((k : ℕ) → k < n → (p : P) × IsPart k p c × (get_elem? xs k ≡ some (Some p))) × ((u : ℕ) (x : W) → has u v ≡ Some x → IsRole u x c)
      × ((i : ℕ) → i < e → slice_index ws (8 * (n + i)) ≡ word i c)

  -- the seat has each role that the state has, and so every part is at home
  pub closes_all : (n e id : ℕ) (v : V) (ws : List ℕ) (xs : List (Option P)) → hand v ≡ None → ((c : C) (u : ℕ) (x : W) → meets c → sees c v → IsRole u x c → (y : W) × (has u v ≡ Some y)) → Final (SeenBy (Rule n e) id v) ws xs → Closes n e v ws xs
  closes_all n e id v ws xs idle all (s, (rule, here), words, len, slots) =
      let mine = rule.each_view id v here in (
        rule.core,
        rule.kept,
        mine.seen,
        (λ k l.
            let is = rule.each_part k l in
            let go : (b : Bool) → rule.at.out k ≡ b → get_elem? xs k ≡ some (Some (rule.at.part k)) = λ b. elim b as (λ b. rule.at.out k ≡ b → get_elem? xs k ≡ some (Some (rule.at.part k))) [
              | true ↦ λ out.
                  let t = (is.away out).2 in
                  let known = rule.each_view (rule.at.holder k) t.0 t.1 in
                  let who = known.busy k (rule.at.part k) t.2 in
                  let its = known.roles who.0 who.1 who.2 in
                  let head = all rule.core who.0 who.1 rule.kept mine.seen its.0 in
                  let same : rule.at.holder k ≡ id = sym its.1 ∙ (mine.roles who.0 head.0 head.1).1 in
                  let it : v ≡ t.0 = some-injective v t.0 (sym here ∙ ap (get_elem? s.views) (sym same) ∙ t.1) in
                  absurd (let h : hand v ≡ Some (k, rule.at.part k) = ap hand it ∙ t.2 in cc)
              | false ↦ λ home. slots k (Some (rule.at.part k)) (is.home home).1
            ] in (rule.at.part k, rule.is_part k l, go (rule.at.out k) refl)),
        (λ u x f. (mine.roles u x f).0),
        (λ i l. ap (λ (z : List ℕ). slice_index z (8 * (n + i))) (sym words) ∙ rule.numbers i l),
      )

  -- a load of the word i after the turns, by any seat: the state stays, and the view may know more of it
  module _ (n e id i : ℕ) (v : V) (carried : List (ℕ × Option P)) (low : i < e) (t : ℕ → V) (same_hand : (m : ℕ) → hand (t m) ≡ hand v) (same_roles : (m u : ℕ) → has u (t m) ≡ has u v)
      (sight : (c : C) → meets c → sees c v → sees c (t (word i c))) where
    pub loads_word : (then : ℕ → Me (Option P) V → Type 0) → ((c : C) → meets c → sees c v → then (word i c) (t (word i c), carried)) → Allows (Rule n e) n id (v, carried) (8 * (n + i)) (λ m. m) then
    loads_word then told s r len at _ =
        let m : ℕ = slice_index s.words (8 * (n + i)) in
        let is_word : m ≡ word i r.core = r.numbers i low in
        let mine = r.each_view id v at in
        let u : V = t m in
        let at_word : 8 * (n + i) < length s.words = (let d = r.wide in omega arith) in (
          u,
          keeps,
          tt,
          subst (λ (ws : List ℕ). Rule n e (record { words = ws; homes = s.homes; views = set s.views id u })) (sym (same_word s.words (8 * (n + i)) at_word)) (record {
            core = r.core;
            at = r.at;
            wide = r.wide;
            slots = r.slots;
            numbers = r.numbers;
            is_part = r.is_part;
            each_part = λ k l. part_stays s r.at r.at (set s.views id u) k refl refl refl (kept_hand s id v u at (same_hand m) (r.at.holder k) k (r.at.part k)) (r.each_part k l);
            each_view = each_set (Seen n r.core r.at) s.views id u (λ j z _ g. r.each_view j z g)
                record {
                  held = λ k p h. mine.held k p (sym (same_hand m) ∙ h);
                  roles = λ a b h. mine.roles a b (sym (same_roles m a) ∙ h);
                  busy = λ k p h. let who = mine.busy k p (sym (same_hand m) ∙ h) in (who.0, who.1, same_roles m who.0 ∙ who.2);
                  seen = subst (λ (z : ℕ). sees r.core (t z)) (sym is_word) (sight r.core r.kept mine.seen);
                };
            kept = r.kept;
          }),
          subst (λ (z : ℕ). then z (t z, carried)) (sym is_word) (told r.core r.kept mine.seen),
        )
      where
        same_word : (ws : List ℕ) (j : ℕ) → j < length ws → set ws j (slice_index ws j) ≡ ws
        same_word [] j l = absurd (omega arith)
        same_word (y ∷ ys) zero l = refl
        same_word (y ∷ ys) (suc j) l = ap (λ (l : List ℕ). y ∷ l) (same_word ys j (omega arith))

  -- the table at the beginning: every part at home, the turns and the first view as the state has them
  pub opens : (n e : ℕ) (c : C) (part : ℕ → P) (v : V) (ws : List ℕ) (xs : List (Option P)) → length ws ≡ 8 * (n + e) → length xs ≡ n → ((k : ℕ) → k < n → slice_index ws (8 * k) ≡ 0) → ((k : ℕ) → k < n → get_elem? xs k ≡ some (Some (part k)))
      → ((i : ℕ) → i < e → slice_index ws (8 * (n + i)) ≡ word i c) → ((k : ℕ) → k < n → IsPart k (part k) c) → hand v ≡ None → ((u : ℕ) (x : W) → has u v ≡ Some x → IsRole u x c) → sees c v → meets c → Rule n e (opening ws xs v)
  opens n e c part v ws xs wide count free at_home numbers parts idle roles seen kept = record {
    core = c;
    at = record { part = part; out = λ k. false; holder = λ k. 0; seat_of = λ u. 0 };
    wide = wide;
    slots = (let a = mapped_length xs in omega arith);
    numbers = numbers;
    is_part = parts;
    each_part = λ k l. record { home = λ _. (free k l, at_map xs k (Some (part k)) (at_home k l)); away = λ o. absurd (true≢false (sym o)) };
    each_view = λ j u found. first_only j u found;
    kept = kept;
  }
    where
      mapped_length : (ys : List (Option P)) → length (map some ys) ≡ length ys
      mapped_length [] = refl
      mapped_length (y ∷ ys) = ap suc (mapped_length ys)

      at_map : (ys : List (Option P)) (k : ℕ) (y : Option P) → get_elem? ys k ≡ some y → get_elem? (map some ys) k ≡ some (some y)
      at_map [] k y e = absurd (some-ne-none y (sym e))
      at_map (z ∷ ys) zero y e = ap some e
      at_map (z ∷ ys) (suc k) y e = at_map ys k y e

      first_only : (j : ℕ) (u : V) → get_elem? (v ∷ []) j ≡ some u → Seen n c (record { part = part; out = λ k. false; holder = λ k. 0; seat_of = λ u. 0 }) j u
      first_only zero u e =
          let it : v ≡ u = some-injective v u e in
          subst (λ (z : V). Seen n c (record { part = part; out = λ k. false; holder = λ k. 0; seat_of = λ u. 0 }) zero z) it
          (record { held = λ k p h. absurd (cc); roles = λ w x h. (roles w x h, refl); busy = λ k p h. absurd (cc); seen = seen })
      first_only (suc j) u e = absurd (some-ne-none u (sym e))
