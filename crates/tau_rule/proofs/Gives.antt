-- What the steps of the desk ask of the table.
use Rattle.std.proofs.Common.{◌≡◌, ℕ, zero, suc, ◌+◌, ◌*◌, ◌<◌, ◌==◌, Bool, List, [], ◌∷◌, Option, refl, sym, ap, ◌∙◌, subst, arith, ne_eqb}
use Rattle.std.specs.Prelude.{Some, None}
use mathlib.Core.Option.{none}
use prog.Atomic.{either}
use Rattle.atomic_table.specs.Table.{Step, step, Allows}
use Rattle.tau_shown.proofs.Steps.{gives_part, takes_part}
use Rattle.tau_shard.specs.Shard.{Shard}
use Rattle.tau_machine.specs.Worker.{Worker}
use Rattle.tau_machine.specs.Events.{Event}
use Rattle.tau_shard.proofs.At.{at_same}
use Rattle.tau_txn.specs.Txn.{PlainTxn}
use Rattle.tau_core.specs.State.{Plain}
use Rattle.tau_occ.specs.declared.style.Style.{Style}
use Rattle.tau_rule.specs.Role.{Working, Role, role_in}
use Rattle.tau_rule.specs.Knows.{Knows}
use Rattle.tau_rule.specs.Rule.{PersistsNone, Now, Rule, IsPart, IsRole, Sees, Meets, word_of, hand_of, has, part_count}
use Rattle.tau_rule.specs.Steps.{Sat, Agrees, Took, ComesHome, idle, holding, took, gave, handed, told, first_role, worker_in_share, next_worker, working, shard_in, StepsShard}
use Rattle.tau_rule.specs.declared.part.Part.{Part}
use Rattle.tau_rule.proofs.Turns.{on_shard, on_shard_turn, handed_sees, part_shard, shard_part, share_worker, one_role, role_alone, alone}

abbrev extra : Plain → ℕ
extra origin = origin.load.streams + origin.load.streams + 1

pub one_origin : (a b : Plain) → Some a ≡ Some b → a ≡ b
one_origin a b e = cc

-- a part is taken, by a step that leaves the turn's word above 0
pub takes : (origin : Plain) {style : Style} (id k : ℕ) (v : Knows) (w : ℕ) (x : Role) (f : ℕ → ℕ) (st : Step (Option Part)) → ((m : ℕ) → 0 < f m) → st.word ≡ 8 * k → v.hand ≡ None → k < part_count origin.load → v.opened ≡ Some origin → has w v ≡ Some x
    → Allows (Rule origin style) (part_count origin.load) id (v, []) (8 * k) f (took st (v, []))
takes origin {style} id k v w x f st up word idle low opened is =
    takes_part (IsPart origin.load) (IsRole origin.load) (word_of origin.load) hand_of has (Sees origin) (Meets origin style) (part_count origin.load) (extra origin) id k v idle low w x is f up
    (holding k v) (λ p. refl) (λ p u. refl) (λ c p h. record { opened = h.opened; wide = h.wide; low = h.low; own = h.own; read = h.read; found = h.found })
    (took st (v, []))
    (λ c p m part roles seen. (
      (λ _ k' at.
          let same : k ≡ k' = (let e : 8 * k ≡ 8 * k' = sym word ∙ at in omega arith) in
          let agrees : Agrees origin v k p = record { style = style; state = c; meets = m; part = part; roles = roles; seen = seen } in
          let told : (o : Plain) → v.opened ≡ Some o → Agrees o v k p = λ o e. subst (λ (o : Plain). Agrees o v k p) (one_origin origin o (sym opened ∙ e)) agrees in
          let me : Sat = (holding k v p, (k, Some p) ∷ []) in
          subst (λ (z : ℕ). (q : Part) × (me ≡ (holding z v q, (z, Some q) ∷ [])) × ((o : Plain) → v.opened ≡ Some o → Agrees o v z q)) same (p, refl, told)),
      (λ nz. absurd (nz refl)),
    ))
    (λ m nz. ((λ z. absurd (nz z)), (λ _. refl)))

-- a shard comes home, with an event of the worker on it
pub gives_shard : (origin : Plain) {style : Style} (id k : ℕ) (v : Knows) (p q : Part) (w : ℕ) (x : Role) (wk wk' : Worker) (sh sh' : Shard) (e : Event) →
    v.opened ≡ Some origin → v.hand ≡ Some (k, p) → v.roles ≡ (w, x) ∷ [] → x.share ≡ Working wk → shard_in p ≡ Some sh → shard_in q ≡ Some sh' → w < origin.load.workers → StepsShard origin style e w wk wk' k sh sh' → PersistsNone e
    → ComesHome origin style id v k q (handed v w (working x wk'))
gives_shard origin {style} id k v p q w x wk wk' sh sh' e opened held roles share was is wide steps silent =
    let y : Role = working x wk' in
    gives_part (IsPart origin.load) (IsRole origin.load) (word_of origin.load) hand_of has (Sees origin) (Meets origin style) (part_count origin.load) (extra origin) id k v (handed v w y) p q w x y held (one_role v w x roles) refl
    (role_alone w y) (λ u z h. alone w y u z h)
    (λ c m part mine seen.
    let worker = share_worker origin w x.share wk c share mine.0 in
    let shard = part_shard origin c k p sh was part in
    let led = steps c.core m.reached worker.1 shard.1 in
    let c' : Now = on_shard origin c w k x wk' sh' wide shard.0 in (
      c',
      on_shard_turn origin c w k x wk' sh' wide shard.0 e led.0 m mine led.1 led.2 silent,
      shard_part origin c' k q sh' is shard.0 (at_same k sh' c.core.shards),
      handed_sees origin c' v w x y wide opened (one_role v w x roles) (record { opened = seen.opened; wide = seen.wide; low = seen.low; own = seen.own; read = seen.read; found = seen.found }),
      (λ i low. refl),
    ))
    (λ found m. m ≡ (handed v w y, []))
    (λ m. refl)

-- the same, at a seat and a table as the code has them

one_up : (m : ℕ) → 0 < either (m == 0) 1 m
one_up zero = omega arith
one_up (suc m) = subst (λ (b : Bool). 0 < either b 1 (suc m)) (sym (ne_eqb (suc m) 0 (λ e. omega arith))) (omega arith)

pub takes_as : (origin : Plain) {style : Style} (slots id k : ℕ) (me : Sat) (w : ℕ) (x : Role) → slots ≡ part_count origin.load → me.1 ≡ [] → me.0.hand ≡ None → k < part_count origin.load → me.0.opened ≡ Some origin → has w me.0 ≡ Some x
    → Allows (Rule origin style) slots id me (8 * k) (λ m. either (m == 0) 1 m) (took (step slots (8 * k) 0 1 none) me)
takes_as origin {style} slots id k me w x es bare idle low opened is =
    subst (λ (z : ℕ × List (ℕ × Option Part)). Allows (Rule origin style) z.0 id (me.0, z.1) (8 * k) (λ m. either (m == 0) 1 m) (took (step z.0 (8 * k) 0 1 none) (me.0, z.1))) (λ i. (sym es i, sym bare i))
    (takes origin id k me.0 w x (λ m. either (m == 0) 1 m) (step (part_count origin.load) (8 * k) 0 1 none) one_up refl idle low opened is)

abbrev second_of : List (ℕ × Option Part) → Option Part
second_of [] = None
second_of (x ∷ xs) = x.1

pub first : {k : ℕ} {a b : Option Part} {xs ys : List (ℕ × Option Part)} → (k, a) ∷ xs ≡ (k, b) ∷ ys → a ≡ b
first e = ap second_of e

pub told_is : (origin : Plain) (v : Knows) (t : PlainTxn) (w : ℕ) (x : Role) (wk : Worker) → v.roles ≡ (w, x) ∷ [] → x.share ≡ Working wk → told origin.load v t ≡ handed v w (working x (next_worker origin.load wk t))
told_is origin v t w x wk roles share = λ i. handed v (first_role (roles i)).0 (working (first_role (roles i)).1 (next_worker origin.load ((ap (λ (r : List (ℕ × Role)). worker_in_share (first_role r).1.share) roles ∙ ap worker_in_share share) i) t))

-- a part comes home as it was
pub gives_same : (origin : Plain) {style : Style} (id k : ℕ) (v : Knows) (p q : Part) (w : ℕ) (x : Role) → v.opened ≡ Some origin → v.hand ≡ Some (k, p) → v.roles ≡ (w, x) ∷ [] → ((c : Now) → IsPart origin.load k p c → IsPart origin.load k q c)
    → ComesHome origin style id v k q (idle v)
gives_same origin {style} id k v p q w x opened held roles same =
    gives_part (IsPart origin.load) (IsRole origin.load) (word_of origin.load) hand_of has (Sees origin) (Meets origin style) (part_count origin.load) (extra origin) id k v (idle v) p q w x x held (one_role v w x roles) refl
    (one_role v w x roles) (λ u z h. alone w x u z (sym (ap (role_in u) roles) ∙ h))
    (λ c m part mine seen. (
      c,
      record { parts = λ j r low apart h. h; mine = mine; others = λ u y apart h. h; sight = λ u none h. h; kept = m },
      same c part,
      record { opened = seen.opened; wide = seen.wide; low = seen.low; own = seen.own; read = seen.read; found = seen.found },
      (λ i low. refl),
    ))
    (λ found m. m ≡ (idle v, []))
    (λ m. refl)

-- the same at a seat and a table as the code has them
pub comes_home_as : (origin : Plain) {style : Style} (slots id was k : ℕ) (me : Sat) (q : Part) (before knows : Knows) → slots ≡ part_count origin.load → id ≡ was → me.1 ≡ (k, Some q) ∷ [] → me.0 ≡ before → ComesHome origin style was before k q knows
    → Allows (Rule origin style) slots id me (8 * k) (λ _. 0) (λ _. gave knows (step slots (8 * k) 0 0 none) me 0)
comes_home_as origin {style} slots id was k me q before knows es same_id carried same home =
    subst (λ (z : (ℕ × ℕ) × Sat). Allows (Rule origin style) z.0.0 z.0.1 z.1 (8 * k) (λ _. 0) (λ _. gave knows (step z.0.0 (8 * k) 0 0 none) z.1 0)) (λ i. ((sym es i, sym same_id i), (sym same i, sym carried i))) home

pub takes_swap_as : (origin : Plain) {style : Style} (slots id k : ℕ) (me : Sat) (w : ℕ) (x : Role) → slots ≡ part_count origin.load → me.1 ≡ [] → me.0.hand ≡ None → k < part_count origin.load → me.0.opened ≡ Some origin → has w me.0 ≡ Some x
    → Allows (Rule origin style) slots id me (8 * k) (λ _. 2) (took (step slots (8 * k) 2 0 none) me)
takes_swap_as origin {style} slots id k me w x es bare idle low opened is =
    subst (λ (z : ℕ × List (ℕ × Option Part)). Allows (Rule origin style) z.0 id (me.0, z.1) (8 * k) (λ _. 2) (took (step z.0 (8 * k) 2 0 none) (me.0, z.1))) (λ i. (sym es i, sym bare i))
    (takes origin id k me.0 w x (λ _. 2) (step (part_count origin.load) (8 * k) 2 0 none) (λ m. omega arith) refl idle low opened is)

pub took_has : (origin : Plain) (k : ℕ) (m m' : Sat) → Took origin k m m' → (p : Part) × (m'.1 ≡ (k, Some p) ∷ [])
took_has origin k m m' t = (t.0, ap (λ (x : Sat). x.1) t.1)

some_same : (p q : Part) → Some p ≡ Some q → p ≡ q
some_same p q e = cc

-- a part that was taken is lifted out of its slot
pub lifted : (origin : Plain) (k : ℕ) (m m' m'' : Sat) (r : Part) → Took origin k m m' → m'.1 ≡ (k, Some r) ∷ [] → m'' ≡ (m'.0, (k, None) ∷ []) → (m'' ≡ (holding k m.0 r, (k, None) ∷ [])) × Agrees origin m.0 k r
lifted origin k m m' m'' r t has is =
    let same : t.0 ≡ r = some_same t.0 r (first (sym (ap (λ (x : Sat). x.1) t.1) ∙ has)) in
    (is ∙ ap (λ (x : Sat). (x.0, (k, None) ∷ [])) t.1 ∙ (λ i. (holding k m.0 (same i), (k, None) ∷ [])), subst (λ (p : Part). Agrees origin m.0 k p) same t.2)
