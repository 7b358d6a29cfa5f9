-- The head raises the stop.
use Rattle.std.proofs.Common.{◌≡◌, ℕ, ◌+◌, ◌-◌, ◌<◌, ◌==◌, cond, inl, inr, true, false, Bool, List, [], ◌∷◌, Option, refl, sym, ap, ◌∙◌, subst, arith, eq-eqb, ne_eqb}
use Rattle.std.specs.Prelude.{Some, None, if◌then◌else◌, nat_le, slice_index}
use Rattle.std.proofs.lemmas.Bool.{cases_eq}
use mathlib.Core.Option.{none}
use Rattle.atomic_table.specs.Table.{Step, step, Allows}
use Rattle.tau_shard.specs.Shard.{at}
use Rattle.tau_shard.proofs.At.{at_same, at_other}
use Rattle.tau_core.specs.State.{Plain}
use Rattle.tau_occ.specs.declared.style.Style.{Style}
use Rattle.tau_rule.specs.Role.{Role, role_in}
use Rattle.tau_rule.specs.Knows.{Knows}
use Rattle.tau_rule.specs.Rule.{Now, Rule, IsPart, IsRole, Sees, Meets, clerk_role, word_of, hand_of, has, part_count, manager_role, number_if, is_raised}
use Rattle.tau_rule.specs.Steps.{Sat, knew}
use Rattle.tau_rule.specs.Stopping.{stop_word}
use Rattle.tau_rule.specs.declared.part.Part.{Part}
use Rattle.tau_rule.specs.declared.part.Part.TheVariants as part
use Rattle.tau_desk.specs.Ends.{first_raised, told_head_raised}
use Rattle.tau_desk.specs.Seats.{IsHead}
use Rattle.tau_desk.specs.Shares.{PlainStock, PlainWork}
use Rattle.tau_desk.proofs.Closing.{in_range}
use Rattle.tau_desk.proofs.EndWords.{words_step_of}
use Rattle.tau_rule.proofs.Stopping.{raises}
use Rattle.tau_rule.proofs.Turns.{same_share}

-- a role that is there when the first one is raised was there before, and one that was there still is
was_there : (rs : List (ℕ × Role)) (k : ℕ) (z : Role) → role_in k (first_raised rs) ≡ Some z → (r : Role) × (role_in k rs ≡ Some r)
was_there [] k z h = absurd (let bad : None ≡ Some z = h in cc)
was_there (y ∷ ys) k z h = elim (cases_eq y.0 k) [
  | inl e ↦ (y.1, ap (λ b. cond b (Some y.1) (role_in k ys)) (eq-eqb y.0 k e))
  | inr ne ↦ (z, ap (λ b. cond b (Some y.1) (role_in k ys)) (ne_eqb y.0 k ne) ∙ sym (ap (λ b. cond b (Some (record y.1 { raised = true })) (role_in k ys)) (ne_eqb y.0 k ne)) ∙ h)
]

still_there : (rs : List (ℕ × Role)) (k : ℕ) (r : Role) → role_in k rs ≡ Some r → (z : Role) × (role_in k (first_raised rs) ≡ Some z) × (z.share ≡ r.share) × (z.spare ≡ r.spare)
still_there [] k r h = absurd (let bad : None ≡ Some r = h in cc)
still_there (y ∷ ys) k r h = elim (cases_eq y.0 k) [
  | inl e ↦
      let is : y.1 ≡ r = (let a : Some y.1 ≡ Some r = sym (ap (λ b. cond b (Some y.1) (role_in k ys)) (eq-eqb y.0 k e)) ∙ h in cc) in
      (record y.1 { raised = true }, ap (λ b. cond b (Some (record y.1 { raised = true })) (role_in k ys)) (eq-eqb y.0 k e), ap (λ (x : Role). x.share) is, ap (λ (x : Role). x.spare) is)
  | inr ne ↦ (r, ap (λ b. cond b (Some (record y.1 { raised = true })) (role_in k ys)) (ne_eqb y.0 k ne) ∙ sym (ap (λ b. cond b (Some y.1) (role_in k ys)) (ne_eqb y.0 k ne)) ∙ h, refl, refl)
]

pub first_there : (u : ℕ) (x : Role) (rs : List (ℕ × Role)) → role_in u ((u, x) ∷ rs) ≡ Some x
first_there u x rs = ap (λ b. cond b (Some x) (role_in u rs)) (eq-eqb u u refl)

others_there : (u k : ℕ) (x y : Role) (rs : List (ℕ × Role)) → (k ≡ u → ⊥) → role_in k ((u, x) ∷ rs) ≡ role_in k ((u, y) ∷ rs)
others_there u k x y rs ne = (let f : (u == k) ≡ false = ne_eqb u k (λ e. ne (sym e)) in ap (λ b. cond b (Some x) (role_in k rs)) f ∙ sym (ap (λ b. cond b (Some y) (role_in k rs)) f))

abbrev pub bound : Plain → ℕ
bound origin = origin.load.workers + origin.load.streams + 1

abbrev pub stop_at : Plain → ℕ
stop_at origin = origin.load.streams + origin.load.streams

pub word_stop : (origin : Plain) (c : Now) → word_of origin.load (stop_at origin) c ≡ number_if (is_raised (bound origin) c.raised)
word_stop origin c = ap (λ (b : Bool). if b then number_if (is_raised (bound origin) c.raised) else (if nat_le (stop_at origin + 1) origin.load.streams then slice_index c.core.ends (stop_at origin) else slice_index c.core.plv (stop_at origin - origin.load.streams)))
    (eq-eqb (stop_at origin) (stop_at origin) refl)

same_raised : (origin : Plain) (c : Now) (f : ℕ → Bool) (k : ℕ) (q : Part) → IsPart origin.load k q c → IsPart origin.load k q (record { core = c.core; raised = f; spare = c.spare; stored = c.stored })
same_raised origin c f k (part.Shard b) h = h
same_raised origin c f k (part.Outbox o p) h = h
same_raised origin c f k (part.Anchor n v) h = h

-- with the first of its roles
stops_first : (origin : Plain) {style : Style} (id u : ℕ) (m : Sat) (x : Role) (rs : List (ℕ × Role)) (st : Step (Option Part)) → m.0.roles ≡ (u, x) ∷ rs →
    Allows (Rule origin style) (part_count origin.load) id m (stop_word origin.load) (λ _. 1) (λ _. knew (λ _. told_head_raised m.0) st m 1)
stops_first origin {style} id u m x rs st is =
    let y : Role = record x { raised = true } in
    let v : Knows = told_head_raised m.0 in
    let mine_is : has u m.0 ≡ Some x = ap (role_in u) is ∙ first_there u x rs in
    words_step_of (IsPart origin.load) (IsRole origin.load) (word_of origin.load) hand_of has (Sees origin) (Meets origin style) (part_count origin.load) (stop_at origin + 1) id (stop_at origin) m.0 m.1 u x (omega arith) mine_is
    (λ _. 1) (λ _. v) (λ _. y) (λ _. refl) (λ _. ap (λ l. role_in u (first_raised l)) is ∙ first_there u y rs)
    (λ n k z ne h. ap (role_in k) is ∙ others_there u k x y rs ne ∙ sym (ap (λ l. role_in k (first_raised l)) is) ∙ h)
    (λ c meets mine sees.
    let c' : Now = record { core = c.core; raised = at u true c.raised; spare = c.spare; stored = c.stored } in
    let low : u < bound origin = in_range origin c u x.share mine.0 in
    let up : is_raised (bound origin) c'.raised ≡ true = raises (bound origin) u c.raised low in
    let stay : (v : Knows) → Sees origin c v → Sees origin c' v = (λ v h. record { opened = h.opened; wide = h.wide; low = h.low; own = h.own; read = h.read; found = λ _. up }) in
    let after = stay m.0 sees in (
      c',
      record {
        parts = λ k q lt apart h. same_raised origin c (at u true c.raised) k q h;
        mine = (same_share origin c (at u true c.raised) c.spare u x.share mine.0, at_same u true c.raised, mine.2);
        others = λ k z apart h. (same_share origin c (at u true c.raised) c.spare k z.share h.0, at_other u true c.raised k apart ∙ h.1, h.2);
        sight = λ v lacks h. stay v h;
        kept = record { reached = meets.reached; stored = meets.stored; going = meets.going; fits = meets.fits; anchors = meets.anchors; opened = meets.opened; limited = meets.limited; beyond = meets.beyond; shards = meets.shards; streams = meets.streams };
      },
      record {
        opened = λ k r e. (let o = was_there m.0.roles k r e in after.opened k o.0 o.1);
        wide = λ k r e. (let o = was_there m.0.roles k r e in after.wide k o.0 o.1);
        low = after.low;
        own = λ i r lt e. (let o = was_there m.0.roles (manager_role origin.load i) r e in after.own i o.0 lt o.1);
        read = λ w r lt e. (let o = was_there m.0.roles w r e in after.read w o.0 lt o.1);
        found = after.found;
      },
      word_stop origin c' ∙ ap number_if up,
      (λ i lt apart. ap (λ (b : Bool). if b then number_if (is_raised (bound origin) c'.raised) else (if nat_le (i + 1) origin.load.streams then slice_index c.core.ends i else slice_index c.core.plv (i - origin.load.streams))) (ne_eqb i (stop_at origin) apart)
          ∙ sym (ap (λ (b : Bool). if b then number_if (is_raised (bound origin) c.raised) else (if nat_le (i + 1) origin.load.streams then slice_index c.core.ends i else slice_index c.core.plv (i - origin.load.streams))) (ne_eqb i (stop_at origin) apart))),
    ))
    (λ _. knew (λ _. v) st m 1)
    (λ c meets mine sees. refl)

pub head_stops : (origin : Plain) {style : Style} (id k : ℕ) (m : Sat) (z : Role) (st : Step (Option Part)) → has k m.0 ≡ Some z → Allows (Rule origin style) (part_count origin.load) id m (stop_word origin.load) (λ _. 1) (λ _. knew (λ _. told_head_raised m.0) st m 1)
head_stops origin {style} id k m z st h = by_roles m.0.roles refl
  where
    by_roles : (rs : List (ℕ × Role)) → m.0.roles ≡ rs → Allows (Rule origin style) (part_count origin.load) id m (stop_word origin.load) (λ _. 1) (λ _. knew (λ _. told_head_raised m.0) st m 1)
    by_roles [] is = absurd (let bad : None ≡ Some z = sym (ap (role_in k) is) ∙ h in cc)
    by_roles (y ∷ ys) is = stops_first origin id y.0 m y.1 ys st is

pub head_stops_as : (origin : Plain) {style : Style} (slots id k word : ℕ) (m : Sat) (z : Role) (knows : ℕ → Knows) → slots ≡ part_count origin.load → has k m.0 ≡ Some z → word ≡ stop_word origin.load → knows ≡ (λ _. told_head_raised m.0)
    → Allows (Rule origin style) slots id m word (λ _. 1) (λ _. knew knows (step slots word 1 0 none) m 1)
head_stops_as origin {style} slots id k word m z knows es is at_word told =
    subst (λ (z : (ℕ × ℕ) × (ℕ → Knows)). Allows (Rule origin style) z.0.0 id m z.0.1 (λ _. 1) (λ _. knew z.1 (step z.0.0 z.0.1 1 0 none) m 1)) (λ i. ((sym es i, sym at_word i), sym told i))
    (head_stops origin id k m z (step (part_count origin.load) (stop_word origin.load) 1 0 none) is)

-- it is the head as before
pub head_raised : (m : Sat) (works : List (Option PlainWork)) (stocks : List (Option PlainStock)) (clerk : Bool) (seen : List ℕ) → IsHead m works stocks clerk seen → IsHead (told_head_raised m.0, m.1) works stocks clerk seen
head_raised m works stocks clerk seen h = record {
  origin = h.origin;
  opened = h.opened;
  idle = h.idle;
  none = h.none;
  read = h.read;
  seen_is = h.seen_is;
  seen_wide = h.seen_wide;
  worker_count = h.worker_count;
  manager_count = h.manager_count;
  worker = λ w o e.
      let g = h.worker w o e in
      let r = still_there m.0.roles w g.role g.is in
      record { role = r.0; is = r.1; work = record { worker = g.work.worker; share = r.2 ∙ g.work.share; there = g.work.there; shows = g.work.shows; fits = g.work.fits; spare = r.3 ∙ g.work.spare }; rests = g.rests };
  manager = λ j o e.
      let g = h.manager j o e in
      let s = g.stock in
      let r = still_there m.0.roles (manager_role h.origin.load j) g.role g.is in
      record { role = r.0; is = r.1; stock = record { managed = s.managed; share = r.2 ∙ s.share; there = s.there; anchors = s.anchors; own = s.own; gathered = s.gathered; small = s.small; wide = s.wide } };
  clerk_is = λ e.
      let g = h.clerk_is e in
      let r = still_there m.0.roles (clerk_role h.origin.load) g.role g.is in
      record { role = r.0; acked = g.acked; is = r.1; share = r.2 ∙ g.share; wide = g.wide };
}
