-- A seat raises the stop, or looks whether it is raised.
use Rattle.std.proofs.Common.{◌≡◌, ℕ, zero, suc, ◌+◌, ◌-◌, ◌<◌, ◌==◌, inl, inr, true, false, Bool, [], ◌∷◌, Option, refl, sym, ap, ◌∙◌, subst, arith, eq-eqb, ne_eqb}
use Rattle.std.specs.Prelude.{Some, ◌||◌, if◌then◌else◌, nat_le, slice_index}
use Rattle.std.proofs.lemmas.Bool.{cases_eq}
use Rattle.atomic_table.specs.Table.{Step, Allows}
use Rattle.tau_shown.proofs.Steps.{words_step, loads_word}
use Rattle.tau_shard.specs.Shard.{at}
use Rattle.tau_shard.proofs.At.{at_same, at_other}
use Rattle.tau_core.specs.State.{Plain}
use Rattle.tau_occ.specs.declared.style.Style.{Style}
use Rattle.tau_rule.specs.Role.{Role}
use Rattle.tau_rule.specs.Knows.{Knows}
use Rattle.tau_rule.specs.Rule.{Now, Rule, IsPart, IsRole, Sees, Meets, word_of, hand_of, has, part_count, manager_role, number_if, is_raised}
use Rattle.tau_rule.specs.Steps.{Sat, knew}
use Rattle.tau_rule.specs.Stopping.{stop_word}
use Rattle.tau_rule.specs.declared.part.Part.{Part}
use Rattle.tau_rule.specs.declared.part.Part.TheVariants as part
use Rattle.tau_rule.proofs.Turns.{one_role, role_alone, alone, same_share}

-- the seat of this role has raised the stop
abbrev pub raising : ℕ → Role → Knows → Knows
raising u x v = record v { roles = (u, record x { raised = true }) ∷ [] }

pub raises : (n u : ℕ) (f : ℕ → Bool) → u < n → is_raised n (at u true f) ≡ true
raises zero u f low = absurd (omega arith)
raises (suc n) u f low = elim (cases_eq n u) [
  | inl is ↦ ap (λ (b : Bool). if b then true else is_raised n (at u true f)) (subst (λ (k : ℕ). at u true f k ≡ true) (sym is) (at_same u true f))
  | inr ne ↦ ap (λ (b : Bool). if at u true f n then true else b) (raises n u f (omega arith)) ∙ either_way (at u true f n)
]
  where
    either_way : (b : Bool) → (if b then true else true) ≡ true
    either_way true = refl
    either_way false = refl

word_stop : (origin : Plain) (c : Now) → word_of origin.load (origin.load.streams + origin.load.streams) c ≡ number_if (is_raised (origin.load.workers + origin.load.streams + 1) c.raised)
word_stop origin c = ap (λ (b : Bool). if b then number_if (is_raised (origin.load.workers + origin.load.streams + 1) c.raised) else (if nat_le (origin.load.streams + origin.load.streams + 1) origin.load.streams then slice_index c.core.ends (origin.load.streams + origin.load.streams) else slice_index c.core.plv (origin.load.streams + origin.load.streams - origin.load.streams)))
    (eq-eqb (origin.load.streams + origin.load.streams) (origin.load.streams + origin.load.streams) refl)

same_raised : (origin : Plain) (c : Now) (f : ℕ → Bool) (k : ℕ) (q : Part) → IsPart origin.load k q c → IsPart origin.load k q (record { core = c.core; raised = f; spare = c.spare; stored = c.stored })
same_raised origin c f k (part.Shard b) h = h
same_raised origin c f k (part.Outbox o p) h = h
same_raised origin c f k (part.Anchor n v) h = h

-- a seat with this role raises the stop
pub stops : (origin : Plain) {style : Style} (id u : ℕ) (m : Sat) (x : Role) (st : Step (Option Part)) → m.0.opened ≡ Some origin → m.0.roles ≡ (u, x) ∷ [] → u < origin.load.workers + origin.load.streams + 1 →
    Allows (Rule origin style) (part_count origin.load) id m (stop_word origin.load) (λ _. 1) (λ _. knew (λ _. raising u x m.0) st m 1)
stops origin {style} id u m x st opened roles low =
    let y : Role = record x { raised = true } in
    let is : has u m.0 ≡ Some x = one_role m.0 u x roles in
    words_step (IsPart origin.load) (IsRole origin.load) (word_of origin.load) hand_of has (Sees origin) (Meets origin style) (part_count origin.load) (origin.load.streams + origin.load.streams + 1) id (origin.load.streams + origin.load.streams) m.0 m.1 u x (omega arith) is
    (λ _. 1) (λ _. raising u x m.0) (λ _. y) (λ _. refl) (λ _. role_alone u y) (λ n k z h. alone u y k z h)
    (λ c meets mine sees.
    let c' : Now = record { core = c.core; raised = at u true c.raised; spare = c.spare; stored = c.stored } in
    let up : is_raised (origin.load.workers + origin.load.streams + 1) c'.raised ≡ true = raises (origin.load.workers + origin.load.streams + 1) u c.raised low in
    let stay : (v : Knows) → Sees origin c v → Sees origin c' v = (λ v h. record { opened = h.opened; wide = h.wide; low = h.low; own = h.own; read = h.read; found = λ _. up }) in
    let after = stay m.0 sees in (
      c',
      record {
        parts = λ k q lt apart h. same_raised origin c (at u true c.raised) k q h;
        mine = (same_share origin c (at u true c.raised) c.spare u x.share mine.0, at_same u true c.raised, mine.2);
        others = λ k z apart h. (same_share origin c (at u true c.raised) c.spare k z.share h.0, at_other u true c.raised k apart ∙ h.1, h.2);
        sight = λ v lacks h. stay v h;
        kept = record { reached = meets.reached; stored = meets.stored; going = meets.going; fits = meets.fits; anchors = meets.anchors; opened = meets.opened; limited = meets.limited; beyond = meets.beyond; shards = meets.shards; streams = meets.streams };
      },
      record {
        opened = λ k r e. opened;
        wide = λ k r e. after.wide u x is;
        low = after.low;
        own = λ i r lt e. let same = alone u y (manager_role origin.load i) r e in after.own i x lt (ap (λ (n : ℕ). has n m.0) same ∙ is);
        read = λ w r lt e. let same = alone u y w r e in after.read w x lt (ap (λ (n : ℕ). has n m.0) same ∙ is);
        found = after.found;
      },
      word_stop origin c' ∙ ap number_if up,
      (λ i lt apart. ap (λ (b : Bool). if b then number_if (is_raised (origin.load.workers + origin.load.streams + 1) c'.raised) else (if nat_le (i + 1) origin.load.streams then slice_index c.core.ends i else slice_index c.core.plv (i - origin.load.streams))) (ne_eqb i (origin.load.streams + origin.load.streams) apart)
          ∙ sym (ap (λ (b : Bool). if b then number_if (is_raised (origin.load.workers + origin.load.streams + 1) c.raised) else (if nat_le (i + 1) origin.load.streams then slice_index c.core.ends i else slice_index c.core.plv (i - origin.load.streams))) (ne_eqb i (origin.load.streams + origin.load.streams) apart))),
    ))
    (λ _. knew (λ _. raising u x m.0) st m 1)
    (λ c meets mine sees. refl)

one_raised : (b : Bool) → number_if b ≡ 1 → b ≡ true
one_raised true e = refl
one_raised false e = absurd (omega arith)

-- any seat looks whether the stop is raised
pub looks_stop : (origin : Plain) {style : Style} (id : ℕ) (m : Sat) (st : Step (Option Part)) → Allows (Rule origin style) (part_count origin.load) id m (stop_word origin.load) (λ n. n) (knew (λ n. record m.0 { found = n == 1 || m.0.found }) st m)
looks_stop origin {style} id m st =
    loads_word (IsPart origin.load) (IsRole origin.load) (word_of origin.load) hand_of has (Sees origin) (Meets origin style) (part_count origin.load) (origin.load.streams + origin.load.streams + 1) id (origin.load.streams + origin.load.streams) m.0 m.1 (omega arith)
    (λ n. record m.0 { found = n == 1 || m.0.found }) (λ n. refl) (λ n u. refl)
    (λ c meets h. record {
      opened = h.opened;
      wide = h.wide;
      low = h.low;
      own = h.own;
      read = h.read;
      found = λ e. elim (cases_eq (word_of origin.load (origin.load.streams + origin.load.streams) c) 1) [
        | inl is ↦ one_raised (is_raised (origin.load.workers + origin.load.streams + 1) c.raised) (sym (word_stop origin c) ∙ is)
        | inr ne ↦ h.found (sym (ap (λ (b : Bool). b || m.0.found) (ne_eqb (word_of origin.load (origin.load.streams + origin.load.streams) c) 1 ne)) ∙ e)
      ];
    })
    (knew (λ n. record m.0 { found = n == 1 || m.0.found }) st m)
    (λ c meets h. refl)
