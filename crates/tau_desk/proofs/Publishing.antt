-- A manager publishes an anchor that it placed.
use Rattle.std.proofs.Common.{◌≡◌, ℕ, ◌+◌, ◌<◌, ◌≤◌, inl, inr, List, [], length, refl, sym, ap, ◌∙◌, subst, arith}
use Rattle.std.specs.Prelude.{Some, slice_index}
use Rattle.std.proofs.lemmas.Option.{slice_get_within}
use Rattle.tau_core.specs.declared.state.Load.{Load}
use Rattle.tau_core.specs.Pieces.{Names}
use Rattle.tau_core.specs.State.{Plain}
use Rattle.tau_shown.proofs.Steps.{gives_part}
use Rattle.tau_occ.specs.declared.style.Style.{Style}
use Rattle.tau_rule.specs.Role.{role_in}
use Rattle.tau_rule.specs.Knows.{Knows}
use Rattle.tau_rule.specs.Rule.{IsPart, IsRole, Meets, Now, Sees, anchor_part, anchors_at, hand_of, has, manager_role, part_count, word_of}
use Rattle.tau_rule.specs.Steps.{Agrees, ComesHome, Sat, idle}
use Rattle.tau_rule.specs.declared.part.Part.{Part}
use Rattle.tau_rule.specs.declared.part.Part.TheVariants as part
use Rattle.tau_rule.proofs.Turns.{alone, one_role}
use Rattle.tau_desk.specs.Works.{anchor_in}
use Rattle.tau_desk.specs.Manages.{GivesPublished}
use Rattle.tau_desk.specs.Shares.{PlainStock}
use Rattle.tau_desk.proofs.OwnAnchors.{share_managed}
use Rattle.tau_desk.proofs.Taking.{At}

names_part : (origin : Plain) (c : Now) (j number : ℕ) (lv : List ℕ) (q : Part) → anchor_in q ≡ Some (number, lv) → j < origin.load.streams → Names origin.load j (anchors_at c.core j) number lv → length lv ≡ origin.load.streams → IsPart origin.load (anchor_part origin.load j) q c
names_part origin c j number lv (part.Shard b) is low h wide = cc
names_part origin c j number lv (part.Outbox o p) is low h wide = cc
names_part origin c j number lv (part.Anchor n v) is low h wide =
    let same : (number, lv) ≡ (n, v.value) = cc in
    (j, refl, low, subst (λ (z : ℕ × List ℕ). Names origin.load j (anchors_at c.core j) z.0 z.1) same h, subst (λ (z : ℕ × List ℕ). length z.1 ≡ origin.load.streams) same wide)

-- the part comes home with an anchor that the manager placed
pub gives_published : (origin : Plain) {style : Style} (id : ℕ) (m : Sat) (j number : ℕ) (lv : List ℕ) (q : Part) → anchor_in q ≡ Some (number, lv) → GivesPublished origin m j number lv → ComesHome origin style id m.0 (anchor_part origin.load j) q (idle m.0)
gives_published origin {style} id m j number lv q is g =
    let v : Knows = m.0 in
    let u : ℕ = manager_role origin.load j in
    gives_part (IsPart origin.load) (IsRole origin.load) (word_of origin.load) hand_of has (Sees origin) (Meets origin style) (part_count origin.load) (origin.load.streams + origin.load.streams + 1) id (anchor_part origin.load j) v (idle v) g.taken q u g.role g.role g.held (one_role v u g.role g.roles) refl
    (one_role v u g.role g.roles) (λ a z h. alone u g.role a z (sym (ap (role_in a) g.roles) ∙ h))
    (λ c meets part mine seen.
    let managed = share_managed origin j g.role.share g.managed c g.share mine.0 in (
      c,
      record { parts = λ k r low apart h. h; mine = mine; others = λ a y apart h. h; sight = λ a none h. h; kept = meets },
      names_part origin c j number lv q is g.there (subst (λ (l : List (List ℕ)). Names origin.load j l number lv) (sym managed.anchors) g.named) g.wide,
      record { opened = seen.opened; wide = seen.wide; low = seen.low; own = seen.own; read = seen.read; found = seen.found },
      (λ i low. refl),
    ))
    (λ found z. z ≡ (idle v, []))
    (λ z. refl)

-- a part is known by the anchor in it
pub anchor_same : (origin : Plain) (k : ℕ) (p q : Part) (a : ℕ × List ℕ) → anchor_in p ≡ Some a → anchor_in q ≡ Some a → (c : Now) → IsPart origin.load k p c → IsPart origin.load k q c
anchor_same origin k (part.Shard b) q a is too c h = cc
anchor_same origin k (part.Outbox o x) q a is too c h = cc
anchor_same origin k (part.Anchor n v) (part.Shard b) a is too c h = cc
anchor_same origin k (part.Anchor n v) (part.Outbox o x) a is too c h = cc
anchor_same origin k (part.Anchor n v) (part.Anchor n' v') a is too c h =
    let same : (n, v.value) ≡ (n', v'.value) = (let e : Some (n, v.value) ≡ Some (n', v'.value) = is ∙ sym too in cc) in
    (h.0, h.1, h.2, subst (λ (z : ℕ × List ℕ). Names origin.load h.0 (anchors_at c.core h.0) z.0 z.1) same h.3, subst (λ (z : ℕ × List ℕ). length z.1 ≡ origin.load.streams) same h.4)

-- what was published before names one of the manager's anchors, or none
pub was_named : (key : Plain) (m : Sat) (j : ℕ) (o : PlainStock) (h : At key m j o) (p : Part) (a : ℕ × List ℕ) → anchor_in p ≡ Some a → Agrees key m.0 (anchor_part key.load j) p → Names key.load j o.anchors a.0 a.1
was_named key m j o h (part.Shard b) a is g = cc
was_named key m j o h (part.Outbox x y) a is g = cc
was_named key m j o h (part.Anchor n v) a is g =
    let same : a ≡ (n, v.value) = cc in
    let at = g.part in
    let role = g.roles (manager_role key.load j) h.role (one_role m.0 (manager_role key.load j) h.role h.roles) in
    let managed = share_managed key j h.role.share h.stock.managed g.state h.stock.share role.0 in
    let stream : j ≡ at.0 = (let e = at.1 in omega (arith, e)) in
    let named : Names key.load j (anchors_at g.state.core j) n v.value = subst (λ (i : ℕ). Names key.load i (anchors_at g.state.core i) n v.value) (sym stream) at.3 in
    subst (λ (z : (ℕ × List ℕ) × List (List ℕ)). Names key.load j z.1 z.0.0 z.0.1) (λ i. (sym same i, (managed.anchors ∙ h.stock.anchors) i)) named

-- no anchor that it placed has a higher number than the newest
pub named_most : (l : Load) (j : ℕ) (anchors : List (List ℕ)) (n : ℕ) (base : List ℕ) → Names l j anchors n base → n ≤ slice_index l.opening.anchors.items j + length anchors
named_most l j anchors n base (inl (none, is)) = omega (arith, none)
named_most l j anchors n base (inr (i, number, got)) = (let low = slice_get_within anchors i base got in omega (arith, number, low))
