-- A seat drops free entries of a shard.
use Rattle.std.proofs.Common.{◌≡◌, ℕ, ◌+◌, ◌<◌, List, [], ◌++◌, length, refl, sym, ap, ◌∙◌, subst, arith, length-append}
use Rattle.std.specs.Prelude.{Some}
use Rattle.tau_base.specs.Vectors.{AtMost}
use Rattle.tau_base.specs.declared.limits.TheConstants.{SHARDS}
use Rattle.tau_shard.specs.Shard.{Dropped, Shard}
use Rattle.tau_machine.specs.Events.{Drop, Leads, with_shard}
use Rattle.tau_shard.proofs.At.{at_same, at_other}
use Rattle.tau_shard.specs.Plain.{PlainShard}
use Rattle.tau_shard.specs.Read.{shard_of}
use Rattle.tau_core.specs.State.{Plain}
use Rattle.tau_core.specs.View.{setting_of}
use Rattle.tau_shown.proofs.Steps.{gives_part}
use Rattle.tau_occ.specs.declared.style.Style.{Style}
use Rattle.tau_rule.specs.Role.{Clerking, Managing, Role, Share, Working, role_in}
use Rattle.tau_rule.specs.Knows.{Knows}
use Rattle.tau_rule.specs.Rule.{IsPart, IsRole, IsShare, Meets, Now, Sees, hand_of, has, part_count, word_of}
use Rattle.tau_rule.specs.Steps.{ComesHome, Sat, idle, shard_in}
use Rattle.tau_rule.specs.declared.part.Part.{Part}
use Rattle.tau_rule.specs.declared.part.Part.TheVariants as part
use Rattle.tau_rule.proofs.Turns.{Turn, alone, more, one_role, part_shard, reached_on, shard_part, stored_on}
use Rattle.tau_desk.specs.Manages.{GivesSwept}

module _ (origin : Plain) {style : Style} (c : Now) (k : ℕ) (seen : List ℕ) (before sh : Shard) (there : k < SHARDS) (was : c.core.shards k ≡ before) (dropped : Dropped seen before sh) (licensed : AtMost seen c.core.plv) (meets : Meets origin style c) where
  abbrev swept_now : Now
  swept_now = record { core = with_shard c.core k sh; raised = c.raised; spare = c.spare; stored = c.stored }

  sweep_leads : Leads (setting_of origin.load) (Drop k seen) c.core swept_now.core []
  sweep_leads = (record { covered = licensed; shard = sh; dropped = subst (λ (x : Shard). Dropped seen x sh) (sym was) dropped; after = refl }, refl)

  parts_stay : (j : ℕ) (q : Part) → (j ≡ k → ⊥) → IsPart origin.load j q c → IsPart origin.load j q swept_now
  parts_stay j (part.Shard b) apart h = (h.0, at_other k sh c.core.shards j apart ∙ h.1)
  parts_stay j (part.Outbox o p) apart h = h
  parts_stay j (part.Anchor number lv) apart h = h

  shares_stay : (u : ℕ) (x : Share) → IsShare origin.load u x c → IsShare origin.load u x swept_now
  shares_stay u (Working x) h = h
  shares_stay u (Managing g) h = (h.0, h.1, h.2, record { moved = h.3.moved; gathered = h.3.gathered; anchors = h.3.anchors; own = h.3.own; stored = h.3.stored })
  shares_stay u (Clerking acked) h = h

  sight_stays : (v : Knows) → Sees origin c v → Sees origin swept_now v
  sight_stays v h = record { opened = h.opened; wide = h.wide; low = h.low; own = h.own; read = h.read; found = h.found }

  sweep_turn : (w : ℕ) (x : Role) → IsRole origin.load w x c → Turn origin style c swept_now k w x
  sweep_turn w x mine = record {
    parts = λ j q lt apart h. parts_stay j q apart h;
    mine = (shares_stay w x.share mine.0, mine.1, mine.2);
    others = λ u z apart h. (shares_stay u z.share h.0, h.1, h.2);
    sight = λ v lacks h. sight_stays v h;
    kept = record {
      reached = reached_on origin (Drop k seen) c.core swept_now.core [] meets.reached sweep_leads tt;
      stored = stored_on c.stored meets.reached.events (Drop k seen) meets.stored tt;
      going = meets.going;
      fits = λ j lt. more _ _ (length meets.reached.joined) (length (meets.reached.joined ++ [])) _ (meets.fits j lt) (let a = length-append meets.reached.joined [] in omega arith);
      anchors = meets.anchors;
      opened = meets.opened;
      limited = meets.limited;
      beyond = meets.beyond;
      shards = λ i low. at_other k sh c.core.shards i (λ e. omega (arith, e, low, there)) ∙ meets.shards i low;
      streams = meets.streams;
    };
  }

-- a shard comes home of which covered entries were dropped
pub gives_swept : (origin : Plain) {style : Style} (id k : ℕ) (m : Sat) (q : Part) (sh : PlainShard) → shard_in q ≡ Some (shard_of sh) → GivesSwept m k sh → ComesHome origin style id m.0 k q (idle m.0)
gives_swept origin {style} id k m q sh is g =
    let v : Knows = m.0 in
    gives_part (IsPart origin.load) (IsRole origin.load) (word_of origin.load) hand_of has (Sees origin) (Meets origin style) (part_count origin.load) (origin.load.streams + origin.load.streams + 1) id k v (idle v) g.taken q g.number g.role g.role g.held (one_role v g.number g.role g.roles) refl
    (one_role v g.number g.role g.roles) (λ u z h. alone g.number g.role u z (sym (ap (role_in u) g.roles) ∙ h))
    (λ c meets part mine seen.
    let shard = part_shard origin c k g.taken g.before g.was part in
    let c' : Now = swept_now origin c k v.seen g.before (shard_of sh) shard.0 shard.1 g.dropped seen.low meets in
    let after = sight_stays origin c k v.seen g.before (shard_of sh) shard.0 shard.1 g.dropped seen.low meets v seen in (
      c',
      sweep_turn origin c k v.seen g.before (shard_of sh) shard.0 shard.1 g.dropped seen.low meets g.number g.role mine,
      shard_part origin c' k q (shard_of sh) is shard.0 (at_same k (shard_of sh) c.core.shards),
      record { opened = after.opened; wide = after.wide; low = after.low; own = after.own; read = after.read; found = after.found },
      (λ i low. refl),
    ))
    (λ found z. z ≡ (idle v, []))
    (λ z. refl)
