-- What an event of the core is on the parts and on what seats know.
use Rattle.std.proofs.Common.{◌≡◌, ℕ, ◌+◌, ◌*◌, ◌<◌, ◌≤◌, Bool, cond, List, [], ◌∷◌, ◌++◌, refl, sym, ap, ◌∙◌, subst, arith, eq-eqb, ne_eqb, length, length-append, inl, inr}
use Rattle.std.specs.Prelude.{Some, None}
use mathlib.Core.Logic.{dite}
use native.Mathlib.Decide.{ℕ_discrete}
use Rattle.tau_base.specs.declared.limits.TheConstants.{SHARDS}
use Rattle.tau_model.specs.History.{Act}
use Rattle.tau_machine.specs.Hands.{Txn}
use Rattle.tau_shard.specs.Shard.{Shard}
use Rattle.tau_machine.specs.Worker.{Worker}
use Rattle.tau_machine.specs.State.{Core}
use Rattle.tau_machine.specs.Events.{Event, Persist, Leads, with_worker, with_shard}
use Rattle.tau_shard.proofs.At.{at_same, at_other}
use Rattle.tau_machine.proofs.Snoc.{member_snoc}
use Rattle.tau_machine.specs.Invariant.{Invariant}
use Rattle.tau_machine.proofs.Runs.{lead_on_more, run_invariant}
use Rattle.tau_core.specs.Opens.{nothing}
use Rattle.tau_core.specs.View.{core_of}
use Rattle.tau_shown.specs.Shown.{Turns}
use Rattle.tau_core.specs.State.{Plain}
use Rattle.tau_core.specs.View.{setting_of}
use Rattle.tau_rule.specs.Role.{Share, Working, Managing, Clerking, Role, role_in}
use Rattle.tau_rule.specs.Knows.{Knows}
use Rattle.tau_occ.specs.declared.style.Style.{Style}
use Rattle.tau_rule.specs.Holders.{BusyHasCause}
use Rattle.tau_rule.specs.Rule.{HavePersisted, IsReached, PersistsNone, Now, IsPart, IsShare, IsRole, IsOutbox, Sees, Meets, word_of, hand_of, has, part_count, manager_role, LONGEST}
use Rattle.tau_rule.specs.Steps.{handed, shard_in, working}
use Rattle.tau_rule.specs.declared.part.Part.{Part}
use Rattle.tau_rule.specs.declared.part.Part.TheVariants as part
use Rattle.tau_rule.proofs.Holders.{held_more}

-- one event more
abbrev pub reached_on : (origin : Plain) {style : Style} (e : Event) (s s' : Core) (new : List (Act Txn)) → IsReached origin style s → Leads (setting_of origin.load) e s s' new → BusyHasCause (setting_of origin.load) style e s → IsReached origin style s'
reached_on origin {style} e s s' new r leads holder = record {
  events = r.events ++ e ∷ [];
  joined = r.joined ++ new;
  run = record { opens = r.run.opens; leads = lead_on_more (setting_of origin.load) r.events r.joined (core_of origin nothing) s s' e new r.run.leads leads };
  held = held_more (setting_of origin.load) style r.events r.joined (core_of origin nothing) s s' e new r.held leads holder;
}

-- one event more, by which nothing is persisted
pub stored_on : (stored : ℕ → List ℕ) (es : List Event) (e : Event) → HavePersisted stored es → PersistsNone e → HavePersisted stored (es ++ e ∷ [])
stored_on stored es e has none j upto m = elim (member_snoc es e (Persist j upto) m) [
  | inl was ↦ has j upto was
  | inr is ↦ absurd (subst PersistsNone is none)
]

-- what holds of every state that a run leads to
pub reached_invariant : (origin : Plain) {style : Style} (s : Core) (r : IsReached origin style s) → Invariant (setting_of origin.load) r.joined s
reached_invariant origin s r = run_invariant (setting_of origin.load) (core_of origin nothing) r.events r.joined s r.run

-- a longer list of committed calls bounds a stream too
pub more : (e o a b r : ℕ) → e ≤ o + LONGEST * a + r → a ≤ b → e ≤ o + LONGEST * b + r
more e o a b r h low = omega arith

pub role_alone : (w : ℕ) (x : Role) → role_in w ((w, x) ∷ []) ≡ Some x
role_alone w x = ap (λ b. cond b (Some x) None) (eq-eqb w w refl)

pub alone : (w : ℕ) (x : Role) (u : ℕ) (z : Role) → role_in u ((w, x) ∷ []) ≡ Some z → u ≡ w
alone w x u z e = dite (ℕ_discrete w u) sym (λ n. absurd (let a : None ≡ Some z = sym (ap (λ b. cond b (Some x) None) (ne_eqb w u n)) ∙ e in cc))

pub one_role : (v : Knows) (w : ℕ) (x : Role) → v.roles ≡ (w, x) ∷ [] → has w v ≡ Some x
one_role v w x is = ap (role_in w) is ∙ role_alone w x

-- what an actor has is of no state's raised stops and room
pub same_share : (origin : Plain) (c : Now) (raised : ℕ → Bool) (spare : ℕ → ℕ × ℕ) (u : ℕ) (x : Share) → IsShare origin.load u x c → IsShare origin.load u x (record c { raised = raised; spare = spare })
same_share origin c raised spare u (Working wk) h = h
same_share origin c raised spare u (Managing g) h = (h.0, h.1, h.2, record { moved = h.3.moved; gathered = h.3.gathered; anchors = h.3.anchors; own = h.3.own; stored = h.3.stored })
same_share origin c raised spare u (Clerking acked) h = h

module _ (origin : Plain) where
  abbrev pub Turn : Style → Now → Now → ℕ → ℕ → Role → Type 0
  Turn style = Turns (IsPart origin.load) (IsRole origin.load) (word_of origin.load) hand_of has (Sees origin) (Meets origin style) (part_count origin.load)

  -- an event of one worker on one shard
  module _ (c : Now) (w k : ℕ) (old : Role) (wk : Worker) (sh : Shard) (wide : w < origin.load.workers) (there : k < SHARDS) where
    abbrev pub on_shard : Now
    on_shard = record { core = with_shard (with_worker c.core w wk) k sh; raised = c.raised; spare = c.spare; stored = c.stored }

    parts_stay : (j : ℕ) (p : Part) → (j ≡ k → ⊥) → IsPart origin.load j p c → IsPart origin.load j p on_shard
    parts_stay j (part.Shard b) apart h = (h.0, at_other k sh c.core.shards j apart ∙ h.1)
    parts_stay j (part.Outbox o p) apart h = h
    parts_stay j (part.Anchor number lv) apart h = h

    shares_stay : (u : ℕ) (x : Share) → (u ≡ w → ⊥) → IsShare origin.load u x c → IsShare origin.load u x on_shard
    shares_stay u (Working x) apart h = (h.0, at_other w wk c.core.workers u apart ∙ h.1)
    shares_stay u (Managing g) apart h = (h.0, h.1, h.2, record { moved = h.3.moved; gathered = h.3.gathered; anchors = h.3.anchors; own = h.3.own; stored = h.3.stored })
    shares_stay u (Clerking acked) apart h = h

    sight_stays : (v : Knows) → Sees origin c v → Sees origin on_shard v
    sight_stays v h = record { opened = h.opened; wide = h.wide; low = h.low; own = h.own; read = h.read; found = h.found }

    pub on_shard_turn : {style : Style} (e : Event) (new : List (Act Txn)) → Meets origin style c → IsRole origin.load w old c → Leads (setting_of origin.load) e c.core on_shard.core new → BusyHasCause (setting_of origin.load) style e c.core → PersistsNone e → Turn style c on_shard k w (working old wk)
    on_shard_turn e new meets mine leads holder none = record {
      parts = λ j p low apart h. parts_stay j p apart h;
      mine = ((wide, at_same w wk c.core.workers), mine.1, mine.2);
      others = λ u x apart h. (shares_stay u x.share apart h.0, h.1, h.2);
      sight = λ v none h. sight_stays v h;
      kept = record {
        reached = reached_on origin e c.core on_shard.core new meets.reached leads holder;
        stored = stored_on c.stored meets.reached.events e meets.stored none;
        going = meets.going;
        fits = λ j low. more _ _ (length meets.reached.joined) (length (meets.reached.joined ++ new)) _ (meets.fits j low) (let a = length-append meets.reached.joined new in omega arith);
        anchors = meets.anchors;
        opened = meets.opened;
        limited = meets.limited;
        beyond = λ u low. at_other w wk c.core.workers u (λ e. omega arith) ∙ meets.beyond u low;
        shards = λ i low. at_other k sh c.core.shards i (λ e. omega arith) ∙ meets.shards i low;
        streams = meets.streams;
      };
    }

  pub handed_sees : (c : Now) (v : Knows) (w : ℕ) (x y : Role) → w < origin.load.workers → v.opened ≡ Some origin → has w v ≡ Some x → Sees origin c v → Sees origin c (handed v w y)
  handed_sees c v w x y wide opened is h = record {
    opened = λ u r e. opened;
    wide = λ u r e. h.wide w x is;
    low = h.low;
    own = λ j r lt e. absurd (let a = alone w y (manager_role origin.load j) r e in omega arith);
    read = λ u r lt e. subst (λ (n : ℕ). n < origin.load.workers → Rattle.tau_core.specs.Pieces.Names origin.load ((setting_of origin.load).stream_of n) (Rattle.tau_rule.specs.Rule.anchors_at c.core ((setting_of origin.load).stream_of n)) v.read.0 v.read.1) (sym (alone w y u r e)) (λ q. h.read w x q is) lt;
    found = h.found;
  }

  pub part_shard : (c : Now) (k : ℕ) (p : Part) (sh : Shard) → shard_in p ≡ Some sh → IsPart origin.load k p c → (k < SHARDS) × (c.core.shards k ≡ sh)
  part_shard c k (part.Shard b) sh is h = (h.0, h.1 ∙ cc)
  part_shard c k (part.Outbox o p) sh is h = cc
  part_shard c k (part.Anchor number lv) sh is h = cc

  pub shard_part : (c : Now) (k : ℕ) (p : Part) (sh : Shard) → shard_in p ≡ Some sh → k < SHARDS → c.core.shards k ≡ sh → IsPart origin.load k p c
  shard_part c k (part.Shard b) sh is low e = (low, e ∙ cc)
  shard_part c k (part.Outbox o p) sh is low e = cc
  shard_part c k (part.Anchor number lv) sh is low e = cc

  pub share_worker : (u : ℕ) (x : Share) (wk : Worker) (c : Now) → x ≡ Working wk → IsShare origin.load u x c → (u < origin.load.workers) × (c.core.workers u ≡ wk)
  share_worker u x wk c is h = subst (λ (y : Share). IsShare origin.load u y c) is h
