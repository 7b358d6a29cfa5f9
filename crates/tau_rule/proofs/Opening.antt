-- The table at the beginning shows the opening.
use Rattle.std.proofs.Common.{◌≡◌, ℕ, zero, suc, ◌+◌, ◌-◌, ◌*◌, ◌^◌, ◌<◌, ◌≤◌, inl, inr, cond, true, false, Bool, List, [], Option, length, refl, sym, ap, ◌∙◌, subst, arith, eq-eqb, ne_eqb}
use Rattle.std.specs.Prelude.{Some, None, if◌then◌else◌, replicate, slice_get, slice_index, slice_index_or}
use Rattle.std.proofs.lemmas.Bool.{cases_eq}
use Rattle.std.proofs.lemmas.Bool.Decides.{leb_tells}
use mathlib.Core.Option.{some}
use lib.ListN.{get_elem?}
use Rattle.atomic_table.specs.Table.{opening}
use Rattle.tau_shown.proofs.Steps.{opens}
use Rattle.tau_base.specs.declared.limits.TheConstants.{SHARDS}
use Rattle.tau_machine.specs.State.{Core, Ticket, Item}
use Rattle.tau_machine.proofs.Results.{goes_on_theorem}
use Rattle.tau_core.specs.State.{Plain}
use Rattle.tau_core.specs.View.{setting_of, core_of, worker_in, shard_in, committed_by}
use Rattle.tau_core.specs.Opens.{Opened, nothing}
use Rattle.tau_core.specs.Plain.{PlainSeat}
use Rattle.tau_model.specs.declared.committed.Committed.{Committed}
use Rattle.std.proofs.lemmas.Option.{slice_get_past}
use Rattle.tau_core.specs.Parts.{nobody, no_shard}
use Rattle.tau_occ.specs.declared.style.Style.{Style}
use Rattle.tau_rule.specs.Role.{Role, role_in}
use Rattle.tau_core.specs.Pieces.{IsPieceOf, Paired}
use Rattle.tau_rule.specs.Rule.{Now, Rule, anchors_at, IsPart, IsShare, IsRole, IsLimited, Sees, Meets, word_of, hand_of, has, part_count, is_raised}
use Rattle.tau_rule.specs.First.{worker_share, manager_share, clerk_share, outer_share, share_at, role_at, roles_below, first_view}
use Rattle.tau_rule.specs.declared.part.Part.{Part}

pub none_raised : (n : ℕ) → is_raised n (λ u. false) ≡ false
none_raised zero = refl
none_raised (suc n) = none_raised n

-- the role of this number is the one among those below n
in_below : (origin : Plain) (n u : ℕ) (x : Role) → role_in u (roles_below origin n) ≡ Some x → (u < n) × (x ≡ role_at origin u)
in_below origin zero u x h = absurd (let bad : None ≡ Some x = h in cc)
in_below origin (suc n) u x h = elim (cases_eq n u) [
  | inl is ↦ (let a : Some (role_at origin n) ≡ Some x = sym (ap (λ b. cond b (Some (role_at origin n)) (role_in u (roles_below origin n))) (eq-eqb n u is)) ∙ h in let b : role_at origin n ≡ x = cc in (omega arith, sym b ∙ ap (role_at origin) is))
  | inr ne ↦ (let r = in_below origin n u x (sym (ap (λ b. cond b (Some (role_at origin n)) (role_in u (roles_below origin n))) (ne_eqb n u ne)) ∙ h) in (let a = r.0 in omega arith, r.1))
]

abbrev no_tickets : List Ticket
no_tickets = []

few_of : (xs : List (List ℕ)) → xs ≡ [] → length xs < 2 ^ 32
few_of xs e = subst (λ (z : List (List ℕ)). length z < 2 ^ 32) (sym e) (omega arith)

-- the opening shows what each role has
module _ (origin : Plain) (q : Opened origin.load origin) where
  abbrev o : Core
  o = core_of origin nothing

  abbrev pub now : Now
  now = record { core = core_of origin nothing; raised = λ u. false; spare = λ u. (0, 0); stored = λ j. [] }

  replicated : (n w : ℕ) → slice_index_or (replicate n no_tickets) w [] ≡ no_tickets
  replicated zero w = refl
  replicated (suc n) zero = refl
  replicated (suc n) (suc w) = replicated n w

  outer_is : (u : ℕ) → origin.load.workers ≤ u → u < origin.load.workers + origin.load.streams + 1 → IsShare origin.load u (outer_share origin u) now
  outer_is u low high = elim (leb_tells (u + 1) (origin.load.workers + origin.load.streams)) [
    | inl a ↦ subst (λ (b : Bool). IsShare origin.load u (if b then manager_share origin u else clerk_share origin) now) (sym a.0) (
      u - origin.load.workers,
      (let h = a.1 in omega arith),
      (let h = a.1 in omega arith),
      record {
        moved = subst (λ (z : List Item). Paired (IsPieceOf origin.load (anchors_at o)) [] z) (sym (q.opening.moved (u - origin.load.workers))) tt;
        gathered = ap (λ (v : List ℕ). slice_index v (u - origin.load.workers)) q.opening.gathered;
        anchors = q.opening.anchors (u - origin.load.workers);
        own = subst (λ (z : List Item). Paired (IsPieceOf origin.load (anchors_at o)) [] z) (sym (q.opening.own (u - origin.load.workers))) tt;
        stored = refl;
      },
    )
    | inr b ↦ subst (λ (z : Bool). IsShare origin.load u (if z then manager_share origin u else clerk_share origin) now) (sym b.0)
        ((let h = b.1 in omega arith), λ w lt. q.opening.acked w ∙ sym (replicated origin.load.workers w))
  ]

  share_is : (u : ℕ) → u < origin.load.workers + origin.load.streams + 1 → IsShare origin.load u (share_at origin u) now
  share_is u high = elim (leb_tells (u + 1) origin.load.workers) [
    | inl a ↦ subst (λ (b : Bool). IsShare origin.load u (if b then worker_share origin u else outer_share origin u) now) (sym a.0) ((let h = a.1 in omega arith), refl)
    | inr b ↦ subst (λ (z : Bool). IsShare origin.load u (if z then worker_share origin u else outer_share origin u) now) (sym b.0) (outer_is u (let h = b.1 in omega arith) high)
  ]

  sees_is : Sees origin now (first_view origin)
  sees_is = record {
    opened = λ u r h. refl;
    wide = λ u r h. q.opening.count;
    low = λ j. (let e = ap (λ (v : List ℕ). slice_index v j) q.opening.plv in omega arith);
    own = λ j r lt h. ap (λ (v : List ℕ). slice_index v j) (sym q.opening.plv);
    read = λ w r lt h. inl (refl, refl);
    found = λ h. let bad : false ≡ true = h in cc;
  }

  -- there are no others
  beyond : (u : ℕ) → origin.load.workers ≤ u → o.workers u ≡ nobody
  beyond u low =
      let none : slice_get origin.seats u ≡ None = slice_get_past origin.seats u (let a = q.stands.sound.seats in omega arith) in
      let cs : List Committed = committed_by origin.load.workers u origin.committed in
      let empty : cs ≡ [] = ap (λ (s : Option PlainSeat). (worker_in origin.load s cs).committed) (sym none) ∙ q.opening.committed u in
      ap (λ (s : Option PlainSeat). worker_in origin.load s cs) none ∙ ap (λ (xs : List Committed). record { waiting = []; hand = None; left = []; committed = xs }) empty

  no_shards : (i : ℕ) → SHARDS ≤ i → o.shards i ≡ no_shard
  no_shards i low = ap shard_in (slice_get_past origin.shards i (let a = q.stands.sound.shards in omega arith))

  -- the limits of the run are those of what was opened, where the streams leave room
  pub limited : ((j : ℕ) → j < origin.load.streams → slice_index origin.load.opening.ends j ≤ 2 ^ 61) → IsLimited origin.load
  limited low = record {
    streams_low = q.stands.sound.streams_low;
    streams_high = q.stands.sound.streams_high;
    workers_high = q.stands.sound.workers_high;
    few = q.stands.sound.few;
    low = low;
    wide = q.opening.count;
  }

  meets_is : {style : Style} → IsLimited origin.load → Meets origin style now
  meets_is limits = record {
    reached = record { events = []; joined = []; run = (goes_on_theorem (setting_of origin.load) o).0 q.opening; held = (refl, refl) };
    stored = λ j upto m. absurd m;
    going = q.opening.stops;
    fits = λ j lt. (let e = ap (λ (v : List ℕ). slice_index v j) q.opening.ends in omega arith);
    anchors = λ j lt. few_of (o.streams j).anchors (q.opening.anchors j);
    opened = q;
    limited = limits;
    beyond = beyond;
    shards = no_shards;
    streams = λ j low. q.opening.anchors j;
  }

  -- the table shows it, where the slots hold its parts
  pub begins : {style : Style} (ws : List ℕ) (xs : List (Option Part)) (part : ℕ → Part) → IsLimited origin.load → length ws ≡ 8 * (part_count origin.load + (origin.load.streams + origin.load.streams + 1)) → length xs ≡ part_count origin.load →
      ((k : ℕ) → k < part_count origin.load → slice_index ws (8 * k) ≡ 0) → ((k : ℕ) → k < part_count origin.load → get_elem? xs k ≡ some (Some (part k))) → ((i : ℕ) → i < origin.load.streams + origin.load.streams + 1 → slice_index ws (8 * (part_count origin.load + i)) ≡ word_of origin.load i now) →
      ((k : ℕ) → k < part_count origin.load → IsPart origin.load k (part k) now) → Rule origin style (opening ws xs (first_view origin))
  begins {style} ws xs part limits wide count free home numbers parts =
      opens (IsPart origin.load) (IsRole origin.load) (word_of origin.load) hand_of has (Sees origin) (Meets origin style) (part_count origin.load) (origin.load.streams + origin.load.streams + 1) now part (first_view origin) ws xs wide count free home numbers parts refl
      (λ u x h. let r = in_below origin (origin.load.workers + origin.load.streams + 1) u x h in subst (λ (y : Role). IsRole origin.load u y now) (sym r.1) (share_is u r.0, refl, refl))
      sees_is (meets_is limits)
