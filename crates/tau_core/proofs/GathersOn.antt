-- Gather, from one outbox after another.
use Rattle.std.proofs.Common.{ℕ, ◌+◌, ◌%◌, ◌<◌, ◌≤◌, ◌≡◌, List, length, refl, sym, ap, subst, ◌∙◌, arith, get_or-set_same}
use Rattle.std.specs.Prelude.{None, slice_get, slice_index}
use Rattle.tau_model.specs.History.{Act}
use Rattle.tau_machine.specs.Hands.{Txn}
use Rattle.tau_machine.specs.State.{Setting, Core}
use Rattle.tau_machine.specs.Events.{Gathered, stop, record_first, anchor_first}
use Rattle.tau_outbox.specs.Pieces.{bytes_of}
use Rattle.tau_core.specs.declared.state.Load.{Load}
use Rattle.tau_core.specs.State.{Plain}
use Rattle.tau_core.specs.View.{setting_of, Hidden, stop_in, core_of}
use Rattle.tau_core.specs.Stands.{Stands, Stood}
use Rattle.tau_core.specs.Anchors.{Reserves}
use Rattle.tau_core.specs.Gather.{MovesOwn, MovesPosted, GathersOn, end_on, room_next, own_next, posted_next, Roomy}
use Rattle.tau_core.specs.Ends.{IsNext}
use Rattle.tau_core.proofs.Anchors.{reserved_core, reserved_stands, reserved_going}
use Rattle.tau_core.proofs.GathersOwn.{own_hidden, own_leads, own_stands, own_still, own_going}
use Rattle.tau_core.proofs.GathersPosted.{posted_hidden, posted_leads, posted_stands, posted_still, posted_going}

pub gathered_on : (set : Setting) (j : ℕ) (a b c : Core) → Gathered set j a b → Gathered set j b c → Gathered set j a c
gathered_on set j a b c stop q = q
gathered_on set j a b c (record_first {s} {m} w first rest) q = record_first w first (gathered_on set j m b c rest q)
gathered_on set j a b c (anchor_first {s} {m} first rest) q = anchor_first first (gathered_on set j m b c rest q)

-- what the Gathers of one outbox after another lead to
pub record GatherEnds (j : ℕ) (p p' : Plain) (K : List (Act Txn)) (h : Hidden) : Type 0 where
  pub hidden : Hidden
  pub leads : Gathered (setting_of p.load) j (core_of p h) (core_of p' hidden)
  pub stands : Stands p' K hidden
  pub load : p'.load ≡ p.load
  pub taken : hidden.taken ≡ h.taken
  pub going : stop_in (slice_get p'.streams j) ≡ None
  pub up : slice_index p.gathered j ≤ slice_index p'.gathered j
  -- where the end stays nothing changed
  pub still : slice_index p'.gathered j ≡ slice_index p.gathered j → core_of p' hidden ≡ core_of p h

module _ (j : ℕ) where
  ends_on : (p m p' : Plain) (K : List (Act Txn)) (h : Hidden) (a : GatherEnds j p m K h) → GatherEnds j m p' K a.hidden → GatherEnds j p p' K h
  ends_on p m p' K h a b = record {
    hidden = b.hidden;
    leads = gathered_on (setting_of p.load) j (core_of p h) (core_of m a.hidden) (core_of p' b.hidden) a.leads
        (subst (λ (s : Setting). Gathered s j (core_of m a.hidden) (core_of p' b.hidden)) (ap setting_of a.load) b.leads);
    stands = b.stands;
    load = b.load ∙ a.load;
    taken = b.taken ∙ a.taken;
    going = b.going;
    up = (let u = a.up in let v = b.up in omega arith);
    still = λ e.
        let u = a.up in let v = b.up in
        let first : slice_index m.gathered j ≡ slice_index p.gathered j = omega arith in
        let then : slice_index p'.gathered j ≡ slice_index m.gathered j = omega arith in
        b.still then ∙ a.still first;
  }

  ends_none : (p : Plain) (K : List (Act Txn)) (h : Hidden) → Stands p K h → stop_in (slice_get p.streams j) ≡ None → GatherEnds j p p K h
  ends_none p K h g going = record { hidden = h; leads = stop; stands = g; load = refl; taken = refl; going = going; up = (omega arith); still = λ e. refl }

  ends_own : (p m : Plain) (K : List (Act Txn)) (h : Hidden) → Stands p K h → j < p.load.streams → stop_in (slice_get p.streams j) ≡ None → MovesOwn j p m → GatherEnds j p m K h
  ends_own p m K h g there going q =
      let set_at = get_or-set_same p.gathered j (slice_index p.gathered j + length (bytes_of q.moves.taken)) 0 (let o = g.sound.gathered in omega arith) in
      subst (λ (x : Plain). GatherEnds j p x K h) (sym q.after) (record {
        hidden = own_hidden p K h g j there going q.stream q.own q.longer q.spare q.is q.moves;
        leads = (own_leads p K h g j there going q.stream q.own q.longer q.spare q.is q.moves).0;
        stands = own_stands p K h g j there going q.stream q.own q.longer q.spare q.is q.moves;
        load = refl;
        taken = refl;
        going = own_going p K h g j there going q.stream q.own q.longer q.spare q.is q.moves;
        up = (omega arith);
        still = λ e. own_still p K h g j there going q.stream q.own q.longer q.spare q.is q.moves (sym set_at ∙ e);
      })

  ends_posted : (p m : Plain) (K : List (Act Txn)) (h : Hidden) (w : ℕ) → Stands p K h → j < p.load.streams → w % p.load.streams ≡ j → stop_in (slice_get p.streams j) ≡ None → MovesPosted j w p m → GatherEnds j p m K h
  ends_posted p m K h w g there whose going q =
      let set_at = get_or-set_same p.gathered j (slice_index p.gathered j + length (bytes_of q.moves.taken)) 0 (let o = g.sound.gathered in omega arith) in
      subst (λ (x : Plain). GatherEnds j p x K h) (sym q.after) (record {
        hidden = posted_hidden p K h g j there going w whose q.stream q.seat q.outbox q.longer q.spare q.is q.seat_is q.moves;
        leads = (posted_leads p K h g j there going w whose q.stream q.seat q.outbox q.longer q.spare q.is q.seat_is q.moves).0;
        stands = posted_stands p K h g j there going w whose q.stream q.seat q.outbox q.longer q.spare q.is q.seat_is q.moves;
        load = refl;
        taken = refl;
        going = posted_going p K h g j there going w whose q.stream q.seat q.outbox q.longer q.spare q.is q.seat_is q.moves;
        up = (omega arith);
        still = λ e. posted_still p K h g j there going w whose q.stream q.seat q.outbox q.longer q.spare q.is q.seat_is q.moves (sym set_at ∙ e);
      })

  ends_room : (p m : Plain) (K : List (Act Txn)) (h : Hidden) → Stands p K h → j < p.load.streams → stop_in (slice_get p.streams j) ≡ None → Reserves j p m → GatherEnds j p m K h
  ends_room p m K h g there going q =
      let core = reserved_core p K h g j there q.stream q.own q.room q.is q.pieces in
      subst (λ (x : Plain). GatherEnds j p x K h) (sym q.after) (record {
        hidden = h;
        leads = subst (λ (c : Core). Gathered (setting_of p.load) j (core_of p h) c) (sym core) stop;
        stands = reserved_stands p K h g j there q.stream q.own q.room q.is q.pieces;
        load = refl;
        taken = refl;
        going = reserved_going p K h g j there q.stream q.own q.room q.is q.pieces going;
        up = (omega arith);
        still = λ e. core;
      })

  pub gathers_on : (p p' : Plain) → GathersOn j p p' → (K : List (Act Txn)) (h : Hidden) → Stands p K h → j < p.load.streams → stop_in (slice_get p.streams j) ≡ None → GatherEnds j p p' K h
  gathers_on p p' end_on K h g there going = ends_none p K h g going
  gathers_on p p' (room_next {m} q rest) K h g there going =
      let one = ends_room p m K h g there going q in
      ends_on p m p' K h one (gathers_on m p' rest K one.hidden one.stands (let e = one.load in subst (λ (l : Load). j < l.streams) (sym e) there) one.going)
  gathers_on p p' (own_next {m} q rest) K h g there going =
      let one = ends_own p m K h g there going q in
      ends_on p m p' K h one (gathers_on m p' rest K one.hidden one.stands (let e = one.load in subst (λ (l : Load). j < l.streams) (sym e) there) one.going)
  gathers_on p p' (posted_next {m} w whose q rest) K h g there going =
      let one = ends_posted p m K h w g there whose going q in
      ends_on p m p' K h one (gathers_on m p' rest K one.hidden one.stands (let e = one.load in subst (λ (l : Load). j < l.streams) (sym e) there) one.going)

  -- one more step at the end
  pub on_own : (p m p' : Plain) → GathersOn j p m → MovesOwn j m p' → GathersOn j p p'
  on_own p m p' end_on q = own_next q end_on
  on_own p m p' (room_next {m = n} r rest) q = room_next r (on_own n m p' rest q)
  on_own p m p' (own_next {m = n} r rest) q = own_next r (on_own n m p' rest q)
  on_own p m p' (posted_next {m = n} w whose r rest) q = posted_next w whose r (on_own n m p' rest q)

  pub on_posted : (p m p' : Plain) (w : ℕ) → w % m.load.streams ≡ j → GathersOn j p m → MovesPosted j w m p' → GathersOn j p p'
  on_posted p m p' w whose end_on q = posted_next w whose q end_on
  on_posted p m p' w whose (room_next {m = n} r rest) q = room_next r (on_posted n m p' w whose rest q)
  on_posted p m p' w whose (own_next {m = n} r rest) q = own_next r (on_posted n m p' w whose rest q)
  on_posted p m p' w whose (posted_next {m = n} u other r rest) q = posted_next u other r (on_posted n m p' w whose rest q)

  next_of : (p m : Plain) (K : List (Act Txn)) (h : Hidden) → j < p.load.streams → GatherEnds j p m K h → Roomy j m → IsNext j p m
  next_of p m K h there e roomy = record {
    stood = (K, e.hidden, e.stands);
    there = subst (λ (l : Load). j < l.streams) (sym e.load) there;
    same = e.load;
    going = e.going;
    up = e.up;
    roomy = roomy;
  }

  pub next_own : (p m : Plain) → Stood p → j < p.load.streams → stop_in (slice_get p.streams j) ≡ None → MovesOwn j p m → Roomy j m → IsNext j p m
  next_own p m g there going q = next_of p m g.0 g.1 there (ends_own p m g.0 g.1 g.2 there going q)

  pub next_posted : (p m : Plain) (w : ℕ) → Stood p → j < p.load.streams → w % p.load.streams ≡ j → stop_in (slice_get p.streams j) ≡ None → MovesPosted j w p m → Roomy j m → IsNext j p m
  next_posted p m w g there whose going q = next_of p m g.0 g.1 there (ends_posted p m g.0 g.1 w g.2 there whose going q)

  pub next_room : (p m : Plain) → Stood p → j < p.load.streams → stop_in (slice_get p.streams j) ≡ None → Reserves j p m → Roomy j m → IsNext j p m
  next_room p m g there going q = next_of p m g.0 g.1 there (ends_room p m g.0 g.1 g.2 there going q)

  pub next_on : (p m p' : Plain) → IsNext j p m → IsNext j m p' → IsNext j p p'
  next_on p m p' a b = record { stood = b.stood; there = b.there; same = b.same ∙ a.same; going = b.going; up = (let u = a.up in let v = b.up in omega arith); roomy = b.roomy }

  pub on_on : (p m p' : Plain) → GathersOn j p m → GathersOn j m p' → GathersOn j p p'
  on_on p m p' end_on q = q
  on_on p m p' (room_next {m = n} r rest) q = room_next r (on_on n m p' rest q)
  on_on p m p' (own_next {m = n} r rest) q = own_next r (on_on n m p' rest q)
  on_on p m p' (posted_next {m = n} w whose r rest) q = posted_next w whose r (on_on n m p' rest q)
