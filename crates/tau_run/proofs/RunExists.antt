-- The run that a core has made is there.
use Rattle.std.proofs.Common.{ℕ, ◌<◌, ◌≡◌, List, map, length, sym, ap, ◌∙◌, arith, slice_index, refl}
use Rattle.std.specs.Prelude.{Option, Some, None, slice_get}
use Rattle.tau_base.specs.declared.value.LogMode.{LogMode}
use Rattle.tau_model.specs.History.{Act}
use Rattle.tau_model.specs.declared.committed.Committed.{Committed as Kept}
use Rattle.tau_machine.specs.Hands.{Txn, Hand}
use Rattle.tau_machine.specs.State.{Core, Record, hand_of}
use Rattle.tau_machine.specs.Pieces.{placed_in}
use Rattle.tau_machine.specs.Reports.{reported}
use Rattle.tau_text.specs.declared.load.Workload.{Workload}
use Rattle.tau_txn.specs.Txn.{hand_in, bytes_in}
use Rattle.tau_core.specs.declared.state.Load.{Load}
use Rattle.tau_core.specs.Plain.{PlainSeat, PlainStream}
use Rattle.tau_core.specs.State.{Plain}
use Rattle.tau_core.specs.View.{Hidden, core_of, committed_by, worker_in}
use Rattle.tau_core.specs.Stands.{Stands, anchors_at}
use Rattle.tau_run.specs.Run.{Run, told_of}
use Rattle.tau_run.specs.Start.{Start, opened_at}
use Rattle.tau_run.specs.CoreRun.{IsLoadOn, AreAcks, IsGiven, IsRunOf}
use Rattle.tau_base.proofs.Lists.{some_at}
use Rattle.tau_run.proofs.Given.{HasBytes, piece_bytes, contents_there}
use Rattle.tau_run.proofs.History.{is_set}

-- the hand of a worker that may be there
abbrev hand_seat : Load → List Kept → Option PlainSeat → Option Hand
hand_seat l c o = (worker_in l o c).hand

module _ (p : Plain) (K : List (Act Txn)) (h : Hidden) (st : Stands p K h) where
  abbrev s : Core
  s = core_of p h

  abbrev l : Load
  l = p.load

  seat_there : (w : ℕ) → w < l.workers → (x : PlainSeat) × (slice_get p.seats w ≡ Some x)
  seat_there w lt = some_at p.seats w (let e = st.sound.seats in omega (arith, e, lt))

  stream_there : (j : ℕ) → j < l.streams → (x : PlainStream) × (slice_get p.streams j ≡ Some x)
  stream_there j lt = some_at p.streams j (let e = st.sound.streams in omega (arith, e, lt))

  flying : (w : ℕ) (t : Act Txn) → placed_in (hand_of s w) ≡ Some t → HasBytes l (anchors_at p) (Record t)
  flying w t in_hand = by_seat (slice_get p.seats w) refl
    where
      by_seat : (o : Option PlainSeat) → slice_get p.seats w ≡ o → HasBytes l (anchors_at p) (Record t)
      by_seat (Some x) e =
          let hand : placed_in (hand_in l.procs x.txn) ≡ Some t = sym (ap (λ (o : Option PlainSeat). placed_in (hand_seat l (committed_by l.workers w p.committed) o)) e) ∙ in_hand in
          piece_bytes l (anchors_at p) (record { start = x.start; bytes = bytes_in x.txn }) (Record t) (st.placed w x t e hand)
      by_seat None e = absurd (let f : None ≡ Some t = sym (ap (λ (o : Option PlainSeat). placed_in (hand_seat l (committed_by l.workers w p.committed) o)) e) ∙ in_hand in cc f)

  -- what its streams were given, which began with these bytes
  pub given_there : (bases : ℕ → List ℕ) → ((j : ℕ) → j < l.streams → length (bases j) ≡ slice_index l.opening.ends j) →
      (contents : List (List ℕ)) × (length contents ≡ l.streams) × ((j : ℕ) (content : List ℕ) → slice_get contents j ≡ Some content → IsGiven l K s j (bases j) content)
  given_there bases long =
      contents_there l K s st.inv st.sound.workers_low bases long (λ w lt. (let x = seat_there w lt in (x.0.outbox.pieces, st.posted w x.0 x.1))) (λ j lt. (let x = stream_there j lt in (x.0.own.pieces, st.own j x.0 x.1)))
      (λ j lt. (let x = stream_there j lt in (_, st.gathered j x.0 x.1))) flying

-- the run of this state, with these acknowledgements
pub run_there : (n m : ℕ) (mode : LogMode) (load : Workload) (p : Plain) (K : List (Act Txn)) (h : Hidden) → Stands p K h → (start : Start) → IsLoadOn n m mode load start p.load → length start.old ≡ n → (acks : List (ℕ × List ℕ)) → AreAcks p.load (core_of p h) acks →
    (run : Run) × IsRunOf n p.load K (core_of p h) load run × (run.acks ≡ acks) × (run.start ≡ start)
run_there n m mode load p K h st start at count acks are =
    let all = given_there p K h st (opened_at load start) (λ j lt. sym ((is_set n m mode load start p.load count at).opening j (let e = at.streams in omega (arith, lt, e)))) in (
      record { start = start; calls = map told_of (reported (core_of p h).ends K); contents = all.0; acks = acks },
      record { calls = refl; streams = all.1 ∙ at.streams; given = all.2; acks = are },
      refl,
      refl,
    )
