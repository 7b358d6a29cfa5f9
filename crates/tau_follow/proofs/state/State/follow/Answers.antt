-- What is read is followed, and redone.
use Rattle.std.proofs.Common.{ap, sym, subst, ◌∙◌, ◌≡◌, arith, Err, List, [], take}
use Rattle.tau_text.specs.declared.load.Declarations.{Declarations}
use Rattle.tau_record.specs.declared.entry.Placed.{Placed}
use Rattle.tau_scan.specs.declared.fault.LogRefusal.{LogRefusal}
use Rattle.tau_scan.specs.Epochs.{marks_from, with_marks}
use Rattle.tau_scan.specs.Reading.{declared_by}
use Rattle.tau_follow.specs.declared.spot.Spot.{Spot}
use Rattle.tau_follow.specs.Applying.{AreSpots, redone_of}
use Rattle.tau_follow_laws.specs.Feeding.{with_piece}
use Rattle.tau_follow.proofs.Fed.{reads, feeds_one, fronts_as, refusal_is}
use Rattle.tau_follow.proofs.Declared.{one_then, streams_then}
use Rattle.tau_follow.proofs.Redoing.{store_then, redone_all}
use Rattle.tau_follow.proofs.state.State.follow.Goals as goal

pub returns-in-Err-applied-clause-bad : goal.returns-in-Err-applied-clause-bad
returns-in-Err-applied-clause-bad c = λ f n fed s p fault h e.
    c.in-Err-applied.ensures.bad f n fed s p fault h.follower (fronts_as f fed p _ _ c.as_slice-2.ensures.value h.read.fronts) h.stands (ap (λ (z : LogRefusal). Err z) (refusal_is c.in-Err-applied.e fault e))

pub returns-in-Ok-redone-clause-ok : goal.returns-in-Ok-redone-clause-ok
returns-in-Ok-redone-clause-ok c = λ f n fed s p h.
    (let now = with_piece fed p in
    let d = c.in-Ok.ensures.ok in
    let first = fronts_as f fed p _ _ c.as_slice.ensures.value h.read.fronts in
    let second = fronts_as f fed p _ _ c.as_slice-2.ensures.value h.read.fronts in
    let third = fronts_as f fed p _ _ c.as_slice-3.ensures.value h.read.fronts in
    let w = c.in-Ok-applied.ensures.ok f n fed s p h.follower second h.stands in
    let t = w.0 in
    let read = reads f n fed s p _ h.follower first in
    let before = store_then f n fed s t p _ h.catalogue d.0 c.args.self.now.done _ read h.one d.1 w.1 h.redone.within h.redone.store in
    let spots = subst (λ (l : List (List Placed)). AreSpots l c.in-Ok-applied.next.applier.order.items t.order) (streams_then f now s t _ third w.1) w.2.spots in
    let lent = subst (λ (l : List Spot). AreSpots c.as_slice-3.result.now l t.order) (sym c.as_slice-4.ensures.value) spots in
    let procs_are : c.in-Ok.declarations.procs ≡ (declared_by d.0).procs = ap (λ (z : Declarations). z.procs) d.2 in
    let all = c.in-Ok-redone.ensures.ok t.order lent before.0 (before.1 ∙ ap (λ ps. redone_of ps (take c.args.self.now.done t.order)) (sym procs_are)) in (
      t,
      w.1,
      record {
        read = h.read;
        bytes = h.bytes;
        follower = feeds_one f n fed s t p h.follower w.1;
        catalogue = d.0;
        one = one_then f fed p s t _ d.0 first d.1 w.1;
        knows = record { known = c.in-Ok-applied.ensures.known ∙ ap (λ (l : List (List Placed)). with_marks [] (marks_from l)) (c.as_slice-2.ensures.value ∙ sym (streams_then f now s t _ h.read.fronts w.1)); declarations = d.2 };
        stands = w.2;
        redone = redone_all (declared_by d.0).procs t c.as_slice-3.result.now c.in-Ok-applied.next.applier.order.items _ _ _ spots (omega (arith, c.len-self.ensures)) (all ∙ ap (λ ps. redone_of ps t.order) procs_are) c.in-Ok-redone.ensures.rows;
      },
    ))
