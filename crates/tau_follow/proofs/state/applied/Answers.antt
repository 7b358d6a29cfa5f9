-- Each step of a feed, and what they do together.
use Rattle.std.proofs.Common.{ap, ◌∙◌, sym, subst, Err, refl, List}
use Rattle.tau_follow.specs.declared.spot.Spot.{Spot}
use Rattle.tau_follow.specs.Applying.{AreSpots}
use Rattle.tau_follow.specs.Holding.{IsTold}
use Rattle.tau_record.specs.declared.entry.Placed.{Placed}
use Rattle.tau_scan.specs.declared.fault.LogRefusal.{LogRefusal}
use Rattle.tau_follow_laws.specs.Following.{with_read}
use Rattle.tau_follow_laws.specs.Feeding.{with_piece, HasFed}
use Rattle.tau_follow.proofs.Fed.{reads, still_in_time, refusal_is}
use Rattle.tau_follow.proofs.Spots.{spots_grow}
use Rattle.tau_follow.proofs.state.applied.Goals as goal

pub returns-in-Err-checked-clause-bad : goal.returns-in-Err-checked-clause-bad
returns-in-Err-checked-clause-bad c = λ f n fed s p fault h after a e.
    (let w = reads f n fed s p c.args.streams.now h after in
    let stages_are = c.in-Ok-extend_all.ensures.stages s.streams w.more s.out s.order f fed (with_piece fed p) w.before w.after w.grown w.out_read w.order_read (c.in-Ok.ensures ∙ c.as_slice.ensures.value ∙ a.staged.stages_are) in
    c.in-Err-checked.ensures.bad f (with_piece fed p) s.out s.order fault w.after (record { stages_are = c.as_slice-2.ensures.value ∙ stages_are; apart = w.apart }) (ap (λ (z : LogRefusal). Err z) (refusal_is c.in-Err-checked.e fault e)))

pub returns-in-Ok-follow_on-clause-ok : goal.returns-in-Ok-follow_on-clause-ok
returns-in-Ok-follow_on-clause-ok c = λ f n fed s p h after a.
    (let now = with_piece fed p in
    let streams = c.args.streams.now in
    let w = reads f n fed s p streams h after in
    let stages_are = c.in-Ok-extend_all.ensures.stages s.streams w.more s.out s.order f fed now w.before w.after w.grown w.out_read w.order_read (c.in-Ok.ensures ∙ c.as_slice.ensures.value ∙ a.staged.stages_are) in
    let good = c.in-Ok-checked.ensures.ok f now s.out s.order w.after (record { stages_are = c.as_slice-2.ensures.value ∙ stages_are; apart = w.apart }) in
    let judged_are = c.in-Ok-judged_from.ensures.out f now s.out s.order w.after c.in-Ok-checked.ensures.known (still_in_time f now s.order streams good) (c.as_slice-3.ensures.value ∙ stages_are) in
    let spots = subst (λ (l : List Spot). AreSpots streams l s.order) (sym c.as_slice-4.ensures.value) (spots_grow s.streams w.more streams w.grown c.args.applier.now.order.items s.order a.spots) in
    let g = c.in-Ok-follow_on.ensures f now (with_read s streams) w.after refl judged_are spots in
    let followed = g.0 in
    let t = followed.done.now in
    let has : HasFed f now s t = record { streams = streams; read = good; news = followed.done.news; applies = followed.done.applies; through = followed.through } in
    (t, has, record { staged = followed.done.holds.staged; spots = followed.done.holds.spots; told = subst (λ (l : List (List Placed)). IsTold l c.in-Ok-follow_on.applier) followed.done.holds.streams_are g.1 }))
