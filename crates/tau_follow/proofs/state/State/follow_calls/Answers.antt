-- The new records stand, and what is ready is applied; or all stands as before.
use Rattle.tau_model.specs.Tables.{IsTablesOf}
use Rattle.tau_text.specs.declared.load.Declarations.{Declarations}
use Rattle.std.proofs.Common.{sym, ap, subst, ◌∙◌, ◌≡◌, ◌++◌, List, length, take, arith}
use Rattle.std.specs.Prelude.{slice_get}
use Rattle.tau_record.specs.declared.entry.Placed.{Placed}
use Rattle.tau_follow_laws.specs.Following.{with_read}
use Rattle.std.specs.Global.{Vec}
use Rattle.tau_follow.specs.declared.reader.Reader.{Reader}
use Rattle.tau_follow.specs.declared.spot.Spot.{Spot}
use Rattle.tau_follow.proofs.Continuing.{at_calls, stands_kept}
use Rattle.tau_base.proofs.Lists.{some_at, got_within}
use Rattle.tau_follow.specs.Applying.{redone_of}
use Rattle.tau_follow.proofs.ReadingOn.{there_now, begun_on, told_on, undone_on}
use Rattle.tau_follow.proofs.Spots.{spots_long}
use Rattle.tau_follow.proofs.state.State.follow_calls.Goals as goal

pub returns-in-Ok-redo_new-clause-ok : goal.returns-in-Ok-redo_new-clause-ok
returns-in-Ok-redo_new-clause-ok c = λ f n fed s p count h on calls.
    (let streams : List (List Placed) = c.args.self.now.streams.items in
    let a = h.read in
    let k = h.knows in
    let there = there_now f n fed s p streams h.follower a.fronts c.args.stream count on calls in
    let lt = got_within streams c.args.stream (on.before ++ on.news) there in
    let wide = a.wide in
    let many = a.as_many in
    let r = some_at c.args.self.now.readers.items c.args.stream (omega (arith, lt, wide, many)) in
    let w = c.in-Ok.ensures.ok r.0 (on.before ++ on.news) (ap (λ (l : List Reader). slice_get l c.args.stream) c.as_slice.ensures.value ∙ r.1) (ap (λ (l : List (List Placed)). slice_get l c.args.stream) c.as_slice-2.ensures.value ∙ there) in
    let begun = begun_on f n fed s p streams h.follower a.fronts c.args.stream count on calls c.args.self.now.applier c.read_calls.new.applier h.stands c.args.self.now.known k.known (on.before ++ on.news) there r.0.last (a.each c.args.stream (on.before ++ on.news) r.0 there r.1).going.last w c.in-Ok.ensures.order in
    let was = told_on f n fed s p streams h.follower a.fronts c.args.stream count on calls c.args.self.now.applier c.read_calls.new.applier h.stands c.args.self.now.known k.known (on.before ++ on.news) there r.0.last (a.each c.args.stream (on.before ++ on.news) r.0 there r.1).going.last w c.in-Ok.ensures.order in
    let redone = c.in-Ok-redo_new.ensures.ok (with_read s streams) begun was h.redone.within (h.redone.store ∙ ap (λ d. redone_of d.procs (take c.args.self.now.done s.order)) (sym k.declarations))
    (subst (λ (d : Declarations). IsTablesOf (redone_of d.procs s.order) c.args.self.now.tables) (sym k.declarations) h.redone.tables) in
    let same = c.in-Ok-redo_new.ensures.same in
    at_calls f n fed s p c.args.self.now c.redo_new.new.self c.args.stream count h on calls (record { streams = same.streams; readers = same.readers; known = same.known; declarations = same.declarations }) redone)

pub returns-in-Err-clause-stands : goal.returns-in-Err-clause-stands
returns-in-Err-clause-stands c = λ f n fed s p count h on calls. stands_kept s c.args.self.now.applier c.read_calls.new.applier h.stands c.in-Err.ensures.stages c.in-Err.ensures.passed c.in-Err.ensures.order (c.in-Err.ensures.kept s.streams) (c.in-Err.ensures.told s.streams)

pub returns-in-Err-redo_new-clause-stands : goal.returns-in-Err-redo_new-clause-stands
returns-in-Err-redo_new-clause-stands c = λ f n fed s p count h on calls.
    (let streams : List (List Placed) = c.args.self.now.streams.items in
    let a = h.read in
    let k = h.knows in
    let there = there_now f n fed s p streams h.follower a.fronts c.args.stream count on calls in
    let lt = got_within streams c.args.stream (on.before ++ on.news) there in
    let wide = a.wide in
    let many = a.as_many in
    let r = some_at c.args.self.now.readers.items c.args.stream (omega (arith, lt, wide, many)) in
    let w = c.in-Ok.ensures.ok r.0 (on.before ++ on.news) (ap (λ (l : List Reader). slice_get l c.args.stream) c.as_slice.ensures.value ∙ r.1) (ap (λ (l : List (List Placed)). slice_get l c.args.stream) c.as_slice-2.ensures.value ∙ there) in
    let last = (a.each c.args.stream (on.before ++ on.news) r.0 there r.1).going.last in
    let begun = begun_on f n fed s p streams h.follower a.fronts c.args.stream count on calls c.args.self.now.applier c.read_calls.new.applier h.stands c.args.self.now.known k.known (on.before ++ on.news) there r.0.last last w c.in-Ok.ensures.order in
    let was = told_on f n fed s p streams h.follower a.fronts c.args.stream count on calls c.args.self.now.applier c.read_calls.new.applier h.stands c.args.self.now.known k.known (on.before ++ on.news) there r.0.last last w c.in-Ok.ensures.order in
    let applied = c.in-Err-redo_new.ensures.applied (with_read s streams) begun was in
    let long = spots_long s.streams c.args.self.now.applier.order.items s.order h.stands.spots in
    let count_is : c.len-count.result ≡ length c.args.self.now.applier.order.items = omega (arith, c.len-count.ensures) in
    let front = c.in-Err-redo_new.ensures.order in
    undone_on f n fed s p streams h.follower a.fronts c.args.stream count on calls c.args.self.now.applier c.read_calls.new.applier h.stands c.args.self.now.known k.known (on.before ++ on.news) there r.0.last last w c.in-Ok.ensures.order
    c.undo.new.self c.stand_count-stood.result c.stand_count-stood.ensures c.undo.ensures.firsts c.undo.ensures.lost
    (c.undo.ensures.order c.args.self.now.applier.order.items (front.0, front.1 ∙ ap (λ (v : Vec Spot). v.items ++ front.0) c.in-Ok.ensures.order) count_is)
    (λ ss e. c.undo.ensures.stages streams (with_read s streams) ss applied (omega (arith, count_is, long)) e))
