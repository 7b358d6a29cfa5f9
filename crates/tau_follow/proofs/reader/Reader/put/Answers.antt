-- The reader goes on by this record.
use Rattle.std.proofs.Common.{refl, ap, ◌∙◌, ℕ, ◌++◌, ◌∷◌, []}
use Rattle.tau_record.specs.declared.fault.RecordRefusal.TheVariants.{Bad}
use Rattle.tau_record.specs.Content.{placed}
use Rattle.tau_follow.proofs.Going.{put_bad, put_going, refused_as, fault_as}
use Rattle.tau_follow.proofs.reader.Reader.put.Goals as goal

pub returns-in-Err-clause-bad : goal.returns-in-Err-clause-bad
returns-in-Err-clause-bad c = λ f n content fault g is e.
    (let w = c.in-Err.ensures.bad fault (refused_as c.in-Err.e (Bad fault) e) in
    fault_as f n content _ fault (put_bad f n content c.args.records.now c.args.self.now c.args.from g c.args.next.entry c.args.next.long c.take.new.self.declarations c.requires.some c.requires.within is w.1 w.2) w.0)

pub returns-clause-going : goal.returns-clause-going
returns-clause-going c = λ f n content g is.
    put_going f n content c.args.records.now c.args.self.now c.args.from g c.args.next.entry c.args.next.long c.take.new.self.declarations c.requires.some c.requires.within is c.in-Ok.ensures.declared c.in-Ok.ensures.check _ c.push.new.self c.take.ensures.rest c.in-Ok.ensures.past
    c.in-Ok.ensures.vectors c.in-Ok.ensures.last refl
    (c.in-Ok-push.ensures.ok ∙ ap (λ (i : ℕ). c.args.records.now ++ placed c.args.next.entry i c.in-Ok.past ∷ []) c.take.ensures.at ∙ ap (λ (i : ℕ). c.args.records.now ++ placed c.args.next.entry c.args.self.now.at i ∷ []) c.in-Ok.ensures.past)
