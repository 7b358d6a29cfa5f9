-- The bytes come after those that are there, and those that are read go.
use Rattle.std.proofs.Common.{ap, arith, refl, ◌∙◌, ◌++◌}
use Rattle.std.specs.Prelude.{◌==◌}
use Rattle.tau_record.specs.declared.fault.RecordRefusal.TheVariants.{Bad}
use Rattle.tau_follow.specs.Reading.{lacking}
use Rattle.tau_follow.proofs.Going.{extend_read, keep_read, refused_as}
use Rattle.tau_follow.proofs.reader.Reader.read.Goals as goal

pub returns-in-Ok-keep_from-clause-ok : goal.returns-in-Ok-keep_from-clause-ok
returns-in-Ok-keep_from-clause-ok c = λ content g.
    (let w = c.in-Ok-read_all.ensures.ok (content ++ c.args.bytes.now) (extend_read c.args.format c.args.n content c.args.bytes.now c.args.records.now c.args.self.now _ g.going c.in-Ok.ensures.ok refl refl refl refl) in
    let lacks = c.lacking-self.ensures ∙ ap (lacking (c.read_all.new.self.at == 0)) c.as_slice.ensures.value in
    (record { wants = omega (arith, lacks); going = keep_read c.args.format c.args.n (content ++ c.args.bytes.now) c.read_all.new.records c.read_all.new.self _ c.in-Ok-read_all.past w.0 c.in-Ok-keep_from.ensures.ok refl refl refl refl }, w.1))

pub returns-in-Err-read_all-clause-bad : goal.returns-in-Err-read_all-clause-bad
returns-in-Err-read_all-clause-bad c = λ content fault g e.
    c.in-Err-read_all.ensures.bad (content ++ c.args.bytes.now) fault (extend_read c.args.format c.args.n content c.args.bytes.now c.args.records.now c.args.self.now _ g.going c.in-Ok.ensures.ok refl refl refl refl) (refused_as c.in-Err-read_all.e (Bad fault) e)
