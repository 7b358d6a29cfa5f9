-- The bytes come after those that are there, or do not.
use Rattle.std.proofs.Common.{ap, ◌∙◌, ◌++◌, ◌≤◌, ◌<◌, inr, refl, sym, subst, arith, List, ℕ, true, false}
use Rattle.std.specs.Prelude.{◌==◌}
use Rattle.std.proofs.Math.Seq.{take-append_seam}
use Rattle.tau_record.specs.Record.{record_at}
use Rattle.tau_follow.specs.Reading.{lacking}
use Rattle.tau_follow.proofs.Going.{extend_read, keep_read, stop_ok}
use Rattle.tau_follow.proofs.Cut.{short_now}
use Rattle.tau_follow.proofs.reader.Reader.wait_head.Goals as goal

pub returns-then-lacks-gt0-clause-put : goal.returns-then-lacks-gt0-clause-put
returns-then-lacks-gt0-clause-put c = λ f n content ps g yes.
    (let r = c.args.self.now in
    let bytes = c.args.bytes.now in
    let t = extend_read f n content bytes ps r _ g.going c.in-Ok.ensures.ok refl refl refl refl in
    let own = c.lacking-lacks.ensures ∙ ap (lacking (r.at == 0)) c.as_slice.ensures.value in
    let is = c.lacking-lacks.ensures ∙ ap (lacking (r.at == 0)) (c.as_slice.ensures.value ∙ c.in-Ok.ensures.ok) in (
      record { going = t; wants = omega (arith, own) },
      stop_ok f n (content ++ bytes) ps _ 0 t (inr (ap (record_at f n r.last r.vectors.items (r.at == 0)) c.in-Ok.ensures.ok ∙ short_now f n r.last r.vectors.items (r.at == 0) (r.rest.items ++ bytes) (omega (arith, is, c.if-lacks-gt0.true)))),
    ))
