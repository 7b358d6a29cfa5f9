-- The bytes come after those that are there.
use Rattle.std.proofs.Common.{ap, ◌∙◌, ◌++◌, ◌≤◌, ◌-◌, inr, refl, sym, subst, arith, length, List, ℕ}
use Rattle.std.specs.Prelude.{◌==◌}
use Rattle.tau_record.specs.Record.{record_at}
use Rattle.tau_follow.specs.Reading.{lacking}
use Rattle.tau_follow.proofs.Going.{extend_read, keep_read, stop_ok}
use Rattle.tau_follow.proofs.Cut.{short_now, lacks_on}
use Rattle.tau_follow.proofs.reader.Reader.wait.Goals as goal

pub returns-in-Ok-clause-ok : goal.returns-in-Ok-clause-ok
returns-in-Ok-clause-ok c = λ f n content ps g cut.
    (let r = c.args.self.now in
    let bytes = c.args.bytes.now in
    let first = r.at == 0 in
    let wants = g.wants in
    let on = lacks_on first r.rest.items bytes (omega (arith, cut, wants)) in
    let left = c.saturating_sub-self.ensures in
    let t = extend_read f n content bytes ps r _ g.going c.in-Ok.ensures.ok refl refl refl refl in
    let short = short_now f n r.last r.vectors.items first (r.rest.items ++ bytes) (omega (arith, on, cut, wants)) in (
      record { going = t; wants = subst (λ (l : List ℕ). c.saturating_sub-self.result ≤ lacking first l) (sym c.in-Ok.ensures.ok) (omega (arith, on, cut, wants, left)) },
      stop_ok f n (content ++ bytes) ps _ 0 t (inr (ap (record_at f n r.last r.vectors.items first) c.in-Ok.ensures.ok ∙ short)),
    ))

pub returns-in-Err-clause-err : goal.returns-in-Err-clause-err
returns-in-Err-clause-err c = λ f n content ps g. (let wants = g.wants in
    record {
      going = keep_read f n content ps c.args.self.now _ 0 g.going c.in-Err.ensures.err refl refl refl refl;
      wants = subst (λ (l : List ℕ). c.args.self.now.lacks ≤ lacking (c.args.self.now.at == 0) l) (sym c.in-Err.ensures.err) wants;
    })
