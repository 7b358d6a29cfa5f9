-- The byte comes after those that are there.
use Rattle.std.proofs.Common.{ap, ◌∙◌, ◌++◌, ◌≤◌, ◌-◌, inr, refl, sym, subst, arith, length, List, ℕ}
use Rattle.std.specs.Prelude.{◌==◌}
use Rattle.tau_record.specs.Record.{record_at}
use Rattle.tau_follow.specs.Reading.{lacking}
use Rattle.tau_follow.proofs.Going.{extend_read, keep_read, stop_ok}
use Rattle.tau_follow.proofs.Cut.{short_now, lacks_on}
use Rattle.tau_follow.proofs.reader.Reader.wait_byte.Goals as goal

pub returns-then-push_one-clause-put : goal.returns-then-push_one-clause-put
returns-then-push_one-clause-put c = λ f n content ps g yes.
    (let r = c.args.self.now in
    let bytes = c.args.bytes.now in
    let put = c.push_one.ensures.yes c.if-push_one.true in
    let cut = c.if-more-self.false in
    let wants = g.wants in
    let first = r.at == 0 in
    let on = lacks_on first r.rest.items bytes (omega (arith, cut, wants)) in
    let t = extend_read f n content bytes ps r _ g.going put refl refl refl refl in
    let short = short_now f n r.last r.vectors.items first (r.rest.items ++ bytes) (omega (arith, on, cut, wants)) in (
      record { going = t; wants = subst (λ (l : List ℕ). r.lacks - length bytes ≤ lacking first l) (sym put) (omega (arith, on, cut, wants)) },
      stop_ok f n (content ++ bytes) ps _ 0 t (inr (ap (record_at f n r.last r.vectors.items first) put ∙ short)),
    ))

pub returns-clause-same : goal.returns-clause-same
returns-clause-same c = λ f n content ps g no. (let wants = g.wants in
    let same = c.push_one.ensures.no c.if-push_one.false in
    record {
      going = keep_read f n content ps c.args.self.now _ 0 g.going same refl refl refl refl;
      wants = subst (λ (l : List ℕ). c.args.self.now.lacks ≤ lacking (c.args.self.now.at == 0) l) (sym same) wants;
    })
