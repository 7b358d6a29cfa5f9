use Rattle.std.proofs.Common.{ap}
use Rattle.std.specs.Prelude.{Err, Ok, OnOk, Result, is_some}
use Rattle.tau_block.specs.Image.{count_in, format_in, index_in}
use Rattle.tau_stream.proofs.writer.go_on.Goals as goal

-- what follows from what a call tells after Ok
ok_then : {X E P Q : Type 0} (r : Result X E) → (P → Q) → OnOk r P → OnOk r Q
ok_then (Ok x) f p = f p
ok_then (Err e) f p = tt

pub returns-in-Some-clause-done : goal.returns-in-Some-clause-done
returns-in-Some-clause-done g c =
    ok_then c.publish.result (λ done tells first some is.
    done tells (format_in c.args.head.now) (count_in c.args.head.now) (index_in c.args.head.now) c.args.content.now.bytes first ((c.requires.read tells).settled (ap is_some c.in-Some.is)) some is)
    c.publish.ensures.done

pub returns-in-Some-clause-moments : goal.returns-in-Some-clause-moments
returns-in-Some-clause-moments g c = λ tells first some is unborn.
    c.publish.ensures.moments tells (format_in c.args.head.now) (count_in c.args.head.now) (index_in c.args.head.now) c.args.content.now.bytes first ((c.requires.read tells).settled (ap is_some c.in-Some.is)) some is
