-- A record in no stream of these ends is not within.
use Rattle.std.proofs.Common.{◌<◌, length, arith}
use Rattle.std.proofs.lemmas.Bool.{ltb-true}
use Rattle.tau_model.proofs.report.is_within.Goals as goal

pub returns-else-stream-width : goal.returns-else-stream-width
returns-else-stream-width c = (
  λ t. absurd (let h : c.from-stream.result < c.width.result = ltb-true c.from-stream.result c.width.result t in omega arith),
  λ w. absurd (let h : c.in-Some.spot.stream < length c.args.ends.now = (w c.in-Some.spot c.in-Some.is).0 in omega arith),
)
