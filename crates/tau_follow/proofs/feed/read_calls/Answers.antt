-- It is not known any more.
use Rattle.std.proofs.Common.{inl}
use Rattle.tau_follow.proofs.feed.read_calls.Goals as goal

pub returns-in-Err-clause-told : goal.returns-in-Err-clause-told
returns-in-Err-clause-told c = λ all h. inl c.in-Err.ensures.unknown
