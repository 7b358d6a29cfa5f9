-- How far the streams are followed is known, and what waits.
use Rattle.std.proofs.Common.{inl, refl}
use Rattle.tau_follow.proofs.Holding.{step_kept, applied_known, is_known}
use Rattle.tau_follow.proofs.applier.Applier.reach_all.Goals as goal

pub returns-in_default-clause-err : goal.returns-in_default-clause-err
returns-in_default-clause-err c = λ s d. step_kept c.args.streams.now s c.args.self.now _ c.as_slice.result.now d c.as_slice.ensures.value c.in_default.ensures.passed refl refl (λ k. k)

pub returns-in-Err-clause-err : goal.returns-in-Err-clause-err
returns-in-Err-clause-err c = λ s d. step_kept c.args.streams.now s c.args.self.now _ c.as_slice.result.now d c.as_slice.ensures.value c.in-Ok.ensures.passed refl refl (λ k. inl c.in-Err.ensures.err)

pub returns-in-Ok-know-clause-known : goal.returns-in-Ok-know-clause-known
returns-in-Ok-know-clause-known c = λ s d. (
  applied_known c.args.streams.now s c.args.self.now _ c.as_slice.result.now c.as_slice-2.result.now c.in-Ok.reached.items c.as_slice-3.result.now d c.as_slice.ensures.value c.in-Ok.ensures.reached c.in-Ok.ensures.passed c.as_slice-2.ensures.value c.as_slice-3.ensures.value refl refl
      (c.in-Ok-know.ensures.found c.args.streams.now) c.in-Ok-know.ensures.above,
  is_known c.args.streams.now s c.args.self.now _ c.as_slice.result.now c.as_slice-2.result.now c.in-Ok.reached.items c.as_slice-3.result.now d c.as_slice.ensures.value c.in-Ok.ensures.reached c.in-Ok.ensures.passed c.as_slice-2.ensures.value c.as_slice-3.ensures.value refl refl
      (c.in-Ok-know.ensures.found c.args.streams.now) c.in-Ok-know.ensures.above,
)
