-- What was told of a run to its end is of all its events.
use Rattle.std.proofs.Common.{◌≡◌, inl, inr, sym, ◌∙◌}
use Rattle.std.specs.Prelude.{Some, None}
use Rattle.tau_run.specs.Laws.{ToldIsWhole}

-- a run that was not begun has no stopped stream to name
pub told_is_whole : ToldIsWhole
told_is_whole style n m mode load stops run j (inl core) low = core
told_is_whole style n m mode load stops run j (inr none) low = absurd (let bad : None ≡ Some low.1.0 = sym (none.2 j low.0) ∙ low.1.1 in cc bad)
