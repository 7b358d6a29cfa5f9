-- No image so far states a format.
use Rattle.std.proofs.Common.{◌≡◌, drop}
use Rattle.tau_scan.specs.Reading.{stated_by}
use Rattle.tau_scan.proofs.content.stated_by.Given as goal

abbrev pub invariant-loop-image : goal.invariant-loop-image
invariant-loop-image l = stated_by l.images ≡ stated_by (drop l.image-index l.images)
