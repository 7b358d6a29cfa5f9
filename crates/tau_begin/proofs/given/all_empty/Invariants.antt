-- All contents so far are empty.
use Rattle.std.proofs.Common.{◌≡◌, drop}
use Rattle.tau_scan.specs.Contents.{bytes_in}
use Rattle.tau_begin.specs.Given.{all_empty}
use Rattle.tau_begin.proofs.given.all_empty.Given as goal

abbrev pub invariant-loop-content : goal.invariant-loop-content
invariant-loop-content l = all_empty (bytes_in l.contents) ≡ all_empty (bytes_in (drop l.content-index l.contents))
