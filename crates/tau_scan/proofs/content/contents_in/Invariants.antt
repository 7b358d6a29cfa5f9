-- The contents of the images so far.
use Rattle.std.proofs.Common.{ℕ, List, length}
use Rattle.tau_block.specs.Image.{image_of}
use Rattle.tau_scan.specs.Contents.{bytes_in}
use Rattle.tau_scan.specs.Reading.{opened}
use Rattle.tau_scan.proofs.Contents.{Each}
use Rattle.tau_scan.proofs.Streams.{IsGoing}
use Rattle.tau_scan.proofs.content.contents_in.Given as goal

abbrev pub invariant-loop-j : goal.invariant-loop-j
invariant-loop-j l = record {
  going : IsGoing (λ (j : ℕ) (image : List ℕ). opened l.format (length l.images) j (image_of j image)) l.images l.j (bytes_in l.contents);
  each : Each l.format l.images l.contents;
}
