-- The records of the contents so far.
use Rattle.std.proofs.Common.{ℕ, List, length, take}
use Rattle.std.specs.List.{All, AllZip}
use Rattle.tau_scan.specs.Contents.{bytes_in}
use Rattle.tau_scan.specs.Reading.{catalogue_of, recorded, records_of, IsReading}
use Rattle.tau_scan.specs.Found.{IsShort}
use Rattle.tau_scan.proofs.Streams.{IsGoing}
use Rattle.tau_scan.proofs.reading.streams_in.Given as goal

abbrev pub invariant-loop-j : goal.invariant-loop-j
invariant-loop-j l = record {
  going : IsGoing (λ (j : ℕ) (content : List ℕ). recorded j (records_of l.format (length l.contents) content)) (bytes_in l.contents) l.j l.streams;
  read : AllZip (IsReading l.format (length l.contents)) (take l.j (bytes_in l.contents)) l.streams;
  short : All (λ ps. IsShort (catalogue_of ps)) l.streams;
}
