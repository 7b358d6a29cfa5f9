-- The records of one more stream, or the first cause.
use Rattle.std.proofs.Common.{ℕ, ◌≤◌, List, length, arith, Result, Ok, subst, sym, ◌≡◌, ◌+◌, take}
use Rattle.std.proofs.lemmas.Result.{err_from_is_err_and}
use Rattle.tau_base.specs.declared.format.Format.{Format}
use Rattle.tau_record.specs.declared.entry.Placed.{Placed}
use Rattle.tau_scan.specs.declared.fault.LogFault.{LogFault}
use Rattle.tau_scan.specs.Contents.{bytes_in}
use Rattle.tau_scan.specs.Reading.{catalogue_of, each_from, recorded, records_of, streams_of, IsReading}
use Rattle.std.specs.List.{All, AllZip}
use Rattle.tau_scan.specs.Found.{IsShort, Lost}
use Rattle.tau_scan.proofs.Contents.{bytes_at, count_of}
use Rattle.tau_scan.proofs.Streams.{IsGoing, zip_on, zip_whole, all_push, going_on, going_lost, going_last}
use Rattle.tau_scan.proofs.reading.streams_in.Goals as goal

abbrev reads : Format → ℕ → ℕ → List ℕ → Result (List Placed) LogFault
reads f n j content = recorded j (records_of f n content)

pub returns-in_err-records-clause-same : goal.returns-in_err-records-clause-same
unfolding streams_of
returns-in_err-records-clause-same c =
    let p = err_from_is_err_and c.from_residual.result c.from_residual.ensures.1 in
    rw (p.1, p.2) (subst (λ (n : ℕ). Lost c.in_err-records.field-0.0 (each_from (reads c.args.format n) 0 (bytes_in c.args.contents.now))) (sym (count_of c.args.contents.now))
    (going_lost (reads c.args.format (length c.args.contents.now)) (bytes_in c.args.contents.now) c.loop-j.j c.loop-j.streams c.as_slice.result.now c.in_err-records.field-0.0 c.loop-j.invariant.going
    (bytes_at c.args.contents.now c.loop-j.j c.index-contents-j.result c.as_slice.result.now c.loop-j-test.true c.index-contents-j.is c.as_slice.ensures) c.in_err-records.ensures.same))

pub loop-j-preserved : goal.loop-j-preserved
loop-j-preserved c =
    let here = bytes_at c.args.contents.now c.loop-j.j c.index-contents-j.result c.as_slice.result.now c.loop-j-test.true c.index-contents-j.is c.as_slice.ensures in
    record {
      going = subst (λ (done : List (List Placed)). IsGoing (reads c.args.format (length c.args.contents.now)) (bytes_in c.args.contents.now) (c.loop-j.j + 1) done) (sym c.in_ok-push.ensures.ok)
          (going_on (reads c.args.format (length c.args.contents.now)) (bytes_in c.args.contents.now) c.loop-j.j c.loop-j.streams c.as_slice.result.now c.in_ok-records.records c.loop-j.invariant.going here c.in_ok-records.ensures.same);
      read = subst (λ (done : List (List Placed)). AllZip (IsReading c.args.format (length c.args.contents.now)) (take (c.loop-j.j + 1) (bytes_in c.args.contents.now)) done) (sym c.in_ok-push.ensures.ok)
          (zip_on (IsReading c.args.format (length c.args.contents.now)) (bytes_in c.args.contents.now) c.loop-j.j c.loop-j.streams c.as_slice.result.now c.in_ok-records.records c.loop-j.invariant.read here c.in_ok-records.ensures.read);
      short = subst (λ (done : List (List Placed)). All (λ ps. IsShort (catalogue_of ps)) done) (sym c.in_ok-push.ensures.ok)
          (all_push (λ (ps : List Placed). IsShort (catalogue_of ps)) c.loop-j.streams c.in_ok-records.records c.loop-j.invariant.short c.in_ok-records.ensures.short);
    }

pub returns-clause-same : goal.returns-clause-same
unfolding streams_of
returns-clause-same c =
    let past : length (bytes_in c.args.contents.now) ≤ c.loop-j.j = omega (arith, c.loop-j-test.false, count_of c.args.contents.now) in
    subst (λ (n : ℕ). each_from (reads c.args.format n) 0 (bytes_in c.args.contents.now) ≡ Ok c.loop-j.streams) (sym (count_of c.args.contents.now))
    (going_last (reads c.args.format (length c.args.contents.now)) (bytes_in c.args.contents.now) c.loop-j.j c.loop-j.streams past c.loop-j.invariant.going)

pub returns-clause-read : goal.returns-clause-read
returns-clause-read c =
    let past : length (bytes_in c.args.contents.now) ≤ c.loop-j.j = omega (arith, c.loop-j-test.false, count_of c.args.contents.now) in
    zip_whole (IsReading c.args.format (length c.args.contents.now)) (bytes_in c.args.contents.now) c.loop-j.j c.loop-j.streams past c.loop-j.invariant.read
