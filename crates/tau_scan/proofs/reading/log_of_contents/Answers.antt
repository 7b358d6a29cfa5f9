-- The steps one after another.
use Rattle.std.proofs.Common.{◌≡◌, ℕ, List, map, length, Ok, None, refl, rules, sym, subst, ◌∙◌, ap}
use Rattle.std.proofs.lemmas.Result.{err_from_is_err_and}
use Rattle.tau_record.specs.declared.entry.Placed.{Placed}
use Rattle.tau_scan.specs.Contents.{bytes_in}
use Rattle.tau_scan.proofs.Contents.{count_of}
use Rattle.tau_scan.specs.Reading.{streams_of, declared_in, epoch_fault, IsReading}
use Rattle.std.specs.List.{AllZip}
use Rattle.tau_scan.proofs.Streams.{lost_here}
use Rattle.tau_scan.proofs.Marks.{fault_lost}
use Rattle.tau_scan.proofs.reading.log_of_contents.Goals as goal

pub returns-in_err-streams-clause-same : goal.returns-in_err-streams-clause-same
returns-in_err-streams-clause-same c =
    let p = err_from_is_err_and c.from_residual.result c.from_residual.ensures.1 in
    rw (p.1, p.2) (lost_here c.in_err-streams.field-0.0 (streams_of c.args.format (bytes_in c.args.contents.now)) _ c.in_err-streams.ensures.same)

pub returns-in_err-declarations-clause-same : goal.returns-in_err-declarations-clause-same
returns-in_err-declarations-clause-same c =
    let streams : streams_of c.args.format (bytes_in c.args.contents.now) ≡ Ok c.as_slice.result.now = c.in_ok-streams.ensures.same ∙ ap (λ (xs : List (List Placed)). Ok xs) (sym c.as_slice.ensures) in
    let p = err_from_is_err_and c.from_residual-in_err-declarations.result c.from_residual-in_err-declarations.ensures.1 in
    rw (p.1, p.2, streams) (lost_here c.in_err-declarations.field-0.0 (declared_in c.as_slice.result.now) _ c.in_err-declarations.ensures)

pub returns-in_err-one_vector_each-clause-same : goal.returns-in_err-one_vector_each-clause-same
returns-in_err-one_vector_each-clause-same c =
    let streams : streams_of c.args.format (bytes_in c.args.contents.now) ≡ Ok c.as_slice.result.now = c.in_ok-streams.ensures.same ∙ ap (λ (xs : List (List Placed)). Ok xs) (sym c.as_slice.ensures) in
    let same : c.as_slice.result.now ≡ c.as_slice-2.result.now = c.as_slice.ensures ∙ sym c.as_slice-2.ensures in
    let p = err_from_is_err_and c.from_residual-in_err-one_vector_each.result c.from_residual-in_err-one_vector_each.ensures.1 in
    rw (p.1, p.2, streams, c.in_ok-declarations.ensures, same) (fault_lost c.in_err-one_vector_each.field-0.0 (epoch_fault c.as_slice-2.result.now) _ c.in_err-one_vector_each.ensures.err)

pub returns-in-Some-clause-same : goal.returns-in-Some-clause-same
returns-in-Some-clause-same c =
    let streams : streams_of c.args.format (bytes_in c.args.contents.now) ≡ Ok c.as_slice.result.now = c.in_ok-streams.ensures.same ∙ ap (λ (xs : List (List Placed)). Ok xs) (sym c.as_slice.ensures) in
    let none : epoch_fault c.as_slice.result.now ≡ None = ap (λ (ss : List (List Placed)). epoch_fault ss) (c.as_slice.ensures ∙ sym c.as_slice-2.ensures) ∙ c.in_ok-one_vector_each.ensures.ok in
    rw (streams, c.in_ok-declarations.ensures, none, c.in-Some.ensures, c.as_slice.ensures) refl

pub returns-in-Some-clause-sound : goal.returns-in-Some-clause-sound
returns-in-Some-clause-sound c = record {
  format = c.args.format;
  contents = bytes_in c.args.contents.now;
  lengths = c.in-Some.ensures;
  read = subst (λ (n : ℕ). AllZip (IsReading c.args.format n) (bytes_in c.args.contents.now) c.in_ok-streams.streams) (sym (count_of c.args.contents.now)) c.in_ok-streams.ensures.read;
  declared = ap (λ (ss : List (List Placed)). declared_in ss) (sym c.as_slice.ensures) ∙ c.in_ok-declarations.ensures;
}

pub returns-in-Some-clause-theirs : goal.returns-in-Some-clause-theirs
returns-in-Some-clause-theirs c =
    let streams : streams_of c.args.format (bytes_in c.args.contents.now) ≡ Ok c.as_slice.result.now = c.in_ok-streams.ensures.same ∙ ap (λ (xs : List (List Placed)). Ok xs) (sym c.as_slice.ensures) in
    let none : epoch_fault c.as_slice.result.now ≡ None = ap (λ (ss : List (List Placed)). epoch_fault ss) (c.as_slice.ensures ∙ sym c.as_slice-2.ensures) ∙ c.in_ok-one_vector_each.ensures.ok in
    record {
      whole = rw (streams, c.in_ok-declarations.ensures, none, c.in-Some.ensures, c.as_slice.ensures) refl;
      lengths = c.in-Some.ensures;
      read = c.in_ok-streams.ensures.read;
    }
