use Rattle.std.proofs.Common.{◌≡◌, [], ◌++◌, ◌∙◌, ap, length, List, ℕ, arith}
use Rattle.tau_block.specs.Image.{tail_of}
use Rattle.tau_stream.specs.Stream.{catalogue_record}
use Rattle.tau_stream.proofs.Catalogues.{catalogue_is}
use Rattle.tau_stream.proofs.writer.first_block.Goals as goal

pub append_tail-requires : goal.append_tail-requires
append_tail-requires c = rw (c.deref.ensures.value ∙ (c.in_ok-record.ensures 1 []).text) (catalogue_is c.args.catalogue.now c.requires)

pub returns-clause-block : goal.returns-clause-block
returns-clause-block c =
    let same : c.deref.result.now ≡ catalogue_record c.args.catalogue.now = c.deref.ensures.value ∙ (c.in_ok-record.ensures 1 []).text in
    c.in_ok-append_tail.ensures.ok ∙ ap (λ (xs : List ℕ). xs ++ tail_of c.deref.result.now) c.new-block.ensures.items ∙ ap tail_of same

pub returns-clause-size : goal.returns-clause-size
returns-clause-size c = omega (arith, c.len.ensures, ap length (c.in_ok-record.ensures 1 []).text)
