-- The block with the catalogue's record.
use Rattle.std.proofs.Common.{◌≡◌, ℕ, ◌+◌, ◌≤◌, ◌∷◌, [], ◌∙◌, ap, length, List, arith, length-append}
use Rattle.tau_base.specs.declared.limits.TheConstants.{MAX_CATALOGUE}
use Rattle.tau_block.specs.Image.{IsBody, tail_of}
use Rattle.tau_stream.specs.Stream.{catalogue_record}

pub catalogue_is : (text : List ℕ) → length text ≤ MAX_CATALOGUE → IsBody (catalogue_record text)
catalogue_is text short = record { some = omega arith; most = omega (arith, short) }

pub length_block : (text block : List ℕ) → block ≡ tail_of (catalogue_record text) → length block ≡ 10 + length text
length_block text block is = ap length is ∙ omega (arith, length-append (catalogue_record text) (0 ∷ []), length-append text (0 ∷ []))
