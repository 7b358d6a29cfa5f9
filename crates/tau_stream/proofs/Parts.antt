-- The part of the gathered bytes that a flush makes durable.
use Rattle.std.proofs.Common.{◌≡◌, ⊎_elim, ℕ, ◌+◌, ◌-◌, ◌<◌, ◌≤◌, length, arith, length-append, ◌∷◌, []}
use Rattle.std.proofs.lemmas.List.{length-take}
use Rattle.tau_disk.specs.declared.disk.Disk.{Ghosts}
use Rattle.tau_block.specs.Image.{IsBody, tail_of}
use Rattle.tau_stream.specs.declared.writer.Writer.{Writer}
use Rattle.tau_stream.specs.Writer.{MayReach, part_upto}

module _ {D : Type 0} {G : Ghosts D} (writer : Writer D G) (upto : ℕ) (reach : MayReach writer upto) (some : writer.durable < upto) where
  pub length_part : length (part_upto writer upto) ≡ upto - writer.durable
  length_part = omega (arith, length-take (upto - writer.durable) writer.body.items, reach.within)

  pub part_is : IsBody (part_upto writer upto)
  part_is = record { some = omega (arith, length_part); most = omega (arith, length_part, reach.small) }

  pub part_whole : writer.durable + 5 ≤ upto
  part_whole = ⊎_elim (λ none. absurd (omega (arith, none))) (λ more. more) reach.whole

  pub length_tail : length (tail_of (part_upto writer upto)) ≡ 5 + (upto - writer.durable)
  length_tail = omega (arith, length_part, length-append (part_upto writer upto) (0 ∷ []))
