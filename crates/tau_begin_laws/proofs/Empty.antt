-- Contents without a byte, and streams without a record.
use Rattle.std.proofs.Common.{ℕ, ◌≤◌, Bool, true, ◌≡◌, List, [], ◌∷◌, length, refl, ap, subst, ◌∙◌, arith}
use Rattle.std.specs.Prelude.{◌&&◌}
use Rattle.tau_record.specs.declared.entry.Placed.{Placed}
use Rattle.tau_begin.specs.Given.{is_empty, all_empty}
use Rattle.tau_epoch_laws.specs.Continues.{none_in}
use Rattle.tau_epoch_laws.proofs.Contents.{AreStreams}
use Rattle.tau_epoch_laws.proofs.Records.{Stand}

stand_low : (at end : ℕ) (ps : List Placed) → Stand at end ps → at ≤ end
stand_low at end [] s = omega (arith, s)
stand_low at end (p ∷ ps) s = omega (arith, s.1, stand_low p.past end ps s.2)

no_record : (ps : List Placed) → Stand 0 0 ps → ps ≡ []
no_record [] s = refl
no_record (p ∷ ps) s = absurd (omega (arith, s.1, stand_low p.past 0 ps s.2))

no_byte : (content : List ℕ) → 0 ≡ length content → is_empty content ≡ true
no_byte [] e = refl
no_byte (b ∷ bytes) e = absurd (omega (arith, e))

pub nothing_read : (contents : List (List ℕ)) (streams : List (List Placed)) → AreStreams contents streams → all_empty contents ≡ true → none_in streams
nothing_read [] [] are e = tt
nothing_read [] (ps ∷ streams) are e = absurd are
nothing_read (content ∷ contents) [] are e = absurd are
nothing_read ([] ∷ contents) (ps ∷ streams) are e = (no_record ps are.0.stand, nothing_read contents streams are.1 e)
nothing_read ((b ∷ bytes) ∷ contents) (ps ∷ streams) are e = absurd cc

pub nothing_held : (contents : List (List ℕ)) (streams : List (List Placed)) → AreStreams contents streams → none_in streams → all_empty contents ≡ true
nothing_held [] streams are none = refl
nothing_held (content ∷ contents) [] are none = absurd are
nothing_held (content ∷ contents) (ps ∷ streams) are none =
    let stand = subst (Stand 0 (length content)) none.0 are.0.stand in
    ap (λ (b : Bool). b && all_empty contents) (no_byte content stand) ∙ nothing_held contents streams are.1 none.1
