-- The first bad record is what the reading gives.
use Rattle.std.proofs.Common.{◌≡◌, ℕ, zero, suc, ◌+◌, ◌-◌, ◌<◌, ◌≤◌, eqb, List, [], ◌∷◌, ◌++◌, length, take, drop, Result, Err, refl, sym, ap, subst, ◌∙◌, arith, append_assoc, take-append-drop, length-take-le}
use Rattle.std.proofs.Math.Seq.{take-append_seam, drop-append_seam}
use Rattle.std.proofs.lemmas.List.{length-append}
use Rattle.tau_record.specs.declared.entry.Placed.{Placed}
use Rattle.tau_record.specs.declared.fault.RecordCause.{RecordCause}
use Rattle.tau_record.specs.declared.fault.RecordFault.{RecordFault}
use Rattle.tau_record.specs.Record.{named, spelling, AreVectors, Fits, IsNext, epoch_after, record_at}
use Rattle.tau_record.specs.Format.{Format, most_streams}
use Rattle.tau_record.specs.Content.{named_after, named_behind, last_epoch, FirstBad, Reads, found_at, in_front, placed, records_at, content_at}
use Rattle.tau_record.proofs.ContentLaws.{spelling_long, named_are, named_keep}
use Rattle.tau_record.proofs.RecordLaws.{record_again}

abbrev spoilt : ℕ → RecordCause → Result (List Placed) RecordFault
spoilt place cause = Err (record { at = place; cause = cause })

one_more : (format : Format) (n fuel at k : ℕ) (vectors : List (List ℕ)) (p : Placed) (more content : List ℕ) (place : ℕ) (cause : RecordCause) →
    n ≤ most_streams format → AreVectors n vectors → content ≡ spelling format vectors p.entry ++ more → Fits n vectors (eqb at 0) p.entry → IsNext k p.entry →
    p.past ≡ at + length (spelling format vectors p.entry) → records_at format n fuel p.past (epoch_after k p.entry) (named_after vectors p.entry) more ≡ spoilt place cause →
    records_at format n (suc fuel) at k vectors content ≡ spoilt place cause
unfolding records_at
one_more format n fuel at k vectors p more content place cause room are parts fits next ends rest =
    let text = spelling format vectors p.entry in
    let less : length (text ++ more) - length more ≡ length text = omega (arith, length-append text more) in
    let read = record_again format n k vectors (eqb at 0) p.entry more room are fits next in
    let past : at + (length (text ++ more) - length more) ≡ p.past = omega (arith, less, ends) in
    let one : found_at at (record_at format n k vectors (eqb at 0) (text ++ more)) (λ x. in_front (placed x.0 at (at + (length (text ++ more) - length x.1))) (records_at format n fuel (at + (length (text ++ more) - length x.1)) (epoch_after k x.0) (named_after vectors x.0) x.1)) ≡ spoilt place cause
    = rw (read, past, rest) refl in
    let whole : records_at format n (suc fuel) at k vectors (text ++ more) ≡ spoilt place cause = one in
    ap (records_at format n (suc fuel) at k vectors) parts ∙ whole

pub bad_from : (format : Format) (n fuel at k : ℕ) (vectors : List (List ℕ)) (before : List Placed) (content : List ℕ) (passed place : ℕ) (cause : RecordCause) →
    n ≤ most_streams format → AreVectors n vectors → length content ≤ fuel → passed < length content → place ≡ at + passed →
    Reads format n at k vectors (take passed content) before → record_at format n (last_epoch k before) (named_behind vectors before) (eqb place 0) (drop passed content) ≡ Err cause →
    records_at format n fuel at k vectors content ≡ spoilt place cause
unfolding records_at
bad_from format n fuel at k vectors before [] passed place cause room are le there is good bad = absurd (omega (arith, there))
bad_from format n zero at k vectors before (b ∷ bytes) passed place cause room are le there is good bad = absurd (omega (arith, le))
bad_from format n (suc fuel) at k vectors [] (b ∷ bytes) zero place cause room are le there is good bad =
    let same : place ≡ at = omega (arith, is) in
    let here : record_at format n k vectors (eqb at 0) (b ∷ bytes) ≡ Err cause = subst (λ (a : ℕ). record_at format n k vectors (eqb a 0) (b ∷ bytes) ≡ Err cause) same bad in
    rw (here, same) refl
bad_from format n (suc fuel) at k vectors [] (b ∷ bytes) (suc passed) place cause room are le there is good bad = absurd cc
bad_from format n (suc fuel) at k vectors (p ∷ ps) content passed place cause room are le there is good bad =
    let text = spelling format vectors p.entry in
    let rest : List ℕ = good.0 in
    let long = spelling_long format vectors p.entry in
    let front : length (take passed content) ≡ length text + length rest = ap (λ (xs : List ℕ). length xs) good.1.parts ∙ length-append text rest in
    let size : length (take passed content) ≡ passed = length-take-le passed content (omega (arith, there)) in
    let parts : content ≡ text ++ (rest ++ drop passed content) = sym (take-append-drop passed content) ∙ ap (λ (xs : List ℕ). xs ++ drop passed content) good.1.parts ∙ append_assoc text rest (drop passed content) in
    let behind : drop passed content ≡ drop (length rest) (rest ++ drop passed content) = sym (drop-append_seam rest (drop passed content)) in
    let lens : length content ≡ length text + length (rest ++ drop passed content) = ap (λ (xs : List ℕ). length xs) parts ∙ length-append text (rest ++ drop passed content) in
    let more = bad_from format n fuel p.past (epoch_after k p.entry) (named_after vectors p.entry) ps (rest ++ drop passed content) (length rest) place cause room (named_keep n vectors p.entry are good.1.fits.fields)
    (omega (arith, lens, long, le)) (omega (arith, lens, front, size, there)) (omega (arith, is, good.1.ends, front, size))
    (subst (λ (xs : List ℕ). Reads format n p.past (epoch_after k p.entry) (named_after vectors p.entry) xs ps) (sym (take-append_seam rest (drop passed content))) good.2)
    (subst (λ (xs : List ℕ). record_at format n (last_epoch (epoch_after k p.entry) ps) (named_behind (named_after vectors p.entry) ps) (eqb place 0) xs ≡ Err cause) behind bad) in
    one_more format n fuel at k vectors p (rest ++ drop passed content) content place cause room are parts good.1.fits good.1.next good.1.ends more

-- a content with a first bad record reads as that fault
pub first_bad : (format : Format) (n : ℕ) (content : List ℕ) (fault : RecordFault) → n ≤ most_streams format → FirstBad format n content fault → content_at format n content ≡ Err fault
unfolding content_at
first_bad format n content fault room b =
    bad_from format n (length content) 0 0 (named n []) b.before content fault.at fault.at fault.cause room (named_are n) (omega arith) b.there (omega arith) b.good b.bad
