-- Reading record after record, as the loop does.
use Rattle.std.proofs.Common.{◌≡◌, ℕ, suc, ◌+◌, ◌-◌, ◌<◌, ◌≤◌, eqb, List, [], ◌∷◌, ◌++◌, length, Result, Ok, Err, refl, sym, ap, subst, ◌∙◌, append_assoc, arith}
use Rattle.std.specs.Prelude.{IfOk}
use Rattle.std.specs.Global.{Vec}
use Rattle.std.proofs.lemmas.List.{append-nil, nil_from_length, length-append}
use Rattle.tau_record.specs.declared.entry.Entry.{Entry}
use Rattle.tau_record.specs.declared.entry.Placed.{Placed}
use Rattle.tau_record.specs.declared.fault.RecordFault.{RecordFault}
use Rattle.tau_record.specs.declared.fault.FieldError.{FieldError}
use Rattle.tau_record.specs.declared.fault.FieldError.TheVariants as errors
use Rattle.tau_record.specs.Field.{Fails}
use Rattle.tau_record.specs.declared.fault.RecordRefusal.{RecordRefusal}
use Rattle.tau_record.specs.declared.fault.RecordRefusal.TheVariants as refusals
use Rattle.tau_record.specs.Format.{Format, most_streams}
use Rattle.tau_record.specs.Record.{record_at, spelling, named, AreVectors, epoch_after}
use Rattle.tau_record.specs.Content.{named_after, in_front, placed, records_at, content_at, GivesAll, IsContent, IsAnswer, FirstBad, refused}
use Rattle.tau_record.proofs.FieldLaws.{IsBytes}
use Rattle.tau_record.proofs.RecordLaws.{record_takes}
use Rattle.tau_record.proofs.ContentLaws.{named_are, named_keep, spelling_long, content_takes, content_again, content_bad, done, failed, done_is}

abbrev pub in_fronts : List Placed → Result (List Placed) RecordFault → Result (List Placed) RecordFault
in_fronts front (Ok ps) = Ok (front ++ ps)
in_fronts front (Err e) = Err e

regroup : (front : List Placed) (p : Placed) (r : Result (List Placed) RecordFault) → in_fronts front (in_front p r) ≡ in_fronts (front ++ p ∷ []) r
regroup front p (Ok ps) = ap (λ (qs : List Placed). Ok qs) (sym (append_assoc front (p ∷ []) ps))
regroup front p (Err e) = refl

pub goes_on : (format : Format) (n count i at past k : ℕ) (vectors : List (List ℕ)) (rest : List ℕ) (e : Entry) (after : List ℕ) (front : List Placed) (total : Result (List Placed) RecordFault)
    → i < count → (length rest ≡ 0 → ⊥) → past ≡ at + (length rest - length after) → record_at format n k vectors (eqb at 0) rest ≡ Ok (e, after)
    → in_fronts front (records_at format n (count - i) at k vectors rest) ≡ total → in_fronts (front ++ placed e at past ∷ []) (records_at format n (count - (i + 1)) past (epoch_after k e) (named_after vectors e) after) ≡ total
unfolding records_at
goes_on format n count i at past k vectors [] e after front total lt some is h so_far = absurd (some refl)
goes_on format n count i at past k vectors (b ∷ bytes) e after front total lt some is h so_far =
    let fuel : count - i ≡ suc (count - (i + 1)) = omega arith in
    let q = at + (length (b ∷ bytes) - length after) in
    let one : in_fronts front (records_at format n (count - i) at k vectors (b ∷ bytes)) ≡ in_fronts (front ++ placed e at q ∷ []) (records_at format n (count - (i + 1)) q (epoch_after k e) (named_after vectors e) after)
    = rw (fuel, h) (regroup front (placed e at q) (records_at format n (count - (i + 1)) q (epoch_after k e) (named_after vectors e) after)) in
    subst (λ (p : ℕ). in_fronts (front ++ placed e at p ∷ []) (records_at format n (count - (i + 1)) p (epoch_after k e) (named_after vectors e) after) ≡ total) (sym is) (sym one ∙ so_far)

pub ends : (format : Format) (n count i at k : ℕ) (vectors : List (List ℕ)) (rest : List ℕ) (e : FieldError) (front : List Placed) (total : Result (List Placed) RecordFault)
    → i < count → (length rest ≡ 0 → ⊥) → Fails e (record_at format n k vectors (eqb at 0) rest)
    → in_fronts front (records_at format n (count - i) at k vectors rest) ≡ total → GivesAll (Err (refused at e)) total
unfolding records_at
ends format n count i at k vectors [] e front total lt some h so_far = absurd (some refl)
ends format n count i at k vectors (b ∷ bytes) errors.Memory front total lt some h so_far = tt
ends format n count i at k vectors (b ∷ bytes) (errors.Bad cause) front total lt some h so_far =
    let fuel : count - i ≡ suc (count - (i + 1)) = omega arith in
    let one : in_fronts front (records_at format n (count - i) at k vectors (b ∷ bytes)) ≡ Err (record { at = at; cause = cause }) = rw (fuel, h) refl in
    sym so_far ∙ one

pub is_done : (format : Format) (n fuel at k : ℕ) (vectors : List (List ℕ)) (rest : List ℕ) (front : List Placed) (total : Result (List Placed) RecordFault)
    → length rest ≡ 0 → in_fronts front (records_at format n fuel at k vectors rest) ≡ total → total ≡ Ok front
unfolding records_at
is_done format n fuel at k vectors rest front total none so_far =
    let one : in_fronts front (records_at format n fuel at k vectors rest) ≡ Ok front = rw (nil_from_length rest none) (ap (λ (qs : List Placed). Ok qs) (append-nil front)) in
    sym so_far ∙ one

-- what a record that was read leaves
pub record Leaves (n : ℕ) (vectors : List (List ℕ)) (rest after : List ℕ) (e : Entry) : Type 0 where
  pub shorter : length after + 5 ≤ length rest
  pub bytes : IsBytes after
  pub are : AreVectors n (named_after vectors e)

pub leaves : (format : Format) (n at k : ℕ) (vectors : List (List ℕ)) (rest : List ℕ) (e : Entry) (after : List ℕ) → IsBytes rest → AreVectors n vectors → record_at format n k vectors (eqb at 0) rest ≡ Ok (e, after) → Leaves n vectors rest after e
leaves format n at k vectors rest e after fits are h =
    let t = record_takes format n k vectors (eqb at 0) rest (e, after) fits are h in
    let lens : length rest ≡ length (spelling format vectors e) + length after = ap length t.0.parts ∙ length-append (spelling format vectors e) after in
    record { shorter = omega (arith, lens, spelling_long format vectors e); bytes = t.0.rest_fits; are = named_keep n vectors e are t.1.fields }

pub is_found : (format : Format) (n : ℕ) (content : List ℕ) (r : Result (Vec Placed) RecordRefusal) → IsBytes content → GivesAll r (content_at format n content) → IfOk r (λ v. IsContent format n content v.items)
is_found format n content (Ok v) fits given = content_takes format n content v.items fits given
is_found format n content (Err e) fits given = tt

pub is_only : (format : Format) (n : ℕ) (content : List ℕ) (r : Result (Vec Placed) RecordRefusal) (ps : List Placed) → n ≤ most_streams format → GivesAll r (content_at format n content) → IsContent format n content ps → IsAnswer ps r
is_only format n content (Ok v) ps room given h = sym (done_is ps v.items (sym (content_again format n content ps room h) ∙ given))
is_only format n content (Err refusals.NoMemory) ps room given h = tt
is_only format n content (Err (refusals.Bad fault)) ps room given h = let e : done ps ≡ failed fault = sym (content_again format n content ps room h) ∙ given in absurd cc

pub is_bad : (format : Format) (n : ℕ) (content : List ℕ) (r : Result (Vec Placed) RecordRefusal) (fault : RecordFault) → IsBytes content → GivesAll r (content_at format n content) → r ≡ Err (refusals.Bad fault) → FirstBad format n content fault
is_bad format n content r fault fits given e = content_bad format n content fault fits (subst (λ (q : Result (Vec Placed) RecordRefusal). GivesAll q (content_at format n content)) e given)

fronts_none : (r : Result (List Placed) RecordFault) → in_fronts [] r ≡ r
fronts_none (Ok ps) = refl
fronts_none (Err e) = refl

pub starts : (format : Format) (n : ℕ) (content : List ℕ) (vectors : List (List ℕ)) (ps : List Placed) → vectors ≡ named n [] → ps ≡ [] → in_fronts ps (records_at format n (length content - 0) 0 0 vectors content) ≡ content_at format n content
unfolding content_at
starts format n content vectors ps v p =
    let z : length content - 0 ≡ length content = omega arith in
    rw (v, p, z) (fronts_none (records_at format n (length content) 0 0 (named n []) content))

pub are_first : (n : ℕ) (vectors : List (List ℕ)) → vectors ≡ named n [] → AreVectors n vectors
are_first n vectors v = subst (λ (vs : List (List ℕ)). AreVectors n vs) (sym v) (named_are n)
