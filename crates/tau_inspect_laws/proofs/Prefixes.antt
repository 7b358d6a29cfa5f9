-- Of a content that is a first part of another one the records are the first ones of the other's.
use Rattle.std.proofs.Common.{ℕ, zero, suc, ◌+◌, ◌-◌, ◌≤◌, ◌<◌, Bool, false, cond, eqb, ltb, ◌≡◌, List, [], ◌∷◌, ◌++◌, length, take, drop, Result, Ok, Err, refl, sym, ap, subst, ◌∙◌, arith}
use Rattle.std.specs.Int.{w32, byte_len, from_be_bytes}
use Rattle.std.proofs.lemmas.Bool.{ltb-false, le-ltb}
use Rattle.std.proofs.lemmas.List.{length-append, length-drop, take-append-le, drop-append-le, take-append-drop}
use Rattle.tau_record.specs.declared.entry.Entry.{Entry}
use Rattle.tau_record.specs.declared.entry.Placed.{Placed}
use Rattle.tau_record.specs.declared.fault.RecordCause.{RecordCause}
use Rattle.tau_record.specs.declared.fault.RecordCause.TheVariants.{Short, BadKind, BadLength}
use Rattle.tau_record.specs.declared.fault.RecordFault.{RecordFault}
use Rattle.tau_record.specs.Field.{◌>>=◌}
use Rattle.tau_record.specs.Format.{Format}
use Rattle.tau_record.specs.Record.{epoch_after, body_at, sized_at, total_at, frame_at, record_at, kind_fits, named}
use Rattle.tau_record.specs.Content.{named_after, found_at, in_front, placed, records_at, content_at}
use Rattle.tau_record.proofs.FieldLaws.{bind_ok, guard_ok, ok_is}
use Rattle.tau_record.proofs.ItemLaws.{guard_held}
use Rattle.tau_record.proofs.ContentLaws.{done_is}

-- what is read of some bytes is read of them with more after them, which are left
abbrev with_more : {A : Type 0} → List ℕ → A × List ℕ → A × List ℕ
with_more more x = (x.0, x.1 ++ more)

not_less : (a b : ℕ) → ltb a b ≡ false → b ≤ a
not_less a b e = ltb-false a b e

is_not_less : (a b : ℕ) → b ≤ a → ltb a b ≡ false
is_not_less a b le = le-ltb a b le

sized_more : (kind total : ℕ) (left more : List ℕ) (x : (ℕ × List ℕ) × List ℕ) → sized_at kind total left ≡ Ok x → (sized_at kind total (left ++ more) ≡ Ok (with_more more x)) × (length x.1 ≤ length left)
sized_more kind total left more x e =
    let short = guard_ok (ltb (length left + 5) total) Short (cond (ltb total 5) (Err BadLength) (Ok ((kind, take (total - 5) left), drop (total - 5) left))) x e in
    let long = guard_ok (ltb total 5) BadLength (Ok ((kind, take (total - 5) left), drop (total - 5) left)) x short.1 in
    let is = ok_is ((kind, take (total - 5) left), drop (total - 5) left) x long.1 in
    let low : total ≤ length left + 5 = not_less (length left + 5) total short.0 in
    let wide = length-append left more in
    let first : ltb (length (left ++ more) + 5) total ≡ false = is_not_less (length (left ++ more) + 5) total (omega (arith, low, wide)) in
    let within : total - 5 ≤ length left = omega (arith, low) in
    let front : take (total - 5) (left ++ more) ≡ take (total - 5) left = take-append-le (total - 5) left more within in
    let rest : drop (total - 5) (left ++ more) ≡ drop (total - 5) left ++ more = drop-append-le (total - 5) left more within in
    let size : length x.1 ≡ length left - (total - 5) = ap (λ (y : (ℕ × List ℕ) × List ℕ). length y.1) (sym is) ∙ length-drop (total - 5) left in (
      ap (λ (b : Bool). cond b (Err Short) (cond (ltb total 5) (Err BadLength) (Ok ((kind, take (total - 5) (left ++ more)), drop (total - 5) (left ++ more))))) first
          ∙ ap (λ (b : Bool). cond b (Err BadLength) (Ok ((kind, take (total - 5) (left ++ more)), drop (total - 5) (left ++ more)))) long.0
          ∙ (λ i. Ok ((kind, front i), rest i))
          ∙ ap (λ (y : (ℕ × List ℕ) × List ℕ). Ok (with_more more y)) is,
      omega (arith, size),
    )

total_more : (kind : ℕ) (bytes more : List ℕ) (x : (ℕ × List ℕ) × List ℕ) → total_at w32 kind bytes ≡ Ok x → (total_at w32 kind (bytes ++ more) ≡ Ok (with_more more x)) × (length x.1 ≤ length bytes)
total_more kind bytes more x e =
    let k : ℕ = byte_len w32 in
    let long = guard_ok (ltb (length bytes) k) Short (sized_at kind (from_be_bytes w32 (take k bytes)) (drop k bytes)) x e in
    let within : k ≤ length bytes = not_less (length bytes) k long.0 in
    let wide = length-append bytes more in
    let first : ltb (length (bytes ++ more)) k ≡ false = is_not_less (length (bytes ++ more)) k (omega (arith, within, wide)) in
    let front : take k (bytes ++ more) ≡ take k bytes = take-append-le k bytes more within in
    let rest : drop k (bytes ++ more) ≡ drop k bytes ++ more = drop-append-le k bytes more within in
    let sized = sized_more kind (from_be_bytes w32 (take k bytes)) (drop k bytes) more x long.1 in
    let shorter = sized.1 in
    let dropped = length-drop k bytes in (
      ap (λ (b : Bool). cond b (Err Short) (sized_at kind (from_be_bytes w32 (take k (bytes ++ more))) (drop k (bytes ++ more)))) first
          ∙ (λ i. sized_at kind (from_be_bytes w32 (front i)) (rest i)) ∙ sized.0,
      omega (arith, shorter, dropped),
    )

frame_more : (first : Bool) (bytes more : List ℕ) (x : (ℕ × List ℕ) × List ℕ) → frame_at first bytes ≡ Ok x → (frame_at first (bytes ++ more) ≡ Ok (with_more more x)) × (length x.1 < length bytes)
unfolding frame_at
frame_more first [] more x e = absurd cc
frame_more first (kind ∷ bytes) more x e =
    let fits = guard_held (kind_fits first kind) BadKind (total_at w32 kind bytes) x e in
    let total = total_more kind bytes more x fits.1 in
    let shorter = total.1 in
    (ap (λ (b : Bool). cond b (total_at w32 kind (bytes ++ more)) (Err BadKind)) fits.0 ∙ total.0, omega (arith, shorter))

record_more : (f : Format) (n k : ℕ) (vectors : List (List ℕ)) (first : Bool) (bytes more : List ℕ) (x : Entry × List ℕ) → record_at f n k vectors first bytes ≡ Ok x →
    (record_at f n k vectors first (bytes ++ more) ≡ Ok (with_more more x)) × (length x.1 < length bytes)
unfolding record_at
record_more f n k vectors first bytes more x e =
    let a = bind_ok (frame_at first bytes) (λ frame. body_at f n k vectors frame.0.0 frame.0.1 >>= λ e. Ok (e, frame.1)) x e in
    let b = bind_ok (body_at f n k vectors a.0.0.0 a.0.0.1) (λ e. Ok (e, a.0.1)) x a.2 in
    let is = ok_is (b.0, a.0.1) x b.2 in
    let framed = frame_more first bytes more a.0 a.1 in (
      ap (λ (r : Result ((ℕ × List ℕ) × List ℕ) RecordCause). r >>= λ frame. body_at f n k vectors frame.0.0 frame.0.1 >>= λ e. Ok (e, frame.1)) framed.0
          ∙ ap (λ (r : Result Entry RecordCause). r >>= λ e. Ok (e, a.0.1 ++ more)) b.1
          ∙ ap (λ (y : Entry × List ℕ). Ok (with_more more y)) is,
      subst (λ (y : Entry × List ℕ). length y.1 < length bytes) is framed.1,
    )

found_ok : (at : ℕ) (r : Result (Entry × List ℕ) RecordCause) (f : Entry × List ℕ → Result (List Placed) RecordFault) (ps : List Placed) → found_at at r f ≡ Ok ps → (x : Entry × List ℕ) × (r ≡ Ok x) × (f x ≡ Ok ps)
found_ok at (Ok x) f ps e = (x, refl, e)
found_ok at (Err c) f ps e = absurd cc

front_ok : (p : Placed) (r : Result (List Placed) RecordFault) (ps : List Placed) → in_front p r ≡ Ok ps → (qs : List Placed) × (r ≡ Ok qs) × (p ∷ qs ≡ ps)
front_ok p (Ok qs) ps e = (qs, refl, cc)
front_ok p (Err c) ps e = absurd cc

records_more : (f : Format) (n fuel fuel' at k : ℕ) (vectors : List (List ℕ)) (content more : List ℕ) (qs ps : List Placed) → length content ≤ fuel → length content + length more ≤ fuel' →
    records_at f n fuel at k vectors content ≡ Ok qs → records_at f n fuel' at k vectors (content ++ more) ≡ Ok ps → (rest : List Placed) × (ps ≡ qs ++ rest)
unfolding records_at
records_more f n fuel fuel' at k vectors [] more qs ps le le' e e' = (ps, ap (λ (l : List Placed). l ++ ps) (done_is [] qs e))
records_more f n zero fuel' at k vectors (b ∷ bytes) more qs ps le le' e e' = absurd (omega (arith, le))
records_more f n (suc fuel) zero at k vectors (b ∷ bytes) more qs ps le le' e e' = absurd (omega (arith, le'))
records_more f n (suc fuel) (suc fuel') at k vectors (b ∷ bytes) more qs ps le le' e e' =
    let content : List ℕ = b ∷ bytes in
    let past : Entry × List ℕ → ℕ = λ x. at + (length content - length x.1) in
    let past' : Entry × List ℕ → ℕ = λ x. at + (length (content ++ more) - length x.1) in
    let go' : Entry × List ℕ → Result (List Placed) RecordFault = λ x. in_front (placed x.0 at (past' x)) (records_at f n fuel' (past' x) (epoch_after k x.0) (named_after vectors x.0) x.1) in
    let a = found_ok at (record_at f n k vectors (eqb at 0) content) (λ x. in_front (placed x.0 at (past x)) (records_at f n fuel (past x) (epoch_after k x.0) (named_after vectors x.0) x.1)) qs e in
    let g = front_ok (placed a.0.0 at (past a.0)) (records_at f n fuel (past a.0) (epoch_after k a.0.0) (named_after vectors a.0.0) a.0.1) qs a.2 in
    let read = record_more f n k vectors (eqb at 0) content more a.0 a.1 in
    let later : go' (with_more more a.0) ≡ Ok ps = subst (λ (r : Result (Entry × List ℕ) RecordCause). found_at at r go' ≡ Ok ps) read.0 e' in
    let shorter = read.1 in
    let sum = length-append content more in
    let sum' = length-append a.0.1 more in
    let same : past' (with_more more a.0) ≡ past a.0 = omega (arith, shorter, sum, sum') in
    let there : in_front (placed a.0.0 at (past a.0)) (records_at f n fuel' (past a.0) (epoch_after k a.0.0) (named_after vectors a.0.0) (a.0.1 ++ more)) ≡ Ok ps =
    subst (λ (p : ℕ). in_front (placed a.0.0 at p) (records_at f n fuel' p (epoch_after k a.0.0) (named_after vectors a.0.0) (a.0.1 ++ more)) ≡ Ok ps) same later in
    let h = front_ok (placed a.0.0 at (past a.0)) (records_at f n fuel' (past a.0) (epoch_after k a.0.0) (named_after vectors a.0.0) (a.0.1 ++ more)) ps there in
    let rest = records_more f n fuel fuel' (past a.0) (epoch_after k a.0.0) (named_after vectors a.0.0) a.0.1 more g.0 h.0 (omega (arith, le, shorter)) (omega (arith, le', shorter)) g.1 h.1 in
    (rest.0, sym h.2 ∙ ap (λ (l : List Placed). placed a.0.0 at (past a.0) ∷ l) rest.1 ∙ ap (λ (l : List Placed). l ++ rest.0) g.2)

pub first_records : (f : Format) (n k : ℕ) (content : List ℕ) (qs ps : List Placed) → content_at f n (take k content) ≡ Ok qs → content_at f n content ≡ Ok ps → (rest : List Placed) × (ps ≡ qs ++ rest)
unfolding content_at
first_records f n k content qs ps e e' =
    let parts : take k content ++ drop k content ≡ content = take-append-drop k content in
    let sum = length-append (take k content) (drop k content) in
    let size = ap length parts in
    records_more f n (length (take k content)) (length content) 0 0 (named n []) (take k content) (drop k content) qs ps (omega arith) (omega (arith, sum, size)) e
    (subst (λ (z : List ℕ). records_at f n (length content) 0 0 (named n []) z ≡ Ok ps) (sym parts) e')
