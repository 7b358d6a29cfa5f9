-- Rows: what is read is spelled so, and what is spelled so is read.
use Rattle.std.proofs.Common.{◌≡◌, ℕ, List, length, None, Result, Ok, Err, sym, ap, subst, ◌∙◌}
use Rattle.tau_base.specs.declared.value.Key.{Key}
use Rattle.tau_base.specs.declared.value.Value.{Value}
use Rattle.tau_record.specs.declared.fault.RecordCause.{RecordCause}
use Rattle.tau_record.specs.declared.fault.FieldError.{FieldError}
use Rattle.tau_record.specs.declared.fault.FieldError.TheVariants.{Bad}
use Rattle.tau_record.specs.Field.{Fails}
use Rattle.tau_record.specs.Item.{writes_at}
use Rattle.tau_record.specs.Rows.{IsRead}
use Rattle.tau_record.proofs.FieldLaws.{IsBytes, ok_is}
use Rattle.tau_record.proofs.ItemLaws.{are_writes, writes_sorted, writes_fit, writes_take, writes_again}

pub rows_taken : (count : ℕ) (bytes : List ℕ) (x : List (Key × Value) × List ℕ) → IsBytes bytes → writes_at count None bytes ≡ Ok x → IsRead count bytes x.0 x.1
rows_taken count bytes x fits e =
    let t = writes_take count None bytes x fits e in
    record { count_is = t.1; are_rows = (writes_sorted None x.0 t.2, writes_fit None x.0 t.2); parts = t.0.parts }

pub rows_again : (count : ℕ) (bytes : List ℕ) (rows : List (Key × Value)) (rest : List ℕ) → IsRead count bytes rows rest → writes_at count None bytes ≡ Ok (rows, rest)
rows_again count bytes rows rest h =
    subst (λ (k : ℕ). writes_at k None bytes ≡ Ok (rows, rest)) h.count_is
    (ap (writes_at (length rows) None) h.parts ∙ writes_again None rows rest (are_writes rows h.are_rows.0 h.are_rows.1))

pub rows_once : (count : ℕ) (bytes : List ℕ) (rows others : List (Key × Value)) (rest left : List ℕ) → IsRead count bytes rows rest → IsRead count bytes others left → (rows ≡ others) × (rest ≡ left)
rows_once count bytes rows others rest left a b =
    let same : (rows, rest) ≡ (others, left) = ok_is (rows, rest) (others, left) (sym (rows_again count bytes rows rest a) ∙ rows_again count bytes others left b) in
    (ap (λ (x : List (Key × Value) × List ℕ). x.0) same, ap (λ (x : List (Key × Value) × List ℕ). x.1) same)

abbrev read_ok : {A : Type 0} → A → Result A RecordCause
read_ok x = Ok x

apart : {A : Type 0} (x : A) (cause : RecordCause) → read_ok x ≡ Err cause → ⊥
apart x cause e = cc

pub not_read : (count : ℕ) (bytes : List ℕ) (rows : List (Key × Value)) (rest : List ℕ) (e : FieldError) (cause : RecordCause) → IsRead count bytes rows rest → e ≡ Bad cause → Fails e (writes_at count None bytes) → ⊥
not_read count bytes rows rest e cause h is fails =
    let refused : writes_at count None bytes ≡ Err cause = subst (λ (x : FieldError). Fails x (writes_at count None bytes)) is fails in
    apart (rows, rest) cause (sym (rows_again count bytes rows rest h) ∙ refused)
