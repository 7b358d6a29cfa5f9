-- What streams are given.
use Rattle.std.proofs.Common.{ℕ, zero, suc, ◌≡◌, ◌≤◌, ◌+◌, List, [], ◌∷◌, ◌++◌, refl, ap, length, arith}
use Rattle.std.specs.Prelude.{Result, Ok, Err, IfOk, OnOk, ◌*◌}
use Rattle.std.specs.Int.{w32, w64, to_be_bytes}
use Rattle.std.specs.List.{flat_map}
use Rattle.std.proofs.lemmas.List.{length-append}
use Rattle.tau_record.proofs.SizeLaws.{lv_len}
use Rattle.tau_record.specs.declared.entry.Entry.TheVariants.{Epoch}
use Rattle.tau_record.specs.Format.{One}
use Rattle.tau_record.specs.Record.{spelling}
use Rattle.tau_stream.specs.Stream.{catalogue_record}
use Rattle.tau_scan.specs.Given.{epoch_record, given_after}

pub if_ok_then : {A E : Type 0} (P Q : A → Type 0) (r : Result A E) → IfOk r P → ((x : A) → P x → Q x) → IfOk r Q
if_ok_then P Q (Ok x) is then_so = then_so x is
if_ok_then P Q (Err e) is then_so = tt

pub epoch_is : (k : ℕ) (lv bytes : List ℕ) → (k ≡ 0 → ⊥) → bytes ≡ spelling One [] (Epoch k lv) → bytes ≡ epoch_record k lv
epoch_is zero lv bytes some is = absurd (some refl)
epoch_is (suc k) lv bytes some is = is

pub given_empty : (text content lv : List ℕ) (k : ℕ) → length content ≡ 0 → given_after text k lv content ≡ catalogue_record text ++ epoch_record k lv
given_empty text [] lv k none = refl
given_empty text (b ∷ bytes) lv k none = absurd (omega (arith, none))

pub epoch_long : (k : ℕ) (lv bytes : List ℕ) → length lv ≤ 32 → bytes ≡ spelling One [] (Epoch k lv) → (5 ≤ length bytes) × (length bytes ≤ 9 + 8 * 32)
epoch_long k lv bytes few is =
    let long : length bytes ≡ length (spelling One [] (Epoch k lv)) = ap (λ (xs : List ℕ). length xs) is in
    let fields = length-append (to_be_bytes w32 k) (flat_map (to_be_bytes w64) lv) in
    let low = lv_len lv in
    (omega (arith, long), omega (arith, long, fields, low, few))

pub on_ok_then : {A E : Type 0} (P Q : Type 0) (r : Result A E) → OnOk r P → (P → Q) → OnOk r Q
on_ok_then P Q (Ok x) is then_so = then_so is
on_ok_then P Q (Err e) is then_so = tt

pub if_ok_both : {A E : Type 0} (P Q R : A → Type 0) (r : Result A E) → IfOk r P → IfOk r Q → ((x : A) → P x → Q x → R x) → IfOk r R
if_ok_both P Q R (Ok x) is also then_so = then_so x is also
if_ok_both P Q R (Err e) is also then_so = tt

pub if_ok_on : {A E : Type 0} (P : A → Type 0) (Q : Type 0) (R : A → Type 0) (r : Result A E) → IfOk r P → OnOk r Q → ((x : A) → P x → Q → R x) → IfOk r R
if_ok_on P Q R (Ok x) is also then_so = then_so x is also
if_ok_on P Q R (Err e) is also then_so = tt

pub if_ok_all : {A E : Type 0} (P Q R S T : A → Type 0) (r : Result A E) → IfOk r P → IfOk r Q → IfOk r R → IfOk r S → ((x : A) → P x → Q x → R x → S x → T x) → IfOk r T
if_ok_all P Q R S T (Ok x) p q r s then_so = then_so x p q r s
if_ok_all P Q R S T (Err e) p q r s then_so = tt
