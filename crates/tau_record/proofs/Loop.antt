-- Reading one thing after the other, as a loop does.
use Rattle.std.proofs.Common.{◌≡◌, ℕ, suc, ◌+◌, ◌-◌, ◌/◌, ◌%◌, ◌≤◌, ◌<◌, List, [], ◌∷◌, ◌++◌, length, get_or, set, take, drop, map, Result, Ok, Err, refl, sym, ap, subst, ◌∙◌, append_assoc, arith}
use Rattle.std.proofs.Math.Seq.{drop-cons, take-suc-set}
use Rattle.std.specs.List.{flat_map, AllByRecursion}
use Rattle.std.proofs.lemmas.List.{append-nil, drop_all, map-append, take_all, take_more}
use Rattle.std.proofs.lemmas.List.Concat.{flat_map-cons}
use Rattle.std.proofs.lemmas.Grind.{flat_map-append}
use Rattle.tau_record.specs.declared.fault.RecordCause.{RecordCause}
use Rattle.tau_record.specs.declared.fault.FieldError.{FieldError}
use Rattle.tau_record.specs.declared.fault.FieldError.TheVariants as errors
use Rattle.tau_record.specs.Field.{◌>>=◌, Fails}
use Rattle.std.proofs.Common.{Option, Some, ℤ}
use Rattle.tau_base.specs.declared.value.Key.{Key}
use Rattle.tau_base.specs.declared.value.Value.{Value}
use Rattle.tau_base.specs.declared.value.Value.TheVariants.{Int}
use Rattle.tau_record.specs.Vector.{part_at, parts_at}
use Rattle.tau_record.specs.Item.{write_at, writes_at, value_at, args_at}
use Rattle.tau_record.specs.Record.{lv_at}
use Rattle.tau_record.specs.Field.{number_at}
use Rattle.std.specs.Int.{w64}
use Rattle.std.proofs.Common.{◌^◌, true, false, leb}
use Rattle.std.proofs.lemmas.Bool.{leb-true, leb-false}
use Rattle.tau_record.specs.declared.fault.RecordCause.TheVariants.{BadBody}

-- what was read before, and what is still read
abbrev pub with_front : {A : Type 0} → List A → Result (List A × List ℕ) RecordCause → Result (List A × List ℕ) RecordCause
with_front front read = read >>= λ x. Ok (front ++ x.0, x.1)

pub regroup : {A : Type 0} (front : List A) (n : A) (read : Result (List A × List ℕ) RecordCause) → with_front front (read >>= λ x. Ok (n ∷ x.0, x.1)) ≡ with_front (front ++ n ∷ []) read
regroup {A} front n (Ok x) = ap (λ (ns : List A). Ok (ns, x.1)) (simp append_assoc)
regroup front n (Err f) = refl

pub parts_go_on : (base dep : List ℕ) (j mask part : ℕ) (bytes after : List ℕ) (total : Result (List ℕ × List ℕ) RecordCause) → j < length base → length dep ≡ length base → part_at (get_or base j 0) (mask % 2) bytes ≡ Ok (part, after)
    → with_front (take j dep) (parts_at (drop j base) mask bytes) ≡ total → with_front (take (j + 1) (set dep j part)) (parts_at (drop (j + 1) base) (mask / 2) after) ≡ total
unfolding parts_at
parts_go_on base dep j mask part bytes after total lt width h so_far =
    let k : j + 1 ≡ suc j = omega arith in
    let one : with_front (take j dep) (parts_at (drop j base) mask bytes) ≡ with_front (take j dep ++ part ∷ []) (parts_at (drop (suc j) base) (mask / 2) after)
    = rw (drop-cons base j 0 lt, h) (regroup (take j dep) part (parts_at (drop (suc j) base) (mask / 2) after)) in
    rw (k, take-suc-set dep j part (omega (arith, width, lt))) (sym one ∙ so_far)

-- the same of a list to which each part is added
pub parts_add : (base front : List ℕ) (j mask part : ℕ) (bytes after : List ℕ) (total : Result (List ℕ × List ℕ) RecordCause) → j < length base → part_at (get_or base j 0) (mask % 2) bytes ≡ Ok (part, after)
    → with_front front (parts_at (drop j base) mask bytes) ≡ total → with_front (front ++ part ∷ []) (parts_at (drop (j + 1) base) (mask / 2) after) ≡ total
unfolding parts_at
parts_add base front j mask part bytes after total lt h so_far =
    let k : j + 1 ≡ suc j = omega arith in
    let one : with_front front (parts_at (drop j base) mask bytes) ≡ with_front (front ++ part ∷ []) (parts_at (drop (suc j) base) (mask / 2) after)
    = rw (drop-cons base j 0 lt, h) (regroup front part (parts_at (drop (suc j) base) (mask / 2) after)) in
    rw k (sym one ∙ so_far)

pub parts_all : (base front : List ℕ) (j mask : ℕ) (bytes : List ℕ) (total : Result (List ℕ × List ℕ) RecordCause) → length base ≤ j → with_front front (parts_at (drop j base) mask bytes) ≡ total → total ≡ Ok (front, bytes)
unfolding parts_at
parts_all base front j mask bytes total le so_far =
    let one : with_front front (parts_at (drop j base) mask bytes) ≡ Ok (front, bytes) = rw (drop_all j base le) (ap (λ (ns : List ℕ). Ok (ns, bytes)) (append-nil front)) in
    sym so_far ∙ one

pub parts_end : (e : FieldError) (base front : List ℕ) (j mask : ℕ) (bytes : List ℕ) (total : Result (List ℕ × List ℕ) RecordCause) → j < length base → Fails e (part_at (get_or base j 0) (mask % 2) bytes)
    → with_front front (parts_at (drop j base) mask bytes) ≡ total → Fails e total
unfolding parts_at
parts_end errors.Memory base front j mask bytes total lt h so_far = tt
parts_end (errors.Bad f) base front j mask bytes total lt h so_far =
    let one : with_front front (parts_at (drop j base) mask bytes) ≡ Err f = rw (drop-cons base j 0 lt, h) refl in
    sym so_far ∙ one

pub parts_done : (base dep : List ℕ) (j mask : ℕ) (bytes : List ℕ) (total : Result (List ℕ × List ℕ) RecordCause) → length base ≤ j → length dep ≡ length base → with_front (take j dep) (parts_at (drop j base) mask bytes) ≡ total → total ≡ Ok (dep, bytes)
unfolding parts_at
parts_done base dep j mask bytes total le width so_far =
    let one : with_front (take j dep) (parts_at (drop j base) mask bytes) ≡ Ok (dep, bytes) = rw (drop_all j base le, take_all j dep (omega (arith, width, le))) (ap (λ (ns : List ℕ). Ok (ns, bytes)) (append-nil dep)) in
    sym so_far ∙ one

-- ---- writes

pub writes_go_on : (front : List (Key × Value)) (count i : ℕ) (last : Option Key) (bytes : List ℕ) (w : Key × Value) (after : List ℕ) (total : Result (List (Key × Value) × List ℕ) RecordCause) → i < count → write_at last bytes ≡ Ok (w, after)
    → with_front front (writes_at (count - i) last bytes) ≡ total → with_front (front ++ w ∷ []) (writes_at (count - (i + 1)) (Some w.0) after) ≡ total
unfolding writes_at
writes_go_on front count i last bytes w after total lt h so_far =
    let k : count - i ≡ suc (count - (i + 1)) = omega arith in
    let one : with_front front (writes_at (count - i) last bytes) ≡ with_front (front ++ w ∷ []) (writes_at (count - (i + 1)) (Some w.0) after) = rw (k, h) (regroup front w (writes_at (count - (i + 1)) (Some w.0) after)) in
    sym one ∙ so_far

pub writes_end : (e : FieldError) (front : List (Key × Value)) (count i : ℕ) (last : Option Key) (bytes : List ℕ) (total : Result (List (Key × Value) × List ℕ) RecordCause) → i < count → Fails e (write_at last bytes)
    → with_front front (writes_at (count - i) last bytes) ≡ total → Fails e total
unfolding writes_at
writes_end errors.Memory front count i last bytes total lt h so_far = tt
writes_end (errors.Bad f) front count i last bytes total lt h so_far =
    let k : count - i ≡ suc (count - (i + 1)) = omega arith in
    let one : with_front front (writes_at (count - i) last bytes) ≡ Err f = rw (k, h) refl in
    sym so_far ∙ one

pub writes_done : (front : List (Key × Value)) (count i : ℕ) (last : Option Key) (bytes : List ℕ) (total : Result (List (Key × Value) × List ℕ) RecordCause) → count ≤ i → with_front front (writes_at (count - i) last bytes) ≡ total → total ≡ Ok (front, bytes)
unfolding writes_at
writes_done front count i last bytes total le so_far =
    let k : count - i ≡ 0 = omega arith in
    let one : with_front front (writes_at (count - i) last bytes) ≡ Ok (front, bytes) = rw k (ap (λ (ws : List (Key × Value)). Ok (ws, bytes)) (append-nil front)) in
    sym so_far ∙ one

-- ---- writes of whole numbers

abbrev pub whole : Key × ℤ → Key × Value
whole r = (r.0, Int r.1)

pub numbers_go_on : (front : List (Key × ℤ)) (count i : ℕ) (last : Option Key) (bytes : List ℕ) (n : Key × ℤ) (after : List ℕ) (total : Result (List (Key × Value) × List ℕ) RecordCause) → i < count → write_at last bytes ≡ Ok (whole n, after)
    → with_front (map whole front) (writes_at (count - i) last bytes) ≡ total → with_front (map whole (front ++ n ∷ [])) (writes_at (count - (i + 1)) (Some n.0) after) ≡ total
numbers_go_on front count i last bytes n after total lt h so_far = rw (map-append whole front (n ∷ [])) (writes_go_on (map whole front) count i last bytes (whole n) after total lt h so_far)

-- ---- writing one thing after the other

snoc : {A : Type 0} (xs : List A) (i : ℕ) (x : A) → i < length xs → x ≡ get_or xs i x → take (i + 1) xs ≡ take i xs ++ x ∷ []
snoc {A} xs i x lt is = take_more xs i x lt ∙ ap (λ (y : A). take i xs ++ y ∷ []) (sym is)

pub flat_more : {A : Type 0} (f : A → List ℕ) (xs : List A) (i : ℕ) (x : A) (out was now : List ℕ) → i < length xs → x ≡ get_or xs i x → was ≡ out ++ flat_map f (take i xs) → now ≡ was ++ f x → now ≡ out ++ flat_map f (take (i + 1) xs)
flat_more {A} f xs i x out was now lt is before step =
    let one : flat_map f (x ∷ []) ≡ f x = flat_map-cons f x [] ∙ append-nil (f x) in
    let more : flat_map f (take (i + 1) xs) ≡ flat_map f (take i xs) ++ f x = ap (flat_map f) (snoc xs i x lt is) ∙ flat_map-append f (take i xs) (x ∷ []) ∙ ap (λ (t : List ℕ). flat_map f (take i xs) ++ t) one in
    step ∙ ap (λ (t : List ℕ). t ++ f x) before ∙ append_assoc out (flat_map f (take i xs)) (f x) ∙ ap (λ (t : List ℕ). out ++ t) (sym more)

all_snoc : {A : Type 0} (P : A → Type 0) (xs : List A) (x : A) → AllByRecursion P xs → P x → AllByRecursion P (xs ++ x ∷ [])
all_snoc P [] x h p = (p, tt)
all_snoc P (y ∷ xs) x h p = (h.0, all_snoc P xs x h.1 p)

pub all_more : {A : Type 0} (P : A → Type 0) (xs : List A) (i : ℕ) (x : A) → i < length xs → x ≡ get_or xs i x → AllByRecursion P (take i xs) → P x → AllByRecursion P (take (i + 1) xs)
all_more {A} P xs i x lt is h p = subst (λ (ys : List A). AllByRecursion P ys) (sym (snoc xs i x lt is)) (all_snoc P (take i xs) x h p)

-- ---- writing three pieces

pub put_three : {A : Type 0} (out x y z : List A) (one two three : List A) → one ≡ out ++ x → two ≡ one ++ y → three ≡ two ++ z → three ≡ out ++ (x ++ (y ++ z))
put_three {A} out x y z one two three a b c =
    c ∙ ap (λ (t : List A). t ++ z) (b ∙ ap (λ (t : List A). t ++ y) a) ∙ append_assoc (out ++ x) y z ∙ append_assoc out x (y ++ z)

-- ---- arguments

pub args_go_on : (front : List Value) (count i : ℕ) (bytes : List ℕ) (v : Value) (after : List ℕ) (total : Result (List Value × List ℕ) RecordCause) → i < count → value_at bytes ≡ Ok (v, after)
    → with_front front (args_at (count - i) bytes) ≡ total → with_front (front ++ v ∷ []) (args_at (count - (i + 1)) after) ≡ total
unfolding args_at
args_go_on front count i bytes v after total lt h so_far =
    let k : count - i ≡ suc (count - (i + 1)) = omega arith in
    let one : with_front front (args_at (count - i) bytes) ≡ with_front (front ++ v ∷ []) (args_at (count - (i + 1)) after) = rw (k, h) (regroup front v (args_at (count - (i + 1)) after)) in
    sym one ∙ so_far

pub args_end : (e : FieldError) (front : List Value) (count i : ℕ) (bytes : List ℕ) (total : Result (List Value × List ℕ) RecordCause) → i < count → Fails e (value_at bytes)
    → with_front front (args_at (count - i) bytes) ≡ total → Fails e total
unfolding args_at
args_end errors.Memory front count i bytes total lt h so_far = tt
args_end (errors.Bad f) front count i bytes total lt h so_far =
    let k : count - i ≡ suc (count - (i + 1)) = omega arith in
    let one : with_front front (args_at (count - i) bytes) ≡ Err f = rw (k, h) refl in
    sym so_far ∙ one

pub args_done : (front : List Value) (count i : ℕ) (bytes : List ℕ) (total : Result (List Value × List ℕ) RecordCause) → count ≤ i → with_front front (args_at (count - i) bytes) ≡ total → total ≡ Ok (front, bytes)
unfolding args_at
args_done front count i bytes total le so_far =
    let k : count - i ≡ 0 = omega arith in
    let one : with_front front (args_at (count - i) bytes) ≡ Ok (front, bytes) = rw k (ap (λ (vs : List Value). Ok (vs, bytes)) (append-nil front)) in
    sym so_far ∙ one

-- ---- the components of an anchor

leb_is : (a b : ℕ) → a ≤ b → leb a b ≡ true
leb_is a b le = elim (leb a b) as (λ v. leb a b ≡ v → v ≡ true) [ true ↦ λ _. refl | false ↦ λ e. absurd (omega (arith, leb-false a b e)) ] refl

pub leb_not : (a b : ℕ) → b < a → leb a b ≡ false
leb_not a b lt = elim (leb a b) as (λ v. leb a b ≡ v → v ≡ false) [ true ↦ λ e. absurd (omega (arith, leb-true a b e)) | false ↦ λ _. refl ] refl

pub lv_go_on : (lv : List ℕ) (n j part : ℕ) (bytes after : List ℕ) (total : Result (List ℕ × List ℕ) RecordCause) → j < n → length lv ≡ n → number_at w64 bytes ≡ Ok (part, after) → part < 2 ^ 62
    → with_front (take j lv) (lv_at (n - j) bytes) ≡ total → with_front (take (j + 1) (set lv j part)) (lv_at (n - (j + 1)) after) ≡ total
unfolding lv_at
lv_go_on lv n j part bytes after total lt len h small so_far =
    let k : n - j ≡ suc (n - (j + 1)) = omega arith in
    let s : j + 1 ≡ suc j = omega arith in
    let one : with_front (take j lv) (lv_at (n - j) bytes) ≡ with_front (take j lv ++ part ∷ []) (lv_at (n - (j + 1)) after) = rw (k, h, leb_not (2 ^ 62) part small) (regroup (take j lv) part (lv_at (n - (j + 1)) after)) in
    let end : take (j + 1) (set lv j part) ≡ take j lv ++ part ∷ [] = rw s (take-suc-set lv j part (omega (arith, lt, len))) in
    ap (λ (front : List ℕ). with_front front (lv_at (n - (j + 1)) after)) end ∙ sym one ∙ so_far

pub lv_end : (e : FieldError) (front : List ℕ) (n j : ℕ) (bytes : List ℕ) (total : Result (List ℕ × List ℕ) RecordCause) → j < n → Fails e (number_at w64 bytes)
    → with_front front (lv_at (n - j) bytes) ≡ total → Fails e total
unfolding lv_at
lv_end errors.Memory front n j bytes total lt h so_far = tt
lv_end (errors.Bad f) front n j bytes total lt h so_far =
    let k : n - j ≡ suc (n - (j + 1)) = omega arith in
    let one : with_front front (lv_at (n - j) bytes) ≡ Err f = rw (k, h) refl in
    sym so_far ∙ one

pub lv_bad : (front : List ℕ) (n j part : ℕ) (bytes after : List ℕ) (total : Result (List ℕ × List ℕ) RecordCause) → j < n → number_at w64 bytes ≡ Ok (part, after) → 2 ^ 62 ≤ part
    → with_front front (lv_at (n - j) bytes) ≡ total → total ≡ Err BadBody
unfolding lv_at
lv_bad front n j part bytes after total lt h big so_far =
    let k : n - j ≡ suc (n - (j + 1)) = omega arith in
    let one : with_front front (lv_at (n - j) bytes) ≡ Err BadBody = rw (k, h, leb_is (2 ^ 62) part big) refl in
    sym so_far ∙ one

pub lv_done : (lv : List ℕ) (n j : ℕ) (bytes : List ℕ) (total : Result (List ℕ × List ℕ) RecordCause) → n ≤ j → length lv ≡ n → with_front (take j lv) (lv_at (n - j) bytes) ≡ total → total ≡ Ok (lv, bytes)
unfolding lv_at
lv_done lv n j bytes total le len so_far =
    let k : n - j ≡ 0 = omega arith in
    let one : with_front (take j lv) (lv_at (n - j) bytes) ≡ Ok (lv, bytes) = rw (k, take_all j lv (omega (arith, len, le))) (ap (λ (vs : List ℕ). Ok (vs, bytes)) (append-nil lv)) in
    sym so_far ∙ one
