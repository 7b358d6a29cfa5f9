-- Streams that are read one after another, without a cause.
use Rattle.std.proofs.Common.{ℕ, zero, suc, ◌+◌, Bool, true, ◌≡◌, ◌⊎◌, inl, inr, List, [], ◌∷◌, length, refl, sym, ap, subst, ◌∙◌, arith}
use Rattle.std.specs.Prelude.{Option, Some, None, Result, Ok, Err, slice_get, bytes_eq, ◌==◌, ◌&&◌, if◌then◌else◌}
use Rattle.std.proofs.lemmas.Bool.{cases_Bool}
use Rattle.std.proofs.lemmas.Slice.Eq.{bytes_eq-Decides}
use Rattle.tau_base.specs.declared.format.Format.{Format}
use Rattle.tau_base.specs.declared.format.Format.TheVariants.{One, Two}
use Rattle.tau_block.specs.declared.fault.ImageFault.{ImageFault}
use Rattle.tau_block.specs.Image.{Reading as ImageReading, image_of, is_in, is_of, bytes_of, HasContent}
use Rattle.tau_scan.specs.declared.fault.LogFault.{LogFault}
use Rattle.tau_scan.specs.Reading.{◌>>=◌, in_front, each_from, counted, formatted, opened, unless_other, catalogue_from}
use Rattle.tau_base.proofs.Logic.{some_is}

pub record EachOk {A B : Type 0} (f : ℕ → A → Result B LogFault) (P : ℕ → A → B → Type 0) (j : ℕ) (xs : List A) : Type 0 where
  pub ys : List B
  pub is : each_from f j xs ≡ Ok ys
  pub long : length ys ≡ length xs
  pub all : (k i : ℕ) (x : A) (y : B) → k ≡ j + i → slice_get xs i ≡ Some x → slice_get ys i ≡ Some y → P k x y

pub each_ok : {A B : Type 0} (f : ℕ → A → Result B LogFault) (P : ℕ → A → B → Type 0) (j : ℕ) (xs : List A) →
    ((k i : ℕ) (x : A) → k ≡ j + i → slice_get xs i ≡ Some x → (y : B) × (f k x ≡ Ok y) × P k x y) → EachOk f P j xs
each_ok f P j [] h = record { ys = []; is = refl; long = refl; all = λ k i x y e g q. absurd cc }
each_ok {A} {B} f P j (x ∷ xs) h =
    let first = h j 0 x (omega arith) refl in
    let rest = each_ok f P (suc j) xs (λ k i y e g. h k (suc i) y (omega (arith, e)) g) in
    record {
      ys = first.0 ∷ rest.ys;
      is = ap (λ (r : Result B LogFault). r >>= (λ y. in_front y (each_from f (suc j) xs))) first.1 ∙ ap (in_front first.0) rest.is;
      long = ap suc rest.long;
      all = λ k i y z e g q. by_place k i y z e g first.0 first.2 rest.ys rest.all q;
    }
  where
    by_place : (k i : ℕ) (y : A) (z : B) → k ≡ j + i → slice_get (x ∷ xs) i ≡ Some y → (b : B) → P j x b → (bs : List B) → ((k i : ℕ) (x : A) (y : B) → k ≡ suc j + i → slice_get xs i ≡ Some x → slice_get bs i ≡ Some y → P k x y) →
        slice_get (b ∷ bs) i ≡ Some z → P k y z
    by_place k zero y z e g b p bs all q =
        let same : j ≡ k = omega (arith, e) in
        subst (λ (m : ℕ). P m y z) same (subst (λ (u : A). P j u z) (some_is x y g) (subst (λ (c : B). P j x c) (some_is b z q) p))
    by_place k (suc i) y z e g b p bs all q = all k i y z (omega (arith, e)) g q

-- ---- images

has_counted : (n j : ℕ) (count : Option ℕ) (bytes content : List ℕ) → (if is_of n count then Some bytes else None) ≡ Some content → counted n j count bytes ≡ Ok content
has_counted n j None bytes content e = ap (λ (b : List ℕ). Ok b) (some_is bytes content e)
has_counted n j (Some found) bytes content e = elim (cases_Bool (found == n)) [
  | inl is ↦ rw is (ap (λ (b : List ℕ). Ok b) (some_is bytes content (subst (λ (t : Bool). (if t then Some bytes else None) ≡ Some content) is e)))
  | inr no' ↦ absurd (let f : None ≡ Some content = subst (λ (t : Bool). (if t then Some bytes else None) ≡ Some content) no' e in cc f)
]

-- no header states another format
has_formatted : (f : Format) (n j : ℕ) (format : Option Format) (count : Option ℕ) (bytes content : List ℕ) → (if is_in f format && is_of n count then Some bytes else None) ≡ Some content →
    formatted f j format (counted n j count bytes) ≡ Ok content
has_formatted f n j None count bytes content e = has_counted n j count bytes content e
has_formatted One n j (Some One) count bytes content e = has_counted n j count bytes content e
has_formatted One n j (Some Two) count bytes content e = absurd (cc e)
has_formatted Two n j (Some One) count bytes content e = absurd (cc e)
has_formatted Two n j (Some Two) count bytes content e = has_counted n j count bytes content e

has_opened : (f : Format) (n j : ℕ) (r : Result ImageReading ImageFault) (content : List ℕ) → bytes_of f n r ≡ Some content → opened f n j r ≡ Ok content
has_opened f n j (Ok r) content e = has_formatted f n j r.format r.count r.bytes content e
has_opened f n j (Err fault) content e = absurd cc

pub image_opened : (f : Format) (n j : ℕ) (image content : List ℕ) → HasContent f n j content image → opened f n j (image_of j image) ≡ Ok content
image_opened f n j image content e = has_opened f n j (image_of j image) content e

-- an image has one content
pub one_content : (f : Format) (n j : ℕ) (image a b : List ℕ) → HasContent f n j a image → HasContent f n j b image → a ≡ b
one_content f n j image a b e g = some_is a b (sym e ∙ g)

-- ---- catalogues

abbrev pub AreText : List ℕ → List (Option (List ℕ)) → Type 0
AreText text xs = (i : ℕ) (x : Option (List ℕ)) → slice_get xs i ≡ Some x → (x ≡ None) ⊎ (x ≡ Some text)

same_text : (text : List ℕ) → bytes_eq text text ≡ true
same_text text = (bytes_eq-Decides text text).1 refl

no_other : (first j : ℕ) (text : List ℕ) (xs : List (Option (List ℕ))) → AreText text xs → unless_other first text j xs ≡ Ok (Some text)
no_other first j text [] are = refl
no_other first j text (None ∷ xs) are = no_other first (suc j) text xs (λ i x e. are (suc i) x e)
no_other first j text (Some other ∷ xs) are = elim (are 0 (Some other) refl) [
  | inl e ↦ absurd (cc e)
  | inr e ↦
      let same : text ≡ other = sym (some_is other text e) in
      let test : bytes_eq text other ≡ true = (bytes_eq-Decides text other).1 same in
      rw test (no_other first (suc j) text xs (λ i x e. are (suc i) x e))
]

pub one_catalogue : (j : ℕ) (text : List ℕ) (xs : List (Option (List ℕ))) → AreText text xs →
    (catalogue_from j xs ≡ Ok (Some text)) ⊎ ((catalogue_from j xs ≡ Ok None) × ((i : ℕ) (x : Option (List ℕ)) → slice_get xs i ≡ Some x → x ≡ None))
one_catalogue j text [] are = inr (refl, λ i x e. absurd cc)
one_catalogue j text (None ∷ xs) are = elim (one_catalogue (suc j) text xs (λ i x e. are (suc i) x e)) [
  | inl e ↦ inl e
  | inr e ↦ inr (e.0, λ i x g. none i x g e.1)
]
  where
    none : (i : ℕ) (x : Option (List ℕ)) → slice_get (None ∷ xs) i ≡ Some x → ((i : ℕ) (x : Option (List ℕ)) → slice_get xs i ≡ Some x → x ≡ None) → x ≡ None
    none zero x g all = sym (some_is None x g)
    none (suc i) x g all = all i x g
one_catalogue j text (Some other ∷ xs) are = elim (are 0 (Some other) refl) [
  | inl e ↦ absurd (cc e)
  | inr e ↦
      let same : other ≡ text = some_is other text e in
      inl (ap (λ (t : List ℕ). unless_other j t (suc j) xs) same ∙ no_other j (suc j) text xs (λ i x e. are (suc i) x e))
]
