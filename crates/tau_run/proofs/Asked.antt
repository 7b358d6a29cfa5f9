-- The log of images that have contents in a format is the same where no format is asked.
use Rattle.std.proofs.Common.{ℕ, zero, suc, Bool, true, false, ◌≡◌, ◌⊎◌, inl, inr, List, [], ◌∷◌, length, map, take, drop, refl, sym, ap, ◌∙◌}
use Rattle.std.specs.Prelude.{Option, Some, None, Result, Ok, nat_le, slice_get, ◌==◌, ◌&&◌, if◌then◌else◌}
use Rattle.tau_base.specs.declared.format.Format.{Format}
use Rattle.tau_base.specs.declared.format.Format.TheVariants.{One, Two}
use Rattle.tau_base.specs.Modes.{same_format}
use Rattle.tau_base.proofs.Logic.{some_is}
use Rattle.tau_block.specs.declared.fault.ImageFault.{ImageFault}
use Rattle.tau_block.specs.Image.{Reading as ImageReading, HasContent, behind_header, bodies, bytes_of, count_in, format_in, header_fault, image_of, stated_in}
use Rattle.tau_record.specs.declared.entry.Placed.{Placed}
use Rattle.tau_scan.specs.declared.log.Log.{Log}
use Rattle.tau_scan.specs.declared.fault.LogFault.{LogFault}
use Rattle.tau_scan.specs.Reading.{◌>>=◌, in_front, each_from, opened, recorded, records_of, contents_of, streams_of, declared_in, unless, epoch_fault, first_of, stated_by, or_roomy, asked_format, log_as, log_of, log_of_contents}
use Rattle.tau_run.proofs.Reading.{nothing_read}

-- it has a content in this format, whatever its stream
abbrev pub HasSome : Format → ℕ → List ℕ → Type 0
HasSome f n image = (j : ℕ) × (content : List ℕ) × HasContent f n j content image

abbrev StateNone : List (List ℕ) → Type 0
StateNone images = (i : ℕ) (image : List ℕ) → slice_get images i ≡ Some image → stated_in image ≡ None

-- ---- what one image states

abbrev reading_if : Bool → ℕ → List ℕ → Result ImageReading ImageFault
reading_if short j image = if short then Ok (record { format = None; count = None; bytes = [] }) else behind_header (take 16 image) (header_fault j (take 16 image)) (bodies 0 (drop 16 image))

abbrev stated_if : Bool → List ℕ → Option Format
stated_if short image = if short then None else Some (format_in (take 16 image))

same_is : (f g : Format) (counts : Bool) (bytes content : List ℕ) → (if same_format f g && counts then Some bytes else None) ≡ Some content → g ≡ f
same_is One One counts bytes content e = refl
same_is One Two counts bytes content e = absurd (cc e)
same_is Two One counts bytes content e = absurd (cc e)
same_is Two Two counts bytes content e = refl

header_states : (f : Format) (n : ℕ) (head : List ℕ) (fault : Option ImageFault) (blocks : Option (List ℕ)) (content : List ℕ) → bytes_of f n (behind_header head fault blocks) ≡ Some content → format_in head ≡ f
header_states f n head (Some d) blocks content e = absurd (cc e)
header_states f n head None None content e = absurd (cc e)
header_states f n head None (Some bytes) content e = same_is f (format_in head) (count_in head == n) bytes content e

-- a header before a content states the content's format
image_states : (f : Format) (n : ℕ) (image : List ℕ) → HasSome f n image → (g : Format) → stated_in image ≡ Some g → g ≡ f
image_states f n image has g states = by (nat_le (length image) 17) has.2 states
  where
    by : (short : Bool) → bytes_of f n (reading_if short has.0 image) ≡ Some has.1 → stated_if short image ≡ Some g → g ≡ f
    by true e is = absurd (cc is)
    by false e is = sym (some_is (format_in (take 16 image)) g is) ∙ header_states f n (take 16 image) (header_fault has.0 (take 16 image)) (bodies 0 (drop 16 image)) has.1 e

-- without a header there is nothing to read, in any format
none_opened : (f : Format) (n j : ℕ) (image : List ℕ) → stated_in image ≡ None → opened f n j (image_of j image) ≡ Ok []
none_opened f n j image none = by (nat_le (length image) 17) none
  where
    by : (short : Bool) → stated_if short image ≡ None → opened f n j (reading_if short j image) ≡ Ok []
    by true is = refl
    by false is = absurd (cc is)

-- ---- what all images state

abbrev Stated : Format → List (List ℕ) → Type 0
Stated f images = (stated_by images ≡ Some f) ⊎ ((stated_by images ≡ None) × StateNone images)

stated_more : (f : Format) (n : ℕ) (image : List ℕ) (images : List (List ℕ)) → HasSome f n image → (o : Option Format) → stated_in image ≡ o → Stated f images → Stated f (image ∷ images)
stated_more f n image images has (Some g) is rest = inl (ap (λ (o : Option Format). first_of o (stated_by images)) is ∙ ap (λ (h : Format). Some h) (image_states f n image has g is))
stated_more f n image images has None is (inl same) = inl (ap (λ (o : Option Format). first_of o (stated_by images)) is ∙ same)
stated_more f n image images has None is (inr none) = inr (ap (λ (o : Option Format). first_of o (stated_by images)) is ∙ none.0, each)
  where
    each : (i : ℕ) (x : List ℕ) → slice_get (image ∷ images) i ≡ Some x → stated_in x ≡ None
    each zero x e = ap (λ (y : List ℕ). stated_in y) (sym (some_is image x e)) ∙ is
    each (suc i) x e = none.1 i x e

stated_all : (f : Format) (n : ℕ) (images : List (List ℕ)) → ((i : ℕ) (image : List ℕ) → slice_get images i ≡ Some image → HasSome f n image) → Stated f images
stated_all f n [] has = inr (refl, λ i image e. absurd (cc e))
stated_all f n (image ∷ images) has = stated_more f n image images (has 0 image refl) (stated_in image) refl (stated_all f n images (λ i x e. has (suc i) x e))

-- ---- the log of images that state nothing

abbrev empties : {A : Type 0} (B : Type 0) → List A → List (List B)
empties B [] = []
empties B (x ∷ xs) = [] ∷ empties B xs

empty_at : {A : Type 0} (B : Type 0) (xs : List A) (i : ℕ) (y : List B) → slice_get (empties B xs) i ≡ Some y → y ≡ []
empty_at B [] i y e = absurd (cc e)
empty_at B (x ∷ xs) zero y e = sym (some_is [] y e)
empty_at B (x ∷ xs) (suc i) y e = empty_at B xs i y e

each_empty : {A B : Type 0} (step : ℕ → A → Result (List B) LogFault) (j : ℕ) (xs : List A) → ((i k : ℕ) (x : A) → slice_get xs i ≡ Some x → step k x ≡ Ok []) → each_from step j xs ≡ Ok (empties B xs)
each_empty step j [] none = refl
each_empty {A} {B} step j (x ∷ xs) none =
    ap (λ (r : Result (List B) LogFault). r >>= (λ y. in_front y (each_from step (suc j) xs))) (none 0 j x refl)
    ∙ ap (λ (r : Result (List (List B)) LogFault). in_front [] r) (each_empty step (suc j) xs (λ i k y e. none (suc i) k y e))

abbrev log_with : List (List ℕ) → List (List Placed) → Result Log LogFault
log_with contents streams = declared_in streams >>= λ declarations. unless (epoch_fault streams) (record { elv = map length contents; declarations = declarations; streams = streams })

empty_contents : (f : Format) (images : List (List ℕ)) → StateNone images → contents_of f images ≡ Ok (empties ℕ images)
unfolding contents_of
empty_contents f images none = each_empty (λ j image. opened f (length images) j (image_of j image)) 0 images (λ i k image e. none_opened f (length images) k image (none i image e))

empty_streams : (f : Format) (images contents : List (List ℕ)) → contents ≡ empties ℕ images → streams_of f contents ≡ Ok (empties Placed contents)
unfolding streams_of
empty_streams f images contents is = each_empty (λ j content. recorded j (records_of f (length contents) content)) 0 contents (λ i k content e.
    let nothing : content ≡ [] = empty_at ℕ images i content (sym (ap (λ (cs : List (List ℕ)). slice_get cs i) is) ∙ e) in
    ap (λ (c : List ℕ). recorded k (records_of f (length contents) c)) nothing ∙ ap (recorded k) (nothing_read f (length contents)))

empty_log : (f : Format) (images : List (List ℕ)) → StateNone images → log_as f images ≡ log_with (empties ℕ images) (empties Placed (empties ℕ images))
unfolding log_as
empty_log f images none =
    ap (λ (r : Result (List (List ℕ)) LogFault). r >>= log_of_contents f) (empty_contents f images none)
    ∙ ap (λ (r : Result (List (List Placed)) LogFault). r >>= log_with (empties ℕ images)) (empty_streams f images (empties ℕ images) refl)

pub asked_same : (f : Format) (n : ℕ) (images : List (List ℕ)) → ((i : ℕ) (image : List ℕ) → slice_get images i ≡ Some image → HasSome f n image) → log_of None images ≡ log_as f images
asked_same f n images has = elim (stated_all f n images has) [
  | inl is ↦ ap (λ (o : Option Format). log_as (or_roomy (length images) o) images) is
  | inr none ↦ empty_log (asked_format None images) images none.1 ∙ sym (empty_log f images none.1)
]
