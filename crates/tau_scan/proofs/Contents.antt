-- The contents of the images, one after another.
use Rattle.std.proofs.Common.{ℕ, ◌≡◌, ◌+◌, ◌<◌, ◌≤◌, List, [], ◌∷◌, ◌++◌, map, length, get_or, Option, Some, None, Result, Ok, Err, inl, inr, refl, sym, ap, subst, ◌∙◌, IfOk}
use Rattle.std.specs.Prelude.{slice_get, IsNone}
use Rattle.tau_base.specs.declared.format.Format.{Format}
use Rattle.tau_base.specs.declared.format.Format.TheVariants.{One, Two}
use Rattle.tau_base.proofs.Logic.{some_is}
use Rattle.tau_base.proofs.Lists.{got_more, length_mapped, map_append}
use Rattle.tau_block.specs.declared.content.Content.{Content}
use Rattle.tau_block.specs.Image.{image_of, IfBorn, IsLog as IsLogImage}
use Rattle.tau_scan.specs.declared.fault.LogFault.{LogFault}
use Rattle.tau_scan.specs.declared.fault.LogRefusal.{LogRefusal}
use Rattle.tau_scan.specs.declared.log.Log.{Log}
use Rattle.tau_scan.specs.Contents.{bytes_in, IsContentOf, AreContents, AreShortContents, IsLogOf, HasContents}
use Rattle.tau_scan.specs.Found.{FoundAs}
use Rattle.tau_scan.specs.Reading.{asked_format, counted, formatted}
use Rattle.tau_scan.proofs.Asked.{counted_gave, formatted_gave}
use Rattle.tau_scan.proofs.Streams.{IsGoing, going_on, map_get, read_as}

format_gave : (f found : Format) (j : ℕ) (content : Result (List ℕ) LogFault) (ys : List ℕ) → formatted f j (Some found) content ≡ Ok ys → found ≡ f
format_gave One One j content ys e = refl
format_gave One Two j content ys e = absurd cc
format_gave Two One j content ys e = absurd cc
format_gave Two Two j content ys e = refl

-- a content that passes has this format and counts these streams
states_of : (f : Format) (n j : ℕ) (format : Option Format) (count : Option ℕ) (bytes ys : List ℕ) → formatted f j format (counted n j count bytes) ≡ Ok ys → IfBorn format count (λ g m. (g ≡ f) × (m ≡ n))
states_of f n j None count bytes ys e = tt
states_of f n j (Some g) None bytes ys e = tt
states_of f n j (Some g) (Some m) bytes ys e = (format_gave f g j (counted n j (Some m) bytes) ys e, counted_gave n j m bytes ys (formatted_gave f g j (counted n j (Some m) bytes) ys e))

pub passed : (f : Format) (n i j : ℕ) (image : List ℕ) (c : Content) → i ≡ j → image_of i image ≡ Ok (record { format = c.format; count = c.count; bytes = c.bytes }) → IfBorn c.format c.count (λ g m. IsLogImage g m i image c.gate_at c.bytes)
    → (IsNone c.format → IsNone c.count) × (IsNone c.count → IsNone c.format) → (IsNone c.count → c.gate_at ≡ 16) → (IsNone c.count → (c.bytes ≡ []) × (length image ≤ 17)) → length c.bytes ≤ c.gate_at
    → (r : Result Content LogRefusal) → FoundAs (λ (x : Content). x.bytes) r (formatted f j c.format (counted n j c.count c.bytes)) → IfOk r (λ x. x ≡ c) → IfOk r (λ x. IsContentOf f n j image x)
passed f n i j image c at is gate stated unborn short before (Ok x) found same = subst (λ (z : Content). IsContentOf f n j image z) (sym same) (record {
  is = subst (λ (k : ℕ). image_of k image ≡ Ok (record { format = c.format; count = c.count; bytes = c.bytes })) at is;
  gate = subst (λ (k : ℕ). IfBorn c.format c.count (λ g m. IsLogImage g m k image c.gate_at c.bytes)) at gate;
  states = states_of f n j c.format c.count c.bytes x.bytes found;
  stated = stated;
  unborn = unborn;
  short = short;
  before = before;
})
passed f n i j image c at is gate stated unborn short before (Err e) found same = tt

-- each content so far is that of its image
abbrev pub Each : Format → List (List ℕ) → List Content → Type 0
Each f images contents = (j : ℕ) (c : Content) → slice_get contents j ≡ Some c → (image : List ℕ) × (slice_get images j ≡ Some image) × IsContentOf f (length images) j image c

pub none_yet : (f : Format) (images : List (List ℕ)) → Each f images []
none_yet f images j c there = absurd cc

pub each_on : (f : Format) (images : List (List ℕ)) (contents : List Content) (c : Content) (image : List ℕ) (j : ℕ) → Each f images contents → length contents ≡ j → slice_get images j ≡ Some image → IsContentOf f (length images) j image c
    → Each f images (contents ++ c ∷ [])
each_on f images contents c image j each count here is k x there = elim (got_more contents c x k there) [
  | inl old ↦ each k x old
  | inr new ↦
      let at : j ≡ k = sym count ∙ sym new.0 in
      (image, subst (λ (i : ℕ). slice_get images i ≡ Some image) at here, subst (λ (z : Content). IsContentOf f (length images) k image z) new.1 (subst (λ (i : ℕ). IsContentOf f (length images) i image c) at is))
]

-- one content more, among what is done so far
pub bytes_more : {A : Type 0} (g : ℕ → A → Result (List ℕ) LogFault) (xs : List A) (j : ℕ) (contents : List Content) (x : A) (c : Content) → IsGoing g xs j (bytes_in contents) → slice_get xs j ≡ Some x → g j x ≡ Ok c.bytes
    → IsGoing g xs (j + 1) (bytes_in (contents ++ c ∷ []))
bytes_more g xs j contents x c going here is = subst (λ (done : List (List ℕ)). IsGoing g xs (j + 1) done) (sym (map_append (λ (y : Content). y.bytes) contents (c ∷ []))) (going_on g xs j (bytes_in contents) x c.bytes going here is)

pub count_of : (contents : List Content) → length (bytes_in contents) ≡ length contents
count_of contents = length_mapped (λ (c : Content). c.bytes) contents

-- the bytes of a content that was read
pub bytes_at : (contents : List Content) (j : ℕ) (c : Content) (bytes : List ℕ) → j < length contents → c ≡ get_or contents j c → bytes ≡ c.bytes → slice_get (bytes_in contents) j ≡ Some bytes
bytes_at contents j c bytes lt is same = map_get (λ (x : Content). x.bytes) contents j c (read_as contents j c c lt is refl) ∙ ap (λ (bs : List ℕ). Some bs) (sym same)

pub short_contents : (f : Format) (images : List (List ℕ)) (contents : List Content) → AreContents f images contents → AreShortContents contents
short_contents f images contents are j c at =
    let (image, here, is) = are.each j c at in
    record { before = is.before; unborn = λ none. ((is.short none).0, is.unborn none) }

-- what was read of the images of disks that tell is what they hold
pub has_contents : {D : Type 0} (tells : Type 0) (seen : D → List ℕ) (asked : Option Format) (disks : List D) (images : List (List ℕ)) (log : Log) (contents : List Content) → length images ≡ length disks → (tells → images ≡ map seen disks)
    → AreContents (asked_format asked images) images contents → IsLogOf (asked_format asked images) contents log → HasContents tells seen asked disks log contents
has_contents {D} tells seen asked disks images log contents many as_seen are theirs = record {
  format = asked_format asked images;
  as_asked = λ f is. asked_is f asked is;
  many = are.many ∙ many;
  each = λ t j d c here there.
      let (image, at, is) = are.each j c there in
      let same : image ≡ seen d = some_is image (seen d) (sym at ∙ ap (λ (xs : List (List ℕ)). slice_get xs j) (as_seen t) ∙ map_get seen disks j d here) in
      subst (λ (n : ℕ). IsContentOf (asked_format asked images) n j (seen d) c) many (subst (λ (x : List ℕ). IsContentOf (asked_format asked images) (length images) j x c) same is);
  log_of_them = theirs;
  short = short_contents (asked_format asked images) images contents are;
}
  where
    asked_is : (f : Format) (o : Option Format) → o ≡ Some f → asked_format o images ≡ f
    asked_is f None is = absurd cc
    asked_is f (Some g) is = some_is g f is

pub err_is : {A E : Type 0} (d e : E) → ◌≡◌ {A = Result A E} (Err d) (Err e) → d ≡ e
err_is d e is = cc

pub if_ok_both : {A E : Type 0} (P Q R : A → Type 0) (r : Result A E) → IfOk r P → IfOk r Q → ((x : A) → P x → Q x → R x) → IfOk r R
if_ok_both P Q R (Ok x) is also then_so = then_so x is also
if_ok_both P Q R (Err e) is also then_so = tt
