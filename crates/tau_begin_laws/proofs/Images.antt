-- What a read of the disks gives holds the contents.
use Rattle.std.proofs.Common.{ℕ, suc, ◌+◌, Bool, true, ◌≡◌, List, [], ◌∷◌, map, length, Option, Some, None, Result, Ok, Err, refl, sym, ap, subst, ◌∙◌, arith}
use Rattle.std.specs.Prelude.{slice_get, IsNone, if◌then◌else◌}
use Rattle.std.proofs.lemmas.Bool.{eq-eqb}
use Rattle.tau_base.specs.declared.format.Format.{Format}
use Rattle.tau_base.specs.declared.format.Format.TheVariants.{One, Two}
use Rattle.tau_base.specs.Modes.{format_number, same_format}
use Rattle.tau_base.proofs.Lists.{got_within, some_at, length_mapped}
use Rattle.tau_base.proofs.Logic.{some_is}
use Rattle.tau_block.specs.Image.{IfBorn, image_of}
use Rattle.tau_block.specs.declared.content.Content.{Content}
use Rattle.tau_scan.specs.declared.log.Log.{Log}
use Rattle.tau_scan.proofs.Streams.{map_get}
use Rattle.tau_scan.specs.declared.fault.LogFault.{LogFault}
use Rattle.tau_scan.specs.declared.fault.LogCause.TheVariants as cause
use Rattle.tau_scan.specs.Contents.{bytes_in, IsContentOf, AreContents, HasContents}
use Rattle.tau_scan.specs.Reading.{◌>>=◌, in_front, each_from, counted, formatted, opened, contents_of}

abbrev done : {A : Type 0} → A → Result A LogFault
done x = Ok x

same_self : (f g : Format) → g ≡ f → same_format f g ≡ true
same_self One One e = refl
same_self One Two e = absurd cc
same_self Two One e = absurd cc
same_self Two Two e = refl

stated_is : (f : Format) (n j : ℕ) (g : Option Format) (m : Option ℕ) (bytes : List ℕ) → IfBorn g m (λ h k. (h ≡ f) × (k ≡ n)) → (IsNone g → IsNone m) × (IsNone m → IsNone g) →
    formatted f j g (counted n j m bytes) ≡ done bytes
stated_is f n j None None bytes is both = refl
stated_is f n j None (Some m) bytes is both = absurd (let g = both.0 refl in cc g)
stated_is f n j (Some g) None bytes is both = absurd (let g = both.1 refl in cc g)
stated_is f n j (Some g) (Some m) bytes is both =
    ap (λ (b : Bool). if b then counted n j (Some m) bytes else Err (record { stream = j; cause = cause.Format (format_number f) (format_number g) })) (same_self f g is.0)
    ∙ ap (λ (b : Bool). if b then done bytes else Err (record { stream = j; cause = cause.Count n m })) (eq-eqb m n is.1)

opened_is : (f : Format) (n j : ℕ) (image : List ℕ) (c : Content) → IsContentOf f n j image c → opened f n j (image_of j image) ≡ done c.bytes
opened_is f n j image c h = ap (opened f n j) h.is ∙ stated_is f n j c.format c.count c.bytes h.states h.stated

each_is : (f : Format) (n j : ℕ) (images : List (List ℕ)) (contents : List Content) → length contents ≡ length images →
    ((i : ℕ) (c : Content) → slice_get contents i ≡ Some c → (image : List ℕ) × (slice_get images i ≡ Some image) × IsContentOf f n (j + i) image c) →
    each_from (λ k image. opened f n k (image_of k image)) j images ≡ done (bytes_in contents)
each_is f n j [] [] long all = refl
each_is f n j [] (c ∷ contents) long all = absurd (omega (arith, long))
each_is f n j (image ∷ images) [] long all = absurd (omega (arith, long))
each_is f n j (image ∷ images) (c ∷ contents) long all =
    let first = all 0 c refl in
    let rest : Result (List (List ℕ)) LogFault = each_from (λ k x. opened f n k (image_of k x)) (suc j) images in
    let at : j + 0 ≡ j = omega arith in
    let here : IsContentOf f n j image c = subst (λ (k : ℕ). IsContentOf f n k image c) at (subst (λ (x : List ℕ). IsContentOf f n (j + 0) x c) (sym (some_is image first.0 first.1)) first.2) in
    ap (λ (r : Result (List ℕ) LogFault). r >>= λ (y : List ℕ). in_front y rest) (opened_is f n j image c here)
    ∙ ap (in_front c.bytes) (each_is f n (suc j) images contents (omega (arith, long)) (λ i d e.
    let next = all (suc i) d e in
    let place : j + suc i ≡ suc j + i = omega arith in
    (next.0, next.1, subst (λ (k : ℕ). IsContentOf f n k next.0 d) place next.2)))

pub images_hold : (f : Format) (images : List (List ℕ)) (contents : List Content) → AreContents f images contents → contents_of f images ≡ done (bytes_in contents)
unfolding contents_of
images_hold f images contents h = each_is f (length images) 0 images contents h.many (λ j c e.
    let found = h.each j c e in
    let at : j ≡ 0 + j = omega arith in
    (found.0, found.1, subst (λ (k : ℕ). IsContentOf f (length images) k found.0 c) at found.2))

-- of disks that tell, what a read gives has the contents that were handed out
pub seen_hold : {D : Type 0} (tells : Type 0) (seen : D → List ℕ) (f : Format) (disks : List D) (log : Log) (contents : List Content) → HasContents tells seen (Some f) disks log contents → tells → AreContents f (map seen disks) contents
seen_hold tells seen f disks log contents h t =
    let wide : length (map seen disks) ≡ length disks = length_mapped seen disks in
    record {
      many = h.many ∙ sym wide;
      each = λ j c e.
          let d = some_at disks j (let low = got_within contents j c e in let many = h.many in omega (arith, low, many)) in (
            seen d.0,
            map_get seen disks j d.0 d.1,
            subst (λ (n : ℕ). IsContentOf f n j (seen d.0) c) (sym wide) (subst (λ (g : Format). IsContentOf g (length disks) j (seen d.0) c) (h.as_asked f refl) (h.each t j d.0 c d.1 e)),
          );
    }
