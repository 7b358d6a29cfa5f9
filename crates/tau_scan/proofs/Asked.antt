-- The format that is asked has room for the contents that have it.
use Rattle.std.proofs.Common.{◌≡◌, ◌≤◌, ◌+◌, ℕ, suc, Bool, true, false, List, [], ◌∷◌, length, take, drop, Option, Some, None, Result, Ok, Err, refl, sym, ap, subst, inl, inr, arith, add-one}
use Rattle.std.specs.Prelude.{nat_le, slice_get, ◌==◌, if◌then◌else◌}
use Rattle.std.proofs.lemmas.List.{drop_all}
use Rattle.std.proofs.lemmas.Bool.{eqb-true}
use Rattle.std.proofs.lemmas.Bool.Decides.{leb_tells}
use Rattle.tau_base.specs.declared.format.Format.{Format}
use Rattle.tau_base.specs.declared.format.Format.TheVariants.{One, Two}
use Rattle.tau_base.specs.declared.limits.TheConstants.{MAX_STREAMS}
use Rattle.tau_base.specs.Modes.{most_streams}
use Rattle.tau_base.proofs.Lists.{drop_at}
use Rattle.tau_base.proofs.Logic.{some_is}
use Rattle.tau_block.specs.declared.fault.ImageFault.{ImageFault}
use Rattle.tau_block.specs.Image.{Reading as ImageReading, bodies, behind_header, count_in, format_in, header_fault, image_of, stated_in}
use Rattle.tau_block.proofs.Blocks.{sound_room}
use Rattle.tau_scan.specs.declared.fault.LogFault.{LogFault}
use Rattle.tau_scan.specs.Reading.{◌>>=◌, in_front, each_from, counted, formatted, opened, first_of, stated_by, or_roomy, asked_format, contents_of}

-- what two steps gave, the first did
step_gave : {A B : Type 0} (r : Result A LogFault) (g : A → Result B LogFault) (y : B) → (r >>= g) ≡ Ok y → (x : A) × (r ≡ Ok x) × (g x ≡ Ok y)
step_gave (Ok x) g y e = (x, refl, e)
step_gave (Err d) g y e = absurd cc

front_gave : (x : List ℕ) (r : Result (List (List ℕ)) LogFault) (ys : List (List ℕ)) → in_front x r ≡ Ok ys → (xs : List (List ℕ)) × (r ≡ Ok xs)
front_gave x (Ok xs) ys e = (xs, refl)
front_gave x (Err d) ys e = absurd cc

test_gave : (b : Bool) (x y : List ℕ) (d : LogFault) → (if b then Ok x else Err d) ≡ Ok y → b ≡ true
test_gave true x y d e = refl
test_gave false x y d e = absurd cc

pub counted_gave : (n j count : ℕ) (bytes ys : List ℕ) → counted n j (Some count) bytes ≡ Ok ys → count ≡ n
counted_gave n j count bytes ys e = eqb-true count n (test_gave (count == n) bytes ys _ e)

pub formatted_gave : (f found : Format) (j : ℕ) (content : Result (List ℕ) LogFault) (ys : List ℕ) → formatted f j (Some found) content ≡ Ok ys → content ≡ Ok ys
formatted_gave One One j content ys e = e
formatted_gave One Two j content ys e = absurd cc
formatted_gave Two One j content ys e = absurd cc
formatted_gave Two Two j content ys e = e

-- a header that is opened counts these streams, and no more than its format has room for
header_room : (f : Format) (n j : ℕ) (head : List ℕ) (fault : Option ImageFault) (blocks : Option (List ℕ)) (ys : List ℕ) →
    header_fault j head ≡ fault → opened f n j (behind_header head fault blocks) ≡ Ok ys → format_in head ≡ f → n ≤ most_streams f
header_room f n j head (Some d) blocks ys h e states = absurd cc
header_room f n j head None None ys h e states = absurd cc
header_room f n j head None (Some bytes) ys h e states =
    let count : count_in head ≡ n = counted_gave n j (count_in head) bytes ys (formatted_gave f (format_in head) j (counted n j (Some (count_in head)) bytes) ys e) in
    let room = sound_room j head h in
    let most : most_streams (format_in head) ≡ most_streams f = ap most_streams states in
    omega (arith, count, room, most)

abbrev reading_by : Bool → ℕ → List ℕ → Result ImageReading ImageFault
reading_by b j image = if b then Ok (record { format = None; count = None; bytes = [] }) else behind_header (take 16 image) (header_fault j (take 16 image)) (bodies 0 (drop 16 image))

abbrev stated_if : Bool → List ℕ → Option Format
stated_if b image = if b then None else Some (format_in (take 16 image))

born_room : (images : List (List ℕ)) (f : Format) (n j : ℕ) (contents : List (List ℕ)) → stated_by images ≡ Some f → each_from (λ i image. opened f n i (image_of i image)) j images ≡ Ok contents → n ≤ most_streams f
born_room [] f n j contents states e = absurd cc
born_room (image ∷ images) f n j contents states e = by (nat_le (length image) 17) states e (λ xs rest is. born_room images f n (suc j) xs rest is)
  where
    by : (b : Bool) → first_of (stated_if b image) (stated_by images) ≡ Some f
        → (opened f n j (reading_by b j image) >>= λ y. in_front y (each_from (λ i x. opened f n i (image_of i x)) (suc j) images)) ≡ Ok contents
        → ((xs : List (List ℕ)) → stated_by images ≡ Some f → each_from (λ i x. opened f n i (image_of i x)) (suc j) images ≡ Ok xs → n ≤ most_streams f)
        → n ≤ most_streams f
    by true states' e' rest = let q = front_gave [] (each_from (λ i x. opened f n i (image_of i x)) (suc j) images) contents e' in rest q.0 states' q.1
    by false states' e' rest =
        let q = step_gave (opened f n j (reading_by false j image)) (λ y. in_front y (each_from (λ i x. opened f n i (image_of i x)) (suc j) images)) contents e' in
        header_room f n j (take 16 image) (header_fault j (take 16 image)) (bodies 0 (drop 16 image)) q.0 refl q.1 (some_is _ _ states')

roomy_room : (n : ℕ) → n ≤ MAX_STREAMS → n ≤ most_streams (or_roomy n None)
roomy_room n most = elim (leb_tells n 16) [
  | inl h ↦ subst (λ (b : Bool). n ≤ most_streams (if b then One else Two)) (sym h.0) (omega (arith, h.1))
  | inr h ↦ subst (λ (b : Bool). n ≤ most_streams (if b then One else Two)) (sym h.0) (omega (arith, most))
]

pub room_of : (asked : Option Format) (images : List (List ℕ)) → length images ≤ MAX_STREAMS → ((f : Format) → asked ≡ Some f → length images ≤ most_streams f)
    → (contents : List (List ℕ)) → contents_of (asked_format asked images) images ≡ Ok contents → length images ≤ most_streams (asked_format asked images)
unfolding contents_of
room_of (Some f) images most fits contents e = fits f refl
room_of None images most fits contents e = of (stated_by images) refl e
  where
    of : (o : Option Format) → stated_by images ≡ o → contents_of (or_roomy (length images) o) images ≡ Ok contents → length images ≤ most_streams (or_roomy (length images) o)
    of None states e' = roomy_room (length images) most
    of (Some f) states e' = born_room images f (length images) 0 contents states e'

-- ---- the lowest image that states a format

pub stated_here : (images : List (List ℕ)) (i : ℕ) (image : List ℕ) (f : Format) → slice_get images i ≡ Some image → stated_in image ≡ Some f → stated_by (drop i images) ≡ Some f
stated_here images i image f here states = rw (drop_at images i image here, states) refl

pub unstated_here : (images : List (List ℕ)) (i : ℕ) (image : List ℕ) → slice_get images i ≡ Some image → stated_in image ≡ None → stated_by (drop i images) ≡ stated_by (drop (i + 1) images)
unstated_here images i image here none = rw (drop_at images i image here, none, add-one i) refl

pub none_stated : (images : List (List ℕ)) (i : ℕ) → length images ≤ i → stated_by (drop i images) ≡ None
none_stated images i le = rw (drop_all i images le) refl
