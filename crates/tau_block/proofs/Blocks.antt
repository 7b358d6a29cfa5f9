-- Blocks and headers, and how the front of an image grows.
use Rattle.std.proofs.Common.{◌≡◌, ◌≢◌, ◌⊎◌, inl, inr, ℕ, zero, suc, ◌+◌, ◌<◌, ◌≤◌, ◌^◌, Bool, true, false, List, [], ◌∷◌, ◌++◌, length, get_or, take, drop, refl, sym, ◌∙◌, ap, subst, arith, append_assoc, length-append, Option, Some, None, Ok, if◌then◌else◌}
use Rattle.std.specs.Prelude.{nat_eq, slice_set}
use Rattle.std.specs.List.{starts_with}
use Rattle.std.specs.Int.{w32, from_be_bytes, to_be_bytes}
use Rattle.std.proofs.lemmas.Nat.{from_be_bytes-to_be_bytes_2, from_be_bytes-to_be_bytes_4}
use Rattle.std.proofs.lemmas.List.{take_at, drop_at, drop_all, get_or_at, length-take-le, append-nil, get_or_append_left, take-append-le}
use Rattle.std.proofs.Math.Seq.{set-append_seam}
use Rattle.std.proofs.lemmas.Bool.{cases_eq, le-leb, lt-leb}
use Rattle.std.proofs.lemmas.Bool.Decides.{nat_tests}
use Rattle.tau_base.specs.declared.format.Format.{Format}
use Rattle.tau_base.specs.declared.format.Format.TheVariants.{One, Two}
use Rattle.tau_base.specs.Modes.{most_streams}
use Rattle.tau_block.specs.declared.fault.ImageFault.{ImageFault}
use Rattle.tau_block.specs.declared.fault.ImageFault.TheVariants.{BadMagic, BadCount, BadIndex}
use Rattle.tau_block.specs.Image.{magic, header_of, format_in, count_in, index_in, header_fault, extended, bodies, with_count, behind_header, image_of, bytes_of, content_of, tail_of, IsFront, IsLog, IsHeader}
use Rattle.tau_base.proofs.Lists.{split_at}

-- a block with its open gate, and what of it stands after the gate, with the next gate closed
abbrev pub block_of : List ℕ → List ℕ
block_of body = 1 ∷ (to_be_bytes w32 (length body) ++ body)

pub extended_extended : (a b : List ℕ) (o : Option (List ℕ)) → extended a (extended b o) ≡ extended (a ++ b) o
extended_extended a b None = refl
extended_extended a b (Some c) = ap Some (sym (append_assoc a b c))

pub extended_nil : (o : Option (List ℕ)) → extended [] o ≡ o
extended_nil None = refl
extended_nil (Some c) = refl

-- a body is read
bodies_append : (body tail : List ℕ) → bodies (length body) (body ++ tail) ≡ extended body (bodies 0 tail)
bodies_append [] tail = sym (extended_nil (bodies 0 tail))
bodies_append (x ∷ body) tail = ap (λ (o : Option (List ℕ)). extended (x ∷ []) o) (bodies_append body tail) ∙ extended_extended (x ∷ []) body (bodies 0 tail)

-- where no byte is left for the next gate there is none
pub bodies_short : (k : ℕ) (xs : List ℕ) → length xs ≤ k → bodies k xs ≡ None
bodies_short zero [] le = refl
bodies_short zero (x ∷ xs) le = absurd (omega arith)
bodies_short (suc k) [] le = refl
bodies_short (suc k) (x ∷ xs) le = ap (λ (o : Option (List ℕ)). extended (x ∷ []) o) (bodies_short k xs (omega arith))

-- four bytes that stand for a number above 0 are followed by a body
pub bodies_open : (a b c d n : ℕ) (rest : List ℕ) → from_be_bytes w32 (a ∷ b ∷ c ∷ d ∷ []) ≡ n → 1 ≤ n → bodies 0 (1 ∷ a ∷ b ∷ c ∷ d ∷ rest) ≡ bodies n rest
bodies_open a b c d n rest is some = grind (arith, nat_tests)

bodies_zero : (a b c d : ℕ) (rest : List ℕ) → from_be_bytes w32 (a ∷ b ∷ c ∷ d ∷ []) ≡ 0 → bodies 0 (1 ∷ a ∷ b ∷ c ∷ d ∷ rest) ≡ None
bodies_zero a b c d rest is = grind (arith, nat_tests)

-- so is a block
pub bodies_block : (body tail : List ℕ) → 1 ≤ length body → length body < 2 ^ 32 → bodies 0 (block_of body ++ tail) ≡ extended body (bodies 0 tail)
bodies_block body tail some short = bodies_open _ _ _ _ (length body) (body ++ tail) (from_be_bytes-to_be_bytes_4 (length body) short) some ∙ bodies_append body tail

pub bodies_shut : (gate : ℕ) (rest : List ℕ) → gate ≢ 1 → bodies 0 (gate ∷ rest) ≡ Some []
bodies_shut gate [] shut = grind (arith, nat_tests)
bodies_shut gate (a ∷ []) shut = grind (arith, nat_tests)
bodies_shut gate (a ∷ b ∷ []) shut = grind (arith, nat_tests)
bodies_shut gate (a ∷ b ∷ c ∷ []) shut = grind (arith, nat_tests)
bodies_shut gate (a ∷ b ∷ c ∷ d ∷ rest) shut = grind (arith, nat_tests)

-- an open gate with fewer than four bytes after it
pub no_length : (xs : List ℕ) → length xs < 4 → bodies 0 (1 ∷ xs) ≡ None
no_length [] lt = refl
no_length (a ∷ []) lt = refl
no_length (a ∷ b ∷ []) lt = refl
no_length (a ∷ b ∷ c ∷ []) lt = refl
no_length (a ∷ b ∷ c ∷ d ∷ rest) lt = absurd (omega arith)

-- the number that the first four bytes are
abbrev pub size_in : List ℕ → ℕ
size_in xs = from_be_bytes w32 (get_or xs 0 0 ∷ get_or xs 1 0 ∷ get_or xs 2 0 ∷ get_or xs 3 0 ∷ [])

-- with a length of 0, or no byte after the body
pub no_block : (xs : List ℕ) (n : ℕ) → 4 ≤ length xs → n ≡ size_in xs → (n ≡ 0) ⊎ (length xs ≤ 4 + n) → bodies 0 (1 ∷ xs) ≡ None
no_block [] n long is why = absurd (omega arith)
no_block (a ∷ []) n long is why = absurd (omega arith)
no_block (a ∷ b ∷ []) n long is why = absurd (omega arith)
no_block (a ∷ b ∷ c ∷ []) n long is why = absurd (omega arith)
no_block (a ∷ b ∷ c ∷ d ∷ rest) n long is (inl none) = bodies_zero a b c d rest (sym is ∙ none)
no_block (a ∷ b ∷ c ∷ d ∷ rest) n long is (inr short) = elim (cases_eq n 0) [
  | inl none ↦ bodies_zero a b c d rest (sym is ∙ none)
  | inr some ↦ bodies_open a b c d n rest (sym is) (omega arith) ∙ bodies_short n rest (omega arith)
]

-- a block makes the front longer
pub front_block : (f : Format) (n j : ℕ) (front content body : List ℕ) → IsFront f n j front content → 1 ≤ length body → length body < 2 ^ 32 → IsFront f n j (front ++ block_of body) (content ++ body)
front_block f n j front content body is some short = record {
  long = omega (arith, is.long, length-append front (block_of body));
  closed = λ gate rest shut. reads (gate ∷ rest) ∙ ap (λ (o : Option (List ℕ)). extended (content ++ body) o) (bodies_shut gate rest shut) ∙ ap Some (append-nil (content ++ body));
  more = λ tail long. reads tail;
}
  where
    reads : (tail : List ℕ) → content_of f n j ((front ++ block_of body) ++ tail) ≡ extended (content ++ body) (bodies 0 tail)
    reads tail =
        ap (content_of f n j) (append_assoc front (block_of body) tail)
        ∙ is.more (block_of body ++ tail) (omega arith)
        ∙ ap (λ (o : Option (List ℕ)). extended content o) (bodies_block body tail some short)
        ∙ extended_extended content body (bodies 0 tail)

-- of a header alone

pub short_content : (f : Format) (n j : ℕ) (image : List ℕ) → length image ≤ 17 → content_of f n j image ≡ Some []
short_content f n j image short = ap (λ (b : Bool). bytes_of f n (if b then Ok (record { format = None; count = None; bytes = [] }) else behind_header (take 16 image) (header_fault j (take 16 image)) (bodies 0 (drop 16 image)))) (le-leb (length image) 17 short)

own_counted : (f : Format) (n count : ℕ) (blocks : Option (List ℕ)) → count ≡ n → bytes_of f n (with_count f count blocks) ≡ blocks
own_counted One n count None is = refl
own_counted Two n count None is = refl
own_counted One n count (Some bytes) is = grind (arith, nat_tests)
own_counted Two n count (Some bytes) is = grind (arith, nat_tests)

counted : (f g : Format) (n count : ℕ) (blocks : Option (List ℕ)) → g ≡ f → count ≡ n → bytes_of f n (with_count g count blocks) ≡ blocks
counted f g n count blocks formats is = subst (λ (h : Format). bytes_of f n (with_count h count blocks) ≡ blocks) (sym formats) (own_counted f n count blocks is)

pub long_image : (j : ℕ) (image : List ℕ) → 17 < length image → image_of j image ≡ behind_header (take 16 image) (header_fault j (take 16 image)) (bodies 0 (drop 16 image))
long_image j image long = ap (λ (b : Bool). if b then Ok (record { format = None; count = None; bytes = [] }) else behind_header (take 16 image) (header_fault j (take 16 image)) (bodies 0 (drop 16 image))) (lt-leb (length image) 17 long)

pub headed : (j : ℕ) (image : List ℕ) → 17 < length image → header_fault j (take 16 image) ≡ None → image_of j image ≡ with_count (format_in (take 16 image)) (count_in (take 16 image)) (bodies 0 (drop 16 image))
headed j image long sound = long_image j image long ∙ ap (λ (f : Option ImageFault). behind_header (take 16 image) f (bodies 0 (drop 16 image))) sound

long_content : (f : Format) (n j : ℕ) (image : List ℕ) → 17 < length image → IsHeader f n j (take 16 image) → content_of f n j image ≡ bodies 0 (drop 16 image)
long_content f n j image long header = ap (bytes_of f n) (headed j image long header.sound) ∙ counted f (format_in (take 16 image)) n (count_in (take 16 image)) (bodies 0 (drop 16 image)) header.formats header.counts

module _ (f : Format) (n j : ℕ) (head : List ℕ) (header : IsHeader f n j head) where
  behind_head : (tail : List ℕ) → 2 ≤ length tail → content_of f n j (head ++ tail) ≡ bodies 0 tail
  behind_head tail long =
      long_content f n j (head ++ tail) (omega (arith, header.size, length-append head tail)) (subst (IsHeader f n j) (sym (take_at head tail 16 header.size)) header)
      ∙ ap (λ (l : List ℕ). bodies 0 l) (drop_at head tail 16 header.size)

  closed_head : (gate : ℕ) (rest : List ℕ) → gate ≢ 1 → content_of f n j (head ++ gate ∷ rest) ≡ Some []
  closed_head gate [] shut = short_content f n j (head ++ gate ∷ []) (omega (arith, header.size, length-append head (gate ∷ [])))
  closed_head gate (x ∷ rest) shut = behind_head (gate ∷ x ∷ rest) (omega arith) ∙ bodies_shut gate (x ∷ rest) shut

  pub front_head : IsFront f n j head []
  front_head = record {
    long = omega (arith, header.size);
    closed = closed_head;
    more = λ tail long. behind_head tail long ∙ sym (extended_nil (bodies 0 tail));
  }

zero_one : (n : ℕ) → n ≡ 0 → n ≡ 1 → ⊥
zero_one n is_zero is_one = omega arith

-- a front and a closed gate, with anything after it
pub log_of_front : (f : Format) (n j : ℕ) (front content rest : List ℕ) → IsFront f n j front content → IsLog f n j (front ++ 0 ∷ rest) (length front) content
log_of_front f n j front content rest is = record {
  within = omega (arith, length-append front (0 ∷ rest));
  shut = zero_one _ (get_or_at front 0 rest 0 (length front) refl);
  front = subst (λ (l : List ℕ). IsFront f n j l content) (sym (take_at front (0 ∷ rest) (length front) refl)) is;
}

-- the causes in a header, in their order

module _ (j : ℕ) (head : List ℕ) (f : Format) (states : f ≡ format_in head) where
  pub bad_magic : starts_with nat_eq head (magic f) ≡ false → header_fault j head ≡ Some BadMagic
  unfolding header_fault
  bad_magic magical =
      let own : starts_with nat_eq head (magic (format_in head)) ≡ false = subst (λ (g : Format). starts_with nat_eq head (magic g) ≡ false) states magical in
      grind (arith, nat_tests)

  module _ (magical : starts_with nat_eq head (magic f) ≡ true) (n : ℕ) (counts : n ≡ count_in head) where
    own_magic : starts_with nat_eq head (magic (format_in head)) ≡ true
    own_magic = subst (λ (g : Format). starts_with nat_eq head (magic g) ≡ true) states magical

    own_most : most_streams f ≡ most_streams (format_in head)
    own_most = ap most_streams states

    pub bad_count : (n < 1) ⊎ (most_streams f < n) → header_fault j head ≡ Some BadCount
    unfolding header_fault
    bad_count why = let own = own_magic in let most = own_most in grind (arith, nat_tests)

    module _ (some : 1 ≤ n) (fits : n ≤ most_streams f) (i : ℕ) (indexes : i ≡ index_in head) where
      pub bad_index : (i ≢ j) ⊎ (n ≤ i) → header_fault j head ≡ Some BadIndex
      unfolding header_fault
      bad_index why = let own = own_magic in let most = own_most in grind (arith, nat_tests)

      pub no_fault : i ≡ j → i < n → header_fault j head ≡ None
      unfolding header_fault
      no_fault own_index below = let own = own_magic in let most = own_most in grind (arith, nat_tests)

-- a sound header counts no more streams than its format has room for
pub sound_room : (j : ℕ) (head : List ℕ) → header_fault j head ≡ None → count_in head ≤ most_streams (format_in head)
unfolding header_fault
sound_room j head sound = grind (arith, nat_tests)

most_of_all : (f : Format) → most_streams f ≤ 32
most_of_all One = omega arith
most_of_all Two = omega arith

-- what the header that is written states

header_long : (f : Format) (n j : ℕ) → length (header_of f n j) ≡ 16
header_long f n j = refl

header_counts : (f : Format) (n j : ℕ) → n < 2 ^ 16 → count_in (header_of f n j) ≡ n
unfolding count_in
header_counts f n j fits = from_be_bytes-to_be_bytes_2 n fits

header_indexes : (f : Format) (n j : ℕ) → j < 2 ^ 16 → index_in (header_of f n j) ≡ j
unfolding index_in
header_indexes f n j fits = from_be_bytes-to_be_bytes_2 j fits

header_formats : (f : Format) (n j : ℕ) → format_in (header_of f n j) ≡ f
unfolding format_in
header_formats One n j = refl
header_formats Two n j = refl

header_magical : (f : Format) (n j : ℕ) → starts_with nat_eq (header_of f n j) (magic f) ≡ true
header_magical One n j = refl
header_magical Two n j = refl

pub head_format : (f : Format) (n j : ℕ) (rest : List ℕ) → format_in (header_of f n j ++ rest) ≡ f
unfolding format_in
head_format One n j rest = refl
head_format Two n j rest = refl

-- and is one
pub header_of_is : (f : Format) (n j : ℕ) → 1 ≤ n → n ≤ most_streams f → j < n → IsHeader f n j (header_of f n j)
header_of_is f n j some most below =
    let few = most_of_all f in
    let counts : count_in (header_of f n j) ≡ n = header_counts f n j (omega (arith, few, most)) in
    let indexes : index_in (header_of f n j) ≡ j = header_indexes f n j (omega (arith, few, most, below)) in
    let formats : format_in (header_of f n j) ≡ f = header_formats f n j in
    record {
      size = header_long f n j;
      sound = no_fault j (header_of f n j) f (sym formats) (header_magical f n j) n (sym counts) some most j (sym indexes) refl below;
      formats = formats;
      counts = counts;
    }

-- a header and what is after it name the stream
pub head_names : (f : Format) (n j : ℕ) (rest : List ℕ) → n < 2 ^ 16 → j < 2 ^ 16 → (count_in (header_of f n j ++ rest) ≡ n) × (index_in (header_of f n j ++ rest) ≡ j)
unfolding count_in index_in
head_names f n j rest count index = (from_be_bytes-to_be_bytes_2 n count, from_be_bytes-to_be_bytes_2 j index)

pub log_of_header : (f : Format) (n j : ℕ) → 1 ≤ n → n ≤ most_streams f → j < n → IsLog f n j (header_of f n j ++ 0 ∷ []) 16 []
log_of_header f n j some most below =
    subst (λ (at : ℕ). IsLog f n j (header_of f n j ++ 0 ∷ []) at []) (header_long f n j)
    (log_of_front f n j (header_of f n j) [] [] (front_head f n j (header_of f n j) (header_of_is f n j some most below)))

-- an image that ends with its closed gate

module _ (f : Format) (n j : ℕ) (image : List ℕ) (gate_at : ℕ) (content : List ℕ) (is : IsLog f n j image gate_at content) where
  -- goes on with anything
  pub log_longer : (more : List ℕ) → IsLog f n j (image ++ more) gate_at content
  log_longer more = record {
    within = omega (arith, is.within, length-append image more);
    shut = λ opens. is.shut (sym (get_or_append_left image more 0 gate_at is.within) ∙ opens);
    front = subst (λ (l : List ℕ). IsFront f n j l content) (sym (take-append-le gate_at image more (omega (arith, is.within)))) is.front;
  }

  pub log_read : content_of f n j image ≡ Some content
  log_read = ap (content_of f n j) (split_at image gate_at is.within) ∙ is.front.closed (get_or image gate_at 0) (drop (gate_at + 1) image) is.shut

  -- and with a block whose gate is opened has one content more
  pub log_opened : (body : List ℕ) → 1 ≤ length body → length body < 2 ^ 32 → gate_at + 1 ≡ length image →
      IsLog f n j (slice_set (image ++ tail_of body) gate_at 1) (gate_at + length (tail_of body)) (content ++ body)
  log_opened body some short ends =
      let size : length (take gate_at image) ≡ gate_at = length-take-le gate_at image (omega (arith, is.within)) in
      let whole : image ++ tail_of body ≡ take gate_at image ++ get_or image gate_at 0 ∷ tail_of body =
      ap (λ (l : List ℕ). l ++ tail_of body) (split_at image gate_at is.within ∙ ap (λ (l : List ℕ). take gate_at image ++ get_or image gate_at 0 ∷ l) (drop_all (gate_at + 1) image (omega (arith, ends))))
      ∙ append_assoc (take gate_at image) (get_or image gate_at 0 ∷ []) (tail_of body) in
      let opens : slice_set (image ++ tail_of body) gate_at 1 ≡ (take gate_at image ++ block_of body) ++ 0 ∷ [] =
      ap (λ (l : List ℕ). slice_set l gate_at 1) whole
      ∙ ap (λ (i : ℕ). slice_set (take gate_at image ++ get_or image gate_at 0 ∷ tail_of body) i 1) (sym size)
      ∙ set-append_seam (take gate_at image) (get_or image gate_at 0) (tail_of body) 1
      ∙ sym (append_assoc (take gate_at image) (block_of body) (0 ∷ [])) in
      let grown : length (take gate_at image ++ block_of body) ≡ gate_at + length (tail_of body) =
      omega (arith, size, length-append (take gate_at image) (block_of body), length-append body (0 ∷ [])) in
      let log = log_of_front f n j (take gate_at image ++ block_of body) (content ++ body) [] (front_block f n j (take gate_at image) content body is.front some short) in
      subst (λ (g : ℕ). IsLog f n j (slice_set (image ++ tail_of body) gate_at 1) g (content ++ body)) grown
      (subst (λ (l : List ℕ). IsLog f n j l (length (take gate_at image ++ block_of body)) (content ++ body)) (sym opens) log)
