-- From gate to gate over an image.
use Rattle.std.proofs.Common.{◌≡◌, ◌≢◌, ℕ, ◌+◌, ◌<◌, List, ◌∷◌, ◌++◌, length, get_or, take, drop, refl, sym, ◌∙◌, ap, subst, arith, append_assoc, length-append, take-append-drop, Option, Some, None, Ok}
use Rattle.std.specs.Int.{w32, to_be_bytes}
use Rattle.std.proofs.lemmas.List.{take_at, drop_more, drop-drop, length-take-le, append-nil}
use Rattle.tau_base.specs.declared.format.Format.{Format}
use Rattle.tau_block.specs.Image.{extended, bodies, IsFront, IsLog, IsHeader, IsBlockAt, IsWalked, header_fault, format_in, count_in, image_of, with_count}
use Rattle.tau_block.proofs.Blocks.{block_of, extended_extended, bodies_block, bodies_shut, front_block, headed}

module _ (image : List ℕ) (gate_at : ℕ) (content : List ℕ) (is : IsWalked image gate_at content) where
  gate : (value : ℕ) → get_or image gate_at 0 ≡ value → drop gate_at image ≡ value ∷ drop (gate_at + 1) image
  gate value here = drop_more image gate_at 0 is.within ∙ ap (λ (v : ℕ). v ∷ drop (gate_at + 1) image) here

  -- at a closed gate
  pub walked_shut : get_or image gate_at 0 ≢ 1 → bodies 0 (drop 16 image) ≡ Some content
  walked_shut shut =
      is.reads
      ∙ ap (λ (o : Option (List ℕ)). extended content o) (ap (λ (l : List ℕ). bodies 0 l) (gate (get_or image gate_at 0) refl) ∙ bodies_shut (get_or image gate_at 0) (drop (gate_at + 1) image) shut)
      ∙ ap Some (append-nil content)

  pub walked_log : (f : Format) (n j : ℕ) → IsHeader f n j (take 16 image) → get_or image gate_at 0 ≢ 1 → IsLog f n j image gate_at content
  walked_log f n j header shut = record { within = is.within; shut = shut; front = is.front f n j header }

  module _ (opens : get_or image gate_at 0 ≡ 1) where
    -- at an open gate without a block
    pub walked_bad : bodies 0 (1 ∷ drop (gate_at + 1) image) ≡ None → bodies 0 (drop 16 image) ≡ None
    walked_bad none = is.reads ∙ ap (λ (o : Option (List ℕ)). extended content o) (ap (λ (l : List ℕ). bodies 0 l) (gate 1 opens) ∙ none)

    module _ (body : List ℕ) (at : ℕ) (at-is : at ≡ gate_at + 1) (block : IsBlockAt image at body) (next : ℕ) (next_is_that : next ≡ gate_at + (5 + length body)) where
      behind : drop gate_at image ≡ block_of body ++ drop next image
      behind =
          let four : ℕ = 4 + length body in
          let place : gate_at + 1 + four ≡ next = omega arith in
          let stands : take four (drop (gate_at + 1) image) ≡ to_be_bytes w32 (length body) ++ body = ap (λ (i : ℕ). take four (drop i image)) (sym at-is) ∙ block.stands in
          gate 1 opens
          ∙ ap (λ (l : List ℕ). 1 ∷ l) (sym (take-append-drop four (drop (gate_at + 1) image)) ∙ ap (λ (l : List ℕ). l ++ drop four (drop (gate_at + 1) image)) stands)
          ∙ ap (λ (l : List ℕ). block_of body ++ l) (drop-drop four (gate_at + 1) image ∙ ap (λ (i : ℕ). drop i image) place)

      whole : image ≡ (take gate_at image ++ block_of body) ++ drop next image
      whole = sym (take-append-drop gate_at image) ∙ ap (λ (l : List ℕ). take gate_at image ++ l) behind ∙ sym (append_assoc (take gate_at image) (block_of body) (drop next image))

      front : take next image ≡ take gate_at image ++ block_of body
      front = ap (λ (l : List ℕ). take next l) whole ∙ take_at (take gate_at image ++ block_of body) (drop next image) next
          (omega (arith, next_is_that, length-take-le gate_at image (omega (arith, is.within)), length-append (take gate_at image) (block_of body)))

      -- over a block
      pub walked_on : IsWalked image next (content ++ body)
      walked_on = record {
        within = omega (arith, next_is_that, at-is, block.within);
        reads = is.reads
            ∙ ap (λ (o : Option (List ℕ)). extended content o) (ap (λ (l : List ℕ). bodies 0 l) behind ∙ bodies_block body (drop next image) block.some block.short)
            ∙ extended_extended content body (bodies 0 (drop next image));
        front = λ f n j header. subst (λ (l : List ℕ). IsFront f n j l (content ++ body)) (sym front) (front_block f n j (take gate_at image) content body (is.front f n j header) block.some block.short);
      }

module _ (j : ℕ) (format : Format) (count : ℕ) (image head content : List ℕ) (gate_at : ℕ) (head_is : head ≡ take 16 image) (sound : header_fault j head ≡ None) (states : format ≡ format_in head) (counts : count ≡ count_in head) (is : IsWalked image gate_at content) (shut : get_or image gate_at 0 ≢ 1) where
  -- all of an image is read
  pub opened_log : 17 < length image → IsLog format count j image gate_at content
  opened_log long = walked_log image gate_at content is format count j header shut
    where
      header : IsHeader format count j (take 16 image)
      header = record {
        size = length-take-le 16 image (omega arith);
        sound = subst (λ (l : List ℕ). header_fault j l ≡ None) head_is sound;
        formats = sym (states ∙ ap format_in head_is);
        counts = sym (counts ∙ ap count_in head_is);
      }

  pub opened_image : 17 < length image → image_of j image ≡ Ok (record { format = Some format; count = Some count; bytes = content })
  opened_image long =
      headed j image long (subst (λ (l : List ℕ). header_fault j l ≡ None) head_is sound)
      ∙ ap (λ (f : Format). with_count f (count_in (take 16 image)) (bodies 0 (drop 16 image))) (sym (states ∙ ap format_in head_is))
      ∙ ap (λ (n : ℕ). with_count format n (bodies 0 (drop 16 image))) (sym (counts ∙ ap count_in head_is))
      ∙ ap (λ (o : Option (List ℕ)). with_count format count o) (walked_shut image gate_at content is shut)
