-- What an image of a settled log holds.
use Rattle.std.proofs.Common.{ℕ, suc, ◌≡◌, ◌<◌, List, ◌∷◌, ◌++◌, sym, ap, ◌∙◌, subst, take, drop, length, take-append-drop, drop-cons}
use Rattle.std.specs.Prelude.{Some, slice_index}
use Rattle.tau_base.specs.declared.format.Format.{Format}
use Rattle.tau_block.specs.Image.{HasContent, IsLog, content_of}
use Rattle.tau_stream.specs.Stream.{IsSettled}

-- a settled log is read as its content
log_has : (f : Format) (n j : ℕ) (image : List ℕ) (gate_at : ℕ) (content : List ℕ) → IsLog f n j image gate_at content → HasContent f n j content image
log_has f n j image gate_at content log =
    let lt : gate_at < length image = log.within in
    let split : take gate_at image ++ slice_index image gate_at ∷ drop (suc gate_at) image ≡ image =
    ap (λ (xs : List ℕ). take gate_at image ++ xs) (sym (drop-cons image gate_at 0 lt)) ∙ take-append-drop gate_at image in
    subst (λ (xs : List ℕ). content_of f n j xs ≡ Some content) split (log.front.closed (slice_index image gate_at) (drop (suc gate_at) image) log.shut)

pub settled_has : (f : Format) (n j : ℕ) (file : List ℕ) (may_leave : List ℕ → Type 0) (gate_at : ℕ) (content : List ℕ) → IsSettled f n j file may_leave gate_at content →
    (x : List ℕ) → may_leave x → HasContent f n j content x
settled_has f n j file may_leave gate_at content settled x left =
    subst (λ (y : List ℕ). HasContent f n j content y) (sym (settled.only x left)) (log_has f n j file gate_at content settled.log)
