-- One start more.
use Rattle.std.proofs.Common.{ℕ, zero, suc, ◌≡◌, ◌+◌, List, [], ◌∷◌, ◌++◌, refl, sym, ap, subst, ◌∙◌, ⊎_elim, reverse, drop, length}
use Rattle.std.specs.Prelude.{Some, slice_get}
use Rattle.std.proofs.lemmas.List.{drop-drop}
use Rattle.tau_base.specs.declared.format.Format.{Format}
use Rattle.tau_base.proofs.Lists.{got_more}
use Rattle.tau_block.specs.declared.content.Content.{Content}
use Rattle.tau_open.specs.declared.start.StreamStart.{StreamStart}
use Rattle.tau_begin.specs.Starts.{IsStartOf}

dropped_at : {A : Type 0} (xs : List A) (j : ℕ) → slice_get (drop j xs) 0 ≡ slice_get xs j
dropped_at [] zero = refl
dropped_at [] (suc j) = refl
dropped_at (x ∷ xs) zero = refl
dropped_at (x ∷ xs) (suc j) = dropped_at xs j

-- what is left of a list are its elements from the j-th on
pub next_left : {A : Type 0} (xs left left' : List A) (x : A) (j : ℕ) → reverse left ≡ drop j xs → reverse left ≡ x ∷ reverse left' → (slice_get xs j ≡ Some x) × (reverse left' ≡ drop (j + 1) xs)
next_left {A} xs left left' x j rest is =
    let first : x ∷ reverse left' ≡ drop j xs = sym is ∙ rest in (
      sym (dropped_at xs j) ∙ ap (λ (ys : List A). slice_get ys 0) (sym first),
      ap (λ (ys : List A). drop 1 ys) first ∙ drop-drop 1 j xs,
    )

-- the streams below j have their starts
abbrev pub Started : Format → List ℕ → ℕ → List ℕ → List Content → List StreamStart → Type 0
Started f text epoch lv contents starts =
    (i : ℕ) (p : StreamStart) → slice_get starts i ≡ Some p → (c : Content) × (slice_get contents i ≡ Some c) × IsStartOf f (length contents) i text epoch lv c p

pub started_more : (f : Format) (text : List ℕ) (epoch : ℕ) (lv : List ℕ) (contents : List Content) (starts starts' : List StreamStart) (j : ℕ) (c : Content) (p : StreamStart) → Started f text epoch lv contents starts →
    length starts ≡ j → slice_get contents j ≡ Some c → starts' ≡ starts ++ p ∷ [] → IsStartOf f (length contents) j text epoch lv c p → Started f text epoch lv contents starts'
started_more f text epoch lv contents starts starts' j c p so count at is start i q here =
    let found : slice_get (starts ++ p ∷ []) i ≡ Some q = subst (λ (ps : List StreamStart). slice_get ps i ≡ Some q) is here in
    ⊎_elim
    (λ old. so i q old)
    (λ new.
    let place : j ≡ i = sym (new.0 ∙ count) in
    (c, subst (λ (k : ℕ). slice_get contents k ≡ Some c) place at, subst (λ (k : ℕ). IsStartOf f (length contents) k text epoch lv c q) place (subst (λ (r : StreamStart). IsStartOf f (length contents) j text epoch lv c r) new.1 start)))
    (got_more starts p q i found)
