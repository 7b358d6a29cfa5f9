-- Words and parts of a text, written one after the other.
use Rattle.std.proofs.Common.{◌≡◌, ℕ, List, [], ◌∷◌, ◌++◌, map, refl, ap, ◌∙◌, append_assoc}
use Rattle.std.specs.List.{flat_map}
use Rattle.tau_base.specs.declared.value.Value.{Value}
use Rattle.tau_text.specs.declared.load.Turn.{Turn}
use Rattle.tau_text.specs.Canonical.{behind, value_word, turn_word}

pub one_word : (o w a : List ℕ) → ((o ++ w) ++ 32 ∷ a) ++ 10 ∷ [] ≡ o ++ (w ++ 32 ∷ (a ++ 10 ∷ []))
one_word o w a = simp append_assoc

pub two_words : (o w a b : List ℕ) → (((o ++ w) ++ 32 ∷ a) ++ 32 ∷ b) ++ 10 ∷ [] ≡ o ++ (w ++ 32 ∷ (a ++ 32 ∷ (b ++ 10 ∷ [])))
two_words o w a b = simp append_assoc

pub three_words : (o w r a b : List ℕ) → ((((o ++ w) ++ 32 ∷ r) ++ 32 ∷ a) ++ 32 ∷ b) ++ 10 ∷ [] ≡ o ++ (w ++ 32 ∷ (r ++ 32 ∷ (a ++ 32 ∷ (b ++ 10 ∷ []))))
three_words o w r a b = simp append_assoc

pub two_parts : (o a b : List ℕ) → (o ++ a) ++ b ≡ o ++ (a ++ b)
two_parts o a b = append_assoc o a b

pub three_parts : (o a b c : List ℕ) → ((o ++ a) ++ b) ++ c ≡ o ++ ((a ++ b) ++ c)
three_parts o a b c = simp append_assoc

behind_map : {X : Type 0} (f : X → List ℕ) (xs : List X) → flat_map (λ x. 32 ∷ f x) xs ++ 10 ∷ [] ≡ behind (map f xs)
behind_map f [] = refl
behind_map f (x ∷ xs) = append_assoc (32 ∷ f x) (flat_map (λ y. 32 ∷ f y) xs) (10 ∷ []) ∙ ap (λ t. 32 ∷ f x ++ t) (behind_map f xs)

pub no_values : (o w : List ℕ) → (o ++ w) ++ 10 ∷ [] ≡ o ++ (w ++ 10 ∷ [])
no_values o w = append_assoc o w (10 ∷ [])

pub first_and_values : (o w a : List ℕ) (vs : List Value) → (((o ++ w) ++ 32 ∷ a) ++ flat_map (λ v. 32 ∷ value_word v) vs) ++ 10 ∷ [] ≡ o ++ (w ++ 32 ∷ (a ++ behind (map value_word vs)))
first_and_values o w a vs = rw (← behind_map value_word vs) (simp append_assoc)

pub turns_line : (o w : List ℕ) (ts : List Turn) → ((o ++ w) ++ flat_map (λ t. 32 ∷ turn_word t) ts) ++ 10 ∷ [] ≡ o ++ (w ++ behind (map turn_word ts))
turns_line o w ts = rw (← behind_map turn_word ts) (simp append_assoc)
