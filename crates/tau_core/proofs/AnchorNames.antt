-- Names of anchors stay where a stream has more of them.
use Rattle.std.proofs.Common.{ℕ, ◌≤◌, ◌≡◌, inl, inr, List, [], ◌∷◌, refl, arith}
use Rattle.std.specs.Prelude.{Some, slice_get}
use Rattle.tau_machine.specs.State.{Item, Record, Anchor, past_of}
use Rattle.tau_model.specs.History.{Member}
use Rattle.tau_outbox.specs.declared.Piece.{Piece}
use Rattle.tau_outbox.specs.Pieces as outbox
use Rattle.tau_outbox.specs.Pieces.{end_of}
use Rattle.tau_core.specs.declared.state.Load.{Load}
use Rattle.tau_core.specs.Pieces.{IsPieceOf, AreBytesOf, Paired, Spelled}

pub record Grows (anchors more : ℕ → List (List ℕ)) : Type 0 where
  pub keeps : (j i : ℕ) (v : List ℕ) → slice_get (anchors j) i ≡ Some v → slice_get (more j) i ≡ Some v

module _ (l : Load) (anchors more : ℕ → List (List ℕ)) (g : Grows anchors more) where
  bytes_more : (i : Item) (bytes : List ℕ) → AreBytesOf l anchors i bytes → AreBytesOf l more i bytes
  bytes_more (Record t) bytes q = record {
    base = q.base;
    named = elim q.named [ inl e ↦ inl e | inr e ↦ inr (e.0, e.1, g.keeps t.call.place.stream e.0 q.base e.2) ];
    spelled = q.spelled;
  }
  bytes_more (Anchor a b v) bytes q = q

  pub piece_more : (p : Piece) (i : Item) → IsPieceOf l anchors p i → IsPieceOf l more p i
  piece_more p i q = record { start = q.start; past = q.past; bytes = bytes_more i p.bytes q.bytes }

  pub paired_more : (ps : List Piece) (is : List Item) → Paired (IsPieceOf l anchors) ps is → Paired (IsPieceOf l more) ps is
  paired_more [] [] q = tt
  paired_more [] (i ∷ is) q = absurd q
  paired_more (p ∷ ps) [] q = absurd q
  paired_more (p ∷ ps) (i ∷ is) q = (piece_more p i q.0, paired_more ps is q.1)

  pub spelled_more : (is : List Item) (b : List ℕ) → Spelled l anchors is b → Spelled l more is b
  spelled_more [] b q = q
  spelled_more (i ∷ is) b q = (q.0, q.1, q.2, q.3, bytes_more i q.0 q.4, spelled_more is q.1 q.5)

-- pieces end where their items do
pub end_low : (l : Load) (anchors : ℕ → List (List ℕ)) (low n : ℕ) (ps : List Piece) (is : List Item) → Paired (IsPieceOf l anchors) ps is → low ≤ n → ((i : Item) → Member i is → past_of i ≤ n) → end_of low ps ≤ n
end_low l anchors low n [] is q le below = le
end_low l anchors low n (p ∷ ps) [] q le below = absurd q
end_low l anchors low n (p ∷ ps) (i ∷ is) q le below =
    end_low l anchors (outbox.past_of p) n ps is q.1 (let e = q.0.past in let b = below i (inl refl) in omega arith) (λ k m. below k (inr m))
