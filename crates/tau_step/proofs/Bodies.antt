-- The bytes that are handed out of a stream.
use Rattle.std.proofs.Common.{ℕ, ◌+◌, ◌<◌, ◌≤◌, ◌≡◌, ◌⊎◌, inl, inr, List, [], ◌∷◌, ◌++◌, length, sym, ap, subst, ◌∙◌, append_assoc, arith, length-append}
use Rattle.std.specs.Prelude.{Some, slice_get, slice_index}
use Rattle.tau_model.specs.History.{Act}
use Rattle.tau_machine.specs.Hands.{Txn}
use Rattle.tau_machine.specs.State.{Item, past_of}
use Rattle.tau_machine.specs.Pieces.{Chain}
use Rattle.tau_core.specs.declared.state.Load.{Load}
use Rattle.tau_core.specs.Plain.{PlainStream}
use Rattle.tau_core.specs.State.{Plain}
use Rattle.tau_core.specs.View.{Hidden}
use Rattle.tau_core.specs.Stands.{Stands, anchors_at}
use Rattle.tau_core.specs.Pieces.{Spelled}
use Rattle.tau_run.proofs.Bodies.{five}

module _ (l : Load) (anchors : ℕ → List (List ℕ)) where
  -- the bytes of a chain of items are as long as it is
  pub spelled_long : (from to : ℕ) (items : List Item) (bytes : List ℕ) → Chain from items to → Spelled l anchors items bytes → from + length bytes ≡ to
  spelled_long from to [] bytes c s = (let e = ap (length {A = ℕ}) s in let f : from ≡ to = c in omega arith)
  spelled_long from to (i ∷ is) bytes c s =
      let (first, rest, whole, size, mine, more) = s in
      let up = spelled_long (past_of i) to is rest c.2 more in
      let start = c.0 in
      let sum : length bytes ≡ length first + length rest = ap (length {A = ℕ}) whole ∙ length-append first rest in
      omega arith

  -- what stands after whole records has none or a record
  pub behind_whole : (is js : List Item) (b c : List ℕ) → Spelled l anchors is b → Spelled l anchors (is ++ js) (b ++ c) → (c ≡ []) ⊎ (5 ≤ length c)
  behind_whole [] [] b c p q = inl (subst (λ (x : List ℕ). x ++ c ≡ []) p q)
  behind_whole [] (k ∷ ks) b c p q =
      let (first, rest, whole, size, mine, more) = q in
      let is : c ≡ first ++ rest = ap (λ (x : List ℕ). x ++ c) (sym p) ∙ whole in
      inr (let low = five l anchors k first mine in let e = ap (length {A = ℕ}) is ∙ length-append first rest in omega arith)
  behind_whole (i ∷ is) js b c p q =
      let (first, rest, whole, size, mine, more) = p in
      let (first', rest', whole', size', mine', more') = q in
      let same : first ++ (rest ++ c) ≡ first' ++ rest' = sym (append_assoc first rest c) ∙ ap (λ (x : List ℕ). x ++ c) (sym whole) ∙ whole' in
      let long : length first ≡ length first' = omega arith in
      let parts = split first first' (rest ++ c) rest' long same in
      behind_whole is js rest c more (subst (λ (x : List ℕ). Spelled l anchors (is ++ js) x) (sym parts) more')
    where
      split : (a b x y : List ℕ) → length a ≡ length b → a ++ x ≡ b ++ y → x ≡ y
      split [] [] x y e f = f
      split [] (k ∷ ks) x y e f = absurd (omega arith)
      split (k ∷ ks) [] x y e f = absurd (omega arith)
      split (k ∷ ks) (j ∷ js) x y e f = split ks js x y (omega arith) (ap tail f)
        where
          tail : List ℕ → List ℕ
          tail [] = []
          tail (z ∷ zs) = zs

module _ (p : Plain) (K : List (Act Txn)) (h : Hidden) (g : Stands p K h) (j : ℕ) (there : j < p.load.streams) where
  -- what was handed out and what is here reach to where the stream is gathered
  pub body_long : (s : PlainStream) → slice_get p.streams j ≡ Some s → slice_index p.load.opening.ends j + (length (h.taken j) + length s.body) ≡ slice_index p.gathered j
  body_long s is =
      let o = g.inv.agrees.pieces.stream j there in
      ap (λ (n : ℕ). slice_index p.load.opening.ends j + n) (sym (length-append (h.taken j) s.body))
      ∙ spelled_long p.load (anchors_at p) (slice_index p.load.opening.ends j) (slice_index p.gathered j) (h.moved j) (h.taken j ++ s.body) o.moved (g.gathered j s is)
