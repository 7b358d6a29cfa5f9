-- Pieces, their items and their bytes.
use Rattle.std.proofs.Common.{ℕ, ◌+◌, ◌<◌, ◌≤◌, ◌≡◌, inl, inr, List, [], ◌∷◌, ◌++◌, length, refl, sym, ap, subst, ◌∙◌, append_assoc, arith, length-append}
use Rattle.tau_model.specs.History.{Member}
use Rattle.tau_shard.specs.Shard.{at}
use Rattle.tau_machine.specs.State.{Item, start_of, past_of}
use Rattle.tau_machine.specs.Pieces.{Chain}
use Rattle.tau_machine.proofs.Pieces.{chain_low}
use Rattle.tau_base.specs.declared.limits.TheConstants.{MAX_BODY}
use Rattle.tau_outbox.specs.declared.Piece.{Piece}
use Rattle.tau_outbox.specs.Pieces.{PlainOutbox, bytes_of}
use Rattle.tau_outbox.specs.Gather.{Continues, Stops, Gathers}
use Rattle.tau_core.specs.declared.state.Load.{Load}
use Rattle.tau_core.specs.Pieces.{IsPieceOf, Paired, Spelled}
use Rattle.tau_core.specs.Gather.{Moves}

-- a front of pieces belongs to a front of items
pub record Split {A B : Type 0} (R : A → B → Type 0) (xs ys : List A) (zs : List B) : Type 0 where
  pub front : List B
  pub back : List B
  pub is : zs ≡ front ++ back
  pub fronts : Paired R xs front
  pub backs : Paired R ys back

pub paired_split : {A B : Type 0} (R : A → B → Type 0) (xs ys : List A) (zs : List B) → Paired R (xs ++ ys) zs → Split R xs ys zs
paired_split R [] ys zs q = record { front = []; back = zs; is = refl; fronts = tt; backs = q }
paired_split R (x ∷ xs) ys [] q = absurd q
paired_split R (x ∷ xs) ys (z ∷ zs) q =
    let more = paired_split R xs ys zs q.1 in
    record { front = z ∷ more.front; back = more.back; is = ap (λ l. z ∷ l) more.is; fronts = (q.0, more.fronts); backs = more.backs }

pub paired_append : {A B : Type 0} (R : A → B → Type 0) (xs ys : List A) (zs us : List B) → Paired R xs zs → Paired R ys us → Paired R (xs ++ ys) (zs ++ us)
paired_append R [] ys [] us p q = q
paired_append R [] ys (z ∷ zs) us p q = absurd p
paired_append R (x ∷ xs) ys [] us p q = absurd p
paired_append R (x ∷ xs) ys (z ∷ zs) us p q = (p.0, paired_append R xs ys zs us p.1 q)

module _ (l : Load) (anchors : ℕ → List (List ℕ)) where
  -- pieces that continue a position are a chain of items
  pub chain_of : (n : ℕ) (pieces : List Piece) (items : List Item) → Continues n pieces → Paired (IsPieceOf l anchors) pieces items → ((i : Item) → Member i items → start_of i < past_of i) →
      Chain n items (n + length (bytes_of pieces))
  chain_of n [] [] c q up = (let e : n ≡ n + 0 = omega arith in e)
  chain_of n [] (i ∷ is) c q up = absurd q
  chain_of n (p ∷ ps) [] c q up = absurd q
  chain_of n (p ∷ ps) (i ∷ is) c q up =
      let start : start_of i ≡ n = sym q.0.start ∙ c.0 in
      let past : n + length p.bytes ≡ past_of i = ap (λ (m : ℕ). m + length p.bytes) (sym c.0) ∙ q.0.past in
      let here = up i (inl refl) in
      let rest = chain_of (n + length p.bytes) ps is c.1 q.1 (λ k m. up k (inr m)) in
      let sum : (n + length p.bytes) + length (bytes_of ps) ≡ n + length (p.bytes ++ bytes_of ps) = (let e = length-append p.bytes (bytes_of ps) in omega arith) in
      (start, (omega arith), subst (λ (m : ℕ). Chain (past_of i) is m) sum (subst (λ (m : ℕ). Chain m is ((n + length p.bytes) + length (bytes_of ps))) past rest))

  -- their bytes spell the items
  pub spelled_pieces : (pieces : List Piece) (items : List Item) → Paired (IsPieceOf l anchors) pieces items → Spelled l anchors items (bytes_of pieces)
  spelled_pieces [] [] q = refl
  spelled_pieces [] (i ∷ is) q = absurd q
  spelled_pieces (p ∷ ps) [] q = absurd q
  spelled_pieces (p ∷ ps) (i ∷ is) q = (p.bytes, bytes_of ps, refl, ap (λ (m : ℕ). m + length p.bytes) (sym q.0.start) ∙ q.0.past, q.0.bytes, spelled_pieces ps is q.1)

  pub spelled_append : (is js : List Item) (b c : List ℕ) → Spelled l anchors is b → Spelled l anchors js c → Spelled l anchors (is ++ js) (b ++ c)
  spelled_append [] js b c p q = subst (λ (x : List ℕ). Spelled l anchors js (x ++ c)) (sym p) q
  spelled_append (i ∷ is) js b c p q =
      let (first, rest, whole, size, bytes, more) = p in
      (first, rest ++ c, ap (λ (x : List ℕ). x ++ c) whole ∙ append_assoc first rest c, size, bytes, spelled_append is js rest c more q)

-- a chain that goes nowhere is empty
pub chain_still : (n : ℕ) (items : List Item) → Chain n items n → items ≡ []
chain_still n [] c = refl
chain_still n (i ∷ is) c = absurd (let low = chain_low (past_of i) n is c.2 in let up = c.1 in omega arith)

-- a body keeps within its limit
pub moved_within : (next : ℕ) (before after : PlainOutbox) (body longer : List ℕ) → Moves next before after body longer → length body ≤ MAX_BODY → length longer ≤ MAX_BODY
moved_within next before after body longer m small = elim m.fits [
  | inl none ↦ (let e = ap (length {A = ℕ}) m.bytes ∙ length-append body (bytes_of m.taken) in let f : length (bytes_of m.taken) ≡ 0 = ap (λ l. length (bytes_of l)) none in omega arith)
  | inr within ↦ within
]

-- what an outbox gives away
abbrev pub moves_of : (next at : ℕ) (before after : PlainOutbox) (body longer : List ℕ) (answer : ℕ) → at ≡ next → Gathers at before.pieces after.pieces body longer answer → before.room ≤ after.room →
    Moves next before after body longer
moves_of next at before after body longer answer e q room = record {
  taken = q.taken;
  front = q.front;
  continues = subst (λ (n : ℕ). Continues n q.taken) e q.continues;
  bytes = q.bytes;
  fits = q.fits;
  stops = subst (λ (n : ℕ). Stops n (length longer) after.pieces) (q.past ∙ ap (λ (n : ℕ). n + length (bytes_of q.taken)) e) q.stops;
  room = room;
}
