-- The pieces of a source.
use Rattle.std.proofs.Common.{ℕ, suc, ◌≡◌, ◌≤◌, ◌<◌, ◌+◌, ◌^◌, ◌-◌, ◌⊎◌, inl, inr, List, [], ◌∷◌, ◌++◌, length, take, drop, get_or, refl, sym, ◌∙◌, ap, subst, arith, append_assoc, length-append, length-drop}
use Rattle.std.specs.Int.{w32, from_be_bytes}
use Rattle.std.specs.List.{All, flat_map}
use Rattle.std.proofs.lemmas.Nat.{from_be_bytes-to_be_bytes_4}
use Rattle.std.proofs.lemmas.Grind.{flat_map-append}
use Rattle.std.proofs.lemmas.List.{take-append-drop, append-nil, take_all, take_at, drop_at, length-take-le}
use Rattle.std.proofs.lemmas.List.Elements.{All-append, All-cons, All-nil}
use Rattle.tau_base.specs.declared.limits.TheConstants.{MAX_WORKLOAD}
use Rattle.tau_follow_laws.specs.Feeding.{Piece}
use Rattle.tau_commands.specs.Sources.{piece_text, IsPiece, NoPiece, BeginsWith, ArePieces, HasPieces, HasBadPiece}

-- ---- a text begins with one piece

abbrev piece : ℕ → List ℕ → Piece
piece stream bytes = record { stream = stream; bytes = bytes }

same_piece : (p q : Piece) → p.stream ≡ q.stream → p.bytes ≡ q.bytes → p ≡ q
same_piece p q h g = ap (λ (s : ℕ). piece s p.bytes) h ∙ ap (λ (b : List ℕ). piece q.stream b) g

pub one_piece : (p q : Piece) (x y : List ℕ) → length (piece_text p ++ x) < 2 ^ 32 → piece_text p ++ x ≡ piece_text q ++ y → (p ≡ q) × (x ≡ y)
one_piece p q x y short e =
    let long : length (piece_text p ++ x) ≡ length (piece_text q ++ y) = ap length e in
    let a : length p.bytes < 2 ^ 32 = omega (arith, length-append p.bytes x) in
    let b : length q.bytes < 2 ^ 32 = omega (arith, length-append q.bytes y) in
    let stream : p.stream ≡ q.stream = ap (λ (l : List ℕ). get_or l 0 0) e in
    let size : length p.bytes ≡ length q.bytes =
    sym (from_be_bytes-to_be_bytes_4 (length p.bytes) a)
    ∙ ap (λ (l : List ℕ). from_be_bytes w32 (get_or l 1 0 ∷ get_or l 2 0 ∷ get_or l 3 0 ∷ get_or l 4 0 ∷ [])) e
    ∙ from_be_bytes-to_be_bytes_4 (length q.bytes) b in
    let rest : p.bytes ++ x ≡ q.bytes ++ y = ap (λ (l : List ℕ). drop 5 l) e in
    let bytes : p.bytes ≡ q.bytes = sym (take_at p.bytes x (length p.bytes) refl) ∙ ap (λ (l : List ℕ). take (length p.bytes) l) rest ∙ take_at q.bytes y (length p.bytes) (sym size) in
    let after : x ≡ y = sym (drop_at p.bytes x (length p.bytes) refl) ∙ ap (λ (l : List ℕ). drop (length p.bytes) l) rest ∙ drop_at q.bytes y (length p.bytes) (sym size) in
    (same_piece p q stream bytes, after)

-- ---- a text is pieces in one way

abbrev texts : List Piece → List ℕ
texts ps = flat_map piece_text ps

-- the first list goes on in the second, by these pieces
record GoesOn (ps qs : List Piece) (x y : List ℕ) : Type 0 where
  next : Piece
  more : List Piece
  pieces : qs ≡ ps ++ next ∷ more
  text : x ≡ piece_text next ++ (texts more ++ y)

abbrev Split : List Piece → List Piece → List ℕ → List ℕ → Type 0
Split ps qs x y = ((ps ≡ qs) × (x ≡ y)) ⊎ (GoesOn ps qs x y ⊎ GoesOn qs ps y x)

split : (ps qs : List Piece) (x y : List ℕ) → length (texts ps ++ x) < 2 ^ 32 → texts ps ++ x ≡ texts qs ++ y → Split ps qs x y
split [] [] x y short e = inl (refl, e)
split [] (q ∷ qs) x y short e = inr (inl (record { next = q; more = qs; pieces = refl; text = e ∙ append_assoc (piece_text q) (texts qs) y }))
split (p ∷ ps) [] x y short e = inr (inr (record { next = p; more = ps; pieces = refl; text = sym e ∙ append_assoc (piece_text p) (texts ps) x }))
split (p ∷ ps) (q ∷ qs) x y short e =
    let whole : piece_text p ++ (texts ps ++ x) ≡ piece_text q ++ (texts qs ++ y) = sym (append_assoc (piece_text p) (texts ps) x) ∙ e ∙ append_assoc (piece_text q) (texts qs) y in
    let long : length (piece_text p ++ (texts ps ++ x)) ≡ length ((piece_text p ++ texts ps) ++ x) = ap length (sym (append_assoc (piece_text p) (texts ps) x)) in
    let one = one_piece p q (texts ps ++ x) (texts qs ++ y) (omega (arith, long)) whole in
    elim (split ps qs x y (omega (arith, long, length-append (piece_text p) (texts ps ++ x))) one.1) [
      | inl same ↦ inl (ap (λ (r : Piece). r ∷ ps) one.0 ∙ ap (λ (l : List Piece). q ∷ l) same.0, same.1)
      | inr (inl on) ↦ inr (inl (record { next = on.next; more = on.more; pieces = ap (λ (r : Piece). r ∷ qs) (sym one.0) ∙ ap (λ (l : List Piece). p ∷ l) on.pieces; text = on.text }))
      | inr (inr on) ↦ inr (inr (record { next = on.next; more = on.more; pieces = ap (λ (r : Piece). r ∷ ps) one.0 ∙ ap (λ (l : List Piece). q ∷ l) on.pieces; text = on.text }))
    ]

in_middle : (n : ℕ) (ps qs : List Piece) (p : Piece) → All (IsPiece n) (ps ++ p ∷ qs) → IsPiece n p
in_middle n [] qs p all = all 0 p (omega arith)
in_middle n (r ∷ ps) qs p all = in_middle n ps qs p (λ k d lt. all (suc k) d (omega arith))

whole_text : (n : ℕ) (ps : List Piece) (text : List ℕ) → ArePieces n ps text → text ≡ texts ps ++ []
whole_text n ps text are = are.1 ∙ sym (append-nil (texts ps))

pub not_nil : (p : Piece) (x : List ℕ) → [] ≡ piece_text p ++ x → ⊥
not_nil p x e = let long : length {A = ℕ} [] ≡ length (piece_text p ++ x) = ap length e in omega (arith, long)

pub one_pieces : (n : ℕ) (text : List ℕ) (ps qs : List Piece) → HasPieces n text ps → HasPieces n text qs → ps ≡ qs
one_pieces n text ps qs a b =
    let one = whole_text n ps text a.1 in
    let other = whole_text n qs text b.1 in
    elim (split ps qs [] [] (omega (arith, a.0, ap length one)) (sym one ∙ other)) [
      | inl same ↦ same.0
      | inr (inl on) ↦ absurd (not_nil on.next (texts on.more ++ []) on.text)
      | inr (inr on) ↦ absurd (not_nil on.next (texts on.more ++ []) on.text)
    ]

bad_text : (n : ℕ) (text : List ℕ) (at : ℕ) → (b : HasBadPiece n text at) → text ≡ texts b.pieces ++ b.rest
bad_text n text at b = b.whole ∙ ap (λ (l : List ℕ). l ++ b.rest) b.before.1

pub not_both : (n : ℕ) (text : List ℕ) (at : ℕ) (ps : List Piece) → HasBadPiece n text at → HasPieces n text ps → ⊥
not_both n text at ps b a =
    let one = bad_text n text at b in
    let other = whole_text n ps text a.1 in
    elim (split b.pieces ps b.rest [] (omega (arith, b.within, ap length one)) (sym one ∙ other)) [
      | inl same ↦ b.more same.1
      | inr (inl on) ↦ b.none on.next (texts on.more ++ []) (in_middle n b.pieces on.more on.next (subst (All (IsPiece n)) on.pieces a.1.0)) on.text
      | inr (inr on) ↦ not_nil on.next (texts on.more ++ b.rest) on.text
    ]

pub one_bad : (n : ℕ) (text : List ℕ) (at other : ℕ) → HasBadPiece n text at → HasBadPiece n text other → at ≡ other
one_bad n text at other a b =
    let first = bad_text n text at a in
    let second = bad_text n text other b in
    elim (split a.pieces b.pieces a.rest b.rest (omega (arith, a.within, ap length first)) (sym first ∙ second)) [
      | inl same ↦ sym a.place ∙ ap length a.before.1 ∙ ap (λ (ps : List Piece). length (texts ps)) same.0 ∙ ap length (sym b.before.1) ∙ b.place
      | inr (inl on) ↦ absurd (a.none on.next (texts on.more ++ b.rest) (in_middle n a.pieces on.more on.next (subst (All (IsPiece n)) on.pieces b.before.0)) on.text)
      | inr (inr on) ↦ absurd (b.none on.next (texts on.more ++ a.rest) (in_middle n b.pieces on.more on.next (subst (All (IsPiece n)) on.pieces a.before.0)) on.text)
    ]

-- ---- pieces up to a place

pub record Pieced (n : ℕ) (text : List ℕ) (at : ℕ) : Type 0 where
  pub within : at ≤ length text
  pub pieces : List Piece
  pub before : ArePieces n pieces (take at text)

pub more_pieced : (n : ℕ) (text : List ℕ) (at : ℕ) (p : Piece) → Pieced n text at → BeginsWith n (drop at text) p → Pieced n text (at + (5 + length p.bytes))
more_pieced n text at p h b =
    let k = 5 + length p.bytes in
    let front : take at text ++ (piece_text p ++ drop k (drop at text)) ≡ text = ap (λ (l : List ℕ). take at text ++ l) (sym b.front) ∙ take-append-drop at text in
    let assoc : (take at text ++ piece_text p) ++ drop k (drop at text) ≡ text = append_assoc (take at text) (piece_text p) (drop k (drop at text)) ∙ front in
    let size : length (take at text ++ piece_text p) ≡ at + k = omega (arith, length-append (take at text) (piece_text p), length-take-le at text h.within) in
    let taken : take (at + k) text ≡ take at text ++ piece_text p = ap (λ (l : List ℕ). take (at + k) l) (sym assoc) ∙ take_at (take at text ++ piece_text p) (drop k (drop at text)) (at + k) size in
    record {
      within = omega (arith, size, ap length assoc, length-append (take at text ++ piece_text p) (drop k (drop at text)));
      pieces = h.pieces ++ p ∷ [];
      before = (
        All-append (IsPiece n) h.pieces (p ∷ []) h.before.0 (All-cons (IsPiece n) p [] b.piece (All-nil (IsPiece n))),
        taken ∙ ap (λ (l : List ℕ). l ++ piece_text p) h.before.1 ∙ ap (λ (l : List ℕ). texts h.pieces ++ l) (sym (append-nil (piece_text p))) ∙ sym (flat_map-append piece_text h.pieces (p ∷ [])),
      );
    }

pub bad_pieced : (n : ℕ) (text : List ℕ) (at : ℕ) → Pieced n text at → length text ≤ MAX_WORKLOAD → at < length text → NoPiece n (drop at text) → HasBadPiece n text at
bad_pieced n text at h within lt none = record {
  within = within;
  pieces = h.pieces;
  front = take at text;
  rest = drop at text;
  before = h.before;
  whole = sym (take-append-drop at text);
  place = length-take-le at text h.within;
  more = λ e. omega (arith, lt, length-drop at text, ap length e);
  none = none;
}

-- the bytes from a place on, as the code takes them
pub rest_all : (text : List ℕ) (at : ℕ) → at ≤ length text → take (length text - at) (drop at text) ≡ drop at text
rest_all text at le = take_all (length text - at) (drop at text) (omega (arith, length-drop at text))
