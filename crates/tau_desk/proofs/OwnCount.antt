-- The records that a manager has not gathered, with how many bytes they have.
use Rattle.std.proofs.Common.{◌≡◌, ℕ, ◌+◌, ◌-◌, ◌≤◌, List, [], ◌∷◌, ◌++◌, length, refl, ap, subst, arith, length-append}
use Rattle.tau_outbox.specs.declared.Piece.{Piece}
use Rattle.tau_outbox.specs.Gather.{Gathers}
use Rattle.tau_outbox.specs.Pieces.{bytes_of, end_of, past_of}
use Rattle.tau_desk.specs.Shares.{AreCounted, HaveBytes}

bytes_split : (xs ys : List Piece) → length (bytes_of (xs ++ ys)) ≡ length (bytes_of xs) + length (bytes_of ys)
bytes_split [] ys = omega arith
bytes_split (x ∷ xs) ys =
    let rest = bytes_split xs ys in
    let all = length-append x.bytes (bytes_of (xs ++ ys)) in
    let front = length-append x.bytes (bytes_of xs) in
    omega (arith, rest, all, front)

have_last : (xs : List Piece) (p : Piece) → HaveBytes xs → 1 ≤ length p.bytes → HaveBytes (xs ++ p ∷ [])
have_last [] p h some = (some, tt)
have_last (x ∷ xs) p h some = (h.0, have_last xs p h.1 some)

have_left : (taken left : List Piece) → HaveBytes (taken ++ left) → HaveBytes left
have_left [] left h = h
have_left (x ∷ taken) left h = have_left taken left h.1

end_last : (low : ℕ) (xs : List Piece) (p : Piece) → end_of low (xs ++ p ∷ []) ≡ past_of p
end_last low [] p = refl
end_last low (x ∷ xs) p = end_last (past_of x) xs p

-- where records are left, they end as before
end_left : (low : ℕ) (taken : List Piece) (p : Piece) (ps : List Piece) → end_of low (taken ++ p ∷ ps) ≡ end_of (past_of p) ps
end_left low [] p ps = refl
end_left low (x ∷ taken) p ps = end_left (past_of x) taken p ps

pub counted_more : (n start : ℕ) (bytes : List ℕ) (pieces : List Piece) → AreCounted n pieces → end_of 0 pieces ≤ start → 1 ≤ length bytes → AreCounted (n + length bytes) (pieces ++ record { start = start; bytes = bytes } ∷ [])
counted_more n start bytes pieces h order some =
    let p : Piece = record { start = start; bytes = bytes } in
    let all = bytes_split pieces (p ∷ []) in
    let own = length-append bytes (bytes_of []) in
    let was = h.all in
    let within = h.within in
    let end = end_last 0 pieces p in record {
      all = omega (arith, all, own, was);
      each = have_last pieces p h.each some;
      within = omega (arith, within, order, end);
    }

pub moved_few : (n next past : ℕ) (pieces left : List Piece) (body longer : List ℕ) → AreCounted n pieces → Gathers next pieces left body longer past → length longer - length body ≤ n
moved_few n next past pieces left body longer h g =
    let was = h.all in
    let whole = ap (λ (ps : List Piece). length (bytes_of ps)) g.front in
    let parts = bytes_split g.taken left in
    let moved = ap (λ (xs : List ℕ). length xs) g.bytes in
    let long = length-append body (bytes_of g.taken) in
    omega (arith, was, whole, parts, moved, long)

pub counted_less : (n next past : ℕ) (pieces left : List Piece) (body longer : List ℕ) → AreCounted n pieces → Gathers next pieces left body longer past → AreCounted (n - (length longer - length body)) left
counted_less n next past pieces left body longer h g =
    let was = h.all in
    let whole = ap (λ (ps : List Piece). length (bytes_of ps)) g.front in
    let parts = bytes_split g.taken left in
    let moved = ap (λ (xs : List ℕ). length xs) g.bytes in
    let long = length-append body (bytes_of g.taken) in
    let is : n - (length longer - length body) ≡ length (bytes_of left) = omega (arith, was, whole, parts, moved, long) in record {
      all = is;
      each = have_left g.taken left (subst HaveBytes g.front h.each);
      within = rest left is (let w = h.within in let e = ap (end_of 0) g.front in omega (arith, w, e));
    }
  where
    rest : (ps : List Piece) → n - (length longer - length body) ≡ length (bytes_of ps) → n ≤ end_of 0 (g.taken ++ ps) → n - (length longer - length body) ≤ end_of 0 ps
    rest [] is within = omega (arith, is)
    rest (p ∷ ps) is within = (let e = end_left 0 g.taken p ps in omega (arith, within, e))

pub counted_empty : (n : ℕ) (pieces : List Piece) → AreCounted n pieces → n ≡ 0 → pieces ≡ []
counted_empty n pieces h zero = none pieces h.each (let all = h.all in omega (arith, all, zero))
  where
    none : (ps : List Piece) → HaveBytes ps → length (bytes_of ps) ≡ 0 → ps ≡ []
    none [] each e = refl
    none (p ∷ ps) each e = absurd (let some = each.0 in let long = length-append p.bytes (bytes_of ps) in omega (arith, some, long, e))
