-- Taken records that are kept flat.
use Rattle.std.proofs.Common.{ℕ, zero, suc, ◌<◌, ◌≡◌, List, get_or, [], ◌∷◌, ◌++◌, length, take, drop, map, refl, sym, ap, subst, ◌∙◌, arith, length-append, length-drop}
use Rattle.std.specs.Prelude.{Some, slice_get}
use Rattle.std.specs.List.{All}
use Rattle.std.proofs.Math.ListN.{set}
use Rattle.std.proofs.lemmas.List.{drop-append-le, map-append, length-map, take_all, take-append-le}
use Rattle.std.proofs.lemmas.List.Elements.{All-push}
use Rattle.std.proofs.lemmas.Option.{slice_get_read}
use Rattle.std.proofs.Math.Seq.{drop-append_seam}
use Rattle.tau_pool.specs.Item.{Item}
use Rattle.tau_pool.specs.declared.items.Row.{Row}
use Rattle.tau_pool.specs.Flat.{vector_of, item_at, IsRow}
use Rattle.tau_base.proofs.Logic.{some_is}

-- a vector stays where more positions come after it
vector_stays : (ps more : List ℕ) (r : Row) → IsRow ps r → vector_of (ps ++ more) r ≡ vector_of ps r
vector_stays ps more r is =
    let long = length-drop r.at ps in
    ap (take r.width) (drop-append-le r.at ps more (omega (arith, is.within)))
    ∙ take-append-le r.width (drop r.at ps) more (omega (arith, is.within, long))

item_stays : (ps more : List ℕ) (r : Row) → IsRow ps r → item_at (ps ++ more) r ≡ item_at ps r
item_stays ps more r is = let e = vector_stays ps more r is in λ i. record { stream = r.stream; index = r.index; start = r.start; dep = e i; stage = r.stage }

items_stay : (ps more : List ℕ) (rs : List Row) → All (IsRow ps) rs → map (item_at (ps ++ more)) rs ≡ map (item_at ps) rs
items_stay ps more [] all = refl
items_stay ps more (r ∷ rs) all =
    let here = item_stays ps more r (all 0 r (omega arith)) in
    let rest = items_stay ps more rs (λ k d lt. all (suc k) d (omega (arith, lt))) in
    λ i. here i ∷ rest i

row_stays : (ps more : List ℕ) (r : Row) → IsRow ps r → IsRow (ps ++ more) r
row_stays ps more r is = record { within = let h = is.within in let e = length-append ps more in omega (arith, h, e) }

-- the vector whose positions were put at the end
vector_put : (ps vs : List ℕ) (r : Row) → r.at ≡ length ps → r.width ≡ length vs → vector_of (ps ++ vs) r ≡ vs
vector_put ps vs r at wide =
    ap (λ (k : ℕ). take r.width (drop k (ps ++ vs))) at
    ∙ ap (take r.width) (drop-append_seam ps vs)
    ∙ take_all r.width vs (omega (arith, wide))

-- the record with this vector
abbrev pub with_vector : List ℕ → Row → Item
with_vector vs r = record { stream = r.stream; index = r.index; start = r.start; dep = vs; stage = r.stage }

pub items_put : (ps vs : List ℕ) (rs : List Row) (r : Row) → All (IsRow ps) rs → r.at ≡ length ps → r.width ≡ length vs
    → map (item_at (ps ++ vs)) (rs ++ r ∷ []) ≡ map (item_at ps) rs ++ with_vector vs r ∷ []
items_put ps vs rs r all at wide =
    let e = vector_put ps vs r at wide in
    map-append (item_at (ps ++ vs)) rs (r ∷ [])
    ∙ (λ i. items_stay ps vs rs all i ++ with_vector (e i) r ∷ [])

pub rows_put : (ps vs : List ℕ) (rs : List Row) (r : Row) → All (IsRow ps) rs → r.at ≡ length ps → r.width ≡ length vs → All (IsRow (ps ++ vs)) (rs ++ r ∷ [])
rows_put ps vs rs r all at wide = All-push (IsRow (ps ++ vs)) rs r (λ k d lt. row_stays ps vs _ (all k d lt))
    (record { within = let e = length-append ps vs in omega (arith, e, at, wide) })

-- ---- the record of a row

pub item_there : (ps : List ℕ) (rs : List Row) (i : ℕ) (r : Row) → slice_get rs i ≡ Some r → slice_get (map (item_at ps) rs) i ≡ Some (item_at ps r)
item_there ps [] i r is = absurd cc
item_there ps (q ∷ rs) zero r is = ap (λ (z : Row). Some (item_at ps z)) (some_is q r is)
item_there ps (q ∷ rs) (suc i) r is = item_there ps rs i r is

-- where the list is that of the rows, the record at the place of a row is that of the row
pub record Stands (xs : List Item) (ps : List ℕ) (i : ℕ) (r : Row) : Type 0 where
  pub there : slice_get xs i ≡ Some (item_at ps r)
  pub is : (x : Item) → slice_get xs i ≡ Some x → item_at ps r ≡ x
  pub row : IsRow ps r
  pub low : i < length xs

pub stands : (xs : List Item) (ps : List ℕ) (rs : List Row) (i : ℕ) (r : Row) → map (item_at ps) rs ≡ xs → All (IsRow ps) rs → i < length xs → r ≡ get_or rs i r → Stands xs ps i r
stands xs ps rs i r view all lt at =
    let long : length xs ≡ length rs = ap (λ (ys : List Item). length ys) (sym view) ∙ length-map rs (item_at ps) in
    let low : i < length rs = omega (arith, lt, long) in
    let here : slice_get rs i ≡ Some r = slice_get_read rs (length rs) i r refl low at in
    let there : slice_get xs i ≡ Some (item_at ps r) = subst (λ (ys : List Item). slice_get ys i ≡ Some (item_at ps r)) view (item_there ps rs i r here) in
    record {
      there = there;
      is = λ x is. some_is (item_at ps r) x (sym there ∙ is);
      row = subst (λ (q : Row). IsRow ps q) (sym at) (all i r low);
      low = lt;
    }

pub items_set : (ps : List ℕ) (rs : List Row) (i : ℕ) (r : Row) → map (item_at ps) (set rs i r) ≡ set (map (item_at ps) rs) i (item_at ps r)
items_set ps [] i r = refl
items_set ps (q ∷ rs) zero r = refl
items_set ps (q ∷ rs) (suc i) r = ap (λ (ys : List Item). item_at ps q ∷ ys) (items_set ps rs i r)
