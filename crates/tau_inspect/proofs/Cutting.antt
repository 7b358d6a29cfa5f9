-- Texts that are cut at a byte: there is one way.
use Rattle.std.proofs.Common.{ℕ, zero, suc, ◌+◌, ◌^◌, ◌<◌, ◌≤◌, ◌≡◌, ◌==◌, Bool, true, false, not, ◌&&◌, List, [], ◌∷◌, ◌++◌, length, take, drop, get_or, refl, sym, ap, ◌∙◌, append_assoc, arith}
use Rattle.std.specs.Fmt.{decimal}
use Rattle.std.proofs.lemmas.Bool.{both_ways, and_parts}
use Rattle.std.proofs.lemmas.Bool.Decides.{nat_tests}
use Rattle.tau_base.specs.declared.limits.TheConstants.{MAX_LSN}
use Rattle.std.proofs.Common.{◌%◌, add-one}
use Rattle.std.proofs.Math.ListN.{length-set}
use Rattle.std.specs.Prelude.{slice_set}
use Rattle.std.proofs.lemmas.Fmt.{decimal_by_steps}
use Rattle.std.proofs.lemmas.List.{take_more, take_more_set, take_all}
use Rattle.std.proofs.lemmas.List.Elements.{All-get_or}
use Rattle.tau_report.specs.Lines.{vector_text}
use Rattle.tau_inspect.specs.ReportFor.{IsVector}
use Rattle.tau_inspect.specs.Reading.{IsSmall}
use Rattle.tau_base.proofs.Lists.{split_at}
use Rattle.tau_inspect.specs.Parts.{lacks, commas, IsCut}
use Rattle.tau_inspect.proofs.ReadWords.{number_same}

pub position_bad : (word : List ℕ) (position : ℕ) → IsSmall position → decimal position ≡ word → MAX_LSN ≤ position → (p : ℕ) → p < MAX_LSN → decimal p ≡ word → ⊥
position_bad word position small is high p low e = (let same : p ≡ position = number_same p position word (omega (arith, low)) small e is in omega (arith, same, low, high))

-- two cuts of one text
pub cut_one : (byte : ℕ) (u v : List ℕ) (r s : List ℕ) → lacks byte u ≡ true → lacks byte v ≡ true → u ++ byte ∷ r ≡ v ++ byte ∷ s → (u ≡ v) × (r ≡ s)
cut_one byte [] [] r s a b e = (refl, cc)
cut_one byte [] (y ∷ v) r s a b e = absurd (let p = and_parts (not (y == byte)) (lacks byte v) b in let same : byte ≡ y = cc in let test : (y == byte) ≡ true = grind (arith, nat_tests) in not_both (y == byte) p.0 test)
  where
    not_both : (t : Bool) → not t ≡ true → t ≡ true → ⊥
    not_both true p q = both_ways false refl p
    not_both false p q = both_ways false refl q
cut_one byte (x ∷ u) [] r s a b e = absurd (let p = and_parts (not (x == byte)) (lacks byte u) a in let same : x ≡ byte = cc in let test : (x == byte) ≡ true = grind (arith, nat_tests) in not_both (x == byte) p.0 test)
  where
    not_both : (t : Bool) → not t ≡ true → t ≡ true → ⊥
    not_both true p q = both_ways false refl p
    not_both false p q = both_ways false refl q
cut_one byte (x ∷ u) (y ∷ v) r s a b e =
    let p = and_parts (not (x == byte)) (lacks byte u) a in let q = and_parts (not (y == byte)) (lacks byte v) b in
    let first : x ≡ y = cc in
    let rest : u ++ byte ∷ r ≡ v ++ byte ∷ s = cc in
    let w = cut_one byte u v r s p.1 q.1 rest in
    ((λ i. first i ∷ w.0 i), w.1)

-- a text that is cut does not lack the byte
pub cut_lacks : (byte : ℕ) (u r : List ℕ) → lacks byte (u ++ byte ∷ r) ≡ true → ⊥
cut_lacks byte [] r e = (let p = and_parts (not (byte == byte)) (lacks byte r) e in let test : (byte == byte) ≡ true = grind (arith, nat_tests) in not_both (byte == byte) p.0 test)
  where
    not_both : (t : Bool) → not t ≡ true → t ≡ true → ⊥
    not_both true p q = both_ways false refl p
    not_both false p q = both_ways false refl q
cut_lacks byte (x ∷ u) r e = cut_lacks byte u r (and_parts (not (x == byte)) (lacks byte (u ++ byte ∷ r)) e).1

-- a number has only digits
pub lacks_append : (byte : ℕ) (u v : List ℕ) → lacks byte u ≡ true → lacks byte v ≡ true → lacks byte (u ++ v) ≡ true
lacks_append byte [] v a b = b
lacks_append byte (x ∷ u) v a b = let p = and_parts (not (x == byte)) (lacks byte u) a in rw (p.0, lacks_append byte u v p.1 b) refl

-- one byte more is another one
pub lacks_more : (byte i j : ℕ) (text : List ℕ) → j ≡ i + 1 → i < length text → lacks byte (take i text) ≡ true → (get_or text i 0 == byte) ≡ false → lacks byte (take j text) ≡ true
lacks_more byte i j text next lt none other =
    let here : lacks byte (get_or text i 0 ∷ []) ≡ true = ap (λ (t : Bool). not t && true) other in
    ap (λ (k : ℕ). lacks byte (take k text)) next ∙ ap (lacks byte) (take_more text i 0 lt) ∙ lacks_append byte (take i text) (get_or text i 0 ∷ []) none here

-- it stands here first
pub cut_here : (byte i : ℕ) (text : List ℕ) → i < length text → lacks byte (take i text) ≡ true → (get_or text i 0 == byte) ≡ true → IsCut byte text i
cut_here byte i text lt none here =
    let same : get_or text i 0 ≡ byte = grind (arith, nat_tests) in
    record { within = lt; split = split_at text i lt ∙ ap (λ (b : ℕ). take i text ++ b ∷ drop (i + 1) text) same; first = none }

digit_lacks : (byte d : ℕ) → byte < 48 → lacks byte ((48 + d) ∷ []) ≡ true
digit_lacks byte d low = (let test : ((48 + d) == byte) ≡ false = grind (arith, nat_tests) in rw test refl)

pub decimal_lacks : (byte n : ℕ) → byte < 48 → n < 2 ^ 64 → lacks byte (decimal n) ≡ true
decimal_lacks byte n low small = decimal_by_steps (λ m ds. lacks byte ds ≡ true) (λ m lt. digit_lacks byte m low) (λ m ds ge h. lacks_append byte ds ((48 + m % 10) ∷ []) h (digit_lacks byte (m % 10) low)) n small

-- ---- the text of a vector

pub last_told : (xs : List ℕ) (p : ℕ) → vector_text (xs ++ p ∷ []) ≡ commas xs ++ decimal p
last_told [] p = refl
last_told (x ∷ []) p = sym (append_assoc (decimal x) (44 ∷ []) (decimal p))
last_told (x ∷ y ∷ xs) p = ap (λ (l : List ℕ). decimal x ++ 44 ∷ l) (last_told (y ∷ xs) p) ∙ sym (append_assoc (decimal x) (44 ∷ commas (y ∷ xs)) (decimal p))

pub commas_push : (xs : List ℕ) (p : ℕ) → commas (xs ++ p ∷ []) ≡ commas xs ++ (decimal p ++ 44 ∷ [])
commas_push [] p = refl
commas_push (x ∷ xs) p = ap (λ (l : List ℕ). decimal x ++ 44 ∷ l) (commas_push xs p) ∙ sym (append_assoc (decimal x) (44 ∷ commas xs) (decimal p ++ 44 ∷ []))

pub next_told : (v : List ℕ) (j : ℕ) → suc j < length v → vector_text (drop j v) ≡ decimal (get_or v j 0) ++ 44 ∷ vector_text (drop (suc j) v)
next_told [] j lt = absurd (omega (arith, lt))
next_told (x ∷ []) j lt = absurd (omega (arith, lt))
next_told (x ∷ y ∷ v) zero lt = refl
next_told (x ∷ y ∷ v) (suc j) lt = next_told (y ∷ v) j (omega (arith, lt))

pub end_told : (v : List ℕ) (j : ℕ) → suc j ≡ length v → vector_text (drop j v) ≡ decimal (get_or v j 0)
end_told [] j e = absurd (omega (arith, e))
end_told (x ∷ []) zero e = refl
end_told (x ∷ []) (suc j) e = absurd (omega (arith, e))
end_told (x ∷ y ∷ v) zero e = absurd (omega (arith, e))
end_told (x ∷ y ∷ v) (suc j) e = end_told (y ∷ v) j (omega (arith, e))

-- what is read up to component j, and that it can be nothing else
module _ (n : ℕ) (text : List ℕ) where
  pub record ReadTo (j : ℕ) (lv rest : List ℕ) : Type 0 where
    pub long : length lv ≡ n
    pub told : text ≡ commas (take j lv) ++ rest
    pub one : (v : List ℕ) → IsVector n v → vector_text v ≡ text → (take j v ≡ take j lv) × (vector_text (drop j v) ≡ rest)

  pub read_none : (lv : List ℕ) → length lv ≡ n → ReadTo 0 lv text
  read_none lv long = record { long = long; told = refl; one = λ v is e. (refl, e) }

  small_at : (v : List ℕ) (j : ℕ) → IsVector n v → j < n → get_or v j 0 < MAX_LSN
  small_at v j is lt = All-get_or (λ p. p < MAX_LSN) v j 0 (omega (arith, lt, is.long)) is.small

  -- a component that is none
  pub next_bad : (j : ℕ) (lv rest : List ℕ) → suc j < n → ReadTo j lv rest → ((p : ℕ) (more : List ℕ) → p < MAX_LSN → rest ≡ decimal p ++ 44 ∷ more → ⊥) → (v : List ℕ) → IsVector n v → vector_text v ≡ text → ⊥
  next_bad j lv rest lt r bad v is e =
      bad (get_or v j 0) (vector_text (drop (suc j) v)) (small_at v j is (omega (arith, lt))) (sym ((r.one v is e).1) ∙ next_told v j (omega (arith, lt, is.long)))

  pub last_bad : (j : ℕ) (lv rest : List ℕ) → suc j ≡ n → ReadTo j lv rest → ((p : ℕ) → p < MAX_LSN → decimal p ≡ rest → ⊥) → (v : List ℕ) → IsVector n v → vector_text v ≡ text → ⊥
  last_bad j lv rest same r bad v is e =
      bad (get_or v j 0) (small_at v j is (omega (arith, same))) (sym (end_told v j (omega (arith, same, is.long))) ∙ (r.one v is e).1)

  taken : (j p : ℕ) (v lv : List ℕ) → j < length v → j < length lv → take j v ≡ take j lv → get_or v j 0 ≡ p → take (j + 1) v ≡ take (j + 1) (slice_set lv j p)
  taken j p v lv a b same is = take_more v j 0 a ∙ ap (λ (l : List ℕ). l ++ get_or v j 0 ∷ []) same ∙ ap (λ (q : ℕ). take j lv ++ q ∷ []) is ∙ sym (take_more_set lv j p b)

  pub next_read : (j p : ℕ) (lv rest more : List ℕ) → suc j < n → ReadTo j lv rest → p < MAX_LSN → rest ≡ decimal p ++ 44 ∷ more → ReadTo (j + 1) (slice_set lv j p) more
  next_read j p lv rest more lt r small is = record {
    long = length-set lv j p ∙ r.long;
    told =
        r.told ∙ ap (λ (l : List ℕ). commas (take j lv) ++ l) (is ∙ sym (append_assoc (decimal p) (44 ∷ []) more)) ∙ sym (append_assoc (commas (take j lv)) (decimal p ++ 44 ∷ []) more)
        ∙ ap (λ (l : List ℕ). l ++ more) (sym (commas_push (take j lv) p) ∙ ap commas (sym (take_more_set lv j p (omega (arith, lt, r.long)))));
    one = λ v h e.
        let w = r.one v h e in
        let spelled : decimal (get_or v j 0) ++ 44 ∷ vector_text (drop (suc j) v) ≡ decimal p ++ 44 ∷ more = sym (next_told v j (omega (arith, lt, h.long))) ∙ w.1 ∙ is in
        let low = small_at v j h (omega (arith, lt)) in
        let cut = cut_one 44 (decimal (get_or v j 0)) (decimal p) (vector_text (drop (suc j) v)) more (decimal_lacks 44 (get_or v j 0) (omega arith) (omega (arith, low))) (decimal_lacks 44 p (omega arith) (omega (arith, small))) spelled in
        let same : get_or v j 0 ≡ p = number_same (get_or v j 0) p (decimal p) (omega (arith, low)) (omega (arith, small)) cut.0 refl in
        (taken j p v lv (omega (arith, lt, h.long)) (omega (arith, lt, r.long)) w.0 same, ap (λ (k : ℕ). vector_text (drop k v)) (add-one j) ∙ cut.1);
  }

  pub last_read : (j p : ℕ) (lv rest : List ℕ) → suc j ≡ n → ReadTo j lv rest → decimal p ≡ rest → vector_text (slice_set lv j p) ≡ text
  last_read j p lv rest same r is =
      let b : j < length lv = omega (arith, same, r.long) in
      let whole : slice_set lv j p ≡ take j lv ++ p ∷ [] = sym (take_all (j + 1) (slice_set lv j p) (omega (arith, same, r.long, length-set lv j p))) ∙ take_more_set lv j p b in
      ap vector_text whole ∙ last_told (take j lv) p ∙ ap (λ (l : List ℕ). commas (take j lv) ++ l) is ∙ sym r.told
