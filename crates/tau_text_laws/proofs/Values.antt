-- The spelling of literals, operands, comparisons and turns.
use Rattle.std.proofs.Common.{◌≡◌, ℕ, ◌-◌, ◌==◌, Bool, true, false, cond, ◌&&◌, ◌||◌, nat_lt, List, [], ◌∷◌, ◌++◌, length, take, drop, Option, Some, Result, Ok, Err, IsUtf8, bytes_eq, codes, refl, sym, ap, ◌∙◌, subst, inl, inr, arith}
use Rattle.std.proofs.lemmas.Bool.{and_parts}
use Rattle.std.proofs.lemmas.List.{take-append-drop}
use Rattle.std.proofs.lemmas.Slice.Eq.{bytes_eq-Decides}
use Rattle.std.proofs.lemmas.Bool.Decides.{Decides-eqb}
use Rattle.std.proofs.lemmas.Str.{IsUtf8-from_is_utf8}
use Rattle.std.specs.List.{list_all}
use Rattle.std.specs.Str.{is_utf8}
use Rattle.tau_base.specs.declared.limits.TheConstants.{MAX_TEXT, TURN_ACTORS}
use Rattle.tau_base.specs.declared.value.Value.{Value}
use Rattle.tau_base.specs.declared.value.Value.TheVariants as values
use Rattle.tau_proc.specs.declared.step.Operand.{Operand}
use Rattle.tau_proc.specs.declared.step.Operand.TheVariants as operands
use Rattle.tau_proc.specs.declared.step.Compare.{Compare}
use Rattle.tau_proc.specs.declared.step.Compare.TheVariants as compares
use Rattle.tau_text.specs.declared.load.Turn.{Turn}
use Rattle.tau_text.specs.declared.load.Turn.TheVariants as turns
use Rattle.tau_text.specs.declared.fault.TextCause.{TextCause}
use Rattle.tau_text.specs.declared.fault.TextCause.TheVariants.{BadStep, TooMany}
use Rattle.tau_text.specs.Given.{◌>>=◌, or_else}
use Rattle.tau_text.specs.Canonical.{value_word, text_word, operand_word, compare_word, turn_word}
use Rattle.tau_text.specs.Spelled.{is_digit, is_text_byte, whole, index, unquoted, short, quoted, literal, register, argument, constant, begins_with, operand, compare, turn}
use Rattle.tau_text_laws.proofs.Unique.{taken, unless_bad, was_some, IsPlain, IsWord, lettered, whole_spells, index_spells, register_spells, argument_spells}
use Rattle.tau_text.proofs.Binds.{bind_ok}

-- ---- texts

record Quotes (bs t : List ℕ) : Type 0 where
  same : t ++ 34 ∷ [] ≡ bs
  bytes : list_all is_text_byte t ≡ true
  utf8 : IsUtf8 t

unquoted_quotes : (bs t : List ℕ) → unquoted bs ≡ Some t → Quotes bs t
unfolding unquoted
unquoted_quotes bs t e =
    let front = take (length bs - 1) bs in
    let back = drop (length bs - 1) bs in
    let p = taken (bytes_eq back (34 ∷ []) && list_all is_text_byte front && is_utf8 front) (Some front) t e in
    let q = and_parts (bytes_eq back (34 ∷ []) && list_all is_text_byte front) (is_utf8 front) p.0 in
    let r = and_parts (bytes_eq back (34 ∷ [])) (list_all is_text_byte front) q.0 in
    let d : back ≡ 34 ∷ [] = (bytes_eq-Decides back (34 ∷ [])).0 r.0 in
    let k : front ≡ t = cc in
    record {
      same = ap (λ x. x ++ 34 ∷ []) (sym k) ∙ ap (λ y. front ++ y) (sym d) ∙ take-append-drop (length bs - 1) bs;
      bytes = rw (← k) r.1;
      utf8 = rw (← k) (IsUtf8-from_is_utf8 front q.1);
    }

quoted_quotes : (bs t : List ℕ) → quoted bs ≡ Ok t → Quotes bs t
unfolding quoted
quoted_quotes bs t e =
    let p = bind_ok (or_else BadStep (unquoted bs)) short t e in
    let s = unless_bad (nat_lt MAX_TEXT (length p.0)) TooMany (Ok p.0) t p.2 in
    let k : p.0 ≡ t = cc in
    rw (← k) (unquoted_quotes bs p.0 (was_some BadStep (unquoted bs) p.0 p.1))

-- ---- literals

-- a word that stands for this value
pub record Tells (w : List ℕ) (v : Value) : Type 0 where
  pub same : value_word v ≡ w
  pub word : IsWord w

none_tells : Tells (codes "none") values.Absent
none_tells = record { same = refl; word = inl (record { bytes = refl; some = omega arith }) }

text_tells : (b : ℕ) (bs t : List ℕ) → (b == 34) ≡ true → Quotes bs t → Tells (b ∷ bs) (values.Text t)
text_tells b bs t e q =
    let k : b ≡ 34 = (Decides-eqb b 34).0 e in
    let s : text_word t ≡ b ∷ bs = ap (λ x. 34 ∷ x) q.same ∙ ap (λ c. c ∷ bs) (sym k) in
    record { same = s; word = inr (record { inside = t; quoted = sym s; bytes = q.bytes; utf8 = q.utf8 }) }

literal_none : (b : ℕ) (bs : List ℕ) (v : Value) (t : Bool) → bytes_eq (b ∷ bs) (codes "none") ≡ t → cond t (Ok values.Absent) (Err BadStep) ≡ Ok v → Tells (b ∷ bs) v
literal_none b bs v true t e =
    let k : values.Absent ≡ v = cc in
    let s : b ∷ bs ≡ codes "none" = (bytes_eq-Decides (b ∷ bs) (codes "none")).0 t in
    rw (s, ← k) none_tells
literal_none b bs v false t e = absurd cc

literal_text : (b : ℕ) (bs : List ℕ) (v : Value) (t : Bool) → (b == 34) ≡ t → cond t (quoted bs >>= λ x. Ok (values.Text x)) (cond (bytes_eq (b ∷ bs) (codes "none")) (Ok values.Absent) (Err BadStep)) ≡ Ok v → Tells (b ∷ bs) v
literal_text b bs v true t e =
    let p = bind_ok (quoted bs) (λ x. Ok (values.Text x)) v e in
    let k : values.Text p.0 ≡ v = cc p.2 in
    rw (← k) (text_tells b bs p.0 t (quoted_quotes bs p.0 p.1))
literal_text b bs v false t e = literal_none b bs v (bytes_eq (b ∷ bs) (codes "none")) refl e

literal_number : (b : ℕ) (bs : List ℕ) (v : Value) (t : Bool) → cond t (whole (b ∷ bs) >>= λ z. Ok (values.Int z)) (cond (b == 34) (quoted bs >>= λ x. Ok (values.Text x)) (cond (bytes_eq (b ∷ bs) (codes "none")) (Ok values.Absent) (Err BadStep))) ≡ Ok v → Tells (b ∷ bs) v
literal_number b bs v true e =
    let p = bind_ok (whole (b ∷ bs)) (λ z. Ok (values.Int z)) v e in
    let k : values.Int p.0 ≡ v = cc p.2 in
    let s = whole_spells (b ∷ bs) p.0 p.1 in
    rw (← k) (record { same = s.same; word = inl s.word })
literal_number b bs v false e = literal_text b bs v (b == 34) refl e

pub literal_tells : (w : List ℕ) (v : Value) → literal w ≡ Ok v → Tells w v
unfolding literal
literal_tells [] v e = absurd cc
literal_tells (b ∷ bs) v e = literal_number b bs v (is_digit b || b == 45) e

-- ---- operands

-- a word that stands for this operand
pub record Operates (w : List ℕ) (o : Operand) : Type 0 where
  pub same : operand_word o ≡ w
  pub word : IsWord w

constant_word : (v : Value) → operand_word (constant v) ≡ value_word v
constant_word values.Absent = refl
constant_word (values.Int z) = refl
constant_word (values.Text t) = refl

operand_literal : (args : ℕ) (w : List ℕ) (o : Operand) (t : Bool) → cond t (or_else BadStep (argument args w) >>= λ k. Ok (operands.Argument k)) (literal w >>= λ v. Ok (constant v)) ≡ Ok o → Operates w o
operand_literal args w o true e =
    let p = bind_ok (or_else BadStep (argument args w)) (λ k. Ok (operands.Argument k)) o e in
    let k : operands.Argument p.0 ≡ o = cc p.2 in
    let s = argument_spells args w p.0 (was_some BadStep (argument args w) p.0 p.1) in
    rw (← k) (record { same = s.same; word = inl s.word })
operand_literal args w o false e =
    let p = bind_ok (literal w) (λ v. Ok (constant v)) o e in
    let k : constant p.0 ≡ o = cc p.2 in
    let s = literal_tells w p.0 p.1 in
    record { same = ap operand_word (sym k) ∙ constant_word p.0 ∙ s.same; word = s.word }

operand_register : (args : ℕ) (w : List ℕ) (o : Operand) (t : Bool) → cond t (or_else BadStep (register w) >>= λ r. Ok (operands.Register r)) (cond (begins_with 36 w) (or_else BadStep (argument args w) >>= λ k. Ok (operands.Argument k)) (literal w >>= λ v. Ok (constant v))) ≡ Ok o → Operates w o
operand_register args w o true e =
    let p = bind_ok (or_else BadStep (register w)) (λ r. Ok (operands.Register r)) o e in
    let k : operands.Register p.0 ≡ o = cc p.2 in
    let s = register_spells w p.0 (was_some BadStep (register w) p.0 p.1) in
    rw (← k) (record { same = s.same; word = inl s.word })
operand_register args w o false e = operand_literal args w o (begins_with 36 w) e

pub operand_operates : (args : ℕ) (w : List ℕ) (o : Operand) → operand args w ≡ Ok o → Operates w o
unfolding operand
operand_operates args w o e = operand_register args w o (begins_with 114 w) e

-- ---- comparisons and turns

-- the first of several choices
pub chosen : {X : Type 0} (P : X → Type 0) (t : Bool) (x : X) (r : Result X TextCause) (y : X) → (t ≡ true → P x) → (r ≡ Ok y → P y) → cond t (Ok x) r ≡ Ok y → P y
chosen P true x r y h g e =
    let k : x ≡ y = cc in
    subst P k (h refl)
chosen P false x r y h g e = g e

numbered : {X : Type 0} (P : X → Type 0) (t : Bool) (o : Option ℕ) (f : ℕ → X) (r : Result X TextCause) (y : X) → ((i : ℕ) → t ≡ true → o ≡ Some i → P (f i)) → (r ≡ Ok y → P y) → cond t (or_else BadStep o >>= λ i. Ok (f i)) r ≡ Ok y → P y
numbered P true o f r y h g e =
    let p = bind_ok (or_else BadStep o) (λ i. Ok (f i)) y e in
    let k : f p.0 ≡ y = cc p.2 in
    subst P k (h p.0 refl (was_some BadStep o p.0 p.1))
numbered P false o f r y h g e = g e

-- a word that stands for this comparison
pub record Compares (w : List ℕ) (c : Compare) : Type 0 where
  pub same : compare_word c ≡ w
  pub word : IsWord w

compare_plain : (c : Compare) → IsPlain (compare_word c)
compare_plain compares.Equal = record { bytes = refl; some = omega arith }
compare_plain compares.NotEqual = record { bytes = refl; some = omega arith }
compare_plain compares.Less = record { bytes = refl; some = omega arith }
compare_plain compares.AtMost = record { bytes = refl; some = omega arith }
compare_plain compares.Greater = record { bytes = refl; some = omega arith }
compare_plain compares.AtLeast = record { bytes = refl; some = omega arith }

one_compare : (w : List ℕ) (c : Compare) → bytes_eq w (compare_word c) ≡ true → Compares w c
one_compare w c t =
    let s : compare_word c ≡ w = sym ((bytes_eq-Decides w (compare_word c)).0 t) in
    record { same = s; word = inl (subst IsPlain s (compare_plain c)) }

pub compare_compares : (w : List ℕ) (c : Compare) → compare w ≡ Ok c → Compares w c
unfolding compare
compare_compares w c e =
    chosen (Compares w) (bytes_eq w (codes "=")) compares.Equal _ c (one_compare w compares.Equal) (λ e1.
    chosen (Compares w) (bytes_eq w (codes "!=")) compares.NotEqual _ c (one_compare w compares.NotEqual) (λ e2.
    chosen (Compares w) (bytes_eq w (codes "<")) compares.Less _ c (one_compare w compares.Less) (λ e3.
    chosen (Compares w) (bytes_eq w (codes "<=")) compares.AtMost _ c (one_compare w compares.AtMost) (λ e4.
    chosen (Compares w) (bytes_eq w (codes ">")) compares.Greater _ c (one_compare w compares.Greater) (λ e5.
    chosen (Compares w) (bytes_eq w (codes ">=")) compares.AtLeast (Err BadStep) c (one_compare w compares.AtLeast) (λ e6. absurd cc) e5) e4) e3) e2) e1) e

-- a word that stands for this turn
pub record Turns (w : List ℕ) (t : Turn) : Type 0 where
  pub same : turn_word t ≡ w
  pub word : IsWord w

clerk_turns : (w : List ℕ) → bytes_eq w (codes "c") ≡ true → Turns w turns.Clerk
clerk_turns w t =
    let s : codes "c" ≡ w = sym ((bytes_eq-Decides w (codes "c")).0 t) in
    record { same = s; word = inl (subst IsPlain s (record { bytes = refl; some = omega arith })) }

drop_turns : (w : List ℕ) → bytes_eq w (codes "d") ≡ true → Turns w turns.Drop
drop_turns w t =
    let s : codes "d" ≡ w = sym ((bytes_eq-Decides w (codes "d")).0 t) in
    record { same = s; word = inl (subst IsPlain s (record { bytes = refl; some = omega arith })) }

worker_turns : (b i : ℕ) (bs : List ℕ) → (b == 119) ≡ true → index TURN_ACTORS bs ≡ Some i → Turns (b ∷ bs) (turns.Worker i)
worker_turns b i bs t e = let s = lettered 119 b i bs refl t (index_spells TURN_ACTORS i bs e) in record { same = s.same; word = inl s.word }

manager_turns : (b i : ℕ) (bs : List ℕ) → (b == 109) ≡ true → index TURN_ACTORS bs ≡ Some i → Turns (b ∷ bs) (turns.Manager i)
manager_turns b i bs t e = let s = lettered 109 b i bs refl t (index_spells TURN_ACTORS i bs e) in record { same = s.same; word = inl s.word }

anchor_turns : (b i : ℕ) (bs : List ℕ) → (b == 97) ≡ true → index TURN_ACTORS bs ≡ Some i → Turns (b ∷ bs) (turns.Anchor i)
anchor_turns b i bs t e = let s = lettered 97 b i bs refl t (index_spells TURN_ACTORS i bs e) in record { same = s.same; word = inl s.word }

pub turn_turns : (w : List ℕ) (t : Turn) → turn w ≡ Ok t → Turns w t
unfolding turn
turn_turns [] t e = absurd cc
turn_turns (b ∷ bs) t e =
    numbered (Turns (b ∷ bs)) (b == 119) (index TURN_ACTORS bs) (λ i. turns.Worker i) _ t (λ i h k. worker_turns b i bs h k) (λ e1.
    numbered (Turns (b ∷ bs)) (b == 109) (index TURN_ACTORS bs) (λ i. turns.Manager i) _ t (λ i h k. manager_turns b i bs h k) (λ e2.
    numbered (Turns (b ∷ bs)) (b == 97) (index TURN_ACTORS bs) (λ i. turns.Anchor i) _ t (λ i h k. anchor_turns b i bs h k) (λ e3.
    chosen (Turns (b ∷ bs)) (bytes_eq (b ∷ bs) (codes "c")) turns.Clerk _ t (clerk_turns (b ∷ bs)) (λ e4.
    chosen (Turns (b ∷ bs)) (bytes_eq (b ∷ bs) (codes "d")) turns.Drop (Err BadStep) t (drop_turns (b ∷ bs)) (λ e5. absurd cc) e4) e3) e2) e1) e
