-- What the lines of a report say, and what they do not.
use Rattle.std.proofs.Common.{ℕ, ◌+◌, ◌-◌, ◌^◌, ◌<◌, ◌≤◌, ◌≡◌, List, [], ◌∷◌, ◌++◌, get_or, refl, sym, ap, subst, ◌∙◌, append_assoc, arith, Option}
use Rattle.std.specs.Prelude.{codes, Some, None, MatchOption}
use Rattle.std.specs.Fmt.{decimal, signed_decimal}
use Rattle.std.proofs.lemmas.List.{append_cancel_left, take_all, length-drop}
use Rattle.tau_proc.specs.declared.reply.Reply.{Reply}
use Rattle.tau_report.specs.declared.report.Fate.{Fate}
use Rattle.tau_report.specs.declared.report.Fate.TheVariants.{Acked, Unsure, Unrun}
use Rattle.tau_report.specs.Lines.{reply_text, value_text, vector_text}
use Rattle.tau_inspect.specs.Bodies.{fate_body, end_body, ack_body, keyed_body, row_body, IsEnd, IsAck, IsKeyed}
use Rattle.tau_inspect.specs.Reading.{IsSmall, Reads, if_found}
use Rattle.tau_inspect.specs.ReportFor.{IsCall, IsFate, IsReply, IsRow, IsVector}
use Rattle.std.proofs.Common.{suc, length, take, drop, ◌==◌, ◌&&◌, not, true, ℤ, pos, negsuc}
use Rattle.std.specs.Prelude.{nat_lt, slice_index_or, Bool, Result, Ok, Err, IfOk}
use Rattle.std.proofs.lemmas.Bool.{and_parts, both_ways}
use Rattle.tau_model.specs.Tables.{is_value}
use Rattle.tau_base.specs.declared.value.Value.TheVariants.{Absent, Int, Text}
use Rattle.std.specs.Prelude.{false}
use Rattle.std.proofs.lemmas.Option.{slice_get-get_or}
use Rattle.tau_base.specs.declared.value.Key.{Key}
use Rattle.tau_base.specs.declared.value.Value.{Value}
use Rattle.tau_proc.specs.Meaning.{is_i64}
use Rattle.tau_text.specs.declared.fault.TextCause.{TextCause}
use Rattle.tau_text.specs.Spelled.{known}
use Rattle.tau_text_laws.proofs.Unique.{IsPlain, all_more, is_plain, known_spells}
use Rattle.tau_inspect.specs.declared.told.AckLine.{AckLine}
use Rattle.tau_inspect.specs.Parts.{lacks, IsCut}
use Rattle.tau_inspect.specs.RunText.{AreNames}
use Rattle.tau_inspect.proofs.Cutting.{cut_one, cut_lacks, decimal_lacks}
use Rattle.tau_inspect.proofs.Spellings.{small_pos, small_neg}
use Rattle.tau_inspect.proofs.ReadWords.{number_same}

-- what stands behind a place, as a slice
pub behind_whole : (i : ℕ) (text : List ℕ) → take (length text - i) (drop i text) ≡ drop i text
behind_whole i text = take_all (length text - i) (drop i text) (omega (arith, length-drop i text))

pub match_then : {X : Type 0} (P R : Type 0) (Q S : X → Type 0) (o : Option X) → (P → R) → ((x : X) → Q x → S x) → MatchOption o P Q → MatchOption o R S
match_then P R Q S None f g m = f m
match_then P R Q S (Some x) f g m = g x m

-- no such call
pub call_bad : (calls number : ℕ) (word : List ℕ) → calls < 2 ^ 32 → IsSmall number → decimal number ≡ word → (1 ≤ number → number ≤ calls → ⊥) → (a : ℕ) → IsCall calls a → decimal a ≡ word → ⊥
call_bad calls number word small fits is bad a call e =
    let same : a ≡ number = number_same a number word (omega (arith, small, call.1)) fits e is in
    bad (subst (λ (n : ℕ). 1 ≤ n) same call.0) (subst (λ (n : ℕ). n ≤ calls) same call.1)

-- no such stream
pub end_bad : (streams number : ℕ) (word : List ℕ) → streams < 2 ^ 8 → IsSmall number → decimal number ≡ word → streams ≤ number → (a : Option ℕ) → IsEnd streams a → end_body a ≡ codes "end 6 " ++ word → ⊥
end_bad streams number word small fits is bad None end e = (let at : 48 ≡ 54 = ap (λ (l : List ℕ). get_or l 4 0) e in omega (arith, at))
end_bad streams number word small fits is bad (Some j) end e =
    let spelled : decimal j ≡ word = append_cancel_left (codes "end 6 ") (decimal j) word e in
    let same : j ≡ number = number_same j number word (omega (arith, small, end)) fits spelled is in
    omega (arith, same, end, bad)

-- the reply of an acknowledged call, and of one that is unsure
module _ (number : ℕ) (rest text : List ℕ) (is : rest ≡ decimal number ++ 32 ∷ text) (none : (r : Reply) → IsReply r → reply_text r ≡ text → ⊥) where
  cut : (word : List ℕ) (r : Reply) → word ++ decimal number ++ 32 ∷ reply_text r ≡ word ++ rest → reply_text r ≡ text
  cut word r e =
      append_cancel_left (32 ∷ []) (reply_text r) text
      (append_cancel_left (decimal number) (32 ∷ reply_text r) (32 ∷ text) (append_cancel_left word (decimal number ++ 32 ∷ reply_text r) rest (sym (append_assoc word (decimal number) (32 ∷ reply_text r)) ∙ e) ∙ is))

  pub acked_bad : (a : Fate) → IsFate a → fate_body number a ≡ codes "reply " ++ rest → ⊥
  acked_bad (Acked r) fits e = none r fits (cut (codes "reply ") r e)
  acked_bad (Unsure r) fits e = (let at : 117 ≡ 114 = ap (λ (l : List ℕ). get_or l 0 0) e in omega (arith, at))
  acked_bad Unrun fits e = (let at : 117 ≡ 114 = ap (λ (l : List ℕ). get_or l 0 0) e in omega (arith, at))

  pub unsure_bad : (a : Fate) → IsFate a → fate_body number a ≡ codes "unsure " ++ rest → ⊥
  unsure_bad (Acked r) fits e = (let at : 114 ≡ 117 = ap (λ (l : List ℕ). get_or l 0 0) e in omega (arith, at))
  unsure_bad (Unsure r) fits e = none r fits (cut (codes "unsure ") r e)
  unsure_bad Unrun fits e = (let at : 114 ≡ 115 = ap (λ (l : List ℕ). get_or l 2 0) e in omega (arith, at))

-- ---- acknowledgements

module _ (calls n : ℕ) (rest : List ℕ) (a : AckLine) (fits : IsAck calls n a) (small : calls < 2 ^ 32) (e : ack_body a ≡ codes "ack " ++ rest) where
  behind : decimal a.number ++ 32 ∷ vector_text a.lv ≡ rest
  behind = append_cancel_left (codes "ack ") (decimal a.number ++ 32 ∷ vector_text a.lv) rest (sym (append_assoc (codes "ack ") (decimal a.number) (32 ∷ vector_text a.lv)) ∙ e)

  pub ack_uncut : lacks 32 rest ≡ true → ⊥
  ack_uncut none = cut_lacks 32 (decimal a.number) (vector_text a.lv) (subst (λ (l : List ℕ). lacks 32 l ≡ true) (sym behind) none)

  pub ack_cut : (i : ℕ) → IsCut 32 rest i → (decimal a.number ≡ take i rest) × (vector_text a.lv ≡ drop (i + 1) rest)
  ack_cut i cut = cut_one 32 (decimal a.number) (take i rest) (vector_text a.lv) (drop (i + 1) rest) (decimal_lacks 32 a.number (omega arith) (omega (arith, small, fits.0.1))) cut.first (behind ∙ cut.split)

-- an acknowledgement whose number was read, and what was read of its vector
pub ack_told : {E : Type 0} (calls n : ℕ) (rest part : List ℕ) (number i : ℕ) (lv : List ℕ) (r : Result Bool E) → calls < 2 ^ 32 → IsCut 32 rest i → IsCall calls number × (decimal number ≡ take i rest) → part ≡ drop (i + 1) rest →
    IfOk r (λ found. Reads vector_text (IsVector n) part (if_found found lv)) → IfOk r (λ found. Reads ack_body (IsAck calls n) (codes "ack " ++ rest) (if_found found (record { number = number; lv = lv })))
ack_told calls n rest part number i lv (Err error) small cut call is read = read
ack_told calls n rest part number i lv (Ok true) small cut call is read = (
  (call.0, read.0),
  append_assoc (codes "ack ") (decimal number) (32 ∷ vector_text lv)
      ∙ ap (λ (l : List ℕ). codes "ack " ++ l) (ap (λ (l : List ℕ). l ++ 32 ∷ vector_text lv) call.1 ∙ ap (λ (l : List ℕ). take i rest ++ 32 ∷ l) (read.1 ∙ is) ∙ sym cut.split),
)
ack_told calls n rest part number i lv (Ok false) small cut call is read = λ a fits e. read a.lv fits.1 ((ack_cut calls n rest a fits small e i cut).1 ∙ sym is)

-- ---- rows

pub signed_lacks : (z : ℤ) → is_i64 z ≡ true → lacks 32 (signed_decimal z) ≡ true
signed_lacks (pos m) fits = decimal_lacks 32 m (omega arith) (let lt = small_pos m fits in omega (arith, lt))
signed_lacks (negsuc m) fits = decimal_lacks 32 (suc m) (omega arith) (let lt = small_neg m fits in omega (arith, lt))

module _ (text : List ℕ) (r : ℤ × Value) (fits : IsKeyed r) (e : keyed_body r ≡ text) where
  pub keyed_uncut : lacks 32 text ≡ true → ⊥
  keyed_uncut none = cut_lacks 32 (signed_decimal r.0) (value_text r.1) (subst (λ (l : List ℕ). lacks 32 l ≡ true) (sym e) none)

  pub keyed_cut : (i : ℕ) → IsCut 32 text i → (signed_decimal r.0 ≡ take i text) × (value_text r.1 ≡ drop (i + 1) text)
  keyed_cut i cut = cut_one 32 (signed_decimal r.0) (take i text) (value_text r.1) (drop (i + 1) text) (signed_lacks r.0 fits.0) cut.first (e ∙ cut.split)

present_spelled : (v : Value) → is_value v ≡ true → value_text v ≡ codes "none" → ⊥
present_spelled Absent p e = both_ways false refl p
present_spelled (Int z) p e = (let at : 105 ≡ 110 = ap (λ (l : List ℕ). get_or l 0 0) e in omega (arith, at))
present_spelled (Text t) p e = (let at : 116 ≡ 110 = ap (λ (l : List ℕ). get_or l 0 0) e in omega (arith, at))

-- no row is told where its value is none
pub keyed_absent : (text : List ℕ) (r : ℤ × Value) → IsKeyed r → (i : ℕ) (v : Value) → is_value v ≡ false → value_text v ≡ drop (i + 1) text → value_text r.1 ≡ drop (i + 1) text → ⊥
keyed_absent text r fits i Absent p q e = present_spelled r.1 fits.1 (e ∙ sym q)
keyed_absent text r fits i (Int z) p q e = both_ways true p refl
keyed_absent text r fits i (Text t) p q e = both_ways true p refl

-- the names of tables
module _ (tables : List (List ℕ)) (names : AreNames tables) (table : ℕ) (within : table < length tables) where
  pub known_at : known tables (slice_index_or tables table []) ≡ Ok table
  known_at = names table (slice_index_or tables table []) (slice_get-get_or tables table [] within)

  pub name_plain : IsPlain (slice_index_or tables table [])
  name_plain = (known_spells tables (slice_index_or tables table []) table known_at).word

  pub name_lacks32 : lacks 32 (slice_index_or tables table []) ≡ true
  name_lacks32 = all_more is_plain (λ b. not (b == 32)) (slice_index_or tables table []) (λ b q. (and_parts (not (b == 32)) (not (b == 34)) ((and_parts (not (b == 32) && not (b == 34)) (not (b == 10)) ((and_parts (not (b == 32) && not (b == 34) && not (b == 10)) (nat_lt b 128) q).0)).0)).0) name_plain.bytes

module _ (tables : List (List ℕ)) (names : AreNames tables) (rest : List ℕ) (row : Key × Value) (fits : IsRow (length tables) row) (e : row_body tables row ≡ codes "row " ++ rest) where
  row_behind : slice_index_or tables row.0.table [] ++ 32 ∷ keyed_body (row.0.row, row.1) ≡ rest
  row_behind = append_cancel_left (codes "row ") (slice_index_or tables row.0.table [] ++ 32 ∷ keyed_body (row.0.row, row.1)) rest (sym (append_assoc (codes "row ") (slice_index_or tables row.0.table []) (32 ∷ keyed_body (row.0.row, row.1))) ∙ e)

  pub row_uncut : lacks 32 rest ≡ true → ⊥
  row_uncut none = cut_lacks 32 (slice_index_or tables row.0.table []) (keyed_body (row.0.row, row.1)) (subst (λ (l : List ℕ). lacks 32 l ≡ true) (sym row_behind) none)

  pub row_cut : (i : ℕ) → IsCut 32 rest i → (slice_index_or tables row.0.table [] ≡ take i rest) × (keyed_body (row.0.row, row.1) ≡ drop (i + 1) rest)
  row_cut i cut = cut_one 32 (slice_index_or tables row.0.table []) (take i rest) (keyed_body (row.0.row, row.1)) (drop (i + 1) rest) (name_lacks32 tables names row.0.table fits.table) cut.first (row_behind ∙ cut.split)

  pub row_unknown : (i : ℕ) (f : TextCause) → IsCut 32 rest i → known tables (take i rest) ≡ Err f → ⊥
  row_unknown i f cut bad = (let both : ◌≡◌ {A = Result ℕ TextCause} (Ok row.0.table) (Err f) = sym (known_at tables names row.0.table fits.table) ∙ ap (known tables) (row_cut i cut).0 ∙ bad in cc)

pub row_told : (tables : List (List ℕ)) (rest : List ℕ) (i table : ℕ) (z : ℤ) (v : Value) → IsCut 32 rest i → known tables (take i rest) ≡ Ok table → IsKeyed (z, v) → keyed_body (z, v) ≡ drop (i + 1) rest →
    IsRow (length tables) (record { table = table; row = z }, v) × (row_body tables (record { table = table; row = z }, v) ≡ codes "row " ++ rest)
row_told tables rest i table z v cut named keyed q =
    let s = known_spells tables (take i rest) table named in (
      record { table = s.within; whole = keyed.0; present = keyed.1; spelled = keyed.2 },
      append_assoc (codes "row ") (slice_index_or tables table []) (32 ∷ keyed_body (z, v))
          ∙ ap (λ (l : List ℕ). codes "row " ++ l) (ap (λ (l : List ℕ). l ++ 32 ∷ keyed_body (z, v)) s.same ∙ ap (λ (l : List ℕ). take i rest ++ 32 ∷ l) q ∙ sym cut.split),
    )
