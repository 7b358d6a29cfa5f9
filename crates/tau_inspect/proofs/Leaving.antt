-- What the sections of a report leave of a text.
use Rattle.std.proofs.Common.{ℕ, zero, suc, ◌+◌, ◌^◌, ◌<◌, ◌≤◌, ◌≡◌, ◌==◌, ◌&&◌, not, true, false, ℤ, pos, negsuc, List, [], ◌∷◌, ◌++◌, length, map, refl, sym, ap, subst, ◌∙◌, inl, inr, append_assoc, arith, Option}
use Rattle.std.specs.Prelude.{Some, None, Ok, All, nat_le, nat_lt, slice_get, slice_index_or, codes}
use Rattle.std.specs.Fmt.{decimal, signed_decimal}
use Rattle.std.specs.List.{AllByRecursion}
use Rattle.std.specs.List.Sorted.{IsStrictlySortedBy}
use Rattle.std.specs.declared.cmp.Ordering.TheVariants.{Less}
use Rattle.std.proofs.lemmas.Bool.{and_parts}
use Rattle.std.proofs.lemmas.Bool.Decides.{nat_tests}
use Rattle.std.proofs.lemmas.List.{append_cancel_left}
use Rattle.std.specs.Prelude.{Result}
use Rattle.tau_text.specs.declared.fault.TextCause.{TextCause}
use Rattle.tau_text.specs.Spelled.{whole}
use Rattle.tau_inspect.proofs.ReadWords.{number_same}
use Rattle.tau_inspect.proofs.ReadLines.{signed_lacks as signed_lacks32, known_at, name_plain, name_lacks32}
use Rattle.tau_inspect.proofs.Spellings.{whole_read}
use Rattle.std.proofs.lemmas.List.Elements.{recursion_from_All}
use Rattle.tau_base.specs.declared.limits.TheConstants.{MAX_LSN}
use Rattle.tau_base.specs.declared.value.Key.{Key}
use Rattle.tau_base.specs.declared.value.Value.{Value}
use Rattle.tau_base.specs.declared.value.Value.TheVariants.{Absent, Int, Text}
use Rattle.tau_base.specs.Database.{key_cmp}
use Rattle.tau_proc.specs.Meaning.{is_i64}
use Rattle.tau_proc.specs.declared.reply.Reply.{Reply}
use Rattle.tau_proc.specs.declared.reply.Reply.TheVariants as reply
use Rattle.tau_text.specs.Canonical.{text_word}
use Rattle.tau_text.specs.Spelled.{is_text_byte, known}
use Rattle.tau_text_laws.proofs.Unique.{IsWord, all_more, is_plain}
use Rattle.tau_text_laws.proofs.Values.{literal_tells}
use Rattle.tau_report.specs.declared.report.Fate.{Fate}
use Rattle.tau_report.specs.declared.report.Fate.TheVariants.{Acked, Unsure, Unrun}
use Rattle.tau_report.specs.declared.report.RunReport.{RunReport}
use Rattle.tau_report.specs.Lines.{ack_line, order_line, row_line, end_line, value_text, reply_text, vector_text}
use Rattle.tau_report.specs.Report.{ack_lines, fate_lines, order_lines, row_lines}
use Rattle.tau_inspect.specs.declared.told.AckLine.{AckLine}
use Rattle.tau_inspect.specs.Bodies.{order_body, fate_body, ack_body, row_body, keyed_body, IsEnd, IsAck}
use Rattle.tau_inspect.specs.ByNumber.{is_in, IsUnique}
use Rattle.tau_inspect.specs.Parts.{lacks}
use Rattle.tau_inspect.specs.ReportFor.{HasSpelling, IsCall, IsFate, IsReply, IsRow, IsVector}
use Rattle.tau_inspect.specs.RunText.{AreNames, IsTextOf}
use Rattle.tau_inspect.specs.Sections.{IsLine, NoLine, Apart, AreAcks, AreFates, AreRows, AcksFit, RowsFit, BeginsAlike, BeginsWithFates, Leaves, Stops, StopsFates}
use Rattle.tau_inspect.proofs.Acts.{get_in, none_some}
use Rattle.tau_inspect.proofs.Cutting.{cut_one, cut_lacks, decimal_lacks, lacks_append}
use Rattle.tau_inspect.proofs.Greedy.{reads_all, apart_lines}
use Rattle.tau_inspect.proofs.Spellings.{small_pos, small_neg}
use Rattle.tau_inspect.proofs.ReadSections.{fate_is}

-- ---- no line has a byte 10 within

word_lacks : (w : List ℕ) → IsWord w → lacks 10 w ≡ true
word_lacks w (inl p) = all_more is_plain (λ b. not (b == 10)) w plain_byte p.bytes
  where
    plain_byte : (b : ℕ) → is_plain b ≡ true → not (b == 10) ≡ true
    plain_byte b q = (and_parts (not (b == 32) && not (b == 34)) (not (b == 10)) ((and_parts (not (b == 32) && not (b == 34) && not (b == 10)) (nat_lt b 128) q).0)).1
word_lacks w (inr t) = subst (λ (l : List ℕ). lacks 10 l ≡ true) (sym t.quoted) (lacks_append 10 (34 ∷ t.inside) (34 ∷ []) (all_more is_text_byte (λ b. not (b == 10)) t.inside text_byte t.bytes) refl)
  where
    text_byte : (b : ℕ) → is_text_byte b ≡ true → not (b == 10) ≡ true
    text_byte b q =
        let low : nat_le 32 b ≡ true = (and_parts (nat_le 32 b) (not (b == 34)) ((and_parts (nat_le 32 b && not (b == 34)) (not (b == 92)) ((and_parts (nat_le 32 b && not (b == 34) && not (b == 92)) (not (b == 127)) q).0)).0)).0 in
        let test : (b == 10) ≡ false = grind (arith, nat_tests) in
        rw test refl

signed_lacks : (z : ℤ) → is_i64 z ≡ true → lacks 10 (signed_decimal z) ≡ true
signed_lacks (pos m) fits = decimal_lacks 10 m (omega arith) (let lt = small_pos m fits in omega (arith, lt))
signed_lacks (negsuc m) fits = decimal_lacks 10 (suc m) (omega arith) (let lt = small_neg m fits in omega (arith, lt))

value_lacks : (v : Value) → HasSpelling v → lacks 10 (value_text v) ≡ true
value_lacks Absent s = refl
value_lacks (Int z) s = lacks_append 10 (codes "int ") (signed_decimal z) refl (signed_lacks z s)
value_lacks (Text t) s = lacks_append 10 (codes "text ") (text_word t) refl (word_lacks (text_word t) (literal_tells (text_word t) (Text t) s).word)

reply_lacks : (r : Reply) → IsReply r → lacks 10 (reply_text r) ≡ true
reply_lacks (reply.Ok v) s = value_lacks v s
reply_lacks (reply.Refused step) s = lacks_append 10 (codes "refused ") (decimal step) refl (decimal_lacks 10 step (omega arith) (omega (arith, s.1)))

numbered_lacks : (k : ℕ) (l : List ℕ) → k < 2 ^ 64 → lacks 10 l ≡ true → lacks 10 (decimal k ++ 32 ∷ l) ≡ true
numbered_lacks k l lt e = lacks_append 10 (decimal k) (32 ∷ l) (decimal_lacks 10 k (omega arith) lt) e

pub fate_lacks : (k : ℕ) (f : Fate) → k < 2 ^ 64 → IsFate f → lacks 10 (fate_body k f) ≡ true
fate_lacks k (Acked r) lt s = lacks_append 10 (codes "reply ") (decimal k ++ 32 ∷ reply_text r) refl (numbered_lacks k (reply_text r) lt (reply_lacks r s))
fate_lacks k (Unsure r) lt s = lacks_append 10 (codes "unsure ") (decimal k ++ 32 ∷ reply_text r) refl (numbered_lacks k (reply_text r) lt (reply_lacks r s))
fate_lacks k Unrun lt s = lacks_append 10 (codes "unrun ") (decimal k) refl (decimal_lacks 10 k (omega arith) lt)

pub order_lacks : (calls : ℕ) → calls < 2 ^ 32 → (k : ℕ) → IsCall calls k → lacks 10 (order_body k) ≡ true
order_lacks calls small k call = lacks_append 10 (codes "order ") (decimal k) refl (decimal_lacks 10 k (omega arith) (omega (arith, small, call.1)))

vector_lacks : (v : List ℕ) → AllByRecursion (λ p. p < MAX_LSN) v → lacks 10 (vector_text v) ≡ true
vector_lacks [] a = refl
vector_lacks (p ∷ []) a = decimal_lacks 10 p (omega arith) (omega (arith, a.0))
vector_lacks (p ∷ q ∷ v) a = lacks_append 10 (decimal p) (44 ∷ vector_text (q ∷ v)) (decimal_lacks 10 p (omega arith) (omega (arith, a.0))) (vector_lacks (q ∷ v) a.1)

-- ---- the calls of the history

module _ (calls : ℕ) (small : calls < 2 ^ 32) where
  pub order_same : (y k : ℕ) (line : List ℕ) → IsCall calls y → IsCall calls k → order_body y ≡ line → order_body k ≡ line → y ≡ k
  order_same y k line cy ck a b = number_same y k (decimal k) (omega (arith, small, cy.1)) (omega (arith, small, ck.1)) (append_cancel_left (codes "order ") (decimal y) (decimal k) (a ∙ sym b)) refl

  orders_end : (order rest : List ℕ) → All (IsCall calls) order → ((k : ℕ) (tail : List ℕ) → IsCall calls k → rest ≡ order_body k ++ 10 ∷ tail → ⊥) → Stops order_line (All (IsCall calls)) 111 order rest
  orders_end order rest read stop = λ other alike xs more fit is apart.
      reads_all order_line order_body (IsCall calls) (λ (k : ℕ). k) (λ (ks : List ℕ). Unit {0}) 111 (λ a. refl) (order_lacks calls small) (λ a t q. q refl) order rest (recursion_from_All (IsCall calls) order read)
      (λ y k cy ck e. order_same y k (order_body k) cy ck e refl) (λ y ys tail fits u e. stop y tail fits e) other alike xs more (recursion_from_All (IsCall calls) xs fit) tt is apart

  pub orders_lack : (order rest : List ℕ) → All (IsCall calls) order → lacks 10 rest ≡ true → Stops order_line (All (IsCall calls)) 111 order rest
  orders_lack order rest read none = orders_end order rest read (λ k tail fits is. cut_lacks 10 (order_body k) tail (subst (λ (t : List ℕ). lacks 10 t ≡ true) is none))

  pub orders_stop : (order rest line following : List ℕ) → All (IsCall calls) order → IsLine rest line following → ((k : ℕ) → IsCall calls k → order_body k ≡ line → ⊥) → Stops order_line (All (IsCall calls)) 111 order rest
  orders_stop order rest line following read l none =
      orders_end order rest read (λ k tail fits is. none k fits (cut_one 10 (order_body k) line tail following (order_lacks calls small k fits) l.one (sym is ∙ l.is)).0)

  pub orders_none : (order rest : List ℕ) → All (IsCall calls) order → NoLine order_body (IsCall calls) rest → Stops order_line (All (IsCall calls)) 111 order rest
  orders_none order rest read (inl none) = orders_lack order rest read none
  orders_none order rest read (inr other) = orders_stop order rest other.0 other.1 read other.2 other.3

-- ---- acknowledgements

get_more : (xs zs : List ℕ) (k i : ℕ) → slice_get xs i ≡ Some k → slice_get (xs ++ zs) i ≡ Some k
get_more [] zs k i e = absurd (none_some k e)
get_more (x ∷ xs) zs k zero e = e
get_more (x ∷ xs) zs k (suc i) e = get_more xs zs k i e

get_behind : (xs zs : List ℕ) (k : ℕ) → slice_get (xs ++ k ∷ zs) (length xs) ≡ Some k
get_behind [] zs k = refl
get_behind (x ∷ xs) zs k = get_behind xs zs k

get_within : (xs : List ℕ) (k i : ℕ) → slice_get xs i ≡ Some k → i < length xs
get_within [] k i e = absurd (none_some k e)
get_within (x ∷ xs) k zero e = omega arith
get_within (x ∷ xs) k (suc i) e = (let lt = get_within xs k i e in omega (arith, lt))

twice : (xs zs : List ℕ) (k : ℕ) → is_in k xs ≡ true → IsUnique (xs ++ k ∷ zs) → ⊥
twice xs zs k e u =
    let w = get_in k xs e in
    let same : w.0 ≡ length xs = u w.0 (length xs) k (get_more xs (k ∷ zs) k w.0 w.1) (get_behind xs zs k) in
    let lt = get_within xs k w.0 w.1 in
    omega (arith, same, lt)

pub both_all : {A : Type 0} (P Q : A → Type 0) (xs : List A) → AllByRecursion P xs → AllByRecursion Q xs → AllByRecursion (λ a. P a × Q a) xs
both_all P Q [] p q = tt
both_all P Q (x ∷ xs) p q = ((p.0, q.0), both_all P Q xs p.1 q.1)

abbrev pub told_body : ℕ × List ℕ → List ℕ
told_body a = ack_body (record { number = a.0; lv = a.1 })

abbrev pub ToldFits : ℕ → ℕ → ℕ × List ℕ → Type 0
ToldFits calls n a = IsCall calls a.0 × IsVector n a.1

module _ (calls n : ℕ) (small : calls < 2 ^ 32) where
  pub ack_is : (a : ℕ × List ℕ) → ack_line a ≡ told_body a ++ 10 ∷ []
  ack_is a = refl

  pub ack_starts : (a : ℕ × List ℕ) (rest : List ℕ) → Apart 97 (told_body a ++ rest) → ⊥
  ack_starts a rest apart = apart refl

  pub ack_lacks : (a : ℕ × List ℕ) → ToldFits calls n a → lacks 10 (told_body a) ≡ true
  ack_lacks a fits = lacks_append 10 (codes "ack ") (decimal a.0 ++ 32 ∷ vector_text a.1) refl (numbered_lacks a.0 (vector_text a.1) (omega (arith, small, fits.0.1)) (vector_lacks a.1 (recursion_from_All (λ p. p < MAX_LSN) a.1 fits.1.small)))

  ack_same : (y a : ℕ × List ℕ) (line : List ℕ) → ToldFits calls n y → ToldFits calls n a → told_body y ≡ line → told_body a ≡ line → y.0 ≡ a.0
  ack_same y a line fy fa p q =
      let spelled : decimal y.0 ++ 32 ∷ vector_text y.1 ≡ decimal a.0 ++ 32 ∷ vector_text a.1 = append_cancel_left (codes "ack ") (decimal y.0 ++ 32 ∷ vector_text y.1) (decimal a.0 ++ 32 ∷ vector_text a.1) (p ∙ sym q) in
      let cut = cut_one 32 (decimal y.0) (decimal a.0) (vector_text y.1) (vector_text a.1) (decimal_lacks 32 y.0 (omega arith) (omega (arith, small, fy.0.1))) (decimal_lacks 32 a.0 (omega arith) (omega (arith, small, fa.0.1))) spelled in
      number_same y.0 a.0 (decimal a.0) (omega (arith, small, fy.0.1)) (omega (arith, small, fa.0.1)) cut.0 refl

  all_told : (xs : List (ℕ × List ℕ)) → All (λ a. IsCall calls a.0) xs → All (λ a. IsVector n a.1) xs → AllByRecursion (ToldFits calls n) xs
  all_told xs a b = both_all (λ (b : ℕ × List ℕ). IsCall calls b.0) (λ (b : ℕ × List ℕ). IsVector n b.1) xs (recursion_from_All (λ (b : ℕ × List ℕ). IsCall calls b.0) xs a) (recursion_from_All (λ (b : ℕ × List ℕ). IsVector n b.1) xs b)

  module _ (text : List ℕ) (acks : List (ℕ × List ℕ)) (rest : List ℕ) (are : AreAcks calls n text acks rest) where
    acks_end : ((y : ℕ × List ℕ) (ys : List (ℕ × List ℕ)) (tail : List ℕ) → ToldFits calls n y → IsUnique (map (λ (b : ℕ × List ℕ). b.0) acks ++ y.0 ∷ map (λ (b : ℕ × List ℕ). b.0) ys) → rest ≡ told_body y ++ 10 ∷ tail → ⊥) →
        Stops ack_line (AcksFit calls n) 97 acks rest
    acks_end stop = λ other alike xs more fit is apart.
        reads_all ack_line told_body (ToldFits calls n) (λ (b : ℕ × List ℕ). b.0) IsUnique 97 ack_is ack_lacks ack_starts acks rest (all_told acks are.numbers are.vectors)
        (λ y a fy fa e. ack_same y a (told_body a) fy fa e refl) stop other alike xs more (all_told xs fit.numbers fit.vectors) fit.once is apart

    pub acks_lack : lacks 10 rest ≡ true → Stops ack_line (AcksFit calls n) 97 acks rest
    acks_lack none = acks_end (λ y ys tail fits u is. cut_lacks 10 (told_body y) tail (subst (λ (t : List ℕ). lacks 10 t ≡ true) is none))

    module _ (line following : List ℕ) (l : IsLine rest line following) where
      pub acks_stop : ((a : AckLine) → IsAck calls n a → ack_body a ≡ line → ⊥) → Stops ack_line (AcksFit calls n) 97 acks rest
      acks_stop none =
          acks_end (λ y ys tail fits u is. none (record { number = y.0; lv = y.1 }) fits (cut_one 10 (told_body y) line tail following (ack_lacks y fits) l.one (sym is ∙ l.is)).0)

      pub acks_twice : (a : AckLine) → IsAck calls n a → ack_body a ≡ line → is_in a.number (map (λ (b : ℕ × List ℕ). b.0) acks) ≡ true → Stops ack_line (AcksFit calls n) 97 acks rest
      acks_twice a fits e there =
          acks_end (λ y ys tail fy u is.
          let same = ack_same y (a.number, a.lv) line fy fits (cut_one 10 (told_body y) line tail following (ack_lacks y fy) l.one (sym is ∙ l.is)).0 e in
          twice (map (λ (b : ℕ × List ℕ). b.0) acks) (map (λ (b : ℕ × List ℕ). b.0) ys) y.0 (subst (λ (k : ℕ). is_in k (map (λ (b : ℕ × List ℕ). b.0) acks) ≡ true) (sym same) there) u)

pub acks_none : (calls n : ℕ) (small : calls < 2 ^ 32) (text : List ℕ) (acks : List (ℕ × List ℕ)) (rest : List ℕ) → AreAcks calls n text acks rest → NoLine ack_body (IsAck calls n) rest → Stops ack_line (AcksFit calls n) 97 acks rest
acks_none calls n small text acks rest are (inl none) = acks_lack calls n small text acks rest are none
acks_none calls n small text acks rest are (inr other) = acks_stop calls n small text acks rest are other.0 other.1 other.2 other.3

-- ---- rows

sorted_last : (front : List (Key × Value)) (last : Key × Value) (k : Key) (ks : List Key) → IsStrictlySortedBy key_cmp (map (λ (r : Key × Value). r.0) (front ++ last ∷ []) ++ k ∷ ks) → key_cmp last.0 k ≡ Less
unfolding IsStrictlySortedBy
sorted_last [] last k ks s = s.0.0
sorted_last (r ∷ front) last k ks s = sorted_last front last k ks s.1

module _ (tables : List (List ℕ)) (names : AreNames tables) where
  keyed_same : (y a : ℤ) (v w : Value) → is_i64 y ≡ true → is_i64 a ≡ true → keyed_body (y, v) ≡ keyed_body (a, w) → y ≡ a
  keyed_same y a v w fy fa e =
      let cut = cut_one 32 (signed_decimal y) (signed_decimal a) (value_text v) (value_text w) (signed_lacks32 y fy) (signed_lacks32 a fa) e in
      let both : ◌≡◌ {A = Result ℤ TextCause} (Ok y) (Ok a) = sym (whole_read y fy) ∙ ap whole cut.0 ∙ whole_read a fa in
      cc

  pub name_same : (y a : ℕ) (r q : List ℕ) → y < length tables → a < length tables → slice_index_or tables y [] ++ 32 ∷ r ≡ slice_index_or tables a [] ++ 32 ∷ q → (y ≡ a) × (r ≡ q)
  name_same y a r q fy fa e =
      let cut = cut_one 32 (slice_index_or tables y []) (slice_index_or tables a []) r q (name_lacks32 tables names y fy) (name_lacks32 tables names a fa) e in
      let both : ◌≡◌ {A = Result ℕ TextCause} (Ok y) (Ok a) = sym (known_at tables names y fy) ∙ ap (known tables) cut.0 ∙ known_at tables names a fa in
      (cc, cut.1)

  pub row_same : (y a : Key × Value) (line : List ℕ) → IsRow (length tables) y → IsRow (length tables) a → row_body tables y ≡ line → row_body tables a ≡ line → y.0 ≡ a.0
  row_same y a line fy fa p q =
      let behind : slice_index_or tables y.0.table [] ++ 32 ∷ keyed_body (y.0.row, y.1) ≡ slice_index_or tables a.0.table [] ++ 32 ∷ keyed_body (a.0.row, a.1) =
      append_cancel_left (codes "row ") (slice_index_or tables y.0.table [] ++ 32 ∷ keyed_body (y.0.row, y.1)) (slice_index_or tables a.0.table [] ++ 32 ∷ keyed_body (a.0.row, a.1)) (p ∙ sym q) in
      let w = name_same y.0.table a.0.table (keyed_body (y.0.row, y.1)) (keyed_body (a.0.row, a.1)) fy.table fa.table behind in
      let z = keyed_same y.0.row a.0.row y.1 a.1 fy.whole fa.whole w.1 in
      λ i. record { table = w.0 i; row = z i }

  pub row_value : (y a : Key × Value) → IsRow (length tables) y → IsRow (length tables) a → row_body tables y ≡ row_body tables a → value_text y.1 ≡ value_text a.1
  row_value y a fy fa p =
      let behind : slice_index_or tables y.0.table [] ++ 32 ∷ keyed_body (y.0.row, y.1) ≡ slice_index_or tables a.0.table [] ++ 32 ∷ keyed_body (a.0.row, a.1) =
      append_cancel_left (codes "row ") (slice_index_or tables y.0.table [] ++ 32 ∷ keyed_body (y.0.row, y.1)) (slice_index_or tables a.0.table [] ++ 32 ∷ keyed_body (a.0.row, a.1)) p in
      let w = name_same y.0.table a.0.table (keyed_body (y.0.row, y.1)) (keyed_body (a.0.row, a.1)) fy.table fa.table behind in
      (cut_one 32 (signed_decimal y.0.row) (signed_decimal a.0.row) (value_text y.1) (value_text a.1) (signed_lacks32 y.0.row fy.whole) (signed_lacks32 a.0.row fa.whole) w.1).1

  pub row_lacks : (y : Key × Value) → IsRow (length tables) y → lacks 10 (row_body tables y) ≡ true
  row_lacks y fits =
      lacks_append 10 (codes "row ") (slice_index_or tables y.0.table [] ++ 32 ∷ keyed_body (y.0.row, y.1)) refl
      (lacks_append 10 (slice_index_or tables y.0.table []) (32 ∷ keyed_body (y.0.row, y.1)) (word_lacks (slice_index_or tables y.0.table []) (inl (name_plain tables names y.0.table fits.table)))
      (lacks_append 10 (signed_decimal y.0.row) (32 ∷ value_text y.1) (signed_lacks y.0.row fits.whole) (value_lacks y.1 fits.spelled)))

  module _ (text : List ℕ) (rows : List (Key × Value)) (rest : List ℕ) (are : AreRows tables text rows rest) where
    rows_end : ((y : Key × Value) (ys : List (Key × Value)) (tail : List ℕ) → IsRow (length tables) y → IsStrictlySortedBy key_cmp (map (λ (r : Key × Value). r.0) rows ++ y.0 ∷ map (λ (r : Key × Value). r.0) ys) → rest ≡ row_body tables y ++ 10 ∷ tail → ⊥) →
        Stops (row_line tables) (RowsFit (length tables)) 114 rows rest
    rows_end stop = λ other alike xs more fit is apart.
        reads_all (row_line tables) (row_body tables) (IsRow (length tables)) (λ (r : Key × Value). r.0) (IsStrictlySortedBy key_cmp) 114 (λ b. refl) row_lacks (λ b t q. q refl) rows rest (recursion_from_All (IsRow (length tables)) rows are.fit)
        (λ y a fy fa e. row_same y a (row_body tables a) fy fa e refl) stop other alike xs more (recursion_from_All (IsRow (length tables)) xs fit.fit) fit.ascending is apart

    pub rows_lack : lacks 10 rest ≡ true → Stops (row_line tables) (RowsFit (length tables)) 114 rows rest
    rows_lack none = rows_end (λ y ys tail fits u is. cut_lacks 10 (row_body tables y) tail (subst (λ (t : List ℕ). lacks 10 t ≡ true) is none))

    module _ (line following : List ℕ) (l : IsLine rest line following) where
      pub rows_stop : ((a : Key × Value) → IsRow (length tables) a → row_body tables a ≡ line → ⊥) → Stops (row_line tables) (RowsFit (length tables)) 114 rows rest
      rows_stop none = rows_end (λ y ys tail fits u is. none y fits (cut_one 10 (row_body tables y) line tail following (row_lacks y fits) l.one (sym is ∙ l.is)).0)

      pub rows_below : (a : Key × Value) → IsRow (length tables) a → row_body tables a ≡ line → (front : List (Key × Value)) × (last : Key × Value) × (rows ≡ front ++ last ∷ []) × (key_cmp last.0 a.0 ≡ Less → ⊥) → Stops (row_line tables) (RowsFit (length tables)) 114 rows rest
      rows_below a fits e low =
          rows_end (λ y ys tail fy sorted is.
          let same = row_same y a line fy fits (cut_one 10 (row_body tables y) line tail following (row_lacks y fy) l.one (sym is ∙ l.is)).0 e in
          low.3 (subst (λ (k : Key). key_cmp low.1.0 k ≡ Less) same
          (sorted_last low.0 low.1 y.0 (map (λ (r : Key × Value). r.0) ys) (subst (λ (d : List (Key × Value)). IsStrictlySortedBy key_cmp (map (λ (r : Key × Value). r.0) d ++ y.0 ∷ map (λ (r : Key × Value). r.0) ys)) low.2 sorted))))

-- ---- what became of the calls

pub fate_head : (k : ℕ) (f : Fate) (fs : List Fate) (more : List ℕ) → fate_lines k (f ∷ fs) ++ more ≡ fate_body k f ++ 10 ∷ (fate_lines (k + 1) fs ++ more)
fate_head k f fs more =
    ap (λ (l : List ℕ). (l ++ fate_lines (k + 1) fs) ++ more) (fate_is k f)
    ∙ append_assoc (fate_body k f ++ 10 ∷ []) (fate_lines (k + 1) fs) more ∙ append_assoc (fate_body k f) (10 ∷ []) (fate_lines (k + 1) fs ++ more)

-- what is left of fates whose lines begin a text, after those that it begins with for sure
pub record FatesLeft (k : ℕ) (xs fs : List Fate) (more other : List ℕ) : Type 0 where
  pub fates : List Fate
  pub fit : AllByRecursion IsFate fates
  pub many : length xs + length fates ≡ length fs
  pub is : other ≡ fate_lines (k + length xs) fates ++ more

fates_left : (k : ℕ) (xs fs : List Fate) (more other : List ℕ) → k + length fs < 2 ^ 64 → length xs ≤ length fs → AllByRecursion IsFate xs → AllByRecursion IsFate fs → fate_lines k xs ++ other ≡ fate_lines k fs ++ more → FatesLeft k xs fs more other
fates_left k [] fs more other small long a b e = record { fates = fs; fit = b; many = omega arith; is = e ∙ ap (λ (j : ℕ). fate_lines j fs ++ more) (omega arith) }
fates_left k (x ∷ xs) [] more other small long a b e = absurd (omega (arith, long))
fates_left k (x ∷ xs) (f ∷ fs) more other small long a b e =
    let cut = cut_one 10 (fate_body k x) (fate_body k f) (fate_lines (k + 1) xs ++ other) (fate_lines (k + 1) fs ++ more) (fate_lacks k x (omega (arith, small)) a.0) (fate_lacks k f (omega (arith, small)) b.0) (sym (fate_head k x xs other) ∙ e ∙ fate_head k f fs more) in
    let w = fates_left (k + 1) xs fs more other (omega (arith, small)) (omega (arith, long)) a.1 b.1 cut.1 in
    record { fates = w.fates; fit = w.fit; many = omega (arith, w.many); is = w.is ∙ ap (λ (j : ℕ). fate_lines j w.fates ++ more) (omega arith) }

module _ (calls : ℕ) (small : calls < 2 ^ 32) (text : List ℕ) (fates : List Fate) (rest : List ℕ) (are : AreFates text fates rest) (long : length fates ≤ calls) where
  fates_end : ((f : Fate) (tail : List ℕ) → length fates < calls → IsFate f → rest ≡ fate_body (length fates + 1) f ++ 10 ∷ tail → ⊥) → StopsFates calls fates rest
  fates_end stop = λ other more alike b.
      let w = fates_left 1 fates b.fates more other (omega (arith, b.many, small)) (omega (arith, b.many, long)) (recursion_from_All IsFate fates are.fit) (recursion_from_All IsFate b.fates b.fit) b.is in
      none other more alike w.fates w.fit (w.many ∙ b.many) w.is
    where
      none : (other more : List ℕ) → BeginsAlike rest other → (fs : List Fate) → AllByRecursion IsFate fs → length fates + length fs ≡ calls → other ≡ fate_lines (1 + length fates) fs ++ more → (length fates ≡ calls) × (other ≡ more)
      none other more alike [] fit many is = (omega (arith, many), is)
      none other more alike (f ∷ fs) fit many is =
          let k : ℕ = length fates + 1 in
          let head : other ≡ fate_body k f ++ 10 ∷ (fate_lines (k + 1) fs ++ more) = is ∙ ap (λ (j : ℕ). fate_lines j (f ∷ fs) ++ more) (omega arith) ∙ fate_head k f fs more in
          let w = alike.line (fate_body k f) (fate_lines (k + 1) fs ++ more) (record { is = head; one = fate_lacks k f (omega (arith, many, small)) fit.0 }) in
          absurd (stop f w.0 (omega (arith, many)) fit.0 w.1.is)

  pub fates_all : length fates ≡ calls → StopsFates calls fates rest
  fates_all at = fates_end (λ f tail lt fits is. omega (arith, lt, at))

  pub fates_lack : lacks 10 rest ≡ true → StopsFates calls fates rest
  fates_lack none = fates_end (λ f tail lt fits is. cut_lacks 10 (fate_body (length fates + 1) f) tail (subst (λ (t : List ℕ). lacks 10 t ≡ true) is none))

  pub fates_stop : (line following : List ℕ) → IsLine rest line following → ((f : Fate) → IsFate f → fate_body (length fates + 1) f ≡ line → ⊥) → StopsFates calls fates rest
  fates_stop line following l none = fates_end (λ f tail lt fits is. none f fits (cut_one 10 (fate_body (length fates + 1) f) line tail following (fate_lacks (length fates + 1) f (omega (arith, lt, small)) fits) l.one (sym is ∙ l.is)).0)

pub fates_none : (calls : ℕ) (small : calls < 2 ^ 32) (text : List ℕ) (fates : List Fate) (rest : List ℕ) → AreFates text fates rest → length fates ≤ calls → NoLine (fate_body (length fates + 1)) IsFate rest → StopsFates calls fates rest
fates_none calls small text fates rest are long (inl none) = fates_lack calls small text fates rest are long none
fates_none calls small text fates rest are long (inr other) = fates_stop calls small text fates rest are long other.0 other.1 other.2 other.3

-- ---- the whole report

module _ (tables : List (List ℕ)) (n calls : ℕ) (text : List ℕ) (r : RunReport) (failed : Option ℕ) (t : IsTextOf tables n calls r failed text) where
  abbrev pub rows_rest : List ℕ
  rows_rest = row_lines tables r.tables ++ end_line failed

  abbrev pub fates_rest : List ℕ
  fates_rest = fate_lines 1 r.fates ++ (order_lines r.order ++ (row_lines tables r.tables ++ end_line failed))

  apart_end : (byte : ℕ) → (101 ≡ byte → ⊥) → (f : Option ℕ) → Apart byte (end_line f)
  apart_end byte off None = off
  apart_end byte off (Some j) = off

  apart_fates : (k : ℕ) (fs : List Fate) (more : List ℕ) → Apart 97 more → Apart 97 (fate_lines k fs ++ more)
  apart_fates k [] more a = a
  apart_fates k (Acked q ∷ fs) more a = λ e. (let at : 114 ≡ 97 = e in omega (arith, at))
  apart_fates k (Unsure q ∷ fs) more a = λ e. (let at : 117 ≡ 97 = e in omega (arith, at))
  apart_fates k (Unrun ∷ fs) more a = λ e. (let at : 117 ≡ 97 = e in omega (arith, at))

  pub at_rows : Apart 111 rows_rest
  at_rows = apart_lines (row_line tables) 111 (end_line failed) (λ a s e. (let at : 114 ≡ 111 = e in omega (arith, at))) (apart_end 111 (λ e. omega (arith, e)) failed) r.tables

  pub at_acks : Apart 97 fates_rest
  at_acks =
      apart_fates 1 r.fates (order_lines r.order ++ (row_lines tables r.tables ++ end_line failed))
      (apart_lines order_line 97 (row_lines tables r.tables ++ end_line failed) (λ a s e. (let at : 111 ≡ 97 = e in omega (arith, at)))
      (apart_lines (row_line tables) 97 (end_line failed) (λ a s e. (let at : 114 ≡ 97 = e in omega (arith, at))) (apart_end 97 (λ e. omega (arith, e)) failed) r.tables) r.order)

  pub at_end : Apart 114 (end_line failed)
  at_end = apart_end 114 (λ e. omega (arith, e)) failed

  pub text_is : text ≡ ack_lines r.acks ++ fates_rest
  text_is =
      t.is ∙ ap (λ (l : List ℕ). ack_lines r.acks ++ l)
      (append_assoc (fate_lines 1 r.fates ++ order_lines r.order) (row_lines tables r.tables) (end_line failed) ∙ append_assoc (fate_lines 1 r.fates) (order_lines r.order) (row_lines tables r.tables ++ end_line failed))

  module _ (a : List ℕ) (acks : Leaves ack_line (AcksFit calls n) 97 text a) where
    pub begins : BeginsWithFates calls a (order_lines r.order ++ (row_lines tables r.tables ++ end_line failed))
    begins = record {
      fates = r.fates;
      fit = t.report.fates;
      many = t.report.many;
      is = acks r.acks fates_rest (record { numbers = t.report.acked; vectors = t.report.vectors; once = t.report.acked_once }) text_is at_acks;
    }

    pub ends : (f o w : List ℕ) → ((more : List ℕ) → BeginsWithFates calls a more → f ≡ more) → Leaves order_line (All (IsCall calls)) 111 f o → Leaves (row_line tables) (RowsFit (length tables)) 114 o w → (failed' : Option ℕ) × IsEnd n failed' × (w ≡ end_line failed')
    ends f o w fates orders rows =
        let f_is : f ≡ order_lines r.order ++ rows_rest = fates (order_lines r.order ++ (row_lines tables r.tables ++ end_line failed)) begins in
        let o_is : o ≡ rows_rest = orders r.order rows_rest t.report.order f_is at_rows in
        (failed, t.ended, rows r.tables (end_line failed) (record { fit = t.report.rows; ascending = t.report.ascending }) o_is at_end)
