-- A text is that of one report.
use Rattle.std.proofs.Common.{ℕ, true, ◌+◌, ◌^◌, ◌<◌, ◌≤◌, ◌≡◌, ℤ, List, [], ◌∷◌, ◌++◌, get_or, length, refl, sym, ap, subst, ◌∙◌, append_assoc, arith, Option}
use Rattle.std.specs.Prelude.{Some, None, Ok, Result, All, codes}
use Rattle.std.specs.Fmt.{decimal, signed_decimal}
use Rattle.std.specs.List.{flat_map, AllByRecursion}
use Rattle.std.proofs.lemmas.List.{append_cancel_left}
use Rattle.std.proofs.lemmas.List.Concat.{flat_map-cons}
use Rattle.std.proofs.lemmas.List.Elements.{recursion_from_All}
use Rattle.tau_base.specs.declared.limits.TheConstants.{MAX_LSN, MAX_STREAMS}
use Rattle.tau_base.specs.declared.value.Key.{Key}
use Rattle.tau_base.specs.declared.value.Value.{Value}
use Rattle.tau_base.specs.declared.value.Value.TheVariants.{Absent, Int, Text}
use Rattle.tau_proc.specs.declared.reply.Reply.{Reply}
use Rattle.tau_proc.specs.declared.reply.Reply.TheVariants as reply
use Rattle.tau_text.specs.Canonical.{text_word}
use Rattle.tau_text.specs.Spelled.{literal, whole}
use Rattle.tau_text.specs.declared.fault.TextCause.{TextCause}
use Rattle.tau_report.specs.declared.report.Fate.{Fate}
use Rattle.tau_report.specs.declared.report.Fate.TheVariants.{Acked, Unsure, Unrun}
use Rattle.tau_report.specs.declared.report.RunReport.{RunReport}
use Rattle.tau_report.specs.Lines.{ack_line, order_line, row_line, end_line, value_text, reply_text, vector_text}
use Rattle.tau_report.specs.Report.{fate_lines, order_lines, row_lines}
use Rattle.tau_inspect.specs.Bodies.{order_body, fate_body, end_body, row_body, IsEnd}
use Rattle.tau_inspect.specs.Parts.{lacks}
use Rattle.tau_inspect.specs.ReportFor.{HasSpelling, IsCall, IsFate, IsReply, IsRow, IsVector}
use Rattle.tau_inspect.specs.RunText.{AreNames, IsTextOf}
use Rattle.tau_inspect.specs.Sections.{Apart}
use Rattle.tau_inspect.proofs.Cutting.{cut_one, decimal_lacks}
use Rattle.tau_inspect.proofs.Leaving.{ToldFits, told_body, ack_is, ack_lacks, ack_starts, fate_head, fate_lacks, order_lacks, order_same, row_lacks, row_same, row_value, both_all, text_is, at_acks, at_rows, at_end}
use Rattle.tau_inspect.proofs.ReadSections.{end_is, end_lacks}
use Rattle.tau_inspect.proofs.ReadWords.{number_same}
use Rattle.tau_inspect.proofs.Spellings.{whole_read}

value_one : (v w : Value) → HasSpelling v → HasSpelling w → value_text v ≡ value_text w → v ≡ w
value_one Absent Absent s t e = refl
value_one Absent (Int z) s t e = absurd (let at : 110 ≡ 105 = ap (λ (l : List ℕ). get_or l 0 0) e in omega (arith, at))
value_one Absent (Text u) s t e = absurd (let at : 110 ≡ 116 = ap (λ (l : List ℕ). get_or l 0 0) e in omega (arith, at))
value_one (Int y) Absent s t e = absurd (let at : 105 ≡ 110 = ap (λ (l : List ℕ). get_or l 0 0) e in omega (arith, at))
value_one (Int y) (Int z) s t e =
    let spelled : signed_decimal y ≡ signed_decimal z = append_cancel_left (codes "int ") (signed_decimal y) (signed_decimal z) e in
    let both : ◌≡◌ {A = Result ℤ TextCause} (Ok y) (Ok z) = sym (whole_read y s) ∙ ap whole spelled ∙ whole_read z t in
    let same : y ≡ z = cc in
    ap (λ (k : ℤ). Int k) same
value_one (Int y) (Text u) s t e = absurd (let at : 105 ≡ 116 = ap (λ (l : List ℕ). get_or l 0 0) e in omega (arith, at))
value_one (Text q) Absent s t e = absurd (let at : 116 ≡ 110 = ap (λ (l : List ℕ). get_or l 0 0) e in omega (arith, at))
value_one (Text q) (Int z) s t e = absurd (let at : 116 ≡ 105 = ap (λ (l : List ℕ). get_or l 0 0) e in omega (arith, at))
value_one (Text q) (Text u) s t e =
    let spelled : text_word q ≡ text_word u = append_cancel_left (codes "text ") (text_word q) (text_word u) e in
    let both : ◌≡◌ {A = Result Value TextCause} (Ok (Text q)) (Ok (Text u)) = sym s ∙ ap literal spelled ∙ t in
    cc

no_refusal : (v : Value) (l : List ℕ) → value_text v ≡ codes "refused " ++ l → ⊥
no_refusal Absent l e = (let at : 110 ≡ 114 = ap (λ (x : List ℕ). get_or x 0 0) e in omega (arith, at))
no_refusal (Int z) l e = (let at : 105 ≡ 114 = ap (λ (x : List ℕ). get_or x 0 0) e in omega (arith, at))
no_refusal (Text t) l e = (let at : 116 ≡ 114 = ap (λ (x : List ℕ). get_or x 0 0) e in omega (arith, at))

reply_one : (p q : Reply) → IsReply p → IsReply q → reply_text p ≡ reply_text q → p ≡ q
reply_one (reply.Ok v) (reply.Ok w) s t e = ap (λ (x : Value). reply.Ok x) (value_one v w s t e)
reply_one (reply.Ok v) (reply.Refused k) s t e = absurd (no_refusal v (decimal k) e)
reply_one (reply.Refused j) (reply.Ok w) s t e = absurd (no_refusal w (decimal j) (sym e))
reply_one (reply.Refused j) (reply.Refused k) s t e =
    ap (λ (x : ℕ). reply.Refused x) (number_same j k (decimal k) (omega (arith, s.1)) (omega (arith, t.1)) (append_cancel_left (codes "refused ") (decimal j) (decimal k) e) refl)

reply_cut : (k : ℕ) (p q : Reply) → IsReply p → IsReply q → decimal k ++ 32 ∷ reply_text p ≡ decimal k ++ 32 ∷ reply_text q → p ≡ q
reply_cut k p q s t e = reply_one p q s t (append_cancel_left (32 ∷ []) (reply_text p) (reply_text q) (append_cancel_left (decimal k) (32 ∷ reply_text p) (32 ∷ reply_text q) e))

fate_one : (k : ℕ) (f g : Fate) → IsFate f → IsFate g → fate_body k f ≡ fate_body k g → f ≡ g
fate_one k (Acked p) (Acked q) s t e = ap (λ (x : Reply). Acked x) (reply_cut k p q s t (append_cancel_left (codes "reply ") (decimal k ++ 32 ∷ reply_text p) (decimal k ++ 32 ∷ reply_text q) e))
fate_one k (Acked p) (Unsure q) s t e = absurd (let at : 114 ≡ 117 = ap (λ (l : List ℕ). get_or l 0 0) e in omega (arith, at))
fate_one k (Acked p) Unrun s t e = absurd (let at : 114 ≡ 117 = ap (λ (l : List ℕ). get_or l 0 0) e in omega (arith, at))
fate_one k (Unsure p) (Acked q) s t e = absurd (let at : 117 ≡ 114 = ap (λ (l : List ℕ). get_or l 0 0) e in omega (arith, at))
fate_one k (Unsure p) (Unsure q) s t e = ap (λ (x : Reply). Unsure x) (reply_cut k p q s t (append_cancel_left (codes "unsure ") (decimal k ++ 32 ∷ reply_text p) (decimal k ++ 32 ∷ reply_text q) e))
fate_one k (Unsure p) Unrun s t e = absurd (let at : 115 ≡ 114 = ap (λ (l : List ℕ). get_or l 2 0) e in omega (arith, at))
fate_one k Unrun (Acked q) s t e = absurd (let at : 117 ≡ 114 = ap (λ (l : List ℕ). get_or l 0 0) e in omega (arith, at))
fate_one k Unrun (Unsure q) s t e = absurd (let at : 114 ≡ 115 = ap (λ (l : List ℕ). get_or l 2 0) e in omega (arith, at))
fate_one k Unrun Unrun s t e = refl

vector_one : (v w : List ℕ) → length v ≡ length w → AllByRecursion (λ p. p < MAX_LSN) v → AllByRecursion (λ p. p < MAX_LSN) w → vector_text v ≡ vector_text w → v ≡ w
vector_one [] [] long a b e = refl
vector_one [] (q ∷ w) long a b e = absurd (omega (arith, long))
vector_one (p ∷ v) [] long a b e = absurd (omega (arith, long))
vector_one (p ∷ []) (q ∷ []) long a b e = (let same : p ≡ q = number_same p q (decimal q) (omega (arith, a.0)) (omega (arith, b.0)) e refl in ap (λ (x : ℕ). x ∷ []) same)
vector_one (p ∷ []) (q ∷ q' ∷ w) long a b e = absurd (omega (arith, long))
vector_one (p ∷ p' ∷ v) (q ∷ []) long a b e = absurd (omega (arith, long))
vector_one (p ∷ p' ∷ v) (q ∷ q' ∷ w) long a b e =
    let cut = cut_one 44 (decimal p) (decimal q) (vector_text (p' ∷ v)) (vector_text (q' ∷ w)) (decimal_lacks 44 p (omega arith) (omega (arith, a.0))) (decimal_lacks 44 q (omega arith) (omega (arith, b.0))) e in
    let same : p ≡ q = number_same p q (decimal q) (omega (arith, a.0)) (omega (arith, b.0)) cut.0 refl in
    let rest = vector_one (p' ∷ v) (q' ∷ w) (omega (arith, long)) a.1 b.1 cut.1 in
    λ i. same i ∷ rest i

-- lines of one kind, and what stands behind them
module _ {A : Type 0} (f body : A → List ℕ) (Fits : A → Type 0) (byte : ℕ)
    (is_line : (a : A) → f a ≡ body a ++ 10 ∷ []) (lack : (a : A) → Fits a → lacks 10 (body a) ≡ true) (starts : (a : A) (rest : List ℕ) → Apart byte (body a ++ rest) → ⊥)
    (one : (a b : A) → Fits a → Fits b → body a ≡ body b → a ≡ b) where
  first_is : (y : A) (ys : List A) (more : List ℕ) → flat_map f (y ∷ ys) ++ more ≡ body y ++ 10 ∷ (flat_map f ys ++ more)
  first_is y ys more =
      ap (λ (l : List ℕ). l ++ more) (flat_map-cons f y ys ∙ ap (λ (l : List ℕ). l ++ flat_map f ys) (is_line y))
      ∙ append_assoc (body y ++ 10 ∷ []) (flat_map f ys) more ∙ append_assoc (body y) (10 ∷ []) (flat_map f ys ++ more)

  lines_one : (xs ys : List A) (more other : List ℕ) → AllByRecursion Fits xs → AllByRecursion Fits ys → Apart byte more → Apart byte other → flat_map f xs ++ more ≡ flat_map f ys ++ other → (xs ≡ ys) × (more ≡ other)
  lines_one [] [] more other s t p q e = (refl, e)
  lines_one [] (y ∷ ys) more other s t p q e = absurd (starts y (10 ∷ (flat_map f ys ++ other)) (subst (Apart byte) (e ∙ first_is y ys other) p))
  lines_one (x ∷ xs) [] more other s t p q e = absurd (starts x (10 ∷ (flat_map f xs ++ more)) (subst (Apart byte) (sym e ∙ first_is x xs more) q))
  lines_one (x ∷ xs) (y ∷ ys) more other s t p q e =
      let cut = cut_one 10 (body x) (body y) (flat_map f xs ++ more) (flat_map f ys ++ other) (lack x s.0) (lack y t.0) (sym (first_is x xs more) ∙ e ∙ first_is y ys other) in
      let same = one x y s.0 t.0 cut.0 in
      let rest = lines_one xs ys more other s.1 t.1 p q cut.1 in
      ((λ i. same i ∷ rest.0 i), rest.1)

fates_one : (k : ℕ) (fs gs : List Fate) (more other : List ℕ) → k + length fs < 2 ^ 64 → length fs ≡ length gs → AllByRecursion IsFate fs → AllByRecursion IsFate gs → fate_lines k fs ++ more ≡ fate_lines k gs ++ other → (fs ≡ gs) × (more ≡ other)
fates_one k [] [] more other lt long s t e = (refl, e)
fates_one k [] (g ∷ gs) more other lt long s t e = absurd (omega (arith, long))
fates_one k (f ∷ fs) [] more other lt long s t e = absurd (omega (arith, long))
fates_one k (f ∷ fs) (g ∷ gs) more other lt long s t e =
    let cut = cut_one 10 (fate_body k f) (fate_body k g) (fate_lines (k + 1) fs ++ more) (fate_lines (k + 1) gs ++ other) (fate_lacks k f (omega (arith, lt)) s.0) (fate_lacks k g (omega (arith, lt)) t.0) (sym (fate_head k f fs more) ∙ e ∙ fate_head k g gs other) in
    let same = fate_one k f g s.0 t.0 cut.0 in
    let rest = fates_one (k + 1) fs gs more other (omega (arith, lt)) (omega (arith, long)) s.1 t.1 cut.1 in
    ((λ i. same i ∷ rest.0 i), rest.1)

end_one : (n : ℕ) (p q : Option ℕ) → n < 2 ^ 8 → IsEnd n p → IsEnd n q → end_line p ≡ end_line q → p ≡ q
end_one n None None small s t e = refl
end_one n None (Some j) small s t e = absurd (let at : 48 ≡ 54 = ap (λ (l : List ℕ). get_or l 4 0) e in omega (arith, at))
end_one n (Some i) None small s t e = absurd (let at : 54 ≡ 48 = ap (λ (l : List ℕ). get_or l 4 0) e in omega (arith, at))
end_one n (Some i) (Some j) small s t e =
    let cut = cut_one 10 (end_body (Some i)) (end_body (Some j)) [] [] (end_lacks n (Some i) small s) (end_lacks n (Some j) small t) (sym (end_is (Some i)) ∙ e ∙ end_is (Some j)) in
    ap (λ (k : ℕ). Some k) (number_same i j (decimal j) (omega (arith, s, small)) (omega (arith, t, small)) (append_cancel_left (codes "end 6 ") (decimal i) (decimal j) cut.0) refl)

module _ (tables : List (List ℕ)) (n calls : ℕ) (names : AreNames tables) (few : n ≤ MAX_STREAMS) (small : calls < 2 ^ 32) where
  told_one : (a b : ℕ × List ℕ) → ToldFits calls n a → ToldFits calls n b → told_body a ≡ told_body b → a ≡ b
  told_one a b s t e =
      let spelled : decimal a.0 ++ 32 ∷ vector_text a.1 ≡ decimal b.0 ++ 32 ∷ vector_text b.1 = append_cancel_left (codes "ack ") (decimal a.0 ++ 32 ∷ vector_text a.1) (decimal b.0 ++ 32 ∷ vector_text b.1) e in
      let cut = cut_one 32 (decimal a.0) (decimal b.0) (vector_text a.1) (vector_text b.1) (decimal_lacks 32 a.0 (omega arith) (omega (arith, small, s.0.1))) (decimal_lacks 32 b.0 (omega arith) (omega (arith, small, t.0.1))) spelled in
      let same : a.0 ≡ b.0 = number_same a.0 b.0 (decimal b.0) (omega (arith, small, s.0.1)) (omega (arith, small, t.0.1)) cut.0 refl in
      let lv = vector_one a.1 b.1 (s.1.long ∙ sym t.1.long) (recursion_from_All (λ p. p < MAX_LSN) a.1 s.1.small) (recursion_from_All (λ p. p < MAX_LSN) b.1 t.1.small) cut.1 in
      λ i. (same i, lv i)

  row_one : (a b : Key × Value) → IsRow (length tables) a → IsRow (length tables) b → row_body tables a ≡ row_body tables b → a ≡ b
  row_one a b s t e =
      let key = row_same tables names a b (row_body tables b) s t e refl in
      let value = value_one a.1 b.1 s.spelled t.spelled (row_value tables names a b s t e) in
      λ i. (key i, value i)

  acks_fit : (acks : List (ℕ × List ℕ)) → All (λ (b : ℕ × List ℕ). IsCall calls b.0) acks → All (λ (b : ℕ × List ℕ). IsVector n b.1) acks → AllByRecursion (ToldFits calls n) acks
  acks_fit acks p q = both_all (λ (b : ℕ × List ℕ). IsCall calls b.0) (λ (b : ℕ × List ℕ). IsVector n b.1) acks (recursion_from_All (λ (b : ℕ × List ℕ). IsCall calls b.0) acks p) (recursion_from_All (λ (b : ℕ × List ℕ). IsVector n b.1) acks q)

  pub report_one : (text : List ℕ) (r q : RunReport) (failed other : Option ℕ) → IsTextOf tables n calls r failed text → IsTextOf tables n calls q other text → (r ≡ q) × (failed ≡ other)
  report_one text r q failed other s t =
      let rows_r = row_lines tables r.tables ++ end_line failed in let rows_q = row_lines tables q.tables ++ end_line other in
      let orders_r = order_lines r.order ++ rows_r in let orders_q = order_lines q.order ++ rows_q in
      let acks =
      lines_one ack_line told_body (ToldFits calls n) 97 (ack_is calls n small) (ack_lacks calls n small) (ack_starts calls n small) told_one r.acks q.acks (fate_lines 1 r.fates ++ orders_r) (fate_lines 1 q.fates ++ orders_q)
      (acks_fit r.acks s.report.acked s.report.vectors) (acks_fit q.acks t.report.acked t.report.vectors) (at_acks tables n calls text r failed s) (at_acks tables n calls text q other t)
      (sym (text_is tables n calls text r failed s) ∙ text_is tables n calls text q other t) in
      let fates = fates_one 1 r.fates q.fates orders_r orders_q (omega (arith, small, s.report.many)) (s.report.many ∙ sym t.report.many) (recursion_from_All IsFate r.fates s.report.fates) (recursion_from_All IsFate q.fates t.report.fates) acks.1 in
      let order =
      lines_one order_line order_body (IsCall calls) 111 (λ a. refl) (order_lacks calls small) (λ a l p. p refl) (λ a b p w e. order_same calls small a b (order_body b) p w e refl) r.order q.order rows_r rows_q
      (recursion_from_All (IsCall calls) r.order s.report.order) (recursion_from_All (IsCall calls) q.order t.report.order) (at_rows tables n calls text r failed s) (at_rows tables n calls text q other t) fates.1 in
      let rows =
      lines_one (row_line tables) (row_body tables) (IsRow (length tables)) 114 (λ a. refl) (row_lacks tables names) (λ a l p. p refl) row_one r.tables q.tables (end_line failed) (end_line other)
      (recursion_from_All (IsRow (length tables)) r.tables s.report.rows) (recursion_from_All (IsRow (length tables)) q.tables t.report.rows) (at_end tables n calls text r failed s) (at_end tables n calls text q other t) order.1 in
      ((λ i. record { acks = acks.0 i; fates = fates.0 i; order = order.0 i; tables = rows.0 i }), end_one n failed other (omega (arith, few)) s.ended t.ended rows.1)
