-- Lines of a text, one after the other.
use Rattle.std.proofs.Common.{◌≡◌, ℕ, ◌+◌, ◌-◌, ◌≤◌, ◌<◌, true, false, nat_le, List, [], ◌∷◌, length, take, None, Result, Ok, Err, IsUtf8, refl, sym, ap, ◌∙◌, arith}
use Rattle.std.proofs.lemmas.Grind.{common_steps}
use Rattle.std.proofs.lemmas.List.{length-take-le}
use Rattle.std.proofs.lemmas.Str.{is_utf8-from_IsUtf8}
use Rattle.std.specs.Str.{is_utf8}
use Rattle.tau_base.specs.declared.limits.TheConstants.{MAX_WORKLOAD}
use Rattle.tau_text.specs.declared.reading.Reading.{Reading}
use Rattle.tau_text.specs.declared.fault.TextCause.{TextCause}
use Rattle.tau_text.specs.declared.fault.TextCause.TheVariants.{TooMany}
use Rattle.tau_text.specs.declared.fault.LineRefusal.{LineRefusal}
use Rattle.tau_text.specs.declared.fault.LineRefusal.TheVariants as of_lines
use Rattle.tau_text.specs.declared.fault.TextFault.{TextFault}
use Rattle.tau_text.specs.declared.heads.Head.{Head}
use Rattle.tau_text.specs.Lines.{lines, body}
use Rattle.tau_text.specs.Given.{Fails, ◌>>=◌}
use Rattle.tau_text.specs.Forms.{head}
use Rattle.tau_text.specs.Quick.{IsLineRead, IsLineBad}
use Rattle.tau_text.specs.Text.{line_read, lines_read, statement_read, outer_read, is_before, placed}
use Rattle.tau_text.specs.Kept.{Misses, refusal}
use Rattle.tau_text.proofs.Names.{not_utf8}

pub utf8_yes : (bs : List ℕ) → IsUtf8 bs → is_utf8 bs ≡ true
utf8_yes bs h = is_utf8-from_IsUtf8 bs h

pub utf8_no : (bs : List ℕ) → ¬ (IsUtf8 bs) → is_utf8 bs ≡ false
utf8_no bs h = not_utf8 bs (is_utf8 bs) refl h

fits : (n : ℕ) → n ≤ MAX_WORKLOAD → nat_le n MAX_WORKLOAD ≡ true
fits n h = grind (arith, common_steps)

passes : (n : ℕ) → MAX_WORKLOAD < n → nat_le n MAX_WORKLOAD ≡ false
passes n h = grind (arith, common_steps)

-- where the next line ends, of the text t of which r is left
past_line : (t r a l : List ℕ) → length l + length a ≡ length r → length r ≤ length t → length t - length r + length l ≡ length t - length a
past_line t r a l long le = omega (arith, long, le)

pub reads_on : (s u : Reading) (n : ℕ) (t r a : List ℕ) → IsLineRead s n r u a → length r ≤ length t → length t - length a ≤ MAX_WORKLOAD
    → lines_read s n (length t - length r) (lines r) ≡ lines_read u (n + 1) (length t - length a) (lines a)
unfolding lines_read
reads_on s u n t r a q le small = rw (q.cut, q.read, past_line t r a q.line q.long le, fits (length t - length a) small) refl

pub reads_bad : (e : LineRefusal) (s : Reading) (n past : ℕ) (r : List ℕ) (total : Result Reading TextFault) → IsLineBad e s n r → lines_read s n past (lines r) ≡ total → Misses (refusal n e) total
unfolding lines_read
reads_bad of_lines.Memory s n past r total q so_far = tt
reads_bad (of_lines.Cause cause) s n past r total q so_far =
    let one : lines_read s n past (lines r) ≡ Err (record { line = n; cause = cause }) = rw (q.cut, q.fails) refl in
    sym so_far ∙ one

pub reads_long : (s u : Reading) (n : ℕ) (t r a : List ℕ) → IsLineRead s n r u a → length r ≤ length t → MAX_WORKLOAD < length t - length a
    → lines_read s n (length t - length r) (lines r) ≡ Err (record { line = n; cause = TooMany })
unfolding lines_read
reads_long s u n t r a q le large = rw (q.cut, q.read, past_line t r a q.line q.long le, passes (length t - length a) large) refl

-- a line read the slow way
pub slow_line : (s u : Reading) (n : ℕ) (text line rest : List ℕ) → lines text ≡ take (length text - length rest) text ∷ lines rest → body (take (length text - length rest) text) ≡ line → (IsUtf8 text → IsUtf8 line × IsUtf8 rest) → length rest < length text → line_read s n line ≡ Ok u → IsLineRead s n text u rest
slow_line s u n text line rest cut inside utf8 shorter read =
    let long : length (take (length text - length rest) text) ≡ length text - length rest = length-take-le (length text - length rest) text (omega arith) in
    record {
      line = take (length text - length rest) text;
      cut = cut;
      read = ap (line_read s n) inside ∙ read;
      some = omega (arith, long, shorter);
      long = omega (arith, long, shorter);
      utf8 = λ h. (utf8 h).1;
    }

pub slow_bad : (e : LineRefusal) (s : Reading) (n : ℕ) (text line rest : List ℕ) → lines text ≡ take (length text - length rest) text ∷ lines rest → body (take (length text - length rest) text) ≡ line → Fails e (line_read s n line) → IsLineBad e s n text
slow_bad of_lines.Memory s n text line rest cut inside fails = tt
slow_bad (of_lines.Cause cause) s n text line rest cut inside fails = record {
  line = take (length text - length rest) text;
  more = lines rest;
  cut = cut;
  fails = ap (line_read s n) inside ∙ fails;
}

goes : {A B : Type 0} (r : Result A TextCause) (x : A) (f : A → Result B TextCause) → r ≡ Ok x → (r >>= f) ≡ f x
goes r x f e = rw e refl

pub statement_outside : (s : Reading) (n : ℕ) (w : List ℕ) (ws : List (List ℕ)) (h : Head) → head w ≡ Ok h → is_before h s ≡ true → statement_read s n None w ws ≡ outer_read s n h (w ∷ ws) ws
unfolding statement_read
statement_outside s n w ws h g b =
    let p : placed s h ≡ Ok h = rw b refl in
    goes (head w) h (λ k. placed s k >>= λ here. outer_read s n here (w ∷ ws) ws) g
    ∙ goes (placed s h) h (λ here. outer_read s n here (w ∷ ws) ws) p

pub reads_end : (s : Reading) (n past : ℕ) (text : List ℕ) → length text ≡ 0 → lines_read s n past (lines text) ≡ Ok s
unfolding lines_read lines
reads_end s n past [] e = refl
reads_end s n past (b ∷ bs) e = absurd (omega arith)
