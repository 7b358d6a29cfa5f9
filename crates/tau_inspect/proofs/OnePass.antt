-- Numbers and lines that are read in one pass.
use Rattle.std.proofs.lemmas.Bool.Decides.{nat_tests}
use Rattle.std.proofs.Common.{ℕ, zero, suc, ◌==◌, ◌+◌, ◌-◌, ◌*◌, ◌^◌, ◌%◌, ◌<◌, ◌≤◌, ◌≡◌, inl, inr, Bool, true, false, pos, List, [], ◌∷◌, ◌++◌, length, take, drop, get_or, refl, sym, ap, subst, ◌∙◌, append_assoc, arith, Option}
use Rattle.std.specs.Prelude.{Some, None, IfSome, codes, slice_set}
use Rattle.std.specs.Fmt.{decimal}
use Rattle.std.proofs.Math.ListN.{length-set}
use Rattle.std.proofs.Common.{w64, to_z, add-one, mod-eq_of_lt}
use Rattle.std.proofs.lemmas.Fmt.{decimal_digit}
use Rattle.std.proofs.lemmas.Int.{to_z_pos}
use Rattle.std.proofs.lemmas.Nat.{mod_low}
use Rattle.tau_base.proofs.Logic.{below_or_not}
use Rattle.std.proofs.lemmas.List.{take_more, take_more_set, take_all}
use Rattle.tau_text.specs.Spelled.{is_digit, digits_after}
use Rattle.tau_text_laws.proofs.Unique.{first_digit}
use Rattle.tau_proc.specs.Meaning.{is_i64}
use Rattle.tau_proc.specs.declared.reply.Reply.TheVariants as reply
use Rattle.tau_base.specs.declared.value.Value.TheVariants.{Int}
use Rattle.tau_report.specs.declared.report.Fate.TheVariants.{Acked}
use Rattle.tau_report.specs.Lines.{vector_text}
use Rattle.tau_inspect.specs.declared.told.AckLine.{AckLine}
use Rattle.tau_inspect.specs.Bodies.{order_body, fate_body, ack_body, IsAck}
use Rattle.tau_inspect.specs.Parts.{commas}
use Rattle.tau_inspect.specs.ReportFor.{IsCall, IsFate, IsVector}
use Rattle.tau_inspect.specs.Sections.{IsLine}
use Rattle.tau_inspect.proofs.Spellings.{digits_push, pos_fits}
use Rattle.tau_inspect.proofs.ReadLines.{behind_whole}
use Rattle.tau_inspect.proofs.Cutting.{ReadTo, last_told}
use Rattle.tau_inspect.proofs.Leaving.{order_lacks, ack_lacks, fate_lacks}

-- ---- digits

zero_digit : (value : ℕ) → digits_after 0 (48 ∷ []) ≡ Some value → decimal value ≡ 48 ∷ []
unfolding digits_after
zero_digit value read = (let same : 0 ≡ value = cc in ap decimal (sym same) ∙ decimal_digit 0 (omega arith))

-- the digit of a word of one
one_digit : (b value : ℕ) → value < 10 ^ 18 → digits_after 0 (b ∷ []) ≡ Some value → decimal value ≡ b ∷ []
one_digit b value few read = by_test (b == 48) refl
  where
    by_test : (t : Bool) → (b == 48) ≡ t → decimal value ≡ b ∷ []
    by_test true t =
        let same : b ≡ 48 = grind (arith, nat_tests) in
        zero_digit value (subst (λ (c : ℕ). digits_after 0 (c ∷ []) ≡ Some value) same read) ∙ ap (λ (c : ℕ). c ∷ []) (sym same)
    by_test false t = (first_digit b value [] t (omega (arith, few)) read).0

one_told : (w : List ℕ) (value : ℕ) → length w ≡ 1 → value < 10 ^ 18 → digits_after 0 w ≡ Some value → decimal value ≡ w
one_told [] value long few read = absurd (omega (arith, long))
one_told (b ∷ []) value long few read = one_digit b value few read
one_told (b ∷ c ∷ w) value long few read = absurd (omega (arith, long))

more_told : (w : List ℕ) (value : ℕ) → 1 ≤ length w → (get_or w 0 0 == 48) ≡ false → value < 10 ^ 18 → digits_after 0 w ≡ Some value → decimal value ≡ w
more_told [] value some first few read = absurd (omega (arith, some))
more_told (b ∷ w) value some first few read = (first_digit b value w first (omega (arith, few)) read).0

first_taken : (count : ℕ) (text : List ℕ) → 1 ≤ count → get_or (take count text) 0 0 ≡ get_or text 0 0
first_taken zero text some = absurd (omega (arith, some))
first_taken (suc count) [] some = refl
first_taken (suc count) (b ∷ text) some = refl

-- digits, and what comes after them
cut_told : (text : List ℕ) (count value : ℕ) → decimal value ≡ take count text → text ≡ decimal value ++ take (length text - count) (drop count text)
cut_told text count value is = sym (ap (λ (l : List ℕ). l ++ take (length text - count) (drop count text)) is ∙ ap (λ (l : List ℕ). take count text ++ l) (behind_whole count text) ∙ take_drop count text)
  where
    take_drop : (n : ℕ) (l : List ℕ) → take n l ++ drop n l ≡ l
    take_drop zero l = refl
    take_drop (suc n) [] = refl
    take_drop (suc n) (x ∷ l) = ap (λ (r : List ℕ). x ∷ r) (take_drop n l)

pub spelled_one : (text : List ℕ) (count value : ℕ) → count ≤ length text → count ≡ 1 → value < 10 ^ 18 → digits_after 0 (take count text) ≡ Some value → text ≡ decimal value ++ take (length text - count) (drop count text)
spelled_one text count value within one few read = cut_told text count value (one_told (take count text) value (length_take count text within ∙ one) few read)
  where
    length_take : (n : ℕ) (l : List ℕ) → n ≤ length l → length (take n l) ≡ n
    length_take zero l le = refl
    length_take (suc n) [] le = absurd (omega (arith, le))
    length_take (suc n) (x ∷ l) le = ap suc (length_take n l (omega (arith, le)))

pub spelled_more : (text : List ℕ) (count value : ℕ) → count ≤ length text → 1 ≤ count → (get_or text 0 0 == 48) ≡ false → value < 10 ^ 18 → digits_after 0 (take count text) ≡ Some value → text ≡ decimal value ++ take (length text - count) (drop count text)
spelled_more text count value within some first few read =
    cut_told text count value (more_told (take count text) value (omega (arith, some, length_take count text within)) (ap (λ (b : ℕ). b == 48) (first_taken count text some) ∙ first) few read)
  where
    length_take : (n : ℕ) (l : List ℕ) → n ≤ length l → length (take n l) ≡ n
    length_take zero l le = refl
    length_take (suc n) [] le = absurd (omega (arith, le))
    length_take (suc n) (x ∷ l) le = ap suc (length_take n l (omega (arith, le)))

pub no_digits : (text : List ℕ) → digits_after 0 (take 0 text) ≡ Some 0
unfolding digits_after
no_digits text = refl

-- one digit more
pub digit_more : (text : List ℕ) (i value next b : ℕ) → i < length text → b ≡ get_or text i 0 → 48 ≤ b → b ≤ 57 → next ≡ value * 10 + b - 48 → digits_after 0 (take i text) ≡ Some value → digits_after 0 (take (i + 1) text) ≡ Some next
digit_more text i value next b lt at low high is read =
    let test : is_digit b ≡ true = grind (arith, nat_tests) in
    let same : value * 10 + (b - 48) ≡ next = omega (arith, low, is) in
    ap (digits_after 0) (take_more text i 0 lt ∙ ap (λ (c : ℕ). take i text ++ c ∷ []) (sym at)) ∙ digits_push (take i text) 0 value b read test ∙ ap (λ (n : ℕ). Some n) same

-- ---- vectors

-- the last component, and what comes after the line
pub last_more : (n : ℕ) (text : List ℕ) (j p : ℕ) (lv rest more : List ℕ) → suc j ≡ n → ReadTo n text j lv rest → rest ≡ decimal p ++ 10 ∷ more → text ≡ vector_text (slice_set lv j p) ++ 10 ∷ more
last_more n text j p lv rest more same r is =
    let b : j < length lv = omega (arith, same, r.long) in
    let whole : slice_set lv j p ≡ take j lv ++ p ∷ [] = sym (take_all (j + 1) (slice_set lv j p) (omega (arith, same, r.long, length-set lv j p))) ∙ take_more_set lv j p b in
    r.told ∙ ap (λ (l : List ℕ). commas (take j lv) ++ l) is ∙ sym (append_assoc (commas (take j lv)) (decimal p) (10 ∷ more))
    ∙ ap (λ (l : List ℕ). l ++ 10 ∷ more) (sym (ap vector_text whole ∙ last_told (take j lv) p))

-- ---- lines

pub some_then : {X : Type 0} (Q S : X → Type 0) (o : Option X) → ((x : X) → Q x → S x) → IfSome o Q → IfSome o S
some_then Q S None f m = tt
some_then Q S (Some x) f m = f x m

pub order_line_is : (calls k : ℕ) (text rest more : List ℕ) → calls < 2 ^ 32 → text ≡ codes "order " ++ rest → IsCall calls k → rest ≡ decimal k ++ 10 ∷ more → IsLine text (order_body k) more × IsCall calls k
order_line_is calls k text rest more small is call told = (record { is = is ∙ ap (λ (l : List ℕ). codes "order " ++ l) told; one = order_lacks calls small k call }, call)

pub ack_line_is : (calls n : ℕ) (a : AckLine) (text rest behind more : List ℕ) → calls < 2 ^ 32 → text ≡ codes "ack " ++ rest → rest ≡ decimal a.number ++ 32 ∷ behind → behind ≡ vector_text a.lv ++ 10 ∷ more → IsCall calls a.number → IsVector n a.lv →
    IsLine text (ack_body a) more × IsAck calls n a
ack_line_is calls n a text rest behind more small is numbered told call fits = (
  record {
    is = is ∙ ap (λ (l : List ℕ). codes "ack " ++ l) (numbered ∙ ap (λ (l : List ℕ). decimal a.number ++ 32 ∷ l) told ∙ sym (append_assoc (decimal a.number) (32 ∷ vector_text a.lv) (10 ∷ more)));
    one = ack_lacks calls n small (a.number, a.lv) (call, fits);
  },
  (call, fits),
)

pub reply_line_is : (k n : ℕ) (text rest behind more : List ℕ) → k < 2 ^ 64 → n < 10 ^ 18 → text ≡ codes "reply " ++ rest → rest ≡ decimal k ++ (codes " int " ++ behind) → behind ≡ decimal n ++ 10 ∷ more →
    IsLine text (fate_body k (Acked (reply.Ok (Int (pos n))))) more × IsFate (Acked (reply.Ok (Int (pos n))))
reply_line_is k n text rest behind more small few is numbered told = (
  record {
    is = is ∙ ap (λ (l : List ℕ). codes "reply " ++ l) (numbered ∙ ap (λ (l : List ℕ). decimal k ++ (codes " int " ++ l)) told ∙ sym (append_assoc (decimal k) (codes " int " ++ decimal n) (10 ∷ more)));
    one = fate_lacks k (Acked (reply.Ok (Int (pos n)))) small fits;
  },
  fits,
)
  where
    fits : is_i64 (pos n) ≡ true
    fits = pos_fits n (omega (arith, few))

-- ---- what a line says however it is spelled

pub line_is : {A : Type 0} (spell : A → List ℕ) (Fits : A → Type 0) (text line rest : List ℕ) (a : A) → IsLine text line rest → Fits a × (spell a ≡ line) → IsLine text (spell a) rest × Fits a
line_is {A} spell Fits text line rest a l read = (subst (λ (w : List ℕ). IsLine text w rest) (sym read.1) l, read.0)

-- ---- numbers of few digits

-- a byte less 48, as a number of 64 bits, is at most 9 only if the byte is a digit
pub digit_of : (b d : ℕ) → b < 2 ^ 64 → d ≡ (b + (2 ^ 64 - 48)) % 2 ^ 64 → d ≤ 9 → (48 ≤ b) × (b ≤ 57) × (d ≡ b - 48)
digit_of b d byte is low = elim (below_or_not b 48) [
  | inl less ↦
      let same : (b + (2 ^ 64 - 48)) % 2 ^ 64 ≡ b + (2 ^ 64 - 48) = mod-eq_of_lt (omega (arith, less)) in
      absurd (omega (arith, is, same, low))
  | inr ge ↦
      let split : b + (2 ^ 64 - 48) ≡ 1 * 2 ^ 64 + (b - 48) = omega (arith, ge) in
      let same : d ≡ b - 48 = is ∙ ap (λ (n : ℕ). n % 2 ^ 64) split ∙ mod_low 1 64 (b - 48) (omega (arith, byte)) in
      (ge, omega (arith, same, low, ge), same)
]

pub few_more : (value i d : ℕ) → d ≤ 9 → value < 10 ^ i → value * 10 + d < 10 ^ (i + 1)
few_more value i d high few =
    let more : value * 10 + d < 10 ^ suc i = omega (arith, high, few) in
    subst (λ (k : ℕ). value * 10 + d < 10 ^ k) (sym (add-one i)) more

pub few_signed : (n : ℕ) → n < 10 ^ 18 → to_z w64 n ≡ pos n
few_signed n few = to_z_pos w64 n (omega (arith, few))
