-- The sections of a report, one line after another.
use Rattle.std.proofs.lemmas.Bool.Decides.{nat_tests}
use Rattle.std.proofs.Common.{ℕ, ◌==◌, ◌-◌, ◌≤◌, get_or, take, zero, suc, ◌+◌, ◌^◌, ◌<◌, ◌≡◌, Bool, true, false, List, [], ◌∷◌, ◌++◌, length, map, refl, sym, ap, subst, ◌∙◌, ◌⊎◌, inl, inr, append_assoc, arith, Option}
use Rattle.std.specs.Prelude.{Some, None, slice_get}
use Rattle.std.specs.List.{flat_map, AllByRecursion}
use Rattle.std.specs.List.Sorted.{IsStrictlySortedBy}
use Rattle.std.specs.declared.cmp.Ordering.TheVariants.{Less}
use Rattle.std.proofs.lemmas.Bool.{both_ways}
use Rattle.std.proofs.lemmas.Grind.{flat_map-append}
use Rattle.std.proofs.lemmas.List.{append-nil, map_push, take_all, take_more}
use Rattle.std.proofs.lemmas.List.Concat.{flat_map-cons}
use Rattle.std.proofs.lemmas.List.Elements.{All-nil, All-push}
use Rattle.tau_base.specs.declared.value.Key.{Key}
use Rattle.tau_base.specs.declared.value.Value.{Value}
use Rattle.tau_base.specs.Database.{key_cmp}
use Rattle.tau_proc.proofs.Ascending.{key_total}
use Rattle.tau_report.specs.declared.report.Fate.{Fate}
use Rattle.tau_report.specs.declared.report.Fate.TheVariants.{Acked, Unsure, Unrun}
use Rattle.tau_report.specs.declared.report.RunReport.{RunReport}
use Rattle.tau_report.specs.Lines.{ack_line, fate_line, order_line, row_line, end_line}
use Rattle.tau_report.specs.Report.{ack_lines, fate_lines, order_lines, row_lines}
use Rattle.tau_inspect.specs.declared.told.AckLine.{AckLine}
use Rattle.tau_inspect.specs.Bodies.{order_body, fate_body, end_body, ack_body, row_body, IsEnd, IsAck}
use Rattle.tau_inspect.specs.ByNumber.{is_in, IsUnique}
use Rattle.tau_inspect.specs.Parts.{lacks}
use Rattle.tau_inspect.specs.ReportFor.{IsCall, IsFate, IsRow, IsVector}
use Rattle.tau_inspect.specs.RunText.{IsTextOf}
use Rattle.tau_inspect.specs.Sections.{IsLine, AreAcks, AreFates, AreOrders, AreRows, IsAbove}
use Rattle.tau_inspect.proofs.Acts.{in_get, none_some}
use Rattle.tau_inspect.proofs.Cutting.{cut_one, decimal_lacks}
use Rattle.tau_base.proofs.Logic.{some_is}

-- ---- the bodies of lines

pub fate_is : (k : ℕ) (f : Fate) → fate_line k f ≡ fate_body k f ++ 10 ∷ []
fate_is k (Acked r) = refl
fate_is k (Unsure r) = refl
fate_is k Unrun = refl

pub end_is : (failed : Option ℕ) → end_line failed ≡ end_body failed ++ 10 ∷ []
end_is None = refl
end_is (Some j) = refl

-- ---- one more line

line_more : {A : Type 0} (f : A → List ℕ) (text : List ℕ) (xs : List A) (x : A) (rest line behind : List ℕ) → text ≡ flat_map f xs ++ rest → IsLine rest line behind → f x ≡ line ++ 10 ∷ [] → text ≡ flat_map f (xs ++ x ∷ []) ++ behind
line_more {A} f text xs x rest line behind told l is =
    let last : flat_map f (x ∷ []) ≡ line ++ 10 ∷ [] = flat_map-cons f x [] ∙ append-nil (f x) ∙ is in
    told ∙ ap (λ (t : List ℕ). flat_map f xs ++ t) (l.is ∙ sym (append_assoc line (10 ∷ []) behind) ∙ ap (λ (t : List ℕ). t ++ behind) (sym last))
    ∙ sym (append_assoc (flat_map f xs) (flat_map f (x ∷ [])) behind) ∙ ap (λ (t : List ℕ). t ++ behind) (sym (flat_map-append f xs (x ∷ [])))

-- ---- acknowledgements

push_get : (xs : List ℕ) (k m i : ℕ) → slice_get (xs ++ k ∷ []) i ≡ Some m → (slice_get xs i ≡ Some m) ⊎ ((i ≡ length xs) × (m ≡ k))
push_get [] k m zero e = inr (refl, sym (some_is k m e))
push_get [] k m (suc i) e = absurd (none_some m e)
push_get (y ∷ ys) k m zero e = inl e
push_get (y ∷ ys) k m (suc i) e = elim (push_get ys k m i e) [
  | inl p ↦ inl p
  | inr p ↦ inr (ap suc p.0, p.1)
]

not_there : (xs : List ℕ) (k m i : ℕ) → is_in k xs ≡ false → slice_get xs i ≡ Some m → m ≡ k → ⊥
not_there xs k m i none e same = both_ways (is_in k xs) none (in_get k xs i (e ∙ ap (λ (n : ℕ). Some n) same))

unique_push : (xs : List ℕ) (k : ℕ) → IsUnique xs → is_in k xs ≡ false → IsUnique (xs ++ k ∷ [])
unique_push xs k u none = λ i j m p q. elim (push_get xs k m i p) [
  | inl a ↦ elim (push_get xs k m j q) [
    | inl b ↦ u i j m a b
    | inr b ↦ absurd (not_there xs k m i none a b.1)
  ]
  | inr a ↦ elim (push_get xs k m j q) [
    | inl b ↦ absurd (not_there xs k m j none b a.1)
    | inr b ↦ a.0 ∙ sym b.0
  ]
]

pub ack_more : (calls n : ℕ) (text : List ℕ) (acks : List (ℕ × List ℕ)) (rest line behind : List ℕ) (a : AckLine) → AreAcks calls n text acks rest → IsLine rest line behind → IsAck calls n a → ack_body a ≡ line → is_in a.number (map (λ (b : ℕ × List ℕ). b.0) acks) ≡ false →
    AreAcks calls n text (acks ++ (a.number, a.lv) ∷ []) behind
ack_more calls n text acks rest line behind a are l fits e new = record {
  told = line_more ack_line text acks (a.number, a.lv) rest line behind are.told l (ap (λ (t : List ℕ). t ++ 10 ∷ []) e);
  numbers = All-push (λ b. IsCall calls b.0) acks (a.number, a.lv) are.numbers fits.0;
  vectors = All-push (λ b. IsVector n b.1) acks (a.number, a.lv) are.vectors fits.1;
  once = subst IsUnique (sym (map_push (λ (b : ℕ × List ℕ). b.0) acks (a.number, a.lv))) (unique_push (map (λ (b : ℕ × List ℕ). b.0) acks) a.number are.once new);
}

-- ---- what became of the calls

fates_push : (k : ℕ) (fs : List Fate) (f : Fate) → fate_lines k (fs ++ f ∷ []) ≡ fate_lines k fs ++ fate_line (k + length fs) f
fates_push k [] f = append-nil (fate_line k f) ∙ ap (λ (j : ℕ). fate_line j f) (omega arith)
fates_push k (g ∷ gs) f =
    ap (λ (t : List ℕ). fate_line k g ++ t) (fates_push (k + 1) gs f ∙ ap (λ (j : ℕ). fate_lines (k + 1) gs ++ fate_line j f) (omega arith))
    ∙ sym (append_assoc (fate_line k g) (fate_lines (k + 1) gs) (fate_line (k + suc (length gs)) f))

pub fate_more : (text : List ℕ) (fs : List Fate) (rest line behind : List ℕ) (f : Fate) (k : ℕ) → AreFates text fs rest → IsLine rest line behind → IsFate f → k ≡ length fs + 1 → fate_body k f ≡ line → AreFates text (fs ++ f ∷ []) behind
fate_more text fs rest line behind f k are l fits at e = record {
  told =
      let same : k ≡ 1 + length fs = omega (arith, at) in
      let last : fate_line (1 + length fs) f ≡ line ++ 10 ∷ [] = ap (λ (j : ℕ). fate_line j f) (sym same) ∙ fate_is k f ∙ ap (λ (t : List ℕ). t ++ 10 ∷ []) e in
      are.told ∙ ap (λ (t : List ℕ). fate_lines 1 fs ++ t) (l.is ∙ sym (append_assoc line (10 ∷ []) behind) ∙ ap (λ (t : List ℕ). t ++ behind) (sym last))
      ∙ sym (append_assoc (fate_lines 1 fs) (fate_line (1 + length fs) f) behind) ∙ ap (λ (t : List ℕ). t ++ behind) (sym (fates_push 1 fs f));
  fit = All-push IsFate fs f are.fit fits;
}

-- ---- rows

abbrev keys : List (Key × Value) → List Key
keys rows = map (λ (row : Key × Value). row.0) rows

all_push : (key : Key) (rows : List (Key × Value)) (x : Key × Value) → AllByRecursion (λ k. key_cmp key k ≡ Less) (keys rows) → key_cmp key x.0 ≡ Less → AllByRecursion (λ k. key_cmp key k ≡ Less) (keys (rows ++ x ∷ []))
all_push key [] x a p = (p, tt)
all_push key (r ∷ rs) x a p = (a.0, all_push key rs x a.1 p)

last_of : (key : Key) (rows : List (Key × Value)) (x : Key × Value) → AllByRecursion (λ k. key_cmp key k ≡ Less) (keys (rows ++ x ∷ [])) → key_cmp key x.0 ≡ Less
last_of key [] x a = a.0
last_of key (r ∷ rs) x a = last_of key rs x a.1

sorted_push : (rows : List (Key × Value)) (x : Key × Value) → IsStrictlySortedBy key_cmp (keys rows) → IsAbove rows x.0 → IsStrictlySortedBy key_cmp (keys (rows ++ x ∷ []))
unfolding IsStrictlySortedBy
sorted_push [] x s above = (tt, tt)
sorted_push (r ∷ []) x s above = ((above [] r refl, tt), (tt, tt))
sorted_push (r ∷ q ∷ rs) x s above =
    let more = sorted_push (q ∷ rs) x s.1 (λ front last e. above (r ∷ front) last (ap (λ (l : List (Key × Value)). r ∷ l) e)) in
    (all_push r.0 (q ∷ rs) x s.0 (key_total.trans r.0 q.0 x.0 s.0.0 (last_of q.0 rs x more.0)), more)

pub row_more : (tables : List (List ℕ)) (text : List ℕ) (rows : List (Key × Value)) (rest line behind : List ℕ) (row : Key × Value) → AreRows tables text rows rest → IsLine rest line behind → IsRow (length tables) row → row_body tables row ≡ line → IsAbove rows row.0 →
    AreRows tables text (rows ++ row ∷ []) behind
row_more tables text rows rest line behind row are l fits e above = record {
  told = line_more (row_line tables) text rows row rest line behind are.told l (ap (λ (t : List ℕ). t ++ 10 ∷ []) e);
  fit = All-push (IsRow (length tables)) rows row are.fit fits;
  ascending = sorted_push rows row are.ascending above;
}

-- ---- the end

pub end_lacks : (streams : ℕ) (failed : Option ℕ) → streams < 2 ^ 8 → IsEnd streams failed → lacks 10 (end_body failed) ≡ true
end_lacks streams None small fits = refl
end_lacks streams (Some j) small fits = decimal_lacks 10 j (omega arith) (omega (arith, small, fits))

module _ (streams : ℕ) (text line rest : List ℕ) (small : streams < 2 ^ 8) (l : IsLine text line rest) (failed : Option ℕ) (fits : IsEnd streams failed) where
  pub end_starts : (tail : List ℕ) → text ≡ end_line failed ++ tail → end_body failed ≡ line
  end_starts tail e =
      let spelled : end_body failed ++ 10 ∷ tail ≡ line ++ 10 ∷ rest = sym (append_assoc (end_body failed) (10 ∷ []) tail) ∙ ap (λ (t : List ℕ). t ++ tail) (sym (end_is failed)) ∙ sym e ∙ l.is in
      (cut_one 10 (end_body failed) line tail rest (end_lacks streams failed small fits) l.one spelled).0

pub empty_is : (l : List ℕ) (b : Bool) → b ≡ (length l == 0) → b ≡ true → l ≡ []
empty_is [] b is t = refl
empty_is (x ∷ xs) b is t = absurd (let test : (length (x ∷ xs) == 0) ≡ false = grind (arith, nat_tests) in both_ways b (is ∙ test) t)

-- ---- the whole report

pub report_told : (tables : List (List ℕ)) (n calls : ℕ) (text : List ℕ) (r : RunReport) (a f o w : List ℕ) → AreAcks calls n text r.acks a → length r.fates ≡ calls → AreFates a r.fates f → AreOrders calls f r.order o → AreRows tables o r.tables w →
    (failed : Option ℕ) × IsEnd n failed × (w ≡ end_line failed) → (failed : Option ℕ) × IsTextOf tables n calls r failed text
report_told tables n calls text r a f o w acks many fates orders rows end = (
  end.0,
  record {
    report = record { acked = acks.numbers; vectors = acks.vectors; acked_once = acks.once; many = many; fates = fates.fit; order = orders.numbers; rows = rows.fit; ascending = rows.ascending };
    ended = end.1;
    is =
        acks.told ∙ ap (λ (t : List ℕ). ack_lines r.acks ++ t)
        (fates.told ∙ ap (λ (t : List ℕ). fate_lines 1 r.fates ++ t) (orders.told ∙ ap (λ (t : List ℕ). order_lines r.order ++ t) (rows.told ∙ ap (λ (t : List ℕ). row_lines tables r.tables ++ t) end.2))
        ∙ sym (append_assoc (fate_lines 1 r.fates) (order_lines r.order) (row_lines tables r.tables ++ end_line end.0))
        ∙ sym (append_assoc (fate_lines 1 r.fates ++ order_lines r.order) (row_lines tables r.tables) (end_line end.0)));
  },
)

pub no_rows : (tables : List (List ℕ)) (text : List ℕ) → AreRows tables text [] text
unfolding IsStrictlySortedBy
no_rows tables text = record { told = refl; fit = All-nil (IsRow (length tables)); ascending = tt }

pub no_orders : (calls : ℕ) (text : List ℕ) → AreOrders calls text [] text
no_orders calls text = record { told = refl; numbers = All-nil (IsCall calls) }

pub order_more : (calls : ℕ) (text order rest line behind : List ℕ) (k : ℕ) → AreOrders calls text order rest → IsLine rest line behind → IsCall calls k → order_body k ≡ line → AreOrders calls text (order ++ k ∷ []) behind
order_more calls text order rest line behind k are l call e = record {
  told = line_more order_line text order k rest line behind are.told l (ap (λ (t : List ℕ). t ++ 10 ∷ []) e);
  numbers = All-push (IsCall calls) order k are.numbers call;
}

-- the last row of a list
pub last_split : (rows : List (Key × Value)) (d : Key × Value) → 1 ≤ length rows → d ≡ get_or rows (length rows - 1) d → (front : List (Key × Value)) × (rows ≡ front ++ d ∷ [])
last_split rows d some is =
    let j : ℕ = length rows - 1 in
    (take j rows, sym (take_all (j + 1) rows (omega (arith, some))) ∙ take_more rows j d (omega (arith, some)) ∙ ap (λ (r : Key × Value). take j rows ++ r ∷ []) (sym is))
