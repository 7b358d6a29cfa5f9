-- Values and writes: what is read is spelled so, and what is spelled so is read.
use Rattle.std.proofs.Common.{◌≡◌, ℕ, zero, suc, ◌^◌, ◌<◌, ◌≤◌, Bool, true, false, cond, ltb, List, [], ◌∷◌, ◌++◌, length, take, drop, Option, Some, None, Result, Ok, Err, refl, sym, ap, subst, ◌∙◌, append_assoc, arith}
use Rattle.std.specs.Int.{w16, w64, to_be_bytes, cast_unsigned, cast_signed}
use Rattle.std.specs.Prelude.{FitsSigned, ℤ, IsSome, IfSome}
use borrow.Author.Gap.{read_sfits}
use mir.ValLaws.{of_z_fits}
use Rattle.std.specs.List.{flat_map, AllByRecursion}
use Rattle.std.specs.Str.{IsUtf8, is_utf8}
use Rattle.std.proofs.lemmas.Str.{IsUtf8-from_is_utf8, is_utf8-from_IsUtf8}
use Rattle.std.proofs.lemmas.Int.{of_z-to_z, to_z-of_z}
use Rattle.std.proofs.lemmas.Bool.{ltb-false, le-ltb}
use Rattle.std.proofs.lemmas.List.{take_at, drop_at, take-append-drop, length-append, length-take}
use Rattle.std.proofs.lemmas.List.Concat.{flat_map-cons}
use Rattle.tau_base.specs.declared.value.Key.{Key}
use Rattle.tau_base.specs.declared.value.Value.{Value}
use Rattle.tau_base.specs.declared.value.Value.TheVariants.{Absent, Int, Text}
use Rattle.tau_record.specs.declared.fault.RecordCause.{RecordCause}
use Rattle.tau_record.specs.declared.fault.RecordCause.TheVariants.{BadLength, BadBody}
use Rattle.tau_record.specs.Field.{◌>>=◌, number_at}
use Rattle.std.specs.FinMap.Entries.{is_sorted, below_all}
use Rattle.std.specs.Cmp.{IsTotalOrder, then_total, on_total, nat_cmp_total, int_cmp_total}
use Rattle.std.specs.Ordering.{is_lt}
use Rattle.std.specs.declared.cmp.Ordering.{Ordering}
use Rattle.std.specs.declared.cmp.Ordering.TheVariants.{Less, Equal, Greater}
use Rattle.std.proofs.lemmas.Bool.{and_from, and_parts}
use Rattle.tau_base.specs.Database.{key_cmp}
use Rattle.tau_record.specs.Item.{value, FitsValue, key, FitsKey, write, FitsWrite, follows, text_at, value_at, key_at, write_at, writes_at, args_at, byte_at}
use Rattle.tau_record.proofs.FieldLaws.{IsBytes, IsBytes-rest, IsBytes-drop, Takes, Takes-none, Takes-then, bind_ok, guard_ok, ok_is, wide16, wide64, number_takes, number_again}

pub not_utf8 : (bs : List ℕ) → (IsUtf8 bs → ⊥) → is_utf8 bs ≡ false
not_utf8 bs h = elim (is_utf8 bs) as (λ v. is_utf8 bs ≡ v → v ≡ false) [ true ↦ λ e. absurd (h (IsUtf8-from_is_utf8 bs e)) | false ↦ λ _. refl ] refl

-- a test that held
pub guard_held : {A : Type 0} (b : Bool) (d : RecordCause) (r : Result A RecordCause) (y : A) → cond b r (Err d) ≡ Ok y → (b ≡ true) × (r ≡ Ok y)
guard_held true d r y e = (refl, e)
guard_held false d r y e = absurd cc

pub unsigned_lt : (z : ℤ) → FitsSigned w64 z → cast_unsigned w64 z < 2 ^ 64
unsigned_lt z h = omega (arith, of_z_fits w64 z h)

pub no_text : (bs : List ℕ) → (IsUtf8 bs → ⊥) → None ≡ cond (is_utf8 bs) (Some bs) None
no_text bs h = rw (not_utf8 bs h) refl

pub some_text : (r : Option (List ℕ)) (bs : List ℕ) → IsUtf8 bs → IsSome r → IfSome r (λ t. t ≡ bs) → r ≡ cond (is_utf8 bs) (Some bs) None
some_text None bs utf is same = absurd cc
some_text (Some t) bs utf is same = rw (is_utf8-from_IsUtf8 bs utf, same) refl

-- ---- values

text_takes : (bytes : List ℕ) (x : Value × List ℕ) → IsBytes bytes → text_at bytes ≡ Ok x → Takes (2 ∷ bytes) (value x.0) x.1 × FitsValue x.0
unfolding text_at
text_takes bytes x fits e =
    let b = bind_ok (number_at w16 bytes) (λ n. cond (ltb 64 n.0) (Err BadBody) (cond (ltb (length n.1) n.0) (Err BadLength) (cond (is_utf8 (take n.0 n.1)) (Ok (Text (take n.0 n.1), drop n.0 n.1)) (Err BadBody)))) x e in
    let n = b.0 in
    let g = guard_ok (ltb 64 n.0) BadBody (cond (ltb (length n.1) n.0) (Err BadLength) (cond (is_utf8 (take n.0 n.1)) (Ok (Text (take n.0 n.1), drop n.0 n.1)) (Err BadBody))) x b.2 in
    let h = guard_ok (ltb (length n.1) n.0) BadLength (cond (is_utf8 (take n.0 n.1)) (Ok (Text (take n.0 n.1), drop n.0 n.1)) (Err BadBody)) x g.1 in
    let k = guard_held (is_utf8 (take n.0 n.1)) BadBody (Ok (Text (take n.0 n.1), drop n.0 n.1)) x h.1 in
    let t = number_takes w16 (2 ^ 16) wide16 bytes n fits b.1 in
    let small : n.0 ≤ 64 = ltb-false _ _ g.0 in
    let long : n.0 ≤ length n.1 = ltb-false _ _ h.0 in
    let len : length (take n.0 n.1) ≡ n.0 = omega (arith, length-take n.0 n.1) in
    let second : Takes n.1 (take n.0 n.1) (drop n.0 n.1) = record { parts = sym (take-append-drop n.0 n.1); rest_fits = IsBytes-drop n.0 n.1 t.0.rest_fits } in
    let both = Takes-then bytes (to_be_bytes w16 n.0) n.1 (take n.0 n.1) (drop n.0 n.1) t.0 second in
    let named : Takes bytes (to_be_bytes w16 (length (take n.0 n.1)) ++ take n.0 n.1) (drop n.0 n.1) = subst (λ (m : ℕ). Takes bytes (to_be_bytes w16 m ++ take n.0 n.1) (drop n.0 n.1)) (sym len) both in
    let whole : Takes (2 ∷ bytes) (value (Text (take n.0 n.1))) (drop n.0 n.1) = record { parts = ap (λ (w : List ℕ). 2 ∷ w) named.parts; rest_fits = named.rest_fits } in
    subst (λ (y : Value × List ℕ). Takes (2 ∷ bytes) (value y.0) y.1 × FitsValue y.0) (ok_is (Text (take n.0 n.1), drop n.0 n.1) x k.1) (whole, (omega (arith, len, small), IsUtf8-from_is_utf8 (take n.0 n.1) k.0))

text_again : (text rest : List ℕ) → length text ≤ 64 → IsUtf8 text → text_at ((to_be_bytes w16 (length text) ++ text) ++ rest) ≡ Ok (Text text, rest)
unfolding text_at
text_again text rest le utf =
    let long : ltb (length (text ++ rest)) (length text) ≡ false = le-ltb _ _ (omega (arith, length-append text rest)) in
    let small : ltb 64 (length text) ≡ false = le-ltb _ _ le in
    ap text_at (append_assoc (to_be_bytes w16 (length text)) text rest) ∙ rw (number_again w16 (2 ^ 16) wide16 (length text) (text ++ rest) (omega (arith, le)), small, long, take_at text rest (length text) refl, drop_at text rest (length text) refl, is_utf8-from_IsUtf8 text utf) refl

pub value_takes : (bytes : List ℕ) (x : Value × List ℕ) → IsBytes bytes → value_at bytes ≡ Ok x → Takes bytes (value x.0) x.1 × FitsValue x.0
unfolding value_at
value_takes [] x fits e = absurd cc
value_takes (zero ∷ bytes) x fits e =
    subst (λ (y : Value × List ℕ). Takes (0 ∷ bytes) (value y.0) y.1 × FitsValue y.0) (ok_is (Absent, bytes) x e) (record { parts = refl; rest_fits = IsBytes-rest 0 bytes fits }, tt)
value_takes (suc zero ∷ bytes) x fits e =
    let b = bind_ok (number_at w64 bytes) (λ n. Ok (Int (cast_signed w64 n.0), n.1)) x e in
    let t = number_takes w64 (2 ^ 64) wide64 bytes b.0 (IsBytes-rest 1 bytes fits) b.1 in
    let back : cast_unsigned w64 (cast_signed w64 b.0.0) ≡ b.0.0 = of_z-to_z w64 b.0.0 t.1 in
    let whole : Takes (1 ∷ bytes) (value (Int (cast_signed w64 b.0.0))) b.0.1 = rw back (record { parts = ap (λ (w : List ℕ). 1 ∷ w) t.0.parts; rest_fits = t.0.rest_fits }) in
    subst (λ (y : Value × List ℕ). Takes (1 ∷ bytes) (value y.0) y.1 × FitsValue y.0) (ok_is (Int (cast_signed w64 b.0.0), b.0.1) x b.2) (whole, read_sfits w64 b.0.0)
value_takes (suc (suc zero) ∷ bytes) x fits e = text_takes bytes x (IsBytes-rest 2 bytes fits) e
value_takes (suc (suc (suc tag)) ∷ bytes) x fits e = absurd cc

pub value_again : (v : Value) (rest : List ℕ) → FitsValue v → value_at (value v ++ rest) ≡ Ok (v, rest)
unfolding value_at
value_again Absent rest h = refl
value_again (Int z) rest h = rw (number_again w64 (2 ^ 64) wide64 (cast_unsigned w64 z) rest (unsigned_lt z h), to_z-of_z w64 z h) refl
value_again (Text t) rest h = text_again t rest h.0 h.1

-- ---- writes

pub key_takes : (bytes : List ℕ) (x : Key × List ℕ) → IsBytes bytes → key_at bytes ≡ Ok x → Takes bytes (key x.0) x.1 × FitsKey x.0
unfolding key_at
key_takes bytes x fits e =
    let a = bind_ok (number_at w16 bytes) (λ table. number_at w64 table.1 >>= λ row. Ok (record { table = table.0; row = cast_signed w64 row.0 }, row.1)) x e in
    let b = bind_ok (number_at w64 a.0.1) (λ row. Ok (record { table = a.0.0; row = cast_signed w64 row.0 }, row.1)) x a.2 in
    let t0 = number_takes w16 (2 ^ 16) wide16 bytes a.0 fits a.1 in
    let t1 = number_takes w64 (2 ^ 64) wide64 a.0.1 b.0 t0.0.rest_fits b.1 in
    let back : cast_unsigned w64 (cast_signed w64 b.0.0) ≡ b.0.0 = of_z-to_z w64 b.0.0 t1.1 in
    let both : Takes bytes (to_be_bytes w16 a.0.0 ++ to_be_bytes w64 (cast_unsigned w64 (cast_signed w64 b.0.0))) b.0.1 = rw back (Takes-then bytes (to_be_bytes w16 a.0.0) a.0.1 (to_be_bytes w64 b.0.0) b.0.1 t0.0 t1.0) in
    let made : Key × List ℕ = (record { table = a.0.0; row = cast_signed w64 b.0.0 }, b.0.1) in
    subst (λ (y : Key × List ℕ). Takes bytes (key y.0) y.1 × FitsKey y.0) (ok_is made x b.2) (both, (t0.1, read_sfits w64 b.0.0))

pub key_again : (k : Key) (rest : List ℕ) → FitsKey k → key_at (key k ++ rest) ≡ Ok (k, rest)
unfolding key_at
key_again k rest h =
    let regrouped : key k ++ rest ≡ to_be_bytes w16 k.table ++ (to_be_bytes w64 (cast_unsigned w64 k.row) ++ rest) = append_assoc (to_be_bytes w16 k.table) (to_be_bytes w64 (cast_unsigned w64 k.row)) rest in
    ap key_at regrouped ∙ rw (number_again w16 (2 ^ 16) wide16 k.table (to_be_bytes w64 (cast_unsigned w64 k.row) ++ rest) h.0, number_again w64 (2 ^ 64) wide64 (cast_unsigned w64 k.row) rest (unsigned_lt k.row h.1), to_z-of_z w64 k.row h.1) refl

pub write_takes : (last : Option Key) (bytes : List ℕ) (x : (Key × Value) × List ℕ) → IsBytes bytes → write_at last bytes ≡ Ok x → Takes bytes (write x.0) x.1 × (follows last x.0.0 ≡ true) × FitsKey x.0.0 × FitsValue x.0.1
unfolding write_at
write_takes last bytes x fits e =
    let a = bind_ok (key_at bytes) (λ k. cond (follows last k.0) (value_at k.1 >>= λ v. Ok ((k.0, v.0), v.1)) (Err BadBody)) x e in
    let g = guard_held (follows last a.0.0) BadBody (value_at a.0.1 >>= λ v. Ok ((a.0.0, v.0), v.1)) x a.2 in
    let b = bind_ok (value_at a.0.1) (λ v. Ok ((a.0.0, v.0), v.1)) x g.1 in
    let t0 = key_takes bytes a.0 fits a.1 in
    let t1 = value_takes a.0.1 b.0 t0.0.rest_fits b.1 in
    let both = Takes-then bytes (key a.0.0) a.0.1 (value b.0.0) b.0.1 t0.0 t1.0 in
    let made : (Key × Value) × List ℕ = ((a.0.0, b.0.0), b.0.1) in
    subst (λ (y : (Key × Value) × List ℕ). Takes bytes (write y.0) y.1 × (follows last y.0.0 ≡ true) × FitsKey y.0.0 × FitsValue y.0.1) (ok_is made x b.2) (both, g.0, t0.1, t1.1)

pub write_again : (last : Option Key) (w : Key × Value) (rest : List ℕ) → follows last w.0 ≡ true → FitsKey w.0 → FitsValue w.1 → write_at last (write w ++ rest) ≡ Ok (w, rest)
unfolding write_at
write_again last w rest order k v =
    let regrouped : write w ++ rest ≡ key w.0 ++ (value w.1 ++ rest) = append_assoc (key w.0) (value w.1) rest in
    ap (write_at last) regrouped ∙ rw (key_again w.0 (value w.1 ++ rest) k, order, value_again w.1 rest v) refl

-- writes that fit, each after the one before it
abbrev pub AreWrites : Option Key → List (Key × Value) → Type 0
AreWrites last [] = Unit {0}
AreWrites last (w ∷ ws) = (follows last w.0 ≡ true) × FitsKey w.0 × FitsValue w.1 × AreWrites (Some w.0) ws

key_total : IsTotalOrder key_cmp
key_total = then_total (on_total (λ (k : Key). k.table) nat_cmp_total) (on_total (λ (k : Key). k.row) int_cmp_total)

less_is : (o : Ordering) → is_lt o ≡ true → o ≡ Less
less_is Less e = refl
less_is Equal e = absurd cc
less_is Greater e = absurd cc

below_more : (x y : Key) (ws : List (Key × Value)) → key_cmp x y ≡ Less → below_all key_cmp y ws ≡ true → below_all key_cmp x ws ≡ true
below_more x y [] lt h = refl
below_more x y (w ∷ ws) lt h =
    let parts = and_parts (is_lt (key_cmp y w.0)) (below_all key_cmp y ws) h in
    and_from (is_lt (key_cmp x w.0)) (below_all key_cmp x ws) (ap is_lt (key_total.trans x y w.0 lt (less_is (key_cmp y w.0) parts.0))) (below_more x y ws lt parts.1)

chain_below : (x : Key) (ws : List (Key × Value)) → AreWrites (Some x) ws → below_all key_cmp x ws ≡ true
chain_below x [] h = refl
chain_below x (w ∷ ws) h =
    and_from (is_lt (key_cmp x w.0)) (below_all key_cmp x ws) h.0 (below_more x w.0 ws (less_is (key_cmp x w.0) h.0) (chain_below w.0 ws h.3))

-- they are sorted
pub writes_sorted : (last : Option Key) (ws : List (Key × Value)) → AreWrites last ws → is_sorted key_cmp ws ≡ true
writes_sorted last [] h = refl
writes_sorted last (w ∷ ws) h = and_from (below_all key_cmp w.0 ws) (is_sorted key_cmp ws) (chain_below w.0 ws h.3) (writes_sorted (Some w.0) ws h.3)

pub writes_fit : (last : Option Key) (ws : List (Key × Value)) → AreWrites last ws → AllByRecursion FitsWrite ws
writes_fit last [] h = tt
writes_fit last (w ∷ ws) h = ((h.1, h.2), writes_fit (Some w.0) ws h.3)

sorted_chain : (x : Key) (ws : List (Key × Value)) → below_all key_cmp x ws ≡ true → is_sorted key_cmp ws ≡ true → AllByRecursion FitsWrite ws → AreWrites (Some x) ws
sorted_chain x [] below sorted fit = tt
sorted_chain x (w ∷ ws) below sorted fit =
    let parts = and_parts (is_lt (key_cmp x w.0)) (below_all key_cmp x ws) below in
    let more = and_parts (below_all key_cmp w.0 ws) (is_sorted key_cmp ws) sorted in
    (parts.0, fit.0.0, fit.0.1, sorted_chain w.0 ws more.0 more.1 fit.1)

-- and sorted writes stand each after the one before it
pub are_writes : (ws : List (Key × Value)) → is_sorted key_cmp ws ≡ true → AllByRecursion FitsWrite ws → AreWrites None ws
are_writes [] sorted fit = tt
are_writes (w ∷ ws) sorted fit =
    let more = and_parts (below_all key_cmp w.0 ws) (is_sorted key_cmp ws) sorted in
    (refl, fit.0.0, fit.0.1, sorted_chain w.0 ws more.0 more.1 fit.1)

pub writes_take : (n : ℕ) (last : Option Key) (bytes : List ℕ) (x : List (Key × Value) × List ℕ) → IsBytes bytes → writes_at n last bytes ≡ Ok x → Takes bytes (flat_map write x.0) x.1 × (length x.0 ≡ n) × AreWrites last x.0
unfolding writes_at
writes_take zero last bytes x fits e =
    subst (λ (y : List (Key × Value) × List ℕ). Takes bytes (flat_map write y.0) y.1 × (length y.0 ≡ 0) × AreWrites last y.0) (ok_is ([], bytes) x e) (Takes-none bytes fits, refl, tt)
writes_take (suc n) last bytes x fits e =
    let a = bind_ok (write_at last bytes) (λ first. writes_at n (Some first.0.0) first.1 >>= λ others. Ok (first.0 ∷ others.0, others.1)) x e in
    let b = bind_ok (writes_at n (Some a.0.0.0) a.0.1) (λ others. Ok (a.0.0 ∷ others.0, others.1)) x a.2 in
    let first = write_takes last bytes a.0 fits a.1 in
    let second = writes_take n (Some a.0.0.0) a.0.1 b.0 first.0.rest_fits b.1 in
    let both = Takes-then bytes (write a.0.0) a.0.1 (flat_map write b.0.0) b.0.1 first.0 second.0 in
    let made : List (Key × Value) × List ℕ = (a.0.0 ∷ b.0.0, b.0.1) in
    subst (λ (y : List (Key × Value) × List ℕ). Takes bytes (flat_map write y.0) y.1 × (length y.0 ≡ suc n) × AreWrites last y.0) (ok_is made x b.2) (rw flat_map-cons both, ap suc second.1, (first.1, first.2, first.3, second.2))

pub writes_again : (last : Option Key) (ws : List (Key × Value)) (rest : List ℕ) → AreWrites last ws → writes_at (length ws) last (flat_map write ws ++ rest) ≡ Ok (ws, rest)
unfolding writes_at
writes_again last [] rest h = refl
writes_again last (w ∷ ws) rest h =
    let regrouped : flat_map write (w ∷ ws) ++ rest ≡ write w ++ (flat_map write ws ++ rest) = ap (λ (x : List ℕ). x ++ rest) (flat_map-cons write w ws) ∙ append_assoc (write w) (flat_map write ws) rest in
    ap (writes_at (suc (length ws)) last) regrouped ∙ rw (write_again last w (flat_map write ws ++ rest) h.0 h.1 h.2, writes_again (Some w.0) ws rest h.3) refl

-- ---- arguments

pub byte_takes : (bytes : List ℕ) (x : ℕ × List ℕ) → IsBytes bytes → byte_at bytes ≡ Ok x → Takes bytes (x.0 ∷ []) x.1
unfolding byte_at
byte_takes [] x fits e = absurd cc
byte_takes (b ∷ bytes) x fits e = subst (λ (y : ℕ × List ℕ). Takes (b ∷ bytes) (y.0 ∷ []) y.1) (ok_is (b, bytes) x e) (record { parts = refl; rest_fits = IsBytes-rest b bytes fits })

pub byte_again : (b : ℕ) (rest : List ℕ) → byte_at ((b ∷ []) ++ rest) ≡ Ok (b, rest)
unfolding byte_at
byte_again b rest = refl

pub args_take : (n : ℕ) (bytes : List ℕ) (x : List Value × List ℕ) → IsBytes bytes → args_at n bytes ≡ Ok x → Takes bytes (flat_map value x.0) x.1 × (length x.0 ≡ n) × AllByRecursion FitsValue x.0
unfolding args_at
args_take zero bytes x fits e =
    subst (λ (y : List Value × List ℕ). Takes bytes (flat_map value y.0) y.1 × (length y.0 ≡ 0) × AllByRecursion FitsValue y.0) (ok_is ([], bytes) x e) (Takes-none bytes fits, refl, tt)
args_take (suc n) bytes x fits e =
    let a = bind_ok (value_at bytes) (λ first. args_at n first.1 >>= λ others. Ok (first.0 ∷ others.0, others.1)) x e in
    let b = bind_ok (args_at n a.0.1) (λ others. Ok (a.0.0 ∷ others.0, others.1)) x a.2 in
    let first = value_takes bytes a.0 fits a.1 in
    let second = args_take n a.0.1 b.0 first.0.rest_fits b.1 in
    let both = Takes-then bytes (value a.0.0) a.0.1 (flat_map value b.0.0) b.0.1 first.0 second.0 in
    let made : List Value × List ℕ = (a.0.0 ∷ b.0.0, b.0.1) in
    subst (λ (y : List Value × List ℕ). Takes bytes (flat_map value y.0) y.1 × (length y.0 ≡ suc n) × AllByRecursion FitsValue y.0) (ok_is made x b.2) (rw flat_map-cons both, ap suc second.1, (first.1, second.2))

pub args_again : (vs : List Value) (rest : List ℕ) → AllByRecursion FitsValue vs → args_at (length vs) (flat_map value vs ++ rest) ≡ Ok (vs, rest)
unfolding args_at
args_again [] rest h = refl
args_again (v ∷ vs) rest h =
    let regrouped : flat_map value (v ∷ vs) ++ rest ≡ value v ++ (flat_map value vs ++ rest) = ap (λ (x : List ℕ). x ++ rest) (flat_map-cons value v vs) ∙ append_assoc (value v) (flat_map value vs) rest in
    ap (args_at (suc (length vs))) regrouped ∙ rw (value_again v (flat_map value vs ++ rest) h.0, args_again vs rest h.1) refl
