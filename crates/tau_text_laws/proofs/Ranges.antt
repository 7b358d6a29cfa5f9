-- The canonical text of declarations is of bytes.
use Rattle.std.proofs.Common.{◌≡◌, ℕ, zero, suc, ◌+◌, ◌/◌, ◌%◌, ◌<◌, Bool, true, false, cond, ◌&&◌, List, [], ◌∷◌, ◌++◌, length, Ok, IsUtf8, nat_lt, refl, sym, ap, ◌∙◌, subst, inl, inr, arith}
use Rattle.std.specs.Prelude.{slice_index_or}
use Rattle.std.specs.List.{flat_map, list_all}
use Rattle.std.specs.Str.{encode_utf8_all}
use Rattle.std.specs.Char.{encode_utf8}
use Rattle.std.proofs.Math.Nat.{div-lt_iff_lt-mul, mod-lt}
use Rattle.std.proofs.Math.Utf8.{scalar, scalars, scalar_cases}
use Rattle.std.proofs.lemmas.Bool.{and_parts}
use Rattle.std.proofs.lemmas.Grind.{common_steps}
use Rattle.tau_text.specs.declared.load.Workload.{Workload}
use Rattle.tau_text.specs.Canonical.{behind, line_text, text_word, declarations_text}
use Rattle.tau_text.specs.Text.{workload_of}
use Rattle.tau_text_laws.proofs.Unique.{is_plain, IsWord}
use Rattle.tau_text_laws.proofs.Once.{AreWords}
use Rattle.tau_text_laws.proofs.Bytes.{AreLines}
use Rattle.tau_text_laws.proofs.Law.{Source, source, load_of, declared_lines, declared_text_is, declared_all}
use Rattle.tau_base.proofs.Logic.{below_of_true}

abbrev AllBytes : List ℕ → Type 0
AllBytes [] = Unit {0}
AllBytes (b ∷ bs) = (b < 256) × AllBytes bs

both : (a b : List ℕ) → AllBytes a → AllBytes b → AllBytes (a ++ b)
both [] b h k = k
both (x ∷ a) b h k = (h.0, both a b h.1 k)

byte_at : (bs : List ℕ) (i : ℕ) → AllBytes bs → slice_index_or bs i 0 < 256
byte_at [] i h = omega arith
byte_at (b ∷ bs) zero h = h.0
byte_at (b ∷ bs) (suc i) h = byte_at bs i h.1

-- ---- the bytes of a character

next_low : (bits : ℕ) → 128 + bits % 64 < 256
next_low bits = let lt = mod-lt bits {m = 64} (omega arith) in omega (arith, lt)

encoded : (x y z : Bool) (c : ℕ) → c < 1114112 → (x ≡ true → c < 128) → (y ≡ true → c < 2048) → (z ≡ true → c < 65536) →
    AllBytes (cond x (c ∷ []) (cond y ((192 + c / 64) ∷ (128 + c % 64) ∷ []) (cond z ((224 + c / 4096) ∷ (128 + (c / 64) % 64) ∷ (128 + c % 64) ∷ []) ((240 + c / 262144) ∷ (128 + (c / 4096) % 64) ∷ (128 + (c / 64) % 64) ∷ (128 + c % 64) ∷ []))))
encoded true y z c top one two three = (let lt = one refl in omega (arith, lt), tt)
encoded false true z c top one two three =
    let lt : c < 2048 = two refl in
    let few : c / 64 < 32 = (div-lt_iff_lt-mul {k = 64} {x = c} {y = 32} (omega arith)).1 (omega (arith, lt)) in
    (omega (arith, few), (next_low c, tt))
encoded false false true c top one two three =
    let lt : c < 65536 = three refl in
    let few : c / 4096 < 16 = (div-lt_iff_lt-mul {k = 4096} {x = c} {y = 16} (omega arith)).1 (omega (arith, lt)) in
    (omega (arith, few), (next_low (c / 64), (next_low c, tt)))
encoded false false false c top one two three =
    let few : c / 262144 < 5 = (div-lt_iff_lt-mul {k = 262144} {x = c} {y = 5} (omega arith)).1 (omega (arith, top)) in
    (omega (arith, few), (next_low (c / 4096), (next_low (c / 64), (next_low c, tt))))

character : (c : ℕ) → scalar c ≡ true → AllBytes (encode_utf8 c)
unfolding encode_utf8
character c e =
    let top : c < 1114112 = elim (scalar_cases c e) [ inl low ↦ omega (arith, low) | inr high ↦ high.1 ] in
    encoded (nat_lt c 128) (nat_lt c 2048) (nat_lt c 65536) c top (below_of_true c 128) (below_of_true c 2048) (below_of_true c 65536)

characters : (cs : List ℕ) → scalars cs ≡ true → AllBytes (encode_utf8_all cs)
characters [] e = tt
characters (c ∷ cs) e =
    let p = and_parts (scalar c) (scalars cs) e in
    both (encode_utf8 c) (encode_utf8_all cs) (character c p.0) (characters cs p.1)

of_text : (bs : List ℕ) → IsUtf8 bs → AllBytes bs
of_text bs (cs, (are, is)) = subst AllBytes is (characters cs are)

-- ---- words and lines

plain_low : (b : ℕ) → is_plain b ≡ true → b < 256
plain_low b e = grind (arith, common_steps)

of_plain : (w : List ℕ) → list_all is_plain w ≡ true → AllBytes w
of_plain [] e = tt
of_plain (b ∷ w) e = let p = and_parts (is_plain b) (list_all is_plain w) e in (plain_low b p.0, of_plain w p.1)

of_word : (w : List ℕ) → IsWord w → AllBytes w
of_word w (inl p) = of_plain w p.bytes
of_word w (inr t) = subst AllBytes (sym t.quoted) (omega arith, both t.inside (34 ∷ []) (of_text t.inside t.utf8) (omega arith, tt))

of_behind : (ws : List (List ℕ)) → AreWords ws → AllBytes (behind ws)
of_behind [] h = (omega arith, tt)
of_behind (w ∷ ws) h = (omega arith, both w (behind ws) (of_word w h.0) (of_behind ws h.1))

of_lines : (wss : List (List (List ℕ))) → AreLines wss → AllBytes (flat_map line_text wss)
of_lines [] h = tt
of_lines ([] ∷ wss) h = absurd h.0
of_lines ((w ∷ ws) ∷ wss) h = both (line_text (w ∷ ws)) (flat_map line_text wss) (both w (behind ws) (of_word w h.0.0) (of_behind ws h.0.1)) (of_lines wss h.1)

pub declarations_bytes : (text : List ℕ) (load : Workload) → workload_of text ≡ Ok load → (i : ℕ) → slice_index_or (declarations_text load.declarations) i 0 < 256
declarations_bytes text load e i =
    let s = source text load e in
    let d = (load_of s.state).declarations in
    let all : AllBytes (declarations_text d) = subst AllBytes (declared_text_is d) (of_lines (declared_lines s.state.tables s.state.procs) (declared_all s.state s.told)) in
    byte_at (declarations_text load.declarations) i (subst (λ (l : Workload). AllBytes (declarations_text l.declarations)) s.same all)
