-- The generated workload is one that can be run: its declarations are those of a text, and its calls are taken.
use Rattle.std.proofs.Common.{ℕ, zero, suc, ◌+◌, ◌<◌, ◌≤◌, ◌≡◌, true, List, [], ◌∷◌, ◌++◌, map, length, refl, ap, ◌∙◌, arith}
use Rattle.std.specs.Prelude.{codes, slice_get, Some, None, Ok, All}
use Rattle.std.specs.List.{range_with_len}
use Rattle.tau_base.specs.declared.limits.TheConstants.{MAX_CALLS}
use Rattle.tau_base.specs.declared.value.Call.{Call}
use Rattle.tau_proc.specs.Takes.{takes}
use Rattle.tau_text.specs.declared.load.Workload.{Workload}
use Rattle.std.specs.Str.{is_utf8, chars}
use Rattle.tau_text.specs.Lines.{lines, body, words_from}
use Rattle.tau_text.specs.Forms.{head, table_line}
use Rattle.tau_text.specs.Spelled.{new_name, name, place_from}
use Rattle.tau_text.specs.Text.{workload_of, lines_read, line_read, words_read, statement_read, is_before, outer_read}
use Rattle.tau_text.specs.Kept.{AreCalls}
use Rattle.tau_gen.specs.Generated.{call_of, calls_of}
use Rattle.tau_base.proofs.Lists.{length_mapped}

-- the workload that declares the table alone, and its text
abbrev pub bare : Workload
bare = record { declarations = record { tables = codes "acct" ∷ []; procs = [] }; calls = []; turns = None }

abbrev pub bare_text : List ℕ
bare_text = codes "table acct" ++ 10 ∷ []

pub bare_read : workload_of bare_text ≡ Ok bare
unfolding workload_of lines_read lines line_read is_utf8 chars body words_read words_from statement_read head is_before outer_read table_line new_name name place_from lib.Utf8.encode
bare_read = refl

-- ---- the calls

mapped : {A B : Type 0} (f : A → B) (xs : List A) (k : ℕ) (y : B) → slice_get (map f xs) k ≡ Some y → (x : A) × (slice_get xs k ≡ Some x) × (y ≡ f x)
mapped f [] k y e = absurd (cc)
mapped f (x ∷ xs) zero y e = (x, refl, cc)
mapped f (x ∷ xs) (suc k) y e = mapped f xs k y e

in_range : (a n k x : ℕ) → slice_get (range_with_len a n) k ≡ Some x → (x ≡ a + k) × (k < n)
in_range a zero k x e = absurd (cc)
in_range a (suc n) zero x e = (let f : a ≡ x = cc in omega (arith, f), omega arith)
in_range a (suc n) (suc k) x e = let r = in_range (a + 1) n k x e in (let f = r.0 in omega (arith, f), let g = r.1 in omega (arith, g))

-- call k is the formula's
pub call_at : (start count k : ℕ) (c : Call) → slice_get (calls_of start count) k ≡ Some c → (c ≡ call_of start (k + 1)) × (k < count)
call_at start count k c e =
    let (x, got, is) = mapped (call_of start) (range_with_len 1 count) k c e in
    let r = in_range 1 count k x got in
    let n : x ≡ k + 1 = (let f = r.0 in omega (arith, f)) in
    (is ∙ ap (call_of start) n, r.1)

pub taken : (start count k : ℕ) (c : Call) → slice_get (calls_of start count) k ≡ Some c → takes [] c ≡ true
taken start count k c e = ap (takes []) (call_at start count k c e).0

long_range : (a n : ℕ) → length (range_with_len a n) ≡ n
long_range a zero = refl
long_range a (suc n) = ap suc (long_range (a + 1) n)

pub length_calls : (start count : ℕ) → length (calls_of start count) ≡ count
length_calls start count = length_mapped (call_of start) (range_with_len 1 count) ∙ long_range 1 count

all_mapped : {A B : Type 0} (f : A → B) (P : B → Type 0) (xs : List A) → ((x : A) → P (f x)) → All P (map f xs)
all_mapped f P [] h k d lt = absurd (omega (arith, lt))
all_mapped f P (x ∷ xs) h zero d lt = h x
all_mapped f P (x ∷ xs) h (suc k) d lt = all_mapped f P xs h k d (omega (arith, lt))

pub are_calls : (start count : ℕ) → count ≤ MAX_CALLS → AreCalls [] (calls_of start count)
are_calls start count few = record {
  taken = all_mapped (call_of start) (λ c. takes [] c ≡ true) (range_with_len 1 count) (λ k. refl);
  count = let long = length_calls start count in omega (arith, long, few);
}
