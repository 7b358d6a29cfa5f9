-- Bytes by which a record is not whole.
use Rattle.std.proofs.Common.{ℕ, zero, suc, ◌+◌, ◌-◌, ◌≤◌, ◌<◌, Bool, true, false, ◌≡◌, inl, inr, List, [], ◌∷◌, ◌++◌, length, take, drop, set, Some, Err, refl, sym, ap, subst, ◌∙◌, arith}
use Rattle.std.specs.Prelude.{nat_lt, slice_get, slice_index_or, if◌then◌else◌}
use Rattle.std.specs.Int.{w32, from_be_bytes}
use Rattle.std.proofs.lemmas.Bool.{cases_Bool, cases_eq, both_ways, and_parts}
use Rattle.std.proofs.lemmas.Bool.Decides.{nat_tests}
use Rattle.std.proofs.lemmas.List.{length-append, length-drop}
use Rattle.tau_base.specs.declared.format.Format.{Format as OneFormat}
use Rattle.tau_record.specs.Format.{Format}
use Rattle.tau_record.specs.Record.{kind_fits, total_at, frame_at, record_at}
use Rattle.tau_record.specs.declared.entry.Placed.{Placed}
use Rattle.tau_record.specs.declared.fault.RecordCause.TheVariants.{Short}
use Rattle.tau_follow_laws.specs.Feeding.{Piece, with_piece, HasFed}
use Rattle.tau_follow_laws.specs.Following.{Followed, left_out, with_read}
use Rattle.tau_follow.specs.declared.reader.Reader.{Reader}
use Rattle.tau_follow.specs.declared.state.State.{State}
use Rattle.tau_follow.specs.Reading.{IsRead, lacking}
use Rattle.tau_follow.specs.Feeding.{AreRead}
use Rattle.tau_follow.specs.State.{IsAt, HasRead}
use Rattle.tau_follow.proofs.Feeding.{got_set, got_other, set_long}
use Rattle.tau_follow.proofs.Fed.{all_read, feeds_one}
use Rattle.tau_follow.proofs.Waiting.{waits, stages_same, same_out}

take_first : (k : ℕ) (xs ys : List ℕ) → k ≤ length xs → take k (xs ++ ys) ≡ take k xs
take_first zero xs ys le = refl
take_first (suc k) [] ys le = absurd (omega (arith, le))
take_first (suc k) (x ∷ xs) ys le = ap (λ (l : List ℕ). x ∷ l) (take_first k xs ys (omega (arith, le)))

at_least : (a b : ℕ) → nat_lt a b ≡ false → b ≤ a
at_least a b e = grind (arith, nat_tests)

is_less : (a b : ℕ) → a < b → nat_lt a b ≡ true
is_less a b lt = grind (arith, nat_tests)

not_less : (a b : ℕ) → b ≤ a → nat_lt a b ≡ false
not_less a b le = grind (arith, nat_tests)

less_is : (a b : ℕ) → nat_lt a b ≡ true → a < b
less_is a b e = grind (arith, nat_tests)

total_short : (kind : ℕ) (bytes : List ℕ) → 4 ≤ length bytes → length bytes + 1 < from_be_bytes w32 (take 4 bytes) → total_at w32 kind bytes ≡ Err Short
total_short kind bytes long lacks =
    let l = length-drop 4 bytes in
    rw (not_less (length bytes) 4 long, is_less (length (drop 4 bytes) + 5) (from_be_bytes w32 (take 4 bytes)) (omega (arith, l, long, lacks))) refl

total_cut : (kind : ℕ) (bytes : List ℕ) → 0 < (if nat_lt (length bytes) 4 then 4 - length bytes else from_be_bytes w32 (take 4 bytes) - (length (drop 4 bytes) + 5)) → total_at w32 kind bytes ≡ Err Short
total_cut kind bytes lt = elim (cases_Bool (nat_lt (length bytes) 4)) [
  | inl t ↦ rw t refl
  | inr g ↦
      let long = at_least (length bytes) 4 g in
      let some : 0 < from_be_bytes w32 (take 4 bytes) - (length (drop 4 bytes) + 5) = (rw g at lt) in
      let l = length-drop 4 bytes in
      total_short kind bytes long (omega (arith, l, long, some))
]

-- a record that lacks bytes is short
pub short_now : (f : Format) (n k : ℕ) (vectors : List (List ℕ)) (first : Bool) (bytes : List ℕ) → 0 < lacking first bytes → record_at f n k vectors first bytes ≡ Err Short
unfolding record_at frame_at
short_now f n k vectors first [] lt = absurd (omega (arith, lt))
short_now f n k vectors first (kind ∷ bytes) lt = elim (cases_Bool (kind_fits first kind)) [
  | inr f ↦ absurd (let none = (rw f at lt) in omega (arith, none))
  | inl t ↦ (let short = total_cut kind bytes (rw t at lt) in rw (t, short) refl)
]

asked_on : (bytes more : List ℕ) → length more < (if nat_lt (length bytes) 4 then 4 - length bytes else from_be_bytes w32 (take 4 bytes) - (length (drop 4 bytes) + 5)) →
    (if nat_lt (length bytes) 4 then 4 - length bytes else from_be_bytes w32 (take 4 bytes) - (length (drop 4 bytes) + 5)) ≤ (if nat_lt (length (bytes ++ more)) 4 then 4 - length (bytes ++ more) else from_be_bytes w32 (take 4 (bytes ++ more)) - (length (drop 4 (bytes ++ more)) + 5)) + length more
asked_on bytes more lt = elim (cases_Bool (nat_lt (length bytes) 4)) [
  | inl t ↦
      let l = length-append bytes more in
      let low = less_is (length bytes) 4 t in
      let few : length more < 4 - length bytes = (rw t at lt) in
      let still : nat_lt (length (bytes ++ more)) 4 ≡ true = is_less (length (bytes ++ more)) 4 (omega (arith, l, few)) in
      rw (t, still) (omega (arith, l))
  | inr g ↦
      let l = length-append bytes more in
      let long = at_least (length bytes) 4 g in
      let still : nat_lt (length (bytes ++ more)) 4 ≡ false = not_less (length (bytes ++ more)) 4 (omega (arith, l, long)) in
      let front : take 4 (bytes ++ more) ≡ take 4 bytes = take_first 4 bytes more long in
      let d = length-drop 4 bytes in
      let e = length-drop 4 (bytes ++ more) in
      rw (g, still, front) (omega (arith, l, long, d, e))
]

-- what is lacking once some bytes of it are there
pub lacks_on : (first : Bool) (rest bytes : List ℕ) → length bytes < lacking first rest → lacking first rest ≤ lacking first (rest ++ bytes) + length bytes
lacks_on first [] bytes lt = omega arith
lacks_on first (kind ∷ rest) bytes lt = elim (cases_Bool (kind_fits first kind)) [
  | inr f ↦ rw f (omega arith)
  | inl t ↦ (let few = (rw t at lt) in let h = asked_on rest bytes few in rw t h)
]

pub set_same : {A : Type 0} (xs : List A) (i : ℕ) (x : A) → slice_get xs i ≡ Some x → set xs i x ≡ xs
set_same [] i x e = refl
set_same (y ∷ xs) zero x e = (let same : y ≡ x = cc in ap (λ z. z ∷ xs) (sym same))
set_same (y ∷ xs) (suc i) x e = ap (λ l. y ∷ l) (set_same xs i x e)

some_same : (xs : List (List Placed)) (i : ℕ) (x y : List Placed) → slice_get xs i ≡ Some x → slice_get xs i ≡ Some y → x ≡ y
some_same xs i x y e g = (let z : Some x ≡ Some y = sym e ∙ g in cc)

-- a reader that has read the same in the place of another one
pub read_as : (f : OneFormat) (n : ℕ) (fed : List (List ℕ)) (streams : List (List Placed)) (readers : List Reader) (j : ℕ) (ps : List Placed) (r : Reader) → AreRead f n fed streams readers → slice_get streams j ≡ Some ps → IsRead f n (slice_index_or fed j []) ps r →
    AreRead f n fed streams (set readers j r)
read_as f n fed streams readers j ps r a there read = record {
  many = a.many;
  wide = a.wide;
  as_many = set_long readers j r ∙ a.as_many;
  fronts = a.fronts;
  each = λ k qs q g h. elim (cases_eq k j) [
    | inl same ↦
        let r_is : r ≡ q = got_set readers j r q (ap (slice_get (set readers j r)) (sym same) ∙ h) in
        let at_j : slice_get streams j ≡ Some qs = ap (slice_get streams) (sym same) ∙ g in
        let s_is : ps ≡ qs = some_same streams j ps qs there at_j in
        subst (λ (z : List Placed). IsRead f n (slice_index_or fed k []) z q) s_is (subst (λ (i : ℕ). IsRead f n (slice_index_or fed i []) ps q) (sym same) (subst (λ (z : Reader). IsRead f n (slice_index_or fed j []) ps z) r_is read))
    | inr other ↦ a.each k qs q g (sym (got_other readers j k r other) ∙ h)
  ];
}

-- no record is read
pub waits_at : (f : OneFormat) (n : ℕ) (fed : List (List ℕ)) (s : Followed) (p : Piece) (w : State) → HasRead f n fed s p w → w.streams.items ≡ s.streams → (t : Followed) × HasFed f (with_piece fed p) s t × IsAt f n (with_piece fed p) t w
waits_at f n fed s p w h same =
    let r = h.read in
    let fronts = r.fronts ∙ ap all_read same in
    let fed_so = waits f n fed s p h.follower h.catalogue fronts h.one in
    let stands = h.stands in
    let staged = stands.staged in (
      with_read s s.streams,
      fed_so,
      record {
        read = h.read;
        bytes = h.bytes;
        follower = feeds_one f n fed s (with_read s s.streams) p h.follower fed_so;
        catalogue = h.catalogue;
        one = h.one;
        knows = (let k = h.knows in record { known = k.known; declarations = k.declarations });
        stands = record {
          staged = record { stages_are = staged.stages_are ∙ sym (stages_same s.out (s.out ++ left_out s.streams) s.order (same_out f n fed s p h.follower) 0 s.streams); passed = staged.passed; kept = staged.kept };
          spots = stands.spots;
          told = stands.told;
        };
        redone = (let d = h.redone in record { within = d.within; store = d.store; tables = d.tables });
      },
    )
