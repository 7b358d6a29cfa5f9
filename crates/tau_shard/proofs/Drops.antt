-- Entries that are removed, and the floor that takes their vectors.
use Rattle.std.proofs.Common.{ℕ, suc, ◌≤◌, true, false, Bool, not, cond, ◌≡◌, ◌⊎◌, inl, inr, List, [], ◌∷◌, length, filter, refl, sym, ap, subst, ◌∙◌, Option, slice_get, arith}
use Rattle.std.specs.Prelude.{Some, None, IsSome, ◌==◌, ◌&&◌}
use Rattle.std.specs.List.{IsDistinct}
use Rattle.std.specs.Map.{lookup, keys_of}
use Rattle.std.specs.Cmp.{IsEquivalence}
use Rattle.std.proofs.lemmas.Map.Entries.{option_filter, lookup-filter-values, lookup_from_place}
use Rattle.std.proofs.lemmas.Bool.{cases_Bool, eq-eqb}
use Rattle.tau_base.specs.declared.value.Key.{Key}
use Rattle.tau_base.specs.declared.value.Value.{Value}
use Rattle.tau_base.specs.declared.value.Mode.TheVariants.{Write}
use Rattle.tau_base.specs.Vectors.{AtMost, covers, join}
use Rattle.tau_base.proofs.Vectors.{join_left, join_right, join_below, join_wider, at_most_trans, at_most_itself, covers_at_most, at_most_covers}
use Rattle.tau_shard.specs.Shard.{Entry, entry_or, Dropped}
use Rattle.tau_shard.specs.declared.entry.LockEntry.{LockEntry}
use Rattle.tau_shard.specs.Plain.{PlainShard}
use Rattle.tau_shard.specs.Read.{is_key, entry_of, entry_option, shard_of}
use Rattle.tau_shard.specs.Blocks.{covered, swept, Placed}
use Rattle.tau_shard.proofs.Masks.{nobody, zero_from}
use Rattle.tau_shard.proofs.Puts.{is_key_itself, is_key_is, is_key_same}
use Rattle.tau_base.proofs.Keys.{same_key_sym}
use Rattle.tau_base.proofs.Logic.{and_from}
use Rattle.tau_shard.specs.Shard as theory

-- nobody holds the key, and v covers both vectors
abbrev pub IsCovered : List ℕ → theory.Entry → Type 0
IsCovered v e = ((w : ℕ) → e.holders w ≡ None) × AtMost e.write_lv v × AtMost e.read_lv v

pub key_laws : IsEquivalence is_key
key_laws = record {
  refl = is_key_itself;
  symm = λ x y. is_key_same x y ∙ same_key_sym x y ∙ sym (is_key_same y x);
  congr = λ x y z e. ap (λ (k : Key). is_key k z) (is_key_is x y e);
}

and_both : (a b : Bool) → (a && b) ≡ true → (a ≡ true) × (b ≡ true)
and_both true b e = (refl, e)
and_both false b e = absurd (let bad : false ≡ true = e in cc)

zero_is : (n : ℕ) → (n == 0) ≡ true → n ≡ 0
zero_is n e = grind arith

-- the test says what it should
pub covered_is : (v : List ℕ) (e : LockEntry) → covered v e ≡ true → IsCovered v (entry_of e)
covered_is v e h =
    let last = and_both (e.readers == 0 && e.writers == 0 && covers v e.write) (covers v e.read) h in
    let third = and_both (e.readers == 0 && e.writers == 0) (covers v e.write) last.0 in
    let first = and_both (e.readers == 0) (e.writers == 0) third.0 in
    (nobody e (zero_is e.readers first.0) (zero_is e.writers first.1), covers_at_most v e.write third.1, covers_at_most v e.read last.1)

pub covered_from : (v : List ℕ) (e : LockEntry) → IsCovered v (entry_of e) → covered v e ≡ true
covered_from v e h =
    let zero' = zero_from e h.0 in
    and_from (e.readers == 0 && e.writers == 0 && covers v e.write) (covers v e.read)
    (and_from (e.readers == 0 && e.writers == 0) (covers v e.write)
    (and_from (e.readers == 0) (e.writers == 0) (eq-eqb e.readers 0 zero'.0) (eq-eqb e.writers 0 zero'.1)) (at_most_covers v e.write h.1)) (at_most_covers v e.read h.2)

next : List ℕ → List ℕ → LockEntry → List ℕ
next v floor e = cond (covered v e) (join (join floor e.write) e.read) floor

next_up : (v floor : List ℕ) (e : LockEntry) → AtMost floor (next v floor e)
unfolding next
next_up v floor e = elim (cases_Bool (covered v e)) [
  | inl is ↦ rw is (at_most_trans floor (join floor e.write) (join (join floor e.write) e.read) (join_left floor e.write) (join_left (join floor e.write) e.read))
  | inr no' ↦ rw no' (at_most_itself floor)
]

next_covers : (v floor : List ℕ) (e : LockEntry) → covered v e ≡ true → AtMost e.write (next v floor e) × AtMost e.read (next v floor e)
unfolding next
next_covers v floor e is = rw is (
  at_most_trans e.write (join floor e.write) (join (join floor e.write) e.read) (join_right floor e.write) (join_left (join floor e.write) e.read),
  join_right (join floor e.write) e.read,
)

next_least : (v floor z : List ℕ) (e : LockEntry) → AtMost floor z → (covered v e ≡ true → AtMost e.write z × AtMost e.read z) → AtMost (next v floor e) z
unfolding next
next_least v floor z e low each = elim (cases_Bool (covered v e)) [
  | inl is ↦ rw is (join_below (join floor e.write) e.read z (join_below floor e.write z low (each is).0) (each is).1)
  | inr no' ↦ rw no' low
]

pub swept_up : (v floor : List ℕ) (es : List (Key × LockEntry)) → AtMost floor (swept v floor es)
unfolding next
swept_up v floor [] = at_most_itself floor
swept_up v floor (e ∷ es) = at_most_trans floor (next v floor e.1) (swept v (next v floor e.1) es) (next_up v floor e.1) (swept_up v (next v floor e.1) es)

swept_covers : (v floor : List ℕ) (es : List (Key × LockEntry)) (x : Key) (e : LockEntry) → lookup (is_key x) es ≡ Some e → covered v e ≡ true →
    AtMost e.write (swept v floor es) × AtMost e.read (swept v floor es)
unfolding next
swept_covers v floor [] x e at is = absurd (let bad : None ≡ Some e = at in cc)
swept_covers v floor (p ∷ es) x e at is = elim (cases_Bool (is_key x p.0)) [
  | inl same ↦
      let eq : p.1 ≡ e = (let f : Some p.1 ≡ Some e = rw same at at in cc) in
      let here = next_covers v floor p.1 (subst (λ (y : LockEntry). covered v y ≡ true) (sym eq) is) in
      subst (λ (y : LockEntry). AtMost y.write (swept v (next v floor p.1) es) × AtMost y.read (swept v (next v floor p.1) es)) eq (
        at_most_trans p.1.write (next v floor p.1) (swept v (next v floor p.1) es) here.0 (swept_up v (next v floor p.1) es),
        at_most_trans p.1.read (next v floor p.1) (swept v (next v floor p.1) es) here.1 (swept_up v (next v floor p.1) es),
      )
  | inr other ↦ swept_covers v (next v floor p.1) es x e (rw other at at) is
]

swept_least : (v floor z : List ℕ) (es : List (Key × LockEntry)) → AtMost floor z →
    ((i : ℕ) (x : Key) (e : LockEntry) → slice_get es i ≡ Some (x, e) → covered v e ≡ true → AtMost e.write z × AtMost e.read z) → AtMost (swept v floor es) z
unfolding next
swept_least v floor z [] low each = low
swept_least v floor z (p ∷ es) low each =
    swept_least v (next v floor p.1) z es (next_least v floor z p.1 low (each 0 p.0 p.1 refl)) (λ i x e at is. each (suc i) x e at is)

next_narrow : (n : ℕ) (v floor : List ℕ) (e : LockEntry) → length floor ≤ n → (length e.write ≤ n) × (length e.read ≤ n) → length (next v floor e) ≤ n
unfolding next
next_narrow n v floor e low each = elim (cases_Bool (covered v e)) [
  | inl is ↦ rw is (let a = (join_wider floor e.write).2 in let b = (join_wider (join floor e.write) e.read).2 in omega arith)
  | inr no' ↦ rw no' low
]

pub swept_narrow : (n : ℕ) (v floor : List ℕ) (es : List (Key × LockEntry)) → length floor ≤ n →
    ((i : ℕ) (x : Key) (e : LockEntry) → slice_get es i ≡ Some (x, e) → (length e.write ≤ n) × (length e.read ≤ n)) → length (swept v floor es) ≤ n
unfolding next
swept_narrow n v floor [] low each = low
swept_narrow n v floor (p ∷ es) low each =
    swept_narrow n v (next v floor p.1) es (next_narrow n v floor p.1 low (each 0 p.0 p.1 refl)) (λ i x e at. each (suc i) x e at)

next_wide : (v floor : List ℕ) (e : LockEntry) → length floor ≤ length (next v floor e)
unfolding next
next_wide v floor e = elim (cases_Bool (covered v e)) [
  | inl is ↦ rw is (let a = (join_wider floor e.write).0 in let b = (join_wider (join floor e.write) e.read).0 in omega arith)
  | inr no' ↦ rw no' (omega arith)
]

pub swept_wide : (v floor : List ℕ) (es : List (Key × LockEntry)) → length floor ≤ length (swept v floor es)
unfolding next
swept_wide v floor [] = omega arith
swept_wide v floor (p ∷ es) = let a = next_wide v floor p.1 in let b = swept_wide v (next v floor p.1) es in omega arith

module _ (v floor : List ℕ) (rows : List (Key × Value)) (es : List (Key × LockEntry)) (distinct : IsDistinct is_key (keys_of es)) where
  abbrev pub kept : LockEntry → Bool
  kept e = not (covered v e)

  abbrev pub left : List (Key × LockEntry)
  left = filter (λ e. kept e.1) es

  abbrev before : PlainShard
  before = record { rows = rows; entries = es; floor = floor }

  abbrev pub after : PlainShard
  after = record { rows = rows; entries = left; floor = swept v floor es }

  found : (x : Key) → lookup (is_key x) left ≡ option_filter kept (lookup (is_key x) es)
  found x = lookup-filter-values key_laws kept x es distinct

  gone : (x : Key) (e : LockEntry) → lookup (is_key x) es ≡ Some e → covered v e ≡ true → lookup (is_key x) left ≡ None
  gone x e at is = found x ∙ ap (option_filter kept) at ∙ rw is refl

  stayed : (x : Key) (e : LockEntry) → lookup (is_key x) es ≡ Some e → covered v e ≡ false → lookup (is_key x) left ≡ Some e
  stayed x e at is = found x ∙ ap (option_filter kept) at ∙ rw is refl

  stays_by : (x : Key) (o : Option LockEntry) → lookup (is_key x) es ≡ o → (entry_option (lookup (is_key x) left) ≡ entry_option (lookup (is_key x) es)) ⊎
      ((entry_option (lookup (is_key x) left) ≡ None) × ((e : Entry) → entry_option (lookup (is_key x) es) ≡ Some e →
      ((w : ℕ) → e.holders w ≡ None) × AtMost e.write_lv v × AtMost e.read_lv v × AtMost e.write_lv (swept v floor es) × AtMost e.read_lv (swept v floor es)))
  stays_by x None at = inl (ap entry_option (found x ∙ ap (option_filter kept) at ∙ sym at))
  stays_by x (Some e) at = elim (cases_Bool (covered v e)) [
    | inl is ↦ inr (
      ap entry_option (gone x e at is),
      λ E q.
          let eq : entry_of e ≡ E = (let f : Some (entry_of e) ≡ Some E = sym (ap entry_option at) ∙ q in cc) in
          let c = covered_is v e is in
          let s = swept_covers v floor es x e at is in
          subst (λ (y : Entry). ((w : ℕ) → y.holders w ≡ None) × AtMost y.write_lv v × AtMost y.read_lv v × AtMost y.write_lv (swept v floor es) × AtMost y.read_lv (swept v floor es)) eq (c.0, c.1, c.2, s.0, s.1),
    )
    | inr no' ↦ inl (ap entry_option (stayed x e at no' ∙ sym at))
  ]

  all_by : (x : Key) (E : Entry) (o : Option LockEntry) → lookup (is_key x) es ≡ o → entry_option o ≡ Some E → IsCovered v E → entry_option (lookup (is_key x) left) ≡ None
  all_by x E None at q c = absurd (let bad : None ≡ Some E = q in cc)
  all_by x E (Some e) at q c =
      let eq : entry_of e ≡ E = cc in
      ap entry_option (gone x e at (covered_from v e (subst (IsCovered v) (sym eq) c)))

  pub dropped : Dropped v (shard_of before) (shard_of after)
  dropped = record {
    rows = refl;
    stays = λ x. stays_by x (lookup (is_key x) es) refl;
    all = λ x E q free a b. all_by x E (lookup (is_key x) es) refl q (free, a, b);
    up = swept_up v floor es;
    narrow = λ n low each. swept_narrow n v floor es low (λ i x e at. each x (entry_of e) (ap entry_option (lookup_from_place key_laws es i x e distinct at)));
    least = λ z low each. swept_least v floor z es low (λ i x e at is.
        let here : lookup (is_key x) es ≡ Some e = lookup_from_place key_laws es i x e distinct at in
        each x (entry_of e) (ap entry_option here) (ap entry_option (gone x e here is)));
  }

  -- a key that is still held in write mode was
  pub placed_left : Placed before → Placed after
  placed_left placed x w h = by (lookup (is_key x) es) refl
    where
      by : (o : Option LockEntry) → lookup (is_key x) es ≡ o → IsSome (lookup (is_key x) rows)
      by None at = absurd (let e = found x ∙ ap (option_filter kept) at in let bad : None ≡ Some Write = rw e at h in cc)
      by (Some e) at = elim (cases_Bool (covered v e)) [
        | inl is ↦ absurd (let e' = gone x e at is in let bad : None ≡ Some Write = rw e' at h in cc)
        | inr no' ↦ placed x w (ap (λ (o : Option LockEntry). (entry_or floor (entry_option o)).holders w) at
            ∙ subst (λ (o : Option LockEntry). (entry_or (swept v floor es) (entry_option o)).holders w ≡ Some Write) (stayed x e at no') h)
      ]
