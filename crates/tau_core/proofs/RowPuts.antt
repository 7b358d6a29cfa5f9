-- A row is put into a shard that nobody has locked: its key is locked, freed with the value, and its entry is dropped.
use Rattle.std.proofs.Common.{ℕ, ◌<◌, ◌≤◌, ◌≡◌, Bool, true, false, ◌⊎◌, inl, inr, List, [], ◌∷◌, length, refl, sym, ap, subst, ◌∙◌, Option, arith}
use Rattle.std.specs.Prelude.{Some, None, ◌==◌, ◌&&◌, if◌then◌else◌, cond, slice_get, slice_set}
use Rattle.std.specs.Option.{unwrap_or}
use Rattle.std.specs.Map.{lookup}
use Rattle.std.proofs.lemmas.Bool.{cases_eq}
use Rattle.std.proofs.lemmas.Option.{slice_get_within}
use Rattle.std.proofs.Common.{length-set}
use Rattle.tau_base.specs.declared.value.Key.{Key}
use Rattle.tau_base.specs.declared.value.Value.{Value}
use Rattle.tau_base.specs.declared.value.Value.TheVariants.{Absent}
use Rattle.tau_base.specs.declared.value.Mode.{Mode}
use Rattle.tau_base.specs.declared.value.Mode.TheVariants.{Write}
use Rattle.tau_base.specs.Database.{same_key}
use Rattle.tau_base.specs.Shards.{shard_number}
use Rattle.tau_base.specs.Vectors.{AtMost, join}
use Rattle.tau_base.proofs.Keys.{same_key_is}
use Rattle.tau_base.proofs.Vectors.{join_below, join_wider, at_most_itself, at_most_trans}
use Rattle.tau_model.specs.Tables.{db_of_rows}
use Rattle.tau_shard.specs.Shard as machine
use Rattle.tau_shard.specs.Shard.{at, entry_in, put_entry, held_as, shard_locked, shard_freed, Dropped}
use Rattle.tau_shard.proofs.At.{at_same, at_other, entry_same}
use Rattle.tau_shard.specs.Plain.{PlainShard}
use Rattle.tau_shard.specs.Read.{shard_of}
use Rattle.tau_shard.specs.Blocks.{empty}
use Rattle.tau_core.specs.Opens.{IsUnlocked, PutsRow, IsShardAtRest, AreShards}
use Rattle.tau_core.proofs.Lists.{got_same, got_other}

-- the entry of a key that one worker has locked and freed
abbrev nobody : ℕ → Option Mode
nobody w = None

abbrev left_entry : List ℕ → List ℕ → machine.Entry
left_entry floor lv = record { holders = at 0 None (at 0 (Some Write) nobody); write_lv = join floor lv; read_lv = floor }

abbrev freed_entry : List ℕ → machine.Entry → machine.Entry
freed_entry lv e = let f : machine.Entry = held_as e 0 None in record f { write_lv = join f.write_lv lv }

left_free : (w : ℕ) → at 0 None (at 0 (Some Write) nobody) w ≡ None
left_free w = elim (cases_eq w 0) [
  | inl e ↦ ap (at 0 None (at 0 (Some Write) nobody)) e ∙ at_same 0 None (at 0 (Some Write) nobody)
  | inr ne ↦ at_other 0 None (at 0 (Some Write) nobody) w ne ∙ at_other 0 (Some Write) nobody w ne
]

module _ (floor : List ℕ) (x : Key) (v : Value) (sh : machine.Shard) (entries : (y : Key) → sh.entries y ≡ None) where
  abbrev worked : machine.Shard
  worked = shard_freed (shard_locked sh 0 x Write) 0 x floor (Some v)

  left_is : freed_entry floor (entry_in (shard_locked sh 0 x Write) x) ≡ left_entry sh.floor floor
  left_is =
      ap (freed_entry floor) (entry_same sh x (held_as (entry_in sh x) 0 (Some Write))) ∙
      ap (λ (o : Option machine.Entry). freed_entry floor (held_as (machine.entry_or sh.floor o) 0 (Some Write))) (entries x)

  -- the entry of a key, where there is one, is that one
  worked_entry : (y : Key) (e : machine.Entry) → worked.entries y ≡ Some e → e ≡ left_entry sh.floor floor
  worked_entry y e is = by_case (same_key y x) is
    where
      by_case : (b : Bool) → (if b then Some (freed_entry floor (entry_in (shard_locked sh 0 x Write) x)) else (if b then Some (held_as (entry_in sh x) 0 (Some Write)) else sh.entries y)) ≡ Some e → e ≡ left_entry sh.floor floor
      by_case true f = (let same : freed_entry floor (entry_in (shard_locked sh 0 x Write) x) ≡ e = cc in sym same ∙ left_is)
      by_case false f = absurd (let bad : None ≡ Some e = sym (entries y) ∙ f in cc)

  worked_none : (new : machine.Shard) → AtMost sh.floor floor → Dropped floor worked new → (y : Key) → new.entries y ≡ None
  worked_none new high d y = by_case (worked.entries y) refl
    where
      by_case : (o : Option machine.Entry) → worked.entries y ≡ o → new.entries y ≡ None
      by_case None e = by_stay (d.stays y)
        where
          by_stay : {A : Type 0} → (new.entries y ≡ worked.entries y) ⊎ ((new.entries y ≡ None) × A) → new.entries y ≡ None
          by_stay (inl same) = same ∙ e
          by_stay (inr gone) = gone.0
      by_case (Some e) f =
          let is = worked_entry y e f in
          d.all y e f
          (λ w. ap (λ (a : machine.Entry). a.holders w) is ∙ left_free w)
          (subst (λ (a : machine.Entry). AtMost a.write_lv floor) (sym is) (join_below sh.floor floor floor high (at_most_itself floor)))
          (subst (λ (a : machine.Entry). AtMost a.read_lv floor) (sym is) high)

  worked_high : (new : machine.Shard) → AtMost sh.floor floor → Dropped floor worked new → AtMost new.floor floor
  worked_high new high d = d.least floor high (λ y e f gone.
      let is = worked_entry y e f in (
        subst (λ (a : machine.Entry). AtMost a.write_lv floor) (sym is) (join_below sh.floor floor floor high (at_most_itself floor)),
        subst (λ (a : machine.Entry). AtMost a.read_lv floor) (sym is) high,
      ))

  worked_narrow : (new : machine.Shard) → length sh.floor ≤ length floor → Dropped floor worked new → length new.floor ≤ length floor
  worked_narrow new narrow d = d.narrow (length floor) narrow (λ y e f.
      let is = worked_entry y e f in (
        subst (λ (a : machine.Entry). length a.write_lv ≤ length floor) (sym is) (let wide = (join_wider sh.floor floor).2 in omega arith),
        subst (λ (a : machine.Entry). length a.read_lv ≤ length floor) (sym is) narrow,
      ))

-- the three steps put the row
pub row_put : (floor : List ℕ) (x : Key) (v : Value) (s locked freed new : PlainShard) → IsUnlocked floor s →
    shard_of locked ≡ shard_locked (shard_of s) 0 x Write → shard_of freed ≡ shard_freed (shard_of locked) 0 x floor (Some v) → Dropped floor (shard_of freed) (shard_of new) →
    PutsRow floor x v s new
row_put floor x v s locked freed new u l f d =
    let is : shard_of freed ≡ worked floor x v (shard_of s) u.entries = f ∙ ap (λ (a : machine.Shard). shard_freed a 0 x floor (Some v)) l in
    let drops : Dropped floor (worked floor x v (shard_of s) u.entries) (shard_of new) = subst (λ (a : machine.Shard). Dropped floor a (shard_of new)) is d in
    record {
      unlocked = record {
        low = at_most_trans floor (shard_of s).floor (shard_of new).floor u.low drops.up;
        high = worked_high floor x v (shard_of s) u.entries (shard_of new) u.high drops;
        narrow = worked_narrow floor x v (shard_of s) u.entries (shard_of new) u.narrow drops;
        entries = worked_none floor x v (shard_of s) u.entries (shard_of new) u.high drops;
      };
      rows = drops.rows;
    }

-- one more row in front, by its key
row_first : (x y : Key) (v : Value) (rest : List (Key × Value)) → same_key y x ≡ true → db_of_rows ((x, v) ∷ rest) y ≡ v
row_first x y v rest e = ap (λ (b : Bool). unwrap_or (cond b (Some v) (lookup (same_key y) rest)) Absent) e

row_later : (x y : Key) (v : Value) (rest : List (Key × Value)) → same_key y x ≡ false → db_of_rows ((x, v) ∷ rest) y ≡ db_of_rows rest y
row_later x y v rest e = ap (λ (b : Bool). unwrap_or (cond b (Some v) (lookup (same_key y) rest)) Absent) e

-- a shard without rows
pub shard_rests : (floor : List ℕ) (i : ℕ) (s : PlainShard) → shard_of s ≡ empty floor → IsShardAtRest floor [] i s
shard_rests floor i s e = record {
  unlocked = record {
    low = subst (λ (a : machine.Shard). AtMost floor a.floor) (sym e) (at_most_itself floor);
    high = subst (λ (a : machine.Shard). AtMost a.floor floor) (sym e) (at_most_itself floor);
    narrow = subst (λ (a : machine.Shard). length a.floor ≤ length floor) (sym e) (omega arith);
    entries = λ x. ap (λ (a : machine.Shard). a.entries x) e;
  };
  rows = λ x is. ap (λ (a : machine.Shard). a.rows x) e;
}

-- the row goes to its shard
pub rows_put : (floor : List ℕ) (x : Key) (v : Value) (rest : List (Key × Value)) (shards : List PlainShard) (i : ℕ) (s new : PlainShard) → AreShards floor rest shards →
    slice_get shards i ≡ Some s → i ≡ shard_number x → PutsRow floor x v s new → AreShards floor ((x, v) ∷ rest) (slice_set shards i new)
rows_put floor x v rest shards i s new a is number puts = record {
  count = length-set shards i new ∙ a.count;
  each = each;
}
  where
    within : i < length shards
    within = slice_get_within shards i s is

    own_row : (y : Key) → shard_number y ≡ i → (b : Bool) → same_key y x ≡ b → (shard_of new).rows y ≡ db_of_rows ((x, v) ∷ rest) y
    own_row y there true e = ap (λ (d : Key → Value). d y) puts.rows ∙ ap (λ (b : Bool). cond b v ((shard_of s).rows y)) e ∙ sym (row_first x y v rest e)
    own_row y there false e = ap (λ (d : Key → Value). d y) puts.rows ∙ ap (λ (b : Bool). cond b v ((shard_of s).rows y)) e ∙ (a.each i s is).rows y there ∙ sym (row_later x y v rest e)

    other_row : (j : ℕ) (t : PlainShard) → (j ≡ i → ⊥) → slice_get shards j ≡ Some t → (y : Key) → shard_number y ≡ j → (b : Bool) → same_key y x ≡ b → (shard_of t).rows y ≡ db_of_rows ((x, v) ∷ rest) y
    other_row j t ne got y there true e = absurd (ne (sym there ∙ ap shard_number (same_key_is y x e) ∙ sym number))
    other_row j t ne got y there false e = (a.each j t got).rows y there ∙ sym (row_later x y v rest e)

    each : (j : ℕ) (t : PlainShard) → slice_get (slice_set shards i new) j ≡ Some t → IsShardAtRest floor ((x, v) ∷ rest) j t
    each j t e = by_case (cases_eq j i)
      where
        by_case : (j ≡ i) ⊎ (j ≡ i → ⊥) → IsShardAtRest floor ((x, v) ∷ rest) j t
        by_case (inl same) =
            let here : Some new ≡ Some t = sym (got_same shards i new within) ∙ ap (slice_get (slice_set shards i new)) (sym same) ∙ e in
            let is_new : new ≡ t = cc in
            subst (λ (k : ℕ). IsShardAtRest floor ((x, v) ∷ rest) k t) (sym same)
            (subst (λ (b : PlainShard). IsShardAtRest floor ((x, v) ∷ rest) i b) is_new (record { unlocked = puts.unlocked; rows = λ y there. own_row y there (same_key y x) refl }))
        by_case (inr ne) =
            let got : slice_get shards j ≡ Some t = sym (got_other shards i j new ne) ∙ e in
            record { unlocked = (a.each j t got).unlocked; rows = λ y there. other_row j t ne got y there (same_key y x) refl }
