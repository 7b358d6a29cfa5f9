-- Shards in maps that change at one key.
use Rattle.std.proofs.Common.{ℕ, true, false, cond, ◌≡◌, inl, inr, List, [], ◌∷◌, refl, sym, ap, subst, ◌∙◌, Option, arith}
use Rattle.std.specs.Prelude.{Some, None, IsSome, IsOk, OnOk, OnErr, Result, Ok, Err, Bool, not, ◌&&◌, ◌==◌}
use Rattle.tau_shard.specs.Blocks.{against, blocks, dep_locked}
use Rattle.tau_base.specs.declared.value.NoMemory.{NoMemory}
use Rattle.std.specs.Option.{unwrap_or}
use Rattle.std.proofs.Math.Path.{fun_ext}
use Rattle.std.proofs.lemmas.Bool.{cases_Bool, cases_eq, ne_eqb, both_ways}
use Rattle.tau_base.specs.declared.value.Key.{Key}
use Rattle.tau_base.specs.declared.value.Value.{Value}
use Rattle.tau_base.specs.declared.value.Value.TheVariants.{Absent}
use Rattle.tau_base.specs.declared.value.Mode.{Mode}
use Rattle.tau_base.specs.declared.value.Mode.TheVariants.{Read, Write}
use Rattle.tau_base.specs.Database.{Db, same_key, written}
use Rattle.tau_base.specs.Vectors.{join}
use Rattle.tau_base.proofs.Vectors.{join_at, join_wider, join_from}
use Rattle.tau_base.proofs.Keys.{same_key_itself, same_key_is, same_key_sym, same_key_equal}
use Rattle.tau_shard.specs.Shard.{at, Entry, Shard, entry_or, put_entry, held_as}
use Rattle.tau_shard.proofs.At.{at_same, at_other, cases_key}
use Rattle.tau_shard.specs.declared.entry.LockEntry.{LockEntry}
use Rattle.tau_shard.specs.declared.entry.ShardRefusal.{ShardRefusal}
use Rattle.tau_shard.specs.Read.{is_key, entry_of, entry_option}

abbrev pub with_rows : Db → (Key → Option Entry) → List ℕ → Shard
with_rows rows entries floor = record { rows = rows; entries = entries; floor = floor }

-- maps find keys as the order of keys does
pub is_key_same : (a b : Key) → is_key a b ≡ same_key a b
is_key_same a b = sym (same_key_equal a b)

pub is_key_itself : (a : Key) → is_key a a ≡ true
is_key_itself a = is_key_same a a ∙ same_key_itself a

pub is_key_is : (a b : Key) → is_key a b ≡ true → a ≡ b
is_key_is a b e = same_key_is a b (sym (is_key_same a b) ∙ e)

pub key_apart : (y x : Key) → same_key y x ≡ false → is_key x y ≡ false
key_apart y x e = is_key_same x y ∙ same_key_sym x y ∙ e

-- a map that is changed at x, by std's test and by the theory's
pub changed : {A B : Type 0} (f : Option A → B) (get get' : Key → Option A) (x : Key) (o : Option A) → ((q : Key) → get' q ≡ cond (is_key x q) o (get q)) →
    (q : Key) → f (get' q) ≡ cond (same_key q x) (f o) (f (get q))
changed f get get' x o updates q = elim (cases_key q x) [
  | inl same ↦ subst (λ (k : Key). f (get' k) ≡ cond (same_key k x) (f o) (f (get k))) (sym same) (ap f (updates x) ∙ rw (is_key_itself x, same_key_itself x) refl)
  | inr ne ↦ ap f (updates q) ∙ rw (ne, key_apart q x ne) refl
]

pub put_shard : (rows : Db) (get get' : Key → Option LockEntry) (floor : List ℕ) (x : Key) (e : LockEntry) →
    ((q : Key) → get' q ≡ cond (is_key x q) (Some e) (get q)) →
    ◌≡◌ {A = Shard} (record { rows = rows; entries = λ q. entry_option (get' q); floor = floor })
    (put_entry (record { rows = rows; entries = λ q. entry_option (get q); floor = floor }) x (entry_of e))
put_shard rows get get' floor x e updates = λ i. record { rows = rows; entries = fun_ext (changed entry_option get get' x (Some e) updates) i; floor = floor }

pub set_rows : (get get' : Key → Option Value) (x : Key) (v : Value) → ((q : Key) → get' q ≡ cond (is_key x q) (Some v) (get q)) →
    ◌≡◌ {A = Db} (λ q. unwrap_or (get' q) Absent) (written ((x, v) ∷ []) (λ q. unwrap_or (get q) Absent))
set_rows get get' x v updates = fun_ext (changed (λ o. unwrap_or o Absent) get get' x (Some v) updates)

-- a row that is written with what it has
pub same_rows : (db : Db) (x : Key) → ◌≡◌ {A = Db} (written ((x, db x) ∷ []) db) db
same_rows db x = fun_ext (λ q. elim (cases_Bool (same_key q x)) [
  | inl is ↦ rw is (ap db (sym (same_key_is q x is)))
  | inr no' ↦ rw no' refl
])

is_new : {A : Type 0} (x : Key) (e : A) (get' get : Key → Option A) → ((q : Key) → get' q ≡ cond (is_key x q) (Some e) (get q)) → get' x ≡ Some e
is_new x e get' get updates = updates x ∙ rw (is_key_itself x) refl

-- what holds at each key of a map still holds after a change at x
pub placed_put : (get get' : Key → Option LockEntry) (floor : List ℕ) (there : Key → Type 0) (x : Key) (e : LockEntry) →
    ((q : Key) → get' q ≡ cond (is_key x q) (Some e) (get q)) → ((w : ℕ) → (entry_of e).holders w ≡ Some Write → there x) →
    ((y : Key) (w : ℕ) → (entry_or floor (entry_option (get y))).holders w ≡ Some Write → there y) →
    (y : Key) (w : ℕ) → (entry_or floor (entry_option (get' y))).holders w ≡ Some Write → there y
placed_put get get' floor there x e updates new old y w h = elim (cases_key y x) [
  | inl same ↦ subst there (sym same) (new w (
      ap (λ (o : Option LockEntry). (entry_or floor (entry_option o)).holders w) (sym (is_new x e get' get updates))
      ∙ subst (λ (k : Key). (entry_or floor (entry_option (get' k))).holders w ≡ Some Write) same h
      ))
  | inr ne ↦ old y w (ap (λ (o : Option LockEntry). (entry_or floor (entry_option o)).holders w) (sym (updates y ∙ rw (key_apart y x ne) refl)) ∙ h)
]

-- a row that has its place keeps it
pub there_kept : (get get' : Key → Option Value) (x : Key) (v : Value) → ((q : Key) → get' q ≡ cond (is_key x q) (Some v) (get q)) →
    (y : Key) → IsSome (get y) → IsSome (get' y)
there_kept get get' x v updates y h = elim (cases_Bool (is_key x y)) [
  | inl is ↦ let e : get' y ≡ Some v = updates y ∙ rw is refl in rw e refl
  | inr no' ↦ let e : get' y ≡ get y = updates y ∙ rw no' refl in subst (λ (o : Option Value). IsSome o) (sym e) h
]

-- a hold of another worker is an old one
pub held_other : (e : Entry) (w u : ℕ) (m : Option Mode) (n : Mode) → (m ≡ Some n → ⊥) → (held_as e w m).holders u ≡ Some n → e.holders u ≡ Some n
held_other e w u m n no' h = elim (cases_eq u w) [
  | inl is ↦ absurd (no' (sym (at_same w m e.holders) ∙ subst (λ (k : ℕ). at w m e.holders k ≡ Some n) is h))
  | inr ne ↦ sym (at_other w m e.holders u ne) ∙ h
]

none_write : None ≡ Some Write → ⊥
none_write e = cc

-- an entry that a worker gives back: who writes did
pub released_writes : (e : LockEntry) (f : Entry) (w : ℕ) → f.holders ≡ (held_as (entry_of e) w None).holders →
    (u : ℕ) → f.holders u ≡ Some Write → (entry_of e).holders u ≡ Some Write
released_writes e f w is u h = held_other (entry_of e) w u None Write none_write (ap (λ (holders : ℕ → Option Mode). holders u) (sym is) ∙ h)

-- the entry of x is changed in place, and who writes did
pub placed_in_place : (get get' : Key → Option LockEntry) (floor : List ℕ) (there : Key → Type 0) (x : Key) (e f : LockEntry) → Some e ≡ get x →
    ((q : Key) → get' q ≡ cond (is_key x q) (Some f) (get q)) → ((w : ℕ) → (entry_of f).holders w ≡ Some Write → (entry_of e).holders w ≡ Some Write) →
    ((y : Key) (w : ℕ) → (entry_or floor (entry_option (get y))).holders w ≡ Some Write → there y) →
    (y : Key) (w : ℕ) → (entry_or floor (entry_option (get' y))).holders w ≡ Some Write → there y
placed_in_place get get' floor there x e f at updates writes old =
    placed_put get get' floor there x f updates (λ w h. old x w (ap (λ (o : Option LockEntry). (entry_or floor (entry_option o)).holders w) (sym at) ∙ writes w h)) old

pub shard_in_place : (rows : Db) (get get' : Key → Option LockEntry) (floor : List ℕ) (x : Key) (e f : LockEntry) (change : Entry → Entry) → Some e ≡ get x →
    entry_of f ≡ change (entry_of e) → ((q : Key) → get' q ≡ cond (is_key x q) (Some f) (get q)) →
    ◌≡◌ {A = Shard} (record { rows = rows; entries = λ q. entry_option (get' q); floor = floor })
    (put_entry (record { rows = rows; entries = λ q. entry_option (get q); floor = floor }) x (change (entry_or floor (entry_option (get x)))))
shard_in_place rows get get' floor x e f change at is updates =
    put_shard rows get get' floor x f updates
    ∙ ap (put_entry (record { rows = rows; entries = λ q. entry_option (get q); floor = floor }) x)
    (is ∙ ap (λ (o : Option LockEntry). change (entry_or floor (entry_option o))) at)

pub when_ok : {P : Type 0} (r : Result (Unit {0}) NoMemory) → IsOk r → OnOk r P → P
when_ok (Ok u) is p = p
when_ok (Err e) is p = absurd (bad e is)
  where
    bad : (e : NoMemory) → IsOk {T = Unit {0}} (Err e) → ⊥
    bad e q = cc

against_write : (m : Mode) → against m (Some Write) ≡ true
against_write Read = refl
against_write Write = refl

against_none : (m : Mode) → against m None ≡ false
against_none Read = refl
against_none Write = refl

-- where nobody stands against a lock, only the worker itself writes after it
pub lock_writes : (e : Entry) (w u : ℕ) (m : Mode) → ((v : ℕ) → blocks e w m v ≡ false) → (held_as e w (Some m)).holders u ≡ Some Write → m ≡ Write
lock_writes e w u m free h = elim (cases_eq u w) [
  | inl is ↦ let same : Some m ≡ Some Write = sym (at_same w (Some m) e.holders) ∙ subst (λ (k : ℕ). at w (Some m) e.holders k ≡ Some Write) is h in cc
  | inr ne ↦
      let old : e.holders u ≡ Some Write = sym (at_other w (Some m) e.holders u ne) ∙ h in
      let bad : blocks e w m u ≡ true = rw (ne_eqb u w ne, old) (against_write m) in
      absurd (both_ways (blocks e w m u) (free u) bad)
]

-- a vector that is raised by the floor twice is raised by it once
join_twice : (v w : List ℕ) → join v w ≡ join (join v w) w
join_twice v w = join_from (join v w) (join v w) w (let wide = join_wider v w in omega (arith, wide.1)) (λ k. let at = join_at v w k in omega (arith, at))

pub by_floor : (m : Mode) (dep floor : List ℕ) → join dep floor ≡ dep_locked m dep (entry_or floor None)
by_floor Read dep floor = refl
by_floor Write dep floor = join_twice dep floor

-- nobody stands against the first lock of a key
pub first_free : (floor : List ℕ) (w : ℕ) (m : Mode) (u : ℕ) → blocks (entry_or floor None) w m u ≡ false
first_free floor w m u = rw (against_none m) (off (u == w))
  where
    off : (b : Bool) → not b && false ≡ false
    off true = refl
    off false = refl

-- who writes a new entry that is held
pub first_writes : (floor : List ℕ) (w u : ℕ) (m : Mode) → (held_as (entry_or floor None) w (Some m)).holders u ≡ Some Write → m ≡ Write
first_writes floor w u m h = lock_writes (entry_or floor None) w u m (λ v. first_free floor w m v) h

pub on_ok : {A E : Type 0} {P Q : Type 0} (r : Result A E) → (P → Q) → OnOk r P → OnOk r Q
on_ok (Ok a) f p = f p
on_ok (Err e) f p = tt

pub on_err : {A E : Type 0} {P Q : Type 0} (r : Result A E) → (P → Q) → OnErr r P → OnErr r Q
on_err (Ok a) f p = tt
on_err (Err e) f p = f p

-- who writes after a lock, by what it answers
pub writes_there : {P : Type 0} (r : Result (Unit {0}) ShardRefusal) (e f : LockEntry) (w : ℕ) (m : Mode) → OnOk r (entry_of f ≡ held_as (entry_of e) w (Some m)) →
    OnOk r ((v : ℕ) → blocks (entry_of e) w m v ≡ false) → OnErr r (f ≡ e) → OnOk r (m ≡ Write → P) → ((u : ℕ) → (entry_of e).holders u ≡ Some Write → P) →
    (u : ℕ) → (entry_of f).holders u ≡ Some Write → P
writes_there (Ok v) e f w m is free same there old u h = there (lock_writes (entry_of e) w u m free (ap (λ (x : Entry). x.holders u) (sym is) ∙ h))
writes_there (Err x) e f w m is free same there old u h = old u (ap (λ (y : LockEntry). (entry_of y).holders u) (sym same) ∙ h)
