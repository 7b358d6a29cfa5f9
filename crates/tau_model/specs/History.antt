-- Executing calls one after another, dependence and closed sets. Nothing here knows a vector, a lock, a stream or a record.
use Rattle.std.specs.Prelude.{ℕ, Bool, true, false, ◌||◌, ◌≡◌, ◌⊎◌, List, [], ◌∷◌, ◌++◌}
use Rattle.tau_base.specs.declared.value.Key.{Key}
use Rattle.tau_base.specs.declared.value.Value.{Value}
use Rattle.tau_base.specs.declared.value.Call.{Call}
use Rattle.tau_base.specs.Database.{Db, written}
use Rattle.tau_proc.specs.declared.proc.Proc.{Proc}
use Rattle.tau_proc.specs.declared.reply.Reply.{Reply}
use Rattle.tau_proc.specs.Effect.{Effect, has_key}
use Rattle.tau_proc.specs.Meaning.{meaning}

-- a call of a history, with the number that tells it from the others
pub record Numbered : Type 0 where
  pub number : ℕ
  pub call : Call

-- a numbered call means what its call means
abbrev pub means : List Proc → Numbered → Db → Effect
means procs c db = meaning procs c.call db

-- the last database, where the calls are executed one after another
abbrev pub exec : {C : Type 0} → (C → Db → Effect) → List C → Db → Db
exec meaning [] db = db
exec meaning (c ∷ cs) db = exec meaning cs (written (meaning c db).writes db)

-- the replies on the way
abbrev pub replies : {C : Type 0} → (C → Db → Effect) → List C → Db → List Reply
replies meaning [] db = []
replies meaning (c ∷ cs) db = (meaning c db).reply ∷ replies meaning cs (written (meaning c db).writes db)

-- a call with what it did at its place
pub record Act (C : Type 0) : Type 0 where
  pub call : C
  pub effect : Effect

-- the calls, each with what it does at its place
abbrev pub trace : {C : Type 0} → (C → Db → Effect) → List C → Db → List (Act C)
trace meaning [] db = []
trace meaning (c ∷ cs) db = record { call = c; effect = meaning c db } ∷ trace meaning cs (written (meaning c db).writes db)

-- the database after the writes of these acts, one after another
abbrev pub redo : {C : Type 0} → List (Act C) → Db → Db
redo [] db = db
redo (x ∷ xs) db = redo xs (written x.effect.writes db)

abbrev pub Member : {A : Type 0} → A → List A → Type 0
Member a [] = ⊥
Member a (x ∷ xs) = (x ≡ a) ⊎ Member a xs

-- u stands somewhere before t
abbrev pub Before : {A : Type 0} → A → A → List A → Type 0
Before u t [] = ⊥
Before u t (x ∷ xs) = ((x ≡ u) × Member t xs) ⊎ Before u t xs

-- ys has the elements of xs, in some order: the first of xs stands somewhere in ys, and without it ys has the others
abbrev pub Reordered : {A : Type 0} → List A → List A → Type 0
Reordered [] ys = ys ≡ []
Reordered {A} (x ∷ xs) ys = (front : List A) × (back : List A) × (ys ≡ front ++ x ∷ back) × Reordered xs (front ++ back)

abbrev pub updating : List (Key × Value) → Bool
updating [] = false
updating (w ∷ ws) = true

-- a call is updating where it writes a key, else read-only
abbrev pub updates : Effect → Bool
updates e = updating e.writes

-- the key is in the footprint: it was read or written
abbrev pub touches : Key → Effect → Bool
touches k e = has_key k e.reads || has_key k e.writes

-- some key is in both footprints, and one of the two writes it
abbrev pub Conflict : Effect → Effect → Type 0
Conflict e f = (k : Key) × (touches k e ≡ true) × (touches k f ≡ true) × ((has_key k e.writes || has_key k f.writes) ≡ true)

-- t depends on u in these acts: u is earlier and they conflict, or t depends on a third that depends on u
pub data Depends {C : Type 0} (acts : List (Act C)) : Act C → Act C → Type 0 where
  at_once : {t u : Act C} → Before u t acts → Conflict u.effect t.effect → Depends acts t u
  through : {t v u : Act C} → Depends acts t v → Depends acts v u → Depends acts t u

-- the set holds, with each call, every updating call on which that call depends
abbrev pub Closed : {C : Type 0} → List (Act C) → (C → Bool) → Type 0
Closed {C} acts chosen = (t u : Act C) → Depends acts t u → chosen t.call ≡ true → updates u.effect ≡ true → chosen u.call ≡ true

-- ys has no conflicting pair of acts the other way round
abbrev pub KeepsOrder : {C : Type 0} → List (Act C) → List (Act C) → Type 0
KeepsOrder {C} acts ys = (u t : Act C) → Before u t acts → Conflict u.effect t.effect → Before t u ys → ⊥

-- no pair of calls that conflict in these acts stands the other way round in these calls
abbrev pub OrdersAlike : {C : Type 0} → List (Act C) → List C → Type 0
OrdersAlike {C} acts calls = (u t : Act C) → Before u t acts → Conflict u.effect t.effect → Before t.call u.call calls → ⊥
