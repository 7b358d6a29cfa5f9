-- What a call does to a database, as data.
use Rattle.std.specs.Prelude.{Bool, false, ◌||◌, ◌≡◌, List, [], ◌∷◌}
use Rattle.tau_base.specs.declared.value.Key.{Key}
use Rattle.tau_base.specs.declared.value.Value.{Value}
use Rattle.tau_base.specs.Database.{Db, same_key}
use Rattle.tau_proc.specs.declared.reply.Reply.{Reply}

-- the keys whose value came from the database, with the values seen, in order and as often as they were read; what the call writes, each key once, ascending; its reply
pub record Effect : Type 0 where
  pub reads : List (Key × Value)
  pub writes : List (Key × Value)
  pub reply : Reply

-- whether the key is in the list
abbrev pub has_key : Key → List (Key × Value) → Bool
has_key k [] = false
has_key k (e ∷ es) = same_key k e.0 || has_key k es

-- the database has the values that were seen
abbrev pub Agrees : List (Key × Value) → Db → Type 0
Agrees [] db = Unit {0}
Agrees (r ∷ rs) db = (db r.0 ≡ r.1) × Agrees rs db

-- what calls of this type mean reads the database at the keys that it tells, and nowhere else
pub record Sound {C : Type 0} (meaning : C → Db → Effect) : Type 0 where
  pub seen : (c : C) (db : Db) → Agrees (meaning c db).reads db
  pub determined : (c : C) (db other : Db) → Agrees (meaning c db).reads other → meaning c other ≡ meaning c db
