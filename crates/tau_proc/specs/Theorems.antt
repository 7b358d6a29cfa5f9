-- What holds of every call.
use Rattle.std.specs.Prelude.{◌≡◌, ℕ, List, [], ◌∷◌, ◌++◌, slice_get, IsTrue}
use Rattle.std.specs.FinMap.{is_sorted}
use Rattle.tau_base.specs.declared.value.Call.{Call}
use Rattle.tau_base.specs.declared.value.Key.{Key}
use Rattle.tau_base.specs.declared.value.Value.{Value}
use Rattle.tau_base.specs.Database.{Db, key_cmp}
use Rattle.tau_proc.specs.declared.proc.Proc.{Proc}
use Rattle.tau_proc.specs.declared.reply.Reply.TheVariants.{Refused}
use Rattle.tau_proc.specs.declared.reply.Want.TheVariants.{Read}
use Rattle.tau_proc.specs.Effect.{Sound}
use Rattle.tau_proc.specs.Meaning.{meaning}
use Rattle.tau_proc.specs.Progress.{Progress, IsAt, next_want, want_of_write, buffered}
use Rattle.tau_proc.specs.Stage.{values}

-- what a call read is what the database has, and a database that has the same at those keys gives the same
abbrev pub ReadsDetermine : Type 0
ReadsDetermine = (procs : List Proc) → Sound (meaning procs)

-- the writes are in the order of their keys, each key once
abbrev pub WritesAscend : Type 0
WritesAscend = (procs : List Proc) (c : Call) (db : Db) → IsTrue (is_sorted key_cmp (meaning procs c db).writes)

abbrev pub RefusedWritesNothing : Type 0
RefusedWritesNothing = (procs : List Proc) (c : Call) (db : Db) (n : ℕ) → (meaning procs c db).reply ≡ Refused n → (meaning procs c db).writes ≡ []

-- a machine that was given the values of the reads so far wants the next read. Given all of them, it wants the written keys in turn and then replies, and its writes are those of the call
abbrev pub WantsAreMeaning : Type 0
WantsAreMeaning = (procs : List Proc) (c : Call) (db : Db) (m : Progress) →
    ((front : List (Key × Value)) (read : Key × Value) (back : List (Key × Value)) (n : ℕ) → (meaning procs c db).reads ≡ front ++ read ∷ back → IsAt procs c (values front) n m →
    next_want m ≡ Read read.0)
    × ((n : ℕ) → IsAt procs c (values (meaning procs c db).reads) n m →
    (next_want m ≡ want_of_write (slice_get (meaning procs c db).writes n) (meaning procs c db).reply) × (buffered m ≡ (meaning procs c db).writes))
