-- What is left when all is fed.
use Rattle.std.specs.Prelude.{ℕ, ◌≡◌, ◌<◌, List, [], length, map, slice_get, Some, Ok, Err}
use Rattle.tau_base.specs.declared.format.Format.{Format}
use Rattle.tau_record.specs.declared.fault.RecordCause.TheVariants.{Short}
use Rattle.tau_scan.specs.declared.fault.LogCause.TheVariants as cause
use Rattle.tau_scan.specs.declared.fault.LogFault.{LogFault}
use Rattle.tau_scan.specs.declared.log.Log.{Log}
use Rattle.tau_scan.specs.Reading.{log_of_contents}
use Rattle.tau_base.specs.declared.value.Key.{Key}
use Rattle.tau_base.specs.declared.value.Value.{Value}
use Rattle.tau_scan.specs.Taken.{taken}
use Rattle.tau_replay.specs.Followed.{IsRedoneBy}
use Rattle.tau_replay.specs.Redone.{IsRedone, IsTangledAt}
use Rattle.tau_follow.specs.declared.reader.Reader.{Reader}
use Rattle.tau_follow.specs.declared.state.State.{State}

-- the fault of a record that is cut short
abbrev pub short : ℕ → ℕ → LogFault
short j at = record { stream = j; cause = cause.Body (record { at = at; cause = Short }) }

-- the fault of records that wait for one another
abbrev pub tangled : ℕ → ℕ → LogFault
tangled j at = record { stream = j; cause = cause.Tangled at }

-- of the streams before this one all bytes are read, and of this one some are left
pub record IsCutAt (readers : List Reader) (fault : LogFault) : Type 0 where
  pub j : ℕ
  pub reader : Reader
  pub there : slice_get readers j ≡ Some reader
  pub left : reader.rest.items ≡ [] → ⊥
  pub before : (i : ℕ) (r : Reader) → i < j → slice_get readers i ≡ Some r → r.rest.items ≡ []
  pub is : fault ≡ short j reader.at

-- the vector has where each stream is read to
abbrev pub AreLengths : List Reader → List ℕ → Type 0
AreLengths readers lv = lv ≡ map (λ (r : Reader). r.at) readers

-- All but the records is the same.
pub record IsWithout (old new : State) : Type 0 where
  pub readers : new.readers ≡ old.readers
  pub applier : new.applier ≡ old.applier
  pub known : new.known ≡ old.known
  pub declarations : new.declarations ≡ old.declarations
  pub store : new.store ≡ old.store
  pub done : new.done ≡ old.done
  pub tables : new.tables ≡ old.tables

-- The contents hold no log, since a last record is not whole.
pub record IsCutShort (f : Format) (fed : List (List ℕ)) (fault : LogFault) : Type 0 where
  pub stream : ℕ
  pub at : ℕ
  pub is : fault ≡ short stream at
  pub cause : log_of_contents f fed ≡ Err fault

-- the contents hold the log, and this is what recovery gives of it: the number of records that it takes, and the rows
pub record IsRecovered (f : Format) (fed : List (List ℕ)) (log : Log) (count : ℕ) (rows : List (Key × Value)) : Type 0 where
  pub reads : log_of_contents f fed ≡ Ok log
  pub count_is : count ≡ length (taken log)
  pub redone : IsRedone log rows
  pub by_turns : IsRedoneBy log [] rows

-- The contents hold no log, or one of which recovery gets stuck.
pub data IsNoLog (f : Format) (fed : List (List ℕ)) (fault : LogFault) : Type 0 where
  cut_short : IsCutShort f fed fault → IsNoLog f fed fault
  stuck : (log : Log) (j at : ℕ) → log_of_contents f fed ≡ Ok log → fault ≡ tangled j at → IsTangledAt log j at → IsNoLog f fed fault
