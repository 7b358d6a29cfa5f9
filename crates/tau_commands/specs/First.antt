-- What reading the log of the first disks gives, and what a call tells that looks at that log alone.
use Rattle.std.specs.Prelude.{ℕ, ◌<◌, ◌≡◌, List, [], ◌∷◌, length, drop, Result, None, Ok, Err, MatchResult}
use Rattle.tau_disk.specs.declared.disk.Disk.{Ghosts}
use Rattle.tau_disk.specs.Disk.{Rose}
use Rattle.tau_disk.specs.Used.{EachUsed, RoseAt, OnlyRead, AllCalls, IsFirstStopped}
use Rattle.tau_model.specs.History.{Member}
use Rattle.tau_scan.specs.declared.fault.LogFault.{LogFault}
use Rattle.tau_scan.specs.declared.fault.ScanRefusal.{ScanRefusal}
use Rattle.tau_scan.specs.declared.fault.ScanRefusal.TheVariants as scan
use Rattle.tau_scan.specs.declared.log.Log.{Log}
use Rattle.tau_scan.specs.Outside.{calls_to_read}
use Rattle.tau_scan.specs.Reading.{IsLog, log_of}
use Rattle.tau_commands.specs.declared.status.Status.{Status}
use Rattle.tau_commands.specs.declared.status.Status.TheVariants as status
use Rattle.tau_commands.specs.Outside.{Output, Wrote}
use Rattle.tau_commands.specs.Recovery.{EndsAsBad, images_of}

-- the answer to an opening that was refused
abbrev pub status_at : ScanRefusal → Status
status_at scan.NoMemory = status.NoMemory
status_at (scan.Failed j) = status.DiskFault j
status_at (scan.Bad fault) = status.BadLog fault

module _ {D : Type 0} (G : Ghosts D) (old new : List D) (n : ℕ) where
  -- each of the first n disks was read whole, and no call of any was to fail
  abbrev pub AreReadWhole : Type 0
  AreReadWhole = EachUsed (AllCalls G.tells G.number G.fails G.short calls_to_read) old new n

  -- this is their log
  pub record IsFirstLog (log : Log) : Type 0 where
    pub sound : IsLog log
    pub width : length log.elv ≡ n
    pub whole : AreReadWhole
    pub reads : G.tells → log_of None (images_of G.seen old n) ≡ Ok log

  -- this is the lowest one that failed
  pub record IsFirstFailed (j : ℕ) : Type 0 where
    pub low : j < n
    pub rose : RoseAt G.faults old new j
    pub stopped : G.tells → IsFirstStopped G.tells G.number G.fails G.short old new j

  -- this is why they hold no log
  pub record IsFirstFault (fault : LogFault) : Type 0 where
    pub whole : AreReadWhole
    pub reads : G.tells → log_of None (images_of G.seen old n) ≡ Err fault

  abbrev pub IsFirstRefusal : ScanRefusal → Type 0
  IsFirstRefusal scan.NoMemory = Unit {0}
  IsFirstRefusal (scan.Failed j) = IsFirstFailed j
  IsFirstRefusal (scan.Bad fault) = IsFirstFault fault

  -- the first n disks were at most read, and no other was touched; their log was read, or was refused
  pub record ReadsFirst (result : Result Log ScanRefusal) : Type 0 where
    pub read : EachUsed (OnlyRead G.tells G.seen G.may_leave G.moment G.may_leave_since) old new n
    pub rest : drop n new ≡ drop n old
    pub gives : MatchResult result IsFirstLog IsFirstRefusal

-- What a call tells that looks at the log of the first n disks, and redoes nothing: what it writes of their images, and why it
-- refuses them. Without a cause to end otherwise it does its work.
pub record TellsOfLog (Tells : List (List ℕ) → (List ℕ → Type 0) → Status → Type 0) {D : Type 0} (G : Ghosts D) (o : Output) (old new : List D) (answer : Status) (n : ℕ) : Type 0 where
  pub tells : G.tells → Tells (images_of G.seen old n) (Wrote o.hears o.held o.held') answer
  pub bad_log : (fault : LogFault) → answer ≡ status.BadLog fault → G.tells → log_of None (images_of G.seen old n) ≡ Err fault
  pub bad_log_told : G.tells → (fault : LogFault) → log_of None (images_of G.seen old n) ≡ Err fault → EndsAsBad fault answer
  pub done : G.tells → (log : Log) → log_of None (images_of G.seen old n) ≡ Ok log → (Rose o.faults o.faults' → ⊥) → ((j : ℕ) → j < n → RoseAt G.faults old new j → ⊥) → Member answer (status.Ok ∷ status.NoMemory ∷ [])
