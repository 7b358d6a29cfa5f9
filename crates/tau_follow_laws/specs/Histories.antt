-- The calls of a history whose records recovery takes, and those whose records a follower has applied.
use Rattle.std.specs.Prelude.{ℕ, ◌≡◌, ◌&&◌, Bool, true, List}
use Rattle.tau_model.specs.History.{Act, Member, Closed, updates}
use Rattle.tau_model.specs.Logged.{Place, IsLogged}
use Rattle.tau_scan.specs.declared.log.Log.{Log}
use Rattle.tau_scan.specs.Taken.{Kept, taken}
use Rattle.tau_follow_laws.specs.Following.{starts_among}

module _ {C : Type 0} (place : C → Place) (logs : C → Bool) where
  -- whether the record of a call that has one is among these. Numbers of calls come again in other runs, places do not.
  abbrev pub has_record : List Kept → C → Bool
  has_record records c = logs c && starts_among records (place c).stream (place c).start

  -- The log is of these acts: their vectors cover what they depend on, records stand where the acts say, and what is taken of them is closed.
  pub record HoldsHistory (ends : List ℕ) (acts : List (Act C)) (log : Log) : Type 0 where
    pub logged : IsLogged place ends acts
    pub updating : (x : Act C) → Member x acts → logs x.call ≡ updates x.effect
    pub recorded : (x : Act C) → Member x acts → has_record (taken log) x.call ≡ true → (r : Kept) × Member r (taken log) × (r.place ≡ place x.call)
    pub closed : Closed acts (has_record (taken log))

-- a call of a history: its number, whether it has a record, and its place
pub record Recorded : Type 0 where
  pub number : ℕ
  pub logs : Bool
  pub place : Place

abbrev pub place_of : Recorded → Place
place_of c = c.place

abbrev pub logs_of : Recorded → Bool
logs_of c = c.logs
