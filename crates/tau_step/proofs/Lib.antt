mod Deciding
mod Counted
mod Standing
mod Working
mod Lines
mod Clearing
mod Joined
mod OneByOne
mod ToSteps
mod Scheduled
mod AnchorsDropped
mod Images
mod Handing
mod NothingNew
mod Gathering
mod Passing
mod Growing
mod Turning
mod Kept
mod Calls
mod RunSteps
mod Readings
mod Falling
mod Others
mod Rounding
mod EffectsInTurn
mod Totals
mod Resting
mod Idling
mod Late
mod RunEnds
mod Managers
mod Fitting
mod Running
mod Settling
mod ManagerRuns
mod StyleTurns
mod RoundSteps
mod Words
mod Rounds
mod Draining
mod Staged
mod LeftOvers
mod Short
mod Ending
mod Silent
mod Noting
mod Ordered
mod PeekTurns
mod OptimistTurns
mod StyleFits
mod StyleRuns
pub mod Begun
pub mod Bodies
pub mod Flushing
pub mod PartsOfPasses
pub mod Spared
pub mod TurnNotes
