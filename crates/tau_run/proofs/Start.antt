-- A core in which nothing has happened is the start of a run.
use Rattle.tau_core.specs.declared.state.Load.{Load}
use Rattle.tau_core.specs.State.{Plain}
use Rattle.tau_core.specs.View.{core_of}
use Rattle.tau_core.specs.Opens.{Opened, nothing}
use Rattle.tau_run.specs.CoreRun.{IsFirstState}

pub started : (l : Load) (p : Plain) → Opened l p → IsFirstState l (core_of p nothing)
started l p o = record { floor_low = o.floor_low; floor_high = o.floor_high; waiting = o.waiting }
