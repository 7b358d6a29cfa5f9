-- The room for the core that the desk makes when it closes.
use Rattle.std.specs.Prelude.{ℕ, ◌≤◌, ◌≡◌, length}
use Rattle.tau_base.specs.declared.limits.TheConstants.{SHARDS}
use Rattle.tau_core.specs.declared.state.Load.{Load}

-- of four vectors how many items each has, which is none, and how many it holds at most
abbrev pub HasRoom : Load → ℕ × ℕ → ℕ × ℕ → ℕ × ℕ → ℕ × ℕ → Type 0
HasRoom l shards seats streams committed =
    (shards.0 ≡ 0) × (SHARDS ≤ shards.1)
    × (seats.0 ≡ 0) × (l.workers ≤ seats.1)
    × (streams.0 ≡ 0) × (l.streams ≤ streams.1)
    × (committed.0 ≡ 0) × (length l.calls ≤ committed.1)
