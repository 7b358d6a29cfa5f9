-- What the head knows when nothing has happened: every role, as the opening has it.
use Rattle.std.specs.Prelude.{ℕ, zero, suc, ◌+◌, ◌-◌, false, if◌then◌else◌, nat_le, List, [], ◌∷◌, Some, None, replicate, slice_index}
use Rattle.tau_core.specs.State.{Plain}
use Rattle.tau_core.specs.View.{worker_at}
use Rattle.tau_rule.specs.Role.{Share, Working, Managing, Clerking, Role}
use Rattle.tau_rule.specs.Knows.{Knows}

abbrev pub worker_share : Plain → ℕ → Share
worker_share origin u = Working (worker_at origin u)

abbrev pub manager_share : Plain → ℕ → Share
manager_share origin u = Managing (record { taken = []; gathered = slice_index origin.load.opening.ends (u - origin.load.workers); anchors = []; own = []; stored = [] })

abbrev pub clerk_share : Plain → Share
clerk_share origin = Clerking (replicate origin.load.workers [])

abbrev pub outer_share : Plain → ℕ → Share
outer_share origin u = if nat_le (u + 1) (origin.load.workers + origin.load.streams) then manager_share origin u else clerk_share origin

abbrev pub share_at : Plain → ℕ → Share
share_at origin u = if nat_le (u + 1) origin.load.workers then worker_share origin u else outer_share origin u

abbrev pub role_at : Plain → ℕ → Role
role_at origin u = record { share = share_at origin u; raised = false; spare = (0, 0) }

abbrev pub roles_below : Plain → ℕ → List (ℕ × Role)
roles_below origin zero = []
roles_below origin (suc n) = (n, role_at origin n) ∷ roles_below origin n

abbrev pub first_view : Plain → Knows
first_view origin = record {
  opened = Some origin;
  roles = roles_below origin (origin.load.workers + origin.load.streams + 1);
  hand = None;
  seen = origin.load.opening.ends;
  read = (0, replicate origin.load.streams 0);
  found = false;
}
