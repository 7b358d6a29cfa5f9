-- The head gives its roles to seats, and takes them back.
use Rattle.std.specs.Prelude.{ℕ, ◌<◌, ◌≤◌, ◌≡◌, ◌==◌, cond, ◌||◌, false, List, [], ◌∷◌, ◌++◌, Option, Some, None, slice_index, slice_set}
use Rattle.tau_base.specs.Vectors.{join}
use Rattle.tau_model.specs.History.{Numbered, Member}
use Rattle.tau_machine.specs.Worker.{Worker}
use Rattle.tau_core.specs.declared.state.Load.{Load}
use Rattle.tau_rule.specs.Role.{Working, Clerking, Role, role_in}
use Rattle.tau_rule.specs.Knows.{Knows}

abbrev pub without : ℕ → List (ℕ × Role) → List (ℕ × Role)
without r [] = []
without r (x ∷ xs) = cond (x.0 == r) (without r xs) (x ∷ without r xs)

abbrev pub role_or : Option Role → Role
role_or None = record { share = Clerking []; raised = false; spare = (0, 0) }
role_or (Some x) = x

abbrev pub left_by : ℕ → Knows → Knows
left_by r v = record v { roles = without r v.roles }

abbrev pub split_off : ℕ → Knows → Knows
split_off r v = record v { roles = (r, role_or (role_in r v.roles)) ∷ []; hand = None }

abbrev pub both : Knows → Knows → Knows
both v w = record v { roles = w.roles ++ v.roles; seen = join v.seen w.seen; found = v.found || w.found }

-- a role is split off as it is told to be
abbrev pub split_as : ℕ → Role → Knows → Knows
split_as r y v = record v { roles = (r, y) ∷ []; hand = None }

-- every worker's role is here and rests, and this is the lowest of the calls left over, of worker w
pub record CanResume (l : Load) (v : Knows) (w : ℕ) (call : Numbered) (front back : List Numbered) : Type 0 where
  pub role : Role
  pub worker : Worker
  pub is : role_in w v.roles ≡ Some role
  pub share : role.share ≡ Working worker
  pub there : w < l.workers
  pub left : worker.left ≡ front ++ call ∷ back
  pub all : (u : ℕ) → u < l.workers → (r : Role) × (k : Worker) × (role_in u v.roles ≡ Some r) × (r.share ≡ Working k) × (k.hand ≡ None) × (k.waiting ≡ []) × ((c : Numbered) → Member c k.left → call.number ≤ c.number)

abbrev pub resumed : Role → Worker → Numbered → List Numbered → List Numbered → Role
resumed x wk call front back = record x { share = Working (record wk { waiting = call ∷ []; left = front ++ back }) }

-- Where the second one is the manager's of stream j: of that stream the first one has then seen just what the manager has, which is how far it is persisted, and of the others what both had.
abbrev pub both_at : ℕ → Knows → Knows → Knows
both_at j v w = record v { roles = w.roles ++ v.roles; seen = slice_set (join v.seen w.seen) j (slice_index w.seen j); found = v.found || w.found }
