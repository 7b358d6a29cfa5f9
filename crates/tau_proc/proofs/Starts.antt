-- Calls of declared procedures, and how many wants are left to a machine.
use Rattle.std.proofs.Common.{◌≡◌, ℕ, zero, suc, [], ◌∷◌, ◌+◌, ◌-◌, ◌≤◌, ◌<◌, false, List, length, refl, arith}
use Rattle.std.specs.Prelude.{Some, slice_get, IsTrue}
use Rattle.std.proofs.lemmas.Bool.{eqb-true, ne_eqb}
use Rattle.std.proofs.Math.Dec.{eqb}
use Rattle.tau_base.specs.declared.limits.TheConstants.{MAX_WRITES}
use Rattle.tau_base.specs.declared.value.Call.{Call}
use Rattle.tau_base.specs.declared.value.Value.{Value}
use Rattle.tau_proc.specs.declared.machine.Stop.{Stop}
use Rattle.tau_proc.specs.declared.machine.Stop.TheVariants.{Row, End}
use Rattle.tau_proc.specs.declared.proc.Proc.{Proc}
use Rattle.tau_proc.specs.Meaning.{begun}
use Rattle.tau_proc.specs.Progress.{left_at, rows_at}
use Rattle.tau_proc.specs.Stage.{stage_of, stage}
use Rattle.tau_proc.specs.Takes.{takes, takes_declared}

pub fewer : (steps done later writes granted : ℕ) (stop : Stop) → done + rows_at stop ≤ later → later ≤ steps → writes ≤ MAX_WRITES →
    left_at steps later writes granted stop < (steps - done) + (MAX_WRITES + 1)
fewer steps done later writes granted (Row key then) less most room = omega (arith, less, most)
fewer steps done later writes granted (End reply) less most room = omega (arith, room)

in_list : (xs : List Proc) (i : ℕ) (args : List Value) → IsTrue (takes_declared (slice_get xs i) args) → i < length xs
in_list [] i args h = cc
in_list (x ∷ xs) zero args h = omega arith
in_list (x ∷ xs) (suc i) args h = omega (arith, in_list xs i args h)

pub declared_below : (procs : List Proc) (c : Call) → 4 ≤ c.proc → IsTrue (takes procs c) → c.proc - 4 < length procs
declared_below procs c declared h =
    let not_put : eqb c.proc 0 ≡ false = ne_eqb c.proc 0 (λ e. omega (arith, e, declared)) in
    let not_add : eqb c.proc 1 ≡ false = ne_eqb c.proc 1 (λ e. omega (arith, e, declared)) in
    let not_get : eqb c.proc 2 ≡ false = ne_eqb c.proc 2 (λ e. omega (arith, e, declared)) in
    let not_del : eqb c.proc 3 ≡ false = ne_eqb c.proc 3 (λ e. omega (arith, e, declared)) in
    in_list procs (c.proc - 4) c.args.items (rw (not_put, not_add, not_get, not_del) at h)

module _ (procs : List Proc) (c : Call) (p : Proc) (declared : 4 ≤ c.proc) (there : slice_get procs (c.proc - 4) ≡ Some p) where
  pub declared_takes : IsTrue (takes procs c) → p.args ≡ length c.args.items
  declared_takes h =
      let not_put : eqb c.proc 0 ≡ false = ne_eqb c.proc 0 (λ e. omega (arith, e, declared)) in
      let not_add : eqb c.proc 1 ≡ false = ne_eqb c.proc 1 (λ e. omega (arith, e, declared)) in
      let not_get : eqb c.proc 2 ≡ false = ne_eqb c.proc 2 (λ e. omega (arith, e, declared)) in
      let not_del : eqb c.proc 3 ≡ false = ne_eqb c.proc 3 (λ e. omega (arith, e, declared)) in
      let taken : IsTrue (takes_declared (slice_get procs (c.proc - 4)) c.args.items) = rw (not_put, not_add, not_get, not_del) at h in
      let counted : IsTrue (takes_declared (Some p) c.args.items) = rw there at taken in
      eqb-true p.args (length c.args.items) counted

  pub declared_stage : (vs : List Value) → stage procs c vs ≡ stage_of c.args.items p.steps 1 begun vs
  declared_stage vs =
      let not_put : eqb c.proc 0 ≡ false = ne_eqb c.proc 0 (λ e. omega (arith, e, declared)) in
      let not_add : eqb c.proc 1 ≡ false = ne_eqb c.proc 1 (λ e. omega (arith, e, declared)) in
      let not_get : eqb c.proc 2 ≡ false = ne_eqb c.proc 2 (λ e. omega (arith, e, declared)) in
      let not_del : eqb c.proc 3 ≡ false = ne_eqb c.proc 3 (λ e. omega (arith, e, declared)) in
      rw (not_put, not_add, not_get, not_del, there) refl
