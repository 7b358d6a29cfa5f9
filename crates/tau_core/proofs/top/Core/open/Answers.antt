use Rattle.std.proofs.Common.{ℕ, [], subst}
use Rattle.tau_core.specs.State.{plain}
use Rattle.tau_core.specs.Opens.{Opened, load_of, nothing}
use Rattle.tau_core.proofs.Opens.{opened}
use Rattle.tau_core.proofs.top.Core.open.Goals as goal

pub invariant_of-result : goal.invariant_of-result
invariant_of-result c =
    let o = opened (load_of c.args.load.now.declarations.procs c.args.load.now.calls c.args.mode c.from.result c.args.opening) (plain c.in_ok-state.state) c.in_ok-state.ensures in
    ([], nothing, o.stands)

pub returns : goal.returns
returns c =
    subst (λ (n : ℕ). Opened (load_of c.args.load.now.declarations.procs c.args.load.now.calls c.args.mode n c.args.opening) (plain c.in_ok-state.state)) c.from.ensures
    (opened (load_of c.args.load.now.declarations.procs c.args.load.now.calls c.args.mode c.from.result c.args.opening) (plain c.in_ok-state.state) c.in_ok-state.ensures)
