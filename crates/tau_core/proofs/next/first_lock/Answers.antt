use Rattle.std.proofs.Common.{◌≡◌, [], refl, sym, ap, ◌∙◌}
use Rattle.std.specs.Prelude.{Some, None}
use Rattle.tau_base.specs.declared.value.Call.{Call}
use Rattle.tau_machine.specs.Stage.{stage}
use Rattle.tau_machine.specs.Hands.{Hand}
use Rattle.tau_machine.specs.Worker.{fresh, lock_of}
use Rattle.tau_core.proofs.Numbers.{numbers}
use Rattle.tau_core.proofs.NextLock.{none_first}
use Rattle.tau_core.proofs.next.first_lock.Goals as goal

pub returns-in-Some : goal.returns-in-Some
returns-in-Some c =
    let n = numbers c.args.state.now.load c.args.number c.requires.call.0 c.requires.call.1 in
    let same : c.call_at-call.result ≡ n.call =
    (let f : Some c.call_at-call.result ≡ Some n.call = sym c.call_at-call.ensures ∙ n.got in cc) in
    let next : lock_of (stage c.args.state.now.load.procs n.call []) [] ≡ Some (c.in-Some.key, c.in-Some.mode) =
    ap (λ (x : Call). lock_of (stage c.args.state.now.load.procs x []) []) (sym same) ∙ sym c.first_lock.ensures ∙ c.in-Some.is in
    let hand : Hand = fresh c.args.state.now.load.streams (record { number = c.args.number; call = n.call }) 0 in
    (n.call, n.is, record { hand = hand; is = refl; phase = refl; number = refl; next = next })

pub returns-in-None : goal.returns-in-None
returns-in-None c =
    let n = numbers c.args.state.now.load c.args.number c.requires.call.0 c.requires.call.1 in
    let same : c.call_at-call.result ≡ n.call =
    (let f : Some c.call_at-call.result ≡ Some n.call = sym c.call_at-call.ensures ∙ n.got in cc) in
    let none : lock_of (stage c.args.state.now.load.procs n.call []) [] ≡ None =
    ap (λ (x : Call). lock_of (stage c.args.state.now.load.procs x []) []) (sym same) ∙ sym c.first_lock.ensures ∙ c.in-None.is in
    (n.call, n.is, none_first c.args.state.now.load c.args.number n.call none)
