use Rattle.std.proofs.Common.{◌≡◌, ◌-◌, ◌≤◌, ◌<◌, sym, subst, ◌∙◌, refl, ap, length, get_or, arith, List}
use Rattle.std.specs.Prelude.{Some, slice_get}
use Rattle.std.proofs.lemmas.Option.{slice_get_read}
use Rattle.tau_base.specs.declared.value.Value.{Value}
use Rattle.tau_proc.specs.Limits.{IsWellFormed}
use Rattle.tau_proc.specs.Stage.{stage_of}
use Rattle.tau_proc.specs.Meaning.{begun}
use Rattle.tau_proc.proofs.Starts.{declared_below, declared_takes, declared_stage}
use Rattle.tau_proc.proofs.machine.Machine.restart.Goals as goal

pub begin_declared-requires-clause-well_formed : goal.begin_declared-requires-clause-well_formed
begin_declared-requires-clause-well_formed c =
    let four : 4 ≤ c.args.call.now.proc = omega arith in
    let below : c.args.call.now.proc - 4 < length c.args.procs.now = declared_below c.args.procs.now c.args.call.now four c.requires in
    let whole : IsWellFormed (get_or c.list-list.result.now c.from.result c.index-list-from.result) =
    rw (c.list-list.ensures.same, c.from.ensures) (c.list-list.ensures.keeps.each (c.args.call.now.proc - 4) c.index-list-from.result below) in
    subst IsWellFormed (sym c.index-list-from.is) whole

pub begin_declared-requires-clause-args : goal.begin_declared-requires-clause-args
begin_declared-requires-clause-args c =
    let four : 4 ≤ c.args.call.now.proc = omega arith in
    let below : c.args.call.now.proc - 4 < length c.args.procs.now = declared_below c.args.procs.now c.args.call.now four c.requires in
    let here : c.from.result < length c.list-list.result.now = omega (arith, below, c.from.ensures, ap length c.list-list.ensures.same) in
    let got : slice_get c.list-list.result.now c.from.result ≡ Some c.index-list-from.result =
    slice_get_read c.list-list.result.now (length c.list-list.result.now) c.from.result c.index-list-from.result refl here c.index-list-from.is in
    let there : slice_get c.args.procs.now (c.args.call.now.proc - 4) ≡ Some c.index-list-from.result = rw (c.list-list.ensures.same, c.from.ensures) at got in
    rw c.as_slice-args.ensures.value (declared_takes c.args.procs.now c.args.call.now c.index-list-from.result four there c.requires)

pub returns-in_default : goal.returns-in_default
returns-in_default c =
    let four : 4 ≤ c.args.call.now.proc = omega arith in
    let below : c.args.call.now.proc - 4 < length c.args.procs.now = declared_below c.args.procs.now c.args.call.now four c.requires in
    let here : c.from.result < length c.list-list.result.now = omega (arith, below, c.from.ensures, ap length c.list-list.ensures.same) in
    let got : slice_get c.list-list.result.now c.from.result ≡ Some c.index-list-from.result =
    slice_get_read c.list-list.result.now (length c.list-list.result.now) c.from.result c.index-list-from.result refl here c.index-list-from.is in
    let there : slice_get c.args.procs.now (c.args.call.now.proc - 4) ≡ Some c.index-list-from.result = rw (c.list-list.ensures.same, c.from.ensures) at got in
    record {
      stands = λ vs. c.begin_declared.ensures.stands vs
          ∙ ap (λ (args : List Value). stage_of args c.index-list-from.result.steps 1 begun vs) c.as_slice-args.ensures.value
          ∙ sym (declared_stage c.args.procs.now c.args.call.now c.index-list-from.result four there vs);
      granted = c.begin_declared.ensures.granted;
    }
