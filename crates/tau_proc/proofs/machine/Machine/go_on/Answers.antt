use Rattle.std.proofs.Common.{◌≡◌, ◌∙◌, length, arith, ap}
use Rattle.tau_proc.specs.declared.machine.Stop.TheVariants.{Row}
use Rattle.tau_proc.specs.declared.machine.Use.TheVariants.{Register}
use Rattle.tau_proc.specs.Progress.{Progress}
use Rattle.tau_proc.proofs.Starts.{fewer}
use Rattle.tau_proc.proofs.machine.Machine.go_on.Goals as goal

pub returns-clause-fewer : goal.returns-clause-fewer
returns-clause-fewer c =
    let run = c.run_on in
    let keeps = run.ensures.keeps in
    let steps : length c.as_slice.result.now ≡ length c.self.inside.steps = ap length c.as_slice.ensures.value in
    let stop : c.self.inside.stop ≡ Row c.args.key (Register c.args.into) = ap (λ (p : Progress). p.stop) c.self.view_is ∙ c.requires in
    let less = fewer (length c.self.inside.steps) c.self.inside.done run.new.done (length run.new.running.writes) c.self.inside.granted
    run.new.stop run.ensures.later (omega (arith, keeps.in_bounds, steps)) (omega (arith, keeps.room, keeps.in_bounds)) in
    rw (← c.self.view_is, stop) less
