-- The first name that stands there is the declared one.
use Rattle.std.proofs.Common.{ℕ, List, ◌≡◌, ◌<◌, ◌++◌, ◌∷◌, length, sym, ap, ◌∙◌, arith}
use Rattle.std.proofs.lemmas.Grind.{common_steps}
use Rattle.tau_proc.specs.declared.proc.Proc.{Proc}
use Rattle.tau_text.specs.Forms.{names_of}
use Rattle.tau_text.proofs.OnePass.{none_before, not_here, name_here, proc_name, named_procs, names_length}
use Rattle.tau_text.proofs.quick.declared.Goals as goal

pub loop-i-init : goal.loop-i-init
loop-i-init c = none_before (names_of c.args.procs.now) c.args.text.now

pub returns-in-Some-clause-read : goal.returns-in-Some-clause-read
returns-in-Some-clause-read c =
    let procs : List Proc = c.args.procs.now in
    let p : Proc = c.index-procs-i.result in
    let same : c.as_bytes.result.now ≡ p.name = grind (arith, common_steps) in
    let lt : c.loop-i.i < length (names_of procs) = omega (arith, names_length procs) in
    name_here c.loop-i.i p.name (names_of procs) c.args.text.now c.in-Some.rest.now lt (proc_name p c.loop-i.i procs c.index-procs-i.is) (named_procs procs c.requires.names) c.loop-i.invariant (c.in-Some.ensures ∙ ap (λ (w : List ℕ). w ++ 32 ∷ c.in-Some.rest.now) same)

pub loop-i-preserved : goal.loop-i-preserved
loop-i-preserved c =
    let procs : List Proc = c.args.procs.now in
    let p : Proc = c.index-procs-i.result in
    let same : c.as_bytes.result.now ≡ p.name = grind (arith, common_steps) in
    let lt : c.loop-i.i < length (names_of procs) = omega (arith, names_length procs) in
    not_here c.loop-i.i p.name (names_of procs) c.args.text.now lt (proc_name p c.loop-i.i procs c.index-procs-i.is) (λ rest e. c.in_default.ensures rest (e ∙ ap (λ (w : List ℕ). w ++ 32 ∷ rest) (sym same))) c.loop-i.invariant
