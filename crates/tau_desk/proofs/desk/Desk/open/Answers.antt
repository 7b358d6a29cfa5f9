use Rattle.std.proofs.Common.{◌^◌, ◌≤◌, ◌<◌, sym, subst}
use Rattle.std.specs.Prelude.{slice_index}
use Rattle.tau_core.specs.declared.state.Load.{Load}
use Rattle.tau_core.specs.Opens.{Opened, load_of}
use Rattle.tau_core.specs.State.{Plain}
use Rattle.tau_desk.specs.Ends.{IsFirst}
use Rattle.tau_desk.proofs.Beginning.{unbegun_rests}
use Rattle.tau_desk.proofs.desk.Desk.open.Goals as goal

pub desk_of-requires-clause-opened : goal.desk_of-requires-clause-opened
desk_of-requires-clause-opened c = subst (λ (l : Load). Opened l c.in_ok-core.core) (sym c.in_ok-core.ensures.load) c.in_ok-core.ensures

pub desk_of-requires-clause-short : goal.desk_of-requires-clause-short
desk_of-requires-clause-short c = λ j lt. subst (λ (l : Load). slice_index l.opening.ends j ≤ 2 ^ 61) (sym c.in_ok-core.ensures.load) (c.requires.short j (subst (λ (l : Load). j < l.streams) c.in_ok-core.ensures.load lt))

pub returns : goal.returns
returns c =
    let d = c.in_ok-desk.ensures in
    let l = load_of c.args.load.now.declarations.procs c.args.load.now.calls c.args.mode c.args.m c.args.opening in
    (subst (Opened l) (sym d.0) c.in_ok-core.ensures, subst (λ (o : Plain). IsFirst o c.in_ok-desk.head.me) (sym d.0) d.1, d.2, d.3, d.4, unbegun_rests c.in_ok-desk.head d.4, d.5)
