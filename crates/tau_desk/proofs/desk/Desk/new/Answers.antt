use Rattle.std.proofs.Common.{◌^◌, ◌≤◌, sym, subst}
use Rattle.std.specs.Prelude.{slice_index}
use Rattle.tau_text.specs.Canonical.{declarations_text}
use Rattle.tau_core.specs.declared.state.Load.{Load}
use Rattle.tau_core.specs.Opens.{Opened, OpenedFresh, catalogue_size}
use Rattle.tau_core.specs.State.{Plain}
use Rattle.tau_desk.specs.Ends.{IsFirst}
use Rattle.tau_desk.proofs.Beginning.{fresh_short, unbegun_rests}
use Rattle.tau_desk.proofs.desk.Desk.new.Goals as goal

pub desk_of-requires-clause-opened : goal.desk_of-requires-clause-opened
desk_of-requires-clause-opened c = (let h = c.in_ok-core.ensures.2 in subst (λ (l : Load). Opened l c.in_ok-core.core) (sym h.load) h)

pub desk_of-requires-clause-short : goal.desk_of-requires-clause-short
desk_of-requires-clause-short c = λ j lt. (let h = c.in_ok-core.ensures in
    subst (λ (l : Load). slice_index l.opening.ends j ≤ 2 ^ 61) (sym h.2.load) (fresh_short c.args.n (declarations_text c.args.load.now.declarations) h.0 h.1 c.requires.text j))

pub returns : goal.returns
returns c =
    let d = c.in_ok-desk.ensures in (
      subst (OpenedFresh c.args.load.now.declarations.procs c.args.load.now.calls c.args.mode c.args.m c.args.n (catalogue_size (declarations_text c.args.load.now.declarations))) (sym d.0) c.in_ok-core.ensures,
      subst (λ (o : Plain). IsFirst o c.in_ok-desk.head.me) (sym d.0) d.1,
      d.2,
      d.3,
      d.4,
      unbegun_rests c.in_ok-desk.head d.4,
      d.5,
    )
