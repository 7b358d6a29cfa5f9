use Rattle.std.proofs.Common.{List, sym, ap, subst, ◌∙◌}
use Rattle.std.specs.Prelude.{slice_get}
use Rattle.tau_core.specs.Plain.{PlainStream}
use Rattle.tau_core.specs.Opens.{Opened}
use Rattle.tau_core.specs.State.{Plain}
use Rattle.tau_desk.specs.Laid.{AreLaid}
use Rattle.tau_desk.proofs.Beginning.{none_own}
use Rattle.tau_desk.proofs.opens.desk_of.Goals as goal

pub lay_all-requires : goal.lay_all-requires
lay_all-requires c = record {
  rest = λ j s e. none_own c.args.core c.requires.opened j s (ap (λ (l : List PlainStream). slice_get l j) (sym (ap (λ (p : Plain). p.streams) (c.load.view_is ∙ c.into_parts.ensures.same))) ∙ e);
}

pub begun_on-requires-clause-opened : goal.begun_on-requires-clause-opened
begun_on-requires-clause-opened c = subst (λ (o : Plain). Opened o.load o) (sym c.of.ensures) c.requires.opened

pub begun_on-requires-clause-laid : goal.begun_on-requires-clause-laid
begun_on-requires-clause-laid c =
    let l = c.in_ok-laid.laid in
    subst (λ (o : Plain). AreLaid o.ends o.shards o.seats o.streams l.0.items l.1.items l.2.items) (c.load.view_is ∙ c.into_parts.ensures.same ∙ sym c.of.ensures) c.in_ok-laid.ensures
