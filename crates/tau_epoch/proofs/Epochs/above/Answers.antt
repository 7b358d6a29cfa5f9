use Rattle.std.proofs.Common.{List, sym, ap, ◌∙◌}
use Rattle.std.specs.Option.{option_map}
use Rattle.tau_epoch.specs.Epochs.{Mark, least_above}
use Rattle.tau_epoch.proofs.Marks.{first_above, none_above}
use Rattle.tau_epoch.proofs.Epochs.above.Goals as goal

pub returns-in-Some : goal.returns-in-Some
returns-in-Some c =
    first_above c.args.number (c.in-Some.field-0-0.now, c.in-Some.lv.now) c.next.new.self c.self.inside.known.entries c.range.ensures.ordered (sym (c.range.ensures.between tt) ∙ c.in-Some.ensures.steps)
    ∙ ap (λ (known : List Mark). option_map (λ (m : Mark). m.lv) (least_above c.args.number known)) c.self.view_is

pub returns-in-None : goal.returns-in-None
returns-in-None c =
    sym (ap (option_map (λ (m : Mark). m.lv)) (none_above c.args.number c.self.inside.known.entries (sym (c.range.ensures.between tt) ∙ c.in-None.ensures.steps.0)))
    ∙ ap (λ (known : List Mark). option_map (λ (m : Mark). m.lv) (least_above c.args.number known)) c.self.view_is
