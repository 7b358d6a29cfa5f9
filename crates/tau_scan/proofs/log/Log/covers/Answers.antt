-- The vector is covered by the lengths and by the least mark.
use Rattle.std.proofs.Common.{◌≡◌, Bool, true, false, ◌&&◌, List, sym, ap, ◌∙◌}
use Rattle.std.specs.Prelude.{Option}
use Rattle.tau_base.specs.Vectors.{covers}
use Rattle.tau_record.specs.declared.entry.Placed.{Placed}
use Rattle.tau_epoch.specs.Epochs.{Mark, least_above}
use Rattle.tau_scan.specs.Epochs.{marks_of, marks_from, is_below}
use Rattle.tau_scan.proofs.Known.{judged_covers}
use Rattle.tau_scan.proofs.log.Log.covers.Goals as goal

pub returns-then-covers_all : goal.returns-then-covers_all
returns-then-covers_all c =
    let dep = c.args.dep.now in
    let least : Option Mark = least_above c.args.number (marks_of c.args.self.now) in
    let yes : covers c.args.self.now.elv dep ≡ true = sym c.covers_all.ensures.same ∙ c.if-covers_all.true in
    c.is_below.ensures ∙ ap (λ (ss : List (List Placed)). is_below dep (least_above c.args.number (marks_from ss))) c.as_slice.ensures
    ∙ sym (ap (λ (b : Bool). b && is_below dep least) yes) ∙ judged_covers c.args.self.now.elv dep least

pub returns-else-covers_all : goal.returns-else-covers_all
returns-else-covers_all c =
    let dep = c.args.dep.now in
    let least : Option Mark = least_above c.args.number (marks_of c.args.self.now) in
    let no : covers c.args.self.now.elv dep ≡ false = sym c.covers_all.ensures.same ∙ c.if-covers_all.false in
    c.if-covers_all.false ∙ sym (ap (λ (b : Bool). b && is_below dep least) no) ∙ judged_covers c.args.self.now.elv dep least
