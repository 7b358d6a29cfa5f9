use Rattle.std.proofs.Common.{◌≡◌, sym, ap, ◌∙◌, slice_set, get_or}
use Rattle.std.specs.Ordering.{is_eq}
use Rattle.std.specs.declared.cmp.Ordering.TheVariants.{Equal}
use Rattle.tau_base.specs.Database.{key_cmp}
use Rattle.tau_base.specs.declared.value.Key.{Key}
use Rattle.tau_base.proofs.Keys.{same_key_is}
use Rattle.tau_proc.proofs.Puts.{put_over}
use Rattle.tau_proc.proofs.writes.place_of.Goals as goal

pub returns-in-Equal-clause-there : goal.returns-in-Equal-clause-there
returns-in-Equal-clause-there c =
    let xs = c.args.writes.now in
    let i = c.loop-at.at in
    let d = c.index-writes-at.result in
    let tied : key_cmp c.args.key (get_or xs i d).0 ≡ Equal = sym c.cmp.ensures ∙ c.in-Equal.is in
    let same : c.args.key ≡ (get_or xs i d).0 = same_key_is c.args.key (get_or xs i d).0 (ap is_eq tied) in (
      c.loop-at-test.true,
      λ v. c.loop-at.invariant.before v ∙ put_over key_cmp c.args.key v xs i d c.loop-at-test.true tied ∙ ap (λ (k : Key). slice_set xs i (k, v)) (sym same),
    )
