use Rattle.std.proofs.Common.{ℕ, Bool, ◌+◌, true, false, not, filter, ◌≡◌, List, drop, sym, ap, subst, ◌∙◌, Some, None, slice_get, arith}
use Rattle.std.specs.Prelude.{if◌then◌else◌}
use Rattle.std.specs.Option.{option_map}
use Rattle.std.specs.Map.Iter.{deref_pair}
use Rattle.tau_base.specs.declared.value.Key.{Key}
use Rattle.tau_shard.specs.declared.entry.LockEntry.{LockEntry}
use Rattle.tau_base.specs.Vectors.{join}
use Rattle.tau_shard.specs.Blocks.{swept, covered}
use Rattle.tau_shard.proofs.Sweeps.{drop_next, drop_past, filter_next, filter_past}
use Rattle.tau_shard.proofs.shard.sweep.Goals as goal
use Rattle.tau_shard.proofs.shard.sweep.Goals.{in-Some+then-is_covered, in-Some+else-is_covered, in_default}

pub loop-i-preserved : goal.loop-i-preserved
loop-i-preserved c = elim c.match-get_index.branch [
  | in-Some+then-is_covered w ↦
      let e : LockEntry = w.in-Some.entry.now in
      let joined : List ℕ = join (join c.loop-i.floor e.write) e.read in
      let is : covered c.args.plv.now e ≡ true = sym w.is_covered.ensures ∙ w.if-is_covered.true in (
        c.loop-i.invariant.0
            ∙ ap (λ (l : List (Key × LockEntry)). swept c.args.plv.now c.loop-i.floor l) (drop_next c.args.entries.now.entries c.loop-i.i (w.in-Some.field-0-0.now, e) (sym w.in-Some.ensures.entry))
            ∙ ap (λ (b : Bool). swept c.args.plv.now (if b then joined else c.loop-i.floor) (drop (c.loop-i.i + 1) c.args.entries.now.entries)) is
            ∙ ap (λ (f : List ℕ). swept c.args.plv.now f (drop (c.loop-i.i + 1) c.args.entries.now.entries)) (sym (w.floor-is ∙ w.raise_floor.ensures)),
        λ h all. absurd (let bad : true ≡ false = sym w.found-is ∙ h in cc),
      )
  | in-Some+else-is_covered w ↦
      let e : LockEntry = w.in-Some.entry.now in
      let joined : List ℕ = join (join c.loop-i.floor e.write) e.read in
      let is : covered c.args.plv.now e ≡ false = sym w.is_covered.ensures ∙ w.if-is_covered.false in
      let at : slice_get c.args.entries.now.entries c.loop-i.i ≡ Some (w.in-Some.field-0-0.now, e) = sym w.in-Some.ensures.entry in (
        c.loop-i.invariant.0
            ∙ ap (λ (l : List (Key × LockEntry)). swept c.args.plv.now c.loop-i.floor l) (drop_next c.args.entries.now.entries c.loop-i.i (w.in-Some.field-0-0.now, e) at)
            ∙ ap (λ (b : Bool). swept c.args.plv.now (if b then joined else c.loop-i.floor) (drop (c.loop-i.i + 1) c.args.entries.now.entries)) is
            ∙ ap (λ (f : List ℕ). swept c.args.plv.now f (drop (c.loop-i.i + 1) c.args.entries.now.entries)) (sym w.floor-is),
        λ h all. c.loop-i.invariant.1 (sym w.found-is ∙ h) (filter_next (λ x. not (covered c.args.plv.now x.1)) c.args.entries.now.entries c.loop-i.i (w.in-Some.field-0-0.now, e) at (ap not is) all),
      )
  | in_default w ↦
      let at : slice_get c.args.entries.now.entries c.loop-i.i ≡ None = sym c.get_index.ensures.entry ∙ ap (λ o. option_map deref_pair o) w.in_default.is in
      let past = drop_past c.args.entries.now.entries c.loop-i.i at in (
        c.loop-i.invariant.0
            ∙ ap (λ (l : List (Key × LockEntry)). swept c.args.plv.now c.loop-i.floor l) past
            ∙ ap (λ (f : List ℕ). swept c.args.plv.now f (drop (c.loop-i.i + 1) c.args.entries.now.entries)) (sym w.floor-is),
        λ h all. c.loop-i.invariant.1 (sym w.found-is ∙ h) (subst (λ (l : List (Key × LockEntry)). filter (λ x. not (covered c.args.plv.now x.1)) l ≡ l) (sym past) all),
      )
]

pub returns-clause-none : goal.returns-clause-none
returns-clause-none c = λ h. c.loop-i.invariant.1 h (filter_past (λ x. not (covered c.args.plv.now x.1)) c.args.entries.now.entries c.loop-i.i (omega arith))
