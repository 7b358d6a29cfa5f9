use Rattle.std.proofs.Common.{◌≡◌, ◌+◌, List, [], ◌∷◌, ◌++◌, take, length, drop, true, false, sym, ap, ◌∙◌, append_assoc, Some, None, slice_get}
use Rattle.std.specs.Option.{option_map}
use Rattle.std.specs.Map.Iter.{deref_pair}
use Rattle.tau_base.specs.declared.value.Key.{Key}
use Rattle.tau_base.specs.declared.value.Value.{Value}
use Rattle.tau_shard.specs.Present.{is_present, present_rows}
use Rattle.tau_shard.proofs.Rows.{present_database, present_once, row_in, row_out, row_past, take_more}
use Rattle.tau_shard.proofs.shard.append_present.Goals as goal
use Rattle.tau_shard.proofs.shard.append_present.Goals.{in-Some+then-is_present+in_ok-push, in-Some+else-is_present, in_default}

pub loop-i-preserved : goal.loop-i-preserved
loop-i-preserved c = elim c.match-get_index.branch [
  | in-Some+then-is_present+in_ok-push w ↦
      let row : Key × Value = (w.in-Some.key.now, w.in-Some.value.now) in
      let at : slice_get c.args.rows.now.entries c.loop-i.i ≡ Some row = sym w.in-Some.ensures.entry in
      let left : List (Key × Value) = present_rows (drop (c.loop-i.i + 1) c.args.rows.now.entries) in
      let is : is_present row.1 ≡ true = sym w.is_present.ensures ∙ w.if-is_present.true in
      let grown : c.match-get_index.out.items ≡ c.loop-i.out.items ++ row ∷ [] =
      ap (λ o. o.items) w.out-is ∙ w.in_ok-push.ensures.items ∙ ap (λ (x : Value). c.loop-i.out.items ++ (w.in-Some.key.now, x) ∷ []) w.copied.ensures in (
        ap (λ (l : List (Key × Value)). l ++ left) grown ∙ append_assoc c.loop-i.out.items (row ∷ []) left
            ∙ ap (λ (l : List (Key × Value)). c.loop-i.out.items ++ l) (sym (row_in c.args.rows.now.entries c.loop-i.i row at is)) ∙ c.loop-i.invariant.0,
        ap (take (length c.args.out.now.items)) grown ∙ take_more c.args.out.now.items c.loop-i.out.items (row ∷ []) c.loop-i.invariant.1,
      )
  | in-Some+else-is_present w ↦
      let row : Key × Value = (w.in-Some.key.now, w.in-Some.value.now) in
      let at : slice_get c.args.rows.now.entries c.loop-i.i ≡ Some row = sym w.in-Some.ensures.entry in
      let left : List (Key × Value) = present_rows (drop (c.loop-i.i + 1) c.args.rows.now.entries) in
      let is : is_present row.1 ≡ false = sym w.is_present.ensures ∙ w.if-is_present.false in
      let same : c.match-get_index.out.items ≡ c.loop-i.out.items = ap (λ o. o.items) w.out-is in (
        ap (λ (l : List (Key × Value)). l ++ left) same ∙ ap (λ (l : List (Key × Value)). c.loop-i.out.items ++ l) (sym (row_out c.args.rows.now.entries c.loop-i.i row at is)) ∙ c.loop-i.invariant.0,
        ap (take (length c.args.out.now.items)) same ∙ c.loop-i.invariant.1,
      )
  | in_default w ↦
      let at : slice_get c.args.rows.now.entries c.loop-i.i ≡ None = sym c.get_index.ensures.entry ∙ ap (λ o. option_map deref_pair o) w.in_default.is in
      let left : List (Key × Value) = present_rows (drop (c.loop-i.i + 1) c.args.rows.now.entries) in
      let same : c.match-get_index.out.items ≡ c.loop-i.out.items = ap (λ o. o.items) w.out-is in (
        ap (λ (l : List (Key × Value)). l ++ left) same ∙ ap (λ (l : List (Key × Value)). c.loop-i.out.items ++ l) (sym (row_past c.args.rows.now.entries c.loop-i.i at)) ∙ c.loop-i.invariant.0,
        ap (take (length c.args.out.now.items)) same ∙ c.loop-i.invariant.1,
      )
]

pub returns-in_err-push-clause-database : goal.returns-in_err-push-clause-database
returns-in_err-push-clause-database c = present_database c.args.rows.now.entries c.len-i-end.ensures.unique

pub returns-in_err-push-clause-once : goal.returns-in_err-push-clause-once
returns-in_err-push-clause-once c = present_once c.args.rows.now.entries c.len-i-end.ensures.unique

pub returns-clause-database : goal.returns-clause-database
returns-clause-database c = present_database c.args.rows.now.entries c.len-i-end.ensures.unique

pub returns-clause-once : goal.returns-clause-once
returns-clause-once c = present_once c.args.rows.now.entries c.len-i-end.ensures.unique
