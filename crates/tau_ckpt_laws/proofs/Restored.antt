-- What is redone on a true checkpoint gives what recovery gives.
use Rattle.std.proofs.Common.{ℕ, Bool, true, false, not, ◌≡◌, List, Option, Some, None, refl, sym, ap, subst, ◌∙◌, slice_index}
use Rattle.std.specs.Prelude.{nat_le, nat_lt}
use Rattle.std.specs.List.{filter}
use Rattle.std.proofs.lemmas.Bool.{le-leb, lt-leb, ltb-false, ltb-true}
use Rattle.tau_base.specs.declared.format.Format.{Format}
use Rattle.tau_base.specs.declared.value.Key.{Key}
use Rattle.tau_base.specs.declared.value.Value.{Value}
use Rattle.tau_base.specs.Database.{Db, empty_db}
use Rattle.tau_model.specs.Tables.{IsTablesOf, db_of_rows}
use Rattle.tau_model.proofs.Reorder.{reordered_filter}
use Rattle.tau_scan.specs.declared.log.Log.{Log}
use Rattle.tau_scan.specs.Sound.{IsOrderOver, IsSound, Redoes, redo_in}
use Rattle.tau_scan.specs.Taken.{Kept, taken}
use Rattle.tau_epoch_laws.specs.Continues.{news}
use Rattle.tau_epoch_laws.specs.Laws.{starts_in}
use Rattle.tau_epoch_laws.proofs.Listed.{news_listed}
use Rattle.tau_epoch_laws.proofs.Splits.{orderly_filter}
use Rattle.tau_epoch_laws.proofs.Stays.{redone_after}
use Rattle.tau_replay.specs.Redone.{IsRedone, IsRedoneOn, kept_after, taken_after}
use Rattle.tau_replay.proofs.Ones.{tables_one}
use Rattle.tau_ckpt.specs.declared.checkpoint.Checkpoint.{Checkpoint}
use Rattle.tau_ckpt.specs.Chosen.{IsRestored, chosen, left_to_redo}
use Rattle.tau_ckpt_laws.specs.Laws.{NotTangled, RestoredIsRecovered}
use Rattle.tau_ckpt_laws.specs.True.{IsTrue}
use Rattle.tau_ckpt_laws.proofs.Goes.{true_ends, true_goes_on}

-- to start at or after a place is not to start before it
flips : (a b : ℕ) (t : Bool) → nat_lt a b ≡ t → nat_le b a ≡ not t
flips a b true e = lt-leb b a (ltb-true a b e)
flips a b false e = le-leb b a (ltb-false a b e)

rows_of : (log : Log) (base : Db) → Redoes log (taken log) empty_db base → (rows : List (Key × Value)) → IsRedone log rows → IsTablesOf base rows
rows_of log base redoes rows r = subst (λ (db : Db). IsTablesOf db rows) (redoes.alike r.order r.is_order) r.tables

module _ (f : Format) (contents : List (List ℕ)) (log : Log) (base : Db) (sound : IsSound f contents log base) where
  module _ (c : Checkpoint) (t : IsTrue f contents c) where
    -- what is redone is what came after it
    are_news : taken_after c.lv log ≡ news t.log t.more log
    are_news =
        let goes = true_goes_on f contents log base sound c t in
        let same : taken_after c.lv log ≡ taken_after t.log.elv log = ap (λ (v : List ℕ). taken_after v log) (true_ends f contents log base sound c t) in
        let tests : (λ (r : Kept). kept_after t.log.elv r) ≡ (λ (r : Kept). not (starts_in t.log r)) =
        λ i r. flips r.place.start (slice_index t.log.elv r.place.stream) (nat_lt r.place.start (slice_index t.log.elv r.place.stream)) refl i in
        same ∙ ap (λ (p : Kept → Bool). filter p (taken log)) tests ∙ news_listed f t.held contents t.log t.more log t.sound.reads t.sound.fit sound.reads goes

    pub redoes_after : Redoes log (taken_after c.lv log) t.base base
    redoes_after = subst (λ (rs : List Kept). Redoes log rs t.base base) (sym are_news) (redone_after f t.held contents t.log t.more log t.base base t.sound sound (true_goes_on f contents log base sound c t))

    own_rows : db_of_rows c.rows ≡ t.base
    own_rows = (rows_of t.log t.base t.sound.redone c.rows t.rows).values

    pub restored_rows : (rows : List (Key × Value)) → IsRedoneOn log (taken_after c.lv log) (db_of_rows c.rows) rows → IsTablesOf base rows
    restored_rows rows r = subst (λ (db : Db). IsTablesOf db rows) (ap (redo_in log r.order) own_rows ∙ redoes_after.alike r.order r.is_order) r.tables

  recovered_rows : (rows : List (Key × Value)) → IsRedone log rows → IsTablesOf base rows
  recovered_rows rows r = rows_of log base sound.redone rows r

  by_choice : (o : Option Checkpoint) → ((c : Checkpoint) → o ≡ Some c → IsTrue f contents c) → (rows : List (Key × Value)) → IsRestored log o rows → IsTablesOf base rows
  by_choice None all rows r = recovered_rows rows r
  by_choice (Some c) all rows r = restored_rows c (all c refl) rows r

pub restored_is_recovered : RestoredIsRecovered
restored_is_recovered f contents log base sound slots all rows r =
    let mine = by_choice f contents log base sound (chosen log slots) all rows r in
    (mine, λ other h. tables_one base rows other mine (recovered_rows f contents log base sound other h))

order_by_choice : (log : Log) (order : List Kept) → IsOrderOver (taken log) order → (o : Option Checkpoint) → (some : List Kept) × IsOrderOver (left_to_redo log o) some
order_by_choice log order g None = (order, g)
order_by_choice log order g (Some c) = (
  filter (kept_after c.lv) order,
  record { each_once = reordered_filter (kept_after c.lv) (taken log) order g.each_once; orderly = orderly_filter (λ (r : Kept). r.place) (kept_after c.lv) order g.orderly },
)

pub not_tangled : NotTangled
not_tangled log order g slots = order_by_choice log order g (chosen log slots)
