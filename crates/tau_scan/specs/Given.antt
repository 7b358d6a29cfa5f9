-- What streams are given before the first call of a run.
use Rattle.std.specs.Prelude.{ℕ, zero, suc, List, [], ◌∷◌, ◌++◌}
use Rattle.tau_record.specs.declared.entry.Entry.TheVariants.{Catalogue, Epoch}
use Rattle.tau_record.specs.Format.{One}
use Rattle.tau_record.specs.Record.{spelling}

-- the record of the epoch with this number and vector, the same in each format; none for 0
abbrev pub epoch_record : ℕ → List ℕ → List ℕ
epoch_record zero lv = []
epoch_record (suc k) lv = spelling One [] (Epoch (suc k) lv)

-- what a stream with this content is given: the catalogue with this text, the same in each format, if the content is empty,
-- and the epoch's record
abbrev pub given_after : List ℕ → ℕ → List ℕ → List ℕ → List ℕ
given_after text epoch lv [] = spelling One [] (Catalogue text) ++ epoch_record epoch lv
given_after text epoch lv (b ∷ bytes) = epoch_record epoch lv
