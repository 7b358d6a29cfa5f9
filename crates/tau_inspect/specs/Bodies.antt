-- The lines of a run's report without the byte at their end.
use Rattle.std.specs.Prelude.{ℕ, ℤ, ◌≡◌, ◌<◌, true, slice_index_or, List, [], ◌∷◌, ◌++◌, codes, Option, Some, None}
use Rattle.std.specs.Fmt.{decimal, signed_decimal}
use Rattle.tau_base.specs.declared.value.Key.{Key}
use Rattle.tau_base.specs.declared.value.Value.{Value}
use Rattle.tau_proc.specs.Meaning.{is_i64}
use Rattle.tau_model.specs.Tables.{is_value}
use Rattle.tau_inspect.specs.declared.told.AckLine.{AckLine}
use Rattle.tau_inspect.specs.ReportFor.{HasSpelling, IsCall, IsVector}
use Rattle.tau_report.specs.declared.report.Fate.{Fate}
use Rattle.tau_report.specs.declared.report.Fate.TheVariants.{Acked, Unsure, Unrun}
use Rattle.tau_report.specs.Lines.{reply_text, value_text, vector_text}

abbrev pub order_body : ℕ → List ℕ
order_body k = codes "order " ++ decimal k

abbrev pub fate_body : ℕ → Fate → List ℕ
fate_body k (Acked r) = codes "reply " ++ decimal k ++ 32 ∷ reply_text r
fate_body k (Unsure r) = codes "unsure " ++ decimal k ++ 32 ∷ reply_text r
fate_body k Unrun = codes "unrun " ++ decimal k

abbrev pub end_body : Option ℕ → List ℕ
end_body None = codes "end 0"
end_body (Some j) = codes "end 6 " ++ decimal j

-- the stream whose disk failed is one of n
abbrev pub IsEnd : ℕ → Option ℕ → Type 0
IsEnd n None = Unit {0}
IsEnd n (Some j) = j < n

abbrev pub ack_body : AckLine → List ℕ
ack_body a = codes "ack " ++ decimal a.number ++ 32 ∷ vector_text a.lv

-- an acknowledgement of one of so many calls over n streams
abbrev pub IsAck : ℕ → ℕ → AckLine → Type 0
IsAck calls n a = IsCall calls a.number × IsVector n a.lv

-- a row and its value
abbrev pub keyed_body : ℤ × Value → List ℕ
keyed_body r = signed_decimal r.0 ++ 32 ∷ value_text r.1

abbrev pub IsKeyed : ℤ × Value → Type 0
IsKeyed r = (is_i64 r.0 ≡ true) × (is_value r.1 ≡ true) × HasSpelling r.1

abbrev pub row_body : List (List ℕ) → Key × Value → List ℕ
row_body tables row = codes "row " ++ slice_index_or tables row.0.table [] ++ 32 ∷ keyed_body (row.0.row, row.1)
