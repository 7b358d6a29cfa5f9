-- The lines of reports, each of its words.
use Rattle.std.specs.Prelude.{ℕ, List, [], ◌∷◌, ◌++◌, map, codes, Option, Some, None, slice_index_or}
use Rattle.std.specs.List.{join_with_byte}
use Rattle.std.specs.Fmt.{decimal, signed_decimal}
use Rattle.tau_base.specs.declared.value.Key.{Key}
use Rattle.tau_base.specs.declared.value.Value.{Value}
use Rattle.tau_base.specs.declared.value.Value.TheVariants.{Absent, Int, Text}
use Rattle.tau_proc.specs.declared.reply.Reply.{Reply}
use Rattle.tau_proc.specs.declared.reply.Reply.TheVariants as reply
use Rattle.tau_report.specs.declared.report.Fate.{Fate}
use Rattle.tau_report.specs.declared.report.Fate.TheVariants.{Acked, Unsure, Unrun}

-- words with one space between them, and the end of the line
abbrev pub line : List (List ℕ) → List ℕ
line words = join_with_byte 32 words ++ 10 ∷ []

abbrev pub vector_text : List ℕ → List ℕ
vector_text v = join_with_byte 44 (map decimal v)

abbrev pub value_text : Value → List ℕ
value_text Absent = codes "none"
value_text (Int n) = codes "int " ++ signed_decimal n
value_text (Text t) = codes "text " ++ 34 ∷ t ++ 34 ∷ []

abbrev pub reply_text : Reply → List ℕ
reply_text (reply.Ok v) = value_text v
reply_text (reply.Refused step) = codes "refused " ++ decimal step

-- a call that is acknowledged, with its vector
abbrev pub ack_line : ℕ × List ℕ → List ℕ
ack_line a = line (codes "ack" ∷ decimal a.0 ∷ vector_text a.1 ∷ [])

-- what became of a call
abbrev pub fate_line : ℕ → Fate → List ℕ
fate_line k (Acked r) = line (codes "reply" ∷ decimal k ∷ reply_text r ∷ [])
fate_line k (Unsure r) = line (codes "unsure" ∷ decimal k ∷ reply_text r ∷ [])
fate_line k Unrun = line (codes "unrun" ∷ decimal k ∷ [])

-- a call of the history
abbrev pub order_line : ℕ → List ℕ
order_line k = line (codes "order" ∷ decimal k ∷ [])

-- a present row, with its table's name
abbrev pub row_line : List (List ℕ) → Key × Value → List ℕ
row_line tables row = line (codes "row" ∷ slice_index_or tables row.0.table [] ∷ signed_decimal row.0.row ∷ value_text row.1 ∷ [])

-- the end, with the stream whose disk failed
abbrev pub end_line : Option ℕ → List ℕ
end_line None = line (codes "end" ∷ codes "0" ∷ [])
end_line (Some stream) = line (codes "end" ∷ codes "6" ∷ decimal stream ∷ [])
