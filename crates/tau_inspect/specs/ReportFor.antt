-- The reports that a run of so many calls over so many streams may write.
use Rattle.std.specs.Prelude.{ℕ, ◌<◌, ◌≤◌, ◌≡◌, true, List, length, map, Ok, All}
use Rattle.std.specs.List.Sorted.{IsStrictlySortedBy}
use Rattle.tau_base.specs.declared.limits.TheConstants.{MAX_LSN, MAX_STEPS}
use Rattle.tau_base.specs.declared.value.Key.{Key}
use Rattle.tau_base.specs.declared.value.Value.{Value}
use Rattle.tau_base.specs.declared.value.Value.TheVariants.{Absent, Int, Text}
use Rattle.tau_base.specs.Database.{key_cmp}
use Rattle.tau_proc.specs.Meaning.{is_i64}
use Rattle.tau_proc.specs.declared.reply.Reply.{Reply}
use Rattle.tau_proc.specs.declared.reply.Reply.TheVariants as reply
use Rattle.tau_text.specs.Canonical.{text_word}
use Rattle.tau_text.specs.Spelled.{literal}
use Rattle.tau_model.specs.Tables.{is_value}
use Rattle.tau_report.specs.declared.report.Fate.{Fate}
use Rattle.tau_report.specs.declared.report.Fate.TheVariants.{Acked, Unsure, Unrun}
use Rattle.tau_report.specs.declared.report.RunReport.{RunReport}
use Rattle.tau_inspect.specs.ByNumber.{IsUnique}

-- the number of one of so many calls
abbrev pub IsCall : ℕ → ℕ → Type 0
IsCall calls k = (1 ≤ k) × (k ≤ calls)

-- a value that can be spelled: a number of 64 bits, or a text that is read as it from between quotes
abbrev pub HasSpelling : Value → Type 0
HasSpelling Absent = Unit {0}
HasSpelling (Int z) = is_i64 z ≡ true
HasSpelling (Text t) = literal (text_word t) ≡ Ok (Text t)

abbrev pub IsReply : Reply → Type 0
IsReply (reply.Ok v) = HasSpelling v
IsReply (reply.Refused step) = (1 ≤ step) × (step ≤ MAX_STEPS)

abbrev pub IsFate : Fate → Type 0
IsFate (Acked r) = IsReply r
IsFate (Unsure r) = IsReply r
IsFate Unrun = Unit {0}

-- the vector of an acknowledgement
pub record IsVector (n : ℕ) (v : List ℕ) : Type 0 where
  pub long : length v ≡ n
  pub small : All (λ p. p < MAX_LSN) v

-- a present row of one of so many tables
pub record IsRow (tables : ℕ) (row : Key × Value) : Type 0 where
  pub table : row.0.table < tables
  pub whole : is_i64 row.0.row ≡ true
  pub present : is_value row.1 ≡ true
  pub spelled : HasSpelling row.1

-- a report of so many calls over n streams, with so many tables
pub record IsReportFor (tables n calls : ℕ) (r : RunReport) : Type 0 where
  pub acked : All (λ a. IsCall calls a.0) r.acks
  pub vectors : All (λ a. IsVector n a.1) r.acks
  pub acked_once : IsUnique (map (λ a. a.0) r.acks)
  pub many : length r.fates ≡ calls
  pub fates : All IsFate r.fates
  pub order : All (IsCall calls) r.order
  pub rows : All (IsRow tables) r.tables
  pub ascending : IsStrictlySortedBy key_cmp (map (λ row. row.0) r.tables)
