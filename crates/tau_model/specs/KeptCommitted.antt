-- Committed calls that are kept short.
use Rattle.std.specs.Prelude.{ℕ, ◌+◌, ◌^◌, ◌≤◌, ◌<◌, ◌≡◌, Bool, true, false, List, [], ◌∷◌, Option, Some, None, length, slice_index_or, vec_len, vec_capacity}
use Rattle.std.specs.List.{All}
use Rattle.tau_base.specs.declared.value.Value.TheVariants as value
use Rattle.tau_proc.specs.declared.reply.Reply.{Reply}
use Rattle.tau_proc.specs.declared.reply.Reply.TheVariants as reply
use Rattle.tau_model.specs.declared.committed.Committed.{Committed}
use Rattle.tau_model.specs.declared.committed.Spot.{Spot}
use Rattle.tau_model.specs.declared.committed_list.KeptReply.{KeptReply}
use Rattle.tau_model.specs.declared.committed_list.KeptReply.TheVariants.{Absent, Number, Text, Refused}
use Rattle.tau_model.specs.declared.committed_list.Head.{Head}
use Rattle.tau_model.specs.declared.committed_list.CommittedList.TheInside.{Inside}
use Rattle.tau_model.specs.Committed.{lv_at}
use Rattle.tau_model.specs.CommittedList.{PlainCommittedList}

-- the reply that is kept so beside these texts
abbrev pub reply_of : List (List ℕ) → KeptReply → Reply
reply_of texts Absent = reply.Ok value.Absent
reply_of texts (Number n) = reply.Ok (value.Int n)
reply_of texts (Text k) = reply.Ok (value.Text (slice_index_or texts k []))
reply_of texts (Refused step) = reply.Refused step

-- the place of its record
abbrev pub spot_by : Bool → Head → Option Spot
spot_by false h = None
spot_by true h = Some (record { stream = h.stream; start = h.start; past = h.past; anchor = h.anchor })

abbrev pub spot_of : Head → Option Spot
spot_of h = spot_by h.placed h

-- the call that is kept so beside these texts and its vector
abbrev pub call_of : List (List ℕ) → Head → List ℕ → Committed
call_of texts h dep = record { number = h.number; reply = reply_of texts h.reply; dep = dep; lv = lv_at dep (spot_of h); spot = spot_of h }

abbrev pub calls_of : List (List ℕ) → List Head → List (List ℕ) → List Committed
calls_of texts [] deps = []
calls_of texts (h ∷ heads) [] = []
calls_of texts (h ∷ heads) (dep ∷ deps) = call_of texts h dep ∷ calls_of texts heads deps

abbrev pub plain : Inside → PlainCommittedList
plain l = record { items = calls_of l.texts.items l.heads.items l.deps.items; room = l.room }

-- the text that it replied is one of so many
abbrev pub HasText : ℕ → KeptReply → Type 0
HasText count (Text k) = k < count
HasText count _ = Unit {0}

abbrev pub IsHead : ℕ → Head → Type 0
IsHead count h = HasText count h.reply

pub record IsKept (l : Inside) : Type 0 where
  pub same : length l.heads.items ≡ length l.deps.items
  pub replies : All (IsHead (length l.texts.items)) l.heads.items
  pub lean : length l.texts.items ≤ length l.heads.items
  pub heads_room : vec_len l.heads + l.room ≤ vec_capacity l.heads
  pub deps_room : l.room ≤ l.deps.room
  pub texts_room : vec_len l.texts + l.room ≤ vec_capacity l.texts

-- the texts that it replied: one or none
abbrev pub texts_in : Reply → List (List ℕ)
texts_in (reply.Ok (value.Text t)) = t ∷ []
texts_in _ = []

-- the same, where so many texts stand before those of its list
abbrev pub reply_behind : ℕ → KeptReply → KeptReply
reply_behind count (Text k) = Text (count + k)
reply_behind count Absent = Absent
reply_behind count (Number n) = Number n
reply_behind count (Refused step) = Refused step

abbrev pub head_behind : ℕ → Head → Head
head_behind count h = record h { reply = reply_behind count h.reply }

-- the number of its text can be so much greater
abbrev pub FitsBehind : ℕ → KeptReply → Type 0
FitsBehind count r = HasText (2 ^ 64) (reply_behind count r)
