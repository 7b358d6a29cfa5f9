-- The theorems on runs of the core. All but the first three speak of a state of which the invariant holds for a commit order K.
use Rattle.std.specs.Prelude.{ℕ, ◌≤◌, ◌<◌, ◌==◌, ◌≡◌, ◌⊎◌, Bool, true, Some, None, List, [], ◌∷◌, ◌++◌, length, map, slice_index}
use Rattle.std.specs.List.{filter}
use Rattle.tau_base.specs.declared.value.Key.{Key}
use Rattle.tau_base.specs.declared.value.LogMode.{LogMode}
use Rattle.tau_base.specs.Vectors.{AtMost}
use Rattle.tau_proc.specs.Effect.{has_key}
use Rattle.tau_base.specs.Database.{written}
use Rattle.tau_model.specs.declared.committed.Committed.{Committed}
use Rattle.tau_model.specs.Committed.{reported_numbers, IsWithin}
use Rattle.tau_model.specs.History.{Act, Member, Before, Reordered, Conflict, KeepsOrder, Closed, Depends, trace, exec, replies, updates}
use Rattle.tau_model.specs.Light.{IsLight}
use Rattle.tau_model.specs.Logged.{Orderly, IsCutAt}
use Rattle.tau_model.specs.Redo.{redo_contents}
use Rattle.tau_machine.specs.Hands.{Txn, means, lv_of, committed_of, act_in, Holds}
use Rattle.tau_machine.specs.State.{Setting, Ticket, Item, Record, Core, ticket, ticket_of, sight, hand_of}
use Rattle.tau_machine.specs.Pieces.{placed_in, Chain, records_in, anchors_in, records_of_stream, NameTheirs}
use Rattle.tau_machine.specs.Invariant.{Invariant}
use Rattle.tau_machine.specs.Accounts.{joined_list}
use Rattle.tau_machine.specs.Events.{Event, Leads, LetsGo}
use Rattle.tau_machine.specs.Reports.{calls_of, placed_at, reported, held_by, content_of, Unheld, in_turn}
use Rattle.tau_machine.specs.Runs.{IsOpening, Run}

-- each event keeps the invariant, where the calls that commit by it join the commit order
abbrev pub KeptTheorem : Type 0
KeptTheorem = (set : Setting) (K : List (Act Txn)) (e : Event) (s s' : Core) (new : List (Act Txn)) → Invariant set K s → Leads set e s s' new → Invariant set (K ++ new) s'

-- and so it holds of each run, for every list of events
abbrev pub RunTheorem : Type 0
RunTheorem = (set : Setting) (opening : Core) (events : List Event) (K : List (Act Txn)) (s : Core) → Run set opening events K s → Invariant set K s

-- a run begins with no event, and goes on by one event more
abbrev pub GoesOnTheorem : Type 0
GoesOnTheorem = (set : Setting) (opening : Core) →
    (IsOpening set opening → Run set opening [] [] opening) ×
    ((events : List Event) (K : List (Act Txn)) (s s' : Core) (e : Event) (new : List (Act Txn)) → Run set opening events K s → Leads set e s s' new →
    Run set opening (events ++ e ∷ []) (K ++ new) s')

-- a call that is let go leaves the invariant as it is
abbrev pub LetGoTheorem : Type 0
LetGoTheorem = (set : Setting) (K : List (Act Txn)) (w : ℕ) (s s' : Core) → Invariant set K s → LetsGo set w s s' → Invariant set K s'

-- order: where two calls conflict, the later one's dep covers the earlier one's vector, in the commit order and in the reported history
abbrev pub OrderTheorem : Type 0
OrderTheorem = (set : Setting) (K : List (Act Txn)) (s : Core) → Invariant set K s →
    ((u t : Act Txn) → Before u t K → Conflict u.effect t.effect → AtMost (lv_of u) t.call.place.dep) ×
    ((calls : List (Act Txn)) → Reordered K calls → (u t : Act Txn) → Before u t (reported s.ends calls) → Conflict u.effect t.effect → AtMost (lv_of u) t.call.place.dep)

-- rows and replies: executing the calls in the commit order, each does what it did, and the row of a key that no committed call holds in write mode is the last database's
abbrev pub RowsTheorem : Type 0
RowsTheorem = (set : Setting) (K : List (Act Txn)) (s : Core) → Invariant set K s →
    (trace (means set.procs) (calls_of K) set.base ≡ K) ×
    (replies (means set.procs) (calls_of K) set.base ≡ map (λ t. t.effect.reply) K) ×
    ((x : Key) → Unheld s x → exec (means set.procs) (calls_of K) set.base x ≡ (sight set s).row x)

-- the reported history lists each committed call once, has no conflicting pair the other way round, and keeps the order of each stream;
-- executing the calls in its order gives the same replies and the same rows
abbrev pub ReportedTheorem : Type 0
ReportedTheorem = (set : Setting) (K : List (Act Txn)) (s : Core) → Invariant set K s → (calls : List (Act Txn)) → Reordered K calls →
    let history : List (Act Txn) = reported s.ends calls in
    Reordered K history × KeepsOrder K history × ((j : ℕ) → records_of_stream j history ≡ records_of_stream j K) ×
    (trace (means set.procs) (calls_of history) set.base ≡ history) ×
    (replies (means set.procs) (calls_of history) set.base ≡ map (λ t. t.effect.reply) history) ×
    ((x : Key) → Unheld s x → exec (means set.procs) (calls_of history) set.base x ≡ (sight set s).row x)

-- the numbers that are reported of what is kept of the committed calls, in whatever order, are those of the reported history
abbrev pub NumbersTheorem : Type 0
NumbersTheorem = (set : Setting) (K : List (Act Txn)) (s : Core) → Invariant set K s → (list : List Committed) → Reordered (map committed_of K) list →
    (calls : List (Act Txn)) × Reordered K calls × (map committed_of calls ≡ list) × (reported_numbers s.ends list ≡ map (λ t. t.call.call.number) (reported s.ends calls))

-- cuts: the calls that a cut of the streams holds are closed, in the commit order and in the reported history; their commit order is an orderly order; and each orderly order
-- of their records, data and command records in any mixture, redoes to the database of executing just these calls
abbrev pub CutsTheorem : Type 0
CutsTheorem = (set : Setting) (K : List (Act Txn)) (s : Core) → Invariant set K s → (cut : List ℕ) →
    let chosen : Txn → Bool = held_by cut in
    IsCutAt placed_at cut K chosen × Closed K chosen ×
    Orderly (map (λ t. t.call.place) (filter (λ t. chosen t.call) K)) ×
    ((ys : List (Act Txn)) (mode : Act Txn → LogMode) → Reordered (filter (λ t. chosen t.call) K) ys → Orderly (map (λ t. t.call.place) ys) →
    redo_contents set.procs (map (λ t. content_of (mode t) t) ys) set.base ≡ exec (means set.procs) (filter chosen (calls_of K)) set.base) ×
    ((calls : List (Act Txn)) → Reordered K calls →
    Closed (reported s.ends calls) chosen ×
    (exec (means set.procs) (filter chosen (calls_of (reported s.ends calls))) set.base ≡ exec (means set.procs) (filter chosen (calls_of K)) set.base))

-- streams: what was gathered, and what waits after it, are the records and anchors of the stream, from the opening's end over the gathered end to the placed end;
-- and each record names no anchor, or one before it, which its dep covers
abbrev pub StreamsTheorem : Type 0
StreamsTheorem = (set : Setting) (K : List (Act Txn)) (s : Core) → Invariant set K s → (j : ℕ) → j < set.width →
    (waiting : List Item) × Chain (slice_index set.opening j) (s.streams j).moved (slice_index s.gathered j) × Chain (slice_index s.gathered j) waiting (slice_index s.ends j) ×
    (records_in ((s.streams j).moved ++ waiting) ≡ records_of_stream j K) × (anchors_in ((s.streams j).moved ++ waiting) ≡ (s.streams j).anchors) ×
    NameTheirs (set.anchored j) [] ((s.streams j).moved ++ waiting)

-- an acknowledged call: the persisted positions cover its vector; a cut that holds what is persisted holds it where it is updating, and every updating call on which it depends
abbrev pub AcknowledgedTheorem : Type 0
AcknowledgedTheorem = (set : Setting) (K : List (Act Txn)) (s : Core) → Invariant set K s → (w : ℕ) (k : Ticket) → Member k (s.acked w) →
    (t : Act Txn) × Member t K × (ticket t ≡ k) × AtMost (lv_of t) s.plv ×
    ((cut : List ℕ) → AtMost s.plv cut →
    (updates t.effect ≡ true → held_by cut t.call ≡ true) × ((u : Act Txn) → Depends K t u → updates u.effect ≡ true → held_by cut u.call ≡ true))

-- contents of the streams at some moment, a stopped one where it was stopped, any other one no shorter than it is persisted: they hold what is persisted
abbrev pub ContentsTheorem : Type 0
ContentsTheorem = (set : Setting) (K : List (Act Txn)) (s : Core) → Invariant set K s → (cut : List ℕ) →
    ((j c : ℕ) → (s.streams j).stop ≡ Some c → slice_index cut j ≡ c) → ((j : ℕ) → (s.streams j).stop ≡ None → slice_index s.plv j ≤ slice_index cut j) → AtMost s.plv cut

-- light: a component of a dep that the persisted positions do not cover is the end of the record of a call on which the call depends in the reported history
abbrev pub LightTheorem : Type 0
LightTheorem = (set : Setting) (K : List (Act Txn)) (s : Core) → Invariant set K s → (calls : List (Act Txn)) → Reordered K calls →
    (t : Act Txn) → Member t K → IsLight placed_at s.plv (reported s.ends calls) t

-- the committed calls: each is the call of its number, of its worker, with its record in the stream of that worker, and has its dep and its place within the streams; no two have one
-- number; each worker has its own ones, in their order, and worker after worker they are all
abbrev pub CommittedTheorem : Type 0
CommittedTheorem = (set : Setting) (K : List (Act Txn)) (s : Core) → Invariant set K s →
    ((t : Act Txn) → Member t K → (set.call_of t.call.call.number ≡ Some t.call.call.call) × (set.worker_of t.call.call.number ≡ t.call.worker) ×
    (updates t.effect ≡ true → t.call.place.stream ≡ set.stream_of t.call.worker) × (length t.call.place.dep ≡ set.width) × IsWithin s.ends (committed_of t)) ×
    ((u t : Act Txn) → Before u t K → u.call.call.number ≡ t.call.call.number → ⊥) ×
    ((w : ℕ) → (s.workers w).committed ≡ map committed_of (filter (λ t. t.call.worker == w) K)) ×
    ((m : ℕ) → ((n : ℕ) → set.worker_of n < m) → Reordered (map committed_of K) (in_turn m (λ w. (s.workers w).committed)))

-- the committed calls of a worker are those that have ended, and the one in hand where it has committed; those that have ended are pending or acknowledged, each once
abbrev pub EndedTheorem : Type 0
EndedTheorem = (set : Setting) (K : List (Act Txn)) (s : Core) → Invariant set K s → (w : ℕ) →
    (ended : List Committed) × ((s.workers w).committed ≡ ended ++ joined_list (act_in (hand_of s w))) × Reordered (map ticket_of ended) ((s.outboxes w).pending ++ s.acked w)

-- where the write vector of a key is at most that of a call that wrote and freed it, the row is what that call wrote
abbrev pub OwnRowTheorem : Type 0
OwnRowTheorem = (set : Setting) (K : List (Act Txn)) (s : Core) → Invariant set K s → (x : Key) (t : Act Txn) → Member t K → has_key x t.effect.writes ≡ true →
    (Holds (hand_of s) t x → ⊥) → AtMost ((sight set s).write_lv x) (lv_of t) → (sight set s).row x ≡ written t.effect.writes set.base x

-- the record of a committed call is in flight, stands in the outbox of its worker, or is gathered
abbrev pub PostedTheorem : Type 0
PostedTheorem = (set : Setting) (K : List (Act Txn)) (s : Core) → Invariant set K s → (t : Act Txn) → Member t K → updates t.effect ≡ true →
    (placed_in (hand_of s t.call.worker) ≡ Some t) ⊎ (Member (Record t) (s.outboxes t.call.worker).posted ⊎ (t.call.place.past ≤ slice_index s.gathered t.call.place.stream))

-- there are runs: one, of eight events, ends with call 1 acknowledged at 53
abbrev pub ExampleTheorem : Type 0
ExampleTheorem = (set : Setting) × (opening s : Core) × (events : List Event) × (K : List (Act Txn)) × Run set opening events K s × (s.acked 0 ≡ record { number = 1; lv = 53 ∷ [] } ∷ [])
