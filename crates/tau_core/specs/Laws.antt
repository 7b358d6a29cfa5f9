-- What holds of every core that stands, after every list of events, with its commit order K and what no data of it holds.
-- The commit order need not be known: each law is for every K with which the core stands, and the reported history comes from the committed calls in any order.
use Rattle.std.specs.Prelude.{ℕ, ◌+◌, ◌≤◌, ◌≡◌, Bool, true, None, Some, List, [], ◌++◌, length, map, slice_get, slice_index}
use Rattle.std.specs.List.{filter}
use Rattle.tau_base.specs.declared.value.Key.{Key}
use Rattle.tau_base.specs.declared.value.LogMode.{LogMode}
use Rattle.tau_base.specs.Database.{Db}
use Rattle.tau_base.specs.Shards.{shard_number}
use Rattle.tau_base.specs.Vectors.{AtMost}
use Rattle.tau_model.specs.declared.committed.Committed.{Committed}
use Rattle.tau_model.specs.Committed.{reported_numbers, IsWithin}
use Rattle.tau_model.specs.History.{Act, Member, Before, Reordered, Conflict, KeepsOrder, Closed, Depends, trace, exec, replies, updates}
use Rattle.tau_model.specs.Light.{IsLight}
use Rattle.tau_model.specs.Logged.{Orderly, IsCutAt}
use Rattle.tau_model.specs.Redo.{redo_contents}
use Rattle.tau_model.specs.Tables.{db_of_rows}
use Rattle.tau_machine.specs.Hands.{Txn, means, lv_of, committed_of, act_in}
use Rattle.tau_machine.specs.State.{Ticket, Item, ticket, ticket_of, hand_of}
use Rattle.tau_machine.specs.Pieces.{Chain, records_in, anchors_in, records_of_stream, NameTheirs}
use Rattle.tau_machine.specs.Accounts.{joined_list}
use Rattle.tau_machine.specs.Reports.{calls_of, placed_at, reported, held_by, content_of, Unheld}
use Rattle.tau_core.specs.Plain.{PlainStream}
use Rattle.tau_core.specs.Pieces.{Spelled}
use Rattle.tau_core.specs.State.{Plain}
use Rattle.tau_core.specs.Stands.{Stands, anchors_at}
use Rattle.tau_core.specs.View.{Hidden, core_of, call_of, worker_of, stop_in}

-- the database in which the run began
abbrev pub base : Plain → Db
base p = db_of_rows p.load.opening.rows

-- dependence is covered by vectors: where two committed calls conflict, the dep of the later one covers the vector of the earlier one, in the commit order and in the reported history
abbrev pub DependenceLaw : Type 0
DependenceLaw = (p : Plain) (K : List (Act Txn)) (h : Hidden) → Stands p K h →
    ((u t : Act Txn) → Before u t K → Conflict u.effect t.effect → AtMost (lv_of u) t.call.place.dep) ×
    ((calls : List (Act Txn)) → Reordered K calls → (u t : Act Txn) → Before u t (reported p.ends calls) → Conflict u.effect t.effect → AtMost (lv_of u) t.call.place.dep)

-- rows and replies are those of the commit order: each call does what it did, and a key that no committed call holds in write mode has the row of the last database
abbrev pub RowsLaw : Type 0
RowsLaw = (p : Plain) (K : List (Act Txn)) (h : Hidden) → Stands p K h →
    (trace (means p.load.procs) (calls_of K) (base p) ≡ K) ×
    (replies (means p.load.procs) (calls_of K) (base p) ≡ map (λ t. t.effect.reply) K) ×
    ((x : Key) → Unheld (core_of p h) x → exec (means p.load.procs) (calls_of K) (base p) x ≡ ((core_of p h).shards (shard_number x)).rows x)

-- and of the reported history, which lists each committed call once, orders conflicting calls as the commit order does, and keeps the order of each stream
abbrev pub ReportedLaw : Type 0
ReportedLaw = (p : Plain) (K : List (Act Txn)) (h : Hidden) → Stands p K h → (calls : List (Act Txn)) → Reordered K calls →
    let history : List (Act Txn) = reported p.ends calls in
    Reordered K history × KeepsOrder K history × ((j : ℕ) → records_of_stream j history ≡ records_of_stream j K) ×
    (trace (means p.load.procs) (calls_of history) (base p) ≡ history) ×
    (replies (means p.load.procs) (calls_of history) (base p) ≡ map (λ t. t.effect.reply) history) ×
    ((x : Key) → Unheld (core_of p h) x → exec (means p.load.procs) (calls_of history) (base p) x ≡ ((core_of p h).shards (shard_number x)).rows x)

-- the numbers that are reported of what is kept of the committed calls, in any order, are those of the reported history
abbrev pub NumbersLaw : Type 0
NumbersLaw = (p : Plain) (K : List (Act Txn)) (h : Hidden) → Stands p K h → (list : List Committed) → Reordered p.committed list →
    (calls : List (Act Txn)) × Reordered K calls × (map committed_of calls ≡ list) × (reported_numbers p.ends list ≡ map (λ t. t.call.call.number) (reported p.ends calls))

-- every cut is closed and redoes to its own execution: the calls that a vector of positions cuts off are closed; an orderly order of their records exists, the commit order;
-- and every orderly order of them, data and command records in any mixture, redoes to the database of executing just these calls. So it is of the reported history
abbrev pub CutsLaw : Type 0
CutsLaw = (p : Plain) (K : List (Act Txn)) (h : Hidden) → Stands p K h → (cut : List ℕ) →
    let chosen : Txn → Bool = held_by cut in
    IsCutAt placed_at cut K chosen × Closed K chosen ×
    Orderly (map (λ t. t.call.place) (filter (λ t. chosen t.call) K)) ×
    ((ys : List (Act Txn)) (mode : Act Txn → LogMode) → Reordered (filter (λ t. chosen t.call) K) ys → Orderly (map (λ t. t.call.place) ys) →
    redo_contents p.load.procs (map (λ t. content_of (mode t) t) ys) (base p) ≡ exec (means p.load.procs) (filter chosen (calls_of K)) (base p)) ×
    ((calls : List (Act Txn)) → Reordered K calls →
    Closed (reported p.ends calls) chosen ×
    (exec (means p.load.procs) (filter chosen (calls_of (reported p.ends calls))) (base p) ≡ exec (means p.load.procs) (filter chosen (calls_of K)) (base p)))

-- the gathered bytes are the spelling of the stream: the items that were gathered, and after them those that wait, touch end to start from the opening's end over the gathered end to the
-- placed end, and are the records of the stream's committed calls and its anchors; and the bytes that were handed out, and after them those that are here, spell the gathered ones
abbrev pub SpellingLaw : Type 0
SpellingLaw = (p : Plain) (K : List (Act Txn)) (h : Hidden) → Stands p K h → (j : ℕ) (s : PlainStream) → slice_get p.streams j ≡ Some s →
    (waiting : List Item) × Chain (slice_index p.load.opening.ends j) (h.moved j) (slice_index p.gathered j) × Chain (slice_index p.gathered j) waiting (slice_index p.ends j) ×
    (records_in (h.moved j ++ waiting) ≡ records_of_stream j K) × (anchors_in (h.moved j ++ waiting) ≡ s.anchors) ×
    NameTheirs (slice_index p.load.opening.anchors.items j) [] (h.moved j ++ waiting) ×
    Spelled p.load (anchors_at p) (h.moved j) (h.taken j ++ s.body) ×
    (slice_index p.load.opening.ends j + length (h.taken j ++ s.body) ≡ slice_index p.gathered j)

-- contents that stops may leave: a stopped stream is cut where it was stopped, any other one is no shorter than it is persisted
abbrev pub MayRemain : Plain → List ℕ → Type 0
MayRemain p cut =
    ((j c : ℕ) → stop_in (slice_get p.streams j) ≡ Some c → slice_index cut j ≡ c) ×
    ((j : ℕ) → stop_in (slice_get p.streams j) ≡ None → slice_index p.plv j ≤ slice_index cut j)

-- a cut holds this call, where it is updating, and each updating call on which it depends
abbrev pub Survives : List (Act Txn) → List ℕ → Act Txn → Type 0
Survives K cut t = (updates t.effect ≡ true → held_by cut t.call ≡ true) × ((u : Act Txn) → Depends K t u → updates u.effect ≡ true → held_by cut u.call ≡ true)

-- acknowledged updates survive every stop: the persisted positions cover the vector of an acknowledged call; and contents that cover the persisted positions, as those that stops may leave do,
-- hold it, and all on which it depends
abbrev pub AcknowledgedLaw : Type 0
AcknowledgedLaw = (p : Plain) (K : List (Act Txn)) (h : Hidden) → Stands p K h → (w : ℕ) (k : Ticket) → Member k (h.acked w) →
    (t : Act Txn) × Member t K × (ticket t ≡ k) × AtMost (lv_of t) p.plv ×
    ((cut : List ℕ) → AtMost p.plv cut → Survives K cut t) × ((cut : List ℕ) → MayRemain p cut → Survives K cut t)

-- vectors stay light: a component of a committed call's dep that the persisted positions do not cover is the end of the record of a call on which it depends in the reported history
abbrev pub LightLaw : Type 0
LightLaw = (p : Plain) (K : List (Act Txn)) (h : Hidden) → Stands p K h → (calls : List (Act Txn)) → Reordered K calls →
    (t : Act Txn) → Member t K → IsLight placed_at p.plv (reported p.ends calls) t

-- the committed calls: each is the call of its number and of its worker, with its record in that worker's stream and within it, and no two have one number;
-- and those of a worker are the one in hand, where it has committed, and before it those that are pending or acknowledged, each once
abbrev pub CommittedLaw : Type 0
CommittedLaw = (p : Plain) (K : List (Act Txn)) (h : Hidden) → Stands p K h →
    ((t : Act Txn) → Member t K → (call_of p.load.calls t.call.call.number ≡ Some t.call.call.call) × (worker_of p.load.workers t.call.call.number ≡ t.call.worker) × IsWithin p.ends (committed_of t)) ×
    ((u t : Act Txn) → Before u t K → u.call.call.number ≡ t.call.call.number → ⊥) ×
    ((w : ℕ) → (ended : List Committed) × (((core_of p h).workers w).committed ≡ ended ++ joined_list (act_in (hand_of (core_of p h) w))) ×
    Reordered (map ticket_of ended) (((core_of p h).outboxes w).pending ++ h.acked w))
