-- One put, from its lock to its acknowledgement: a run, each of whose events applies where it stands.
use Rattle.std.proofs.Common.{ℕ, zero, suc, ◌≤◌, Bool, true, false, ◌≡◌, inl, inr, List, [], ◌∷◌, ◌++◌, refl, sym, ap, subst, arith}
use Rattle.std.specs.Prelude.{Some, None, pos, ◌==◌, slice_index, if◌then◌else◌}
use Rattle.std.specs.Ordering.{is_le}
use Rattle.std.proofs.lemmas.Bool.{cases_Bool, eqb-true}
use Rattle.tau_base.specs.declared.value.Key.{Key}
use Rattle.tau_base.specs.declared.value.Value.TheVariants as value
use Rattle.tau_base.specs.declared.value.Mode.{Mode}
use Rattle.tau_base.specs.declared.value.Mode.TheVariants.{Write}
use Rattle.tau_proc.specs.declared.proc.Proc.{Proc}
use Rattle.tau_model.specs.History.{Numbered, Act, Member}
use Rattle.tau_proc.specs.declared.reply.Reply.TheVariants as reply
use Rattle.tau_proc.specs.Effect.{Effect}
use Rattle.tau_base.specs.Database.{same_key, key_cmp}
use Rattle.tau_base.proofs.Keys.{same_key_is}
use Rattle.tau_base.specs.Database.{empty_db}
use Rattle.tau_base.specs.Shards.{shard_number}
use Rattle.tau_proc.specs.declared.procs.TheConstants.{PUT}
use Rattle.tau_machine.specs.Stage.{Ends, stage}
use Rattle.tau_machine.specs.Hands.{Txn, Placed, Freeing, Hand, mode_of, lv_of, committed_of}
use Rattle.tau_shard.specs.Shard.{at, shard_locked, shard_freed}
use Rattle.tau_machine.specs.Worker.{lock_of, fresh, hand_locked, hand_joined, hand_freed}
use Rattle.tau_machine.specs.State.{Setting, Record, Core, ticket}
use Rattle.tau_machine.specs.Accounts.{in_worker}
use Rattle.tau_machine.specs.Events as event
use Rattle.tau_machine.specs.Events.{with_worker, with_shard, with_outbox, with_stream, ready, act_placed, Leads, Lock, Commit, Post, Free, Done, Gather, Persist, Ack}
use Rattle.tau_machine.specs.Runs.{IsOpening}
use Rattle.tau_machine.specs.Theorems.{ExampleTheorem}
use Rattle.tau_base.proofs.Vectors.{at_most_itself}

abbrev x : Key
x = record { table = 0; row = pos 1 }

-- put into row 1 of table 0 the number 5
abbrev put_one : Numbered
put_one = record { number = 1; call = record { proc = PUT; args = record { items = value.Int (pos 0) ∷ value.Int (pos 1) ∷ value.Int (pos 5) ∷ [] } } }

abbrev procs : List Proc
procs = []

abbrev set : Setting
set = record { procs = procs; width = 1; stream_of = λ w. 0; shard_of = shard_number; worker_of = λ n. 0; call_of = λ n. if n == 1 then Some put_one.call else None; base = empty_db; opening = 13 ∷ []; anchored = λ j. 0 }

abbrev begins : ℕ → List Numbered
begins w = if w == 0 then put_one ∷ [] else []

abbrev s0 : Core
s0 = record {
  shards = λ i. record { rows = λ k. value.Absent; entries = λ k. None; floor = 0 ∷ [] };
  workers = λ w. record { waiting = begins w; hand = None; left = []; committed = [] };
  outboxes = λ w. record { posted = []; pending = [] };
  streams = λ j. record { posted = []; moved = []; anchors = []; stop = None };
  acked = λ w. [];
  ends = 13 ∷ [];
  gathered = 13 ∷ [];
  plv = 13 ∷ [];
}

is_opening : IsOpening set s0
is_opening = record {
  count = refl;
  small = λ w. omega arith;
  ends = refl;
  gathered = refl;
  plv = refl;
  rows = λ k. refl;
  entries = λ i k. refl;
  floors = λ i j. zeros j;
  narrow = λ i. omega arith;
  left = λ w. refl;
  calls = λ w c m. calls w c m;
  hands = λ w. refl;
  committed = λ w. refl;
  pending = λ w. refl;
  posted = λ w. refl;
  own = λ j. refl;
  moved = λ j. refl;
  anchors = λ j. refl;
  acked = λ w. refl;
  stops = λ j. refl;
  once = λ w n. once w n;
  whose = λ w n h. whose w n h;
}
  where
    zeros : (j : ℕ) → slice_index (0 ∷ []) j ≤ slice_index (13 ∷ []) j
    zeros zero = omega arith
    zeros (suc j) = omega arith

    one_at_most : (n : ℕ) (b : Bool) → in_worker n (record { waiting = if b then put_one ∷ [] else []; hand = None; left = []; committed = [] }) ≤ 1
    one_at_most n true = elim (cases_Bool (n == 1)) [ inl e ↦ rw e (omega arith) | inr e ↦ rw e (omega arith) ]
    one_at_most n false = omega arith

    among : (b : Bool) (c : Numbered) → Member c (if b then put_one ∷ [] else []) → set.call_of c.number ≡ Some c.call
    among true c (inl is) = subst (λ (k : Numbered). set.call_of k.number ≡ Some k.call) is refl
    among true c (inr m) = absurd m
    among false c m = absurd m

    calls : (w : ℕ) (c : Numbered) → Member c (s0.workers w).waiting → set.call_of c.number ≡ Some c.call
    calls w c m = among (w == 0) c m

    once : (w n : ℕ) → in_worker n (s0.workers w) ≤ 1
    once w n = one_at_most n (w == 0)

    whose : (w n : ℕ) → 1 ≤ in_worker n (s0.workers w) → 0 ≡ w
    whose w n h = elim (cases_Bool (w == 0)) [
      | inl e ↦ sym (eqb-true w 0 e)
      | inr e ↦ absurd (let bad : 1 ≤ 0 = rw e at h in omega arith)
    ]

abbrev h0 : Hand
h0 = fresh 1 put_one 0

abbrev e1 : Effect
e1 = record { reads = []; writes = (x, value.Int (pos 5)) ∷ []; reply = reply.Ok value.Absent }

ends_at : stage procs put_one.call [] ≡ Ends e1
ends_at = refl

abbrev h1 : Hand
h1 = hand_locked h0 x Write value.Absent (0 ∷ []) (0 ∷ [])

abbrev s1 : Core
s1 = with_shard (with_worker s0 0 (record (ready set s0 0) { hand = Some h1 })) 1 (shard_locked (s0.shards 1) 0 x Write)

locks : Leads set (Lock 0) s0 s1 []
locks = (
  record {
    hand = h0;
    key = x;
    mode = Write;
    is = refl;
    phase = refl;
    next = ap (λ s. lock_of s []) ends_at;
    free = λ c. (let bad = c.3 in cc);
    after = refl;
  },
  refl,
)

abbrev t1 : Act Txn
t1 = act_placed set 0 h1 e1 0 [] 13 53

abbrev s2 : Core
s2 = record (with_worker s1 0 (record (ready set s1 0) { hand = Some (hand_joined h1 (Placed t1) t1.call.place.dep); committed = (s1.workers 0).committed ++ committed_of t1 ∷ [] })) { ends = 53 ∷ [] }

commits : Leads set (Commit 0) s1 s2 (t1 ∷ [])
commits = (
  t1,
  record {
    hand = h1;
    effect = e1;
    number = 0;
    anchor = [];
    past = 53;
    is = refl;
    phase = refl;
    ended = ends_at;
    locked = ap (λ s. lock_of s h1.held) ends_at;
    updates = refl;
    named = inl (refl, refl);
    past_start = omega arith;
    act = refl;
    after = refl;
  },
  refl,
)

abbrev h2 : Hand
h2 = hand_joined h1 (Placed t1) t1.call.place.dep

abbrev s3 : Core
s3 = with_outbox (with_worker s2 0 (record (s2.workers 0) { hand = Some (record h2 { phase = Freeing t1 }) })) 0 (record (s2.outboxes 0) { posted = Record t1 ∷ [] })

posts : Leads set (Post 0) s2 s3 []
posts = (record { hand = h2; act = t1; is = refl; phase = refl; after = refl }, refl)

abbrev h3 : Hand
h3 = record h2 { phase = Freeing t1 }

abbrev s4 : Core
s4 = with_shard (with_worker s3 0 (record (s3.workers 0) { hand = Some (hand_freed h3 x) })) 1 (shard_freed (s3.shards 1) 0 x (lv_of t1) (Some (value.Int (pos 5))))

lowest : (k : Key) (m : Mode) → mode_of k h3.held ≡ Some m → is_le (key_cmp x k) ≡ true
lowest k m e = elim (cases_Bool (same_key k x)) [
  | inl is ↦ subst (λ (y : Key). is_le (key_cmp x y) ≡ true) (sym (same_key_is k x is)) refl
  | inr ne ↦ let bad : None ≡ Some m = rw ne at e in cc
]

frees : Leads set (Free 0) s3 s4 []
frees = (record { hand = h3; act = t1; key = x; mode = Write; is = refl; phase = refl; held = refl; lowest = lowest; after = refl }, refl)

abbrev h4 : Hand
h4 = hand_freed h3 x

abbrev s5 : Core
s5 = with_outbox (with_worker s4 0 (record (s4.workers 0) { hand = None })) 0 (record (s4.outboxes 0) { pending = (s4.outboxes 0).pending ++ ticket t1 ∷ [] })

done : Leads set (Done 0) s4 s5 []
done = (record { hand = h4; act = t1; is = refl; phase = refl; held = refl; after = refl }, refl)

abbrev s6 : Core
s6 = record (with_stream (with_outbox s5 0 (record (s5.outboxes 0) { posted = [] })) 0 (record (s5.streams 0) { moved = Record t1 ∷ [] })) { gathered = 53 ∷ [] }

gathers : Leads set (Gather 0) s5 s6 []
gathers = (event.record_first 0 (record { there = omega arith; going = refl; whose = refl; item = Record t1; others = []; is = refl; start = refl; after = refl }) event.stop, refl)

abbrev s7 : Core
s7 = record s6 { plv = 53 ∷ [] }

persists : Leads set (Persist 0 53) s6 s7 []
persists = (record { there = omega arith; going = refl; low = omega arith; high = omega arith; after = refl }, refl)

abbrev s8 : Core
s8 = record (with_outbox s7 0 (record (s7.outboxes 0) { pending = [] })) { acked = at 0 (ticket t1 ∷ []) s7.acked }

acks : Leads set (Ack 0 (53 ∷ [])) s7 s8 []
acks = (record { licensed = at_most_itself (53 ∷ []); front = []; ticket = ticket t1; back = []; is = refl; covered = at_most_itself (53 ∷ []); after = refl }, refl)

pub example_theorem : ExampleTheorem
example_theorem = (
  set,
  s0,
  s8,
  Lock 0 ∷ Commit 0 ∷ Post 0 ∷ Free 0 ∷ Done 0 ∷ Gather 0 ∷ Persist 0 53 ∷ Ack 0 (53 ∷ []) ∷ [],
  t1 ∷ [],
  record {
    opens = is_opening;
    leads = (s1, [], t1 ∷ [], locks, (s2, t1 ∷ [], [], commits, (s3, [], [], posts, (s4, [], [], frees, (s5, [], [], done, (s6, [], [], gathers, (s7, [], [], persists, (s8, [], [], acks, (refl, refl), refl), refl), refl), refl), refl), refl), refl), refl);
  },
  refl,
)
