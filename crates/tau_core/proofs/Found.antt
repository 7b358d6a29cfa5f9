-- The parts that code has in hand.
use Rattle.std.proofs.Common.{ℕ, ◌<◌, ◌≡◌, ◌-◌, length, refl, sym, ap, subst, ◌∙◌, arith}
use Rattle.std.specs.Prelude.{Some, slice_get, slice_index_or, vec_capacity, vec_len}
use Rattle.std.proofs.lemmas.Option.{slice_get_read}
use Rattle.tau_base.specs.declared.limits.TheConstants.{SHARDS}
use Rattle.tau_base.specs.declared.value.Key.{Key}
use Rattle.tau_base.specs.Shards.{shard_number}
use Rattle.tau_shard.specs.Plain.{PlainShard}
use Rattle.tau_core.specs.declared.state.Seat.TheInside as seat
use Rattle.tau_core.specs.declared.state.Stream.TheInside as stream
use Rattle.tau_core.specs.declared.state.State.{State}
use Rattle.tau_core.specs.Plain.{PlainSeat, PlainStream}
use Rattle.tau_core.specs.State.{plain}
use Rattle.tau_core.specs.Stands.{Sound}

abbrev pub seat_in : seat.Inside → PlainSeat
seat_in s = record { next = s.next; again = s.again; txn = s.txn; start = s.start; left = s.left.numbers; room = s.left.room; outbox = s.outbox; pending = s.pending }

pub found_seat : (s : State) (w : ℕ) (now : PlainSeat) (i : seat.Inside) → Sound (plain s) → w < s.load.workers → now ≡ slice_index_or s.seats.items w now → seat_in i ≡ now → slice_get s.seats.items w ≡ Some (seat_in i)
found_seat s w now i g lt is view =
    let within : w < length s.seats.items = (let e = g.seats in omega arith) in
    slice_get_read s.seats.items (length s.seats.items) w now refl within is ∙ ap Some (sym view)

pub found_whole : (s : State) (w : ℕ) (now : PlainSeat) → Sound (plain s) → w < s.load.workers → now ≡ slice_index_or s.seats.items w now → slice_get s.seats.items w ≡ Some now
found_whole s w now g lt is =
    let within : w < length s.seats.items = (let e = g.seats in omega arith) in
    slice_get_read s.seats.items (length s.seats.items) w now refl within is

pub found_shard : (s : State) (i : ℕ) (now : PlainShard) → Sound (plain s) → i < SHARDS → now ≡ slice_index_or s.shards.items i now → slice_get s.shards.items i ≡ Some now
found_shard s i now g lt is =
    let within : i < length s.shards.items = (let e = g.shards in omega arith) in
    slice_get_read s.shards.items (length s.shards.items) i now refl within is

-- the shard of a key, whose number code has as a byte
pub found_shard_of : (s : State) (key : Key) (byte i : ℕ) (now : PlainShard) → Sound (plain s) → i ≡ byte → byte ≡ shard_number key → byte < SHARDS → now ≡ slice_index_or s.shards.items i now →
    slice_get s.shards.items (shard_number key) ≡ Some now
found_shard_of s key byte i now g is_byte same small is = subst (λ (n : ℕ). slice_get s.shards.items n ≡ Some now) (is_byte ∙ same) (found_shard s i now g (omega arith) is)

abbrev pub part_in : stream.Inside → PlainStream
part_in s = record { own = s.own; anchors = s.anchors.items; stop = s.stop; body = s.body.items; room = vec_capacity s.body - vec_len s.body }

pub part_within : (s : State) (j : ℕ) → Sound (plain s) → j < s.load.streams → j < length s.streams.items
part_within s j g lt = let e = g.streams in omega arith

pub found_part : (s : State) (j : ℕ) (now : PlainStream) (i : stream.Inside) → Sound (plain s) → j < s.load.streams → now ≡ slice_index_or s.streams.items j now → part_in i ≡ now → slice_get s.streams.items j ≡ Some (part_in i)
found_part s j now i g lt is view = slice_get_read s.streams.items (length s.streams.items) j now refl (part_within s j g lt) is ∙ ap Some (sym view)
