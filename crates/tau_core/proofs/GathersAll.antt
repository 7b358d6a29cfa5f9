-- Nothing is left to gather, and room that was made suffices.
use Rattle.std.proofs.Common.{ℕ, zero, suc, ◌+◌, ◌-◌, ◌*◌, ◌%◌, ◌<◌, ◌≤◌, ◌≡◌, inl, inr, List, ◌++◌, length, refl, sym, ap, subst, ◌∙◌, arith, length-append, get_or-set_same}
use Rattle.std.specs.Prelude.{Some, None, min, slice_get, slice_index, slice_set}
use Rattle.std.proofs.lemmas.Bool.{cases_eq, cases_lt}
use Rattle.std.proofs.lemmas.Nat.{mod-mul-add}
use Rattle.std.proofs.lemmas.Option.{slice_get_within}
use Rattle.tau_base.specs.declared.limits.TheConstants.{MAX_BODY}
use Rattle.tau_outbox.specs.declared.Piece.{Piece}
use Rattle.tau_outbox.specs.Pieces.{PlainOutbox, bytes_of}
use Rattle.tau_outbox.specs.Gather.{Stops, run, left}
use Rattle.tau_outbox.proofs.Orders.{gathered}
use Rattle.tau_core.specs.Plain.{PlainSeat, PlainStream}
use Rattle.tau_core.specs.State.{Plain}
use Rattle.tau_core.specs.View.{stop_in}
use Rattle.tau_core.specs.Stands.{Stood}
use Rattle.tau_core.specs.Gather.{Moves, MovesOwn, MovesPosted, Roomy, BoxWaits, AllGathered}
use Rattle.tau_core.proofs.Lists.{got_same, got_other}
use Rattle.tau_core.proofs.Spellings.{moves_of}
use Rattle.tau_core.proofs.GathersOwn.{own_bound}
use Rattle.tau_core.proofs.GathersPosted.{posted_bound}

-- the manager's outbox waits, and those of the stream's workers below this one
pub record WaitsBelow (j n : ℕ) (p : Plain) : Type 0 where
  pub own : (s : PlainStream) → slice_get p.streams j ≡ Some s → BoxWaits j p s.own
  pub posted : (w : ℕ) (t : PlainSeat) → w < n → w % p.load.streams ≡ j → slice_get p.seats w ≡ Some t → BoxWaits j p t.outbox

-- what is moved keeps within the limit of the body
moved_small : (next : ℕ) (before after : PlainOutbox) (body longer : List ℕ) (m : Moves next before after body longer) → length (bytes_of m.taken) ≤ MAX_BODY - length body
moved_small next before after body longer m = elim m.fits [
  | inl none ↦ (let e : length (bytes_of m.taken) ≡ 0 = ap (λ l. length (bytes_of l)) none in omega arith)
  | inr small ↦ (let e = ap (length {A = ℕ}) m.bytes ∙ length-append body (bytes_of m.taken) in omega arith)
]

moved_long : (next : ℕ) (before after : PlainOutbox) (body longer : List ℕ) (m : Moves next before after body longer) → length longer ≡ length body + length (bytes_of m.taken)
moved_long next before after body longer m = ap (length {A = ℕ}) m.bytes ∙ length-append body (bytes_of m.taken)

least : (a b n room : ℕ) → min a b ≤ room → n ≤ a → n ≤ b → n ≤ room
least a b n room le small low = omega arith

front_small : (next a b room : ℕ) → next + a ≡ next + b → b ≤ room → a ≤ room
front_small next a b room e le = omega arith

less : (most used ends gathered n longer past room spare : ℕ) → min (most - used) (ends - gathered) ≤ room → longer ≡ used + n → past ≡ gathered + n → room ≤ spare + n → min (most - longer) (ends - past) ≤ spare
less most used ends gathered n longer past room spare le e f kept = omega arith

module _ (p : Plain) (g : Stood p) (j : ℕ) (there : j < p.load.streams) (going : stop_in (slice_get p.streams j) ≡ None) (roomy : Roomy j p) where
  -- the room suffices for the front of the manager's outbox
  pub own_fits : (stream : PlainStream) → slice_get p.streams j ≡ Some stream → length (bytes_of (run (slice_index p.gathered j) (length stream.body) stream.own.pieces)) ≤ stream.room
  own_fits stream is =
      let next : ℕ = slice_index p.gathered j in
      let front : List Piece = run next (length stream.body) stream.own.pieces in
      let behind : PlainOutbox = record stream.own { pieces = left next (length stream.body) stream.own.pieces } in
      let longer : List ℕ = stream.body ++ bytes_of front in
      let q = gathered next stream.own.pieces stream.body in
      let m : Moves next stream.own behind stream.body longer = moves_of next next stream.own behind stream.body longer (next + length (bytes_of front)) refl q (omega arith) in
      let bound = own_bound p g.0 g.1 g.2 j there going stream behind longer stream.room is m in
      let small = moved_small next stream.own behind stream.body longer m in
      let low = least (MAX_BODY - length stream.body) (slice_index p.ends j - next) (length (bytes_of m.taken)) stream.room (roomy stream is) small (omega arith) in
      front_small next (length (bytes_of front)) (length (bytes_of m.taken)) stream.room q.past low

  -- and for that of a worker
  pub posted_fits : (w : ℕ) → w % p.load.streams ≡ j → (stream : PlainStream) (seat : PlainSeat) → slice_get p.streams j ≡ Some stream → slice_get p.seats w ≡ Some seat →
      length (bytes_of (run (slice_index p.gathered j) (length stream.body) seat.outbox.pieces)) ≤ stream.room
  posted_fits w whose stream seat is seat_is =
      let next : ℕ = slice_index p.gathered j in
      let front : List Piece = run next (length stream.body) seat.outbox.pieces in
      let behind : PlainOutbox = record seat.outbox { pieces = left next (length stream.body) seat.outbox.pieces } in
      let longer : List ℕ = stream.body ++ bytes_of front in
      let q = gathered next seat.outbox.pieces stream.body in
      let m : Moves next seat.outbox behind stream.body longer = moves_of next next seat.outbox behind stream.body longer (next + length (bytes_of front)) refl q (omega arith) in
      let bound = posted_bound p g.0 g.1 g.2 j there going w whose stream seat behind longer stream.room is seat_is m in
      let small = moved_small next seat.outbox behind stream.body longer m in
      let low = least (MAX_BODY - length stream.body) (slice_index p.ends j - next) (length (bytes_of m.taken)) stream.room (roomy stream is) small (omega arith) in
      front_small next (length (bytes_of front)) (length (bytes_of m.taken)) stream.room q.past low

  inside : j < length p.gathered
  inside = (let o = g.2.sound.gathered in omega arith)

  -- what is moved leaves enough of it
  pub own_roomy : (m : Plain) → MovesOwn j p m → Roomy j m
  own_roomy m q =
      let part : PlainStream = record q.stream { own = q.own; body = q.longer; room = q.spare } in
      let past : ℕ = slice_index p.gathered j + length (bytes_of q.moves.taken) in
      subst (Roomy j) (sym q.after) (λ s e.
      let same : part ≡ s = (let f : Some part ≡ Some s = sym (got_same p.streams j part (slice_get_within p.streams j q.stream q.is)) ∙ e in cc) in
      subst (λ (x : PlainStream). min (MAX_BODY - length x.body) (slice_index p.ends j - slice_index (slice_set p.gathered j past) j) ≤ x.room) same
      (less MAX_BODY (length q.stream.body) (slice_index p.ends j) (slice_index p.gathered j) (length (bytes_of q.moves.taken)) (length q.longer) (slice_index (slice_set p.gathered j past) j) q.stream.room q.spare
      (roomy q.stream q.is) (moved_long (slice_index p.gathered j) q.stream.own q.own q.stream.body q.longer q.moves) (get_or-set_same p.gathered j past 0 inside) q.spares))

  pub posted_roomy : (w : ℕ) (m : Plain) → MovesPosted j w p m → Roomy j m
  posted_roomy w m q =
      let part : PlainStream = record q.stream { body = q.longer; room = q.spare } in
      let past : ℕ = slice_index p.gathered j + length (bytes_of q.moves.taken) in
      subst (Roomy j) (sym q.after) (λ s e.
      let same : part ≡ s = (let f : Some part ≡ Some s = sym (got_same p.streams j part (slice_get_within p.streams j q.stream q.is)) ∙ e in cc) in
      subst (λ (x : PlainStream). min (MAX_BODY - length x.body) (slice_index p.ends j - slice_index (slice_set p.gathered j past) j) ≤ x.room) same
      (less MAX_BODY (length q.stream.body) (slice_index p.ends j) (slice_index p.gathered j) (length (bytes_of q.moves.taken)) (length q.longer) (slice_index (slice_set p.gathered j past) j) q.stream.room q.spare
      (roomy q.stream q.is) (moved_long (slice_index p.gathered j) q.seat.outbox q.outbox q.stream.body q.longer q.moves) (get_or-set_same p.gathered j past 0 inside) q.spares))

  -- after a move from the manager's outbox it waits
  pub own_waits : (m : Plain) → MovesOwn j p m → WaitsBelow j 0 m
  own_waits m q =
      let part : PlainStream = record q.stream { own = q.own; body = q.longer; room = q.spare } in
      let past : ℕ = slice_index p.gathered j + length (bytes_of q.moves.taken) in
      let got = got_same p.streams j part (slice_get_within p.streams j q.stream q.is) in
      let here : (s : PlainStream) → slice_get (slice_set p.streams j part) j ≡ Some s → (t : PlainStream) → slice_get (slice_set p.streams j part) j ≡ Some t → Stops (slice_index (slice_set p.gathered j past) j) (length t.body) s.own.pieces =
      λ s e t f.
      let same : part ≡ s = (let k : Some part ≡ Some s = sym got ∙ e in cc) in
      let too : part ≡ t = (let k : Some part ≡ Some t = sym got ∙ f in cc) in
      subst (λ (x : PlainStream). Stops (slice_index (slice_set p.gathered j past) j) (length t.body) x.own.pieces) same
      (subst (λ (x : PlainStream). Stops (slice_index (slice_set p.gathered j past) j) (length x.body) q.own.pieces) too
      (subst (λ (n : ℕ). Stops n (length q.longer) q.own.pieces) (sym (get_or-set_same p.gathered j past 0 inside)) q.moves.stops)) in
      subst (WaitsBelow j 0) (sym q.after) (record { own = here; posted = λ w t lt whose e. absurd (omega arith) })

  -- and after one from a worker's outbox that moves nothing this one waits as well
  pub posted_waits : (w : ℕ) (m : Plain) → MovesPosted j w p m → slice_index m.gathered j ≡ slice_index p.gathered j → WaitsBelow j w p → WaitsBelow j (w + 1) m
  posted_waits w m q still below =
      let part : PlainStream = record q.stream { body = q.longer; room = q.spare } in
      let box : PlainSeat = record q.seat { outbox = q.outbox } in
      let past : ℕ = slice_index p.gathered j + length (bytes_of q.moves.taken) in
      let got = got_same p.streams j part (slice_get_within p.streams j q.stream q.is) in
      let box_got = got_same p.seats w box (slice_get_within p.seats w q.seat q.seat_is) in
      let there_again : slice_index (slice_set p.gathered j past) j ≡ past = get_or-set_same p.gathered j past 0 inside in
      let moved_on : slice_index (slice_set p.gathered j past) j ≡ slice_index p.gathered j = ap (λ (x : Plain). slice_index x.gathered j) (sym q.after) ∙ still in
      let long : length q.longer ≡ length q.stream.body = (let e = moved_long (slice_index p.gathered j) q.seat.outbox q.outbox q.stream.body q.longer q.moves in omega arith) in
      let others : (o : PlainOutbox) → BoxWaits j p o → (t : PlainStream) → slice_get (slice_set p.streams j part) j ≡ Some t → Stops (slice_index (slice_set p.gathered j past) j) (length t.body) o.pieces =
      λ o waits t f.
      let too : part ≡ t = (let k : Some part ≡ Some t = sym got ∙ f in cc) in
      subst (λ (x : PlainStream). Stops (slice_index (slice_set p.gathered j past) j) (length x.body) o.pieces) too
      (subst (λ (n : ℕ). Stops n (length q.longer) o.pieces) (sym moved_on)
      (subst (λ (n : ℕ). Stops (slice_index p.gathered j) n o.pieces) (sym long) (waits q.stream q.is))) in
      let here : (t : PlainStream) → slice_get (slice_set p.streams j part) j ≡ Some t → Stops (slice_index (slice_set p.gathered j past) j) (length t.body) q.outbox.pieces =
      λ t f.
      let too : part ≡ t = (let k : Some part ≡ Some t = sym got ∙ f in cc) in
      subst (λ (x : PlainStream). Stops (slice_index (slice_set p.gathered j past) j) (length x.body) q.outbox.pieces) too
      (subst (λ (n : ℕ). Stops n (length q.longer) q.outbox.pieces) (sym there_again) q.moves.stops) in
      subst (WaitsBelow j (w + 1)) (sym q.after) (record {
        own = λ s e.
            let same : part ≡ s = (let k : Some part ≡ Some s = sym got ∙ e in cc) in
            subst (λ (x : PlainStream). (t : PlainStream) → slice_get (slice_set p.streams j part) j ≡ Some t → Stops (slice_index (slice_set p.gathered j past) j) (length t.body) x.own.pieces) same
            (others q.stream.own (below.own q.stream q.is));
        posted = λ u t lt whose e. elim (cases_eq u w) [
          | inl is ↦
              let same : box ≡ t = (let k : Some box ≡ Some t = sym box_got ∙ ap (slice_get (slice_set p.seats w box)) (sym is) ∙ e in cc) in
              subst (λ (x : PlainSeat). (s : PlainStream) → slice_get (slice_set p.streams j part) j ≡ Some s → Stops (slice_index (slice_set p.gathered j past) j) (length s.body) x.outbox.pieces) same here
          | inr ne ↦ others t.outbox (below.posted u t (omega arith) whose (sym (got_other p.seats w u box ne) ∙ e))
        ];
      })

-- a worker of another stream is passed over
passed_waits : (j w : ℕ) (p : Plain) → (w % p.load.streams ≡ j → ⊥) → WaitsBelow j w p → WaitsBelow j (w + 1) p
passed_waits j w p other below = record {
  own = below.own;
  posted = λ u t lt whose e. elim (cases_eq u w) [
    | inl is ↦ absurd (other (ap (λ (n : ℕ). n % p.load.streams) (sym is) ∙ whose))
    | inr ne ↦ below.posted u t (omega arith) whose e
  ];
}

-- each n-th worker from j on is of stream j
pub turns_of : (n j turns w : ℕ) → j < n → w ≡ turns * n + j → w % n ≡ j
turns_of n j turns w there is = ap (λ m. m % n) is ∙ mod-mul-add turns n j there

-- after a worker of a stream of n come those of the others, and then its next one
others_between : (n j turns k : ℕ) → j < n → 0 < k → k < n → (turns * n + j + k) % n ≡ j → ⊥
others_between n j turns k there some few same = elim (cases_lt (j + k) n) [
  | inl low ↦
      let at : (turns * n + (j + k)) % n ≡ j + k = mod-mul-add turns n (j + k) low in
      let apart : turns * n + j + k ≡ turns * n + (j + k) = omega arith in
      let e : j + k ≡ j = sym at ∙ ap (λ m. m % n) (sym apart) ∙ same in
      omega arith
  | inr high ↦
      let at : ((turns + 1) * n + (j + k - n)) % n ≡ j + k - n = mod-mul-add (turns + 1) n (j + k - n) (omega arith) in
      let apart : turns * n + j + k ≡ (turns + 1) * n + (j + k - n) = omega arith in
      let e : j + k - n ≡ j = sym at ∙ ap (λ m. m % n) (sym apart) ∙ same in
      omega arith
]

-- so all of them are passed over
pub rest_waits : (j w turns k : ℕ) (p : Plain) → j < p.load.streams → w ≡ turns * p.load.streams + j → k < p.load.streams → WaitsBelow j (w + 1) p → WaitsBelow j (w + 1 + k) p
rest_waits j w turns zero p there is few below = subst (λ (n : ℕ). WaitsBelow j n p) (omega arith) below
rest_waits j w turns (suc k) p there is few below =
    let other : (w + 1 + k) % p.load.streams ≡ j → ⊥ =
    λ e. others_between p.load.streams j turns (k + 1) there (omega arith) (omega arith) (ap (λ m. m % p.load.streams) (let at : turns * p.load.streams + j + (k + 1) ≡ w + 1 + k = omega arith in at) ∙ e) in
    let on : WaitsBelow j (w + 1 + k + 1) p = passed_waits j (w + 1 + k) p other (rest_waits j w turns k p there is (omega arith) below) in
    subst (λ (n : ℕ). WaitsBelow j n p) (omega arith) on

-- no worker below the first one is the stream's
pub first_waits : (j k : ℕ) (p : Plain) → j < p.load.streams → k ≤ j → WaitsBelow j 0 p → WaitsBelow j k p
first_waits j zero p there low below = below
first_waits j (suc k) p there low below =
    let at : k % p.load.streams ≡ k = turns_of p.load.streams k 0 k (omega arith) (omega arith) in
    let on : WaitsBelow j (k + 1) p = passed_waits j k p (λ e. let same : k ≡ j = sym at ∙ e in omega arith) (first_waits j k p there (omega arith) below) in
    subst (λ (n : ℕ). WaitsBelow j n p) (omega arith) on

pub all_wait : (j n : ℕ) (p : Plain) → length p.seats ≤ n → WaitsBelow j n p → AllGathered j p
all_wait j n p all below = record {
  own = below.own;
  posted = λ u t whose e. below.posted u t (let lt = slice_get_within p.seats u t e in omega arith) whose e;
}
