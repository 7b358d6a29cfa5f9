-- At the end of the table a core can be made of the slots, of the words, and of what the head has.
use Rattle.std.proofs.Common.{ℕ, ◌+◌, ◌-◌, ◌*◌, ◌<◌, ◌≤◌, ◌≡◌, List, [], length, refl, sym, ap, ◌∙◌, Option, arith}
use Rattle.std.specs.Prelude.{Some, None, map, slice_get, slice_index}
use Rattle.std.proofs.Math.Nat.{mod-lt}
use Rattle.std.proofs.lemmas.List.{length-map}
use mathlib.Core.Option.{some}
use lib.ListN.{get_elem?}
use Rattle.tau_base.specs.declared.limits.TheConstants.{SHARDS}
use Rattle.tau_model.specs.declared.committed.Committed.{Committed}
use Rattle.tau_model.specs.History.{Reordered}
use Rattle.tau_model.proofs.Reorder.{reordered_length}
use Rattle.tau_machine.specs.Hands.{committed_of}
use Rattle.tau_machine.specs.Reports.{in_turn}
use Rattle.tau_machine.specs.Worker.{Worker}
use Rattle.tau_machine.proofs.Results.{committed_theorem}
use Rattle.tau_txn.specs.Txn.{PlainTxn}
use Rattle.tau_core.specs.Plain.{PlainSeat}
use Rattle.tau_core.specs.State.{Plain}
use Rattle.tau_core.specs.View.{setting_of, worker_of}
use Rattle.tau_occ.specs.declared.style.Style.{Style}
use Rattle.tau_rule.specs.Rule.{IsPart, Now, outbox_part, part_count}
use Rattle.tau_rule.specs.declared.part.Part.{Part}
use Rattle.tau_rule.specs.declared.part.Part.TheVariants as part
use Rattle.tau_rule.proofs.Numbers.{few_joined}
use Rattle.tau_rule.proofs.Persisting.{small_plv, small_end}
use Rattle.tau_rule.proofs.Turns.{reached_invariant, share_worker}
use Rattle.tau_desk.specs.Close.{IsBoxOf}
use Rattle.tau_desk.specs.Ends.{AreResting, IsWhole}
use Rattle.tau_desk.specs.Seats.{PlainHead}
use Rattle.tau_desk.specs.Shares.{PlainWork}
use Rattle.tau_desk.specs.Taken.{CanBeCore, HasShardAt, calls_at, calls_had}
use Rattle.tau_desk.proofs.CloseCalls.{in_turn_same, shown_calls}
use Rattle.tau_desk.proofs.CloseHead.{HeadAt, stock_there, work_there}
use Rattle.tau_desk.proofs.Closing.{ClosesAt, word_ends, word_plv}

shard_in : (origin : Plain) (slots : List (Option Part)) (c : Now) (i : ℕ) (p : Part) → IsPart origin.load i p c → get_elem? slots i ≡ some (Some p) → i < SHARDS → HasShardAt slots i
shard_in origin slots c i (part.Shard b) a e low = (b.value, (part.Shard b, e, refl))
shard_in origin slots c i (part.Outbox o p) a e low = absurd (let at = a.1 in omega (arith, at, low))
shard_in origin slots c i (part.Anchor n v) a e low = absurd (let at = a.1 in omega (arith, at, low))

box_in : (origin : Plain) (slots : List (Option Part)) (c : Now) (w : ℕ) (p : Part) → w < origin.load.workers → PlainTxn → IsPart origin.load (outbox_part w) p c → get_elem? slots (SHARDS + w) ≡ some (Some p) →
    (q : Part) × (x : PlainSeat) × (get_elem? slots (SHARDS + w) ≡ some (Some q)) × IsBoxOf q x
box_in origin slots c w (part.Shard b) low txn a e = absurd (let at = a.0 in omega (arith, at))
box_in origin slots c w (part.Outbox o p) low txn a e = (part.Outbox o p, record { next = 0; again = None; txn = txn; start = 0; left = []; room = 0; outbox = o.value; pending = p.value }, e, (refl, refl))
box_in origin slots c w (part.Anchor n v) low txn a e = absurd (let at = a.1 in omega (arith, at, low))

module _ (origin : Plain) {style : Style} (h : PlainHead) (g : HeadAt origin h) (whole : IsWhole h) (rests : AreResting h) (parts : ℕ) (count : parts ≡ part_count origin.load) (words : List ℕ) (slots : List (Option Part)) (k : ClosesAt origin style h.me.0 words slots) where
  abbrev pub state : Now
  state = k.0

  -- what a worker has is what the state has
  pub worker_is : (w : ℕ) (o : PlainWork) (e : slice_get h.workers w ≡ Some (Some o)) → state.core.workers w ≡ (g.worker w o e).work.worker
  worker_is w o e = (let f = g.worker w o e in (share_worker origin w f.role.share f.work.worker state f.work.share (k.4 w f.role f.is).0).1)

  pub calls_are : (w : ℕ) → w < origin.load.workers → calls_at h.workers w ≡ (state.core.workers w).committed
  calls_are w low =
      let o = work_there origin h g whole w low in
      let f = g.worker w o.0 o.1 in
      ap calls_had o.1 ∙ sym (ap (λ (x : Worker). x.committed) (worker_is w o.0 o.1) ∙ shown_calls origin.load f.work.worker o.0 o.0.mark f.work.shows)

  few_calls : length (in_turn origin.load.workers (calls_at h.workers)) ≤ length origin.load.calls
  few_calls =
      let r = k.1.reached in
      let inv = reached_invariant origin state.core r in
      let theirs : Reordered (map committed_of r.joined) (in_turn origin.load.workers (λ w. (state.core.workers w).committed)) = (committed_theorem (setting_of origin.load) r.joined state.core inv).3 origin.load.workers own in
      let same = reordered_length (map committed_of r.joined) (in_turn origin.load.workers (λ w. (state.core.workers w).committed)) theirs in
      let long = length-map r.joined committed_of in
      let few = few_joined origin state.core r in
      let ours = ap (λ (l : List Committed). length l) (in_turn_same origin.load.workers (calls_at h.workers) (λ w. (state.core.workers w).committed) calls_are) in
      omega (arith, same, long, few, ours)
    where
      own : (n : ℕ) → worker_of origin.load.workers n < origin.load.workers
      own n = (let low = k.1.opened.stands.sound.workers_low in mod-lt (n - 1) {m = origin.load.workers} (omega (arith, low)))

  pub at_end : (j : ℕ) → j < origin.load.streams → slice_index words (8 * (parts + j)) ≡ slice_index state.core.ends j
  at_end j low = ap (λ (n : ℕ). slice_index words (8 * (n + j))) count ∙ k.5 j (omega (arith, low)) ∙ word_ends origin.load state j low

  pub at_plv : (j : ℕ) → j < origin.load.streams → slice_index words (8 * (parts + origin.load.streams + j)) ≡ slice_index state.core.plv j
  at_plv j low =
      let place : 8 * (parts + origin.load.streams + j) ≡ 8 * (part_count origin.load + (origin.load.streams + j)) = omega (arith, count) in
      ap (slice_index words) place ∙ k.5 (origin.load.streams + j) (omega (arith, low)) ∙ word_plv origin.load state j low

  pub can_be : CanBeCore origin.load parts slots words h.workers h.managers
  can_be = record {
    shards = λ i low. (let t = k.3 i (omega (arith, low)) in shard_in origin slots state i t.0 t.1 t.2 low);
    boxes = λ w low.
        let t = k.3 (outbox_part w) (omega (arith, low)) in
        box_in origin slots state w t.0 low (work_there origin h g whole w low).0.txn t.1 t.2;
    works = λ w low. (let o = work_there origin h g whole w low in let r = rests w o.0 o.1 in (o.0, o.1, r.0, r.1));
    stocks = λ j low. (let o = stock_there origin h g whole j low in let s = (g.manager j o.0 o.1).stock.small in (o.0, o.1, omega (arith, s)));
    ends = λ j low. (let e = at_end j low in let s = small_end origin state k.1 j low in omega (arith, e, s));
    plv = λ j low. (let e = at_plv j low in let s = small_plv origin state k.1 j low in omega (arith, e, s));
    few = few_calls;
  }
