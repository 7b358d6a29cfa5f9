-- The events of a worker on a shard, from what the shard and the call in hand say.
use Rattle.std.proofs.Common.{◌≡◌, inl, inr, ℕ, List, [], Option, refl, sym, ap, ◌∙◌, subst}
use Rattle.std.specs.Prelude.{Some, None}
use Rattle.std.specs.Map.{lookup}
use Rattle.tau_base.specs.declared.value.Key.{Key}
use Rattle.tau_base.specs.declared.value.Mode.{Mode}
use Rattle.tau_base.specs.declared.value.Mode.TheVariants.{Read}
use Rattle.tau_base.specs.Database.{same_key}
use Rattle.tau_base.specs.Shards.{shard_number}
use Rattle.tau_proc.specs.declared.proc.Proc.{Proc}
use Rattle.tau_model.specs.History.{Act}
use Rattle.tau_machine.specs.Hands.{Txn, Hand, Running, Freeing, mode_of, lv_of}
use Rattle.tau_shard.specs.Shard.{Shard, entry_in, shard_locked, shard_freed}
use Rattle.tau_machine.specs.Worker.{Worker, begun, hand_locked, hand_busy, settled, hand_freed}
use Rattle.tau_machine.specs.State.{Core}
use Rattle.tau_machine.specs.Waits.{IsBarred}
use Rattle.tau_machine.specs.Events.{Lock, Busy, Free, Conflicts, lock_next, with_worker, with_shard}
use Rattle.tau_shard.proofs.At.{at_itself}
use Rattle.tau_txn.specs.declared.standing.Standing.{Standing}
use Rattle.tau_txn.specs.declared.standing.Standing.TheVariants as standing
use Rattle.tau_txn.specs.Hand.{PlainHand}
use Rattle.tau_txn.specs.Steps.{worker_by}
use Rattle.tau_txn.specs.Next.{IsLowest}
use Rattle.tau_txn.specs.Txn.{PlainTxn, shown, shown_of, hand_in, worker_of, worker_in}
use Rattle.tau_core.specs.State.{Plain}
use Rattle.tau_core.specs.View.{setting_of}
use Rattle.tau_occ.specs.declared.style.Style.{Style}
use Rattle.tau_occ.specs.declared.style.Style.TheVariants.{Locking, Optimistic}
use Rattle.tau_rule.specs.Holders.{IsBusyIn}
use Rattle.tau_rule.specs.Steps.{StepsShard}

-- these four stand in tau_core's lemmas too

-- a call that is in hand is the worker's
pub worker_shown : (procs : List Proc) (wk : Worker) (t : PlainTxn) (h : Hand) → hand_in procs t ≡ Some h → worker_of procs wk t ≡ record wk { hand = Some h }
worker_shown procs wk t h e = by_case t.hand e
  where
    at : (st : Standing) (x : PlainHand) → shown procs t.worker st x ≡ Some h → worker_by procs t.worker wk st x ≡ record wk { hand = Some h }
    at standing.Running x f = ap (λ (y : Option Hand). record wk { hand = y }) f
    at standing.Quitting x f = ap (λ (y : Option Hand). record wk { hand = y }) f
    at standing.Placed x f = ap (λ (y : Option Hand). record wk { hand = y }) f
    at standing.Freeing x f = ap (λ (y : Option Hand). record wk { hand = y }) f
    at standing.LeftOver x f = cc

    by_case : (o : Option PlainHand) → shown_of procs t.worker o ≡ Some h → worker_in procs t.worker wk o ≡ record wk { hand = Some h }
    by_case None f = cc
    by_case (Some x) f = at x.standing x f

module _ (origin : Plain) (w k : ℕ) (wk : Worker) (sh : Shard) (hand : Hand) (key : Key) (mode : Mode) (is : (begun origin.load.streams wk).hand ≡ Some hand) (number : k ≡ shard_number key) where
  module _ (phase : hand.phase ≡ Running) (next : lock_next (setting_of origin.load) hand ≡ Some (key, mode)) where
    pub locks : {style : Style} (wk' : Worker) (sh' : Shard) → (Conflicts (setting_of origin.load) sh w key mode → ⊥) → wk' ≡ record (begun origin.load.streams wk) { hand = Some (hand_locked hand key mode (sh.rows key) (entry_in sh key).write_lv (entry_in sh key).read_lv) } →
        sh' ≡ shard_locked sh w key mode → StepsShard origin style (Lock w) w wk wk' k sh sh'
    locks wk' sh' free worker shard s r at_worker at_shard =
        let here : sh ≡ s.shards (shard_number key) = sym at_shard ∙ ap s.shards number in (
          [],
          (
            record {
              hand = hand;
              key = key;
              mode = mode;
              is = ap (λ (x : Worker). (begun origin.load.streams x).hand) at_worker ∙ is;
              phase = phase;
              next = next;
              free = λ c. free (subst (λ (x : Shard). Conflicts (setting_of origin.load) x w key mode) (sym here) c);
              after = (λ i. with_shard (with_worker s w (worker i)) (number i) (shard i))
                  ∙ (λ i. with_shard (with_worker s w (record (begun origin.load.streams (sym at_worker i)) { hand = Some (hand_locked hand key mode ((here i).rows key) (entry_in (here i) key).write_lv (entry_in (here i) key).read_lv) }))
                  (shard_number key) (shard_locked (here i) w key mode));
            },
            refl,
          ),
          tt,
        )

    -- a worker is Busy, with a cause
    turns_away : {style : Style} (wk' : Worker) → ((s : Core) → s.workers w ≡ wk → s.shards k ≡ sh → IsBusyIn (setting_of origin.load) style w s) → wk' ≡ settled origin.load.streams (begun origin.load.streams wk) (hand_busy hand) → StepsShard origin style (Busy w) w wk wk' k sh sh
    turns_away wk' cause worker s r at_worker at_shard = (
      [],
      (
        record {
          hand = hand;
          key = key;
          mode = mode;
          is = ap (λ (x : Worker). (begun origin.load.streams x).hand) at_worker ∙ is;
          phase = phase;
          next = next;
          after = (λ i. with_shard (with_worker s w (worker i)) k (sym at_shard i))
              ∙ ap (λ (f : ℕ → Shard). record (with_worker s w (settled origin.load.streams (begun origin.load.streams wk) (hand_busy hand))) { shards = f }) (at_itself k s.shards)
              ∙ (λ i. with_worker s w (settled origin.load.streams (begun origin.load.streams (sym at_worker i)) (hand_busy hand)));
        },
        refl,
      ),
      cause s at_worker at_shard,
    )

    -- another one holds the key
    pub refuses : {style : Style} (wk' : Worker) → Conflicts (setting_of origin.load) sh w key mode → wk' ≡ settled origin.load.streams (begun origin.load.streams wk) (hand_busy hand) → StepsShard origin style (Busy w) w wk wk' k sh sh
    refuses {style} wk' held = turns_away {style = style} wk' (λ s at_worker at_shard. in_either style s (record {
      hand = hand;
      key = key;
      mode = mode;
      is = ap (λ (x : Worker). (begun origin.load.streams x).hand) at_worker ∙ is;
      next = next;
      held = subst (λ (x : Shard). Conflicts (setting_of origin.load) x w key mode) (sym at_shard ∙ ap s.shards number) held;
    }))
      where
        in_either : (style : Style) (s : Core) → IsBarred (setting_of origin.load) w s → IsBusyIn (setting_of origin.load) style w s
        in_either Locking s barred = barred
        in_either Optimistic s barred = inl barred

    -- the key is to be read
    pub refuses_read : (wk' : Worker) → mode ≡ Read → wk' ≡ settled origin.load.streams (begun origin.load.streams wk) (hand_busy hand) → StepsShard origin Optimistic (Busy w) w wk wk' k sh sh
    refuses_read wk' reads = turns_away {style = Optimistic} wk' (λ s at_worker at_shard. inr (record {
      hand = hand;
      key = key;
      is = ap (λ (x : Worker). (begun origin.load.streams x).hand) at_worker ∙ is;
      next = next ∙ ap (λ (m : Mode). Some (key, m)) reads;
    }))

-- a key of a call that has joined is freed
pub frees : (origin : Plain) {style : Style} (w k : ℕ) (wk wk' : Worker) (sh sh' : Shard) (hand : Hand) (key : Key) (mode : Mode) (act : Act Txn) → wk.hand ≡ Some hand → k ≡ shard_number key → hand.phase ≡ Freeing act → mode_of key hand.held ≡ Some mode → IsLowest key hand.held →
    wk' ≡ record wk { hand = Some (hand_freed hand key) } → sh' ≡ shard_freed sh w key (lv_of act) (lookup (same_key key) act.effect.writes) → StepsShard origin style (Free w) w wk wk' k sh sh'
frees origin w k wk wk' sh sh' hand key mode act is number phase held lowest worker shard s r at_worker at_shard =
    let here : sh ≡ s.shards (shard_number key) = sym at_shard ∙ ap s.shards number in (
      [],
      (
        record {
          hand = hand;
          act = act;
          key = key;
          mode = mode;
          is = ap (λ (x : Worker). x.hand) at_worker ∙ is;
          phase = phase;
          held = held;
          lowest = lowest;
          after = (λ i. with_shard (with_worker s w (worker i)) (number i) (shard i))
              ∙ (λ i. with_shard (with_worker s w (record (sym at_worker i) { hand = Some (hand_freed hand key) })) (shard_number key) (shard_freed (here i) w key (lv_of act) (lookup (same_key key) act.effect.writes)));
        },
        refl,
      ),
      tt,
    )
