-- What a state is made of: each call is the one that has its number, and no vector has more positions than there are streams.
use Rattle.std.specs.Prelude.{ℕ, ◌≤◌, ◌≡◌, Some, List, length}
use Rattle.tau_base.specs.declared.value.Key.{Key}
use Rattle.tau_model.specs.History.{Numbered, Act, Member}
use Rattle.tau_machine.specs.Hands.{Txn, Hand}
use Rattle.tau_shard.specs.Shard.{Entry, Shard}
use Rattle.tau_machine.specs.Worker.{Worker}
use Rattle.tau_machine.specs.State.{Setting, Core}

module _ (set : Setting) where
  -- the call is the one with its number
  abbrev pub IsCall : Numbered → Type 0
  IsCall c = set.call_of c.number ≡ Some c.call

  -- and its dep has a position for each stream
  abbrev pub IsWhole : Numbered → List ℕ → Type 0
  IsWhole c dep = IsCall c × (length dep ≡ set.width)

  pub record WorkerShape (wk : Worker) : Type 0 where
    pub waiting : (c : Numbered) → Member c wk.waiting → IsCall c
    pub left : (c : Numbered) → Member c wk.left → IsCall c
    pub hand : (h : Hand) → wk.hand ≡ Some h → IsWhole h.call h.dep

  pub record ShardShape (sh : Shard) : Type 0 where
    pub floor : length sh.floor ≤ set.width
    pub entries : (x : Key) (e : Entry) → sh.entries x ≡ Some e → (length e.write_lv ≤ set.width) × (length e.read_lv ≤ set.width)

  pub record Shapes (K : List (Act Txn)) (s : Core) : Type 0 where
    pub shards : (i : ℕ) → ShardShape (s.shards i)
    pub workers : (w : ℕ) → WorkerShape (s.workers w)
    pub committed : (t : Act Txn) → Member t K → IsWhole t.call.call t.call.place.dep
    pub anchors : (j : ℕ) (a : List ℕ) → Member a (s.streams j).anchors → length a ≤ set.width
