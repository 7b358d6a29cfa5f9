-- The floor of an opening: all vectors that a state shows stay above it.
use Rattle.std.specs.Prelude.{ℕ, ◌≡◌, true, Some, None, List, [], ◌++◌}
use Rattle.tau_base.specs.declared.value.Key.{Key}
use Rattle.tau_base.specs.declared.value.Mode.{Mode}
use Rattle.tau_base.specs.Vectors.{AtMost}
use Rattle.tau_model.specs.History.{Act, Member, updates}
use Rattle.tau_machine.specs.Hands.{Txn, Hand, act_of, mode_of}
use Rattle.tau_shard.specs.Shard.{Entry}
use Rattle.tau_machine.specs.State.{Setting, Core, shard_at}
use Rattle.tau_machine.specs.Events.{Event, Leads}
use Rattle.tau_machine.specs.Runs.{IsOpening}

module _ (set : Setting) where
  -- each vector that the state shows covers `low`: of the shards that keys have the floors and both vectors of each lock entry, the dep of a call that holds a key and
  -- has not committed, and that of a committed call that writes
  pub record Above (low : List ℕ) (K : List (Act Txn)) (s : Core) : Type 0 where
    pub floors : (x : Key) → AtMost low (shard_at set s x).floor
    pub entries : (x y : Key) (e : Entry) → (shard_at set s x).entries y ≡ Some e → AtMost low e.write_lv × AtMost low e.read_lv
    pub hands : (w : ℕ) (h : Hand) (x : Key) (m : Mode) → (s.workers w).hand ≡ Some h → act_of h.phase ≡ None → mode_of x h.held ≡ Some m → AtMost low h.dep
    pub deps : (t : Act Txn) → Member t K → updates t.effect ≡ true → AtMost low t.call.place.dep

-- an opening whose floors cover `low` is above it, and each event keeps that, where the calls that commit by it join the commit order
abbrev pub AboveTheorem : Type 0
AboveTheorem = (set : Setting) (low : List ℕ) →
    ((s : Core) → IsOpening set s → ((x : Key) → AtMost low (shard_at set s x).floor) → Above set low [] s) ×
    ((K new : List (Act Txn)) (e : Event) (s s' : Core) → Above set low K s → Leads set e s s' new → Above set low (K ++ new) s')
