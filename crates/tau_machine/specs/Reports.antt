-- The reported history of a state, and what a cut of its streams holds.
use Rattle.std.specs.Prelude.{ℕ, zero, suc, [], ◌++◌, Bool, ◌≡◌, nat_lt, nat_le, ◌&&◌, Some, List, map, slice_index}
use Rattle.tau_base.specs.declared.value.Key.{Key}
use Rattle.tau_base.specs.declared.value.Mode.TheVariants.{Write}
use Rattle.tau_base.specs.declared.value.LogMode.{LogMode}
use Rattle.tau_base.specs.Vectors.{covers}
use Rattle.tau_model.specs.Committed.{place_of, has_record}
use Rattle.tau_model.specs.History.{Act}
use Rattle.tau_model.specs.Logged.{Place}
use Rattle.tau_model.specs.Redo.{Content, content}
use Rattle.tau_model.specs.Reported.{reported_of}
use Rattle.tau_machine.specs.Hands.{Txn, committed_of, held_in, act_in}
use Rattle.tau_machine.specs.State.{Core, hand_of}

abbrev pub calls_of : List (Act Txn) → List Txn
calls_of K = map (λ (t : Act Txn). t.call) K

abbrev pub placed_at : Txn → Place
placed_at t = t.place

-- the reported history of these committed calls, in whatever order they are given, where the streams end so
abbrev pub reported : List ℕ → List (Act Txn) → List (Act Txn)
reported ends calls = reported_of (λ t. place_of (committed_of t)) (λ t. has_record (committed_of t)) (λ t. t.call.call.number) ends calls

-- the calls that a cut of the streams holds: the record ends at or below the cut, which covers the dep
abbrev pub held_by : List ℕ → Txn → Bool
held_by cut t = nat_lt 0 t.place.past && nat_le t.place.past (slice_index cut t.place.stream) && covers cut t.place.dep

-- what the record of this call holds
abbrev pub content_of : LogMode → Act Txn → Content
content_of mode t = content mode (record { call = t.call.call; effect = t.effect })

-- no committed call holds the key in write mode
abbrev pub Unheld : Core → Key → Type 0
Unheld s x = (w : ℕ) (t : Act Txn) → act_in (hand_of s w) ≡ Some t → held_in (hand_of s w) x ≡ Some Write → ⊥

-- these lists, one after another
abbrev pub in_turn : {A : Type 0} → ℕ → (ℕ → List A) → List A
in_turn zero f = []
in_turn (suc n) f = f 0 ++ in_turn n (λ j. f (suc j))
