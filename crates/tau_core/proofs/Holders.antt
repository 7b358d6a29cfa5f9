-- Who holds a key in its shard.
use Rattle.std.proofs.Common.{ℕ, ◌≡◌, Bool, true, false, inl, inr, List, [], ◌∷◌, refl, sym, ap, subst, ◌∙◌, Option}
use Rattle.std.specs.Prelude.{None, Some, IsSome, slice_get}
use Rattle.std.specs.Borrow.{Bor}
use Rattle.std.specs.Option.{option_copied}
use Rattle.std.specs.Map.{lookup}
use Rattle.std.proofs.lemmas.Bool.{cases_Bool}
use Rattle.tau_base.specs.Database.{same_key}
use Rattle.tau_base.specs.declared.value.Value.{Value}
use Rattle.tau_base.specs.declared.value.Mode.TheVariants.{Write}
use Rattle.tau_proc.specs.Effect.{has_key}
use Rattle.tau_machine.specs.Good.{InPhase}
use Rattle.tau_machine.specs.State.{hand_of, sight}
use Rattle.tau_txn.specs.Next.{FreesBy}
use Rattle.tau_base.specs.declared.value.Key.{Key}
use Rattle.tau_base.specs.declared.value.Mode.{Mode}
use Rattle.tau_base.specs.Shards.{shard_number}
use Rattle.tau_model.specs.History.{Act}
use Rattle.tau_machine.specs.Hands.{Txn, Hand, Phase, Freeing, mode_of, held_in}
use Rattle.tau_shard.specs.Shard.{Shard, entry_in}
use Rattle.tau_machine.specs.Worker.{Worker}
use Rattle.tau_shard.specs.Plain.{PlainShard}
use Rattle.tau_shard.specs.Read.{shard_of}
use Rattle.tau_txn.specs.Txn.{hand_in}
use Rattle.tau_core.specs.Plain.{PlainSeat}
use Rattle.tau_core.specs.State.{Plain}
use Rattle.tau_core.specs.View.{Hidden, setting_of, shard_in, core_of}
use Rattle.tau_core.specs.Stands.{Stands}
use Rattle.tau_core.proofs.Seats.{worker_of_seat}

-- a value that is lent is one
pub copied_some : {T : Type 0} (o : Option (Bor T)) → IsSome o → IsSome (option_copied o)
copied_some None some = some
copied_some (Some x) some = refl

-- the keys that the call in hand holds are held in their shards
pub holds : (p : Plain) (K : List (Act Txn)) (h : Hidden) → Stands p K h → (w : ℕ) (s : PlainSeat) (hand : Hand) (shard : PlainShard) (key : Key) (m : Mode) →
    slice_get p.seats w ≡ Some s → hand_in p.load.procs s.txn ≡ Some hand → slice_get p.shards (shard_number key) ≡ Some shard → mode_of key hand.held ≡ Some m →
    (entry_in (shard_of shard) key).holders w ≡ Some m
holds p K h g w s hand shard key m is hand_is shard_is held =
    ap (λ (x : Shard). (entry_in x key).holders w) (sym (ap shard_in shard_is)) ∙ g.inv.agrees.good.locks w key
    ∙ ap (λ (x : Worker). held_in x.hand key) (worker_of_seat p h w s s is) ∙ ap (λ (o : Option Hand). held_in o key) hand_is ∙ held

has_looked : (key : Key) (ws : List (Key × Value)) → IsSome (lookup (same_key key) ws) → has_key key ws ≡ true
has_looked key [] e = cc
has_looked key (w ∷ ws) e = elim (cases_Bool (same_key key w.0)) [
  | inl y ↦ rw y refl
  | inr n ↦ let e' = rw n at e in rw n (has_looked key ws e')
]

-- a key that the call wrote is held in write mode
pub writes_held : (p : Plain) (K : List (Act Txn)) (h : Hidden) → Stands p K h → (w : ℕ) (s : PlainSeat) (hand : Hand) (act : Act Txn) (key : Key) (m : Mode) (b : Bool) →
    slice_get p.seats w ≡ Some s → hand_in p.load.procs s.txn ≡ Some hand → FreesBy p.load.procs b s.txn.worker hand act → mode_of key hand.held ≡ Some m →
    IsSome (lookup (same_key key) act.effect.writes) → m ≡ Write
writes_held p K h g w s hand act key m true is hand_is frees held some =
    let shown : hand_of (core_of p h) w ≡ Some hand = ap (λ (x : Worker). x.hand) (worker_of_seat p h w s s is) ∙ hand_is in
    let joined : InPhase p.load.procs p.load.streams K (sight (setting_of p.load) (core_of p h)) w hand (Freeing act) =
    subst (λ (x : Phase). InPhase p.load.procs p.load.streams K (sight (setting_of p.load) (core_of p h)) w hand x) frees (g.inv.agrees.good.good.hands w hand shown) in
    joined.modes key m (has_looked key act.effect.writes some) held
writes_held p K h g w s hand act key m false is hand_is frees held some =
    absurd (let e : act.effect.writes ≡ [] = ap (λ (a : Act Txn). a.effect.writes) frees.is ∙ frees.no_write in
    let bad = subst (λ (l : List (Key × Value)). IsSome (lookup (same_key key) l)) e some in cc)

module _ (p : Plain) (K : List (Act Txn)) (h : Hidden) (g : Stands p K h) (w : ℕ) (s : PlainSeat) (hand : Hand) (shard : PlainShard) (key : Key) (m : Mode)
    (is : slice_get p.seats w ≡ Some s) (hand_is : hand_in p.load.procs s.txn ≡ Some hand) (shard_is : slice_get p.shards (shard_number key) ≡ Some shard) (held : mode_of key hand.held ≡ Some m) where
  pub is_held : IsSome ((entry_in (shard_of shard) key).holders w)
  is_held = subst (λ (x : Option Mode). IsSome x) (sym (holds p K h g w s hand shard key m is hand_is shard_is held)) refl

  pub is_written : (act : Act Txn) (b : Bool) → FreesBy p.load.procs b s.txn.worker hand act → IsSome (lookup (same_key key) act.effect.writes) → (entry_in (shard_of shard) key).holders w ≡ Some Write
  is_written act b frees some = holds p K h g w s hand shard key m is hand_is shard_is held ∙ ap Some (writes_held p K h g w s hand act key m b is hand_is frees held some)
