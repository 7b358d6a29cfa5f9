-- A worker frees a key.
use Rattle.std.proofs.Common.{◌≡◌, ℕ, true, inl, inr, List, [], ◌∷◌, Option, refl, sym, ap, ◌∙◌, subst}
use Rattle.std.specs.Prelude.{Some, None, IsSome}
use Rattle.std.specs.Borrow.{Bor}
use Rattle.std.specs.Option.{option_copied}
use Rattle.std.specs.Map.{lookup}
use Rattle.tau_base.specs.declared.value.Key.{Key}
use Rattle.tau_base.specs.declared.value.Value.{Value}
use Rattle.tau_base.specs.declared.value.Mode.{Mode}
use Rattle.tau_base.specs.declared.value.Mode.TheVariants.{Write}
use Rattle.tau_base.specs.Database.{same_key}
use Rattle.tau_base.specs.Shards.{shard_number}
use Rattle.tau_proc.specs.Effect.{has_key}
use Rattle.tau_model.specs.History.{Act, Numbered}
use Rattle.tau_machine.specs.Hands.{Txn, Hand, Phase, Running, Freeing, mode_of, lv_of, held_in}
use Rattle.tau_machine.specs.Good.{InPhase}
use Rattle.tau_machine.specs.State.{sight}
use Rattle.std.proofs.lemmas.Bool.{cases_Bool}
use Rattle.tau_shard.specs.Shard.{Shard, entry_in, shard_freed}
use Rattle.tau_machine.specs.Worker.{Worker, begun, begun_by, fresh, hand_freed, hand_joined}
use Rattle.tau_machine.specs.Events.{Free}
use Rattle.tau_txn.specs.Next as txn
use Rattle.tau_txn.specs.Txn.{PlainTxn, hand_in, worker_of}
use Rattle.tau_core.specs.State.{Plain}
use Rattle.tau_core.specs.View.{setting_of}
use Rattle.tau_occ.specs.declared.style.Style.{Style}
use Rattle.tau_rule.specs.Steps.{Sat, Agrees, IsReady, StepsShard, next_worker, shard_in}
use Rattle.tau_rule.specs.declared.part.Part.{Part}
use Rattle.tau_rule.proofs.Turns.{part_shard, reached_invariant, share_worker, one_role}
use Rattle.tau_rule.proofs.Workers.{frees, worker_shown}
use Rattle.tau_txn.specs.declared.action.Action.{Action}
use Rattle.tau_txn.specs.declared.action.Action.TheVariants as action
use Rattle.tau_txn.specs.declared.action.ActionKind.TheVariants as kind
use Rattle.tau_txn.specs.Narrow.{free_at}
use Rattle.tau_txn.specs.Next.{kind_of}

-- an action that asks for no such thing is not a key to free
pub no_free : (a : Action) (o : Option Key) → o ≡ free_at a → ((l : Key) → o ≡ Some l → ⊥) → kind_of a ≡ kind.Free → ⊥
no_free (action.Lock x m) o asked none e = cc
no_free (action.Quit x) o asked none e = cc
no_free (action.Commit size) o asked none e = cc
no_free action.Post o asked none e = cc
no_free (action.Free x write) o asked none e = none x asked
no_free (action.Done reply lv) o asked none e = cc
no_free action.LeftOver o asked none e = cc
no_free action.Nothing o asked none e = cc

-- a call that has joined is in hand already
pub was_begun : (n : ℕ) (wk : Worker) (h : Hand) (act : Act Txn) → (begun n wk).hand ≡ Some h → h.phase ≡ Freeing act → (wk.hand ≡ Some h) × (begun n wk ≡ wk)
was_begun n wk h act e phase = by_case wk.hand wk.waiting refl refl
  where
    not_fresh : (c : Numbered) → Some (fresh n c 0) ≡ Some h → ⊥
    not_fresh c f = (let g : fresh n c 0 ≡ h = cc in let bad : Running ≡ Freeing act = ap (λ (x : Hand). x.phase) g ∙ phase in cc)

    by_case : (o : Option Hand) (cs : List Numbered) → wk.hand ≡ o → wk.waiting ≡ cs → (wk.hand ≡ Some h) × (begun n wk ≡ wk)
    by_case (Some x) cs a b = (let same : begun n wk ≡ wk = ap (λ (o : Option Hand). begun_by n wk o wk.waiting) a in (ap (λ (y : Worker). y.hand) (sym same) ∙ e, same))
    by_case None [] a b = (let same : begun n wk ≡ wk = (λ i. begun_by n wk (a i) (b i)) in (ap (λ (y : Worker). y.hand) (sym same) ∙ e, same))
    by_case None (c ∷ cs) a b = absurd (not_fresh c (sym (λ i. (begun_by n wk (a i) (b i)).hand) ∙ e))

has_looked : (x : Key) (ws : List (Key × Value)) (v : Value) → lookup (same_key x) ws ≡ Some v → has_key x ws ≡ true
has_looked x [] v e = cc
has_looked x (w ∷ ws) v e = elim (cases_Bool (same_key x w.0)) [
  | inl f ↦ rw f refl
  | inr f ↦ (let g : lookup (same_key x) ws ≡ Some v = (rw f at e) in rw f (has_looked x ws v g))
]

-- what the shard holds of a key that the call in hand holds
pub taken_held : (origin : Plain) (m : Sat) (t : PlainTxn) (w k : ℕ) (p : Part) (sh : Shard) (r : IsReady origin w m t) (h : Hand) (x : Key) → r.worker.hand ≡ Some h → Agrees origin m.0 k p → shard_in p ≡ Some sh → k ≡ shard_number x → (entry_in sh x).holders w ≡ mode_of x h.held
taken_held origin m t w k p sh r h x is a was number =
    let run = a.meets.reached in
    let inv = reached_invariant origin a.state.core run in
    let mine = share_worker origin w r.role.share r.worker a.state r.share (a.roles w r.role (one_role m.0 w r.role r.seat.roles)).0 in
    let here : sh ≡ a.state.core.shards (shard_number x) = sym (part_shard origin a.state k p sh was a.part).1 ∙ ap a.state.core.shards number in
    ap (λ (s : Shard). (entry_in s x).holders w) here ∙ inv.agrees.good.locks w x ∙ ap (λ (o : Option Hand). held_in o x) (ap (λ (y : Worker). y.hand) mine.1 ∙ is)

-- what it writes it holds in write mode
pub taken_written : (origin : Plain) (m : Sat) (t : PlainTxn) (w k : ℕ) (p : Part) (r : IsReady origin w m t) (h : Hand) (act : Act Txn) (x : Key) (mode : Mode) (v : Value) → r.worker.hand ≡ Some h → h.phase ≡ Freeing act → Agrees origin m.0 k p → mode_of x h.held ≡ Some mode →
    lookup (same_key x) act.effect.writes ≡ Some v → mode ≡ Write
taken_written origin m t w k p r h act x mode v is phase a held write =
    let run = a.meets.reached in
    let inv = reached_invariant origin a.state.core run in
    let mine = share_worker origin w r.role.share r.worker a.state r.share (a.roles w r.role (one_role m.0 w r.role r.seat.roles)).0 in
    let good = inv.agrees.good.good.hands w h (ap (λ (y : Worker). y.hand) mine.1 ∙ is) in
    let joined = subst (λ (q : Phase). InPhase origin.load.procs origin.load.streams run.joined (sight (setting_of origin.load) a.state.core) w h q) phase good in
    joined.modes x mode (has_looked x act.effect.writes v write) held

pub freed_steps : (origin : Plain) {style : Style} (w k : ℕ) (wk : Worker) (sh sh' : Shard) (t t' : PlainTxn) (key : Key) (mode : Mode) (act : Act Txn) (h : Hand) → wk.hand ≡ Some h → begun origin.load.streams wk ≡ wk → k ≡ shard_number key → h.phase ≡ Freeing act → mode_of key h.held ≡ Some mode → txn.IsLowest key h.held →
    sh' ≡ shard_freed sh w key (lv_of act) (lookup (same_key key) act.effect.writes) → hand_in origin.load.procs t' ≡ Some (hand_freed (hand_joined h (Freeing act) h.dep) key) → StepsShard origin style (Free w) w wk (next_worker origin.load wk t') k sh sh'
freed_steps origin w k wk sh sh' t t' key mode act h is same number phase held lowest shard shown =
    frees origin w k wk (next_worker origin.load wk t') sh sh' h key mode act is number phase held lowest
    (ap (λ (y : Worker). worker_of origin.load.procs y t') same ∙ worker_shown origin.load.procs wk t' _ shown ∙ (λ i. record wk { hand = Some (hand_freed (record h { phase = sym phase i }) key) }))
    shard

pub written_some : (o : Option Value) → IsSome o → (v : Value) × (o ≡ Some v)
written_some (Some v) some = (v, refl)
written_some None some = cc

-- a value that is lent is one
pub copied_some : {T : Type 0} (o : Option (Bor T)) → IsSome o → IsSome (option_copied o)
copied_some None some = some
copied_some (Some x) some = refl
