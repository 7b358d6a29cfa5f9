-- A worker gives a key back after a Busy, or as its call is given up.
use Rattle.std.proofs.Common.{◌≡◌, ◌⊎◌, ℕ, Bool, true, inl, inr, List, [], ◌∷◌, Option, refl, sym, ap, ◌∙◌}
use Rattle.std.specs.Prelude.{Some, None, ◌||◌}
use Rattle.tau_base.specs.declared.value.Key.{Key}
use Rattle.tau_base.specs.declared.value.Mode.{Mode}
use Rattle.tau_base.specs.Shards.{shard_number}
use Rattle.tau_model.specs.History.{Numbered}
use Rattle.tau_machine.specs.Hands.{Hand, Running, Quitting, mode_of}
use Rattle.tau_shard.specs.Shard.{Shard, shard_quit}
use Rattle.tau_machine.specs.Worker.{Worker, begun, begun_by, fresh, hand_quit, settled}
use Rattle.tau_machine.specs.Events.{Quit, with_shard, with_worker}
use Rattle.tau_txn.specs.Next as txn
use Rattle.tau_txn.specs.Txn.{PlainTxn, leaves_in, worker_of}
use Rattle.tau_core.specs.State.{Plain}
use Rattle.tau_occ.specs.declared.style.Style.{Style}
use Rattle.tau_rule.specs.Steps.{StepsShard, next_worker}
use Rattle.tau_txn.specs.declared.action.Action.{Action}
use Rattle.tau_txn.specs.declared.action.Action.TheVariants as action
use Rattle.tau_txn.specs.declared.action.ActionKind.TheVariants as kind
use Rattle.tau_txn.specs.Narrow.{quit_at}
use Rattle.tau_txn.specs.Next.{kind_of}
use Rattle.tau_base.proofs.Logic.{or_true}

-- an action that asks for no such thing is not a key to give back
pub no_quit : (a : Action) (o : Option Key) → o ≡ quit_at a → ((l : Key) → o ≡ Some l → ⊥) → kind_of a ≡ kind.Quit → ⊥
no_quit (action.Lock x m) o asked none e = cc
no_quit (action.Quit x) o asked none e = none x asked
no_quit (action.Commit size) o asked none e = cc
no_quit action.Post o asked none e = cc
no_quit (action.Free x write) o asked none e = cc
no_quit (action.Done reply lv) o asked none e = cc
no_quit action.LeftOver o asked none e = cc
no_quit action.Nothing o asked none e = cc

-- a call that holds a key is in hand already
pub was_holding : (n : ℕ) (wk : Worker) (h : Hand) (x : Key) (mode : Mode) → (begun n wk).hand ≡ Some h → mode_of x h.held ≡ Some mode → (wk.hand ≡ Some h) × (begun n wk ≡ wk)
was_holding n wk h x mode e holds = by_case wk.hand wk.waiting refl refl
  where
    not_fresh : (c : Numbered) → Some (fresh n c 0) ≡ Some h → ⊥
    not_fresh c f = (let g : fresh n c 0 ≡ h = cc in let bad : None ≡ Some mode = ap (λ (y : Hand). mode_of x y.held) g ∙ holds in cc)

    by_case : (o : Option Hand) (cs : List Numbered) → wk.hand ≡ o → wk.waiting ≡ cs → (wk.hand ≡ Some h) × (begun n wk ≡ wk)
    by_case (Some y) cs a b = (let same : begun n wk ≡ wk = ap (λ (o : Option Hand). begun_by n wk o wk.waiting) a in (ap (λ (z : Worker). z.hand) (sym same) ∙ e, same))
    by_case None [] a b = (let same : begun n wk ≡ wk = (λ i. begun_by n wk (a i) (b i)) in (ap (λ (z : Worker). z.hand) (sym same) ∙ e, same))
    by_case None (c ∷ cs) a b = absurd (not_fresh c (sym (λ i. (begun_by n wk (a i) (b i)).hand) ∙ e))

pub quit_steps : (origin : Plain) {style : Style} (w k : ℕ) (wk : Worker) (sh sh' : Shard) (t t' : PlainTxn) (key : Key) (q : txn.Quits origin.load.procs t key) → wk.hand ≡ Some q.hand → begun origin.load.streams wk ≡ wk → k ≡ shard_number key → t.width ≡ origin.load.streams →
    sh' ≡ shard_quit sh w key → ((x : Worker) → worker_of origin.load.procs x t' ≡ settled t.width x (hand_quit q.hand key (leaves_in t))) → StepsShard origin style (Quit w (leaves_in t)) w wk (next_worker origin.load wk t') k sh sh'
quit_steps origin w k wk sh sh' t t' key q is same number width shard settles s r at_worker at_shard =
    let up : Bool = leaves_in t in
    let here : sh ≡ s.shards (shard_number key) = sym at_shard ∙ ap s.shards number in
    let worker : next_worker origin.load wk t' ≡ settled origin.load.streams wk (hand_quit q.hand key up) =
    ap (λ (x : Worker). worker_of origin.load.procs x t') same ∙ settles wk ∙ ap (λ (n : ℕ). settled n wk (hand_quit q.hand key up)) width in
    let phase : (q.hand.phase ≡ Quitting) ⊎ ((q.hand.phase ≡ Running) × ((q.hand.given_up || up) ≡ true)) = elim q.phase [
      | inl a ↦ inl a
      | inr b ↦ inr (b.0, or_true q.hand.given_up up b.1)
    ] in (
      [],
      (
        record {
          hand = q.hand;
          key = key;
          mode = q.mode;
          is = ap (λ (x : Worker). x.hand) at_worker ∙ is;
          phase = phase;
          held = q.held;
          after = (λ i. with_shard (with_worker s w (worker i)) (number i) (shard i))
              ∙ (λ i. with_shard (with_worker s w (settled origin.load.streams (sym at_worker i) (hand_quit q.hand key up))) (shard_number key) (shard_quit (here i) w key));
        },
        refl,
      ),
      tt,
    )
