-- What a seat knows of its own calls holds of the part that it has taken.
use Rattle.std.proofs.Common.{ℕ, ◌≡◌, ◌⊎◌, ◌++◌, Option, sym, ap, subst, ◌∙◌}
use Rattle.std.specs.Prelude.{Some}
use Rattle.tau_base.specs.declared.value.Key.{Key}
use Rattle.tau_base.specs.Shards.{shard_number}
use Rattle.tau_base.specs.Vectors.{AtMost}
use Rattle.tau_machine.specs.Accounts.{joined_list}
use Rattle.tau_machine.specs.Hands.{Hand, Holds, act_in, held_in, lv_of}
use Rattle.tau_machine.specs.State.{hand_of}
use Rattle.tau_shard.specs.Shard.{Shard, entry_in}
use Rattle.tau_machine.specs.Worker.{Worker}
use Rattle.tau_machine.proofs.Results.{committed_theorem, ended_theorem, own_row_theorem, posted_theorem}
use Rattle.tau_core.specs.State.{Plain}
use Rattle.tau_core.specs.View.{setting_of}
use Rattle.tau_rule.specs.Role.{Role, Working}
use Rattle.tau_rule.specs.Knows.{Knows}
use Rattle.tau_rule.specs.Rule.{has}
use Rattle.tau_rule.specs.Steps.{Agrees, shard_in}
use Rattle.tau_rule.specs.declared.part.Part.{Part}
use Rattle.tau_rule.proofs.Turns.{part_shard, reached_invariant, share_worker}
use Rattle.tau_desk.specs.Owns.{OwnCalls, OwnCommitted, OwnKeys, OwnPieces, OwnRows, OwnVectors}

module _ (origin : Plain) (v : Knows) (k : ℕ) (taken : Part) (a : Agrees origin v k taken) where
  worker_is : (w : ℕ) (role : Role) (worker : Worker) → has w v ≡ Some role → role.share ≡ Working worker → a.state.core.workers w ≡ worker
  worker_is w role worker is share = (share_worker origin w role.share worker a.state share (a.roles w role is).0).1

  shard_is_that : (shard : Shard) (x : Key) → shard_in taken ≡ Some shard → k ≡ shard_number x → a.state.core.shards (shard_number x) ≡ shard
  shard_is_that shard x was number = ap a.state.core.shards (sym number) ∙ (part_shard origin a.state k taken shard was a.part).1

pub own_committed_is : OwnCommitted
own_committed_is origin v k taken a w role worker is share =
    ap (λ (y : Worker). y.committed) (sym (worker_is origin v k taken a w role worker is share)) ∙ (committed_theorem (setting_of origin.load) a.meets.reached.joined a.state.core (reached_invariant origin a.state.core a.meets.reached)).2 w

pub own_keys_is : OwnKeys
own_keys_is origin v k taken shard a was w role worker hand is share in_hand x number =
    let inv = reached_invariant origin a.state.core a.meets.reached in
    ap (λ (s : Shard). (entry_in s x).holders w) (sym (shard_is_that origin v k taken a shard x was number)) ∙ inv.agrees.good.locks w x
    ∙ ap (λ (o : Option Hand). held_in o x) (ap (λ (y : Worker). y.hand) (worker_is origin v k taken a w role worker is share) ∙ in_hand)

pub own_vectors_is : OwnVectors
own_vectors_is origin v k taken shard a was t there x number writes =
    let inv = reached_invariant origin a.state.core a.meets.reached in
    let own = (inv.agrees.good.good.keys x).wrote t there writes in
    subst (λ (s : Shard). Holds (hand_of a.state.core) t x ⊎ AtMost (lv_of t) (entry_in s x).write_lv) (shard_is_that origin v k taken a shard x was number) own

pub own_rows_is : OwnRows
own_rows_is origin v k taken shard a was t there x number writes freed low =
    let inv = reached_invariant origin a.state.core a.meets.reached in
    let here = shard_is_that origin v k taken a shard x was number in
    ap (λ (s : Shard). s.rows x) (sym here)
    ∙ own_row_theorem (setting_of origin.load) a.meets.reached.joined a.state.core inv x t there writes freed (subst (λ (s : Shard). AtMost (entry_in s x).write_lv (lv_of t)) (sym here) low)

pub own_pieces_is : OwnPieces
own_pieces_is origin v k taken a t there updates = posted_theorem (setting_of origin.load) a.meets.reached.joined a.state.core (reached_invariant origin a.state.core a.meets.reached) t there updates

pub own_calls_is : OwnCalls
own_calls_is origin v k taken a w role worker is share =
    let end = ended_theorem (setting_of origin.load) a.meets.reached.joined a.state.core (reached_invariant origin a.state.core a.meets.reached) w in
    let same = worker_is origin v k taken a w role worker is share in
    (end.0, ap (λ (y : Worker). y.committed) (sym same) ∙ end.1 ∙ ap (λ (y : Worker). end.0 ++ joined_list (act_in y.hand)) same, end.2)
