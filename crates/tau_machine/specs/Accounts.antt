-- Each call is somewhere once, and each committed one is pending or acknowledged once it has ended.
use Rattle.std.specs.Prelude.{ℕ, ◌+◌, ◌≤◌, ◌==◌, ◌≡◌, if◌then◌else◌, Option, Some, None, List, [], ◌∷◌, ◌++◌, map}
use Rattle.tau_model.specs.History.{Numbered, Act, Reordered}
use Rattle.tau_machine.specs.Hands.{Txn, committed_of, Phase, Running, Quitting, Placed, Freeing, Hand, act_in}
use Rattle.tau_model.specs.declared.committed.Committed.{Committed}
use Rattle.tau_machine.specs.Worker.{Worker}
use Rattle.tau_machine.specs.State.{Setting, Ticket, Core, ticket_of}

-- how often the number stands among these calls
abbrev pub one : ℕ → ℕ → ℕ
one n m = if n == m then 1 else 0

abbrev pub in_calls : ℕ → List Numbered → ℕ
in_calls n [] = 0
in_calls n (c ∷ cs) = one n c.number + in_calls n cs

abbrev pub in_committed : ℕ → List Committed → ℕ
in_committed n [] = 0
in_committed n (c ∷ cs) = one n c.number + in_committed n cs

-- a call in hand that has committed stands among the committed ones
abbrev pub in_phase : ℕ → ℕ → Phase → ℕ
in_phase n m Running = one n m
in_phase n m Quitting = one n m
in_phase n m (Placed t) = 0
in_phase n m (Freeing t) = 0

abbrev pub in_hand : ℕ → Option Hand → ℕ
in_hand n None = 0
in_hand n (Some h) = in_phase n h.call.number h.phase

abbrev pub in_worker : ℕ → Worker → ℕ
in_worker n wk = in_calls n wk.waiting + in_hand n wk.hand + in_calls n wk.left + in_committed n wk.committed

abbrev pub joined_list : Option (Act Txn) → List Committed
joined_list None = []
joined_list (Some t) = committed_of t ∷ []

module _ (set : Setting) where
  pub record Account (w : ℕ) (wk : Worker) (pending acked : List Ticket) : Type 0 where
    pub once : (n : ℕ) → in_worker n wk ≤ 1
    pub whose : (n : ℕ) → 1 ≤ in_worker n wk → set.worker_of n ≡ w
    -- the committed calls that have ended are pending or acknowledged, each once
    pub ended : List Committed
    pub committed : wk.committed ≡ ended ++ joined_list (act_in wk.hand)
    pub tickets : Reordered (map ticket_of ended) (pending ++ acked)

  abbrev pub Accounts : Core → Type 0
  Accounts s = (w : ℕ) → Account w (s.workers w) (s.outboxes w).pending (s.acked w)
