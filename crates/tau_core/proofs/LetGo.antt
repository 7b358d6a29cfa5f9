-- Calls in hand that hold no key are let go, worker after worker.
use Rattle.std.proofs.Common.{ℕ, zero, suc, ◌+◌, ◌<◌, ◌≤◌, ◌≡◌, inl, inr, List, [], refl, sym, ap, subst, ◌∙◌, Option, arith}
use Rattle.std.specs.Prelude.{Some, None}
use Rattle.std.proofs.Math.Path.{fun_ext}
use Rattle.std.proofs.lemmas.Bool.{cases_eq}
use Rattle.std.proofs.lemmas.Bool.Decides.{leb_tells}
use Rattle.tau_model.specs.History.{Act}
use Rattle.tau_machine.specs.Hands.{Txn, Hand, act_of}
use Rattle.tau_machine.specs.Worker.{Worker}
use Rattle.tau_machine.specs.Invariant.{Invariant}
use Rattle.tau_shard.specs.Shard.{at}
use Rattle.tau_machine.specs.State.{Setting, Core}
use Rattle.tau_shard.proofs.At.{at_same, at_other, at_itself}
use Rattle.tau_machine.proofs.Results.{let_go_theorem}
use Rattle.tau_core.specs.Parts.{idle, all_idle, nobody}

-- the calls in hand hold no key, and have not committed
abbrev pub IsFree : Worker → Type 0
IsFree wk = (h : Hand) → wk.hand ≡ Some h → (act_of h.phase ≡ None) × (h.held ≡ [])

idle_same : (wk : Worker) → wk.hand ≡ None → idle wk ≡ wk
idle_same wk e = λ i. record wk { hand = sym e i }

-- the first so many workers let their calls go
abbrev idle_below : ℕ → (ℕ → Worker) → ℕ → Worker
idle_below zero f = f
idle_below (suc n) f = at n (idle (idle_below n f n)) (idle_below n f)

below_above : (n : ℕ) (f : ℕ → Worker) (u : ℕ) → n ≤ u → idle_below n f u ≡ f u
below_above zero f u le = refl
below_above (suc n) f u le = at_other n (idle (idle_below n f n)) (idle_below n f) u (λ e. omega (arith, e)) ∙ below_above n f u (omega arith)

below_idle : (n : ℕ) (f : ℕ → Worker) (u : ℕ) → u < n → idle_below n f u ≡ idle (f u)
below_idle zero f u lt = absurd (omega arith)
below_idle (suc n) f u lt = elim (cases_eq u n) [
  | inl is ↦ subst (λ (k : ℕ). at n (idle (idle_below n f n)) (idle_below n f) k ≡ idle (f k)) (sym is)
      (at_same n (idle (idle_below n f n)) (idle_below n f) ∙ ap idle (below_above n f n (omega arith)))
  | inr ne ↦ at_other n (idle (idle_below n f n)) (idle_below n f) u ne ∙ below_idle n f u (let a : u ≡ n → ⊥ = ne in omega (arith, a))
]

module _ (set : Setting) (K : List (Act Txn)) (s : Core) where
  one_gone : (f : ℕ → Worker) (w : ℕ) → IsFree (f w) → Invariant set K (record s { workers = f }) → Invariant set K (record s { workers = at w (idle (f w)) f })
  one_gone f w free g = by_case (f w).hand refl
    where
      by_case : (o : Option Hand) → (f w).hand ≡ o → Invariant set K (record s { workers = at w (idle (f w)) f })
      by_case None e = subst (λ (g : ℕ → Worker). Invariant set K (record s { workers = g })) (sym (ap (λ (wk : Worker). at w wk f) (idle_same (f w) e) ∙ at_itself w f)) g
      by_case (Some h) e =
          let q = free h e in
          let_go_theorem set K w (record s { workers = f }) (record s { workers = at w (idle (f w)) f }) g (record { hand = h; is = e; phase = q.0; held = q.1; after = refl })

  below_gone : (n : ℕ) → ((w : ℕ) → IsFree (s.workers w)) → Invariant set K s → Invariant set K (record s { workers = idle_below n s.workers })
  below_gone zero free g = g
  below_gone (suc n) free g =
      one_gone (idle_below n s.workers) n (subst IsFree (sym (below_above n s.workers n (omega arith))) (free n)) (below_gone n free g)

  -- where no others are there, all workers do
  pub all_gone : (n : ℕ) → ((w : ℕ) → n ≤ w → s.workers w ≡ nobody) → ((w : ℕ) → IsFree (s.workers w)) → Invariant set K s → Invariant set K (all_idle s)
  all_gone n none free g =
      let same : idle_below n s.workers ≡ (λ (w : ℕ). idle (s.workers w)) = fun_ext (λ w. elim (leb_tells (w + 1) n) [
        | inl a ↦ below_idle n s.workers w (let h = a.1 in omega arith)
        | inr b ↦
            let high : n ≤ w = (let h = b.1 in omega arith) in
            below_above n s.workers w high ∙ sym (idle_same (s.workers w) (ap (λ (wk : Worker). wk.hand) (none w high)))
      ]) in
      subst (λ (f : ℕ → Worker). Invariant set K (record s { workers = f })) same (below_gone n free g)
