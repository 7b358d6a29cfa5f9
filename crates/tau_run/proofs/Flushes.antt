-- What the calls of a flush have made of a disk.
use Rattle.std.proofs.Common.{ℕ, ◌<◌, ◌≡◌, ◌⊎◌, inl, inr, true, false, subst, arith}
use Rattle.std.specs.Prelude.{Result, Ok, Err, OnOk, OnErr}
use Rattle.tau_disk.specs.Plan.{HasMade, MadeAll, MadeSome}
use Rattle.tau_disk.specs.Used.{GoesOn}
use Rattle.tau_disk.specs.declared.disk.Disk.{Ghosts}
use Rattle.tau_stream.specs.declared.flush.Flush.{Flush}

module _ {D T : Type 0} (G : Ghosts D) (old new : D) where
  abbrev FlushMade : Result T Flush → Type 0
  FlushMade r = HasMade 4 (G.number old) (G.number new) (G.fails old) (G.fails new) (G.short old) (G.short new) r

  pub made_goes : (x : T) (r : Result T Flush) → r ≡ Ok x → FlushMade r → GoesOn G.number G.fails old new
  made_goes x r e m =
      let all : MadeAll 4 (G.number old) (G.number new) (G.fails old) (G.short old) (G.short new) = subst (λ (o : Result T Flush). OnOk o (MadeAll 4 (G.number old) (G.number new) (G.fails old) (G.short old) (G.short new))) e m.ok in
      let count = all.0 in
      record { same = m.same; later = omega arith; clean = λ k low high. all.2 k low (omega arith) }

  pub made_stops : (x : Flush) (r : Result T Flush) → r ≡ Err x → FlushMade r → (G.short new ≡ true) ⊎ ((G.number old < G.number new) × (G.fails old (G.number new) ≡ true) × ((k : ℕ) → G.number old < k → k < G.number new → G.fails old k ≡ false))
  made_stops x r e m =
      let some : MadeSome 4 (G.number old) (G.number new) (G.fails old) (G.short new) = subst (λ (o : Result T Flush). OnErr o (MadeSome 4 (G.number old) (G.number new) (G.fails old) (G.short new))) e m.failed in
      elim some [ inl (low, high, fails, before) ↦ inr (low, fails, before) | inr short ↦ inl short ]
