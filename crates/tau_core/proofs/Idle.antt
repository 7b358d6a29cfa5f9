-- Where all that was placed is gathered, nothing that is posted may be gathered.
use Rattle.std.proofs.Common.{ℕ, ◌<◌, ◌≡◌, inl, inr, List, [], ◌∷◌, length, refl, arith}
use Rattle.std.specs.Prelude.{slice_index}
use Rattle.tau_model.specs.History.{Member}
use Rattle.tau_machine.specs.State.{Item, start_of}
use Rattle.tau_machine.specs.Pieces.{PostedAt}
use Rattle.tau_machine.proofs.Pieces.{chain_member}
use Rattle.tau_outbox.specs.declared.Piece.{Piece}
use Rattle.tau_outbox.specs.Gather.{Stops}
use Rattle.tau_core.specs.declared.state.Load.{Load}
use Rattle.tau_core.specs.State.{Plain}
use Rattle.tau_core.specs.View.{setting_of, core_of}
use Rattle.tau_core.specs.Stands.{Stood, anchors_at}
use Rattle.tau_core.specs.Pieces.{IsPieceOf, Paired}
use Rattle.tau_core.specs.Gather.{AllGathered}

-- pieces that all start below a position do not continue it
front_below : (l : Load) (anchors : ℕ → List (List ℕ)) (next used : ℕ) (pieces : List Piece) (items : List Item) → Paired (IsPieceOf l anchors) pieces items →
    ((i : Item) → Member i items → start_of i < next) → Stops next used pieces
front_below l anchors next used [] items q low = tt
front_below l anchors next used (x ∷ xs) [] q low = absurd q
front_below l anchors next used (x ∷ xs) (i ∷ is) q low = λ e fits. (let a = q.0.start in let b = low i (inl refl) in omega arith)

pub idle_gathered : (p : Plain) → Stood p → (j : ℕ) → j < p.load.streams → slice_index p.gathered j ≡ slice_index p.ends j → AllGathered j p
idle_gathered p g j there same = record {
  own = λ s e t f. front_below p.load (anchors_at p) (slice_index p.gathered j) (length t.body) s.own.pieces (g.1.own j) (g.2.own j s e) (λ i m. below i (inr m));
  posted = λ w s whose e t f. front_below p.load (anchors_at p) (slice_index p.gathered j) (length t.body) s.outbox.pieces (g.1.posted w) (g.2.posted w s e) (λ i m. below i (inl (w, whose, m)));
}
  where
    below : (i : Item) → PostedAt (setting_of p.load) (core_of p g.1) j i → start_of i < slice_index p.gathered j
    below i at =
        let o = g.2.inv.agrees.pieces.stream j there in
        let q = chain_member (slice_index p.gathered j) (slice_index p.ends j) o.waiting i o.rest (o.posted i at) in
        let rises = q.1 in
        let ends = q.2 in
        omega arith
