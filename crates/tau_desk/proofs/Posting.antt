-- A worker posts the record of its call.
use Rattle.std.proofs.Common.{◌≡◌, ℕ, ◌≤◌, inl, inr, List, [], ◌∷◌, ◌++◌, Option, refl, sym, ap, ◌∙◌, subst}
use Rattle.std.specs.Prelude.{Some, None}
use Rattle.tau_model.specs.History.{Act, Numbered}
use Rattle.tau_machine.specs.Hands.{Txn, Hand, Running, Placed, Freeing}
use Rattle.tau_machine.specs.State.{Record}
use Rattle.tau_machine.specs.Worker.{Worker, begun, begun_by, fresh}
use Rattle.tau_machine.specs.Events.{Event, Post}
use Rattle.tau_outbox.specs.declared.Piece.{Piece}
use Rattle.tau_outbox.specs.Pieces.{end_of}
use Rattle.tau_txn.specs.Txn.{PlainTxn, hand_in, bytes_in, worker_of}
use Rattle.tau_core.specs.State.{Plain}
use Rattle.tau_core.specs.View.{setting_of}
use Rattle.tau_rule.specs.Role.{Role}
use Rattle.tau_core.specs.Pieces.{Names, IsPieceOf}
use Rattle.tau_rule.specs.Knows.{Knows}
use Rattle.tau_rule.specs.Rule.{Now, Sees, anchors_at, outbox_part}
use Rattle.tau_rule.specs.Steps.{Sat, Agrees, IsReady, holding, first_role, next_worker}
use Rattle.tau_rule.specs.Boxes.{BoxOf, box_in, StepsBox, IsToPost}
use Rattle.tau_rule.specs.declared.part.Part.{Part}
use Rattle.tau_rule.proofs.Turns.{one_role, share_worker}
use Rattle.tau_rule.proofs.Workers.{worker_shown}
use Rattle.tau_rule.proofs.Boxes.{part_rooms, posts, posts_behind, part_box}

-- a call that has its place is in hand already
pub was_placed : (n : ℕ) (wk : Worker) (h : Hand) (act : Act Txn) → (begun n wk).hand ≡ Some h → h.phase ≡ Placed act → (wk.hand ≡ Some h) × (begun n wk ≡ wk)
was_placed n wk h act e phase = by_case wk.hand wk.waiting refl refl
  where
    not_fresh : (c : Numbered) → Some (fresh n c 0) ≡ Some h → ⊥
    not_fresh c f = (let g : fresh n c 0 ≡ h = cc in let bad : Running ≡ Placed act = ap (λ (x : Hand). x.phase) g ∙ phase in cc)

    by_case : (o : Option Hand) (cs : List Numbered) → wk.hand ≡ o → wk.waiting ≡ cs → (wk.hand ≡ Some h) × (begun n wk ≡ wk)
    by_case (Some x) cs a b = (let same : begun n wk ≡ wk = ap (λ (o : Option Hand). begun_by n wk o wk.waiting) a in (ap (λ (y : Worker). y.hand) (sym same) ∙ e, same))
    by_case None [] a b = (let same : begun n wk ≡ wk = (λ i. begun_by n wk (a i) (b i)) in (ap (λ (y : Worker). y.hand) (sym same) ∙ e, same))
    by_case None (c ∷ cs) a b = absurd (not_fresh c (sym (λ i. (begun_by n wk (a i) (b i)).hand) ∙ e))

module _ (origin : Plain) (w : ℕ) (m : Sat) (t : PlainTxn) (start : ℕ) (r : IsReady origin w m t) (q : IsToPost origin m t start) where
  pub is_in_hand : (r.worker.hand ≡ Some q.hand) × (begun origin.load.streams r.worker ≡ r.worker)
  is_in_hand = was_placed origin.load.streams r.worker q.hand q.act (r.agrees ∙ q.is) q.phase

  pub post_rooms : (p : Part) (b : BoxOf) (records calls : ℕ) → Agrees origin m.0 (outbox_part w) p → box_in p ≡ Some b → (first_role m.0.roles).1.spare ≡ (records, calls) → (records ≤ b.0.room) × (calls ≤ b.1.room)
  post_rooms p b records calls a is spare =
      let a' : Agrees origin m.0 (outbox_part w) p = a in
      let here = part_rooms origin a'.state w p b is a'.part in
      let mine = a'.roles w r.role (one_role m.0 w r.role r.seat.roles) in
      let same : a'.state.spare w ≡ (records, calls) = mine.2 ∙ sym (ap (λ (rs : List (ℕ × Role)). (first_role rs).1.spare) r.seat.roles) ∙ spare in
      subst (λ (z : ℕ × ℕ). (z.0 ≤ b.0.room) × (z.1 ≤ b.1.room)) same here

  pub post_order : (p : Part) (b : BoxOf) → Agrees origin m.0 (outbox_part w) p → box_in p ≡ Some b → end_of 0 b.0.pieces ≤ start
  post_order p b a is =
      let a' : Agrees origin m.0 (outbox_part w) p = a in
      let mine = a'.roles w r.role (one_role m.0 w r.role r.seat.roles) in
      let worker = share_worker origin w r.role.share r.worker a'.state r.share mine.0 in
      subst (λ (n : ℕ). end_of 0 b.0.pieces ≤ n) q.starts (posts_behind origin a'.state w r.worker q.hand q.act b a'.meets worker.1 (part_box origin a'.state w p b is a'.part) is_in_hand.0 q.phase)

  names : (c : Now) → Sees origin c m.0 → Names origin.load q.act.call.place.stream (anchors_at c.core q.act.call.place.stream) q.act.call.anchor q.base
  names c sees = elim q.named [
    | inl none ↦ inl none
    | inr read ↦
        let known = sees.read w r.role r.there (one_role m.0 w r.role r.seat.roles) in
        let stream : (setting_of origin.load).stream_of w ≡ q.act.call.place.stream = sym (q.stream ∙ ap (setting_of origin.load).stream_of r.number) in
        subst (λ (z : ℕ × (ℕ × List ℕ)). Names origin.load z.0 (anchors_at c.core z.0) z.1.0 z.1.1) (λ i. (stream i, (sym read.0 i, sym read.1 i))) known
  ]

  pub post_steps : (t' : PlainTxn) (b b' : BoxOf) (piece : Piece) → hand_in origin.load.procs t' ≡ Some (record q.hand { phase = Freeing q.act }) → piece ≡ record { start = start; bytes = bytes_in t } → b'.0.pieces ≡ b.0.pieces ++ piece ∷ [] → b'.1.calls ≡ b.1.calls →
      StepsBox origin (Post w) m.0 w r.worker (next_worker origin.load r.worker t') b b'
  post_steps t' b b' piece shown is pieces calls =
      posts origin m.0 w r.worker (next_worker origin.load r.worker t') q.hand q.act b b' piece is_in_hand.0 q.phase
      (ap (λ (x : Worker). worker_of origin.load.procs x t') is_in_hand.1 ∙ worker_shown origin.load.procs r.worker t' _ shown)
      pieces calls
      (λ c sees. subst (λ (p : Piece). IsPieceOf origin.load (anchors_at c.core) p (Record q.act)) (sym is) (record {
        start = sym q.starts;
        past = sym q.past;
        bytes = record { base = q.base; named = names c sees; spelled = q.spelled };
      }))

pub steps_holding : (origin : Plain) (e : Event) (v : Knows) (k : ℕ) (p : Part) (w : ℕ) (wk wk' : Worker) (b b' : BoxOf) → StepsBox origin e v w wk wk' b b' → StepsBox origin e (holding k v p) w wk wk' b b'
steps_holding origin e v k p w wk wk' b b' s style c m sees = s style c m (record { opened = sees.opened; wide = sees.wide; low = sees.low; own = sees.own; read = sees.read; found = sees.found })
