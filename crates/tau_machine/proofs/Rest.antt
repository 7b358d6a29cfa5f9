-- The events of managers and the clerk.
use Rattle.std.proofs.Common.{ℕ, ◌≡◌, inl, inr, List, [], ◌∷◌, ◌++◌, length, refl, sym, ap, subst, ◌∙◌, Option}
use Rattle.std.proofs.Math.Path.{fun_ext}
use Rattle.std.proofs.lemmas.Bool.{cases_eq}
use Rattle.tau_model.specs.History.{Numbered, Act, Member}
use Rattle.tau_base.specs.Vectors.{AtMost}
use Rattle.tau_machine.specs.Hands.{Txn, Hand}
use Rattle.tau_machine.specs.Good.{Good}
use Rattle.tau_shard.specs.Shard.{at}
use Rattle.tau_machine.specs.Worker.{Worker}
use Rattle.tau_machine.specs.State.{Setting, Ticket, Stream, Core, ticket, sight, hand_of}
use Rattle.tau_machine.specs.Invariant.{CoreGood}
use Rattle.tau_machine.specs.Events.{with_worker, with_outbox, with_stream}
use Rattle.tau_base.proofs.Vectors.{at_most_trans}
use Rattle.tau_machine.proofs.Snoc.{member_snoc}
use Rattle.tau_shard.proofs.At.{at_same, at_other}
use Rattle.tau_machine.proofs.Marks.{grow_good}
use Rattle.tau_machine.proofs.States.{worker_moved, outbox_moved, hand_at}

module _ (set : Setting) (K : List (Act Txn)) (s : Core) (g : CoreGood set K s) where
  -- positions grow
  pub positions_good : (ends gathered plv : List ℕ) → AtMost s.ends ends → length ends ≡ length s.ends → AtMost s.plv plv → AtMost plv gathered → AtMost gathered ends → (length gathered ≡ set.width) × (length plv ≡ set.width) →
      CoreGood set K (record s { ends = ends; gathered = gathered; plv = plv })
  positions_good ends gathered plv up count more low high sizes = record {
    good = grow_good set.procs set.width set.base K (sight set s) (hand_of s) g.good ends plv up count more (at_most_trans plv gathered ends low high);
    locks = g.locks;
    small = g.small;
    floors = λ i. at_most_trans (s.shards i).floor s.plv plv (g.floors i) more;
    persisted = low;
    gathered = high;
    count_gathered = sizes.0;
    count_plv = sizes.1;
    members = g.members;
    streams = g.streams;
    unplaced = g.unplaced;
    anchors = λ j a m. at_most_trans a s.plv plv (g.anchors j a m) more;
    pending = g.pending;
    acked = λ w k m. let (low', c) = g.acked w k m in (at_most_trans k.lv s.plv plv low' more, c);
  }

  -- a stream's part changes, and names no anchor that PLV does not cover
  pub stream_good : (j : ℕ) (o : Stream) → ((a : List ℕ) → Member a o.anchors → AtMost a s.plv) → CoreGood set K (with_stream s j o)
  stream_good j o fine = record {
    good = g.good;
    locks = g.locks;
    small = g.small;
    floors = g.floors;
    persisted = g.persisted;
    gathered = g.gathered;
    count_gathered = g.count_gathered;
    count_plv = g.count_plv;
    members = g.members;
    streams = g.streams;
    unplaced = g.unplaced;
    anchors = λ i a m. elim (cases_eq i j) [
      | inl is ↦ fine a (subst (λ (b : Stream). Member a b.anchors) (ap (at j o s.streams) is ∙ at_same j o s.streams) m)
      | inr ne ↦ g.anchors i a (subst (λ (b : Stream). Member a b.anchors) (at_other j o s.streams i ne) m)
    ];
    pending = g.pending;
    acked = g.acked;
  }

  pub anchors_kept : (j : ℕ) (v : List ℕ) → AtMost v s.plv → (a : List ℕ) → Member a ((s.streams j).anchors ++ v ∷ []) → AtMost a s.plv
  anchors_kept j v low a m = elim (member_snoc (s.streams j).anchors v a m) [
    | inl o ↦ g.anchors j a o
    | inr e ↦ subst (λ (b : List ℕ). AtMost b s.plv) e low
  ]

  -- a call is acknowledged
  pub acked_good : (w : ℕ) (k : Ticket) (pending : List Ticket) → Member k (s.outboxes w).pending → ((i : Ticket) → Member i pending → Member i (s.outboxes w).pending) → AtMost k.lv s.plv →
      CoreGood set K (record (with_outbox s w (record (s.outboxes w) { pending = pending })) { acked = at w ((s.acked w) ++ k ∷ []) s.acked })
  acked_good w k pending there less low =
      let o = outbox_moved set K s g w (record (s.outboxes w) { pending = pending }) (λ i m. g.pending w i (less i m)) in
      record {
        good = o.good;
        locks = o.locks;
        small = o.small;
        floors = o.floors;
        persisted = o.persisted;
        gathered = o.gathered;
        count_gathered = o.count_gathered;
        count_plv = o.count_plv;
        members = o.members;
        streams = o.streams;
        unplaced = o.unplaced;
        anchors = o.anchors;
        pending = o.pending;
        acked = λ u i m. elim (cases_eq u w) [
          | inl is ↦ elim (member_snoc (s.acked w) k i (subst (λ (l : List Ticket). Member i l) (ap (at w ((s.acked w) ++ k ∷ []) s.acked) is ∙ at_same w ((s.acked w) ++ k ∷ []) s.acked) m)) [
            | inl old ↦ g.acked w i old
            | inr e ↦ subst (λ (j : Ticket). AtMost j.lv s.plv × ((t : Act Txn) × Member t K × (ticket t ≡ j))) e (low, g.pending w k there)
          ]
          | inr ne ↦ g.acked u i (subst (λ (l : List Ticket). Member i l) (at_other w ((s.acked w) ++ k ∷ []) s.acked u ne) m)
        ];
      }

  -- a left-over call comes back
  pub resumed_good : (w : ℕ) (waiting left : List Numbered) → CoreGood set K (with_worker s w (record (s.workers w) { waiting = waiting; left = left }))
  resumed_good w waiting left =
      let wk : Worker = record (s.workers w) { waiting = waiting; left = left } in
      let same : (λ (u : ℕ). (at w wk s.workers u).hand) ≡ hand_of s =
      fun_ext (λ u. elim (cases_eq u w) [
        | inl is ↦ ap (λ (k : ℕ). (at w wk s.workers k).hand) is ∙ hand_at s.workers w wk ∙ ap (hand_of s) (sym is)
        | inr ne ↦ ap (λ (k : Worker). k.hand) (at_other w wk s.workers u ne)
      ]) in
      worker_moved set K s g w wk refl (λ y. refl)
      (subst (λ (f : ℕ → Option Hand). Good set.procs set.width set.base K f (sight set s)) (sym same) g.good)
