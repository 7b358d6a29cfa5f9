-- Each event keeps the invariant.
use Rattle.std.proofs.Common.{ℕ, ◌<◌, Bool, true, false, ◌≡◌, inl, inr, List, [], ◌∷◌, ◌++◌, length, refl, sym, ap, subst, ◌∙◌, Option, arith, get_or-set_same, get_or-set_other, zero, suc}
use Rattle.std.specs.Prelude.{Some, None, ◌==◌, slice_index, slice_set, slice_get}
use Rattle.std.proofs.lemmas.Bool.{cases_eq}
use Rattle.tau_base.specs.declared.value.Key.{Key}
use Rattle.tau_base.specs.declared.value.Mode.{Mode}
use Rattle.tau_base.specs.declared.value.Mode.TheVariants.{Read, Write}
use Rattle.tau_base.specs.declared.value.Value.{Value}
use Rattle.tau_model.specs.History.{Numbered, Act, Member, updates, updating}
use Rattle.tau_base.specs.Vectors.{AtMost}
use Rattle.tau_model.specs.declared.committed.Committed.{Committed}
use Rattle.tau_base.specs.declared.limits.TheConstants.{MAX_TRIES}
use Rattle.tau_machine.specs.Hands.{Txn, committed_of, Phase, Running, Quitting, Placed, Freeing, Hand, act_in, act_of}
use Rattle.tau_shard.specs.Shard.{at, Shard, entry_in}
use Rattle.tau_machine.specs.Worker.{Worker, begun_by, begun, settled_by, settled, hand_busy, hand_quit, hand_joined, hand_locked, hand_freed}
use Rattle.tau_machine.specs.State.{Setting, Ticket, Record, Outbox, Stream, Core, ticket, hand_of}
use Rattle.tau_machine.specs.Invariant.{CoreGood, Agreement, Stops}
use Rattle.tau_machine.specs.Pieces.{NamesOne, placed_of, placed_in, records_of_stream}
use Rattle.tau_machine.specs.Accounts.{Account, Accounts, in_hand, in_phase}
use Rattle.tau_machine.specs.Events as event
use Rattle.tau_machine.specs.Events.{with_worker, with_shard, with_outbox, with_stream, ready, act_placed, act_reading, Event, Lock, Busy, Quit, Commit, Post, Free, FirstFree, Done, DoneReading, Drop, Gather, PlaceAnchor, Persist, Ack, Stop, Resume, Leads}
use Rattle.tau_base.proofs.Vectors.{join_right}
use Rattle.tau_shard.proofs.At.{at_same, at_other}
use Rattle.tau_machine.proofs.States.{hands_at, hand_at, again, outbox_moved}
use Rattle.tau_machine.proofs.Turns.{begun_good, locks_good, refuses_good, quits_good, let_go_good}
use Rattle.tau_machine.proofs.Commits.{begun_committed, commit_good, reading_good, post_good, finish_good}
use Rattle.tau_machine.proofs.Frees.{freed_good}
use Rattle.tau_machine.proofs.Snoc.{member_snoc}
use Rattle.tau_machine.proofs.Pieces.{Still, pieces_kept}
use Rattle.tau_machine.proofs.PieceMoves.{records_out, in_idle, landed, posted_good}
use Rattle.tau_machine.proofs.Accounts.{account_begun, account_settled, account_joined, account_ended, account_less}

-- hands and their places
begun_placed : (width : ℕ) (wk : Worker) → placed_in (begun width wk).hand ≡ placed_in wk.hand
begun_placed width wk = at' wk.hand wk.waiting refl
  where
    at' : (o : Option Hand) (cs : List Numbered) → wk.hand ≡ o → placed_in (begun_by width wk o cs).hand ≡ placed_in wk.hand
    at' (Some h) cs e = refl
    at' None [] e = refl
    at' None (c ∷ cs) e = sym (ap placed_in e)

settled_placed : (width : ℕ) (wk : Worker) (i : Hand) → i.phase ≡ Quitting → placed_in (settled width wk i).hand ≡ None
settled_placed width wk i e = at' i.held i.given_up (i.tries == MAX_TRIES)
  where
    at' : (l : List (Key × Mode)) (up last : Bool) → placed_in (settled_by width wk i l up last).hand ≡ None
    at' (k ∷ ks) up last = ap placed_of e
    at' [] true last = refl
    at' [] false true = refl
    at' [] false false = refl

-- one worker changes, and no record gets a place or is posted by that
pub still_worker : (set : Setting) (K K' : List (Act Txn)) (s s' : Core) (w : ℕ) (wk : Worker) → s'.workers ≡ at w wk s.workers → placed_in wk.hand ≡ placed_in (hand_of s w) →
    ((u : ℕ) → (s'.outboxes u).posted ≡ (s.outboxes u).posted) → s'.streams ≡ s.streams → s'.gathered ≡ s.gathered → s'.ends ≡ s.ends →
    ((j : ℕ) → records_of_stream j K' ≡ records_of_stream j K) → Still set K K' s s'
still_worker set K K' s s' w wk workers placed posted streams gathered ends records = record {
  same = λ j lt. record {
    moved = ap (λ (f : ℕ → Stream). (f j).moved) streams;
    own = ap (λ (f : ℕ → Stream). (f j).posted) streams;
    anchors = ap (λ (f : ℕ → Stream). (f j).anchors) streams;
    gathered = ap (λ (v : List ℕ). slice_index v j) gathered;
    ends = ap (λ (v : List ℕ). slice_index v j) ends;
    records = records j;
    posted = λ u is. posted u;
    placed = λ u is. same u;
  };
  posted = posted;
  own = λ j. ap (λ (f : ℕ → Stream). (f j).posted) streams;
  placed = same;
}
  where
    same : (u : ℕ) → placed_in (hand_of s' u) ≡ placed_in (hand_of s u)
    same u = ap (λ (f : ℕ → Worker). placed_in (f u).hand) workers ∙ elim (cases_eq u w) [
      | inl is ↦ subst (λ (k : ℕ). placed_in (at w wk s.workers k).hand ≡ placed_in (hand_of s k)) (sym is) (ap placed_in (hand_at s.workers w wk) ∙ placed)
      | inr ne ↦ ap placed_in (hands_at s.workers w wk u ne)
    ]

-- the accounts of one worker change
pub accounts_moved : (set : Setting) (s s' : Core) (w : ℕ) → ((u : ℕ) → (u ≡ w → ⊥) → s'.workers u ≡ s.workers u) → ((u : ℕ) → (u ≡ w → ⊥) → (s'.outboxes u).pending ≡ (s.outboxes u).pending) →
    ((u : ℕ) → (u ≡ w → ⊥) → s'.acked u ≡ s.acked u) → Account set w (s'.workers w) (s'.outboxes w).pending (s'.acked w) → Accounts set s → Accounts set s'
accounts_moved set s s' w workers pending acked here a u = elim (cases_eq u w) [
  | inl is ↦ subst (λ (k : ℕ). Account set k (s'.workers k) (s'.outboxes k).pending (s'.acked k)) (sym is) here
  | inr ne ↦ subst (λ (x : Worker). Account set u x (s'.outboxes u).pending (s'.acked u)) (sym (workers u ne))
      (subst (λ (l : List Ticket). Account set u (s.workers u) l (s'.acked u)) (sym (pending u ne))
      (subst (λ (l : List Ticket). Account set u (s.workers u) (s.outboxes u).pending l) (sym (acked u ne)) (a u)))
]

pub accounts_worker : (set : Setting) (s s' : Core) (w : ℕ) (wk : Worker) → s'.workers ≡ at w wk s.workers → s'.outboxes ≡ s.outboxes → s'.acked ≡ s.acked →
    Account set w wk (s.outboxes w).pending (s.acked w) → Accounts set s → Accounts set s'
accounts_worker set s s' w wk workers outboxes acked here a =
    accounts_moved set s s' w (λ u ne. ap (λ (f : ℕ → Worker). f u) workers ∙ at_other w wk s.workers u ne) (λ u ne. ap (λ (f : ℕ → Outbox). (f u).pending) outboxes)
    (λ u ne. ap (λ (f : ℕ → List Ticket). f u) acked)
    (subst (λ (x : Worker). Account set w x (s'.outboxes w).pending (s'.acked w)) (sym (ap (λ (f : ℕ → Worker). f w) workers ∙ at_same w wk s.workers))
    (subst (λ (f : ℕ → Outbox). Account set w wk (f w).pending (s'.acked w)) (sym outboxes) (subst (λ (f : ℕ → List Ticket). Account set w wk (s.outboxes w).pending (f w)) (sym acked) here))) a

found : {A : Type 0} (xs : List A) (i : ℕ) (a : A) → slice_get xs i ≡ Some a → Member a xs
found [] i a e = cc
found (x ∷ xs) zero a e = let same : x ≡ a = cc in inl same
found (x ∷ xs) (suc i) a e = inr (found xs i a e)

-- a hand with the same call in the same phase
account_hand : (set : Setting) (w : ℕ) (wk : Worker) (h h' : Hand) (pending acked : List Ticket) → wk.hand ≡ Some h → h'.call ≡ h.call → h'.phase ≡ h.phase →
    Account set w wk pending acked → Account set w (record wk { hand = Some h' }) pending acked
account_hand set w wk h h' pending acked is call phase = account_less set w wk (record wk { hand = Some h' }) pending acked
    (λ n.
    let p : in_hand n wk.hand ≡ in_phase n h.call.number h.phase = ap (in_hand n) is in
    let q : in_phase n h'.call.number h'.phase ≡ in_phase n h.call.number h.phase = ap (λ (c : Numbered). in_phase n c.number h'.phase) call ∙ ap (in_phase n h.call.number) phase in
    omega arith) refl (ap act_of phase ∙ sym (ap act_in is))

pub locked_phase : (h : Hand) (x : Key) (m : Mode) (row : Value) (a b : List ℕ) → (hand_locked h x m row a b).phase ≡ h.phase
locked_phase h x Read row a b = refl
locked_phase h x Write row a b = refl

pub locked_call : (h : Hand) (x : Key) (m : Mode) (row : Value) (a b : List ℕ) → (hand_locked h x m row a b).call ≡ h.call
locked_call h x Read row a b = refl
locked_call h x Write row a b = refl

module _ (set : Setting) (K : List (Act Txn)) (s s' : Core) (g : Agreement set K s) where
  ready_account : (w : ℕ) → Account set w (ready set s w) (s.outboxes w).pending (s.acked w)
  ready_account w = account_begun set w set.width (s.workers w) (s.outboxes w).pending (s.acked w) (g.accounts w)

  ready_placed : (w : ℕ) (h : Hand) → (ready set s w).hand ≡ Some h → h.phase ≡ Running → placed_in (hand_of s w) ≡ None
  ready_placed w h is phase = sym (begun_placed set.width (s.workers w)) ∙ ap placed_in is ∙ ap placed_of phase

  pub lock_kept : (w : ℕ) → event.Locks set w s s' → Agreement set K s'
  lock_kept w q =
      let sh : Shard = s.shards (set.shard_of q.key) in
      let h' : Hand = hand_locked q.hand q.key q.mode (sh.rows q.key) (entry_in sh q.key).write_lv (entry_in sh q.key).read_lv in
      let phase : h'.phase ≡ q.hand.phase = locked_phase q.hand q.key q.mode (sh.rows q.key) (entry_in sh q.key).write_lv (entry_in sh q.key).read_lv in
      let call : h'.call ≡ q.hand.call = locked_call q.hand q.key q.mode (sh.rows q.key) (entry_in sh q.key).write_lv (entry_in sh q.key).read_lv in
      let wk : Worker = record (ready set s w) { hand = Some h' } in
      record {
        good = locks_good set K s s' w g.good q;
        pieces = pieces_kept set K K s s' (still_worker set K K s s' w wk (ap (λ (c : Core). c.workers) q.after) (ap placed_of (phase ∙ q.phase) ∙ sym (ready_placed w q.hand q.is q.phase))
            (λ u. ap (λ (c : Core). (c.outboxes u).posted) q.after) (ap (λ (c : Core). c.streams) q.after) (ap (λ (c : Core). c.gathered) q.after) (ap (λ (c : Core). c.ends) q.after) (λ j. refl)) g.pieces;
        stops = subst (λ (c : Core). Stops c) (sym q.after) g.stops;
        accounts = accounts_worker set s s' w wk (ap (λ (c : Core). c.workers) q.after) (ap (λ (c : Core). c.outboxes) q.after) (ap (λ (c : Core). c.acked) q.after)
            (account_hand set w (ready set s w) q.hand h' (s.outboxes w).pending (s.acked w) q.is call phase (ready_account w)) g.accounts;
      }

  pub busy_kept : (w : ℕ) → event.Refuses set w s s' → Agreement set K s'
  busy_kept w q =
      let wk : Worker = settled set.width (ready set s w) (hand_busy q.hand) in
      record {
        good = refuses_good set K s s' w g.good q;
        pieces = pieces_kept set K K s s' (still_worker set K K s s' w wk (ap (λ (c : Core). c.workers) q.after) (settled_placed set.width (ready set s w) (hand_busy q.hand) refl ∙ sym (ready_placed w q.hand q.is q.phase))
            (λ u. ap (λ (c : Core). (c.outboxes u).posted) q.after) (ap (λ (c : Core). c.streams) q.after) (ap (λ (c : Core). c.gathered) q.after) (ap (λ (c : Core). c.ends) q.after) (λ j. refl)) g.pieces;
        stops = subst (λ (c : Core). Stops c) (sym q.after) g.stops;
        accounts = accounts_worker set s s' w wk (ap (λ (c : Core). c.workers) q.after) (ap (λ (c : Core). c.outboxes) q.after) (ap (λ (c : Core). c.acked) q.after)
            (account_settled set w set.width (ready set s w) q.hand (hand_busy q.hand) (s.outboxes w).pending (s.acked w) q.is (ap act_of q.phase) refl refl (ready_account w)) g.accounts;
      }

  pub quit_kept : (w : ℕ) (up : Bool) → event.Quits set w up s s' → Agreement set K s'
  quit_kept w up q =
      let wk : Worker = settled set.width (s.workers w) (hand_quit q.hand q.key up) in
      let idle : act_of q.hand.phase ≡ None = elim q.phase [ inl e ↦ ap act_of e | inr e ↦ ap act_of e.0 ] in
      let none : placed_of q.hand.phase ≡ None = elim q.phase [ inl e ↦ ap placed_of e | inr e ↦ ap placed_of e.0 ] in
      record {
        good = quits_good set K s s' w up g.good q;
        pieces = pieces_kept set K K s s' (still_worker set K K s s' w wk (ap (λ (c : Core). c.workers) q.after)
            (settled_placed set.width (s.workers w) (hand_quit q.hand q.key up) refl ∙ sym (ap placed_in q.is ∙ none))
            (λ u. ap (λ (c : Core). (c.outboxes u).posted) q.after) (ap (λ (c : Core). c.streams) q.after) (ap (λ (c : Core). c.gathered) q.after) (ap (λ (c : Core). c.ends) q.after) (λ j. refl)) g.pieces;
        stops = subst (λ (c : Core). Stops c) (sym q.after) g.stops;
        accounts = accounts_worker set s s' w wk (ap (λ (c : Core). c.workers) q.after) (ap (λ (c : Core). c.outboxes) q.after) (ap (λ (c : Core). c.acked) q.after)
            (account_settled set w set.width (s.workers w) q.hand (hand_quit q.hand q.key up) (s.outboxes w).pending (s.acked w) q.is idle refl refl (g.accounts w)) g.accounts;
      }

  -- a call without keys is let go
  pub let_go_kept : (w : ℕ) → event.LetsGo set w s s' → Agreement set K s'
  let_go_kept w q =
      let wk : Worker = record (s.workers w) { hand = None } in
      let i : Hand = record q.hand { phase = Quitting; given_up = true } in
      let empty = ap (λ (l : List (Key × Mode)). settled_by set.width (s.workers w) i l true (i.tries == MAX_TRIES)) q.held in
      record {
        good = subst (λ (c : Core). CoreGood set K c) (sym q.after) (let_go_good set K s g.good w (s.workers w) q.hand refl q.is q.phase q.held);
        pieces = pieces_kept set K K s s' (still_worker set K K s s' w wk (ap (λ (c : Core). c.workers) q.after) (sym (ap placed_in q.is ∙ not_placed q.hand.phase q.phase))
            (λ u. ap (λ (c : Core). (c.outboxes u).posted) q.after) (ap (λ (c : Core). c.streams) q.after) (ap (λ (c : Core). c.gathered) q.after) (ap (λ (c : Core). c.ends) q.after) (λ j. refl)) g.pieces;
        stops = subst (λ (c : Core). Stops c) (sym q.after) g.stops;
        accounts = accounts_worker set s s' w wk (ap (λ (c : Core). c.workers) q.after) (ap (λ (c : Core). c.outboxes) q.after) (ap (λ (c : Core). c.acked) q.after)
            (subst (λ (k : Worker). Account set w k (s.outboxes w).pending (s.acked w)) empty
            (account_settled set w set.width (s.workers w) q.hand i (s.outboxes w).pending (s.acked w) q.is q.phase refl refl (g.accounts w))) g.accounts;
      }
    where
      not_placed : (p : Phase) → act_of p ≡ None → placed_of p ≡ None
      not_placed Running e = refl
      not_placed Quitting e = refl
      not_placed (Placed t) e = cc
      not_placed (Freeing t) e = refl

  anchor_low : (w : ℕ) (t : Act Txn) (q : event.Commits set w s s' t) → AtMost q.anchor s.plv
  anchor_low w t q = elim q.named [
    | inl none ↦ subst (λ (a : List ℕ). AtMost a s.plv) (sym none.1) (λ j. omega arith)
    | inr m ↦ g.good.anchors (set.stream_of w) q.anchor (found (s.streams (set.stream_of w)).anchors m.0 q.anchor m.2)
  ]

  pub commit_kept : (w : ℕ) (t : Act Txn) → event.Commits set w s s' t → Agreement set (K ++ t ∷ []) s'
  commit_kept w t q =
      let j : ℕ = set.stream_of w in
      let T : Act Txn = act_placed set w q.hand q.effect q.number q.anchor (slice_index s.ends j) q.past in
      let wk0 : Worker = ready set s w in
      let wk : Worker = record wk0 { hand = Some (hand_joined q.hand (Placed t) t.call.place.dep); committed = (s.workers w).committed ++ committed_of t ∷ [] } in
      let small : j < length s.ends = (let a = g.good.good.order.count in let b = g.good.small w in omega arith) in
      let same : wk0.committed ≡ (s.workers w).committed = begun_committed set.width (s.workers w) in
      let base = commit_good set K (with_worker s w wk0) (begun_good set K s g.good w) w wk0 q.hand (at_same w wk0 s.workers) q.is q.effect q.number q.anchor q.past q.phase q.ended q.locked q.updates (anchor_low w t q) q.past_start in
      let wk_at : (c : List Committed) (x : Act Txn) → Worker = λ c x. record wk0 { hand = Some (hand_joined q.hand (Placed x) x.call.place.dep); committed = c ++ committed_of x ∷ [] } in
      let one = subst (λ (c : Core). CoreGood set (K ++ T ∷ []) (record c { ends = slice_set s.ends j q.past })) (again s w (wk_at wk0.committed T) wk0) base in
      let two = subst (λ (c : List Committed). CoreGood set (K ++ T ∷ []) (record (with_worker s w (wk_at c T)) { ends = slice_set s.ends j q.past })) same one in
      let three = subst (λ (x : Act Txn). CoreGood set (K ++ x ∷ []) (record (with_worker s w (wk_at (s.workers w).committed x)) { ends = slice_set s.ends j q.past })) (sym q.act) two in
      record {
        good = subst (λ (c : Core). CoreGood set (K ++ t ∷ []) c) (sym q.after) three;
        pieces = landed set K s s' g.pieces w t (record {
          small = g.good.small w;
          before = ready_placed w q.hand q.is q.phase;
          after = ap (λ (c : Core). placed_in (hand_of c w)) q.after ∙ ap placed_in (hand_at s.workers w wk);
          other = λ u ne. ap (λ (c : Core). placed_in (hand_of c u)) q.after ∙ ap placed_in (hands_at s.workers w wk u ne);
          up = ap (λ (x : Act Txn). updates x.effect) q.act ∙ q.updates;
          stream = ap (λ (x : Act Txn). x.call.place.stream) q.act;
          start = ap (λ (x : Act Txn). x.call.place.start) q.act;
          goes = subst (λ (x : Act Txn). x.call.place.start < x.call.place.past) (sym q.act) q.past_start;
          worker = ap (λ (x : Act Txn). x.call.worker) q.act;
          named = subst (λ (x : Act Txn). NamesOne (set.anchored j) (s.streams j).anchors x.call) (sym q.act) (elim q.named [
            | inl none ↦ inl none.0
            | inr m ↦ inr (m.0, q.anchor, m.1, m.2, join_right q.hand.dep q.anchor)
          ]);
          streams = ap (λ (c : Core). c.streams) q.after;
          outboxes = ap (λ (c : Core). c.outboxes) q.after;
          gathered = ap (λ (c : Core). c.gathered) q.after;
          ends = ap (λ (c : Core). slice_index c.ends j) q.after ∙ get_or-set_same s.ends j q.past 0 small ∙ sym (ap (λ (x : Act Txn). x.call.place.past) q.act);
          ends_other = λ k ne. ap (λ (c : Core). slice_index c.ends k) q.after ∙ get_or-set_other s.ends j k q.past 0 ne;
        });
        stops = subst (λ (c : Core). Stops c) (sym q.after) g.stops;
        accounts = accounts_worker set s s' w wk (ap (λ (c : Core). c.workers) q.after) (ap (λ (c : Core). c.outboxes) q.after) (ap (λ (c : Core). c.acked) q.after)
            (account_joined set w wk0 wk q.hand (hand_joined q.hand (Placed t) t.call.place.dep) t (s.outboxes w).pending (s.acked w) q.is q.phase refl refl
            (ap (λ (x : Act Txn). x.call.call) q.act) refl refl (ap (λ (l : List Committed). l ++ committed_of t ∷ []) (sym same)) (ready_account w)) g.accounts;
      }

  pub reads_kept : (w : ℕ) (t : Act Txn) → event.Reads set w s s' t → Agreement set (K ++ t ∷ []) s'
  reads_kept w t q =
      let T : Act Txn = act_reading set w q.hand q.effect in
      let wk0 : Worker = ready set s w in
      let wk : Worker = record wk0 { hand = Some (hand_joined q.hand (Freeing t) q.hand.dep); committed = (s.workers w).committed ++ committed_of t ∷ [] } in
      let same : wk0.committed ≡ (s.workers w).committed = begun_committed set.width (s.workers w) in
      let base = reading_good set K (with_worker s w wk0) (begun_good set K s g.good w) w wk0 q.hand (at_same w wk0 s.workers) q.is q.effect q.phase q.ended q.no_write in
      let wk_at : (c : List Committed) (x : Act Txn) → Worker = λ c x. record wk0 { hand = Some (hand_joined q.hand (Freeing x) q.hand.dep); committed = c ++ committed_of x ∷ [] } in
      let one = subst (λ (c : Core). CoreGood set (K ++ T ∷ []) c) (again s w (wk_at wk0.committed T) wk0) base in
      let two = subst (λ (c : List Committed). CoreGood set (K ++ T ∷ []) (with_worker s w (wk_at c T))) same one in
      let three = subst (λ (x : Act Txn). CoreGood set (K ++ x ∷ []) (with_worker s w (wk_at (s.workers w).committed x))) (sym q.act) two in
      let idle : updates t.effect ≡ false = ap (λ (x : Act Txn). updates x.effect) q.act ∙ ap updating q.no_write in
      record {
        good = subst (λ (c : Core). CoreGood set (K ++ t ∷ []) c) (sym q.after) three;
        pieces = pieces_kept set K (K ++ t ∷ []) s s' (still_worker set K (K ++ t ∷ []) s s' w wk (ap (λ (c : Core). c.workers) q.after) (sym (ready_placed w q.hand q.is q.phase))
            (λ u. ap (λ (c : Core). (c.outboxes u).posted) q.after) (ap (λ (c : Core). c.streams) q.after) (ap (λ (c : Core). c.gathered) q.after) (ap (λ (c : Core). c.ends) q.after)
            (λ j. records_out K t j (in_idle t j idle))) g.pieces;
        stops = subst (λ (c : Core). Stops c) (sym q.after) g.stops;
        accounts = accounts_worker set s s' w wk (ap (λ (c : Core). c.workers) q.after) (ap (λ (c : Core). c.outboxes) q.after) (ap (λ (c : Core). c.acked) q.after)
            (account_joined set w wk0 wk q.hand (hand_joined q.hand (Freeing t) q.hand.dep) t (s.outboxes w).pending (s.acked w) q.is q.phase refl refl
            (ap (λ (x : Act Txn). x.call.call) q.act) refl refl (ap (λ (l : List Committed). l ++ committed_of t ∷ []) (sym same)) (ready_account w)) g.accounts;
      }

  pub post_kept : (w : ℕ) → event.Posts set w s s' → Agreement set K s'
  post_kept w q =
      let h' : Hand = record q.hand { phase = Freeing q.act } in
      let wk : Worker = record (s.workers w) { hand = Some h' } in
      let o : Outbox = record (s.outboxes w) { posted = (s.outboxes w).posted ++ Record q.act ∷ [] } in
      let base = post_good set K s g.good w (s.workers w) q.hand refl q.is q.act q.phase in
      record {
        good = subst (λ (c : Core). CoreGood set K c) (sym q.after) (outbox_moved set K (with_worker s w wk) base w o (λ k m. g.good.pending w k m));
        pieces = posted_good set K s s' g.pieces w q.act (record {
          before = ap placed_in q.is ∙ ap placed_of q.phase;
          after = ap (λ (c : Core). placed_in (hand_of c w)) q.after ∙ ap placed_in (hand_at s.workers w wk);
          other = λ u ne. ap (λ (c : Core). placed_in (hand_of c u)) q.after ∙ ap placed_in (hands_at s.workers w wk u ne);
          streams = ap (λ (c : Core). c.streams) q.after;
          posted = ap (λ (c : Core). (c.outboxes w).posted) q.after ∙ ap (λ (b : Outbox). b.posted) (at_same w o s.outboxes);
          posted_other = λ u ne. ap (λ (c : Core). (c.outboxes u).posted) q.after ∙ ap (λ (b : Outbox). b.posted) (at_other w o s.outboxes u ne);
          gathered = ap (λ (c : Core). c.gathered) q.after;
          ends = ap (λ (c : Core). c.ends) q.after;
        });
        stops = subst (λ (c : Core). Stops c) (sym q.after) g.stops;
        accounts = accounts_moved set s s' w (λ u ne. ap (λ (c : Core). c.workers u) q.after ∙ at_other w wk s.workers u ne)
            (λ u ne. ap (λ (c : Core). (c.outboxes u).pending) q.after ∙ ap (λ (b : Outbox). b.pending) (at_other w o s.outboxes u ne)) (λ u ne. ap (λ (c : Core). c.acked u) q.after)
            (subst (λ (c : Core). Account set w (c.workers w) (c.outboxes w).pending (c.acked w)) (sym q.after)
            (subst (λ (x : Worker). Account set w x (at w o s.outboxes w).pending (s.acked w)) (sym (at_same w wk s.workers))
            (subst (λ (b : Outbox). Account set w wk b.pending (s.acked w)) (sym (at_same w o s.outboxes))
            (account_less set w (s.workers w) wk (s.outboxes w).pending (s.acked w)
            (λ n. omega arith) refl (sym (ap act_in q.is ∙ ap act_of q.phase)) (g.accounts w))))) g.accounts;
      }

  pub free_kept : (w : ℕ) → event.Frees set w s s' → Agreement set K s'
  free_kept w q =
      let h' : Hand = hand_freed q.hand q.key in
      let wk : Worker = record (s.workers w) { hand = Some h' } in
      record {
        good = subst (λ (c : Core). CoreGood set K c) (sym q.after) (freed_good set K s g.good w q.hand q.act q.key q.mode q.is q.phase q.held);
        pieces = pieces_kept set K K s s' (still_worker set K K s s' w wk (ap (λ (c : Core). c.workers) q.after) (sym (ap placed_in q.is))
            (λ u. ap (λ (c : Core). (c.outboxes u).posted) q.after) (ap (λ (c : Core). c.streams) q.after) (ap (λ (c : Core). c.gathered) q.after) (ap (λ (c : Core). c.ends) q.after) (λ j. refl)) g.pieces;
        stops = subst (λ (c : Core). Stops c) (sym q.after) g.stops;
        accounts = accounts_worker set s s' w wk (ap (λ (c : Core). c.workers) q.after) (ap (λ (c : Core). c.outboxes) q.after) (ap (λ (c : Core). c.acked) q.after)
            (account_hand set w (s.workers w) q.hand h' (s.outboxes w).pending (s.acked w) q.is refl refl (g.accounts w)) g.accounts;
      }

  pub finish_kept : (w : ℕ) → event.Finishes set w s s' → Agreement set K s'
  finish_kept w q =
      let wk : Worker = record (s.workers w) { hand = None } in
      let o : Outbox = record (s.outboxes w) { pending = (s.outboxes w).pending ++ ticket q.act ∷ [] } in
      let (base, there) = finish_good set K s g.good w (s.workers w) q.hand refl q.is q.act q.phase q.held in
      record {
        good = subst (λ (c : Core). CoreGood set K c) (sym q.after) (outbox_moved set K (with_worker s w wk) base w o
            (λ k m. elim (member_snoc (s.outboxes w).pending (ticket q.act) k m) [ inl old ↦ g.good.pending w k old | inr e ↦ (q.act, there, e) ]));
        pieces = pieces_kept set K K s s' (still_worker set K K s s' w wk (ap (λ (c : Core). c.workers) q.after) (sym (ap placed_in q.is ∙ ap placed_of q.phase))
            (λ u. ap (λ (c : Core). (c.outboxes u).posted) q.after ∙ same_posted w o refl u)
            (ap (λ (c : Core). c.streams) q.after) (ap (λ (c : Core). c.gathered) q.after) (ap (λ (c : Core). c.ends) q.after) (λ j. refl)) g.pieces;
        stops = subst (λ (c : Core). Stops c) (sym q.after) g.stops;
        accounts = accounts_moved set s s' w (λ u ne. ap (λ (c : Core). c.workers u) q.after ∙ at_other w wk s.workers u ne)
            (λ u ne. ap (λ (c : Core). (c.outboxes u).pending) q.after ∙ ap (λ (b : Outbox). b.pending) (at_other w o s.outboxes u ne)) (λ u ne. ap (λ (c : Core). c.acked u) q.after)
            (subst (λ (c : Core). Account set w (c.workers w) (c.outboxes w).pending (c.acked w)) (sym q.after)
            (subst (λ (x : Worker). Account set w x (at w o s.outboxes w).pending (s.acked w)) (sym (at_same w wk s.workers))
            (subst (λ (b : Outbox). Account set w wk b.pending (s.acked w)) (sym (at_same w o s.outboxes))
            (account_ended set w (s.workers w) wk q.act (s.outboxes w).pending (s.acked w) (ap act_in q.is ∙ ap act_of q.phase) refl refl refl refl (g.accounts w))))) g.accounts;
      }
    where
      same_posted : (w : ℕ) (o : Outbox) → o.posted ≡ (s.outboxes w).posted → (u : ℕ) → (at w o s.outboxes u).posted ≡ (s.outboxes u).posted
      same_posted w o e u = elim (cases_eq u w) [
        | inl is ↦ subst (λ (k : ℕ). (at w o s.outboxes k).posted ≡ (s.outboxes k).posted) (sym is) (ap (λ (b : Outbox). b.posted) (at_same w o s.outboxes) ∙ e)
        | inr ne ↦ ap (λ (b : Outbox). b.posted) (at_other w o s.outboxes u ne)
      ]
