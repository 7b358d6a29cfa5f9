-- What holds at the end of a run.
use Rattle.std.proofs.Common.{ℕ, zero, suc, ◌+◌, ◌≤◌, ◌<◌, Bool, true, false, ◌≡◌, ◌⊎◌, inl, inr, List, [], ◌∷◌, ◌++◌, map, length, take, refl, sym, ap, subst, ◌∙◌, arith, slice_index}
use Rattle.std.specs.Prelude.{Option, Some, None, slice_get, slice_index_or, slice_set, ◌==◌, ◌↔◌}
use Rattle.std.specs.List.{filter}
use Rattle.std.proofs.Math.Seq.{take-append_seam}
use Rattle.std.proofs.lemmas.Bool.{eq-eqb}
use Rattle.std.proofs.lemmas.List.{append-nil, length-append, length-take, take_all}
use Rattle.std.proofs.lemmas.Option.{get_or_from_slice_get}
use Rattle.std.specs.Prelude.{min}
use Rattle.tau_base.specs.Modes.{format_of}
use Rattle.tau_base.specs.Vectors.{AtMost, covers}
use Rattle.tau_base.specs.declared.value.LogMode.{LogMode}
use Rattle.tau_base.proofs.Vectors.{at_most_covers, at_most_within, at_most_trans}
use Rattle.tau_block.specs.Image.{HasContent}
use Rattle.tau_model.specs.History.{Act, Member, updates}
use Rattle.tau_model.specs.Logged.{Place, lv}
use Rattle.tau_model.specs.declared.committed.Committed.{Committed as Kept}
use Rattle.tau_model.proofs.Orders.{member_reordered}
use Rattle.tau_model.proofs.Reorder.{reordered_sym}
use Rattle.tau_machine.specs.Hands.{Txn, committed_of, lv_of, act_in, Hand}
use Rattle.tau_machine.specs.Pieces.{Chain}
use Rattle.tau_machine.specs.Accounts.{joined_list}
use Rattle.tau_machine.specs.State.{Core, Item, Ticket, ticket, ticket_of, hand_of}
use Rattle.tau_machine.proofs.Lists.{member_of}
use Rattle.tau_machine.proofs.Pieces.{chain_append}
use Rattle.tau_machine.proofs.Results.{committed_theorem, acknowledged_theorem, ended_theorem}
use Rattle.tau_model.proofs.Logged.{member_filtered}
use Rattle.tau_text.specs.declared.load.Workload.{Workload}
use Rattle.tau_core.specs.declared.state.Load.{Load}
use Rattle.tau_core.specs.View.{setting_of, worker_of}
use Rattle.tau_core.specs.Pieces.{Spelled}
use Rattle.tau_run.specs.Run.{Committed, Run, told_of, pair_of, vector_of, has_ack}
use Rattle.tau_run.specs.Start.{opened_at}
use Rattle.tau_run.specs.CoreRun.{IsRunOf}
use Rattle.tau_run.specs.StopsLeave.{HasFront, IsOver}
use Rattle.tau_run.proofs.Acked.{acked_there}
use Rattle.tau_run.proofs.Cuts.{take_within}
use Rattle.tau_run.proofs.Lists.{map_member, any_true}
use Rattle.tau_run.proofs.Order.{apart, history, there}
use Rattle.tau_run.proofs.Spelled.{spelled_long}
use Rattle.tau_run.proofs.Streams.{front_first, IsDeclaredCourse, anchored}
use Rattle.tau_run.proofs.CommittedTold.{number_of, one_of_number}
use Rattle.tau_base.proofs.Lists.{some_at}
use Rattle.tau_model.proofs.Assembling.{member_mapped}

split_member : {A : Type 0} (x : A) (xs ys : List A) → Member x (xs ++ ys) → Member x xs ⊎ Member x ys
split_member x [] ys m = inr m
split_member x (z ∷ xs) ys (inl e) = inl (inl e)
split_member x (z ∷ xs) ys (inr m) = elim (split_member x xs ys m) [ inl p ↦ inl (inr p) | inr p ↦ inr p ]

cons_low : (a b : ℕ) (v w : List ℕ) → a ≤ b → AtMost v w → AtMost (a ∷ v) (b ∷ w)
cons_low a b v w le low zero = le
cons_low a b v w le low (suc j) = low j

none_low : (a : ℕ) (v : List ℕ) → a ≤ 0 → AtMost v [] → AtMost (a ∷ v) []
none_low a v le low zero = le
none_low a v le low (suc j) = low j

set_low : (v w : List ℕ) (i x : ℕ) → AtMost v w → x ≤ slice_index w i → AtMost (slice_set v i x) w
set_low [] w i x low le = low
set_low (a ∷ v) [] zero x low le = none_low x v le (λ k. low (suc k))
set_low (a ∷ v) (b ∷ w) zero x low le = cons_low x b v w le (λ k. low (suc k))
set_low (a ∷ v) [] (suc i) x low le = none_low a (slice_set v i x) (low 0) (set_low v [] i x (λ k. low (suc k)) le)
set_low (a ∷ v) (b ∷ w) (suc i) x low le = cons_low a b (slice_set v i x) w (low 0) (set_low v w i x (λ k. low (suc k)) le)

-- a call's vector does not pass the ends
lv_low : (up : Bool) (p : Place) (w : List ℕ) → AtMost p.dep w → (up ≡ true → p.past ≤ slice_index w p.stream) → AtMost (lv up p) w
lv_low true p w low past = set_low p.dep w p.stream p.past low (past refl)
lv_low false p w low past = low

module _ (n m : ℕ) (mode : LogMode) (load : Workload) (l : Load) (K : List (Act Txn)) (s : Core) (run : Run) (c : IsDeclaredCourse n m mode load run.start l K s) (is : IsRunOf n l K s load run) where
  call_there : (c : Committed) → Member c run.calls → (t : Act Txn) × Member t K × (told_of t ≡ c)
  call_there d q =
      let w = member_mapped told_of d (history (setting_of l) K s c.inv) (subst (λ (cs : List Committed). Member d cs) is.calls q) in
      (w.0, there (setting_of l) K s c.inv w.0 w.1, w.2)

  below_ends : (t : Act Txn) → Member t K → AtMost (lv_of t) s.ends
  below_ends t q = lv_low (updates t.effect) t.call.place s.ends (c.inv.agrees.good.good.order.logged.places.ended t q) (λ up. c.inv.agrees.good.good.order.pasts t q up)

  -- no more is acknowledged than is persisted
  acked_covered : (c : Committed) → Member c run.calls → has_ack run c.number ≡ true → covers s.plv (vector_of c) ≡ true
  acked_covered d q e =
      let t = call_there d q in
      let a = acked_there n m mode load l K s run c is d.number e in
      let law = acknowledged_theorem (setting_of l) K s c.inv a.3.0 (ticket a.0) a.3.1 in
      let same : law.0 ≡ t.0 = one_of_number K (apart (setting_of l) K s c.inv) law.0 t.0 law.1 t.1 (ap (λ (k : Ticket). k.number) law.2 ∙ a.2 ∙ ap (λ (x : Committed). x.number) (sym t.2)) in
      ap (λ (x : Committed). covers s.plv (vector_of x)) (sym t.2) ∙ ap (λ (u : Act Txn). covers s.plv (lv_of u)) (sym same) ∙ at_most_covers s.plv (lv_of law.0) law.3

  -- a ticket among these is acknowledged
  has_ticket : (t : Act Txn) (w : ℕ) → (setting_of l).worker_of (number_of t) ≡ w → Member (ticket t) (s.acked w) → has_ack run (number_of t) ≡ true
  has_ticket t w own q =
      let mine : Member (pair_of (ticket t)) (filter (λ (a : ℕ × List ℕ). worker_of l.workers a.0 == w) run.acks) = subst (λ (xs : List (ℕ × List ℕ)). Member (pair_of (ticket t)) xs) (sym (is.acks w)) (map_member pair_of (ticket t) (s.acked w) q) in
      any_true (λ (a : ℕ × List ℕ). a.0 == number_of t) (pair_of (ticket t)) run.acks (member_filtered (λ (a : ℕ × List ℕ). worker_of l.workers a.0 == w) (pair_of (ticket t)) run.acks mine).0 (eq-eqb (number_of t) (number_of t) refl)

  -- what a stream has begins with what it held first
  pub opened_is : (j : ℕ) (content : List ℕ) → slice_get run.contents j ≡ Some content → take (length (opened_at load run.start j)) content ≡ opened_at load run.start j
  opened_is j content e = let g = is.given j content e in ap (take (length (opened_at load run.start j))) g.is ∙ take-append_seam (opened_at load run.start j) g.bytes

  module _ (over : IsOver n s) where
    -- the call has ended, and is pending or acknowledged
    covered_acked : (t : Act Txn) → Member t K → covers s.plv (lv_of t) ≡ true → has_ack run (number_of t) ≡ true
    covered_acked t q e =
        let w : ℕ = t.call.worker in
        let law = committed_theorem (setting_of l) K s c.inv in
        let mine : Member t (filter (λ (u : Act Txn). u.call.worker == w) K) = member_of (λ (u : Act Txn). u.call.worker == w) t K q (eq-eqb w w refl) in
        let kept : Member (committed_of t) (s.workers w).committed = subst (λ (cs : List Kept). Member (committed_of t) cs) (sym (law.2 w)) (map_member committed_of t (filter (λ (u : Act Txn). u.call.worker == w) K) mine) in
        let end = ended_theorem (setting_of l) K s c.inv w in
        let none : joined_list (act_in (hand_of s w)) ≡ [] = ap (λ (h : Option Hand). joined_list (act_in h)) (over.rests w) in
        let all : (s.workers w).committed ≡ end.0 = end.1 ∙ ap (λ (cs : List Kept). end.0 ++ cs) none ∙ append-nil end.0 in
        let ended : Member (committed_of t) end.0 = subst (λ (cs : List Kept). Member (committed_of t) cs) all kept in
        let told : Member (ticket t) ((s.outboxes w).pending ++ s.acked w) =
        member_reordered ((s.outboxes w).pending ++ s.acked w) (map ticket_of end.0) (reordered_sym (map ticket_of end.0) ((s.outboxes w).pending ++ s.acked w) end.2) (ticket t) (map_member ticket_of (committed_of t) end.0 ended) in
        elim (split_member (ticket t) (s.outboxes w).pending (s.acked w) told) [
          | inl p ↦ absurd (
              let left : Member (ticket t) (filter (λ (k : Ticket). covers s.plv k.lv) (s.outboxes w).pending) = member_of (λ (k : Ticket). covers s.plv k.lv) (ticket t) (s.outboxes w).pending p e in
              subst (λ (ks : List Ticket). Member (ticket t) ks) (over.told w) left)
          | inr p ↦ has_ticket t w ((law.0 t q).1) p
        ]

    pub acked_is : (c : Committed) → Member c run.calls → (has_ack run c.number ≡ true) ↔ (covers s.plv (vector_of c) ≡ true)
    acked_is d q = (
      acked_covered d q,
      λ e.
          (let t = call_there d q in
          ap (λ (d : Committed). has_ack run d.number) (sym t.2) ∙ covered_acked t.0 t.1 (ap (λ (d : Committed). covers s.plv (vector_of d)) t.2 ∙ e)),
    )

    -- what is not covered was stopped
    pub uncovered_is : (c : Committed) → Member c run.calls → (j : ℕ) → j < n → slice_index s.plv j < slice_index (vector_of c) j → (end : ℕ) × ((s.streams j).stop ≡ Some end)
    uncovered_is d q j lt gap = by_stop (s.streams j).stop refl
      where
        by_stop : (o : Option ℕ) → (s.streams j).stop ≡ o → (end : ℕ) × ((s.streams j).stop ≡ Some end)
        by_stop (Some end) e = (end, e)
        by_stop None e = absurd (
            let t = call_there d q in
            let all = over.persisted j lt e in
            let low : slice_index (lv_of t.0) j ≤ slice_index s.ends j = below_ends t.0 t.1 j in
            let same : slice_index (lv_of t.0) j ≡ slice_index (vector_of d) j = ap (λ (x : Committed). slice_index (vector_of x) j) t.2 in
            omega (arith, gap, all, low, same))

    -- where no stream was stopped all that committed is acknowledged
    pub all_acked_of : ((j : ℕ) → j < n → (s.streams j).stop ≡ None) → (t : Act Txn) → Member t K → has_ack run (number_of t) ≡ true
    all_acked_of going t q =
        let wide : length s.ends ≡ n = c.inv.agrees.good.good.order.count ∙ c.load_is.streams in
        let low : AtMost s.ends s.plv = at_most_within s.ends s.plv (λ j lt. (let e = over.persisted j (subst (λ (k : ℕ). j < k) wide lt) (going j (subst (λ (k : ℕ). j < k) wide lt)) in omega (arith, e))) in
        covered_acked t q (at_most_covers s.plv (lv_of t) (at_most_trans (lv_of t) s.ends s.plv (below_ends t q) low))

    -- an image of a stream that was not stopped has all of it
    pub flushed_is : (j : ℕ) → j < n → (s.streams j).stop ≡ None → (image bytes : List ℕ) → HasFront n j (opened_at load run.start j) l s bytes image → slice_index s.plv j ≤ length (opened_at load run.start j) + length bytes →
        HasContent (format_of l.mode) n j (slice_index_or run.contents j []) image
    flushed_is j lt going image bytes f reach =
        let h = some_at run.contents j (subst (λ (k : ℕ). j < k) (sym is.streams) lt) in
        let g = is.given j h.0 h.1 in
        let whole : slice_index_or run.contents j [] ≡ h.0 = get_or_from_slice_get run.contents j h.0 [] h.1 in
        let first : List ℕ = opened_at load run.start j in
        let items : List Item = (s.streams j).moved ++ g.waiting in
        let chain : Chain (length first) items (slice_index s.ends j) = chain_append (length first) (slice_index s.gathered j) (slice_index s.ends j) (s.streams j).moved g.waiting g.moved g.rest in
        let w = take_within (s.streams j).moved g.waiting f.count in
        let spelled : Spelled l (λ i. (s.streams i).anchors) (take w.0 items) bytes = subst (λ (xs : List Item). Spelled l (λ i. (s.streams i).anchors) xs bytes) w.1 f.spelled in
        let front = front_first n l load run.start c.begins K s j lt c.room c.load_is.streams (anchored n m mode load run.start l c.begins c.load_is j lt) c.sound h.0 g w.0 bytes spelled in
        let all : length h.0 ≡ slice_index s.ends j = ap length g.is ∙ length-append first g.bytes ∙ spelled_long l (λ i. (s.streams i).anchors) (length first) (slice_index s.ends j) items g.bytes g.spelled chain in
        let size : length (first ++ bytes) ≡ length first + length bytes = length-append first bytes in
        let persisted = over.persisted j lt going in
        let long : length h.0 ≤ length (first ++ bytes) = omega (arith, all, size, persisted, reach) in
        let same : first ++ bytes ≡ h.0 = whole_front (first ++ bytes) h.0 front.0 front.2 long in
        subst (λ (c : List ℕ). HasContent (format_of l.mode) n j c image) (same ∙ sym whole) f.has
      where
        whole_front : (xs ys : List ℕ) (k : ℕ) → xs ≡ take k ys → length ys ≤ length xs → xs ≡ ys
        whole_front xs ys k e long =
            let short : length xs ≡ min k (length ys) = ap length e ∙ length-take k ys in
            e ∙ take_all k ys (omega (arith, short, long))
