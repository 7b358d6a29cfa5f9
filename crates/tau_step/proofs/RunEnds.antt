-- What a whole run by turns leaves at its end.
use Rattle.std.proofs.Common.{ℕ, zero, suc, ◌+◌, ◌<◌, ◌≤◌, ◌==◌, ◌≡◌, ◌⊎◌, Bool, true, false, inl, inr, List, [], ◌∷◌, ◌++◌, map, refl, sym, ap, subst, ◌∙◌, arith, get_or-set_other}
use Rattle.std.specs.Prelude.{Option, Some, None, is_some, ◌&&◌, not, slice_index}
use Rattle.std.specs.List.{filter, list_any}
use Rattle.std.proofs.lemmas.Bool.{cases_Bool, cases_eq, cases_lt, ne_eqb}
use Rattle.tau_base.specs.declared.limits.TheConstants.{MAX_BODY}
use Rattle.tau_base.specs.Vectors.{covers}
use Rattle.tau_model.specs.History.{Act, Member, updates}
use Rattle.tau_model.specs.Reported.{in_stream}
use Rattle.tau_model.proofs.Logged.{member_filtered}
use Rattle.tau_model.proofs.Orders.{member_back}
use Rattle.tau_machine.specs.Hands.{Txn}
use Rattle.tau_machine.specs.Worker.{Worker}
use Rattle.tau_shard.specs.Shard.{at}
use Rattle.tau_machine.specs.Pieces.{Chain, Ascending, PostedAt, Flying, placed_in, records_in, StreamGood}
use Rattle.tau_machine.specs.Invariant.{Invariant}
use Rattle.tau_machine.specs.State.{Setting, Ticket, Item, Record, Core, Stream, Outbox, start_of, past_of}
use Rattle.tau_machine.specs.Events.{Event, Lock, Busy, Quit, Commit, Post, Free, FirstFree, Done, DoneReading, Drop, Gather, PlaceAnchor, Persist, Ack, Stop, Resume, Leads, Gathered, stop, record_first, anchor_first}
use Rattle.tau_machine.specs.Waits.{IsGathered, Waits}
use Rattle.tau_shard.proofs.At.{at_same, at_other}
use Rattle.tau_machine.proofs.Pieces.{chain_member, records_append}
use Rattle.tau_machine.proofs.Results.{committed_theorem}
use Rattle.tau_text.specs.declared.load.Turn.{Turn}
use Rattle.tau_run.specs.StopsLeave.{IsOver}
use Rattle.tau_run.specs.Run.{below}
use Rattle.tau_occ.specs.declared.style.Style.{Style}
use Rattle.tau_occ.specs.declared.style.Style.TheVariants.{Locking}
use Rattle.tau_text.specs.declared.load.Turn.TheVariants as turn
use Rattle.tau_run.specs.Schedule as todo
use Rattle.tau_run.specs.Schedule.{RunState, still, state_of, any_turn, Steps, IsWhole}
use Rattle.tau_run.proofs.LateSteps.{late, all_late, ends_in}
use Rattle.tau_run.proofs.Still.{steps_still}
use Rattle.tau_step.specs.RunsEnd.{HasEnded, WholeRunsEnd}
use Rattle.tau_run.specs.Turns.{Progress, Stays, IfSo, Goes, Gathers, Flushed, is_raised, is_going, is_empty, any_left}
use Rattle.tau_step.specs.TurnParts.{ManagedPart, Cleared, Clerked, OneByOne, has_work, is_busy}
use Rattle.tau_step.proofs.Late.{Alone, LeftOver, Idled, wholes, wholes_append, drains, only}
use Rattle.tau_step.proofs.Idling.{gathered_stop, stopped_there, none_some}
use Rattle.tau_step.proofs.Others.{IsElsewhere, elsewhere, worked_streams, worked_others, raised_same}
use Rattle.tau_step.proofs.Resting.{any_none, rest_hand, rest_waiting, busy_none}
use Rattle.tau_step.proofs.Rounding.{none_below}
use Rattle.tau_step.proofs.Turning.{managed_keep}
use Rattle.tau_base.proofs.Logic.{not_both}
use Rattle.tau_run.proofs.Given.{record_member}

pub member_below : (w m : ℕ) → w < m → Member w (below m)
member_below w zero lt = absurd (omega arith)
member_below w (suc m) lt = elim (cases_eq w m) [
  | inl e ↦ last (below m) e
  | inr ne ↦ front (below m) (member_below w m (omega (arith, lt, ne)))
]
  where
    last : (xs : List ℕ) → w ≡ m → Member w (xs ++ m ∷ [])
    last [] e = inl (sym e)
    last (x ∷ xs) e = inr (last xs e)

    front : (xs : List ℕ) → Member w xs → Member w (xs ++ m ∷ [])
    front [] q = absurd q
    front (x ∷ xs) (inl e) = inl e
    front (x ∷ xs) (inr q) = inr (front xs q)

unstopped : (o : Option ℕ) → is_some o ≡ false → o ≡ None
unstopped None e = refl
unstopped (Some k) e = absurd (let bad : true ≡ false = e in cc)

record_is : (u t : Act Txn) → Record u ≡ Record t → u ≡ t
record_is u t e = cc e

module _ (set : Setting) (m n : ℕ) where
  -- ---- workers

  -- all rest: none has a call in hand, and none waits where no disk has failed
  record AtRest (s : Core) : Type 0 where
    hands : (w : ℕ) → w < m → (s.workers w).hand ≡ None
    waiting : is_raised set m n s ≡ false → (w : ℕ) → w < m → (s.workers w).waiting ≡ []

  rests_all : (s : Core) → is_busy set m n s ≡ false → AtRest s
  rests_all s e = record {
    hands = λ w lt. rest_hand set m n s w lt (busy_none set m n s e w lt);
    waiting = λ going w lt. rest_waiting set m n s w lt going (busy_none set m n s e w lt);
  }

  alone_end : (w : ℕ) (P P' : Progress) → Alone set m n w P P' → has_work set m n P'.state w ≡ false
  alone_end w P P' (Alone.over none) = none
  alone_end w P P' (Alone.again {q = Q} h more) = alone_end w Q P' more

  alone_others : (w u : ℕ) → (u ≡ w → ⊥) → (P P' : Progress) → Alone set m n w P P' → P'.state.workers u ≡ P.state.workers u
  alone_others w u ne P P' (Alone.over none) = refl
  alone_others w u ne P P' (Alone.again {q = Q} h more) = alone_others w u ne Q P' more ∙ worked_others set m n P Q w u ne true h

  alone_streams : (w : ℕ) (P P' : Progress) → Alone set m n w P P' → P'.state.streams ≡ P.state.streams
  alone_streams w P P' (Alone.over none) = refl
  alone_streams w P P' (Alone.again {q = Q} h more) = alone_streams w Q P' more ∙ worked_streams set m n P Q w true h

  -- after a call that ran alone all rest again
  rests_again : (w : ℕ) → w < m → (P A B : Progress) → AtRest P.state → is_raised set m n P.state ≡ false → Goes set m n (Resume w) P A → Alone set m n w A B → AtRest B.state
  rests_again w lt P A B rest going g a =
      let q = g.leads.0 in
      let raised : is_raised set m n B.state ≡ false =
      raised_same set m n A.state B.state (alone_streams w A B a) ∙ raised_same set m n P.state A.state (ap (λ (c : Core). c.streams) q.after) ∙ going in
      let done = alone_end w A B a in
      record {
        hands = λ u below. elim (cases_eq u w) [
          | inl e ↦ subst (λ (k : ℕ). (B.state.workers k).hand ≡ None) (sym e) (rest_hand set m n B.state w lt done)
          | inr ne ↦ ap (λ (wk : Worker). wk.hand) (alone_others w u ne A B a) ∙ ap (λ (c : Core). (c.workers u).hand) q.after ∙ ap (λ (wk : Worker). wk.hand) (at_other w _ P.state.workers u ne) ∙ rest.hands u below
        ];
        waiting = λ none u below. elim (cases_eq u w) [
          | inl e ↦ subst (λ (k : ℕ). (B.state.workers k).waiting ≡ []) (sym e) (rest_waiting set m n B.state w lt raised done)
          | inr ne ↦ ap (λ (wk : Worker). wk.waiting) (alone_others w u ne A B a) ∙ ap (λ (c : Core). (c.workers u).waiting) q.after ∙ ap (λ (wk : Worker). wk.waiting) (at_other w _ P.state.workers u ne) ∙ rest.waiting going u below
        ];
      }

  -- and where no disk has failed none is left over
  record NoneOver (s : Core) : Type 0 where
    rest : AtRest s
    none : is_raised set m n s ≡ false → any_left set m n s ≡ false

  left_end : (P P' : Progress) → AtRest P.state → LeftOver set m n P P' → NoneOver P'.state
  left_end P P' rest (LeftOver.over none) = record { rest = rest; none = λ going. second (is_raised set m n P.state) (any_left set m n P.state) going none }
    where
      second : (a b : Bool) → a ≡ false → (not a && b) ≡ false → b ≡ false
      second false b f q = q
      second true b f q = absurd (not_both true f refl)
  left_end P P' rest (LeftOver.again {a = A} {b = B} w going lt g a more) = left_end B P' (rests_again w lt P A B rest going g a) more

  empty_none : {A : Type 0} (xs : List A) → not (is_empty xs) ≡ false → xs ≡ []
  empty_none [] e = refl
  empty_none (x ∷ xs) e = absurd (not_both true e refl)

  done_left : (s : Core) → NoneOver s → is_raised set m n s ≡ false → (w : ℕ) → w < m → (s.workers w).left ≡ []
  done_left s d going w lt = empty_none (s.workers w).left (none_below (λ u. not (is_empty (s.workers u).left)) m (d.none going) w lt)

  -- ---- what managers keep

  module _ (Q : Core → Core → Type 0) (none : (s : Core) → Q s s) (on : (s t u : Core) → Q s t → Q t u → Q s u) (allows : Event → Type 0) (leads : (e : Event) (s s' : Core) (new : List (Act Txn)) → allows e → Leads set e s s' new → Q s s') where
    idled_keep : (j : ℕ) → allows (Gather j) → ((u : ℕ) → allows (Persist j u)) → ((u : ℕ) → allows (Stop j u)) → (P P' : Progress) → Idled set m n j P P' → Q P.state P'.state
    idled_keep j g p s P P' (Idled.failed e) = none P.state
    idled_keep j g p s P P' (Idled.idle h f) = leads (Gather j) P.state P'.state h.0.new g h.0.leads
    idled_keep j g p s P P' (Idled.again A B e h k more) =
        on P.state B.state P'.state (managed_keep set m n Q none on allows leads j g p s true P B (whole_turn P A B e h k)) (idled_keep j g p s B P' more)
      where
        whole_turn : (P A B : Progress) → is_going set m n P.state j ≡ true → Gathers set m n j P A → Flushed set m n j A B → ManagedPart set m n true j P B
        whole_turn P A B e h k = subst (λ (b : Bool). IfSo b ((q : Progress) × Gathers set m n j P q × Flushed set m n j q B) (Stays P B)) (sym e) (A, h, k)

    cleared_keeps : ((w : ℕ) (v : List ℕ) → allows (Ack w v)) → (w : ℕ) (whole : Bool) (P P' : Progress) → Cleared set m n w whole P P' → Q P.state P'.state
    cleared_keeps acks w whole P P' (Cleared.none e) = none P.state
    cleared_keeps acks w whole P P' (Cleared.next {q = R} t more) = on P.state R.state P'.state (leads (Ack w P.state.plv) P.state R.state [] (acks w P.state.plv) t.leads) (cleared_keeps acks w whole R P' more)
    cleared_keeps acks w whole P P' Cleared.cut = none P.state

    each_keeps : {A : Type 0} (step : Bool → A → Progress → Progress → Type 0) → (xs : List A) → ((x : A) (P P' : Progress) → Member x xs → step true x P P' → Q P.state P'.state) → (P P' : Progress) → OneByOne set m n step true xs P P' → Q P.state P'.state
    each_keeps step [] each P P' h = subst (λ (X : Progress). Q P.state X.state) (sym h) (none P.state)
    each_keeps step (x ∷ xs) each P P' h = on P.state h.0.state P'.state (each x P h.0 (inl refl) h.1) (each_keeps step xs (λ y A B q k. each y A B (inr q) k) h.0 P' h.2)

  -- a stream that is not stopped was not stopped
  abbrev WasGoing : ℕ → Core → Core → Type 0
  WasGoing j s s' = (s'.streams j).stop ≡ None → (s.streams j).stop ≡ None

  -- an event of a manager or of the clerk
  abbrev IsLate : Event → Type 0
  IsLate (Gather j) = Unit {0}
  IsLate (Persist j u) = Unit {0}
  IsLate (Stop j u) = Unit {0}
  IsLate (Ack w v) = Unit {0}
  IsLate _ = ⊥

  was_going : (j : ℕ) (e : Event) (s s' : Core) (new : List (Act Txn)) → IsLate e → Leads set e s s' new → WasGoing j s s'
  was_going j (Lock u) s s' new o q = absurd o
  was_going j (Busy u) s s' new o q = absurd o
  was_going j (Quit u up) s s' new o q = absurd o
  was_going j (Commit u) s s' new o q = absurd o
  was_going j (Post u) s s' new o q = absurd o
  was_going j (Free u) s s' new o q = absurd o
  was_going j (FirstFree u) s s' new o q = absurd o
  was_going j (Done u) s s' new o q = absurd o
  was_going j (DoneReading u) s s' new o q = absurd o
  was_going j (Drop i v) s s' new o q = absurd o
  was_going j (Gather i) s s' new o q = λ e. sym (gathered_stop set i j s s' q.0) ∙ e
  was_going j (PlaceAnchor i v) s s' new o q = absurd o
  was_going j (Persist i upto) s s' new o q = λ e. sym (ap (λ (c : Core). (c.streams j).stop) q.0.after) ∙ e
  was_going j (Ack u v) s s' new o q = λ e. sym (ap (λ (c : Core). (c.streams j).stop) q.0.after) ∙ e
  was_going j (Stop i upto) s s' new o q = λ e. elim (cases_eq j i) [
    | inl is ↦ (let now : (s'.streams i).stop ≡ Some upto = ap (λ (c : Core). (c.streams i).stop) q.0.after ∙ ap (λ (x : Stream). x.stop) (at_same i (record (s.streams i) { stop = Some upto }) s.streams) in
        absurd (none_some (s'.streams j).stop upto e (subst (λ (k : ℕ). (s'.streams k).stop ≡ Some upto) (sym is) now)))
    | inr ne ↦ sym (ap (λ (c : Core). (c.streams j).stop) q.0.after ∙ ap (λ (x : Stream). x.stop) (at_other i (record (s.streams i) { stop = Some upto }) s.streams j ne)) ∙ e
  ]
  was_going j (Resume u) s s' new o q = absurd o

  -- what waits of a stream, and how far it is gathered and persisted, is as it was
  record Apart (j : ℕ) (s s' : Core) : Type 0 where
    own : (s'.streams j).posted ≡ (s.streams j).posted
    posted : (w : ℕ) → set.stream_of w ≡ j → (s'.outboxes w).posted ≡ (s.outboxes w).posted
    gathered : slice_index s'.gathered j ≡ slice_index s.gathered j
    plv : slice_index s'.plv j ≡ slice_index s.plv j

  apart_none : (j : ℕ) (s : Core) → Apart j s s
  apart_none j s = record { own = refl; posted = λ w e. refl; gathered = refl; plv = refl }

  apart_on : (j : ℕ) (s t u : Core) → Apart j s t → Apart j t u → Apart j s u
  apart_on j s t u a b = record { own = b.own ∙ a.own; posted = λ w e. b.posted w e ∙ a.posted w e; gathered = b.gathered ∙ a.gathered; plv = b.plv ∙ a.plv }

  -- an event of another manager, or of the clerk
  abbrev IsApart : ℕ → Event → Type 0
  IsApart j (Gather i) = j ≡ i → ⊥
  IsApart j (Persist i u) = j ≡ i → ⊥
  IsApart j (Stop i u) = j ≡ i → ⊥
  IsApart j (Ack w v) = Unit {0}
  IsApart j _ = ⊥

  apart_gathered : (j i : ℕ) → (j ≡ i → ⊥) → (s s' : Core) → Gathered set i s s' → Apart j s s'
  apart_gathered j i ne s s' stop = apart_none j s
  apart_gathered j i ne s s' (record_first {m = M} w q more) = apart_on j s M s' (record {
    own = ap (λ (c : Core). (c.streams j).posted) q.after ∙ ap (λ (x : Stream). x.posted) (at_other i (record (s.streams i) { moved = (s.streams i).moved ++ q.item ∷ [] }) s.streams j ne);
    posted = λ v e. ap (λ (c : Core). (c.outboxes v).posted) q.after ∙ ap (λ (x : Outbox). x.posted) (at_other w (record (s.outboxes w) { posted = q.others }) s.outboxes v (λ same. ne (sym e ∙ ap set.stream_of same ∙ q.whose)));
    gathered = ap (λ (c : Core). slice_index c.gathered j) q.after ∙ get_or-set_other s.gathered i j (past_of q.item) 0 ne;
    plv = ap (λ (c : Core). slice_index c.plv j) q.after;
  }) (apart_gathered j i ne M s' more)
  apart_gathered j i ne s s' (anchor_first {m = M} q more) = apart_on j s M s' (record {
    own = ap (λ (c : Core). (c.streams j).posted) q.after ∙ ap (λ (x : Stream). x.posted) (at_other i (record (s.streams i) { posted = q.others; moved = (s.streams i).moved ++ q.item ∷ [] }) s.streams j ne);
    posted = λ v e. ap (λ (c : Core). (c.outboxes v).posted) q.after;
    gathered = ap (λ (c : Core). slice_index c.gathered j) q.after ∙ get_or-set_other s.gathered i j (past_of q.item) 0 ne;
    plv = ap (λ (c : Core). slice_index c.plv j) q.after;
  }) (apart_gathered j i ne M s' more)

  apart_event : (j : ℕ) (e : Event) (s s' : Core) (new : List (Act Txn)) → IsApart j e → Leads set e s s' new → Apart j s s'
  apart_event j (Lock u) s s' new o q = absurd o
  apart_event j (Busy u) s s' new o q = absurd o
  apart_event j (Quit u up) s s' new o q = absurd o
  apart_event j (Commit u) s s' new o q = absurd o
  apart_event j (Post u) s s' new o q = absurd o
  apart_event j (Free u) s s' new o q = absurd o
  apart_event j (FirstFree u) s s' new o q = absurd o
  apart_event j (Done u) s s' new o q = absurd o
  apart_event j (DoneReading u) s s' new o q = absurd o
  apart_event j (Drop i v) s s' new o q = absurd o
  apart_event j (Gather i) s s' new o q = apart_gathered j i o s s' q.0
  apart_event j (PlaceAnchor i v) s s' new o q = absurd o
  apart_event j (Persist i upto) s s' new o q = record {
    own = ap (λ (c : Core). (c.streams j).posted) q.0.after;
    posted = λ w e. ap (λ (c : Core). (c.outboxes w).posted) q.0.after;
    gathered = ap (λ (c : Core). slice_index c.gathered j) q.0.after;
    plv = ap (λ (c : Core). slice_index c.plv j) q.0.after ∙ get_or-set_other s.plv i j upto 0 o;
  }
  apart_event j (Ack w v) s s' new o q = let a = q.0 in record {
    own = ap (λ (c : Core). (c.streams j).posted) a.after;
    posted = λ u e. ap (λ (c : Core). (c.outboxes u).posted) a.after ∙ outbox_kept u w (record (s.outboxes w) { pending = a.front ++ a.back }) s.outboxes refl;
    gathered = ap (λ (c : Core). slice_index c.gathered j) a.after;
    plv = ap (λ (c : Core). slice_index c.plv j) a.after;
  }
    where
      outbox_kept : (u w : ℕ) (x : Outbox) (f : ℕ → Outbox) → x.posted ≡ (f w).posted → (at w x f u).posted ≡ (f u).posted
      outbox_kept u w x f e = elim (cases_eq u w) [
        | inl is ↦ subst (λ (k : ℕ). (at w x f k).posted ≡ (f k).posted) (sym is) (ap (λ (o : Outbox). o.posted) (at_same w x f) ∙ e)
        | inr ne ↦ ap (λ (o : Outbox). o.posted) (at_other w x f u ne)
      ]
  apart_event j (Stop i upto) s s' new o q = record {
    own = ap (λ (c : Core). (c.streams j).posted) q.0.after ∙ ap (λ (x : Stream). x.posted) (at_other i (record (s.streams i) { stop = Some upto }) s.streams j o);
    posted = λ w e. ap (λ (c : Core). (c.outboxes w).posted) q.0.after;
    gathered = ap (λ (c : Core). slice_index c.gathered j) q.0.after;
    plv = ap (λ (c : Core). slice_index c.plv j) q.0.after;
  }
  apart_event j (Resume u) s s' new o q = absurd o

  -- nothing more can be gathered of the stream, and it is persisted; or it was stopped
  record Settled (j : ℕ) (s : Core) : Type 0 where
    gathered : IsGathered set m j s
    persisted : slice_index s.gathered j ≡ slice_index s.plv j

  settled_apart : (j : ℕ) (s s' : Core) → Apart j s s' → Settled j s → Settled j s'
  settled_apart j s s' a g = record {
    gathered = record {
      near = (let e = a.gathered in let f = a.plv in let most = g.gathered.near in omega (arith, e, f, most));
      own = waits (s.streams j).posted (s'.streams j).posted a.own g.gathered.own;
      posted = λ w lt e. waits (s.outboxes w).posted (s'.outboxes w).posted (a.posted w e) (g.gathered.posted w lt e);
    };
    persisted = a.gathered ∙ g.persisted ∙ sym a.plv;
  }
    where
      one : (xs : List Item) → Waits s j xs → Waits s' j xs
      one [] q = tt
      one (i ∷ xs) q = λ e. (let less = q (e ∙ a.gathered) in let p = a.plv in omega (arith, less, p))

      waits : (xs ys : List Item) → ys ≡ xs → Waits s j xs → Waits s' j ys
      waits xs ys e q = subst (λ (zs : List Item). Waits s' j zs) (sym e) (one xs q)

  is_equal : (a b : ℕ) → (a == b) ≡ true → a ≡ b
  is_equal a b e = elim (cases_eq a b) [ inl p ↦ p | inr ne ↦ absurd (not_both (a == b) (ne_eqb a b ne) e) ]

  idled_settled : (j : ℕ) → j < n → (P P' : Progress) → (P'.state.streams j).stop ≡ None → Idled set m n j P P' → Settled j P'.state
  idled_settled j lt P P' going (Idled.failed f) = absurd (stopped_there set m n j lt P.state f going)
  idled_settled j lt P P' going (Idled.idle h all) = record { gathered = h.1; persisted = is_equal (slice_index P'.state.gathered j) (slice_index P'.state.plv j) all }
  idled_settled j lt P P' going (Idled.again A B f h k more) = idled_settled j lt B P' going more

  -- after all managers each stream is settled that is not stopped
  all_settled : (j : ℕ) → j < n → (xs : List ℕ) (P P' : Progress) → Member j xs ⊎ Settled j P.state → (P'.state.streams j).stop ≡ None → OneByOne set m n (λ b i. Idled set m n i) true xs P P' → Settled j P'.state
  all_settled j lt [] P P' how going h = elim how [ inl q ↦ absurd q | inr s ↦ subst (λ (X : Progress). Settled j X.state) (sym h) s ]
  all_settled j lt (x ∷ xs) P P' how going (R, first, rest) =
      let later : (R.state.streams j).stop ≡ None =
      each_keeps (WasGoing j) (λ s e. e) (λ s t u a b e. a (b e)) IsLate (was_going j) (λ b i. Idled set m n i) xs
      (λ i A B q k. idled_keep (WasGoing j) (λ s e. e) (λ s t u a b e. a (b e)) IsLate (was_going j) i tt (λ u. tt) (λ u. tt) A B k) R P' rest going in
      all_settled j lt xs R P' (elim (cases_eq j x) [
        | inl e ↦ inr (idled_settled j lt P R later (subst (λ (k : ℕ). Idled set m n k P R) (sym e) first))
        | inr ne ↦ elim how [
          | inl q ↦ elim q [ inl is ↦ absurd (ne (sym is)) | inr more ↦ inl more ]
          | inr s ↦ inr (settled_apart j P.state R.state (idled_keep (Apart j) (apart_none j) (apart_on j) (IsApart j) (apart_event j) x ne (λ u. ne) (λ u. ne) P R first) s)
        ]
      ]) going rest

  -- ---- the clerk

  abbrev NoneCovered : ℕ → Core → Type 0
  NoneCovered w s = list_any (λ (k : Ticket). covers s.plv k.lv) (s.outboxes w).pending ≡ false

  cleared_end : (w : ℕ) (whole : Bool) (P P' : Progress) → whole ≡ true → Cleared set m n w whole P P' → NoneCovered w P'.state
  cleared_end w whole P P' e (Cleared.none none) = none
  cleared_end w whole P P' e (Cleared.next {q = R} t more) = cleared_end w whole R P' e more
  cleared_end w whole P P' e Cleared.cut = absurd (not_both false refl e)

  cleared_other : (w u : ℕ) → (u ≡ w → ⊥) → (whole : Bool) (P P' : Progress) → NoneCovered u P.state → Cleared set m n w whole P P' → NoneCovered u P'.state
  cleared_other w u ne whole P P' none (Cleared.none e) = none
  cleared_other w u ne whole P P' none (Cleared.next {q = R} t more) =
      let a = t.leads.0 in
      let plv = ap (λ (c : Core). c.plv) a.after in
      let same = ap (λ (c : Core). (c.outboxes u).pending) a.after ∙ ap (λ (o : Outbox). o.pending) (at_other w (record (P.state.outboxes w) { pending = a.front ++ a.back }) P.state.outboxes u ne) in
      cleared_other w u ne whole R P' (subst (λ (v : List ℕ). list_any (λ (k : Ticket). covers v k.lv) (R.state.outboxes u).pending ≡ false) (sym plv)
      (subst (λ (ks : List Ticket). list_any (λ (k : Ticket). covers P.state.plv k.lv) ks ≡ false) (sym same) none)) more
  cleared_other w u ne whole P P' none Cleared.cut = none

  all_cleared : (w : ℕ) (xs : List ℕ) (P P' : Progress) → Member w xs ⊎ NoneCovered w P.state → OneByOne set m n (λ b u. Cleared set m n u b) true xs P P' → NoneCovered w P'.state
  all_cleared w [] P P' how h = elim how [ inl q ↦ absurd q | inr s ↦ subst (λ (X : Progress). NoneCovered w X.state) (sym h) s ]
  all_cleared w (x ∷ xs) P P' how (R, first, rest) = all_cleared w xs R P' (elim (cases_eq w x) [
    | inl e ↦ inr (cleared_end w true P R refl (subst (λ (k : ℕ). Cleared set m n k true P R) (sym e) first))
    | inr ne ↦ elim how [
      | inl q ↦ elim q [ inl is ↦ absurd (ne (sym is)) | inr more ↦ inl more ]
      | inr s ↦ inr (cleared_other x w ne true P R s first)
    ]
  ]) rest

  none_filtered : {A : Type 0} (f : A → Bool) (xs : List A) → list_any f xs ≡ false → filter f xs ≡ []
  none_filtered f [] e = refl
  none_filtered f (x ∷ xs) e = elim (cases_Bool (f x)) [
    | inl yes' ↦ absurd (not_both true (rw yes' at e) refl)
    | inr no' ↦ rw no' (none_filtered f xs (rw no' at e))
  ]

  -- ---- all of it

  -- whatever lies beyond the workers rests
  pub record IsBeyond (s : Core) : Type 0 where
    pub hands : (w : ℕ) → m ≤ w → (s.workers w).hand ≡ None
    pub waiting : (w : ℕ) → m ≤ w → (s.workers w).waiting ≡ []
    pub left : (w : ℕ) → m ≤ w → (s.workers w).left ≡ []
    pub pending : (w : ℕ) → m ≤ w → (s.outboxes w).pending ≡ []

  -- no item that is posted is longer than a block
  pub record AreShort (s : Core) : Type 0 where
    pub posted : (w : ℕ) (i : Item) → w < m → Member i (s.outboxes w).posted → past_of i ≤ start_of i + MAX_BODY
    pub own : (j : ℕ) (i : Item) → j < n → Member i (s.streams j).posted → past_of i ≤ start_of i + MAX_BODY

  module _ (K : List (Act Txn)) (s : Core) (inv : Invariant set K s) (width : set.width ≡ n) (small : (k : ℕ) → set.worker_of k < m) (beyond : IsBeyond s) (short : AreShort s) where
    -- the first of those that are posted does not wait
    first_short : (j : ℕ) (g : StreamGood set K s j) → slice_index s.gathered j ≡ slice_index s.plv j → (xs : List Item) → ((i : Item) → Member i xs → PostedAt set s j i) → Ascending xs → Waits s j xs →
        ((i : Item) → Member i xs → past_of i ≤ start_of i + MAX_BODY) → (i : Item) → Member i xs → start_of i ≡ slice_index s.gathered j → ⊥
    first_short j g same [] posted up waits fits i q e = q
    first_short j g same (x ∷ xs) posted up waits fits i (inl is) e =
        let start : start_of x ≡ slice_index s.gathered j = ap start_of is ∙ e in
        let long = waits start in
        let short = fits x (inl refl) in
        omega (arith, long, short, start, same)
    first_short j g same (x ∷ xs) posted up waits fits i (inr q) e =
        let before = up.0 i q in
        let there = chain_member (slice_index s.gathered j) (slice_index s.ends j) g.waiting x g.rest (g.posted x (posted x (inl refl))) in
        omega (arith, before, e, there.0, there.1)

    nothing_waits : (j : ℕ) → j < n → ((w : ℕ) → (s.workers w).hand ≡ None) → Settled j s → slice_index s.plv j ≡ slice_index s.ends j
    nothing_waits j lt rests settled = by (good.waiting) good.rest (λ i q. q)
      where
        good : StreamGood set K s j
        good = inv.agrees.pieces.stream j (omega (arith, lt, width))

        posted_none : (i : Item) → Member i good.waiting → start_of i ≡ slice_index s.gathered j → PostedAt set s j i → ⊥
        posted_none i q e (inl (w, whose, there)) = elim (cases_lt w m) [
          | inl below ↦ first_short j good settled.persisted (s.outboxes w).posted (λ k p. inl (w, whose, p)) (inv.agrees.pieces.ascending w) (settled.gathered.posted w below whose) (λ k p. short.posted w k below p) i there e
          | inr beyond ↦ (let (t, is, by) = inv.agrees.pieces.whose w i there in
              let worker = worker_below t (records_there i t is q) in
              omega (arith, worker, by, beyond))
        ]
          where
            worker_below : (t : Act Txn) → Member t K → t.call.worker < m
            worker_below t p = let c = (committed_theorem set K s inv).0 t p in subst (λ (k : ℕ). k < m) c.1 (small t.call.call.number)

            records_there : (i : Item) (t : Act Txn) → i ≡ Record t → Member i good.waiting → Member t K
            records_there i t is q =
                (member_filtered (in_stream (λ (t : Act Txn). t.call.place) (λ t. updates t.effect) j) t K
                (subst (λ (ts : List (Act Txn)). Member t ts) good.records (subst (λ (ts : List (Act Txn)). Member t ts) (sym (records_append (s.streams j).moved good.waiting))
                (member_back t (records_in (s.streams j).moved) (records_in good.waiting) (record_member good.waiting t (subst (λ (k : Item). Member k good.waiting) is q)))))).0
        posted_none i q e (inr there) = first_short j good settled.persisted (s.streams j).posted (λ k p. inr p) (inv.agrees.pieces.ascending_own j) settled.gathered.own (λ k p. short.own j k lt p) i there e

        flying_none : (i : Item) → Flying set s j i → ⊥
        flying_none i (w, whose, (t, is, placed)) = none_some (placed_in (s.workers w).hand) t (ap placed_in (rests w)) placed

        by : (xs : List Item) → Chain (slice_index s.gathered j) xs (slice_index s.ends j) → ((i : Item) → Member i xs → Member i good.waiting) → slice_index s.plv j ≡ slice_index s.ends j
        by [] e all = sym settled.persisted ∙ e
        by (i ∷ xs) c all = absurd (elim (good.there i (all i (inl refl))) [
          | inl p ↦ posted_none i (all i (inl refl)) c.0 p
          | inr f ↦ flying_none i f
        ])

  -- after rounds in which no worker had anything to do
  module _ (rounds alone flushed P : Progress) (none : is_busy set m n rounds.state ≡ false) (left_over : LeftOver set m n rounds alone) (managers : OneByOne set m n (λ b j. Idled set m n j) true (below n) alone flushed)
      (clerk : Clerked set m n true flushed P) where
    over : NoneOver alone.state
    over = left_end rounds alone (rests_all rounds.state none) left_over

    clerk_keeps : (Q : Core → Core → Type 0) → ((s : Core) → Q s s) → ((s t u : Core) → Q s t → Q t u → Q s u) → (allows : Event → Type 0) → ((e : Event) (s s' : Core) (new : List (Act Txn)) → allows e → Leads set e s s' new → Q s s') →
        ((w : ℕ) (v : List ℕ) → allows (Ack w v)) → Q flushed.state P.state
    clerk_keeps Q same on allows leads acks = each_keeps Q same on allows leads (λ b w. Cleared set m n w b) (below m) (λ w A B q k. cleared_keeps Q same on allows leads acks w true A B k) flushed P clerk

    same : P.state.workers ≡ alone.state.workers
    same =
        clerk_keeps (λ s s'. s'.workers ≡ s.workers) (λ s. refl) (λ s t u a b. b ∙ a) IsElsewhere (elsewhere set) (λ w v. tt)
        ∙ each_keeps (λ s s'. s'.workers ≡ s.workers) (λ s. refl) (λ s t u a b. b ∙ a) IsElsewhere (elsewhere set) (λ b i. Idled set m n i) (below n)
        (λ i A B q k. idled_keep (λ s s'. s'.workers ≡ s.workers) (λ s. refl) (λ s t u a b. b ∙ a) IsElsewhere (elsewhere set) i tt (λ u. tt) (λ u. tt) A B k) alone flushed managers

    before_clerk : (j : ℕ) → (P.state.streams j).stop ≡ None → (flushed.state.streams j).stop ≡ None
    before_clerk j e = clerk_keeps (WasGoing j) (λ s q. q) (λ s t u a b q. a (b q)) IsLate (was_going j) (λ w v. tt) e

    before_managers : (j : ℕ) → (flushed.state.streams j).stop ≡ None → (alone.state.streams j).stop ≡ None
    before_managers j e = each_keeps (WasGoing j) (λ s q. q) (λ s t u a b q. a (b q)) IsLate (was_going j) (λ b i. Idled set m n i) (below n)
        (λ i A B q k. idled_keep (WasGoing j) (λ s q. q) (λ s t u a b q. a (b q)) IsLate (was_going j) i tt (λ u. tt) (λ u. tt) A B k) alone flushed managers e

    settled : (j : ℕ) → j < n → (P.state.streams j).stop ≡ None → Settled j P.state
    settled j lt going = settled_apart j flushed.state P.state (clerk_keeps (Apart j) (apart_none j) (apart_on j) (IsApart j) (apart_event j) (λ w v. tt))
        (all_settled j lt (below n) alone flushed (inl (member_below j n lt)) (before_clerk j going) managers)

    not_before : is_raised set m n P.state ≡ false → is_raised set m n alone.state ≡ false
    not_before e = any_none (λ j. is_some (alone.state.streams j).stop) n
        (λ j lt. ap is_some (before_managers j (before_clerk j (unstopped (P.state.streams j).stop (none_below (λ i. is_some (P.state.streams i).stop) n e j lt)))))

    pub late_ends : HasEnded set m n P.state
    late_ends = record {
      hands = λ w lt. ap (λ (f : ℕ → Worker). (f w).hand) same ∙ over.rest.hands w lt;
      done = λ going w lt. (ap (λ (f : ℕ → Worker). (f w).waiting) same ∙ over.rest.waiting (not_before going) w lt, ap (λ (f : ℕ → Worker). (f w).left) same ∙ done_left alone.state over (not_before going) w lt);
      gathered = λ j lt going. let k = settled j lt going in (k.gathered, k.persisted);
      told = λ w lt. all_cleared w (below m) flushed P (inl (member_below w m lt)) clerk;
    }

  -- of what is done in the style Locking once rounds have ended
  ends_by : (y x : RunState) → y ≡ still y.progress → any_turn set m n y ≡ false → Steps set m n Locking (late set m n) y [] x → HasEnded set m n x.progress.state
  ends_by y x e none s =
      let after = wholes set m n (late set m n) y x s (all_late set m n) e in
      let parts = wholes_append set m n (map todo.Drain (below n)) (todo.Word turn.Clerk ∷ []) after.0 x.progress after.2 in
      late_ends y.progress after.0 parts.0 x.progress (subst (λ (z : RunState). any_turn set m n z ≡ false) e none) after.1 (drains set m n after.0 parts.0 parts.1)
      (only set m n (Clerked set m n true) parts.0 parts.2.0 x.progress parts.2.1 parts.2.2)

pub ends_law : WholeRunsEnd
ends_law set m n style turns opening x s =
    let (y, peeked, none, last) = ends_in set m n style turns opening x s in
    (steps_still set m n (late set m n) [] y x last peeked, ends_by set m n y x peeked none last)

module _ (set : Setting) (m n : ℕ) where
  pub whole_over : (style : Style) (turns : List Turn) (opening : Core) (K : List (Act Txn)) (x : RunState) → Invariant set K (state_of x) → set.width ≡ n → ((k : ℕ) → set.worker_of k < m) → IsBeyond set m n (state_of x) → AreShort set m n (state_of x) →
      IsWhole set m n style turns opening x → IsOver n (state_of x)
  whole_over style turns opening K x inv width small beyond short r = record {
    rests = rests;
    persisted = λ j lt going. nothing_waits set m n K (state_of x) inv width small beyond short j lt rests (record { gathered = (ended.gathered j lt going).0; persisted = (ended.gathered j lt going).1 });
    told = λ w. elim (cases_lt w m) [
      | inl lt ↦ none_filtered set m n (λ (k : Ticket). covers (state_of x).plv k.lv) ((state_of x).outboxes w).pending (ended.told w lt)
      | inr le ↦ ap (filter (λ (k : Ticket). covers (state_of x).plv k.lv)) (beyond.pending w le)
    ];
    done = λ going w. elim (cases_lt w m) [
      | inl lt ↦ ended.done (any_none (λ j. is_some ((state_of x).streams j).stop) n (λ j less. ap is_some (going j less))) w lt
      | inr le ↦ (beyond.waiting w le, beyond.left w le)
    ];
  }
    where
      ended : HasEnded set m n (state_of x)
      ended = (ends_law set m n style turns opening x r).1

      rests : (w : ℕ) → ((state_of x).workers w).hand ≡ None
      rests w = elim (cases_lt w m) [
        | inl lt ↦ ended.hands w lt
        | inr le ↦ beyond.hands w le
      ]
