-- A pass of the clerk over a worker.
use Rattle.std.proofs.Common.{ℕ, ◌≤◌, ◌<◌, ◌≡◌, ◌++◌, Bool, true, false, List, [], ◌∷◌, length, map, refl, sym, ap, subst, ◌∙◌, Option, arith, length-append}
use Rattle.std.specs.Prelude.{Some, slice_get, ◌||◌}
use Rattle.std.specs.List.{list_any}
use Rattle.std.proofs.lemmas.List.{append-nil, map-append}
use Rattle.tau_base.specs.Vectors.{covers}
use Rattle.tau_base.proofs.Vectors.{at_most_covers}
use Rattle.tau_model.specs.History.{Act}
use Rattle.tau_machine.specs.Hands.{Txn}
use Rattle.tau_shard.specs.Shard.{at}
use Rattle.tau_machine.specs.State.{Core, Ticket}
use Rattle.tau_machine.specs.Events as machine
use Rattle.tau_shard.proofs.At.{at_same}
use Rattle.tau_ack.specs.declared.Waiting.{Waiting}
use Rattle.tau_ack.specs.Pending.{NoneCovered, TakesFirst}
use Rattle.tau_core.specs.declared.state.Load.{Load}
use Rattle.tau_core.specs.Plain.{PlainSeat}
use Rattle.tau_core.specs.State.{Plain}
use Rattle.tau_core.specs.View.{Hidden, tickets, pending_in}
use Rattle.tau_core.specs.Stands.{Stands}
use Rattle.tau_core.specs.declared.event.Event.TheVariants as event
use Rattle.tau_core.specs.declared.event.Outcome.{Outcome}
use Rattle.tau_core.specs.declared.event.Outcome.TheVariants as outcome
use Rattle.tau_core.specs.Steps.{Steps, Happened, Unmoved, IsFirstCovered}
use Rattle.tau_run.specs.Turns.{Progress}
use Rattle.tau_step.specs.TurnParts.{none, next, cut}
use Rattle.tau_step.specs.Progressed.{progress, Comes, tells, clears}
use Rattle.tau_step.specs.Telling.{waiting_of}
use Rattle.tau_base.proofs.Lists.{some_at}

none_covered : (plv : List ℕ) (calls : List Waiting) → NoneCovered plv calls → list_any (λ (k : Ticket). covers plv k.lv) (tickets calls) ≡ false
none_covered plv [] q = refl
none_covered plv (c ∷ cs) q = ap (λ (b : Bool). b || list_any (λ (k : Ticket). covers plv k.lv) (tickets cs)) q.0 ∙ none_covered plv cs q.1

-- one that is taken out of those that wait
fewer : (plv : List ℕ) (calls others : List Waiting) (taken : Waiting) → TakesFirst plv calls taken others → length (tickets others) < length (tickets calls)
fewer plv calls others taken t =
    let f : Waiting → Ticket = λ c. record { number = c.number; lv = c.lv } in
    let all = ap (λ (l : List Waiting). length (map f l)) t.is in
    let rest = ap (λ (l : List Waiting). length (map f l)) t.left in
    let a = ap (length {A = Ticket}) (map-append f t.front (taken ∷ t.back)) ∙ length-append (map f t.front) (map f (taken ∷ t.back)) in
    let b = ap (length {A = Ticket}) (map-append f t.front t.back) ∙ length-append (map f t.front) (map f t.back) in
    omega arith

module _ (p p' : Plain) (K : List (Act Txn)) (h : Hidden) (g : Stands p K h) (es : List machine.Event) (told : List (ℕ × List ℕ)) (w : ℕ) (there : w < p.load.workers) where
  seat : (s : PlainSeat) × (slice_get p.seats w ≡ Some s)
  seat = some_at p.seats w (let e = g.sound.seats in omega arith)

  -- one is acknowledged
  pub acknowledged : (number : ℕ) (lv : List ℕ) (x : Happened (machine.Ack w p.plv) p p' K h) → x.hidden.acked ≡ at w (h.acked w ++ record { number = number; lv = lv } ∷ []) h.acked →
      IsFirstCovered p p' w number lv → Comes (tells w) p p' told (told ++ (number, lv) ∷ []) K h es
  acknowledged number lv x acked first =
      let alone : x.joined ≡ [] = x.leads.1 in
      let (s, is) = seat in
      let (s', is') = some_at p'.seats w (let e = x.stands.sound.seats in let l = ap (λ (k : Load). k.workers) x.load in omega arith) in
      let t = first s s' is is' in
      let order : K ++ x.joined ≡ K = ap (λ (j : List (Act Txn)). K ++ j) alone ∙ append-nil K in
      record {
        hidden = x.hidden;
        order = K;
        events = es ++ machine.Ack w p.plv ∷ [];
        stands = subst (λ (k : List (Act Txn)). Stands p' k x.hidden) order x.stands;
        load = x.load;
        taken = x.taken;
        moved = record {
          front = tickets t.front;
          ticket = record { number = number; lv = lv };
          back = tickets t.back;
          is = ap pending_in is ∙ ap tickets t.is ∙ map-append (λ (c : Waiting). record { number = c.number; lv = c.lv }) t.front (record { number = number; lv = lv } ∷ t.back);
          first = none_covered p.plv t.front t.before;
          covered = at_most_covers p.plv lv t.covered;
          leads = (x.leads.0, refl);
          acked = ap (λ (f : ℕ → List Ticket). f w) acked ∙ at_same w (h.acked w ++ record { number = number; lv = lv } ∷ []) h.acked;
          events = refl;
          joined = refl;
          told = refl;
        };
      }

  -- and fewer wait
  pub told_less : (number : ℕ) (lv : List ℕ) → Happened (machine.Ack w p.plv) p p' K h → IsFirstCovered p p' w number lv → waiting_of p' w < waiting_of p w
  told_less number lv x first =
      let (s, is) = seat in
      let (s', is') = some_at p'.seats w (let e = x.stands.sound.seats in let l = ap (λ (k : Load). k.workers) x.load in omega arith) in
      subst (λ (o : Option PlainSeat). length (pending_in o) < length (pending_in (slice_get p.seats w))) (sym is')
      (subst (λ (o : Option PlainSeat). length (tickets s'.pending.calls) < length (pending_in o)) (sym is)
      (fewer p.plv s.pending.calls s'.pending.calls (record { number = number; lv = lv }) (first s s' is is')))

  -- nothing is left that is covered
  pub cleared : Unmoved p p' K h → ((s : PlainSeat) → slice_get p.seats w ≡ Some s → NoneCovered p.plv s.pending.calls) → Comes (clears w true) p p' told told K h es
  cleared u covered =
      let (s, is) = seat in
      let P = progress p h es K told in
      let P' = progress p' u.hidden es K told in
      let same : P' ≡ P = ap (λ (c : Core). record { state = c; events = es; joined = K; told = told }) u.same in
      record {
        hidden = u.hidden;
        order = K;
        events = es;
        stands = u.stands;
        load = u.load;
        taken = u.taken;
        moved = subst (λ (Q : Progress). clears w true p.load P Q) (sym same)
            (none (ap (λ (o : Option PlainSeat). list_any (λ (k : Ticket). covers p.plv k.lv) (pending_in o)) is ∙ none_covered p.plv s.pending.calls (covered s is)));
      }

-- none waits
none_any : (f : Ticket → Bool) (calls : List Ticket) (some : Bool) → some ≡ false → (1 ≤ length calls → some ≡ true) → list_any f calls ≡ false
none_any f [] some e all = refl
none_any f (c ∷ cs) some e all = absurd (let bad : true ≡ false = sym (all (omega arith)) ∙ e in cc)

pub none_waits : (p : Plain) (K : List (Act Txn)) (h : Hidden) (es : List machine.Event) (told : List (ℕ × List ℕ)) (w : ℕ) (some : Bool) → some ≡ false → (1 ≤ length (pending_in (slice_get p.seats w)) → some ≡ true) →
    Stands p K h → Comes (clears w true) p p told told K h es
none_waits p K h es told w some e all g = record {
  hidden = h;
  order = K;
  events = es;
  stands = g;
  load = refl;
  taken = refl;
  moved = none (none_any (λ (k : Ticket). covers p.plv k.lv) (pending_in (slice_get p.seats w)) some e all);
}

-- whatever the step answered but an acknowledgement
pub nothing_told : (p p' : Plain) (K : List (Act Txn)) (h : Hidden) (g : Stands p K h) (es : List machine.Event) (told : List (ℕ × List ℕ)) (w : ℕ) → w < p.load.workers →
    (o : Outcome) → ((number : ℕ) (lv : List ℕ) → o ≡ outcome.Acked number lv → ⊥) → Steps p p' K h (event.Ack w) o → Comes (clears w true) p p' told told K h es
nothing_told p p' K h g es told w there outcome.Went not t = absurd t
nothing_told p p' K h g es told w there (outcome.Granted value) not t = absurd t
nothing_told p p' K h g es told w there (outcome.Busy holder) not t = absurd t
nothing_told p p' K h g es told w there (outcome.Placed start) not t = absurd t
nothing_told p p' K h g es told w there (outcome.Gathered upto) not t = absurd t
nothing_told p p' K h g es told w there (outcome.Acked number lv) not t = absurd (not number lv refl)
nothing_told p p' K h g es told w there outcome.NothingCovered not t = cleared p p' K h g es told w there t.0 t.1
nothing_told p p' K h g es told w there (outcome.NotNow phase) not t = absurd t
nothing_told p p' K h g es told w there outcome.NoMemory not t = absurd t

-- an acknowledgement and no more
pub told_cut : (w : ℕ) (l : Load) (P P' : Progress) → tells w l P P' → clears w false l P P'
told_cut w l P P' t = next t cut
