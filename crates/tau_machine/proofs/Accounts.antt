-- Calls and tickets through the events.
use Rattle.std.proofs.Common.{ℕ, ◌+◌, ◌≤◌, Bool, true, false, ◌≡◌, List, [], ◌∷◌, ◌++◌, map, refl, sym, ap, subst, ◌∙◌, Option, arith, append_assoc}
use Rattle.std.specs.Prelude.{Some, None, ◌==◌}
use Rattle.std.proofs.lemmas.List.{append-nil}
use Rattle.tau_base.specs.declared.value.Key.{Key}
use Rattle.tau_base.specs.declared.value.Mode.{Mode}
use Rattle.tau_model.specs.History.{Numbered, Act, Reordered}
use Rattle.tau_model.proofs.Reorder.{reordered_itself, reordered_trans, reordered_put}
use Rattle.tau_model.specs.declared.committed.Committed.{Committed}
use Rattle.tau_base.specs.declared.limits.TheConstants.{MAX_TRIES}
use Rattle.tau_machine.specs.Hands.{Txn, committed_of, Phase, Running, Quitting, Placed, Freeing, Hand, act_in, act_of}
use Rattle.tau_machine.specs.Worker.{Worker, fresh, begun_by, begun, settled_by, settled}
use Rattle.tau_machine.specs.State.{Setting, Ticket, ticket, ticket_of}
use Rattle.tau_machine.specs.Accounts.{one, in_calls, in_committed, in_phase, in_hand, in_worker, joined_list, Account}
use Rattle.tau_base.proofs.Lists.{map_append}

pub calls_append : (n : ℕ) (xs ys : List Numbered) → in_calls n (xs ++ ys) ≡ in_calls n xs + in_calls n ys
calls_append n [] ys = omega arith
calls_append n (c ∷ xs) ys = let e = calls_append n xs ys in omega arith

pub committed_append : (n : ℕ) (xs ys : List Committed) → in_committed n (xs ++ ys) ≡ in_committed n xs + in_committed n ys
committed_append n [] ys = omega arith
committed_append n (t ∷ xs) ys = let e = committed_append n xs ys in omega arith

-- one more at the end, which stands somewhere in the other list
more_last : {A : Type 0} (x : A) (xs front back : List A) → Reordered xs (front ++ back) → Reordered (xs ++ x ∷ []) (front ++ x ∷ back)
more_last {A} x xs front back r =
    reordered_trans (xs ++ x ∷ []) (x ∷ xs) (front ++ x ∷ back)
    (reordered_put x xs [] xs (subst (λ (l : List A). Reordered l xs) (sym (append-nil xs)) (reordered_itself xs))) (front, back, refl, r)

-- an element of the second list moves to its end
to_last : {A : Type 0} (x : A) (xs front mid back : List A) → Reordered xs ((front ++ x ∷ mid) ++ back) → Reordered xs ((front ++ mid) ++ (back ++ x ∷ []))
to_last {A} x xs front mid back r =
    let e : (front ++ x ∷ mid) ++ back ≡ front ++ x ∷ (mid ++ back) = append_assoc front (x ∷ mid) back in
    let f : ((front ++ mid) ++ back) ++ x ∷ [] ≡ (front ++ mid) ++ (back ++ x ∷ []) = append_assoc (front ++ mid) back (x ∷ []) in
    let h : (front ++ mid) ++ back ≡ front ++ (mid ++ back) = append_assoc front mid back in
    reordered_trans xs (front ++ x ∷ (mid ++ back)) ((front ++ mid) ++ (back ++ x ∷ [])) (subst (λ (l : List A). Reordered xs l) e r)
    (subst (λ (l : List A). Reordered (front ++ x ∷ (mid ++ back)) l) f
    (reordered_trans (front ++ x ∷ (mid ++ back)) (x ∷ (front ++ (mid ++ back))) (((front ++ mid) ++ back) ++ x ∷ [])
    (reordered_put x front (mid ++ back) (front ++ (mid ++ back)) (reordered_itself (front ++ (mid ++ back))))
    ((front ++ mid) ++ back, [], refl, subst (λ (l : List A). Reordered (front ++ (mid ++ back)) l) (sym (append-nil ((front ++ mid) ++ back))) (subst (λ (l : List A). Reordered (front ++ (mid ++ back)) l) (sym h) (reordered_itself (front ++ (mid ++ back)))))))

module _ (set : Setting) (w : ℕ) where
  -- a worker that counts no call more often, and has the same committed calls, with the same one in hand
  pub account_less : (wk wk' : Worker) (pending acked : List Ticket) → ((n : ℕ) → in_worker n wk' ≤ in_worker n wk) → wk'.committed ≡ wk.committed → act_in wk'.hand ≡ act_in wk.hand →
      Account set w wk pending acked → Account set w wk' pending acked
  account_less wk wk' pending acked less e f a = record {
    once = λ n. let l = less n in let o = a.once n in omega arith;
    whose = λ n h. a.whose n (let l = less n in omega arith);
    ended = a.ended;
    committed = e ∙ a.committed ∙ ap (λ (o : Option (Act Txn)). a.ended ++ joined_list o) (sym f);
    tickets = a.tickets;
  }

  pub account_begun : (width : ℕ) (wk : Worker) (pending acked : List Ticket) → Account set w wk pending acked → Account set w (begun width wk) pending acked
  account_begun width wk pending acked a = at' wk.hand wk.waiting refl refl
    where
      at' : (o : Option Hand) (cs : List Numbered) → wk.hand ≡ o → wk.waiting ≡ cs → Account set w (begun_by width wk o cs) pending acked
      at' (Some h) cs e f = a
      at' None [] e f = a
      at' None (c ∷ cs) e f = account_less wk (record wk { hand = Some (fresh width c 0); waiting = cs }) pending acked
          (λ n. let p : in_hand n wk.hand ≡ 0 = ap (in_hand n) e in let q : in_calls n wk.waiting ≡ one n c.number + in_calls n cs = ap (in_calls n) f in omega arith)
          refl (sym (ap act_in e)) a

  -- a call that is to quit
  pub account_settled : (width : ℕ) (wk : Worker) (h i : Hand) (pending acked : List Ticket) → wk.hand ≡ Some h → act_of h.phase ≡ None → i.phase ≡ Quitting → i.call ≡ h.call →
      Account set w wk pending acked → Account set w (settled width wk i) pending acked
  account_settled width wk h i pending acked is idle quits same a = at' i.held i.given_up (i.tries == MAX_TRIES)
    where
      phased : (n m : ℕ) (p : Phase) → act_of p ≡ None → in_phase n m p ≡ one n m
      phased n m Running e = refl
      phased n m Quitting e = refl
      phased n m (Placed t) e = cc
      phased n m (Freeing t) e = cc

      here : (n : ℕ) → in_hand n wk.hand ≡ one n i.call.number
      here n = ap (in_hand n) is ∙ phased n h.call.number h.phase idle ∙ ap (λ (c : Numbered). one n c.number) (sym same)

      none : act_in wk.hand ≡ None
      none = ap act_in is ∙ idle

      at' : (l : List (Key × Mode)) (up last : Bool) → Account set w (settled_by width wk i l up last) pending acked
      at' (k ∷ ks) up last = account_less wk (record wk { hand = Some i }) pending acked
          (λ n. let p = here n in let q : in_phase n i.call.number i.phase ≡ one n i.call.number = ap (in_phase n i.call.number) quits in omega arith) refl (ap act_of quits ∙ sym none) a
      at' [] true last = account_less wk (record wk { hand = None }) pending acked (λ n. omega arith) refl (sym none) a
      at' [] false true = account_less wk (record wk { hand = None; left = wk.left ++ i.call ∷ [] }) pending acked
          (λ n. let p = here n in let q : in_calls n (wk.left ++ i.call ∷ []) ≡ in_calls n wk.left + (one n i.call.number + 0) = calls_append n wk.left (i.call ∷ []) in omega arith) refl (sym none) a
      at' [] false false = account_less wk (record wk { hand = Some (fresh width i.call i.tries) }) pending acked
          (λ n. let p = here n in omega arith) refl (sym none) a

  -- a call joins
  pub account_joined : (wk wk' : Worker) (h h' : Hand) (t : Act Txn) (pending acked : List Ticket) → wk.hand ≡ Some h → h.phase ≡ Running → wk'.hand ≡ Some h' → act_of h'.phase ≡ Some t →
      t.call.call ≡ h.call → wk'.waiting ≡ wk.waiting → wk'.left ≡ wk.left → wk'.committed ≡ wk.committed ++ committed_of t ∷ [] →
      Account set w wk pending acked → Account set w wk' pending acked
  account_joined wk wk' h h' t pending acked is phase now act call waiting left committed a = record {
    once = λ n. let e = total n in let o = a.once n in omega arith;
    whose = λ n h. a.whose n (let e = total n in omega arith);
    ended = a.ended;
    committed = committed ∙ ap (λ (l : List Committed). l ++ committed_of t ∷ []) (a.committed ∙ ap (λ (o : Option (Act Txn)). a.ended ++ joined_list o) (ap act_in is ∙ ap act_of phase) ∙ append-nil a.ended)
        ∙ ap (λ (o : Option (Act Txn)). a.ended ++ joined_list o) (sym (ap act_in now ∙ act));
    tickets = a.tickets;
  }
    where
      joined : (n m : ℕ) (p : Phase) → act_of p ≡ Some t → in_phase n m p ≡ 0
      joined n m Running e = cc
      joined n m Quitting e = cc
      joined n m (Placed u) e = refl
      joined n m (Freeing u) e = refl

      total : (n : ℕ) → in_worker n wk' ≡ in_worker n wk
      total n =
          let p : in_hand n wk.hand ≡ one n h.call.number = ap (in_hand n) is ∙ ap (in_phase n h.call.number) phase in
          let q : in_hand n wk'.hand ≡ 0 = ap (in_hand n) now ∙ joined n h'.call.number h'.phase act in
          let r : in_committed n wk'.committed ≡ in_committed n wk.committed + (one n t.call.call.number + 0) = ap (in_committed n) committed ∙ committed_append n wk.committed (committed_of t ∷ []) in
          let u : one n t.call.call.number ≡ one n h.call.number = ap (λ (c : Numbered). one n c.number) call in
          let v : in_calls n wk'.waiting ≡ in_calls n wk.waiting = ap (in_calls n) waiting in
          let x : in_calls n wk'.left ≡ in_calls n wk.left = ap (in_calls n) left in
          omega arith

  -- a call ends
  pub account_ended : (wk wk' : Worker) (t : Act Txn) (pending acked : List Ticket) → act_in wk.hand ≡ Some t → wk'.hand ≡ None → wk'.waiting ≡ wk.waiting → wk'.left ≡ wk.left → wk'.committed ≡ wk.committed →
      Account set w wk pending acked → Account set w wk' (pending ++ ticket t ∷ []) acked
  account_ended wk wk' t pending acked act now waiting left committed a = record {
    once = λ n. let l = less n in let o = a.once n in omega arith;
    whose = λ n h. a.whose n (let l = less n in omega arith);
    ended = a.ended ++ committed_of t ∷ [];
    committed = committed ∙ a.committed ∙ ap (λ (o : Option (Act Txn)). a.ended ++ joined_list o) act
        ∙ sym (ap (λ (o : Option (Act Txn)). (a.ended ++ committed_of t ∷ []) ++ joined_list o) (ap act_in now) ∙ append-nil (a.ended ++ committed_of t ∷ []));
    tickets = subst (λ (l : List Ticket). Reordered l ((pending ++ ticket t ∷ []) ++ acked)) (sym (map_append ticket_of a.ended (committed_of t ∷ [])))
        (subst (λ (l : List Ticket). Reordered (map ticket_of a.ended ++ ticket t ∷ []) l) (sym (append_assoc pending (ticket t ∷ []) acked)) (more_last (ticket t) (map ticket_of a.ended) pending acked a.tickets));
  }
    where
      less : (n : ℕ) → in_worker n wk' ≤ in_worker n wk
      less n =
          let q : in_hand n wk'.hand ≡ 0 = ap (in_hand n) now in
          let r : in_committed n wk'.committed ≡ in_committed n wk.committed = ap (in_committed n) committed in
          let v : in_calls n wk'.waiting ≡ in_calls n wk.waiting = ap (in_calls n) waiting in
          let x : in_calls n wk'.left ≡ in_calls n wk.left = ap (in_calls n) left in
          omega arith

  -- a call is acknowledged
  pub account_acked : (wk : Worker) (front : List Ticket) (k : Ticket) (back acked : List Ticket) → Account set w wk (front ++ k ∷ back) acked → Account set w wk (front ++ back) (acked ++ k ∷ [])
  account_acked wk front k back acked a = record {
    once = a.once;
    whose = a.whose;
    ended = a.ended;
    committed = a.committed;
    tickets = to_last k (map ticket_of a.ended) front back acked a.tickets;
  }

  -- a left-over call comes back
  pub account_resumed : (wk : Worker) (front : List Numbered) (c : Numbered) (back : List Numbered) (pending acked : List Ticket) → wk.waiting ≡ [] → wk.left ≡ front ++ c ∷ back →
      Account set w wk pending acked → Account set w (record wk { waiting = c ∷ []; left = front ++ back }) pending acked
  account_resumed wk front c back pending acked none is a = account_less wk (record wk { waiting = c ∷ []; left = front ++ back }) pending acked
      (λ n.
      let p : in_calls n wk.left ≡ in_calls n front + (one n c.number + in_calls n back) = ap (in_calls n) is ∙ calls_append n front (c ∷ back) in
      let q = calls_append n front back in omega arith) refl refl a
