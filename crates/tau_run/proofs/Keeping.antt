-- A worker that gives no call up loses none, whatever the others do.
use Rattle.std.proofs.Common.{ℕ, ◌≤◌, Bool, true, false, ◌≡◌, inl, inr, List, [], ◌∷◌, ◌++◌, refl, sym, ap, subst, ◌∙◌, Option, arith}
use Rattle.std.specs.Prelude.{Some, None, ◌==◌, ◌||◌}
use Rattle.std.proofs.lemmas.Bool.{cases_eq}
use Rattle.tau_base.specs.declared.value.Key.{Key}
use Rattle.tau_base.specs.declared.value.Value.{Value}
use Rattle.tau_base.specs.declared.value.Mode.{Mode}
use Rattle.tau_base.specs.declared.value.Mode.TheVariants.{Read, Write}
use Rattle.tau_base.specs.declared.limits.TheConstants.{MAX_TRIES}
use Rattle.tau_model.specs.History.{Act, Numbered}
use Rattle.tau_model.specs.declared.committed.Committed.{Committed}
use Rattle.tau_machine.specs.Hands.{Txn, committed_of, Phase, Running, Quitting, Placed, Freeing, Hand, act_of}
use Rattle.tau_shard.specs.Shard.{at, entry_in}
use Rattle.tau_machine.specs.State.{Setting, Core}
use Rattle.tau_machine.specs.Worker.{Worker, fresh, begun_by, begun, settled_by, settled, hand_locked, hand_busy, hand_quit, hand_joined, hand_freed}
use Rattle.tau_machine.specs.Accounts.{one, in_calls, in_committed, in_phase, in_hand}
use Rattle.tau_machine.specs.Events.{Event, Lock, Busy, Quit, Commit, Post, Free, FirstFree, Done, DoneReading, Drop, Gather, PlaceAnchor, Persist, Ack, Stop, Resume, Leads, ready, Gathered, stop, record_first, anchor_first, Reads, Frees, Finishes}
use Rattle.tau_shard.proofs.At.{at_same, at_other}
use Rattle.tau_machine.proofs.Accounts.{calls_append, committed_append}
use Rattle.tau_machine.proofs.Commits.{begun_committed}
use Rattle.tau_run.specs.Keeping.{Keeps, KeepsOf, Steady}

pub keeps_on : (a b c : Worker) → Keeps a b → Keeps b c → Keeps a c
keeps_on a b c p q = record { all = λ n. (let x = p.all n in let y = q.all n in omega (arith, x, y)); steady = q.steady }

pub itself : (wk : Worker) → Steady wk → Keeps wk wk
itself wk h = record { all = λ n. omega arith; steady = h }

some_hand : (a b : Hand) → Some a ≡ Some b → a ≡ b
some_hand a b e = cc e

pub begun_keeps : (width : ℕ) (wk : Worker) → Steady wk → Keeps wk (begun width wk)
begun_keeps width wk steady = by_hand wk.hand wk.waiting refl refl
  where
    by_hand : (o : Option Hand) (cs : List Numbered) → wk.hand ≡ o → wk.waiting ≡ cs → Keeps wk (begun_by width wk o cs)
    by_hand (Some h) cs e f = itself wk steady
    by_hand None [] e f = itself wk steady
    by_hand None (c ∷ cs) e f = record {
      all = λ n. (let x = ap (in_calls n) f in let y = ap (in_hand n) e in omega (arith, x, y));
      steady = λ h g. ap (λ (x : Hand). x.given_up) (sym (some_hand (fresh width c 0) h g));
    }

-- another hand that accounts for the same call
pub hand_keeps : (wk : Worker) (h h' : Hand) → wk.hand ≡ Some h → Steady wk → ((n : ℕ) → in_hand n (Some h) ≤ in_hand n (Some h')) → h'.given_up ≡ h.given_up → Keeps wk (record wk { hand = Some h' })
hand_keeps wk h h' e steady more same = record {
  all = λ n. (let x = ap (in_hand n) e in let y = more n in omega (arith, x, y));
  steady = λ g f. (ap (λ (x : Hand). x.given_up) (sym (some_hand h' g f)) ∙ same ∙ steady h e);
}

phase_one : (n : ℕ) (m : ℕ) (p : Phase) → act_of p ≡ None → in_phase n m p ≡ one n m
phase_one n m Running e = refl
phase_one n m Quitting e = refl
phase_one n m (Placed t) e = absurd (cc e)
phase_one n m (Freeing t) e = absurd (cc e)

-- a call that is to quit
pub settled_keeps : (width : ℕ) (wk : Worker) (h h' : Hand) → wk.hand ≡ Some h → act_of h.phase ≡ None → h'.phase ≡ Quitting → h'.call ≡ h.call → h'.given_up ≡ false → Keeps wk (settled width wk h')
settled_keeps width wk h h' e none quits call up = by_held h'.held h'.given_up (h'.tries == MAX_TRIES) up
  where
    was : (n : ℕ) → in_hand n wk.hand ≡ one n h'.call.number
    was n = ap (in_hand n) e ∙ phase_one n h.call.number h.phase none ∙ ap (λ (c : Numbered). one n c.number) (sym call)

    now : (n : ℕ) → in_phase n h'.call.number h'.phase ≡ one n h'.call.number
    now n = ap (in_phase n h'.call.number) quits

    by_held : (held : List (Key × Mode)) (given last : Bool) → given ≡ false → Keeps wk (settled_by width wk h' held given last)
    by_held (k ∷ ks) given last g = record {
      all = λ n. (let x = was n in let y = now n in omega (arith, x, y));
      steady = λ i f. ap (λ (x : Hand). x.given_up) (sym (some_hand h' i f)) ∙ up;
    }
    by_held [] true last g = absurd (cc g)
    by_held [] false true g = record {
      all = λ n. (let x = was n in let y = calls_append n wk.left (h'.call ∷ []) in omega (arith, x, y));
      steady = λ i f. absurd (cc f);
    }
    by_held [] false false g = record {
      all = λ n. (let x = was n in omega (arith, x));
      steady = λ i f. ap (λ (x : Hand). x.given_up) (sym (some_hand (fresh width h'.call h'.tries) i f));
    }

-- the call in hand joins the committed ones
pub joins_keeps : (width : ℕ) (wk : Worker) (h : Hand) (p : Phase) (dep : List ℕ) (c : Committed) → (begun width wk).hand ≡ Some h → h.phase ≡ Running → c.number ≡ h.call.number → Steady wk →
    Keeps wk (record (begun width wk) { hand = Some (hand_joined h p dep); committed = wk.committed ++ c ∷ [] })
joins_keeps width wk h p dep c e runs number steady =
    let b = begun_keeps width wk steady in record {
      all = λ n.
          (let x = b.all n in
          let y : in_hand n (begun width wk).hand ≡ one n h.call.number = ap (in_hand n) e ∙ ap (in_phase n h.call.number) runs in
          let z = ap (in_committed n) (begun_committed width wk) in
          let v = committed_append n wk.committed (c ∷ []) in
          let u : one n c.number ≡ one n h.call.number = ap (one n) number in
          omega (arith, x, y, z, v, u));
      steady = λ i f. ap (λ (x : Hand). x.given_up) (sym (some_hand (hand_joined h p dep) i f)) ∙ b.steady h e;
    }

locked_same : (h : Hand) (key : Key) (mode : Mode) (row : Value) (write_lv read_lv : List ℕ) → ((n : ℕ) → in_hand n (Some h) ≤ in_hand n (Some (hand_locked h key mode row write_lv read_lv))) × ((hand_locked h key mode row write_lv read_lv).given_up ≡ h.given_up)
locked_same h key Read row write_lv read_lv = (λ n. omega arith, refl)
locked_same h key Write row write_lv read_lv = (λ n. omega arith, refl)

module _ (u : ℕ) where
  same_workers : (s s' : Core) → Steady (s.workers u) → s'.workers ≡ s.workers → Keeps (s.workers u) (s'.workers u)
  same_workers s s' steady e = subst (Keeps (s.workers u)) (ap (λ (f : ℕ → Worker). f u) (sym e)) (itself (s.workers u) steady)

  one_worker : (s s' : Core) (w : ℕ) (wk : Worker) → Steady (s.workers u) → s'.workers ≡ at w wk s.workers → (u ≡ w → Steady (s.workers w) → Keeps (s.workers w) wk) → Keeps (s.workers u) (s'.workers u)
  one_worker s s' w wk steady e k = subst (Keeps (s.workers u)) (ap (λ (f : ℕ → Worker). f u) (sym e)) (elim (cases_eq u w) [
    | inl same ↦ subst (λ (v : ℕ). Keeps (s.workers v) (at w wk s.workers v)) (sym same) (subst (Keeps (s.workers w)) (sym (at_same w wk s.workers)) (k same (subst (λ (v : ℕ). Steady (s.workers v)) same steady)))
    | inr other ↦ subst (Keeps (s.workers u)) (sym (at_other w wk s.workers u other)) (itself (s.workers u) steady)
  ])

  module _ (set : Setting) where
    reads_keeps : (w : ℕ) (s s' : Core) (t : Act Txn) → Steady (s.workers u) → Reads set w s s' t → Keeps (s.workers u) (s'.workers u)
    reads_keeps w s s' t steady r =
        let number : (committed_of t).number ≡ r.hand.call.number = ap (λ (x : Act Txn). x.call.call.number) r.act in
        one_worker s s' w (record (ready set s w) { hand = Some (hand_joined r.hand (Freeing t) r.hand.dep); committed = (s.workers w).committed ++ committed_of t ∷ [] }) steady (ap (λ (x : Core). x.workers) r.after)
        (λ is own. joins_keeps set.width (s.workers w) r.hand (Freeing t) r.hand.dep (committed_of t) r.is r.phase number own)

    frees_keeps : (w : ℕ) (s s' : Core) → Steady (s.workers u) → Frees set w s s' → Keeps (s.workers u) (s'.workers u)
    frees_keeps w s s' steady r =
        one_worker s s' w (record (s.workers w) { hand = Some (hand_freed r.hand r.key) }) steady (ap (λ (x : Core). x.workers) r.after)
        (λ is own. hand_keeps (s.workers w) r.hand (hand_freed r.hand r.key) r.is own (λ n. omega arith) refl)

    finishes_keeps : (w : ℕ) (s s' : Core) → Steady (s.workers u) → Finishes set w s s' → Keeps (s.workers u) (s'.workers u)
    finishes_keeps w s s' steady r =
        one_worker s s' w (record (s.workers w) { hand = None }) steady (ap (λ (x : Core). x.workers) r.after)
        (λ is own. record {
          all = λ n. (let x : in_hand n (s.workers w).hand ≡ 0 = ap (in_hand n) r.is ∙ ap (in_phase n r.hand.call.number) r.phase in omega (arith, x));
          steady = λ h f. absurd (cc f);
        })

    gathered_same : (j : ℕ) (s s' : Core) → Gathered set j s s' → s'.workers ≡ s.workers
    gathered_same j s s' stop = refl
    gathered_same j s s' (record_first {m = m} w g more) = gathered_same j m s' more ∙ ap (λ (x : Core). x.workers) g.after
    gathered_same j s s' (anchor_first {m = m} g more) = gathered_same j m s' more ∙ ap (λ (x : Core). x.workers) g.after

    or_false : (a b : Bool) → a ≡ false → b ≡ false → (a || b) ≡ false
    or_false true b e f = e
    or_false false b e f = f

    -- what each step of a worker's loop keeps; and a step of anyone else
    pub own_keeps : (e : Event) (s s' : Core) (new : List (Act Txn)) → Steady (s.workers u) → KeepsOf u e → Leads set e s s' new → Keeps (s.workers u) (s'.workers u)
    own_keeps (Lock w) s s' new steady k r =
        let q = r.0 in
        let row = (s.shards (set.shard_of q.key)).rows q.key in
        let l = locked_same q.hand q.key q.mode row (entry_in (s.shards (set.shard_of q.key)) q.key).write_lv (entry_in (s.shards (set.shard_of q.key)) q.key).read_lv in
        let h' : Hand = hand_locked q.hand q.key q.mode row (entry_in (s.shards (set.shard_of q.key)) q.key).write_lv (entry_in (s.shards (set.shard_of q.key)) q.key).read_lv in
        one_worker s s' w (record (ready set s w) { hand = Some h' }) steady (ap (λ (x : Core). x.workers) q.after)
        (λ is own. (let b = begun_keeps set.width (s.workers w) own in
        keeps_on (s.workers w) (ready set s w) (record (ready set s w) { hand = Some h' }) b (hand_keeps (ready set s w) q.hand h' q.is b.steady l.0 l.1)))
    own_keeps (Busy w) s s' new steady k r =
        let q = r.0 in
        one_worker s s' w (settled set.width (ready set s w) (hand_busy q.hand)) steady (ap (λ (x : Core). x.workers) q.after)
        (λ is own. (let b = begun_keeps set.width (s.workers w) own in
        keeps_on (s.workers w) (ready set s w) (settled set.width (ready set s w) (hand_busy q.hand)) b
        (settled_keeps set.width (ready set s w) q.hand (hand_busy q.hand) q.is (ap act_of q.phase) refl refl (b.steady q.hand q.is))))
    own_keeps (Quit w up) s s' new steady k r =
        let q = r.0 in
        let none : act_of q.hand.phase ≡ None = elim q.phase [ inl e ↦ ap act_of e | inr e ↦ ap act_of e.0 ] in
        one_worker s s' w (settled set.width (s.workers w) (hand_quit q.hand q.key up)) steady (ap (λ (x : Core). x.workers) q.after)
        (λ is own. settled_keeps set.width (s.workers w) q.hand (hand_quit q.hand q.key up) q.is none refl refl (or_false q.hand.given_up up (own q.hand q.is) (k is)))
    own_keeps (Commit w) s s' new steady k r =
        let t : Act Txn = r.0 in
        let q = r.1 in
        let number : (committed_of t).number ≡ q.hand.call.number = ap (λ (x : Act Txn). x.call.call.number) q.act in
        one_worker s s' w (record (ready set s w) { hand = Some (hand_joined q.hand (Placed t) t.call.place.dep); committed = (s.workers w).committed ++ committed_of t ∷ [] }) steady (ap (λ (x : Core). x.workers) q.after)
        (λ is own. joins_keeps set.width (s.workers w) q.hand (Placed t) t.call.place.dep (committed_of t) q.is q.phase number own)
    own_keeps (Post w) s s' new steady k r =
        let q = r.0 in
        one_worker s s' w (record (s.workers w) { hand = Some (record q.hand { phase = Freeing q.act }) }) steady (ap (λ (x : Core). x.workers) q.after)
        (λ is own. hand_keeps (s.workers w) q.hand (record q.hand { phase = Freeing q.act }) q.is own (λ n. (let x : in_phase n q.hand.call.number q.hand.phase ≡ 0 = ap (in_phase n q.hand.call.number) q.phase in omega (arith, x))) refl)
    own_keeps (Free w) s s' new steady k r = frees_keeps w s s' steady r.0
    own_keeps (FirstFree w) s s' new steady k r =
        let a = reads_keeps w s r.0 r.1 steady r.2 in keeps_on (s.workers u) (r.0.workers u) (s'.workers u) a (frees_keeps w r.0 s' a.steady r.3)
    own_keeps (Done w) s s' new steady k r = finishes_keeps w s s' steady r.0
    own_keeps (DoneReading w) s s' new steady k r =
        let a = reads_keeps w s r.0 r.1 steady r.2 in keeps_on (s.workers u) (r.0.workers u) (s'.workers u) a (finishes_keeps w r.0 s' a.steady r.3)
    own_keeps (Drop i v) s s' new steady k r = same_workers s s' steady (ap (λ (x : Core). x.workers) r.0.after)
    own_keeps (Gather j) s s' new steady k r = same_workers s s' steady (gathered_same j s s' r.0)
    own_keeps (PlaceAnchor j v) s s' new steady k r = same_workers s s' steady (ap (λ (x : Core). x.workers) r.0.after)
    own_keeps (Persist j upto) s s' new steady k r = same_workers s s' steady (ap (λ (x : Core). x.workers) r.0.after)
    own_keeps (Ack w v) s s' new steady k r = same_workers s s' steady (ap (λ (x : Core). x.workers) r.0.after)
    own_keeps (Stop j upto) s s' new steady k r = same_workers s s' steady (ap (λ (x : Core). x.workers) r.0.after)
    own_keeps (Resume w) s s' new steady k r =
        let q = r.0 in
        one_worker s s' w (record (s.workers w) { waiting = q.call ∷ []; left = q.front ++ q.back }) steady (ap (λ (x : Core). x.workers) q.after)
        (λ is own. record {
          all = λ n.
              (let a = ap (in_calls n) (q.resting w).1 in
              let b = ap (in_calls n) q.is in
              let c = calls_append n q.front (q.call ∷ q.back) in
              let d = calls_append n q.front q.back in
              omega (arith, a, b, c, d));
          steady = own;
        })
