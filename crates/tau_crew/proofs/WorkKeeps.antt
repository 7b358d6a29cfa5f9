-- What each step of a worker keeps of its calls, as its seat knows them.
use Rattle.std.proofs.Common.{ℕ, ◌≡◌, ◌≤◌, Bool, true, false, inl, inr, arith, List, [], ◌∷◌, ◌++◌, refl, sym, ap, subst, ◌∙◌}
use Rattle.std.specs.Prelude.{Some, None}
use Rattle.tau_base.specs.declared.value.Key.{Key}
use Rattle.tau_base.specs.declared.value.Mode.{Mode}
use Rattle.tau_base.specs.declared.value.Mode.TheVariants.{Read, Write}
use Rattle.tau_base.specs.declared.value.Value.{Value}
use Rattle.tau_model.specs.declared.committed.Committed.{Committed}
use Rattle.tau_model.specs.History.{Act}
use Rattle.tau_machine.specs.Accounts.{in_hand, in_phase}
use Rattle.tau_machine.specs.Hands as theory
use Rattle.tau_machine.specs.Hands.{Freeing, Hand, Phase, Placed, Running, act_of, committed_of}
use Rattle.tau_machine.specs.Worker.{Worker, begun, hand_busy, hand_freed, hand_joined, hand_quit, settled}
use Rattle.tau_txn.specs.Next as txn
use Rattle.tau_txn.specs.Steps.{locked_with}
use Rattle.tau_txn.specs.Txn.{PlainTxn, hand_in, has_joined, leaves_in, worker_in}
use Rattle.tau_core.specs.declared.state.Load.{Load}
use Rattle.tau_rule.specs.Steps.{next_worker}
use Rattle.tau_rule.proofs.Workers.{worker_shown}
use Rattle.tau_desk.specs.Acts.{HasCommitted, HasEnded, HasEndedReading, HasFirstFreed, HasFreed, HasLocked, HasMetBusy, HasPosted, HasQuit}
use Rattle.tau_desk.specs.Works.{joined_worker}
use Rattle.tau_run.specs.Keeping.{Keeps, Steady}
use Rattle.tau_run.proofs.Keeping.{begun_keeps, hand_keeps, joins_keeps, keeps_on, settled_keeps}

or_false : (a b : Bool) → a ≡ false → b ≡ false → (Rattle.std.specs.Prelude.◌||◌ a b) ≡ false
or_false true b e f = e
or_false false b e f = f

-- the hand of a call that is locked on is that of the same call
locked_same : (h : Hand) (key : Key) (mode : Mode) (row : Value) (dep : List ℕ) → ((n : ℕ) → in_hand n (Some h) ≤ in_hand n (Some (locked_with h key mode row dep))) × ((locked_with h key mode row dep).given_up ≡ h.given_up)
locked_same h key Read row dep = (λ n. omega arith, refl)
locked_same h key Write row dep = (λ n. omega arith, refl)

-- a worker whose call, begun or not, is in this hand gets another hand of the same call
hand_on : (width : ℕ) (wk : Worker) (h h' : Hand) → (begun width wk).hand ≡ Some h → Steady wk → ((n : ℕ) → in_hand n (Some h) ≤ in_hand n (Some h')) → h'.given_up ≡ h.given_up → Keeps wk (record (begun width wk) { hand = Some h' })
hand_on width wk h h' is steady more same =
    let b = begun_keeps width wk steady in
    keeps_on wk (begun width wk) (record (begun width wk) { hand = Some h' }) b (hand_keeps (begun width wk) h h' is b.steady more same)

-- a call that has joined leaves the hand
hand_gone : (wk : Worker) (h : Hand) (act : Act theory.Txn) → wk.hand ≡ Some h → h.phase ≡ Freeing act → Keeps wk (record wk { hand = None })
hand_gone wk h act is phase = record {
  all = λ n. (let x : in_hand n wk.hand ≡ 0 = ap (in_hand n) is ∙ ap (in_phase n h.call.number) phase in omega (arith, x));
  steady = λ k e. absurd (let bad : None ≡ Some k = e in cc);
}

module _ (l : Load) (wk : Worker) (t t' : PlainTxn) (tie : (h : Hand) → hand_in l.procs t ≡ Some h → (begun l.streams wk).hand ≡ Some h) (width : t.width ≡ l.streams) (steady : Steady wk) where
  abbrev b : Worker
  b = begun l.streams wk

  shown_as : (h : Hand) → hand_in l.procs t' ≡ Some h → record b { hand = Some h } ≡ next_worker l wk t'
  shown_as h e = sym (worker_shown l.procs b t' h e)

  pub keeps_locked : HasLocked l.procs t t' → Keeps wk (next_worker l wk t')
  keeps_locked q =
      let h : Hand = q.wanted.hand in
      let h' : Hand = locked_with h q.key q.mode q.row q.dep in
      let same = locked_same h q.key q.mode q.row q.dep in
      subst (Keeps wk) (shown_as h' q.is) (hand_on l.streams wk h h' (tie h q.wanted.is) steady same.0 same.1)

  pub keeps_busy : HasMetBusy l.procs t t' → Keeps wk (next_worker l wk t')
  keeps_busy q =
      let h : Hand = q.wanted.hand in
      let k = begun_keeps l.streams wk steady in
      let is : b.hand ≡ Some h = tie h q.wanted.is in
      subst (Keeps wk) (sym (q.settles b ∙ ap (λ (n : ℕ). settled n b (hand_busy h)) width))
      (keeps_on wk b (settled l.streams b (hand_busy h)) k (settled_keeps l.streams b h (hand_busy h) is (ap act_of q.wanted.phase) refl refl (k.steady h is)))

  pub keeps_quit : leaves_in t ≡ false → HasQuit l.procs t t' → Keeps wk (next_worker l wk t')
  keeps_quit stays q =
      let h : Hand = q.quits.hand in
      let h' : Hand = hand_quit h q.key (leaves_in t) in
      let k = begun_keeps l.streams wk steady in
      let is : b.hand ≡ Some h = tie h q.quits.is in
      let unjoined : act_of h.phase ≡ None = elim q.quits.phase [ inl e ↦ ap act_of e | inr e ↦ ap act_of e.0 ] in
      subst (Keeps wk) (sym (q.settles b ∙ ap (λ (n : ℕ). settled n b h') width))
      (keeps_on wk b (settled l.streams b h') k (settled_keeps l.streams b h h' is unjoined refl refl (or_false h.given_up (leaves_in t) (k.steady h is) stays)))

  -- a call that has joined frees a key
  pub keeps_freed : has_joined t ≡ true → HasFreed l.procs t t' → Keeps wk (next_worker l wk t')
  keeps_freed joined q =
      let h : Hand = q.frees.hand in
      let h' : Hand = hand_freed (hand_joined h (Freeing q.frees.act) h.dep) q.key in
      let phase : h.phase ≡ Freeing q.frees.act = subst (λ (x : Bool). txn.FreesBy l.procs x t.worker h q.frees.act) joined q.frees.act_is in
      subst (Keeps wk) (shown_as h' q.is) (hand_on l.streams wk h h' (tie h q.frees.is) steady (λ n. (let x = ap (in_phase n h.call.number) phase in omega (arith, x))) refl)

  pub keeps_posted : HasPosted l.procs t t' → Keeps wk (next_worker l wk t')
  keeps_posted q =
      let h : Hand = q.posts.hand in
      let h' : Hand = record h { phase = Freeing q.posts.act } in
      subst (Keeps wk) (shown_as h' q.is) (hand_on l.streams wk h h' (tie h q.posts.is) steady (λ n. (let x = ap (in_phase n h.call.number) q.posts.phase in omega (arith, x))) refl)

  pub keeps_ended : has_joined t ≡ true → HasEnded l.procs t t' → Keeps wk (next_worker l wk t')
  keeps_ended joined q =
      let h : Hand = q.ends.hand in
      let k = begun_keeps l.streams wk steady in
      let phase : h.phase ≡ Freeing q.ends.act = subst (λ (x : Bool). txn.FreesBy l.procs x t.worker h q.ends.act) joined q.ends.act_is in
      subst (Keeps wk) (sym (ap (worker_in l.procs t'.worker b) q.gone)) (keeps_on wk b (record b { hand = None }) k (hand_gone b h q.ends.act (tie h q.ends.is) phase))

  -- ---- by which the call joins the committed ones

  joined_as : (kept : Committed) (h : Hand) → hand_in l.procs t' ≡ Some h → record b { hand = Some h; committed = wk.committed ++ kept ∷ [] } ≡ joined_worker l wk t' kept
  joined_as kept h e = ap (λ (x : Worker). record x { committed = wk.committed ++ kept ∷ [] }) (shown_as h e)

  pub keeps_committed : (number start : ℕ) (anchor : List ℕ) (kept : Committed) → HasCommitted l.procs t t' number anchor start kept → Keeps wk (joined_worker l wk t' kept)
  keeps_committed number start anchor kept q =
      let h : Hand = q.commits.hand in
      let h' : Hand = hand_joined h (Placed q.act) (Rattle.tau_base.specs.Vectors.join h.dep anchor) in
      let same : kept.number ≡ h.call.number = ap (λ (x : Committed). x.number) q.kept_is ∙ ap (λ (x : Act theory.Txn). x.call.call.number) q.act_is in
      subst (Keeps wk) (joined_as kept h' q.is) (joins_keeps l.streams wk h (Placed q.act) (Rattle.tau_base.specs.Vectors.join h.dep anchor) kept (tie h q.commits.is) q.commits.phase same steady)

  reads_by : has_joined t ≡ false → (h : Hand) (act : Act theory.Txn) → txn.FreesBy l.procs (has_joined t) t.worker h act → txn.Reads l.procs t.worker h act
  reads_by unjoined h act f = subst (λ (x : Bool). txn.FreesBy l.procs x t.worker h act) unjoined f

  pub keeps_first_freed : has_joined t ≡ false → (kept : Committed) → HasFirstFreed l.procs t t' kept → Keeps wk (joined_worker l wk t' kept)
  keeps_first_freed unjoined kept q =
      let h : Hand = q.frees.hand in
      let act : Act theory.Txn = q.frees.act in
      let r = reads_by unjoined h act q.frees.act_is in
      let hj : Hand = hand_joined h (Freeing act) h.dep in
      let joined : Worker = record b { hand = Some hj; committed = wk.committed ++ kept ∷ [] } in
      let same : kept.number ≡ h.call.number = ap (λ (x : Committed). x.number) q.kept_is ∙ ap (λ (x : Act theory.Txn). x.call.call.number) r.is in
      let k : Keeps wk joined = joins_keeps l.streams wk h (Freeing act) h.dep kept (tie h q.frees.is) r.phase same steady in
      subst (Keeps wk) (joined_as kept (hand_freed hj q.key) q.is)
      (keeps_on wk joined (record joined { hand = Some (hand_freed hj q.key) }) k (hand_keeps joined hj (hand_freed hj q.key) refl k.steady (λ n. omega arith) refl))

  pub keeps_ended_reading : has_joined t ≡ false → (kept : Committed) → HasEndedReading l.procs t t' kept → Keeps wk (joined_worker l wk t' kept)
  keeps_ended_reading unjoined kept q =
      let h : Hand = q.ends.hand in
      let act : Act theory.Txn = q.ends.act in
      let r = reads_by unjoined h act q.ends.act_is in
      let hj : Hand = hand_joined h (Freeing act) h.dep in
      let joined : Worker = record b { hand = Some hj; committed = wk.committed ++ kept ∷ [] } in
      let same : kept.number ≡ h.call.number = ap (λ (x : Committed). x.number) q.kept_is ∙ ap (λ (x : Act theory.Txn). x.call.call.number) r.is in
      let k : Keeps wk joined = joins_keeps l.streams wk h (Freeing act) h.dep kept (tie h q.ends.is) r.phase same steady in
      subst (Keeps wk) (sym (ap (λ (x : Worker). record x { committed = wk.committed ++ kept ∷ [] }) (ap (worker_in l.procs t'.worker b) q.gone)))
      (keeps_on wk joined (record joined { hand = None }) k (hand_gone joined hj act refl refl))
