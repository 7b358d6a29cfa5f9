-- What a call does next.
use Rattle.std.proofs.Common.{ℕ, zero, suc, ◌≤◌, ◌≡◌, Bool, true, false, List, [], ◌∷◌, length, refl, sym, ap, subst, ◌∙◌, arith, eqb-true}
use Rattle.std.specs.Prelude.{Option, ◌==◌, if◌then◌else◌}
use Rattle.std.specs.FinMap.Entries.{is_sorted}
use Rattle.std.proofs.lemmas.Bool.{both_ways}
use Rattle.tau_base.specs.declared.value.Key.{Key}
use Rattle.tau_base.specs.declared.value.Value.{Value}
use Rattle.tau_base.specs.declared.value.Mode.{Mode}
use Rattle.tau_base.specs.Database.{key_cmp}
use Rattle.tau_proc.specs.declared.proc.Proc.{Proc}
use Rattle.tau_proc.specs.declared.reply.Reply.{Reply}
use Rattle.tau_proc.specs.declared.reply.Want.{Want}
use Rattle.tau_proc.specs.declared.reply.Want.TheVariants.{Read, Write, Finished}
use Rattle.tau_proc.specs.Progress.{buffered, next_want}
use Rattle.tau_machine.specs.Hands.{mode_of}
use Rattle.tau_machine.specs.Stage.{stage}
use Rattle.tau_machine.specs.Worker.{lock_of}
use Rattle.tau_txn.specs.Hand.{PlainHand}
use Rattle.tau_txn.specs.Read.{effect_of, act_in, phase_in, hand_of, reading_act}
use Rattle.tau_model.specs.History.{Act, updating}
use Rattle.tau_model.specs.Logged.{lv}
use Rattle.tau_machine.specs.Hands as theory
use Rattle.tau_machine.specs.Hands.{lv_of}
use Rattle.tau_txn.specs.declared.standing.Standing.{Standing}
use Rattle.tau_txn.specs.declared.standing.Standing.TheVariants.{Running, Quitting, Placed, Freeing, LeftOver}
use Rattle.tau_txn.specs.declared.action.Action.{Action}
use Rattle.tau_txn.specs.declared.action.Action.TheVariants as action
use Rattle.tau_txn.specs.Progress.{IsRunBy, IsFinished, HasCommitted}
use Rattle.tau_txn.specs.Steps.{lock_by}
use Rattle.tau_txn.specs.Actions.{runs, ends, quits, frees, act_frees, action_by, action_of}
use Rattle.tau_txn.specs.Next.{ends_with, asks, frees_on, next_by}
use Rattle.tau_txn.proofs.Bridge.{Effected, effected, lock_is}

-- what the core's hand does next, where the call has come so far
abbrev pub does : List Proc → ℕ → PlainHand → Standing → Action
does procs w h s = action_by procs w h.leaves (length h.bytes) (hand_of procs w h) (phase_in procs w s h)

-- what a call does next that runs, by what its machine wants
running_next : (procs : List Proc) (w : ℕ) (h : PlainHand) → IsRunBy procs h → h.standing ≡ Running → h.leaves ≡ false → is_sorted key_cmp (buffered h.machine) ≡ true →
    (want : Want) → next_want h.machine ≡ want → runs (lock_by want) (reading_act procs w h) (length h.bytes) h.held ≡ does procs w h Running
running_next procs w h run running stays sorted want is =
    ap (λ (l : Option (Key × Mode)). runs l (reading_act procs w h) (length h.bytes) h.held) (sym (lock_is procs h run (run.holds running) sorted want is))
    ∙ sym (ap (λ (b : Bool). if b then quits h.held else runs (lock_of (stage procs h.call h.seen) h.held) (reading_act procs w h) (length h.bytes) h.held) stays)

ends_by : (t : Act theory.Txn) (size : ℕ) (held : List (Key × Mode)) (ws : List (Key × Value)) (b : Bool) → (b ≡ true → length ws ≡ 0) → (b ≡ false → 1 ≤ length ws) →
    ends t size held ws ≡ (if b then act_frees t held else action.Commit size)
ends_by t size held [] true none some = refl
ends_by t size held [] false none some = absurd (let a = some refl in omega (arith, a))
ends_by t size held (x ∷ ws) true none some = absurd (let a = none refl in omega (arith, a))
ends_by t size held (x ∷ ws) false none some = refl

no_writes : (ws : List (Key × Value)) → length ws ≡ 0 → ws ≡ []
no_writes [] e = refl
no_writes (x ∷ ws) e = absurd (omega (arith, e))

-- a read-only act frees its keys
reads_only : (own reply : Reply) (ws : List (Key × Value)) (dep : List ℕ) (held : List (Key × Mode)) (size : ℕ) (t : Act theory.Txn) → own ≡ reply → ws ≡ [] →
    t.effect.reply ≡ own → t.effect.writes ≡ ws → t.call.place.dep ≡ dep → frees reply dep [] held ≡ ends t size held ws
reads_only own reply ws dep held size t p q a b d =
    ap (λ (r : Reply). frees r dep [] held) (sym p ∙ sym a) ∙ ap (λ (v : List ℕ). frees t.effect.reply v [] held) (sym d)
    ∙ ap (λ (l : List (Key × Value)). frees t.effect.reply (lv (updating l) t.call.place) l held) (sym (b ∙ q))
    ∙ ap (ends t size held) (sym q)

-- a list is empty where its length is tested to be 0
none_of : (n : ℕ) (b : Bool) → b ≡ (n == 0) → b ≡ true → n ≡ 0
none_of n b p q = eqb-true n 0 (sym p ∙ q)

some_of : (n : ℕ) (b : Bool) → b ≡ (n == 0) → b ≡ false → 1 ≤ n
some_of zero b p q = absurd (both_ways b q p)
some_of (suc n) b p q = omega arith

-- what a call does next that has all its locks
finished_next : (procs : List Proc) (w : ℕ) (h : PlainHand) → IsRunBy procs h → h.standing ≡ Running → h.leaves ≡ false → is_sorted key_cmp (buffered h.machine) ≡ true →
    (reply : Reply) → next_want h.machine ≡ Finished reply → (b : Bool) → (b ≡ true → length (buffered h.machine) ≡ 0) → (b ≡ false → 1 ≤ length (buffered h.machine)) →
    ends_with b reply h ≡ does procs w h Running
finished_next procs w h run running stays sorted reply is b none some = by' b none some ∙ running_next procs w h run running stays sorted (Finished reply) is
  where
    e : Effected procs h run
    e = effected procs h run (subst IsFinished (sym is) tt)

    replies : (effect_of procs h).reply ≡ reply
    replies = (let f : Finished e.reply ≡ Finished reply = sym e.finished ∙ is in let g : e.reply ≡ reply = cc in e.replies ∙ g)

    by' : (b : Bool) → (b ≡ true → length (buffered h.machine) ≡ 0) → (b ≡ false → 1 ≤ length (buffered h.machine)) → ends_with b reply h ≡ ends (reading_act procs w h) (length h.bytes) h.held (effect_of procs h).writes
    by' true none some = reads_only (effect_of procs h).reply reply (effect_of procs h).writes h.dep h.held (length h.bytes) (reading_act procs w h) replies (e.writes ∙ no_writes (buffered h.machine) (none refl)) refl refl refl
    by' false none some =
        sym (ends_by (reading_act procs w h) (length h.bytes) h.held (effect_of procs h).writes false (λ f. absurd (both_ways false refl f)) (λ f. subst (λ (ws : List (Key × Value)). 1 ≤ length ws) (sym e.writes) (some refl)))

-- what a call does next that has committed
freeing_next : (procs : List Proc) (w : ℕ) (h : PlainHand) → IsRunBy procs h → h.standing ≡ Freeing → (reply : Reply) → next_want h.machine ≡ Finished reply →
    frees reply h.lv (buffered h.machine) h.held ≡ does procs w h Freeing
freeing_next procs w h run freeing reply is =
    ap (λ (r : Reply). frees r h.lv (buffered h.machine) h.held) (sym replies)
    ∙ ap (λ (v : List ℕ). frees (effect_of procs h).reply v (buffered h.machine) h.held) vector
    ∙ ap (λ (ws : List (Key × Value)). frees (effect_of procs h).reply (lv_of (act_in procs w h)) ws h.held) (sym e.writes)
  where
    e : Effected procs h run
    e = effected procs h run (subst IsFinished (sym is) tt)

    replies : (effect_of procs h).reply ≡ reply
    replies = (let f : Finished e.reply ≡ Finished reply = sym e.finished ∙ is in let g : e.reply ≡ reply = cc in e.replies ∙ g)

    vector : h.lv ≡ lv_of (act_in procs w h)
    vector = run.vector (subst HasCommitted (sym freeing) tt) ∙ ap (λ (ws : List (Key × Value)). lv (updating ws) (record { stream = h.stream; start = h.start; past = h.past; dep = h.dep })) (sym e.writes)

-- a call that frees its keys has finished
pub freeing_finished : (procs : List Proc) (h : PlainHand) → IsRunBy procs h → h.standing ≡ Freeing → IsFinished (next_want h.machine)
freeing_finished procs h run freeing = run.finished (subst HasCommitted (sym freeing) tt)

-- what a call does next that runs
asks_next : (procs : List Proc) (w : ℕ) (h : PlainHand) → IsRunBy procs h → h.standing ≡ Running → h.leaves ≡ false → is_sorted key_cmp (buffered h.machine) ≡ true →
    (want : Want) → next_want h.machine ≡ want → asks want h ≡ does procs w h Running
asks_next procs w h run running stays sorted (Read x) is = running_next procs w h run running stays sorted (Read x) is
asks_next procs w h run running stays sorted (Write x) is = running_next procs w h run running stays sorted (Write x) is
asks_next procs w h run running stays sorted (Finished reply) is =
    finished_next procs w h run running stays sorted reply is (length (buffered h.machine) == 0)
    (none_of (length (buffered h.machine)) (length (buffered h.machine) == 0) refl) (some_of (length (buffered h.machine)) (length (buffered h.machine) == 0) refl)

frees_next : (procs : List Proc) (w : ℕ) (h : PlainHand) → IsRunBy procs h → h.standing ≡ Freeing → (want : Want) → next_want h.machine ≡ want → frees_on want h ≡ does procs w h Freeing
frees_next procs w h run freeing (Read x) is = absurd (subst IsFinished is (freeing_finished procs h run freeing))
frees_next procs w h run freeing (Write x) is = absurd (subst IsFinished is (freeing_finished procs h run freeing))
frees_next procs w h run freeing (Finished reply) is = freeing_next procs w h run freeing reply is

-- what a call does next is what the core's hand does next
pub next_is_that : (procs : List Proc) (w : ℕ) (h : PlainHand) → IsRunBy procs h → is_sorted key_cmp (buffered h.machine) ≡ true → (h.standing ≡ LeftOver → ⊥) →
    next_by h.standing h ≡ action_of procs w h.leaves (length h.bytes) (hand_of procs w h)
next_is_that procs w h run sorted there = at h.standing refl
  where
    stays : (b : Bool) → h.leaves ≡ b → h.standing ≡ Running → next_by Running h ≡ does procs w h Running
    stays true is running = rw is refl
    stays false is running = ap (λ (b : Bool). if b then quits h.held else asks (next_want h.machine) h) is ∙ asks_next procs w h run running is sorted (next_want h.machine) refl

    at : (s : Standing) → h.standing ≡ s → next_by s h ≡ does procs w h s
    at Running e = stays h.leaves refl e
    at Quitting e = refl
    at Placed e = refl
    at Freeing e = frees_next procs w h run e (next_want h.machine) refl
    at LeftOver e = absurd (there e)
