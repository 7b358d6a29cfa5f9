-- No call is lost: where none is given up, each call of the opening waits, is in hand, is left over, or has committed.
use Rattle.std.proofs.Common.{ℕ, ◌+◌, ◌≤◌, false, ◌≡◌, inl, inr, List, [], ◌∷◌, refl, sym, ap, subst, ◌∙◌, arith}
use Rattle.std.specs.Prelude.{Some, None, ◌==◌}
use Rattle.std.specs.Prelude.{map}
use Rattle.std.specs.List.{filter}
use Rattle.std.proofs.lemmas.Bool.{cases_eq, ne_eqb}
use Rattle.tau_model.specs.History.{Act, Member}
use Rattle.tau_model.specs.declared.committed.Committed.{Committed}
use Rattle.tau_model.proofs.Assembling.{member_mapped}
use Rattle.tau_model.proofs.Logged.{member_filtered}
use Rattle.tau_machine.specs.Accounts.{one, in_calls, in_committed, in_hand, in_worker}
use Rattle.tau_machine.specs.Events.{Event, Lock, Busy, Quit, Commit, Post, Free, FirstFree, Done, DoneReading, Drop, Gather, PlaceAnchor, Persist, Ack, Stop, Resume}
use Rattle.tau_machine.specs.Hands.{Txn, committed_of}
use Rattle.tau_machine.specs.Invariant.{Invariant}
use Rattle.tau_machine.specs.Runs.{LeadOn, Run}
use Rattle.tau_machine.specs.State.{Setting, Core}
use Rattle.tau_machine.proofs.Results.{committed_theorem}
use Rattle.tau_run.specs.Keeping.{Keeps, KeepsOf, Steady}
use Rattle.tau_run.specs.Laws.{KeepsCall, KeepCalls}
use Rattle.tau_run.proofs.Keeping.{itself, keeps_on, own_keeps}

-- each worker of the state
record AllKeep (s s' : Core) : Type 0 where
  each : (w : ℕ) → Keeps (s.workers w) (s'.workers w)

abbrev AllSteady : Core → Type 0
AllSteady s = (w : ℕ) → Steady (s.workers w)

keeps_of : (w : ℕ) (e : Event) → KeepsCall e → KeepsOf w e
keeps_of w (Quit u up) k = λ _. k
keeps_of w (Lock u) k = k
keeps_of w (Busy u) k = k
keeps_of w (Commit u) k = k
keeps_of w (Post u) k = k
keeps_of w (Free u) k = k
keeps_of w (FirstFree u) k = k
keeps_of w (Done u) k = k
keeps_of w (DoneReading u) k = k
keeps_of w (Drop i v) k = k
keeps_of w (Gather j) k = k
keeps_of w (PlaceAnchor j v) k = k
keeps_of w (Persist j upto) k = k
keeps_of w (Ack u v) k = k
keeps_of w (Stop j upto) k = k
keeps_of w (Resume u) k = k

-- no event of these loses a call
all_keep : (set : Setting) (es : List Event) (s s' : Core) (new : List (Act Txn)) → AllSteady s → KeepCalls es → LeadOn set es s s' new → AllKeep s s'
all_keep set [] s s' new steady k r = record { each = λ w. subst (λ (x : Core). Keeps (s.workers w) (x.workers w)) (sym r.0) (itself (s.workers w) (steady w)) }
all_keep set (e ∷ es) s s' new steady k r =
    let first : (w : ℕ) → Keeps (s.workers w) (r.0.workers w) = λ w. own_keeps w set e s r.0 r.1 (steady w) (keeps_of w e k.0) r.3 in
    let rest = all_keep set es r.0 s' r.2 (λ w. (first w).steady) k.1 r.4 in
    record { each = λ w. keeps_on (s.workers w) (r.0.workers w) (s'.workers w) (first w) (rest.each w) }

pub member_of_number : (k : ℕ) (cs : List Committed) → 1 ≤ in_committed k cs → (c : Committed) × Member c cs × (c.number ≡ k)
member_of_number k [] low = absurd (omega (arith, low))
member_of_number k (c ∷ cs) low = elim (cases_eq k c.number) [
  | inl is ↦ (c, inl refl, sym is)
  | inr ne ↦
      let none : one k c.number ≡ 0 = (let f : (k == c.number) ≡ false = ne_eqb k c.number ne in rw f refl) in
      let rest = member_of_number k cs (omega (arith, low, none)) in
      (rest.0, inr rest.1, rest.2)
]

-- no number that a worker accounted for at the opening is lost
pub kept_there : (set : Setting) (opening : Core) (events : List Event) (K : List (Act Txn)) (s : Core) → Run set opening events K s → KeepCalls events → (k w : ℕ) → 1 ≤ in_worker k (opening.workers w) → 1 ≤ in_worker k (s.workers w)
kept_there set opening events K s run keep k w low =
    let steady : AllSteady opening = λ u h e. absurd (let f : None ≡ Some h = sym (run.opens.hands u) ∙ e in cc f) in
    let all = ((all_keep set events opening s K steady keep run.leads).each w).all k in
    omega (arith, low, all)

-- one that a worker accounts for, where it rests and nothing is left to it, is that of a committed call
pub committed_at : (set : Setting) (K : List (Act Txn)) (s : Core) → Invariant set K s → (k w : ℕ) → 1 ≤ in_worker k (s.workers w) → (s.workers w).hand ≡ None → (s.workers w).waiting ≡ [] → (s.workers w).left ≡ [] → (t : Act Txn) × Member t K × (t.call.call.number ≡ k)
committed_at set K s inv k w low hand waiting left =
    let a = ap (in_hand k) hand in
    let b = ap (in_calls k) waiting in
    let c = ap (in_calls k) left in
    let f : in_calls k (s.workers w).waiting + in_hand k (s.workers w).hand + in_calls k (s.workers w).left + in_committed k (s.workers w).committed ≡ in_worker k (s.workers w) = refl in
    let there = member_of_number k (s.workers w).committed (omega (arith, low, a, b, c, f)) in
    let mine : Member there.0 (map committed_of (filter (λ (t : Act Txn). t.call.worker == w) K)) = subst (λ (cs : List Committed). Member there.0 cs) ((committed_theorem set K s inv).2 w) there.1 in
    let t = member_mapped committed_of there.0 (filter (λ (t : Act Txn). t.call.worker == w) K) mine in
    (t.0, (member_filtered (λ (u : Act Txn). u.call.worker == w) t.0 K t.1).0, ap (λ (c : Committed). c.number) t.2 ∙ there.2)
