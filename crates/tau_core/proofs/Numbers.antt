-- The next call of a worker is one of the calls.
use Rattle.std.proofs.Common.{ℕ, zero, suc, ◌≤◌, ◌-◌, ◌≡◌, false, inl, inr, List, length, refl, ap, subst, ◌∙◌, Option, arith}
use Rattle.std.specs.Prelude.{Some, None, ◌==◌, slice_get}
use Rattle.std.proofs.lemmas.Bool.{ne_eqb}
use Rattle.std.proofs.lemmas.Bool.Decides.{leb_tells}
use Rattle.std.proofs.lemmas.Option.{slice_get_within}
use Rattle.tau_base.specs.declared.value.Call.{Call}
use Rattle.tau_core.specs.declared.state.Load.{Load}
use Rattle.tau_core.specs.Plain.{PlainSeat}
use Rattle.tau_core.specs.View.{call_of}
use Rattle.tau_core.specs.Stands.{SoundSeat}
use Rattle.tau_core.specs.Begins.{number_by, next_number}
use Rattle.tau_base.proofs.Lists.{some_at}

-- a number that has a call
pub record Numbers (l : Load) (n : ℕ) : Type 0 where
  pub call : Call
  pub is : call_of l.calls n ≡ Some call
  pub low : 1 ≤ n
  pub high : n ≤ length l.calls
  pub got : slice_get l.calls (n - 1) ≡ Some call

pub numbers : (l : Load) (n : ℕ) (c : Call) → call_of l.calls n ≡ Some c → Numbers l n
numbers l zero c e = absurd (let bad : None ≡ Some c = e in cc)
numbers l (suc n) c e =
    let some : (suc n == 0) ≡ false = ne_eqb (suc n) 0 (λ f. absurd (omega arith)) in
    let got : slice_get l.calls (suc n - 1) ≡ Some c = rw some at e in
    let within = slice_get_within l.calls (suc n - 1) c got in
    record { call = c; is = e; low = (omega arith); high = (omega arith); got = got }

pub called : (calls : List Call) (n : ℕ) (c : Call) → 1 ≤ n → slice_get calls (n - 1) ≡ Some c → call_of calls n ≡ Some c
called calls zero c low e = absurd (omega arith)
called calls (suc n) c low e = let some : (suc n == 0) ≡ false = ne_eqb (suc n) 0 (λ f. absurd (omega arith)) in rw some e

pub next_is_that : (l : Load) (w : ℕ) (s : PlainSeat) (n : ℕ) → SoundSeat l w s → next_number (length l.calls) s ≡ Some n → Numbers l n
next_is_that l w s n o e = by_again s.again refl e
  where
    by_again : (a : Option ℕ) → s.again ≡ a → number_by (length l.calls) s.next a ≡ Some n → Numbers l n
    by_again (Some k) is f = (let k_is : k ≡ n = cc in let q = o.store.again n (is ∙ ap Some k_is) in numbers l n q.0 q.1)
    by_again None is f = elim (leb_tells s.next (length l.calls)) [
      | inl le ↦
          let low = o.store.low in
          let found = some_at l.calls (s.next - 1) (let u = le.1 in omega arith) in
          let same : s.next ≡ n = (let h = rw le.0 at f in cc) in
          let is_call : call_of l.calls s.next ≡ Some found.0 = called l.calls s.next found.0 low found.1 in
          subst (λ (k : ℕ). Numbers l k) same (numbers l s.next found.0 is_call)
      | inr gt ↦ absurd (let h = rw gt.0 at f in cc)
    ]
