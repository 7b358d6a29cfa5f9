-- The call in hand, for its worker to peek.
use Rattle.std.proofs.Common.{◌≡◌, ◌-◌, ◌≤◌, ◌<◌, ℕ, true, false, Bool, List, Option, length, refl, sym, ap, ◌∙◌, subst, arith, ne_eqb}
use Rattle.std.specs.Prelude.{Some, None, IsTrue, if◌then◌else◌, is_some, slice_get}
use Rattle.std.proofs.lemmas.Option.{slice_get_within}
use Rattle.tau_base.proofs.Logic.{some_is}
use Rattle.tau_base.specs.declared.value.Call.{Call}
use Rattle.tau_proc.specs.Takes.{takes}
use Rattle.tau_machine.specs.Hands.{Hand}
use Rattle.tau_txn.specs.declared.standing.Standing.{Standing}
use Rattle.tau_txn.specs.declared.standing.Standing.TheVariants as standing
use Rattle.tau_txn.specs.Hand.{PlainHand}
use Rattle.tau_txn.specs.Progress.{IsRunBy}
use Rattle.tau_txn.specs.Read.{hand_of}
use Rattle.tau_txn.specs.Txn.{PlainTxn, hand_in, number_by, number_in, runs_in, shown, shown_of}
use Rattle.tau_core.specs.View.{call_of}
use Rattle.tau_core.specs.declared.state.Load.{Load}
use Rattle.tau_desk.specs.Shares.{FitsWork, PlainWork}

-- its number, and the call of this number
pub record CallAt (l : Load) (t : PlainTxn) : Type 0 where
  pub number : ℕ
  pub call : Call
  pub is : number_in t ≡ Some number
  pub low : 1 ≤ number
  pub within : number - 1 < length l.calls
  pub got : slice_get l.calls (number - 1) ≡ Some call
  pub takes_it : IsTrue (takes l.procs call)
  pub hand : (h : Hand) → hand_in l.procs t ≡ Some h → h.call.call ≡ call

call_there : (calls : List Call) (n : ℕ) (c : Call) → 1 ≤ n → call_of calls n ≡ Some c → slice_get calls (n - 1) ≡ Some c
call_there calls n c low e = sym (ap (λ (b : Bool). if b then None else slice_get calls (n - 1)) (ne_eqb n 0 (λ z. omega (arith, z, low)))) ∙ e

same_hand : (a b : Hand) → Some a ≡ Some b → a ≡ b
same_hand a b e = cc

pub call_in_hand : (l : Load) (w : ℕ) (o : PlainWork) → FitsWork l w o → is_some o.txn.hand ≡ true → CallAt l o.txn
call_in_hand l w o f there = by_hand o.txn.hand refl
  where
    at : (h : PlainHand) → o.txn.hand ≡ Some h → shown_of l.procs o.txn.worker (Some h) ≡ Some (hand_of l.procs o.txn.worker h) → CallAt l o.txn
    at h is shows =
        let runs : IsRunBy l.procs h = subst (λ (x : Option PlainHand). runs_in l.procs x) is f.runs in
        let shown_is : hand_in l.procs o.txn ≡ Some (hand_of l.procs o.txn.worker h) = ap (shown_of l.procs o.txn.worker) is ∙ shows in
        let got = call_there l.calls h.number h.call runs.number (f.call (hand_of l.procs o.txn.worker h) shown_is) in
        record {
          number = h.number;
          call = h.call;
          is = ap number_by is;
          low = runs.number;
          within = slice_get_within l.calls (h.number - 1) h.call got;
          got = got;
          takes_it = runs.takes;
          hand = λ k e. ap (λ (x : Hand). x.call.call) (same_hand k (hand_of l.procs o.txn.worker h) (sym e ∙ shown_is));
        }

    not_both : (b : Bool) → b ≡ false → b ≡ true → ⊥
    not_both true e f = (let bad : true ≡ false = e in cc)
    not_both false e f = (let bad : false ≡ true = f in cc)

    by_standing : (h : PlainHand) (st : Standing) → h.standing ≡ st → o.txn.hand ≡ Some h → CallAt l o.txn
    by_standing h standing.Running s is = at h is (ap (λ (x : Standing). shown l.procs o.txn.worker x h) s)
    by_standing h standing.Quitting s is = at h is (ap (λ (x : Standing). shown l.procs o.txn.worker x h) s)
    by_standing h standing.Placed s is = at h is (ap (λ (x : Standing). shown l.procs o.txn.worker x h) s)
    by_standing h standing.Freeing s is = at h is (ap (λ (x : Standing). shown l.procs o.txn.worker x h) s)
    by_standing h standing.LeftOver s is =
        let gone : hand_in l.procs o.txn ≡ None = ap (shown_of l.procs o.txn.worker) is ∙ ap (λ (x : Standing). shown l.procs o.txn.worker x h) s in
        absurd (not_both (is_some (hand_in l.procs o.txn)) (ap is_some gone) (sym f.stays ∙ there))

    by_hand : (x : Option PlainHand) → o.txn.hand ≡ x → CallAt l o.txn
    by_hand None is = absurd (let bad : false ≡ true = sym (ap is_some is) ∙ there in cc)
    by_hand (Some h) is = by_standing h h.standing refl is

-- what the call of this number is
pub record IsCall (l : Load) (t : PlainTxn) (c : Call) : Type 0 where
  pub takes_it : IsTrue (takes l.procs c)
  pub hand : (h : Hand) → hand_in l.procs t ≡ Some h → h.call.call ≡ c

pub call_found : (l : Load) (t : PlainTxn) (a : CallAt l t) (n : ℕ) → Some n ≡ number_in t → (n - 1 < length l.calls) × ((c : Call) → slice_get l.calls (n - 1) ≡ Some c → IsCall l t c)
call_found l t a n e =
    let same : n ≡ a.number = some_is n a.number (e ∙ a.is) in (
      subst (λ (k : ℕ). k - 1 < length l.calls) (sym same) a.within,
      λ c got.
          let it : a.call ≡ c = some_is a.call c (sym a.got ∙ ap (λ (k : ℕ). slice_get l.calls (k - 1)) (sym same) ∙ got) in
          subst (λ (x : Call). IsCall l t x) it (record { takes_it = a.takes_it; hand = a.hand }),
    )
