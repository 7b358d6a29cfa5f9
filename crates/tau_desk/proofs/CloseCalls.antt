-- The committed calls of the workers, worker after worker.
use Rattle.std.proofs.Common.{ℕ, zero, suc, ◌+◌, ◌<◌, ◌≤◌, ◌≡◌, List, ◌++◌, length, length-append, refl, sym, ap, ◌∙◌, Option, append_assoc, arith}
use Rattle.std.specs.Prelude.{Some, None}
use Rattle.std.proofs.lemmas.List.{append-nil}
use Rattle.tau_machine.specs.Reports.{in_turn}
use Rattle.tau_machine.specs.Worker.{Worker}
use Rattle.tau_core.specs.declared.state.Load.{Load}
use Rattle.tau_desk.specs.declared.mark.Mark.{Mark}
use Rattle.tau_desk.specs.Shares.{PlainWork, ShowsWorker}
use Rattle.tau_desk.specs.Taken.{settled}

pub in_turn_snoc : {A : Type 0} (n : ℕ) (f : ℕ → List A) → in_turn (suc n) f ≡ in_turn n f ++ f n
in_turn_snoc zero f = append-nil (f 0)
in_turn_snoc (suc n) f = ap (λ l. f 0 ++ l) (in_turn_snoc n (λ j. f (suc j))) ∙ sym (append_assoc (f 0) (in_turn n (λ j. f (suc j))) (f (suc n)))

-- those of one worker more have room where all have
pub in_turn_room : {A : Type 0} (n k : ℕ) (f : ℕ → List A) → k < n → length (in_turn k f) + length (f k) ≤ length (in_turn n f)
in_turn_room zero k f lt = absurd (omega arith)
in_turn_room (suc n) zero f lt = (let a = length-append (f 0) (in_turn n (λ j. f (suc j))) in omega (arith, a))
in_turn_room (suc n) (suc k) f lt =
    let rest = in_turn_room n k (λ j. f (suc j)) (omega (arith, lt)) in
    let a = length-append (f 0) (in_turn k (λ j. f (suc j))) in
    let b = length-append (f 0) (in_turn n (λ j. f (suc j))) in
    omega (arith, rest, a, b)

pub in_turn_same : {A : Type 0} (n : ℕ) (f g : ℕ → List A) → ((w : ℕ) → w < n → f w ≡ g w) → in_turn n f ≡ in_turn n g
in_turn_same zero f g same = refl
in_turn_same (suc n) f g same = λ i. same 0 (omega arith) i ++ in_turn_same n (λ j. f (suc j)) (λ j. g (suc j)) (λ w lt. same (suc w) (omega (arith, lt))) i

-- a call that waits again leaves the committed ones as they are
pub settled_calls : (o : PlainWork) (m : Option Mark) → (settled o m).committed ≡ o.committed
settled_calls o None = refl
settled_calls o (Some k) = refl

pub shown_calls : (l : Load) (wk : Worker) (o : PlainWork) (m : Option Mark) → ShowsWorker l wk o m → wk.committed ≡ o.committed
shown_calls l wk o None h = ap (λ (x : Worker). x.committed) h
shown_calls l wk o (Some k) h = ap (λ (x : Worker). x.committed) h.0
