-- The tables of a workload that was read: each name is known as its own place.
use Rattle.std.proofs.Common.{ℕ, zero, suc, ◌+◌, ◌≡◌, Bool, true, false, cond, List, [], ◌∷◌, ◌++◌, length, bytes_eq, refl, sym, ap, subst, ◌∙◌, append_assoc, arith, Option}
use Rattle.std.specs.Prelude.{Some, None, Ok, slice_get}
use Rattle.std.proofs.lemmas.List.{length-append}
use Rattle.std.proofs.lemmas.Slice.Eq.{bytes_eq-Decides}
use Rattle.tau_base.specs.declared.limits.TheConstants.{MAX_TABLES}
use Rattle.tau_text.specs.declared.load.Workload.{Workload}
use Rattle.tau_text.specs.Given.{◌>>=◌}
use Rattle.tau_text.specs.Spelled.{fresh, name, place_from, known, new_name}
use Rattle.tau_text.specs.Forms.{room, table_line}
use Rattle.tau_text.specs.Text.{workload_of}
use Rattle.tau_text.proofs.Binds.{bind_ok}
use Rattle.tau_text_laws.proofs.Binds.{then_ok}
use Rattle.tau_text_laws.proofs.Law.{source}
use Rattle.tau_text_laws.proofs.PartsTold.{TablesTold}
use Rattle.tau_inspect.specs.RunText.{AreNames}
use Rattle.tau_inspect.proofs.Acts.{none_some}
use Rattle.tau_base.proofs.Logic.{some_is}

none_is : (n w : List ℕ) (o : Option ℕ) → fresh n o ≡ Ok w → (o ≡ None) × (n ≡ w)
none_is n w None e = (refl, cc)
none_is n w (Some i) e = absurd cc

own_step : (t : Bool) (k i j : ℕ) (o p : Option ℕ) → (o ≡ None → p ≡ Some j) → j ≡ i → cond t (Some k) o ≡ None → cond t (Some k) p ≡ Some i
own_step true k i j o p h same e = absurd cc
own_step false k i j o p h same e = h e ∙ ap (λ (m : ℕ). Some m) same

-- a name that none of those before it is stands at its own place
own_place : (k : ℕ) (w : List ℕ) (before after : List (List ℕ)) → place_from k w before ≡ None → place_from k w (before ++ w ∷ after) ≡ Some (k + length before)
unfolding place_from
own_place k w [] after e = rw ((bytes_eq-Decides w w).1 refl) (ap (λ (j : ℕ). Some j) (omega arith))
own_place k w (n ∷ ns) after e =
    own_step (bytes_eq n w) k (k + length (n ∷ ns)) (k + 1 + length ns) (place_from (k + 1) w ns) (place_from (k + 1) w (ns ++ w ∷ after)) (λ q. own_place (k + 1) w ns after q) (omega arith) e

record Fresh (before : List (List ℕ)) (w : List ℕ) : Type 0 where
  spelled : name w ≡ Ok w
  new : place_from 0 w before ≡ None

new_is : (before : List (List ℕ)) (v w : List ℕ) → new_name before v ≡ Ok w → (name v ≡ Ok w) × (place_from 0 w before ≡ None)
unfolding new_name
new_is before v w e =
    let n = bind_ok (name v) (λ m. fresh m (place_from 0 m before)) w e in
    let f = none_is n.0 w (place_from 0 n.0 before) n.2 in
    (n.1 ∙ ap (λ (u : List ℕ). Ok u) f.1, subst (λ (u : List ℕ). place_from 0 u before ≡ None) f.1 f.0)

fresh_name : (before : List (List ℕ)) (w : List ℕ) → table_line before (w ∷ []) ≡ Ok w → Fresh before w
unfolding table_line
fresh_name before w e =
    let b = bind_ok (new_name before w) (λ n. room MAX_TABLES (length before) >>= λ _. Ok n) w e in
    let d = bind_ok (room MAX_TABLES (length before)) (λ _. Ok b.0) w b.2 in
    let same : b.0 ≡ w = cc d.2 in
    let new = new_is before w w (b.1 ∙ ap (λ (v : List ℕ). Ok v) same) in
    record { spelled = new.0; new = new.1 }

known_own : (before after : List (List ℕ)) (w : List ℕ) → Fresh before w → known (before ++ w ∷ after) w ≡ Ok (length before)
unfolding known
known_own before after w f = then_ok (name w) _ w (Ok (length before)) f.spelled (rw (own_place 0 w before after f.new) (ap (λ (j : ℕ). Ok j) (omega arith)))

names_from : (before ts : List (List ℕ)) → TablesTold before ts → (i : ℕ) (w : List ℕ) → slice_get ts i ≡ Some w → known (before ++ ts) w ≡ Ok (length before + i)
names_from before [] told i w at = absurd (none_some w at)
names_from before (t ∷ ts) told zero w at =
    let same : t ≡ w = some_is t w at in
    let own : known (before ++ t ∷ ts) t ≡ Ok (length before + 0) = known_own before ts t (fresh_name before t told.0) ∙ ap (λ (j : ℕ). Ok j) (omega arith) in
    subst (λ (v : List ℕ). known (before ++ t ∷ ts) v ≡ Ok (length before + 0)) same own
names_from before (t ∷ ts) told (suc i) w at =
    ap (λ (l : List (List ℕ)). known l w) (sym (append_assoc before (t ∷ []) ts)) ∙ names_from (before ++ t ∷ []) ts told.1 i w at ∙ ap (λ (j : ℕ). Ok j) (omega (arith, length-append before (t ∷ [])))

pub names_are_known : (text : List ℕ) (load : Workload) → workload_of text ≡ Ok load → AreNames load.declarations.tables
names_are_known text load e =
    let s = source text load e in
    λ i w at. names_from [] load.declarations.tables (subst (λ (l : Workload). TablesTold [] l.declarations.tables) s.same s.told.tables) i w at ∙ ap (λ (j : ℕ). Ok j) (omega arith)
