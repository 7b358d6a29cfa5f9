-- The catalogues of a log on which a run begins.
use Rattle.std.proofs.Common.{ℕ, suc, Bool, true, false, ◌≡◌, ◌⊎◌, inl, inr, List, [], ◌∷◌, map, Option, Some, None, refl, sym, ap, ◌∙◌, bytes_eq}
use Rattle.std.specs.Prelude.{if◌then◌else◌}
use Rattle.std.proofs.lemmas.Slice.Eq.{bytes_eq-Decides}
use Rattle.tau_model.specs.History.{Member}
use Rattle.tau_record.specs.declared.entry.Placed.{Placed}
use Rattle.tau_scan.specs.declared.fault.LogFault.{LogFault}
use Rattle.tau_scan.specs.declared.fault.LogCause.TheVariants as cause
use Rattle.tau_scan.specs.Begins.{if_declared, declared_fault}
use Rattle.tau_scan.specs.Reading.{alike, catalogue_of, or_else}
use Rattle.tau_epoch_laws.specs.Continues.{none_in}
use Rattle.tau_epoch_laws.proofs.Contents.{AreStreams}

pub no_fault : (o p : Option LogFault) → or_else o p ≡ None → (o ≡ None) × (p ≡ None)
no_fault None p e = (refl, e)
no_fault (Some fault) p e = absurd cc

abbrev declared_fault_of : List ℕ → ℕ → List ℕ → LogFault
declared_fault_of text j found = record { stream = j; cause = cause.Declared (alike text found) }

-- no stream has a record, or one has this text as its catalogue
pub declares : (text : List ℕ) (j : ℕ) (contents : List (List ℕ)) (streams : List (List Placed)) → AreStreams contents streams → declared_fault text j streams ≡ None → none_in streams ⊎ Member (Some text) (map catalogue_of streams)
declares text j [] [] are e = inl tt
declares text j [] (ps ∷ streams) are e = absurd are
declares text j (content ∷ contents) [] are e = absurd are
declares text j (content ∷ contents) (ps ∷ streams) are e = by_catalogue (declares text (suc j) contents streams are.1) (catalogue_of ps) refl e
  where
    by_rest : catalogue_of ps ≡ None → none_in streams ⊎ Member (Some text) (map catalogue_of streams) → none_in (ps ∷ streams) ⊎ Member (Some text) (map catalogue_of (ps ∷ streams))
    by_rest none (inl nothing) = inl (are.0.first none, nothing)
    by_rest none (inr there) = inr (inr there)

    by_test : (found : List ℕ) → catalogue_of ps ≡ Some found → (b : Bool) → bytes_eq text found ≡ b → (if b then None else Some (declared_fault_of text j found)) ≡ None
        → none_in (ps ∷ streams) ⊎ Member (Some text) (map catalogue_of (ps ∷ streams))
    by_test found is true same e = inr (inl (is ∙ ap (λ (t : List ℕ). Some t) (sym ((bytes_eq-Decides text found).0 same))))
    by_test found is false same e = absurd cc

    by_catalogue : (declared_fault text (suc j) streams ≡ None → none_in streams ⊎ Member (Some text) (map catalogue_of streams)) → (o : Option (List ℕ)) → catalogue_of ps ≡ o → if_declared text j o (declared_fault text (suc j) streams) ≡ None → none_in (ps ∷ streams) ⊎ Member (Some text) (map catalogue_of (ps ∷ streams))
    by_catalogue later None is e = by_rest is (later e)
    by_catalogue later (Some found) is e = by_test found is (bytes_eq text found) refl e
