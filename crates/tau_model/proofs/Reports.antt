-- What the reported history of a log says of the calls.
use Rattle.std.proofs.Common.{ℕ, ◌≤◌, true, false, ◌≡◌, inl, inr, List, [], ◌∷◌, map, length, refl, sym, ap, ◌∙◌, ◌||◌}
use Rattle.std.specs.List.{filter}
use Rattle.std.specs.Prelude.{slice_index_or}
use Rattle.std.proofs.lemmas.Bool.{both_ways, or_cases}
use Rattle.tau_base.specs.declared.value.Key.{Key}
use Rattle.tau_base.specs.declared.value.Value.{Value}
use Rattle.tau_base.specs.Database.{Db}
use Rattle.tau_proc.specs.Effect.{Effect, has_key}
use Rattle.tau_proc.specs.Effect.{Sound}
use Rattle.tau_model.specs.History.{Act, trace, exec, redo, Reordered, updating, updates, Conflict, KeepsOrder}
use Rattle.tau_model.specs.Logged.{Place, IsLogged}
use Rattle.tau_model.specs.Reported.{Left, IsLeft, reported_within, in_stream}
use Rattle.tau_model.proofs.Orders.{Consistent, redo_trace, trace_calls, same_acts}
use Rattle.tau_model.proofs.ReportOrder.{reported_is, IsReport}
use Rattle.tau_base.proofs.Logic.{or_true, or_left}

-- what writes a key updates
pub writes_updates : (ws : List (Key × Value)) (k : Key) → has_key k ws ≡ true → updating ws ≡ true
writes_updates [] k e = absurd (both_ways false refl e)
writes_updates (w ∷ ws) k e = refl

-- of two calls that conflict one updates
one_updates : (e f : Effect) → Conflict e f → (updates e || updates f) ≡ true
one_updates e f (k, a, b, w) = elim (or_cases (has_key k e.writes) (has_key k f.writes) w) [
  | inl p ↦ or_left (updates e) (updates f) (writes_updates e.writes k p)
  | inr p ↦ or_true (updates e) (updates f) (writes_updates f.writes k p)
]

module _ {C : Type 0} (meaning : C → Db → Effect) (sound : Sound meaning) (place : C → Place) (ends : List ℕ) (db : Db) where
  -- the report of acts that are what their calls mean one after another
  pub reported_acts : (acts : List (Act C)) → Consistent meaning acts db → IsLogged place ends acts → (n : ℕ) → length acts ≤ n →
      (left : Left (Act C)) → IsLeft (λ (x : Act C). place x.call) (λ x. updates x.effect) ends acts left →
      let out : List (Act C) = reported_within (λ (x : Act C). place x.call) n ends left in
      Reordered acts out × KeepsOrder acts out × (trace meaning (map (λ x. x.call) out) db ≡ out) × (exec meaning (map (λ x. x.call) out) db ≡ redo acts db) ×
      ((j : ℕ) → filter (in_stream (λ (x : Act C). place x.call) (λ x. updates x.effect) j) out ≡ slice_index_or left.streams j [])
  reported_acts acts consistent logged n size left is =
      let out : List (Act C) = reported_within (λ (x : Act C). place x.call) n ends left in
      let r : IsReport (λ (x : Act C). place x.call) (λ x. updates x.effect) acts left.streams out =
      reported_is (λ (x : Act C). place x.call) (λ x. updates x.effect) ends n acts left size logged.places is in
      let keeps : KeepsOrder acts out = λ u t b c v. r.in_order t u v (logged.ordered u t b c, one_updates u.effect t.effect c) in
      let same = same_acts meaning sound acts out db consistent r.once keeps in
      let there : trace meaning (map (λ (x : Act C). x.call) out) db ≡ out = trace_calls meaning out db same.0 in (
        r.once,
        keeps,
        there,
        sym (redo_trace meaning (map (λ (x : Act C). x.call) out) db) ∙ ap (λ (zs : List (Act C)). redo zs db) there ∙ same.1,
        r.by_stream,
      )
