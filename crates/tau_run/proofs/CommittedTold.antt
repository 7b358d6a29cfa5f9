-- Committed acts, as the report has them.
use Rattle.std.proofs.Common.{ℕ, ◌≤◌, ◌≡◌, inl, inr, List, [], ◌∷◌, map, refl, sym, ap, ◌∙◌, arith}
use Rattle.tau_base.specs.Database.{Db, written}
use Rattle.tau_proc.specs.declared.proc.Proc.{Proc}
use Rattle.tau_proc.specs.Effect.{Effect}
use Rattle.tau_proc.specs.Meaning.{meaning}
use Rattle.tau_model.specs.History.{Act, Member, Before, Reordered, trace, exec}
use Rattle.tau_model.proofs.Dependence.{members_order}
use Rattle.tau_machine.specs.Hands as hands
use Rattle.tau_machine.specs.Hands.{Txn}
use Rattle.tau_machine.specs.Pieces.{Chain, records_in, records_of_stream}
use Rattle.tau_machine.specs.State.{Item, Record, Anchor}
use Rattle.tau_machine.specs.Reports.{calls_of}
use Rattle.tau_machine.proofs.Lists.{before_counts, apart_counts, reordered_counts}
use Rattle.tau_run.specs.Run.{Committed, told_of, means, Distinct, StandBetween, of_stream}
use Rattle.tau_run.proofs.Lists.{filter_map}
use Rattle.tau_model.proofs.Assembling.{member_mapped}

abbrev pub act_of : Act Txn → Act Committed
act_of t = record { call = told_of t; effect = t.effect }

pub trace_told : (procs : List Proc) (H : List (Act Txn)) (db : Db) → trace (hands.means procs) (calls_of H) db ≡ H → trace (means procs) (map told_of H) db ≡ map act_of H
trace_told procs [] db is = refl
trace_told procs (t ∷ H) db is =
    let first : meaning procs t.call.call.call db ≡ t.effect = ap (λ (l : List (Act Txn)). effect_in l) is in
    let rest : trace (hands.means procs) (calls_of H) (written (meaning procs t.call.call.call db).writes db) ≡ H = ap tail_of is in
    ap (λ (e : Effect). record { call = told_of t; effect = e } ∷ trace (means procs) (map told_of H) (written (meaning procs t.call.call.call db).writes db)) first
    ∙ ap (λ (l : List (Act Committed)). act_of t ∷ l) (trace_told procs H (written (meaning procs t.call.call.call db).writes db) rest)
  where
    effect_in : List (Act Txn) → Effect
    effect_in [] = t.effect
    effect_in (x ∷ xs) = x.effect

    tail_of : List (Act Txn) → List (Act Txn)
    tail_of [] = []
    tail_of (x ∷ xs) = xs

pub exec_told : (procs : List Proc) (H : List (Act Txn)) (db : Db) → exec (means procs) (map told_of H) db ≡ exec (hands.means procs) (calls_of H) db
exec_told procs [] db = refl
exec_told procs (t ∷ H) db = exec_told procs H (written (meaning procs t.call.call.call db).writes db)

-- no two have one number
abbrev pub number_of : Act Txn → ℕ
number_of t = t.call.call.number

abbrev pub Apart : List (Act Txn) → Type 0
Apart ts = (u t : Act Txn) → Before u t ts → number_of u ≡ number_of t → ⊥

pub apart_reordered : (K H : List (Act Txn)) → Apart K → Reordered K H → Apart H
apart_reordered K H apart r u t b e =
    let two = before_counts (number_of u) u t H b refl e in
    let one = apart_counts K apart (number_of u) in
    let same = reordered_counts (number_of u) K H r in
    absurd (omega arith)

pub one_of_number : (K : List (Act Txn)) → Apart K → (u t : Act Txn) → Member u K → Member t K → number_of u ≡ number_of t → u ≡ t
one_of_number K apart u t mu mt e = elim (members_order u t K mu mt) [
  | inl o ↦ elim o [ inl b ↦ absurd (apart u t b e) | inr b ↦ absurd (apart t u b (sym e)) ]
  | inr same ↦ sym same
]

pub distinct_of : (ts : List (Act Txn)) → Apart ts → Distinct (map (λ (c : Committed). c.number) (map told_of ts))
distinct_of [] apart = tt
distinct_of (t ∷ ts) apart = (
  λ m. (let w = member_mapped (λ (c : Committed). c.number) (number_of t) (map told_of ts) m in
      let v = member_mapped told_of w.0 ts w.1 in
      apart t v.0 (inl (refl, v.1)) (sym (ap (λ (c : Committed). c.number) v.2 ∙ w.2))),
  distinct_of ts (λ u v b e. apart u v (inr b) e),
)

-- items that touch stand one after the other
pub chain_stands : (low a b : ℕ) (items : List Item) → Chain a items b → low ≤ a → StandBetween low b (map told_of (records_in items))
chain_stands low a b [] c h = omega (arith, c, h)
chain_stands low a b (Record t ∷ items) c h = ((let e = c.0 in omega (arith, e, h)), (let e = c.0 in let f = c.1 in omega (arith, e, f)), chain_stands t.call.place.past t.call.place.past b items c.2 (omega arith))
chain_stands low a b (Anchor x y v ∷ items) c h = chain_stands low y b items c.2 (let f = c.1 in omega (arith, f, h))

pub stream_told : (H : List (Act Txn)) (j : ℕ) → of_stream (map told_of H) j ≡ map told_of (records_of_stream j H)
stream_told H j = filter_map told_of _ _ H (λ x m. refl)
