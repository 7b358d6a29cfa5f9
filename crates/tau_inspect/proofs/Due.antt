-- The reported history of the order's calls, as a listing of them gives it.
use Rattle.std.proofs.Common.{ℕ, zero, suc, ◌≡◌, ◌==◌, Bool, true, false, inl, inr, List, [], ◌∷◌, map, refl, sym, ap, ◌∙◌, arith}
use Rattle.std.specs.Prelude.{Some, None, slice_get, if◌then◌else◌, Result, Ok, Err, OnOk}
use Rattle.std.proofs.Math.Path.{fun_ext}
use Rattle.std.proofs.lemmas.Bool.{cases_Bool}
use Rattle.std.proofs.lemmas.Bool.Decides.{nat_tests}
use Rattle.tau_model.specs.declared.committed.Committed.{Committed}
use Rattle.tau_model.specs.declared.committed.Spot.{Spot}
use Rattle.tau_model.specs.Committed.{place_at, lv_at, has_record, number_of, reported_numbers}
use Rattle.tau_model.specs.Committed as of_model
use Rattle.tau_model.specs.History.{Numbered, Act, updates}
use Rattle.tau_model.specs.Logged.{Place}
use Rattle.tau_model.specs.Reported.{reported_of}
use Rattle.tau_proc.specs.declared.reply.Reply.TheVariants as reply
use Rattle.tau_base.specs.declared.value.Value.TheVariants.{Absent}
use Rattle.tau_scan.specs.Taken.{Kept}
use Rattle.tau_inspect.specs.ByNumber.{IsUnique}
use Rattle.tau_inspect.specs.Audit.{Case, acts, records, nowhere, place_in, vector_in, place_of, due, committed_by, committed_of}
use Rattle.tau_inspect.proofs.Mapped.{reported_map}
use Rattle.tau_base.proofs.Logic.{some_is}
use Rattle.tau_inspect.proofs.Acts.{none_some}

unique_tail : (x : ℕ) (xs : List ℕ) → IsUnique (x ∷ xs) → IsUnique xs
unique_tail x xs u i j k a b = (let e : suc i ≡ suc j = u (suc i) (suc j) k a b in omega arith)

same_test : (a b : ℕ) → a ≡ b → (a == b) ≡ true
same_test a b e = grind (arith, nat_tests)

number_get : (rs : List Kept) (j : ℕ) (r : Kept) → slice_get rs j ≡ Some r → slice_get (map (λ (q : Kept). q.number) rs) j ≡ Some r.number
number_get [] j r e = absurd (none_some r e)
number_get (q ∷ qs) zero r e = ap (λ (z : Kept). Some z.number) (some_is q r e)
number_get (q ∷ qs) (suc j) r e = number_get qs j r e

pub place_there : (rs : List Kept) (j k : ℕ) (r : Kept) → IsUnique (map (λ (q : Kept). q.number) rs) → slice_get rs j ≡ Some r → r.number ≡ k → place_in k rs ≡ r.place
place_there [] j k r u at is = absurd (none_some r at)
place_there (q ∷ qs) zero k r u at is =
    let same : q ≡ r = some_is q r at in
    let test : (q.number == k) ≡ true = same_test q.number k (ap (λ (z : Kept). z.number) same ∙ is) in
    ap (λ (b : Bool). if b then q.place else place_in k qs) test ∙ ap (λ (z : Kept). z.place) same
place_there (q ∷ qs) (suc j) k r u at is = elim (cases_Bool (q.number == k)) [
  | inl e ↦
      let same : q.number ≡ k = grind (arith, nat_tests) in
      let other = number_get qs j r at ∙ ap (λ (n : ℕ). Some n) is in
      let place : 0 ≡ suc j = u 0 (suc j) k (ap (λ (n : ℕ). Some n) same) other in
      absurd (omega (arith, place))
  | inr e ↦ ap (λ (b : Bool). if b then q.place else place_in k qs) e ∙ place_there qs j k r (unique_tail q.number (map (λ (z : Kept). z.number) qs) u) at is
]

pub ack_get : (as' : List (ℕ × List ℕ)) (j : ℕ) (a : ℕ × List ℕ) → slice_get as' j ≡ Some a → slice_get (map (λ (b : ℕ × List ℕ). b.0) as') j ≡ Some a.0
ack_get [] j a e = absurd (none_some a e)
ack_get (q ∷ qs) zero a e = ap (λ (z : ℕ × List ℕ). Some z.0) (some_is q a e)
ack_get (q ∷ qs) (suc j) a e = ack_get qs j a e

pub vector_there : (as' : List (ℕ × List ℕ)) (j k : ℕ) (a : ℕ × List ℕ) → IsUnique (map (λ (b : ℕ × List ℕ). b.0) as') → slice_get as' j ≡ Some a → a.0 ≡ k → vector_in k as' ≡ a.1
vector_there [] j k a u at is = absurd (none_some a at)
vector_there (q ∷ qs) zero k a u at is =
    let same : q ≡ a = some_is q a at in
    let test : (q.0 == k) ≡ true = same_test q.0 k (ap (λ (z : ℕ × List ℕ). z.0) same ∙ is) in
    ap (λ (b : Bool). if b then q.1 else vector_in k qs) test ∙ ap (λ (z : ℕ × List ℕ). z.1) same
vector_there (q ∷ qs) (suc j) k a u at is = elim (cases_Bool (q.0 == k)) [
  | inl e ↦
      let same : q.0 ≡ k = grind (arith, nat_tests) in
      let other = ack_get qs j a at ∙ ap (λ (n : ℕ). Some n) is in
      let place : 0 ≡ suc j = u 0 (suc j) k (ap (λ (n : ℕ). Some n) same) other in
      absurd (omega (arith, place))
  | inr e ↦ ap (λ (b : Bool). if b then q.1 else vector_in k qs) e ∙ vector_there qs j k a (unique_tail q.0 (map (λ (z : ℕ × List ℕ). z.0) qs) u) at is
]

-- the element of which the number was found
pub named_record : (rs : List Kept) (j k : ℕ) (r : Kept) → slice_get (map (λ (q : Kept). q.number) rs) j ≡ Some k → slice_get rs j ≡ Some r → r.number ≡ k
named_record rs j k r at got = some_is r.number k (sym (number_get rs j r got) ∙ at)

pub named_ack : (as' : List (ℕ × List ℕ)) (j k : ℕ) (a : ℕ × List ℕ) → slice_get (map (λ (b : ℕ × List ℕ). b.0) as') j ≡ Some k → slice_get as' j ≡ Some a → a.0 ≡ k
named_ack as' j k a at got = some_is a.0 k (sym (ack_get as' j a got) ∙ at)

-- ---- what is put

pub on_ok : {X E P Q : Type 0} (r : Result X E) → OnOk r P → (P → Q) → OnOk r Q
on_ok (Ok x) p h = h p
on_ok (Err e) p h = tt

pub writer_put : (number : ℕ) (p : Place) (v : List ℕ) (s : Spot) → v ≡ p.dep → s ≡ record { stream = p.stream; start = p.start; past = p.past; anchor = 0 } →
    ◌≡◌ {A = Committed} (record { number = number; reply = reply.Ok Absent; dep = v; lv = lv_at v (Some s); spot = Some s }) (committed_by number true p)
writer_put number p v s d e = λ i. record { number = number; reply = reply.Ok Absent; dep = d i; lv = lv_at (d i) (Some (e i)); spot = Some (e i) }

pub reader_put : (number : ℕ) (v w : List ℕ) → v ≡ w → ◌≡◌ {A = Committed} (record { number = number; reply = reply.Ok Absent; dep = v; lv = lv_at v None; spot = None }) (committed_by number false (nowhere w))
reader_put number v w d = λ i. record { number = number; reply = reply.Ok Absent; dep = d i; lv = d i; spot = None }

-- ---- the listing

module _ (c : Case) where
  f : Act Numbered → Committed
  f x = committed_of c x

  place_as : (x : Act Numbered) (b : Bool) → updates x.effect ≡ b → of_model.place_of (committed_by x.call.number b (if b then place_in x.call.number (records c) else nowhere (vector_in x.call.number c.report.acks))) ≡ (if b then place_in x.call.number (records c) else nowhere (vector_in x.call.number c.report.acks))
  place_as x true e = refl
  place_as x false e = refl

  places : (x : Act Numbered) → of_model.place_of (f x) ≡ place_of c x
  unfolding f
  places x = place_as x (updates x.effect) refl

  recorded_as : (number : ℕ) (b : Bool) (p : Place) → has_record (committed_by number b p) ≡ b
  recorded_as number true p = refl
  recorded_as number false p = refl

  has : (x : Act Numbered) → has_record (f x) ≡ updates x.effect
  unfolding f
  has x = recorded_as x.call.number (updates x.effect) (place_of c x)

  number_as : (number : ℕ) (b : Bool) (p : Place) → number_of (committed_by number b p) ≡ number
  number_as number true p = refl
  number_as number false p = refl

  numbers : (x : Act Numbered) → number_of (f x) ≡ x.call.number
  unfolding f
  numbers x = number_as x.call.number (updates x.effect) (place_of c x)

  mapped : (xs : List (Act Numbered)) → map number_of (map f xs) ≡ map (λ x. x.call.number) xs
  mapped [] = refl
  mapped (x ∷ xs) = λ i. numbers x i ∷ mapped xs i

  pub due_is : reported_numbers c.log.elv (map (committed_of c) (acts c)) ≡ due c
  unfolding f
  due_is =
      ap (map number_of) (sym (reported_map f of_model.place_of has_record number_of c.log.elv (acts c)))
      ∙ mapped (reported_of (λ x. of_model.place_of (f x)) (λ x. has_record (f x)) (λ x. number_of (f x)) c.log.elv (acts c))
      ∙ ap (λ (p : Act Numbered → Place). map (λ (x : Act Numbered). x.call.number) (reported_of p (λ x. has_record (f x)) (λ x. number_of (f x)) c.log.elv (acts c))) (fun_ext places)
      ∙ ap (λ (u : Act Numbered → Bool). map (λ (x : Act Numbered). x.call.number) (reported_of (place_of c) u (λ x. number_of (f x)) c.log.elv (acts c))) (fun_ext has)
      ∙ ap (λ (n : Act Numbered → ℕ). map (λ (x : Act Numbered). x.call.number) (reported_of (place_of c) (λ x. updates x.effect) n c.log.elv (acts c))) (fun_ext numbers)
