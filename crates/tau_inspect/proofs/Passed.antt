-- A walk to the end passes each record once, and each fits its call.
use Rattle.std.proofs.Common.{ℕ, zero, suc, ◌≤◌, ◌<◌, ◌≡◌, Bool, true, false, inl, inr, List, [], ◌∷◌, ◌++◌, length, map, take, refl, sym, ap, subst, ◌∙◌, arith, get_or-set_other, get_or-set_same}
use Rattle.std.specs.Prelude.{Some, slice_get, slice_index}
use Rattle.std.proofs.lemmas.Bool.{cases_eq}
use Rattle.std.proofs.lemmas.List.{length-append}
use Rattle.tau_base.specs.Database.{Db, empty_db, written}
use Rattle.tau_base.specs.declared.value.Call.{Call}
use Rattle.tau_proc.specs.declared.proc.Proc.{Proc}
use Rattle.tau_base.proofs.Logic.{below_or_not, some_is}
use Rattle.tau_model.specs.History.{Act, Numbered, Member, updates, means, exec, trace}
use Rattle.tau_model.proofs.Orders.{member_back}
use Rattle.tau_scan.specs.Taken.{Kept}
use Rattle.tau_inspect.specs.declared.walk.Walk.{Walk}
use Rattle.tau_inspect.specs.ByNumber.{IsUnique}
use Rattle.tau_inspect.specs.Firsts.{AllFit}
use Rattle.tau_inspect.specs.Audit.{Case, acts, records, has_record, FitsRecord, FitsReply, IsWork}
use Rattle.tau_inspect.specs.Executed.{call_of, history, numbered}
use Rattle.tau_inspect.specs.Walks.{IsFor, IsPassed, Step, Walks}
use Rattle.tau_inspect.proofs.Acts.{get_in, get_member, none_some, number_at}
use Rattle.tau_inspect.proofs.Recorded.{recorded}
use Rattle.tau_inspect.proofs.Walking.{head_found}

numbered_get : (rs : List Kept) (j k : ℕ) → slice_get (map (λ (q : Kept). q.number) rs) j ≡ Some k → (r : Kept) × (slice_get rs j ≡ Some r) × (r.number ≡ k) × (j < length rs)
numbered_get [] j k e = absurd (none_some k e)
numbered_get (q ∷ qs) zero k e = (q, refl, some_is q.number k e, omega arith)
numbered_get (q ∷ qs) (suc j) k e = let w = numbered_get qs j k e in let lt = w.3 in (w.0, w.1, w.2, omega (arith, lt))

at_front : {A : Type 0} (xs ys : List A) (x : A) → slice_get (xs ++ x ∷ ys) (length xs) ≡ Some x
at_front [] ys x = refl
at_front (z ∷ xs) ys x = at_front xs ys x

mapped_front : (front back : List Kept) (r : Kept) → slice_get (map (λ (q : Kept). q.number) (front ++ r ∷ back)) (length front) ≡ Some r.number
mapped_front [] back r = refl
mapped_front (q ∷ front) back r = mapped_front front back r

front_get : (front rest : List Kept) (j k : ℕ) → slice_get (map (λ (q : Kept). q.number) front) j ≡ Some k → (slice_get (map (λ (q : Kept). q.number) (front ++ rest)) j ≡ Some k) × (j < length front)
front_get [] rest j k e = absurd (none_some k e)
front_get (q ∷ front) rest zero k e = (e, omega arith)
front_get (q ∷ front) rest (suc j) k e = let w = front_get front rest j k e in let lt = w.1 in (w.0, omega (arith, lt))

-- the call at a place is that of its number
called_at : (procs : List Proc) (calls : List Call) (order : List ℕ) (db : Db) (i : ℕ) (x : Act Numbered) → slice_get (trace (means procs) (history calls order) db) i ≡ Some x → x.call.call ≡ call_of calls x.call.number
called_at procs calls [] db i x e = absurd (none_some x e)
called_at procs calls (n ∷ ns) db zero x e =
    let same : record { call = numbered calls n; effect = means procs (numbered calls n) db } ≡ x = some_is (record { call = numbered calls n; effect = means procs (numbered calls n) db }) x e in
    subst (λ (z : Act Numbered). z.call.call ≡ call_of calls z.call.number) same refl
called_at procs calls (n ∷ ns) db (suc i) x e = called_at procs calls ns (written (means procs (numbered calls n) db).writes db) i x e

-- the call at a place, with what it does after those before it
pub act_on : (procs : List Proc) (calls : List Call) (order : List ℕ) (db : Db) (i n : ℕ) → slice_get order i ≡ Some n →
    slice_get (trace (means procs) (history calls order) db) i ≡ Some (record { call = numbered calls n; effect = means procs (numbered calls n) (exec (means procs) (history calls (take i order)) db) })
act_on procs calls [] db i n e = absurd (none_some n e)
act_on procs calls (m ∷ ms) db zero n e = ap (λ (k : ℕ). Some (record { call = numbered calls k; effect = means procs (numbered calls k) db })) (some_is m n e)
act_on procs calls (m ∷ ms) db (suc i) n e = act_on procs calls ms (written (means procs (numbered calls m) db).writes db) i n e

module _ (c : Case) (stop : Walk) where
  -- the call at this place of the order passes the record at this index
  abbrev PassesAt : (xs : List (Act Numbered)) (w : Walk) → Walks c w xs stop → ℕ → ℕ → Type 0
  PassesAt [] w h p i = ⊥
  PassesAt (x ∷ xs) w (new, step, said, h) zero i = (updates x.effect ≡ true) × (i ≡ slice_index w.nexts.items new.stream)
  PassesAt (x ∷ xs) w (new, step, said, h) (suc p) i = PassesAt xs new h p i

  one_index : (xs : List (Act Numbered)) (w : Walk) (h : Walks c w xs stop) (p i j : ℕ) → PassesAt xs w h p i → PassesAt xs w h p j → i ≡ j
  one_index [] w h p i j a b = absurd a
  one_index (x ∷ xs) w (new, step, said, h) zero i j a b = a.1 ∙ sym b.1
  one_index (x ∷ xs) w (new, step, said, h) (suc p) i j a b = one_index xs new h p i j a b

  -- what a record that is passed is
  record Passed (xs : List (Act Numbered)) (w : Walk) (h : Walks c w xs stop) (i : ℕ) : Type 0 where
    place : ℕ
    call : Act Numbered
    one : Kept
    there : slice_get xs place ≡ Some call
    at : PassesAt xs w h place i
    up : updates call.effect ≡ true
    here : slice_get (records c) i ≡ Some one
    named : one.number ≡ call.call.number
    fits : IsFor c call.call.number call.effect.writes one

  -- each record of a stream from its next one to the end
  passed : (xs : List (Act Numbered)) (w : Walk) (h : Walks c w xs stop) (j i : ℕ) → slice_index w.nexts.items j ≤ i → i < slice_index stop.nexts.items j → Passed xs w h i
  passed [] w h j i low high = (let same : slice_index stop.nexts.items j ≡ slice_index w.nexts.items j = ap (λ (v : Walk). slice_index v.nexts.items j) h.0 in absurd (omega (arith, low, high, same)))
  passed (x ∷ xs) w (new, step, said, h) j i low high =
      by_up (updates x.effect) refl step (λ below. later (passed xs new h j i below high))
    where
      later : Passed xs new h i → Passed (x ∷ xs) w (new, step, said, h) i
      later q = record { place = suc q.place; call = q.call; one = q.one; there = q.there; at = q.at; up = q.up; here = q.here; named = q.named; fits = q.fits }

      by_up : (b : Bool) → updates x.effect ≡ b → Step (records c) c.report.acks c.log.elv (IsFor c x.call.number x.effect.writes) b x.call.number w new → (slice_index new.nexts.items j ≤ i → Passed (x ∷ xs) w (new, step, said, h) i) →
          Passed (x ∷ xs) w (new, step, said, h) i
      by_up false u r rest = (let same : slice_index new.nexts.items j ≡ slice_index w.nexts.items j = λ k. slice_index (r.0.same.0 k).items j in rest (omega (arith, low, same)))
      by_up true u g rest = elim (cases_eq j new.stream) [
        | inl same ↦ elim (cases_eq i (slice_index w.nexts.items new.stream)) [
          | inl first ↦
              let found = head_found (slice_get (records c) (slice_index w.nexts.items new.stream)) new.stream g.lowest.one g.lowest.next in
              record { place = 0; call = x; one = g.lowest.one; there = refl; at = (u, first); up = u; here = ap (slice_get (records c)) first ∙ found.0; named = g.named; fits = g.fits }
          | inr other ↦
              let turned : slice_index w.nexts.items j ≡ slice_index w.nexts.items new.stream = ap (slice_index w.nexts.items) same in
              let next : slice_index new.nexts.items j ≡ suc (slice_index w.nexts.items new.stream) = ap (slice_index new.nexts.items) same ∙ ap (λ (l : List ℕ). slice_index l new.stream) g.nexts
              ∙ get_or-set_same w.nexts.items new.stream (suc (slice_index w.nexts.items new.stream)) 0 g.lowest.within in
              rest (above i (slice_index w.nexts.items new.stream) (slice_index new.nexts.items j) other (omega (arith, low, turned)) next)
        ]
        | inr other ↦
            let same : slice_index new.nexts.items j ≡ slice_index w.nexts.items j = ap (λ (l : List ℕ). slice_index l j) g.nexts ∙ get_or-set_other w.nexts.items new.stream j (suc (slice_index w.nexts.items new.stream)) 0 other in
            rest (omega (arith, low, same))
      ]
        where
          above : (a b d : ℕ) → (a ≡ b → ⊥) → b ≤ a → d ≡ suc b → d ≤ a
          above a b d ne le e = elim (below_or_not b a) [
            | inl lt ↦ omega (arith, lt, e)
            | inr ge ↦ absurd (ne (omega (arith, ge, le)))
          ]

  module _ (first : Walk) (walks : Walks c first (acts c) stop) (whole : IsPassed (length (records c)) (length c.log.elv) first.nexts.items stop.nexts.items) (unique : IsUnique c.report.order) where
    -- each record is before the end of its stream
    in_stream : (j i : ℕ) → j < length c.log.elv → i < slice_index stop.nexts.items j → Passed (acts c) first walks i
    in_stream j i lt below = elim (below_or_not i (slice_index first.nexts.items j)) [
      | inr from ↦ passed (acts c) first walks j i from below
      | inl before ↦ lower j lt before
    ]
      where
        lower : (k : ℕ) → k < length c.log.elv → i < slice_index first.nexts.items k → Passed (acts c) first walks i
        lower zero small less = (let none = whole.begins in absurd (omega (arith, less, none)))
        lower (suc k) small less =
            let same = whole.goes_on k small in
            elim (below_or_not i (slice_index first.nexts.items k)) [
              | inl more ↦ lower k (omega (arith, small)) more
              | inr from ↦ passed (acts c) first walks k i from (omega (arith, less, same))
            ]

    every : (i : ℕ) → i < length (records c) → Passed (acts c) first walks i
    every i lt = by_width (length c.log.elv) refl
      where
        by_width : (n : ℕ) → length c.log.elv ≡ n → Passed (acts c) first walks i
        by_width zero e = (let wide = whole.wide in absurd (omega (arith, wide, e)))
        by_width (suc n) e = (let last = whole.finishes n (sym e) in in_stream n i (omega (arith, e)) (omega (arith, lt, last)))

    -- no two records have one number
    pub numbered_once : IsUnique (map (λ (r : Kept). r.number) (records c))
    numbered_once i j k a b =
        let one = numbered_get (records c) i k a in let other = numbered_get (records c) j k b in
        let p : Passed (acts c) first walks i = every i one.3 in let q : Passed (acts c) first walks j = every j other.3 in
        let at : slice_get c.report.order p.place ≡ Some k =
        number_at c.load.declarations.procs c.load.calls c.report.order empty_db p.place p.call p.there ∙ ap (λ (n : ℕ). Some n) (sym p.named ∙ ap (λ (z : Kept). z.number) (some_is p.one one.0 (sym p.here ∙ one.1)) ∙ one.2) in
        let too : slice_get c.report.order q.place ≡ Some k =
        number_at c.load.declarations.procs c.load.calls c.report.order empty_db q.place q.call q.there ∙ ap (λ (n : ℕ). Some n) (sym q.named ∙ ap (λ (z : Kept). z.number) (some_is q.one other.0 (sym q.here ∙ other.1)) ∙ other.2) in
        one_index (acts c) first walks q.place i j (subst (λ (n : ℕ). PassesAt (acts c) first walks n i) (unique p.place q.place k at too) p.at) q.at

    -- each fits
    pub records_fit : AllFit (FitsRecord c) (records c)
    records_fit front back r there =
        let i : ℕ = length front in
        let here : slice_get (records c) i ≡ Some r = ap (λ (l : List Kept). slice_get l i) there ∙ at_front front back r in
        let p : Passed (acts c) first walks i = every i (omega (arith, ap length there, length-append front (r ∷ back))) in
        let same : p.one ≡ r = some_is p.one r (sym p.here ∙ here) in
        let called : p.call.call.call ≡ call_of c.load.calls p.call.call.number = called_at c.load.declarations.procs c.load.calls c.report.order empty_db p.place p.call p.there in
        subst (λ (z : Kept). FitsRecord c front z) same (record {
          act = record {
            act = p.call;
            there = get_member p.call (acts c) p.place p.there;
            number = sym p.named;
            writes = p.up;
            work = subst (IsWork p.one.content p.call.effect.writes) (sym called) p.fits.work;
          };
          first = first_of (p.one.number) (has_record p.one.number front) refl (ap (λ (z : Kept). z.number) same);
          home = p.fits.home;
          ack = p.fits.ack;
        })
      where
        first_of : (n : ℕ) (b : Bool) → has_record n front ≡ b → n ≡ r.number → has_record n front ≡ false
        first_of n false e same = e
        first_of n true e same =
            let w = get_in n (map (λ (q : Kept). q.number) front) (sym (recorded n front) ∙ e) in
            let g = front_get front (r ∷ back) w.0 n w.1 in
            let here : slice_get (map (λ (q : Kept). q.number) (front ++ r ∷ back)) (length front) ≡ Some n = mapped_front front back r ∙ ap (λ (m : ℕ). Some m) (sym same) in
            let twice : w.0 ≡ length front = subst (λ (l : List Kept). IsUnique (map (λ (q : Kept). q.number) l)) there numbered_once w.0 (length front) n g.0 here in
            absurd (omega (arith, twice, g.1))

  -- each replied as it is told
  said_all : (xs : List (Act Numbered)) (w : Walk) → Walks c w xs stop → (x : Act Numbered) → Member x xs → FitsReply c [] x
  said_all [] w h x m = absurd m
  said_all (y ∷ xs) w (new, step, said, h) x (inl e) = subst (λ (z : Act Numbered). FitsReply c [] z) e said
  said_all (y ∷ xs) w (new, step, said, h) x (inr m) = said_all xs new h x m

  pub replies_fit : (w : Walk) → Walks c w (acts c) stop → AllFit (FitsReply c) (acts c)
  replies_fit w h front back x there = said_all (acts c) w h x (subst (λ (l : List (Act Numbered)). Member x l) (sym there) (member_back x front (x ∷ back) (inl refl)))
