-- The records of a stream start one after another.
use Rattle.std.proofs.Common.{ℕ, suc, ◌+◌, ◌≤◌, ◌<◌, Bool, ◌≡◌, ◌⊎◌, inl, inr, List, [], ◌∷◌, ◌++◌, Some, refl, sym, ap, subst, ◌∙◌, arith}
use Rattle.std.specs.Prelude.{slice_get}
use Rattle.std.specs.List.{filter}
use Rattle.std.proofs.lemmas.Bool.{cases_Bool}
use Rattle.tau_model.specs.History.{Member}
use Rattle.tau_record.specs.declared.entry.Entry.{Entry}
use Rattle.tau_record.specs.declared.entry.Entry.TheVariants.{Written, Command, Anchor, Catalogue, Epoch}
use Rattle.tau_record.specs.declared.entry.Placed.{Placed}
use Rattle.tau_record.specs.Record.{epoch_after}
use Rattle.tau_scan.specs.Taken.{Kept, kept_as, kept_in}
use Rattle.tau_epoch_laws.proofs.Parts.{in_either}
use Rattle.tau_epoch_laws.proofs.Records.{Stand}
use Rattle.tau_follow_laws.specs.Following.{first_start}
use Rattle.tau_epoch_laws.specs.Marked.{last_past}
use Rattle.tau_follow_laws.proofs.Kept.{Dated, dated_as, dated_in, dated_from}

-- ---- numbers of records with their streams

-- stream j and those after it stand, each from its beginning
abbrev pub AreStanding : List (List Placed) → Type 0
AreStanding [] = Unit {0}
AreStanding (ps ∷ streams) = Stand 0 (last_past 0 ps) ps × AreStanding streams

pub stand_low : (at end : ℕ) (ps : List Placed) → Stand at end ps → at ≤ end
stand_low at end [] h = omega (arith, h)
stand_low at end (p ∷ ps) h = let rest = stand_low p.past end ps h.2 in let here = h.1 in omega (arith, here, rest)

pub stand_end : (at end : ℕ) (ps : List Placed) → Stand at end ps → last_past at ps ≡ end
stand_end at end [] h = h
stand_end at end (p ∷ ps) h = stand_end p.past end ps h.2

pub as_at : (j k : ℕ) (p : Placed) (e : Entry) (x : Dated) → Member x (dated_as k (kept_as j p e)) → (x.1.place.stream ≡ j) × (x.1.place.start ≡ p.start)
as_at j k p (Written number anchor dep writes) x (inl is) = (ap (λ (y : Dated). y.1.place.stream) (sym is), ap (λ (y : Dated). y.1.place.start) (sym is))
as_at j k p (Written number anchor dep writes) x (inr m) = absurd m
as_at j k p (Command number anchor dep call) x (inl is) = (ap (λ (y : Dated). y.1.place.stream) (sym is), ap (λ (y : Dated). y.1.place.start) (sym is))
as_at j k p (Command number anchor dep call) x (inr m) = absurd m
as_at j k p (Anchor lv) x m = absurd m
as_at j k p (Catalogue text) x m = absurd m
as_at j k p (Epoch number lv) x m = absurd m

-- two records of one place are one
as_one : (j k : ℕ) (p : Placed) (e : Entry) (x y : Dated) → Member x (dated_as k (kept_as j p e)) → Member y (dated_as k (kept_as j p e)) → x ≡ y
as_one j k p (Written number anchor dep writes) x y (inl a) (inl b) = sym a ∙ b
as_one j k p (Written number anchor dep writes) x y (inl a) (inr m) = absurd m
as_one j k p (Written number anchor dep writes) x y (inr m) b = absurd m
as_one j k p (Command number anchor dep call) x y (inl a) (inl b) = sym a ∙ b
as_one j k p (Command number anchor dep call) x y (inl a) (inr m) = absurd m
as_one j k p (Command number anchor dep call) x y (inr m) b = absurd m
as_one j k p (Anchor lv) x y m b = absurd m
as_one j k p (Catalogue text) x y m b = absurd m
as_one j k p (Epoch number lv) x y m b = absurd m

pub dated_at : (j k at end : ℕ) (ps : List Placed) (x : Dated) → Stand at end ps → Member x (dated_in j k ps) → (x.1.place.stream ≡ j) × (at ≤ x.1.place.start) × (x.1.place.start < end)
dated_at j k at end [] x h m = absurd m
dated_at j k at end (p ∷ ps) x h m = elim (in_either x (dated_as k (kept_as j p p.entry)) (dated_in j (epoch_after k p.entry) ps) m) [
  | inl here ↦
      let w = as_at j k p p.entry x here in
      let start = w.1 in
      let first = h.0 in
      let past = h.1 in
      let rest = stand_low p.past end ps h.2 in
      (w.0, omega (arith, start, first), omega (arith, start, first, past, rest))
  | inr there ↦
      let w = dated_at j (epoch_after k p.entry) p.past end ps x h.2 there in
      let past = h.1 in
      let low = w.1 in
      (w.0, omega (arith, past, low), w.2)
]

pub dated_one : (j k at end : ℕ) (ps : List Placed) (x y : Dated) → Stand at end ps → Member x (dated_in j k ps) → Member y (dated_in j k ps) → x.1.place.start ≡ y.1.place.start → x ≡ y
dated_one j k at end [] x y h m n e = absurd m
dated_one j k at end (p ∷ ps) x y h m n e =
    let xs : List Dated = dated_as k (kept_as j p p.entry) in
    let ys : List Dated = dated_in j (epoch_after k p.entry) ps in
    let past = h.1 in
    let first = h.0 in
    elim (in_either x xs ys m) [
      | inl a ↦ elim (in_either y xs ys n) [
        | inl b ↦ as_one j k p p.entry x y a b
        | inr b ↦ absurd (let s = (as_at j k p p.entry x a).1 in let t = (dated_at j (epoch_after k p.entry) p.past end ps y h.2 b).1 in omega (arith, s, t, e, past, first))
      ]
      | inr a ↦ elim (in_either y xs ys n) [
        | inl b ↦ absurd (let s = (as_at j k p p.entry y b).1 in let t = (dated_at j (epoch_after k p.entry) p.past end ps x h.2 a).1 in omega (arith, s, t, e, past, first))
        | inr b ↦ dated_one j (epoch_after k p.entry) p.past end ps x y h.2 a b e
      ]
    ]

-- ---- all streams

-- a record of all streams is one of its stream
pub record In (j : ℕ) (streams : List (List Placed)) (x : Dated) : Type 0 where
  pub i : ℕ
  pub ps : List Placed
  pub number : x.1.place.stream ≡ j + i
  pub there : slice_get streams i ≡ Some ps
  pub stands : Stand 0 (last_past 0 ps) ps
  pub among : Member x (dated_in (j + i) 0 ps)

pub in_stream : (j : ℕ) (streams : List (List Placed)) (x : Dated) → AreStanding streams → Member x (dated_from j streams) → In j streams x
in_stream j [] x h m = absurd m
in_stream j (ps ∷ streams) x h m = elim (in_either x (dated_in j 0 ps) (dated_from (suc j) streams) m) [
  | inl here ↦
      let same : j ≡ j + 0 = omega arith in
      record { i = 0; ps = ps; number = (dated_at j 0 0 (last_past 0 ps) ps x h.0 here).0 ∙ same; there = refl; stands = h.0; among = subst (λ (l : ℕ). Member x (dated_in l 0 ps)) same here }
  | inr there ↦
      let w = in_stream (suc j) streams x h.1 there in
      let same : suc j + w.i ≡ j + suc w.i = omega arith in
      record { i = suc w.i; ps = w.ps; number = w.number ∙ same; there = w.there; stands = w.stands; among = subst (λ (l : ℕ). Member x (dated_in l 0 w.ps)) same w.among }
]

some_is : (a b : List Placed) → Some a ≡ Some b → a ≡ b
some_is a b e = cc e

-- two records that start at one place are one
pub one_there : (streams : List (List Placed)) (x y : Dated) → AreStanding streams → Member x (dated_from 0 streams) → Member y (dated_from 0 streams) →
    x.1.place.stream ≡ y.1.place.stream → x.1.place.start ≡ y.1.place.start → x ≡ y
one_there streams x y h m n e s =
    let a = in_stream 0 streams x h m in
    let b = in_stream 0 streams y h n in
    let an = a.number in
    let bn = b.number in
    let same : b.i ≡ a.i = omega (arith, an, bn, e) in
    let ps : b.ps ≡ a.ps = some_is b.ps a.ps (sym b.there ∙ ap (slice_get streams) same ∙ a.there) in
    let among : Member y (dated_in (0 + a.i) 0 a.ps) = subst (λ (l : List Placed). Member y (dated_in (0 + a.i) 0 l)) ps (subst (λ (i : ℕ). Member y (dated_in (0 + i) 0 b.ps)) same b.among) in
    dated_one (0 + a.i) 0 0 (last_past 0 a.ps) a.ps x y a.stands a.among among s

-- ---- the first of some records

-- each of the records starts at or after the one before it
abbrev pub Rises : ℕ → List Kept → Type 0
Rises at [] = Unit {0}
Rises at (r ∷ rs) = (at ≤ r.place.start) × Rises r.place.start rs

rises_low : (at low : ℕ) (rs : List Kept) → low ≤ at → Rises at rs → Rises low rs
rises_low at low [] le h = tt
rises_low at low (r ∷ rs) le h = (let here = h.0 in omega (arith, le, here), h.1)

pub rises_member : (at : ℕ) (rs : List Kept) (r : Kept) → Rises at rs → Member r rs → at ≤ r.place.start
rises_member at [] r h m = absurd m
rises_member at (q ∷ rs) r h (inl e) = subst (λ (z : Kept). at ≤ z.place.start) e h.0
rises_member at (q ∷ rs) r h (inr m) = let rest = rises_member q.place.start rs r h.1 m in let here = h.0 in omega (arith, rest, here)

pub rises_filter : (p : Kept → Bool) (at : ℕ) (rs : List Kept) → Rises at rs → Rises at (filter p rs)
rises_filter p at [] h = tt
rises_filter p at (r ∷ rs) h = elim (cases_Bool (p r)) [
  | inl t ↦ rw t (h.0, rises_filter p r.place.start rs h.1)
  | inr f ↦ rw f (rises_filter p at rs (rises_low r.place.start at rs h.0 h.1))
]

rises_as : (j at : ℕ) (p : Placed) (e : Entry) (rs : List Kept) → at ≤ p.start → p.start ≤ p.past → Rises p.past rs → Rises at (kept_as j p e ++ rs)
rises_as j at p (Written number anchor dep writes) rs le lt h = (le, rises_low p.past p.start rs lt h)
rises_as j at p (Command number anchor dep call) rs le lt h = (le, rises_low p.past p.start rs lt h)
rises_as j at p (Anchor lv) rs le lt h = rises_low p.past at rs (omega (arith, le, lt)) h
rises_as j at p (Catalogue text) rs le lt h = rises_low p.past at rs (omega (arith, le, lt)) h
rises_as j at p (Epoch number lv) rs le lt h = rises_low p.past at rs (omega (arith, le, lt)) h

pub rises_kept : (j at end : ℕ) (ps : List Placed) → Stand at end ps → Rises at (kept_in j ps)
rises_kept j at end [] h = tt
rises_kept j at end (p ∷ ps) h =
    let first = h.0 in
    let past = h.1 in
    rises_as j at p p.entry (kept_in j ps) (omega (arith, first)) (omega (arith, first, past)) (rises_kept j p.past end ps h.2)

pub first_low : (at end : ℕ) (rs : List Kept) (r : Kept) → Rises at rs → Member r rs → first_start end rs ≤ r.place.start
first_low at end [] r h m = absurd m
first_low at end (q ∷ rs) r h m = rises_member q.place.start (q ∷ rs) r (omega arith, h.1) m

pub first_is : (end : ℕ) (rs : List Kept) → (first_start end rs ≡ end) ⊎ ((r : Kept) × Member r rs × (first_start end rs ≡ r.place.start))
first_is end [] = inl refl
first_is end (r ∷ rs) = inr (r, inl refl, refl)
