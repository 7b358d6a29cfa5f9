-- How far the streams are followed.
use Rattle.std.proofs.Common.{ℕ, zero, suc, ◌+◌, ◌≤◌, true, ◌≡◌, ◌⊎◌, inl, inr, List, [], ◌∷◌, ◌++◌, map, Some, None, Option, refl, ap, subst, ◌∙◌, arith, slice_index}
use Rattle.std.specs.Prelude.{slice_get}
use Rattle.std.specs.List.{filter}
use Rattle.tau_base.specs.Vectors.{AtMost}
use Rattle.tau_model.specs.History.{Member}
use Rattle.tau_model.proofs.Logged.{member_filtered}
use Rattle.tau_record.specs.declared.entry.Placed.{Placed}
use Rattle.tau_scan.specs.Taken.{Kept, kept_as, kept_in, kept_from}
use Rattle.tau_record.specs.Record.{epoch_after}
use Rattle.tau_model.proofs.Orders.{member_front, member_back}
use Rattle.tau_epoch_laws.specs.Continues.{Grown}
use Rattle.tau_epoch_laws.proofs.Parts.{in_either}
use Rattle.tau_epoch_laws.proofs.Records.{Stand}
use Rattle.tau_follow_laws.specs.Following.{Followed, read_to, is_open, reach, reach_from, rlv}
use Rattle.tau_epoch_laws.specs.Marked.{last_past}
use Rattle.tau_follow_laws.proofs.Kept.{Dated, dated_as, dated_in, dated_from, kept_dated, dated_kept, all_dated, all_kept, member_kept}
use Rattle.tau_follow_laws.proofs.Rises.{AreStanding, in_stream, one_there, dated_at, stand_low, rises_filter, rises_kept, first_low, first_is}

-- where the records of each stream end
abbrev pub ends : List (List Placed) → List ℕ
ends streams = map (last_past 0) streams

pub read_low : (ps : List Placed) → read_to ps ≤ last_past 0 ps
read_low [] = omega arith
read_low (p ∷ []) = omega arith
read_low (p ∷ q ∷ ps) = omega arith

pub reach_low : (out order : List Kept) (j : ℕ) (ps : List Placed) → Stand 0 (last_past 0 ps) ps → reach out order j ps ≤ last_past 0 ps
reach_low out order j ps h = elim (first_is (read_to ps) (filter (is_open out order) (kept_in j ps))) [
  | inl e ↦ let low = read_low ps in omega (arith, e, low)
  | inr w ↦
      let d = kept_dated j 0 ps w.0 (member_filtered (is_open out order) w.0 (kept_in j ps) w.1).0 in
      let below = (dated_at j 0 0 (last_past 0 ps) ps (d.0, w.0) h d.1).2 in
      let is = w.2 in
      omega (arith, is, below)
]

pub open_ahead : (out order : List Kept) (j : ℕ) (ps : List Placed) (r : Kept) → Stand 0 (last_past 0 ps) ps → Member r (kept_in j ps) → is_open out order r ≡ true → reach out order j ps ≤ r.place.start
open_ahead out order j ps r h m e =
    first_low 0 (read_to ps) (filter (is_open out order) (kept_in j ps)) r (rises_filter (is_open out order) 0 (kept_in j ps) (rises_kept j 0 (last_past 0 ps) ps h)) (member_kept (is_open out order) r (kept_in j ps) m e)

pub reach_at : (out order : List Kept) (j i : ℕ) (streams : List (List Placed)) (ps : List Placed) → slice_get streams i ≡ Some ps → slice_index (reach_from out order j streams) i ≡ reach out order (j + i) ps
reach_at out order j i [] ps e = absurd cc
reach_at out order j zero (qs ∷ streams) ps e = let same : qs ≡ ps = cc in let k : j ≡ j + 0 = omega arith in ap (reach out order j) same ∙ ap (λ (l : ℕ). reach out order l ps) k
reach_at out order j (suc i) (qs ∷ streams) ps e = let k : suc j + i ≡ j + suc i = omega arith in reach_at out order (suc j) i streams ps e ∙ ap (λ (l : ℕ). reach out order l ps) k

pub reach_past : (out order : List Kept) (j i : ℕ) (streams : List (List Placed)) → slice_get streams i ≡ None → slice_index (reach_from out order j streams) i ≡ 0
reach_past out order j i [] e = refl
reach_past out order j zero (qs ∷ streams) e = absurd cc
reach_past out order j (suc i) (qs ∷ streams) e = reach_past out order (suc j) i streams e

pub end_at : (i : ℕ) (streams : List (List Placed)) (ps : List Placed) → slice_get streams i ≡ Some ps → slice_index (ends streams) i ≡ last_past 0 ps
end_at i [] ps e = absurd cc
end_at zero (qs ∷ streams) ps e = let same : qs ≡ ps = cc in ap (last_past 0) same
end_at (suc i) (qs ∷ streams) ps e = end_at i streams ps e

pub stands_at : (i : ℕ) (streams : List (List Placed)) (ps : List Placed) → AreStanding streams → slice_get streams i ≡ Some ps → Stand 0 (last_past 0 ps) ps
stands_at i [] ps h e = absurd cc
stands_at zero (qs ∷ streams) ps h e = let same : qs ≡ ps = cc in subst (λ (l : List Placed). Stand 0 (last_past 0 l) l) same h.0
stands_at (suc i) (qs ∷ streams) ps h e = stands_at i streams ps h.1 e

got : (o : Option (List Placed)) → ((ps : List Placed) × (o ≡ Some ps)) ⊎ (o ≡ None)
got (Some ps) = inl (ps, refl)
got None = inr refl

-- a stream is there, or nothing is followed of it
pub stream_at : (i : ℕ) (streams : List (List Placed)) → ((ps : List Placed) × (slice_get streams i ≡ Some ps)) ⊎ (slice_get streams i ≡ None)
stream_at i streams = got (slice_get streams i)

pub rlv_low : (s : Followed) → AreStanding s.streams → AtMost (rlv s) (ends s.streams)
rlv_low s h i = elim (stream_at i s.streams) [
  | inl w ↦
      let is = reach_at s.out s.order 0 i s.streams w.0 w.1 in
      let low = reach_low s.out s.order (0 + i) w.0 (stands_at i s.streams w.0 h w.1) in
      let end = end_at i s.streams w.0 w.1 in
      omega (arith, is, low, end)
  | inr none ↦ let is = reach_past s.out s.order 0 i s.streams none in omega (arith, is)
]

pub rlv_ahead : (s : Followed) (q : Kept) → AreStanding s.streams → Member q (kept_from 0 s.streams) → is_open s.out s.order q ≡ true → slice_index (rlv s) q.place.stream ≤ q.place.start
rlv_ahead s q h m e =
    let d = all_dated 0 s.streams q m in
    let w = in_stream 0 s.streams (d.0, q) h d.1 in
    let number = w.number in
    let same : q.place.stream ≡ w.i = omega (arith, number) in
    let is : slice_index (rlv s) q.place.stream ≡ reach s.out s.order (0 + w.i) w.ps = ap (slice_index (rlv s)) same ∙ reach_at s.out s.order 0 w.i s.streams w.ps w.there in
    let low = open_ahead s.out s.order (0 + w.i) w.ps q w.stands (dated_kept (0 + w.i) 0 w.ps (d.0, q) w.among) e in
    omega (arith, is, low)

-- ---- streams that grow

pub stand_parts : (at end : ℕ) (ps ms : List Placed) → Stand at end (ps ++ ms) → Stand at (last_past at ps) ps × Stand (last_past at ps) end ms
stand_parts at end [] ms h = (refl, h)
stand_parts at end (p ∷ ps) ms h = let rest = stand_parts p.past end ps ms h.2 in ((h.0, h.1, rest.0), rest.1)

pub ends_grow : (old more new : List (List Placed)) → Grown old more new → AreStanding new → AtMost (ends old) (ends new)
ends_grow [] more new g h i = omega arith
ends_grow (ps ∷ old) [] new g h i = absurd g
ends_grow (ps ∷ old) (ms ∷ more) [] g h i = absurd g
ends_grow (ps ∷ old) (ms ∷ more) (qs ∷ new) g h zero =
    let whole : Stand 0 (last_past 0 qs) (ps ++ ms) = subst (Stand 0 (last_past 0 qs)) g.0 h.0 in
    stand_low (last_past 0 ps) (last_past 0 qs) ms (stand_parts 0 (last_past 0 qs) ps ms whole).1
ends_grow (ps ∷ old) (ms ∷ more) (qs ∷ new) g h (suc i) = ends_grow old more new g.1 h.1 i

dated_split : (j k : ℕ) (ps ms : List Placed) (x : Dated) → Member x (dated_in j k (ps ++ ms)) → Member x (dated_in j k ps) ⊎ ((e : ℕ) × Member x (dated_in j e ms))
dated_split j k [] ms x m = inr (k, m)
dated_split j k (p ∷ ps) ms x m = elim (in_either x (dated_as k (kept_as j p p.entry)) (dated_in j (epoch_after k p.entry) (ps ++ ms)) m) [
  | inl here ↦ inl (member_front x (dated_as k (kept_as j p p.entry)) (dated_in j (epoch_after k p.entry) ps) here)
  | inr there ↦ elim (dated_split j (epoch_after k p.entry) ps ms x there) [
    | inl a ↦ inl (member_back x (dated_as k (kept_as j p p.entry)) (dated_in j (epoch_after k p.entry) ps) a)
    | inr b ↦ inr b
  ]
]

-- a record was there, or starts where its stream ended, or after it
split_from : (j : ℕ) (old more new : List (List Placed)) (x : Dated) → Grown old more new → AreStanding new → Member x (dated_from j new) →
    Member x (dated_from j old) ⊎ ((i : ℕ) × (x.1.place.stream ≡ j + i) × (slice_index (ends old) i ≤ x.1.place.start))
split_from j [] [] [] x g h m = absurd m
split_from j [] [] (qs ∷ new) x g h m = absurd g
split_from j [] (ms ∷ more) new x g h m = absurd g
split_from j (ps ∷ old) [] new x g h m = absurd g
split_from j (ps ∷ old) (ms ∷ more) [] x g h m = absurd g
split_from j (ps ∷ old) (ms ∷ more) (qs ∷ new) x g h m = elim (in_either x (dated_in j 0 qs) (dated_from (suc j) new) m) [
  | inl here ↦ elim (dated_split j 0 ps ms x (subst (λ (l : List Placed). Member x (dated_in j 0 l)) g.0 here)) [
    | inl a ↦ inl (member_front x (dated_in j 0 ps) (dated_from (suc j) old) a)
    | inr b ↦
        let whole : Stand 0 (last_past 0 qs) (ps ++ ms) = subst (Stand 0 (last_past 0 qs)) g.0 h.0 in
        let at = dated_at j b.0 (last_past 0 ps) (last_past 0 qs) ms x (stand_parts 0 (last_past 0 qs) ps ms whole).1 b.1 in
        let k : j ≡ j + 0 = omega arith in
        inr (0, at.0 ∙ k, at.1)
  ]
  | inr there ↦ elim (split_from (suc j) old more new x g.1 h.1 there) [
    | inl a ↦ inl (member_back x (dated_in j 0 ps) (dated_from (suc j) old) a)
    | inr b ↦ let k : suc j + b.0 ≡ j + suc b.0 = omega arith in inr (suc b.0, b.1 ∙ k, b.2)
  ]
]

pub kept_split : (old more new : List (List Placed)) (r : Kept) → Grown old more new → AreStanding new → Member r (kept_from 0 new) → Member r (kept_from 0 old) ⊎ (slice_index (ends old) r.place.stream ≤ r.place.start)
kept_split old more new r g h m =
    let d = all_dated 0 new r m in
    elim (split_from 0 old more new (d.0, r) g h d.1) [
      | inl a ↦ inl (all_kept 0 old (d.0, r) a)
      | inr b ↦
          let number = b.1 in
          let same : b.0 ≡ r.place.stream = omega (arith, number) in
          inr (subst (λ (i : ℕ). slice_index (ends old) i ≤ r.place.start) same b.2)
    ]

-- two records that start at one place are one
pub kept_one : (streams : List (List Placed)) (q r : Kept) → AreStanding streams → Member q (kept_from 0 streams) → Member r (kept_from 0 streams) → q.place.stream ≡ r.place.stream → q.place.start ≡ r.place.start → q ≡ r
kept_one streams q r h m n a b =
    let d = all_dated 0 streams q m in
    let e = all_dated 0 streams r n in
    ap (λ (x : Dated). x.1) (one_there streams (d.0, q) (e.0, r) h d.1 e.1 a b)
