-- Where records stand, and what is ready.
use Rattle.std.proofs.Common.{ℕ, zero, suc, ◌+◌, ◌≤◌, ◌<◌, Bool, true, false, cond, ◌&&◌, ◌≡◌, ◌⊎◌, inl, inr, List, [], ◌∷◌, ◌++◌, map, length, Option, Some, None, refl, sym, ap, subst, ◌∙◌, arith, slice_index, set}
use Rattle.std.specs.Prelude.{slice_get}
use Rattle.std.specs.List.{filter}
use Rattle.std.proofs.lemmas.Bool.{cases_Bool, cases_lt, and_from, and_parts}
use Rattle.tau_base.specs.Database.{Db, empty_db}
use Rattle.tau_base.specs.Vectors.{AtMost, covers}
use Rattle.tau_base.proofs.Vectors.{covers_at_most, at_most_covers}
use Rattle.tau_base.proofs.Lists.{map_append}
use Rattle.tau_proc.specs.declared.proc.Proc.{Proc}
use Rattle.tau_model.specs.History.{Member}
use Rattle.tau_model.specs.Redo.{Content, redone, redo_contents}
use Rattle.tau_model.proofs.Orders.{member_front, member_back}
use Rattle.tau_record.specs.declared.entry.Entry.{Entry}
use Rattle.tau_record.specs.declared.entry.Entry.TheVariants.{Written, Command, Anchor, Catalogue, Epoch}
use Rattle.tau_record.specs.declared.entry.Placed.{Placed}
use Rattle.tau_scan.specs.Taken.{Kept, kept_as, kept_in, kept_from}
use Rattle.tau_epoch_laws.proofs.Parts.{in_either}
use Rattle.tau_epoch_laws.proofs.Records.{Stand}
use Rattle.tau_follow_laws.specs.Following.{Followed, is_among, is_open, read_to, first_start, reach_from, rlv, IsReady, NoneReady}
use Rattle.tau_epoch_laws.specs.Marked.{last_past}
use Rattle.tau_follow_laws.proofs.Rises.{AreStanding}
use Rattle.tau_follow_laws.proofs.Among.{starts_at, starts_is, not_front, open_parts, open_from, member_among}
use Rattle.tau_follow_laws.proofs.Among.{among_without}
use Rattle.std.proofs.lemmas.List.{append-nil}
use Rattle.tau_follow.specs.declared.stage.Stage.{Stage}
use Rattle.tau_follow.specs.declared.stage.Stage.TheVariants as stages
use Rattle.tau_follow.specs.Applying.{stage_as, stage_of, stages_in, stages_from, is_open_stage, dep_of, content_in, is_ready_one, reach_by, redone_of, is_ready_both, is_ready_in, reaches, ArePassed, set_stage}

-- ---- one record

-- a record stands open exactly if it is
stage_open : (out order : List Kept) (r : Kept) → is_open_stage (stage_as out order (r ∷ [])) ≡ is_open out order r
stage_open out order r = by (is_among out r) (is_among order r) refl refl
  where
    by : (a b : Bool) → is_among out r ≡ a → is_among order r ≡ b → is_open_stage (stage_as out order (r ∷ [])) ≡ is_open out order r
    by true b e f = rw e refl
    by false true e f = rw (e, f) refl
    by false false e f = rw (e, f) refl

-- it is the record of a call, or stands nowhere
pub entry_kept : (j : ℕ) (p : Placed) (e : Entry) → ((r : Kept) × (kept_as j p e ≡ r ∷ []) × (r.place.dep ≡ dep_of e) × (r.place.stream ≡ j) × (r.place.start ≡ p.start) × (content_in e ≡ r.content ∷ [])) ⊎ (kept_as j p e ≡ [])
entry_kept j p (Written number anchor dep writes) = inl (_, refl, refl, refl, refl, refl)
entry_kept j p (Command number anchor dep call) = inl (_, refl, refl, refl, refl, refl)
entry_kept j p (Anchor lv) = inr refl
entry_kept j p (Catalogue text) = inr refl
entry_kept j p (Epoch number lv) = inr refl

-- ---- how far a stream is followed

reach_one : (out order : List Kept) (j end : ℕ) (p : Placed) (ks : List Kept) (rest : List Kept) (later : ℕ) → ((r : Kept) × (ks ≡ r ∷ []) × (r.place.start ≡ p.start)) ⊎ (ks ≡ []) → later ≡ first_start end (filter (is_open out order) rest) →
    cond (is_open_stage (stage_as out order ks)) p.start later ≡ first_start end (filter (is_open out order) (ks ++ rest))
reach_one out order j end p ks rest later (inr none) e = subst (λ (l : List Kept). cond (is_open_stage (stage_as out order l)) p.start later ≡ first_start end (filter (is_open out order) (l ++ rest))) (sym none) e
reach_one out order j end p ks rest later (inl w) e =
    subst (λ (l : List Kept). cond (is_open_stage (stage_as out order l)) p.start later ≡ first_start end (filter (is_open out order) (l ++ rest))) (sym w.1) (by (is_open out order w.0) refl)
  where
    by : (b : Bool) → is_open out order w.0 ≡ b → cond (is_open_stage (stage_as out order (w.0 ∷ []))) p.start later ≡ first_start end (filter (is_open out order) (w.0 ∷ rest))
    by true o = ap (λ (b : Bool). cond b p.start later) (stage_open out order w.0 ∙ o) ∙ sym w.2 ∙ sym (ap (λ (b : Bool). first_start end (cond b (w.0 ∷ filter (is_open out order) rest) (filter (is_open out order) rest))) o)
    by false o = ap (λ (b : Bool). cond b p.start later) (stage_open out order w.0 ∙ o) ∙ e ∙ sym (ap (λ (b : Bool). first_start end (cond b (w.0 ∷ filter (is_open out order) rest) (filter (is_open out order) rest))) o)

reach_is : (out order : List Kept) (j end : ℕ) (ps : List Placed) → reach_by end ps (stages_in out order j ps) ≡ first_start end (filter (is_open out order) (kept_in j ps))
reach_is out order j end [] = refl
reach_is out order j end (p ∷ ps) =
    reach_one out order j end p (kept_as j p p.entry) (kept_in j ps) (reach_by end ps (stages_in out order j ps)) (elim (entry_kept j p p.entry) [ inl w ↦ inl (w.0, w.1, w.4) | inr none ↦ inr none ]) (reach_is out order j end ps)

pub reaches_are : (out order : List Kept) (j : ℕ) (streams : List (List Placed)) → reaches streams (stages_from out order j streams) ≡ reach_from out order j streams
reaches_are out order j [] = refl
reaches_are out order j (ps ∷ streams) = let a = reach_is out order j (read_to ps) ps in let b = reaches_are out order (suc j) streams in λ i. a i ∷ b i

-- ---- what is ready

pub stages_at : (out order : List Kept) (j i : ℕ) (streams : List (List Placed)) (ps : List Placed) → slice_get streams i ≡ Some ps → slice_get (stages_from out order j streams) i ≡ Some (stages_in out order (j + i) ps)
stages_at out order j i [] ps e = absurd cc
stages_at out order j zero (qs ∷ streams) ps e =
    let same : qs ≡ ps = cc in
    let k : j ≡ j + 0 = omega arith in
    ap (λ (l : List Placed). Some (stages_in out order j l)) same ∙ ap (λ (l : ℕ). Some (stages_in out order l ps)) k
stages_at out order j (suc i) (qs ∷ streams) ps e = let k : suc j + i ≡ j + suc i = omega arith in stages_at out order (suc j) i streams ps e ∙ ap (λ (l : ℕ). Some (stages_in out order l ps)) k

pub stage_at : (out order : List Kept) (j i : ℕ) (ps : List Placed) (p : Placed) → slice_get ps i ≡ Some p → slice_get (stages_in out order j ps) i ≡ Some (stage_of out order j p)
stage_at out order j i [] p e = absurd cc
stage_at out order j zero (q ∷ ps) p e = let same : q ≡ p = cc in ap (λ (z : Placed). Some (stage_of out order j z)) same
stage_at out order j (suc i) (q ∷ ps) p e = stage_at out order j i ps p e

kept_there : (j i : ℕ) (ps : List Placed) (p : Placed) (r : Kept) → slice_get ps i ≡ Some p → kept_as j p p.entry ≡ r ∷ [] → Member r (kept_in j ps)
kept_there j i [] p r e k = absurd cc
kept_there j zero (q ∷ ps) p r e k =
    let same : q ≡ p = cc in
    member_front r (kept_as j q q.entry) (kept_in j ps) (subst (λ (l : List Kept). Member r l) (sym (ap (λ (z : Placed). kept_as j z z.entry) same ∙ k)) (inl refl))
kept_there j (suc i) (q ∷ ps) p r e k = member_back r (kept_as j q q.entry) (kept_in j ps) (kept_there j i ps p r e k)

there_kept : (j : ℕ) (ps : List Placed) (r : Kept) → Member r (kept_in j ps) → (i : ℕ) × (p : Placed) × (slice_get ps i ≡ Some p) × (kept_as j p p.entry ≡ r ∷ []) × (r.place.dep ≡ dep_of p.entry)
there_kept j [] r m = absurd m
there_kept j (q ∷ ps) r m = elim (in_either r (kept_as j q q.entry) (kept_in j ps) m) [
  | inl here ↦ elim (entry_kept j q q.entry) [
    | inr none ↦ absurd (subst (λ (l : List Kept). Member r l) none here)
    | inl w ↦ elim (subst (λ (l : List Kept). Member r l) w.1 here) [
      | inl e ↦ (0, q, refl, w.1 ∙ ap (λ (z : Kept). z ∷ []) e, ap (λ (z : Kept). z.place.dep) (sym e) ∙ w.2)
      | inr n ↦ absurd n
    ]
  ]
  | inr there ↦ let w = there_kept j ps r there in (suc w.0, w.1, w.2, w.3, w.4)
]

in_streams : (j i : ℕ) (streams : List (List Placed)) (ps : List Placed) (r : Kept) → slice_get streams i ≡ Some ps → Member r (kept_in (j + i) ps) → Member r (kept_from j streams)
in_streams j i [] ps r e m = absurd cc
in_streams j zero (qs ∷ streams) ps r e m =
    let same : qs ≡ ps = cc in
    let k : j + 0 ≡ j = omega arith in
    member_front r (kept_in j qs) (kept_from (suc j) streams) (subst (λ (l : List Placed). Member r (kept_in j l)) (sym same) (subst (λ (l : ℕ). Member r (kept_in l ps)) k m))
in_streams j (suc i) (qs ∷ streams) ps r e m = let k : j + suc i ≡ suc j + i = omega arith in member_back r (kept_in j qs) (kept_from (suc j) streams) (in_streams (suc j) i streams ps r e (subst (λ (l : ℕ). Member r (kept_in l ps)) k m))

streams_in : (j : ℕ) (streams : List (List Placed)) (r : Kept) → Member r (kept_from j streams) → (i : ℕ) × (ps : List Placed) × (slice_get streams i ≡ Some ps) × Member r (kept_in (j + i) ps)
streams_in j [] r m = absurd m
streams_in j (ps ∷ streams) r m = elim (in_either r (kept_in j ps) (kept_from (suc j) streams) m) [
  | inl here ↦ let k : j ≡ j + 0 = omega arith in (0, ps, refl, subst (λ (l : ℕ). Member r (kept_in l ps)) k here)
  | inr there ↦ let w = streams_in (suc j) streams r there in let k : suc j + w.0 ≡ j + suc w.0 = omega arith in (suc w.0, w.1, w.2, subst (λ (l : ℕ). Member r (kept_in l w.1)) k w.3)
]

-- the record at a place that is ready
pub record AtSpot (s : Followed) (j i : ℕ) : Type 0 where
  pub ps : List Placed
  pub p : Placed
  pub kept : Kept
  pub stream : slice_get s.streams j ≡ Some ps
  pub there : slice_get ps i ≡ Some p
  pub is : kept_as j p p.entry ≡ kept ∷ []
  pub content : content_in p.entry ≡ kept.content ∷ []
  pub at_stream : kept.place.stream ≡ j
  pub at_start : kept.place.start ≡ p.start
  pub ready : IsReady s kept

module _ (s : Followed) where
  abbrev all_stages : List (List Stage)
  all_stages = stages_from s.out s.order 0 s.streams

  pub ready_spot : (j i : ℕ) → is_ready_in (rlv s) s.streams all_stages j i ≡ true → AtSpot s j i
  ready_spot j i e = by (slice_get s.streams j) refl e
    where
      one : (ps : List Placed) → slice_get s.streams j ≡ Some ps → (p : Placed) → slice_get ps i ≡ Some p → is_ready_one (rlv s) (Some p) (Some (stage_of s.out s.order j p)) ≡ true → AtSpot s j i
      one ps at p there h = elim (entry_kept j p p.entry) [
        | inr none ↦ absurd (let z : false ≡ true = sym (ap (λ (l : List Kept). is_open_stage (stage_as s.out s.order l) && covers (rlv s) (dep_of p.entry)) none) ∙ h in cc z)
        | inl w ↦
            let parts = and_parts (is_open_stage (stage_of s.out s.order j p)) (covers (rlv s) (dep_of p.entry)) h in
            let opened : is_open s.out s.order w.0 ≡ true = sym (stage_open s.out s.order w.0) ∙ ap (λ (l : List Kept). is_open_stage (stage_as s.out s.order l)) (sym w.1) ∙ parts.0 in
            let low : AtMost w.0.place.dep (rlv s) = subst (λ (v : List ℕ). AtMost v (rlv s)) (sym w.2) (covers_at_most (rlv s) (dep_of p.entry) parts.1) in
            let k : j ≡ 0 + j = omega arith in
            record {
              ps = ps;
              p = p;
              kept = w.0;
              stream = at;
              there = there;
              is = w.1;
              content = w.5;
              at_stream = w.3;
              at_start = w.4;
              ready = record { read = in_streams 0 j s.streams ps w.0 at (subst (λ (l : ℕ). Member w.0 (kept_in l ps)) k (kept_there j i ps p w.0 there w.1)); open_still = opened; covered = low };
            }
      ]

      inside : (ps : List Placed) → slice_get s.streams j ≡ Some ps → (o : Option Placed) → slice_get ps i ≡ o → is_ready_one (rlv s) o (slice_get (stages_in s.out s.order j ps) i) ≡ true → AtSpot s j i
      inside ps at None none h = absurd cc
      inside ps at (Some p) there h = one ps at p there (ap (is_ready_one (rlv s) (Some p)) (sym (stage_at s.out s.order j i ps p there)) ∙ h)

      by : (o : Option (List Placed)) → slice_get s.streams j ≡ o → is_ready_both (rlv s) o (slice_get all_stages j) i ≡ true → AtSpot s j i
      by None none h = absurd cc
      by (Some ps) at h =
          let k : 0 + j ≡ j = omega arith in
          let same : slice_get all_stages j ≡ Some (stages_in s.out s.order j ps) = stages_at s.out s.order 0 j s.streams ps at ∙ ap (λ (l : ℕ). Some (stages_in s.out s.order l ps)) k in
          inside ps at (slice_get ps i) refl (ap (λ (o : Option (List Stage)). is_ready_both (rlv s) (Some ps) o i) (sym same) ∙ h)

  -- where no record from the first one on that may be open is ready, none is
  pub none_spot : (firsts : List ℕ) → ArePassed all_stages firsts →
      ((j i : ℕ) (ps : List Placed) → slice_get s.streams j ≡ Some ps → slice_index firsts j ≤ i → i < length ps → is_ready_in (rlv s) s.streams all_stages j i ≡ false) → NoneReady s
  none_spot firsts passed none r is =
      let w = streams_in 0 s.streams r is.read in
      let j : ℕ = w.0 in
      let ps : List Placed = w.1 in
      let k : 0 + j ≡ j = omega arith in
      let t = there_kept (0 + j) ps r w.3 in
      let i : ℕ = t.0 in
      let p : Placed = t.1 in
      let kept : kept_as j p p.entry ≡ r ∷ [] = subst (λ (l : ℕ). kept_as l p p.entry ≡ r ∷ []) k t.3 in
      let same : slice_get all_stages j ≡ Some (stages_in s.out s.order j ps) = stages_at s.out s.order 0 j s.streams ps w.2 ∙ ap (λ (l : ℕ). Some (stages_in s.out s.order l ps)) k in
      let at : slice_get (stages_in s.out s.order j ps) i ≡ Some (stage_of s.out s.order j p) = stage_at s.out s.order j i ps p t.2 in
      let opened : is_open_stage (stage_of s.out s.order j p) ≡ true = ap (λ (l : List Kept). is_open_stage (stage_as s.out s.order l)) kept ∙ stage_open s.out s.order r ∙ is.open_still in
      let low : covers (rlv s) (dep_of p.entry) ≡ true = at_most_covers (rlv s) (dep_of p.entry) (subst (λ (v : List ℕ). AtMost v (rlv s)) t.4 is.covered) in
      let ready : is_ready_in (rlv s) s.streams all_stages j i ≡ true
      = ap (λ (o : Option (List Placed)). is_ready_both (rlv s) o (slice_get all_stages j) i) w.2
      ∙ ap (λ (o : Option (List Stage)). is_ready_both (rlv s) (Some ps) o i) same
      ∙ ap (λ (o : Option Placed). is_ready_one (rlv s) o (slice_get (stages_in s.out s.order j ps) i)) t.2
      ∙ ap (is_ready_one (rlv s) (Some p)) at ∙ and_from (is_open_stage (stage_of s.out s.order j p)) (covers (rlv s) (dep_of p.entry)) opened low in
      elim (cases_lt i (slice_index firsts j)) [
        | inl lt ↦ let z = sym (passed j i (stages_in s.out s.order j ps) (stage_of s.out s.order j p) same at lt) ∙ opened in cc z
        | inr le ↦ let z = sym ready ∙ none j i ps w.2 le (got_lt ps i p t.2) in cc z
      ]
    where
      got_lt : (ps : List Placed) (i : ℕ) (p : Placed) → slice_get ps i ≡ Some p → i < length ps
      got_lt [] i p e = absurd cc
      got_lt (q ∷ ps) zero p e = omega arith
      got_lt (q ∷ ps) (suc i) p e = let h = got_lt ps i p e in omega (arith, h)

-- ---- a record is applied

among_push : (order : List Kept) (r q : Kept) → starts_at q.place.stream q.place.start r ≡ false → is_among (order ++ r ∷ []) q ≡ is_among order q
among_push order r q other = among_without order [] r q.place.stream q.place.start other ∙ ap (λ (l : List Kept). is_among l q) (append-nil order)

-- a record of another place stands as it did
stage_other : (out order : List Kept) (j : ℕ) (p : Placed) (r : Kept) → ((r.place.stream ≡ j) → (r.place.start ≡ p.start) → ⊥) → stage_of out (order ++ r ∷ []) j p ≡ stage_of out order j p
stage_other out order j p r apart = elim (entry_kept j p p.entry) [
  | inr none ↦ ap (stage_as out (order ++ r ∷ [])) none ∙ sym (ap (stage_as out order) none)
  | inl w ↦
      let other : starts_at w.0.place.stream w.0.place.start r ≡ false = (elim (cases_Bool (starts_at w.0.place.stream w.0.place.start r)) [
        | inr f ↦ f
        | inl t ↦ let s = starts_is w.0.place.stream w.0.place.start r t in absurd (apart (s.0 ∙ w.3) (s.1 ∙ w.4))
      ]) in
      ap (stage_as out (order ++ r ∷ [])) w.1 ∙ ap (λ (b : Bool). cond (is_among out w.0) stages.Out (cond b stages.Applied stages.Open)) (among_push order r w.0 other) ∙ sym (ap (stage_as out order) w.1)
]

stage_now : (out order : List Kept) (j : ℕ) (p : Placed) (r : Kept) → kept_as j p p.entry ≡ r ∷ [] → is_among out r ≡ false → stage_of out (order ++ r ∷ []) j p ≡ stages.Applied
stage_now out order j p r is free =
    let there : is_among (order ++ r ∷ []) r ≡ true = member_among (order ++ r ∷ []) r.place.stream r.place.start r (member_back r order (r ∷ []) (inl refl)) refl refl in
    ap (stage_as out (order ++ r ∷ [])) is ∙ ap (λ (b : Bool). cond b stages.Out (cond (is_among (order ++ r ∷ []) r) stages.Applied stages.Open)) free ∙ ap (λ (b : Bool). cond b stages.Applied stages.Open) there

-- of a stream whose records have other places
same_in : (out order : List Kept) (j at end : ℕ) (ps : List Placed) (r : Kept) → Stand at end ps → (r.place.stream ≡ j → r.place.start < at) → stages_in out (order ++ r ∷ []) j ps ≡ stages_in out order j ps
same_in out order j at end [] r h apart = refl
same_in out order j at end (p ∷ ps) r h apart =
    let first = h.0 in
    let past = h.1 in
    let here = stage_other out order j p r (λ s e. (let lt = apart s in omega (arith, lt, e, first))) in
    let rest = same_in out order j p.past end ps r h.2 (λ s. (let lt = apart s in omega (arith, lt, past))) in
    λ i. here i ∷ rest i

start_low : (at end i : ℕ) (ps : List Placed) (p : Placed) → Stand at end ps → slice_get ps i ≡ Some p → at ≤ p.start
start_low at end i [] p h e = absurd cc
start_low at end zero (q ∷ ps) p h e = let same : q ≡ p = cc in let first = h.0 in subst (λ (z : Placed). at ≤ z.start) same (omega (arith, first))
start_low at end (suc i) (q ∷ ps) p h e = let low = start_low q.past end i ps p h.2 e in let past = h.1 in omega (arith, low, past)

set_in : (out order : List Kept) (j at end i : ℕ) (ps : List Placed) (p : Placed) (r : Kept) → Stand at end ps → slice_get ps i ≡ Some p → kept_as j p p.entry ≡ r ∷ [] → r.place.start ≡ p.start → is_among out r ≡ false →
    stages_in out (order ++ r ∷ []) j ps ≡ set (stages_in out order j ps) i stages.Applied
set_in out order j at end i [] p r h e is start free = absurd cc
set_in out order j at end zero (q ∷ ps) p r h e is start free =
    let same : q ≡ p = cc in
    let first = h.0 in
    let past = h.1 in
    let at_q : r.place.start ≡ q.start = start ∙ ap (λ (z : Placed). z.start) (sym same) in
    let here = stage_now out order j q r (subst (λ (z : Placed). kept_as j z z.entry ≡ r ∷ []) (sym same) is) free in
    let rest = same_in out order j q.past end ps r h.2 (λ s. omega (arith, at_q, first, past)) in
    λ k. here k ∷ rest k
set_in out order j at end (suc i) (q ∷ ps) p r h e is start free =
    let first = h.0 in
    let past = h.1 in
    let low = start_low q.past end i ps p h.2 e in
    let here = stage_other out order j q r (λ s z. omega (arith, z, start, low, past, first)) in
    let rest = set_in out order j q.past end i ps p r h.2 e is start free in
    λ k. here k ∷ rest k

same_from : (out order : List Kept) (j : ℕ) (streams : List (List Placed)) (r : Kept) → AreStanding streams → r.place.stream < j → stages_from out (order ++ r ∷ []) j streams ≡ stages_from out order j streams
same_from out order j [] r h lt = refl
same_from out order j (ps ∷ streams) r h lt =
    let here = same_in out order j 0 (last_past 0 ps) ps r h.0 (λ s. absurd (omega (arith, s, lt))) in
    let rest = same_from out order (suc j) streams r h.1 (omega (arith, lt)) in
    λ k. here k ∷ rest k

set_from : (out order : List Kept) (j m i : ℕ) (streams : List (List Placed)) (ps : List Placed) (p : Placed) (r : Kept) → AreStanding streams → slice_get streams m ≡ Some ps → slice_get ps i ≡ Some p → kept_as (j + m) p p.entry ≡ r ∷ [] →
    r.place.stream ≡ j + m → r.place.start ≡ p.start → is_among out r ≡ false → stages_from out (order ++ r ∷ []) j streams ≡ set_stage (stages_from out order j streams) m i stages.Applied
set_from out order j m i [] ps p r h e g is stream start free = absurd cc
set_from out order j zero i (qs ∷ streams) ps p r h e g is stream start free =
    let same : qs ≡ ps = cc in
    let k : j + 0 ≡ j = omega arith in
    let here = set_in out order j 0 (last_past 0 qs) i qs p r h.0 (subst (λ (l : List Placed). slice_get l i ≡ Some p) (sym same) g) (subst (λ (l : ℕ). kept_as l p p.entry ≡ r ∷ []) k is) start free in
    let rest = same_from out order (suc j) streams r h.1 (omega (arith, stream)) in
    λ z. here z ∷ rest z
set_from out order j (suc m) i (qs ∷ streams) ps p r h e g is stream start free =
    let k : j + suc m ≡ suc j + m = omega arith in
    let here = same_in out order j 0 (last_past 0 qs) qs r h.0 (λ s. absurd (omega (arith, s, stream))) in
    let rest = set_from out order (suc j) m i streams ps p r h.1 e g (subst (λ (l : ℕ). kept_as l p p.entry ≡ r ∷ []) k is) (stream ∙ k) start free in
    λ z. here z ∷ rest z

-- ---- what is passed stays passed

no_stages : (out order : List Kept) (j i : ℕ) (streams : List (List Placed)) → slice_get streams i ≡ None → slice_get (stages_from out order j streams) i ≡ None
no_stages out order j i [] e = refl
no_stages out order j zero (qs ∷ streams) e = absurd cc
no_stages out order j (suc i) (qs ∷ streams) e = no_stages out order (suc j) i streams e

no_stage : (out order : List Kept) (j i : ℕ) (ps : List Placed) → slice_get ps i ≡ None → slice_get (stages_in out order j ps) i ≡ None
no_stage out order j i [] e = refl
no_stage out order j zero (q ∷ ps) e = absurd cc
no_stage out order j (suc i) (q ∷ ps) e = no_stage out order j i ps e

opened_before : (out order : List Kept) (j : ℕ) (p : Placed) (r : Kept) → is_open_stage (stage_of out order j p) ≡ false → is_open_stage (stage_of out (order ++ r ∷ []) j p) ≡ false
opened_before out order j p r e = elim (entry_kept j p p.entry) [
  | inr none ↦ ap (λ (l : List Kept). is_open_stage (stage_as out (order ++ r ∷ []) l)) none
  | inl w ↦
      let closed : is_open out order w.0 ≡ false = sym (stage_open out order w.0) ∙ ap (λ (l : List Kept). is_open_stage (stage_as out order l)) (sym w.1) ∙ e in
      ap (λ (l : List Kept). is_open_stage (stage_as out (order ++ r ∷ []) l)) w.1 ∙ stage_open out (order ++ r ∷ []) w.0 ∙ (elim (cases_Bool (is_open out (order ++ r ∷ []) w.0)) [
        | inr f ↦ f
        | inl t ↦
            let parts = open_parts out (order ++ r ∷ []) w.0 t in
            absurd (let z = sym (open_from out order w.0 parts.0 (not_front order (r ∷ []) w.0.place.stream w.0.place.start parts.1)) ∙ closed in cc z)
      ])
]

pub passed_still : (out order : List Kept) (streams : List (List Placed)) (firsts : List ℕ) (r : Kept) → ArePassed (stages_from out order 0 streams) firsts → ArePassed (stages_from out (order ++ r ∷ []) 0 streams) firsts
passed_still out order streams firsts r passed j i ss s at there lt = by (slice_get streams j) refl
  where
    one : (ps : List Placed) → slice_get streams j ≡ Some ps → ss ≡ stages_in out (order ++ r ∷ []) (0 + j) ps → (o : Option Placed) → slice_get ps i ≡ o → is_open_stage s ≡ false
    one ps e is (Some p) g =
        let now : Some s ≡ Some (stage_of out (order ++ r ∷ []) (0 + j) p) = sym there ∙ ap (λ (l : List Stage). slice_get l i) is ∙ stage_at out (order ++ r ∷ []) (0 + j) i ps p g in
        let same : s ≡ stage_of out (order ++ r ∷ []) (0 + j) p = cc in
        let before = passed j i (stages_in out order (0 + j) ps) (stage_of out order (0 + j) p) (stages_at out order 0 j streams ps e) (stage_at out order (0 + j) i ps p g) lt in
        ap is_open_stage same ∙ opened_before out order (0 + j) p r before
    one ps e is None g = absurd (let z = sym there ∙ ap (λ (l : List Stage). slice_get l i) is ∙ no_stage out (order ++ r ∷ []) (0 + j) i ps g in cc z)

    by : (o : Option (List Placed)) → slice_get streams j ≡ o → is_open_stage s ≡ false
    by None e = absurd (let z = sym at ∙ no_stages out (order ++ r ∷ []) 0 j streams e in cc z)
    by (Some ps) e =
        let now : Some ss ≡ Some (stages_in out (order ++ r ∷ []) (0 + j) ps) = sym at ∙ stages_at out (order ++ r ∷ []) 0 j streams ps e in
        let same : ss ≡ stages_in out (order ++ r ∷ []) (0 + j) ps = cc in
        one ps e same (slice_get ps i) refl

-- ---- the database

contents_append : (procs : List Proc) (xs ys : List Content) (db : Db) → redo_contents procs (xs ++ ys) db ≡ redo_contents procs ys (redo_contents procs xs db)
contents_append procs [] ys db = refl
contents_append procs (x ∷ xs) ys db = contents_append procs xs ys (redone procs x db)

pub redone_push : (procs : List Proc) (order : List Kept) (r : Kept) (e : Entry) → content_in e ≡ r.content ∷ [] → redo_contents procs (content_in e) (redone_of procs order) ≡ redone_of procs (order ++ r ∷ [])
redone_push procs order r e is =
    ap (λ (cs : List Content). redo_contents procs cs (redone_of procs order)) is ∙ sym (contents_append procs (map (λ (x : Kept). x.content) order) (r.content ∷ []) empty_db)
    ∙ ap (λ (cs : List Content). redo_contents procs cs empty_db) (sym (map_append (λ (x : Kept). x.content) order (r ∷ [])))

-- what is applied at a spot
pub applied_stages : (s : Followed) (j i : ℕ) (a : AtSpot s j i) → AreStanding s.streams → stages_from s.out (s.order ++ a.kept ∷ []) 0 s.streams ≡ set_stage (stages_from s.out s.order 0 s.streams) j i stages.Applied
applied_stages s j i a h =
    let k : j ≡ 0 + j = omega arith in
    set_from s.out s.order 0 j i s.streams a.ps a.p a.kept h a.stream a.there (subst (λ (l : ℕ). kept_as l a.p a.p.entry ≡ a.kept ∷ []) k a.is) (a.at_stream ∙ k) a.at_start (open_parts s.out s.order a.kept a.ready.open_still).0
