-- What a follower applies of contents whose epochs stand as runs leave them, recovery takes.
use Rattle.std.proofs.Common.{ℕ, zero, suc, ◌+◌, ◌≤◌, ◌<◌, Bool, true, false, not, ◌&&◌, ◌≡◌, ◌⊎◌, inl, inr, List, [], ◌∷◌, ◌++◌, length, Option, Some, refl, sym, ap, subst, ◌∙◌, arith, slice_index}
use Rattle.std.specs.Prelude.{slice_get}
use Rattle.std.specs.List.{filter}
use Rattle.std.proofs.lemmas.Bool.{cases_Bool, and_from, and_parts, leb-false}
use Rattle.std.proofs.Common.{leb}
use Rattle.std.proofs.lemmas.List.{length-append}
use Rattle.tau_base.specs.Vectors.{AtMost, covers}
use Rattle.tau_base.proofs.Vectors.{covers_at_most, at_most_covers, at_most_trans}
use Rattle.tau_model.specs.History.{Member}
use Rattle.tau_model.proofs.Orders.{member_front, member_back}
use Rattle.tau_model.proofs.Reorder.{two_cuts}
use Rattle.tau_epoch.specs.Epochs.{Mark, least_above}
use Rattle.tau_epoch.proofs.Least.{found}
use Rattle.tau_record.specs.declared.entry.Entry.{Entry}
use Rattle.tau_record.specs.declared.entry.Entry.TheVariants.{Epoch}
use Rattle.tau_record.specs.declared.entry.Placed.{Placed}
use Rattle.tau_record.specs.Record.{epoch_after}
use Rattle.tau_scan.specs.declared.log.Log.{Log}
use Rattle.tau_scan.specs.Epochs.{mark_of, marks_in, marks_from, marks_of, is_below, judge_of}
use Rattle.tau_scan.specs.Taken.{Kept, kept_as, kept_in, taken_in, taken_from, taken}
use Rattle.tau_scan.proofs.Known.{judged_covers}
use Rattle.tau_epoch_laws.specs.Continues.{Grown}
use Rattle.tau_epoch_laws.proofs.Parts.{in_either, member_of, contains_of}
use Rattle.tau_epoch_laws.proofs.Judging.{Agree}
use Rattle.tau_epoch_laws.proofs.Grown.{marks_append, old_mark}
use Rattle.tau_epoch_laws.proofs.Records.{Stand}
use Rattle.tau_follow_laws.specs.Following.{Followed, chosen_in, chosen_from, is_left_out, left_out, is_among, is_open, first_start, reach, rlv, IsReady}
use Rattle.tau_epoch_laws.specs.Marked.{last_past, AreMarked}
use Rattle.tau_model.proofs.Logged.{member_filtered}
use Rattle.tau_follow_laws.proofs.Kept.{Dated, dated_as, kept_dated, dated_from, chosen_are, are_chosen, all_dated, dated_grown}
use Rattle.tau_follow_laws.proofs.Rises.{AreStanding, as_at, one_there, stand_low}
use Rattle.tau_follow_laws.proofs.Among.{among_member, member_among}
use Rattle.tau_follow_laws.proofs.Reached.{ends, reach_low, reach_at, reach_past, stands_at, stream_at, rlv_low, ends_grow, stand_parts}

-- ---- vectors

false_is : (a b : Bool) → (a && b) ≡ false → (a ≡ false) ⊎ (b ≡ false)
false_is true b e = inr e
false_is false b e = inl refl

-- a vector that is not covered asks for more of some stream
pub uncovered : (w v : List ℕ) → covers w v ≡ false → (l : ℕ) × (slice_index w l < slice_index v l)
uncovered w [] e = absurd cc
uncovered [] (a ∷ v) e = elim (false_is (leb a 0) (covers [] v) e) [
  | inl here ↦ (0, leb-false a 0 here)
  | inr there ↦ let w = uncovered [] v there in (suc w.0, w.1)
]
uncovered (b ∷ w) (a ∷ v) e = elim (false_is (leb a b) (covers w v) e) [
  | inl here ↦ (0, leb-false a b here)
  | inr there ↦ let r = uncovered w v there in (suc r.0, r.1)
]

-- ---- what is taken, as a test of epochs and vectors

taken_chosen_in : (judge : ℕ → List ℕ) (j k : ℕ) (ps : List Placed) → taken_in judge j k ps ≡ chosen_in (λ e v. covers (judge e) v) j k ps
taken_chosen_in judge j k [] = refl
taken_chosen_in judge j k (p ∷ ps) = ap (λ (l : List Kept). filter (λ (r : Kept). covers (judge k) r.place.dep) (kept_as j p p.entry) ++ l) (taken_chosen_in judge j (epoch_after k p.entry) ps)

pub taken_chosen : (judge : ℕ → List ℕ) (j : ℕ) (streams : List (List Placed)) → taken_from judge j streams ≡ chosen_from (λ e v. covers (judge e) v) j streams
taken_chosen judge j [] = refl
taken_chosen judge j (ps ∷ streams) = let a = taken_chosen_in judge j 0 ps in let b = taken_chosen judge (suc j) streams in λ i. a i ++ b i

pub taken_is : (log : Log) (r : Kept) → Member r (taken log) → (k : ℕ) × Member (k, r) (dated_from 0 log.streams) × (covers (judge_of log k) r.place.dep ≡ true)
taken_is log r m = chosen_are (λ e v. covers (judge_of log e) v) 0 log.streams r (subst (λ (l : List Kept). Member r l) (taken_chosen (judge_of log) 0 log.streams) m)

pub is_taken : (log : Log) (k : ℕ) (r : Kept) → Member (k, r) (dated_from 0 log.streams) → covers (judge_of log k) r.place.dep ≡ true → Member r (taken log)
is_taken log k r m e = subst (λ (l : List Kept). Member r l) (sym (taken_chosen (judge_of log) 0 log.streams)) (are_chosen (λ e v. covers (judge_of log e) v) 0 log.streams (k, r) m e)

-- ---- streams that grow

grown_at : (old more new : List (List Placed)) → Grown old more new → (l : ℕ) (ps : List Placed) → slice_get old l ≡ Some ps → (ms : List Placed) × (slice_get new l ≡ Some (ps ++ ms))
grown_at [] more new g l ps e = absurd cc
grown_at (xs ∷ old) [] new g l ps e = absurd g
grown_at (xs ∷ old) (ms ∷ more) [] g l ps e = absurd g
grown_at (xs ∷ old) (ms ∷ more) (qs ∷ new) g zero ps e = let same : xs ≡ ps = cc in (ms, ap (λ (z : List Placed). Some z) (g.0 ∙ ap (λ (z : List Placed). z ++ ms) same))
grown_at (xs ∷ old) (ms ∷ more) (qs ∷ new) g (suc l) ps e = grown_at old more new g.1 l ps e

marks_at : (streams : List (List Placed)) (l : ℕ) (ps : List Placed) (m : Mark) → slice_get streams l ≡ Some ps → Member m (marks_in ps) → Member m (marks_from streams)
marks_at [] l ps m e h = absurd cc
marks_at (qs ∷ streams) zero ps m e h = let same : qs ≡ ps = cc in member_front m (marks_in qs) (marks_from streams) (subst (λ (z : List Placed). Member m (marks_in z)) (sym same) h)
marks_at (qs ∷ streams) (suc l) ps m e h = member_back m (marks_in qs) (marks_from streams) (marks_at streams l ps m e h)

mark_there : (before : List Placed) (p : Placed) (after : List Placed) (number : ℕ) (lv : List ℕ) → p.entry ≡ Epoch number lv → Member (record { number = number; lv = lv }) (marks_in (before ++ p ∷ after))
mark_there before p after number lv is =
    let m : Mark = record { number = number; lv = lv } in
    subst (λ (l : List Mark). Member m l) (sym (marks_append before (p ∷ after))) (member_back m (marks_in before) (marks_in (p ∷ after))
    (member_front m (mark_of p.entry) (marks_in after) (subst (λ (e : Entry). Member m (mark_of e)) (sym is) (inl refl))))

-- ---- how far a stream may be followed before an epoch that stands there is read

one_at : (out order : List Kept) (j : ℕ) (p : Placed) (r : Kept) → Member r (filter (is_open out order) (kept_in j (p ∷ []))) → p.start ≡ 0 → r.place.start ≡ 0
one_at out order j p r m e =
    let there = member_filtered (is_open out order) r (kept_in j (p ∷ [])) m in
    let d = kept_dated j 0 (p ∷ []) r there.0 in
    elim (in_either (d.0, r) (dated_as 0 (kept_as j p p.entry)) [] d.1) [
      | inl here ↦ (as_at j 0 p p.entry (d.0, r) here).1 ∙ e
      | inr n ↦ absurd n
    ]

-- of one record nothing is followed
pub reach_alone : (out order : List Kept) (j : ℕ) (ps : List Placed) → Stand 0 (last_past 0 ps) ps → length ps ≤ 1 → reach out order j ps ≤ 0
reach_alone out order j [] h le = omega arith
reach_alone out order j (p ∷ []) h le = by (filter (is_open out order) (kept_as j p p.entry ++ [])) refl
  where
    by : (rs : List Kept) → filter (is_open out order) (kept_as j p p.entry ++ []) ≡ rs → first_start 0 (filter (is_open out order) (kept_as j p p.entry ++ [])) ≤ 0
    by [] e = rw e (omega arith)
    by (r ∷ rs) e =
        let m : Member r (filter (is_open out order) (kept_in j (p ∷ []))) = subst (λ (l : List Kept). Member r l) (sym e) (inl refl) in
        let at = one_at out order j p r m h.0 in
        rw e (omega (arith, at))
reach_alone out order j (p ∷ q ∷ ps) h le = absurd (omega (arith, le))

module _ (log : Log) (stands : AreStanding log.streams) (lengths : log.elv ≡ ends log.streams) (agree : Agree (marks_of log)) (marked : AreMarked log.streams) where
  -- of two epochs the later one has found no stream shorter
  rises : (a b : Mark) → Member a (marks_of log) → Member b (marks_of log) → a.number ≤ b.number → AtMost a.lv b.lv
  rises a b ma mb le = elim (below a.number b.number le) [
    | inl lt ↦ marked.rise a b ma mb lt
    | inr same ↦ subst (AtMost a.lv) (agree a b ma mb same) (λ l. omega arith)
  ]
    where
      below : (m n : ℕ) → m ≤ n → (m < n) ⊎ (m ≡ n)
      below m n le = grind arith

  module _ (s : Followed) (more : List (List Placed)) (grown : Grown s.streams more log.streams) where
    -- Where an epoch found the end of a stream that is followed beyond that, a later epoch is known that found it there.
    pub known_there : (a : Mark) → Member a (marks_of log) → (l : ℕ) → slice_index a.lv l < slice_index (rlv s) l →
        (b : Mark) × Member b (marks_from s.streams) × (a.number ≤ b.number) × (slice_index b.lv l ≡ slice_index a.lv l)
    known_there a ma l lt = elim (stream_at l s.streams) [
      | inr none ↦ absurd (let is = reach_past s.out s.order 0 l s.streams none in omega (arith, is, lt))
      | inl w ↦
          let ps : List Placed = w.0 in
          let g = grown_at s.streams more log.streams grown l ps w.1 in
          let ms : List Placed = g.0 in
          let whole : Stand 0 (last_past 0 (ps ++ ms)) (ps ++ ms) = stands_at l log.streams (ps ++ ms) stands g.1 in
          let cut = stand_parts 0 (last_past 0 (ps ++ ms)) ps ms whole in
          let is = reach_at s.out s.order 0 l s.streams ps w.1 in
          let low = reach_low s.out s.order (0 + l) ps (stand_parts 0 (last_past 0 (ps ++ ms)) ps ms whole).0 in
          elim (marked.next a ma l (ps ++ ms) g.1) [
            | inl short ↦ absurd (let grows = stand_low (last_past 0 ps) (last_past 0 (ps ++ ms)) ms cut.1 in omega (arith, short, grows, is, low, lt))
            | inr f ↦ elim (two_cuts ps ms f.before f.after f.epoch f.parts) [
              | inl inside ↦
                  let m : Member (record { number = f.number; lv = f.lv }) (marks_in ps) = subst (λ (z : List Placed). Member (record { number = f.number; lv = f.lv }) (marks_in z)) (sym inside.1) (mark_there f.before f.epoch inside.0 f.number f.lv f.is) in
                  (record { number = f.number; lv = f.lv }, marks_at s.streams l ps (record { number = f.number; lv = f.lv }) w.1 m, f.later, f.found)
              | inr beyond ↦ absurd (not_reached ps ms f.before f.after beyond.0 f.epoch f.parts is low whole cut.0 beyond.1 f.at_once)
            ]
          ]
    ]
      where
        not_reached : (ps ms before after mid : List Placed) (epoch : Placed) → ps ++ ms ≡ before ++ epoch ∷ after → slice_index (rlv s) l ≡ reach s.out s.order (0 + l) ps → reach s.out s.order (0 + l) ps ≤ last_past 0 ps →
            Stand 0 (last_past 0 (ps ++ ms)) (ps ++ ms) → Stand 0 (last_past 0 ps) ps → before ≡ ps ++ mid → ((epoch.start ≡ slice_index a.lv l) ⊎ ((slice_index a.lv l ≡ 0) × (length before ≡ 1))) → ⊥
        not_reached ps ms before after mid epoch parts is low whole own split (inl start) =
            let end : ℕ = last_past 0 (ps ++ ms) in
            let all : Stand 0 end (before ++ epoch ∷ after) = subst (λ (z : List Placed). Stand 0 end z) parts whole in
            let there = stand_parts 0 end before (epoch ∷ after) all in
            let begins : epoch.start ≡ last_past 0 before = there.1.0 in
            let front : Stand 0 (last_past 0 before) (ps ++ mid) = subst (λ (z : List Placed). Stand 0 (last_past 0 before) z) split there.0 in
            let rest = stand_low (last_past 0 ps) (last_past 0 before) mid (stand_parts 0 (last_past 0 before) ps mid front).1 in
            omega (arith, is, low, lt, start, begins, rest)
        not_reached ps ms before after mid epoch parts is low whole own split (inr first) =
            let zero_is = first.0 in
            let one = first.1 in
            let long : length before ≡ length ps + length mid = ap length split ∙ length-append ps mid in
            let none = reach_alone s.out s.order (0 + l) ps own (omega (arith, long, one)) in
            omega (arith, is, none, lt, zero_is)

    -- ---- what is ready is taken

    mark_kept : (b : Mark) → Member b (marks_from s.streams) → Member b (marks_of log)
    mark_kept b m = old_mark s.streams more log.streams grown b m

    -- what a known epoch has not left out, the first known epoch above it covers
    not_out : (k : ℕ) (r : Kept) → Member (k, r) (dated_from 0 s.streams) → is_among (left_out s.streams) r ≡ false → is_below r.place.dep (least_above k (marks_from s.streams)) ≡ true
    not_out k r m free = elim (cases_Bool (is_below r.place.dep (least_above k (marks_from s.streams)))) [
      | inl t ↦ t
      | inr f ↦
          let out : Member r (left_out s.streams) = are_chosen (is_left_out (marks_from s.streams)) 0 s.streams (k, r) m (ap not f) in
          absurd (let e = sym (member_among (left_out s.streams) r.place.stream r.place.start r out refl refl) ∙ free in cc e)
    ]

    -- a record that is ready, and that no known epoch leaves out
    pub ready_taken : (r : Kept) → IsReady s r → is_among (left_out s.streams) r ≡ false → Member r (taken log)
    ready_taken r ready free =
        let d = all_dated 0 s.streams r ready.read in
        let k : ℕ = d.0 in
        let whole : Member (k, r) (dated_from 0 log.streams) = dated_grown 0 s.streams more log.streams grown (k, r) d.1 in
        let low : AtMost r.place.dep log.elv = subst (AtMost r.place.dep) (sym lengths) (at_most_trans r.place.dep (ends s.streams) (ends log.streams)
        (at_most_trans r.place.dep (rlv s) (ends s.streams) ready.covered (rlv_low s (front_stands s.streams more log.streams grown stands))) (ends_grow s.streams more log.streams grown stands)) in
        is_taken log k r whole (sym (judged_covers log.elv r.place.dep (least_above k (marks_of log))) ∙ and_from (covers log.elv r.place.dep) (is_below r.place.dep (least_above k (marks_of log)))
        (at_most_covers log.elv r.place.dep low) (judged k r d.1 ready free))
      where
        front_stands : (old more new : List (List Placed)) → Grown old more new → AreStanding new → AreStanding old
        front_stands [] more new g h = tt
        front_stands (ps ∷ old) [] new g h = absurd g
        front_stands (ps ∷ old) (ms ∷ more) [] g h = absurd g
        front_stands (ps ∷ old) (ms ∷ more) (qs ∷ new) g h =
            let whole : Stand 0 (last_past 0 qs) (ps ++ ms) = subst (Stand 0 (last_past 0 qs)) g.0 h.0 in
            ((stand_parts 0 (last_past 0 qs) ps ms whole).0, front_stands old more new g.1 h.1)

        judged : (k : ℕ) (r : Kept) → Member (k, r) (dated_from 0 s.streams) → IsReady s r → is_among (left_out s.streams) r ≡ false → is_below r.place.dep (least_above k (marks_of log)) ≡ true
        judged k r m ready free = elim (found k (marks_of log)) [
          | inr none ↦ ap (is_below r.place.dep) none.0
          | inl w ↦
              let a : Mark = w.0 in
              ap (is_below r.place.dep) w.1 ∙ (elim (cases_Bool (covers a.lv r.place.dep)) [
                | inl t ↦ t
                | inr f ↦
                    let u = uncovered a.lv r.place.dep f in
                    let l : ℕ = u.0 in
                    let over = u.1 in
                    let reached = ready.covered l in
                    let b = known_there a (member_of a (marks_of log) w.2.there) l (omega (arith, over, reached)) in
                    let high = w.2.above in
                    let later = b.2 in
                    let same = b.3 in
                    absurd (elim (found k (marks_from s.streams)) [
                      | inr none ↦ let low = none.1 b.0 (contains_of b.0 (marks_from s.streams) b.1) in omega (arith, low, high, later)
                      | inl c ↦
                          let covered : covers c.0.lv r.place.dep ≡ true = sym (ap (is_below r.place.dep) c.1) ∙ not_out k r m free in
                          let asks = covers_at_most c.0.lv r.place.dep covered l in
                          let first = c.2.least b.0 (contains_of b.0 (marks_from s.streams) b.1) (omega (arith, high, later)) in
                          let up = rises c.0 b.0 (mark_kept c.0 (member_of c.0 (marks_from s.streams) c.2.there)) (mark_kept b.0 b.1) first l in
                          omega (arith, asks, up, same, over)
                    ])
              ])
        ]

    -- ---- what is taken no known epoch leaves out

    pub taken_free : (r : Kept) → Member r (taken log) → is_among (left_out s.streams) r ≡ false
    taken_free r m = elim (cases_Bool (is_among (left_out s.streams) r)) [
      | inr f ↦ f
      | inl t ↦
          let q = among_member (left_out s.streams) r.place.stream r.place.start t in
          let o = chosen_are (is_left_out (marks_from s.streams)) 0 s.streams q.0 q.1 in
          let w = taken_is log r m in
          let one : (o.0, q.0) ≡ (w.0, r) = one_there log.streams (o.0, q.0) (w.0, r) stands (dated_grown 0 s.streams more log.streams grown (o.0, q.0) o.1) w.1 q.2 q.3 in
          let out : is_left_out (marks_from s.streams) w.0 r.place.dep ≡ true = subst (λ (x : Dated). is_left_out (marks_from s.streams) x.0 x.1.place.dep ≡ true) one o.2 in
          let below : is_below r.place.dep (least_above w.0 (marks_of log)) ≡ true = (and_parts (covers log.elv r.place.dep) (is_below r.place.dep (least_above w.0 (marks_of log))) (judged_covers log.elv r.place.dep (least_above w.0 (marks_of log)) ∙ w.2)).1 in
          absurd (elim (found w.0 (marks_from s.streams)) [
            | inr none ↦ let e = sym out ∙ ap (λ (p : Option Mark). not (is_below r.place.dep p)) none.0 in cc e
            | inl c ↦ elim (found w.0 (marks_of log)) [
              | inr none ↦ let low = none.1 c.0 (contains_of c.0 (marks_of log) (mark_kept c.0 (member_of c.0 (marks_from s.streams) c.2.there))) in let high = c.2.above in omega (arith, low, high)
              | inl a ↦
                  let mc : Member c.0 (marks_of log) = mark_kept c.0 (member_of c.0 (marks_from s.streams) c.2.there) in
                  let first = a.2.least c.0 (contains_of c.0 (marks_of log) mc) c.2.above in
                  let up = rises a.0 c.0 (member_of a.0 (marks_of log) a.2.there) mc first in
                  let covered : covers a.0.lv r.place.dep ≡ true = sym (ap (is_below r.place.dep) a.1) ∙ below in
                  let also : covers c.0.lv r.place.dep ≡ true = at_most_covers c.0.lv r.place.dep (at_most_trans r.place.dep a.0.lv c.0.lv (covers_at_most a.0.lv r.place.dep covered) up) in
                  let e : false ≡ true = sym (ap not also) ∙ sym (ap (λ (p : Option Mark). not (is_below r.place.dep p)) c.1) ∙ out in
                  cc e
            ]
          ])
    ]
