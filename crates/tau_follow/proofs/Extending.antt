-- Where records stand that were just read.
use Rattle.std.proofs.Common.{ℕ, suc, ◌+◌, ◌≤◌, ◌<◌, Bool, false, cond, ◌≡◌, inl, inr, List, [], ◌∷◌, ◌++◌, length, drop, refl, sym, ap, subst, ◌∙◌, arith, slice_index}
use Rattle.std.proofs.lemmas.Bool.{cases_Bool}
use Rattle.std.proofs.Math.Seq.{drop-append_seam}
use Rattle.std.proofs.Common.{take}
use Rattle.std.proofs.lemmas.List.{append-nil, drop_all, take_all}
use Rattle.tau_model.specs.History.{Member}
use Rattle.tau_model.specs.Redo.{Written as Writes, Command as Executes}
use Rattle.tau_model.proofs.Orders.{member_front, member_back}
use Rattle.tau_record.specs.declared.entry.Entry.{Entry}
use Rattle.tau_record.specs.declared.entry.Entry.TheVariants.{Written, Command, Anchor, Catalogue, Epoch}
use Rattle.tau_record.specs.declared.entry.Placed.{Placed}
use Rattle.tau_scan.specs.Taken.{Kept, kept_as, kept_in, kept_from}
use Rattle.tau_epoch_laws.specs.Continues.{Grown}
use Rattle.tau_epoch_laws.proofs.Records.{Stand}
use Rattle.tau_follow_laws.specs.Following.{is_among}
use Rattle.tau_epoch_laws.specs.Marked.{last_past}
use Rattle.tau_follow_laws.proofs.Kept.{kept_dated, all_dated}
use Rattle.tau_follow_laws.proofs.Rises.{AreStanding, in_stream, dated_at}
use Rattle.tau_follow_laws.proofs.Among.{among_member}
use Rattle.tau_follow_laws.proofs.Reached.{ends, end_at, stand_parts}
use Rattle.tau_follow.specs.declared.stage.Stage.{Stage}
use Rattle.tau_follow.specs.declared.stage.Stage.TheVariants as stages
use Rattle.tau_follow.specs.Applying.{stage_as, stage_of, stages_in, stages_from, first_stage, first_stages, extended, extended_from}

pub fresh_one : (out order : List Kept) (r : Kept) → (is_among out r ≡ false) × (is_among order r ≡ false) → stage_as out order (r ∷ []) ≡ stages.Open
fresh_one out order r w = ap (λ (b : Bool). cond b stages.Out (cond (is_among order r) stages.Applied stages.Open)) w.0 ∙ ap (λ (b : Bool). cond b stages.Applied stages.Open) w.1

first_is : (out order : List Kept) (j : ℕ) (p : Placed) (e : Entry) → ((r : Kept) → Member r (kept_as j p e) → (is_among out r ≡ false) × (is_among order r ≡ false)) → stage_as out order (kept_as j p e) ≡ first_stage e
first_is out order j p (Written number anchor dep writes) fresh =
    let r : Kept = record { number = number; place = record { stream = j; start = p.start; past = p.past; dep = dep }; content = Writes writes } in
    fresh_one out order r (fresh r (inl refl))
first_is out order j p (Command number anchor dep call) fresh =
    let r : Kept = record { number = number; place = record { stream = j; start = p.start; past = p.past; dep = dep }; content = Executes call } in
    fresh_one out order r (fresh r (inl refl))
first_is out order j p (Anchor lv) fresh = refl
first_is out order j p (Catalogue text) fresh = refl
first_is out order j p (Epoch number lv) fresh = refl

stages_append : (out order : List Kept) (j : ℕ) (ps ms : List Placed) → stages_in out order j (ps ++ ms) ≡ stages_in out order j ps ++ stages_in out order j ms
stages_append out order j [] ms = refl
stages_append out order j (p ∷ ps) ms = ap (λ (l : List Stage). stage_of out order j p ∷ l) (stages_append out order j ps ms)

pub stages_long : (out order : List Kept) (j : ℕ) (ps : List Placed) → length (stages_in out order j ps) ≡ length ps
stages_long out order j [] = refl
stages_long out order j (p ∷ ps) = ap suc (stages_long out order j ps)

all_first : (out order : List Kept) (j : ℕ) (ms : List Placed) → ((r : Kept) → Member r (kept_in j ms) → (is_among out r ≡ false) × (is_among order r ≡ false)) → stages_in out order j ms ≡ first_stages ms
all_first out order j [] fresh = refl
all_first out order j (p ∷ ms) fresh =
    let here = first_is out order j p p.entry (λ r m. fresh r (member_front r (kept_as j p p.entry) (kept_in j ms) m)) in
    let rest = all_first out order j ms (λ r m. fresh r (member_back r (kept_as j p p.entry) (kept_in j ms) m)) in
    λ i. here i ∷ rest i

-- records that are among those that were read start before the ends
read_before : (streams : List (List Placed)) (r : Kept) → AreStanding streams → Member r (kept_from 0 streams) → r.place.start < slice_index (ends streams) r.place.stream
read_before streams r h m =
    let d = all_dated 0 streams r m in
    let w = in_stream 0 streams (d.0, r) h d.1 in
    let number = w.number in
    let same : w.i ≡ r.place.stream = omega (arith, number) in
    let low = (dated_at (0 + w.i) 0 0 (last_past 0 w.ps) w.ps (d.0, r) w.stands w.among).2 in
    subst (λ (i : ℕ). r.place.start < slice_index (ends streams) i) same (subst (λ (v : ℕ). r.place.start < v) (sym (end_at w.i streams w.ps w.there)) low)

not_among : (old : List (List Placed)) (rs : List Kept) → AreStanding old → ((r : Kept) → Member r rs → Member r (kept_from 0 old)) → (r : Kept) → slice_index (ends old) r.place.stream ≤ r.place.start → is_among rs r ≡ false
not_among old rs h read r le = elim (cases_Bool (is_among rs r)) [
  | inr f ↦ f
  | inl t ↦
      let w = among_member rs r.place.stream r.place.start t in
      let lt = read_before old w.0 h (read w.0 w.1) in
      let there : w.0.place.start < slice_index (ends old) r.place.stream = subst (λ (i : ℕ). w.0.place.start < slice_index (ends old) i) w.2 lt in
      let s = w.3 in
      absurd (omega (arith, there, s, le))
]

kept_place : (j at end : ℕ) (ps : List Placed) (r : Kept) → Stand at end ps → Member r (kept_in j ps) → (r.place.stream ≡ j) × (at ≤ r.place.start)
kept_place j at end ps r h m = let d = kept_dated j 0 ps r m in let w = dated_at j 0 at end ps (d.0, r) h d.1 in (w.0, w.1)

module _ (whole : List (List Placed)) (out order : List Kept) (h : AreStanding whole) (out_read : (r : Kept) → Member r out → Member r (kept_from 0 whole)) (order_read : (r : Kept) → Member r order → Member r (kept_from 0 whole)) where
  extend_some : (j : ℕ) (old more new : List (List Placed)) → ((i : ℕ) → slice_index (ends whole) (j + i) ≡ slice_index (ends old) i) → Grown old more new → AreStanding new → extended_from new (stages_from out order j old) ≡ stages_from out order j new
  extend_some j [] [] [] at g n = refl
  extend_some j [] [] (qs ∷ new) at g n = absurd g
  extend_some j [] (ms ∷ more) new at g n = absurd g
  extend_some j (ps ∷ old) [] new at g n = absurd g
  extend_some j (ps ∷ old) (ms ∷ more) [] at g n = absurd g
  extend_some j (ps ∷ old) (ms ∷ more) (qs ∷ new) at g n =
      let all : Stand 0 (last_past 0 qs) (ps ++ ms) = subst (Stand 0 (last_past 0 qs)) g.0 n.0 in
      let tail : Stand (last_past 0 ps) (last_past 0 qs) ms = (stand_parts 0 (last_past 0 qs) ps ms all).1 in
      let fresh : (r : Kept) → Member r (kept_in j ms) → (is_among out r ≡ false) × (is_among order r ≡ false) = λ r m.
      (let w = kept_place j (last_past 0 ps) (last_past 0 qs) ms r tail m in
      let stream = w.0 in
      let k : r.place.stream ≡ j + 0 = omega (arith, stream) in
      let end : slice_index (ends whole) r.place.stream ≡ last_past 0 ps = ap (slice_index (ends whole)) k ∙ at 0 in
      let low : slice_index (ends whole) r.place.stream ≤ r.place.start = subst (λ (v : ℕ). v ≤ r.place.start) (sym end) w.1 in
      (not_among whole out h out_read r low, not_among whole order h order_read r low)) in
      let rest_is : drop (length (stages_in out order j ps)) qs ≡ ms = ap (λ (n : ℕ). drop n qs) (stages_long out order j ps) ∙ ap (drop (length ps)) g.0 ∙ drop-append_seam ps ms in
      let here : extended qs (stages_in out order j ps) ≡ stages_in out order j qs
      = ap (λ (l : List Placed). stages_in out order j ps ++ first_stages l) rest_is ∙ ap (λ (l : List Stage). stages_in out order j ps ++ l) (sym (all_first out order j ms fresh)) ∙ sym (stages_append out order j ps ms) ∙ ap (stages_in out order j) (sym g.0) in
      let rest = extend_some (suc j) old more new (λ i. (let k : suc j + i ≡ j + suc i = omega arith in ap (slice_index (ends whole)) k ∙ at (suc i))) g.1 n.1 in
      λ i. here i ∷ rest i

-- the records stand as they did, and the new ones stand first
pub extend_all : (old more new : List (List Placed)) (out order : List Kept) → AreStanding old → Grown old more new → AreStanding new → ((r : Kept) → Member r out → Member r (kept_from 0 old)) → ((r : Kept) → Member r order → Member r (kept_from 0 old)) →
    extended_from new (stages_from out order 0 old) ≡ stages_from out order 0 new
extend_all old more new out order h g n out_read order_read = extend_some old out order h out_read order_read 0 old more new (λ i. (let k : 0 + i ≡ i = omega arith in ap (slice_index (ends old)) k)) g n

-- ---- the end of a loop over the streams

pub extend_end : (streams : List (List Placed)) (all : List (List Stage)) (whole : List (List Stage)) (j : ℕ) → length all ≡ length streams → length streams ≤ j → take j all ++ extended_from (drop j streams) (drop j all) ≡ whole → all ≡ whole
extend_end streams all whole j same le e =
    sym (ap (λ (xs : List (List Placed)). take j all ++ extended_from xs (drop j all)) (drop_all j streams le) ∙ append-nil (take j all) ∙ take_all j all (omega (arith, same, le))) ∙ e
