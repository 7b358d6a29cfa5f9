-- The records at spots.
use Rattle.std.proofs.Common.{ℕ, zero, suc, ◌+◌, ◌≤◌, ◌≡◌, List, [], ◌∷◌, ◌++◌, length, take, Some, refl, sym, ap, subst, ◌∙◌, arith}
use Rattle.std.specs.Prelude.{slice_get}
use Rattle.std.proofs.lemmas.List.{take_all}
use Rattle.tau_proc.specs.declared.proc.Proc.{Proc}
use Rattle.tau_model.specs.Redo.{redo_contents}
use Rattle.tau_base.specs.Database.{Db}
use Rattle.tau_record.specs.declared.entry.Entry.{Entry}
use Rattle.tau_record.specs.declared.entry.Entry.TheVariants.{Written, Command, Anchor, Catalogue, Epoch}
use Rattle.tau_record.specs.declared.entry.Placed.{Placed}
use Rattle.tau_scan.specs.Taken.{Kept, kept_as}
use Rattle.tau_follow.specs.declared.spot.Spot.{Spot}
use Rattle.tau_follow.specs.Applying.{content_in, redone_of, IsSpot, AreSpots}
use Rattle.tau_epoch_laws.specs.Continues.{Grown}
use Rattle.tau_follow.proofs.Staging.{redone_push}

pub spots_push : (streams : List (List Placed)) (spots : List Spot) (order : List Kept) (spot : Spot) (r : Kept) → AreSpots streams spots order → IsSpot streams spot r → AreSpots streams (spots ++ spot ∷ []) (order ++ r ∷ [])
spots_push streams [] [] spot r h is = (is, tt)
spots_push streams [] (q ∷ order) spot r h is = absurd h
spots_push streams (x ∷ spots) [] spot r h is = absurd h
spots_push streams (x ∷ spots) (q ∷ order) spot r h is = (h.0, spots_push streams spots order spot r h.1 is)

pub spots_long : (streams : List (List Placed)) (spots : List Spot) (order : List Kept) → AreSpots streams spots order → length spots ≡ length order
spots_long streams [] [] h = refl
spots_long streams [] (q ∷ order) h = absurd h
spots_long streams (x ∷ spots) [] h = absurd h
spots_long streams (x ∷ spots) (q ∷ order) h = ap suc (spots_long streams spots order h.1)

-- the record at an index of them
pub spot_at : (streams : List (List Placed)) (spots : List Spot) (order : List Kept) (i : ℕ) (x : Spot) → AreSpots streams spots order → slice_get spots i ≡ Some x → (r : Kept) × IsSpot streams x r × (take (suc i) order ≡ take i order ++ r ∷ [])
spot_at streams [] order i x h e = absurd cc
spot_at streams (y ∷ spots) [] i x h e = absurd h
spot_at streams (y ∷ spots) (q ∷ order) zero x h e = (q, subst (λ (z : Spot). IsSpot streams z q) (let same : y ≡ x = cc in same) h.0, refl)
spot_at streams (y ∷ spots) (q ∷ order) (suc i) x h e = let w = spot_at streams spots order i x h.1 e in (w.0, w.1, ap (λ (l : List Kept). q ∷ l) w.2)

pub content_of : (j : ℕ) (p : Placed) (e : Entry) (r : Kept) → kept_as j p e ≡ r ∷ [] → content_in e ≡ r.content ∷ []
content_of j p (Written number anchor dep writes) r e = cc
content_of j p (Command number anchor dep call) r e = cc
content_of j p (Anchor lv) r e = absurd cc
content_of j p (Catalogue text) r e = absurd cc
content_of j p (Epoch number lv) r e = absurd cc

-- it is redone
pub redone_next : (procs : List Proc) (streams : List (List Placed)) (spots : List Spot) (order : List Kept) (i : ℕ) (x : Spot) (old new : Db) → AreSpots streams spots order → slice_get spots i ≡ Some x → old ≡ redone_of procs (take i order) →
    ((ps : List Placed) (p : Placed) → slice_get streams x.stream ≡ Some ps → slice_get ps x.index ≡ Some p → new ≡ redo_contents procs (content_in p.entry) old) → new ≡ redone_of procs (take (i + 1) order)
redone_next procs streams spots order i x old new h e is does =
    let w = spot_at streams spots order i x h e in
    let s = w.1 in
    let k : suc i ≡ i + 1 = omega arith in
    does s.records s.placed s.stream s.there ∙ ap (redo_contents procs (content_in s.placed.entry)) is ∙ redone_push procs (take i order) w.0 s.placed.entry (content_of x.stream s.placed s.placed.entry w.0 s.is)
    ∙ ap (redone_of procs) (sym w.2) ∙ ap (λ (m : ℕ). redone_of procs (take m order)) k

-- all are redone
pub all_redone : (procs : List Proc) (streams : List (List Placed)) (spots : List Spot) (order : List Kept) (i : ℕ) (db : Db) → AreSpots streams spots order → length spots ≤ i → db ≡ redone_of procs (take i order) → db ≡ redone_of procs order
all_redone procs streams spots order i db h low e = let l = spots_long streams spots order h in e ∙ ap (redone_of procs) (take_all i order (omega (arith, l, low)))

-- ---- the streams grow

more_there : (ps ms : List Placed) (i : ℕ) (p : Placed) → slice_get ps i ≡ Some p → slice_get (ps ++ ms) i ≡ Some p
more_there [] ms i p e = absurd cc
more_there (q ∷ ps) ms zero p e = e
more_there (q ∷ ps) ms (suc i) p e = more_there ps ms i p e

grown_at : (old more new : List (List Placed)) → Grown old more new → (j : ℕ) (ps : List Placed) → slice_get old j ≡ Some ps → (ms : List Placed) × (slice_get new j ≡ Some (ps ++ ms))
grown_at [] more new g j ps e = absurd cc
grown_at (qs ∷ old) [] new g j ps e = absurd g
grown_at (qs ∷ old) (ms ∷ more) [] g j ps e = absurd g
grown_at (qs ∷ old) (ms ∷ more) (rs ∷ new) g zero ps e = let same : qs ≡ ps = cc in (ms, ap (λ (l : List Placed). Some l) g.0 ∙ ap (λ (l : List Placed). Some (l ++ ms)) same)
grown_at (qs ∷ old) (ms ∷ more) (rs ∷ new) g (suc j) ps e = grown_at old more new g.1 j ps e

pub spots_grow : (old more new : List (List Placed)) → Grown old more new → (spots : List Spot) (order : List Kept) → AreSpots old spots order → AreSpots new spots order
spots_grow old more new g [] [] h = tt
spots_grow old more new g [] (r ∷ order) h = absurd h
spots_grow old more new g (x ∷ spots) [] h = absurd h
spots_grow old more new g (x ∷ spots) (r ∷ order) h =
    let s = h.0 in
    let w = grown_at old more new g x.stream s.records s.stream in
    (record { records = s.records ++ w.0; placed = s.placed; stream = w.1; there = more_there s.records w.0 x.index s.placed s.there; is = s.is }, spots_grow old more new g spots order h.1)
