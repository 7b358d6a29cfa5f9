-- The records of a log: in which stream, where they start, and their vectors.
use Rattle.std.proofs.Common.{ℕ, suc, ◌+◌, ◌<◌, ◌≤◌, ◌≡◌, ◌==◌, ◌||◌, ◌⊎◌, Bool, true, false, inl, inr, List, [], ◌∷◌, ◌++◌, length, map, refl, sym, ap, subst, ◌∙◌, arith, Option}
use Rattle.std.specs.Prelude.{Some, None, All, slice_index, if◌then◌else◌}
use Rattle.std.specs.List.{AllZip, AllByRecursion}
use Rattle.std.proofs.lemmas.Bool.{both_ways}
use Rattle.std.proofs.lemmas.List.{length-append, length-map}
use Rattle.std.proofs.lemmas.List.Elements.{All-from_recursion, recursion_from_All}
use Rattle.tau_base.specs.declared.format.Format.{Format}
use Rattle.tau_base.specs.declared.limits.TheConstants.{MAX_LSN, MAX_STREAMS}
use Rattle.tau_model.specs.declared.committed.Spot.{Spot}
use Rattle.tau_model.specs.Committed.{IsWithin}
use Rattle.tau_model.specs.History.{Act, Member, Numbered, updates}
use Rattle.tau_model.specs.Logged.{Place}
use Rattle.tau_record.specs.declared.entry.Entry.{Entry}
use Rattle.tau_record.specs.declared.entry.Entry.TheVariants.{Written, Command, Anchor, Catalogue, Epoch}
use Rattle.tau_record.specs.declared.entry.Placed.{Placed}
use Rattle.tau_record.specs.Content.{Reads, named_after}
use Rattle.tau_record.specs.Record.{named, spelling, epoch_after, AreVectors, FitsBody, FitsOrigin}
use Rattle.tau_record.specs.Vector.{ArePlaces}
use Rattle.tau_record.proofs.ContentLaws.{named_are, named_keep}
use Rattle.tau_scan.specs.Reading.{IsReading}
use Rattle.tau_scan.specs.Taken.{Kept, kept_as, kept_in, kept_from}
use Rattle.tau_inspect.specs.Audit.{Case, acts, records, has_record, has_ack, is_told, place_in, nowhere, place_of, committed_by, committed_of, vector_in, IsWhole}
use Rattle.tau_inspect.specs.Cases.{IsCase}
use Rattle.tau_inspect.specs.Records.{IsLv, IsPlaced}
use Rattle.tau_inspect.specs.ReportFor.{IsVector}

either : {A : Type 0} (xs ys : List A) (x : A) → Member x (xs ++ ys) → Member x xs ⊎ Member x ys
either [] ys x m = inr m
either (z ∷ xs) ys x (inl e) = inl (inl e)
either (z ∷ xs) ys x (inr m) = elim (either xs ys x m) [ inl a ↦ inl (inr a) | inr b ↦ inr b ]

-- ---- a stream

record FitsStream (n j high : ℕ) (r : Kept) : Type 0 where
  stream : r.place.stream ≡ j
  start : r.place.start ≤ high
  width : length r.place.dep ≡ n
  small : ArePlaces r.place.dep

of_origin : (n j high : ℕ) (vectors : List (List ℕ)) (number anchor : ℕ) (r : Kept) → AreVectors n vectors → FitsOrigin vectors number anchor r.place.dep → r.place.stream ≡ j → r.place.start ≤ high → FitsStream n j high r
of_origin n j high vectors number anchor r are fits at low = record { stream = at; start = low; width = fits.width ∙ (are anchor fits.known).1; small = fits.places }

of_entry : (n j high : ℕ) (vectors : List (List ℕ)) (p : Placed) (e : Entry) → AreVectors n vectors → FitsBody n vectors e → p.start ≤ high → (r : Kept) → Member r (kept_as j p e) → FitsStream n j high r
of_entry n j high vectors p (Written number anchor dep writes) are fits low r (inl e) = subst (FitsStream n j high) e (of_origin n j high vectors number anchor _ are fits.0 refl low)
of_entry n j high vectors p (Written number anchor dep writes) are fits low r (inr m) = absurd m
of_entry n j high vectors p (Command number anchor dep call) are fits low r (inl e) = subst (FitsStream n j high) e (of_origin n j high vectors number anchor _ are fits.0 refl low)
of_entry n j high vectors p (Command number anchor dep call) are fits low r (inr m) = absurd m
of_entry n j high vectors p (Anchor lv) are fits low r m = absurd m
of_entry n j high vectors p (Catalogue text) are fits low r m = absurd m
of_entry n j high vectors p (Epoch number lv) are fits low r m = absurd m

of_stream : (f : Format) (n j at k : ℕ) (vectors : List (List ℕ)) (content : List ℕ) (ps : List Placed) → AreVectors n vectors → Reads f n at k vectors content ps → (r : Kept) → Member r (kept_in j ps) → FitsStream n j (at + length content) r
of_stream f n j at k vectors content [] are h r m = absurd m
of_stream f n j at k vectors content (p ∷ ps) are h r m =
    let text : List ℕ = spelling f vectors p.entry in
    let size : length content ≡ length text + length h.0 = ap (λ (xs : List ℕ). length xs) h.1.parts ∙ length-append text h.0 in
    elim (either (kept_as j p p.entry) (kept_in j ps) r m) [
      | inl t ↦ of_entry n j (at + length content) vectors p p.entry are h.1.fits.fields (omega (arith, h.1.starts)) r t
      | inr t ↦
          let o = of_stream f n j p.past (epoch_after k p.entry) (named_after vectors p.entry) h.0 ps (named_keep n vectors p.entry are h.1.fits.fields) h.2 r t in
          record { stream = o.stream; start = omega (arith, o.start, size, h.1.ends); width = o.width; small = o.small }
    ]

-- ---- a log

record FitsEnds (n : ℕ) (elv : List ℕ) (low high : ℕ) (r : Kept) : Type 0 where
  above : low ≤ r.place.stream
  below : r.place.stream < high
  start : r.place.start ≤ slice_index elv r.place.stream
  width : length r.place.dep ≡ n
  small : ArePlaces r.place.dep

of_streams : (elv : List ℕ) (f : Format) (n j : ℕ) (contents : List (List ℕ)) (streams : List (List Placed)) → AllZip (IsReading f n) contents streams → ((k : ℕ) → slice_index elv (j + k) ≡ slice_index (map (λ (c : List ℕ). length c) contents) k) →
    (r : Kept) → Member r (kept_from j streams) → FitsEnds n elv j (j + length contents) r
of_streams elv f n j [] [] all ends r m = absurd m
of_streams elv f n j [] (ps ∷ streams) all ends r m = absurd all
of_streams elv f n j (c ∷ contents) [] all ends r m = absurd all
of_streams elv f n j (c ∷ contents) (ps ∷ streams) all ends r m = elim (either (kept_in j ps) (kept_from (suc j) streams) r m) [
  | inl t ↦
      let o = of_stream f n j 0 0 (named n []) c ps (named_are n) all.0.spelled r t in
      let end : slice_index elv r.place.stream ≡ length c = ap (λ (q : ℕ). slice_index elv q) (o.stream ∙ omega arith) ∙ ends 0 in
      record { above = omega (arith, o.stream); below = omega (arith, o.stream); start = omega (arith, o.start, end); width = o.width; small = o.small }
  | inr t ↦
      let o = of_streams elv f n (suc j) contents streams all.1 (λ k. ap (λ (q : ℕ). slice_index elv q) (omega arith) ∙ ends (suc k)) r t in
      record { above = omega (arith, o.above); below = omega (arith, o.below); start = o.start; width = o.width; small = o.small }
]

found_by : (k : ℕ) (r : Kept) (rs : List Kept) (t : Bool) → (r.number == k) ≡ t → (t || has_record k rs) ≡ true → (has_record k rs ≡ true → (q : Kept) × Member q rs × (place_in k rs ≡ q.place)) → (q : Kept) × Member q (r ∷ rs) × (place_in k (r ∷ rs) ≡ q.place)
found_by k r rs true is e h = (r, inl refl, ap (λ (b : Bool). if b then r.place else place_in k rs) is)
found_by k r rs false is e h = (let w = h e in (w.0, inr w.1, ap (λ (b : Bool). if b then r.place else place_in k rs) is ∙ w.2))

-- the place of a call with a record is that of a record
place_found : (k : ℕ) (rs : List Kept) → has_record k rs ≡ true → (q : Kept) × Member q rs × (place_in k rs ≡ q.place)
place_found k [] e = absurd (both_ways false refl e)
place_found k (r ∷ rs) e = found_by k r rs (r.number == k) refl e (λ t. place_found k rs t)

spot_one : (s x : Spot) → ◌≡◌ {A = Option Spot} (Some s) (Some x) → s ≡ x
spot_one s x e = cc

spot_none : (x : Spot) → ◌≡◌ {A = Option Spot} None (Some x) → ⊥
spot_none x e = cc

module _ (c : Case) (is : IsCase c) where
  fits_log : (r : Kept) → Member r (records c) → FitsEnds (length c.log.elv) c.log.elv 0 (length c.log.elv) r
  fits_log r m =
      let l = is.log in
      let long : length l.contents ≡ length c.log.elv = sym (ap (λ (xs : List ℕ). length xs) l.lengths ∙ length-map l.contents (λ (t : List ℕ). length t)) in
      let fits = of_streams c.log.elv l.format (length l.contents) 0 l.contents c.log.streams l.read (λ k. ap (λ (q : ℕ). slice_index c.log.elv q) (omega arith) ∙ ap (λ (xs : List ℕ). slice_index xs k) l.lengths) r m in
      record { above = fits.above; below = omega (arith, fits.below, long); start = fits.start; width = fits.width ∙ long; small = fits.small }

  module _ (low : 1 ≤ length c.log.elv) (high : length c.log.elv ≤ MAX_STREAMS) where
    all_of : (rs : List Kept) → ((r : Kept) → Member r rs → IsPlaced r) → AllByRecursion IsPlaced rs
    all_of [] h = tt
    all_of (r ∷ rs) h = (h r (inl refl), all_of rs (λ q m. h q (inr m)))

    pub all_placed : All IsPlaced (records c)
    all_placed = All-from_recursion IsPlaced (records c) (all_of (records c) (λ r m.
        let o = fits_log r m in
        record { stream = omega (arith, o.below, high); vector = record { low = omega (arith, o.width, low); high = omega (arith, o.width, high); small = All-from_recursion (λ (p : ℕ). p < MAX_LSN) r.place.dep o.small } }))

    acks_of : (xs : List (ℕ × List ℕ)) → AllByRecursion (λ a. IsVector (length c.log.elv) a.1) xs → AllByRecursion (λ a. IsLv a.1) xs
    acks_of [] h = tt
    acks_of (a ∷ xs) h = (record { low = omega (arith, h.0.long, low); high = omega (arith, h.0.long, high); small = h.0.small }, acks_of xs h.1)

    pub acks_placed : All (λ a. IsLv a.1) c.report.acks
    acks_placed = All-from_recursion (λ a. IsLv a.1) c.report.acks (acks_of c.report.acks (recursion_from_All (λ a. IsVector (length c.log.elv) a.1) c.report.acks is.report.vectors))

  -- ---- the calls of the order are within the log

  within_by : (number : ℕ) (up : Bool) (p : Place) → (up ≡ true → (p.stream < length c.log.elv) × (p.start ≤ slice_index c.log.elv p.stream)) → IsWithin c.log.elv (committed_by number up p)
  within_by number true p fits x e =
      let same : record { stream = p.stream; start = p.start; past = p.past; anchor = 0 } ≡ x = spot_one (record { stream = p.stream; start = p.start; past = p.past; anchor = 0 }) x e in
      subst (λ (s : Spot). (s.stream < length c.log.elv) × (s.start ≤ slice_index c.log.elv s.stream)) same (fits refl)
  within_by number false p fits x e = absurd (spot_none x e)

  within_one : (x : Act Numbered) → is_told c x ≡ true → IsWithin c.log.elv (committed_of c x)
  within_one x told =
      within_by x.call.number (updates x.effect) (place_of c x)
      (λ up.
      let there : has_record x.call.number (records c) ≡ true = sym (ap (λ (b : Bool). if b then has_record x.call.number (records c) else has_ack x.call.number c.report.acks) up) ∙ told in
      let w = place_found x.call.number (records c) there in
      let place : place_of c x ≡ w.0.place = ap (λ (b : Bool). if b then place_in x.call.number (records c) else nowhere (vector_in x.call.number c.report.acks)) up ∙ w.2 in
      let o = fits_log w.0 w.1 in
      subst (λ (p : Place). (p.stream < length c.log.elv) × (p.start ≤ slice_index c.log.elv p.stream)) (sym place) (o.below, o.start))

  within_these : (xs : List (Act Numbered)) → ((x : Act Numbered) → Member x xs → is_told c x ≡ true) → AllByRecursion (IsWithin c.log.elv) (map (committed_of c) xs)
  within_these [] h = tt
  within_these (x ∷ xs) h = (within_one x (h x (inl refl)), within_these xs (λ y m. h y (inr m)))

  pub all_within : IsWhole c → All (IsWithin c.log.elv) (map (committed_of c) (acts c))
  all_within whole = All-from_recursion (IsWithin c.log.elv) (map (committed_of c) (acts c)) (within_these (acts c) whole)
