-- The order of a run's report is the reported history by the places in a log of its images, if the log has all records and all that its
-- calls wait for.
use Rattle.std.proofs.Common.{ℕ, zero, suc, ◌+◌, ◌<◌, ◌≤◌, ◌≡◌, ◌==◌, Bool, true, false, inl, inr, List, [], ◌∷◌, ◌++◌, length, map, replicate, refl, sym, ap, subst, ◌∙◌, arith}
use Rattle.std.specs.Prelude.{slice_get, slice_index, slice_index_or, ◌||◌, if◌then◌else◌}
use Rattle.std.proofs.Math.Path.{fun_ext}
use Rattle.std.proofs.lemmas.Bool.{both_ways, cases_Bool}
use Rattle.std.proofs.lemmas.List.{length-take}
use Rattle.tau_base.specs.declared.value.Key.{Key}
use Rattle.tau_base.specs.declared.value.Value.{Value}
use Rattle.tau_base.specs.declared.value.LogMode.{LogMode}
use Rattle.tau_base.specs.Vectors.{AtMost}
use Rattle.tau_base.proofs.Lists.{get_behind, length_mapped, map_map}
use Rattle.tau_base.proofs.Vectors.{at_most_within, at_most_trans}
use Rattle.tau_model.specs.History.{Numbered, Act, Member, updates}
use Rattle.tau_model.specs.Logged.{Place, lv}
use Rattle.tau_model.specs.Reported.{reported_of}
use Rattle.tau_text.specs.declared.load.Workload.{Workload}
use Rattle.tau_record.specs.declared.entry.Entry.{Entry}
use Rattle.tau_record.specs.declared.entry.Entry.TheVariants.{Written, Command, Anchor, Catalogue, Epoch}
use Rattle.tau_record.specs.declared.entry.Placed.{Placed}
use Rattle.tau_scan.specs.declared.log.Log.{Log}
use Rattle.tau_scan.specs.Taken.{Kept, kept_as, kept_in, kept_from}
use Rattle.tau_epoch_laws.proofs.Contents.{AreStreams}
use Rattle.tau_epoch_laws.proofs.Parts.{in_either}
use Rattle.tau_epoch_laws.proofs.Records.{Stand}
use Rattle.tau_run.specs.Start.{Start, old_at}
use Rattle.tau_run.specs.RecoveredFacts.{WaitsWithin}
use Rattle.tau_run.specs.Run.{Committed, Run, ends, vector_of}
use Rattle.tau_run.proofs.Lists.{any_member}
use Rattle.tau_inspect.specs.declared.verdict.Check.TheVariants as check
use Rattle.tau_inspect.specs.Audit.{Case, acts, due, has_ack, has_record, nowhere, place_in, place_of, records, vector_in, IsWhole, Passes}
use Rattle.tau_inspect.proofs.Mapped.{reported_map}
use Rattle.tau_inspect_laws.specs.Laws.{IsLogOfRun, IsLongEnough, OrderFits}
use Rattle.tau_inspect_laws.proofs.Told.{plain_act, of_map, in_map, eq_is}
use Rattle.tau_inspect_laws.proofs.Fitting.{acts_in, its, held, elv_wide, logs_are, in_calls, one_call, acts_of_it, calls_of_it, call_of}
use Rattle.tau_inspect_laws.proofs.Listing.{reported_same, reported_at_ends}

-- ---- where records end

stand_low : (at end : ℕ) (ps : List Placed) → Stand at end ps → at ≤ end
stand_low at end [] h = omega (arith, h)
stand_low at end (p ∷ ps) h = (let rest = stand_low p.past end ps h.2 in let here = h.1 in omega (arith, here, rest))

kept_at : (j : ℕ) (p : Placed) (e : Entry) (r : Kept) → Member r (kept_as j p e) → (r.place.stream ≡ j) × (r.place.past ≡ p.past)
kept_at j p (Written number anchor dep writes) r (inl is) = (ap (λ (q : Kept). q.place.stream) (sym is), ap (λ (q : Kept). q.place.past) (sym is))
kept_at j p (Written number anchor dep writes) r (inr m) = absurd m
kept_at j p (Command number anchor dep call) r (inl is) = (ap (λ (q : Kept). q.place.stream) (sym is), ap (λ (q : Kept). q.place.past) (sym is))
kept_at j p (Command number anchor dep call) r (inr m) = absurd m
kept_at j p (Anchor lv') r m = absurd m
kept_at j p (Catalogue text) r m = absurd m
kept_at j p (Epoch number lv') r m = absurd m

kept_within : (j at end : ℕ) (ps : List Placed) (r : Kept) → Stand at end ps → Member r (kept_in j ps) → (r.place.stream ≡ j) × (r.place.past ≤ end)
kept_within j at end [] r h m = absurd m
kept_within j at end (p ∷ ps) r h m = elim (in_either r (kept_as j p p.entry) (kept_in j ps) m) [
  | inl here ↦ (let w = kept_at j p p.entry r here in let past = w.1 in let rest = stand_low p.past end ps h.2 in (w.0, omega (arith, past, rest)))
  | inr there ↦ kept_within j p.past end ps r h.2 there
]

all_within : (j : ℕ) (contents : List (List ℕ)) (streams : List (List Placed)) (r : Kept) → AreStreams contents streams → Member r (kept_from j streams) →
    (i : ℕ) × (r.place.stream ≡ j + i) × (r.place.past ≤ slice_index (map length contents) i)
all_within j [] [] r are m = absurd m
all_within j [] (ps ∷ streams) r are m = absurd are
all_within j (content ∷ contents) [] r are m = absurd are
all_within j (content ∷ contents) (ps ∷ streams) r are m = elim (in_either r (kept_in j ps) (kept_from (suc j) streams) m) [
  | inl here ↦ (let w = kept_within j 0 (length content) ps r are.0.stand here in let at = w.0 in (0, omega (arith, at), w.1))
  | inr there ↦ (let w = all_within (suc j) contents streams r are.1 there in let at = w.1 in (suc w.0, omega (arith, at), w.2))
]

-- ---- what is found by a number

place_found : (k : ℕ) (rs : List Kept) (p : Place) → has_record k rs ≡ true → ((r : Kept) → Member r rs → r.number ≡ k → r.place ≡ p) → place_in k rs ≡ p
place_found k [] p e all = absurd (both_ways false refl e)
place_found k (r ∷ rs) p e all = elim (cases_Bool (r.number == k)) [
  | inl t ↦ ap (λ (b : Bool). if b then r.place else place_in k rs) t ∙ all r (inl refl) (eq_is r.number k t)
  | inr f ↦ ap (λ (b : Bool). if b then r.place else place_in k rs) f ∙ place_found k rs p (later (r.number == k) f e) (λ q m. all q (inr m))
]
  where
    later : (b : Bool) → b ≡ false → (b || has_record k rs) ≡ true → has_record k rs ≡ true
    later true g h = absurd (both_ways true g refl)
    later false g h = h

vector_found : (k : ℕ) (as' : List (ℕ × List ℕ)) (v : List ℕ) → has_ack k as' ≡ true → ((a : ℕ × List ℕ) → Member a as' → a.0 ≡ k → a.1 ≡ v) → vector_in k as' ≡ v
vector_found k [] v e all = absurd (both_ways false refl e)
vector_found k (a ∷ as') v e all = elim (cases_Bool (a.0 == k)) [
  | inl t ↦ ap (λ (b : Bool). if b then a.1 else vector_in k as') t ∙ all a (inl refl) (eq_is a.0 k t)
  | inr f ↦ ap (λ (b : Bool). if b then a.1 else vector_in k as') f ∙ vector_found k as' v (later (a.0 == k) f e) (λ q m. all q (inr m))
]
  where
    later : (b : Bool) → b ≡ false → (b || has_ack k as') ≡ true → has_ack k as' ≡ true
    later true g h = absurd (both_ways true g refl)
    later false g h = h

-- ---- each element with that it is one

attached : {A : Type 0} (xs : List A) → List ((x : A) × Member x xs)
attached [] = []
attached (x ∷ xs) = (x, inl refl) ∷ map (λ w. (w.0, inr w.1)) (attached xs)

attached_are : {A B : Type 0} (f : A → B) (xs : List A) → map (λ (w : (x : A) × Member x xs). f w.0) (attached xs) ≡ map f xs
unfolding attached
attached_are f [] = refl
attached_are {A} {B} f (x ∷ xs) =
    ap (λ (l : List B). f x ∷ l) (map_map (λ (w : (z : A) × Member z (x ∷ xs)). f w.0) (λ (w : (z : A) × Member z xs). (w.0, inr w.1)) (attached xs) ∙ attached_are f xs)

pub index_is : (xs : List (List ℕ)) (j : ℕ) → slice_index (map length xs) j ≡ length (slice_index_or xs j [])
index_is [] j = refl
index_is (x ∷ xs) zero = refl
index_is (x ∷ xs) (suc j) = index_is xs j

-- ---- the order

module _ (n m : ℕ) (mode : LogMode) (load : Workload) (run : Run) (images : List (List ℕ)) (log : Log) (rows : List (Key × Value)) (o : IsLogOfRun n m mode load run images log) (long : IsLongEnough log.elv run)
    (whole : IsWhole (its n m mode load run images log rows o)) where
  abbrev c : Case
  c = its n m mode load run images log rows o

  abbrev did : List (Act Committed)
  did = acts_in mode load run

  abbrev Its : Type 0
  Its = (y : Act Committed) × Member y did

  called : (y : Act Committed) → Member y did → Member y.call run.calls
  called y t = in_calls n m mode load run images log rows o y t

  record_ends : (r : Kept) → Member r (records c) → r.place.past ≤ slice_index log.elv r.place.stream
  record_ends r t =
      let h = held n m mode load run images log rows o in
      let w = all_within 0 o.recovered.contents log.streams r h.streams t in
      let found = w.1 in
      let at : r.place.stream ≡ w.0 = omega (arith, found) in
      subst (λ (v : List ℕ). r.place.past ≤ slice_index v r.place.stream) (sym h.elv) (subst (λ (i : ℕ). r.place.past ≤ slice_index (map length o.recovered.contents) i) (sym at) w.2)

  -- the place of a record with a call's number is that of the call
  its_place : (y : Act Committed) → Member y did → (r : Kept) → Member r (records c) → r.number ≡ y.call.number → r.place ≡ y.call.place
  its_place y t r q e =
      let w = call_of n m mode load run images log rows o r q in
      let same : w.act.call ≡ y.call = one_call n m mode load run images log rows o w.act.call y.call (called w.act w.there) (called y t) (ap (λ (k : Kept). k.number) w.is ∙ e) in
      sym (ap (λ (k : Kept). k.place) w.is) ∙ ap (λ (d : Committed). d.place) same

  told_as : (y : Act Committed) → Member y did → (b : Bool) → updates y.effect ≡ b → (if b then has_record y.call.number (records c) else has_ack y.call.number run.acks) ≡ true
  told_as y t b e =
      ap (λ (u : Bool). if u then has_record y.call.number (records c) else has_ack y.call.number run.acks) (sym e)
      ∙ whole (plain_act y) (subst (Member (plain_act y)) (sym (acts_of_it n m mode load run images log rows o)) (in_map plain_act did y t))

  writer_place : (y : Act Committed) → Member y did → updates y.effect ≡ true → place_of c (plain_act y) ≡ y.call.place
  writer_place y t up =
      ap (λ (u : Bool). if u then place_in y.call.number (records c) else nowhere (vector_in y.call.number run.acks)) up
      ∙ place_found y.call.number (records c) y.call.place (told_as y t true up) (λ r q e. its_place y t r q e)

  reader_vector : (y : Act Committed) → Member y did → updates y.effect ≡ false → (place_of c (plain_act y)).dep ≡ y.call.place.dep
  reader_vector y t no' =
      ap (λ (u : Bool). (if u then place_in y.call.number (records c) else nowhere (vector_in y.call.number run.acks)).dep) no'
      ∙ vector_found y.call.number run.acks y.call.place.dep (told_as y t false no') (λ a q e.
      let w = o.history.acked a q in
      let same : w.0 ≡ y.call = one_call n m mode load run images log rows o w.0 y.call w.1 (called y t) (w.2 ∙ e) in
      sym w.3 ∙ ap vector_of same ∙ ap (λ (b : Bool). lv b y.call.place) (logs_are n m mode load run images log rows o y t ∙ no'))

  same_dep : (w : Its) → w.0.call.place.dep ≡ (place_of c (plain_act w.0)).dep
  same_dep w = elim (cases_Bool (updates w.0.effect)) [
    | inl up ↦ sym (ap (λ (p : Place). p.dep) (writer_place w.0 w.1 up))
    | inr no' ↦ sym (reader_vector w.0 w.1 no')
  ]

  -- what a call waits for is within the log
  within : WaitsWithin log.elv run → (w : Its) → AtMost w.0.call.place.dep log.elv
  within waits w j = elim (waits w.0.call (called w.0 w.1) j) [
    | inl le ↦ le
    | inr d ↦
        let y = of_map (λ (z : Act Committed). z.call) did d.0 (subst (Member d.0) (calls_of_it n m mode load run images log rows o) d.1) in
        let up : updates y.0.effect ≡ true = sym (logs_are n m mode load run images log rows o y.0 y.1) ∙ ap (λ (z : Committed). z.logs) y.2 ∙ d.2 in
        let r = any_member (λ (k : Kept). k.number == y.0.call.number) (records c) (told_as y.0 y.1 true up) in
        let place : r.0.place ≡ d.0.place = its_place y.0 y.1 r.0 r.1 (eq_is r.0.number y.0.call.number r.2) ∙ ap (λ (z : Committed). z.place) y.2 in
        let low : r.0.place.past ≤ slice_index log.elv j =
        subst (λ (i : ℕ). r.0.place.past ≤ slice_index log.elv i) (ap (λ (p : Place). p.stream) place ∙ d.3) (record_ends r.0 r.1) in
        subst (λ (k : ℕ). k ≤ slice_index log.elv j) (ap (λ (p : Place). p.past) place ∙ d.4) low
  ]

  ends_wide : length (ends run) ≡ length log.elv
  ends_wide = length_mapped length run.contents ∙ o.history.streams ∙ sym (elv_wide n m mode load run images log rows o)

  -- the log is not longer than what the streams had at the end
  shorter : AtMost log.elv (ends run)
  shorter = at_most_within log.elv (ends run) (λ j lt.
      let h = held n m mode load run images log rows o in
      let low : j < n = (let e = elv_wide n m mode load run images log rows o in omega (arith, e, lt)) in
      let here : slice_index log.elv j ≡ length (slice_index_or o.recovered.contents j []) = ap (λ (v : List ℕ). slice_index v j) h.elv ∙ index_is o.recovered.contents j in
      let there : slice_index (ends run) j ≡ length (slice_index_or run.contents j []) = index_is run.contents j in
      elim (o.recovered.fronts j low) [
        | inl old ↦ (let none : length (slice_index_or o.recovered.contents j []) ≡ 0 = ap length (old ∙ nothing j) in omega (arith, here, there, none))
        | inr part ↦ (let cut = ap length part.2 in let k = length-take part.0 (slice_index_or run.contents j []) in omega (arith, here, there, cut, k))
      ])
    where
      empty : (k j : ℕ) → slice_index_or {A = List ℕ} (replicate k []) j [] ≡ []
      empty zero j = refl
      empty (suc k) zero = refl
      empty (suc k) (suc j) = empty k j

      nothing : (j : ℕ) → old_at run.start j ≡ []
      nothing j = ap (λ (s : Start). old_at s j) o.fresh ∙ empty n j

  abbrev all : List Its
  all = attached did

  abbrev theirs : List Its
  theirs = reported_of (λ (w : Its). place_of c (plain_act w.0)) (λ w. updates w.0.effect) (λ w. w.0.call.number) log.elv all

  same_report : reported_of (λ (w : Its). w.0.call.place) (λ w. updates w.0.effect) (λ w. w.0.call.number) (ends run) all ≡ theirs
  same_report = elim long [
    | inl same ↦
        ap (λ (e : List ℕ). reported_of (λ (w : Its). w.0.call.place) (λ w. updates w.0.effect) (λ w. w.0.call.number) e all) (sym same)
        ∙ reported_at_ends (λ (w : Its). w.0.call.place) (λ w. place_of c (plain_act w.0)) (λ w. updates w.0.effect) (λ w. w.0.call.number) same_dep (λ w up. sym (writer_place w.0 w.1 up)) log.elv all
    | inr waits ↦ reported_same (λ (w : Its). w.0.call.place) (λ w. place_of c (plain_act w.0)) (λ w. updates w.0.effect) (λ w. w.0.call.number) same_dep (λ w up. sym (writer_place w.0 w.1 up))
        (ends run) log.elv ends_wide (λ w. at_most_trans w.0.call.place.dep log.elv (ends run) (within waits w) shorter) (within waits) all
  ]

  calls_are : run.calls ≡ map (λ (w : Its). w.0.call) all
  calls_are = calls_of_it n m mode load run images log rows o ∙ sym (attached_are (λ (y : Act Committed). y.call) did)

  calls_listed : run.calls ≡ map (λ (w : Its). w.0.call) theirs
  calls_listed =
      let ups : (λ (w : Its). w.0.call.logs) ≡ (λ (w : Its). updates w.0.effect) = fun_ext (λ w. logs_are n m mode load run images log rows o w.0 w.1) in
      o.history.order
      ∙ ap (reported_of (λ (d : Committed). d.place) (λ d. d.logs) (λ d. d.number) (ends run)) calls_are
      ∙ sym (reported_map (λ (w : Its). w.0.call) (λ (d : Committed). d.place) (λ d. d.logs) (λ d. d.number) (ends run) all)
      ∙ ap (λ (u : Its → Bool). map (λ (w : Its). w.0.call) (reported_of (λ (w : Its). w.0.call.place) u (λ w. w.0.call.number) (ends run) all)) ups
      ∙ ap (map (λ (w : Its). w.0.call)) same_report

  acts_listed : reported_of (place_of c) (λ x. updates x.effect) (λ x. x.call.number) log.elv (acts c) ≡ map (λ (w : Its). plain_act w.0) theirs
  acts_listed =
      ap (reported_of (place_of c) (λ x. updates x.effect) (λ x. x.call.number) log.elv) (acts_of_it n m mode load run images log rows o ∙ sym (attached_are plain_act did))
      ∙ sym (reported_map (λ (w : Its). plain_act w.0) (place_of c) (λ x. updates x.effect) (λ x. x.call.number) log.elv all)

  due_is : due c ≡ map (λ (d : Committed). d.number) run.calls
  due_is =
      ap (map (λ (x : Act Numbered). x.call.number)) acts_listed
      ∙ map_map (λ (x : Act Numbered). x.call.number) (λ (w : Its). plain_act w.0) theirs
      ∙ sym (map_map (λ (d : Committed). d.number) (λ (w : Its). w.0.call) theirs)
      ∙ ap (map (λ (d : Committed). d.number)) (sym calls_listed)

  pub order_passes : Passes c check.Order
  order_passes front back k e =
      let zero_more : length front + 0 ≡ length front = omega arith in
      ap (λ (l : List ℕ). slice_get l (length front)) (due_is ∙ e) ∙ ap (slice_get (front ++ k ∷ back)) (sym zero_more) ∙ get_behind front (k ∷ back) 0

pub order_fits : OrderFits
order_fits n m mode load run images log rows o long whole = order_passes n m mode load run images log rows o long whole
