-- One stream of a run: its content, whole or cut after any of its items, is read.
use Rattle.std.proofs.Common.{ℕ, zero, suc, ◌+◌, ◌≤◌, ◌<◌, true, ◌≡◌, ◌⊎◌, inl, inr, List, [], ◌∷◌, ◌++◌, map, length, take, drop, refl, sym, ap, subst, ◌∙◌, arith, append_assoc, slice_index}
use Rattle.std.specs.Prelude.{Some, None, Ok, ◌&&◌, ◌==◌, slice_index_or}
use Rattle.std.specs.List.{filter, flat_map}
use Rattle.std.proofs.Math.Seq.{take-append_seam, take-append-add, take-length}
use Rattle.std.proofs.lemmas.List.{append-nil, length-append, take-append-drop}
use Rattle.std.proofs.lemmas.Grind.{flat_map-append}
use Rattle.std.proofs.lemmas.Bool.{and_parts, eqb-true}
use Rattle.tau_base.specs.declared.format.Format.{Format}
use Rattle.tau_base.specs.Modes.{format_of, most_streams}
use Rattle.tau_model.specs.History.{Act, Member, updates}
use Rattle.tau_model.proofs.Logged.{member_filtered}
use Rattle.tau_machine.specs.Hands.{Txn}
use Rattle.tau_machine.specs.Pieces.{Chain, records_in, anchors_in, NameTheirs, records_of_stream}
use Rattle.tau_machine.specs.State.{Item, Record, Anchor, Core}
use Rattle.tau_machine.proofs.Pieces.{chain_append}
use Rattle.tau_text.specs.declared.load.Workload.{Workload}
use Rattle.tau_text.specs.declared.load.Declarations.{Declarations}
use Rattle.tau_text.specs.Canonical.{declarations_text}
use Rattle.tau_record.specs.declared.entry.Placed.{Placed}
use Rattle.tau_record.specs.Record.{named, base_of, spelling}
use Rattle.tau_record.specs.Content.{IsContent, anchors_of}
use Rattle.tau_txn.specs.Record.{entry_of}
use Rattle.tau_core.specs.declared.state.Load.{Load}
use Rattle.tau_core.specs.Pieces.{Names, Spelled}
use Rattle.tau_scan.specs.Reading.{or_none, declared_by, is_declared, first_undeclared, undeclared, records_of, catalogue_of as text_in, IsReading}
use Rattle.tau_scan.specs.Taken.{Kept, kept_as, kept_in}
use Rattle.tau_run.specs.Start.{Start, old_at, opened_at, IsStart}
use Rattle.tau_run.specs.CoreRun.{IsLoadOn, IsGiven}
use Rattle.tau_run.proofs.History.{index_mapped}
use Rattle.tau_base.specs.declared.value.LogMode.{LogMode}
use Rattle.tau_base.specs.Vectors.{AtMost}
use Rattle.tau_machine.specs.Invariant.{Invariant}
use Rattle.tau_core.specs.View.{setting_of}
use Rattle.tau_run.proofs.Begins.{streams_wide, given_placed, given_kept, first_kept, read_at, empty_or_declared, opened_content, opened_text, opened_declared, opened_anchors, opened_long, old_within}
use Rattle.tau_run.proofs.Cuts.{ends_by, Taken, chain_none, chain_take}
use Rattle.tau_run.proofs.Spelled.{entry_in, placed_in, AreOf, spelled_long}
use Rattle.tau_run.proofs.Reading.{kept_of, AreDeclared, IsCatalogue, kept_items, items_declared, declared_append, content_read, read_again}
use Rattle.tau_base.proofs.Lists.{got_or, get_behind}

-- ---- the bytes of items are a function of them

abbrev pub bytes_in : Load → List (List ℕ) → Item → List ℕ
bytes_in l anchors i = spelling (format_of l.mode) (named l.streams anchors) (entry_in l.mode i)

base_named : (l : Load) (j : ℕ) (olds anchors : List (List ℕ)) (number : ℕ) (base : List ℕ) → slice_index l.opening.anchors.items j ≡ length olds → Names l j anchors number base →
    base_of (named l.streams (olds ++ anchors)) number ≡ base
base_named l j olds anchors number base anchored (inl p) = ap (base_of (named l.streams (olds ++ anchors))) p.0 ∙ sym p.1
base_named l j olds anchors number base anchored (inr p) =
    let at : number ≡ suc (length olds + p.0) = (let e = p.1 in omega (arith, e, anchored)) in
    ap (base_of (named l.streams (olds ++ anchors))) at ∙ got_or (olds ++ anchors) (length olds + p.0) base [] (get_behind olds anchors p.0 ∙ p.2)

-- where the stream has these old anchors
pub bytes_are : (l : Load) (anchors : ℕ → List (List ℕ)) (j : ℕ) (olds : List (List ℕ)) (items : List Item) (bytes : List ℕ) → slice_index l.opening.anchors.items j ≡ length olds → AreOf j items → Spelled l anchors items bytes →
    bytes ≡ flat_map (bytes_in l (olds ++ anchors j)) items
bytes_are l anchors j olds [] bytes anchored of h = h
bytes_are l anchors j olds (Record t ∷ items) bytes anchored of h =
    let own : t.call.place.stream ≡ j = of t (inl refl) in
    let all : List (List ℕ) = olds ++ anchors j in
    let theirs : Names l j (anchors j) t.call.anchor h.4.base = subst (λ k. Names l k (anchors k) t.call.anchor h.4.base) own h.4.named in
    let first : h.0 ≡ bytes_in l all (Record t) = (h.4.spelled (named l.streams all) (base_named l j olds (anchors j) t.call.anchor h.4.base anchored theirs)).text in
    let rest = bytes_are l anchors j olds items h.1 anchored (λ u m. of u (inr m)) h.5 in
    h.2 ∙ ap (λ (x : List ℕ). x ++ h.1) first ∙ ap (λ (x : List ℕ). bytes_in l all (Record t) ++ x) rest
bytes_are l anchors j olds (Anchor x y v ∷ items) bytes anchored of h =
    let all : List (List ℕ) = olds ++ anchors j in
    let first : h.0 ≡ bytes_in l all (Anchor x y v) = (h.4 (named l.streams all)).text in
    let rest = bytes_are l anchors j olds items h.1 anchored of h.5 in
    h.2 ∙ ap (λ (z : List ℕ). z ++ h.1) first ∙ ap (λ (z : List ℕ). bytes_in l all (Anchor x y v) ++ z) rest

flat_front : {A : Type 0} (f : A → List ℕ) (items : List A) (i : ℕ) → (k : ℕ) × (flat_map f (take i items) ≡ take k (flat_map f items))
flat_front {A} f items i =
    let front : List A = take i items in
    let back : List A = drop i items in
    let whole : flat_map f items ≡ flat_map f front ++ flat_map f back = ap (flat_map f) (sym (take-append-drop i items)) ∙ flat_map-append f front back in
    (length (flat_map f front), sym (take-append_seam (flat_map f front) (flat_map f back)) ∙ ap (take (length (flat_map f front))) (sym whole))

-- ---- parts of lists of items

anchors_front : (items : List Item) (i : ℕ) → (more : List (List ℕ)) × (anchors_in items ≡ anchors_in (take i items) ++ more)
anchors_front items zero = (anchors_in items, refl)
anchors_front [] (suc i) = ([], refl)
anchors_front (Record t ∷ items) (suc i) = anchors_front items i
anchors_front (Anchor x y v ∷ items) (suc i) = let q = anchors_front items i in (q.0, ap (λ (l : List (List ℕ)). v ∷ l) q.1)

names_front : (n : ℕ) (before : List (List ℕ)) (items : List Item) (i : ℕ) → NameTheirs n before items → NameTheirs n before (take i items)
names_front n before items zero h = tt
names_front n before [] (suc i) h = tt
names_front n before (Record t ∷ items) (suc i) h = (h.0, names_front n before items i h.1)
names_front n before (Anchor x y v ∷ items) (suc i) h = names_front n (before ++ v ∷ []) items i h

take_map : {A B : Type 0} (f : A → B) (xs : List A) (k : ℕ) → map f (take k xs) ≡ take k (map f xs)
take_map f xs zero = refl
take_map f [] (suc k) = refl
take_map {B = B} f (x ∷ xs) (suc k) = ap (λ (l : List B). f x ∷ l) (take_map f xs k)

-- ---- a stream of a run

-- the committed calls name what is declared
pub record AreSound (l : Load) (load : Workload) (K : List (Act Txn)) : Type 0 where
  pub catalogue : IsCatalogue load
  pub declared : (t : Act Txn) → Member t K → updates t.effect ≡ true → is_declared load.declarations (entry_of l.mode t) ≡ true

-- a course whose calls name what is declared
pub record IsDeclaredCourse (n m : ℕ) (mode : LogMode) (load : Workload) (start : Start) (l : Load) (K : List (Act Txn)) (s : Core) : Type 0 where
  pub room : n ≤ most_streams (format_of l.mode)
  pub begins : IsStart (format_of l.mode) n load start
  pub load_is : IsLoadOn n m mode load start l
  pub sound : AreSound l load K
  pub inv : Invariant (setting_of l) K s
  pub waits : (t : Act Txn) → Member t K → updates t.effect ≡ true → AtMost start.log.elv t.call.place.dep

-- each stream was opened with the anchors that it had
pub anchored : (n m : ℕ) (mode : LogMode) (load : Workload) (start : Start) (l : Load) → IsStart (format_of l.mode) n load start → IsLoadOn n m mode load start l → (j : ℕ) → j < n →
    slice_index l.opening.anchors.items j ≡ length (anchors_of (slice_index_or start.log.streams j []))
anchored n m mode load start l b at j lt =
    ap (λ (v : List ℕ). slice_index v j) at.opening.anchors
    ∙ index_mapped (λ (ps : List Placed). length (anchors_of ps)) start.log.streams [] j (let e = streams_wide (format_of l.mode) n load start b in omega (arith, e, lt))

-- What a content of stream j has after the old records: nothing, and it is the old one; or what the stream is given first,
-- and these items.
abbrev pub IsMore : Load → Workload → Start → ℕ → List ℕ → List Placed → Type 0
IsMore l load start j content more = ((more ≡ []) × (content ≡ old_at start j))
    ⊎ ((items : List Item) × (more ≡ given_placed load start (old_at start j) ++ map (placed_in l.mode) items) × (length (opened_at load start j) ≤ length content))

-- what is read of a content of stream j: the old records, and of those after them the ones of calls are those that end in
-- it, the first of the stream
pub record IsRead (l : Load) (load : Workload) (start : Start) (K : List (Act Txn)) (n j : ℕ) (content : List ℕ) (more : List Placed) : Type 0 where
  pub reads : records_of (format_of l.mode) n content ≡ Ok (slice_index_or start.log.streams j [] ++ more)
  pub kept : kept_in j more ≡ map (kept_of l.mode) (filter (ends_by (length content)) (records_of_stream j K))
  pub count : ℕ
  pub firsts : kept_in j more ≡ take count (map (kept_of l.mode) (records_of_stream j K))
  pub text : (slice_index_or start.log.streams j [] ++ more ≡ []) ⊎ (text_in (slice_index_or start.log.streams j [] ++ more) ≡ Some (declarations_text load.declarations))
  pub is_more : IsMore l load start j content more
  pub reading : IsReading (format_of l.mode) n content (slice_index_or start.log.streams j [] ++ more)

pub kept_append : (j : ℕ) (xs ys : List Placed) → kept_in j (xs ++ ys) ≡ kept_in j xs ++ kept_in j ys
kept_append j [] ys = refl
kept_append j (x ∷ xs) ys = ap (λ (ks : List Kept). kept_as j x x.entry ++ ks) (kept_append j xs ys) ∙ sym (append_assoc (kept_as j x x.entry) (kept_in j xs) (kept_in j ys))

-- items that stand from here on start at or after it
record_low : (a b : ℕ) (items : List Item) → Chain a items b → (t : Act Txn) → Member t (records_in items) → a ≤ t.call.place.start
record_low a b [] h t m = absurd m
record_low a b (Record u ∷ items) h t (inl e) = let here = h.0 in let same = ap (λ (x : Act Txn). x.call.place.start) e in omega (arith, here, same)
record_low a b (Record u ∷ items) h t (inr m) = let rest = record_low u.call.place.past b items h.2 t m in let lt = h.1 in omega (arith, rest, lt)
record_low a b (Anchor x y v ∷ items) h t m = let rest = record_low y b items h.2 t m in let lt = h.1 in omega (arith, rest, lt)

module _ (n : ℕ) (l : Load) (load : Workload) (start : Start) (b : IsStart (format_of l.mode) n load start) (K : List (Act Txn)) (s : Core) (j : ℕ) (lt : j < n) (room : n ≤ most_streams (format_of l.mode)) (width : l.streams ≡ n)
    (anchored : slice_index l.opening.anchors.items j ≡ length (anchors_of (slice_index_or start.log.streams j []))) (sound : AreSound l load K) (content : List ℕ) (g : IsGiven l K s j (opened_at load start j) content) where
  abbrev pub items : List Item
  items = (s.streams j).moved ++ g.waiting

  abbrev anchors : ℕ → List (List ℕ)
  anchors i = (s.streams i).anchors

  abbrev f : Format
  f = format_of l.mode

  abbrev olds : List Placed
  olds = slice_index_or start.log.streams j []

  abbrev first : List ℕ
  first = opened_at load start j

  abbrev given : List Placed
  given = given_placed load start (old_at start j)

  chain : Chain (length first) items (slice_index s.ends j)
  chain = chain_append (length first) (slice_index s.gathered j) (slice_index s.ends j) (s.streams j).moved g.waiting g.moved g.rest

  -- the record of a call stands after what was there
  pub stands_after : (t : Act Txn) → Member t (records_of_stream j K) → length first ≤ t.call.place.start
  stands_after t m = record_low (length first) (slice_index s.ends j) items chain t (subst (λ (ts : List (Act Txn)). Member t ts) (sym g.records) m)

  of_stream : (t : Act Txn) → Member t (records_in items) → Member t K × (updates t.effect ≡ true) × (t.call.place.stream ≡ j)
  of_stream t m =
      let h = member_filtered (λ (u : Act Txn). updates u.effect && u.call.place.stream == j) t K (subst (λ (ts : List (Act Txn)). Member t ts) g.records m) in
      let q = and_parts (updates t.effect) (t.call.place.stream == j) h.1 in
      (h.0, q.0, eqb-true t.call.place.stream j q.1)

  front_member : (i : ℕ) (q : Taken (length first) (slice_index s.ends j) items i) (t : Act Txn) → Member t (records_in (take i items)) → Member t (records_in items)
  front_member i q t m = (member_filtered (ends_by q.end) t (records_in items) (subst (λ (ts : List (Act Txn)). Member t ts) q.records m)).0

  -- cut after any of its items
  front_is : (i : ℕ) (bytes : List ℕ) → Spelled l anchors (take i items) bytes → IsRead l load start K n j (first ++ bytes) (given ++ map (placed_in l.mode) (take i items))
  front_is i bytes spelled =
      let q = chain_take (length first) (slice_index s.ends j) items i chain in
      let more = anchors_front items i in
      let of : AreOf j (take i items) = λ t m. (of_stream t (front_member i q t m)).2 in
      let are : AreDeclared load.declarations l.mode (records_in (take i items)) = λ t m. (let h = of_stream t (front_member i q t m) in sound.declared t h.0 h.1) in
      let long : length first + length bytes ≡ q.end = spelled_long l anchors (length first) q.end (take i items) bytes spelled q.chain in
      let size : length (first ++ bytes) ≡ q.end = length-append first bytes ∙ long in
      let placed_items : List Placed = map (placed_in l.mode) (take i items) in
      let whole : (olds ++ given) ++ placed_items ≡ olds ++ (given ++ placed_items) = append_assoc olds given placed_items in
      let content_is : IsContent f n (first ++ bytes) ((olds ++ given) ++ placed_items) =
      content_read l anchors n j q.end more.0 first (olds ++ given) (take i items) bytes width (opened_content f n load start b sound.catalogue j lt) (anchored ∙ sym (ap length (opened_anchors f n load start b j))) spelled q.chain
      (opened_long f n load start b j lt) of (names_front (slice_index l.opening.anchors.items j) [] items i g.named) (sym g.anchors ∙ more.1) in
      let text : text_in ((olds ++ given) ++ placed_items) ≡ Some (declarations_text load.declarations) =
      first_kept (olds ++ given) placed_items (declarations_text load.declarations) (opened_text f n load start b sound.catalogue j lt) in
      let named_all : undeclared ((olds ++ given) ++ placed_items) ≡ None =
      subst (λ (d : Declarations). first_undeclared d ((olds ++ given) ++ placed_items) ≡ None) (sym (ap declared_by text ∙ ap or_none sound.catalogue.read))
      (declared_append load.declarations (olds ++ given) placed_items (opened_declared f n load start b sound.catalogue j lt) (items_declared load.declarations l.mode (take i items) are)) in
      let reads = read_again f n (first ++ bytes) ((olds ++ given) ++ placed_items) room content_is named_all in
      let kept : kept_in j (given ++ placed_items) ≡ map (kept_of l.mode) (records_in (take i items)) =
      kept_append j given placed_items ∙ ap (λ (ks : List Kept). ks ++ kept_in j placed_items) (given_kept j load start (old_at start j)) ∙ kept_items l.mode j (take i items) of in
      record {
        reads = subst (λ (ps : List Placed). records_of f n (first ++ bytes) ≡ Ok ps) whole reads;
        kept = kept ∙ ap (map (kept_of l.mode)) (q.records ∙ ap (filter (ends_by q.end)) g.records) ∙ ap (λ (c : ℕ). map (kept_of l.mode) (filter (ends_by c) (records_of_stream j K))) (sym size);
        count = q.count;
        firsts = kept ∙ ap (map (kept_of l.mode)) (q.firsts ∙ ap (take q.count) g.records) ∙ take_map (kept_of l.mode) (records_of_stream j K) q.count;
        text = inr (subst (λ (ps : List Placed). text_in ps ≡ Some (declarations_text load.declarations)) whole text);
        is_more = inr (take i items, refl, (let sum = length-append first bytes in omega (arith, sum)));
        reading = subst (λ (ps : List Placed). IsReading f n (first ++ bytes) ps) whole (record { spelled = content_is; declared = named_all });
      }

  pub front_read : (i : ℕ) (bytes : List ℕ) → Spelled l anchors (take i items) bytes → (more : List Placed) × IsRead l load start K n j (first ++ bytes) more
  front_read i bytes spelled = (given ++ map (placed_in l.mode) (take i items), front_is i bytes spelled)

  -- and where it has what was there
  pub old_read : IsRead l load start K n j (old_at start j) []
  old_read =
      let same : olds ++ [] ≡ olds = append-nil olds in
      let r = read_at f n load start b j lt in
      record {
        reads = subst (λ (ps : List Placed). records_of f n (old_at start j) ≡ Ok ps) (sym same) (read_again f n (old_at start j) olds room r.spelled r.declared);
        kept = ap (map (kept_of l.mode)) (sym (chain_none (length first) (slice_index s.ends j) (length (old_at start j)) items chain (old_within f n load start b j)) ∙ ap (filter (ends_by (length (old_at start j)))) g.records);
        count = 0;
        firsts = refl;
        text = subst (λ (ps : List Placed). (ps ≡ []) ⊎ (text_in ps ≡ Some (declarations_text load.declarations))) (sym same) (elim (empty_or_declared f n load start b j lt) [ inl e ↦ inl e.1 | inr w ↦ inr w.1 ]);
        is_more = inl (refl, refl);
        reading = subst (λ (ps : List Placed). IsReading f n (old_at start j) ps) (sym same) r;
      }

  -- the whole of it
  whole_is : IsRead l load start K n j content (given ++ map (placed_in l.mode) items)
  whole_is =
      let all : take (length items) items ≡ items = take-length items in
      let h = front_is (length items) g.bytes (subst (λ (is : List Item). Spelled l anchors is g.bytes) (sym all) g.spelled) in
      subst (λ (c : List ℕ). IsRead l load start K n j c (given ++ map (placed_in l.mode) items)) (sym g.is) (subst (λ (is : List Item). IsRead l load start K n j (first ++ g.bytes) (given ++ map (placed_in l.mode) is)) all h)

  pub whole_records : records_of f n content ≡ Ok (olds ++ (given ++ map (placed_in l.mode) items))
  whole_records = whole_is.reads

  pub whole_read : (more : List Placed) × IsRead l load start K n j content more × (kept_in j more ≡ map (kept_of l.mode) (records_of_stream j K))
  whole_read = (
    given ++ map (placed_in l.mode) items,
    whole_is,
    kept_append j given (map (placed_in l.mode) items) ∙ ap (λ (ks : List Kept). ks ++ kept_in j (map (placed_in l.mode) items)) (given_kept j load start (old_at start j))
        ∙ kept_items l.mode j items (λ t m. (of_stream t m).2) ∙ ap (map (kept_of l.mode)) g.records,
  )

  -- a content cut after any item is a first part of it
  pub front_first : (i : ℕ) (bytes : List ℕ) → Spelled l anchors (take i items) bytes → (k : ℕ) × (length first ≤ k) × (first ++ bytes ≡ take k content)
  front_first i bytes spelled =
      let q = chain_take (length first) (slice_index s.ends j) items i chain in
      let of : AreOf j (take i items) = λ t m. (of_stream t (front_member i q t m)).2 in
      let all : List (List ℕ) = anchors_of olds ++ anchors j in
      let own : bytes ≡ flat_map (bytes_in l all) (take i items) = bytes_are l anchors j (anchors_of olds) (take i items) bytes anchored of spelled in
      let whole : g.bytes ≡ flat_map (bytes_in l all) items = bytes_are l anchors j (anchors_of olds) items g.bytes anchored (λ t m. (of_stream t m).2) g.spelled in
      let e = flat_front (bytes_in l all) items i in
      let part : bytes ≡ take e.0 g.bytes = own ∙ e.1 ∙ ap (take e.0) (sym whole) in (
        length first + e.0,
        omega arith,
        ap (λ (z : List ℕ). first ++ z) part ∙ sym (take-append-add first g.bytes e.0) ∙ ap (take (length first + e.0)) (sym g.is),
      )
