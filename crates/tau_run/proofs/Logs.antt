-- The log of the contents of all streams, which goes on from the old one.
use Rattle.std.proofs.Common.{ℕ, suc, ◌≤◌, ◌<◌, true, ◌≡◌, ◌⊎◌, inl, inr, List, [], ◌∷◌, ◌++◌, map, length, refl, sym, ap, subst, ◌∙◌, arith, slice_index}
use Rattle.std.specs.Prelude.{Option, Some, None, Result, Ok, slice_get, slice_index_or}
use Rattle.std.specs.List.{filter, AllZip}
use Rattle.std.proofs.lemmas.Option.{get_or_from_slice_get}
use Rattle.tau_base.specs.Modes.{format_of}
use Rattle.tau_base.specs.Vectors.{AtMost, covers}
use Rattle.tau_base.proofs.Vectors.{at_most_within}
use Rattle.tau_model.specs.History.{Act, Member, updates}
use Rattle.tau_model.proofs.Orders.{member_front}
use Rattle.tau_machine.specs.Hands.{Txn}
use Rattle.tau_machine.specs.Pieces.{records_of_stream}
use Rattle.tau_machine.specs.Reports.{in_turn}
use Rattle.tau_machine.specs.State.{Core, Item}
use Rattle.tau_machine.specs.Invariant.{Invariant}
use Rattle.tau_text.specs.declared.load.Workload.{Workload}
use Rattle.tau_text.specs.declared.load.Declarations.{Declarations}
use Rattle.tau_text.specs.Canonical.{declarations_text}
use Rattle.tau_record.specs.declared.entry.Placed.{Placed}
use Rattle.tau_record.specs.declared.fault.RecordFault.{RecordFault}
use Rattle.tau_record.specs.Content.{last_epoch}
use Rattle.tau_core.specs.declared.state.Load.{Load}
use Rattle.tau_core.specs.View.{setting_of}
use Rattle.tau_epoch.specs.Epochs.{Mark}
use Rattle.tau_scan.specs.declared.log.Log.{Log}
use Rattle.tau_scan.specs.declared.fault.LogFault.{LogFault}
use Rattle.tau_scan.specs.Reading.{◌>>=◌, unless, recorded, records_of, streams_of, catalogue_in, declared_in, epoch_fault, declared_by, none_declared, or_none, catalogue_of as text_in, log_of_contents, IsReading}
use Rattle.tau_scan.specs.Epochs.{marks_in, marks_from, judge_of}
use Rattle.tau_scan.specs.Taken.{Kept, kept_in, taken_in}
use Rattle.tau_scan.proofs.Listed.{stream_plain}
use Rattle.tau_scan.proofs.Marks.{none_second}
use Rattle.tau_scan.proofs.Streams.{map_get}
use Rattle.tau_epoch_laws.specs.Continues.{none_in, NextEpochHas, Continues}
use Rattle.tau_epoch_laws.proofs.Grown.{marks_append, mark_in, none_or_some}
use Rattle.tau_epoch_laws.proofs.Judging.{Agree, judging_none}
use Rattle.tau_epoch_laws.proofs.Parts.{in_either, member_of}
use Rattle.tau_epoch_laws.proofs.Taken.{taken_append}
use Rattle.tau_run.specs.Start.{Start, old_at, IsStart}
use Rattle.tau_run.proofs.Begins.{held, streams_wide, elv_wide, elv_at, number_low, last_none, old_within, none_at, given_placed, given_kept, given_taken, given_last, given_mark, own_mark, own_there}
use Rattle.tau_run.proofs.Cuts.{ends_by}
use Rattle.tau_run.proofs.Each.{EachOk, each_ok, one_catalogue}
use Rattle.tau_run.proofs.Marks.{agreed, HasGrown, grown_there, marks_among, marks_of_one, none_of_each, some_stream, news_turn, taken_either, news_taken}
use Rattle.tau_run.proofs.Reading.{kept_of, no_marks_of}
use Rattle.tau_run.proofs.Spelled.{placed_in}
use Rattle.tau_run.proofs.Streams.{AreSound, IsMore, IsRead, kept_append}
use Rattle.tau_run.proofs.Taken.{IsLogOf}
use Rattle.tau_base.proofs.Lists.{some_at, same_list, got_or, got_within, got_mapped, length_mapped}

pub length_at : (contents : List (List ℕ)) (j : ℕ) (content : List ℕ) → slice_get contents j ≡ Some content → slice_index (map length contents) j ≡ length content
length_at contents j content e = get_or_from_slice_get (map length contents) j (length content) 0 (map_get length contents j content e)

-- contents of which each was read make a log
pub record LogOf (l : Load) (load : Workload) (start : Start) (K : List (Act Txn)) (s : Core) (inv : Invariant (setting_of l) K s) (n : ℕ) (width : l.streams ≡ n) (contents : List (List ℕ)) : Type 0 where
  pub log : Log
  pub reads : log_of_contents (format_of l.mode) contents ≡ Ok log
  pub elv : log.elv ≡ map length contents
  pub more : List (List Placed)
  pub goes_on : Continues start.log more log
  pub marks : (m : Mark) → Member m (marks_from more) → (m ≡ own_mark start) × (1 ≤ start.epoch)
  pub long : length log.streams ≡ n
  pub is : IsLogOf (setting_of l) K s inv l.mode n width start log more
  pub all : (j : ℕ) (content : List ℕ) → slice_get contents j ≡ Some content →
      (ms : List Placed) × (slice_get log.streams j ≡ Some (slice_index_or start.log.streams j [] ++ ms)) × IsRead l load start K n j content ms
  pub declared : none_in more ⊎ (log.declarations ≡ load.declarations)
  pub read : AllZip (IsReading (format_of l.mode) n) contents log.streams
  pub catalogue : none_in log.streams ⊎ (catalogue_in log.streams ≡ Ok (Some (declarations_text load.declarations)))

-- lists that stand in a relation place by place
zip_of : {A B : Type 0} (R : A → B → Type 0) (xs : List A) (ys : List B) → length ys ≡ length xs → ((j : ℕ) (x : A) (y : B) → slice_get xs j ≡ Some x → slice_get ys j ≡ Some y → R x y) → AllZip R xs ys
zip_of R [] [] long all = tt
zip_of R [] (y ∷ ys) long all = absurd (omega (arith, long))
zip_of R (x ∷ xs) [] long all = absurd (omega (arith, long))
zip_of R (x ∷ xs) (y ∷ ys) long all = (all 0 x y refl refl, zip_of R xs ys (omega (arith, long)) (λ j a b e g. all (suc j) a b e g))

abbrev done : List Placed → Result (List Placed) RecordFault
done ps = Ok ps

one_reading : (x y : List Placed) → done x ≡ done y → x ≡ y
one_reading x y e = cc e

module _ (l : Load) (load : Workload) (start : Start) (n : ℕ) (b : IsStart (format_of l.mode) n load start) (K : List (Act Txn)) (s : Core) (inv : Invariant (setting_of l) K s) (width : l.streams ≡ n) (sound : AreSound l load K)
    (after : (t : Act Txn) → Member t K → updates t.effect ≡ true → length (old_at start t.call.place.stream) ≤ t.call.place.start)
    (contents : List (List ℕ)) (long : length contents ≡ n) (each : (j : ℕ) (content : List ℕ) → slice_get contents j ≡ Some content → (more : List Placed) × IsRead l load start K n j content more) where
  abbrev olds : ℕ → List Placed
  olds j = slice_index_or start.log.streams j []

  abbrev P : ℕ → List ℕ → List Placed → Type 0
  P j content ps = (ms : List Placed) × (ps ≡ olds j ++ ms) × IsRead l load start K n j content ms

  abbrev step : ℕ → List ℕ → Result (List Placed) LogFault
  step j content = recorded j (records_of (format_of l.mode) (length contents) content)

  streams : EachOk step P 0 contents
  streams = each_ok step P 0 contents (λ k i content e g.
      let same : i ≡ k = omega (arith, e) in
      let h = each k content (subst (λ (m : ℕ). slice_get contents m ≡ Some content) same g) in
      (olds k ++ h.0, ap (λ (m : ℕ). recorded k (records_of (format_of l.mode) m content)) long ∙ ap (recorded k) h.1.reads, (h.0, refl, h.1)))

  read_of : (j : ℕ) (ps : List Placed) → slice_get streams.ys j ≡ Some ps → (content : List ℕ) × (slice_get contents j ≡ Some content) × P j content ps
  read_of j ps e =
      let lt = got_within streams.ys j ps e in
      let h = some_at contents j (subst (λ (m : ℕ). j < m) streams.long lt) in
      (h.0, h.1, streams.all j j h.0 ps (omega arith) h.1 e)

  abbrev IsNew : ℕ → List Placed → Type 0
  IsNew j ms = (content : List ℕ) × (slice_get contents j ≡ Some content) × IsRead l load start K n j content ms

  grown : HasGrown IsNew start.log.streams streams.ys
  grown = grown_there IsNew start.log.streams streams.ys (streams.long ∙ long ∙ sym (streams_wide (format_of l.mode) n load start b))
      (λ i ps e. (let r = read_of i ps e in (r.2.0, r.2.1, (r.0, r.1, r.2.2))))

  abbrev more : List (List Placed)
  more = grown.more

  more_long : length more ≡ n
  more_long = grown.long ∙ streams_wide (format_of l.mode) n load start b

  -- what stream j has more
  more_at : (j : ℕ) → j < n → (ms : List Placed) × (slice_get more j ≡ Some ms) × (slice_index_or more j [] ≡ ms) × IsNew j ms
  more_at j lt =
      let h = some_at more j (let e = more_long in omega (arith, e, lt)) in
      (h.0, h.1, got_or more j h.0 [] h.1, grown.each j h.0 h.1)

  -- ---- the epochs

  items_marks : (old : List ℕ) (items : List Item) (m : Mark) → Member m (marks_in (given_placed load start old ++ map (placed_in l.mode) items)) → Member m (marks_in (given_placed load start old))
  items_marks old items m h =
      let given : List Placed = given_placed load start old in
      let placed : List Placed = map (placed_in l.mode) items in
      elim (in_either m (marks_in given) (marks_in placed) (subst (λ (ms : List Mark). Member m ms) (marks_append given placed) h)) [
        | inl p ↦ p
        | inr p ↦ absurd (subst (λ (ms : List Mark). Member m ms) (no_marks_of l.mode items) p)
      ]

  new_mark_is : (m : Mark) → Member m (marks_from more) → (m ≡ own_mark start) × (1 ≤ start.epoch)
  new_mark_is m h =
      let w = marks_among more m h in
      let r = grown.each w.0 w.1 w.2 in
      elim r.2.is_more [
        | inl none ↦ absurd (subst (λ (ms : List Placed). Member m (marks_in ms)) none.0 w.3)
        | inr new ↦ given_mark load start (old_at start w.0) m (items_marks (old_at start w.0) new.0 m (subst (λ (ms : List Placed). Member m (marks_in ms)) new.1 w.3))
      ]

  all_agree : Agree (marks_from streams.ys)
  all_agree x y hx hy same = elim (mark_in start.log.streams more streams.ys grown.grown x hx) [
    | inl p ↦ elim (mark_in start.log.streams more streams.ys grown.grown y hy) [
      | inl q ↦ (held (format_of l.mode) n load start b).agree x y p q same
      | inr q ↦ absurd (let low = number_low (format_of l.mode) n load start b x p in let e = ap (λ (m : Mark). m.number) (new_mark_is y q).0 in omega (arith, low, e, same))
    ]
    | inr p ↦ elim (mark_in start.log.streams more streams.ys grown.grown y hy) [
      | inl q ↦ absurd (let low = number_low (format_of l.mode) n load start b y q in let e = ap (λ (m : Mark). m.number) (new_mark_is x p).0 in omega (arith, low, e, same))
      | inr q ↦ ap (λ (m : Mark). m.lv) ((new_mark_is x p).0 ∙ sym (new_mark_is y q).0)
    ]
  ]

  -- ---- the log

  abbrev text : List ℕ
  text = declarations_text load.declarations

  texts : (i : ℕ) (x : Option (List ℕ)) → slice_get (map text_in streams.ys) i ≡ Some x → (x ≡ None) ⊎ (x ≡ Some text)
  texts i x e =
      let p = got_mapped text_in streams.ys i x e in
      let r = read_of i p.0 p.1 in
      let is : text_in (olds i ++ r.2.0) ≡ x = ap text_in (sym r.2.1) ∙ p.2 in
      elim r.2.2.text [ inl none ↦ inl (sym is ∙ ap text_in none) | inr found ↦ inr (sym is ∙ found) ]

  abbrev log_with : Declarations → Log
  log_with d = record { elv = map length contents; declarations = d; streams = streams.ys }

  found : (catalogue : Option (List ℕ)) → catalogue_in streams.ys ≡ Ok catalogue → log_of_contents (format_of l.mode) contents ≡ Ok (log_with (declared_by catalogue))
  unfolding declared_in streams_of
  found catalogue e =
      ap (λ (r : Result (List (List Placed)) LogFault). r >>= λ ys. declared_in ys >>= λ d. unless (epoch_fault ys) (record { elv = map length contents; declarations = d; streams = ys })) streams.is
      ∙ ap (λ (r : Result (Option (List ℕ)) LogFault). (r >>= λ c. Ok (declared_by c)) >>= λ d. unless (epoch_fault streams.ys) (record { elv = map length contents; declarations = d; streams = streams.ys })) e
      ∙ ap (λ (o : Option LogFault). unless o (log_with (declared_by catalogue))) (agreed streams.ys all_agree)

  -- ---- what it takes

  -- no epoch is above that of the run
  judged : (d : Declarations) → judge_of (log_with d) start.epoch ≡ map length contents
  judged d = judging_none (map length contents) (marks_from streams.ys) start.epoch (λ x h. elim (mark_in start.log.streams more streams.ys grown.grown x (member_of x (marks_from streams.ys) h)) [
    | inl p ↦ let low = number_low (format_of l.mode) n load start b x p in omega (arith, low)
    | inr p ↦ let e = ap (λ (m : Mark). m.number) (new_mark_is x p).0 in omega (arith, e)
  ])

  taken_here : (d : Declarations) (j : ℕ) (content : List ℕ) (ms : List Placed) → IsMore l load start j content ms →
      taken_in (judge_of (log_with d)) j (last_epoch 0 (olds j)) ms ≡ filter (λ (r : Kept). covers (map length contents) r.place.dep) (kept_in j ms)
  taken_here d j content ms (inl none) =
      ap (taken_in (judge_of (log_with d)) j (last_epoch 0 (olds j))) none.0 ∙ ap (λ (ps : List Placed). filter (λ (r : Kept). covers (map length contents) r.place.dep) (kept_in j ps)) (sym none.0)
  taken_here d j content ms (inr new) =
      let judge : ℕ → List ℕ = judge_of (log_with d) in
      let k : ℕ = last_epoch 0 (olds j) in
      let given : List Placed = given_placed load start (old_at start j) in
      let placed : List Placed = map (placed_in l.mode) new.0 in
      let last : last_epoch k given ≡ start.epoch = given_last load start k (old_at start j) (last_none (format_of l.mode) n load start b j) in
      let kept : kept_in j ms ≡ kept_in j placed = ap (kept_in j) new.1 ∙ kept_append j given placed ∙ ap (λ (ks : List Kept). ks ++ kept_in j placed) (given_kept j load start (old_at start j)) in
      ap (taken_in judge j k) new.1 ∙ taken_append judge j k given placed
      ∙ ap (λ (ks : List Kept). ks ++ taken_in judge j (last_epoch k given) placed) (given_taken judge j k load start (old_at start j))
      ∙ ap (λ (e : ℕ). taken_in judge j e placed) last
      ∙ stream_plain judge j start.epoch placed (no_marks_of l.mode new.0)
      ∙ ap (λ (v : List ℕ). filter (λ (r : Kept). covers v r.place.dep) (kept_in j placed)) (judged d)
      ∙ ap (filter (λ (r : Kept). covers (map length contents) r.place.dep)) (sym kept)

  log_is : (d : Declarations) → IsLogOf (setting_of l) K s inv l.mode n width start (log_with d) more
  log_is d = record {
    kept = λ j lt.
        (let m = more_at j lt in
        let end : slice_index (map length contents) j ≡ length m.3.0 = length_at contents j m.3.0 m.3.1 in
        ap (kept_in j) m.2 ∙ m.3.2.kept ∙ ap (λ (c : ℕ). map (kept_of l.mode) (filter (ends_by c) (records_of_stream j K))) (sym end));
    news_are = news_turn (judge_of (log_with d)) 0 start.log.streams more new_at grown.long (λ k i e lt.
        let low : i < n = (let w = streams_wide (format_of l.mode) n load start b in omega (arith, w, lt)) in
        let m = more_at i low in
        let same : k ≡ i = omega (arith, e) in
        ap (λ (x : ℕ). taken_in (judge_of (log_with d)) x (last_epoch 0 (olds i)) (slice_index_or more i [])) same
        ∙ ap (taken_in (judge_of (log_with d)) i (last_epoch 0 (olds i))) m.2 ∙ taken_here d i m.3.0 m.0 m.3.2.is_more ∙ ap (λ (ps : List Placed). filter (λ (r : Kept). covers (map length contents) r.place.dep) (kept_in i ps)) (sym m.2))
        ∙ ap (λ (k : ℕ). in_turn k new_at) (streams_wide (format_of l.mode) n load start b);
    either = λ r h. elim (taken_either (judge_of (log_with d)) 0 start.old start.log.streams more streams.ys r (held (format_of l.mode) n load start b).streams grown.grown h) [
      | inl p ↦ inl p
      | inr w ↦
          let at : w.0 ≡ r.place.stream = (let e = w.1 in omega (arith, e)) in
          let is : length (old_at start r.place.stream) ≡ length w.2 = ap (λ (j : ℕ). length (old_at start j)) (sym at) ∙ ap length (got_or start.old w.0 w.2 [] w.3) in
          let lt = w.4 in
          inr (omega (arith, is, lt))
    ];
    there = λ r h. news_taken (judge_of (log_with d)) 0 start.log.streams more streams.ys r grown.grown h;
    after = after;
  }
    where
      new_at : ℕ → List Kept
      new_at j = filter (λ (r : Kept). covers (map length contents) r.place.dep) (kept_in j (slice_index_or more j []))

  -- ---- it goes on from the old one

  content_long : (j : ℕ) (content : List ℕ) (ms : List Placed) → IsMore l load start j content ms → length (old_at start j) ≤ length content
  content_long j content ms (inl none) = let e = ap length none.1 in omega (arith, e)
  content_long j content ms (inr new) = let low = old_within (format_of l.mode) n load start b j in let up = new.2 in omega (arith, low, up)

  longer : AtMost start.log.elv (map length contents)
  longer = at_most_within start.log.elv (map length contents) (λ j lt.
      let low : j < n = (let e = elv_wide (format_of l.mode) n load start b in omega (arith, e, lt)) in
      let m = more_at j low in
      let here = elv_at (format_of l.mode) n load start b j low in
      let there = length_at contents j m.3.0 m.3.1 in
      let up = content_long j m.3.0 m.0 m.3.2.is_more in
      omega (arith, here, there, up))

  own_among : 1 ≤ start.epoch → (j : ℕ) (content : List ℕ) (ms : List Placed) → IsMore l load start j content ms → ((ms ≡ []) × (content ≡ old_at start j)) ⊎ Member (own_mark start) (marks_in ms)
  own_among low j content ms (inl none) = inl none
  own_among low j content ms (inr new) =
      let given : List Placed = given_placed load start (old_at start j) in
      let placed : List Placed = map (placed_in l.mode) new.0 in
      inr (subst (λ (ps : List Placed). Member (own_mark start) (marks_in ps)) (sym new.1)
      (subst (λ (ms : List Mark). Member (own_mark start) ms) (sym (marks_append given placed)) (member_front (own_mark start) (marks_in given) (marks_in placed) (own_there load start (old_at start j) low))))

  same_lengths : 1 ≤ start.epoch → none_in more → map length contents ≡ start.log.elv
  same_lengths low nothing = same_list (map length contents) start.log.elv (length_mapped length contents ∙ long ∙ sym (elv_wide (format_of l.mode) n load start b)) (λ j lt.
      let there : j < n = (let e = length_mapped length contents in let f = long in omega (arith, e, f, lt)) in
      let m = more_at j there in
      let empty : m.0 ≡ [] = sym m.2 ∙ none_at more j nothing in
      elim (own_among low j m.3.0 m.0 m.3.2.is_more) [
        | inl none ↦ length_at contents j m.3.0 m.3.1 ∙ ap length none.1 ∙ sym (elv_at (format_of l.mode) n load start b j there)
        | inr h ↦ absurd (subst (λ (ms : List Placed). Member (own_mark start) (marks_in ms)) empty h)
      ])

  next_has : 1 ≤ start.epoch → (none_in more → ⊥) → NextEpochHas more start.log.elv
  next_has low some =
      let w = some_stream more some in
      let r = grown.each w.0 w.1 w.2 in
      record {
        mark = own_mark start;
        there = elim (own_among low w.0 r.0 w.1 r.2.is_more) [ inl none ↦ absurd (w.3 none.0) | inr h ↦ marks_of_one more w.0 w.1 (own_mark start) w.2 h ];
        vector = refl;
        first = λ m h. (let e = ap (λ (x : Mark). x.number) (new_mark_is m h).0 in omega (arith, e));
      }

  goes_on : (d : Declarations) → Continues start.log more (log_with d)
  goes_on d = record {
    longer = longer;
    streams = grown.grown;
    above = λ m h.
        (let new = new_mark_is m h in
        let e = ap (λ (x : Mark). x.number) new.0 in
        let low = new.1 in
        elim b.epoch [
          | inl none ↦ absurd (let z = none.1 in omega (arith, z, low))
          | inr some ↦ let up = some.1 in omega (arith, e, up)
        ]);
    next = elim b.epoch [
      | inl none ↦ inl none.0
      | inr some ↦
          let low : 1 ≤ start.epoch = (let up = some.1 in omega (arith, up)) in
          inr (elim (none_or_some more) [ inl nothing ↦ inl (nothing, same_lengths low nothing) | inr there ↦ inr (next_has low there) ])
    ];
  }

  made : (d : Declarations) → log_of_contents (format_of l.mode) contents ≡ Ok (log_with d) → none_in more ⊎ (d ≡ load.declarations) → none_in streams.ys ⊎ (catalogue_in streams.ys ≡ Ok (Some text)) → LogOf l load start K s inv n width contents
  made d reads declared catalogue = record {
    log = log_with d;
    reads = reads;
    elv = refl;
    more = more;
    goes_on = goes_on d;
    marks = new_mark_is;
    long = streams.long ∙ long;
    is = log_is d;
    all = λ j content e.
        (let lt = got_within contents j content e in
        let h = some_at streams.ys j (subst (λ (m : ℕ). j < m) (sym streams.long) lt) in
        let r = streams.all j j content h.0 (omega arith) e h.1 in
        (r.0, h.1 ∙ ap (λ (ps : List Placed). Some ps) r.1, r.2));
    declared = declared;
    read = zip_of (IsReading (format_of l.mode) n) contents streams.ys streams.long (λ j content ps e g. (let r = streams.all j j content ps (omega arith) e g in subst (λ (qs : List Placed). IsReading (format_of l.mode) n content qs) (sym r.1) r.2.reading));
    catalogue = catalogue;
  }

  nothing_read : ((i : ℕ) (x : Option (List ℕ)) → slice_get (map text_in streams.ys) i ≡ Some x → x ≡ None) → none_in streams.ys
  nothing_read none = none_of_each streams.ys (λ i ps e.
      let r = read_of i ps e in
      elim r.2.2.text [
        | inl empty ↦ r.2.1 ∙ empty
        | inr is ↦ absurd (let f : Some text ≡ None = sym is ∙ ap text_in (sym r.2.1) ∙ none i (text_in ps) (map_get text_in streams.ys i ps e) in cc f)
      ])

  nothing_more : ((i : ℕ) (x : Option (List ℕ)) → slice_get (map text_in streams.ys) i ≡ Some x → x ≡ None) → none_in more
  nothing_more none = none_of_each more (λ i ms e.
      let r = grown.each i ms e in
      elim r.2.text [
        | inl empty ↦ none_second (olds i) ms empty
        | inr is ↦ absurd (
            let lt = got_within contents i r.0 r.1 in
            let h = some_at streams.ys i (subst (λ (m : ℕ). i < m) (sym streams.long) lt) in
            let q = streams.all i i r.0 h.0 (omega arith) r.1 h.1 in
            let same : text_in (olds i ++ q.0) ≡ None = ap text_in (sym q.1) ∙ none i (text_in h.0) (map_get text_in streams.ys i h.0 h.1) in
            let read : text_in (olds i ++ ms) ≡ text_in (olds i ++ q.0) = ap text_in (one_reading (olds i ++ ms) (olds i ++ q.0) (sym r.2.reads ∙ q.2.reads)) in
            let f : Some text ≡ None = sym is ∙ read ∙ same in cc f)
      ])

  pub log_of_them : LogOf l load start K s inv n width contents
  unfolding catalogue_in
  log_of_them = elim (one_catalogue 0 text (map text_in streams.ys) texts) [
    | inl e ↦
        let same : declared_by (Some text) ≡ load.declarations = ap or_none sound.catalogue.read in
        made (declared_by (Some text)) (found (Some text) e) (inr same) (inr e)
    | inr e ↦ made none_declared (found None e.0) (inl (nothing_more e.1)) (inl (nothing_read e.1))
  ]
