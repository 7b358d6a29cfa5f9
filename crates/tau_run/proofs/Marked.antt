-- Where the epochs stand of a log that a run and a stop left.
use Rattle.std.proofs.Common.{ℕ, zero, suc, ◌≤◌, ◌<◌, ◌≡◌, ◌⊎◌, inl, inr, List, [], ◌∷◌, ◌++◌, map, length, replicate, refl, sym, ap, subst, ◌∙◌, arith, slice_index, append_assoc}
use Rattle.std.proofs.lemmas.List.{append-nil}
use Rattle.std.specs.Prelude.{Some, slice_get, slice_index_or}
use Rattle.tau_base.specs.Modes.{format_of}
use Rattle.tau_base.specs.Vectors.{AtMost}
use Rattle.tau_base.proofs.Lists.{some_at, got_or, got_within}
use Rattle.tau_base.proofs.Logic.{some_is}
use Rattle.tau_model.specs.History.{Act, Member}
use Rattle.tau_machine.specs.Hands.{Txn}
use Rattle.tau_machine.specs.Invariant.{Invariant}
use Rattle.tau_machine.specs.State.{Core}
use Rattle.tau_text.specs.declared.load.Workload.{Workload}
use Rattle.tau_record.specs.declared.entry.Placed.{Placed}
use Rattle.tau_core.specs.declared.state.Load.{Load}
use Rattle.tau_core.specs.View.{setting_of}
use Rattle.tau_epoch.specs.Epochs.{Mark}
use Rattle.tau_scan.specs.Epochs.{marks_from, marks_of}
use Rattle.tau_scan.specs.Sound.{MarksFit}
use Rattle.tau_epoch_laws.specs.Marked.{last_past, HasEpochThere, AreMarked}
use Rattle.tau_epoch_laws.proofs.Contents.{AreStreams}
use Rattle.tau_epoch_laws.proofs.Grown.{mark_in}
use Rattle.tau_epoch_laws.proofs.Records.{Stand}
use Rattle.tau_run.specs.Start.{Start, old_at, catalogue_of, IsStart}
use Rattle.tau_run.specs.Laws.{FreshMarked}
use Rattle.tau_run.proofs.Begins.{held, streams_wide, elv_at, number_low, empty_or_declared, given_placed, epoch_placed, own_mark}
use Rattle.tau_run.proofs.Logs.{LogOf}
use Rattle.tau_run.proofs.Reading.{first_placed}
use Rattle.tau_run.proofs.Spelled.{placed_in}
use Rattle.tau_run.proofs.Streams.{IsMore}

-- an epoch that stands in a stream still does with records after it
kept_there : (m : Mark) (j : ℕ) (ps ms : List Placed) → HasEpochThere m j ps → HasEpochThere m j (ps ++ ms)
kept_there m j ps ms h = record {
  before = h.before;
  epoch = h.epoch;
  after = h.after ++ ms;
  parts = ap (λ (qs : List Placed). qs ++ ms) h.parts ∙ append_assoc h.before (h.epoch ∷ h.after) ms;
  number = h.number;
  lv = h.lv;
  is = h.is;
  later = h.later;
  found = h.found;
  at_once = h.at_once;
}

-- the epoch record of a run, after these records
own_epoch : (m : Mark) (j number : ℕ) (lv : List ℕ) (at : ℕ) (before ms : List Placed) → 1 ≤ number → m.number ≤ number → slice_index lv j ≡ slice_index m.lv j →
    (at ≡ slice_index m.lv j) ⊎ ((slice_index m.lv j ≡ 0) × (length before ≡ 1)) → HasEpochThere m j (before ++ (epoch_placed number lv at ++ ms))
own_epoch m j zero lv at before ms low later found at_once = absurd (omega (arith, low))
own_epoch m j (suc k) lv at before ms low later found at_once =
    record { before = before; epoch = _; after = ms; parts = refl; number = suc k; lv = lv; is = refl; later = later; found = found; at_once = at_once }

-- it stands where a stream that held this ended, or after the catalogue
epoch_there : (m : Mark) (j : ℕ) (load : Workload) (start : Start) (old : List ℕ) (ps ms : List Placed) → 1 ≤ start.epoch → m.number ≤ start.epoch → slice_index start.log.elv j ≡ slice_index m.lv j → slice_index m.lv j ≡ length old →
    ((old ≡ []) × (ps ≡ [])) ⊎ (1 ≤ length old) → HasEpochThere m j (ps ++ (given_placed load start old ++ ms))
epoch_there m j load start [] ps ms low later found at (inl none) =
    let rest : List Placed = given_placed load start [] ++ ms in
    subst (λ (qs : List Placed). HasEpochThere m j (qs ++ rest)) (sym none.1) (own_epoch m j start.epoch start.log.elv (length (catalogue_of load)) (first_placed load ∷ []) ms low later found (inr (at, refl)))
epoch_there m j load start [] ps ms low later found at (inr some) = absurd (omega (arith, some))
epoch_there m j load start (b ∷ bytes) ps ms low later found at either = own_epoch m j start.epoch start.log.elv (length (b ∷ bytes)) ps ms low later found (inl (sym at))

-- the records of a stream end where its content ends
stand_last : (at end : ℕ) (ps : List Placed) → Stand at end ps → last_past at ps ≡ end
stand_last at end [] h = h
stand_last at end (p ∷ ps) h = stand_last p.past end ps h.2

streams_end : (contents : List (List ℕ)) (streams : List (List Placed)) (j : ℕ) → AreStreams contents streams → last_past 0 (slice_index_or streams j []) ≡ length (slice_index_or contents j [])
streams_end [] [] j are = refl
streams_end [] (ps ∷ streams) j are = absurd are
streams_end (content ∷ contents) [] j are = absurd are
streams_end (content ∷ contents) (ps ∷ streams) zero are = stand_last 0 (length content) ps are.0.stand
streams_end (content ∷ contents) (ps ∷ streams) (suc j) are = streams_end contents streams j are.1

module _ (l : Load) (load : Workload) (start : Start) (n : ℕ) (b : IsStart (format_of l.mode) n load start) (K : List (Act Txn)) (s : Core) (inv : Invariant (setting_of l) K s) (width : l.streams ≡ n)
    (contents : List (List ℕ)) (count : length contents ≡ n) (made : LogOf l load start K s inv n width contents) (fit : MarksFit start.log) (marked : AreMarked start.log.streams) where
  abbrev olds : ℕ → List Placed
  olds j = slice_index_or start.log.streams j []

  either_mark : (m : Mark) → Member m (marks_from made.log.streams) → Member m (marks_of start.log) ⊎ ((m ≡ own_mark start) × (1 ≤ start.epoch))
  either_mark m h = elim (mark_in start.log.streams made.more made.log.streams made.goes_on.streams m h) [ inl p ↦ inl p | inr p ↦ inr (made.marks m p) ]

  low_mark : (m : Mark) → Member m (marks_of start.log) → m.number < start.epoch
  low_mark m h = number_low (format_of l.mode) n load start b m h

  rise : (x y : Mark) → Member x (marks_from made.log.streams) → Member y (marks_from made.log.streams) → x.number < y.number → AtMost x.lv y.lv
  rise x y hx hy lt = elim (either_mark x hx) [
    | inl p ↦ elim (either_mark y hy) [
      | inl q ↦ marked.rise x y p q lt
      | inr q ↦ subst (λ (m : Mark). AtMost x.lv m.lv) (sym q.0) (fit x p)
    ]
    | inr p ↦ elim (either_mark y hy) [
      | inl q ↦ absurd (let low = low_mark y q in let e = ap (λ (m : Mark). m.number) p.0 in omega (arith, low, e, lt))
      | inr q ↦ absurd (let e = ap (λ (m : Mark). m.number) p.0 in let f = ap (λ (m : Mark). m.number) q.0 in omega (arith, e, f, lt))
    ]
  ]

  -- stream j: what it held, and what it has more
  pub record Part (j : ℕ) (ps : List Placed) : Type 0 where
    pub low : j < n
    pub content : List ℕ
    pub ms : List Placed
    pub got : slice_get start.log.streams j ≡ Some (olds j)
    pub whole : ps ≡ olds j ++ ms
    pub is_more : IsMore l load start j content ms
    pub empty : ((old_at start j ≡ []) × (olds j ≡ [])) ⊎ (1 ≤ length (old_at start j))

  part_of : (j : ℕ) (ps : List Placed) → slice_get made.log.streams j ≡ Some ps → Part j ps
  part_of j ps e =
      let low : j < n = (let lt = got_within made.log.streams j ps e in let w = made.long in omega (arith, lt, w)) in
      let c = some_at contents j (omega (arith, low, count)) in
      let r = made.all j c.0 c.1 in
      let h = some_at start.log.streams j (let w = streams_wide (format_of l.mode) n load start b in omega (arith, w, low)) in
      record {
        low = low;
        content = c.0;
        ms = r.0;
        got = h.1 ∙ ap (λ (qs : List Placed). Some qs) (sym (got_or start.log.streams j h.0 [] h.1));
        whole = some_is ps (olds j ++ r.0) (sym e ∙ r.1);
        is_more = r.2.is_more;
        empty = elim (empty_or_declared (format_of l.mode) n load start b j low) [ inl z ↦ inl z | inr z ↦ inr z.0 ];
      }

  old_end : (j : ℕ) → last_past 0 (olds j) ≡ length (old_at start j)
  old_end j = streams_end start.old start.log.streams j (held (format_of l.mode) n load start b).streams

  -- where an epoch found the end of the old stream, the stream ends, or the run's epoch stands
  next_own : (m : Mark) (j : ℕ) (ps : List Placed) (q : Part j ps) → 1 ≤ start.epoch → m.number ≤ start.epoch → slice_index start.log.elv j ≡ slice_index m.lv j → IsMore l load start j q.content q.ms →
      (last_past 0 ps ≤ slice_index m.lv j) ⊎ HasEpochThere m j ps
  next_own m j ps q low later found (inl none) =
      let same : ps ≡ olds j = q.whole ∙ ap (λ (ms : List Placed). olds j ++ ms) none.0 ∙ append-nil (olds j) in
      let end = ap (last_past 0) same in
      let old = old_end j in
      let at = elv_at (format_of l.mode) n load start b j q.low in
      inl (omega (arith, end, old, at, found))
  next_own m j ps q low later found (inr new) =
      let items : List Placed = map (placed_in l.mode) new.0 in
      let whole : olds j ++ (given_placed load start (old_at start j) ++ items) ≡ ps = ap (λ (ms : List Placed). olds j ++ ms) (sym new.1) ∙ sym q.whole in
      inr (subst (λ (qs : List Placed). HasEpochThere m j qs) whole (epoch_there m j load start (old_at start j) (olds j) items low later found (sym found ∙ elv_at (format_of l.mode) n load start b j q.low) q.empty))

  next : (m : Mark) → Member m (marks_from made.log.streams) → (j : ℕ) (ps : List Placed) → slice_get made.log.streams j ≡ Some ps → (last_past 0 ps ≤ slice_index m.lv j) ⊎ HasEpochThere m j ps
  next m h j ps e =
      let q = part_of j ps e in
      elim (either_mark m h) [
        | inl p ↦ elim (marked.next m p j (olds j) q.got) [
          | inl le ↦
              let up = fit m p j in
              let old = old_end j in
              let at = elv_at (format_of l.mode) n load start b j q.low in
              let lt = low_mark m p in
              next_own m j ps q (omega (arith, lt)) (omega (arith, lt)) (omega (arith, le, up, old, at)) q.is_more
          | inr has ↦ inr (subst (λ (qs : List Placed). HasEpochThere m j qs) (sym q.whole) (kept_there m j (olds j) q.ms has))
        ]
        | inr own ↦ next_own m j ps q own.1 (let e = ap (λ (k : Mark). k.number) own.0 in omega (arith, e)) (ap (λ (k : Mark). slice_index k.lv j) (sym own.0)) q.is_more
      ]

  pub marked_after : AreMarked made.log.streams
  marked_after = record { rise = rise; next = next }

-- ---- empty streams

none_marked : (n : ℕ) → marks_from (replicate n []) ≡ []
none_marked zero = refl
none_marked (suc n) = none_marked n

pub fresh_marked : FreshMarked
fresh_marked n = record {
  rise = λ a b h. absurd (subst (λ (ms : List Mark). Member a ms) (none_marked n) h);
  next = λ m h. absurd (subst (λ (ms : List Mark). Member m ms) (none_marked n) h);
}
