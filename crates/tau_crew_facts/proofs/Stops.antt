-- Behind the run of the desk each stream whose disk failed is stopped, where it is persisted.
use Rattle.std.proofs.Common.{ℕ, zero, suc, ◌<◌, ◌≤◌, ◌≡◌, inl, inr, Bool, true, false, List, [], ◌∷◌, ◌++◌, refl, sym, ap, subst, ◌∙◌, arith, append_assoc, length, slice_index}
use Rattle.std.specs.Prelude.{Option, Some, None, if◌then◌else◌, slice_get}
use Rattle.std.proofs.Math.Path.{fun_ext}
use Rattle.std.proofs.lemmas.Bool.{cases_Bool, cases_eq}
use Rattle.std.proofs.lemmas.List.{append-nil}
use Rattle.std.proofs.lemmas.Option.{slice_get_past}
use Rattle.tau_base.proofs.Logic.{below_or_not, if_false, if_true}
use Rattle.tau_disk.specs.declared.disk.Disk.{Ghosts}
use Rattle.tau_stream.specs.declared.writer.Writer.{Writer}
use Rattle.tau_stream.specs.Writer.{has_failed}
use Rattle.tau_model.specs.History.{Act, Member}
use Rattle.tau_machine.specs.Hands.{Txn}
use Rattle.tau_shard.specs.Shard.{at}
use Rattle.tau_machine.specs.State.{Setting, Stream, Core}
use Rattle.tau_machine.specs.Events.{Event, Persist, Stop, Stops, with_stream}
use Rattle.tau_machine.specs.Runs.{Run}
use Rattle.tau_shard.proofs.At.{at_same, at_other}
use Rattle.tau_machine.proofs.Snoc.{member_snoc}
use Rattle.tau_machine.proofs.Results.{run_theorem, goes_on_theorem}
use Rattle.tau_occ.specs.declared.style.Style.{Style}
use Rattle.tau_rule.specs.Holders.{LeadHeld}
use Rattle.tau_rule.proofs.Holders.{held_more}
use Rattle.tau_crew_facts.specs.Ends.{failed_in, stops_of}

-- the state with its streams stopped where the function tells
abbrev pub stopped_at : (ℕ → Option ℕ) → Core → Core
stopped_at stops c = record c { streams = λ j. record (c.streams j) { stop = stops j } }

-- the first k streams, of those that failed
abbrev pub stops_by : (ℕ → Bool) → List ℕ → ℕ → ℕ → Option ℕ
stops_by f plv zero = λ j. None
stops_by f plv (suc k) = if f k then at k (Some (slice_index plv k)) (stops_by f plv k) else stops_by f plv k

abbrev pub stop_events : (ℕ → Bool) → List ℕ → ℕ → List Event
stop_events f plv zero = []
stop_events f plv (suc k) = stop_events f plv k ++ (if f k then Stop k (slice_index plv k) ∷ [] else [])

-- a position that is persisted was so before the stops
pub persisted_before : (f : ℕ → Bool) (plv : List ℕ) (j upto : ℕ) (events : List Event) (k : ℕ) → Member (Persist j upto) (events ++ stop_events f plv k) → Member (Persist j upto) events
persisted_before f plv j upto events zero m = subst (λ (es : List Event). Member (Persist j upto) es) (append-nil events) m
persisted_before f plv j upto events (suc k) m = elim (cases_Bool (f k)) [
  | inl failed ↦
      let all : events ++ stop_events f plv (suc k) ≡ (events ++ stop_events f plv k) ++ Stop k (slice_index plv k) ∷ [] =
      ap (λ (b : Bool). events ++ (stop_events f plv k ++ (if b then Stop k (slice_index plv k) ∷ [] else []))) failed ∙ sym (append_assoc events (stop_events f plv k) (Stop k (slice_index plv k) ∷ [])) in
      elim (member_snoc (events ++ stop_events f plv k) (Stop k (slice_index plv k)) (Persist j upto) (subst (λ (es : List Event). Member (Persist j upto) es) all m)) [
        | inl was ↦ persisted_before f plv j upto events k was
        | inr is ↦ absurd (let bad : Stop k (slice_index plv k) ≡ Persist j upto = is in cc bad)
      ]
  | inr works ↦
      let none : events ++ stop_events f plv (suc k) ≡ events ++ stop_events f plv k =
      ap (λ (b : Bool). events ++ (stop_events f plv k ++ (if b then Stop k (slice_index plv k) ∷ [] else []))) works ∙ ap (λ (es : List Event). events ++ es) (append-nil (stop_events f plv k)) in
      persisted_before f plv j upto events k (subst (λ (es : List Event). Member (Persist j upto) es) none m)
]

-- ---- what the function tells

none_above : (f : ℕ → Bool) (plv : List ℕ) (k j : ℕ) → k ≤ j → stops_by f plv k j ≡ None
none_above f plv zero j le = refl
none_above f plv (suc k) j le = elim (cases_Bool (f k)) [
  | inl failed ↦ rw failed (at_other k (Some (slice_index plv k)) (stops_by f plv k) j (λ e. omega (arith, e, le)) ∙ none_above f plv k j (omega (arith, le)))
  | inr works ↦ rw works (none_above f plv k j (omega (arith, le)))
]

none_works : (f : ℕ → Bool) (plv : List ℕ) (k j : ℕ) → f j ≡ false → stops_by f plv k j ≡ None
none_works f plv zero j e = refl
none_works f plv (suc k) j e = elim (cases_Bool (f k)) [
  | inl failed ↦ rw failed (at_other k (Some (slice_index plv k)) (stops_by f plv k) j (λ is. (let bad : true ≡ false = sym failed ∙ ap f (sym is) ∙ e in cc bad)) ∙ none_works f plv k j e)
  | inr works ↦ rw works (none_works f plv k j e)
]

some_failed : (f : ℕ → Bool) (plv : List ℕ) (k j : ℕ) → j < k → f j ≡ true → stops_by f plv k j ≡ Some (slice_index plv j)
some_failed f plv zero j lt e = absurd (omega (arith, lt))
some_failed f plv (suc k) j lt e = elim (cases_eq j k) [
  | inl is ↦
      let here : f k ≡ true = ap f (sym is) ∙ e in
      rw here (subst (λ (i : ℕ). at k (Some (slice_index plv k)) (stops_by f plv k) i ≡ Some (slice_index plv i)) (sym is) (at_same k (Some (slice_index plv k)) (stops_by f plv k)))
  | inr other ↦ elim (cases_Bool (f k)) [
    | inl failed ↦ rw failed (at_other k (Some (slice_index plv k)) (stops_by f plv k) j other ∙ some_failed f plv k j (omega (arith, lt, other)) e)
    | inr works ↦ rw works (some_failed f plv k j (omega (arith, lt, other)) e)
  ]
]

-- ---- the stops of the writers

module _ {D : Type 0} {G : Ghosts D} (ws : List (Writer D G)) (plv : List ℕ) where
  -- a stream is stopped exactly where the disk of its writer failed
  pub stops_at : (j : ℕ) (w : Writer D G) → slice_get ws j ≡ Some w → has_failed w ≡ true → stops_of ws plv j ≡ Some (slice_index plv j)
  stops_at j w is failed = if_true (failed_in (slice_get ws j)) (Some (slice_index plv j)) None (ap failed_in is ∙ failed)

  pub goes_at : (j : ℕ) (w : Writer D G) → slice_get ws j ≡ Some w → has_failed w ≡ false → stops_of ws plv j ≡ None
  goes_at j w is works = if_false (failed_in (slice_get ws j)) (Some (slice_index plv j)) None (ap failed_in is ∙ works)

  pub works_at : (j : ℕ) (w : Writer D G) → slice_get ws j ≡ Some w → stops_of ws plv j ≡ None → has_failed w ≡ false
  works_at j w is none = elim (cases_Bool (has_failed w)) [
    | inl failed ↦ absurd (let bad : None ≡ Some (slice_index plv j) = sym none ∙ stops_at j w is failed in cc bad)
    | inr works ↦ works
  ]

  none_there : (j : ℕ) → length ws ≤ j → failed_in (slice_get ws j) ≡ false
  none_there j past = ap failed_in (slice_get_past ws j past)

  pub stopped_low : (j at : ℕ) → stops_of ws plv j ≡ Some at → j < length ws
  stopped_low j at is = elim (below_or_not j (length ws)) [
    | inl low ↦ low
    | inr past ↦ absurd (let bad : None ≡ Some at = sym (if_false (failed_in (slice_get ws j)) (Some (slice_index plv j)) None (none_there j past)) ∙ is in cc bad)
  ]

  -- so many streams are all of them
  pub stops_all : (k : ℕ) → length ws ≤ k → stops_by (λ j. failed_in (slice_get ws j)) plv k ≡ stops_of ws plv
  stops_all k all = fun_ext (λ j. elim (cases_Bool (failed_in (slice_get ws j))) [
    | inl failed ↦ some_failed (λ i. failed_in (slice_get ws i)) plv k j (low j failed) failed ∙ sym (if_true (failed_in (slice_get ws j)) (Some (slice_index plv j)) None failed)
    | inr works ↦ none_works (λ i. failed_in (slice_get ws i)) plv k j works ∙ sym (if_false (failed_in (slice_get ws j)) (Some (slice_index plv j)) None works)
  ])
    where
      low : (j : ℕ) → failed_in (slice_get ws j) ≡ true → j < k
      low j failed = (let lt = stopped_low j (slice_index plv j) (if_true (failed_in (slice_get ws j)) (Some (slice_index plv j)) None failed) in omega (arith, lt, all))

-- ---- the events

module _ (set : Setting) (c : Core) (high : (j : ℕ) → slice_index c.plv j ≤ slice_index c.gathered j) (going : (j : ℕ) → (c.streams j).stop ≡ None) (f : ℕ → Bool) where
  abbrev after : ℕ → Core
  after k = stopped_at (stops_by f c.plv k) c

  none_yet : stopped_at (λ j. None) c ≡ c
  none_yet = ap (λ (g : ℕ → Stream). record c { streams = g }) (fun_ext (λ j. ap (λ (o : Option ℕ). record (c.streams j) { stop = o }) (sym (going j))))

  -- one stream more
  one_more : (k : ℕ) → with_stream (after k) k (record ((after k).streams k) { stop = Some (slice_index c.plv k) }) ≡ stopped_at (at k (Some (slice_index c.plv k)) (stops_by f c.plv k)) c
  one_more k = ap (λ (g : ℕ → Stream). record c { streams = g }) (fun_ext (λ j. elim (cases_eq j k) [
    | inl is ↦ subst (λ (i : ℕ). at k (record ((after k).streams k) { stop = Some (slice_index c.plv k) }) (after k).streams i ≡ record (c.streams i) { stop = at k (Some (slice_index c.plv k)) (stops_by f c.plv k) i }) (sym is)
        (at_same k (record ((after k).streams k) { stop = Some (slice_index c.plv k) }) (after k).streams ∙ ap (λ (o : Option ℕ). record (c.streams k) { stop = o }) (sym (at_same k (Some (slice_index c.plv k)) (stops_by f c.plv k))))
    | inr other ↦
        at_other k (record ((after k).streams k) { stop = Some (slice_index c.plv k) }) (after k).streams j other ∙ ap (λ (o : Option ℕ). record (c.streams j) { stop = o }) (sym (at_other k (Some (slice_index c.plv k)) (stops_by f c.plv k) j other))
  ]))

  -- what holds of the events so far, and is kept by a stop, holds once these streams are stopped
  module _ (R : List Event → Core → Type 0) (one : (es : List Event) (s s' : Core) (j at : ℕ) → R es s → Stops set j at s s' → R (es ++ Stop j at ∷ []) s') (events : List Event) (first : R events c) where
    pub stopped_all : (k : ℕ) → k ≤ set.width → R (events ++ stop_events f c.plv k) (after k)
    stopped_all zero le = subst (λ (es : List Event). R es (after 0)) (sym (append-nil events)) (subst (λ (s : Core). R events s) (sym none_yet) first)
    stopped_all (suc k) le =
        let before = stopped_all k (omega (arith, le)) in elim (cases_Bool (f k)) [
          | inr works ↦
              let same : after (suc k) ≡ after k = ap (λ (b : Bool). stopped_at (if b then at k (Some (slice_index c.plv k)) (stops_by f c.plv k) else stops_by f c.plv k) c) works in
              let no_more : events ++ stop_events f c.plv (suc k) ≡ events ++ stop_events f c.plv k =
              ap (λ (b : Bool). events ++ (stop_events f c.plv k ++ (if b then Stop k (slice_index c.plv k) ∷ [] else []))) works ∙ ap (λ (es : List Event). events ++ es) (append-nil (stop_events f c.plv k)) in
              subst (λ (es : List Event). R es (after (suc k))) (sym no_more) (subst (λ (s : Core). R (events ++ stop_events f c.plv k) s) (sym same) before)
          | inl failed ↦
              let stopped : Core = with_stream (after k) k (record ((after k).streams k) { stop = Some (slice_index c.plv k) }) in
              let stop : Stops set k (slice_index c.plv k) (after k) stopped = record {
                there = omega (arith, le);
                going = none_above f c.plv k k (omega arith);
                low = omega arith;
                high = high k;
                after = refl;
              } in
              let gone : R ((events ++ stop_events f c.plv k) ++ Stop k (slice_index c.plv k) ∷ []) stopped = one (events ++ stop_events f c.plv k) (after k) stopped k (slice_index c.plv k) before stop in
              let state : stopped ≡ after (suc k) =
              one_more k ∙ ap (λ (b : Bool). stopped_at (if b then at k (Some (slice_index c.plv k)) (stops_by f c.plv k) else stops_by f c.plv k) c) (sym failed) in
              let all : (events ++ stop_events f c.plv k) ++ Stop k (slice_index c.plv k) ∷ [] ≡ events ++ stop_events f c.plv (suc k) =
              append_assoc events (stop_events f c.plv k) (Stop k (slice_index c.plv k) ∷ []) ∙ ap (λ (b : Bool). events ++ (stop_events f c.plv k ++ (if b then Stop k (slice_index c.plv k) ∷ [] else []))) (sym failed) in
              subst (λ (es : List Event). R es (after (suc k))) all (subst (λ (s : Core). R ((events ++ stop_events f c.plv k) ++ Stop k (slice_index c.plv k) ∷ []) s) state gone)
        ]

module _ (set : Setting) (opening : Core) (events : List Event) (K : List (Act Txn)) (c : Core) (run : Run set opening events K c) (going : (j : ℕ) → (c.streams j).stop ≡ None) (f : ℕ → Bool) where
  high : (j : ℕ) → slice_index c.plv j ≤ slice_index c.gathered j
  high j = (run_theorem set opening events K c run).agrees.good.persisted j

  pub stops_led : (k : ℕ) → k ≤ set.width → Run set opening (events ++ stop_events f c.plv k) K (stopped_at (stops_by f c.plv k) c)
  stops_led k le =
      stopped_all set c high going f (λ es s. Run set opening es K s)
      (λ es s s' j at r stop. subst (λ (ts : List (Act Txn)). Run set opening (es ++ Stop j at ∷ []) ts s') (append-nil K) ((goes_on_theorem set opening).1 es K s s' (Stop j at) [] r (stop, refl))) events run k le

  -- no stop is a Busy
  pub stops_held : (style : Style) → LeadHeld set style events opening c K → (k : ℕ) → k ≤ set.width → LeadHeld set style (events ++ stop_events f c.plv k) opening (stopped_at (stops_by f c.plv k) c) K
  stops_held style held k le =
      stopped_all set c high going f (λ es s. LeadHeld set style es opening s K)
      (λ es s s' j at r stop. subst (λ (ts : List (Act Txn)). LeadHeld set style (es ++ Stop j at ∷ []) opening s' ts) (append-nil K) (held_more set style es K opening s s' (Stop j at) [] r (stop, refl) tt)) events held k le
