-- The calls of a disk, counted by the flushes of its stream.
use Rattle.std.proofs.Common.{ℕ, ◌+◌, ◌-◌, ◌*◌, ◌==◌, ◌≡◌, inl, inr, Bool, true, false, List, [], ◌∷◌, ◌++◌, length, refl, sym, ap, subst, ◌∙◌, arith, length-append}
use Rattle.std.specs.Prelude.{Result, Ok, Err, OnOk, OnErr}
use Rattle.std.specs.List.{filter}
use Rattle.std.proofs.lemmas.Bool.{cases_Bool, eq-eqb, ne_eqb}
use Rattle.std.proofs.lemmas.List.Elements.{filter-append}
use Rattle.tau_base.specs.Modes.{format_of}
use Rattle.tau_disk.specs.Left.{SameLast}
use Rattle.tau_disk.specs.Plan.{HasMade, MadeAll, MadeSome}
use Rattle.tau_disk.specs.declared.disk.Disk.{Ghosts}
use Rattle.tau_core.specs.declared.state.Load.{Load}
use Rattle.tau_stream.specs.Stream.{IsCutShort, is_through}
use Rattle.tau_stream.specs.declared.flush.Flush.{Flush}
use Rattle.tau_stream.specs.declared.writer.Writer.{Writer}
use Rattle.tau_stream.specs.Writer.{FlushStops, IsReady, disk_of, durable_of, gathered_of, has_failed, left_of, part_upto}
use Rattle.tau_machine.specs.Events.{Event}
use Rattle.tau_run.specs.Turns.{Progress}
use Rattle.tau_step.specs.declared.manager.Managing.{Managing}
use Rattle.tau_step.specs.declared.manager.Managing.TheVariants as did
use Rattle.tau_step.specs.Counts.{CountsTo, HasFlushed, IsHalfFlushed, MayHalve, calls_to_flush, flushed_in, flushes_by, flushes_of}
use Rattle.tau_step.proofs.TurnNotes.{flushed_by_turn}
use Rattle.tau_base.proofs.Logic.{not_both}

module _ {D : Type 0} (G : Ghosts D) where
  -- no call was made
  pub flushed_none : (failed failed' : Bool) (d : D) → (failed ≡ false → failed' ≡ true → ⊥) → HasFlushed G 0 failed failed' d d
  flushed_none failed failed' d not_now = record { same = λ k. refl; goes = λ works. omega arith; stops = λ works fails. absurd (not_now works fails); rests = λ fails. refl; last = λ k. refl }

  -- a flush was made whole
  pub flushed_whole : {T : Type 0} (x : T) (r : Result T Flush) (failed' : Bool) (d e : D) → r ≡ Ok x → failed' ≡ false → HasMade 4 (G.number d) (G.number e) (G.fails d) (G.fails e) (G.short d) (G.short e) r → SameLast (G.keeps d) (G.keeps e) → HasFlushed G 1 false failed' d e
  flushed_whole x r failed' d e is works made last =
      let all : MadeAll 4 (G.number d) (G.number e) (G.fails d) (G.short d) (G.short e) = subst (λ (o : Result _ Flush). OnOk o (MadeAll 4 (G.number d) (G.number e) (G.fails d) (G.short d) (G.short e))) is made.ok in
      let count = all.0 in
      record { same = made.same; goes = λ e. omega (arith, count); stops = λ e fails. absurd (not_both failed' works fails); rests = λ fails. absurd (not_both false refl fails); last = last }

  -- a flush failed
  pub flushed_part : {T : Type 0} (x : Flush) (r : Result T Flush) (failed' : Bool) (d e : D) → r ≡ Err x → failed' ≡ true → HasMade 4 (G.number d) (G.number e) (G.fails d) (G.fails e) (G.short d) (G.short e) r → SameLast (G.keeps d) (G.keeps e) → HasFlushed G 0 false failed' d e
  flushed_part x r failed' d e is fails made last =
      let some : MadeSome 4 (G.number d) (G.number e) (G.fails d) (G.short e) = subst (λ (o : Result _ Flush). OnErr o (MadeSome 4 (G.number d) (G.number e) (G.fails d) (G.short e))) is made.failed in
      record {
        same = made.same;
        goes = λ works. absurd (not_both failed' works fails);
        stops = λ e f. elim some [ inl (low, high, fails, before) ↦ inr (omega (arith, low), omega (arith, high)) | inr short ↦ inl short ];
        rests = λ f. refl;
        last = last;
      }

  -- one part after the other
  pub flushed_on : (a b : ℕ) (f f' f'' : Bool) (d e g : D) → (f ≡ true → f' ≡ true) → (f' ≡ true → (f'' ≡ true) × (g ≡ e)) → HasFlushed G a f f' d e → HasFlushed G b f' f'' e g → HasFlushed G (a + b) f f'' d g
  flushed_on a b f f' f'' d e g still still' x y = record {
    same = λ k. y.same k ∙ x.same k;
    goes = λ works. elim (cases_Bool f') [
      | inl fails ↦ absurd (not_both f'' works (still' fails).0)
      | inr going ↦ (let first = x.goes going in let second = y.goes works in omega (arith, first, second))
    ];
    stops = λ works fails. elim (cases_Bool f') [
      | inl failed ↦
          (let none = y.rests failed in
          let same = ap G.number (still' failed).1 in
          elim (x.stops works failed) [
            | inl short ↦ inl (ap G.short (still' failed).1 ∙ short)
            | inr made ↦ (let low = made.0 in let high = made.1 in inr (omega (arith, none, same, low), omega (arith, none, same, high)))
          ])
      | inr going ↦
          (let first = x.goes going in
          elim (y.stops going fails) [
            | inl short ↦ inl short
            | inr made ↦ (let low = made.0 in let high = made.1 in inr (omega (arith, first, low), omega (arith, first, high)))
          ])
    ];
    rests = λ failed. (let first = x.rests failed in let second = y.rests (still failed) in omega (arith, first, second));
    last = λ k. y.last k ∙ x.last k;
  }

-- ---- what a flush that failed left

module _ {D : Type 0} {G : Ghosts D} (l : Load) (j : ℕ) where
  -- it has not failed meanwhile
  pub half_none : (count : ℕ) (failed : Bool) (d : D) (w' : Writer D G) → (failed ≡ false → has_failed w' ≡ true → ⊥) → MayHalve l j count failed d w'
  unfolding MayHalve
  half_none count failed d w' not_now works fails room whole = absurd (not_now works fails)

  -- of another disk that is as it was
  pub half_at : (count : ℕ) (failed : Bool) (d e : D) (w' : Writer D G) → d ≡ e → MayHalve l j count failed d w' → MayHalve l j count failed e w'
  half_at count failed d e w' is half = subst (λ (x : D). MayHalve l j count failed x w') is half

  pub half_by : (failed failed' : Bool) (count : ℕ) (d : D) (w' : Writer D G) → failed ≡ failed' → MayHalve l j count failed d w' → MayHalve l j count failed' d w'
  half_by failed failed' count d w' is half = subst (λ (b : Bool). MayHalve l j count b d w') is half

  -- the flush of a writer that is loaded failed
  pub half_flushed : (upto : ℕ) (content : List ℕ) (w w' : Writer D G) → IsReady (format_of l.mode) l.streams j w content → part_upto w upto ≡ left_of w → durable_of w' ≡ durable_of w → left_of w' ≡ left_of w → FlushStops upto w w' → MayHalve l j 0 false (disk_of w) w'
  unfolding FlushStops MayHalve
  half_flushed upto content w w' ready part durable left stops works fails room whole =
      let long = ready.counts in
      let size = ap (length {A = ℕ}) left in
      record {
        content = content;
        body = left_of w;
        front = omega (arith, long, durable);
        whole = omega (arith, long, durable, size);
        images = subst (λ (k : ℕ). IsCutShort (format_of l.mode) l.streams j content (left_of w) (is_through (G.number (disk_of w') - k) (G.keeps (disk_of w) (G.number (disk_of w')))) (G.image (disk_of w'))) none
            (subst (λ (body : List ℕ). IsCutShort (format_of l.mode) l.streams j content body (is_through (G.number (disk_of w') - G.number (disk_of w)) (G.keeps (disk_of w) (G.number (disk_of w')))) (G.image (disk_of w'))) part
            (stops room whole (format_of l.mode) l.streams j content ready));
      }
    where
      none : G.number (disk_of w) ≡ G.number (disk_of w) + calls_to_flush * 0
      none = omega arith

  -- one part after the other
  pub half_on : (a b : ℕ) (f : Bool) (d : D) (v w' : Writer D G) → (has_failed v ≡ true → w' ≡ v) → HasFlushed G a f (has_failed v) d (disk_of v) → HasFlushed G b (has_failed v) (has_failed w') (disk_of v) (disk_of w') →
      MayHalve l j a f d v → MayHalve l j b (has_failed v) (disk_of v) w' → MayHalve l j (a + b) f d w'
  unfolding MayHalve
  half_on a b f d v w' still x y first second works fails room whole = elim (cases_Bool (has_failed v)) [
    | inl failed ↦
        (let same = still failed in
        let none = y.rests failed in
        let half = first works failed (sym (ap (λ (z : Writer D G). G.short (disk_of z)) same) ∙ room) (sym (ap (λ (z : Writer D G). G.cut (disk_of z)) same) ∙ whole) in
        subst (λ (k : ℕ). IsHalfFlushed G (format_of l.mode) l.streams j (durable_of w') (gathered_of w') (G.number d + calls_to_flush * k) (G.keeps d) (disk_of w')) (sum none)
        (subst (λ (z : Writer D G). IsHalfFlushed G (format_of l.mode) l.streams j (durable_of z) (gathered_of z) (G.number d + calls_to_flush * a) (G.keeps d) (disk_of z)) (sym same) half))
    | inr going ↦
        (let half = second going fails room whole in
        record {
          content = half.content;
          body = half.body;
          front = half.front;
          whole = half.whole;
          images = subst (λ (k : ℕ). IsCutShort (format_of l.mode) l.streams j half.content half.body (is_through (G.number (disk_of w') - k) (G.keeps d (G.number (disk_of w')))) (G.image (disk_of w'))) (before (x.goes going))
              (subst (λ (kept : Bool). IsCutShort (format_of l.mode) l.streams j half.content half.body (is_through (G.number (disk_of w') - (G.number (disk_of v) + calls_to_flush * b)) kept) (G.image (disk_of w'))) (x.last (G.number (disk_of w'))) half.images);
        })
  ]
    where
      sum : b ≡ 0 → a ≡ a + b
      sum none = omega (arith, none)

      before : G.number (disk_of v) ≡ G.number d + calls_to_flush * a → G.number (disk_of v) + calls_to_flush * b ≡ G.number d + calls_to_flush * (a + b)
      before is = omega (arith, is)

-- ---- with the events

module _ {D : Type 0} {G : Ghosts D} (l : Load) (j : ℕ) where
  -- nothing was flushed
  pub counts_none : (es es' : List Event) (w w' : Writer D G) → flushed_in es' ≡ flushed_in es → w ≡ w' → CountsTo l j es es' w w'
  counts_none es es' w w' silent same = λ tells. (
    0,
    (let e = ap (flushes_of j) silent in omega (arith, e)),
    subst (λ (v : Writer D G). HasFlushed G 0 (has_failed w) (has_failed v) (disk_of w) (disk_of v)) same (flushed_none G (has_failed w) (has_failed w) (disk_of w) (not_both (has_failed w))),
    subst (λ (v : Writer D G). MayHalve l j 0 (has_failed w) (disk_of w) v) same (half_none l j 0 (has_failed w) (disk_of w) w (not_both (has_failed w))),
  )

  pub counts_on : (es es' es'' : List Event) (w v w' : Writer D G) → (has_failed w ≡ true → v ≡ w) → (has_failed v ≡ true → w' ≡ v) → CountsTo l j es es' w v → CountsTo l j es' es'' v w' → CountsTo l j es es'' w w'
  counts_on es es' es'' w v w' still still' x y = λ tells.
      let a = x tells in
      let b = y tells in
      let first = a.1 in
      let second = b.1 in (
        a.0 + b.0,
        omega (arith, first, second),
        flushed_on G a.0 b.0 (has_failed w) (has_failed v) (has_failed w') (disk_of w) (disk_of v) (disk_of w') (λ f. ap has_failed (still f) ∙ f) (λ f. (ap has_failed (still' f) ∙ f, ap disk_of (still' f))) a.2 b.2,
        half_on l j a.0 b.0 (has_failed w) (disk_of w) v w' still' a.2 b.2 a.3 b.3,
      )

-- ---- the turn of a manager

one_more : (j i : ℕ) (b : Bool) → (j == i) ≡ b → (xs : List ℕ) → flushes_of i (xs ++ j ∷ []) ≡ flushes_of i xs + length (filter (λ (k : ℕ). k == i) (j ∷ []))
one_more j i b e xs = ap (length {A = ℕ}) (filter-append (λ (k : ℕ). k == i) xs (j ∷ [])) ∙ length-append (filter (λ (k : ℕ). k == i) xs) (filter (λ (k : ℕ). k == i) (j ∷ []))

one_is : (j i : ℕ) → j ≡ i → length (filter (λ (k : ℕ). k == i) (j ∷ [])) ≡ 1
one_is j i e = let same : (j == i) ≡ true = eq-eqb j i e in rw same refl

one_not : (j i : ℕ) → (j ≡ i → ⊥) → length (filter (λ (k : ℕ). k == i) (j ∷ [])) ≡ 0
one_not j i ne = let other : (j == i) ≡ false = ne_eqb j i ne in rw other refl

-- of its own stream
pub turn_counts : (j : ℕ) (a : Managing) (P P' : Progress) → flushed_by_turn j (Ok a) P P' → flushes_of j (flushed_in P'.events) ≡ flushes_of j (flushed_in P.events) + flushes_by a
turn_counts j did.Flushed P P' q = (let e = ap (flushes_of j) q in let more = one_more j j true (eq-eqb j j refl) (flushed_in P.events) in let one = one_is j j refl in omega (arith, e, more, one))
turn_counts j did.Idle P P' q = (let e = ap (flushes_of j) q in omega (arith, e))
turn_counts j did.Failed P P' q = (let e = ap (flushes_of j) q in omega (arith, e))

-- and of another
pub turn_spares : (j i : ℕ) → (i ≡ j → ⊥) → (a : Managing) (P P' : Progress) → flushed_by_turn j (Ok a) P P' → flushes_of i (flushed_in P'.events) ≡ flushes_of i (flushed_in P.events)
turn_spares j i ne did.Flushed P P' q = (let e = ap (flushes_of i) q in let more = one_more j i false (ne_eqb j i (λ e. ne (sym e))) (flushed_in P.events) in let none = one_not j i (λ e. ne (sym e)) in omega (arith, e, more, none))
turn_spares j i ne did.Idle P P' q = ap (flushes_of i) q
turn_spares j i ne did.Failed P P' q = ap (flushes_of i) q

-- a writer that is as it was, where no flush of its stream came
pub counts_spared : {D : Type 0} {G : Ghosts D} (l : Load) (i : ℕ) (es es' : List Event) (w w' : Writer D G) → flushes_of i (flushed_in es') ≡ flushes_of i (flushed_in es) → w ≡ w' → CountsTo l i es es' w w'
counts_spared {D} {G} l i es es' w w' same is = λ tells. (
  0,
  omega (arith, same),
  subst (λ (v : Writer D G). HasFlushed G 0 (has_failed w) (has_failed v) (disk_of w) (disk_of v)) is (flushed_none G (has_failed w) (has_failed w) (disk_of w) (not_both (has_failed w))),
  subst (λ (v : Writer D G). MayHalve l i 0 (has_failed w) (disk_of w) v) is (half_none l i 0 (has_failed w) (disk_of w) w (not_both (has_failed w))),
)
