-- What calls make of a disk, one after another.
use Rattle.std.proofs.Common.{ℕ, ◌≡◌, ◌+◌, ◌-◌, ◌<◌, ◌≤◌, ◌⊎◌, List, refl, sym, ◌∙◌, subst, inl, inr, true, false, arith}
use Rattle.std.specs.Prelude.{nat_lt}
use Rattle.std.proofs.lemmas.Bool.{cases_Bool}
use Rattle.std.proofs.lemmas.Bool.Decides.{nat_tests}
use Rattle.tau_disk.specs.declared.disk.Disk.{Ghosts}
use Rattle.tau_disk.specs.Disk.{Rose, Elapses, WasToFail, WasRefused}
use Rattle.tau_disk.proofs.Passing.{passes_none, passes_call}
use Rattle.tau_disk.specs.Plan.{MadeSome}
use Rattle.tau_disk.specs.Used.{OnlyRead, IsClean, IsStopped, AllCalls, GoesOn}
use Rattle.tau_disk.specs.Stages.{Went, Broke}

module _ {D : Type 0} (G : Ghosts D) where
  -- one call that read
  pub only_read : ((d : D) (t : ℕ) (x : List ℕ) → t ≤ G.moment d → G.may_leave d x → G.may_leave_since d t x) → (d e : D) → (G.tells → G.seen e ≡ G.seen d) → ((x : List ℕ) → G.may_leave e x → G.may_leave d x) → ((x : List ℕ) → G.may_leave d x → G.may_leave e x) →
      Elapses (G.moment d) (G.moment e) (G.may_leave_since d) (G.may_leave_since e) (G.may_leave e) → OnlyRead G.tells G.seen G.may_leave G.moment G.may_leave_since d e
  only_read counts_now d e same crash keeps time = record {
    same = same;
    no_more = crash;
    no_less = keeps;
    moments = passes_call G.moment G.may_leave_since G.may_leave counts_now d e (G.may_leave d) time crash;
  }

  pub untouched : (d : D) → OnlyRead G.tells G.seen G.may_leave G.moment G.may_leave_since d d
  untouched d = record {
    same = λ t. refl;
    no_more = λ x m. m;
    no_less = λ x m. m;
    moments = passes_none G.moment G.may_leave_since d (G.may_leave d);
  }

  pub one_went : (d e : D) → G.faults d ≤ G.faults e → (G.tells → (k : ℕ) → G.fails e k ≡ G.fails d k) →
      (G.tells → (G.number e ≡ G.number d + 1) × (G.fails d (G.number d + 1) ≡ false) × (G.short e ≡ G.short d)) → Went G 1 d e
  one_went d e count same one = record {
    counts = count;
    same = same;
    made = λ t.
        let (next, none, memory) = one t in
        (next, memory, λ k low high. let is : G.number d + 1 ≡ k = omega (arith, low, high) in subst (λ (n : ℕ). G.fails d n ≡ false) is none);
  }

  pub one_broke : (d e : D) → G.faults d ≤ G.faults e → Rose (G.faults d) (G.faults e) → (G.tells → (k : ℕ) → G.fails e k ≡ G.fails d k) →
      (G.tells → WasToFail (G.number d) (G.number e) (G.fails d) (G.short d) (G.short e) ⊎ WasRefused (G.number d) (G.number e) (G.fails d) (G.short e)) → Broke G 1 d e
  one_broke d e count rose same one = record {
    counts = count;
    rose = rose;
    same = same;
    made = λ t. elim (one t) [
      | inl made ↦ inl (omega (arith, made.0), omega (arith, made.0), subst (λ (n : ℕ). G.fails d n ≡ true) (sym made.0) made.1, λ k low high. absurd (omega (arith, low, high, made.0)))
      | inr memory ↦ inr memory.1
    ];
  }

  -- some calls after others

  both_same : (d e f : D) → (G.tells → (k : ℕ) → G.fails e k ≡ G.fails d k) → (G.tells → (k : ℕ) → G.fails f k ≡ G.fails e k) → G.tells → (k : ℕ) → G.fails f k ≡ G.fails d k
  both_same d e f first second t k = second t k ∙ first t k

  -- none of the calls up to a later one was to fail
  clean_on : (d e : D) (a b : ℕ) → ((k : ℕ) → G.fails e k ≡ G.fails d k) → ((k : ℕ) → G.number d < k → k ≤ a → G.fails d k ≡ false) → ((k : ℕ) → a < k → k ≤ b → G.fails e k ≡ false) →
      (k : ℕ) → G.number d < k → k ≤ b → G.fails d k ≡ false
  clean_on d e a b same first second k low high = elim (cases_Bool (nat_lt a k)) [
    | inl above ↦ sym (same k) ∙ second k (grind (arith, nat_tests, above)) high
    | inr below ↦ first k low (grind (arith, nat_tests, below))
  ]

  pub went_on : (a b : ℕ) (d e f : D) → Went G a d e → Went G b e f → Went G (a + b) d f
  went_on a b d e f first second = record {
    counts = omega (arith, first.counts, second.counts);
    same = both_same d e f first.same second.same;
    made = λ t.
        let (n1, s1, c1) = first.made t in
        let (n2, s2, c2) = second.made t in (
          omega (arith, n1, n2),
          s2 ∙ s1,
          λ k low high. clean_on d e (G.number e) (G.number d + (a + b)) (first.same t) (λ i lo hi. c1 i lo (omega (arith, hi, n1))) (λ i lo hi. c2 i lo (omega (arith, hi, n1))) k low high,
        );
  }

  pub went_broke : (a b : ℕ) (d e f : D) → Went G a d e → Broke G b e f → Broke G (a + b) d f
  went_broke a b d e f first second = record {
    counts = omega (arith, first.counts, second.counts);
    rose = omega (arith, first.counts, second.rose);
    same = both_same d e f first.same second.same;
    made = λ t.
        let (n1, s1, c1) = first.made t in
        elim (second.made t) [
          | inl made ↦ inl (
            omega (arith, n1, made.0),
            omega (arith, n1, made.1),
            sym (first.same t (G.number f)) ∙ made.2,
            λ k low high. let more = clean_on d e (G.number e) (G.number f - 1) (first.same t) (λ i lo hi. c1 i lo (omega (arith, hi, n1))) (λ i lo hi. made.3 i lo (omega (arith, hi, made.0))) k low in more (omega (arith, high)),
          )
          | inr memory ↦ inr memory
        ];
  }

  -- what is said of such calls at the top

  pub went_clean : (count : ℕ) (d e : D) → Went G count d e → IsClean G.tells G.number G.fails d e
  went_clean count d e went t k low high = let (next, memory, clean) = went.made t in clean k low (omega (arith, high, next))

  pub went_on_further : (count : ℕ) (d e : D) → Went G count d e → G.tells → GoesOn G.number G.fails d e
  went_on_further count d e went t = record { same = went.same t; later = omega (arith, (went.made t).0); clean = went_clean count d e went t }

  pub broke_stopped : (count : ℕ) (d e : D) → Broke G count d e → IsStopped G.tells G.number G.fails G.short d e
  broke_stopped count d e broke t = elim (broke.made t) [ inl made ↦ inr (made.0, made.2, made.3) | inr memory ↦ inl memory ]

  pub broke_early : (count : ℕ) (d e : D) → Broke G count d e → G.tells → (k : ℕ) × (k ≤ count) × (G.short e ≡ false → G.number e ≡ G.number d + k)
  broke_early count d e broke t = early (broke.made t)
    where
      early : MadeSome count (G.number d) (G.number e) (G.fails d) (G.short e) → (k : ℕ) × (k ≤ count) × (G.short e ≡ false → G.number e ≡ G.number d + k)
      early (inl made) = (G.number e - G.number d, omega (arith, made.1), λ s. omega (arith, made.0))
      early (inr memory) = (0, omega arith, λ s. absurd (cc))

  pub all_calls : (count : ℕ) (d e : D) → Went G count d e → AllCalls G.tells G.number G.fails G.short count d e
  all_calls count d e went t = went.made t
