-- Which calls a reading makes of the disks.
use Rattle.std.proofs.Common.{ℕ, ◌≡◌, ◌⊎◌, inl, inr, ◌+◌, ◌<◌, ◌≤◌, Bool, true, false, List, length, refl, sym, subst, ◌∙◌, arith}
use Rattle.std.specs.Prelude.{Some, slice_get}
use Rattle.std.proofs.Math.ListN.{set}
use Rattle.std.proofs.lemmas.Bool.{cases_eq}
use Rattle.std.proofs.lemmas.Bool.Decides.{leb_tells}
use Rattle.tau_disk.specs.Used.{GoesOn, AllCalls, IsStopped, IsFirstStopped}
use Rattle.tau_disk.specs.Disk.{WasToFail, WasRefused}
use Rattle.tau_scan.specs.Outside.{calls_to_read}
use Rattle.tau_base.proofs.Logic.{some_is}
use Rattle.tau_base.proofs.Lists.{get_set_same, get_set_other}

up_to : (n k : ℕ) → (k ≤ n) ⊎ (n < k)
up_to n k = elim (leb_tells k n) [ inl le ↦ inl le.1 | inr gt ↦ inr gt.1 ]

module _ {D : Type 0} (number : D → ℕ) (fails : D → ℕ → Bool) where
  pub goes_here : (d : D) → GoesOn number fails d d
  goes_here d = record { same = λ k. refl; later = omega arith; clean = λ k low high. absurd (omega (arith, low, high)) }

  -- one call that was not to fail
  pub goes_once : (d e : D) → ((k : ℕ) → fails e k ≡ fails d k) → number e ≡ number d + 1 → fails d (number d + 1) ≡ false → GoesOn number fails d e
  goes_once d e same next none = record {
    same = same;
    later = omega (arith, next);
    clean = λ k low high. (let is : number d + 1 ≡ k = omega (arith, low, high, next) in subst (λ (n : ℕ). fails d n ≡ false) is none);
  }

  pub goes_on : (d e f : D) → GoesOn number fails d e → GoesOn number fails e f → GoesOn number fails d f
  goes_on d e f a b = record {
    same = λ k. b.same k ∙ a.same k;
    later = (let x = a.later in let y = b.later in omega (arith, x, y));
    clean = λ k low high. elim (up_to (number e) k) [
      | inl early ↦ a.clean k low early
      | inr late ↦ sym (a.same k) ∙ b.clean k late high
    ];
  }

  module _ (tells : Type 0) (short : D → Bool) where
    -- one call that failed
    pub stops_once : (d e : D) → (tells → WasToFail (number d) (number e) (fails d) (short d) (short e) ⊎ WasRefused (number d) (number e) (fails d) (short e)) → IsStopped tells number fails short d e
    stops_once d e h told = elim (h told) [
      | inl made ↦ (let next = made.0 in inr (omega (arith, next), subst (λ (n : ℕ). fails d n ≡ true) (sym next) made.1, λ k low high. absurd (omega (arith, low, high, next))))
      | inr memory ↦ inl memory.1
    ]

    pub goes_stopped : (d e f : D) → GoesOn number fails d e → tells → IsStopped tells number fails short e f → IsStopped tells number fails short d f
    goes_stopped d e f a t stop told = elim (stop told) [
      | inl memory ↦ inl memory
      | inr made ↦ inr (
        (let x = a.later in let y = made.0 in omega (arith, x, y)),
        sym (a.same (number f)) ∙ made.1,
        λ k low high. elim (up_to (number e) k) [
          | inl early ↦ a.clean k low early
          | inr late ↦ sym (a.same k) ∙ made.2 k late high
        ],
      )
    ]

    -- no call of the disks below an index was one that is to fail; the others are as they were
    pub record IsGoing (old new : List D) (n : ℕ) : Type 0 where
      pub went : (j : ℕ) (d : D) → j < n → slice_get old j ≡ Some d → (e : D) × (slice_get new j ≡ Some e) × (tells → GoesOn number fails d e)
      pub calls : (j : ℕ) (d : D) → j < n → slice_get old j ≡ Some d → (e : D) × (slice_get new j ≡ Some e) × AllCalls tells number fails short calls_to_read d e
      pub rest : (k : ℕ) → n ≤ k → slice_get new k ≡ slice_get old k

    pub going_first : (old : List D) → IsGoing old old 0
    going_first old = record { went = λ j d lt was. absurd (omega (arith, lt)); calls = λ j d lt was. absurd (omega (arith, lt)); rest = λ k le. refl }

    -- what held of each disk below an index holds with one more
    one_more : (P : D → D → Type 0) (old new : List D) (n : ℕ) (d e : D) → ((k : ℕ) → n ≤ k → slice_get new k ≡ slice_get old k)
        → ((j : ℕ) (d : D) → j < n → slice_get old j ≡ Some d → (e : D) × (slice_get new j ≡ Some e) × P d e) → n < length new → slice_get new n ≡ Some d → P d e
        → (j : ℕ) (b : D) → j < n + 1 → slice_get old j ≡ Some b → (f : D) × (slice_get (set new n e) j ≡ Some f) × P b f
    one_more P old new n d e rest below low here made j b lt was = elim (cases_eq j n) [
      | inl same ↦
          let mine : slice_get old n ≡ Some b = subst (λ (k : ℕ). slice_get old k ≡ Some b) same was in
          let is : d ≡ b = some_is d b (sym here ∙ rest n (omega arith) ∙ mine) in
          (e, subst (λ (k : ℕ). slice_get (set new n e) k ≡ Some e) (sym same) (get_set_same new n e low), subst (λ (z : D). P z e) is made)
      | inr other ↦ (let f = below j b (omega (arith, lt, other)) was in (f.0, get_set_other new n j e other ∙ f.1, f.2))
    ]

    pub going_on : (old new : List D) (n : ℕ) (d e : D) → IsGoing old new n → n < length new → slice_get new n ≡ Some d → (tells → GoesOn number fails d e) → AllCalls tells number fails short calls_to_read d e → IsGoing old (set new n e) (n + 1)
    going_on old new n d e g low here goes calls = record {
      went = one_more (λ (a b : D). tells → GoesOn number fails a b) old new n d e g.rest g.went low here goes;
      calls = one_more (AllCalls tells number fails short calls_to_read) old new n d e g.rest g.calls low here calls;
      rest = λ k le. get_set_other new n k e (λ same. omega (arith, le, same)) ∙ g.rest k (omega (arith, le));
    }

    -- the disk at an index stopped
    pub stopped_there : (old new : List D) (n : ℕ) (d e : D) → IsGoing old new n → n < length new → slice_get new n ≡ Some d → tells → IsStopped tells number fails short d e → IsFirstStopped tells number fails short old (set new n e) n
    stopped_there old new n d e g low here t stop = (
      (d, e, sym (g.rest n (omega arith)) ∙ here, get_set_same new n e low, stop),
      λ j b lt was. (let f = g.went j b lt was in (f.0, get_set_other new n j e (λ same. omega (arith, lt, same)) ∙ f.1, λ told. (f.2 told).clean)),
    )
