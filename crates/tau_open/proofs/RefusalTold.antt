-- What a refusal tells of the disks.
use Rattle.std.proofs.Common.{ℕ, ◌≡◌, ◌+◌, ◌<◌, ◌≤◌, ◌⊎◌, List, sym, ap, ◌∙◌, subst, inl, inr, ⊎_elim, length, drop, arith}
use Rattle.std.specs.Prelude.{Some, slice_get, Result, Ok, Err, IfOk, IfErr, OnErr}
use Rattle.std.proofs.lemmas.Bool.{cases_eq}
use Rattle.tau_disk.specs.declared.disk.Disk.{Ghosts}
use Rattle.tau_open.specs.declared.refusal.OpenRefusal.{OpenRefusal}
use Rattle.tau_open.specs.declared.refusal.OpenRefusal.TheVariants.{NoMemory, Failed, NotEmpty}
use Rattle.tau_disk.specs.Used.{EachIn, EachUsed, OfDisk, RoseAt, AreEmpty, IsFirstLong, OnlyRead, IsClean, IsStopped, IsFirstStopped, Made}
use Rattle.tau_open.specs.Outside.{calls_to_open}
use Rattle.tau_open.specs.Opening.{Begins, Asked, FailsAsked, IsOpened, FailsOpened, AreAsked, FailsAsking, FailsMaking, GivesUp, Refuses, TellsLong}
use Rattle.tau_disk.proofs.Places.{get_dropped, dropped_more, each_weaker, each_same}
use Rattle.tau_disk.proofs.Calls.{untouched, went_clean, broke_stopped, broke_early}
use Rattle.tau_open.proofs.Joined.{read_begins, still_begins}
use Rattle.tau_base.proofs.Logic.{below_or_not, some_is}

cases_lt : (i j : ℕ) → (i ≡ j → ⊥) → (i < j) ⊎ (j < i)
cases_lt i j other = grind arith

module _ {D : Type 0} (G : Ghosts D) (n : ℕ) (content : List ℕ) (old new : List D) where
  of_weaker : (R S : D → D → Type 0) (j : ℕ) → OfDisk R old new j → ((d e : D) → R d e → S d e) → OfDisk S old new j
  of_weaker R S j (d, e, was, is, r) weaker = (d, e, was, is, weaker d e r)

  -- a failure

  pub failed_rose : (j : ℕ) → Refuses G n content old new (Failed j) → (j < n) × RoseAt G.faults old new j
  failed_rose j (lt, inl asking) = (lt, let (d, e, was, is, r) = asking.here in (d, e, was, is, r.broke.rose))
  failed_rose j (lt, inr making) = (lt, let (d, e, was, is, r) = making.here in (d, e, was, is, r.broke.rose))

  pub failed_first : (j : ℕ) → Refuses G n content old new (Failed j) → IsFirstStopped G.tells G.number G.fails G.short old new j
  failed_first j (lt, inl asking) = (
    of_weaker (FailsAsked G) (IsStopped G.tells G.number G.fails G.short) j asking.here (λ d e r. broke_stopped G 1 d e r.broke),
    each_weaker (λ i. i < j) (λ i. i < j) (λ i. Asked G) (λ i. IsClean G.tells G.number G.fails) old new asking.below (λ i low. low) (λ i d e r. went_clean G 1 d e r.went),
  )
  failed_first j (lt, inr making) = (
    of_weaker (FailsOpened G n content j) (IsStopped G.tells G.number G.fails G.short) j making.here (λ d e r. broke_stopped G 7 d e r.broke),
    each_weaker (λ i. i < j) (λ i. i < j) (IsOpened G n content) (λ i. IsClean G.tells G.number G.fails) old new making.below (λ i low. low) (λ i d e r. went_clean G 7 d e r.went),
  )

  pub failed_early : (j : ℕ) → Refuses G n content old new (Failed j) → G.tells → (k : ℕ) × (k ≤ calls_to_open) × Made G.number G.short old new j k
  failed_early j (lt, inl asking) t =
      let (d, e, was, is, r) = asking.here in
      let (k, few, made) = broke_early G 1 d e r.broke t in
      (k, omega (arith, few), (d, e, was, is, made))
  failed_early j (lt, inr making) t =
      let (d, e, was, is, r) = making.here in
      let (k, few, made) = broke_early G 7 d e r.broke t in
      (k, few, (d, e, was, is, made))

  -- where the disks stand

  pub rest_stands : (refusal : OpenRefusal) → Refuses G n content old new refusal → drop n new ≡ drop n old
  rest_stands NoMemory (inl same) = ap (λ (ds : List D). drop n ds) same
  rest_stands NoMemory (inr (j, lt, given)) = given.rest
  rest_stands (Failed j) (lt, inl asking) = dropped_more new old (j + 1) n asking.rest (omega (arith, lt))
  rest_stands (Failed j) (lt, inr making) = making.rest
  rest_stands (NotEmpty j long) (lt, asked, first) = asked.rest

  -- what was read

  only_asked : AreAsked G n old new → EachUsed (OnlyRead G.tells G.seen G.may_leave G.moment G.may_leave_since) old new n
  only_asked asked i d low was = let (e, is, r) = asked.each i d low was in (e, is, r.read)

  only_read_here : (j : ℕ) → FailsAsking G j old new → EachUsed (OnlyRead G.tells G.seen G.may_leave G.moment G.may_leave_since) old new n
  only_read_here j asking i d low was = elim (cases_eq i j) [
    | inl same ↦
        let (b, e, had, is, r) = asking.here in
        let it : b ≡ d = some_is b d (sym had ∙ subst (λ (k : ℕ). slice_get old k ≡ Some d) same was) in
        (e, subst (λ (k : ℕ). slice_get new k ≡ Some e) (sym same) is, subst (λ (z : D). OnlyRead G.tells G.seen G.may_leave G.moment G.may_leave_since z e) it r.read)
    | inr other ↦ elim (cases_lt i j other) [
      | inl below ↦ let (e, is, r) = asking.below i d below was in (e, is, r.read)
      | inr above ↦ (d, get_dropped new old (j + 1) i asking.rest (omega (arith, above)) ∙ was, untouched G d)
    ]
  ]

  held_nothing : (j long : ℕ) → AreEmpty G.tells G.seen old n → j < n → G.tells → IsFirstLong G.seen old j long → ⊥
  held_nothing j long empty lt t ((d, was, size), some, lower) =
      let none : length (G.seen d) ≡ 0 = ap (λ (xs : List ℕ). length xs) (empty j d lt was t) in
      omega (arith, size, none, some)

  -- two disks that are the first with a length are one
  one_first : (i j a b : ℕ) → IsFirstLong G.seen old i a → IsFirstLong G.seen old j b → i < j → ⊥
  one_first i j a b ((d, was, size), some, lower) (it, more, below) low =
      let none : length (G.seen d) ≡ 0 = ap (λ (xs : List ℕ). length xs) (below i d low was) in
      omega (arith, size, none, some)

  pub same_first : (i j a b : ℕ) → IsFirstLong G.seen old i a → IsFirstLong G.seen old j b → (i ≡ j) × (a ≡ b)
  same_first i j a b first second = elim (cases_eq i j) [
    | inl same ↦
        let (d, was, size) = first.0 in
        let (e, had, long) = second.0 in
        let it : d ≡ e = some_is d e (sym was ∙ subst (λ (k : ℕ). slice_get old k ≡ Some e) (sym same) had) in
        (same, sym size ∙ ap (λ (z : D). length (G.seen z)) it ∙ long)
    | inr other ↦ absurd (⊎_elim (λ low. one_first i j a b first second low) (λ low. one_first j i b a second first low) (cases_lt i j other))
  ]

  pub long_told : {T : Type 0} (P : T → Type 0) (result : Result T OpenRefusal) → ((x : T) → P x → AreEmpty G.tells G.seen old n) → IfOk result P → IfErr result (Refuses G n content old new) →
      (j long : ℕ) → j < n → G.tells → IsFirstLong G.seen old j long → TellsLong j long result × EachUsed (OnlyRead G.tells G.seen G.may_leave G.moment G.may_leave_since) old new n
  long_told P (Ok x) empty ok err j long lt t first = absurd (held_nothing j long (empty x ok) lt t first)
  long_told P (Err NoMemory) empty ok (inl same) j long lt t first = (tt, each_same (λ i. i < n) (λ i. OnlyRead G.tells G.seen G.may_leave G.moment G.may_leave_since) old new (λ i low. ap (λ (ds : List D). slice_get ds i) same) (λ i d. untouched G d))
  long_told P (Err NoMemory) empty ok (inr (i, low, given)) j long lt t first = absurd (held_nothing j long given.empty lt t first)
  long_told P (Err (Failed i)) empty ok (low, inl asking) j long lt t first = (tt, only_read_here i asking)
  long_told P (Err (Failed i)) empty ok (low, inr making) j long lt t first = absurd (held_nothing j long making.empty lt t first)
  long_told P (Err (NotEmpty i size)) empty ok (low, asked, named) j long lt t first = (same_first i j size long (named t) first, only_asked asked)

  -- what a stop may leave

  only_begins : EachUsed (OnlyRead G.tells G.seen G.may_leave G.moment G.may_leave_since) old new n → EachIn (λ j. j < n) (Begins G n content) old new
  only_begins each = each_weaker (λ i. i < n) (λ i. i < n) (λ i. OnlyRead G.tells G.seen G.may_leave G.moment G.may_leave_since) (Begins G n content) old new each (λ i low. low) (read_begins G n content)

  given_begins : (j : ℕ) → GivesUp G n content j old new → EachIn (λ i. i < n) (Begins G n content) old new
  given_begins j given i d low was = ⊎_elim
      (λ below. let (e, is, r) = given.below i d below was in (e, is, r.begins))
      (λ above. let (e, is, r) = given.above i d (above, low) was in (e, is, read_begins G n content i d e r.read))
      (below_or_not i j)

  making_begins : (j : ℕ) → FailsMaking G n content j old new → EachIn (λ i. i < n) (Begins G n content) old new
  making_begins j making i d low was = elim (cases_eq i j) [
    | inl same ↦
        let (b, e, had, is, r) = making.here in
        let it : b ≡ d = some_is b d (sym had ∙ subst (λ (k : ℕ). slice_get old k ≡ Some d) same was) in
        (e, subst (λ (k : ℕ). slice_get new k ≡ Some e) (sym same) is, subst (λ (k : ℕ). Begins G n content k d e) (sym same) (subst (λ (z : D). Begins G n content j z e) it r.begins))
    | inr other ↦ ⊎_elim
        (λ below. let (e, is, r) = making.below i d below was in (e, is, r.begins))
        (λ above. let (e, is, r) = making.above i d (above, low) was in (e, is, read_begins G n content i d e r.read))
        (cases_lt i j other)
  ]

  pub refusal_begins : (refusal : OpenRefusal) → Refuses G n content old new refusal → EachIn (λ j. j < n) (Begins G n content) old new
  refusal_begins NoMemory (inl same) = each_same (λ i. i < n) (Begins G n content) old new (λ i low. ap (λ (ds : List D). slice_get ds i) same) (still_begins G n content)
  refusal_begins NoMemory (inr (j, lt, given)) = given_begins j given
  refusal_begins (Failed j) (lt, inl asking) = only_begins (only_read_here j asking)
  refusal_begins (Failed j) (lt, inr making) = making_begins j making
  refusal_begins (NotEmpty j long) (lt, asked, first) = only_begins (only_asked asked)

-- the refusal of an answer
pub refusal_is : {T : Type 0} (P : OpenRefusal → Type 0) (result : Result T OpenRefusal) (refusal : OpenRefusal) → result ≡ Err refusal → IfErr result P → P refusal
refusal_is {T} P result refusal is told = subst (λ (r : Result T OpenRefusal). IfErr r P) is told

pub on_refusal : {T : Type 0} (P : OpenRefusal → Type 0) (Q : Type 0) (result : Result T OpenRefusal) → ((refusal : OpenRefusal) → P refusal → Q) → IfErr result P → OnErr result Q
on_refusal P Q (Ok x) tells told = tt
on_refusal P Q (Err refusal) tells told = tells refusal told
