-- What the asking and the making come to together.
use Rattle.std.proofs.Common.{ℕ, ◌≡◌, ◌+◌, ◌<◌, ◌≤◌, List, [], ◌++◌, refl, sym, ap, ◌∙◌, subst, inl, inr, true, length, map, take, drop, reverse, get_or, arith}
use Rattle.std.specs.Prelude.{Some, slice_get, nat_le, Result, Err}
use Rattle.std.proofs.lemmas.Bool.{cases_eq}
use Rattle.std.proofs.lemmas.Bool.Decides.{nat_tests}
use Rattle.std.proofs.lemmas.List.{take_at, reverse-reverse}
use Rattle.std.proofs.lemmas.Option.{slice_get_within, slice_get-get_or}
use Rattle.tau_base.specs.declared.format.Format.TheVariants.{One}
use Rattle.tau_block.specs.Image.{HasContent}
use Rattle.tau_disk.specs.declared.disk.Disk.{Ghosts}
use Rattle.tau_disk.proofs.Passing.{passes_weaker, passes_on, passes_none}
use Rattle.tau_stream.specs.declared.writer.Writer.{Writer}
use Rattle.tau_stream.specs.Stream.{IsOldOrNew, IsUnborn}
use Rattle.tau_stream.specs.Writer.{disk_of}
use Rattle.tau_open.specs.declared.refusal.OpenRefusal.{OpenRefusal}
use Rattle.tau_open.specs.declared.refusal.OpenRefusal.TheVariants.{NoMemory, Failed, NotEmpty}
use Rattle.tau_disk.specs.Used.{EachIn, OfDisk, AreEmpty, IsFirstLong, OnlyRead}
use Rattle.tau_open.specs.Opening.{Begins, Asked, IsCreated, FailsCreated, IsOpened, FailsOpened, AreAsked, FailsAsking, FailsMaking, GivesUp, Refuses, AreOpened}
use Rattle.tau_open.specs.Creating.{Creating, StopsCreating, Stops}
use Rattle.tau_open.proofs.Half.{half_asked}
use Rattle.tau_disk.proofs.Places.{get_dropped, dropped_more, each_then}
use Rattle.tau_disk.proofs.Calls.{went_on, went_broke}
use Rattle.tau_base.proofs.Logic.{some_is}

-- an unborn image has no content
pub unborn_content : (n j : ℕ) (x : List ℕ) → length x ≤ 17 → HasContent One n j [] x
unborn_content n j x short = let small : nat_le (length x) 17 ≡ true = grind (arith, nat_tests, short) in rw small refl

module _ {D : Type 0} (G : Ghosts D) (n : ℕ) (content : List ℕ) where
  -- a disk that was at most read begins no stream
  pub read_begins : (j : ℕ) (d e : D) → OnlyRead G.tells G.seen G.may_leave G.moment G.may_leave_since d e → Begins G n content j d e
  read_begins j d e read t unborn = passes_weaker G.moment G.may_leave_since d e (G.may_leave d) (IsOldOrNew One n j [] content) read.moments (λ x left. inl (unborn_content n j x (unborn x left)))

  pub still_begins : (j : ℕ) (d : D) → Begins G n content j d d
  still_begins j d t unborn = passes_none G.moment G.may_leave_since d (IsOldOrNew One n j [] content)

  begins_on : (j : ℕ) (d e f : D) → Asked G d e → Begins G n content j e f → Begins G n content j d f
  begins_on j d e f asked begins t unborn =
      let kept : IsUnborn (G.may_leave e) = λ x left. unborn x (asked.read.no_more x left) in
      passes_on G.moment G.may_leave_since d e f (IsOldOrNew One n j [] content) (IsOldOrNew One n j [] content) (IsOldOrNew One n j [] content) (read_begins j d e asked.read t unborn) (begins t kept) (λ x is. is) (λ x is. is)

  pub asked_created : (j : ℕ) (d e f : D) → Asked G d e → IsCreated G n content j e f → IsOpened G n content j d f
  asked_created j d e f asked created = record { went = went_on G 1 6 d e f asked.went created.went; begins = begins_on j d e f asked created.begins; holds = created.holds; last = λ t k. created.last t k ∙ asked.last t k }

  pub asked_failed : (j : ℕ) (d e f : D) → Asked G d e → FailsCreated G n content j e f → FailsOpened G n content j d f
  asked_failed j d e f asked fails = record {
    broke = went_broke G 1 6 d e f asked.went fails.broke;
    asked = λ t. (asked.went.made t).2 (G.number d + 1) (omega arith) (omega arith);
    begins = begins_on j d e f asked fails.begins;
    half = half_asked G n j content d e f asked fails.half;
  }

  module _ (old mid : List D) (asked : AreAsked G n old mid) (empty : AreEmpty G.tells G.seen old n) where
    was_there : (j : ℕ) (e : D) → slice_get mid j ≡ Some e → (d : D) × (slice_get old j ≡ Some d)
    was_there j e is = let low : j < length mid = slice_get_within mid j e is in (get_or old j e, slice_get-get_or old j e (omega (arith, low, asked.many)))

    -- where all lengths were asked, the disks are still empty
    pub still_empty : AreEmpty G.tells G.seen mid n
    still_empty j e low is t =
        let (d, was) = was_there j e is in
        let (f, there, r) = asked.each j d low was in
        ap G.seen (some_is e f (sym is ∙ there)) ∙ r.read.same t ∙ empty j d low was t

    pub opened : (new : List D) (writers : List (Writer D G)) → Creating G n content n mid new writers → AreOpened G n content old new writers
    opened new writers made = record {
      count = made.count;
      rest = made.rest ∙ asked.rest;
      empty = empty;
      disks = each_then (λ j. j < n) (λ j. Asked G) (IsCreated G n content) (IsOpened G n content) old mid (map disk_of writers) asked.each made.disks asked_created;
      begun = made.begun;
    }

    module _ (new : List D) (j : ℕ) (lt : j < n) (stop : StopsCreating G n content mid new j) where
      made_below : EachIn (λ i. i < j) (IsOpened G n content) old new
      made_below = each_then (λ i. i < j) (λ i. Asked G) (IsCreated G n content) (IsOpened G n content) old mid new (λ i d low was. asked.each i d (omega (arith, low, lt)) was) stop.below asked_created

      asked_above : EachIn (λ i. (j < i) × (i < n)) (λ i. Asked G) old new
      asked_above i d low was =
          let (e, there, r) = asked.each i d low.1 was in
          (e, get_dropped new mid (j + 1) i stop.rest (omega (arith, low.0)) ∙ there, r)

      rest_same : drop n new ≡ drop n old
      rest_same = dropped_more new mid (j + 1) n stop.rest (omega (arith, lt)) ∙ asked.rest

      pub gives_up : OfDisk (λ d e. e ≡ d) mid new j → GivesUp G n content j old new
      gives_up (e, f, there, now, same) = record {
        empty = empty;
        below = made_below;
        above = λ i d low was. elim (cases_eq i j) [
          | inl is ↦
              let (g, here, r) = asked.each i d low.1 was in
              let it : f ≡ g = same ∙ some_is e g (sym there ∙ subst (λ (k : ℕ). slice_get mid k ≡ Some g) is here) in
              (f, subst (λ (k : ℕ). slice_get new k ≡ Some f) (sym is) now, subst (λ (z : D). Asked G d z) (sym it) r)
          | inr other ↦ asked_above i d (omega (arith, low.0, other), low.1) was
        ];
        rest = rest_same;
        many = stop.many ∙ asked.many;
      }

      pub fails_making : OfDisk (FailsCreated G n content j) mid new j → FailsMaking G n content j old new
      fails_making (e, f, there, now, fails) =
          let (d, was) = was_there j e there in
          let (g, here, r) = asked.each j d lt was in
          let it : g ≡ e = some_is g e (sym here ∙ there) in
          record {
            empty = empty;
            below = made_below;
            here = (d, f, was, now, asked_failed j d e f (subst (λ (z : D). Asked G d z) it r) fails);
            above = asked_above;
            rest = rest_same;
            many = stop.many ∙ asked.many;
          }

    pub refuses : (new : List D) (refusal : OpenRefusal) → Stops G n content mid new refusal → Refuses G n content old new refusal
    refuses new NoMemory (j, lt, stop, same) = inr (j, lt, gives_up new j lt stop same)
    refuses new (Failed j) (lt, stop, fails) = (lt, inr (fails_making new j lt stop fails))
    refuses new (NotEmpty j long) never = absurd never

  -- the asking refuses
  pub asked_refuses : {T : Type 0} (old new : List D) (result : Result T OpenRefusal) (refusal : OpenRefusal) → result ≡ Err refusal →
      ((j long : ℕ) → result ≡ Err (NotEmpty j long) → (j < n) × AreAsked G n old new × (G.tells → IsFirstLong G.seen old j long)) →
      ((j : ℕ) → result ≡ Err (Failed j) → (j < n) × FailsAsking G j old new) → (result ≡ Err NoMemory → ⊥) → Refuses G n content old new refusal
  asked_refuses old new result NoMemory is long fails memory = absurd (memory is)
  asked_refuses old new result (Failed j) is long fails memory = let (lt, asking) = fails j is in (lt, inl asking)
  asked_refuses old new result (NotEmpty j size) is long fails memory = long j size is

-- what is read back of a list that was lent as a slice
pub whole_again : {D : Type 0} (n : ℕ) (old new : List D) → length new ≡ n → take n (new ++ drop (length new) old) ≡ new
whole_again n old new size = take_at new (drop (length new) old) n size

pub turned_twice : {D : Type 0} (n : ℕ) (old new turned : List D) → length new ≡ n → turned ≡ reverse (take n (new ++ drop (length new) old)) → reverse turned ≡ new
turned_twice {D} n old new turned size is = ap (λ (ds : List D). reverse ds) is ∙ reverse-reverse (take n (new ++ drop (length new) old)) ∙ whole_again n old new size
