-- The disks of a run, from the entry of the call to its end.
use Rattle.std.proofs.Common.{ℕ, zero, suc, ◌+◌, ◌-◌, ◌<◌, ◌≤◌, ◌≡◌, inl, inr, true, false, List, [], ◌∷◌, ◌++◌, map, length, refl, sym, ap, subst, ◌∙◌, arith}
use Rattle.std.specs.Prelude.{Some, None, slice_get}
use Rattle.std.proofs.lemmas.Bool.{cases_Bool}
use Rattle.std.proofs.lemmas.List.{append-nil}
use Rattle.tau_base.specs.declared.format.Format.{Format}
use Rattle.tau_base.specs.declared.format.Format.TheVariants.{One}
use Rattle.tau_base.specs.Modes.{format_of}
use Rattle.tau_block.specs.Image.{HasContent}
use Rattle.tau_disk.specs.declared.disk.Disk.{Ghosts}
use Rattle.tau_disk.specs.Disk.{Rose, Passes}
use Rattle.tau_disk.specs.Used.{EachIn, EachUsed, OfDisk, RoseAt, IsClean, IsStopped, IsFirstStopped, GoesOn, Made}
use Rattle.tau_stream.specs.declared.writer.Writer.{Writer}
use Rattle.tau_stream.specs.Stream.{IsOldOrNew, IsUnborn}
use Rattle.tau_stream.specs.Writer.{disk_of, has_failed}
use Rattle.tau_block.proofs.Blocks.{short_content}
use Rattle.tau_open.specs.Outside.{calls_to_open}
use Rattle.tau_disk.specs.Stages.{Went}
use Rattle.tau_open.specs.Opening.{IsOpened, AreOpened}
use Rattle.tau_disk.proofs.Calls.{went_on_further}
use Rattle.tau_scan.proofs.Plans.{goes_on, goes_stopped}
use Rattle.tau_machine.specs.State.{Core}
use Rattle.tau_core.specs.declared.state.Load.{Load}
use Rattle.tau_run.specs.StopsLeave.{HasFront, HasSomeFront, IsLeft}
use Rattle.tau_run.proofs.Imaged.{Leaves}
use Rattle.tau_engine.specs.DiskFacts.{Now, AreUnborn, NextClean}
use Rattle.tau_base.proofs.Lists.{some_at, got_mapped}
use Rattle.tau_base.proofs.Logic.{some_is}
use Rattle.tau_run.specs.Writers.{EachOf, Left}

pub mapped_got : {A B : Type 0} (f : A → B) (xs rest : List A) (more : List B) (j : ℕ) (x : A) → slice_get xs j ≡ Some x → slice_get (map f xs ++ more) j ≡ Some (f x)
mapped_got f [] rest more j x e = absurd (cc)
mapped_got {B = B} f (y ∷ xs) rest more zero x e = (let same = some_is y x e in ap (λ z. Some (f z)) same)
mapped_got f (y ∷ xs) rest more (suc j) x e = mapped_got f xs rest more j x e

-- a stop at some moment since the entry might have left this image of the disk
abbrev pub Past : {D : Type 0} → Ghosts D → List D → List D → ℕ → List ℕ → Type 0
Past G old new j x = OfDisk (λ d e. G.tells × G.may_leave_since e (G.moment d) x) old new j

-- since this moment there is no other
abbrev pub OnlyNow : {D : Type 0} → Ghosts D → Type 0
OnlyNow {D} G = (d : D) (x : List ℕ) → G.may_leave_since d (G.moment d) x → G.may_leave d x

-- How streams are opened: by how many calls of each disk, what each of them holds then, what must be known of its disk
-- before, and what a stop leaves meanwhile.
pub record Way (D : Type 0) : Type 1 where
  pub calls : ℕ → ℕ
  pub first : ℕ → List ℕ
  pub ready : ℕ → D → Type 0
  pub meanwhile : ℕ → List ℕ → Type 0

-- n streams with this catalogue, on disks that held nothing
abbrev pub fresh_way : {D : Type 0} → Ghosts D → ℕ → List ℕ → Way D
fresh_way G n catalogue = record { calls = λ j. calls_to_open; first = λ j. catalogue; ready = λ j d. IsUnborn (G.may_leave d); meanwhile = λ j x. IsOldOrNew One n j [] catalogue x }

module _ {D : Type 0} (G : Ghosts D) where
  -- ---- one stream

  module _ (n : ℕ) (way : Way D) (l : Load) (s : Core) where
    -- what was made of the disk of stream j: it was opened, and then what the run did with it
    pub record Joined (j : ℕ) (d e : D) : Type 0 where
      pub before : Writer D G
      pub after : Writer D G
      pub went : Went G (way.calls j) d (disk_of before)
      pub opens : G.tells → way.ready j d → Passes G.moment G.may_leave_since d (disk_of before) (way.meanwhile j)
      pub left : Left l s j (way.first j) before after
      pub is : e ≡ disk_of after

  module _ (n : ℕ) (catalogue : List ℕ) (l : Load) (s : Core) (old mid new : List D) (ws ws' : List (Writer D G)) (opened : AreOpened G n catalogue old mid ws) (back : new ≡ map disk_of ws' ++ mid) (ran : EachOf (λ j w w'. Left l s j catalogue w w') ws ws') where
    pub joined : EachIn (λ j. j < n) (Joined n (fresh_way G n catalogue) l s) old new
    joined j d lt was =
        let made = opened.disks j d lt was in
        let first = got_mapped (disk_of {D = D} {G = G}) ws j made.0 made.1 in
        let went = ran.each j first.0 first.1 in
        let there : slice_get new j ≡ Some (disk_of went.0) = ap (λ (ds : List D). slice_get ds j) back ∙ mapped_got (disk_of {D = D} {G = G}) ws' [] mid j went.0 went.1 in
        let here : IsOpened G n catalogue j d (disk_of first.0) = subst (λ (x : D). IsOpened G n catalogue j d x) (sym first.2) made.2 in
        (disk_of went.0, there, record { before = first.0; after = went.0; went = here.went; opens = here.begins; left = went.2; is = refl })

  module _ (n : ℕ) (way : Way D) (l : Load) (s : Core) (streams : l.streams ≡ n) (old new : List D) (many : n ≤ length old) (all : EachIn (λ j. j < n) (Joined n way l s) old new) where
    -- the disk of a stream as it is at the end
    at_end : (j : ℕ) → j < n → (d e : D) → slice_get old j ≡ Some d → slice_get new j ≡ Some e → Joined n way l s j d e
    at_end j lt d e was is =
        let h = all j d lt was in
        subst (λ (x : D). Joined n way l s j d x) (some_is h.0 e (sym h.1 ∙ is)) h.2

    at_start : (j : ℕ) → j < n → (d : D) × (e : D) × (slice_get old j ≡ Some d) × (slice_get new j ≡ Some e) × Joined n way l s j d e
    at_start j lt =
        let d = some_at old j (omega (arith, lt, many)) in
        let h = all j d.0 lt d.1 in
        (d.0, h.0, d.1, h.1, h.2)

    -- An image that a stop might have left since some moment before the stream was opened: where all that one left up to
    -- then has the old content, and so has what one left meanwhile, or it has what the stream holds first.
    pub since : (held : ℕ → List ℕ) (j : ℕ) (d e : D) → Joined n way l s j d e → G.tells → way.ready j d → ((x : List ℕ) → way.meanwhile j x → IsLeft n j (held j) (way.first j) l s x) →
        (t : ℕ) → t ≤ G.moment d → ((x : List ℕ) → G.may_leave_since d t x → HasContent (format_of l.mode) n j (held j) x) → (x : List ℕ) → G.may_leave_since e t x → IsLeft n j (held j) (way.first j) l s x
    since held j d e h tells ready opens t low before x so =
        let began = h.opens tells ready in
        let went = h.left.before tells in
        let now : G.may_leave_since (disk_of h.after) t x = subst (λ (y : D). G.may_leave_since y t x) h.is so in
        let later = began.later in
        elim (went.new_ones t x (omega (arith, low, later)) now) [
          | inl early ↦ elim (began.new_ones t x low early) [
            | inl first ↦ inl (before x first)
            | inr made ↦ opens x made
          ]
          | inr ran ↦ inr (subst (λ (k : ℕ). HasSomeFront k j (way.first j) l s x) streams ran)
        ]

    -- no call that opens a stream was to fail
    pub opens_clean : EachIn (λ j. j < n) (λ j. NextClean G.tells G.number G.fails (way.calls j)) old new
    opens_clean j d lt was = (let h = all j d lt was in (h.0, h.1, λ t. (h.2.went.made t).2))

    -- ---- a stream that is stopped has a disk that has failed

    pub has_stopped : (j at : ℕ) (d e : D) (h : Joined n way l s j d e) → (s.streams j).stop ≡ Some at → has_failed h.after ≡ true
    has_stopped j at d e h stop = elim (cases_Bool (has_failed h.after)) [
      | inl failed ↦ failed
      | inr works ↦ absurd (let f : None ≡ Some at = sym (h.left.goes works).0 ∙ stop in cc f)
    ]

    pub goes : (j : ℕ) (d e : D) (h : Joined n way l s j d e) → (s.streams j).stop ≡ None → G.tells → GoesOn G.number G.fails d e
    goes j d e h none t = elim (cases_Bool (has_failed h.after)) [
      | inl failed ↦ (let stop = (h.left.stops failed).0 in absurd (let f : None ≡ Some stop.0 = sym none ∙ stop.1 in cc f))
      | inr works ↦ subst (λ (x : D). GoesOn G.number G.fails d x) (sym h.is) (goes_on G.number G.fails d (disk_of h.before) (disk_of h.after) (went_on_further G (way.calls j) d (disk_of h.before) h.went t) ((h.left.goes works).1 t))
    ]

    pub rose : (j at : ℕ) (d e : D) → Joined n way l s j d e → (s.streams j).stop ≡ Some at → Rose (G.faults d) (G.faults e)
    rose j at d e h stop =
        let more = (h.left.stops (has_stopped j at d e h stop)).1 in
        let few = h.went.counts in
        subst (λ (x : D). Rose (G.faults d) (G.faults x)) (sym h.is) (omega (arith, more, few))

    pub stopped : (j at : ℕ) (d e : D) (h : Joined n way l s j d e) → (s.streams j).stop ≡ Some at → G.tells → IsStopped G.tells G.number G.fails G.short d e
    stopped j at d e h stop t =
        subst (λ (x : D). IsStopped G.tells G.number G.fails G.short d x) (sym h.is)
        (goes_stopped G.number G.fails G.tells G.short d (disk_of h.before) (disk_of h.after) (went_on_further G (way.calls j) d (disk_of h.before) h.went t) t (h.left.stops (has_stopped j at d e h stop)).2)

    pub rose_at : (j at : ℕ) → j < n → (s.streams j).stop ≡ Some at → RoseAt G.faults old new j
    rose_at j at lt stop = (let (d, e, was, is, h) = at_start j lt in (d, e, was, is, rose j at d e h stop))

    pub clean_below : (i : ℕ) → i ≤ n → ((j : ℕ) → j < i → (s.streams j).stop ≡ None) → EachUsed (IsClean G.tells G.number G.fails) old new i
    clean_below i le none j d lt was =
        let low : j < n = omega (arith, lt, le) in
        let h = all j d low was in
        (h.0, h.1, λ t. (goes j d h.0 h.2 (none j lt) t).clean)

    pub first_stopped : (j at : ℕ) → j < n → (s.streams j).stop ≡ Some at → ((i : ℕ) → i < j → (s.streams i).stop ≡ None) → G.tells → IsFirstStopped G.tells G.number G.fails G.short old new j
    first_stopped j at lt stop below t =
        (let (d, e, was, is, h) = at_start j lt in ((d, e, was, is, stopped j at d e h stop t), clean_below j (omega (arith, lt)) below))

    pub made_all : (j : ℕ) → j < n → (k : ℕ) × (way.calls j ≤ k) × (G.tells → Made G.number G.short old new j k)
    made_all j lt =
        let (d, e, was, is, h) = at_start j lt in
        (way.calls j + (G.number e - (G.number d + way.calls j)), omega arith, λ t. (d, e, was, is, λ no_memory. counted d e h t no_memory))
      where
        counted : (d e : D) → Joined n way l s j d e → G.tells → G.short e ≡ false → G.number e ≡ G.number d + (way.calls j + (G.number e - (G.number d + way.calls j)))
        counted d e h t no_memory =
            let first = (h.went.made t).0 in
            let size : G.number d + way.calls j ≤ G.number e = subst (λ (x : D). G.number d + way.calls j ≤ G.number x) (sym h.is) (elim (cases_Bool (has_failed h.after)) [
              | inl failed ↦ elim ((h.left.stops failed).2 t) [
                | inl memory ↦ absurd (let g : true ≡ false = sym memory ∙ sym (ap G.short h.is) ∙ no_memory in cc g)
                | inr made ↦ (let later = made.0 in omega (arith, first, later))
              ]
              | inr works ↦ (let later = ((h.left.goes works).1 t).later in omega (arith, first, later))
            ]) in
            omega (arith, size)

    -- ---- what a stop now may leave

    pub leaves : ((i at : ℕ) → (s.streams i).stop ≡ Some at → i < n) → Leaves n way.first l s (Now G.tells G.may_leave old new) (RoseAt G.faults old new)
    leaves low = record {
      present = λ j x lt q.
          (let (d, e, was, is, (t, now)) = q in
          let h = at_end j lt d e was is in
          let p = h.left.present t x (subst (λ (y : D). G.may_leave y x) h.is now) in
          (p.0, subst (λ (k : ℕ). HasFront k j (way.first j) l s p.0 x) streams p.1, p.2));
      reached = λ j x lt q.
          (let (d, e, was, is, (t, now)) = q in
          let h = at_end j lt d e was is in
          let p = h.left.reached t in
          (p.0, p.1, (d, e, was, is, (t, subst (λ (y : D). G.may_leave y p.0) (sym h.is) p.2)), subst (λ (k : ℕ). HasContent (format_of l.mode) k j p.1 p.0) streams p.3, p.4));
      stopped = λ j at stop. rose_at j at (low j at stop) stop;
    }

  -- ---- streams that are made on disks that held nothing

  module _ (n : ℕ) (catalogue : List ℕ) (l : Load) (s : Core) (streams : l.streams ≡ n) (old new : List D) (many : n ≤ length old) (all : EachIn (λ j. j < n) (Joined n (fresh_way G n catalogue) l s) old new) (narrow : One ≡ format_of l.mode) where
    made_so : (j : ℕ) (x : List ℕ) → IsOldOrNew One n j [] catalogue x → IsLeft n j [] catalogue l s x
    made_so j x (inl none) = inl (subst (λ (f : Format). HasContent f n j [] x) narrow none)
    made_so j x (inr whole) =
        let has : HasContent (format_of l.mode) n j catalogue x = subst (λ (f : Format). HasContent f n j catalogue x) narrow whole in
        inr ([], record { count = 0; spelled = refl; has = subst (λ (c : List ℕ). HasContent (format_of l.mode) n j c x) (sym (append-nil catalogue)) has })

    -- an image that a stop since the entry might have left
    pub left_since : OnlyNow G → AreUnborn G.tells G.may_leave old n → (j : ℕ) (x : List ℕ) → j < n → Past G old new j x → IsLeft n j [] catalogue l s x
    left_since only_now unborn j x lt (d, e, was, is, (t, so)) =
        let way : Way D = fresh_way G n catalogue in
        since n way l s streams old new many all (λ i. []) j d e (at_end n way l s streams old new many all j lt d e was is) t (unborn j d lt was t) (made_so j) (G.moment d) (omega arith)
        (λ y first. short_content (format_of l.mode) n j y (unborn j d lt was t y (only_now d y first))) x so
