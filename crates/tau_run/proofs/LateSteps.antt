-- The last part of a run in either style: once rounds have ended no worker has anything to do nor has peeked, and what
-- follows is as in the style Locking.
use Rattle.std.proofs.Common.{ℕ, ◌<◌, ◌≤◌, ◌≡◌, Bool, true, false, inl, inr, List, [], ◌∷◌, ◌++◌, map, refl, sym, ap, subst, ◌∙◌, arith, lt-ltb, le-ltb, append_assoc, append-nil, zero, suc}
use Rattle.std.specs.Prelude.{◌&&◌, ◌||◌, not, nat_lt, is_some}
use Rattle.std.specs.List.{list_any}
use Rattle.std.proofs.lemmas.Bool.{cases_Bool, cases_eq, cases_lt, and_parts}
use Rattle.tau_base.specs.declared.value.Key.{Key}
use Rattle.tau_base.specs.declared.value.Value.{Value}
use Rattle.tau_shard.specs.Shard.{at}
use Rattle.tau_machine.specs.State.{Setting, Core}
use Rattle.tau_machine.specs.Events.{Event, Lock, Busy, Quit, Commit, Post, Free, FirstFree, Done, DoneReading, Drop, Gather, PlaceAnchor, Persist, Ack, Stop, Resume}
use Rattle.tau_shard.proofs.At.{at_same, at_other}
use Rattle.tau_occ.specs.declared.style.Style.{Style}
use Rattle.tau_occ.specs.declared.style.Style.TheVariants.{Locking, Optimistic}
use Rattle.tau_text.specs.declared.load.Turn.{Turn}
use Rattle.tau_text.specs.declared.load.Turn.TheVariants as turn
use Rattle.tau_run.specs.Run.{below}
use Rattle.tau_run.specs.Turns.{begun, is_empty, is_raised, is_going, any_left, round}
use Rattle.tau_run.specs.Schedule as todo
use Rattle.tau_run.specs.Schedule.{Todo, RunState, still, Does, Acts, TakesTurn, Steps, here, on, IsWhole, todos_of, is_flushed, has_covered, has_turn, any_turn, peeks_after}
use Rattle.tau_run.proofs.Steps.{if_known}

cons_first : (a b : Todo) (xs ys : List Todo) → a ∷ xs ≡ b ∷ ys → a ≡ b
cons_first a b xs ys e = cc

cons_rest : (a b : Todo) (xs ys : List Todo) → a ∷ xs ≡ b ∷ ys → xs ≡ ys
cons_rest a b xs ys e = cc

none_cons : (a : Todo) (xs : List Todo) → [] ≡ a ∷ xs → ⊥
none_cons a xs e = cc

none_before : (xs : List Todo) (b : Todo) (ys : List Todo) → [] ≡ xs ++ b ∷ ys → ⊥
none_before [] b ys e = none_cons b ys e
none_before (a ∷ xs) b ys e = none_cons a (xs ++ b ∷ ys) e

at_none : (u w : ℕ) (f : ℕ → List (Key × Value)) → f w ≡ [] → at u [] f w ≡ []
at_none u w f is = elim (cases_eq w u) [
  | inl e ↦ subst (λ (k : ℕ). at u [] f k ≡ []) (sym e) (at_same u [] f)
  | inr ne ↦ at_other u [] f w ne ∙ is
]

after_none : (style : Style) (e : Event) (f : ℕ → List (Key × Value)) (w : ℕ) → f w ≡ [] → peeks_after style e f w ≡ []
after_none Locking e f w is = is
after_none Optimistic (Lock u) f w is = is
after_none Optimistic (Busy u) f w is = at_none u w f is
after_none Optimistic (Quit u up) f w is = is
after_none Optimistic (Commit u) f w is = is
after_none Optimistic (Post u) f w is = is
after_none Optimistic (Free u) f w is = is
after_none Optimistic (FirstFree u) f w is = is
after_none Optimistic (Done u) f w is = at_none u w f is
after_none Optimistic (DoneReading u) f w is = at_none u w f is
after_none Optimistic (Drop i v) f w is = is
after_none Optimistic (Gather j) f w is = is
after_none Optimistic (PlaceAnchor j v) f w is = is
after_none Optimistic (Persist j u) f w is = is
after_none Optimistic (Ack u v) f w is = is
after_none Optimistic (Stop j u) f w is = is
after_none Optimistic (Resume u) f w is = is

has_none : (a h : Bool) (ps : List (Key × Value)) (k : Bool) → a ≡ true → (a && (h || (not (is_empty ps) || k))) ≡ false → ps ≡ []
has_none true h [] k t e = refl
has_none true true (p ∷ ps) k t e = absurd (let bad : true ≡ false = e in cc)
has_none true false (p ∷ ps) k t e = absurd (let bad : true ≡ false = e in cc)
has_none false h ps k t e = absurd (let bad : false ≡ true = t in cc)

any_member : (f : ℕ → Bool) (xs ys : List ℕ) (i : ℕ) → list_any f (xs ++ i ∷ ys) ≡ false → f i ≡ false
any_member f [] ys i e = elim (cases_Bool (f i)) [
  | inl yes' ↦ absurd (let bad : true ≡ false = rw yes' at e in cc)
  | inr no' ↦ no'
]
any_member f (x ∷ xs) ys i e = elim (cases_Bool (f x)) [
  | inl yes' ↦ absurd (let bad : true ≡ false = rw yes' at e in cc)
  | inr no' ↦ any_member f xs ys i (rw no' at e)
]

none_of_below : (f : ℕ → Bool) (m : ℕ) → list_any f (below m) ≡ false → (i : ℕ) → i < m → f i ≡ false
none_of_below f m e i lt = let (ys, is) = split m lt in any_member f (below i) ys i (ap (list_any f) (sym is) ∙ e)
  where
    split : (m : ℕ) → i < m → (ys : List ℕ) × (below m ≡ below i ++ i ∷ ys)
    split zero lt = absurd (omega (arith, lt))
    split (suc m) lt = elim (cases_eq i m) [
      | inl same ↦ ([], ap (λ (k : ℕ). below k ++ k ∷ []) (sym same))
      | inr other ↦ let (ys, is) = split m (omega (arith, lt, other)) in (ys ++ m ∷ [], ap (λ (l : List ℕ). l ++ m ∷ []) is ∙ append_assoc (below i) (i ∷ ys) (m ∷ []))
    ]

module _ (set : Setting) (m n : ℕ) where
  -- what is done in front, and what is done then
  steps_split : (style : Style) (xs ys todos : List Todo) (x z : RunState) → todos ≡ xs ++ ys → Steps set m n style todos x [] z → (y : RunState) × Steps set m n style xs x [] y × Steps set m n style ys y [] z
  steps_split style [] ys todos x z e s = (x, here, subst (λ (l : List Todo). Steps set m n style l x [] z) e s)
  steps_split style (t ∷ xs) ys todos x z e here = absurd (none_cons t (xs ++ ys) e)
  steps_split style (t ∷ xs) ys todos x z e (on {todo = u} {todos = us} {y = a} more d s) =
      let (y, first, second) = steps_split style (more ++ xs) ys (more ++ us) a z (ap (λ (l : List Todo). more ++ l) (cons_rest u t us (xs ++ ys) e) ∙ sym (append_assoc more xs ys)) s in
      let front : Steps set m n style (t ∷ xs) x [] y = on more (subst (λ (k : Todo). Does set m n style k x more a) (cons_first u t us (xs ++ ys) e) d) first in
      (y, front, second)

  nothing_left : (style : Style) (todos : List Todo) (x z : RunState) → todos ≡ [] → Steps set m n style todos x [] z → z ≡ x
  nothing_left style todos x z e here = refl
  nothing_left style todos x z e (on {todo = u} {todos = us} more d s) = absurd (none_cons u us (sym e))

  -- once rounds have ended no worker has anything to do
  rounds_end : (style : Style) (xs todos : List Todo) (x z : RunState) → Steps set m n style todos x [] z → todos ≡ xs ++ todo.Rounds ∷ [] → any_turn set m n z ≡ false
  rounds_end style xs todos x z here e = absurd (none_before xs todo.Rounds [] e)
  rounds_end style [] todos x z (on {todo = u} {todos = us} {y = a} more d s) e =
      let tail : us ≡ [] = cons_rest u todo.Rounds us [] e in
      if_known (any_turn set m n x) _ _ (any_turn set m n z ≡ false) (subst (λ (k : Todo). Does set m n style k x more a) (cons_first u todo.Rounds us [] e) d)
      (λ yes b. rounds_end style (map todo.Word (round set m n)) (more ++ us) a z s (ap (λ (l : List Todo). more ++ l) tail ∙ ends more (map todo.Word (round set m n) ++ todo.Rounds ∷ []) b.0))
      (λ no b. subst (λ (y : RunState). any_turn set m n y ≡ false) (sym (nothing_left style (more ++ us) a z (ap (λ (l : List Todo). more ++ l) tail ∙ ends more [] b.0) s ∙ b.1)) no)
    where
      ends : (more others : List Todo) → more ≡ others → more ++ [] ≡ others
      ends more others e = append-nil more ∙ e
  rounds_end style (t ∷ xs) todos x z (on {todo = u} {todos = us} {y = a} more d s) e =
      rounds_end style (more ++ xs) (more ++ us) a z s (ap (λ (l : List Todo). more ++ l) (cons_rest u t us (xs ++ todo.Rounds ∷ []) e) ∙ sym (append_assoc more xs (todo.Rounds ∷ [])))

  -- ---- nobody beyond the workers peeks

  abbrev pub Beyond : RunState → Type 0
  Beyond x = (w : ℕ) → m ≤ w → x.peeks w ≡ []

  beyond_same : (x y : RunState) → Beyond x → y ≡ x → Beyond y
  beyond_same x y b e = subst Beyond (sym e) b

  beyond_kept : (x y : RunState) → Beyond x → y.peeks ≡ x.peeks → Beyond y
  beyond_kept x y b e = λ w le. ap (λ (f : ℕ → List (Key × Value)). f w) e ∙ b w le

  beyond_acts : (style : Style) (w : ℕ) (x y : RunState) → Beyond x → Acts set m n style w x y → Beyond y
  beyond_acts style w x y b a = λ u le. ap (λ (f : ℕ → List (Key × Value)). f u) a.peeks ∙ after_none style a.event x.peeks u (b u le)

  beyond_takes : (style : Style) (w : ℕ) (x y : RunState) → has_turn set m n x w ≡ true → Beyond x → TakesTurn set m n style w x y → Beyond y
  beyond_takes Locking w x y turns b a = beyond_acts Locking w x y b a
  beyond_takes Optimistic w x y turns b (inl p) = λ u le.
      ap (λ (z : RunState). z.peeks u) p.after ∙ at_other w _ x.peeks u (λ same. is_below u (subst (λ (k : ℕ). nat_lt k m ≡ true) (sym same) (and_parts (nat_lt w m) _ turns).0) le) ∙ b u le
    where
      is_below : (u : ℕ) → nat_lt u m ≡ true → m ≤ u → ⊥
      is_below u t le = let bad : true ≡ false = sym t ∙ le-ltb u m le in cc
  beyond_takes Optimistic w x y turns b (inr a) = beyond_acts Optimistic w x y b a.1

  beyond_does : (style : Style) (t : Todo) (x : RunState) (more : List Todo) (y : RunState) → Beyond x → Does set m n style t x more y → Beyond y
  beyond_does style (todo.Word (turn.Worker w)) x more y b d = if_known (has_turn set m n x w) _ _ (Beyond y) d (λ e a. beyond_takes style w x y e b a.1) (λ e a. beyond_same x y b a.1)
  beyond_does style (todo.Word (turn.Manager j)) x more y b d = if_known (is_going set m n x.progress.state j) _ _ (Beyond y) d (λ e a. beyond_kept x y b a.2) (λ e a. beyond_same x y b a.1)
  beyond_does style (todo.Word (turn.Anchor j)) x more y b d = beyond_kept x y b d.2
  beyond_does style (todo.Word turn.Clerk) x more y b d = beyond_same x y b d.1
  beyond_does style (todo.Word turn.Drop) x more y b d = beyond_same x y b d.1
  beyond_does style (todo.Flush j) x more y b d = beyond_kept x y b d.2
  beyond_does style (todo.Clear w) x more y b d = if_known (has_covered set m n w x.progress.state) _ _ (Beyond y) d (λ e a. beyond_kept x y b a.2) (λ e a. beyond_same x y b a.1)
  beyond_does style (todo.Remove i) x more y b d = beyond_kept x y b d.2
  beyond_does style todo.Rounds x more y b d = if_known (any_turn set m n x) _ _ (Beyond y) d (λ e a. beyond_same x y b a.1) (λ e a. beyond_same x y b a.1)
  beyond_does style todo.LeftOver x more y b d = if_known (not (is_raised set m n x.progress.state) && any_left set m n x.progress.state) _ _ (Beyond y) d (λ e a. beyond_kept x y b a.2.2) (λ e a. beyond_same x y b a.1)
  beyond_does style (todo.Alone w) x more y b d = if_known (has_turn set m n x w) _ _ (Beyond y) d (λ e a. beyond_acts Locking w x y b a.1) (λ e a. beyond_same x y b a.1)
  beyond_does style (todo.Drain j) x more y b d = if_known (is_going set m n x.progress.state j) _ _ (Beyond y) d (λ e a. beyond_kept x y b a.2) (λ e a. beyond_same x y b a.1)
  beyond_does style (todo.Drained j) x more y b d = if_known (is_flushed set m n j x.progress.state) _ _ (Beyond y) d (λ e a. beyond_same x y b a.1) (λ e a. beyond_kept x y b a.2)

  beyond_steps : (style : Style) (todos rest : List Todo) (x y : RunState) → Beyond x → Steps set m n style todos x rest y → Beyond y
  beyond_steps style todos rest x y b here = b
  beyond_steps style todos rest x y b (on {todo = t} {todos = ts} {y = a} more d s) = beyond_steps style (more ++ ts) rest a y (beyond_does style t x more a b d) s

  -- where no worker has anything to do nothing is peeked
  pub none_peeked : (x : RunState) → any_turn set m n x ≡ false → Beyond x → x ≡ still x.progress
  none_peeked x none b = λ i. record { progress = x.progress; peeks = λ w. one w i }
    where
      one : (w : ℕ) → x.peeks w ≡ []
      one w = elim (cases_lt w m) [
        | inl lt ↦ has_none (nat_lt w m) (is_some (x.progress.state.workers w).hand) (x.peeks w) _ (lt-ltb w m lt) (none_of_below (has_turn set m n x) m none w lt)
        | inr le ↦ b w le
      ]

  -- ---- what is done last is done in one way

  abbrev pub IsLate : Todo → Type 0
  IsLate (todo.Word (turn.Worker w)) = ⊥
  IsLate (todo.Word (turn.Manager j)) = ⊥
  IsLate (todo.Word (turn.Anchor j)) = ⊥
  IsLate (todo.Word turn.Clerk) = Unit {0}
  IsLate (todo.Word turn.Drop) = ⊥
  IsLate (todo.Flush j) = ⊥
  IsLate (todo.Clear w) = Unit {0}
  IsLate (todo.Remove i) = ⊥
  IsLate todo.Rounds = ⊥
  IsLate todo.LeftOver = Unit {0}
  IsLate (todo.Alone w) = Unit {0}
  IsLate (todo.Drain j) = Unit {0}
  IsLate (todo.Drained j) = Unit {0}

  abbrev pub AllLate : List Todo → Type 0
  AllLate [] = Unit {0}
  AllLate (t ∷ ts) = IsLate t × AllLate ts

  pub late_append : (xs ys : List Todo) → AllLate xs → AllLate ys → AllLate (xs ++ ys)
  late_append [] ys a b = b
  late_append (x ∷ xs) ys a b = (a.0, late_append xs ys a.1 b)

  late_each : (word : ℕ → Todo) → ((i : ℕ) → IsLate (word i)) → (is : List ℕ) → AllLate (map word is)
  late_each word h [] = tt
  late_each word h (i ∷ is) = (h i, late_each word h is)

  late_is : (others more : List Todo) → more ≡ others → AllLate others → AllLate more
  late_is others more e a = subst AllLate (sym e) a

  pub late_step : (style : Style) (t : Todo) (x : RunState) (more : List Todo) (y : RunState) → IsLate t → Does set m n style t x more y → AllLate more × Does set m n Locking t x more y
  late_step style (todo.Word (turn.Worker w)) x more y l d = absurd l
  late_step style (todo.Word (turn.Manager j)) x more y l d = absurd l
  late_step style (todo.Word (turn.Anchor j)) x more y l d = absurd l
  late_step style (todo.Word turn.Clerk) x more y l d = (late_is (map todo.Clear (below m)) more d.0 (late_each todo.Clear (λ i. tt) (below m)), d)
  late_step style (todo.Word turn.Drop) x more y l d = absurd l
  late_step style (todo.Flush j) x more y l d = absurd l
  late_step style (todo.Clear w) x more y l d = (if_known (has_covered set m n w x.progress.state) _ _ (AllLate more) d (λ e a. late_is (todo.Clear w ∷ []) more a.0 (tt, tt)) (λ e a. late_is [] more a.0 tt), d)
  late_step style (todo.Remove i) x more y l d = absurd l
  late_step style todo.Rounds x more y l d = absurd l
  late_step style todo.LeftOver x more y l d =
      (if_known (not (is_raised set m n x.progress.state) && any_left set m n x.progress.state) _ _ (AllLate more) d (λ e a. late_is (todo.Alone a.0 ∷ todo.LeftOver ∷ []) more a.2.0 (tt, (tt, tt))) (λ e a. late_is [] more a.0 tt), d)
  late_step style (todo.Alone w) x more y l d = (if_known (has_turn set m n x w) _ _ (AllLate more) d (λ e a. late_is (todo.Alone w ∷ []) more a.0 (tt, tt)) (λ e a. late_is [] more a.0 tt), d)
  late_step style (todo.Drain j) x more y l d = (if_known (is_going set m n x.progress.state j) _ _ (AllLate more) d (λ e a. late_is (todo.Drained j ∷ []) more a.0 (tt, tt)) (λ e a. late_is [] more a.0 tt), d)
  late_step style (todo.Drained j) x more y l d = (if_known (is_flushed set m n j x.progress.state) _ _ (AllLate more) d (λ e a. late_is [] more a.0 tt) (λ e a. late_is (todo.Drain j ∷ []) more a.0 (tt, tt)), d)

  late_steps : (style : Style) (todos rest : List Todo) (x y : RunState) → AllLate todos → Steps set m n style todos x rest y → Steps set m n Locking todos x rest y
  late_steps style todos rest x y l here = here
  late_steps style todos rest x y l (on {todo = t} {todos = ts} {y = a} more d s) =
      let (less, is) = late_step style t x more a l.0 d in
      on more is (late_steps style (more ++ ts) rest a y (late_append more ts less l.1) s)

  -- ---- all of it

  abbrev pub late : List Todo
  late = todo.LeftOver ∷ (map todo.Drain (below n) ++ todo.Word turn.Clerk ∷ [])

  pub all_late : AllLate late
  all_late = (tt, late_append (map todo.Drain (below n)) (todo.Word turn.Clerk ∷ []) (late_each todo.Drain (λ j. tt) (below n)) (tt, tt))

  pub ends_in : (style : Style) (turns : List Turn) (opening : Core) (x : RunState) → IsWhole set m n style turns opening x →
      (y : RunState) × (y ≡ still y.progress) × (any_turn set m n y ≡ false) × Steps set m n Locking late y [] x
  ends_in style turns opening x s =
      let (a, first, second) = steps_split style (map todo.Word turns) (todo.Rounds ∷ late) (todos_of set m n turns) (still (begun opening)) x refl s in
      let (y, third, last) = steps_split style (todo.Rounds ∷ []) late (todo.Rounds ∷ late) a x refl second in
      let none = rounds_end style [] (todo.Rounds ∷ []) a y third refl in
      let beyond = beyond_steps style (todo.Rounds ∷ []) [] a y (beyond_steps style (map todo.Word turns) [] (still (begun opening)) a (λ w le. refl) first) third in
      (y, none_peeked y none beyond, none, late_steps style late [] y x all_late last)
