-- What a turn did goes in small steps.
use Rattle.std.proofs.Common.{ℕ, zero, suc, ◌<◌, arith, Bool, true, false, ◌≡◌, inl, inr, List, [], ◌∷◌, ◌++◌, map, refl, sym, ap, subst, ◌∙◌}
use Rattle.std.specs.Prelude.{◌&&◌, not}
use Rattle.std.specs.List.{list_any}
use Rattle.std.proofs.lemmas.Bool.{cases_Bool, cases_eq, and_from}
use Rattle.tau_base.proofs.Logic.{or_true, or_left}
use Rattle.tau_base.specs.Vectors.{covers}
use Rattle.tau_base.specs.declared.limits.TheConstants.{SHARDS}
use Rattle.tau_machine.specs.State.{Setting, Ticket, Core}
use Rattle.tau_machine.specs.Events.{Resume}
use Rattle.tau_occ.specs.declared.style.Style.{Style}
use Rattle.tau_occ.specs.declared.style.Style.TheVariants.{Locking}
use Rattle.tau_text.specs.declared.load.Turn.{Turn}
use Rattle.tau_text.specs.declared.load.Turn.TheVariants as turn
use Rattle.tau_run.specs.Run.{below}
use Rattle.tau_run.specs.Turns.{Progress, Stays, IfSo, is_empty, is_going, is_raised, any_left, Goes, Tells, Flushed, Gathers, Anchored}
use Rattle.tau_run.specs.Schedule as todo
use Rattle.tau_run.specs.Schedule.{Todo, peeked, Does, Began, Acts, TakesTurn, has_turn, any_turn, is_flushed, has_covered}
use Rattle.tau_run.proofs.Steps.{Did, if_known, if_yes, if_not, did_nothing, did_step, did_after, began_none, began_step, began_after, began_first}
use Rattle.tau_step.specs.Optimists.{Peeks}
use Rattle.tau_step.specs.Rounding.{none_peeked}
use Rattle.tau_step.specs.TurnParts.{has_work, Worked, Managed, Cleared, OneByOne, DropOf, ManagedPart, Turned}

-- one of some is
any_there : {A : Type 0} (c : A → Bool) (front : List A) (k : A) (back : List A) → c k ≡ true → list_any c (front ++ k ∷ back) ≡ true
any_there c [] k back e = or_left (c k) (list_any c back) e
any_there c (x ∷ front) k back e = or_true (c x) (list_any c (front ++ k ∷ back)) (any_there c front k back e)

any_front : {A : Type 0} (c : A → Bool) (xs ys : List A) → list_any c xs ≡ true → list_any c (xs ++ ys) ≡ true
any_front c [] ys e = absurd (let bad : false ≡ true = e in cc)
any_front c (x ∷ xs) ys e = elim (cases_Bool (c x)) [
  | inl is ↦ or_left (c x) (list_any c (xs ++ ys)) is
  | inr other ↦ or_true (c x) (list_any c (xs ++ ys)) (any_front c xs ys (rw other at e))
]

some_below : (f : ℕ → Bool) (m w : ℕ) → w < m → f w ≡ true → list_any f (below m) ≡ true
some_below f zero w lt e = absurd (omega (arith, lt))
some_below f (suc m) w lt e = elim (cases_eq w m) [
  | inl same ↦ any_there f (below m) m [] (subst (λ (k : ℕ). f k ≡ true) same e)
  | inr other ↦ any_front f (below m) (m ∷ []) (some_below f m w (omega (arith, lt, other)) e)
]

-- a turn of anyone but a worker
abbrev pub IsOther : Turn → Type 0
IsOther (turn.Worker w) = ⊥
IsOther other = Unit {0}

module _ (set : Setting) (m n : ℕ) (style : Style) (f : Peeks) where
  -- these things were done in this style, and what is peeked stays
  abbrev did : List Todo → Progress → Progress → Type 0
  did todos p q = Did set m n style todos (peeked p f) (peeked q f)

  abbrev began : List Todo → Progress → Progress → Type 0
  began todos p q = Began set m n style todos (peeked p f) (peeked q f)

  -- a step after which nothing is left to do of it
  did_one : (t : Todo) (p q : Progress) → Does set m n style t (peeked p f) [] (peeked q f) → did (t ∷ []) p q
  did_one t p q d = did_step set m n style t [] (peeked p f) (peeked q f) (peeked q f) d (did_nothing set m n style (peeked q f))

  same_did : (todos : List Todo) (p q : Progress) → Stays p q → did todos p p → did todos p q
  same_did todos p q e h = subst (λ (x : Progress). did todos p x) (sym e) h

  same_began : (todos : List Todo) (p q : Progress) → Stays p q → began todos p q
  same_began todos p q e = subst (λ (x : Progress). began todos p x) (sym e) (began_none set m n style todos (peeked p f))

  flushed : (j : ℕ) (p q : Progress) → Flushed set m n j p q → did (todo.Flush j ∷ []) p q
  flushed j p q h = did_one (todo.Flush j) p q (refl, h, refl)

  gathered : (j : ℕ) (p q r : Progress) → is_going set m n p.state j ≡ true → Gathers set m n j p q → did (todo.Flush j ∷ []) q r → did (todo.Word (turn.Manager j) ∷ []) p r
  gathered j p q r goes g rest = did_step set m n style (todo.Word (turn.Manager j)) (todo.Flush j ∷ []) (peeked p f) (peeked q f) (peeked r f) (if_yes (is_going set m n p.state j) _ _ goes (refl, g, refl)) rest

  pub managed : (j : ℕ) (p q : Progress) → Managed set m n j p q → did (todo.Word (turn.Manager j) ∷ []) p q
  managed j p q h = if_known (is_going set m n p.state j) _ _ (did (todo.Word (turn.Manager j) ∷ []) p q) h
      (λ e x. gathered j p x.0 q e x.1 (flushed j x.0 q x.2))
      (λ e x. did_one (todo.Word (turn.Manager j)) p q (if_not (is_going set m n p.state j) _ _ e (refl, ap (λ (z : Progress). peeked z f) x)))

  pub managed_part : (j : ℕ) (p q : Progress) → ManagedPart set m n false j p q → began (todo.Word (turn.Manager j) ∷ []) p q
  managed_part j p q (inl x) = same_began (todo.Word (turn.Manager j) ∷ []) p q x
  managed_part j p q (inr h) = if_known (is_going set m n p.state j) _ _ (began (todo.Word (turn.Manager j) ∷ []) p q) h
      (λ e x. began_step set m n style (todo.Word (turn.Manager j)) (todo.Flush j ∷ []) (peeked p f) (peeked q f) (peeked q f) (if_yes (is_going set m n p.state j) _ _ e (refl, x, refl))
      (began_none set m n style (todo.Flush j ∷ []) (peeked q f)))
      (λ e x. same_began (todo.Word (turn.Manager j) ∷ []) p q x)

  pub anchored : (j : ℕ) (p q : Progress) → Anchored set m n j p q → did (todo.Word (turn.Anchor j) ∷ []) p q
  anchored j p q h = did_one (todo.Word (turn.Anchor j)) p q (refl, h, refl)

  tells_covered : (w : ℕ) (p q : Progress) → Tells set m n w p q → has_covered set m n w p.state ≡ true
  tells_covered w p q t = ap (list_any (λ (k : Ticket). covers p.state.plv k.lv)) t.is ∙ any_there (λ (k : Ticket). covers p.state.plv k.lv) t.front t.ticket t.back t.covered

  cleared : (w : ℕ) (p q : Progress) → Cleared set m n w true p q → did (todo.Clear w ∷ []) p q
  cleared w p q (Cleared.none e) = did_one (todo.Clear w) p q (if_not (has_covered set m n w p.state) _ _ e (refl, refl))
  cleared w p q (Cleared.next {q = r} t more) =
      did_step set m n style (todo.Clear w) (todo.Clear w ∷ []) (peeked p f) (peeked r f) (peeked q f) (if_yes (has_covered set m n w p.state) _ _ (tells_covered w p r t) (refl, t, refl)) (cleared w r q more)

  cleared_part : (w : ℕ) (p q : Progress) → Cleared set m n w false p q → began (todo.Clear w ∷ []) p q
  cleared_part w p q (Cleared.next {q = r} t more) =
      began_step set m n style (todo.Clear w) (todo.Clear w ∷ []) (peeked p f) (peeked r f) (peeked q f) (if_yes (has_covered set m n w p.state) _ _ (tells_covered w p r t) (refl, t, refl)) (cleared_part w r q more)
  cleared_part w p q Cleared.cut = began_none set m n style (todo.Clear w ∷ []) (peeked p f)

  -- one after another
  module _ {A : Type 0} (step : Bool → A → Progress → Progress → Type 0) (word : A → Todo)
      (whole : (x : A) (p q : Progress) → step true x p q → did (word x ∷ []) p q) (part : (x : A) (p q : Progress) → step false x p q → began (word x ∷ []) p q) where
    each : (xs : List A) (p q : Progress) → OneByOne set m n step true xs p q → did (map word xs) p q
    each [] p q h = same_did [] p q h (did_nothing set m n style (peeked p f))
    each (x ∷ xs) p q h = did_after set m n style (word x ∷ []) (map word xs) (peeked p f) (peeked h.0 f) (peeked q f) (whole x p h.0 h.1) (each xs h.0 q h.2)

    each_part : (xs : List A) (p q : Progress) → OneByOne set m n step false xs p q → began (map word xs) p q
    each_part [] p q h = same_began [] p q h
    each_part (x ∷ xs) p q (inl h) = began_first set m n style (word x ∷ []) (map word xs) (peeked p f) (peeked q f) (part x p q h)
    each_part (x ∷ xs) p q (inr h) = began_after set m n style (word x ∷ []) (map word xs) (peeked p f) (peeked h.0 f) (peeked q f) (whole x p h.0 h.1) (each_part xs h.0 q h.2)

  dropped : (i : ℕ) (p q : Progress) → DropOf set m n true i p q → did (todo.Remove i ∷ []) p q
  dropped i p q h = did_one (todo.Remove i) p q (refl, h, refl)

  dropped_part : (i : ℕ) (p q : Progress) → DropOf set m n false i p q → began (todo.Remove i ∷ []) p q
  dropped_part i p q h = same_began (todo.Remove i ∷ []) p q h

  -- a turn that becomes others
  becomes : (t : Todo) (others : List Todo) (p q : Progress) → Does set m n style t (peeked p f) others (peeked p f) → did others p q → did (t ∷ []) p q
  becomes t others p q d h = did_step set m n style t others (peeked p f) (peeked p f) (peeked q f) d h

  becomes_part : (t : Todo) (others : List Todo) (p q : Progress) → Does set m n style t (peeked p f) others (peeked p f) → began others p q → began (t ∷ []) p q
  becomes_part t others p q d h = began_step set m n style t others (peeked p f) (peeked p f) (peeked q f) d h

  pub turned : (t : Turn) → IsOther t → (p q : Progress) → Turned set m n true t p q → did (todo.Word t ∷ []) p q
  turned (turn.Worker w) other p q h = absurd other
  turned (turn.Manager j) other p q h = managed j p q h
  turned (turn.Anchor j) other p q h = anchored j p q h
  turned turn.Clerk other p q h = becomes (todo.Word turn.Clerk) (map todo.Clear (below m)) p q (refl, refl)
      (each (λ b w. Cleared set m n w b) todo.Clear cleared cleared_part (below m) p q h)
  turned turn.Drop other p q h = becomes (todo.Word turn.Drop) (map todo.Remove (below SHARDS)) p q (refl, refl)
      (each (DropOf set m n) todo.Remove dropped dropped_part (below SHARDS) p q h)

  pub turned_part : (t : Turn) (p q : Progress) → Turned set m n false t p q → began (todo.Word t ∷ []) p q
  turned_part (turn.Worker w) p q h = same_began (todo.Word (turn.Worker w) ∷ []) p q h
  turned_part (turn.Manager j) p q h = managed_part j p q h
  turned_part (turn.Anchor j) p q h = same_began (todo.Word (turn.Anchor j) ∷ []) p q h
  turned_part turn.Clerk p q h = becomes_part (todo.Word turn.Clerk) (map todo.Clear (below m)) p q (refl, refl)
      (each_part (λ b w. Cleared set m n w b) todo.Clear cleared cleared_part (below m) p q h)
  turned_part turn.Drop p q h = becomes_part (todo.Word turn.Drop) (map todo.Remove (below SHARDS)) p q (refl, refl)
      (each_part (DropOf set m n) todo.Remove dropped dropped_part (below SHARDS) p q h)

  -- a worker with a call that was left over is one of those below m
  left_there : (w : ℕ) (s : Core) → w < m → is_empty (s.workers w).left ≡ false → any_left set m n s ≡ true
  left_there w s lt e = some_below (λ u. not (is_empty (s.workers u).left)) m w lt (ap not e)

  filled : {A : Type 0} (xs front : List A) (x : A) (back : List A) → xs ≡ front ++ x ∷ back → is_empty xs ≡ false
  filled xs [] x back e = ap is_empty e
  filled xs (y ∷ front) x back e = ap is_empty e

  pub resumes : (w : ℕ) (p q : Progress) → is_raised set m n p.state ≡ false → w < m → Goes set m n (Resume w) p q →
      Does set m n style todo.LeftOver (peeked p f) (todo.Alone w ∷ todo.LeftOver ∷ []) (peeked q f)
  resumes w p q e lt g = if_yes (not (is_raised set m n p.state) && any_left set m n p.state) _ _
      (and_from (not (is_raised set m n p.state)) (any_left set m n p.state) (ap not e)
      (left_there w p.state lt (filled (p.state.workers w).left g.leads.0.front g.leads.0.call g.leads.0.back g.leads.0.is)))
      (w, lt, (refl, g, refl))

  pub left_over_over : (p : Progress) → (not (is_raised set m n p.state) && any_left set m n p.state) ≡ false → did (todo.LeftOver ∷ []) p p
  left_over_over p e = did_one todo.LeftOver p p (if_not (not (is_raised set m n p.state) && any_left set m n p.state) _ _ e (refl, refl))

  pub drains : (j : ℕ) (p q : Progress) → is_going set m n p.state j ≡ true → Gathers set m n j p q → Does set m n style (todo.Drain j) (peeked p f) (todo.Drained j ∷ []) (peeked q f)
  drains j p q e g = if_yes (is_going set m n p.state j) _ _ e (refl, g, refl)

  pub drains_on : (j : ℕ) (p q : Progress) → is_flushed set m n j p.state ≡ false → Flushed set m n j p q → Does set m n style (todo.Drained j) (peeked p f) (todo.Drain j ∷ []) (peeked q f)
  drains_on j p q e h = if_not (is_flushed set m n j p.state) _ _ e (refl, h, refl)

  -- its disk has failed
  pub drain_failed : (j : ℕ) (p : Progress) → is_going set m n p.state j ≡ false → did (todo.Drain j ∷ []) p p
  drain_failed j p e = did_one (todo.Drain j) p p (if_not (is_going set m n p.state j) _ _ e (refl, refl))

  -- it is idle
  pub drain_idle : (j : ℕ) (p q : Progress) → is_going set m n p.state j ≡ true → Gathers set m n j p q → is_flushed set m n j q.state ≡ true → did (todo.Drain j ∷ []) p q
  drain_idle j p q e g all = did_step set m n style (todo.Drain j) (todo.Drained j ∷ []) (peeked p f) (peeked q f) (peeked q f) (drains j p q e g)
      (did_one (todo.Drained j) q q (if_yes (is_flushed set m n j q.state) _ _ all (refl, refl)))

  -- it flushed, and what came then
  pub drain_on : (j : ℕ) (p a b q : Progress) → is_going set m n p.state j ≡ true → Gathers set m n j p a → is_flushed set m n j a.state ≡ false → Flushed set m n j a b → did (todo.Drain j ∷ []) b q → did (todo.Drain j ∷ []) p q
  drain_on j p a b q e g new h more = did_step set m n style (todo.Drain j) (todo.Drained j ∷ []) (peeked p f) (peeked a f) (peeked q f) (drains j p a e g)
      (did_step set m n style (todo.Drained j) (todo.Drain j ∷ []) (peeked a f) (peeked b f) (peeked q f) (drains_on j a b new h) more)

  -- a part of its turn
  pub drain_cut : (j : ℕ) (p q : Progress) → ManagedPart set m n false j p q → began (todo.Drain j ∷ []) p q
  drain_cut j p q (inl x) = same_began (todo.Drain j ∷ []) p q x
  drain_cut j p q (inr h) = if_known (is_going set m n p.state j) _ _ (began (todo.Drain j ∷ []) p q) h
      (λ e x. began_step set m n style (todo.Drain j) (todo.Drained j ∷ []) (peeked p f) (peeked q f) (peeked q f) (drains j p q e x) (began_none set m n style (todo.Drained j ∷ []) (peeked q f)))
      (λ e x. same_began (todo.Drain j ∷ []) p q x)

  -- the turn of a worker, after which the workers have peeked this
  pub worked : (w : ℕ) (f' : Peeks) (p q : Progress) → IfSo (has_turn set m n (peeked p f) w) (TakesTurn set m n style w (peeked p f) (peeked q f')) (peeked q f' ≡ peeked p f) → Did set m n style (todo.Word (turn.Worker w) ∷ []) (peeked p f) (peeked q f')
  worked w f' p q h = did_step set m n style (todo.Word (turn.Worker w)) [] (peeked p f) (peeked q f') (peeked q f') (if_known (has_turn set m n (peeked p f) w) _ _ (Does set m n style (todo.Word (turn.Worker w)) (peeked p f) [] (peeked q f')) h
      (λ e x. if_yes (has_turn set m n (peeked p f) w) _ _ e (refl, x)) (λ e x. if_not (has_turn set m n (peeked p f) w) _ _ e (refl, x))) (did_nothing set m n style (peeked q f'))

  -- no worker has anything to do: no round begins
  pub rounds_over : (p : Progress) → any_turn set m n (peeked p f) ≡ false → did (todo.Rounds ∷ []) p p
  rounds_over p e = did_one todo.Rounds p p (if_not (any_turn set m n (peeked p f)) _ _ e (refl, refl))

-- where nothing is peeked
module _ (set : Setting) (m n : ℕ) (style : Style) where
  -- an action of a worker that acts alone
  acts : (w : ℕ) (p q : Progress) → has_work set m n p.state w ≡ true → Worked set m n w p q → Acts set m n Locking w (peeked p none_peeked) (peeked q none_peeked)
  acts w p q works h = if_known (has_work set m n p.state w) _ _ _ h (λ e x. record {
    event = x.0;
    own = x.1;
    goes = x.2;
    newest = x.3;
    busy = x.4;
    reads = tt;
    lowest = x.5;
    peeks = refl;
  }) (λ e x. absurd (let bad : true ≡ false = sym works ∙ e in cc))

  pub acts_alone : (w : ℕ) (p q : Progress) → has_work set m n p.state w ≡ true → Worked set m n w p q → Does set m n style (todo.Alone w) (peeked p none_peeked) (todo.Alone w ∷ []) (peeked q none_peeked)
  acts_alone w p q works h = if_yes (has_work set m n p.state w) _ _ works (refl, acts w p q works h)

  pub alone_over : (w : ℕ) (p : Progress) → has_work set m n p.state w ≡ false → did set m n style none_peeked (todo.Alone w ∷ []) p p
  alone_over w p e = did_one set m n style none_peeked (todo.Alone w) p p (if_not (has_work set m n p.state w) _ _ e (refl, refl))
