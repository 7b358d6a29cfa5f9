-- What was to do, one part after another.
use Rattle.std.proofs.Common.{ℕ, suc, ◌+◌, ◌<◌, ◌≡◌, Bool, true, false, List, [], ◌∷◌, ◌++◌, map, sym, ap, subst, ◌∙◌, arith}
use Rattle.std.proofs.lemmas.List.{map-append}
use Rattle.tau_occ.specs.declared.style.Style.{Style}
use Rattle.tau_core.specs.declared.state.Load.{Load}
use Rattle.tau_core.specs.View.{setting_of}
use Rattle.tau_run.specs.Run.{below}
use Rattle.tau_run.specs.Turns.{Progress}
use Rattle.tau_run.specs.Schedule.{Todo, peeked}
use Rattle.tau_run.proofs.Steps.{did_after, began_after, began_first, leaves_did, leaves_began}
use Rattle.tau_step.specs.Optimists.{Peeks}
use Rattle.tau_step.specs.Rounding.{becomes, leaves, ran, keeps, kept}
use Rattle.tau_step.proofs.OneByOne.{below_split}

-- nothing was done
pub left_all : (style : Style) (f : Peeks) (todos : List Todo) (l : Load) (P : Progress) → becomes style f f todos todos l P P
left_all style f todos l P = λ later rest z s. s

-- the first part was done, and of the second all or a part
pub ran_both : (style : Style) (f g h : Peeks) (first second : List Todo) (whole : Bool) (l : Load) (P Q P' : Progress) → ran style f g first true l P Q → ran style g h second whole l Q P' → ran style f h (first ++ second) whole l P P'
ran_both style f g h first second true l P Q P' a b = did_after (setting_of l) l.workers l.streams style first second (peeked P f) (peeked Q g) (peeked P' h) a b
ran_both style f g h first second false l P Q P' a b = began_after (setting_of l) l.workers l.streams style first second (peeked P f) (peeked Q g) (peeked P' h) a b

-- a part of the first one was done
pub ran_short : (style : Style) (f h : Peeks) (first second : List Todo) (l : Load) (P P' : Progress) → ran style f h first false l P P' → ran style f h (first ++ second) false l P P'
ran_short style f h first second l P P' a = began_first (setting_of l) l.workers l.streams style first second (peeked P f) (peeked P' h) a

-- of what is left the same is left again, or less
pub left_on : (style : Style) (f g h : Peeks) (todos left less : List Todo) (whole : Bool) (l : Load) (P Q P' : Progress) → becomes style f g todos left l P Q → leaves style g h left less whole l Q P' → leaves style f h todos less whole l P P'
left_on style f g h todos left less true l P Q P' a b = λ later rest z s. a later rest z (b later rest z s)
left_on style f g h todos left less false l P Q P' a b = leaves_began (setting_of l) l.workers l.streams style todos left (peeked P f) (peeked Q g) (peeked P' h) a b

-- the first of what is left are done
pub left_after : (style : Style) (f g h : Peeks) (todos first left : List Todo) (whole : Bool) (l : Load) (P Q P' : Progress) → becomes style f g todos (first ++ left) l P Q → ran style g h first whole l Q P' → leaves style f h todos left whole l P P'
left_after style f g h todos first left true l P Q P' a b = leaves_did (setting_of l) l.workers l.streams style todos first left (peeked P f) (peeked Q g) (peeked P' h) a b
left_after style f g h todos first left false l P Q P' a b = leaves_began (setting_of l) l.workers l.streams style todos (first ++ left) (peeked P f) (peeked Q g) (peeked P' h) a (ran_short style g h first left l Q P' b)

-- of things in ascending order: one more, and one that was left undone
module _ (style : Style) (word : ℕ → Todo) where
  pub ran_next : (f g h : Peeks) (i : ℕ) (l : Load) (P Q P' : Progress) → ran style f g (map word (below i)) true l P Q → ran style g h (word i ∷ []) true l Q P' → ran style f h (map word (below (i + 1))) true l P P'
  ran_next f g h i l P Q P' a b =
      let next : suc i ≡ i + 1 = omega arith in
      subst (λ (k : ℕ). ran style f h (map word (below k)) true l P P') next
      (subst (λ (ts : List Todo). ran style f h ts true l P P') (sym (map-append word (below i) (i ∷ []))) (ran_both style f g h (map word (below i)) (word i ∷ []) true l P Q P' a b))

  pub ran_cut : (f g h : Peeks) (i m : ℕ) → i < m → (l : Load) (P Q P' : Progress) → ran style f g (map word (below i)) true l P Q → ran style g h (word i ∷ []) false l Q P' → ran style f h (map word (below m)) false l P P'
  ran_cut f g h i m lt l P Q P' a b =
      let split = below_split i m lt in
      subst (λ (ts : List Todo). ran style f h ts false l P P') (sym (ap (map word) split.1 ∙ map-append word (below i) (i ∷ split.0)))
      (ran_both style f g h (map word (below i)) (word i ∷ map word split.0) false l P Q P' a (ran_short style g h (word i ∷ []) (map word split.0) l Q P' b))

-- the same of what leaves what is peeked as it is

pub kept_all : (todos : List Todo) (l : Load) (P : Progress) → keeps todos todos true l P P
kept_all todos l P = λ style f. left_all style f todos l P

pub kept_both : (first second : List Todo) (whole : Bool) (l : Load) (P Q P' : Progress) → kept first true l P Q → kept second whole l Q P' → kept (first ++ second) whole l P P'
kept_both first second whole l P Q P' a b = λ style f. ran_both style f f f first second whole l P Q P' (a style f) (b style f)

pub kept_short : (first second : List Todo) (l : Load) (P P' : Progress) → kept first false l P P' → kept (first ++ second) false l P P'
kept_short first second l P P' a = λ style f. ran_short style f f first second l P P' (a style f)

pub kept_on : (todos left less : List Todo) (whole : Bool) (l : Load) (P Q P' : Progress) → keeps todos left true l P Q → keeps left less whole l Q P' → keeps todos less whole l P P'
kept_on todos left less whole l P Q P' a b = λ style f. left_on style f f f todos left less whole l P Q P' (a style f) (b style f)

module _ (word : ℕ → Todo) where
  pub kept_next : (i : ℕ) (l : Load) (P Q P' : Progress) → kept (map word (below i)) true l P Q → kept (word i ∷ []) true l Q P' → kept (map word (below (i + 1))) true l P P'
  kept_next i l P Q P' a b = λ style f. ran_next style word f f f i l P Q P' (a style f) (b style f)

  pub kept_cut : (i m : ℕ) → i < m → (l : Load) (P Q P' : Progress) → kept (map word (below i)) true l P Q → kept (word i ∷ []) false l Q P' → kept (map word (below m)) false l P P'
  kept_cut i m lt l P Q P' a b = λ style f. ran_cut style word f f f i m lt l P Q P' (a style f) (b style f)
