-- One disk more goes through a stage.
use Rattle.std.proofs.Common.{ℕ, ◌≡◌, ◌+◌, ◌<◌, List, refl, ◌∙◌, length, arith}
use Rattle.std.specs.Prelude.{Some, slice_get}
use Rattle.std.proofs.Math.ListN.{set}
use Rattle.std.proofs.lemmas.List.{length-set}
use Rattle.tau_disk.specs.Stages.{Staged, StageFails}
use Rattle.tau_disk.proofs.Places.{each_more, each_below, at_here, rest_more}

module _ {D : Type 0} (R : ℕ → D → D → Type 0) where
  pub staged_none : (old : List D) → Staged R 0 old old
  staged_none old = record { each = λ i d low was. absurd (omega (arith, low)); rest = refl; many = refl }

  module _ (old cur : List D) (j : ℕ) (d e : D) (staged : Staged R j old cur) (lt : j < length cur) (here : slice_get cur j ≡ Some d) where
    pub staged_more : R j d e → Staged R (j + 1) old (set cur j e)
    staged_more more = record {
      each = each_more R old cur j d e staged.rest lt here staged.each more;
      rest = rest_more R old cur j d e staged.rest lt here;
      many = length-set cur j e ∙ staged.many;
    }

    pub stage_fails : (S : ℕ → D → D → Type 0) → S j d e → StageFails R S j old (set cur j e)
    stage_fails S fails = record {
      below = each_below R old cur j d e staged.rest lt here staged.each;
      here = at_here R old cur j d e staged.rest lt here (S j) fails;
      rest = rest_more R old cur j d e staged.rest lt here;
      many = length-set cur j e ∙ staged.many;
    }
