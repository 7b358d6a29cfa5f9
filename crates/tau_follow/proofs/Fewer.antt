-- With each record that is applied fewer are open.
use Rattle.std.proofs.Common.{ℕ, zero, suc, ◌<◌, Bool, true, false, cond, ◌≡◌, List, [], ◌∷◌, Option, Some, None, refl, sym, ap, subst, ◌∙◌, arith, set}
use Rattle.std.specs.Prelude.{slice_get}
use Rattle.std.proofs.lemmas.Bool.{and_parts}
use Rattle.tau_base.specs.Vectors.{covers}
use Rattle.tau_record.specs.declared.entry.Placed.{Placed}
use Rattle.tau_follow.specs.declared.stage.Stage.{Stage}
use Rattle.tau_follow.specs.declared.stage.Stage.TheVariants as stages
use Rattle.tau_follow.specs.Applying.{is_open_stage, dep_of, is_ready_one, is_ready_both, is_ready_in, open_in, open_all, set_stage}

-- a ready record stands open
pub stands_open : (reached : List ℕ) (streams : List (List Placed)) (all : List (List Stage)) (j i : ℕ) → is_ready_in reached streams all j i ≡ true → (ss : List Stage) × (s : Stage) × (slice_get all j ≡ Some ss) × (slice_get ss i ≡ Some s) × (is_open_stage s ≡ true)
stands_open reached streams all j i e = by (slice_get streams j) (slice_get all j) refl e
  where
    one : (ss : List Stage) → slice_get all j ≡ Some ss → (o : Option Placed) (q : Option Stage) → slice_get ss i ≡ q → is_ready_one reached o q ≡ true → (ss : List Stage) × (s : Stage) × (slice_get all j ≡ Some ss) × (slice_get ss i ≡ Some s) × (is_open_stage s ≡ true)
    one ss at None q g h = absurd cc
    one ss at (Some p) None g h = absurd cc
    one ss at (Some p) (Some s) g h = (ss, s, at, g, (and_parts (is_open_stage s) (covers reached (dep_of p.entry)) h).0)

    by : (o : Option (List Placed)) (q : Option (List Stage)) → slice_get all j ≡ q → is_ready_both reached o q i ≡ true → (ss : List Stage) × (s : Stage) × (slice_get all j ≡ Some ss) × (slice_get ss i ≡ Some s) × (is_open_stage s ≡ true)
    by None q at h = absurd cc
    by (Some ps) None at h = absurd cc
    by (Some ps) (Some ss) at h = one ss at (slice_get ps i) (slice_get ss i) refl h

one_fewer : (ss : List Stage) (i : ℕ) (s : Stage) → slice_get ss i ≡ Some s → is_open_stage s ≡ true → open_in (set ss i stages.Applied) < open_in ss
one_fewer [] i s e o = absurd cc
one_fewer (x ∷ ss) zero s e o =
    let same : x ≡ s = cc in
    let is : open_in (x ∷ ss) ≡ suc (open_in ss) = ap (λ (b : Bool). cond b (suc (open_in ss)) (open_in ss)) (ap is_open_stage same ∙ o) in
    omega (arith, is)
one_fewer (x ∷ ss) (suc i) s e o = by (is_open_stage x) refl (one_fewer ss i s e o)
  where
    by : (b : Bool) → is_open_stage x ≡ b → open_in (set ss i stages.Applied) < open_in ss → open_in (x ∷ set ss i stages.Applied) < open_in (x ∷ ss)
    by true is lt =
        let a = ap (λ (b : Bool). cond b (suc (open_in (set ss i stages.Applied))) (open_in (set ss i stages.Applied))) is in
        let c = ap (λ (b : Bool). cond b (suc (open_in ss)) (open_in ss)) is in
        omega (arith, a, c, lt)
    by false is lt =
        let a = ap (λ (b : Bool). cond b (suc (open_in (set ss i stages.Applied))) (open_in (set ss i stages.Applied))) is in
        let c = ap (λ (b : Bool). cond b (suc (open_in ss)) (open_in ss)) is in
        omega (arith, a, c, lt)

all_fewer : (all : List (List Stage)) (j i : ℕ) (ss : List Stage) (s : Stage) → slice_get all j ≡ Some ss → slice_get ss i ≡ Some s → is_open_stage s ≡ true → open_all (set_stage all j i stages.Applied) < open_all all
all_fewer [] j i ss s e g o = absurd cc
all_fewer (x ∷ all) zero i ss s e g o =
    let same : x ≡ ss = cc in
    let lt = one_fewer x i s (ap (λ (l : List Stage). slice_get l i) same ∙ g) o in
    omega (arith, lt)
all_fewer (x ∷ all) (suc j) i ss s e g o = let lt = all_fewer all j i ss s e g o in omega (arith, lt)

-- the stages that the code lends, and those after a record of them is applied
pub ready_fewer : (reached : List ℕ) (streams : List (List Placed)) (lent all now : List (List Stage)) (j i : ℕ) → lent ≡ all → is_ready_in reached streams lent j i ≡ true → now ≡ set_stage all j i stages.Applied → open_all now < open_all all
ready_fewer reached streams lent all now j i same e is =
    let w = stands_open reached streams all j i (subst (λ (l : List (List Stage)). is_ready_in reached streams l j i ≡ true) same e) in
    let lt = all_fewer all j i w.0 w.1 w.2 w.3 w.4 in
    subst (λ (l : List (List Stage)). open_all l < open_all all) (sym is) lt
