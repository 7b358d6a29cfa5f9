use Rattle.std.proofs.Common.{ℕ, List, length, Result, Ok, Err, Option, Some, None}
use Rattle.std.specs.Prelude.{IfOk, IfNone}
use Rattle.tau_ckpt.specs.Slot.{body_text, HoldsNone, IsBody, IsFramed}
use Rattle.tau_ckpt.specs.declared.checkpoint.Checkpoint.{Checkpoint}
use Rattle.tau_ckpt.proofs.Parts.{body_again, framed_of}
use Rattle.tau_ckpt.proofs.read.checkpoint_of.Goals as goal

pub returns-in_default-clause-none : goal.returns-in_default-clause-none
returns-in_default-clause-none c = λ d h. c.in_default.ensures.none (length d.lv) (body_text d) (framed_of c.args.slot c.args.image.now d h)

-- an image whose body is of no checkpoint holds none
none_held : {E : Type 0} (slot : ℕ) (image : List ℕ) (streams : ℕ) (body : List ℕ) (r : Result (Option Checkpoint) E) → IsFramed slot image streams body
    → IfOk r (λ found. IfNone found ((d : Checkpoint) → IsBody streams body d → ⊥)) → IfOk r (λ found. IfNone found (HoldsNone slot image))
none_held slot image streams body (Ok None) f none = λ d h. none d (body_again slot image streams body d f h)
none_held slot image streams body (Ok (Some d)) f none = tt
none_held slot image streams body (Err e) f none = tt

pub returns-clause-none : goal.returns-clause-none
returns-clause-none c = none_held c.args.slot c.args.image.now c.in-Some.streams c.in-Some.body.now c.checkpoint_in.result c.in-Some.ensures.some c.checkpoint_in.ensures.none
