-- A stream of which nothing is new: all that is gathered is durable.
use Rattle.std.proofs.Common.{ℕ, ◌<◌, ◌≡◌, List, [], ◌∷◌, ◌++◌, length, refl, sym, ap, subst, ◌∙◌, arith}
use Rattle.std.specs.Prelude.{Some, slice_get, slice_index}
use Rattle.std.proofs.lemmas.List.{append-nil}
use Rattle.tau_disk.specs.declared.disk.Disk.{Ghosts}
use Rattle.tau_stream.specs.declared.writer.Writer.{Writer}
use Rattle.tau_stream.specs.Writer.{durable_of}
use Rattle.tau_model.specs.History.{Act}
use Rattle.tau_machine.specs.Hands.{Txn}
use Rattle.tau_machine.specs.Events as machine
use Rattle.tau_machine.specs.Events.{stop}
use Rattle.tau_core.specs.Plain.{PlainStream}
use Rattle.tau_core.specs.State.{Plain}
use Rattle.tau_core.specs.View.{Hidden}
use Rattle.tau_core.specs.Stands.{Stands, anchors_at}
use Rattle.tau_core.specs.Pieces.{Spelled}
use Rattle.tau_core.specs.Steps.{Happened}
use Rattle.tau_core.proofs.Idle.{idle_gathered}
use Rattle.tau_step.specs.declared.manager.Managing.TheVariants as did
use Rattle.tau_step.specs.Keeping.{IsCurrent, IsFilled, IsLoaded, GatheredTurns, ManagerTurns}
use Rattle.tau_step.proofs.Bodies.{body_long}
use Rattle.tau_step.proofs.Flushing.{flush_idle}
use Rattle.tau_step.proofs.Handing.{gathered_turns}
use Rattle.tau_step.proofs.Gathering.{filled, manager_turns}
use Rattle.tau_base.proofs.Lists.{some_at}

module _ {D : Type 0} {G : Ghosts D} (j : ℕ) (catalogue : List ℕ) (upto : ℕ) (w : Writer D G) (p : Plain) (K : List (Act Txn)) (h : Hidden)
    (g : Stands p K h) (there : j < p.load.streams) (l : IsFilled j catalogue upto w p h) (same : upto ≡ durable_of w) where
  -- the core holds no bytes that were not handed out
  body_empty : (s : PlainStream) → slice_get p.streams j ≡ Some s → s.body ≡ []
  body_empty s is = nil s.body (let e = body_long p K h g j there s is in let f = l.gathered in let d = l.durable in let o = l.long in omega (arith, same))
    where
      nil : (xs : List ℕ) → length xs ≡ 0 → xs ≡ []
      nil [] e = refl
      nil (x ∷ xs) e = absurd (omega arith)

  all_spelled : Spelled p.load (anchors_at p) (h.moved j) (h.taken j)
  all_spelled =
      let (s, is) = some_at p.streams j (let e = g.sound.streams in omega arith) in
      subst (λ (b : List ℕ). Spelled p.load (anchors_at p) (h.moved j) b) (ap (λ (b : List ℕ). h.taken j ++ b) (body_empty s is) ∙ append-nil (h.taken j)) (g.gathered j s is)

  -- so the writer has all of it
  has_all : IsLoaded j catalogue upto w p h
  has_all = record {
    works = l.works;
    going = l.going;
    gathered = l.gathered;
    durable = l.durable;
    first = h.taken j;
    is = sym (ap (λ (b : List ℕ). h.taken j ++ b) l.left ∙ append-nil (h.taken j));
    before = l.before;
    others = l.others;
    moved = l.is;
    front = l.spelled;
    spelled = all_spelled;
    long = l.long;
    count = (let n = ap (length {A = ℕ}) l.left in let d = l.durable in omega (arith, same));
    ready = l.ready;
  }

  pub gathered_idle : (told : List (ℕ × List ℕ)) (es : List machine.Event) → GatheredTurns j catalogue w w p p told K h es did.Idle
  gathered_idle told es =
      gathered_turns j catalogue upto w w w p p p told K h es (record { hidden = h; same = refl; stands = g; load = refl; taken = λ i ne. refl }) refl did.Idle
      (flush_idle j catalogue upto w p told K h es g has_all same)

-- the turn of a manager whose stream is gathered to its end: a Gather in which nothing changes
module _ {D : Type 0} {G : Ghosts D} (j : ℕ) (catalogue : List ℕ) (w : Writer D G) (p : Plain) (told : List (ℕ × List ℕ)) (K : List (Act Txn)) (h : Hidden) (es : List machine.Event)
    (g : Stands p K h) (there : j < p.load.streams) (size : length catalogue ≡ slice_index p.load.opening.ends j) (l : IsCurrent j catalogue w p h) (all : slice_index p.gathered j ≡ slice_index p.ends j) where
  abbrev gathers_none : Happened (machine.Gather j) p p K h
  gathers_none = record { hidden = h; joined = []; leads = (stop, refl); stands = subst (λ (order : List (Act Txn)). Stands p order h) (sym (append-nil K)) g; load = refl; taken = refl }

  pub manager_rests : ManagerTurns j catalogue w w p p told K h es did.Idle
  manager_rests =
      let upto : ℕ = slice_index p.gathered j in
      manager_turns j catalogue w p p told K h es g there size l gathers_none p w (idle_gathered p (K, h, g) j there all) did.Idle
      (gathered_idle j catalogue upto w p (K ++ []) h gathers_none.stands there (filled j catalogue w p p told K h es g there size l gathers_none upto refl) (l.gathered ∙ sym l.durable) told (es ++ machine.Gather j ∷ []))
