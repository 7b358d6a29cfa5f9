-- Writers that are kept stay so where nothing acts on their stream; and what a stop may leave of them.
use Rattle.std.proofs.Common.{ℕ, ◌≡◌, inl, inr, Bool, true, false, List, ◌++◌, length, take, sym, ap, subst, ◌∙◌, arith, length-append}
use Rattle.std.proofs.lemmas.List.{take_all, take-append-le}
use Rattle.std.proofs.lemmas.Bool.{cases_lt}
use Rattle.std.proofs.Math.Seq.{take-append_seam}
use Rattle.tau_base.specs.Modes.{format_of}
use Rattle.tau_block.specs.Image.{HasContent}
use Rattle.tau_disk.specs.declared.disk.Disk.{Ghosts}
use Rattle.tau_stream.specs.declared.writer.Writer.{Writer}
use Rattle.tau_stream.specs.Writer.{disk_of, has_failed, IsReady}
use Rattle.tau_machine.specs.State.{Item, Core}
use Rattle.tau_core.specs.declared.state.Load.{Load}
use Rattle.tau_core.specs.State.{Plain}
use Rattle.tau_core.specs.Stands.{anchors_at}
use Rattle.tau_core.specs.View.{Hidden, core_of}
use Rattle.tau_core.specs.Pieces.{Spelled}
use Rattle.tau_core.proofs.AnchorNames.{spelled_more}
use Rattle.tau_run.specs.StopsLeave.{HasFront, HasSomeFront}
use Rattle.tau_step.specs.Along.{Grows, SameAt, IsLeaving}
use Rattle.tau_step.specs.Keeping.{IsKept, IsCurrent, IsBroken}
use Rattle.tau_step.proofs.Growing.{anchors_grow}
use Rattle.tau_step.proofs.Images.{settled_has}

-- a first part of what was gathered is one of what is gathered by now
take_more : {A : Type 0} (k : ℕ) (xs ys m : List A) → ys ≡ xs ++ m → (i : ℕ) × (take i ys ≡ take k xs)
take_more k xs ys m e = elim (cases_lt k (length xs)) [
  | inl lt ↦ (k, ap (take k) e ∙ take-append-le k xs m (omega (arith, lt)))
  | inr ge ↦ (length xs, ap (take (length xs)) e ∙ take-append_seam xs m ∙ sym (take_all k xs ge))
]

module _ (n j : ℕ) (base : List ℕ) (l : Load) (s s' : Core) (g : Grows s s') where
  pub front_grows : (bytes image : List ℕ) → HasFront n j base l s bytes image → HasFront n j base l s' bytes image
  front_grows bytes image f =
      let more = g.moved j in
      let at = take_more f.count (s.streams j).moved (s'.streams j).moved more.0 more.1 in
      record {
        count = at.0;
        spelled = subst (λ (items : List Item). Spelled l (λ i. (s'.streams i).anchors) items bytes) (sym at.1)
            (spelled_more l (λ i. (s.streams i).anchors) (λ i. (s'.streams i).anchors) (anchors_grow s s' g) (take f.count (s.streams j).moved) bytes f.spelled);
        has = f.has;
      }

  pub left_grows : (image : List ℕ) → HasSomeFront n j base l s image → HasSomeFront n j base l s' image
  left_grows image (bytes, f) = (bytes, front_grows bytes image f)

module _ {D : Type 0} {G : Ghosts D} (seen_now : (d : D) → G.tells → G.may_leave d (G.seen d)) (j : ℕ) (base : List ℕ) (w : Writer D G) where
  module _ (p p' : Plain) (h h' : Hidden) (load : p'.load ≡ p.load) (grown : Grows (core_of p h) (core_of p' h')) (same : SameAt j (core_of p h) (core_of p' h')) where
    module _ (taken : h'.taken j ≡ h.taken j) where
      current_same : IsCurrent j base w p h → IsCurrent j base w p' h'
      current_same k = record {
        works = k.works;
        going = same.stop ∙ k.going;
        gathered = same.gathered ∙ k.gathered ∙ sym same.plv;
        durable = k.durable ∙ sym same.plv;
        left = k.left;
        spelled = subst (λ (l : Load). Spelled l (anchors_at p') (h'.moved j) (h'.taken j)) (sym load)
            (subst (λ (b : List ℕ). Spelled p.load (anchors_at p') (h'.moved j) b) (sym taken)
            (subst (λ (items : List Item). Spelled p.load (anchors_at p') items (h.taken j)) (sym same.moved)
            (spelled_more p.load (anchors_at p) (anchors_at p') (anchors_grow (core_of p h) (core_of p' h') grown) (h.moved j) (h.taken j) k.spelled)));
        ready = λ tells. subst (λ (l : Load). IsReady (format_of l.mode) l.streams j w (base ++ h'.taken j)) (sym load)
            (subst (λ (b : List ℕ). IsReady (format_of p.load.mode) p.load.streams j w (base ++ b)) (sym taken) (k.ready tells));
      }

      broken_same : IsBroken j base w p h → IsBroken j base w p' h'
      broken_same k = record {
        fails = k.fails;
        at = k.at;
        stop = same.stop ∙ k.stop;
        durable = k.durable ∙ sym same.plv;
        gathered = k.gathered ∙ sym same.gathered;
        present = λ tells x left.
            (let (bytes, front, reach) = k.present tells x left in (
              bytes,
              subst (λ (l : Load). HasFront l.streams j base l (core_of p' h') bytes x) (sym load) (front_grows p.load.streams j base p.load (core_of p h) (core_of p' h') grown bytes x front),
              (let e = same.plv in omega (arith, reach, e)),
            ));
        reached = λ tells.
            (let (y, content, now, has, size) = k.reached tells in
            (y, content, now, subst (λ (l : Load). HasContent (format_of l.mode) l.streams j content y) (sym load) has, size ∙ sym same.plv));
      }

      pub kept_same : IsKept j base w p h → IsKept j base w p' h'
      kept_same (inl k) = inl (current_same k)
      kept_same (inr k) = inr (broken_same k)

    -- and what a stop may leave
    pub leaving_same : IsLeaving j base w p h → IsLeaving j base w p' h'
    leaving_same k = record {
      present = λ tells x left.
          (let (bytes, front, reach) = k.present tells x left in (
            bytes,
            subst (λ (l : Load). HasFront l.streams j base l (core_of p' h') bytes x) (sym load) (front_grows p.load.streams j base p.load (core_of p h) (core_of p' h') grown bytes x front),
            (let e = same.plv in omega (arith, reach, e)),
          ));
      reached = λ tells.
          (let (y, content, now, has, size) = k.reached tells in
          (y, content, now, subst (λ (l : Load). HasContent (format_of l.mode) l.streams j content y) (sym load) has, size ∙ sym same.plv));
      going = λ works. same.stop ∙ k.going works;
      stopped = λ fails. (let (at, is) = k.stopped fails in (at, same.stop ∙ is));
    }

  false_true : (b : Bool) → b ≡ false → b ≡ true → ⊥
  false_true b e f = let bad : false ≡ true = sym e ∙ f in cc

  module _ (p : Plain) (h : Hidden) where
    current_has : IsCurrent j base w p h → G.tells → (x : List ℕ) → G.may_leave (disk_of w) x → HasContent (format_of p.load.mode) p.load.streams j (base ++ h.taken j) x
    current_has k tells x left = settled_has (format_of p.load.mode) p.load.streams j (G.seen (disk_of w)) (G.may_leave (disk_of w)) w.gate_at (base ++ h.taken j) (k.ready tells).settled x left

    pub kept_leaving : IsKept j base w p h → IsLeaving j base w p h
    kept_leaving (inl k) = record {
      present = λ tells x left. (
        h.taken j,
        record {
          count = length (h.moved j);
          spelled = subst (λ (items : List Item). Spelled p.load (anchors_at p) items (h.taken j)) (sym (take_all (length (h.moved j)) (h.moved j) (omega arith))) k.spelled;
          has = current_has k tells x left;
        },
        (let c = (k.ready tells).counts in let d = k.durable in omega (arith, c, d, length-append base (h.taken j))),
      );
      reached = λ tells. (let now = seen_now (disk_of w) tells in (G.seen (disk_of w), base ++ h.taken j, now, current_has k tells (G.seen (disk_of w)) now, sym (k.ready tells).counts ∙ k.durable));
      going = λ e. k.going;
      stopped = λ e. absurd (false_true (has_failed w) k.works e);
    }
    kept_leaving (inr k) = record {
      present = k.present;
      reached = k.reached;
      going = λ e. absurd (false_true (has_failed w) e k.fails);
      stopped = λ e. (k.at, k.stop);
    }
