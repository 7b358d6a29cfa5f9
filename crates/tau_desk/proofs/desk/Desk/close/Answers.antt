use Rattle.std.proofs.Common.{ℕ, ◌≡◌, List, Option, sym, ap, subst, ◌∙◌}
use Rattle.std.specs.Prelude.{Some}
use Rattle.std.specs.Slots.{slots_items}
use Rattle.atomic_table.specs.Table.{Final, Seen}
use Rattle.tau_core.specs.declared.state.Load.{Load}
use Rattle.tau_core.specs.State.{Plain}
use Rattle.tau_occ.specs.declared.style.Style.{Style}
use Rattle.tau_rule.specs.Rule.{Rule, part_count}
use Rattle.tau_rule.specs.declared.part.Part.{Part}
use Rattle.tau_desk.specs.Ends.{AreResting, IsClosing, IsWhole}
use Rattle.tau_desk.specs.Seats.{Heads, PlainHead}
use Rattle.tau_desk.specs.Taken.{CanBeCore, IsMadeOf}
use Rattle.tau_desk.proofs.CloseHead.{HeadAt, has_all, head_at}
use Rattle.tau_desk.proofs.CloseMade.{are_shown, can_rest, is_closing}
use Rattle.tau_desk.proofs.CloseTaken.{can_be}
use Rattle.tau_desk.proofs.Closing.{ClosesAt, ends}
use Rattle.tau_desk.proofs.desk.Desk.close.Goals as goal

-- the head of this desk at the end of its table
record AtEnd (origin : Plain) (style : Style) (h : PlainHead) (parts : ℕ) (words : List ℕ) (slots : List (Option Part)) : Type 0 where
  head : HeadAt origin h
  whole : IsWhole h
  rests : AreResting h
  count : parts ≡ part_count origin.load
  closes : ClosesAt origin style h.me.0 words slots

at_end : (origin : Plain) {style : Style} (h h' : PlainHead) (parts : ℕ) (words : List ℕ) (slots : List (Option Part)) → Heads h → h ≡ h' → h'.me.0.opened ≡ Some origin → IsWhole h' → AreResting h' → parts ≡ part_count origin.load → Final (Seen (Rule origin style) h.id h.me.0) words slots →
    AtEnd origin style h parts words slots
at_end origin h h' parts words slots heads same opened whole rests count final =
    let whole : IsWhole h = subst IsWhole (sym same) whole in
    let head : HeadAt origin h = head_at h heads origin (ap (λ (p : PlainHead). p.me.0.opened) same ∙ opened) in
    record {
      head = head;
      whole = whole;
      rests = subst AreResting (sym same) rests;
      count = count;
      closes = ends origin h.id h.me.0 words slots head.idle (has_all origin h head whole) final;
    }

can : (origin : Plain) {style : Style} (l : Load) (h : PlainHead) (parts : ℕ) (words : List ℕ) (slots : List (Option Part)) → l ≡ origin.load → AtEnd origin style h parts words slots → CanBeCore l parts slots words h.workers h.managers
can origin l h parts words slots same a =
    subst (λ (z : Load). CanBeCore z parts slots words h.workers h.managers) (sym same) (can_be origin h a.head a.whole a.rests parts a.count words slots a.closes)

made_so : (origin : Plain) (l : Load) (h : PlainHead) (parts : ℕ) (words : List ℕ) (slots : List (Option Part)) (q : Plain) → l ≡ origin.load → IsMadeOf l parts slots words h.workers h.managers q → IsMadeOf origin.load parts slots words h.workers h.managers q
made_so origin l h parts words slots q same m = subst (λ (z : Load). IsMadeOf z parts slots words h.workers h.managers q) same m

pub put_together-parts-requires-clause-can : goal.put_together-parts-requires-clause-can
put_together-parts-requires-clause-can c =
    let desk = c.args.self in
    let i = c.head.inside in
    let h : PlainHead = record { table_id = i.seat.table_id; id = i.seat.id; me = i.seat.me; workers = i.workers.items; managers = i.managers.items; clerk = i.clerk; seen = i.seen } in
    let words = slots_items c.close_with-closed.result.words in
    let slots = slots_items c.close_with-closed.result.slots in
    can desk.table.shared.key.value desk.load h desk.parts words slots desk.same_load
    (at_end desk.table.shared.key.value h c.args.head desk.parts words slots c.head.invariant c.head.view_is c.requires.opened c.requires.whole c.requires.rests desk.sized.2 c.close_with-closed.ensures.values.2)

pub of_parts-requires-clause-rests : goal.of_parts-requires-clause-rests
of_parts-requires-clause-rests c =
    let desk = c.args.self in
    let key = desk.table.shared.key.value in
    let i = c.head.inside in
    let h : PlainHead = record { table_id = i.seat.table_id; id = i.seat.id; me = i.seat.me; workers = i.workers.items; managers = i.managers.items; clerk = i.clerk; seen = i.seen } in
    let words = slots_items c.close_with-closed.result.words in
    let slots = slots_items c.close_with-closed.result.slots in
    let a = at_end key h c.args.head desk.parts words slots c.head.invariant c.head.view_is c.requires.opened c.requires.whole c.requires.rests desk.sized.2 c.close_with-closed.ensures.values.2 in
    let q = c.put_together-parts.result in
    can_rest key h a.head a.whole a.rests desk.parts a.count words slots a.closes q (made_so key desk.load h desk.parts words slots q desk.same_load c.put_together-parts.ensures)

pub of_parts-requires-clause-shown : goal.of_parts-requires-clause-shown
of_parts-requires-clause-shown c =
    let desk = c.args.self in
    let key = desk.table.shared.key.value in
    let i = c.head.inside in
    let h : PlainHead = record { table_id = i.seat.table_id; id = i.seat.id; me = i.seat.me; workers = i.workers.items; managers = i.managers.items; clerk = i.clerk; seen = i.seen } in
    let words = slots_items c.close_with-closed.result.words in
    let slots = slots_items c.close_with-closed.result.slots in
    let a = at_end key h c.args.head desk.parts words slots c.head.invariant c.head.view_is c.requires.opened c.requires.whole c.requires.rests desk.sized.2 c.close_with-closed.ensures.values.2 in
    let q = c.put_together-parts.result in
    are_shown key h a.head a.whole a.rests desk.parts a.count words slots a.closes q (made_so key desk.load h desk.parts words slots q desk.same_load c.put_together-parts.ensures)

pub returns : goal.returns
returns c =
    let desk = c.args.self in
    let key = desk.table.shared.key.value in
    let i = c.head.inside in
    let h : PlainHead = record { table_id = i.seat.table_id; id = i.seat.id; me = i.seat.me; workers = i.workers.items; managers = i.managers.items; clerk = i.clerk; seen = i.seen } in
    let words = slots_items c.close_with-closed.result.words in
    let slots = slots_items c.close_with-closed.result.slots in
    let a = at_end key h c.args.head desk.parts words slots c.head.invariant c.head.view_is c.requires.opened c.requires.whole c.requires.rests desk.sized.2 c.close_with-closed.ensures.values.2 in
    let q = c.put_together-parts.result in
    subst (λ (p : PlainHead). IsClosing key desk.table.shared.key.style p.me.0 c.of_parts.result) c.head.view_is
    (is_closing key h a.head a.whole a.rests desk.parts a.count words slots a.closes q (made_so key desk.load h desk.parts words slots q desk.same_load c.put_together-parts.ensures) c.of_parts.result c.of_parts.ensures)
