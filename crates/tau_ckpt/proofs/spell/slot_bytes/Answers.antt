use Rattle.std.proofs.Common.{◌≡◌, ◌+◌, ◌*◌, ◌++◌, ◌∙◌, List, ℕ, length, ap, subst, arith, length-append}
use Rattle.std.specs.List.{AllByRecursion, flat_map}
use Rattle.tau_base.specs.declared.value.Key.{Key}
use Rattle.tau_base.specs.declared.value.Value.{Value}
use Rattle.tau_record.specs.Item.{FitsWrite, write}
use Rattle.tau_ckpt.specs.Slot.{body_text, frame, slot_text}
use Rattle.tau_ckpt.proofs.Parts.{frame_long}
use Rattle.tau_ckpt.proofs.Rows.{body_long, rows_present, rows_sorted, slot_made}
use Rattle.tau_ckpt.proofs.spell.slot_bytes.Goals as goal

-- the bytes, and how many they are
module _ (c : goal.In_ok-put_writes) where
  long : 20 + 8 * c.width-streams.result + c.rows_size.result ≡ length (body_text c.args.value.now)
  long = omega (arith, body_long c.args.value.now, c.width-streams.ensures.same, c.rows_size.ensures.exact, ap (λ (rows : List (Key × Value)). length (flat_map write rows)) c.rows-rows.ensures)

  text : c.put_writes.new.out.items ≡ slot_text c.args.slot c.args.value.now
  text =
      slot_made c.args.slot c.args.value.now c.width-streams.result (20 + 8 * c.width-streams.result + c.rows_size.result) c.extend_from_slice.new.self.items c.put_head.new.out.items c.put_writes.new.out.items
      c.width-streams.ensures.same long
      (c.in_ok-extend_from_slice.ensures.items ∙ ap (λ (l : List ℕ). l ++ c.frame.result) c.in_ok-bytes.ensures.items ∙ c.frame.ensures)
      c.in_ok-put_head.ensures.bytes
      (c.in_ok-put_writes.ensures.bytes ∙ ap (λ (rows : List (Key × Value)). c.put_head.new.out.items ++ flat_map write rows) c.rows-rows.ensures)

pub returns-clause-spelled : goal.returns-clause-spelled
returns-clause-spelled c = record {
  slot_is = c.requires.slot;
  fits = record {
    low = c.requires.low;
    high = c.requires.high;
    epoch = omega arith;
    some = omega (arith, c.width-streams.ensures.same, c.width-streams.ensures.low);
    few = omega (arith, c.width-streams.ensures.same, c.width-streams.ensures.high);
    places = c.in_ok-put_head.ensures.places;
    are_rows = (rows_sorted c.args.value.now.rows c.requires.tables.ascending, subst (AllByRecursion FitsWrite) c.rows-rows.ensures c.in_ok-put_writes.ensures.fit);
    present = rows_present c.args.value.now.rows c.requires.tables.present;
    short = omega (arith, long c, c.rows_size.ensures.small, c.if-rows-gt-MOST_ROWS.false, c.width-streams.ensures.high);
  };
  text = text c;
}

pub returns-clause-small : goal.returns-clause-small
returns-clause-small c =
    omega (
      arith,
      ap length (text c),
      length-append (frame (length c.args.value.now.lv) c.args.slot (length (body_text c.args.value.now))) (body_text c.args.value.now),
      frame_long (length c.args.value.now.lv) c.args.slot (length (body_text c.args.value.now)),
      long c,
      c.rows_size.ensures.small,
      c.if-rows-gt-MOST_ROWS.false,
      c.width-streams.ensures.high,
    )
