use Rattle.std.proofs.Common.{◌≡◌, ◌-◌, None, length, map}
use Rattle.tau_base.specs.declared.value.Value.TheVariants.{Int}
use Rattle.tau_record.specs.Item.{writes_at}
use Rattle.tau_record.proofs.Loop.{with_front}
use Rattle.tau_record.proofs.item.numbers_of.Given as goal

abbrev pub invariant-loop : goal.invariant-loop
invariant-loop l = record {
  count : length l.numbers.items ≡ l.counter;
  reads : with_front (map (λ r. (r.0, Int r.1)) l.numbers.items) (writes_at (l.count - l.counter) l.last l.rest) ≡ writes_at l.count None l.bytes;
}
