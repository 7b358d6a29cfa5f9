use Rattle.std.proofs.Common.{◌≡◌, ◌-◌, ◌+◌, length, arith, sym, [], refl, ◌∙◌}
use Rattle.std.proofs.lemmas.Bool.{eqb-true, eqb-false}
use Rattle.tau_record.specs.Content.{content_at}
use Rattle.tau_record.specs.Record.{named}
use Rattle.tau_record.proofs.Walk.{goes_on, ends, is_done, leaves, starts, are_first}
use Rattle.tau_record.proofs.content.records.Goals as goal

pub loop-init : goal.loop-init
loop-init c =
    let first : c.push.new.self.items ≡ named c.args.n [] = rw (c.in_ok-push.ensures.items, c.new-vectors.ensures.items, c.zero.ensures) refl in
    record {
      place = omega arith;
      fuel = omega arith;
      are = are_first c.args.n c.push.new.self.items first;
      bytes = λ i. omega (arith, c.type_inv.content i);
      reads = starts c.args.format c.args.n c.args.content.now c.push.new.self.items c.new-placed.result.items first c.new-placed.ensures.items;
    }

pub returns-then-is_empty : goal.returns-then-is_empty
returns-then-is_empty c = is_done c.args.format c.args.n (length c.args.content.now - c.loop.counter) c.loop.at c.loop.named.number c.loop.named.vectors.items c.loop.rest.now c.loop.placed.items (content_at c.args.format c.args.n c.args.content.now) (eqb-true _ _ (sym c.is_empty.ensures ∙ c.if-is_empty.true)) c.loop.invariant.reads

pub returns-in-Err : goal.returns-in-Err
returns-in-Err c = rw c.refusal_at.ensures (ends c.args.format c.args.n (length c.args.content.now) c.loop.counter c.loop.at c.loop.named.number c.loop.named.vectors.items c.loop.rest.now c.in-Err.e c.loop.placed.items (content_at c.args.format c.args.n c.args.content.now) c.loop-test.true (eqb-false _ _ (sym c.is_empty.ensures ∙ c.if-is_empty.false)) c.in-Err.ensures c.loop.invariant.reads)

pub overflow_sub-past : goal.overflow_sub-past
overflow_sub-past c =
    let left = leaves c.args.format c.args.n c.loop.at c.loop.named.number c.loop.named.vectors.items c.loop.rest.now c.in-Ok.ensures.entry c.in-Ok.after.now c.loop.invariant.bytes c.loop.invariant.are c.in-Ok.ensures.read in
    omega (arith, left.shorter)

pub loop-preserved : goal.loop-preserved
loop-preserved c =
    let put = c.in-Ok.ensures in
    let left = leaves c.args.format c.args.n c.loop.at c.loop.named.number c.loop.named.vectors.items c.loop.rest.now put.entry c.in-Ok.after.now c.loop.invariant.bytes c.loop.invariant.are put.read in
    record {
      place = omega (arith, left.shorter, c.loop.invariant.place);
      fuel = omega (arith, left.shorter, c.loop.invariant.fuel);
      are = rw put.names_are left.are;
      bytes = left.bytes;
      reads = rw (put.names_are, put.number_is, put.behind) (goes_on c.args.format c.args.n (length c.args.content.now) c.loop.counter c.loop.at (c.loop.at + (length c.loop.rest.now - length c.in-Ok.after.now)) c.loop.named.number c.loop.named.vectors.items c.loop.rest.now put.entry c.in-Ok.after.now c.loop.placed.items (content_at c.args.format c.args.n c.args.content.now) c.loop-test.true (eqb-false _ _ (sym c.is_empty.ensures ∙ c.if-is_empty.false)) refl put.read c.loop.invariant.reads);
    }

pub returns : goal.returns
returns c = is_done c.args.format c.args.n (length c.args.content.now - c.loop.counter) c.loop.at c.loop.named.number c.loop.named.vectors.items c.loop.rest.now c.loop.placed.items (content_at c.args.format c.args.n c.args.content.now) (omega (arith, c.loop.invariant.fuel, c.loop-test.false)) c.loop.invariant.reads
