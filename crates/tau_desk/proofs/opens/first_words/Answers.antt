use Rattle.std.proofs.Common.{rules, ◌+◌, ◌*◌, ◌≡◌, replicate}
use Rattle.tau_desk.proofs.Slots.{are_first}
use Rattle.tau_desk.proofs.opens.first_words.Goals as goal

pub returns : goal.returns
returns c =
    let n = c.width-streams.result in
    let zeros : c.in-Ok.words.items ≡ replicate (8 * (c.args.parts + (n + n + 1))) 0 = search rules in
    are_first c.args.parts n c.args.ends.now c.args.plv.now c.in-Ok.words.items c.put_words.new.words.items c.put_words-2.new.words.items c.width-streams.ensures.same c.requires.wide zeros
    c.put_words.ensures.count c.put_words.ensures.put c.put_words.ensures.others c.put_words-2.ensures.count c.put_words-2.ensures.put c.put_words-2.ensures.others
