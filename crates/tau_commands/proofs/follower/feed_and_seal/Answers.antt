use Rattle.std.proofs.Common.{◌∙◌, inr}
use Rattle.tau_follow.specs.Follower.{rows_of}
use Rattle.tau_commands.specs.Following.{fed_format}
use Rattle.tau_commands.proofs.follower.feed_and_seal.Goals as goal

pub returns-in-Err-seal-clause-bad : goal.returns-in-Err-seal-clause-bad
returns-in-Err-seal-clause-bad c pieces fault are e =
    let fed = c.in-Ok.ensures.ok pieces are in
    inr (record { fed = fed.0; state = fed.1; told = fed.2; bad = c.seal.ensures.bad (fed_format c.args.streams) c.args.streams fed.0 fed.1 fault fed.3 (c.in-Err-seal.is ∙ e) })

pub returns-in-Ok-put_recovery-clause-ok : goal.returns-in-Ok-put_recovery-clause-ok
returns-in-Ok-put_recovery-clause-ok c pieces are =
    let fed = c.in-Ok.ensures.ok pieces are in
    let sealed = c.in-Ok-seal.ensures.ok (fed_format c.args.streams) c.args.streams fed.0 fed.1 fed.3 in
    let all = sealed.1.recovered in
    record {
      lines = c.feed_pieces.new.lines.items;
      fed = fed.0;
      state = fed.1;
      told = fed.2;
      log = sealed.0;
      reads = all.reads;
      rows = rows_of c.seal.new.self;
      redone = all.redone;
      by_turns = all.by_turns;
      text_is = c.in-Ok-put_recovery.ensures (fed_format c.args.streams) fed.0 sealed.0 sealed.1;
    }
