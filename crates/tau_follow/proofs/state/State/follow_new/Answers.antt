-- Nothing more is read, or it is followed.
use Rattle.std.proofs.Common.{ap, sym, ◌∙◌, ◌++◌}
use Rattle.tau_follow_laws.specs.Following.{left_out, with_read}
use Rattle.tau_follow.proofs.Fed.{all_read, feeds_one}
use Rattle.tau_follow.proofs.Waiting.{waits, stages_same, same_out}
use Rattle.tau_follow.proofs.state.State.follow_new.Goals as goal

pub returns-then-not-more-clause-ok : goal.returns-then-not-more-clause-ok
returns-then-not-more-clause-ok c = λ f n fed s p h on same.
    (let r = h.read in
    let fronts = r.fronts ∙ ap all_read (same c.if-not-more.true) in
    let w = waits f n fed s p h.follower h.catalogue fronts h.one in
    let stands = h.stands in
    let staged = stands.staged in (
      with_read s s.streams,
      w,
      record {
        read = h.read;
        bytes = h.bytes;
        follower = feeds_one f n fed s (with_read s s.streams) p h.follower w;
        catalogue = h.catalogue;
        one = h.one;
        knows = (let k = h.knows in record { known = k.known; declarations = k.declarations });
        stands = record {
          staged = record { stages_are = staged.stages_are ∙ sym (stages_same s.out (s.out ++ left_out s.streams) s.order (same_out f n fed s p h.follower) 0 s.streams); passed = staged.passed; kept = staged.kept };
          spots = stands.spots;
          told = stands.told;
        };
        redone = (let d = h.redone in record { within = d.within; store = d.store; tables = d.tables });
      },
    ))
