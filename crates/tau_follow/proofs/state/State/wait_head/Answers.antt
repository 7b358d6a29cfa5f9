-- The stream waits on, or all is as it was.
use Rattle.std.proofs.Common.{arith}
use Rattle.tau_follow_laws.specs.Feeding.{Piece}
use Rattle.tau_follow.proofs.Bytes.{bytes_then}
use Rattle.tau_follow.proofs.Cut.{waits_at}
use Rattle.tau_follow.proofs.Waiting.{at_streams}
use Rattle.tau_follow.proofs.state.State.wait_head.Goals as goal

pub returns-clause-put : goal.returns-clause-put
returns-clause-put c = λ f n fed s lt a yes.
    (let p : Piece = record { stream = c.args.stream; bytes = c.args.bytes.now } in
    let w = a.read in
    waits_at f n fed s p _ (record {
      read = c.wait_head.ensures.put f n fed c.args.self.now.streams.items lt a.read yes;
      bytes = bytes_then fed p a.bytes (λ i. omega (arith, c.type_inv.bytes i));
      follower = a.follower;
      catalogue = a.catalogue;
      one = a.one;
      knows = (let k = a.knows in record { known = k.known; declarations = k.declarations });
      stands = a.stands;
      redone = a.redone;
    }) (at_streams f n fed s c.args.self.now.streams.items a.follower w.fronts))

pub returns-clause-same : goal.returns-clause-same
returns-clause-same c = λ f n fed s lt a no. record {
  read = c.wait_head.ensures.same f n fed c.args.self.now.streams.items lt a.read no;
  bytes = a.bytes;
  follower = a.follower;
  catalogue = a.catalogue;
  one = a.one;
  knows = (let k = a.knows in record { known = k.known; declarations = k.declarations });
  stands = a.stands;
  redone = a.redone;
}
