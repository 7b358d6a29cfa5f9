use Rattle.tau_crew_facts.proofs.Closing.{thread_end, thread_apart, thread_done}
use Rattle.tau_crew_facts.proofs.laws.closed_desks_end.Goals as goal

pub returns : goal.returns
returns g c = λ first style v workers managers acked now k bases ws ws' acks count loose managed telling. (
  thread_end first v workers managers acked now k bases ws ws' acks count loose managed telling,
  thread_apart first v workers managers acked now k bases ws ws' acks count loose managed telling,
  thread_done first v workers managers acked now k bases ws ws' acks count loose managed telling,
)
