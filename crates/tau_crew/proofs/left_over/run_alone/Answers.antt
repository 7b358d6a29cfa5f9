use Rattle.tau_crew.proofs.left_over.run_alone.Goals as goal

pub join_worker-requires-clause-posted : goal.join_worker-requires-clause-posted
join_worker-requires-clause-posted g c = c.work-ended.ensures.unjoined.posted

pub returns : goal.returns
returns g c = record {
  was = c.agrees.ensures;
  seat = c.work-ended.new.seat;
  ends = c.work-ended.ensures;
  works = c.agrees-2.ensures;
  joined = c.join_worker.ensures.joined;
}
