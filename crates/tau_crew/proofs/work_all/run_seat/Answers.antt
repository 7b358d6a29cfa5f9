use Rattle.tau_crew.proofs.work_all.run_seat.Goals as goal

pub returns : goal.returns
returns g c = record {
  returned = c.work-ended.result;
  short_is = c.is_err-short.ensures.value;
  ends = c.work-ended.ensures;
  works = c.agrees.ensures;
}
