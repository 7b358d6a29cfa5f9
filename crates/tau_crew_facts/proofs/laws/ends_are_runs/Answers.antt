use Rattle.tau_crew_facts.proofs.Came.{came}
use Rattle.tau_crew_facts.proofs.laws.ends_are_runs.Goals as goal

pub returns : goal.returns
returns g c = λ bases first style long now ws ws' acks e. came bases first long now ws ws' acks e
