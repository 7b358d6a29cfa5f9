-- What the code of a step answers, against what the step does.
use Rattle.tau_proc.specs.declared.running.Did.{Did}
use Rattle.tau_proc.specs.declared.running.Did.TheVariants as did
use Rattle.tau_proc.specs.Meaning.{Running, Action, Go, Ask, Refuse}

abbrev pub did_of : Action → Did
did_of (Go next) = did.Goes
did_of (Ask key into) = did.Asks key into
did_of Refuse = did.Refuses

-- how the call stands after the action; one that asks or is refused stands as before
abbrev pub after : Action → Running → Running
after (Go next) r = next
after (Ask key into) r = r
after Refuse r = r
