use Rattle.std.proofs.Common.{List, subst}
use Rattle.std.specs.Prelude.{IfOk}
use Rattle.tau_model.specs.History.{Act}
use Rattle.tau_model.specs.Tables.{IsTablesOf}
use Rattle.tau_machine.specs.Hands.{Txn}
use Rattle.tau_machine.specs.State.{sight}
use Rattle.tau_core.specs.State.{Plain}
use Rattle.tau_core.specs.View.{Hidden, setting_of, core_of}
use Rattle.tau_core.specs.Stands.{Stands}
use Rattle.tau_core.proofs.top.Core.tables.Goals as goal

pub returns : goal.returns
returns c = subst (λ (p : Plain). (K : List (Act Txn)) (h : Hidden) → Stands p K h → IfOk c.tables.result (λ tables. IsTablesOf (sight (setting_of p.load) (core_of p h)).row tables)) c.self.view_is (λ K h g. c.tables.ensures)
