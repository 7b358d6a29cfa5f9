-- How the events of a run in threads are chosen.
use Rattle.std.specs.Prelude.{ℕ, ◌<◌, Bool, true, false, None, List, map, slice_index}
use Rattle.tau_disk.specs.declared.disk.Disk.{Ghosts}
use Rattle.tau_stream.specs.declared.writer.Writer.{Writer}
use Rattle.tau_machine.specs.State.{Core}
use Rattle.tau_core.specs.View.{setting_of}
use Rattle.tau_core.specs.declared.state.Load.{Load}
use Rattle.tau_occ.specs.declared.style.Style.{Style}
use Rattle.tau_run.specs.StopsLeave.{NamesLowest, stops_in}
use Rattle.tau_run.specs.Turns.{Progress}
use Rattle.tau_rule.specs.Holders.{LeadHeld}
use Rattle.tau_crew_facts.specs.Ends.{AreLasting}
use Rattle.tau_crew_facts.specs.Spacing.{IsSpacing}

-- of a whole run in which no stream was stopped the anchors of each stream stand in their distance, from where it ended at the opening
abbrev pub KeepsApart : Bool → Load → Progress → Type 0
KeepsApart true l p = NamesLowest l.streams (stops_in p.state) None → (j : ℕ) → j < l.streams → IsSpacing (slice_index l.opening.anchors.items j) (slice_index l.opening.ends j) (slice_index p.state.plv j) (map (λ (v : List ℕ). slice_index v j) (p.state.streams j).anchors)
KeepsApart false l p = Unit {0}

-- The events of a run in threads come in any order; but a worker is Busy only if another one holds the key that it wants, in a
-- mode that conflicts, or, in the style Optimistic, if it is to read.
abbrev pub in_threads : Style → Bool → Load → Core → Progress → Type 0
in_threads style whole l opening p = LeadHeld (setting_of l) style p.events opening p.state p.joined × KeepsApart whole l p

-- And each position that a manager stored was just what was durable of its stream at some moment: whatever stops might have left of its
-- disk since then holds at least so much, and some image no more.
abbrev pub lasting : {D : Type 0} {G : Ghosts D} → Style → List (Writer D G) → Bool → Load → Core → Progress → Type 0
lasting {D} {G} style ws' whole l opening p = in_threads style whole l opening p × AreLasting l p.events ws'
