-- The laws, from those of the machine.
use Rattle.std.proofs.Common.{ℕ, ◌+◌, ◌<◌, ◌≡◌, List, [], ◌∷◌, ◌++◌, length, ap, ◌∙◌, arith, length-append}
use Rattle.std.specs.Prelude.{map, slice_index}
use Rattle.std.proofs.lemmas.Option.{slice_get_within}
use Rattle.tau_model.proofs.Reorder.{reordered_trans}
use Rattle.tau_machine.specs.Hands.{committed_of}
use Rattle.tau_machine.specs.State.{Item, start_of, past_of}
use Rattle.tau_machine.specs.Pieces.{Chain}
use Rattle.tau_machine.proofs.Results.{order_theorem, rows_theorem, reported_theorem, numbers_theorem, cuts_theorem, streams_theorem, acknowledged_theorem, contents_theorem, light_theorem, committed_theorem, ended_theorem}
use Rattle.tau_core.specs.declared.state.Load.{Load}
use Rattle.tau_core.specs.Pieces.{Spelled}
use Rattle.tau_core.specs.View.{setting_of, core_of, anchors_in}
use Rattle.tau_core.specs.Stands.{anchors_at}
use Rattle.tau_core.specs.Laws.{DependenceLaw, RowsLaw, ReportedLaw, NumbersLaw, CutsLaw, SpellingLaw, AcknowledgedLaw, LightLaw, CommittedLaw}

pub dependence_law : DependenceLaw
dependence_law p K h g = order_theorem (setting_of p.load) K (core_of p h) g.inv

pub rows_law : RowsLaw
rows_law p K h g = rows_theorem (setting_of p.load) K (core_of p h) g.inv

pub reported_law : ReportedLaw
reported_law p K h g = reported_theorem (setting_of p.load) K (core_of p h) g.inv

pub numbers_law : NumbersLaw
numbers_law p K h g list r = numbers_theorem (setting_of p.load) K (core_of p h) g.inv list (reordered_trans (map committed_of K) p.committed list g.order r)

pub cuts_law : CutsLaw
cuts_law p K h g = cuts_theorem (setting_of p.load) K (core_of p h) g.inv

-- bytes that spell items which touch end to start are as many as lie between the ends
spelled_long : (l : Load) (anchors : ℕ → List (List ℕ)) (from past : ℕ) (items : List Item) (bytes : List ℕ) → Chain from items past → Spelled l anchors items bytes → from + length bytes ≡ past
spelled_long l anchors from past [] bytes c q = (let e : length bytes ≡ 0 = ap (length {A = ℕ}) q in let f : from ≡ past = c in omega arith)
spelled_long l anchors from past (i ∷ is) bytes c q =
    let (first, rest, whole, size, of_item, more) = q in
    let long : length bytes ≡ length first + length rest = ap (length {A = ℕ}) whole ∙ length-append first rest in
    let start : start_of i ≡ from = c.0 in
    let behind : past_of i + length rest ≡ past = spelled_long l anchors (past_of i) past is rest c.2 more in
    omega arith

pub spelling_law : SpellingLaw
spelling_law p K h g j s is =
    let there : j < p.load.streams = (let e = g.sound.streams in let lt = slice_get_within p.streams j s is in omega arith) in
    let q = streams_theorem (setting_of p.load) K (core_of p h) g.inv j there in
    let spelled = g.gathered j s is in
    (q.0, q.1, q.2, q.3, q.4 ∙ ap anchors_in is, q.5, spelled, spelled_long p.load (anchors_at p) (slice_index p.load.opening.ends j) (slice_index p.gathered j) (h.moved j) (h.taken j ++ s.body) q.1 spelled)

pub acknowledged_law : AcknowledgedLaw
acknowledged_law p K h g w k m =
    let q = acknowledged_theorem (setting_of p.load) K (core_of p h) g.inv w k m in
    (q.0, q.1, q.2, q.3, q.4, λ cut remains. q.4 cut (contents_theorem (setting_of p.load) K (core_of p h) g.inv cut remains.0 remains.1))

pub light_law : LightLaw
light_law p K h g = light_theorem (setting_of p.load) K (core_of p h) g.inv

pub committed_law : CommittedLaw
committed_law p K h g =
    let q = committed_theorem (setting_of p.load) K (core_of p h) g.inv in
    (λ t m. (let a = q.0 t m in (a.0, a.1, a.4)), q.1, λ w. ended_theorem (setting_of p.load) K (core_of p h) g.inv w)
