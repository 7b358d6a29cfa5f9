-- One more call, whose rows stand at the end.
use Rattle.std.proofs.Common.{◌≡◌, ◌++◌, List, length, map, refl, sym, ap, subst, ◌∙◌, rules}
use Rattle.std.specs.List.{All}
use Rattle.tau_base.specs.declared.value.Key.{Key}
use Rattle.tau_base.specs.declared.value.Value.{Value}
use Rattle.tau_base.specs.Database.{written}
use Rattle.tau_proc.specs.Effect.{Effect}
use Rattle.tau_proc.specs.Meaning.{meaning}
use Rattle.tau_model.specs.Store.{database}
use Rattle.tau_inspect.specs.declared.executed.Extent.{Extent}
use Rattle.tau_inspect.specs.KeptDone.{done_in, IsExtent}
use Rattle.tau_inspect.proofs.KeptDone.{extents_more, done_more}
use Rattle.tau_inspect.proofs.executed.go_on.Goals as goal

pub returns-clause-within : goal.returns-clause-within
returns-clause-within c =
    let before = c.args.all.now.rows.items in let run = c.in_ok-reply.ensures in let reads = (meaning c.args.procs.now c.args.call.now (database c.args.all.now.store)).reads in
    let writes = c.writes.result.now in
    let is : c.put_rows.new.rows.items ≡ (before ++ reads) ++ writes = c.in_ok-put_rows.ensures ∙ ap (λ (l : List (Key × Value)). l ++ writes) run.reads in
    let m : Extent = record { from = c.len-from.result; middle = c.len-middle.result; past = c.len-past.result; reply = c.in_ok-reply.reply } in
    let from : c.len-from.result ≡ length before = search rules in
    let middle : c.len-middle.result ≡ length (before ++ reads) = (let here : c.len-middle.result ≡ length c.read_on.new.rows.items = search rules in here ∙ ap length run.reads) in
    let past : c.len-past.result ≡ length ((before ++ reads) ++ writes) = (let here : c.len-past.result ≡ length c.put_rows.new.rows.items = search rules in here ∙ ap length is) in
    subst (λ (l : List (Key × Value)). All (IsExtent l) c.push.new.self.items) (sym is)
    (subst (λ (ms : List Extent). All (IsExtent ((before ++ reads) ++ writes)) ms) (sym c.in_ok-push.ensures.items) (extents_more before reads writes m from middle past c.args.all.now.extents.items c.requires.within))

pub returns-clause-done : goal.returns-clause-done
returns-clause-done c =
    let before = c.args.all.now.rows.items in let run = c.in_ok-reply.ensures in let e : Effect = meaning c.args.procs.now c.args.call.now (database c.args.all.now.store) in let reads = e.reads in
    let writes = c.writes.result.now in
    let is : c.put_rows.new.rows.items ≡ (before ++ reads) ++ writes = c.in_ok-put_rows.ensures ∙ ap (λ (l : List (Key × Value)). l ++ writes) run.reads in
    let m : Extent = record { from = c.len-from.result; middle = c.len-middle.result; past = c.len-past.result; reply = c.in_ok-reply.reply } in
    let from : c.len-from.result ≡ length before = search rules in
    let middle : c.len-middle.result ≡ length (before ++ reads) = (let here : c.len-middle.result ≡ length c.read_on.new.rows.items = search rules in here ∙ ap length run.reads) in
    let past : c.len-past.result ≡ length ((before ++ reads) ++ writes) = (let here : c.len-past.result ≡ length c.put_rows.new.rows.items = search rules in here ∙ ap length is) in
    ap (λ (l : List (Key × Value)). map (done_in l) c.push.new.self.items) is
    ∙ ap (map (done_in ((before ++ reads) ++ writes))) c.in_ok-push.ensures.items
    ∙ done_more before reads writes m from middle past c.args.all.now.extents.items c.requires.within e refl (sym (c.writes.ensures.same ∙ run.writes)) run.replied

pub returns-clause-rows : goal.returns-clause-rows
returns-clause-rows c =
    c.in_ok-write_near.ensures.ok ∙ ap (λ (rows : List (Key × Value)). written rows (database c.args.all.now.store)) (c.writes-2.ensures.same ∙ c.in_ok-reply.ensures.writes)
