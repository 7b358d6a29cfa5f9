use Rattle.std.proofs.Common.{◌≡◌, ◌<◌, ◌∷◌, ◌++◌, [], List, sym, ap, subst, ◌∙◌, length}
use Rattle.std.specs.Prelude.{None}
use Rattle.std.specs.Map.{lookup}
use Rattle.std.specs.Option.{option_copied, unwrap_or}
use Rattle.tau_base.specs.declared.value.Value.TheVariants.{Absent}
use Rattle.tau_base.specs.declared.value.Key.{Key}
use Rattle.tau_base.specs.declared.value.Value.{Value}
use Rattle.tau_base.specs.Database.{same_key}
use Rattle.tau_proc.specs.declared.reply.Want.TheVariants.{Read}
use Rattle.tau_proc.specs.Progress.{ahead, next_want}
use Rattle.tau_txn.specs.declared.standing.Standing.TheVariants.{Running}
use Rattle.tau_txn.specs.Hand.{PlainHand}
use Rattle.tau_txn.specs.Progress.{IsRunBy, Follows, WantsUnseen}
use Rattle.tau_txn.proofs.Follow.{follows_read, read_wants}
use Rattle.tau_txn.proofs.Granted.{seen_room, held_room_read, run_read}
use Rattle.tau_txn.proofs.hand.Hand.see.Goals as goal

pub take-requires : goal.take-requires
take-requires c =
    let is = c.requires.run.is in
    subst (λ (h : PlainHand). length h.held < 64) (sym c.self.view_is) (held_room_read c.requires.run.procs c.args.self.now c.args.key is (is.holds c.requires.running) c.requires.wanted)

pub push_seen-requires : goal.push_seen-requires
push_seen-requires c =
    (subst (λ (h : PlainHand). length h.seen < 64) (sym c.self.view_is) (seen_room c.requires.run.procs c.args.self.now c.args.key c.requires.run.is c.requires.wanted))

pub returns-clause-runs : goal.returns-clause-runs
returns-clause-runs c = λ procs is.
    let run = subst (IsRunBy procs) (sym c.self.view_is) is in
    let running : c.self.inside.standing ≡ Running = ap (λ (h : PlainHand). h.standing) c.self.view_is ∙ c.requires.running in
    let wants : next_want c.self.inside.machine ≡ Read c.args.key = ap (λ (h : PlainHand). next_want h.machine) c.self.view_is ∙ c.requires.wanted in
    let stands = read_wants c.self.inside.machine c.args.key wants in
    let more : List (Key × Value) = c.self.inside.seen.items ++ (c.args.key, (unwrap_or (option_copied c.args.row) Absent)) ∷ [] in
    let saw : c.as_slice.result.now ≡ more = c.as_slice.ensures.value ∙ c.push_seen.ensures in
    let none : lookup (same_key c.args.key) c.self.inside.seen.items ≡ None = subst (WantsUnseen c.self.inside.seen.items) stands run.unseen in
    let gives = c.give_row.ensures.stands in
    let once = follows_read procs c.self.inside.call c.self.inside.seen.items c.self.inside.machine c.args.key (unwrap_or (option_copied c.args.row) Absent) c.give_row.new.self stands gives c.give_row.ensures.granted run.follows none in
    let again = c.catch_up.ensures.follows procs c.self.inside.call (subst (λ (l : List (Key × Value)). Follows procs c.self.inside.call l c.give_row.new.self) (sym saw) once) in
    let follows = subst (λ (l : List (Key × Value)). Follows procs c.self.inside.call l c.catch_up.new.machine) saw again in
    let unseen = subst (λ (l : List (Key × Value)). WantsUnseen l (ahead c.catch_up.new.machine [])) saw c.catch_up.ensures.unseen in
    rw (c.take.ensures, c.push_seen.ensures)
    (run_read procs _ c.args.key (unwrap_or (option_copied c.args.row) Absent) c.catch_up.new.machine c.self.inside.dep run running wants follows unseen (c.catch_up.ensures.granted ∙ c.give_row.ensures.granted))
