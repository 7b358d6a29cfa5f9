use Rattle.std.proofs.Common.{◌≡◌, ℕ, ◌<◌, length, sym, ap, ◌∙◌, subst, arith, get_or-set_same, get_or-set_other}
use Rattle.std.specs.Prelude.{slice_index}
use Rattle.tau_core.specs.State.{Plain}
use Rattle.tau_desk.specs.Looks.{PersistedAt}
use Rattle.tau_desk.specs.Seats.{PlainClerkSeat}
use Rattle.tau_desk.proofs.seat.ClerkSeat.looks.Goals as goal

pub returns-clause-others : goal.returns-clause-others
returns-clause-others c = λ j ne. ap (λ (s : PlainClerkSeat). slice_index s.seen j) c.look.ensures.knows ∙ get_or-set_other c.args.self.now.seen c.args.stream j c.look.result 0 ne

pub returns-clause-stands : goal.returns-clause-stands
returns-clause-stands c =
    let key : Plain = c.args.desk.now.table.shared.key.value in
    let within : c.args.stream < length c.args.self.now.seen = (let a = c.seen_at-before.ensures.wide in let b = c.requires.there in omega (arith, a, b)) in
    let is : slice_index c.look.new.self.seen c.args.stream ≡ c.look.result = ap (λ (s : PlainClerkSeat). slice_index s.seen c.args.stream) c.look.ensures.knows ∙ get_or-set_same c.args.self.now.seen c.args.stream c.look.result 0 within in
    subst (λ (n : ℕ). PersistedAt key c.args.self.now.me.0 c.args.self.now.seen c.args.stream n) (sym is) c.look.ensures.stands
