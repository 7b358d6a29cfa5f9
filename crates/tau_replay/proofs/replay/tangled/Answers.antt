-- The first record that is left.
use Rattle.std.proofs.Common.{ℕ, ◌≡◌, sym, ap, subst, ◌∙◌}
use Rattle.tau_model.specs.Store.{database}
use Rattle.tau_scan.specs.declared.fault.ReplayRefusal.TheVariants.{Tangled}
use Rattle.tau_pool.specs.declared.item.Job.{Job}
use Rattle.tau_replay.specs.Recovering.{Stands}
use Rattle.tau_replay.specs.Redone.{IsTangledOver}
use Rattle.tau_replay.proofs.Lists.{of_get, left_put}
use Rattle.tau_replay.proofs.RecoveryGoesOn.{tangled_at, no_order}
use Rattle.tau_replay.proofs.replay.tangled.Goals as goal

refused_is : (a b c d : ℕ) → Tangled a b ≡ Tangled c d → (a ≡ c) × (b ≡ d)
refused_is a b c d e = (cc, cc)

pub start_of-requires : goal.start_of-requires
start_of-requires g c =
    let f = c.in-Some.ensures.some in
    let (r, held, of) = of_get c.args.log.now g.course.records c.args.replay.now.pools.items c.in-Some.job.place f.item c.requires.1.0.going.items f.there in
    (r, subst (λ (j : Job). Stands c.args.log.now j.stream j.index r) (sym f.named) of.stands)

pub returns-in-Some : goal.returns-in-Some
returns-in-Some g c j at e =
    let log = c.args.log.now in
    let w = c.requires.1.0 in
    let p = c.args.replay.now.pools in
    let f = c.in-Some.ensures.some in
    let (r, held, of) = of_get log g.course.records p.items c.in-Some.job.place f.item w.going.items f.there in
    let stands : Stands log c.in-Some.job.stream c.in-Some.job.index r = subst (λ (k : Job). Stands log k.stream k.index r) (sym f.named) of.stands in
    let same = refused_is c.in-Some.job.stream c.start_of.result j at e in
    let stream : r.place.stream ≡ j = sym of.stream ∙ sym (ap (λ (k : Job). k.stream) f.named) ∙ same.0 in
    let start : r.place.start ≡ at = sym (c.start_of.ensures r stands) ∙ same.1 in (
      subst (λ (n : ℕ). IsTangledOver g.course.records j n) start (subst (λ (n : ℕ). IsTangledOver g.course.records n r.place.start) stream
          (tangled_at log g.course p (database c.args.replay.now.store) w.order c.in-Some.job r c.requires.0 w.going c.requires.1.1.1.none_ready c.requires.1.1.0 f held)),
      λ order is. no_order log g.course p (database c.args.replay.now.store) w.order w.going c.requires.1.1.1.none_ready c.requires.1.1.0 r (left_put g.course.records p.items c.in-Some.job.place f.item r f.there held f.left) order is,
    )
