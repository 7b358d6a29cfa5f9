use Rattle.std.proofs.Common.{ℕ, ◌≡◌, List, inl, inr, sym, ap, subst, ◌∙◌, length, take, arith}
use Rattle.std.specs.Prelude.{Err, Some}
use Rattle.tau_begin.specs.Opened.{IsReadFrom}
use Rattle.tau_begin.specs.Reading.{AreAskedFor, WereRead}
use Rattle.tau_begin.proofs.Giving.{if_ok_on, if_ok_all}
use Rattle.tau_begin.proofs.Reading.{lengths_still, only_after, were_read, asking_refused, asking_rest, has_read, read_from}
use Rattle.tau_begin.proofs.Slices.{lengths_first}
use Rattle.tau_begin.proofs.read.read_first.Goals as goal

pub returns-in-Err-clause-only : goal.returns-in-Err-clause-only
returns-in-Err-clause-only g c = asking_refused g.D.Disk c.args.n c.args.disks.now c.ask_each.new.disks c.ask_each.result c.in-Err.refusal c.in-Err.is c.ask_each.ensures.failed c.ask_each.ensures.memory c.ask_each.ensures.long

pub returns-in-Err-clause-rest : goal.returns-in-Err-clause-rest
returns-in-Err-clause-rest g c = asking_rest g.D.Disk c.args.n c.args.disks.now c.ask_each.new.disks c.ask_each.result c.in-Err.refusal c.in-Err.is c.ask_each.ensures.failed c.ask_each.ensures.memory c.ask_each.ensures.long

pub returns-in-Err-clause-failed : goal.returns-in-Err-clause-failed
returns-in-Err-clause-failed g c j e =
    let is = c.refusal_of.ensures.failed_only j (cc e) in
    inl (c.ask_each.ensures.failed j (c.in-Err.is ∙ ap (λ x. Err x) is))

pub read_asked-requires-clause-lengths : goal.read_asked-requires-clause-lengths
read_asked-requires-clause-lengths g c =
    let count : length c.ask_each.new.lengths.items ≡ c.args.n = omega (arith, c.in-Ok.ensures.count, c.ask_each.new.lengths.ok.0) in
    let are : AreAskedFor g.D.Disk c.ask_each.new.lengths.items c.args.n c.args.disks.now c.ask_each.new.disks = record { asked = c.in-Ok.ensures.asked; lengths = c.in-Ok.ensures.lengths; count = count } in
    lengths_still g.D.Disk c.ask_each.new.lengths.items c.args.n c.args.disks.now c.ask_each.new.disks are c.requires.there

pub returns-in-Ok-clause-only : goal.returns-in-Ok-clause-only
returns-in-Ok-clause-only g c =
    let count : length c.ask_each.new.lengths.items ≡ c.args.n = omega (arith, c.in-Ok.ensures.count, c.ask_each.new.lengths.ok.0) in
    let are : AreAskedFor g.D.Disk c.ask_each.new.lengths.items c.args.n c.args.disks.now c.ask_each.new.disks = record { asked = c.in-Ok.ensures.asked; lengths = c.in-Ok.ensures.lengths; count = count } in
    only_after g.D.Disk c.ask_each.new.lengths.items c.args.n c.args.disks.now c.ask_each.new.disks are c.read_asked.new.disks c.read_asked.ensures.synced c.read_asked.ensures.first

pub returns-in-Ok-clause-were : goal.returns-in-Ok-clause-were
returns-in-Ok-clause-were g c =
    let count : length c.ask_each.new.lengths.items ≡ c.args.n = omega (arith, c.in-Ok.ensures.count, c.ask_each.new.lengths.ok.0) in
    let are : AreAskedFor g.D.Disk c.ask_each.new.lengths.items c.args.n c.args.disks.now c.ask_each.new.disks = record { asked = c.in-Ok.ensures.asked; lengths = c.in-Ok.ensures.lengths; count = count } in
    if_ok_on _ _ _ c.read_asked.result c.read_asked.ensures.same c.read_asked.ensures.settled (λ r same settled.
    subst (λ (xs : List ℕ). WereRead g.D.Disk xs c.args.n c.args.disks.now c.read_asked.new.disks) (sym (ap (λ v. v.items) same))
    (were_read g.D.Disk c.ask_each.new.lengths.items c.args.n c.args.disks.now c.ask_each.new.disks are c.read_asked.new.disks c.read_asked.ensures.synced settled))

pub returns-in-Ok-clause-read : goal.returns-in-Ok-clause-read
returns-in-Ok-clause-read g c =
    let count : length c.ask_each.new.lengths.items ≡ c.args.n = omega (arith, c.in-Ok.ensures.count, c.ask_each.new.lengths.ok.0) in
    let are : AreAskedFor g.D.Disk c.ask_each.new.lengths.items c.args.n c.args.disks.now c.ask_each.new.disks = record { asked = c.in-Ok.ensures.asked; lengths = c.in-Ok.ensures.lengths; count = count } in
    if_ok_all _ _ _ _ _ c.read_asked.result c.read_asked.ensures.same c.read_asked.ensures.read c.read_asked.ensures.contents c.read_asked.ensures.sound (λ r same read contents sound.
    subst (λ (xs : List ℕ). IsReadFrom g.D.Disk c.args.format (take c.args.n c.args.disks.now) xs r.0 r.1.items) (sym (ap (λ v. v.items) same))
    (read_from g.D.Disk c.ask_each.new.lengths.items c.args.n c.args.disks.now c.ask_each.new.disks are c.requires.there c.args.format r.0 r.1.items read contents sound))

pub returns-in-Ok-clause-bad : goal.returns-in-Ok-clause-bad
returns-in-Ok-clause-bad g c fault e =
    let count : length c.ask_each.new.lengths.items ≡ c.args.n = omega (arith, c.in-Ok.ensures.count, c.ask_each.new.lengths.ok.0) in
    let are : AreAskedFor g.D.Disk c.ask_each.new.lengths.items c.args.n c.args.disks.now c.ask_each.new.disks = record { asked = c.in-Ok.ensures.asked; lengths = c.in-Ok.ensures.lengths; count = count } in (
      has_read g.D.Disk c.ask_each.new.lengths.items c.args.n c.args.disks.now c.ask_each.new.disks are c.requires.there (Some c.args.format) _ (c.read_asked.ensures.bad fault e),
      (
        c.ask_each.new.lengths.items,
        lengths_first g.D.Disk.tells g.D.Disk.seen c.args.disks.now c.args.n c.ask_each.new.lengths.items count c.in-Ok.ensures.lengths,
        count,
        were_read g.D.Disk c.ask_each.new.lengths.items c.args.n c.args.disks.now c.ask_each.new.disks are c.read_asked.new.disks c.read_asked.ensures.synced (c.read_asked.ensures.settled_bad fault e),
      ),
    )

pub returns-in-Ok-clause-failed : goal.returns-in-Ok-clause-failed
returns-in-Ok-clause-failed g c j e =
    let count : length c.ask_each.new.lengths.items ≡ c.args.n = omega (arith, c.in-Ok.ensures.count, c.ask_each.new.lengths.ok.0) in
    inr (c.ask_each.new.disks, c.ask_each.new.lengths.items, record { asked = c.in-Ok.ensures.asked; lengths = c.in-Ok.ensures.lengths; count = count }, c.read_asked.ensures.failed j e)

pub returns-in-Ok-clause-rest : goal.returns-in-Ok-clause-rest
returns-in-Ok-clause-rest g c = c.read_asked.ensures.rest ∙ (let asked = c.in-Ok.ensures.asked in asked.rest)
