-- A byte waits, or it follows on.
use Rattle.std.proofs.Common.{ℕ, ◌≡◌, ◌<◌, ◌∙◌, ap, sym, length, arith, inl, inr, Some, false, true}
use Rattle.std.specs.Prelude.{Option, None, Result, Err, ◌⊎◌}
use Rattle.tau_scan.specs.declared.fault.LogFault.{LogFault}
use Rattle.tau_follow.specs.declared.refusal.FollowRefusal.{FollowRefusal}
use Rattle.tau_follow.specs.declared.refusal.FollowRefusal.TheVariants as refusals
use Rattle.tau_follow_laws.specs.Feeding.{Piece, with_piece}
use Rattle.tau_follow.specs.Follower.{IsOpen, HasFailed}
use Rattle.tau_follow.proofs.Spots.{spots_long}
use Rattle.tau_follow.proofs.Listed.{failed_or, told_is}
use Rattle.tau_follow.proofs.follower.Follower.feed.Goals as goal

pub returns-then-wait_byte-clause-ok : goal.returns-then-wait_byte-clause-ok
returns-then-wait_byte-clause-ok c = λ f n fed s h.
    (let lt : c.args.stream < n = (let below = c.requires.stream in let w = h.width in omega (arith, below, w)) in
    let t = c.wait_byte.ensures.put f n fed s lt h.state c.if-wait_byte.true in
    let was = h.state in
    let stood = was.stands in
    let now = t.2 in
    let stands = now.stands in (
      t.0,
      t.1,
      record {
        format = h.format;
        width = h.width;
        state = t.2;
        count = (let k = h.count in
            let l = spots_long s.streams c.args.self.now.state.applier.order.items s.order stood.spots in
            let m = spots_long t.0.streams c.wait_byte.new.self.applier.order.items t.0.order stands.spots in
            let same = ap length c.wait_byte.ensures.order in
            omega (arith, k, l, m, same));
        good = h.good;
        open_still = h.open_still;
      },
    ))

pub returns-then-wait_byte-clause-open : goal.returns-then-wait_byte-clause-open
unfolding IsOpen
returns-then-wait_byte-clause-open c = (let o = c.requires.open in (
  o.0,
  elim o.1 [
    | inl f ↦ absurd (c.in_default.not-Some f.0 f.1)
    | inr h ↦ (let w = returns-then-wait_byte-clause-ok c h.0 h.1 h.2 h.3 h.4 in inr (h.0, h.1, with_piece h.2 (record { stream = c.args.stream; bytes = c.args.bytes.now }), w.0, w.2))
  ],
))

pub returns-then-wait_head-clause-ok : goal.returns-then-wait_head-clause-ok
returns-then-wait_head-clause-ok c = λ f n fed s h.
    (let lt : c.args.stream < n = (let below = c.requires.stream in let w = h.width in omega (arith, below, w)) in
    let was = c.wait_byte.ensures.same f n fed s lt h.state c.if-wait_byte.false in
    let t = c.wait_head.ensures.put f n fed s lt was c.if-wait_head.true in
    let stood = was.stands in
    let now = t.2 in
    let stands = now.stands in (
      t.0,
      t.1,
      record {
        format = h.format;
        width = h.width;
        state = t.2;
        count = (let k = h.count in
            let l = spots_long s.streams c.wait_byte.new.self.applier.order.items s.order stood.spots in
            let m = spots_long t.0.streams c.wait_head.new.self.applier.order.items t.0.order stands.spots in
            let same = ap length c.wait_head.ensures.order in
            omega (arith, k, l, m, same));
        good = h.good;
        open_still = h.open_still;
      },
    ))

pub returns-then-wait_head-clause-open : goal.returns-then-wait_head-clause-open
unfolding IsOpen
returns-then-wait_head-clause-open c = (let o = c.requires.open in (
  o.0,
  elim o.1 [
    | inl f ↦ absurd (c.in_default.not-Some f.0 f.1)
    | inr h ↦ (let w = returns-then-wait_head-clause-ok c h.0 h.1 h.2 h.3 h.4 in inr (h.0, h.1, with_piece h.2 (record { stream = c.args.stream; bytes = c.args.bytes.now }), w.0, w.2))
  ],
))

pub returns-then-feed_on-clause-ok : goal.returns-then-feed_on-clause-ok
returns-then-feed_on-clause-ok c = λ f n fed s h.
    (let lt : c.args.stream < n = (let below = c.requires.stream in let w = h.width in omega (arith, below, w)) in
    let first = c.wait_byte.ensures.same f n fed s lt h.state c.if-wait_byte.false in
    let was = c.wait_head.ensures.same f n fed s lt first c.if-wait_head.false in
    c.feed_on.ensures.ok f n fed s (record { format = h.format; width = h.width; state = was; count = h.count; good = h.good; open_still = h.open_still }) c.if-feed_on.true)

pub returns-then-feed_on-clause-open : goal.returns-then-feed_on-clause-open
unfolding IsOpen
returns-then-feed_on-clause-open c = (let o = c.requires.open in (
  c.feed_on.ensures.log ∙ o.0,
  elim o.1 [
    | inl f ↦ absurd (c.in_default.not-Some f.0 f.1)
    | inr h ↦ (let w = returns-then-feed_on-clause-ok c h.0 h.1 h.2 h.3 h.4 in inr (h.0, h.1, with_piece h.2 (record { stream = c.args.stream; bytes = c.args.bytes.now }), w.0, w.2))
  ],
))

pub returns-clause-bad : goal.returns-clause-bad
returns-clause-bad c = λ f n fed s fault h e.
    (let lt : c.args.stream < n = (let below = c.requires.stream in let w = h.width in omega (arith, below, w)) in
    let first = c.wait_byte.ensures.same f n fed s lt h.state c.if-wait_byte.false in
    let was = c.wait_head.ensures.same f n fed s lt first c.if-wait_head.false in
    c.feed_on.ensures.bad f n fed s fault (record { format = h.format; width = h.width; state = was; count = h.count; good = h.good; open_still = h.open_still }) c.if-feed_on.false
    (c.refusal_of.ensures.bad fault (told_is c.refusal_of.result (refusals.Bad fault) e)))

pub returns-clause-no_memory : goal.returns-clause-no_memory
returns-clause-no_memory c = λ f n fed s h e.
    (let lt : c.args.stream < n = (let below = c.requires.stream in let w = h.width in omega (arith, below, w)) in
    let first = c.wait_byte.ensures.same f n fed s lt h.state c.if-wait_byte.false in
    let was = c.wait_head.ensures.same f n fed s lt first c.if-wait_head.false in
    c.feed_on.ensures.no_memory f n fed s (record { format = h.format; width = h.width; state = was; count = h.count; good = h.good; open_still = h.open_still }) c.if-feed_on.false
    (c.refusal_of.ensures.none (told_is c.refusal_of.result refusals.NoMemory e)))

pub returns-clause-failed : goal.returns-clause-failed
returns-clause-failed c = λ fault e. c.refusal_of.ensures.bad fault (told_is c.refusal_of.result (refusals.Bad fault) e)

pub returns-clause-open : goal.returns-clause-open
unfolding IsOpen
returns-clause-open c = (let o = c.requires.open in (
  c.feed_on.ensures.log ∙ o.0,
  elim (failed_or c.feed_on.new.self.failed) [
    | inr some ↦ inl some
    | inl none ↦ elim o.1 [
      | inl f ↦ absurd (c.in_default.not-Some f.0 f.1)
      | inr h ↦
          (let lt : c.args.stream < h.1 = (let below = c.requires.stream in let u = h.4 in let w = u.width in omega (arith, below, w)) in
          let first = c.wait_byte.ensures.same h.0 h.1 h.2 h.3 lt h.4.state c.if-wait_byte.false in
          let was = c.wait_head.ensures.same h.0 h.1 h.2 h.3 lt first c.if-wait_head.false in
          inr (h.0, h.1, h.2, h.3, c.feed_on.ensures.no_memory h.0 h.1 h.2 h.3 (record { format = h.4.format; width = h.4.width; state = was; count = h.4.count; good = h.4.good; open_still = h.4.open_still }) c.if-feed_on.false none))
    ]
  ],
))

pub returns-clause-rows : goal.returns-clause-rows
returns-clause-rows c = c.feed_on.ensures.rows c.if-feed_on.false ∙ c.wait_head.ensures.tables ∙ c.wait_byte.ensures.tables

pub returns-clause-count : goal.returns-clause-count
returns-clause-count c = c.feed_on.ensures.count c.if-feed_on.false
