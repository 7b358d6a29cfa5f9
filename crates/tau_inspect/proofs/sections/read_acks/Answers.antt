-- One more acknowledgement, of a call that was not flagged.
use Rattle.std.proofs.Common.{ℕ, List, ◌≡◌, ◌<◌, ◌^◌, length, map, refl, sym, ap, subst, ◌∙◌, rules}
use Rattle.std.specs.Prelude.{slice_index_or, false, true, Bool}
use Rattle.std.proofs.lemmas.List.{map_push}
use Rattle.tau_inspect.specs.declared.told.AckLine.{AckLine}
use Rattle.tau_inspect.specs.Bodies.{ack_body, IsAck}
use Rattle.tau_inspect.specs.ByNumber.{is_in, HasFlags}
use Rattle.tau_inspect.specs.Sections.{AreAcks, IsLine, NoLine}
use Rattle.tau_inspect.proofs.Leaving.{acks_none, acks_twice}
use Rattle.tau_inspect.proofs.ReadSections.{ack_more}
use Rattle.tau_inspect.proofs.sections.read_acks.Goals as goal

-- what was read into a place that is as wide as the streams
read_in : (calls n streams : ℕ) (text rest : List ℕ) (a : AckLine) → n ≡ streams → IsLine text (ack_body a) rest × IsAck calls n a → IsLine text (ack_body a) rest × IsAck calls streams a
read_in calls n streams text rest a wide read = subst (λ (k : ℕ). IsLine text (ack_body a) rest × IsAck calls k a) wide read

pub returns-in-None-clause-stops : goal.returns-in-None-clause-stops
returns-in-None-clause-stops c =
    let small : c.args.calls < 2 ^ 32 = search rules in
    let none : NoLine ack_body (IsAck c.args.calls (length c.lines.ack.lv)) c.lines.rest.now = rw c.in-None.is at c.in_ok-next_ack.ensures.read in
    acks_none c.args.calls c.args.streams small c.args.text.now c.lines.acks c.lines.rest.now c.lines.invariant.0 (subst (λ (k : ℕ). NoLine ack_body (IsAck c.args.calls k) c.lines.rest.now) c.lines.invariant.2 none)

pub returns-then-is_flagged-clause-stops : goal.returns-then-is_flagged-clause-stops
returns-then-is_flagged-clause-stops c =
    let small : c.args.calls < 2 ^ 32 = search rules in
    let a : AckLine = c.next_ack.new.ack in
    let numbers : List ℕ = map (λ (b : ℕ × List ℕ). b.0) c.lines.acks in
    let found = rw c.in-Some.is at c.in_ok-next_ack.ensures.read in
    let read = read_in c.args.calls (length c.lines.ack.lv) c.args.streams c.lines.rest.now c.in-Some.following.now a c.lines.invariant.2 found in
    let there : is_in a.number numbers ≡ true = sym (c.lines.invariant.1.tells a.number read.1.0.1) ∙ ap (λ (l : List Bool). slice_index_or l a.number false) (sym c.deref.ensures.value) ∙ sym c.if-is_flagged.ensures in
    acks_twice c.args.calls c.args.streams small c.args.text.now c.lines.acks c.lines.rest.now c.lines.invariant.0 (ack_body a) c.in-Some.following.now read.0 a read.1 refl there

pub lines-preserved : goal.lines-preserved
lines-preserved c =
    let calls : ℕ = c.args.calls in
    let text : List ℕ = c.args.text.now in
    let following : List ℕ = c.in-Some.following.now in
    let acks : List (ℕ × List ℕ) = c.lines.acks in
    let a : AckLine = c.next_ack.new.ack in
    let numbers : List ℕ = map (λ (b : ℕ × List ℕ). b.0) acks in
    let more = map_push (λ (b : ℕ × List ℕ). b.0) acks (a.number, a.lv) in
    let found = rw c.in-Some.is at c.in_ok-next_ack.ensures.read in
    let read = read_in calls (length c.lines.ack.lv) c.args.streams c.lines.rest.now following a c.lines.invariant.2 found in
    let new : is_in a.number numbers ≡ false = sym (c.lines.invariant.1.tells a.number read.1.0.1) ∙ ap (λ (l : List Bool). slice_index_or l a.number false) (sym c.deref.ensures.value) ∙ sym c.if-is_flagged.ensures in
    subst (λ (l : List (ℕ × List ℕ)). AreAcks calls c.args.streams text l following × HasFlags calls (map (λ (b : ℕ × List ℕ). b.0) l) c.flag.new.flags.items × (length a.lv ≡ c.args.streams)) (sym c.in_ok-push-in-Some.ensures.ok) (
      ack_more calls c.args.streams text acks c.lines.rest.now (ack_body a) following a c.lines.invariant.0 read.0 read.1 refl new,
      subst (λ (l : List ℕ). HasFlags calls l c.flag.new.flags.items) (sym more) (c.flag.ensures calls numbers c.lines.invariant.1),
      c.in_ok-next_ack.ensures.wide ∙ c.lines.invariant.2,
    )
