-- What the clerk tells, line by line and pass by pass.
use Rattle.std.proofs.Common.{ℕ, ◌+◌, ◌<◌, ◌≤◌, ◌≡◌, ◌⊎◌, inl, inr, Bool, true, false, List, [], ◌∷◌, ◌++◌, length, take, refl, sym, ap, subst, ◌∙◌, append_assoc, arith}
use Rattle.std.specs.Prelude.{None, Some}
use Rattle.std.proofs.lemmas.List.{append-nil, take-append-le, take_all}
use Rattle.std.proofs.Math.Seq.{take-append-add, take-append_seam}
use Rattle.tau_ack.specs.declared.Waiting.{Waiting}
use Rattle.tau_model.specs.History.{Member}
use Rattle.tau_machine.specs.State.{Ticket}
use Rattle.tau_machine.specs.Invariant.{Invariant}
use Rattle.tau_machine.proofs.Results.{run_theorem}
use Rattle.tau_core.specs.Opens.{nothing}
use Rattle.tau_core.specs.State.{Plain}
use Rattle.tau_core.specs.View.{core_of, setting_of, tickets}
use Rattle.tau_core.specs.declared.state.Load.{Load}
use Rattle.tau_report.specs.Lines.{ack_line}
use Rattle.tau_report.specs.Report.{ack_lines}
use Rattle.tau_rule.specs.Boxes.{BoxOf, box_in}
use Rattle.tau_rule.specs.Role.{Role}
use Rattle.tau_rule.specs.Rule.{IsPart, Now, outbox_part}
use Rattle.tau_rule.specs.Steps.{first_role}
use Rattle.tau_rule.specs.declared.part.Part.{Part}
use Rattle.tau_rule.specs.declared.part.Part.TheVariants as part
use Rattle.tau_desk.specs.Manages.{AcksFirst, acked_in, acked_in_share}
use Rattle.tau_desk.specs.Seats.{Clerks, PlainClerkSeat}
use Rattle.tau_crew_facts.specs.Telling.{IsTelling}
use Rattle.tau_crew_facts.proofs.Telling.{pending_own, telling_more}
use Rattle.tau_crew.specs.declared.told.Told.{Told}
use Rattle.tau_crew.specs.Gathering.{raised_in}
use Rattle.tau_disk.specs.Disk.{Rose}
use Rattle.tau_crew.specs.declared.clerk.ClerkJob.{ClerkJob}
use Rattle.tau_crew.specs.ClerkJobs.{ClerkGoes}
use Rattle.tau_crew.specs.Clerking.{Acknowledges, IsSameClerk, IsSoFar, all_told, with_missing}
use Rattle.tau_base.proofs.Logic.{up_to_or_above}
use Rattle.tau_run.specs.Heard.{HeardFront}

pub lines_append : (xs ys : List (ℕ × List ℕ)) → ack_lines (xs ++ ys) ≡ ack_lines xs ++ ack_lines ys
lines_append [] ys = refl
lines_append (x ∷ xs) ys = ap (λ (l : List ℕ). ack_line x ++ l) (lines_append xs ys) ∙ sym (append_assoc (ack_line x) (ack_lines xs) (ack_lines ys))

-- a first part of some lines is one of more lines
front_more : (base : List ℕ) (acks more : List (ℕ × List ℕ)) (held : List ℕ) → HeardFront base acks held → HeardFront base (acks ++ more) held
front_more base acks more held (k, e) = elim (up_to_or_above k (length (ack_lines acks))) [
  | inl le ↦ (k, e ∙ ap (λ (l : List ℕ). base ++ l) (sym (take-append-le k (ack_lines acks) (ack_lines more) le) ∙ ap (take k) (sym (lines_append acks more))))
  | inr gt ↦ (
    length (ack_lines acks),
    e ∙ ap (λ (l : List ℕ). base ++ l) (take_all k (ack_lines acks) (omega (arith, gt)) ∙ sym (take-append_seam (ack_lines acks) (ack_lines more)) ∙ ap (take (length (ack_lines acks))) (sym (lines_append acks more))),
  )
]

-- a line more
pub so_far_put : (base : List ℕ) (acks : List (ℕ × List ℕ)) (a : ℕ × List ℕ) (lines : List ℕ) (failed : Bool) (held : List ℕ) → IsSoFar base acks lines failed held → IsSoFar base (acks ++ a ∷ []) (lines ++ ack_line a) failed held
so_far_put base acks a lines true held h = front_more base acks (a ∷ []) held h
so_far_put base acks a lines false held w = record {
  told = w.told;
  more = w.more ++ a ∷ [];
  is = ap (λ (xs : List (ℕ × List ℕ)). xs ++ a ∷ []) w.is ∙ append_assoc w.told w.more (a ∷ []);
  held_is = w.held_is;
  lines_are = ap (λ (l : List ℕ). l ++ ack_line a) w.lines_are ∙ ap (λ (l : List ℕ). ack_lines w.more ++ l) (sym (append-nil (ack_line a))) ∙ sym (lines_append w.more (a ∷ []));
}

-- the lines were written
pub so_far_written : (base : List ℕ) (acks : List (ℕ × List ℕ)) (lines held held' : List ℕ) → held' ≡ held ++ lines → IsSoFar base acks lines false held → IsSoFar base acks [] false held'
so_far_written base acks lines held held' now w = record {
  told = acks;
  more = [];
  is = sym (append-nil acks);
  held_is =
      now ∙ ap (λ (l : List ℕ). l ++ lines) w.held_is ∙ ap (λ (l : List ℕ). (base ++ ack_lines w.told) ++ l) w.lines_are ∙ append_assoc base (ack_lines w.told) (ack_lines w.more)
      ∙ ap (λ (l : List ℕ). base ++ l) (sym (lines_append w.told w.more)) ∙ ap (λ (xs : List (ℕ × List ℕ)). base ++ ack_lines xs) (sym w.is);
  lines_are = refl;
}

-- or a first part of them, where the sink failed
pub so_far_cut : (base : List ℕ) (acks : List (ℕ × List ℕ)) (lines held held' : List ℕ) (k : ℕ) → held' ≡ held ++ take k lines → IsSoFar base acks lines false held → HeardFront base acks held'
so_far_cut base acks lines held held' k now w = (
  length (ack_lines w.told) + k,
  now ∙ ap (λ (l : List ℕ). l ++ take k lines) w.held_is ∙ ap (λ (l : List ℕ). (base ++ ack_lines w.told) ++ take k l) w.lines_are ∙ append_assoc base (ack_lines w.told) (take k (ack_lines w.more))
      ∙ ap (λ (l : List ℕ). base ++ l) (sym (take-append-add (ack_lines w.told) (ack_lines w.more) k)) ∙ ap (λ (l : List ℕ). base ++ take (length (ack_lines w.told) + k) l) (sym (lines_append w.told w.more))
      ∙ ap (λ (xs : List (ℕ × List ℕ)). base ++ take (length (ack_lines w.told) + k) (ack_lines xs)) (sym w.is),
)

-- ---- the seat

acked_is : (s : PlainClerkSeat) (c : Clerks s) → acked_in s.me.0 ≡ c.acked
acked_is s c = ap (λ (xs : List (ℕ × Role)). acked_in_share (first_role xs).1.share) c.roles ∙ ap acked_in_share c.share

ticket_there : (calls front back : List Waiting) (call : Waiting) → calls ≡ front ++ call ∷ back → Member (record { number = call.number; lv = call.lv }) (tickets calls)
ticket_there calls front back call is = subst (λ (xs : List Waiting). Member (record { number = call.number; lv = call.lv }) (tickets xs)) (sym is) (there front)
  where
    there : (xs : List Waiting) → Member (record { number = call.number; lv = call.lv }) (tickets (xs ++ call ∷ back))
    there [] = inl refl
    there (x ∷ xs) = inr (there xs)

-- the pending calls of an outbox that agrees with some state are its worker's
box_pending : (l : Load) (w : ℕ) (p : Part) (c : Now) (b : BoxOf) → IsPart l (outbox_part w) p c → box_in p ≡ Some b → (c.core.outboxes w).pending ≡ tickets b.1.calls
box_pending l w (part.Shard s) c b is e = absurd (cc e)
box_pending l w (part.Anchor number lv) c b is e = absurd (cc e)
box_pending l w (part.Outbox o pending) c b is e =
    let same : (o.value, pending.value) ≡ b = cc e in
    let here : is.0 ≡ w = (let f = is.1 in omega (arith, f)) in
    subst (λ (u : ℕ). (c.core.outboxes u).pending ≡ tickets pending.value.calls) here is.3.pending ∙ ap (λ (x : BoxOf). tickets x.1.calls) same

-- a call was acknowledged, and put to what was told, or kept as missing
pub tells_first : (origin : Plain) (s s' : PlainClerkSeat) (w : ℕ) (call : Waiting) (acks acks' : List (ℕ × List ℕ)) → Clerks s → s.me.0.opened ≡ Some origin → w < origin.load.workers → AcksFirst origin s w call s' → acks' ≡ acks ++ (call.number, call.lv) ∷ [] →
    IsTelling origin.load (acked_in s.me.0) s.seen acks → IsTelling origin.load (acked_in s'.me.0) s'.seen acks'
tells_first origin s s' w call acks acks' c opened lt a more t =
    let k : Ticket = record { number = call.number; lv = call.lv } in
    let same : c.origin ≡ origin = (let e : Some c.origin ≡ Some origin = sym c.opened ∙ opened in cc e) in
    let wide : w < length (acked_in s.me.0) = (let e = ap (length {A = List Ticket}) (acked_is s c) in let f = c.wide in let g = ap (λ (o : Plain). o.load.workers) same in omega (arith, lt, e, f, g)) in
    let inv : Invariant (setting_of origin.load) a.agrees.meets.reached.joined a.agrees.state.core =
    run_theorem (setting_of origin.load) (core_of origin nothing) a.agrees.meets.reached.events a.agrees.meets.reached.joined a.agrees.state.core a.agrees.meets.reached.run in
    let there : Member k (a.agrees.state.core.outboxes w).pending =
    subst (λ (ts : List Ticket). Member k ts) (sym (box_pending origin.load w a.part_taken a.agrees.state a.before a.agrees.part a.was)) (ticket_there a.before.1.calls a.takes.front a.takes.back call a.takes.is) in
    let own = pending_own origin.load a.agrees.meets.reached.joined a.agrees.state.core inv w k there in
    let now = telling_more origin.load (acked_in s.me.0) s.seen acks w k wide own a.takes.covered t in
    subst (λ (xs : List (ℕ × List ℕ)). IsTelling origin.load (acked_in s'.me.0) s'.seen xs) (sym more)
    (subst (λ (x : PlainClerkSeat). IsTelling origin.load (acked_in x.me.0) x.seen (acks ++ (call.number, call.lv) ∷ [])) (sym a.after) now)

-- ---- one call of a worker

pub same_acks : (origin : Plain) (s s' : PlainClerkSeat) (w : ℕ) (call : Waiting) → AcksFirst origin s w call s' → IsSameClerk s s'
same_acks origin s s' w call a = record { table = ap (λ (x : PlainClerkSeat). x.table_id) a.after; opened = ap (λ (x : PlainClerkSeat). x.me.0.opened) a.after }

pub same_none : (s s' : PlainClerkSeat) → s' ≡ s → IsSameClerk s s'
same_none s s' e = record { table = ap (λ (x : PlainClerkSeat). x.table_id) e; opened = ap (λ (x : PlainClerkSeat). x.me.0.opened) e }

pub same_on : (s1 s2 s3 : PlainClerkSeat) → IsSameClerk s1 s2 → IsSameClerk s2 s3 → IsSameClerk s1 s3
same_on s1 s2 s3 a b = record { table = b.table ∙ a.table; opened = b.opened ∙ a.opened }

-- the seat has not changed
pub tells_same : (l : Load) (s s' : PlainClerkSeat) (acks : List (ℕ × List ℕ)) → s' ≡ s → IsTelling l (acked_in s.me.0) s.seen acks → IsTelling l (acked_in s'.me.0) s'.seen acks
tells_same l s s' acks e t = subst (λ (x : PlainClerkSeat). IsTelling l (acked_in x.me.0) x.seen acks) (sym e) t

pub acknowledges_none : (l : Load) (s s' : PlainClerkSeat) (t : Told) → s' ≡ s → Acknowledges l s s' t t
acknowledges_none l s s' t e = record { tells = λ h. tells_same l s s' (all_told t) e h; same = same_none s s' e; raised = ap (λ (x : PlainClerkSeat). raised_in x.me.0) e; heard = λ base held h. h; sink = refl }

pub acknowledges_on : (l : Load) (s1 s2 s3 : PlainClerkSeat) (t1 t2 t3 : Told) → Acknowledges l s1 s2 t1 t2 → Acknowledges l s2 s3 t2 t3 → Acknowledges l s1 s3 t1 t3
acknowledges_on l s1 s2 s3 t1 t2 t3 a b = record {
  tells = λ h. b.tells (a.tells h);
  same = same_on s1 s2 s3 a.same b.same;
  raised = b.raised ∙ a.raised;
  heard = λ base held h. b.heard base held (a.heard base held h);
  sink = b.sink ∙ a.sink;
}

-- a call was acknowledged, and its line put to the others
pub acknowledges_put : (origin : Plain) (s s' : PlainClerkSeat) (w : ℕ) (call : Waiting) (t t' : Told) → Clerks s → s.me.0.opened ≡ Some origin → w < origin.load.workers → AcksFirst origin s w call s' → t.missing ≡ None → t'.acks ≡ t.acks ++ (call.number, call.lv) ∷ [] → t'.missing ≡ t.missing →
    t'.lines.items ≡ t.lines.items ++ ack_line (call.number, call.lv) → t'.sink_failed ≡ t.sink_failed → Acknowledges origin.load s s' t t'
acknowledges_put origin s s' w call t t' c opened lt a none more missing lines sink = record {
  tells = λ h. tells_first origin s s' w call (all_told t) (all_told t') c opened lt a
      (ap (with_missing t'.acks) (missing ∙ none) ∙ more ∙ ap (λ (xs : List (ℕ × List ℕ)). xs ++ (call.number, call.lv) ∷ []) (sym (ap (with_missing t.acks) none))) h;
  same = same_acks origin s s' w call a;
  raised = ap (λ (x : PlainClerkSeat). raised_in x.me.0) a.after;
  heard = λ base held h.
      subst (λ (f : Bool). IsSoFar base t'.acks t'.lines.items f held) (sym sink)
      (subst (λ (l : List ℕ). IsSoFar base t'.acks l t.sink_failed held) (sym lines)
      (subst (λ (xs : List (ℕ × List ℕ)). IsSoFar base xs (t.lines.items ++ ack_line (call.number, call.lv)) t.sink_failed held) (sym more) (so_far_put base t.acks (call.number, call.lv) t.lines.items t.sink_failed held h)));
  sink = sink;
}

-- or it is kept as missing
pub acknowledges_missing : (origin : Plain) (s s' : PlainClerkSeat) (w : ℕ) (call : Waiting) (t t' : Told) → Clerks s → s.me.0.opened ≡ Some origin → w < origin.load.workers → AcksFirst origin s w call s' → t.missing ≡ None → t'.acks ≡ t.acks → t'.missing ≡ Some (call.number, call.lv) →
    t'.lines.items ≡ t.lines.items → t'.sink_failed ≡ t.sink_failed → Acknowledges origin.load s s' t t'
acknowledges_missing origin s s' w call t t' c opened lt a none same missing lines sink = record {
  tells = λ h. tells_first origin s s' w call (all_told t) (all_told t') c opened lt a
      (ap (with_missing t'.acks) missing ∙ ap (λ (xs : List (ℕ × List ℕ)). xs ++ (call.number, call.lv) ∷ []) (same ∙ sym (ap (with_missing t.acks) none))) h;
  same = same_acks origin s s' w call a;
  raised = ap (λ (x : PlainClerkSeat). raised_in x.me.0) a.after;
  heard = λ base held h.
      subst (λ (f : Bool). IsSoFar base t'.acks t'.lines.items f held) (sym sink)
      (subst (λ (l : List ℕ). IsSoFar base t'.acks l t.sink_failed held) (sym lines) (subst (λ (xs : List (ℕ × List ℕ)). IsSoFar base xs t.lines.items t.sink_failed held) (sym same) h));
  sink = sink;
}

pub clerk_goes_on : (l : Load) (a b c : ClerkJob) → ClerkGoes l a b → ClerkGoes l b c → ClerkGoes l a c
clerk_goes_on l a b c p q = record { tells = λ t. q.tells (p.tells t); same = same_on a.seat b.seat c.seat p.same q.same }

-- a sink that had a cause to fail has one after more was written
pub cause_then : {A B : Type 0} (f0 f1 f2 : ℕ) → (B → A ⊎ Rose f0 f1) → f0 ≤ f1 → f1 ≤ f2 → B ⊎ Rose f1 f2 → A ⊎ Rose f0 f2
cause_then f0 f1 f2 before up more (inl b) = elim (before b) [ inl a ↦ inl a | inr r ↦ inr (omega (arith, r, more)) ]
cause_then f0 f1 f2 before up more (inr r) = inr (omega (arith, r, up))
