-- Locks that were granted.
use Rattle.std.proofs.Common.{ℕ, suc, ◌+◌, ◌≤◌, ◌<◌, ◌≡◌, Bool, true, false, List, [], ◌∷◌, ◌++◌, length, take, refl, sym, ap, subst, ◌∙◌, arith, inl, inr, length-append}
use Rattle.std.specs.Prelude.{Some, None, Option, slice_get, ◌||◌}
use Rattle.std.specs.FinMap.{put}
use Rattle.std.specs.FinMap.Entries.{by_order}
use Rattle.std.specs.declared.cmp.Ordering.TheVariants.{Less, Equal, Greater}
use Rattle.std.proofs.lemmas.Bool.{cases_Bool}
use Rattle.std.proofs.lemmas.List.{take_more}
use Rattle.std.proofs.lemmas.Option.{get_or_from_slice_get, slice_get_within}
use Rattle.tau_base.specs.declared.value.Key.{Key}
use Rattle.tau_base.specs.declared.value.Value.{Value}
use Rattle.tau_base.specs.declared.value.Mode.{Mode}
use Rattle.tau_base.specs.declared.value.Mode.TheVariants as mode
use Rattle.tau_base.specs.Database.{same_key, key_cmp}
use Rattle.tau_base.proofs.Keys.{same_key_is}
use Rattle.tau_proc.specs.declared.proc.Proc.{Proc}
use Rattle.tau_proc.specs.Effect.{has_key}
use Rattle.tau_proc.specs.declared.reply.Reply.{Reply}
use Rattle.tau_proc.specs.declared.reply.Want.TheVariants.{Read, Write, Finished}
use Rattle.tau_proc.specs.Progress.{Progress, IsAt, ahead, buffered, next_want, want_of, want_of_write}
use Rattle.tau_proc.specs.Stage.{Stage, Wants, Ends, values}
use Rattle.tau_proc.proofs.Courses.{is_at_now, is_at_granted, buffered_ends}
use Rattle.tau_machine.specs.Hands as theory
use Rattle.tau_machine.specs.Hands.{hold, mode_of}
use Rattle.tau_machine.specs.Worker.{held_writing}
use Rattle.tau_machine.proofs.Modes.{hold_same, hold_other}
use Rattle.tau_txn.specs.Hand.{PlainHand}
use Rattle.tau_txn.specs.Progress.{Follows, WantsUnseen, GrantsNone, HoldsGranted, HasCommitted, IsFinished, IsRunBy}
use Rattle.tau_txn.specs.Read.{hand_of, phase_in}
use Rattle.tau_txn.specs.Steps.{locked_with}
use Rattle.tau_txn.specs.declared.standing.Standing.{Standing}
use Rattle.tau_txn.specs.declared.standing.Standing.TheVariants.{Running, Quitting, Placed, Freeing, LeftOver}
use Rattle.tau_txn.proofs.Bound.{Within, stage_within}
use Rattle.tau_txn.proofs.Follow.{read_wants}
use Rattle.tau_base.proofs.Logic.{or_alone, or_yes}

length_hold : (k : Key) (m : Mode) (xs : List (Key × Mode)) → length (hold k m xs) ≤ length xs + 1
length_hold k m [] = omega arith
length_hold k m (x ∷ xs) = elim (key_cmp k x.0) as (λ o. length (by_order o ((k, m) ∷ x ∷ xs) ((x.0, m) ∷ xs) (x ∷ put key_cmp k m xs)) ≤ suc (length xs) + 1) [
  | Less ↦ omega arith
  | Equal ↦ omega arith
  | Greater ↦ omega (arith, length_hold k m xs)
]

-- a write is wanted where the call has ended and one of its writes is left
pub record WantsWrite (m : Progress) (k : Key) : Type 0 where
  pub writes : List (Key × Value)
  pub reply : Reply
  pub write : Key × Value
  pub ended : ahead m [] ≡ Ends writes reply
  pub there : slice_get writes m.granted ≡ Some write
  pub key : write.0 ≡ k

pub write_wants : (m : Progress) (k : Key) → next_want m ≡ Write k → WantsWrite m k
write_wants m k e = at' (ahead m []) refl
  where
    of' : (ws : List (Key × Value)) (reply : Reply) (o : Option (Key × Value)) → ahead m [] ≡ Ends ws reply → slice_get ws m.granted ≡ o → want_of_write o reply ≡ Write k → WantsWrite m k
    of' ws reply (Some w) p q is = record { writes = ws; reply = reply; write = w; ended = p; there = q; key = (let t : Write w.0 ≡ Write k = is in cc) }
    of' ws reply None p q is = cc

    at' : (s : Stage) → ahead m [] ≡ s → WantsWrite m k
    at' (Wants y) p = let there : Read y ≡ Write k = sym (ap (λ (s : Stage). want_of s m.granted) p) ∙ e in cc
    at' (Ends ws reply) p = of' ws reply (slice_get ws m.granted) p refl (sym (ap (λ (s : Stage). want_of s m.granted) p) ∙ e)

within_at : (procs : List Proc) (h : PlainHand) (run : IsRunBy procs h) → Within (length run.follows.reads) 64 (ahead h.machine [])
within_at procs h run =
    subst (Within (length run.follows.reads) 64) (sym (is_at_now procs h.call _ h.machine.granted h.machine run.follows.at))
    (stage_within procs h.call run.follows.reads run.limits run.follows.asked)

pub seen_room : (procs : List Proc) (h : PlainHand) (k : Key) → IsRunBy procs h → next_want h.machine ≡ Read k → length h.seen < 64
seen_room procs h k run e =
    let within : length run.follows.reads < 64 = subst (Within (length run.follows.reads) 64) (read_wants h.machine k e) (within_at procs h run) in
    let few = run.follows.few in omega (arith, within, few)

pub none_granted : (procs : List Proc) (h : PlainHand) (k : Key) → IsRunBy procs h → next_want h.machine ≡ Read k → h.machine.granted ≡ 0
none_granted procs h k run e = subst (GrantsNone h.machine.granted) (read_wants h.machine k e) run.none

pub held_room_read : (procs : List Proc) (h : PlainHand) (k : Key) → IsRunBy procs h → HoldsGranted h → next_want h.machine ≡ Read k → length h.held < 64
held_room_read procs h k run holds e =
    let a = seen_room procs h k run e in let b = none_granted procs h k run e in let c = holds.room in omega (arith, a, b, c)

pub held_room_write : (procs : List Proc) (h : PlainHand) (k : Key) → IsRunBy procs h → HoldsGranted h → next_want h.machine ≡ Write k → length h.held < 64
held_room_write procs h k run holds e =
    let w = write_wants h.machine k e in
    let within : length run.follows.reads + length w.writes ≤ 64 = subst (Within (length run.follows.reads) 64) w.ended (within_at procs h run) in
    let lt = slice_get_within w.writes h.machine.granted w.write w.there in
    let few = run.follows.few in let c = holds.room in omega (arith, within, lt, few, c)

grants_zero : (g : ℕ) (s : Stage) → g ≡ 0 → GrantsNone g s
grants_zero g (Wants k) e = e
grants_zero g (Ends ws reply) e = tt

not_committed : (h : PlainHand) → h.standing ≡ Running → HasCommitted h.standing → ⊥
not_committed h running = λ hc. subst HasCommitted running hc

-- a call runs on with another vector
pub with_dep : (procs : List Proc) (h : PlainHand) (dep : List ℕ) → IsRunBy procs h → h.standing ≡ Running → IsRunBy procs (record h { dep = dep })
with_dep procs h dep run running =
    record {
      takes = run.takes;
      limits = run.limits;
      follows = run.follows;
      unseen = run.unseen;
      none = run.none;
      number = run.number;
      tries = run.tries;
      holds = λ is. let holds = run.holds is in record { locked = holds.locked; room = holds.room };
      finished = run.finished;
      vector = λ hc. absurd (not_committed h running hc);
    }

same_phase : (procs : List Proc) (n : ℕ) (s : Standing) (h : PlainHand) (dep : List ℕ) → s ≡ Running → phase_in procs n s (record h { dep = dep }) ≡ phase_in procs n s h
same_phase procs n Running h dep e = refl
same_phase procs n Quitting h dep e = refl
same_phase procs n LeftOver h dep e = refl
same_phase procs n Placed h dep e = cc
same_phase procs n Freeing h dep e = cc

-- what a lock leaves does not depend on the vector before
pub locked_from : (procs : List Proc) (n : ℕ) (h : PlainHand) (dep before : List ℕ) (k : Key) (m : Mode) (v : Value) → h.standing ≡ Running →
    locked_with (hand_of procs n (record h { dep = before })) k m v dep ≡ locked_with (hand_of procs n h) k m v dep
locked_from procs n h dep before k mode.Read v running =
    ap (λ (p : theory.Phase). record { call = record { number = h.number; call = h.call }; tries = h.tries; given_up = h.given_up; phase = p; dep = dep; held = hold k mode.Read h.held; seen = h.seen ++ (k, v) ∷ [] })
    (same_phase procs n h.standing h before running)
locked_from procs n h dep before k mode.Write v running =
    ap (λ (p : theory.Phase). record { call = record { number = h.number; call = h.call }; tries = h.tries; given_up = h.given_up; phase = p; dep = dep; held = hold k mode.Write h.held; seen = h.seen })
    (same_phase procs n h.standing h before running)

-- a read lock was granted, and the machine was given the row
pub run_read : (procs : List Proc) (h : PlainHand) (k : Key) (v : Value) (m : Progress) (dep : List ℕ) → IsRunBy procs h → h.standing ≡ Running → next_want h.machine ≡ Read k →
    Follows procs h.call (h.seen ++ (k, v) ∷ []) m → WantsUnseen (h.seen ++ (k, v) ∷ []) (ahead m []) → m.granted ≡ h.machine.granted →
    IsRunBy procs (record h { machine = m; held = hold k mode.Read h.held; seen = h.seen ++ (k, v) ∷ []; dep = dep })
run_read procs h k v m dep run running wants follows unseen granted =
    let old_none = none_granted procs h k run wants in
    let none : m.granted ≡ 0 = granted ∙ old_none in
    record {
      takes = run.takes;
      limits = run.limits;
      follows = follows;
      unseen = unseen;
      none = grants_zero m.granted (ahead m []) none;
      number = run.number;
      tries = run.tries;
      holds = λ is.
          let holds = run.holds running in
          record {
            locked = λ x. rw none (elim (cases_Bool (same_key x k)) [
              | inl same ↦ ap (λ (y : Key). held_writing (mode_of y (hold k mode.Read h.held))) (same_key_is x k same) ∙ ap held_writing (hold_same k mode.Read h.held)
              | inr other ↦ ap held_writing (hold_other x k mode.Read h.held other) ∙ holds.locked x ∙ ap (λ (g : ℕ). has_key x (take g (buffered h.machine))) old_none
            ]);
            room = (let a = holds.room in let b = length_hold k mode.Read h.held in omega (arith, a, b, none, old_none, length-append h.seen ((k, v) ∷ [])));
          };
      finished = λ hc. absurd (not_committed h running hc);
      vector = λ hc. absurd (not_committed h running hc);
    }

has_key_snoc : (x : Key) (xs : List (Key × Value)) (y : Key × Value) → has_key x (xs ++ y ∷ []) ≡ (has_key x xs || same_key x y.0)
has_key_snoc x [] y = elim (same_key x y.0) as (λ b. (b || false) ≡ (false || b)) [ true ↦ refl | false ↦ refl ]
has_key_snoc x (z ∷ xs) y = elim (same_key x z.0) as (λ b. (b || has_key x (xs ++ y ∷ [])) ≡ ((b || has_key x xs) || same_key x y.0)) [ true ↦ refl | false ↦ has_key_snoc x xs y ]

-- a write lock was granted
pub run_write : (procs : List Proc) (h : PlainHand) (k : Key) (m : Progress) (dep : List ℕ) → IsRunBy procs h → h.standing ≡ Running → next_want h.machine ≡ Write k →
    ((vs : List Value) → ahead m vs ≡ ahead h.machine vs) → m.granted ≡ h.machine.granted + 1 →
    IsRunBy procs (record h { machine = m; held = hold k mode.Write h.held; dep = dep })
run_write procs h k m dep run running wants stands granted =
    let w = write_wants h.machine k wants in
    let ended : ahead m [] ≡ Ends w.writes w.reply = stands [] ∙ w.ended in
    let old_writes : buffered h.machine ≡ w.writes = buffered_ends h.machine w.writes w.reply w.ended in
    let writes : buffered m ≡ w.writes = buffered_ends m w.writes w.reply ended in
    let lt = slice_get_within w.writes h.machine.granted w.write w.there in
    let taken : take (h.machine.granted + 1) w.writes ≡ take h.machine.granted w.writes ++ w.write ∷ [] =
    take_more w.writes h.machine.granted w.write lt ∙ ap (λ (y : Key × Value). take h.machine.granted w.writes ++ y ∷ []) (get_or_from_slice_get w.writes h.machine.granted w.write w.write w.there) in
    let follows = run.follows in
    record {
      takes = run.takes;
      limits = run.limits;
      follows = record {
        reads = follows.reads;
        asked = follows.asked;
        saw = follows.saw;
        few = follows.few;
        at = subst (λ (n : ℕ). IsAt procs h.call (values follows.reads) n m) (sym granted) (is_at_granted procs h.call (values follows.reads) h.machine.granted h.machine follows.at m stands granted);
      };
      unseen = subst (WantsUnseen h.seen) (sym (stands [])) run.unseen;
      none = subst (GrantsNone m.granted) (sym ended) tt;
      number = run.number;
      tries = run.tries;
      holds = λ is.
          let holds = run.holds running in
          record {
            locked = λ x.
                let has : has_key x (take m.granted (buffered m)) ≡ (has_key x (take h.machine.granted w.writes) || same_key x w.write.0) =
                ap (λ (g : ℕ). has_key x (take g (buffered m))) granted ∙ ap (λ (ws : List (Key × Value)). has_key x (take (h.machine.granted + 1) ws)) writes ∙ ap (has_key x) taken
                ∙ has_key_snoc x (take h.machine.granted w.writes) w.write in
                elim (cases_Bool (same_key x k)) [
                  | inl same ↦
                      let here : same_key x w.write.0 ≡ true = ap (same_key x) w.key ∙ same in
                      ap (λ (y : Key). held_writing (mode_of y (hold k mode.Write h.held))) (same_key_is x k same) ∙ ap held_writing (hold_same k mode.Write h.held)
                      ∙ sym (has ∙ ap (λ (b : Bool). has_key x (take h.machine.granted w.writes) || b) here ∙ or_yes (has_key x (take h.machine.granted w.writes)))
                  | inr other ↦
                      let here : same_key x w.write.0 ≡ false = ap (same_key x) w.key ∙ other in
                      ap held_writing (hold_other x k mode.Write h.held other) ∙ holds.locked x ∙ ap (λ (ws : List (Key × Value)). has_key x (take h.machine.granted ws)) old_writes
                      ∙ sym (has ∙ ap (λ (b : Bool). has_key x (take h.machine.granted w.writes) || b) here ∙ or_alone (has_key x (take h.machine.granted w.writes)))
                ];
            room = (let a = holds.room in let b = length_hold k mode.Write h.held in omega (arith, a, b, granted));
          };
      finished = λ hc. absurd (not_committed h running hc);
      vector = λ hc. absurd (not_committed h running hc);
    }

-- a call that has finished has ended with these writes and this reply
pub record HasEnded (m : Progress) : Type 0 where
  pub reply : Reply
  pub ended : ahead m [] ≡ Ends (buffered m) reply
  pub finished : next_want m ≡ Finished reply
  pub none_left : slice_get (buffered m) m.granted ≡ None

pub has_ended : (m : Progress) → IsFinished (next_want m) → HasEnded m
has_ended m is = at' (ahead m []) refl
  where
    of' : (ws : List (Key × Value)) (reply : Reply) (o : Option (Key × Value)) → ahead m [] ≡ Ends ws reply → slice_get ws m.granted ≡ o → IsFinished (want_of_write o reply) → HasEnded m
    of' ws reply (Some w) p q f = absurd f
    of' ws reply None p q f = record {
      reply = reply;
      ended = p ∙ ap (λ (l : List (Key × Value)). Ends l reply) (sym (buffered_ends m ws reply p));
      none_left = subst (λ (l : List (Key × Value)). slice_get l m.granted ≡ None) (sym (buffered_ends m ws reply p)) q;
      finished = ap (λ (s : Stage). want_of s m.granted) p ∙ ap (λ (o : Option (Key × Value)). want_of_write o reply) q;
    }

    at' : (s : Stage) → ahead m [] ≡ s → HasEnded m
    at' (Wants y) p = absurd (subst (λ (s : Stage). IsFinished (want_of s m.granted)) p is)
    at' (Ends ws reply) p = of' ws reply (slice_get ws m.granted) p refl (subst (λ (s : Stage). IsFinished (want_of s m.granted)) p is)

pub few_writes : (procs : List Proc) (h : PlainHand) → IsRunBy procs h → IsFinished (next_want h.machine) → length (buffered h.machine) ≤ 64
few_writes procs h run is =
    let e = has_ended h.machine is in
    let within : length run.follows.reads + length (buffered h.machine) ≤ 64 = subst (Within (length run.follows.reads) 64) e.ended (within_at procs h run) in
    omega (arith, within)
