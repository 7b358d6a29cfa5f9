-- What a call that runs on the values seen wants next.
use Rattle.std.proofs.Common.{◌<◌, ◌≡◌, List, [], ◌∷◌, ◌++◌, length, refl, sym, ap, subst, ◌∙◌, Option, arith, length-append}
use Rattle.std.specs.Prelude.{Some, None, IfSome, IfNone}
use Rattle.std.specs.Map.{lookup}
use Rattle.tau_base.specs.declared.value.Call.{Call}
use Rattle.tau_base.specs.declared.value.Key.{Key}
use Rattle.tau_base.specs.declared.value.Value.{Value}
use Rattle.tau_base.specs.Database.{same_key}
use Rattle.tau_proc.specs.declared.proc.Proc.{Proc}
use Rattle.tau_proc.specs.Progress.{Progress, ahead}
use Rattle.tau_proc.specs.Stage as given
use Rattle.tau_proc.specs.Stage.{values}
use Rattle.tau_proc.proofs.Courses.{is_at_now}
use Rattle.tau_machine.specs.Stage.{stage}
use Rattle.tau_machine.proofs.Machine.{Alike, machine_alike}
use Rattle.tau_txn.specs.Progress.{Follows}
use Rattle.tau_txn.proofs.Bound.{Within, stage_within}
use Rattle.tau_txn.proofs.Follow.{follows_read}
use Rattle.tau_occ.specs.Peeker.{PlainPeeker, IsAsked, IsUnseen, IsPeeking, wanted_of, HasEnded}

module _ (procs : List Proc) (c : Call) (seen : List (Key × Value)) (m : Progress) (follows : Follows procs c seen m) where
  alike : Alike seen follows.reads (ahead m []) (stage procs c seen)
  alike =
      subst (λ (s : given.Stage). Alike seen follows.reads s (stage procs c seen)) (sym (is_at_now procs c (values follows.reads) m.granted m follows.at))
      (machine_alike procs c seen follows.reads follows.asked follows.saw)

  -- the key at which the machine stands, if it has no value, is the one that the call wants
  pub wants_key : (key : Key) → ahead m [] ≡ given.Wants key → lookup (same_key key) seen ≡ None → Some key ≡ wanted_of (stage procs c seen)
  wants_key key stands none = sym (ap wanted_of (subst (λ (s : given.Stage). Alike seen follows.reads s (stage procs c seen)) stands alike none))

  ended_by : (s : given.Stage) → ahead m [] ≡ s → HasEnded s → None ≡ wanted_of (stage procs c seen)
  ended_by (given.Wants key) e h = absurd h
  ended_by (given.Ends writes reply) e h = sym (ap wanted_of (subst (λ (x : given.Stage). Alike seen follows.reads x (stage procs c seen)) e alike))

  -- and one that has ended wants none
  pub wants_none : HasEnded (ahead m []) → None ≡ wanted_of (stage procs c seen)
  wants_none h = ended_by (ahead m []) refl h

-- one value more
pub saw_peeking : (procs : List Proc) (c : Call) (p : PlainPeeker) (key : Key) (v : Value) (new : Progress) → IsPeeking procs c p → p.asked ≡ Some key → IsAsked p.machine p.asked →
    ((vs : List Value) → ahead new vs ≡ ahead p.machine (v ∷ vs)) → new.granted ≡ p.machine.granted → IsPeeking procs c (record { machine = new; seen = p.seen ++ (key, v) ∷ []; asked = None })
saw_peeking procs c p key v new is asked stands gives granted =
    let wants : ahead p.machine [] ≡ given.Wants key = subst (IsAsked p.machine) asked stands in
    let none : lookup (same_key key) p.seen ≡ None = subst (IsUnseen p.seen) asked is.unseen in
    let within : length is.follows.reads < 64 =
    subst (Within (length is.follows.reads) 64) (sym (is_at_now procs c (values is.follows.reads) p.machine.granted p.machine is.follows.at) ∙ wants)
    (stage_within procs c is.follows.reads is.limits is.follows.asked) in
    let few = is.follows.few in
    record {
      limits = is.limits;
      follows = follows_read procs c p.seen p.machine key v new wants gives granted is.follows none;
      unseen = tt;
      few = omega (arith, within, few, length-append p.seen ((key, v) ∷ []));
    }

-- what the machine was run on to
pub wants_by : (procs : List Proc) (c : Call) (seen : List (Key × Value)) (m : Progress) (r : Option Key) → Follows procs c seen m →
    IfSome r (λ key. (ahead m [] ≡ given.Wants key) × (lookup (same_key key) seen ≡ None)) → IfNone r (HasEnded (ahead m [])) → r ≡ wanted_of (stage procs c seen)
wants_by procs c seen m r follows some none = at' r refl
  where
    at' : (o : Option Key) → r ≡ o → r ≡ wanted_of (stage procs c seen)
    at' (Some key) e =
        let (stands, unseen) = subst (λ (o : Option Key). IfSome o (λ k. (ahead m [] ≡ given.Wants k) × (lookup (same_key k) seen ≡ None))) e some in
        e ∙ wants_key procs c seen m follows key stands unseen
    at' None e = e ∙ wants_none procs c seen m follows (subst (λ (o : Option Key). IfNone o (HasEnded (ahead m []))) e none)
