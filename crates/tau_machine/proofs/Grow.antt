-- What stays where the commit order and the ends grow.
use Rattle.std.proofs.Common.{ℕ, inl, inr, List, ◌++◌}
use Rattle.std.specs.Prelude.{slice_index}
use Rattle.tau_proc.specs.declared.proc.Proc.{Proc}
use Rattle.tau_model.specs.History.{Act}
use Rattle.tau_base.specs.Vectors.{AtMost}
use Rattle.tau_model.proofs.Orders.{member_front}
use Rattle.tau_machine.specs.Hands.{Txn, Phase, Running, Quitting, Placed, Freeing, Hand}
use Rattle.tau_machine.specs.Sight.{Sight}
use Rattle.tau_machine.specs.Good.{Cause, HandCause, Reaches, Behind, Runs, Joined, InPhase, Meets}
use Rattle.tau_base.proofs.Vectors.{at_most_trans}
use Rattle.tau_machine.proofs.Snoc.{depends_front}

module _ (K more : List (Act Txn)) where
  pub reaches_more : (j position : ℕ) (t : Act Txn) → Reaches K j position t → Reaches (K ++ more) j position t
  reaches_more j position t r = record {
    last = r.last;
    up = r.up;
    stream = r.stream;
    past = r.past;
    how = elim r.how [ inl e ↦ inl e | inr d ↦ inr (depends_front K more t r.last d) ];
  }

  pub cause_more : (j position : ℕ) (why : Act Txn → Type 0) → Cause K j position why → Cause (K ++ more) j position why
  cause_more j position why c = record {
    by = c.by;
    there = member_front c.by K more c.there;
    because = c.because;
    reaches = reaches_more j position c.by c.reaches;
  }

  pub hand_cause_more : (j position : ℕ) (h : Hand) → HandCause K j position h → HandCause (K ++ more) j position h
  hand_cause_more j position h c = record {
    key = c.key;
    mode = c.mode;
    held = c.held;
    cause = cause_more j position (λ t. Meets c.mode c.key t.effect) c.cause;
  }

  pub behind_more : (j position : ℕ) (t : Act Txn) → Behind K j position t → Behind (K ++ more) j position t
  behind_more j position t b = record { last = b.last; up = b.up; stream = b.stream; past = b.past; how = depends_front K more t b.last b.how }

  module _ (procs : List Proc) (width : ℕ) (v : Sight) (ends : List ℕ) (up : AtMost v.ends ends) where
    pub runs_more : (h : Hand) → Runs procs width K v h → Runs procs width (K ++ more) (record v { ends = ends }) h
    runs_more h r = record {
      wide = r.wide;
      below = at_most_trans h.dep v.ends ends r.below up;
      agrees = r.agrees;
      kept = r.kept;
      write_lv = r.write_lv;
      read_lv = r.read_lv;
      used = r.used;
      light = λ j lt. hand_cause_more j (slice_index h.dep j) h (r.light j lt);
    }

    pub joined_more : (h : Hand) (w : ℕ) (t : Act Txn) → Joined procs width K h w t → Joined procs width (K ++ more) h w t
    joined_more h w t j = record { there = member_front t K more j.there; whose = j.whose; call = j.call; modes = j.modes; touched = j.touched }

    pub in_phase_more : (w : ℕ) (h : Hand) (p : Phase) → InPhase procs width K v w h p → InPhase procs width (K ++ more) (record v { ends = ends }) w h p
    in_phase_more w h Running r = runs_more h r
    in_phase_more w h Quitting r = r
    in_phase_more w h (Placed t) r = joined_more h w t r
    in_phase_more w h (Freeing t) r = joined_more h w t r
