-- The record of a call that commits, made above the anchor that it names.
use Rattle.std.proofs.Common.{ℕ, ◌+◌, ◌%◌, ◌≡◌, ◌<◌, ◌^◌, false, List, length, ap, subst, ◌∙◌}
use Rattle.std.specs.Prelude.{Some, slice_get}
use Rattle.tau_base.specs.Vectors.{join}
use Rattle.tau_base.specs.declared.value.LogMode.{LogMode}
use Rattle.tau_proc.specs.Effect.{Effect}
use Rattle.tau_proc.specs.declared.proc.Proc.{Proc}
use Rattle.tau_model.specs.History.{Act}
use Rattle.tau_base.specs.Modes.{format_of}
use Rattle.tau_record.specs.Record.{base_of, Spells}
use Rattle.tau_txn.specs.Txn.{PlainTxn, RunsBy, hand_in, bytes_in, anchor_in}
use Rattle.tau_txn.specs.Record.{entry_of}
use Rattle.tau_txn.specs.Read.{effect_in}
use Rattle.tau_txn.specs.Next.{Commits, act_at}
use Rattle.tau_machine.specs.Hands.{Txn, Hand}
use Rattle.tau_core.specs.Plain.{PlainSeat}
use Rattle.tau_core.specs.State.{Plain}
use Rattle.tau_core.specs.Stands.{Sound}
use Rattle.tau_core.proofs.Sizes.{size_small}

-- the call with its vector raised by the anchor's
abbrev pub raised : Hand → List ℕ → Hand
raised h base = record h { dep = join h.dep base }

-- the act that the call becomes with these bytes, which start here
abbrev pub act_of : Plain → ℕ → ℕ → ℕ → List ℕ → Hand → Effect → List ℕ → Act Txn
act_of p w start number base h effect bytes = record {
  call = record { call = h.call; worker = w; place = record { stream = w % p.load.streams; start = start; past = start + length bytes; dep = join h.dep base }; anchor = number };
  effect = effect;
}

-- t is the worker's transaction after its record was made
pub record IsMade (p : Plain) (w start number : ℕ) (base : List ℕ) (h : Hand) (effect : Effect) (t : PlainTxn) : Type 0 where
  pub hand_is : hand_in p.load.procs t ≡ Some (raised h base)
  pub runs : RunsBy p.load.procs t
  pub act_is : act_at p.load.procs t start (raised h base) ≡ act_of p w start number base h effect (bytes_in t)
  pub spelled : (vectors : List (List ℕ)) → base_of vectors number ≡ base → Spells (format_of p.load.mode) p.load.streams vectors false (entry_of p.load.mode (act_of p w start number base h effect (bytes_in t))) (bytes_in t)
  pub small : length (bytes_in t) < 2 ^ 32

pub is_made : (p : Plain) (w start number : ℕ) (base : List ℕ) (s : PlainSeat) (t : PlainTxn) (size : ℕ) (m : Commits p.load.procs s.txn size) →
    Sound p → slice_get p.seats w ≡ Some s → length base ≡ p.load.streams →
    t ≡ record s.txn { hand = t.hand } → anchor_in t ≡ number →
    ((procs : List Proc) (hand : Hand) → hand_in procs s.txn ≡ Some hand → hand_in procs t ≡ Some (raised hand base)) →
    ((procs : List Proc) → RunsBy procs s.txn → RunsBy procs t) →
    ((procs : List Proc) (hand : Hand) (from : ℕ) (vectors : List (List ℕ)) → RunsBy procs s.txn → hand_in procs t ≡ Some hand → base_of vectors number ≡ base →
    Spells (format_of s.txn.mode) s.txn.width vectors false (entry_of s.txn.mode (act_at procs t from hand)) (bytes_in t)) →
    IsMade p w start number base m.hand m.effect t
is_made p w start number base s t size m sound is wide same anchor raises runs bytes =
    let o = sound.seat w s is in
    let procs = p.load.procs in
    let hand_is : hand_in procs t ≡ Some (raised m.hand base) = raises procs m.hand m.is in
    let act : Act Txn = act_of p w start number base m.hand m.effect (bytes_in t) in
    let worker_is : t.worker ≡ w = ap (λ (x : PlainTxn). x.worker) same ∙ o.txn.worker in
    let width_is : t.width ≡ p.load.streams = ap (λ (x : PlainTxn). x.width) same ∙ o.txn.width in
    let act_is : act_at procs t start (raised m.hand base) ≡ act = (λ i. record {
      call = record { call = m.hand.call; worker = worker_is i; place = record { stream = worker_is i % width_is i; start = start; past = start + length (bytes_in t); dep = join m.hand.dep base }; anchor = anchor i };
      effect = effect_in (m.ended i);
    }) in
    let spelled : (vectors : List (List ℕ)) → base_of vectors number ≡ base → Spells (format_of p.load.mode) p.load.streams vectors false (entry_of p.load.mode act) (bytes_in t) =
    (λ (vectors : List (List ℕ)) (e : base_of vectors number ≡ base).
    subst (λ (x : LogMode × ℕ). Spells (format_of x.0) x.1 vectors false (entry_of x.0 act) (bytes_in t)) (λ i. (o.txn.mode i, o.txn.width i))
    (subst (λ (a : Act Txn). Spells (format_of s.txn.mode) s.txn.width vectors false (entry_of s.txn.mode a) (bytes_in t)) act_is (bytes procs (raised m.hand base) start vectors o.txn.runs hand_is e))) in
    record {
      hand_is = hand_is;
      runs = runs procs o.txn.runs;
      act_is = act_is;
      spelled = spelled;
      small = size_small p.load.streams base p.load.mode act (bytes_in t) sound.streams_high wide spelled;
    }
