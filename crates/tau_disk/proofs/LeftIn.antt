-- What the calls of a memory disk make of the images that a stop leaves.
use Rattle.std.proofs.Common.{◌≡◌, ◌||◌, ℕ, Bool, true, false, List, refl, ◌∙◌, ap}
use Rattle.std.specs.Prelude.{Result, Ok, Err}
use Rattle.tau_disk.specs.declared.call.Tear.{Tear}
use Rattle.tau_disk.specs.declared.call.Tear.TheVariants as tear
use Rattle.tau_disk.specs.declared.memory.MemDisk.{MemDisk}
use Rattle.tau_disk.specs.Replay.{DiskState, opened, wrote}
use Rattle.tau_disk.specs.Memory.{state_of, seen_by, count_of, keeps_at, failed_write, StaysAs, WritesTo, SyncsTo}
use Rattle.tau_disk.specs.Tear.{image_by}
use Rattle.tau_disk.specs.Left.{LeavesAll, LeavesSync, LeavesWrite, after_write, after_failed_write}

image_wrote : (s : DiskState) (at : ℕ) (bytes : List ℕ) (kind : Tear) → image_by (wrote s at bytes) kind ≡ after_write (image_by s) at bytes kind
image_wrote s at bytes tear.Old = refl
image_wrote s at bytes tear.New = refl
image_wrote s at bytes tear.Torn = refl

image_failed : (keeps : Bool) (s : DiskState) (at : ℕ) (bytes : List ℕ) (kind : Tear) → image_by (failed_write keeps s at bytes) kind ≡ after_failed_write keeps (image_by s) at bytes kind
image_failed true s at bytes kind = image_wrote s at bytes kind
image_failed false s at bytes tear.Old = refl
image_failed false s at bytes tear.New = refl
image_failed false s at bytes tear.Torn = refl

image_opened : (bytes : List ℕ) (kind : Tear) → image_by (opened bytes) kind ≡ bytes
image_opened bytes tear.Old = refl
image_opened bytes tear.New = refl
image_opened bytes tear.Torn = refl

enough : (short cut : Bool) → short ≡ false → cut ≡ false → (short || cut) ≡ false
enough short cut room whole = λ i. room i || whole i

pub alone : (d e : MemDisk) → StaysAs d e → LeavesAll (image_by (state_of d)) (image_by (state_of e)) (keeps_at d) (keeps_at e)
unfolding LeavesAll
alone d e stays = (λ kind. ap (λ (s : DiskState). image_by s kind) stays.state, stays.last)

pub written : {T E : Type 0} (at : ℕ) (bytes : List ℕ) (d e : MemDisk) (r : Result T E) → WritesTo at bytes d e r → LeavesWrite at bytes (count_of e) e.is_short e.is_cut (image_by (state_of d)) (image_by (state_of e)) (keeps_at d) (keeps_at e) r
unfolding LeavesWrite
written at bytes d e (Ok v) writes = (λ kind. ap (λ (s : DiskState). image_by s kind) writes.ok ∙ image_wrote (state_of d) at bytes kind, tt, writes.last)
written at bytes d e (Err x) writes = (
  tt,
  λ room whole kind. ap (λ (s : DiskState). image_by s kind) (writes.failed (enough e.is_short e.is_cut room whole)) ∙ image_failed (keeps_at d (count_of e)) (state_of d) at bytes kind,
  writes.last,
)

pub synced : {T E : Type 0} (d e : MemDisk) (r : Result T E) → SyncsTo d e r → LeavesSync (seen_by d) (image_by (state_of d)) (image_by (state_of e)) (keeps_at d) (keeps_at e) r
unfolding LeavesSync
synced d e (Ok v) syncs = (λ kind. ap (λ (s : DiskState). image_by s kind) syncs.ok ∙ image_opened (seen_by d) kind, tt, syncs.last)
synced d e (Err x) syncs = (tt, λ kind. ap (λ (s : DiskState). image_by s kind) syncs.failed, syncs.last)
