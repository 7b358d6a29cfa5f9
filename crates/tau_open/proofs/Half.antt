-- A stream that is not made whole, and what a call that reads leaves.
use Rattle.std.proofs.Common.{ℕ, ◌≡◌, ◌+◌, ◌-◌, Bool, List, [], refl, sym, subst, arith}
use Rattle.tau_base.specs.declared.format.Format.TheVariants.{One}
use Rattle.tau_disk.specs.declared.disk.Disk.{Ghosts}
use Rattle.tau_disk.specs.Left.{LeavesAll}
use Rattle.tau_block.specs.Image.{HasContent}
use Rattle.tau_stream.specs.declared.writer.Writer.{Writer}
use Rattle.tau_stream.specs.Writer.{IsReady, disk_of}
use Rattle.tau_stream.proofs.Tears.{content_now}
use Rattle.tau_stream.specs.Stream.{CreateStops, IsCutShort, catalogue_record, is_through}
use Rattle.tau_stream.specs.declared.flush.Flush.{Flush}
use Rattle.tau_stream.specs.declared.flush.Flush.TheVariants as was
use Rattle.tau_open.specs.declared.refusal.OpenRefusal.{OpenRefusal}
use Rattle.tau_open.specs.declared.refusal.OpenRefusal.TheVariants.{NoMemory, Failed}
use Rattle.tau_open.specs.Creating.{Fails}
use Rattle.tau_open.specs.Opening.{Asked, FailsCreated, Holds, MakesHalf, StillKeeps}

module _ {D : Type 0} (G : Ghosts D) where
  pub still_asked : (d e : D) → (G.tells → LeavesAll (G.image d) (G.image e) (G.keeps d) (G.keeps e)) → StillKeeps G d e
  unfolding LeavesAll
  still_asked d e left tells = (left tells).1

  pub half_created : (n j : ℕ) (text : List ℕ) (d e : D) → (G.tells → CreateStops G n j text d e) → MakesHalf G 2 n (catalogue_record text) j d e
  unfolding CreateStops MakesHalf
  half_created n j text d e stops = stops

  -- with the call that asked the length before it
  pub half_asked : (n j : ℕ) (content : List ℕ) (d e f : D) → Asked G d e → MakesHalf G 2 n content j e f → MakesHalf G 3 n content j d f
  unfolding MakesHalf
  half_asked n j content d e f asked half tells room whole unborn =
      let one : G.number e ≡ G.number d + 1 = (asked.went.made tells).0 in
      let calls : G.number f - (G.number e + 2) ≡ G.number f - (G.number d + 3) = omega (arith, one) in
      subst (λ (call : ℕ). IsCutShort One n j [] content (is_through call (G.keeps d (G.number f))) (G.image f)) calls
      (subst (λ (kept : Bool). IsCutShort One n j [] content (is_through (G.number f - (G.number e + 2)) kept) (G.image f)) (asked.last tells (G.number f))
      (half tells room whole (λ x left. unborn x (asked.read.no_more x left))))

  -- a writer that is ready has its content in every image
  pub ready_holds : (n j : ℕ) (content : List ℕ) (w : Writer D G) → (G.tells → IsReady One n j w content) → Holds G n content j (disk_of w)
  ready_holds n j content w ready tells x left =
      let settled = (ready tells).settled in
      subst (HasContent One n j content) (sym (settled.only x left)) (content_now One n j (G.seen (disk_of w)) w.gate_at content settled.log)

  -- why a stream was not made
  pub fails_by : (n j : ℕ) (content : List ℕ) (d e : D) (flush : Flush) (refusal : OpenRefusal) → (flush ≡ was.Failed → refusal ≡ Failed j) → (flush ≡ was.NoMemory → refusal ≡ NoMemory) → (flush ≡ was.Idle → ⊥) →
      (flush ≡ was.Failed → FailsCreated G n content j d e) → (flush ≡ was.NoMemory → e ≡ d) → Fails G n content j d e refusal
  fails_by n j content d e was.Failed refusal failed memory idle makes same = subst (Fails G n content j d e) (sym (failed refl)) (refl, makes refl)
  fails_by n j content d e was.NoMemory refusal failed memory idle makes same = subst (Fails G n content j d e) (sym (memory refl)) (same refl)
  fails_by n j content d e was.Idle refusal failed memory idle makes same = absurd (idle refl)
