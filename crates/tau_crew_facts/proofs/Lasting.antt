-- Positions that became durable stay so.
use Rattle.std.proofs.Common.{ℕ, ◌≤◌, ◌≡◌, inl, inr, false, List, ◌++◌, length, sym, ap, ◌∙◌, arith, length-append}
use Rattle.tau_base.specs.declared.format.Format.{Format}
use Rattle.tau_base.proofs.Logic.{some_is}
use Rattle.tau_block.specs.Image.{HasContent}
use Rattle.tau_disk.specs.Disk.{Passes}
use Rattle.tau_disk.specs.declared.disk.Disk.{Ghosts}
use Rattle.tau_outbox.specs.declared.Piece.{Piece}
use Rattle.tau_outbox.specs.Pieces.{bytes_of}
use Rattle.tau_stream.specs.declared.writer.Writer.{Writer}
use Rattle.tau_stream.specs.Stream.{IsOldOrNew}
use Rattle.tau_stream.specs.Writer.{disk_of, durable_of, has_failed, part_upto, IsReady}
use Rattle.tau_crew_facts.specs.Writers.{AllBecameDurable, BecameDurable, HasLong, HasWritten, IsCurrent, IsManaging}
use Rattle.tau_crew_facts.proofs.DiskLaws.{CountsNow, OnlyNow}

module _ {D : Type 0} {G : Ghosts D} (format : Format) (n j : ℕ) where
  -- it stays durable if each new image holds as much
  pub stays_durable : (d e : D) (P : List ℕ → Type 0) (upto : ℕ) → Passes G.moment G.may_leave_since d e P → ((x : List ℕ) → P x → HasLong format n j upto x) → BecameDurable G format n j d upto → BecameDurable G format n j e upto
  stays_durable d e P upto passes all b = (
    b.0,
    (let at = b.1 in let later = passes.later in omega (arith, at, later)),
    record {
      long = λ x since. elim (passes.new_ones b.0 x b.1 since) [
        | inl was ↦ b.2.long x was
        | inr new ↦ all x new
      ];
      no_more = (b.2.no_more.0, passes.kept b.0 b.2.no_more.0 b.1 b.2.no_more.1, b.2.no_more.2);
    },
  )

  module _ (counts_now : CountsNow G) where
    -- no image holds less than what became durable
    pub no_less : (d : D) (upto long : ℕ) → BecameDurable G format n j d upto → (y content : List ℕ) × G.may_leave d y × HasContent format n j content y × (length content ≡ long) → upto ≤ long
    no_less d upto long b some =
        let has = b.2.long some.0 (counts_now d b.0 some.0 b.1 some.2) in
        let same = ap (length {A = ℕ}) (some_is has.0 some.1 (sym has.1 ∙ some.3)) in
        let low = has.2 in
        let is = some.4 in
        omega (arith, same, low, is)

    -- what is stored now is durable now
    pub durable_now : (only_now : OnlyNow G) (base : List ℕ) (taken : List Piece) (stored : ℕ) (w0 w : Writer D G) → HasWritten format n j base taken stored w0 w → G.tells → BecameDurable G format n j (disk_of w) stored
    durable_now only_now base taken stored w0 w h t =
        let d : D = disk_of w in
        let now = h.reached t in (
          G.moment d,
          omega arith,
          record {
            long = λ x since.
                (let p = h.present t x (only_now d x since) in
                (base ++ bytes_of p.0.front, p.0.has, (let e = length-append base (bytes_of p.0.front) in let low = p.1 in omega (arith, e, low))));
            no_more = (
              now.0,
              counts_now d (G.moment d) now.0 (omega arith) now.2,
              λ more has. (let same = ap (length {A = ℕ}) (some_is has.0 now.1 (sym has.1 ∙ now.3)) in let upto = now.4 in let low = has.2 in omega (arith, same, upto, low)),
            );
          },
        )

    -- a flush leaves durable what became so, by its clause of each moment
    pub flush_keeps : (base : List ℕ) (taken : List Piece) (w0 w w' : Writer D G) (upto : ℕ) (g : IsManaging format n j base taken w0 w) → has_failed w ≡ false →
        (G.tells → (format : Format) (n j : ℕ) (content : List ℕ) → IsReady format n j w content → Passes G.moment G.may_leave_since (disk_of w) (disk_of w') (IsOldOrNew format n j content (part_upto w upto))) →
        (stored : List ℕ) → G.tells → AllBecameDurable G format n j (disk_of w) stored → AllBecameDurable G format n j (disk_of w') stored
    flush_keeps base taken w0 w w' upto g works moments stored t all u m =
        stays_durable (disk_of w) (disk_of w') (IsOldOrNew format n j content (part_upto w upto)) u (moments t format n j content (c.ready t)) either (all u m)
      where
        c : IsCurrent format n j base taken w
        c = g.current works

        content : List ℕ
        content = base ++ bytes_of c.front

        low : u ≤ length content
        low = (let a = no_less (disk_of w) u (durable_of w) (all u m) (g.managed.reached t) in let b = c.durable in let e = length-append base (bytes_of c.front) in omega (arith, a, b, e))

        either : (x : List ℕ) → IsOldOrNew format n j content (part_upto w upto) x → HasLong format n j u x
        either x (inl has) = (content, has, low)
        either x (inr has) = (content ++ part_upto w upto, has, (let e = length-append content (part_upto w upto) in omega (arith, low, e)))
