-- How long the bytes of an item are.
use Rattle.std.proofs.Common.{ℕ, suc, ◌≤◌, List, [], length, sym, subst, arith}
use Rattle.std.specs.Prelude.{replicate}
use Rattle.tau_base.specs.Modes.{format_of}
use Rattle.tau_machine.specs.State.{Item, Record, Anchor}
use Rattle.tau_record.specs.declared.entry.Entry.TheVariants as entry
use Rattle.tau_record.proofs.ContentLaws.{spelling_long}
use Rattle.tau_txn.specs.Record.{entry_of}
use Rattle.tau_core.specs.declared.state.Load.{Load}
use Rattle.tau_core.specs.Pieces.{AreBytesOf}
use Rattle.tau_core.proofs.Sizes.{named_copies}

module _ (l : Load) (anchors : ℕ → List (List ℕ)) where
  -- a record has at least five bytes
  pub five : (i : Item) (bytes : List ℕ) → AreBytesOf l anchors i bytes → 5 ≤ length bytes
  five (Record t) bytes q =
      let vectors : List (List ℕ) = replicate (suc t.call.anchor) q.base in
      let s = q.spelled vectors (named_copies (suc t.call.anchor) t.call.anchor q.base (omega arith)) in
      subst (λ (b : List ℕ). 5 ≤ length b) (sym s.text) (spelling_long (format_of l.mode) vectors (entry_of l.mode t))
  five (Anchor start past v) bytes q =
      let s = q [] in
      subst (λ (b : List ℕ). 5 ≤ length b) (sym s.text) (spelling_long (format_of l.mode) [] (entry.Anchor v))
