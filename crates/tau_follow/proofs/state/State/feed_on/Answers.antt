-- What is read, and then followed, or undone.
use Rattle.std.proofs.Common.{ap, sym, subst, ◌∙◌, ◌<◌, arith, length, Err, List, refl}
use Rattle.std.specs.Prelude.{slice_get}
use Rattle.std.specs.Global.{Vec}
use Rattle.tau_record.specs.declared.entry.Placed.{Placed}
use Rattle.tau_scan.specs.declared.fault.LogRefusal.{LogRefusal}
use Rattle.tau_follow_laws.specs.Feeding.{Piece, with_piece}
use Rattle.tau_follow.specs.declared.reader.Reader.{Reader}
use Rattle.tau_follow.specs.Feeding.{AreLonger, IsMarkAt}
use Rattle.tau_follow.specs.State.{Stands, HasRead}
use Rattle.tau_follow.proofs.Continuing.{reads_on}
use Rattle.tau_follow.proofs.Undoing.{same_streams}
use Rattle.tau_follow.proofs.Waiting.{at_streams}
use Rattle.tau_follow.proofs.Bytes.{bytes_then}
use Rattle.tau_follow.proofs.Redoing.{at_again, at_undone}
use Rattle.tau_follow.proofs.state.State.feed_on.Goals as goal

pub returns-in-Err-NoMemory-clause-no_memory : goal.returns-in-Err-NoMemory-clause-no_memory
returns-in-Err-NoMemory-clause-no_memory c = λ fed s a e.
    (let w = a.read in
    let wide = w.wide in
    let many = w.as_many in
    let lt = c.requires.stream in
    let longer = c.in-Err-NoMemory.ensures.longer (omega (arith, lt, wide)) (omega (arith, lt, many)) in
    let marked = subst (λ (l : List (List Placed)). IsMarkAt c.args.stream l c.args.self.now.readers.items c.in-Ok.mark) c.as_slice-2.ensures.value (subst (λ (l : List Reader). IsMarkAt c.args.stream c.as_slice-2.result.now l c.in-Ok.mark) c.as_slice.ensures.value c.in-Ok.ensures) in
    let back = c.undo.ensures.read c.args.format c.args.n fed c.args.self.now.streams.items c.args.self.now.readers.items lt w marked longer in
    at_undone c.args.format c.args.n fed s c.args.self.now c.undo.new.self a back.0 (subst (Stands s) (sym c.undo.ensures.applier) a.stands) c.undo.ensures.known c.undo.ensures.declarations c.undo.ensures.tables c.undo.ensures.done c.undo.ensures.store)

pub returns-in-Ok-follow_new-clause-ok : goal.returns-in-Ok-follow_new-clause-ok
returns-in-Ok-follow_new-clause-ok c = λ fed s a.
    (let p : Piece = record { stream = c.args.stream; bytes = c.args.bytes.now } in
    let w = a.read in
    let wide = w.wide in
    let many = w.as_many in
    let lt = c.requires.stream in
    let low : c.args.stream < length c.args.self.now.streams.items = omega (arith, lt, wide) in
    let high : c.args.stream < length c.args.self.now.readers.items = omega (arith, lt, many) in
    let g = c.in-Ok-follow_new.ensures.ok c.args.format c.args.n fed s p (record {
      read = c.in-Ok-read_stream.ensures.ok fed a.read;
      bytes = bytes_then fed p a.bytes (λ i. omega (arith, c.type_inv.bytes i));
      follower = a.follower;
      catalogue = a.catalogue;
      one = a.one;
      knows = (let k = a.knows in record { known = k.known; declarations = k.declarations });
      stands = a.stands;
      redone = a.redone;
    }) (reads_on c.args.stream c.read_count-before.result s.streams c.args.self.now.streams.items c.read_stream.new.streams.items c.args.self.now.readers.items c.read_stream.new.readers.items low high (c.in-Ok-read_stream.ensures.longer low high)
    (λ ps e. c.read_count-before.ensures ps (ap (λ (l : List (List Placed)). slice_get l c.args.stream) c.as_slice-3.ensures.value ∙ e)) (at_streams c.args.format c.args.n fed s c.args.self.now.streams.items a.follower w.fronts))
    (λ none. same_streams c.args.stream c.args.self.now.streams.items c.args.self.now.readers.items c.read_stream.new.streams.items c.read_stream.new.readers.items c.read_count-before.result c.read_count-after.result low high (c.in-Ok-read_stream.ensures.longer low high)
    (λ ps e. c.read_count-before.ensures ps (ap (λ (l : List (List Placed)). slice_get l c.args.stream) c.as_slice-3.ensures.value ∙ e))
    (λ ps e. c.read_count-after.ensures ps (ap (λ (l : List (List Placed)). slice_get l c.args.stream) c.as_slice-4.ensures.value ∙ e)) (c.is_more.ensures none)
    ∙ at_streams c.args.format c.args.n fed s c.args.self.now.streams.items a.follower w.fronts) in
    (g.0, g.1, at_again c.args.format c.args.n (with_piece fed p) g.0 c.follow_new.new.self _ g.2 refl refl refl refl refl refl refl refl))

pub returns-in_default-clause-no_memory : goal.returns-in_default-clause-no_memory
returns-in_default-clause-no_memory c = λ fed s a e. at_again c.args.format c.args.n fed s c.args.self.now _ a refl refl refl refl refl refl refl refl

pub returns-in-Err-NoMemory-follow_new-clause-no_memory : goal.returns-in-Err-NoMemory-follow_new-clause-no_memory
returns-in-Err-NoMemory-follow_new-clause-no_memory c = λ fed s a e.
    (let w = a.read in
    let wide = w.wide in
    let many = w.as_many in
    let lt = c.requires.stream in
    let same = c.in-Err-NoMemory-follow_new.ensures.err in
    let p : Piece = record { stream = c.args.stream; bytes = c.args.bytes.now } in
    let low : c.args.stream < length c.args.self.now.streams.items = omega (arith, lt, wide) in
    let high : c.args.stream < length c.args.self.now.readers.items = omega (arith, lt, many) in
    let first = c.in-Ok-read_stream.ensures.longer low high in
    let k = a.knows in
    let read : HasRead c.args.format c.args.n fed s p _ = record {
      read = c.in-Ok-read_stream.ensures.ok fed a.read;
      bytes = bytes_then fed p a.bytes (λ i. omega (arith, c.type_inv.bytes i));
      follower = a.follower;
      catalogue = a.catalogue;
      one = a.one;
      knows = record { known = k.known; declarations = k.declarations };
      stands = a.stands;
      redone = a.redone;
    } in
    let on = reads_on c.args.stream c.read_count-before.result s.streams c.args.self.now.streams.items c.read_stream.new.streams.items c.args.self.now.readers.items c.read_stream.new.readers.items low high first
    (λ ps e. c.read_count-before.ensures ps (ap (λ (l : List (List Placed)). slice_get l c.args.stream) c.as_slice-3.ensures.value ∙ e)) (at_streams c.args.format c.args.n fed s c.args.self.now.streams.items a.follower w.fronts) in
    let longer = subst (λ (v : Vec (List Placed)). AreLonger c.args.stream c.args.self.now.streams.items c.args.self.now.readers.items v.items c.follow_new.new.self.readers.items) (sym same.streams)
    (subst (λ (v : Vec Reader). AreLonger c.args.stream c.args.self.now.streams.items c.args.self.now.readers.items c.read_stream.new.streams.items v.items) (sym same.readers) first) in
    let marked = subst (λ (l : List (List Placed)). IsMarkAt c.args.stream l c.args.self.now.readers.items c.in-Ok.mark) c.as_slice-2.ensures.value (subst (λ (l : List Reader). IsMarkAt c.args.stream c.as_slice-2.result.now l c.in-Ok.mark) c.as_slice.ensures.value c.in-Ok.ensures) in
    let back = c.undo-in-Err-NoMemory-follow_new.ensures.read c.args.format c.args.n fed c.args.self.now.streams.items c.args.self.now.readers.items lt w marked longer in
    at_undone c.args.format c.args.n fed s c.args.self.now c.undo-in-Err-NoMemory-follow_new.new.self a back.0
    (subst (Stands s) (sym c.undo-in-Err-NoMemory-follow_new.ensures.applier) (c.in-Err-NoMemory-follow_new.ensures.stands c.args.format c.args.n fed s p read on))
    (c.undo-in-Err-NoMemory-follow_new.ensures.known ∙ same.known) (c.undo-in-Err-NoMemory-follow_new.ensures.declarations ∙ same.declarations) (c.undo-in-Err-NoMemory-follow_new.ensures.tables ∙ c.in-Err-NoMemory-follow_new.ensures.tables) c.undo-in-Err-NoMemory-follow_new.ensures.done c.undo-in-Err-NoMemory-follow_new.ensures.store)

pub returns-in-Err-Bad-follow_new-clause-bad : goal.returns-in-Err-Bad-follow_new-clause-bad
returns-in-Err-Bad-follow_new-clause-bad c = λ fed s fault a e.
    (let p : Piece = record { stream = c.args.stream; bytes = c.args.bytes.now } in
    c.in-Err-Bad-follow_new.ensures.bad c.args.format c.args.n fed s p fault (record {
      read = c.in-Ok-read_stream.ensures.ok fed a.read;
      bytes = bytes_then fed p a.bytes (λ i. omega (arith, c.type_inv.bytes i));
      follower = a.follower;
      catalogue = a.catalogue;
      one = a.one;
      knows = (let k = a.knows in record { known = k.known; declarations = k.declarations });
      stands = a.stands;
      redone = a.redone;
    }) (ap (λ (z : LogRefusal). Err z) c.in-Err-Bad-follow_new.field-0-is ∙ e))
