use Rattle.std.proofs.Common.{ℕ, ◌≡◌, ◌++◌, List, ◌∙◌, sym, ap, subst, inl, inr, rules, arith, length, map, append_assoc}
use Rattle.std.proofs.lemmas.List.{take_all}
use Rattle.tau_disk.specs.declared.memory.MemDisk.{MemDisk}
use Rattle.std.specs.Prelude.{None, Ok, Err}
use Rattle.tau_disk.specs.Memory.{seen_by}
use Rattle.tau_disk.specs.Streams.{held_by}
use Rattle.tau_scan.specs.declared.fault.LogFault.{LogFault}
use Rattle.tau_scan.specs.declared.log.Log.{Log}
use Rattle.tau_scan.specs.Reading.{log_of}
use Rattle.tau_scan.specs.Taken.{Kept}
use Rattle.tau_replay.specs.Redone.{IsOrderOf}
use Rattle.tau_replay.proofs.Tangles.{tangled_has_no_order}
use Rattle.tau_engine.specs.Drill.{images_by, stopped_line}
use Rattle.tau_commands.specs.Recovery.{IsBadLog, images_of}
use Rattle.tau_engine.proofs.drill.tell.Goals as goal

-- images that hold a log with an orderly order are not refused
not_refused : (images : List (List ℕ)) (log : Log) (order : List Kept) (fault : LogFault) → log_of None images ≡ Ok log → IsOrderOf log order → IsBadLog images fault → ⊥
not_refused images log order fault is ordered (inl bad) = (let both : Err fault ≡ Ok log = sym bad ∙ is in cc both)
not_refused images log order fault is ordered (inr (other, reads, tangle)) =
    let same : log ≡ other = (let both : Ok log ≡ Ok other = sym is ∙ reads in cc) in
    tangled_has_no_order other fault.stream tangle.0 order tangle.2 (subst (λ (l : Log). IsOrderOf l order) same ordered)

-- src/drill.rt:296:30
pub unreachable-requires : goal.unreachable-requires
unreachable-requires g c =
    let (log, is, order, ordered) = c.requires.ordered in
    let same : images_of seen_by c.deref_mut.result.now c.from.result ≡ images_by c.args.tear c.args.disks.now =
    ap (map seen_by) (take_all c.from.result c.deref_mut.result.now (let long = ap (λ (ds : List MemDisk). length ds) c.deref_mut.ensures.value in let many = c.in_ok-images.ensures.count in let count = c.requires.count in let n = c.from.ensures in omega (arith, long, many, count, n)))
    ∙ ap (map seen_by) c.deref_mut.ensures.value ∙ c.in_ok-images.ensures.held in
    not_refused (images_by c.args.tear c.args.disks.now) log order c.in-BadLog.field-0 is ordered (subst (λ (images : List (List ℕ)). IsBadLog images c.in-BadLog.field-0) same (c.recover.ensures.of.bad_log c.in-BadLog.field-0 c.in-BadLog.is tt))

pub returns-in-Ok : goal.returns-in-Ok
returns-in-Ok g c =
    let same : images_of seen_by c.deref_mut.result.now c.from.result ≡ images_by c.args.tear c.args.disks.now =
    ap (map seen_by) (take_all c.from.result c.deref_mut.result.now (let long = ap (λ (ds : List MemDisk). length ds) c.deref_mut.ensures.value in let many = c.in_ok-images.ensures.count in let count = c.requires.count in let n = c.from.ensures in omega (arith, long, many, count, n)))
    ∙ ap (map seen_by) c.deref_mut.ensures.value ∙ c.in_ok-images.ensures.held in
    let (log, reads, (text, recovery, wrote)) = c.in-Ok.ensures.of.recover tt in
    let written : held_by c.write_all.new.sink ≡ held_by c.args.out.now ++ c.as_bytes.result.now = search rules in
    let said : c.as_bytes.result.now ≡ stopped_line c.args.calls = c.as_bytes.ensures.value ∙ c.in_ok-line.ensures in
    record {
      log = log;
      reads = subst (λ (images : List (List ℕ)). log_of None images ≡ Ok log) same reads;
      found = text;
      recovery = recovery;
      told = wrote tt ∙ ap (λ (xs : List ℕ). xs ++ text) (written ∙ ap (λ (xs : List ℕ). held_by c.args.out.now ++ xs) said) ∙ append_assoc (held_by c.args.out.now) (stopped_line c.args.calls) text;
    }
