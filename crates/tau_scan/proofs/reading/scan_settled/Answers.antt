-- The images that were read, or those that would have been.
use Rattle.std.proofs.Common.{ℕ, List, length, map, refl, ap, ◌∙◌}
use Rattle.tau_scan.proofs.Contents.{has_contents, if_ok_both}
use Rattle.tau_scan.proofs.reading.scan_settled.Goals as goal

pub returns-in-Err-NoMemory-clause-read : goal.returns-in-Err-NoMemory-clause-read
returns-in-Err-NoMemory-clause-read g c = record { images = map g.D.Disk.seen c.args.disks.now; as_seen = λ tells. refl; gives = tt }

pub returns-in-Err-Failed-clause-read : goal.returns-in-Err-Failed-clause-read
returns-in-Err-Failed-clause-read g c = record { images = map g.D.Disk.seen c.args.disks.now; as_seen = λ tells. refl; gives = tt }

pub returns-in-Ok-clause-contents : goal.returns-in-Ok-clause-contents
returns-in-Ok-clause-contents g c = if_ok_both _ _ _ c.read_log.result c.read_log.ensures.are c.read_log.ensures.theirs
    (λ r are theirs. has_contents g.D.Disk.tells g.D.Disk.seen c.args.asked c.args.disks.now c.as_slice.result.now r.0 r.1.items
    (ap (λ (xs : List (List ℕ)). length xs) c.as_slice.ensures ∙ c.in-Ok.ensures.many) (λ t. c.as_slice.ensures ∙ c.in-Ok.ensures.bytes t) are theirs)

pub returns-in-Err-Failed-clause-failed : goal.returns-in-Err-Failed-clause-failed
returns-in-Err-Failed-clause-failed g c j e = c.in-Err-Failed.ensures.failed j (cc (e, c.in-Err-Failed.stream-is, c.in-Err-Failed.field-0-is))
