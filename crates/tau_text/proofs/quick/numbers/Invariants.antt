-- The words so far spell the arguments so far.
use Rattle.std.proofs.Common.{◌≤◌, length, take}
use Rattle.tau_text.proofs.OnePass.{SoFar}
use Rattle.tau_text.proofs.quick.numbers.Given as goal

abbrev pub invariant-loop-place : goal.invariant-loop-place
invariant-loop-place l = record { kept : l.place ≤ length l.args.items; read : SoFar l.place l.text (take l.place l.args.items) l.rest }
