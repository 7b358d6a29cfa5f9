use Rattle.std.proofs.Common.{◌≡◌, ◌+◌, ◌-◌, ◌≤◌, length}
use Rattle.tau_record.specs.Content.{records_at, content_at}
use Rattle.tau_record.proofs.FieldLaws.{IsBytes}
use Rattle.tau_record.specs.Record.{AreVectors}
use Rattle.tau_record.proofs.Walk.{in_fronts}
use Rattle.tau_record.proofs.content.records.Given as goal

abbrev pub invariant-loop : goal.invariant-loop
invariant-loop l = record {
  place : l.at + length l.rest ≡ length l.content;
  fuel : length l.rest + l.counter ≤ length l.content;
  are : AreVectors l.n l.named.vectors.items;
  bytes : IsBytes l.rest;
  reads : in_fronts l.placed.items (records_at l.format l.n (length l.content - l.counter) l.at l.named.number l.named.vectors.items l.rest) ≡ content_at l.format l.n l.content;
}
