-- The generated workload can be run and logged, and what is told of it.
use Rattle.std.proofs.Common.{ℕ, ◌≡◌, List, ap}
use Rattle.tau_base.specs.declared.value.Key.{Key}
use Rattle.tau_base.specs.declared.value.Value.{Value}
use Rattle.tau_scan.specs.Reading.{is_of_table}
use Rattle.tau_run.specs.CoreRun.{IsSoundLoad}
use Rattle.tau_run.proofs.Sources.{sound_load}
use Rattle.tau_gen.specs.Generated.{generated}
use Rattle.tau_gen.proofs.BenchDeclared.{bare, bare_text, bare_read, call_at, taken}
use Rattle.tau_engine.specs.Bench.{measured_text}

pub sound_generated : (start count : ℕ) → IsSoundLoad (generated start count)
sound_generated start count =
    let s = sound_load bare_text bare bare_read (λ k c got. absurd (cc)) in
    record {
      short = s.short;
      bytes = s.bytes;
      read = s.read;
      taken = λ k c got. taken start count k c got;
      named = λ k c got. ap (is_of_table (generated start count).declarations) (call_at start count k c got).0;
      steps = λ i p got. absurd (cc);
    }

pub text_is : (tables other : List (List ℕ)) (calls acked : ℕ) (rows again formula : List (Key × Value)) → tables ≡ other → acked ≡ calls → rows ≡ formula → again ≡ formula →
    measured_text tables calls acked rows again ≡ measured_text other calls calls formula formula
text_is tables other calls acked rows again formula t a r f = λ i. measured_text (t i) calls (a i) (r i) (f i)
