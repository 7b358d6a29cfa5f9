use Rattle.std.proofs.Common.{ℕ, ◌≡◌, List, refl, inr, sym, subst, rules}
use Rattle.tau_ckpt.specs.declared.checkpoint.Checkpoint.{Checkpoint}
use Rattle.tau_scan.specs.Taken.{Kept, taken}
use Rattle.tau_replay.specs.Redone.{IsTangledOver}
use Rattle.tau_commands.specs.Finding.{IsReadyOf}
use Rattle.tau_commands.proofs.checkpoints.make_next.Goals as goal

-- the same place
placed : (records : List Kept) (j k at other : ℕ) → j ≡ k → at ≡ other → IsTangledOver records j at → IsTangledOver records k other
placed records j k at other streams starts is = subst (λ (i : ℕ). IsTangledOver records k i) starts (subst (λ (i : ℕ). IsTangledOver records i at) streams is)

pub returns-in-Err-Tangled-clause-refused : goal.returns-in-Err-Tangled-clause-refused
returns-in-Err-Tangled-clause-refused g c = λ slots is.
    let failed = rw c.in-Err-Tangled.field-0-is at c.in-Err-Tangled.is in
    let stuck = c.replay_threads.ensures.tangled c.in-Err-Tangled.stream c.in-Err-Tangled.at failed in
    inr (c.args.next, is, (_, refl, placed (taken c.args.log.now) c.in-Err-Tangled.stream _ c.in-Err-Tangled.at _ (sym c.in-Err-Tangled.stream-is) (sym c.in-Err-Tangled.at-is) stuck.0), stuck.1)

pub returns-clause-ready : goal.returns-clause-ready
returns-clause-ready g c = λ slots is.
    let tables = c.in-Ok.ensures.ok.tables in
    subst (λ (v : Checkpoint). IsReadyOf (record { log = c.args.log.now; slots = slots }) (record { slot = c.args.next.slot; value = v; text = c.in-Ok-checkpoint_text.text })) (sym c.checkpoint_at-value.ensures)
    (record {
      made = record { next = is; redone = c.in-Ok.ensures.ok; made = refl };
      writable = record {
        slot = c.requires.slot;
        low = c.requires.low;
        high = c.requires.high;
        tables = record { ascending = tables.ascending; present = tables.present };
        text = search rules;
      };
    })
