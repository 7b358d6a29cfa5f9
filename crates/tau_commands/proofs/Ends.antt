-- How a command may end, by its causes.
use Rattle.std.proofs.Common.{ℕ, ◌≡◌, List, [], ◌∷◌, refl, sym, ap, ◌∙◌, inl, inr, true, arith, Bool, false}
use Rattle.tau_model.specs.History.{Member}
use Rattle.tau_scan.specs.declared.fault.LogFault.{LogFault}
use Rattle.tau_run.specs.RunFacts.{WroteFront}
use Rattle.tau_commands.specs.declared.status.Status.{Status}
use Rattle.tau_commands.specs.declared.status.Status.TheVariants as status
use Rattle.tau_commands.specs.Outside.{ends_recovery, ends_rehearsal}
use Rattle.tau_commands.specs.Ends.{wrote}
use Rattle.tau_commands.specs.Fault.{is_refusal}
use Rattle.tau_commands.specs.Sources.{is_of_source}

-- without a cause to end otherwise, a recovery ends well, and so does a run
pub recovers_well : (s : Status) → ends_recovery s ≡ true → (s ≡ status.WriteFault → ⊥) → ((j : ℕ) → s ≡ status.DiskFault j → ⊥) → ((fault : LogFault) → s ≡ status.BadLog fault → ⊥) →
    Member s (status.Ok ∷ status.NoMemory ∷ [])
recovers_well status.Ok kind sink disk bad = inl refl
recovers_well status.NoMemory kind sink disk bad = inr (inl refl)
recovers_well status.WriteFault kind sink disk bad = absurd (sink refl)
recovers_well (status.DiskFault j) kind sink disk bad = absurd (disk j refl)
recovers_well (status.BadLog fault) kind sink disk bad = absurd (bad fault refl)
recovers_well status.Usage kind sink disk bad = absurd (cc)
recovers_well (status.BadText at why) kind sink disk bad = absurd (cc)
recovers_well status.ReadFault kind sink disk bad = absurd (cc)
recovers_well status.TooLong kind sink disk bad = absurd (cc)
recovers_well (status.BadFeed at) kind sink disk bad = absurd (cc)
recovers_well (status.BadReport number) kind sink disk bad = absurd (cc)

pub nothing_told : (wrote : List ℕ → Type 0) (rose : Type 0) → WroteFront wrote rose [] → wrote []
nothing_told wrote rose (inl all) = all
nothing_told wrote rose (inr part) = absurd (let lt = part.1 in omega (arith, lt))

-- a recovery refuses no source
pub no_source : (a : Status) → ends_recovery a ≡ true → is_of_source a ≡ true → ⊥
no_source status.Ok kind e = cc e
no_source status.NoMemory kind e = cc e
no_source status.WriteFault kind e = cc e
no_source (status.DiskFault j) kind e = cc e
no_source (status.BadLog fault) kind e = cc e
no_source status.Usage kind e = cc kind
no_source (status.BadText at why) kind e = cc kind
no_source status.ReadFault kind e = cc kind
no_source status.TooLong kind e = cc kind
no_source (status.BadFeed at) kind e = cc kind
no_source (status.BadReport number) kind e = cc kind

pub other : (ends : Status → Bool) (a x : Status) → ends a ≡ true → ends x ≡ false → a ≡ x → ⊥
other ends a x kind none e = (let f : true ≡ false = sym kind ∙ ap ends e ∙ none in cc f)

pub rehearsal_ends : (s x : Status) → ends_rehearsal s ≡ true → ends_rehearsal x ≡ false → s ≡ x → {A : Type 0} → A
rehearsal_ends s x kind none e = absurd (let f : true ≡ false = sym kind ∙ ap ends_rehearsal e ∙ none in cc f)

pub rehearses_well : (s : Status) → ends_rehearsal s ≡ true → (s ≡ status.WriteFault → ⊥) → Member s (status.Ok ∷ status.NoMemory ∷ [])
rehearses_well status.Ok kind sink = inl refl
rehearses_well status.NoMemory kind sink = inr (inl refl)
rehearses_well status.WriteFault kind sink = absurd (sink refl)
rehearses_well (status.DiskFault j) kind sink = absurd (cc)
rehearses_well (status.BadLog fault) kind sink = absurd (cc)
rehearses_well status.Usage kind sink = absurd (cc)
rehearses_well (status.BadText at why) kind sink = absurd (cc)
rehearses_well status.ReadFault kind sink = absurd (cc)
rehearses_well status.TooLong kind sink = absurd (cc)
rehearses_well (status.BadFeed at) kind sink = absurd (cc)
rehearses_well (status.BadReport number) kind sink = absurd (cc)

pub no_refusal : (s : Status) → ends_rehearsal s ≡ true → is_refusal s ≡ true → ⊥
no_refusal status.Ok kind e = cc
no_refusal status.NoMemory kind e = cc
no_refusal status.WriteFault kind e = cc
no_refusal (status.DiskFault j) kind e = cc
no_refusal (status.BadLog fault) kind e = cc
no_refusal status.Usage kind e = cc
no_refusal (status.BadText at why) kind e = cc
no_refusal status.ReadFault kind e = cc
no_refusal status.TooLong kind e = cc
no_refusal (status.BadFeed at) kind e = cc
no_refusal (status.BadReport number) kind e = cc

-- a recovery may end so too
pub rehearsal_recovers : (a : Status) → ends_rehearsal a ≡ true → ends_recovery a ≡ true
rehearsal_recovers status.Ok kind = refl
rehearsal_recovers status.NoMemory kind = refl
rehearsal_recovers status.WriteFault kind = refl
rehearsal_recovers (status.DiskFault j) kind = absurd (cc kind)
rehearsal_recovers (status.BadLog fault) kind = absurd (cc kind)
rehearsal_recovers status.Usage kind = absurd (cc kind)
rehearsal_recovers (status.BadText at why) kind = absurd (cc kind)
rehearsal_recovers status.ReadFault kind = absurd (cc kind)
rehearsal_recovers status.TooLong kind = absurd (cc kind)
rehearsal_recovers (status.BadFeed at) kind = absurd (cc kind)
rehearsal_recovers (status.BadReport number) kind = absurd (cc kind)
