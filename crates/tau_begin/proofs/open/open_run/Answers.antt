use Rattle.std.proofs.Common.{ℕ, ◌≡◌, ◌≤◌, List, sym, subst, length, drop, arith}
use Rattle.tau_core.specs.declared.opening.Opening.{Opening}
use Rattle.tau_open.specs.Reopening.{AreRead, RefusesStart, Starting}
use Rattle.tau_open.proofs.Joined.{whole_again}
use Rattle.tau_begin.specs.Opened.{IsOpenRun, RefusesRun}
use Rattle.tau_begin.proofs.Opened.{are_sound, are_read, is_open, refused_start, start_rest, reading_refused}
use Rattle.tau_begin.proofs.open.open_run.Goals as goal

pub reopen_streams-requires-clause-sound : goal.reopen_streams-requires-clause-sound
reopen_streams-requires-clause-sound g c =
    let ready = c.in-Ok-begin_run.ensures.begun in
    let there : c.args.n ≤ length c.deref_mut.result.now = omega (arith, c.requires.there, c.deref_mut.ensures.len) in
    are_sound g.D.Disk c.args.format c.args.n c.args.text.now c.deref_mut.result.now c.begin_run.new.disks ready.sizes c.in-Ok-begin_run.starts.items ready.begun ready.count there ready.read

pub reopen_streams-requires-clause-read : goal.reopen_streams-requires-clause-read
reopen_streams-requires-clause-read g c tells =
    let ready = c.in-Ok-begin_run.ensures.begun in
    let there : c.args.n ≤ length c.deref_mut.result.now = omega (arith, c.requires.there, c.deref_mut.ensures.len) in
    let size : length c.begin_run.new.disks ≡ c.args.disks.now.len = omega (arith, c.begin_run.auto.disks, c.deref_mut.ensures.len) in
    subst (λ (ds : List g.row.D.Denot). AreRead g.D.Disk c.in-Ok-begin_run.starts.items ds) (sym (whole_again c.args.disks.now.len c.args.disks.now.items c.begin_run.new.disks size))
    (are_read g.D.Disk c.args.format c.args.n c.args.text.now c.deref_mut.result.now c.begin_run.new.disks ready.sizes c.in-Ok-begin_run.starts.items ready.begun ready.count there ready.read tells)

pub returns-in-Ok-reopen_streams-clause-opened : goal.returns-in-Ok-reopen_streams-clause-opened
returns-in-Ok-reopen_streams-clause-opened g c =
    let ready = c.in-Ok-begin_run.ensures.begun in
    let there : c.args.n ≤ length c.deref_mut.result.now = omega (arith, c.requires.there, c.deref_mut.ensures.len) in
    let size : length c.begin_run.new.disks ≡ c.args.disks.now.len = omega (arith, c.begin_run.auto.disks, c.deref_mut.ensures.len) in
    let new = c.reopen_streams.new.disks.items in
    let ws = c.in-Ok-reopen_streams.writers.items in
    let starts = c.in-Ok-begin_run.starts.items in
    subst (λ (ds : List g.row.D.Denot). IsOpenRun g.D.Disk c.args.format c.args.n c.args.text.now ds new c.in-Ok-begin_run.opening ws) c.deref_mut.ensures.value
    (subst (λ (o : Opening). IsOpenRun g.D.Disk c.args.format c.args.n c.args.text.now c.deref_mut.result.now new o ws) ready.opening
    (is_open g.D.Disk c.args.format c.args.n c.args.text.now c.deref_mut.result.now c.begin_run.new.disks ready.sizes starts ready.begun ready.count there ready.read new ws c.begin_run.ensures.rest
    (subst (λ (k : ℕ). Starting g.D.Disk starts k c.begin_run.new.disks new ws) c.in-Ok-begin_run.starts.ok.0
    (subst (λ (ds : List g.row.D.Denot). Starting g.D.Disk starts c.in-Ok-begin_run.starts.len ds new ws) (whole_again c.args.disks.now.len c.args.disks.now.items c.begin_run.new.disks size) c.in-Ok-reopen_streams.ensures.started))))

pub returns-in-Err-reopen_streams-clause-refused : goal.returns-in-Err-reopen_streams-clause-refused
returns-in-Err-reopen_streams-clause-refused g c =
    let ready = c.in-Ok-begin_run.ensures.begun in
    let there : c.args.n ≤ length c.deref_mut.result.now = omega (arith, c.requires.there, c.deref_mut.ensures.len) in
    let size : length c.begin_run.new.disks ≡ c.args.disks.now.len = omega (arith, c.begin_run.auto.disks, c.deref_mut.ensures.len) in
    let new = c.reopen_streams.new.disks.items in
    let starts = c.in-Ok-begin_run.starts.items in
    subst (λ (ds : List g.row.D.Denot). RefusesRun g.D.Disk c.args.format c.args.n c.args.text.now ds new c.refusal_of.result) c.deref_mut.ensures.value
    (refused_start g.D.Disk c.args.format c.args.n c.args.text.now c.deref_mut.result.now c.begin_run.new.disks ready.sizes starts ready.begun ready.count there ready.read new c.in-Err-reopen_streams.refusal c.refusal_of.result
    (subst (λ (ds : List g.row.D.Denot). RefusesStart g.D.Disk starts ds new c.in-Err-reopen_streams.refusal) (whole_again c.args.disks.now.len c.args.disks.now.items c.begin_run.new.disks size) c.in-Err-reopen_streams.ensures.refused)
    c.refusal_of.ensures.failed c.refusal_of.ensures.failed_only c.refusal_of.ensures.good)

pub returns-in-Err-reopen_streams-clause-rest : goal.returns-in-Err-reopen_streams-clause-rest
returns-in-Err-reopen_streams-clause-rest g c =
    let ready = c.in-Ok-begin_run.ensures.begun in
    let there : c.args.n ≤ length c.deref_mut.result.now = omega (arith, c.requires.there, c.deref_mut.ensures.len) in
    let size : length c.begin_run.new.disks ≡ c.args.disks.now.len = omega (arith, c.begin_run.auto.disks, c.deref_mut.ensures.len) in
    let new = c.reopen_streams.new.disks.items in
    let starts = c.in-Ok-begin_run.starts.items in
    subst (λ (ds : List g.row.D.Denot). drop c.args.n new ≡ drop c.args.n ds) c.deref_mut.ensures.value
    (start_rest g.D.Disk c.args.format c.args.n c.args.text.now c.deref_mut.result.now c.begin_run.new.disks ready.sizes starts ready.begun ready.count there ready.read new c.in-Err-reopen_streams.refusal
    (subst (λ (ds : List g.row.D.Denot). RefusesStart g.D.Disk starts ds new c.in-Err-reopen_streams.refusal) (whole_again c.args.disks.now.len c.args.disks.now.items c.begin_run.new.disks size) c.in-Err-reopen_streams.ensures.refused)
    c.begin_run.ensures.rest)

pub returns-in-Err-clause-refused : goal.returns-in-Err-clause-refused
returns-in-Err-clause-refused g c =
    let size : length c.begin_run.new.disks ≡ c.args.disks.now.len = omega (arith, c.begin_run.auto.disks, c.deref_mut.ensures.len) in
    subst (λ (ds : List g.row.D.Denot). RefusesRun g.D.Disk c.args.format c.args.n c.args.text.now c.args.disks.now.items ds c.in-Err.refusal) (sym (whole_again c.args.disks.now.len c.args.disks.now.items c.begin_run.new.disks size))
    (subst (λ (ds : List g.row.D.Denot). RefusesRun g.D.Disk c.args.format c.args.n c.args.text.now ds c.begin_run.new.disks c.in-Err.refusal) c.deref_mut.ensures.value
    (reading_refused g.D.Disk c.args.format c.args.n c.args.text.now c.deref_mut.result.now c.begin_run.new.disks c.in-Err.refusal c.in-Err.ensures.refused))
