use Rattle.std.proofs.Common.{◌≡◌, ◌≤◌, ℕ, List, [], Option, Some, None, ◌∙◌, ap, false, length, refl, sym, subst, true, arith}
use Rattle.std.specs.Prelude.{IsNone, is_some, IfOk, Ok, Err, Result}
use Rattle.std.specs.Result.{result_ok}
use Rattle.std.specs.Option.{unwrap_or}
use Rattle.tau_base.specs.declared.format.Format.{Format}
use Rattle.tau_base.specs.declared.format.Format.TheVariants.{One, Two}
use Rattle.tau_base.specs.Modes.{same_format}
use Rattle.tau_disk.specs.Replay.{leaves, replayed, opened}
use Rattle.tau_disk.proofs.Images.{image_synced}
use Rattle.tau_block.specs.declared.content.Content.{Content}
use Rattle.tau_disk.specs.declared.memory.MemDisk.{MemDisk}
use Rattle.tau_disk.specs.Memory.{seen_by, state_of}
use Rattle.tau_block.specs.Image.{IfBorn, IsLog, count_in, format_in, index_in}
use Rattle.tau_stream.specs.Stream.{IsSettled}
use Rattle.tau_stream.proofs.Heads.{is_head}
use Rattle.tau_stream_runs.proofs.reopen.reopened.Goals as goal

-- what holds of a result that is good holds of what was taken out of it
took : {T E : Type 0} (P : T → Type 0) (r : Result T E) (x : T) → Some x ≡ result_ok r → IfOk r P → P x
took P (Ok y) x is p = let same : Some x ≡ Some y = is in let it : y ≡ x = cc in subst P it p
took P (Err e) x is p = absurd (let bad : Some x ≡ None = is in cc)

one_format : (f g : Format) → same_format f g ≡ true → f ≡ g
one_format One One same = refl
one_format One Two same = absurd (let bad : false ≡ true = same in cc)
one_format Two One same = absurd (let bad : false ≡ true = same in cc)
one_format Two Two same = refl

-- the log of a stream whose header names it
log_as : (f : Format) (n j : ℕ) (format : Option Format) (count : Option ℕ) (image bytes : List ℕ) (gate_at : ℕ) → unwrap_or format f ≡ f → unwrap_or count n ≡ n → is_some count ≡ true → (IsNone format → IsNone count) →
    IfBorn format count (λ g m. IsLog g m j image gate_at bytes) → IsLog f n j image gate_at bytes
log_as f n j (Some g) (Some m) image bytes gate_at formats counts some stated is =
    subst (λ (h : Format). IsLog h n j image gate_at bytes) formats (subst (λ (k : ℕ). IsLog g k j image gate_at bytes) counts is)
log_as f n j (Some g) None image bytes gate_at formats counts some stated is = absurd (let bad : false ≡ true = some in cc)
log_as f n j None (Some m) image bytes gate_at formats counts some stated is = absurd (let bad : true ≡ false = stated refl in cc)
log_as f n j None None image bytes gate_at formats counts some stated is = absurd (let bad : false ≡ true = some in cc)

-- what is settled of a stream is settled of the one that its header names
named_by : (f : Format) (n j : ℕ) (head : List ℕ) → format_in head ≡ f → (count_in head ≡ n) × (index_in head ≡ j) → (file : List ℕ) (may_leave : List ℕ → Type 0) (gate_at : ℕ) (content : List ℕ) →
    IsSettled f n j file may_leave gate_at content → IsSettled (format_in head) (count_in head) (index_in head) file may_leave gate_at content
named_by f n j head formats names file may_leave gate_at content is =
    subst (λ (g : Format). IsSettled g (count_in head) (index_in head) file may_leave gate_at content) (sym formats)
    (subst (λ (m : ℕ). IsSettled f m (index_in head) file may_leave gate_at content) (sym names.0)
    (subst (λ (i : ℕ). IsSettled f n i file may_leave gate_at content) (sym names.1) is))

pub reopen-requires-clause-head : goal.reopen-requires-clause-head
reopen-requires-clause-head c =
    is_head c.args.named.format c.args.named.streams c.args.named.index c.head_of.result (omega (arith, c.most_streams-most.ensures)) (omega arith) c.head_of.ensures.bytes c.head_of.ensures.format c.head_of.ensures.names

pub reopen-requires-clause-read : goal.reopen-requires-clause-read
reopen-requires-clause-read c = λ tells.
    let disk = c.in_ok-disk.disk in
    let content = c.in_ok-content.content in
    let f = c.args.named.format in
    let n = c.args.named.streams in
    let j = c.args.named.index in
    let head = c.head_of.result in
    let given = c.in_ok-content.ensures.value in
    let made = c.in_ok-disk.ensures.value in
    let stated = took (λ (x : Content). (IsNone x.format → IsNone x.count) × (IsNone x.count → IsNone x.format)) c.contents_of.result content given c.contents_of.ensures.stated in
    let gate = took (λ (x : Content). IfBorn x.format x.count (λ g m. IsLog g m j c.args.image.now x.gate_at x.bytes)) c.contents_of.result content given c.contents_of.ensures.gate in
    let short = took (λ (x : Content). IsNone x.count → (x.bytes ≡ []) × (length c.args.image.now ≤ 17)) c.contents_of.result content given c.contents_of.ensures.short in
    let holds = took (λ (d : MemDisk). seen_by d ≡ c.args.image.now) c.of_image.result disk made c.of_image.ensures.holds in
    let synced = took (λ (d : MemDisk). state_of d ≡ opened c.args.image.now) c.of_image.result disk made c.of_image.ensures.synced in
    let left_of_disk = leaves (replayed (opened disk.first.items) disk.calls.items) in
    let seen : disk.seen.items ≡ c.args.image.now = holds in
    let counts : unwrap_or content.count n ≡ n = sym c.unwrap_or-count.ensures ∙ c.if-count-streams.false in
    let formats : unwrap_or content.format f ≡ f = sym c.unwrap_or-format.ensures ∙ one_format c.unwrap_or-format.result f (sym c.same_format.ensures ∙ c.if-not-same_format.false) in
    record {
      settled = λ some.
          named_by f n j head c.head_of.ensures.format c.head_of.ensures.names disk.seen.items left_of_disk content.gate_at content.bytes
          (record {
            log = subst (λ (l : List ℕ). IsLog f n j l content.gate_at content.bytes) (sym seen)
                (log_as f n j content.format content.count c.args.image.now content.bytes content.gate_at formats counts some stated.0 gate);
            only = λ x left. image_synced c.args.image.now x (subst (λ s. leaves s x) synced left) ∙ sym seen;
          });
      unborn = λ none. omega (arith, ap length seen, (short none).1);
    }
