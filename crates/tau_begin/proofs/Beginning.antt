-- What is known of a log from which a run can go on.
use Rattle.std.proofs.Common.{ℕ, zero, suc, ◌≡◌, ◌+◌, ◌<◌, List, [], ◌∷◌, refl, sym, ap, subst, ◌∙◌, true, false, length, arith}
use Rattle.std.specs.Prelude.{Bool, Option, Some, None, ◌&&◌, ◌^◌, slice_get, slice_index, if◌then◌else◌}
use Rattle.std.proofs.lemmas.Bool.Decides.{nat_tests}
use Rattle.tau_base.specs.declared.limits.TheConstants.{MAX_LSN}
use Rattle.tau_base.proofs.Logic.{some_is}
use Rattle.tau_block.specs.declared.content.Content.{Content}
use Rattle.tau_record.specs.declared.entry.Placed.{Placed}
use Rattle.tau_record.specs.Content.{anchors_of}
use Rattle.tau_record.specs.Vector.{ArePlaces}
use Rattle.tau_scan.specs.declared.fault.LogFault.{LogFault}
use Rattle.tau_scan.specs.declared.log.Log.{Log}
use Rattle.tau_scan.specs.Begins.{begins_fault, declared_fault, long_fault, is_long, last_fault}
use Rattle.tau_scan.specs.Contents.{bytes_in}
use Rattle.tau_scan.specs.Reading.{or_else}
use Rattle.tau_epoch.specs.Epochs.{largest}
use Rattle.tau_scan.specs.Epochs.{marks_of}
use Rattle.tau_scan.specs.declared.fault.LogCause.TheVariants as cause
use Rattle.tau_begin.specs.Given.{all_empty, is_empty, next_epoch}

or_none : (a b : Option LogFault) → or_else a b ≡ None → (a ≡ None) × (b ≡ None)
or_none None b is = (refl, is)
or_none (Some fault) b is = absurd cc

short_of : (size : ℕ) (ps : List Placed) → is_long size ps ≡ false → length (anchors_of ps) < 2 ^ 32
short_of size ps is = grind (arith, nat_tests, is)

long_case : (size from : ℕ) (qs ps : List Placed) (rest : Option LogFault) (b : Bool) → is_long size qs ≡ b → (if is_long size qs then Some (record { stream = from; cause = cause.Long size }) else rest) ≡ None → (b ≡ false) × (rest ≡ None)
long_case size from qs ps rest true is none =
    let e : Some (record { stream = from; cause = cause.Long size }) ≡ None = sym (ap (λ (b : Bool). if b then Some (record { stream = from; cause = cause.Long size }) else rest) is) ∙ none in
    absurd (cc e)
long_case size from qs ps rest false is none = (refl, sym (ap (λ (b : Bool). if b then Some (record { stream = from; cause = cause.Long size }) else rest) is) ∙ none)

not_long : (sizes : List ℕ) (streams : List (List Placed)) (from : ℕ) → long_fault from sizes streams ≡ None → length sizes ≡ length streams → (j : ℕ) (ps : List Placed) → slice_get streams j ≡ Some ps → length (anchors_of ps) < 2 ^ 32
not_long sizes [] from none many j ps at = absurd cc
not_long [] (qs ∷ streams) from none many j ps at = absurd (omega (arith, many))
not_long (size ∷ sizes) (qs ∷ streams) from none many zero ps at =
    let two = long_case size from qs ps (long_fault (suc from) sizes streams) (is_long size qs) refl none in
    subst (λ (xs : List Placed). length (anchors_of xs) < 2 ^ 32) (some_is qs ps at) (short_of size qs two.0)
not_long (size ∷ sizes) (qs ∷ streams) from none many (suc j) ps at =
    let two = long_case size from qs ps (long_fault (suc from) sizes streams) (is_long size qs) refl none in
    not_long sizes streams (suc from) two.1 (omega (arith, many)) j ps at

pub few_anchors : (text sizes : List ℕ) (log : Log) → begins_fault text sizes log ≡ None → length sizes ≡ length log.streams → (j : ℕ) (ps : List Placed) → slice_get log.streams j ≡ Some ps → length (anchors_of ps) < 2 ^ 32
few_anchors text sizes log none many j ps at =
    let rest = (or_none (declared_fault text 0 log.streams) (or_else (long_fault 0 sizes log.streams) (last_fault log.streams)) none).1 in
    not_long sizes log.streams 0 (or_none (long_fault 0 sizes log.streams) (last_fault log.streams) rest).0 many j ps at

nothing_is : (xs : List ℕ) → is_empty xs ≡ true → xs ≡ []
nothing_is [] is = refl
nothing_is (x ∷ xs) is = absurd cc

and_both : (a b : Bool) → (a && b) ≡ true → (a ≡ true) × (b ≡ true)
and_both true b is = (refl, is)
and_both false b is = absurd cc

each_empty : (contents : List Content) → all_empty (bytes_in contents) ≡ true → (j : ℕ) (c : Content) → slice_get contents j ≡ Some c → c.bytes ≡ []
each_empty [] none j c at = absurd cc
each_empty (x ∷ contents) none zero c at = subst (λ (z : Content). z.bytes ≡ []) (some_is x c at) (nothing_is x.bytes (and_both (is_empty x.bytes) (all_empty (bytes_in contents)) none).0)
each_empty (x ∷ contents) none (suc j) c at = each_empty contents (and_both (is_empty x.bytes) (all_empty (bytes_in contents)) none).1 j c at

-- a run without an epoch begins on empty contents
pub none_before : (contents : List Content) (log : Log) (epoch : ℕ) → epoch ≡ next_epoch (bytes_in contents) log → epoch ≡ 0 → (j : ℕ) (c : Content) → slice_get contents j ≡ Some c → c.bytes ≡ []
none_before contents log epoch is none = by_case (all_empty (bytes_in contents)) refl
  where
    by_case : (b : Bool) → all_empty (bytes_in contents) ≡ b → (j : ℕ) (c : Content) → slice_get contents j ≡ Some c → c.bytes ≡ []
    by_case true all = each_empty contents all
    by_case false not =
        let some : epoch ≡ largest (marks_of log) + 1 = is ∙ ap (λ (b : Bool). if b then 0 else largest (marks_of log) + 1) not in
        absurd (omega (arith, some, none))

pub all_places : (v : List ℕ) → ((k : ℕ) → slice_index v k < MAX_LSN) → ArePlaces v
all_places [] low = tt
all_places (x ∷ v) low = (low 0, all_places v (λ k. low (suc k)))
