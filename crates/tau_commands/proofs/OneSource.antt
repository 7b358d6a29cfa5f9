-- The source of an audit holds one workload with one report, or is refused for one cause.
use Rattle.std.proofs.Common.{ℕ, ◌+◌, ◌^◌, ◌<◌, ◌≤◌, ◌≡◌, ◌==◌, ◌⊎◌, inl, inr, Bool, true, false, not, List, [], ◌∷◌, ◌++◌, length, Option, refl, sym, ap, subst, ◌∙◌, append_assoc, arith}
use Rattle.std.specs.Prelude.{Some, None, Ok, Err, Result, count_by}
use Rattle.std.specs.List.{list_all}
use Rattle.std.proofs.lemmas.Bool.Decides.{nat_tests}
use Rattle.std.proofs.lemmas.List.{append-nil, length-append}
use Rattle.tau_base.proofs.Logic.{below_or_not}
use Rattle.tau_base.specs.declared.limits.TheConstants.{MAX_STREAMS, MAX_WORKLOAD}
use Rattle.tau_text.specs.declared.fault.TextFault.{TextFault}
use Rattle.tau_text.specs.declared.load.Workload.{Workload}
use Rattle.tau_text.specs.Text.{workload_of}
use Rattle.tau_report.specs.declared.report.RunReport.{RunReport}
use Rattle.tau_inspect.specs.RunText.{AreLines, IsFirstBad, IsTextOf, MayBegin}
use Rattle.tau_inspect.proofs.Named.{names_are_known}
use Rattle.tau_inspect.proofs.OneReport.{report_one}
use Rattle.tau_words.specs.declared.command.Command.TheVariants.{Audit}
use Rattle.tau_commands.specs.declared.status.Status.{Status}
use Rattle.tau_commands.specs.declared.status.Status.TheVariants as status
use Rattle.tau_commands.specs.Cut.{cut_at_report}
use Rattle.tau_commands.specs.Sources.{HasReport, HasBadWorkload, HasBadReport, IsBadReport, RefusesSource, front_or, load_text}
use Rattle.tau_commands.proofs.First.{same_err, same_ok}

-- ---- the first bad line of a report

-- a text that another begins with
record Begins (a b x y : List ℕ) : Type 0 where
  more : List ℕ
  longer : b ≡ a ++ more
  rest : x ≡ more ++ y

begins : (a b x y : List ℕ) → a ++ x ≡ b ++ y → length a ≤ length b → Begins a b x y
begins [] b x y e le = record { more = b; longer = refl; rest = e }
begins (c ∷ a) [] x y e le = absurd (omega (arith, le))
begins (c ∷ a) (d ∷ b) x y e le =
    let head : c ≡ d = cc in
    let tail : a ++ x ≡ b ++ y = cc in
    let w = begins a b x y tail (omega (arith, le)) in
    record { more = w.more; longer = ap (λ (l : List ℕ). d ∷ l) w.longer ∙ ap (λ (k : ℕ). k ∷ a ++ w.more) (sym head); rest = w.rest }

-- the first line of a text that ends with byte 10
record FirstLine (text : List ℕ) : Type 0 where
  line : List ℕ
  rest : List ℕ
  is : text ≡ line ++ 10 ∷ rest
  one : list_all (λ b. not (b == 10)) line ≡ true

first_by : (b : ℕ) (front : List ℕ) (t : Bool) → (b == 10) ≡ t → FirstLine (front ++ 10 ∷ []) → FirstLine (b ∷ front ++ 10 ∷ [])
first_by b front true e w = (let same : b ≡ 10 = grind (arith, nat_tests) in record { line = []; rest = front ++ 10 ∷ []; is = ap (λ (c : ℕ). c ∷ front ++ 10 ∷ []) same; one = refl })
first_by b front false e w = record { line = b ∷ w.line; rest = w.rest; is = ap (λ (l : List ℕ). b ∷ l) w.is; one = rw (e, w.one) refl }

first_line : (front : List ℕ) → FirstLine (front ++ 10 ∷ [])
first_line [] = record { line = []; rest = []; is = refl; one = refl }
first_line (b ∷ front) = first_by b front (b == 10) refl (first_line front)

-- lines that go on after lines have a first one
ends_so : (a more : List ℕ) → (front : List ℕ) × (a ++ more ≡ front ++ 10 ∷ []) → 0 < length more → (front : List ℕ) × (more ≡ front ++ 10 ∷ [])
ends_so [] more (front, is) some = (front, is)
ends_so (c ∷ a) more ([], is) some = absurd (let long = ap length is in omega (arith, long, length-append a more, some))
ends_so (c ∷ a) more (d ∷ front, is) some = let tail : a ++ more ≡ front ++ 10 ∷ [] = cc in ends_so a more (front, tail) some

-- lines that are some have an end
ended : (a b : List ℕ) → AreLines b → length a < length b → (front : List ℕ) × (b ≡ front ++ 10 ∷ [])
ended a b (inl none) lt = absurd (let long = ap length none in omega (arith, long, lt))
ended a b (inr w) lt = w

none_left : (l : List ℕ) → length l ≡ 0 → l ≡ []
none_left [] e = refl
none_left (c ∷ l) e = absurd (omega (arith, e))

same_front : (a b x y : List ℕ) → Begins a b x y → length b ≤ length a → b ≡ a
same_front a b x y w ge = w.longer ∙ ap (λ (l : List ℕ). a ++ l) (none_left w.more (omega (arith, ge, ap length w.longer, length-append a w.more))) ∙ append-nil a

-- the first line after some lines that the text has and longer ones begin with
record NextLine (a b x y : List ℕ) : Type 0 where
  line : List ℕ
  rest : List ℕ
  one : list_all (λ b. not (b == 10)) line ≡ true
  back : x ≡ line ++ 10 ∷ (rest ++ y)
  front : b ≡ (a ++ line ++ 10 ∷ []) ++ rest

rest_of : (a b line rest : List ℕ) → a ++ (line ++ 10 ∷ rest) ≡ b → b ≡ (a ++ line ++ 10 ∷ []) ++ rest
rest_of a b line rest e = sym e ∙ sym (append_assoc a line (10 ∷ rest)) ∙ sym (append_assoc (a ++ line) (10 ∷ []) rest)

next_line : (a b x y : List ℕ) → a ++ x ≡ b ++ y → AreLines b → length a < length b → NextLine a b x y
next_line a b x y e lines lt = by (begins a b x y e (omega (arith, lt)))
  where
    by : Begins a b x y → NextLine a b x y
    by w =
        let some : 0 < length w.more = omega (arith, lt, ap length w.longer, length-append a w.more) in
        let end = ended a b lines lt in
        let last = ends_so a w.more (end.0, sym w.longer ∙ end.1) some in
        let first = first_line last.0 in
        record {
          line = first.line;
          rest = first.rest;
          one = first.one;
          back = w.rest ∙ ap (λ (l : List ℕ). l ++ y) (last.1 ∙ first.is) ∙ append_assoc first.line (10 ∷ first.rest) y;
          front = rest_of a b first.line first.rest (sym (w.longer ∙ ap (λ (l : List ℕ). a ++ l) (last.1 ∙ first.is)));
        }

module _ (tables : List (List ℕ)) (n calls : ℕ) (bytes : List ℕ) where
  -- a text of a run that begins with more begins with less
  begins_less : (a b : List ℕ) → MayBegin tables n calls (a ++ b) → MayBegin tables n calls a
  begins_less a b m = record { report = m.report; failed = m.failed; rest = b ++ m.rest; text = subst (λ (l : List ℕ). IsTextOf tables n calls m.report m.failed l) (append_assoc a b m.rest) m.text }

  not_before : (i j : ℕ) (a : IsFirstBad tables n calls bytes i) (b : IsFirstBad tables n calls bytes j) → length a.front < length b.front → ⊥
  not_before i j a b lt =
      let w = next_line a.front b.front a.back b.back (sym a.there ∙ b.there) b.whole lt in
      a.bad w.line (w.rest ++ b.back) w.back w.one (begins_less (a.front ++ w.line ++ 10 ∷ []) w.rest (subst (λ (l : List ℕ). MayBegin tables n calls l) w.front b.begins))

  pub one_bad : (i j : ℕ) → IsFirstBad tables n calls bytes i → IsFirstBad tables n calls bytes j → i ≡ j
  one_bad i j a b = elim (below_or_not (length a.front) (length b.front)) [
    | inl lt ↦ absurd (not_before i j a b lt)
    | inr ge ↦ elim (below_or_not (length b.front) (length a.front)) [
      | inl lt ↦ absurd (not_before j i b a lt)
      | inr le ↦ (
          let same : b.front ≡ a.front = same_front a.front b.front a.back b.back (begins a.front b.front a.back b.back (sym a.there ∙ b.there) le) ge in
          a.counted ∙ ap (λ (l : List ℕ). count_by (λ b. b == 10) l + 1) (sym same) ∙ sym b.counted)
    ]
  ]

-- ---- workloads

no_load : (read : Result Workload TextFault) (load : Workload) (fault : TextFault) → read ≡ Ok load → read ≡ Err fault → ⊥
no_load read load fault one other = (let f : Ok load ≡ Err fault = sym one ∙ other in cc f)

one_load : (read : Result Workload TextFault) (a b : Workload) → read ≡ Ok a → read ≡ Ok b → a ≡ b
one_load read a b one other = same_ok read a b one other

one_fault : (read : Result Workload TextFault) (a b : TextFault) → read ≡ Err a → read ≡ Err b → a ≡ b
one_fault read a b one other = same_err read a b one other

one_cut : (o : Option (List ℕ × List ℕ)) (a b : List ℕ × List ℕ) → o ≡ Some a → o ≡ Some b → a ≡ b
one_cut o a b one other = (let f : Some a ≡ Some b = sym one ∙ other in cc f)

-- ---- one report

pub load_of : (n : ℕ) (text : List ℕ) (load : Workload) (report : RunReport) → HasReport n text load report → workload_of (load_text text) ≡ Ok load
load_of n text load report h = ap (λ (o : Option (List ℕ × List ℕ)). workload_of (front_or text o)) h.cut ∙ h.read

pub same_loads : (n : ℕ) (text : List ℕ) (a b : Workload) (r q : RunReport) → HasReport n text a r → HasReport n text b q → a ≡ b
same_loads n text a b r q one other = one_load (workload_of (load_text text)) a b (load_of n text a r one) (load_of n text b q other)

pub same_reports : (n : ℕ) (text : List ℕ) (load : Workload) (r q : RunReport) → n ≤ MAX_STREAMS → length load.calls < 2 ^ 32 → HasReport n text load r → HasReport n text load q → r ≡ q
same_reports n text load r q few small one other =
    let cut = one_cut (cut_at_report text) (one.front, one.behind) (other.front, other.behind) one.cut other.cut in
    let behind : one.behind ≡ other.behind = ap (λ (c : List ℕ × List ℕ). c.1) cut in
    let told : IsTextOf load.declarations.tables n (length load.calls) r one.failed other.behind = subst (λ (l : List ℕ). IsTextOf load.declarations.tables n (length load.calls) r one.failed l) behind one.told in
    (report_one load.declarations.tables n (length load.calls) (names_are_known one.front load one.read) few small other.behind r q one.failed other.failed told other.told).0

-- ---- one refusal

-- why the source of an audit is refused, by the answer
Cause : ℕ → List ℕ → Status → Type 0
Cause n text answer = ((answer ≡ status.TooLong) × (MAX_WORKLOAD < length text)) ⊎ (((fault : TextFault) × (answer ≡ status.BadText fault.line fault.cause) × HasBadWorkload text fault) ⊎ ((number : ℕ) × (answer ≡ status.BadReport number) × HasBadReport n text number))

cause_of : (n m : ℕ) (text : List ℕ) (answer : Status) → RefusesSource (Some (Audit n m)) text answer → Cause n text answer
unfolding Cause
cause_of n m text status.TooLong r = inl (refl, r)
cause_of n m text (status.BadText line why) r = inr (inl (record { line = line; cause = why }, refl, r))
cause_of n m text (status.BadReport number) r = inr (inr (number, refl, r))
cause_of n m text status.Ok r = absurd r
cause_of n m text status.NoMemory r = absurd r
cause_of n m text status.Usage r = absurd r
cause_of n m text status.ReadFault r = absurd r
cause_of n m text status.WriteFault r = absurd r
cause_of n m text (status.DiskFault j) r = absurd r
cause_of n m text (status.BadLog fault) r = absurd r
cause_of n m text (status.BadFeed at) r = absurd r

long_not : (text : List ℕ) → MAX_WORKLOAD < length text → length text ≤ MAX_WORKLOAD → ⊥
long_not text long within = omega (arith, long, within)

bad_reports : (n : ℕ) (load : Workload) (cut : Option (List ℕ × List ℕ)) (i j : ℕ) → IsBadReport n load cut i → IsBadReport n load cut j → i ≡ j
bad_reports n load None i j a b = a ∙ sym b
bad_reports n load (Some cut) i j a b = one_bad load.declarations.tables n (length load.calls) cut.1 i j a b

same_bad : (n : ℕ) (text : List ℕ) (i j : ℕ) → HasBadReport n text i → HasBadReport n text j → i ≡ j
same_bad n text i j a b =
    let load : a.load ≡ b.load = one_load (workload_of (load_text text)) a.load b.load a.read b.read in
    bad_reports n b.load (cut_at_report text) i j (subst (λ (l : Workload). IsBadReport n l (cut_at_report text) i) load a.bad) b.bad

same_cause : (n : ℕ) (text : List ℕ) (a b : Status) → Cause n text a → Cause n text b → a ≡ b
unfolding Cause
same_cause n text a b (inl x) (inl y) = x.0 ∙ sym y.0
same_cause n text a b (inl x) (inr (inl y)) = absurd (long_not text x.1 y.2.0)
same_cause n text a b (inl x) (inr (inr y)) = absurd (long_not text x.1 y.2.within)
same_cause n text a b (inr (inl x)) (inl y) = absurd (long_not text y.1 x.2.0)
same_cause n text a b (inr (inr x)) (inl y) = absurd (long_not text y.1 x.2.within)
same_cause n text a b (inr (inl x)) (inr (inl y)) =
    let fault : x.0 ≡ y.0 = one_fault (workload_of (load_text text)) x.0 y.0 x.2.1 y.2.1 in
    x.1 ∙ ap (λ (f : TextFault). status.BadText f.line f.cause) fault ∙ sym y.1
same_cause n text a b (inr (inl x)) (inr (inr y)) = absurd (no_load (workload_of (load_text text)) y.2.load x.0 y.2.read x.2.1)
same_cause n text a b (inr (inr x)) (inr (inl y)) = absurd (no_load (workload_of (load_text text)) x.2.load y.0 x.2.read y.2.1)
same_cause n text a b (inr (inr x)) (inr (inr y)) = x.1 ∙ ap (λ (k : ℕ). status.BadReport k) (same_bad n text x.0 y.0 x.2 y.2) ∙ sym y.1

pub one_refusal : (n m : ℕ) (text : List ℕ) (a b : Status) → RefusesSource (Some (Audit n m)) text a → RefusesSource (Some (Audit n m)) text b → a ≡ b
one_refusal n m text a b r q = same_cause n text a b (cause_of n m text a r) (cause_of n m text b q)

-- a source that has a report is not refused
no_cause : (n : ℕ) (text : List ℕ) (load : Workload) (report : RunReport) (a : Status) → HasReport n text load report → Cause n text a → ⊥
unfolding Cause
no_cause n text load report a h (inl x) = long_not text x.1 h.within
no_cause n text load report a h (inr (inl x)) = no_load (workload_of (load_text text)) load x.0 (load_of n text load report h) x.2.1
no_cause n text load report a h (inr (inr x)) =
    let same : x.2.load ≡ load = one_load (workload_of (load_text text)) x.2.load load x.2.read (load_of n text load report h) in
    let bad = subst (λ (c : Option (List ℕ × List ℕ)). IsBadReport n x.2.load c x.0) h.cut x.2.bad in
    let here : IsFirstBad load.declarations.tables n (length load.calls) h.behind x.0 = subst (λ (l : Workload). IsFirstBad l.declarations.tables n (length l.calls) h.behind x.0) same bad in
    here.none report h.failed h.told

pub not_refused : (n m : ℕ) (text : List ℕ) (load : Workload) (report : RunReport) (a : Status) → HasReport n text load report → RefusesSource (Some (Audit n m)) text a → ⊥
not_refused n m text load report a h r = no_cause n text load report a h (cause_of n m text a r)
