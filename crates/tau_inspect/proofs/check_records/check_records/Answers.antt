-- One record after the other fits, or one does not.
use Rattle.std.proofs.Common.{ℕ, Bool, ◌+◌, ◌<◌, ◌≡◌, ◌++◌, ◌∷◌, [], List, length, take, get_or, map, sym, ap, subst, ◌∙◌, arith}
use Rattle.std.proofs.lemmas.Bool.{both_ways}
use Rattle.std.proofs.lemmas.List.{take_more, map-append}
use Rattle.tau_scan.specs.Taken.{Kept}
use Rattle.tau_inspect.specs.Audit.{Case, records, FitsRecord}
use Rattle.tau_inspect.specs.ByNumber.{HasFlags}
use Rattle.tau_inspect.proofs.Firsts.{fit_more, unfit_here}
use Rattle.tau_inspect.specs.Cases.{in_case}
use Rattle.tau_inspect.proofs.check_records.check_records.Goals as goal

pub loop-i-preserved : goal.loop-i-preserved
loop-i-preserved c =
    let k : Case = (in_case c.args.case.now) in let i : ℕ = c.loop-i.i in let one : Kept = c.index-all-i.result in
    let is : one ≡ get_or (records k) i one = c.index-all-i.is ∙ ap (λ (l : List Kept). get_or l i one) c.requires.all in
    let lt : i < length (records k) = omega (arith, c.loop-i-test.true, ap length c.requires.all) in
    let numbers : map (λ (r : Kept). r.number) (take i (records k)) ++ c.number-in-loop-i.result ∷ [] ≡ map (λ (r : Kept). r.number) (take (i + 1) (records k)) =
    ap (λ (n : ℕ). map (λ (r : Kept). r.number) (take i (records k)) ++ n ∷ []) c.number-in-loop-i.ensures
    ∙ ap (λ (r : Kept). map (λ (q : Kept). q.number) (take i (records k)) ++ r.number ∷ []) is
    ∙ sym (map-append (λ (r : Kept). r.number) (take i (records k)) (get_or (records k) i one ∷ [])) ∙ ap (λ (l : List Kept). map (λ (r : Kept). r.number) l) (sym (take_more (records k) i one lt)) in
    let flags : HasFlags (length c.args.case.now.load.now.calls) (map (λ (r : Kept). r.number) (take i (records k))) c.deref.result.now = subst (λ (l : List Bool). HasFlags (length c.args.case.now.load.now.calls) (map (λ (r : Kept). r.number) (take i (records k))) l) (sym c.deref.ensures.value) c.loop-i.invariant.seen in
    record {
      fit = fit_more (FitsRecord k) (records k) i one lt is c.loop-i.invariant.fit ((c.fits_record.ensures (take i (records k)) flags).0 c.if-not-fits_record.false);
      seen = subst (λ (l : List ℕ). HasFlags (length c.args.case.now.load.now.calls) l c.flag.new.flags.items) numbers (c.flag.ensures (length c.args.case.now.load.now.calls) (map (λ (r : Kept). r.number) (take i (records k))) c.loop-i.invariant.seen);
    }

pub returns-then-not-fits_record : goal.returns-then-not-fits_record
returns-then-not-fits_record c =
    let k : Case = (in_case c.args.case.now) in let i : ℕ = c.loop-i.i in let one : Kept = c.index-all-i.result in
    let is : one ≡ get_or (records k) i one = c.index-all-i.is ∙ ap (λ (l : List Kept). get_or l i one) c.requires.all in
    let lt : i < length (records k) = omega (arith, c.loop-i-test.true, ap length c.requires.all) in
    let flags : HasFlags (length c.args.case.now.load.now.calls) (map (λ (r : Kept). r.number) (take i (records k))) c.deref.result.now = subst (λ (l : List Bool). HasFlags (length c.args.case.now.load.now.calls) (map (λ (r : Kept). r.number) (take i (records k))) l) (sym c.deref.ensures.value) c.loop-i.invariant.seen in
    unfit_here (FitsRecord k) (λ (r : Kept). r.number) (records k) i one c.number.result lt is c.loop-i.invariant.fit
    (λ h. both_ways c.fits_record.result c.if-not-fits_record.true ((c.fits_record.ensures (take i (records k)) flags).1 h)) (sym c.number.ensures)
