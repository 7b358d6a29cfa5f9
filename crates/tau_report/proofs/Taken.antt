-- The lines of taken records, one record or stream more at a time.
use Rattle.std.proofs.Common.{ℕ, suc, ◌≡◌, ◌+◌, ◌<◌, List, ◌++◌, drop, length, sym, ap, ◌∙◌, append_assoc, add-one, drop-cons, get_or}
use Rattle.std.specs.List.{filter}
use Rattle.std.proofs.lemmas.Grind.{flat_map-append}
use Rattle.tau_base.specs.Vectors.{covers}
use Rattle.tau_record.specs.declared.entry.Placed.{Placed}
use Rattle.tau_record.specs.Record.{epoch_after}
use Rattle.tau_scan.specs.Taken.{Kept, kept_as, taken_in, taken_from}
use Rattle.tau_report.specs.Recovery.{taken_line, taken_lines}

pub record_more : (judge : ℕ → List ℕ) (j k : ℕ) (ps : List Placed) (i : ℕ) (d : Placed) → i < length ps →
    taken_lines (taken_in judge j k (drop i ps))
    ≡ taken_lines (filter (λ (r : Kept). covers (judge k) r.place.dep) (kept_as j (get_or ps i d) (get_or ps i d).entry)) ++ taken_lines (taken_in judge j (epoch_after k (get_or ps i d).entry) (drop (i + 1) ps))
record_more judge j k ps i d lt =
    rw add-one (ap (λ (qs : List Placed). taken_lines (taken_in judge j k qs)) (drop-cons ps i d lt)
    ∙ flat_map-append taken_line (filter (λ (r : Kept). covers (judge k) r.place.dep) (kept_as j (get_or ps i d) (get_or ps i d).entry)) (taken_in judge j (epoch_after k (get_or ps i d).entry) (drop (suc i) ps)))

pub stream_more : (judge : ℕ → List ℕ) (streams : List (List Placed)) (i : ℕ) (d : List Placed) → i < length streams →
    taken_lines (taken_from judge i (drop i streams)) ≡ taken_lines (taken_in judge i 0 (get_or streams i d)) ++ taken_lines (taken_from judge (i + 1) (drop (i + 1) streams))
stream_more judge streams i d lt =
    rw add-one (ap (λ (ps : List (List Placed)). taken_lines (taken_from judge i ps)) (drop-cons streams i d lt)
    ∙ flat_map-append taken_line (taken_in judge i 0 (get_or streams i d)) (taken_from judge (suc i) (drop (suc i) streams)))

pub added : (whole text line new rest left : List ℕ) → whole ≡ text ++ rest → rest ≡ line ++ left → new ≡ text ++ line → whole ≡ new ++ left
added whole text line new rest left was more is = was ∙ ap (λ (xs : List ℕ). text ++ xs) more ∙ sym (append_assoc text line left) ∙ ap (λ (xs : List ℕ). xs ++ left) (sym is)
