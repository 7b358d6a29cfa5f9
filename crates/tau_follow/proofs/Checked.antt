-- What the checks of all that is read say together.
use Rattle.std.proofs.Common.{ℕ, ◌≡◌, List, Option, Some, None, Result, Ok, Err, ap, ◌∙◌}
use Rattle.tau_base.specs.declared.format.Format.{Format}
use Rattle.tau_record.specs.declared.entry.Placed.{Placed}
use Rattle.tau_scan.specs.declared.fault.LogFault.{LogFault}
use Rattle.tau_scan.specs.Reading.{◌>>=◌, unless, or_else, catalogue_in, epoch_fault}
use Rattle.tau_scan.specs.Taken.{Kept}
use Rattle.tau_follow_laws.specs.Fed.{fronts_of}
use Rattle.tau_follow_laws.specs.Feeding.{late_in, read_now}

-- ---- the texts of all streams

-- ---- what is read now

abbrev all_read : List (List Placed) → Result (List (List Placed)) LogFault
all_read x = Ok x

abbrev is_bad : LogFault → Result (List (List Placed)) LogFault
is_bad x = Err x

module _ (f : Format) (fed : List (List ℕ)) (order : List Kept) (streams : List (List Placed)) (fronts : fronts_of f fed ≡ Ok streams) where
  now_is : read_now f fed order ≡ (catalogue_in streams >>= λ c. unless (or_else (epoch_fault streams) (late_in streams order)) streams)
  now_is = ap (λ (r : Result (List (List Placed)) LogFault). r >>= λ xs. (catalogue_in xs >>= λ c. unless (or_else (epoch_fault xs) (late_in xs order)) xs)) fronts

  judged_is : (c : Option (List ℕ)) → catalogue_in streams ≡ Ok c → read_now f fed order ≡ unless (or_else (epoch_fault streams) (late_in streams order)) streams
  judged_is c e = now_is ∙ ap (λ (r : Result (Option (List ℕ)) LogFault). r >>= λ z. unless (or_else (epoch_fault streams) (late_in streams order)) streams) e

  pub bad_catalogue : (fault : LogFault) → catalogue_in streams ≡ Err fault → read_now f fed order ≡ Err fault
  bad_catalogue fault e = now_is ∙ ap (λ (r : Result (Option (List ℕ)) LogFault). r >>= λ z. unless (or_else (epoch_fault streams) (late_in streams order)) streams) e

  pub bad_epoch : (c : Option (List ℕ)) (fault : LogFault) → catalogue_in streams ≡ Ok c → epoch_fault streams ≡ Some fault → read_now f fed order ≡ Err fault
  bad_epoch c fault e g = judged_is c e ∙ ap (λ (o : Option LogFault). unless (or_else o (late_in streams order)) streams) g

  pub is_late : (c : Option (List ℕ)) (fault : LogFault) → catalogue_in streams ≡ Ok c → epoch_fault streams ≡ None → late_in streams order ≡ Some fault → read_now f fed order ≡ Err fault
  is_late c fault e g l = judged_is c e ∙ ap (λ (o : Option LogFault). unless (or_else o (late_in streams order)) streams) g ∙ ap (λ (o : Option LogFault). unless o streams) l

  pub all_good : (c : Option (List ℕ)) → catalogue_in streams ≡ Ok c → epoch_fault streams ≡ None → late_in streams order ≡ None → read_now f fed order ≡ Ok streams
  all_good c e g l = judged_is c e ∙ ap (λ (o : Option LogFault). unless (or_else o (late_in streams order)) streams) g ∙ ap (λ (o : Option LogFault). unless o streams) l

-- a bad record is bad before all else
pub bad_record : (f : Format) (fed : List (List ℕ)) (order : List Kept) (fault : LogFault) → fronts_of f fed ≡ Err fault → read_now f fed order ≡ Err fault
bad_record f fed order fault e = ap (λ (r : Result (List (List Placed)) LogFault). r >>= λ xs. (catalogue_in xs >>= λ c. unless (or_else (epoch_fault xs) (late_in xs order)) xs)) e

-- ---- zeros
