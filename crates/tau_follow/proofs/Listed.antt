-- A follower, as its callers see it.
use Rattle.std.proofs.Common.{ℕ, ◌≡◌, ◌⊎◌, inl, inr, List, Option, None, Some, Result, Ok, Err, refl, subst}
use Rattle.tau_base.specs.Database.{Db}
use Rattle.tau_base.specs.declared.value.Key.{Key}
use Rattle.tau_base.specs.declared.value.Value.{Value}
use Rattle.tau_model.specs.Tables.{IsTablesOf}
use Rattle.tau_scan.specs.Reading.{catalogue_in, declared_in, declared_by}
use Rattle.tau_follow_laws.specs.Following.{Followed}
use Rattle.tau_scan.specs.declared.fault.LogFault.{LogFault}
use Rattle.tau_follow.specs.declared.refusal.FollowRefusal.{FollowRefusal}
use Rattle.tau_follow.specs.declared.refusal.FollowRefusal.TheVariants as refusals
use Rattle.tau_follow.specs.Applying.{redone_of}
use Rattle.tau_follow.specs.Follower.{applied_db}

applied_is : (s : Followed) (c : Option (List ℕ)) → catalogue_in s.streams ≡ Ok c → redone_of (declared_by c).procs s.order ≡ applied_db s
unfolding declared_in
applied_is s c e = rw e refl

pub applied_tables : (s : Followed) (c : Option (List ℕ)) (rows : List (Key × Value)) → catalogue_in s.streams ≡ Ok c → IsTablesOf (redone_of (declared_by c).procs s.order) rows → IsTablesOf (applied_db s) rows
applied_tables s c rows e h = subst (λ (x : Db). IsTablesOf x rows) (applied_is s c e) h

pub refused_is : (a b : LogFault) → ◌≡◌ {A = Result (Unit {0}) FollowRefusal} (Err (refusals.Bad a)) (Err (refusals.Bad b)) → a ≡ b
refused_is a b e = cc

-- the refusal that is returned
pub told_is : (a b : FollowRefusal) → ◌≡◌ {A = Result (Unit {0}) FollowRefusal} (Err a) (Err b) → a ≡ b
told_is a b e = cc

-- it has failed, or not
pub failed_or : (failed : Option LogFault) → (failed ≡ None) ⊎ ((fault : LogFault) × (failed ≡ Some fault))
failed_or None = inl refl
failed_or (Some fault) = inr (fault, refl)
