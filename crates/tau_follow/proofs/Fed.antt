-- One feed more.
use Rattle.std.proofs.Common.{ℕ, false, ◌≡◌, List, [], ◌∷◌, ◌++◌, Result, Ok, Err, refl, sym, ap, subst, ◌∙◌, arith, slice_index}
use Rattle.tau_base.specs.declared.format.Format.{Format}
use Rattle.tau_model.specs.History.{Member}
use Rattle.tau_record.specs.declared.entry.Placed.{Placed}
use Rattle.tau_scan.specs.declared.fault.LogFault.{LogFault}
use Rattle.tau_scan.specs.declared.fault.LogRefusal.{LogRefusal}
use Rattle.tau_scan.specs.declared.fault.LogRefusal.TheVariants as refusals
use Rattle.tau_scan.specs.Taken.{Kept, kept_from}
use Rattle.tau_epoch_laws.specs.Continues.{Grown}
use Rattle.tau_follow_laws.specs.Fed.{fronts_of}
use Rattle.tau_follow_laws.specs.Following.{Followed, is_among, left_out}
use Rattle.tau_follow_laws.specs.Feeding.{Piece, with_piece, read_now, HasFed, Feeds, IsFollower}
use Rattle.tau_follow_laws.proofs.GoesOn.{extends_piece, fronts_grow}
use Rattle.tau_follow_laws.proofs.Follows.{follower_following, follower_out, is_good, in_time}
use Rattle.tau_follow.specs.declared.stage.Stage.{Stage}
use Rattle.tau_follow.specs.Applying.{ArePassed}

-- what a follower knows once the bytes are read
pub record Read (f : Format) (n : ℕ) (fed : List (List ℕ)) (s : Followed) (p : Piece) (streams : List (List Placed)) : Type 0 where
  pub before : fronts_of f fed ≡ Ok s.streams
  pub after : fronts_of f (with_piece fed p) ≡ Ok streams
  pub more : List (List Placed)
  pub grown : Grown s.streams more streams
  pub out_read : (r : Kept) → Member r s.out → Member r (kept_from 0 s.streams)
  pub order_read : (r : Kept) → Member r s.order → Member r (kept_from 0 s.streams)
  pub apart : (r : Kept) → Member r s.order → is_among s.out r ≡ false

pub reads : (f : Format) (n : ℕ) (fed : List (List ℕ)) (s : Followed) (p : Piece) (streams : List (List Placed)) → IsFollower f n fed s → fronts_of f (with_piece fed p) ≡ Ok streams → Read f n fed s p streams
reads f n fed s p streams h after =
    let k = follower_following f n fed s h in
    let g = fronts_grow f fed (with_piece fed p) s.streams streams (extends_piece fed p) k.fronts after in
    record {
      before = k.fronts;
      after = after;
      more = g.0;
      grown = g.1;
      out_read = follower_out f n fed s h;
      order_read = k.kept.read;
      apart = k.kept.in_time;
    }

-- no record that was applied is among those that are left out
pub still_in_time : (f : Format) (fed : List (List ℕ)) (order : List Kept) (streams : List (List Placed)) → read_now f fed order ≡ Ok streams → (r : Kept) → Member r order → is_among (left_out streams) r ≡ false
still_in_time f fed order streams e = in_time streams order (is_good f fed order streams e).late

feeds_on : (f : Format) (fed now : List (List ℕ)) (s m t : Followed) (pieces : List Piece) (p : Piece) → Feeds f fed s pieces now m → HasFed f (with_piece now p) m t → Feeds f fed s (pieces ++ p ∷ []) (with_piece now p) t
feeds_on f fed now s m t [] p h g =
    (t, subst (λ (z : List (List ℕ)). HasFed f (with_piece z p) s t) h.0 (subst (λ (z : Followed). HasFed f (with_piece now p) z t) h.1 g), (ap (λ (z : List (List ℕ)). with_piece z p) h.0, refl))
feeds_on f fed now s m t (q ∷ pieces) p h g = (h.0, h.1, feeds_on f (with_piece fed q) now h.0 m t pieces p h.2 g)

pub feeds_one : (f : Format) (n : ℕ) (fed : List (List ℕ)) (s t : Followed) (p : Piece) → IsFollower f n fed s → HasFed f (with_piece fed p) s t → IsFollower f n (with_piece fed p) t
feeds_one f n fed s t p h g = (h.0 ++ p ∷ [], feeds_on f _ fed _ s t h.0 p h.1 g)

pub none_passed : (stages : List (List Stage)) (firsts : List ℕ) → ((j : ℕ) → slice_index firsts j ≡ 0) → ArePassed stages firsts
none_passed stages firsts z j i ss st e g lt = let zero_there = z j in absurd (omega (arith, lt, zero_there))

pub refusal_is : {A : Type 0} (e : LogRefusal) (fault : LogFault) → ◌≡◌ {A = Result A LogRefusal} (Err e) (Err (refusals.Bad fault)) → e ≡ refusals.Bad fault
refusal_is e fault g = cc

abbrev pub all_read : List (List Placed) → Result (List (List Placed)) LogFault
all_read x = Ok x

pub fronts_as : (f : Format) (fed : List (List ℕ)) (p : Piece) (streams same : List (List Placed)) → same ≡ streams → fronts_of f (with_piece fed p) ≡ Ok streams → fronts_of f (with_piece fed p) ≡ Ok same
fronts_as f fed p streams same e h = h ∙ ap all_read (sym e)
