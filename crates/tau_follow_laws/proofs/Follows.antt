-- A follower is kept through every feed.
use Rattle.std.proofs.Common.{ℕ, true, false, ◌≡◌, inl, inr, List, [], ◌∷◌, replicate, Option, Some, None, Result, Ok, refl, sym, ap, subst, ◌∙◌}
use Rattle.std.specs.List.{filter}
use Rattle.std.proofs.lemmas.Bool.{cases_Bool}
use Rattle.tau_base.specs.declared.format.Format.{Format}
use Rattle.tau_model.specs.History.{Member}
use Rattle.tau_record.specs.declared.entry.Placed.{Placed}
use Rattle.tau_scan.specs.declared.fault.LogFault.{LogFault}
use Rattle.tau_scan.specs.Reading.{◌>>=◌, unless, or_else, catalogue_in, epoch_fault}
use Rattle.tau_scan.specs.Epochs.{marks_from}
use Rattle.tau_scan.specs.Taken.{Kept, kept_from}
use Rattle.tau_epoch_laws.proofs.Parts.{in_either}
use Rattle.tau_epoch_laws.specs.Continues.{Grown}
use Rattle.tau_follow_laws.specs.Fed.{fronts_of}
use Rattle.tau_follow_laws.specs.Following.{Followed, is_among, is_left_out, left_out, with_read, begun}
use Rattle.tau_follow_laws.specs.Feeding.{late_at, late_in, read_now, HasFed, Piece, with_piece, Feeds, IsFollower}
use Rattle.tau_follow_laws.specs.Laws.{AppliedInOrder}
use Rattle.tau_follow_laws.proofs.Kept.{member_kept, kept_grown, chosen_are, all_kept}
use Rattle.tau_follow_laws.proofs.Among.{among_member, member_among}
use Rattle.tau_follow_laws.proofs.Order.{IsKept, read_keeps, applies_is, applies_keep, begun_kept, in_order}
use Rattle.tau_follow_laws.proofs.GoesOn.{extends_piece, fronts_grow, fronts_stand, fronts_none, bind_ok}

-- ---- what a good feed says

abbrev done : List (List Placed) → Result (List (List Placed)) LogFault
done x = Ok x

done_is : (x y : List (List Placed)) → done x ≡ done y → x ≡ y
done_is x y e = cc

unless_ok : (o : Option LogFault) (x y : List (List Placed)) → unless o x ≡ Ok y → (o ≡ None) × (x ≡ y)
unless_ok None x y e = (refl, done_is x y e)
unless_ok (Some fault) x y e = absurd cc

neither : (o p : Option LogFault) → or_else o p ≡ None → (o ≡ None) × (p ≡ None)
neither None p e = (refl, e)
neither (Some fault) p e = absurd cc

pub record IsGood (f : Format) (fed : List (List ℕ)) (order : List Kept) (streams : List (List Placed)) : Type 0 where
  pub fronts : fronts_of f fed ≡ Ok streams
  pub catalogue : (c : Option (List ℕ)) × (catalogue_in streams ≡ Ok c)
  pub epochs : epoch_fault streams ≡ None
  pub late : late_in streams order ≡ None

pub is_good : (f : Format) (fed : List (List ℕ)) (order : List Kept) (streams : List (List Placed)) → read_now f fed order ≡ Ok streams → IsGood f fed order streams
is_good f fed order streams e =
    let checked : List (List Placed) → Result (List (List Placed)) LogFault = λ xs. unless (or_else (epoch_fault xs) (late_in xs order)) xs in
    let a = bind_ok (fronts_of f fed) (λ xs. catalogue_in xs >>= λ c. checked xs) streams e in
    let b = bind_ok (catalogue_in a.0) (λ c. checked a.0) streams a.2 in
    let u = unless_ok (or_else (epoch_fault a.0) (late_in a.0 order)) a.0 streams b.2 in
    let both = neither (epoch_fault a.0) (late_in a.0 order) u.0 in
    subst (IsGood f fed order) u.1 (record { fronts = a.1; catalogue = (b.0, b.1); epochs = both.0; late = both.1 })

none_late : (rs : List Kept) → late_at rs ≡ None → rs ≡ []
none_late [] e = refl
none_late (r ∷ rs) e = absurd cc

-- no applied record is left out
pub in_time : (streams : List (List Placed)) (order : List Kept) → late_in streams order ≡ None → (r : Kept) → Member r order → is_among (left_out streams) r ≡ false
in_time streams order e r m = elim (cases_Bool (is_among (left_out streams) r)) [
  | inl t ↦
      let w = among_member (left_out streams) r.place.stream r.place.start t in
      let there : is_among order w.0 ≡ true = member_among order w.0.place.stream w.0.place.start r m (sym w.2) (sym w.3) in
      let found = member_kept (is_among order) w.0 (left_out streams) w.1 there in
      absurd (subst (λ (l : List Kept). Member w.0 l) (none_late (filter (is_among order) (left_out streams)) e) found)
  | inr f ↦ f
]

-- ---- feed after feed

-- what is known of a follower that was fed these bytes
pub record IsFollowing (f : Format) (fed : List (List ℕ)) (s : Followed) : Type 0 where
  pub kept : IsKept s
  pub fronts : fronts_of f fed ≡ Ok s.streams

pub begun_following : (f : Format) (n : ℕ) → IsFollowing f (replicate n []) (begun n)
begun_following f n = record { kept = begun_kept n; fronts = fronts_none f n }

-- once the streams are read, before anything is applied
pub read_kept : (f : Format) (fed : List (List ℕ)) (p : Piece) (s t : Followed) → IsFollowing f fed s → (h : HasFed f (with_piece fed p) s t) → ((more : List (List Placed)) × Grown s.streams more h.streams) × IsKept (with_read s h.streams)
read_kept f fed p s t k h =
    let good = is_good f (with_piece fed p) s.order h.streams h.read in
    let more = fronts_grow f fed (with_piece fed p) s.streams h.streams (extends_piece fed p) k.fronts good.fronts in
    (more, read_keeps s more.0 h.streams k.kept more.1 (fronts_stand f (with_piece fed p) h.streams good.fronts) (in_time h.streams s.order good.late))

pub fed_following : (f : Format) (fed : List (List ℕ)) (p : Piece) (s t : Followed) → IsFollowing f fed s → HasFed f (with_piece fed p) s t → IsFollowing f (with_piece fed p) t
fed_following f fed p s t k h =
    let good = is_good f (with_piece fed p) s.order h.streams h.read in
    let now = read_kept f fed p s t k h in
    record {
      kept = applies_keep (with_read s h.streams) t h.news now.1 h.applies;
      fronts = good.fronts ∙ ap done (sym (applies_is (with_read s h.streams) t h.news h.applies).0);
    }

pub feeds_following : (f : Format) (fed now : List (List ℕ)) (s t : Followed) (pieces : List Piece) → IsFollowing f fed s → Feeds f fed s pieces now t → IsFollowing f now t
feeds_following f fed now s t [] k h = subst (λ (z : Followed). IsFollowing f now z) (sym h.1) (subst (λ (z : List (List ℕ)). IsFollowing f z s) (sym h.0) k)
feeds_following f fed now s t (p ∷ pieces) k h = feeds_following f (with_piece fed p) now h.0 t pieces (fed_following f fed p s h.0 k h.1) h.2

pub follower_following : (f : Format) (n : ℕ) (fed : List (List ℕ)) (s : Followed) → IsFollower f n fed s → IsFollowing f fed s
follower_following f n fed s h = feeds_following f (replicate n []) fed (begun n) s h.0 (begun_following f n) h.1

pub applied_in_order : AppliedInOrder
applied_in_order f n fed s h = in_order s (follower_following f n fed s h).kept

-- ---- what is left out was read

abbrev pub OutRead : Followed → Type 0
OutRead s = (r : Kept) → Member r s.out → Member r (kept_from 0 s.streams)

fed_out : (f : Format) (fed : List (List ℕ)) (p : Piece) (s t : Followed) → IsFollowing f fed s → HasFed f (with_piece fed p) s t → OutRead s → OutRead t
fed_out f fed p s t k h o r m =
    let now = read_kept f fed p s t k h in
    let is = applies_is (with_read s h.streams) t h.news h.applies in
    let there : Member r (kept_from 0 h.streams) = (elim (in_either r s.out (left_out h.streams) (subst (λ (l : List Kept). Member r l) is.1 m)) [
      | inl old ↦ kept_grown s.streams now.0.0 h.streams now.0.1 r (o r old)
      | inr new ↦ let w = chosen_are (is_left_out (marks_from h.streams)) 0 h.streams r new in all_kept 0 h.streams (w.0, r) w.1
    ]) in
    subst (λ (l : List (List Placed)). Member r (kept_from 0 l)) (sym is.0) there

feeds_out : (f : Format) (fed now : List (List ℕ)) (s t : Followed) (pieces : List Piece) → IsFollowing f fed s → OutRead s → Feeds f fed s pieces now t → OutRead t
feeds_out f fed now s t [] k o h = subst OutRead (sym h.1) o
feeds_out f fed now s t (p ∷ pieces) k o h = feeds_out f (with_piece fed p) now h.0 t pieces (fed_following f fed p s h.0 k h.1) (fed_out f fed p s h.0 k h.1 o) h.2

pub follower_out : (f : Format) (n : ℕ) (fed : List (List ℕ)) (s : Followed) → IsFollower f n fed s → OutRead s
follower_out f n fed s h = feeds_out f (replicate n []) fed (begun n) s h.0 (begun_following f n) (λ r m. absurd m) h.1
