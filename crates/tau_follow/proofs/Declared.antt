-- What is declared stays declared.
use Rattle.std.proofs.Common.{ℕ, suc, ◌≡◌, List, [], ◌∷◌, ◌++◌, length, map, Option, Some, None, Result, Ok, refl, sym, ap, subst, ◌∙◌, ◌⊎◌, inl, inr}
use Rattle.tau_base.specs.declared.format.Format.{Format}
use Rattle.tau_model.specs.History.{Member}
use Rattle.tau_record.specs.declared.entry.Placed.{Placed}
use Rattle.tau_scan.specs.declared.fault.LogFault.{LogFault}
use Rattle.tau_scan.specs.Reading.{catalogue_of, catalogue_in}
use Rattle.tau_scan.specs.Taken.{Kept, kept_in, kept_from}
use Rattle.tau_epoch_laws.proofs.Records.{no_catalogue}
use Rattle.tau_epoch_laws.proofs.Contents.{catalogue_ok, catalogue_there, catalogues_kept}
use Rattle.tau_follow_laws.specs.Fed.{fronts_of}
use Rattle.tau_follow_laws.specs.Following.{Followed, with_read}
use Rattle.tau_follow_laws.specs.Feeding.{Piece, with_piece, HasFed}
use Rattle.tau_follow_laws.proofs.GoesOn.{fronts_from, one_more, front_is}
use Rattle.tau_follow_laws.proofs.Order.{applies_is}
use Rattle.tau_follow_laws.proofs.Follows.{is_good}
use Rattle.tau_follow.proofs.Fed.{Read}

-- each stream that has a record begins with a catalogue
abbrev Begin : List (List Placed) → Type 0
Begin [] = Unit {0}
Begin (ps ∷ streams) = (catalogue_of ps ≡ None → ps ≡ []) × Begin streams

begin_from : (f : Format) (n j : ℕ) (fed : List (List ℕ)) (streams : List (List Placed)) → fronts_from f n j fed ≡ Ok streams → Begin streams
begin_from f n j [] streams e = subst Begin (let same : [] ≡ streams = cc in same) tt
begin_from f n j (b ∷ fed) streams e =
    let one = one_more f n j b fed streams e in
    let front = front_is f n b one.0 one.2 in
    subst Begin one.4 (no_catalogue f n front.front one.0 front.read, begin_from f n (suc j) fed one.1 one.3)

all_begin : (f : Format) (fed : List (List ℕ)) (streams : List (List Placed)) → fronts_of f fed ≡ Ok streams → Begin streams
unfolding fronts_of
all_begin f fed streams e = begin_from f (length fed) 0 fed streams e

none_kept : (j : ℕ) (streams : List (List Placed)) → Begin streams → ((t : List ℕ) → Member (Some t) (map catalogue_of streams) → ⊥) → kept_from j streams ≡ []
none_kept j [] b none = refl
none_kept j (ps ∷ streams) b none =
    ap (λ (qs : List Placed). kept_in j qs ++ kept_from (suc j) streams) (b.0 (by_text (catalogue_of ps) refl)) ∙ none_kept (suc j) streams b.1 (λ t m. none t (inr m))
  where
    by_text : (o : Option (List ℕ)) → catalogue_of ps ≡ o → o ≡ None
    by_text None e = refl
    by_text (Some t) e = absurd (none t (inl e))

none_member : (order : List Kept) → ((r : Kept) → Member r order → ⊥) → order ≡ []
none_member [] none = refl
none_member (r ∷ rs) none = absurd (none r (inl refl))

-- what was declared once a record was applied is declared then
pub procs_on : (f : Format) (n : ℕ) (fed : List (List ℕ)) (s : Followed) (p : Piece) (streams : List (List Placed)) (c d : Option (List ℕ)) → Read f n fed s p streams → catalogue_in s.streams ≡ Ok c → catalogue_in streams ≡ Ok d →
    (s.order ≡ []) ⊎ (c ≡ d)
unfolding catalogue_in
procs_on f n fed s p streams (Some t) d w e g =
    let there = catalogues_kept s.streams w.more streams w.grown t (catalogue_there 0 (map catalogue_of s.streams) t e) in
    inr (sym (catalogue_ok 0 (map catalogue_of streams) d g t there))
procs_on f n fed s p streams None d w e g =
    let none = none_kept 0 s.streams (all_begin f fed s.streams w.before) (λ t m. (let f = catalogue_ok 0 (map catalogue_of s.streams) None e t m in absurd (cc f))) in
    inl (none_member s.order (λ r m. absurd (subst (λ (l : List Kept). Member r l) none (w.order_read r m))))

-- and the one catalogue is that of what is read then
pub one_then : (f : Format) (fed : List (List ℕ)) (p : Piece) (s t : Followed) (streams : List (List Placed)) (d : Option (List ℕ)) → fronts_of f (with_piece fed p) ≡ Ok streams → catalogue_in streams ≡ Ok d → HasFed f (with_piece fed p) s t → catalogue_in t.streams ≡ Ok d
one_then f fed p s t streams d e g h =
    let good = is_good f (with_piece fed p) s.order h.streams h.read in
    let same : streams ≡ h.streams = streams_is streams h.streams (sym e ∙ good.fronts) in
    ap catalogue_in ((applies_is (with_read s h.streams) t h.news h.applies).0 ∙ sym same) ∙ g
  where
    streams_is : (x y : List (List Placed)) → ◌≡◌ {A = Result (List (List Placed)) LogFault} (Ok x) (Ok y) → x ≡ y
    streams_is x y e = cc

pub streams_then : (f : Format) (fed : List (List ℕ)) (s t : Followed) (streams : List (List Placed)) → fronts_of f fed ≡ Ok streams → HasFed f fed s t → t.streams ≡ streams
streams_then f fed s t streams e h =
    let good = is_good f fed s.order h.streams h.read in
    (applies_is (with_read s h.streams) t h.news h.applies).0 ∙ sym (streams_is streams h.streams (sym e ∙ good.fronts))
  where
    streams_is : (x y : List (List Placed)) → ◌≡◌ {A = Result (List (List Placed)) LogFault} (Ok x) (Ok y) → x ≡ y
    streams_is x y e = cc

pub order_then : (f : Format) (fed : List (List ℕ)) (s t : Followed) (h : HasFed f fed s t) → t.order ≡ s.order ++ h.news
order_then f fed s t h = (applies_is (with_read s h.streams) t h.news h.applies).2
