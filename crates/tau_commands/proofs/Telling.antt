-- What a follower tells of its pieces is told in one way.
use Rattle.std.proofs.Common.{ℕ, ◌≡◌, ◌⊎◌, inl, inr, List, [], ◌∷◌, ◌++◌, length, replicate, Result, Ok, Err, refl, sym, ◌∙◌, ap, subst, append_assoc}
use Rattle.std.proofs.lemmas.List.{append-nil}
use Rattle.tau_base.specs.declared.format.Format.{Format}
use Rattle.tau_base.specs.declared.value.Key.{Key}
use Rattle.tau_base.specs.declared.value.Value.{Value}
use Rattle.tau_record.specs.declared.entry.Placed.{Placed}
use Rattle.tau_scan.specs.declared.fault.LogFault.{LogFault}
use Rattle.tau_scan.specs.declared.log.Log.{Log}
use Rattle.tau_scan.specs.Reading.{log_of_contents}
use Rattle.tau_replay.proofs.Tangles.{tangled_alike, tangled_has_no_order}
use Rattle.tau_replay.specs.Redone.{IsTangledAt, IsRedone}
use Rattle.tau_follow_laws.specs.Following.{Followed, begun}
use Rattle.tau_follow_laws.specs.Feeding.{read_now, HasFed, Piece, with_piece, IsFollower}
use Rattle.tau_follow.proofs.Fed.{feeds_one}
use Rattle.tau_follow.specs.Sealing.{IsNoLog, cut_short, stuck, tangled}
use Rattle.tau_commands.specs.Following.{applied_line, fed_format, FeedsTold, FedTold, IsFollowed, IsFedBad, IsBadFollowed}
use Rattle.tau_commands.proofs.Alike.{Alike, alike_itself, fed_alike, count_alike, read_same}

-- ---- one more piece

abbrev lined : List ℕ → Followed → List ℕ
lined lines t = lines ++ applied_line (length t.order)

pub told_more : (f : Format) (fed now : List (List ℕ)) (s t u : Followed) (pieces : List Piece) (p : Piece) (lines : List ℕ) → FeedsTold f fed s pieces lines now t → HasFed f (with_piece now p) t u →
    FeedsTold f fed s (pieces ++ p ∷ []) (lined lines u) (with_piece now p) u
told_more f fed now s t u [] p lines h g = (
  u,
  [],
  subst (λ (z : List (List ℕ)). HasFed f (with_piece z p) s u) h.1 (subst (λ (z : Followed). HasFed f (with_piece now p) z u) h.2 g),
  ap (λ (l : List ℕ). lined l u) h.0 ∙ sym (append-nil (applied_line (length u.order))),
  (refl, ap (λ (z : List (List ℕ)). with_piece z p) h.1, refl),
)
told_more f fed now s t u (q ∷ pieces) p lines h g = (
  h.0,
  lined h.1 u,
  h.2,
  ap (λ (l : List ℕ). lined l u) h.3 ∙ append_assoc (applied_line (length (h.0).order)) h.1 (applied_line (length u.order)),
  told_more f (with_piece fed q) now h.0 t u pieces p h.1 h.4 g,
)

pub begun_follower : (f : Format) (n : ℕ) → IsFollower f n (replicate n []) (begun n)
begun_follower f n = ([], (refl, refl))

-- ---- a feed that is bad, from the first piece on

abbrev FeedsBad : Format → List (List ℕ) → Followed → List Piece → LogFault → List ℕ → Type 0
FeedsBad f fed s [] fault lines = ⊥
FeedsBad f fed s (p ∷ pieces) fault lines = ((read_now f (with_piece fed p) s.order ≡ Err fault) × (lines ≡ []))
    ⊎ ((m : Followed) × (more : List ℕ) × HasFed f (with_piece fed p) s m × (lines ≡ applied_line (length m.order) ++ more) × FeedsBad f (with_piece fed p) m pieces fault more)

feeds_bad : (f : Format) (fed now : List (List ℕ)) (s t : Followed) (before after : List Piece) (p : Piece) (fault : LogFault) (lines : List ℕ) → FeedsTold f fed s before lines now t → read_now f (with_piece now p) t.order ≡ Err fault →
    FeedsBad f fed s (before ++ p ∷ after) fault lines
feeds_bad f fed now s t [] after p fault lines h e =
    inl (ap (λ (z : List (List ℕ)). read_now f (with_piece z p) s.order) (sym h.1) ∙ ap (λ (z : Followed). read_now f (with_piece now p) z.order) (sym h.2) ∙ e, h.0)
feeds_bad f fed now s t (q ∷ before) after p fault lines h e = inr (h.0, h.1, h.2, h.3, feeds_bad f (with_piece fed q) now h.0 t before after p fault h.1 h.4 e)

fed_bad : (n : ℕ) (pieces : List Piece) (fault : LogFault) (lines : List ℕ) → IsFedBad n pieces fault lines → FeedsBad (fed_format n) (replicate n []) (begun n) pieces fault lines
fed_bad n pieces fault lines b =
    subst (λ (l : List Piece). FeedsBad (fed_format n) (replicate n []) (begun n) l fault lines) (sym b.pieces_are)
    (feeds_bad (fed_format n) (replicate n []) b.fed (begun n) b.state b.before b.after b.piece fault lines b.told b.bad)

fault_is : (a b : LogFault) → ◌≡◌ {A = Result (List (List Placed)) LogFault} (Err a) (Err b) → a ≡ b
fault_is a b e = cc

good_is_bad : (x : List (List Placed)) (a : LogFault) → ◌≡◌ {A = Result (List (List Placed)) LogFault} (Ok x) (Err a) → ⊥
good_is_bad x a e = cc

-- ---- two tellings of the same pieces

pub record OneTelling (lines words : List ℕ) (now other : List (List ℕ)) (u v : Followed) : Type 0 where
  pub text : lines ≡ words
  pub fed : now ≡ other
  pub alike : Alike u v

module _ (f : Format) (n : ℕ) where
  abbrev line_alike : (fed : List (List ℕ)) (s t : Followed) (lines words : List ℕ) → IsFollower f n fed s → IsFollower f n fed t → Alike s t → lines ≡ words → applied_line (length s.order) ++ lines ≡ applied_line (length t.order) ++ words
  line_alike fed s t lines words a b same e =
      ap (λ (k : ℕ). applied_line k ++ lines) (count_alike f n fed s t a b same) ∙ ap (λ (l : List ℕ). applied_line (length t.order) ++ l) e

  one_telling : (fed now other : List (List ℕ)) (s t u v : Followed) (pieces : List Piece) (lines words : List ℕ) → IsFollower f n fed s → IsFollower f n fed t → Alike s t →
      FeedsTold f fed s pieces lines now u → FeedsTold f fed t pieces words other v → OneTelling lines words now other u v
  one_telling fed now other s t u v [] lines words a b same h g =
      record {
        text = h.0 ∙ sym g.0;
        fed = h.1 ∙ sym g.1;
        alike = subst (λ (z : Followed). Alike z v) (sym h.2) (subst (λ (z : Followed). Alike s z) (sym g.2) same);
      }
  one_telling fed now other s t u v (p ∷ pieces) lines words a b same h g =
      let one = feeds_one f n fed s h.0 p a h.2 in
      let two = feeds_one f n fed t g.0 p b g.2 in
      let then = fed_alike f n fed s t h.0 g.0 p a b same h.2 g.2 in
      let rest = one_telling (with_piece fed p) now other h.0 g.0 u v pieces h.1 g.1 one two then h.4 g.4 in
      record { text = h.3 ∙ line_alike (with_piece fed p) h.0 g.0 h.1 g.1 one two then rest.text ∙ sym g.3; fed = rest.fed; alike = rest.alike }

  one_fault : (fed : List (List ℕ)) (s t : Followed) (pieces : List Piece) (fault other : LogFault) (lines words : List ℕ) → IsFollower f n fed s → IsFollower f n fed t → Alike s t →
      FeedsBad f fed s pieces fault lines → FeedsBad f fed t pieces other words → (fault ≡ other) × (lines ≡ words)
  one_fault fed s t [] fault other lines words a b same h g = absurd h
  one_fault fed s t (p ∷ pieces) fault other lines words a b same (inl h) (inl g) =
      (fault_is fault other (sym h.0 ∙ read_same f (with_piece fed p) s.order t.order same.order ∙ g.0), h.1 ∙ sym g.1)
  one_fault fed s t (p ∷ pieces) fault other lines words a b same (inl h) (inr g) =
      absurd (good_is_bad g.2.streams fault (sym g.2.read ∙ sym (read_same f (with_piece fed p) s.order t.order same.order) ∙ h.0))
  one_fault fed s t (p ∷ pieces) fault other lines words a b same (inr h) (inl g) =
      absurd (good_is_bad h.2.streams other (sym h.2.read ∙ read_same f (with_piece fed p) s.order t.order same.order ∙ g.0))
  one_fault fed s t (p ∷ pieces) fault other lines words a b same (inr h) (inr g) =
      let one = feeds_one f n fed s h.0 p a h.2 in
      let two = feeds_one f n fed t g.0 p b g.2 in
      let then = fed_alike f n fed s t h.0 g.0 p a b same h.2 g.2 in
      let rest = one_fault (with_piece fed p) h.0 g.0 pieces fault other h.1 g.1 one two then h.4 g.4 in
      (rest.0, h.3 ∙ line_alike (with_piece fed p) h.0 g.0 h.1 g.1 one two then rest.1 ∙ sym g.3)

  never_both : (fed now : List (List ℕ)) (s t v : Followed) (pieces : List Piece) (fault : LogFault) (lines words : List ℕ) → IsFollower f n fed s → IsFollower f n fed t → Alike s t →
      FeedsBad f fed s pieces fault lines → FeedsTold f fed t pieces words now v → ⊥
  never_both fed now s t v [] fault lines words a b same h g = h
  never_both fed now s t v (p ∷ pieces) fault lines words a b same (inl h) g =
      good_is_bad g.2.streams fault (sym g.2.read ∙ sym (read_same f (with_piece fed p) s.order t.order same.order) ∙ h.0)
  never_both fed now s t v (p ∷ pieces) fault lines words a b same (inr h) g =
      never_both (with_piece fed p) now h.0 g.0 v pieces fault h.1 g.1 (feeds_one f n fed s h.0 p a h.2) (feeds_one f n fed t g.0 p b g.2) (fed_alike f n fed s t h.0 g.0 p a b same h.2 g.2) h.4 g.4

-- ---- the end

log_is : (a b : Log) → ◌≡◌ {A = Result Log LogFault} (Ok a) (Ok b) → a ≡ b
log_is a b e = cc

no_log_is : (a b : LogFault) → ◌≡◌ {A = Result Log LogFault} (Err a) (Err b) → a ≡ b
no_log_is a b e = cc

log_is_none : (a : Log) (b : LogFault) → ◌≡◌ {A = Result Log LogFault} (Ok a) (Err b) → ⊥
log_is_none a b e = cc

one_end : (f : Format) (fed : List (List ℕ)) (fault other : LogFault) → IsNoLog f fed fault → IsNoLog f fed other → fault ≡ other
one_end f fed fault other (cut_short a) (cut_short b) = no_log_is fault other (sym a.cause ∙ b.cause)
one_end f fed fault other (cut_short a) (stuck log j at reads is tangle) = absurd (log_is_none log fault (sym reads ∙ a.cause))
one_end f fed fault other (stuck log j at reads is tangle) (cut_short b) = absurd (log_is_none log other (sym reads ∙ b.cause))
one_end f fed fault other (stuck log j at reads is tangle) (stuck log2 k at2 reads2 is2 tangle2) =
    let same : log2 ≡ log = log_is log2 log (sym reads2 ∙ reads) in
    let place = tangled_alike log j at k at2 tangle (subst (λ (l : Log). IsTangledAt l k at2) same tangle2) in
    is ∙ ap (λ (i : ℕ). tangled i at) place.0 ∙ ap (λ (i : ℕ). tangled k i) place.1 ∙ sym is2

module _ (n : ℕ) (pieces : List Piece) where
  abbrev nothing : IsFollower (fed_format n) n (replicate n []) (begun n)
  nothing = begun_follower (fed_format n) n

  pub told_one : (lines words : List ℕ) (now other : List (List ℕ)) (u v : Followed) → FedTold n pieces lines now u → FedTold n pieces words other v → OneTelling lines words now other u v
  told_one lines words now other u v h g =
      one_telling (fed_format n) n (replicate n []) now other (begun n) (begun n) u v pieces lines words nothing nothing (alike_itself (begun n)) h g

  fed_or_told : (fault : LogFault) (lines words : List ℕ) (now : List (List ℕ)) (v : Followed) → IsFedBad n pieces fault lines → FedTold n pieces words now v → ⊥
  fed_or_told fault lines words now v h g =
      never_both (fed_format n) n (replicate n []) now (begun n) (begun n) v pieces fault lines words nothing nothing (alike_itself (begun n)) (fed_bad n pieces fault lines h) g

  -- what is bad is told in one way
  pub one_bad_end : (fault other : LogFault) (lines words : List ℕ) → IsBadFollowed n pieces fault lines → IsBadFollowed n pieces other words → (fault ≡ other) × (lines ≡ words)
  one_bad_end fault other lines words (inl h) (inl g) =
      one_fault (fed_format n) n (replicate n []) (begun n) (begun n) pieces fault other lines words nothing nothing (alike_itself (begun n)) (fed_bad n pieces fault lines h) (fed_bad n pieces other words g)
  one_bad_end fault other lines words (inl h) (inr g) = absurd (fed_or_told fault lines words g.fed g.state h g.told)
  one_bad_end fault other lines words (inr h) (inl g) = absurd (fed_or_told other words lines h.fed h.state g h.told)
  one_bad_end fault other lines words (inr h) (inr g) =
      let one = told_one lines words h.fed g.fed h.state g.state h.told g.told in
      (one_end (fed_format n) g.fed fault other (subst (λ (l : List (List ℕ)). IsNoLog (fed_format n) l fault) one.fed h.bad) g.bad, one.text)

  no_log : (fed : List (List ℕ)) (fault : LogFault) (log : Log) (rows : List (Key × Value)) → log_of_contents (fed_format n) fed ≡ Ok log → IsRedone log rows → IsNoLog (fed_format n) fed fault → ⊥
  no_log fed fault log rows e redone (cut_short a) = log_is_none log fault (sym e ∙ a.cause)
  no_log fed fault log rows e redone (stuck other j at reads is tangle) =
      let same : other ≡ log = log_is other log (sym reads ∙ e) in
      tangled_has_no_order log j at redone.order (subst (λ (l : Log). IsTangledAt l j at) same tangle) redone.is_order

  -- and excludes what is not
  pub never_bad : (fault : LogFault) (lines text : List ℕ) → IsBadFollowed n pieces fault lines → IsFollowed n pieces text → ⊥
  never_bad fault lines text (inl h) g = fed_or_told fault lines g.lines g.fed g.state h g.told
  never_bad fault lines text (inr h) g =
      let one = told_one lines g.lines h.fed g.fed h.state g.state h.told g.told in
      no_log g.fed fault g.log g.rows g.reads g.redone (subst (λ (l : List (List ℕ)). IsNoLog (fed_format n) l fault) one.fed h.bad)
