-- What holds of every follower that is fed pieces.
use Rattle.std.proofs.Common.{ℕ, ◌≡◌, ◌++◌, inl, inr, List, [], ◌∷◌, replicate, None, Result, Ok, refl, sym, ◌∙◌, ap, subst}
use Rattle.tau_base.specs.declared.format.Format.{Format}
use Rattle.tau_scan.specs.declared.fault.LogFault.{LogFault}
use Rattle.tau_scan.specs.declared.log.Log.{Log}
use Rattle.tau_scan.specs.Reading.{◌>>=◌, contents_of, log_of_contents, log_as, log_of}
use Rattle.tau_replay.specs.Laws.{OrdersAgree}
use Rattle.tau_replay.specs.Redone.{IsTangledAt}
use Rattle.tau_report.specs.Recovery.{recover_text}
use Rattle.tau_follow_laws.specs.Feeding.{Piece, with_piece}
use Rattle.tau_follow_laws.specs.Following.{Followed, begun}
use Rattle.tau_follow.specs.Sealing.{IsNoLog, cut_short, stuck}
use Rattle.tau_commands.specs.Fed.{fed_by, HoldFed, EndsAsRecovery, OneSpelling, OneFollowing}
use Rattle.tau_commands.specs.Following.{fed_format, FeedsTold, IsFollowed, IsSealedBad}
use Rattle.tau_commands.specs.Recovery.{IsBadLog, IsRecoveryOf}
use Rattle.tau_commands.proofs.Same.{one_text}
use Rattle.tau_commands.proofs.Spelled.{one_pieces, one_bad, not_both}
use Rattle.tau_commands.proofs.Telling.{told_one, one_bad_end, never_bad}

fed_told : (f : Format) (fed now : List (List ℕ)) (s t : Followed) (pieces : List Piece) (lines : List ℕ) → FeedsTold f fed s pieces lines now t → fed_by fed pieces ≡ now
fed_told f fed now s t [] lines h = sym h.1
fed_told f fed now s t (p ∷ pieces) lines h = fed_told f (with_piece fed p) now h.0 t pieces h.1 h.4

log_held : (f : Format) (images fed : List (List ℕ)) → contents_of f images ≡ Ok fed → log_as f images ≡ log_of_contents f fed
unfolding log_as
log_held f images fed e = ap (λ (r : Result (List (List ℕ)) LogFault). r >>= log_of_contents f) e

module _ (n : ℕ) (pieces : List Piece) (images : List (List ℕ)) (held : HoldFed n pieces images) where
  log_here : (now : List (List ℕ)) → fed_by (replicate n []) pieces ≡ now → log_of None images ≡ log_of_contents (fed_format n) now
  log_here now e = ap (λ (f : Format). log_as f images) held.format ∙ log_held (fed_format n) images (fed_by (replicate n []) pieces) held.contents ∙ ap (log_of_contents (fed_format n)) e

  followed : (text : List ℕ) (h : IsFollowed n pieces text) → (log_of None images ≡ Ok h.log) × ((words : List ℕ) → OrdersAgree h.log → IsRecoveryOf h.log words → text ≡ h.lines ++ words)
  followed text h =
      let found : log_of None images ≡ Ok h.log = log_here h.fed (fed_told (fed_format n) (replicate n []) h.fed (begun n) h.state pieces h.lines h.told) ∙ h.reads in
      let here : IsRecoveryOf h.log (recover_text h.log h.rows) = record { rows = h.rows; redone = h.redone; text_is = refl } in
      (found, λ words agree also. h.text_is ∙ ap (λ (l : List ℕ). h.lines ++ l) (one_text images h.log h.log (recover_text h.log h.rows) words found found agree here also))

  ends_bad : (now : List (List ℕ)) (fault : LogFault) → log_of None images ≡ log_of_contents (fed_format n) now → IsNoLog (fed_format n) now fault → IsBadLog images fault
  ends_bad now fault e (cut_short a) = inl (e ∙ a.cause)
  ends_bad now fault e (stuck log j at reads is tangle) =
      inr (log, e ∙ reads, (at, ap (λ (f : LogFault). f.cause) is, subst (λ (i : ℕ). IsTangledAt log i at) (sym (ap (λ (f : LogFault). f.stream) is)) tangle))

  sealed_bad : (fault : LogFault) (lines : List ℕ) → IsSealedBad n pieces fault lines → IsBadLog images fault
  sealed_bad fault lines b = ends_bad b.fed fault (log_here b.fed (fed_told (fed_format n) (replicate n []) b.fed (begun n) b.state pieces lines b.told)) b.bad

pub ends_as_recovery : EndsAsRecovery
ends_as_recovery n pieces images held = (followed n pieces images held, sealed_bad n pieces images held)

log_is : (a b : Log) → ◌≡◌ {A = Result Log LogFault} (Ok a) (Ok b) → a ≡ b
log_is a b e = cc

pub one_following : OneFollowing
one_following n pieces = (
  λ text words a b. (let one = told_one n pieces a.lines b.lines a.fed b.fed a.state b.state a.told b.told in
      (one.text, log_is a.log b.log (sym a.reads ∙ ap (log_of_contents (fed_format n)) one.fed ∙ b.reads))),
  one_bad_end n pieces,
  never_bad n pieces,
)

pub one_spelling : OneSpelling
one_spelling n text = (one_pieces n text, one_bad n text, not_both n text)
