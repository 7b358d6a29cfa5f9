-- How far the pieces of a text are fed.
use Rattle.std.proofs.Common.{ℕ, suc, ◌≡◌, ◌≤◌, ◌+◌, List, [], ◌∷◌, ◌++◌, length, drop, replicate, Err, refl, sym, ◌∙◌, ap, subst, arith, append_assoc, length-append, length-drop}
use Rattle.std.specs.List.{flat_map}
use Rattle.std.proofs.lemmas.List.{append-nil, drop-drop}
use Rattle.tau_base.specs.declared.format.Format.{Format}
use Rattle.tau_base.specs.declared.limits.TheConstants.{MAX_WORKLOAD}
use Rattle.tau_scan.specs.declared.fault.LogFault.{LogFault}
use Rattle.tau_follow_laws.specs.Following.{Followed, begun}
use Rattle.tau_follow_laws.specs.Feeding.{Piece, with_piece, read_now, HasFed}
use Rattle.tau_follow.specs.Follower.{Follows}
use Rattle.tau_follow.specs.declared.follower.Follower.{Follower}
use Rattle.tau_commands.specs.Following.{applied_line, fed_format, FedTold, IsFedBad}
use Rattle.tau_commands.specs.Sources.{piece_text, NoPiece, BeginsWith, ArePieces}
use Rattle.tau_commands.proofs.Spelled.{one_piece, not_nil}
use Rattle.tau_commands.proofs.Telling.{told_more}

-- the pieces of a text that begins with this one
record Next (n : ℕ) (p : Piece) (pieces : List Piece) (text : List ℕ) : Type 0 where
  more : List Piece
  pieces_are : pieces ≡ p ∷ more
  rest : ArePieces n more (drop (5 + length p.bytes) text)

next_piece : (n : ℕ) (p : Piece) (pieces : List Piece) (text : List ℕ) → length text ≤ MAX_WORKLOAD → BeginsWith n text p → ArePieces n pieces text → Next n p pieces text
next_piece n p [] text short b are = absurd (not_nil p (drop (5 + length p.bytes) text) (sym are.1 ∙ b.front))
next_piece n p (q ∷ more) text short b are =
    let rest = drop (5 + length p.bytes) text in
    let one = one_piece p q rest (flat_map piece_text more) (let same = ap length b.front in omega (arith, short, same)) (sym b.front ∙ are.1) in
    record {
      more = more;
      pieces_are = ap (λ (r : Piece). r ∷ more) (sym one.0);
      rest = (λ k d lt. are.0 (suc k) d (omega (arith, lt)), one.1);
    }

pub begins_within : (n : ℕ) (text : List ℕ) (at : ℕ) (p : Piece) → at ≤ length text → BeginsWith n (drop at text) p → at + (5 + length p.bytes) ≤ length text
begins_within n text at p within b =
    let less = length-drop at text in
    let parts = length-append (piece_text p) (drop (5 + length p.bytes) (drop at text)) in
    let same = ap length b.front in
    omega (arith, within, less, parts, same)

no_more : (n : ℕ) (pieces : List Piece) (text : List ℕ) → NoPiece n text → ArePieces n pieces text → pieces ≡ []
no_more n [] text none are = refl
no_more n (q ∷ more) text none are = absurd (none q (flat_map piece_text more) (are.0 0 q (omega arith)) are.1)

-- The pieces up to a place are fed.
pub record IsFedTo (n : ℕ) (text : List ℕ) (at : ℕ) (lines : List ℕ) (w : Follower) (pieces : List Piece) : Type 0 where
  pub before : List Piece
  pub after : List Piece
  pub pieces_are : pieces ≡ before ++ after
  pub rest : ArePieces n after (drop at text)
  pub fed : List (List ℕ)
  pub state : Followed
  pub told : FedTold n before lines fed state
  pub follows : Follows (fed_format n) n fed state w

-- what feeding a piece does
abbrev pub Feeds : Piece → List ℕ → Follower → List ℕ → Follower → Type 0
Feeds p lines w now next =
    (f : Format) (n : ℕ) (fed : List (List ℕ)) (s : Followed) → Follows f n fed s w → (t : Followed) × HasFed f (with_piece fed p) s t × Follows f n (with_piece fed p) t next × (now ≡ lines ++ applied_line (length t.order))

pub more_fed : (n : ℕ) (text : List ℕ) (at : ℕ) (lines now : List ℕ) (w next : Follower) (p : Piece) (pieces : List Piece) → length text ≤ MAX_WORKLOAD → BeginsWith n (drop at text) p → Feeds p lines w now next →
    IsFedTo n text at lines w pieces → IsFedTo n text (at + (5 + length p.bytes)) now next pieces
more_fed n text at lines now w next p pieces short b feeds h =
    let on = next_piece n p h.after (drop at text) (let less = length-drop at text in omega (arith, short, less)) b h.rest in
    let fed = feeds (fed_format n) n h.fed h.state h.follows in
    record {
      before = h.before ++ p ∷ [];
      after = on.more;
      pieces_are = h.pieces_are ∙ ap (λ (l : List Piece). h.before ++ l) on.pieces_are ∙ sym (append_assoc h.before (p ∷ []) on.more);
      rest = subst (ArePieces n on.more) (drop-drop (5 + length p.bytes) at text) on.rest;
      fed = with_piece h.fed p;
      state = fed.0;
      told = subst (λ (l : List ℕ). FedTold n (h.before ++ p ∷ []) l (with_piece h.fed p) fed.0) (sym fed.3) (told_more (fed_format n) (replicate n []) h.fed (begun n) h.state fed.0 h.before p lines h.told fed.1);
      follows = fed.2;
    }

pub all_fed : (n : ℕ) (text : List ℕ) (at : ℕ) (lines : List ℕ) (w : Follower) (pieces : List Piece) → NoPiece n (drop at text) → IsFedTo n text at lines w pieces →
    (fed : List (List ℕ)) × (state : Followed) × FedTold n pieces lines fed state × Follows (fed_format n) n fed state w
all_fed n text at lines w pieces none h =
    let are = h.pieces_are ∙ ap (λ (l : List Piece). h.before ++ l) (no_more n h.after (drop at text) none h.rest) ∙ append-nil h.before in
    (h.fed, h.state, subst (λ (l : List Piece). FedTold n l lines h.fed h.state) (sym are) h.told, h.follows)

pub bad_fed : (n : ℕ) (text : List ℕ) (at : ℕ) (lines now : List ℕ) (w : Follower) (p : Piece) (fault : LogFault) (pieces : List Piece) → length text ≤ MAX_WORKLOAD → BeginsWith n (drop at text) p →
    ((f : Format) (m : ℕ) (fed : List (List ℕ)) (s : Followed) → Follows f m fed s w → (read_now f (with_piece fed p) s.order ≡ Err fault) × (now ≡ lines)) → IsFedTo n text at lines w pieces → IsFedBad n pieces fault now
bad_fed n text at lines now w p fault pieces short b bad h =
    let on = next_piece n p h.after (drop at text) (let less = length-drop at text in omega (arith, short, less)) b h.rest in
    let is = bad (fed_format n) n h.fed h.state h.follows in
    record {
      before = h.before;
      piece = p;
      after = on.more;
      pieces_are = h.pieces_are ∙ ap (λ (l : List Piece). h.before ++ l) on.pieces_are;
      fed = h.fed;
      state = h.state;
      told = subst (λ (l : List ℕ). FedTold n h.before l h.fed h.state) (sym is.1) h.told;
      bad = is.0;
    }
