-- Followers of contents that hold a log.
use Rattle.std.proofs.Common.{ℕ, suc, true, false, ◌≡◌, inl, inr, List, [], ◌∷◌, ◌++◌, map, length, replicate, Option, Some, None, Result, Ok, Err, refl, sym, ap, subst, ◌∙◌, append_assoc}
use Rattle.std.specs.List.{filter}
use Rattle.tau_base.specs.declared.format.Format.{Format}
use Rattle.tau_model.specs.History.{Member}
use Rattle.tau_model.proofs.Logged.{member_filtered}
use Rattle.tau_record.specs.declared.entry.Placed.{Placed}
use Rattle.tau_record.specs.declared.fault.RecordFault.{RecordFault}
use Rattle.tau_text.specs.declared.load.Declarations.{Declarations}
use Rattle.tau_scan.specs.declared.fault.LogFault.{LogFault}
use Rattle.tau_scan.specs.declared.log.Log.{Log}
use Rattle.tau_scan.specs.Epochs.{marks_of}
use Rattle.tau_scan.specs.Reading.{◌>>=◌, in_front, each_from, recorded, records_of, streams_of, declared_in, epoch_fault, unless, log_of_contents}
use Rattle.tau_scan.specs.Taken.{Kept, taken}
use Rattle.tau_epoch_laws.specs.Continues.{Grown}
use Rattle.tau_epoch_laws.proofs.Contents.{AreStreams, holds}
use Rattle.tau_epoch_laws.proofs.Judging.{Agree}
use Rattle.tau_epoch_laws.proofs.Records.{Stand}
use Rattle.tau_follow_laws.specs.Fed.{or_front, front_of, fronts_of}
use Rattle.tau_follow_laws.specs.Following.{Followed, is_among, is_open, left_out, applied, Applies, with_read, begun}
use Rattle.tau_follow_laws.specs.Feeding.{late_at, late_in, HasFed, Piece, with_piece, Feeds, BeginWith, IsFollower}
use Rattle.tau_epoch_laws.specs.Marked.{AreMarked}
use Rattle.tau_follow_laws.specs.Laws.{OnlyTaken, NeverLate}
use Rattle.tau_follow_laws.proofs.Rises.{AreStanding, stand_end}
use Rattle.tau_follow_laws.proofs.Among.{among_member, member_among, not_back, not_both, open_parts}
use Rattle.tau_follow_laws.proofs.Reached.{ends}
use Rattle.tau_follow_laws.proofs.Order.{applies_is, pushed}
use Rattle.tau_follow_laws.proofs.GoesOn.{Extends, extends_itself, extends_piece, fronts_from, fronts_grow, bind_ok, recorded_ok}
use Rattle.tau_follow_laws.proofs.Follows.{is_good}
use Rattle.tau_follow_laws.proofs.Judged.{ready_taken, taken_free}

-- ---- bytes that are no fewer

pub extends_then : (a b c : List (List ℕ)) → Extends a b → Extends b c → Extends a c
extends_then [] [] [] h g = tt
extends_then [] [] (z ∷ c) h g = absurd g
extends_then [] (y ∷ b) c h g = absurd h
extends_then (x ∷ a) [] c h g = absurd h
extends_then (x ∷ a) (y ∷ b) [] h g = absurd g
extends_then (x ∷ a) (y ∷ b) (z ∷ c) h g =
    ((h.0.0 ++ g.0.0, g.0.1 ∙ ap (λ (l : List ℕ). l ++ g.0.0) h.0.1 ∙ append_assoc x h.0.0 g.0.0), extends_then a b c h.1 g.1)

pub begin_extends : (contents fed : List (List ℕ)) → BeginWith contents fed → Extends fed contents
begin_extends [] [] h = tt
begin_extends [] (b ∷ fed) h = absurd h
begin_extends (c ∷ contents) [] h = absurd h
begin_extends (c ∷ contents) (b ∷ fed) h = (h.0, begin_extends contents fed h.1)

pub feeds_extend : (f : Format) (fed now : List (List ℕ)) (s t : Followed) (pieces : List Piece) → Feeds f fed s pieces now t → Extends fed now
feeds_extend f fed now s t [] h = subst (Extends fed) (sym h.0) (extends_itself fed)
feeds_extend f fed now s t (p ∷ pieces) h = extends_then fed (with_piece fed p) now (extends_piece fed p) (feeds_extend f (with_piece fed p) now h.0 t pieces h.2)

-- ---- a log of contents

abbrev log_done : Log → Result Log LogFault
log_done x = Ok x

unless_ok : (o : Option LogFault) (x y : Log) → unless o x ≡ log_done y → x ≡ y
unless_ok None x y e = cc
unless_ok (Some fault) x y e = absurd cc

abbrev all_done : List (List Placed) → Result (List (List Placed)) LogFault
all_done x = Ok x

all_done_is : (x y : List (List Placed)) → all_done x ≡ all_done y → x ≡ y
all_done_is x y e = cc

first_ok : (ps : List Placed) (r : Result (List (List Placed)) LogFault) (streams : List (List Placed)) → in_front ps r ≡ Ok streams → (rest : List (List Placed)) × (r ≡ Ok rest) × (ps ∷ rest ≡ streams)
first_ok ps (Ok rest) streams e = (rest, refl, all_done_is (ps ∷ rest) streams e)
first_ok ps (Err fault) streams e = absurd cc

whole_front : (f : Format) (n : ℕ) (content : List ℕ) (ps : List Placed) → records_of f n content ≡ Ok ps → front_of f n content ≡ Ok ps
unfolding front_of
whole_front f n content ps e = ap (or_front f n content) e

-- a content that is read whole is its own front
fronts_read : (f : Format) (n j : ℕ) (contents : List (List ℕ)) (streams : List (List Placed)) → each_from (λ j content. recorded j (records_of f n content)) j contents ≡ Ok streams → fronts_from f n j contents ≡ Ok streams
fronts_read f n j [] streams e = e
fronts_read f n j (content ∷ contents) streams e =
    let a = bind_ok (recorded j (records_of f n content)) (λ y. in_front y (each_from (λ j content. recorded j (records_of f n content)) (suc j) contents)) streams e in
    let g = first_ok a.0 (each_from (λ j content. recorded j (records_of f n content)) (suc j) contents) streams a.2 in
    let read = whole_front f n content a.0 (recorded_ok j (records_of f n content) a.0 a.1) in
    ap (λ (r : Result (List Placed) RecordFault). recorded j r >>= λ y. in_front y (fronts_from f n (suc j) contents)) read
    ∙ ap (in_front a.0) (fronts_read f n (suc j) contents g.0 g.1) ∙ ap all_done g.2

pub log_fronts : (f : Format) (contents : List (List ℕ)) (log : Log) → log_of_contents f contents ≡ Ok log → fronts_of f contents ≡ Ok log.streams
unfolding fronts_of streams_of
log_fronts f contents log e =
    let found : List (List Placed) → Declarations → Log = λ streams declarations. record { elv = map length contents; declarations = declarations; streams = streams } in
    let a = bind_ok (streams_of f contents) (λ streams. declared_in streams >>= λ declarations. unless (epoch_fault streams) (found streams declarations)) log e in
    let b = bind_ok (declared_in a.0) (λ declarations. unless (epoch_fault a.0) (found a.0 declarations)) log a.2 in
    let is = unless_ok (epoch_fault a.0) (found a.0 b.0) log b.2 in
    fronts_read f (length contents) 0 contents a.0 a.1 ∙ ap (λ (l : Log). all_done l.streams) is

streams_stand : (contents : List (List ℕ)) (streams : List (List Placed)) → AreStreams contents streams → AreStanding streams × (map length contents ≡ ends streams)
streams_stand [] [] h = (tt, refl)
streams_stand [] (ps ∷ streams) h = absurd h
streams_stand (content ∷ contents) [] h = absurd h
streams_stand (content ∷ contents) (ps ∷ streams) h =
    let end = stand_end 0 (length content) ps h.0.stand in
    let rest = streams_stand contents streams h.1 in
    let more = rest.1 in
    ((subst (λ (i : ℕ). Stand 0 i ps) (sym end) h.0.stand, rest.0), λ i. sym end i ∷ more i)

-- what is known of a log whose epochs stand as runs leave them
pub record IsMarkedLog (f : Format) (contents : List (List ℕ)) (log : Log) : Type 0 where
  pub stands : AreStanding log.streams
  pub lengths : log.elv ≡ ends log.streams
  pub agree : Agree (marks_of log)
  pub marked : AreMarked log.streams
  pub fronts : fronts_of f contents ≡ Ok log.streams

pub is_marked : (f : Format) (contents : List (List ℕ)) (log : Log) → log_of_contents f contents ≡ Ok log → AreMarked log.streams → IsMarkedLog f contents log
is_marked f contents log e m =
    let h = holds f contents log e in
    let s = streams_stand contents log.streams h.streams in
    record { stands = s.0; lengths = h.elv ∙ s.1; agree = h.agree; marked = m; fronts = log_fronts f contents log e }

-- ---- what is applied is taken

module _ (f : Format) (contents : List (List ℕ)) (log : Log) (g : IsMarkedLog f contents log) where
  abbrev pub AreTaken : Followed → Type 0
  AreTaken s = (r : Kept) → Member r s.order → Member r (taken log)

  -- what no known epoch leaves out
  abbrev Free : Followed → Type 0
  Free s = (r : Kept) → is_among s.out r ≡ false → is_among (left_out s.streams) r ≡ false

  applies_taken : (s t : Followed) (news : List Kept) (more : List (List Placed)) → Grown s.streams more log.streams → Free s → AreTaken s → Applies s news t → AreTaken t
  applies_taken s t [] more grown free h a = subst AreTaken (sym a) h
  applies_taken s t (r ∷ news) more grown free h a = applies_taken (applied s r) t news more grown free (λ x m. elim (pushed s.order r x m) [
    | inl old ↦ h x old
    | inr e ↦ subst (λ (z : Kept). Member z (taken log)) e (ready_taken log g.stands g.lengths g.agree g.marked s more grown r a.0 (free r (is_out s r a.0.open_still)))
  ]) a.1
    where
      is_out : (s : Followed) (r : Kept) → is_open s.out s.order r ≡ true → is_among s.out r ≡ false
      is_out s r e = (open_parts s.out s.order r e).0

  fed_taken : (fed : List (List ℕ)) (p : Piece) (s t : Followed) → AreTaken s → Extends (with_piece fed p) contents → HasFed f (with_piece fed p) s t → AreTaken t
  fed_taken fed p s t h more a =
      let good = is_good f (with_piece fed p) s.order a.streams a.read in
      let grown = fronts_grow f (with_piece fed p) contents a.streams log.streams more good.fronts g.fronts in
      applies_taken (with_read s a.streams) t a.news grown.0 grown.1 (λ r e. not_back s.out (left_out a.streams) r.place.stream r.place.start e) h a.applies

  feeds_taken : (fed now : List (List ℕ)) (s t : Followed) (pieces : List Piece) → AreTaken s → Extends now contents → Feeds f fed s pieces now t → AreTaken t
  feeds_taken fed now s t [] h more a = subst AreTaken (sym a.1) h
  feeds_taken fed now s t (p ∷ pieces) h more a =
      let there = feeds_extend f (with_piece fed p) now a.0 t pieces a.2 in
      feeds_taken (with_piece fed p) now a.0 t pieces (fed_taken fed p s a.0 h (extends_then (with_piece fed p) now contents there more) a.1) more a.2

  pub follower_taken : (n : ℕ) (fed : List (List ℕ)) (s : Followed) → IsFollower f n fed s → Extends fed contents → AreTaken s
  follower_taken n fed s a more = feeds_taken (replicate n []) fed (begun n) s a.0 (λ r m. absurd m) more a.1

  -- no taken record is left out by what is read of these contents
  pub taken_lasts : (fed : List (List ℕ)) (streams : List (List Placed)) → Extends fed contents → fronts_of f fed ≡ Ok streams → (r : Kept) → Member r (taken log) → is_among (left_out streams) r ≡ false
  taken_lasts fed streams more e r m =
      let grown = fronts_grow f fed contents streams log.streams more e g.fronts in
      taken_free log g.stands g.lengths g.agree g.marked (record { streams = streams; out = []; order = [] }) grown.0 grown.1 r m

  pub not_late : (streams : List (List Placed)) (order : List Kept) → ((r : Kept) → Member r order → is_among (left_out streams) r ≡ false) → late_in streams order ≡ None
  not_late streams order h = by (filter (is_among order) (left_out streams)) refl
    where
      by : (rs : List Kept) → filter (is_among order) (left_out streams) ≡ rs → late_at (filter (is_among order) (left_out streams)) ≡ None
      by [] e = ap late_at e
      by (q ∷ rs) e =
          let m = member_filtered (is_among order) q (left_out streams) (subst (λ (l : List Kept). Member q l) (sym e) (inl refl)) in
          let w = among_member order q.place.stream q.place.start m.1 in
          absurd (let f : false ≡ true = sym (h w.0 w.1) ∙ member_among (left_out streams) w.0.place.stream w.0.place.start q m.0 (sym w.2) (sym w.3) in cc f)

pub only_taken : OnlyTaken
only_taken f n fed contents s log a begins e marked = follower_taken f contents log (is_marked f contents log e marked) n fed s a (begin_extends contents fed begins)

pub never_late : NeverLate
never_late f n fed contents s log p streams a begins e marked read =
    let g = is_marked f contents log e marked in
    let all = begin_extends contents (with_piece fed p) begins in
    let before = extends_then fed (with_piece fed p) contents (extends_piece fed p) all in
    not_late f contents log g streams s.order (λ r m. taken_lasts f contents log g (with_piece fed p) streams all read r (follower_taken f contents log g n fed s a before r m))

-- ---- what was left out is not taken

module _ (f : Format) (contents : List (List ℕ)) (log : Log) (g : IsMarkedLog f contents log) where
  abbrev pub IsFree : Followed → Type 0
  IsFree s = (r : Kept) → Member r (taken log) → is_among s.out r ≡ false

  fed_free : (fed : List (List ℕ)) (p : Piece) (s t : Followed) → IsFree s → Extends (with_piece fed p) contents → HasFed f (with_piece fed p) s t → IsFree t
  fed_free fed p s t h more a r m =
      let good = is_good f (with_piece fed p) s.order a.streams a.read in
      let out : t.out ≡ s.out ++ left_out a.streams = (applies_is (with_read s a.streams) t a.news a.applies).1 in
      subst (λ (l : List Kept). is_among l r ≡ false) (sym out)
      (not_both s.out (left_out a.streams) r.place.stream r.place.start (h r m) (taken_lasts f contents log g (with_piece fed p) a.streams more good.fronts r m))

  feeds_free : (fed now : List (List ℕ)) (s t : Followed) (pieces : List Piece) → IsFree s → Extends now contents → Feeds f fed s pieces now t → IsFree t
  feeds_free fed now s t [] h more a = subst IsFree (sym a.1) h
  feeds_free fed now s t (p ∷ pieces) h more a =
      let there = feeds_extend f (with_piece fed p) now a.0 t pieces a.2 in
      feeds_free (with_piece fed p) now a.0 t pieces (fed_free fed p s a.0 h (extends_then (with_piece fed p) now contents there more) a.1) more a.2

  pub follower_free : (n : ℕ) (fed : List (List ℕ)) (s : Followed) → IsFollower f n fed s → Extends fed contents → IsFree s
  follower_free n fed s a more = feeds_free (replicate n []) fed (begun n) s a.0 (λ r m. refl) more a.1
