-- The log of all that was fed.
use Rattle.std.proofs.Common.{ℕ, zero, suc, ◌+◌, ◌≤◌, ◌<◌, true, ◌≡◌, inl, inr, List, [], ◌∷◌, ◌++◌, map, length, take, drop, replicate, Option, Some, None, Result, Ok, Err, refl, sym, ap, subst, ◌∙◌, arith}
use Rattle.std.specs.Prelude.{slice_get}
use Rattle.std.specs.List.{AllZip}
use Rattle.std.proofs.lemmas.List.{length-append, length-take, append-nil}
use Rattle.std.proofs.lemmas.Bool.{cases_lt}
use Rattle.tau_base.specs.declared.format.Format.{Format}
use Rattle.tau_record.specs.declared.entry.Placed.{Placed}
use Rattle.tau_record.specs.declared.fault.RecordCause.{RecordCause}
use Rattle.tau_record.specs.declared.fault.RecordCause.TheVariants.{Short, BadKind, BadLength, BadAnchor, BadMask, BadBody}
use Rattle.tau_record.specs.declared.fault.RecordFault.{RecordFault}
use Rattle.tau_record.specs.Content.{content_at}
use Rattle.tau_record.proofs.FieldLaws.{IsBytes}
use Rattle.tau_record.proofs.ContentLaws.{content_takes}
use Rattle.tau_text.specs.declared.load.Declarations.{Declarations}
use Rattle.tau_scan.specs.declared.fault.LogFault.{LogFault}
use Rattle.tau_scan.specs.declared.fault.LogCause.TheVariants as cause
use Rattle.tau_scan.specs.declared.log.Log.{Log}
use Rattle.tau_scan.specs.Epochs.{marks_from}
use Rattle.tau_scan.specs.Reading.{each_from, recorded, undeclared, judged, records_of, streams_of, catalogue_in, declared_in, declared_by, epoch_fault, log_of_contents, IsReading, IsLog}
use Rattle.tau_scan.proofs.Marks.{no_epoch_fault}
use Rattle.tau_epoch_laws.proofs.Records.{content_stands}
use Rattle.tau_follow_laws.specs.Fed.{is_short, front_of, fronts_of}
use Rattle.tau_follow_laws.specs.Following.{Followed, with_read, begun}
use Rattle.tau_follow_laws.specs.Feeding.{Piece, with_piece, Feeds, IsFollower}
use Rattle.tau_follow_laws.proofs.Rises.{stand_end}
use Rattle.tau_follow_laws.proofs.Order.{applies_is}
use Rattle.tau_follow_laws.proofs.GoesOn.{front_is, fronts_from, one_more}
use Rattle.tau_follow_laws.proofs.Follows.{is_good, follower_following}
use Rattle.tau_follow.specs.declared.reader.Reader.{Reader}
use Rattle.tau_follow.specs.Reading.{IsGoing, IsRead}
use Rattle.tau_follow.specs.Feeding.{AreRead}
use Rattle.tau_follow.specs.Sealing.{short, IsCutAt, IsCutShort, AreLengths}
use Rattle.tau_follow.specs.declared.state.State.{State}
use Rattle.tau_follow.specs.State.{AreBytes, IsAt}
use Rattle.tau_base.proofs.Lists.{some_at, got_within, got_or}

-- ---- epochs

pub no_marks : (n : ℕ) → marks_from (replicate n []) ≡ []
no_marks zero = refl
no_marks (suc n) = no_marks n

good_from : (f : Format) (fed now : List (List ℕ)) (s t : Followed) (pieces : List Piece) → epoch_fault s.streams ≡ None → Feeds f fed s pieces now t → epoch_fault t.streams ≡ None
good_from f fed now s t [] k h = subst (λ (z : Followed). epoch_fault z.streams ≡ None) (sym h.1) k
good_from f fed now s t (p ∷ pieces) k h =
    let fed_once = h.1 in
    let good = is_good f (with_piece fed p) s.order fed_once.streams fed_once.read in
    let same = (applies_is (with_read s fed_once.streams) h.0 fed_once.news fed_once.applies).0 in
    good_from f (with_piece fed p) now h.0 t pieces (ap epoch_fault same ∙ good.epochs) h.2

pub follower_epochs : (f : Format) (n : ℕ) (fed : List (List ℕ)) (s : Followed) → IsFollower f n fed s → epoch_fault s.streams ≡ None
follower_epochs f n fed s h = good_from f (replicate n []) fed (begun n) s h.0 (no_epoch_fault (replicate n []) (no_marks n)) h.1

-- ---- the content of a stream

judged_ok : (f : Format) (n : ℕ) (content : List ℕ) (ps : List Placed) (r : Result (List Placed) RecordFault) → r ≡ Ok ps → undeclared ps ≡ None → judged f n content r ≡ Ok ps
judged_ok f n content ps r e h = rw (e, h) refl

abbrev bad_of : RecordFault → Result (List Placed) RecordFault
bad_of z = Err z

judged_err : (f : Format) (n : ℕ) (content front : List ℕ) (ps : List Placed) (fault : RecordFault) (r : Result (List Placed) RecordFault) → r ≡ Err fault → take fault.at content ≡ front → content_at f n front ≡ Ok ps → undeclared ps ≡ None → judged f n content r ≡ Err fault
judged_err f n content front ps fault r e cut read declared = rw (e, cut, read, declared) refl

no_more : (xs : List ℕ) → length xs ≡ 0 → xs ≡ []
no_more [] e = refl
no_more (x ∷ xs) e = absurd (omega (arith, e))

only_short : (c : RecordCause) → is_short c ≡ true → c ≡ Short
only_short Short e = refl
only_short BadKind e = absurd cc
only_short BadLength e = absurd cc
only_short BadAnchor e = absurd cc
only_short BadMask e = absurd cc
only_short BadBody e = absurd cc

module _ (f : Format) (n : ℕ) (content : List ℕ) (ps : List Placed) (r : Reader) (h : IsRead f n content ps r) where
  g : IsGoing f n content ps r 0
  g = h.going

  content_front : r.rest.items ≡ [] → content ≡ g.front
  content_front none = g.parts ∙ ap (λ (l : List ℕ). g.front ++ drop 0 l) none ∙ append-nil g.front

  pub whole_read : r.rest.items ≡ [] → content_at f n content ≡ Ok ps
  whole_read none = ap (content_at f n) (content_front none) ∙ g.read

  pub whole_declared : undeclared ps ≡ None
  whole_declared = g.declared

  pub whole_long : r.rest.items ≡ [] → r.at ≡ length content
  whole_long none = g.place ∙ sym (ap length (content_front none))

  pub whole_records : r.rest.items ≡ [] → records_of f n content ≡ Ok ps
  unfolding records_of
  whole_records none = judged_ok f n content ps (content_at f n content) (whole_read none) g.declared

  pub cut_records : front_of f n content ≡ Ok ps → (r.rest.items ≡ [] → ⊥) → records_of f n content ≡ Err (record { at = r.at; cause = Short })
  unfolding records_of
  cut_records is some =
      let w = front_is f n content ps is in
      let own = stand_end 0 (length g.front) ps (content_stands f n g.front ps g.read) in
      let other = stand_end 0 (length w.front) ps (content_stands f n w.front ps w.read) in
      let long = ap length g.parts ∙ length-append g.front (drop 0 r.rest.items) in
      let again = ap length w.parts ∙ length-append w.front w.rest in
      elim w.stopped [
        | inl none ↦ absurd (some (no_more r.rest.items (let zero_left : length w.rest ≡ 0 = ap length none in omega (arith, own, other, long, again, zero_left))))
        | inr cut ↦
            let fault : RecordFault = cut.0 in
            let taken = ap length cut.2 ∙ length-take fault.at content in
            let at : fault.at ≡ r.at = (let p = g.place in let left : 1 ≤ length r.rest.items = some_long r.rest.items some in omega (arith, own, other, long, taken, p, left)) in
            judged_err f n content w.front ps fault (content_at f n content) cut.1 (sym cut.2) w.read w.declared ∙ ap bad_of (fault_is fault at (only_short fault.cause cut.3))
      ]
    where
      some_long : (xs : List ℕ) → (xs ≡ [] → ⊥) → 1 ≤ length xs
      some_long [] h = absurd (h refl)
      some_long (x ∷ xs) h = omega arith

      fault_is : (z : RecordFault) → z.at ≡ r.at → z.cause ≡ Short → z ≡ record { at = r.at; cause = Short }
      fault_is z a c i = record { at = a i; cause = c i }

-- ---- all streams

module _ (f : Format) (n : ℕ) where
  abbrev whole_from : ℕ → List (List ℕ) → Result (List (List Placed)) LogFault
  whole_from j fed = each_from (λ j content. recorded j (records_of f n content)) j fed

  next_whole : (j : ℕ) (b : List ℕ) (fed : List (List ℕ)) (ps : List Placed) (rest : List (List Placed)) → records_of f n b ≡ Ok ps → whole_from (suc j) fed ≡ Ok rest → whole_from j (b ∷ fed) ≡ Ok (ps ∷ rest)
  next_whole j b fed ps rest e g = rw (e, g) refl

  pub all_whole : (j : ℕ) (fed : List (List ℕ)) (streams : List (List Placed)) → fronts_from f n j fed ≡ Ok streams →
      ((i : ℕ) (b : List ℕ) (ps : List Placed) → slice_get fed i ≡ Some b → slice_get streams i ≡ Some ps → records_of f n b ≡ Ok ps) → whole_from j fed ≡ Ok streams
  all_whole j [] streams e h = e
  all_whole j (b ∷ fed) streams e h =
      let one = one_more f n j b fed streams e in
      let here : records_of f n b ≡ Ok one.0 = h 0 b one.0 refl (ap (λ (l : List (List Placed)). slice_get l 0) (sym one.4)) in
      let rest = all_whole (suc j) fed one.1 one.3 (λ i c ps at there. h (suc i) c ps at (ap (λ (l : List (List Placed)). slice_get l (suc i)) (sym one.4) ∙ there)) in
      next_whole j b fed one.0 one.1 here rest ∙ ap all_of one.4
    where
      all_of : List (List Placed) → Result (List (List Placed)) LogFault
      all_of z = Ok z

  pub one_cut : (j m : ℕ) (fed : List (List ℕ)) (streams : List (List Placed)) (b : List ℕ) (fault : RecordFault) → fronts_from f n j fed ≡ Ok streams →
      ((i : ℕ) (c : List ℕ) (ps : List Placed) → i < m → slice_get fed i ≡ Some c → slice_get streams i ≡ Some ps → records_of f n c ≡ Ok ps) → slice_get fed m ≡ Some b → records_of f n b ≡ Err fault →
      whole_from j fed ≡ Err (record { stream = j + m; cause = cause.Body fault })
  one_cut j m [] streams b fault e h there bad = absurd cc
  one_cut j zero (c ∷ fed) streams b fault e h there bad =
      let same : c ≡ b = cc in
      let k : j ≡ j + 0 = omega arith in
      rw (ap (records_of f n) same ∙ bad) (ap at_stream k)
    where
      at_stream : ℕ → Result (List (List Placed)) LogFault
      at_stream i = Err (record { stream = i; cause = cause.Body fault })
  one_cut j (suc m) (c ∷ fed) streams b fault e h there bad =
      let one = one_more f n j c fed streams e in
      let here : records_of f n c ≡ Ok one.0 = h 0 c one.0 (omega arith) refl (ap (λ (l : List (List Placed)). slice_get l 0) (sym one.4)) in
      let rest = one_cut (suc j) m fed one.1 b fault one.3 (λ i d ps lt at got. h (suc i) d ps (omega (arith, lt)) at (ap (λ (l : List (List Placed)). slice_get l (suc i)) (sym one.4) ∙ got)) there bad in
      let k : suc j + m ≡ j + suc m = omega arith in
      rw (here, rest) (ap at_stream k)
    where
      at_stream : ℕ → Result (List (List Placed)) LogFault
      at_stream i = Err (record { stream = i; cause = cause.Body fault })

-- ---- the streams that a follower has read

module _ (f : Format) (n : ℕ) (fed : List (List ℕ)) (streams : List (List Placed)) (readers : List Reader) (a : AreRead f n fed streams readers) where
  fronts : fronts_from f n 0 fed ≡ Ok streams
  unfolding fronts_of
  fronts = subst (λ (m : ℕ). fronts_from f m 0 fed ≡ Ok streams) a.many a.fronts

  pub read_at : (i : ℕ) (b : List ℕ) (ps : List Placed) (r : Reader) → slice_get fed i ≡ Some b → slice_get streams i ≡ Some ps → slice_get readers i ≡ Some r → IsRead f n b ps r
  read_at i b ps r at there by = subst (λ (z : List ℕ). IsRead f n z ps r) (got_or fed i b [] at) (a.each i ps r there by)

  pub reader_at : (i : ℕ) (b : List ℕ) → slice_get fed i ≡ Some b → (r : Reader) × (slice_get readers i ≡ Some r)
  reader_at i b at = let lt = got_within fed i b at in let m = a.many in let k = a.as_many in some_at readers i (omega (arith, lt, m, k))

  front_at : (i : ℕ) (b : List ℕ) (ps : List Placed) → slice_get fed i ≡ Some b → slice_get streams i ≡ Some ps → front_of f n b ≡ Ok ps
  front_at i b ps at there = by 0 fed streams fronts i at there
    where
      by : (j : ℕ) (xs : List (List ℕ)) (ys : List (List Placed)) → fronts_from f n j xs ≡ Ok ys → (k : ℕ) → slice_get xs k ≡ Some b → slice_get ys k ≡ Some ps → front_of f n b ≡ Ok ps
      by j [] ys e k g h = absurd cc
      by j (c ∷ xs) ys e zero g h =
          let one = one_more f n j c xs ys e in
          let same : c ≡ b = cc in
          let there : Some one.0 ≡ Some ps = ap (λ (l : List (List Placed)). slice_get l 0) one.4 ∙ h in
          let is : one.0 ≡ ps = cc in
          ap (front_of f n) (sym same) ∙ one.2 ∙ ap (λ (l : List Placed). front_done l) is
        where
          front_done : List Placed → Result (List Placed) RecordFault
          front_done l = Ok l
      by j (c ∷ xs) ys e (suc k) g h =
          let one = one_more f n j c xs ys e in
          by (suc j) xs one.1 one.3 k g (ap (λ (l : List (List Placed)). slice_get l (suc k)) one.4 ∙ h)

  module _ (none : (j : ℕ) (r : Reader) → slice_get readers j ≡ Some r → r.rest.items ≡ []) where
    pub all_read : streams_of f fed ≡ Ok streams
    unfolding streams_of
    all_read = subst (λ (m : ℕ). whole_from f m 0 fed ≡ Ok streams) (sym a.many) (all_whole f n 0 fed streams fronts
        (λ i b ps at there. (let r = reader_at i b at in whole_records f n b ps r.0 (read_at i b ps r.0 at there r.1) (none i r.0 r.1))))

  pub one_left : (fault : LogFault) → IsCutAt readers fault → streams_of f fed ≡ Err fault
  unfolding streams_of
  one_left fault c =
      let j : ℕ = c.j in
      let lt = got_within readers j c.reader c.there in
      let m = a.many in
      let k = a.as_many in
      let w = a.wide in
      let b = some_at fed j (omega (arith, lt, m, k)) in
      let ps = some_at streams j (omega (arith, lt, w, k)) in
      let bad = cut_records f n b.0 ps.0 c.reader (read_at j b.0 ps.0 c.reader b.1 ps.1 c.there) (front_at j b.0 ps.0 b.1 ps.1) c.left in
      let z : 0 + j ≡ j = omega arith in
      subst (λ (l : ℕ). whole_from f l 0 fed ≡ Err fault) (sym a.many)
      (one_cut f n 0 j fed streams b.0 (record { at = c.reader.at; cause = Short }) fronts
      (λ i d qs low at there. (let r = reader_at i d at in whole_records f n d qs r.0 (read_at i d qs r.0 at there r.1) (c.before i r.0 low r.1))) b.1 bad
      ∙ ap (λ (l : ℕ). bad_log (short l c.reader.at)) z ∙ ap bad_log (sym c.is))
    where
      bad_log : LogFault → Result (List (List Placed)) LogFault
      bad_log x = Err x

-- ---- the log

same_lengths : (fed : List (List ℕ)) (readers : List Reader) → length fed ≡ length readers → ((i : ℕ) (b : List ℕ) (r : Reader) → slice_get fed i ≡ Some b → slice_get readers i ≡ Some r → r.at ≡ length b) →
    map (λ (r : Reader). r.at) readers ≡ map length fed
same_lengths [] [] e h = refl
same_lengths [] (r ∷ readers) e h = absurd (omega (arith, e))
same_lengths (b ∷ fed) [] e h = absurd (omega (arith, e))
same_lengths (b ∷ fed) (r ∷ readers) e h =
    let here = h 0 b r refl refl in
    let rest = same_lengths fed readers (omega (arith, e)) (λ i c q at by. h (suc i) c q at by) in
    λ i. here i ∷ rest i

all_zip : {A B : Type 0} (R : A → B → Type 0) (xs : List A) (ys : List B) → length xs ≡ length ys → ((i : ℕ) (x : A) (y : B) → slice_get xs i ≡ Some x → slice_get ys i ≡ Some y → R x y) → AllZip R xs ys
all_zip R [] [] e h = tt
all_zip R [] (y ∷ ys) e h = absurd (omega (arith, e))
all_zip R (x ∷ xs) [] e h = absurd (omega (arith, e))
all_zip R (x ∷ xs) (y ∷ ys) e h = (h 0 x y refl refl, all_zip R xs ys (omega (arith, e)) (λ i a b g k. h (suc i) a b g k))

abbrev log_done : Log → Result Log LogFault
log_done z = Ok z

found : (f : Format) (fed : List (List ℕ)) (streams : List (List Placed)) (d : Declarations) → streams_of f fed ≡ Ok streams → declared_in streams ≡ Ok d → epoch_fault streams ≡ None → log_of_contents f fed ≡ Ok (record { elv = map length fed; declarations = d; streams = streams })
found f fed streams d e g h = rw (e, g, h) refl

found_none : (f : Format) (fed : List (List ℕ)) (fault : LogFault) → streams_of f fed ≡ Err fault → log_of_contents f fed ≡ Err fault
found_none f fed fault e = rw e refl

declares : (streams : List (List Placed)) (c : Option (List ℕ)) → catalogue_in streams ≡ Ok c → declared_in streams ≡ Ok (declared_by c)
unfolding declared_in
declares streams c e = rw e refl

pub sealed_log : (f : Format) (n : ℕ) (fed : List (List ℕ)) (s : Followed) (streams : List (List Placed)) (readers : List Reader) (log : Log) (c : Option (List ℕ)) → AreRead f n fed streams readers → AreBytes fed → IsFollower f n fed s → s.streams ≡ streams →
    ((j : ℕ) (r : Reader) → slice_get readers j ≡ Some r → r.rest.items ≡ []) → AreLengths readers log.elv → catalogue_in streams ≡ Ok c → log.declarations ≡ declared_by c → log.streams ≡ streams →
    (log_of_contents f fed ≡ Ok log) × IsLog log
sealed_log f n fed s streams readers log c a bytes h same none lengths one d_is streams_are =
    let m = a.many in
    let k = a.as_many in
    let w = a.wide in
    let long : length fed ≡ length readers = omega (arith, m, k) in
    let elv : log.elv ≡ map length fed = lengths ∙ same_lengths fed readers long (λ i b r at by.
    (let ps = some_at streams i (let lt = got_within fed i b at in omega (arith, lt, m, w)) in whole_long f n b ps.0 r (read_at f n fed streams readers a i b ps.0 r at ps.1 by) (none i r by))) in
    let read = all_read f n fed streams readers a none in
    let good : epoch_fault streams ≡ None = ap epoch_fault (sym same) ∙ follower_epochs f n fed s h in
    let declared = declares streams c one in
    let is : record { elv = map length fed; declarations = declared_by c; streams = streams } ≡ log = log_is in (
      found f fed streams (declared_by c) read declared good ∙ ap log_done is,
      record {
        format = f;
        contents = fed;
        lengths = elv;
        read = subst (λ (l : List (List Placed)). AllZip (IsReading f (length fed)) fed l) (sym streams_are)
            (all_zip (IsReading f (length fed)) fed streams (omega (arith, m, w)) (λ i b ps at there. reading i b ps at there));
        declared = ap declared_in streams_are ∙ declared ∙ ap decl_done (sym d_is);
      },
    )
  where
    decl_done : Declarations → Result Declarations LogFault
    decl_done z = Ok z

    log_is : record { elv = map length fed; declarations = declared_by c; streams = streams } ≡ log
    log_is i = record { elv = elv_is i; declarations = sym d_is i; streams = sym streams_are i }
      where
        elv_is : map length fed ≡ log.elv
        elv_is =
            let m = a.many in
            let k = a.as_many in
            let w = a.wide in
            sym (lengths ∙ same_lengths fed readers (omega (arith, m, k)) (λ i b r at by.
            (let ps = some_at streams i (let lt = got_within fed i b at in omega (arith, lt, m, w)) in whole_long f n b ps.0 r (read_at f n fed streams readers a i b ps.0 r at ps.1 by) (none i r by))))

    reading : (i : ℕ) (b : List ℕ) (ps : List Placed) → slice_get fed i ≡ Some b → slice_get streams i ≡ Some ps → IsReading f (length fed) b ps
    reading i b ps at there =
        let r = reader_at f n fed streams readers a i b at in
        let g = read_at f n fed streams readers a i b ps r.0 at there r.1 in
        let read : content_at f n b ≡ Ok ps = whole_read f n b ps r.0 g (none i r.0 r.1) in
        let own : IsBytes b = subst IsBytes (got_or fed i b [] at) (bytes i) in
        subst (λ (l : ℕ). IsReading f l b ps) (sym a.many) (record { spelled = content_takes f n b ps own read; declared = whole_declared f n b ps r.0 g })

pub cut_log : (f : Format) (n : ℕ) (fed : List (List ℕ)) (streams : List (List Placed)) (readers : List Reader) (fault : LogFault) → AreRead f n fed streams readers → IsCutAt readers fault → IsCutShort f fed fault
cut_log f n fed streams readers fault a c = record { stream = c.j; at = c.reader.at; is = c.is; cause = found_none f fed fault (one_left f n fed streams readers a fault c) }

-- of one stream more nothing is left
pub none_left : (readers : List Reader) (j : ℕ) (q : Reader) → ((i : ℕ) (r : Reader) → i < j → slice_get readers i ≡ Some r → r.rest.items ≡ []) → slice_get readers j ≡ Some q → q.rest.items ≡ [] →
    (i : ℕ) (r : Reader) → i < j + 1 → slice_get readers i ≡ Some r → r.rest.items ≡ []
none_left readers j q before there none i r lt e = elim (cases_lt i j) [
  | inl low ↦ before i r low e
  | inr high ↦
      let same : i ≡ j = omega (arith, high, lt) in
      let one : Some r ≡ Some q = sym e ∙ ap (slice_get readers) same ∙ there in
      let is : r ≡ q = cc in
      ap (λ (z : Reader). z.rest.items) is ∙ none
]

pub sealed_at : (f : Format) (n : ℕ) (fed : List (List ℕ)) (s : Followed) (w : State) → IsAt f n fed s w → ((j : ℕ) (r : Reader) → slice_get w.readers.items j ≡ Some r → r.rest.items ≡ []) →
    (log : Log) → AreLengths w.readers.items log.elv → (c : Option (List ℕ)) → catalogue_in w.streams.items ≡ Ok c → log.declarations ≡ declared_by c → log.streams ≡ w.streams.items → (log_of_contents f fed ≡ Ok log) × IsLog log
sealed_at f n fed s w a none log lengths c one d_is streams_are =
    let k = follower_following f n fed s a.follower in
    let r = a.read in
    let same : s.streams ≡ w.streams.items = streams_same s.streams w.streams.items (sym k.fronts ∙ r.fronts) in
    sealed_log f n fed s w.streams.items w.readers.items log c a.read a.bytes a.follower same none lengths one d_is streams_are
  where
    streams_same : (x y : List (List Placed)) → ◌≡◌ {A = Result (List (List Placed)) LogFault} (Ok x) (Ok y) → x ≡ y
    streams_same x y e = cc
