-- What is known of a log that contents hold.
use Rattle.std.proofs.Common.{ℕ, suc, ◌+◌, ◌≤◌, ◌<◌, Bool, true, false, ◌≡◌, ◌⊎◌, inl, inr, List, [], ◌∷◌, ◌++◌, map, length, Option, Some, None, Result, Ok, Err, refl, sym, ap, subst, ◌∙◌, arith, slice_index, bytes_eq}
use Rattle.std.specs.Prelude.{if◌then◌else◌}
use Rattle.std.proofs.lemmas.Slice.Eq.{bytes_eq-Decides}
use Rattle.tau_base.specs.declared.format.Format.{Format}
use Rattle.tau_base.proofs.Logic.{some_is}
use Rattle.tau_model.specs.History.{Member}
use Rattle.tau_epoch.specs.Epochs.{Mark}
use Rattle.tau_epoch.specs.Known.{vector_of}
use Rattle.tau_record.specs.declared.entry.Placed.{Placed}
use Rattle.tau_record.specs.declared.fault.RecordFault.{RecordFault}
use Rattle.tau_record.specs.Content.{last_epoch, content_at}
use Rattle.tau_text.specs.declared.load.Declarations.{Declarations}
use Rattle.tau_scan.specs.declared.fault.LogFault.{LogFault}
use Rattle.tau_scan.specs.declared.fault.LogCause.TheVariants as cause
use Rattle.tau_scan.specs.declared.log.Log.{Log}
use Rattle.tau_scan.specs.Epochs.{marks_in, marks_from, marks_of, judge_of}
use Rattle.tau_scan.specs.Reading.{◌>>=◌, in_front, each_from, unless, catalogue_of, declared_by, undeclared, judged, records_of, recorded, alike, unless_other, catalogue_from, catalogue_in, declared_in, streams_of, lowest_with, is_vector, or_else, mark_fault, marks_fault, epochs_fault, epoch_fault, log_of_contents}
use Rattle.tau_scan.specs.Taken.{Kept, taken_in, taken_from, taken}
use Rattle.tau_epoch_laws.specs.Continues.{Grown, none_in, Continues, news_from, news}
use Rattle.tau_epoch_laws.proofs.Parts.{in_either}
use Rattle.tau_epoch_laws.proofs.Judging.{Agree}
use Rattle.tau_epoch_laws.proofs.Records.{Stand, content_stands, no_catalogue, stand_after, taken_within}

-- ---- steps that did not fail

abbrev done : {A : Type 0} → A → Result A LogFault
done x = Ok x

ok_is : {A : Type 0} (x y : A) → done x ≡ done y → x ≡ y
ok_is x y e = cc e

bind_ok : {A B : Type 0} (r : Result A LogFault) (f : A → Result B LogFault) (y : B) → (r >>= f) ≡ Ok y → (x : A) × (r ≡ Ok x) × (f x ≡ Ok y)
bind_ok (Ok x) f y e = (x, refl, e)
bind_ok (Err fault) f y e = absurd cc

front_ok : {A : Type 0} (x : A) (r : Result (List A) LogFault) (ys : List A) → in_front x r ≡ Ok ys → (xs : List A) × (r ≡ Ok xs) × (x ∷ xs ≡ ys)
front_ok x (Ok xs) ys e = (xs, refl, cc)
front_ok x (Err fault) ys e = absurd cc

unless_ok : {A E : Type 0} (o : Option E) (x y : A) → unless o x ≡ Ok y → (o ≡ None) × (x ≡ y)
unless_ok None x y e = (refl, cc)
unless_ok (Some fault) x y e = absurd cc

recorded_ok : (j : ℕ) (r : Result (List Placed) RecordFault) (ps : List Placed) → recorded j r ≡ Ok ps → r ≡ Ok ps
recorded_ok j (Ok qs) ps e = cc
recorded_ok j (Err fault) ps e = absurd cc

judged_ok : (f : Format) (n : ℕ) (content : List ℕ) (r : Result (List Placed) RecordFault) (ps : List Placed) → judged f n content r ≡ Ok ps → r ≡ Ok ps
judged_ok f n content (Ok qs) ps e = let same = (unless_ok (undeclared qs) qs ps e).1 in ap (λ (xs : List Placed). Ok xs) same
judged_ok f n content (Err fault) ps e = absurd cc

records_ok : (f : Format) (n : ℕ) (content : List ℕ) (ps : List Placed) → records_of f n content ≡ Ok ps → content_at f n content ≡ Ok ps
unfolding records_of
records_ok f n content ps e = judged_ok f n content (content_at f n content) ps e

-- ---- streams

pub record IsStream (content : List ℕ) (ps : List Placed) : Type 0 where
  pub stand : Stand 0 (length content) ps
  pub first : catalogue_of ps ≡ None → ps ≡ []

abbrev pub AreStreams : List (List ℕ) → List (List Placed) → Type 0
AreStreams [] [] = Unit {0}
AreStreams (content ∷ contents) (ps ∷ streams) = IsStream content ps × AreStreams contents streams
AreStreams _ _ = ⊥

are_streams : (f : Format) (n j : ℕ) (contents : List (List ℕ)) (streams : List (List Placed)) → each_from (λ j content. recorded j (records_of f n content)) j contents ≡ Ok streams → AreStreams contents streams
are_streams f n j [] streams e = subst (AreStreams []) (ok_is [] streams e) tt
are_streams f n j (content ∷ contents) streams e =
    let a = bind_ok (recorded j (records_of f n content)) (λ y. in_front y (each_from (λ j content. recorded j (records_of f n content)) (suc j) contents)) streams e in
    let g = front_ok a.0 (each_from (λ j content. recorded j (records_of f n content)) (suc j) contents) streams a.2 in
    let read = records_ok f n content a.0 (recorded_ok j (records_of f n content) a.0 a.1) in
    subst (AreStreams (content ∷ contents)) g.2 (record { stand = content_stands f n content a.0 read; first = no_catalogue f n content a.0 read }, are_streams f n (suc j) contents g.0 g.1)

-- ---- marks

no_fault : (o p : Option LogFault) → or_else o p ≡ None → (o ≡ None) × (p ≡ None)
no_fault None p e = (refl, e)
no_fault (Some fault) p e = absurd cc

vector_is : (lv : List ℕ) (o : Option (List ℕ)) → is_vector lv o ≡ true → o ≡ Some lv
vector_is lv None e = absurd cc
vector_is lv (Some first) e = ap (λ (v : List ℕ). Some v) ((bytes_eq-Decides first lv).0 e)

module _ (streams : List (List Placed)) where
  abbrev HasVector : Mark → Type 0
  HasVector m = vector_of m.number (marks_from streams) ≡ Some m.lv

  abbrev differs : ℕ → Mark → LogFault
  differs j m = record { stream = j; cause = cause.Epoch (lowest_with m.number 0 streams) m.number }

  mark_ok : (j : ℕ) (m : Mark) → mark_fault streams j m ≡ None → HasVector m
  mark_ok j m e = by_test (is_vector m.lv (vector_of m.number (marks_from streams))) refl e
    where
      by_test : (b : Bool) → is_vector m.lv (vector_of m.number (marks_from streams)) ≡ b
          → (if b then None else Some (differs j m)) ≡ None → HasVector m
      by_test true is e = vector_is m.lv (vector_of m.number (marks_from streams)) is
      by_test false is e = absurd cc

  marks_ok : (j : ℕ) (ms : List Mark) → marks_fault streams j ms ≡ None → (m : Mark) → Member m ms → HasVector m
  marks_ok j [] e m h = absurd h
  marks_ok j (x ∷ ms) e m (inl is) = subst HasVector is (mark_ok j x (no_fault (mark_fault streams j x) (marks_fault streams j ms) e).0)
  marks_ok j (x ∷ ms) e m (inr h) = marks_ok j ms (no_fault (mark_fault streams j x) (marks_fault streams j ms) e).1 m h

  all_ok : (j : ℕ) (rest : List (List Placed)) → epochs_fault streams j rest ≡ None → (m : Mark) → Member m (marks_from rest) → HasVector m
  all_ok j [] e m h = absurd h
  all_ok j (ps ∷ rest) e m h =
      let both = no_fault (marks_fault streams j (marks_in ps)) (epochs_fault streams (suc j) rest) e in
      elim (in_either m (marks_in ps) (marks_from rest) h) [
        | inl here ↦ marks_ok j (marks_in ps) both.0 m here
        | inr there ↦ all_ok (suc j) rest both.1 m there
      ]

  agree : epoch_fault streams ≡ None → Agree (marks_from streams)
  unfolding epoch_fault
  agree e x y hx hy same =
      some_is x.lv y.lv (sym (all_ok 0 streams e x hx) ∙ ap (λ (k : ℕ). vector_of k (marks_from streams)) same ∙ all_ok 0 streams e y hy)

-- ---- catalogues

-- the one text of these, from stream j on, is this one
abbrev IsText : List ℕ → Option (List ℕ) → List (Option (List ℕ)) → Type 0
IsText text c xs = (c ≡ Some text) × ((t : List ℕ) → Member (Some t) xs → text ≡ t)

abbrev other : ℕ → List ℕ → ℕ → List ℕ → LogFault
other first text j found = record { stream = j; cause = cause.Catalogue first (alike text found) }

other_test : (first : ℕ) (text : List ℕ) (j : ℕ) (found : List ℕ) (xs : List (Option (List ℕ))) (c : Option (List ℕ)) → (unless_other first text (suc j) xs ≡ Ok c → IsText text c xs)
    → (b : Bool) → bytes_eq text found ≡ b → (if b then unless_other first text (suc j) xs else Err (other first text j found)) ≡ Ok c → IsText text c (Some found ∷ xs)
other_test first text j found xs c later true is e =
    let rest = later e in
    (rest.0, λ t m. elim m [ inl here ↦ (bytes_eq-Decides text found).0 is ∙ some_is found t here | inr there ↦ rest.1 t there ])
other_test first text j found xs c later false is e = absurd cc

other_ok : (first : ℕ) (text : List ℕ) (j : ℕ) (xs : List (Option (List ℕ))) (c : Option (List ℕ)) → unless_other first text j xs ≡ Ok c → IsText text c xs
other_ok first text j [] c e = (sym (ok_is (Some text) c e), λ t m. absurd m)
other_ok first text j (None ∷ xs) c e =
    let rest = other_ok first text (suc j) xs c e in
    (rest.0, λ t m. elim m [ inl is ↦ absurd (cc is) | inr there ↦ rest.1 t there ])
other_ok first text j (Some found ∷ xs) c e = other_test first text j found xs c (other_ok first text (suc j) xs c) (bytes_eq text found) refl e

-- the one catalogue is that of each stream that has one
pub catalogue_ok : (j : ℕ) (xs : List (Option (List ℕ))) (c : Option (List ℕ)) → catalogue_from j xs ≡ Ok c → (t : List ℕ) → Member (Some t) xs → c ≡ Some t
catalogue_ok j [] c e t m = absurd m
catalogue_ok j (None ∷ xs) c e t (inl is) = absurd cc
catalogue_ok j (None ∷ xs) c e t (inr m) = catalogue_ok (suc j) xs c e t m
catalogue_ok j (Some text ∷ xs) c e t (inl is) = (other_ok j text (suc j) xs c e).0 ∙ is
catalogue_ok j (Some text ∷ xs) c e t (inr m) = let one = other_ok j text (suc j) xs c e in one.0 ∙ ap (λ (u : List ℕ). Some u) (one.1 t m)

-- and some stream has it
pub catalogue_there : (j : ℕ) (xs : List (Option (List ℕ))) (t : List ℕ) → catalogue_from j xs ≡ Ok (Some t) → Member (Some t) xs
catalogue_there j [] t e = absurd cc
catalogue_there j (None ∷ xs) t e = inr (catalogue_there (suc j) xs t e)
catalogue_there j (Some text ∷ xs) t e = inl (sym (other_ok j text (suc j) xs (Some t) e).0)

-- ---- the log

pub record Holds (contents : List (List ℕ)) (log : Log) : Type 0 where
  pub streams : AreStreams contents log.streams
  pub elv : log.elv ≡ map length contents
  pub agree : Agree (marks_of log)
  pub catalogue : (c : Option (List ℕ)) × (catalogue_in log.streams ≡ Ok c) × (log.declarations ≡ declared_by c)

pub holds : (f : Format) (contents : List (List ℕ)) (log : Log) → log_of_contents f contents ≡ Ok log → Holds contents log
unfolding streams_of declared_in
holds f contents log e =
    let found : List (List Placed) → Declarations → Log = λ streams declarations. record { elv = map length contents; declarations = declarations; streams = streams } in
    let a = bind_ok (streams_of f contents) (λ streams. declared_in streams >>= λ declarations. unless (epoch_fault streams) (found streams declarations)) log e in
    let b = bind_ok (declared_in a.0) (λ declarations. unless (epoch_fault a.0) (found a.0 declarations)) log a.2 in
    let c = bind_ok (catalogue_in a.0) (λ catalogue. Ok (declared_by catalogue)) b.0 b.1 in
    let u = unless_ok (epoch_fault a.0) (found a.0 b.0) log b.2 in
    subst (Holds contents) u.1 (record {
      streams = are_streams f (length contents) 0 contents a.0 a.1;
      elv = refl;
      agree = agree a.0 u.0;
      catalogue = (c.0, c.1, sym (ok_is (declared_by c.0) b.0 c.2));
    })

-- ---- a log that goes on

first_kept : (ps ms : List Placed) (t : List ℕ) → catalogue_of ps ≡ Some t → catalogue_of (ps ++ ms) ≡ Some t
first_kept [] ms t e = absurd cc
first_kept (p ∷ ps) ms t e = e

pub catalogues_kept : (old more new : List (List Placed)) → Grown old more new → (t : List ℕ) → Member (Some t) (map catalogue_of old) → Member (Some t) (map catalogue_of new)
catalogues_kept [] [] [] g t m = absurd m
catalogues_kept [] [] (qs ∷ new) g t m = absurd g
catalogues_kept [] (ms ∷ more) new g t m = absurd g
catalogues_kept (ps ∷ old) [] new g t m = absurd g
catalogues_kept (ps ∷ old) (ms ∷ more) [] g t m = absurd g
catalogues_kept (ps ∷ old) (ms ∷ more) (qs ∷ new) g t (inl e) = inl (ap catalogue_of g.0 ∙ first_kept ps ms t e)
catalogues_kept (ps ∷ old) (ms ∷ more) (qs ∷ new) g t (inr m) = inr (catalogues_kept old more new g.1 t m)

none_there : (contents : List (List ℕ)) (streams : List (List Placed)) → AreStreams contents streams → ((t : List ℕ) → Member (Some t) (map catalogue_of streams) → ⊥) → none_in streams
none_there [] [] are none = tt
none_there [] (ps ∷ streams) are none = absurd are
none_there (content ∷ contents) [] are none = absurd are
none_there (content ∷ contents) (ps ∷ streams) are none = (are.0.first (by_text (catalogue_of ps) refl), none_there contents streams are.1 (λ t m. none t (inr m)))
  where
    by_text : (o : Option (List ℕ)) → catalogue_of ps ≡ o → o ≡ None
    by_text None e = refl
    by_text (Some t) e = absurd (none t (inl e))

-- it has the declarations of the old one, if that has a record
pub same_declared : (before after : List (List ℕ)) (old : Log) (more : List (List Placed)) (log : Log) → Holds before old → Holds after log → Continues old more log → none_in old.streams ⊎ (log.declarations ≡ old.declarations)
unfolding catalogue_in
same_declared before after old more log h g c = by_catalogue h.catalogue.0 h.catalogue.1 h.catalogue.2
  where
    by_catalogue : (o : Option (List ℕ)) → catalogue_from 0 (map catalogue_of old.streams) ≡ Ok o → old.declarations ≡ declared_by o → none_in old.streams ⊎ (log.declarations ≡ old.declarations)
    by_catalogue None is declared = inl (none_there before old.streams h.streams (λ t m. (let f = catalogue_ok 0 (map catalogue_of old.streams) None is t m in absurd (cc f))))
    by_catalogue (Some t) is declared =
        let there = catalogues_kept old.streams more log.streams c.streams t (catalogue_there 0 (map catalogue_of old.streams) t is) in
        inr (g.catalogue.2 ∙ ap declared_by (catalogue_ok 0 (map catalogue_of log.streams) g.catalogue.0 g.catalogue.1 t there) ∙ sym declared)

-- ---- where taken records start

old_starts : (judge : ℕ → List ℕ) (j : ℕ) (contents : List (List ℕ)) (streams : List (List Placed)) (r : Kept) → AreStreams contents streams → Member r (taken_from judge j streams)
    → (i : ℕ) × (r.place.stream ≡ j + i) × (r.place.start < slice_index (map length contents) i)
old_starts judge j [] [] r are m = absurd m
old_starts judge j [] (ps ∷ streams) r are m = absurd are
old_starts judge j (content ∷ contents) [] r are m = absurd are
old_starts judge j (content ∷ contents) (ps ∷ streams) r are m = elim (in_either r (taken_in judge j 0 ps) (taken_from judge (suc j) streams) m) [
  | inl here ↦ let w = taken_within judge j 0 0 (length content) ps r are.0.stand here in let at = w.0 in (0, omega (arith, at), w.2)
  | inr there ↦ let w = old_starts judge (suc j) contents streams r are.1 there in let at = w.1 in (suc w.0, omega (arith, at), w.2)
]

news_start : (judge : ℕ → List ℕ) (j : ℕ) (before after : List (List ℕ)) (old more new : List (List Placed)) (r : Kept) → Grown old more new → AreStreams before old → AreStreams after new → Member r (news_from judge j old more)
    → (i : ℕ) × (r.place.stream ≡ j + i) × (slice_index (map length before) i ≤ r.place.start)
news_start judge j before after [] [] [] r g are now m = absurd m
news_start judge j before after [] [] (qs ∷ new) r g are now m = absurd g
news_start judge j before after [] (ms ∷ more) new r g are now m = absurd g
news_start judge j before after (ps ∷ old) [] new r g are now m = absurd g
news_start judge j before after (ps ∷ old) (ms ∷ more) [] r g are now m = absurd g
news_start judge j [] after (ps ∷ old) (ms ∷ more) (qs ∷ new) r g are now m = absurd are
news_start judge j (content ∷ before) [] (ps ∷ old) (ms ∷ more) (qs ∷ new) r g are now m = absurd now
news_start judge j (content ∷ before) (longer ∷ after) (ps ∷ old) (ms ∷ more) (qs ∷ new) r g are now m = elim (in_either r (taken_in judge j (last_epoch 0 ps) ms) (news_from judge (suc j) old more) m) [
  | inl here ↦
      let whole : Stand 0 (length longer) (ps ++ ms) = subst (Stand 0 (length longer)) g.0 now.0.stand in
      let w = taken_within judge j (last_epoch 0 ps) (length content) (length longer) ms r (stand_after 0 (length content) (length longer) ps ms are.0.stand whole) here in
      let at = w.0 in
      (0, omega (arith, at), w.1)
  | inr there ↦ let w = news_start judge (suc j) before after old more new r g.1 are.1 now.1 there in let at = w.1 in (suc w.0, omega (arith, at), w.2)
]

-- what a log takes starts in it
pub starts_before : (contents : List (List ℕ)) (log : Log) → Holds contents log → (r : Kept) → Member r (taken log) → r.place.start < slice_index log.elv r.place.stream
starts_before contents log h r m =
    let w = old_starts (judge_of log) 0 contents log.streams r h.streams m in
    let found = w.1 in
    let at : r.place.stream ≡ w.0 = omega (arith, found) in
    subst (λ (v : List ℕ). r.place.start < slice_index v r.place.stream) (sym h.elv) (subst (λ (i : ℕ). r.place.start < slice_index (map length contents) i) (sym at) w.2)

-- and what comes after it starts at or after its end
pub starts_after : (before after : List (List ℕ)) (old : Log) (more : List (List Placed)) (log : Log) → Holds before old → Holds after log → Continues old more log → (r : Kept) → Member r (news old more log) → slice_index old.elv r.place.stream ≤ r.place.start
starts_after before after old more log h g c r m =
    let w = news_start (judge_of log) 0 before after old.streams more log.streams r c.streams h.streams g.streams m in
    let found = w.1 in
    let at : r.place.stream ≡ w.0 = omega (arith, found) in
    subst (λ (v : List ℕ). slice_index v r.place.stream ≤ r.place.start) (sym h.elv) (subst (λ (i : ℕ). slice_index (map length before) i ≤ r.place.start) (sym at) w.2)
