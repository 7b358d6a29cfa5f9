-- On contents that hold a log no feed is bad.
use Rattle.std.proofs.Common.{ℕ, suc, Bool, true, false, ◌≡◌, inl, inr, List, [], ◌∷◌, map, length, Option, Some, None, Result, Ok, Err, refl, sym, ap, subst, ◌∙◌}
use Rattle.std.specs.Prelude.{◌==◌, if◌then◌else◌}
use Rattle.std.proofs.lemmas.Bool.{cases_Bool, eq-eqb, eqb-true}
use Rattle.std.proofs.lemmas.Option.{same_Some}
use Rattle.std.proofs.lemmas.Slice.Eq.{bytes_eq-Decides}
use Rattle.tau_base.specs.declared.format.Format.{Format}
use Rattle.tau_model.specs.History.{Member}
use Rattle.tau_record.specs.declared.entry.Placed.{Placed}
use Rattle.tau_record.specs.declared.fault.RecordFault.{RecordFault}
use Rattle.tau_epoch.specs.Epochs.{Mark}
use Rattle.tau_epoch.specs.Known.{vector_of}
use Rattle.tau_text.specs.declared.load.Declarations.{Declarations}
use Rattle.tau_scan.specs.declared.fault.LogCause.TheVariants as cause
use Rattle.tau_scan.specs.declared.fault.LogFault.{LogFault}
use Rattle.tau_scan.specs.declared.log.Log.{Log}
use Rattle.tau_scan.specs.Epochs.{marks_in, marks_from}
use Rattle.tau_scan.specs.Reading.{◌>>=◌, in_front, each_from, recorded, records_of, streams_of, catalogue_of, catalogue_from, catalogue_in, unless_other, alike, declared_in, is_vector, lowest_with, mark_fault, marks_fault, epochs_fault, epoch_fault, or_else, unless, log_of_contents}
use Rattle.tau_scan.specs.Taken.{Kept}
use Rattle.tau_epoch_laws.specs.Continues.{Grown}
use Rattle.tau_epoch_laws.proofs.Contents.{holds, catalogue_ok, catalogues_kept}
use Rattle.tau_epoch_laws.proofs.Grown.{old_mark}
use Rattle.tau_epoch_laws.proofs.Judging.{Agree}
use Rattle.tau_follow_laws.specs.Fed.{fronts_of}
use Rattle.tau_follow_laws.specs.Feeding.{late_in, read_now, with_piece}
use Rattle.tau_follow_laws.specs.Laws.{NeverBad}
use Rattle.tau_follow_laws.proofs.Begins.{front_begins}
use Rattle.tau_model.proofs.Orders.{member_front, member_back}
use Rattle.tau_follow_laws.proofs.GoesOn.{Extends, extends_long, fronts_from, fronts_grow, bind_ok, recorded_ok}
use Rattle.tau_follow_laws.proofs.Lasting.{begin_extends, log_fronts, never_late}

-- ---- records

abbrev all_done : List (List Placed) → Result (List (List Placed)) LogFault
all_done x = Ok x

first_ok : (ps : List Placed) (r : Result (List (List Placed)) LogFault) (streams : List (List Placed)) → in_front ps r ≡ Ok streams → (rest : List (List Placed)) × (r ≡ Ok rest)
first_ok ps (Ok rest) streams e = (rest, refl)
first_ok ps (Err fault) streams e = absurd cc

fronts_begin : (f : Format) (n j : ℕ) (fed contents : List (List ℕ)) (streams : List (List Placed)) → Extends fed contents → each_from (λ j content. recorded j (records_of f n content)) j contents ≡ Ok streams →
    (now : List (List Placed)) × (fronts_from f n j fed ≡ Ok now)
fronts_begin f n j [] [] streams h e = ([], refl)
fronts_begin f n j [] (c ∷ contents) streams h e = absurd h
fronts_begin f n j (b ∷ fed) [] streams h e = absurd h
fronts_begin f n j (b ∷ fed) (c ∷ contents) streams h e =
    let a = bind_ok (recorded j (records_of f n c)) (λ y. in_front y (each_from (λ j content. recorded j (records_of f n content)) (suc j) contents)) streams e in
    let g = first_ok a.0 (each_from (λ j content. recorded j (records_of f n content)) (suc j) contents) streams a.2 in
    let read = recorded_ok j (records_of f n c) a.0 a.1 in
    let one = front_begins f n b h.0.0 a.0 (ap (records_of f n) (sym h.0.1) ∙ read) in
    let rest = fronts_begin f n (suc j) fed contents g.0 h.1 g.1 in (
      one.0 ∷ rest.0,
      ap (λ (r : Result (List Placed) RecordFault). recorded j r >>= λ y. in_front y (fronts_from f n (suc j) fed)) one.1 ∙ ap (in_front one.0) rest.1,
    )

contents_begin : (f : Format) (fed contents : List (List ℕ)) (streams : List (List Placed)) → Extends fed contents → streams_of f contents ≡ Ok streams → (now : List (List Placed)) × (fronts_of f fed ≡ Ok now)
unfolding fronts_of streams_of
contents_begin f fed contents streams h e =
    subst (λ (n : ℕ). (now : List (List Placed)) × (fronts_from f n 0 fed ≡ Ok now)) (sym (extends_long fed contents h)) (fronts_begin f (length contents) 0 fed contents streams h e)

-- ---- one catalogue

abbrev other : ℕ → List ℕ → ℕ → List ℕ → Result (Option (List ℕ)) LogFault
other first text j found = Err (record { stream = j; cause = cause.Catalogue first (alike text found) })

none_other : (first : ℕ) (text : List ℕ) (j : ℕ) (xs : List (Option (List ℕ))) → ((t : List ℕ) → Member (Some t) xs → text ≡ t) → unless_other first text j xs ≡ Ok (Some text)
none_other first text j [] h = refl
none_other first text j (None ∷ xs) h = none_other first text (suc j) xs (λ t m. h t (inr m))
none_other first text j (Some found ∷ xs) h =
    ap (λ (b : Bool). if b then unless_other first text (suc j) xs else other first text j found) ((bytes_eq-Decides text found).1 (h found (inl refl)))
    ∙ none_other first text (suc j) xs (λ t m. h t (inr m))

one_text : (j : ℕ) (xs : List (Option (List ℕ))) → ((t u : List ℕ) → Member (Some t) xs → Member (Some u) xs → t ≡ u) → (c : Option (List ℕ)) × (catalogue_from j xs ≡ Ok c)
one_text j [] h = (None, refl)
one_text j (None ∷ xs) h = one_text (suc j) xs (λ t u m k. h t u (inr m) (inr k))
one_text j (Some text ∷ xs) h = (Some text, none_other j text (suc j) xs (λ t m. h text t (inl refl) (inr m)))

one_catalogue : (old more new : List (List Placed)) (c : Option (List ℕ)) → Grown old more new → catalogue_in new ≡ Ok c → (d : Option (List ℕ)) × (catalogue_in old ≡ Ok d)
unfolding catalogue_in
one_catalogue old more new c grown e = one_text 0 (map catalogue_of old) (λ t u m k.
    (let a = catalogue_ok 0 (map catalogue_of new) c e t (catalogues_kept old more new grown t m) in
    let b = catalogue_ok 0 (map catalogue_of new) c e u (catalogues_kept old more new grown u k) in
    same_Some t u (sym a ∙ b)))

-- ---- one vector for each epoch

vector_found : (k : ℕ) (marks : List Mark) (m : Mark) → Member m marks → m.number ≡ k → (x : Mark) × Member x marks × (x.number ≡ k) × (vector_of k marks ≡ Some x.lv)
vector_found k [] m h e = absurd h
vector_found k (x ∷ marks) m h e = elim (cases_Bool (k == x.number)) [
  | inl t ↦ (x, inl refl, sym (eqb-true k x.number t), ap (λ (b : Bool). if b then Some x.lv else vector_of k marks) t)
  | inr f ↦ (elim h [
    | inl same ↦ absurd (let z : true ≡ false = sym (eq-eqb k x.number (sym (ap (λ (y : Mark). y.number) same ∙ e))) ∙ f in cc z)
    | inr there ↦ let w = vector_found k marks m there e in (w.0, inr w.1, w.2, ap (λ (b : Bool). if b then Some x.lv else vector_of k marks) f ∙ w.3)
  ])
]

module _ (streams : List (List Placed)) (agree : Agree (marks_from streams)) where
  abbrev differs : ℕ → Mark → Option LogFault
  differs j m = Some (record { stream = j; cause = cause.Epoch (lowest_with m.number 0 streams) m.number })

  no_mark : (j : ℕ) (m : Mark) → Member m (marks_from streams) → mark_fault streams j m ≡ None
  no_mark j m h =
      let w = vector_found m.number (marks_from streams) m h refl in
      let is : is_vector m.lv (vector_of m.number (marks_from streams)) ≡ true = ap (is_vector m.lv) w.3 ∙ (bytes_eq-Decides w.0.lv m.lv).1 (agree w.0 m w.1 h w.2) in
      ap (λ (b : Bool). if b then None else differs j m) is

  no_marks : (j : ℕ) (ms : List Mark) → ((m : Mark) → Member m ms → Member m (marks_from streams)) → marks_fault streams j ms ≡ None
  no_marks j [] h = refl
  no_marks j (m ∷ ms) h = ap (λ (o : Option LogFault). or_else o (marks_fault streams j ms)) (no_mark j m (h m (inl refl))) ∙ no_marks j ms (λ x there. h x (inr there))

  no_epochs : (j : ℕ) (rest : List (List Placed)) → ((m : Mark) → Member m (marks_from rest) → Member m (marks_from streams)) → epochs_fault streams j rest ≡ None
  no_epochs j [] h = refl
  no_epochs j (ps ∷ rest) h =
      ap (λ (o : Option LogFault). or_else o (epochs_fault streams (suc j) rest)) (no_marks j (marks_in ps) (λ m there. h m (member_front m (marks_in ps) (marks_from rest) there)))
      ∙ no_epochs (suc j) rest (λ m there. h m (member_back m (marks_in ps) (marks_from rest) there))

  no_fault : epoch_fault streams ≡ None
  unfolding epoch_fault
  no_fault = no_epochs 0 streams (λ m there. there)

-- ---- a feed

all_good : (f : Format) (fed : List (List ℕ)) (order : List Kept) (streams : List (List Placed)) (c : Option (List ℕ)) → fronts_of f fed ≡ Ok streams → catalogue_in streams ≡ Ok c → epoch_fault streams ≡ None → late_in streams order ≡ None → read_now f fed order ≡ Ok streams
all_good f fed order streams c fronts one epochs late = rw (fronts, one, epochs, late) refl

abbrev found_log : List (List ℕ) → List (List Placed) → Declarations → Log
found_log contents streams declarations = record { elv = map length contents; declarations = declarations; streams = streams }

log_streams : (f : Format) (contents : List (List ℕ)) (log : Log) → log_of_contents f contents ≡ Ok log → (streams : List (List Placed)) × (streams_of f contents ≡ Ok streams)
log_streams f contents log e =
    let a = bind_ok (streams_of f contents) (λ streams. declared_in streams >>= λ declarations. unless (epoch_fault streams) (found_log contents streams declarations)) log e in
    (a.0, a.1)

pub never_bad : NeverBad
never_bad f n fed contents s log p a begins e marked =
    let all = begin_extends contents (with_piece fed p) begins in
    let whole = log_streams f contents log e in
    let now = contents_begin f (with_piece fed p) contents whole.0 all whole.1 in
    let grown = fronts_grow f (with_piece fed p) contents now.0 log.streams all now.1 (log_fronts f contents log e) in
    let h = holds f contents log e in
    let one = one_catalogue now.0 grown.0 log.streams h.catalogue.0 grown.1 h.catalogue.1 in
    let epochs = no_fault now.0 (λ x y hx hy. h.agree x y (old_mark now.0 grown.0 log.streams grown.1 x hx) (old_mark now.0 grown.0 log.streams grown.1 y hy)) in
    (now.0, all_good f (with_piece fed p) s.order now.0 one.0 now.1 one.1 epochs (never_late f n fed contents s log p now.0 a begins e marked now.1))
