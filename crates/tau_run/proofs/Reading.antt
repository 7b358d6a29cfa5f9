-- What is read of a content that was given.
use Rattle.std.proofs.Common.{ℕ, ◌≤◌, ◌<◌, Bool, true, false, ◌≡◌, inl, inr, List, [], ◌∷◌, ◌++◌, map, length, refl, sym, ap, subst, ◌∙◌, arith, slice_index}
use Rattle.std.specs.Prelude.{Option, Some, None, Ok, slice_index_or, if◌then◌else◌}
use Rattle.std.proofs.lemmas.List.{append-nil}
use Rattle.tau_base.specs.declared.limits.TheConstants.{MAX_CATALOGUE}
use Rattle.tau_base.specs.declared.format.Format.{Format}
use Rattle.tau_base.specs.Modes.{format_of, most_streams}
use Rattle.tau_base.specs.declared.value.LogMode.{LogMode}
use Rattle.tau_base.specs.declared.value.LogMode.TheVariants.{Values, Commands, WideValues, WideCommands}
use Rattle.tau_model.specs.History.{Act, Member}
use Rattle.tau_model.specs.Logged.{Place}
use Rattle.tau_machine.specs.Hands.{Txn}
use Rattle.tau_machine.specs.Pieces.{Chain, records_in, anchors_in, NameTheirs}
use Rattle.tau_machine.specs.State.{Item, Record, Anchor}
use Rattle.tau_text.specs.declared.load.Workload.{Workload}
use Rattle.tau_text.specs.declared.load.Declarations.{Declarations}
use Rattle.tau_text.specs.Alone.{declarations_of}
use Rattle.tau_text.specs.Canonical.{declarations_text}
use Rattle.tau_record.specs.declared.entry.Entry.TheVariants as entry
use Rattle.tau_record.specs.declared.entry.Placed.{Placed}
use Rattle.tau_record.specs.declared.fault.RecordFault.{RecordFault}
use Rattle.tau_record.specs.Record.{named}
use Rattle.tau_record.specs.declared.fault.RecordCause.TheVariants.{BadBody}
use Rattle.tau_record.specs.Content.{placed, Reads, IsContent, anchors_of, last_epoch, content_at, records_at}
use Rattle.tau_record.proofs.Appending.{appended_content}
use Rattle.tau_record.proofs.ContentLaws.{content_again}
use Rattle.tau_txn.specs.Record.{entry_of}
use Rattle.tau_core.specs.declared.state.Load.{Load}
use Rattle.tau_core.specs.Pieces.{Spelled}
use Rattle.tau_scan.specs.Reading.{is_declared, first_undeclared, undeclared, unless, judged, records_of}
use Rattle.tau_scan.specs.Epochs.{marks_in}
use Rattle.tau_scan.specs.Taken.{Kept, kept_in}
use Rattle.tau_run.specs.Run.{record_of}
use Rattle.tau_run.specs.Start.{catalogue_of}
use Rattle.tau_run.proofs.CommittedTold.{act_of}
use Rattle.tau_run.proofs.Spelled.{placed_in, AreOf, reads_items}

-- the record of a call, as recovery keeps it
abbrev pub kept_of : LogMode → Act Txn → Kept
kept_of mode t = record_of mode (act_of t)

kept_place : (j : ℕ) (t : Act Txn) → t.call.place.stream ≡ j → record { stream = j; start = t.call.place.start; past = t.call.place.past; dep = t.call.place.dep } ≡ t.call.place
kept_place j t own = λ i. record { stream = sym own i; start = t.call.place.start; past = t.call.place.past; dep = t.call.place.dep }

pub kept_items : (mode : LogMode) (j : ℕ) (items : List Item) → AreOf j items → kept_in j (map (placed_in mode) items) ≡ map (kept_of mode) (records_in items)
kept_items mode j [] of = refl
kept_items Values j (Record t ∷ items) of =
    let place = kept_place j t (of t (inl refl)) in
    ap (λ (p : Place). record (kept_of Values t) { place = p } ∷ kept_in j (map (placed_in Values) items)) place ∙ ap (λ (l : List Kept). kept_of Values t ∷ l) (kept_items Values j items (λ u m. of u (inr m)))
kept_items Commands j (Record t ∷ items) of =
    let place = kept_place j t (of t (inl refl)) in
    ap (λ (p : Place). record (kept_of Commands t) { place = p } ∷ kept_in j (map (placed_in Commands) items)) place ∙ ap (λ (l : List Kept). kept_of Commands t ∷ l) (kept_items Commands j items (λ u m. of u (inr m)))
kept_items WideValues j (Record t ∷ items) of =
    let place = kept_place j t (of t (inl refl)) in
    ap (λ (p : Place). record (kept_of WideValues t) { place = p } ∷ kept_in j (map (placed_in WideValues) items)) place ∙ ap (λ (l : List Kept). kept_of WideValues t ∷ l) (kept_items WideValues j items (λ u m. of u (inr m)))
kept_items WideCommands j (Record t ∷ items) of =
    let place = kept_place j t (of t (inl refl)) in
    ap (λ (p : Place). record (kept_of WideCommands t) { place = p } ∷ kept_in j (map (placed_in WideCommands) items)) place ∙ ap (λ (l : List Kept). kept_of WideCommands t ∷ l) (kept_items WideCommands j items (λ u m. of u (inr m)))
kept_items mode j (Anchor x y v ∷ items) of = kept_items mode j items of

-- no item is an epoch
pub no_marks_of : (mode : LogMode) (items : List Item) → marks_in (map (placed_in mode) items) ≡ []
no_marks_of mode [] = refl
no_marks_of Values (Record t ∷ items) = no_marks_of Values items
no_marks_of Commands (Record t ∷ items) = no_marks_of Commands items
no_marks_of WideValues (Record t ∷ items) = no_marks_of WideValues items
no_marks_of WideCommands (Record t ∷ items) = no_marks_of WideCommands items
no_marks_of mode (Anchor x y v ∷ items) = no_marks_of mode items

-- each record names what is declared
abbrev pub AreDeclared : Declarations → LogMode → List (Act Txn) → Type 0
AreDeclared d mode ts = (t : Act Txn) → Member t ts → is_declared d (entry_of mode t) ≡ true

pub items_declared : (d : Declarations) (mode : LogMode) (items : List Item) → AreDeclared d mode (records_in items) → first_undeclared d (map (placed_in mode) items) ≡ None
unfolding first_undeclared
items_declared d mode [] are = refl
items_declared d mode (Record t ∷ items) are = rw (are t (inl refl)) (items_declared d mode items (λ u m. are u (inr m)))
items_declared d mode (Anchor x y v ∷ items) are = items_declared d mode items are

-- the catalogue can be read again
pub record IsCatalogue (load : Workload) : Type 0 where
  pub short : length (declarations_text load.declarations) ≤ MAX_CATALOGUE
  pub bytes : (i : ℕ) → slice_index_or (declarations_text load.declarations) i 0 < 256
  pub read : declarations_of (declarations_text load.declarations) ≡ Ok load.declarations

abbrev pub first_placed : Workload → Placed
first_placed load = placed (entry.Catalogue (declarations_text load.declarations)) 0 (length (catalogue_of load))

-- in any format
pub catalogue_content : (f : Format) (n : ℕ) (load : Workload) → IsCatalogue load → IsContent f n (catalogue_of load) (first_placed load ∷ [])
catalogue_content f n load is = (
  [],
  record { parts = sym (append-nil (catalogue_of load)); fits = record { kind = refl; fields = (is.short, is.bytes) }; next = tt; starts = refl; ends = omega arith },
  refl,
)

pub catalogue_long : (load : Workload) → 1 ≤ length (catalogue_of load)
catalogue_long load = omega arith

-- a content with these records
pub read_again : (f : Format) (n : ℕ) (content : List ℕ) (ps : List Placed) → n ≤ most_streams f → IsContent f n content ps → undeclared ps ≡ None → records_of f n content ≡ Ok ps
unfolding records_of
read_again f n content ps room is none =
    ap (judged f n content) (content_again f n content ps room is) ∙ ap (λ (o : Option RecordFault). unless o ps) none

-- two parts of which each names what is declared
pub declared_append : (d : Declarations) (xs ys : List Placed) → first_undeclared d xs ≡ None → first_undeclared d ys ≡ None → first_undeclared d (xs ++ ys) ≡ None
unfolding first_undeclared
declared_append d [] ys h g = g
declared_append d (x ∷ xs) ys h g = by_test (is_declared d x.entry) h (λ e. declared_append d xs ys e g)
  where
    by_test : (b : Bool) → (if b then first_undeclared d xs else Some (record { at = x.start; cause = BadBody })) ≡ None → (first_undeclared d xs ≡ None → first_undeclared d (xs ++ ys) ≡ None) →
        (if b then first_undeclared d (xs ++ ys) else Some (record { at = x.start; cause = BadBody })) ≡ None
    by_test true e rest = rest e
    by_test false e rest = absurd cc

-- a stream that has this first, and after it these items
pub content_read : (l : Load) (anchors : ℕ → List (List ℕ)) (n j to : ℕ) (more : List (List ℕ)) (first : List ℕ) (olds : List Placed) (items : List Item) (bytes : List ℕ) → l.streams ≡ n →
    IsContent (format_of l.mode) n first olds → slice_index l.opening.anchors.items j ≡ length (anchors_of olds) → Spelled l anchors items bytes → Chain (length first) items to → 1 ≤ length first → AreOf j items →
    NameTheirs (slice_index l.opening.anchors.items j) [] items → anchors j ≡ anchors_in items ++ more → IsContent (format_of l.mode) n (first ++ bytes) (olds ++ map (placed_in l.mode) items)
content_read l anchors n j to more first olds items bytes width content anchored h c low of names all =
    let rest : Reads (format_of l.mode) n (length first) (last_epoch 0 olds) (named n (anchors_of olds ++ [])) bytes (map (placed_in l.mode) items) =
    reads_items l anchors n j (length first) (last_epoch 0 olds) to (anchors_of olds) [] more items bytes width anchored h c low of names all in
    appended_content (format_of l.mode) n first bytes olds (map (placed_in l.mode) items) content
    (subst (λ (z : List (List ℕ)). Reads (format_of l.mode) n (length first) (last_epoch 0 olds) (named n z) bytes (map (placed_in l.mode) items)) (append-nil (anchors_of olds)) rest)

-- of nothing nothing is read, in any format
pub nothing_read : (f : Format) (n : ℕ) → records_of f n [] ≡ Ok []
unfolding records_of content_at records_at first_undeclared
nothing_read f n = refl
