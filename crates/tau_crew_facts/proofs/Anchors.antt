-- The anchors that are read of what a stream was given are those of its manager, and stand in their distance.
use Rattle.std.proofs.Common.{ℕ, ◌<◌, ◌≡◌, List, [], ◌∷◌, ◌++◌, map, length, drop, refl, sym, ap, subst, ◌∙◌, slice_index}
use Rattle.std.specs.Prelude.{Some, Ok, slice_get, slice_index_or}
use Rattle.std.proofs.lemmas.List.{length-append}
use Rattle.std.proofs.Math.Seq.{drop-append_seam}
use Rattle.tau_base.specs.Modes.{format_of}
use Rattle.tau_base.specs.declared.value.LogMode.{LogMode}
use Rattle.tau_base.specs.declared.value.LogMode.TheVariants.{Values, Commands, WideValues, WideCommands}
use Rattle.tau_model.specs.History.{Act}
use Rattle.tau_machine.specs.Hands.{Txn}
use Rattle.tau_machine.specs.Pieces.{anchors_in}
use Rattle.tau_machine.specs.State.{Item, Record, Anchor, Core}
use Rattle.tau_machine.proofs.Pieces.{chain_append}
use Rattle.tau_text.specs.declared.load.Workload.{Workload}
use Rattle.tau_record.specs.declared.entry.Placed.{Placed}
use Rattle.tau_record.specs.Content.{anchors_of}
use Rattle.tau_core.specs.declared.state.Load.{Load}
use Rattle.tau_scan.specs.Reading.{records_of}
use Rattle.tau_run.specs.Run.{Run}
use Rattle.tau_run.specs.Start.{old_at, opened_at}
use Rattle.tau_run.proofs.Begins.{given_placed, given_anchors}
use Rattle.tau_record.proofs.Appending.{anchors_appended}
use Rattle.tau_run.specs.CoreRun.{IsCourse, IsGiven, IsRunOf}
use Rattle.tau_run.proofs.Spelled.{placed_in, spelled_long}
use Rattle.tau_run.proofs.Sound.{sound}
use Rattle.tau_run.proofs.Streams.{anchored, whole_records}
use Rattle.tau_crew_facts.specs.Spacing.{IsSpacing, AreSpaced}

anchors_placed : (mode : LogMode) (items : List Item) → anchors_of (map (placed_in mode) items) ≡ anchors_in items
anchors_placed mode [] = refl
anchors_placed Values (Record t ∷ items) = anchors_placed Values items
anchors_placed Commands (Record t ∷ items) = anchors_placed Commands items
anchors_placed WideValues (Record t ∷ items) = anchors_placed WideValues items
anchors_placed WideCommands (Record t ∷ items) = anchors_placed WideCommands items
anchors_placed mode (Anchor x y v ∷ items) = ap (λ (vs : List (List ℕ)). v ∷ vs) (anchors_placed mode items)

module _ (n m : ℕ) (mode : LogMode) (load : Workload) (l : Load) (K : List (Act Txn)) (s : Core) (run : Run) (c : IsCourse n m mode load run.start l K s) (is : IsRunOf n l K s load run) (j : ℕ) (lt : j < n) (content : List ℕ)
    (there : slice_get run.contents j ≡ Some content) where
  abbrev g : IsGiven l K s j (opened_at load run.start j) content
  g = is.given j content there

  abbrev items : List Item
  items = (s.streams j).moved ++ g.waiting

  abbrev olds : List Placed
  olds = slice_index_or run.start.log.streams j []

  abbrev given : List Placed
  given = given_placed load run.start (old_at run.start j)

  abbrev base : List ℕ
  base = opened_at load run.start j

  -- the anchors that are read of the content are the old ones, and then those of this run
  pub anchors_read : (ps : List Placed) × (records_of (format_of l.mode) n content ≡ Ok ps) × (drop (length (anchors_of olds)) (anchors_of ps) ≡ (s.streams j).anchors)
  anchors_read =
      let placed : List Placed = map (placed_in l.mode) items in (
        olds ++ (given ++ placed),
        whole_records n l load run.start c.begins K s j lt c.room c.load_is.streams (anchored n m mode load run.start l c.begins c.load_is j lt) (sound n m mode load l K s run c) content g,
        ap (drop (length (anchors_of olds))) (anchors_appended olds (given ++ placed)) ∙ drop-append_seam (anchors_of olds) (anchors_of (given ++ placed))
            ∙ anchors_appended given placed ∙ ap (λ (v : List (List ℕ)). v ++ anchors_of placed) (given_anchors load run.start (old_at run.start j))
            ∙ anchors_placed l.mode items ∙ g.anchors,
      )

  pub content_long : length content ≡ slice_index s.ends j
  content_long =
      let chain = chain_append (length (opened_at load run.start j)) (slice_index s.gathered j) (slice_index s.ends j) (s.streams j).moved g.waiting g.moved g.rest in
      ap (length {A = ℕ}) g.is ∙ length-append (opened_at load run.start j) g.bytes ∙ spelled_long l (λ i. (s.streams i).anchors) (length (opened_at load run.start j)) (slice_index s.ends j) items g.bytes g.spelled chain

  -- where all is persisted, and the manager kept its distance
  pub anchors_spaced : slice_index s.plv j ≡ slice_index s.ends j → IsSpacing (length (anchors_of olds)) (length base) (slice_index s.plv j) (map (λ (v : List ℕ). slice_index v j) (s.streams j).anchors) →
      AreSpaced (format_of l.mode) n j (length (anchors_of olds)) (length base) content
  anchors_spaced flushed k =
      let r = anchors_read in
      let own : List (List ℕ) = drop (length (anchors_of olds)) (anchors_of r.0) in
      let same : map (λ (v : List ℕ). slice_index v j) own ≡ map (λ (v : List ℕ). slice_index v j) (s.streams j).anchors = ap (map (λ (v : List ℕ). slice_index v j)) r.2 in
      let whole : slice_index s.plv j ≡ length content = flushed ∙ sym content_long in
      record {
        records = r.0;
        reads = r.1;
        spacing =
            subst (λ (at : ℕ). IsSpacing (length (anchors_of olds)) (length base) at (map (λ (v : List ℕ). slice_index v j) own)) whole
            (subst (λ (xs : List ℕ). IsSpacing (length (anchors_of olds)) (length base) (slice_index s.plv j) xs) (sym same) k);
      }
