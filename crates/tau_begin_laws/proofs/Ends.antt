-- Where the streams end.
use Rattle.std.proofs.Common.{ℕ, suc, ◌≡◌, List, [], ◌∷◌, ◌++◌, map, length, refl, sym, ap, subst, ◌∙◌, arith}
use Rattle.std.specs.Prelude.{Some, slice_get}
use Rattle.tau_base.proofs.Logic.{some_is}
use Rattle.tau_text.specs.declared.load.Workload.{Workload}
use Rattle.tau_text.specs.Canonical.{declarations_text}
use Rattle.tau_block.specs.declared.content.Content.{Content}
use Rattle.tau_scan.specs.Contents.{bytes_in}
use Rattle.tau_open.specs.declared.start.StreamStart.{StreamStart}
use Rattle.tau_open.specs.Reopening.{started}
use Rattle.tau_scan.specs.Given.{given_after}
use Rattle.tau_run.specs.Start.{Start, opened_with}

module _ (load : Workload) (start : Start) where
  -- this stream starts on this content
  abbrev pub StartsOn : Content → StreamStart → Type 0
  StartsOn c p = (p.content ≡ c) × (p.body ≡ given_after (declarations_text load.declarations) start.epoch start.log.elv c.bytes)

  end_is : (c : Content) (p : StreamStart) → StartsOn c p → length (started p) ≡ length (opened_with load start c.bytes)
  end_is c p s = ap (λ (d : Content). length (d.bytes ++ p.body)) s.0 ∙ ap (λ (l : List ℕ). length (c.bytes ++ l)) s.1

  pub ends_are : (contents : List Content) (starts : List StreamStart) → length starts ≡ length contents
      → ((j : ℕ) (p : StreamStart) → slice_get starts j ≡ Some p → (c : Content) × (slice_get contents j ≡ Some c) × StartsOn c p)
      → map (λ (p : StreamStart). length (started p)) starts ≡ map (λ (old : List ℕ). length (opened_with load start old)) (bytes_in contents)
  ends_are [] [] many each = refl
  ends_are [] (p ∷ starts) many each = absurd (omega (arith, many))
  ends_are (c ∷ contents) [] many each = absurd (omega (arith, many))
  ends_are (c ∷ contents) (p ∷ starts) many each =
      let here = each 0 p refl in
      let on = subst (λ (d : Content). StartsOn d p) (sym (some_is c here.0 here.1)) here.2 in
      ap (λ (k : ℕ). k ∷ map (λ (q : StreamStart). length (started q)) starts) (end_is c p on)
      ∙ ap (λ (l : List ℕ). length (opened_with load start c.bytes) ∷ l) (ends_are contents starts (omega (arith, many)) (λ j q at. each (suc j) q at))
