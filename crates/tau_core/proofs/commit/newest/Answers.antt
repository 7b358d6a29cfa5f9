use Rattle.std.proofs.Common.{ℕ, ◌+◌, ◌-◌, ◌≤◌, ◌≡◌, List, inl, inr, [], ◌∷◌, length, refl, sym, ap, ◌∙◌, Option, arith}
use Rattle.std.specs.Prelude.{Some, slice_get, slice_index}
use Rattle.std.proofs.lemmas.List.{length-replicate}
use Rattle.std.proofs.lemmas.Option.{slice_get_read}
use Rattle.tau_core.specs.Plain.{PlainStream}
use Rattle.tau_core.specs.View.{anchors_in}
use Rattle.tau_core.specs.Pieces.{newest_of}
use Rattle.tau_core.proofs.Found.{found_part, part_in}
use Rattle.tau_core.proofs.Lists.{member_got}
use Rattle.tau_core.proofs.commit.newest.Goals as goal

newest_some : (before : ℕ) (list : List (List ℕ)) → 1 ≤ length list → newest_of before list ≡ before + length list
newest_some before [] low = absurd (omega arith)
newest_some before (a ∷ rest) low = refl

newest_none : (before : ℕ) (list : List (List ℕ)) → length list ≡ 0 → newest_of before list ≡ 0
newest_none before [] e = refl
newest_none before (a ∷ rest) e = absurd (omega arith)

pub returns-then-count-eq0-clause-newest : goal.returns-then-count-eq0-clause-newest
returns-then-count-eq0-clause-newest c = λ so.
    let is = found_part c.args.state.now c.args.stream c.index-part.result.now c.part.inside c.requires.sound c.requires.there c.index-part.ensures c.part.view_is in
    let none : length c.part.inside.anchors.items ≡ 0 = (let e = c.len-count.ensures in let o = c.part.inside.anchors.ok in let z = c.if-count-eq0.true in omega arith) in
    c.requires.number ∙ sym (ap (λ (o : Option PlainStream). newest_of (slice_index c.args.state.now.load.opening.anchors.items c.args.stream) (anchors_in o)) is
    ∙ newest_none (slice_index c.args.state.now.load.opening.anchors.items c.args.stream) c.part.inside.anchors.items none)

pub returns-then-count-eq0-clause-names : goal.returns-then-count-eq0-clause-names
returns-then-count-eq0-clause-names c = λ so. inl (c.requires.number, c.requires.zero)

pub returns-then-count-eq0-clause-wide : goal.returns-then-count-eq0-clause-wide
returns-then-count-eq0-clause-wide c = λ so. ap (length {A = ℕ}) c.requires.zero ∙ length-replicate c.args.state.now.load.streams 0

pub returns-clause-newest : goal.returns-clause-newest
returns-clause-newest c = λ so.
    let is = found_part c.args.state.now c.args.stream c.index-part.result.now c.part.inside c.requires.sound c.requires.there c.index-part.ensures c.part.view_is in
    let count : c.len-count.result ≡ length c.part.inside.anchors.items = (let e = c.len-count.ensures in let o = c.part.inside.anchors.ok in omega arith) in
    let low : 1 ≤ length c.part.inside.anchors.items = (let n = c.if-count-eq0.false in omega arith) in
    let before : c.from.result ≡ slice_index c.args.state.now.load.opening.anchors.items c.args.stream = c.from.ensures ∙ ap (λ (l : List ℕ). slice_index l c.args.stream) c.as_slice.ensures.value in
    let whole : newest_of (slice_index c.args.state.now.load.opening.anchors.items c.args.stream) (anchors_in (slice_get c.args.state.now.streams.items c.args.stream))
    ≡ slice_index c.args.state.now.load.opening.anchors.items c.args.stream + length c.part.inside.anchors.items =
    ap (λ (o : Option PlainStream). newest_of (slice_index c.args.state.now.load.opening.anchors.items c.args.stream) (anchors_in o)) is
    ∙ newest_some (slice_index c.args.state.now.load.opening.anchors.items c.args.stream) c.part.inside.anchors.items low in
    (let sum : c.from.result + c.len-count.result ≡ slice_index c.args.state.now.load.opening.anchors.items c.args.stream + length c.part.inside.anchors.items = omega arith in sum ∙ sym whole)

pub returns-clause-names : goal.returns-clause-names
returns-clause-names c = λ so.
    let is = found_part c.args.state.now c.args.stream c.index-part.result.now c.part.inside c.requires.sound c.requires.there c.index-part.ensures c.part.view_is in
    let anchors : anchors_in (slice_get c.args.state.now.streams.items c.args.stream) ≡ c.part.inside.anchors.items = ap anchors_in is in
    let count : c.len-count.result ≡ length c.part.inside.anchors.items = (let e = c.len-count.ensures in let o = c.part.inside.anchors.ok in omega arith) in
    let low : 1 ≤ c.len-count.result = (let n = c.if-count-eq0.false in omega arith) in
    let got : slice_get c.part.inside.anchors.items (c.len-count.result - 1) ≡ Some c.index.result.now =
    slice_get_read c.part.inside.anchors.items (length c.part.inside.anchors.items) (c.len-count.result - 1) c.index.result.now refl (omega arith) c.index.ensures in
    let before : c.from.result ≡ slice_index c.args.state.now.load.opening.anchors.items c.args.stream = c.from.ensures ∙ ap (λ (l : List ℕ). slice_index l c.args.stream) c.as_slice.ensures.value in
    inr (c.len-count.result - 1, (omega arith), ap (λ (l : List (List ℕ)). slice_get l (c.len-count.result - 1)) anchors ∙ got ∙ ap (λ (l : List ℕ). Some l) (sym c.copy_from.ensures))

pub returns-clause-wide : goal.returns-clause-wide
returns-clause-wide c = λ so.
    let is = found_part c.args.state.now c.args.stream c.index-part.result.now c.part.inside c.requires.sound c.requires.there c.index-part.ensures c.part.view_is in
    let count : c.len-count.result ≡ length c.part.inside.anchors.items = (let e = c.len-count.ensures in let o = c.part.inside.anchors.ok in omega arith) in
    let low : 1 ≤ c.len-count.result = (let n = c.if-count-eq0.false in omega arith) in
    let got : slice_get c.part.inside.anchors.items (c.len-count.result - 1) ≡ Some c.index.result.now =
    slice_get_read c.part.inside.anchors.items (length c.part.inside.anchors.items) (c.len-count.result - 1) c.index.result.now refl (omega arith) c.index.ensures in
    ap (λ (l : List ℕ). length l) c.copy_from.ensures ∙ (c.requires.sound.wide c.args.stream (part_in c.part.inside) is).0 c.index.result.now (member_got c.part.inside.anchors.items (c.len-count.result - 1) c.index.result.now got)
