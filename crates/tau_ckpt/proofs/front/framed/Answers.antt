use Rattle.std.proofs.Common.{◌≡◌, ◌-◌, ◌∙◌, List, ℕ, length, take, drop, sym, ap, arith, true, length-drop}
use Rattle.std.specs.List.{starts_with}
use Rattle.std.specs.Prelude.{nat_eq}
use Rattle.std.proofs.lemmas.List.{take_all}
use Rattle.tau_base.proofs.Logic.{not_both}
use Rattle.tau_ckpt.specs.Slot.{frame}
use Rattle.tau_ckpt.proofs.Fields.{starts_same, starts_self}
use Rattle.tau_ckpt.proofs.Parts.{frame_again, frame_long, frame_short, framed_here, size_at, size_within, streams_are, streams_at}
use Rattle.tau_ckpt.proofs.front.framed.Goals as goal

-- what stands after the gate
tail : (image : List ℕ) → take (length image - 1) (drop 1 image) ≡ drop 1 image
tail image = take_all (length image - 1) (drop 1 image) (omega (arith, length-drop 1 image))

pub returns-then-image-le-FRAME-clause-none : goal.returns-then-image-le-FRAME-clause-none
returns-then-image-le-FRAME-clause-none c = λ streams body f.
    omega (arith, c.if-image-le-FRAME.true, frame_short c.args.slot c.args.image.now streams body f)

pub returns-then-streams-lt1-clause-none : goal.returns-then-streams-lt1-clause-none
returns-then-streams-lt1-clause-none c = λ streams body f.
    let image = c.args.image.now in
    let front = c.split_at.result.0.now in
    let same : c.from_be_bytes-streams.result ≡ streams_at front = c.from_be_bytes-streams.ensures in
    omega (arith, same, streams_are c.args.slot image front c.split_at.result.1.now (c.split_at.ensures.front ∙ ap (take 24) (tail image)) (c.split_at.ensures.back ∙ ap (drop 24) (tail image)) streams body f, f.some, c.if-streams-lt1.true)

pub returns-then-streams-gt-MAX_STREAMS-clause-none : goal.returns-then-streams-gt-MAX_STREAMS-clause-none
returns-then-streams-gt-MAX_STREAMS-clause-none c = λ streams body f.
    let image = c.args.image.now in
    let front = c.split_at.result.0.now in
    let same : c.from_be_bytes-streams.result ≡ streams_at front = c.from_be_bytes-streams.ensures in
    omega (arith, same, streams_are c.args.slot image front c.split_at.result.1.now (c.split_at.ensures.front ∙ ap (take 24) (tail image)) (c.split_at.ensures.back ∙ ap (drop 24) (tail image)) streams body f, f.few, c.if-streams-gt-MAX_STREAMS.true)

pub returns-then-not-starts_with-clause-none : goal.returns-then-not-starts_with-clause-none
returns-then-not-starts_with-clause-none c = λ streams body f.
    let image = c.args.image.now in
    let front = c.split_at.result.0.now in
    let n : c.from_be_bytes-streams.result ≡ streams_at front = c.from_be_bytes-streams.ensures in
    let size : c.from_be_bytes-size.result ≡ size_at front = c.from_be_bytes-size.ensures in
    let again : front ≡ frame (streams_at front) c.args.slot (size_at front) = frame_again c.args.slot image front c.split_at.result.1.now (c.split_at.ensures.front ∙ ap (take 24) (tail image)) (c.split_at.ensures.back ∙ ap (drop 24) (tail image)) streams body f in
    let made : c.frame.result ≡ front = c.frame.ensures ∙ (λ i. frame (n i) c.args.slot (size i)) ∙ sym again in
    let held : c.starts_with.result ≡ true = c.starts_with.ensures.value ∙ ap (λ (l : List ℕ). starts_with nat_eq front l) made ∙ starts_self front in
    not_both c.starts_with.result c.if-not-starts_with.true held

pub returns-then-size-behind-clause-none : goal.returns-then-size-behind-clause-none
returns-then-size-behind-clause-none c = λ streams body f.
    let image = c.args.image.now in
    let front = c.split_at.result.0.now in
    let size : c.from_be_bytes-size.result ≡ size_at front = c.from_be_bytes-size.ensures in
    omega (arith, size, size_within c.args.slot image front c.split_at.result.1.now (c.split_at.ensures.front ∙ ap (take 24) (tail image)) (c.split_at.ensures.back ∙ ap (drop 24) (tail image)) streams body f, c.if-size-behind.true)

pub returns-clause-some : goal.returns-clause-some
returns-clause-some c =
    let image = c.args.image.now in
    let front = c.split_at.result.0.now in
    let long : length c.frame.result ≡ 24 = ap length c.frame.ensures ∙ frame_long c.from_be_bytes-streams.result c.args.slot c.from_be_bytes-size.result in
    let same : front ≡ frame c.from_be_bytes-streams.result c.args.slot c.from_be_bytes-size.result =
    starts_same front c.frame.result (omega (arith, long, c.split_at.ensures.front_len)) (sym c.starts_with.ensures.value ∙ c.if-not-starts_with.false) ∙ c.frame.ensures in
    framed_here c.args.slot image front c.split_at.result.1.now (c.split_at.ensures.front ∙ ap (take 24) (tail image)) (c.split_at.ensures.back ∙ ap (drop 24) (tail image))
    c.from_be_bytes-streams.result c.from_be_bytes-size.result (omega (arith, c.if-image-le-FRAME.false)) c.if-image-ne1.false (omega (arith, c.if-streams-lt1.false)) (omega (arith, c.if-streams-gt-MAX_STREAMS.false))
    (omega arith) same c.if-size-behind.false
