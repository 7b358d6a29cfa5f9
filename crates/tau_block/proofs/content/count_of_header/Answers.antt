use Rattle.std.proofs.Common.{◌∙◌, ℕ, List, ap, sym, inl, inr, arith}
use Rattle.std.specs.Prelude.{nat_eq}
use Rattle.std.specs.List.{starts_with}
use Rattle.tau_block.proofs.Blocks.{bad_magic, bad_count, bad_index, no_fault}
use Rattle.tau_block.specs.Image.{count_in, index_in}
use Rattle.tau_block.proofs.content.count_of_header.Goals as goal
use Rattle.tau_block.proofs.content.count_of_header.Goals.{then-count-lt1-via-then-count-lt1, then-count-lt1-via-else-count-lt1+then-count-most, then-index-j-via-then-index-j, then-index-j-via-else-index-j+then-index-count}

pub returns-then-not-starts_with-clause-bad : goal.returns-then-not-starts_with-clause-bad
returns-then-not-starts_with-clause-bad c =
    bad_magic c.args.j c.args.head.now c.args.format c.requires.states
    (sym (c.starts_with.ensures.value ∙ ap (λ (m : List ℕ). starts_with nat_eq c.args.head.now m) c.magic_of.ensures) ∙ c.if-not-starts_with.true)

pub returns-then-count-lt1-clause-bad : goal.returns-then-count-lt1-clause-bad
unfolding count_in
returns-then-count-lt1-clause-bad c =
    let magical = sym (c.starts_with.ensures.value ∙ ap (λ (m : List ℕ). starts_with nat_eq c.args.head.now m) c.magic_of.ensures) ∙ c.if-not-starts_with.false in
    elim c.then-count-lt1.branch [
      | then-count-lt1-via-then-count-lt1 w ↦ bad_count c.args.j c.args.head.now c.args.format c.requires.states magical c.from_be_bytes-count.result c.from_be_bytes-count.ensures (inl (omega arith))
      | then-count-lt1-via-else-count-lt1+then-count-most w ↦ bad_count c.args.j c.args.head.now c.args.format c.requires.states magical c.from_be_bytes-count.result c.from_be_bytes-count.ensures (inr (omega (arith, c.most_streams-most.ensures)))
    ]

pub returns-then-index-j-clause-bad : goal.returns-then-index-j-clause-bad
unfolding count_in index_in
returns-then-index-j-clause-bad c =
    let magical = sym (c.starts_with.ensures.value ∙ ap (λ (m : List ℕ). starts_with nat_eq c.args.head.now m) c.magic_of.ensures) ∙ c.if-not-starts_with.false in
    let wrong = bad_index c.args.j c.args.head.now c.args.format c.requires.states magical c.from_be_bytes-count.result c.from_be_bytes-count.ensures (omega arith) (omega (arith, c.most_streams-most.ensures)) c.from_be_bytes-index.result c.from_be_bytes-index.ensures in
    elim c.then-index-j.branch [
      | then-index-j-via-then-index-j w ↦ wrong (inl w.if-index-j.true)
      | then-index-j-via-else-index-j+then-index-count w ↦ wrong (inr (omega arith))
    ]

pub returns-clause-ok : goal.returns-clause-ok
unfolding count_in index_in
returns-clause-ok c = (
  no_fault c.args.j c.args.head.now c.args.format c.requires.states (sym (c.starts_with.ensures.value ∙ ap (λ (m : List ℕ). starts_with nat_eq c.args.head.now m) c.magic_of.ensures) ∙ c.if-not-starts_with.false) c.from_be_bytes-count.result c.from_be_bytes-count.ensures (omega arith) (omega (arith, c.most_streams-most.ensures))
      c.from_be_bytes-index.result c.from_be_bytes-index.ensures (omega arith) (omega arith),
  c.from_be_bytes-count.ensures,
)
