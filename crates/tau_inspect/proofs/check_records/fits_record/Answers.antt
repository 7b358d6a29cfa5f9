-- The four tests of a record.
use Rattle.std.proofs.Common.{ℕ, true, false, ◌≡◌, ◌≤◌, length, refl, sym, ap, ◌∙◌, arith}
use Rattle.std.specs.Prelude.{slice_index_or}
use Rattle.std.proofs.lemmas.Bool.{both_ways}
use Rattle.tau_inspect.specs.Audit.{Case, has_record}
use Rattle.tau_inspect.proofs.Recorded.{act_small, recorded}
use Rattle.tau_inspect.specs.Cases.{in_case}
use Rattle.tau_inspect.proofs.check_records.fits_record.Goals as goal

pub returns-then-number-len : goal.returns-then-number-len
returns-then-number-len c =
    let k : Case = (in_case c.args.case.now) in
    λ before flags. (
      (λ t. absurd (both_ways false refl t)),
      (λ h.
          let small = act_small k c.args.done.now c.requires.done c.requires.many c.requires.there c.requires.unique c.args.one.now h.act in
          absurd (omega (arith, small.1, c.if-number-len.true, c.number.ensures, c.len.ensures))),
    )

pub returns-then-is_flagged : goal.returns-then-is_flagged
returns-then-is_flagged c =
    let n : ℕ = c.args.one.now.number in
    λ before flags. (
      (λ t. absurd (both_ways false refl t)),
      (λ h.
          let small : n ≤ length c.args.case.now.load.now.calls = omega (arith, c.if-number-len.false, c.number.ensures, c.len.ensures) in
          let told : has_record n before ≡ slice_index_or c.args.seen.now n false = recorded n before ∙ sym (flags.tells n small) in
          let seen : slice_index_or c.args.seen.now n false ≡ true = ap (λ (m : ℕ). slice_index_or c.args.seen.now m false) (sym c.number-2.ensures) ∙ sym c.is_flagged.ensures ∙ c.if-is_flagged.true in
          absurd (both_ways (has_record n before) h.first (told ∙ seen))),
    )

pub returns : goal.returns
returns c =
    let n : ℕ = c.args.one.now.number in
    λ before flags.
    let small : n ≤ length c.args.case.now.load.now.calls = omega (arith, c.if-number-len.false, c.number.ensures, c.len.ensures) in
    let told : has_record n before ≡ slice_index_or c.args.seen.now n false = recorded n before ∙ sym (flags.tells n small) in
    let unseen : slice_index_or c.args.seen.now n false ≡ false = ap (λ (m : ℕ). slice_index_or c.args.seen.now m false) (sym c.number-2.ensures) ∙ sym c.is_flagged.ensures ∙ c.if-is_flagged.false in (
      (λ t. record {
        act = c.has_act.ensures.0 c.if-not-has_act.false;
        first = told ∙ unseen;
        home = c.is_home.ensures.0 c.if-not-is_home.false;
        ack = c.ack_agrees.ensures.0 t;
      }),
      (λ h. c.ack_agrees.ensures.1 h.ack),
    )
