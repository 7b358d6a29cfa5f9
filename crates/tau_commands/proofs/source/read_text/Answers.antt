use Rattle.std.proofs.Common.{◌≡◌, ◌++◌, ◌+◌, ℕ, List, [], ◌∷◌, length, drop, take, rules, vec_len, refl, arith, append_assoc, append-nil, sym, ◌∙◌, ap, length-append}
use Rattle.std.proofs.lemmas.List.{length-take}
use Rattle.std.proofs.Math.Seq.{drop-append_seam}
use Rattle.tau_disk.specs.Disk.{Moved}
use Rattle.tau_commands.specs.Source.{ReadsText}
use Rattle.tau_commands.proofs.source.read_text.Goals as goal

more : (old text part before now : List ℕ) → old ≡ text ++ before → before ≡ part ++ now → old ≡ (text ++ part) ++ now
more old text part before now was is = was ∙ ap (λ (xs : List ℕ). text ++ xs) is ∙ sym (append_assoc text part now)

past : (old text part now : List ℕ) (n : ℕ) → old ≡ (text ++ part) ++ now → length part ≡ n → now ≡ drop (length text + n) old
past old text part now n is size =
    let count : length (text ++ part) ≡ length text + n = omega (arith, size, length-append text part) in
    sym (ap (λ (xs : List ℕ). drop (length text + n) xs) is ∙ ap (λ (k : ℕ). drop k ((text ++ part) ++ now)) (sym count) ∙ drop-append_seam (text ++ part) now)

behind : (old text now : List ℕ) → old ≡ text ++ now → now ≡ drop (length text) old
behind old text now is = sym (ap (λ (xs : List ℕ). drop (length text) xs) is ∙ drop-append_seam text now)

-- nothing was left, so that nothing was moved
emptied : (before now bytes : List ℕ) (n : ℕ) → Moved before now n bytes → n ≡ 0 → now ≡ []
emptied before now [] n moved none = sym moved.split ∙ moved.none none
emptied before now (x ∷ xs) n moved none = absurd (let count = moved.count in omega (arith, count, none))

whole : (old text before now bytes : List ℕ) (n : ℕ) → old ≡ text ++ before → Moved before now n bytes → n ≡ 0 → ReadsText old now text
whole old text before now bytes n was moved none = record {
  whole = sym (was ∙ ap (λ (xs : List ℕ). text ++ xs) (moved.none none) ∙ append-nil text);
  nothing = emptied before now bytes n moved none;
}

pub loop-text-preserved : goal.loop-text-preserved
loop-text-preserved g c =
    let added : c.extend_from_slice.new.self.items ≡ c.loop-text.text.items ++ take c.in_ok-count.count c.read.new.buf = search rules in
    let longer : vec_len c.extend_from_slice.new.self ≡ vec_len c.loop-text.text + length (take c.in_ok-count.count c.read.new.buf) = search rules in
    record {
      within = omega (arith, c.in_ok-count.ensures.bound, longer, length-take c.min-wanted.result c.deref_mut.result.now, length-take c.in_ok-count.count c.read.new.buf);
      room = omega arith;
      read = λ tells. rw added (more _ _ _ _ _ (c.loop-text.invariant.read tells) (c.in_ok-count.ensures.bytes tells).split);
      later = omega (arith, c.in_ok-count.ensures.cause.later);
    }

pub returns-in_err-extend_from_slice-clause-reads : goal.returns-in_err-extend_from_slice-clause-reads
returns-in_err-extend_from_slice-clause-reads g c tells = (
  length c.loop-text.text.items + c.in_ok-count.count,
  omega (arith, c.in_ok-count.ensures.bound, length-take c.min-wanted.result c.deref_mut.result.now),
  past _ _ _ _ _ (more _ _ _ _ _ (c.loop-text.invariant.read tells) (c.in_ok-count.ensures.bytes tells).split) (c.in_ok-count.ensures.bytes tells).count,
)

pub returns-in_err-chunk-clause-reads : goal.returns-in_err-chunk-clause-reads
returns-in_err-chunk-clause-reads g c tells = (0, omega arith, refl)

pub returns-in_err-count-clause-reads : goal.returns-in_err-count-clause-reads
returns-in_err-count-clause-reads g c tells = (
  length c.loop-text.text.items,
  omega arith,
  c.in_err-count.ensures.none ∙ behind _ _ _ (c.loop-text.invariant.read tells),
)

pub returns-then-count-eq0-clause-text : goal.returns-then-count-eq0-clause-text
returns-then-count-eq0-clause-text g c tells = whole _ _ _ _ _ _ (c.loop-text.invariant.read tells) (c.in_ok-count.ensures.bytes tells) c.if-count-eq0.true

pub returns-then-count-eq0-clause-reads : goal.returns-then-count-eq0-clause-reads
returns-then-count-eq0-clause-reads g c tells =
    let moved = c.in_ok-count.ensures.bytes tells in
    (length c.loop-text.text.items, omega arith, emptied _ _ _ _ moved c.if-count-eq0.true ∙ sym (moved.none c.if-count-eq0.true) ∙ behind _ _ _ (c.loop-text.invariant.read tells))

pub returns-clause-text : goal.returns-clause-text
returns-clause-text g c tells =
    omega (arith, c.loop-text-test.false, ap (λ (xs : List ℕ). length xs) (c.loop-text.invariant.read tells), length-append c.loop-text.text.items (g.S.Source.left c.loop-text.source))

pub returns-clause-reads : goal.returns-clause-reads
returns-clause-reads g c tells = (length c.loop-text.text.items, omega arith, behind _ _ _ (c.loop-text.invariant.read tells))
