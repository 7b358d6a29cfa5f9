use Rattle.std.proofs.Common.{rules, ℕ, ◌≡◌, List, length, sym, ap, subst, ◌∙◌, arith}
use Rattle.tau_desk.specs.Laid.{AreFirstWords}
use Rattle.tau_desk.proofs.Beginning.{laid_begins, laid_count}
use Rattle.tau_desk.proofs.opens.table_of.Goals as goal

pub first_words-requires-clause-few : goal.first_words-requires-clause-few
first_words-requires-clause-few c =
    let o = c.args.key.now.value in
    let n = laid_count o c.requires.opened c.args.slots.items c.requires.laid.0 c.requires.laid.1 c.requires.laid.2 in
    let s = c.requires.opened.stands.sound in
    let w = s.workers_high in
    let t = s.streams_high in
    search rules

pub first_words-requires-clause-wide : goal.first_words-requires-clause-wide
first_words-requires-clause-wide c =
    let s = c.requires.opened.stands.sound in
    ap (λ (l : List ℕ). length l) c.requires.plv ∙ s.plv ∙ sym s.ends ∙ ap (λ (l : List ℕ). length l) (sym c.requires.ends)

pub new-requires : goal.new-requires
new-requires c =
    let o = c.args.key.now.value in
    let words : c.as_slice.result.now ≡ c.in_ok-words.words.items = c.as_slice.ensures.value in
    let count : c.len.result ≡ length c.args.slots.items = search rules in
    let first : AreFirstWords c.len.result o.ends o.plv c.as_slice.result.now =
    subst (λ (z : List ℕ × List ℕ × List ℕ). AreFirstWords c.len.result z.0 z.1 z.2) (λ i. (c.requires.ends i, c.requires.plv i, sym words i)) c.in_ok-words.ensures in
    laid_begins o c.requires.opened c.requires.short c.args.slots.items c.requires.laid.0 c.requires.laid.1 c.requires.laid.2 c.as_slice.result.now c.len.result count first

pub returns-clause-count : goal.returns-clause-count
returns-clause-count c = laid_count c.args.key.now.value c.requires.opened c.args.slots.items c.requires.laid.0 c.requires.laid.1 c.requires.laid.2
