use Rattle.std.proofs.Common.{◌≡◌, true, false, map, sym, subst, ◌∙◌, arith}
use Rattle.std.specs.Prelude.{string_bytes}
use Rattle.std.proofs.lemmas.List.{length-map}
use Rattle.clap.specs.Simple.{App}
use Rattle.clap.specs.Takes.{takes}
use Rattle.clap.specs.declared.error.kind.ErrorKind.TheVariants.{OutOfMemory}
use Rattle.tau_words.proofs.Splits.{found, taken}
use Rattle.tau_words.proofs.split.split.Goals as goal

pub returns-in-Ok-try_get_matches_from-clause-ok : goal.returns-in-Ok-try_get_matches_from-clause-ok
returns-in-Ok-try_get_matches_from-clause-ok c =
    found _ (map string_bytes c.args.words.now) c.in-Ok-try_get_matches_from.matches c.in-Ok.ensures c.requires.plain c.in-Ok-try_get_matches_from.ensures.matches

pub unreachable-requires : goal.unreachable-requires
unreachable-requires c =
    let words = map string_bytes c.args.words.now in
    let takes_them = subst (λ (a : App). takes a words ≡ true) (sym c.in-Ok.ensures) (taken words c.requires.plain (omega (arith, c.requires.short, length-map c.args.words.now string_bytes))) in
    let memory : c.kind.result ≡ OutOfMemory = c.kind.ensures ∙ c.in-Err.ensures.passes takes_them in
    let same = rw memory at c.ne.ensures in
    let bad : true ≡ false = sym c.if-ne.true ∙ same in
    absurd cc
