-- Words that are split, and those that a parse gives back.
use Rattle.std.specs.Prelude.{◌==◌, Bool, true, false, List, [], ◌∷◌, codes, Some, option_map, unwrap_or}
use Rattle.std.specs.List.{list_any}
use Rattle.clap.specs.Matches.{found_of, matched_of, raw_values}
use Rattle.clap.specs.Simple.{App, new_app, new_rule, on_top, with_rule}
use Rattle.clap.specs.Walk.{Rule}
use Rattle.clap.specs.declared.builder.action.ArgAction.TheVariants.{Append}
use Rattle.clap.specs.declared.parser.matches.ArgMatches.{ArgMatches}
use Rattle.tau_words.specs.Words.{Word}

-- the word begins with a hyphen
abbrev pub is_flag : Word → Bool
is_flag [] = false
is_flag (c ∷ cs) = c == 45

abbrev pub has_flag : List Word → Bool
has_flag words = list_any is_flag words

-- the values of the one argument
abbrev pub found_words : ArgMatches → List Word
found_words m = unwrap_or (option_map raw_values (matched_of (found_of m) (codes "word"))) []

-- the one argument, which takes up to 7 words
abbrev pub word_rule : Rule
word_rule = record (new_rule (codes "word")) { action = Some Append; range = Some (record { start_inclusive = 0; end_inclusive = 7 }) }

-- the parser: every word is a value of that argument, and there are no flags
abbrev pub words_app : App
words_app = with_rule (on_top (λ s. record s { no_binary_name = true; disable_help_flag = true }) (new_app (codes "taurus"))) word_rule
