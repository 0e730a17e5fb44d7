-- Features and options: git-fast-import(1), "feature" and "option".
use Rattle.std.specs.Prelude.{ℕ, Bool, ◌||◌, nat_eq, if◌then◌else◌, List, Result, Ok, Err, codes}
use Rattle.std.specs.List.{starts_with}
use Rattle.std.specs.Str.{bytes_eq}
use Rattle.stream_grammar.specs.declared.fault.Fault.{Fault}
use Rattle.stream_grammar.specs.declared.fault.Fault.TheVariants as fault
use Rattle.stream_grammar.specs.declared.feature.Feature.{Feature}
use Rattle.stream_grammar.specs.declared.feature.Feature.TheVariants as feature
use Rattle.stream_grammar.specs.declared.feature.OptionCommand.{OptionCommand}
use Rattle.stream_grammar.specs.declared.feature.OptionCommand.TheVariants as option
use Rattle.stream_grammar.specs.Names.{ref_of}

-- A feature is one of these words, as a whole.
unfoldable pub feature_of : List ℕ → Result Feature Fault
feature_of word =
    if bytes_eq word (codes "done") then Ok feature.Done
    else if bytes_eq word (codes "force") then Ok feature.Force
    else if bytes_eq word (codes "get-mark") then Ok feature.GetMark
    else if bytes_eq word (codes "cat-blob") then Ok feature.CatBlob
    else if bytes_eq word (codes "ls") then Ok feature.Ls
    else if bytes_eq word (codes "date-format=raw") then Ok feature.RawDates
    else Err fault.FeatureNotSupported

-- A feature comes before other commands. This is checked before its words.
unfoldable pub in_time : Bool → Result Unit Fault
in_time late = if late then Err fault.FeatureTooLate else Ok tt

-- An option is one of Git, or sets HEAD of the gitpool repository, or is one of another system.
unfoldable pub option_of : List ℕ → OptionCommand
option_of words =
    if bytes_eq words (codes "git") || starts_with nat_eq words (codes "git ") then option.Git
    else if starts_with nat_eq words (codes "gitpool head ") then option.Head
    else option.Other

-- The only option of Git that is supported is `quiet`.
unfoldable pub quiet_of : List ℕ → Result Unit Fault
quiet_of words =
    if bytes_eq words (codes "git quiet") then Ok tt else Err fault.FeatureNotSupported

-- The ref that HEAD shall point to, which is not `HEAD` itself.
unfoldable pub head_of : List ℕ → Result (List ℕ) Fault
head_of text = if bytes_eq text (codes "HEAD") then Err fault.BadRefName else ref_of text
