-- Queries: a word and perhaps, after a space, its argument; git-rev-parse(1), git-cat-file(1),
-- git-ls-tree(1), git-log(1), git-show-ref(1), git-fast-export(1).
use Rattle.std.specs.Prelude.{ℕ, ◌+◌, ◌==◌, nat_lt, Bool, if◌then◌else◌, List, length, drop, position, Option, None, Some, Result, Err, codes}
use Rattle.std.specs.Option.{option_map}
use Rattle.std.specs.List.{before_first}
use Rattle.std.specs.Str.{bytes_eq}
use Rattle.git_model.specs.Limits.{query_limit}
use Rattle.revisions.specs.declared.commit_range.Range.{Range}
use Rattle.revisions.specs.Expressions.{Expression}
use Rattle.revisions.specs.ExpressionReading.{expression_of, range_of}
use Rattle.answers.specs.declared.query.Query.{Query}
use Rattle.answers.specs.declared.query.Query.TheVariants.{Object, Log, Repository}
use Rattle.answers.specs.declared.query.ObjectQuery.TheVariants.{RevParse, Abbrev, Cat, Ls}
use Rattle.answers.specs.declared.query.RepositoryQuery.TheVariants.{Refs, Head, Export}
use Rattle.answers.specs.declared.query.Word.{Word}
use Rattle.answers.specs.declared.query.Word.TheVariants as words
use Rattle.answers.specs.declared.fault.Fault.{Fault}
use Rattle.answers.specs.declared.fault.Fault.TheVariants as fault
use Rattle.git_model.specs.Results.{and_then, or_fault}

-- The argument of a query is what is after its first space, where it has one.
abbrev pub is_space : ℕ → Bool
is_space byte = byte == 32

abbrev pub after_space : List ℕ → Option (List ℕ)
after_space text = option_map (λ i. drop (i + 1) text) (position is_space text)

-- A query begins with one of these words, compared whole.
unfoldable pub word_of : List ℕ → Option Word
word_of word =
    if bytes_eq word (codes "rev-parse") then Some (words.Object RevParse)
    else if bytes_eq word (codes "abbrev") then Some (words.Object Abbrev)
    else if bytes_eq word (codes "cat") then Some (words.Object Cat)
    else if bytes_eq word (codes "ls") then Some (words.Object Ls)
    else if bytes_eq word (codes "log") then Some words.Log
    else if bytes_eq word (codes "refs") then Some (words.Repository Refs)
    else if bytes_eq word (codes "head") then Some (words.Repository Head)
    else if bytes_eq word (codes "export") then Some (words.Repository Export)
    else None

-- A word that takes a revision, one that takes a range, and one that takes nothing.
abbrev pub of_revision : (Expression → Query) → Option (List ℕ) → Option Query
of_revision query None = None
of_revision query (Some text) = option_map query (expression_of text)

abbrev pub of_range : (Range Expression → Query) → Option (List ℕ) → Option Query
of_range query None = None
of_range query (Some text) = option_map query (range_of text)

abbrev pub alone : Query → Option (List ℕ) → Option Query
alone query None = Some query
alone query (Some text) = None

-- The query of each word with its argument.
abbrev pub query_by : Word → Option (List ℕ) → Option Query
query_by (words.Object asked) = of_revision (Object asked)
query_by words.Log = of_range Log
query_by (words.Repository asked) = alone (Repository asked)

-- The query that a text is. The limit is judged first, then the word, then what stands after it.
unfoldable pub query_of : List ℕ → Result Query Fault
query_of text =
    if nat_lt query_limit (length text) then Err fault.MalformedQuery
    else and_then (or_fault fault.UnknownQuery (word_of (before_first is_space text))) (λ word.
    or_fault fault.MalformedQuery (query_by word (after_space text)))
