-- What a tag names, apart from where its bytes are in memory.
use Rattle.std.specs.Prelude.{ℕ, List, Option, None, Some}
use Rattle.stream_grammar.specs.Names.{CommitIsh, Marked, Expression}

-- The commit-ish that is spelled so: a mark, or else these words.
abbrev pub spelled : Option ℕ → List ℕ → CommitIsh
spelled (Some mark) words = Marked mark
spelled None words = Expression words
