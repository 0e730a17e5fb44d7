-- Revision expressions: gitrevisions(7), "Specifying Revisions" and "Specifying Ranges".
use Rattle.std.specs.Prelude.{ℕ, List, [], codes}
use Rattle.revisions.specs.declared.suffix.Suffix.{Suffix}

-- A path is the list of its components.
abbrev pub Path : Type 0
Path = List (List ℕ)

-- An expression is a base, `<sha1>`, `<refname>`, `HEAD` or `@`, and suffixes from left to right.
pub record Expression : Type 0 where
  pub base : List ℕ
  pub suffixes : List Suffix

-- The expression for an empty side of a range.
abbrev pub head : Expression
head = record { base = codes "HEAD"; suffixes = [] }
