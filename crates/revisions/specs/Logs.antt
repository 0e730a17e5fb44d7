-- Logs of ranges: git-log(1), the commits of a range from new to old.
use Rattle.std.specs.Prelude.{ℕ, List, Result, Ok}
use Rattle.git_model.specs.RefStore.{RefStore}
use Rattle.git_model.specs.Repository.{Object}
use Rattle.commit_walk.specs.Logs.{log_of}
use Rattle.revisions.specs.declared.fault.Fault.{Fault}
use Rattle.revisions.specs.declared.fault.Fault.TheVariants as fault
use Rattle.revisions.specs.declared.commit_range.Range.{Range}
use Rattle.revisions.specs.Expressions.{Expression}
use Rattle.revisions.specs.ExpressionReading.{range_of}
use Rattle.git_model.specs.Results.{and_then, or_fault}
use Rattle.revisions.specs.Ranges.{is_in_range, range_named}

-- The log of a range of expressions.
abbrev pub named_log : List Object → RefStore → Range Expression → Result (List (List ℕ)) Fault
named_log os store range =
    and_then (range_named os store range) (λ ids. Ok (log_of os (is_in_range os ids)))

-- The log of the range that a text is. A malformed side is refused before anything is looked up.
abbrev pub range_log : List Object → RefStore → List ℕ → Result (List (List ℕ)) Fault
range_log os store text =
    and_then (or_fault fault.Malformed (range_of text)) (named_log os store)
