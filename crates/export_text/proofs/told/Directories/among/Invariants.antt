use Rattle.std.proofs.Common.{ℕ, List}
use Rattle.std.specs.Prelude.{All}
use Rattle.git_model.specs.Repository.{Object}
use Rattle.export_text.specs.Lines.{IsTold}
use Rattle.export_text.proofs.told.Directories.among.Given as goal

abbrev pub invariant-loop : goal.invariant-loop
invariant-loop l = (os : List Object) (out : List ℕ) → All (IsTold os out) l.directories.items
