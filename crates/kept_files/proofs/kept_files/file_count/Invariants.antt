use Rattle.std.specs.Prelude.{◌≡◌, ◌-◌, ◌^◌, min, take}
use Rattle.kept_files.specs.KeptCommits.{files_of}
use Rattle.kept_files.proofs.kept_files.file_count.Given as goal

-- those so far are counted
abbrev pub invariant-loop-commit : goal.invariant-loop-commit
invariant-loop-commit l = l.sum ≡ min (files_of (take l.commit-index l.kept)) (2 ^ 64 - 1)
