-- What is printed of a stored tree: git-fast-import(1), "ls".
use Rattle.std.specs.Prelude.{ℕ, List, ◌++◌, Option, None, Some, Result, Ok, codes}
use Rattle.git_model.specs.declared.kind.Kind.TheVariants as kind
use Rattle.git_model.specs.Repository.{Object, object_named}
use Rattle.git_model.specs.StoredPath.{entry_at_path}
use Rattle.git_model.specs.Tree.{TreeEntry}
use Rattle.git_objects.specs.Listing.{listing}
use Rattle.git_paths.specs.Paths.{joined}
use Rattle.git_paths.specs.Quoting.{quoted}
use Rattle.revisions.specs.Expressions.{Path}
use Rattle.revisions.specs.Resolution.{peeled}
use Rattle.stream_grammar.specs.declared.data_ref.DataRef.{DataRef}
use Rattle.stream_parts.specs.declared.fault.Fault.{Fault}
use Rattle.stream_parts.specs.declared.fault.Fault.TheVariants as fault
use Rattle.git_model.specs.Results.{and_then, or_fault}
use Rattle.stream_parts.specs.Faults.{resolved_or}
use Rattle.stream_parts.specs.Marks.{Marks, referred_name}

-- An entry is listed as git-ls-tree(1) lists it. If nothing is at the path, this is printed:
-- 'missing' SP <path> LF
abbrev pub entry_line : Path → Option TreeEntry → List ℕ
entry_line path None = codes "missing " ++ quoted (joined path)
entry_line path (Some entry) = listing entry.mode entry.id (joined path)

-- The stored tree that an object is peeled to. The object must be there.
abbrev pub tree_in : List Object → List ℕ → Result (List ℕ) Fault
tree_in objects id =
    and_then (or_fault fault.ObjectUnknown (object_named id objects)) (λ _.
    resolved_or (peeled objects kind.Tree id))

-- 'ls' with a dataref: what is at a path of the tree.
abbrev pub entry_shown : List Object → Marks → DataRef → Path → Result (List ℕ) Fault
entry_shown objects marks root path =
    and_then (referred_name marks root) (λ id.
    and_then (tree_in objects id) (λ tree.
    Ok (entry_line path (entry_at_path objects tree path))))
