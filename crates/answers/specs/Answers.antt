-- The answer to a query, of a repository as last saved.
use Rattle.std.specs.Prelude.{◌≡◌, ℕ, List, Result, Ok, Err, if◌then◌else◌}
use Rattle.git_model.specs.declared.kind.Kind.TheVariants as kind
use Rattle.git_model.specs.GoodRepository.{AreObjects}
use Rattle.git_model.specs.Repository.{Object, Repository, object_named}
use Rattle.revisions.specs.declared.commit_range.Range.{Range}
use Rattle.revisions.specs.Expressions.{Expression}
use Rattle.revisions.specs.Resolution.{named_by, peeled}
use Rattle.revisions.specs.Logs.{named_log}
use Rattle.answers.specs.declared.query.Query.{Query}
use Rattle.answers.specs.declared.query.Query.TheVariants as queries
use Rattle.answers.specs.declared.query.ObjectQuery.{ObjectQuery}
use Rattle.answers.specs.declared.query.ObjectQuery.TheVariants.{RevParse, Abbrev, Cat, Ls}
use Rattle.answers.specs.declared.query.RepositoryQuery.{RepositoryQuery}
use Rattle.answers.specs.declared.query.RepositoryQuery.TheVariants.{Refs, Head, Export}
use Rattle.export_text.specs.Reached.{is_exportable}
use Rattle.export_text.specs.Export.{export_text}
use Rattle.answers.specs.declared.fault.Fault.{Fault}
use Rattle.answers.specs.declared.fault.Fault.TheVariants as fault
use Rattle.git_model.specs.Results.{and_then}
use Rattle.answers.specs.Faults.{resolved_or}
use Rattle.answers.specs.Queries.{query_of}
use Rattle.answers.specs.Printed.{line, name_line, shortest_prefix, object_text, tree_lines, log_lines, ref_lines}

-- The name of the object that an expression names.
abbrev pub object_asked : Repository → Expression → Result (List ℕ) Fault
object_asked repository expression =
    resolved_or (named_by repository.objects repository.refs expression)

-- What is printed of the object with a name. `cat` asks for an object that is there, and `ls` for
-- the tree that the object is peeled to.
abbrev pub told_of_object : List Object → List ℕ → ObjectQuery → Result (List ℕ) Fault
told_of_object os id RevParse = Ok (name_line id)
told_of_object os id Abbrev = Ok (line (shortest_prefix os id))
told_of_object os id Cat = object_text id (object_named id os)
told_of_object os id Ls =
    and_then (resolved_or (peeled os kind.Tree id)) (λ tree. Ok (tree_lines os tree))

-- The log of a range.
abbrev pub log_asked : Repository → Range Expression → Result (List (List ℕ)) Fault
log_asked repository range = resolved_or (named_log repository.objects repository.refs range)

-- The export, where there are not too many refs.
abbrev pub export_asked : Repository → Result (List ℕ) Fault
export_asked repository =
    if is_exportable repository then Ok (export_text repository) else Err fault.Limit

-- What is printed of a whole repository.
abbrev pub told_of_repository : Repository → RepositoryQuery → Result (List ℕ) Fault
told_of_repository r Refs = Ok (ref_lines r.refs)
told_of_repository r Head = Ok (line r.refs.head)
told_of_repository r Export = export_asked r

-- What a query prints, or what refuses it.
abbrev pub told : Repository → Query → Result (List ℕ) Fault
told r (queries.Object asked of) =
    and_then (object_asked r of) (λ id. told_of_object r.objects id asked)
told r (queries.Log of) = and_then (log_asked r of) (λ ids. Ok (log_lines r.objects ids))
told r (queries.Repository asked) = told_of_repository r asked

-- The answer to the bytes of a query.
abbrev pub answer_to : Repository → List ℕ → Result (List ℕ) Fault
answer_to repository text = and_then (query_of text) (told repository)

-- An export is this text of good objects, such as streams make. Each other query is answered of any
-- held objects.
abbrev pub AreGoodForExport : (List ℕ → List ℕ) → List Object → Result Query Fault → Type 0
AreGoodForExport digest os asked =
    asked ≡ Ok (queries.Repository Export) → AreObjects digest os
