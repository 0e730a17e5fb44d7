-- Where the import of an export ends: git-fast-import(1), "checkpoint".
use Rattle.std.specs.Prelude.{◌≡◌, ℕ, false, List, [], ◌++◌, length, None}
use Rattle.std.specs.List.{flat_map}
use Rattle.git_model.specs.Repository.{Repository}
use Rattle.stream_lex.specs.Reading.{reading}
use Rattle.stream_grammar.specs.Commands.{Done}
use Rattle.export_text.specs.Export.{export_text}
use Rattle.export_text.specs.ExportActs.{all_ref_acts, removal_acts}
use Rattle.export_text.specs.Reached.{extra_tag_refs}
use Rattle.stream_commands.specs.Checkpoints.{checkpoint}
use Rattle.import_session.specs.Stream.{Outcome, begun, carried, finished}
use Rattle.stream_commands.specs.Workspace.{Workspace, opened, quiet}
use Rattle.export_laws.specs.Copies.{IsCopyOf}
use Rattle.export_laws.specs.Leaving.{Leaves}
use Rattle.export_laws.specs.Told.{Told}
use Rattle.export_laws.specs.Whole.{nothing_there}

-- The acts of an export once all its objects are saved: they remove the refs that the tags have set
-- and the repository does not have, and they set each ref of the repository.
abbrev pub acts_of_refs : Repository → List Done
acts_of_refs repository =
    flat_map removal_acts (extra_tag_refs repository) ++ all_ref_acts repository

-- These acts lead from the saved workspace to one at which the stream may end. A checkpoint of that
-- one prints nothing, and leaves the refs and HEAD of the repository and all objects that were
-- told.
pub record AreRefsLeft (digest : List ℕ → List ℕ) (repository : Repository) (told : Told)
    (saved : Workspace) : Type 0 where
  pub last : Workspace
  pub leaves : Leaves digest (acts_of_refs repository) saved last
  pub needs_done : last.stream.needs_done ≡ false
  pub done : Workspace
  pub ends : checkpoint last ≡ quiet done
  pub refs : done.refs ≡ repository.refs
  pub objects : done.objects ≡ told.objects
  pub committed : done.committed ≡ length told.objects

-- ---- the import of a text into an empty repository

-- How the stream stands after the last byte, and what it has printed.
abbrev pub imported : (List ℕ → List ℕ) → List ℕ → Outcome
imported digest text =
    let read = reading false text in
    carried digest (begun (opened nothing_there)) read.items read.tail

-- The export of a repository is imported: nothing is refused, nothing is printed, and what is left
-- is a copy.
pub record IsImported (digest : List ℕ → List ℕ) (repository : Repository) : Type 0 where
  pub left : Repository
  pub prints : (imported digest (export_text repository)).replies ≡ []
  pub ends : finished digest (imported digest (export_text repository)).status
      ≡ record { fault = None; reply = []; repository = left }
  pub copy : IsCopyOf repository left
