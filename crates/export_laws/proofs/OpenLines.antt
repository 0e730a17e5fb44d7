-- The lines of a commit before its parents: it begins, and is open with its message.
use Rattle.std.proofs.Common.{◌≡◌, ℕ, List, [], ◌∷◌, ◌++◌, Option, None, Some, Result, Ok, refl, sym, ap, ◌∙◌, inl, inr, All, subst}
use Rattle.std.proofs.lemmas.List.Elements.{All-head}
use Rattle.git_model.specs.GoodRepository.{AreObjects}
use Rattle.git_model.specs.Repository.{Object}
use Rattle.tenant_tables.specs.Sums.{TreesFit}
use Rattle.file_maps.specs.FileMap.{FileMap}
use Rattle.file_maps.specs.StoredFiles.{commit_map}
use Rattle.stream_grammar.specs.Acts.{Wait, Commit as CommitAct, Ref}
use Rattle.stream_grammar.specs.Acts.{Begin, Author, Committer, Encoding, Message}
use Rattle.stream_grammar.specs.Acts.{Reset}
use Rattle.open_commits.specs.OpenCommit.{Header, OpenCommit as Open, begun}
use Rattle.stream_parts.specs.declared.branches.Tip.{Tip}
use Rattle.stream_parts.specs.declared.branches.Tip.TheVariants.{Unborn, Deleted, At}
use Rattle.stream_parts.specs.declared.fault.Fault.{Fault}
use Rattle.stream_parts.specs.declared.headers.CommitHeader.{CommitHeader}
use Rattle.stream_parts.specs.Branches.{branch_set, has_branch_room, ref_meant, tip_commit, tip_for, Branches}
use Rattle.import_session.specs.Commits.{begun_from, commit_said}
use Rattle.git_model.specs.Results.{and_then}
use Rattle.stream_commands.specs.Faults.{changed_or}
use Rattle.import_session.specs.Meaning.{after_act}
use Rattle.stream_commands.specs.Refs.{ref_set}
use Rattle.import_session.specs.Sound.{IsStreamBranch}
use Rattle.stream_parts.specs.Headers.{new_commit_header}
use Rattle.stream_parts.specs.OpenCommand as open_command
use Rattle.stream_commands.specs.Workspace.{Workspace, quiet, with_command}
use Rattle.export_text.specs.ExportActs.{asks, asks_if, encoding_act}
use Rattle.export_text.specs.ExportItems.{scratch}
use Rattle.export_laws.specs.Leaving.{Leaves, nothing}
use Rattle.export_laws.specs.Told.{IsScratchAlone}
use Rattle.export_laws.proofs.Acts.{asked, both}
use Rattle.export_laws.proofs.Blobs.{waits}
use Rattle.export_laws.proofs.OpenTrees.{started}

-- ---- the branch on which commits are told

scratch-set : (branches : Branches) → IsScratchAlone branches → (tip : Tip)
    → branch_set branches scratch tip ≡ Ok ((scratch, tip) ∷ [])
unfolding has_branch_room
scratch-set branches (inl none) tip = rw none refl
scratch-set branches (inr found) tip = rw found.1 refl

-- a reset leaves it unborn
pub resets : (digest : List ℕ → List ℕ) (w : Workspace) → IsScratchAlone w.stream.branches
    → after_act digest (Ref (Reset scratch)) w
    ≡ quiet (record w {
      stream = record w.stream { branches = (scratch, Unborn) ∷ []; command = open_command.Reset scratch };
    })
unfolding after_act ref_set ref_meant
resets digest w alone =
    ap (λ (r : Result Branches Fault). and_then r (λ branches.
    quiet (record w {
      stream = record w.stream { branches = branches; command = open_command.Reset scratch };
    })))
    (scratch-set w.stream.branches alone Unborn)

-- ---- the lines before the message

abbrev with_header : Workspace → CommitHeader → Workspace
with_header w header = with_command w (open_command.Commit header)

abbrev said_by : List ℕ → List ℕ → Option (List ℕ) → CommitHeader
said_by author committer encoding = record {
  ref_name = scratch;
  author = Some author;
  committer = Some committer;
  encoding = encoding;
}

begins : (digest : List ℕ → List ℕ) (w : Workspace)
    → after_act digest (CommitAct (Begin scratch)) w ≡ quiet (with_header w (new_commit_header scratch))
unfolding after_act commit_said ref_meant
begins digest w = refl

authors : (digest : List ℕ → List ℕ) (w : Workspace) (said : CommitHeader) (ident : List ℕ)
    → after_act digest (CommitAct (Author ident)) (with_header w said)
    ≡ quiet (with_header w (record said { author = Some ident }))
unfolding after_act commit_said
authors digest w said ident = refl

committers : (digest : List ℕ → List ℕ) (w : Workspace) (said : CommitHeader) (ident : List ℕ)
    → after_act digest (CommitAct (Committer ident)) (with_header w said)
    ≡ quiet (with_header w (record said { committer = Some ident }))
unfolding after_act commit_said
committers digest w said ident = refl

encodings : (digest : List ℕ → List ℕ) (w : Workspace) (said : CommitHeader) (text : List ℕ)
    → after_act digest (CommitAct (Encoding text)) (with_header w said)
    ≡ quiet (with_header w (record said { encoding = Some text }))
unfolding after_act commit_said
encodings digest w said text = refl

encoding-said : (digest : List ℕ → List ℕ) (w : Workspace) (author committer : List ℕ)
    (encoding : Option (List ℕ))
    → Leaves digest (asks_if encoding_act encoding) (with_header w (said_by author committer None))
    (with_header w (said_by author committer encoding))
encoding-said digest w author committer None = nothing _
encoding-said digest w author committer (Some text) =
    asked digest _ _ _ _ _ (encodings digest w (said_by author committer None) text) (nothing _)

lines-said : (digest : List ℕ → List ℕ) (w : Workspace) (author committer : List ℕ)
    (encoding : Option (List ℕ))
    → Leaves digest
    (asks (CommitAct (Begin scratch)) ∷ asks Wait ∷ asks (CommitAct (Author author)) ∷ asks (CommitAct (Committer committer))
    ∷ asks_if encoding_act encoding) w (with_header w (said_by author committer encoding))
lines-said digest w author committer encoding =
    asked digest _ _ _ _ _ (begins digest w)
    (asked digest _ _ _ _ _ (waits digest _)
    (asked digest _ _ _ _ _ (authors digest w (new_commit_header scratch) author)
    (asked digest _ _ _ _ _ (committers digest w (record (new_commit_header scratch) { author = Some author }) committer)
    (encoding-said digest w author committer encoding))))

-- ---- its message

abbrev header_by : Option ℕ → List ℕ → List ℕ → Option (List ℕ) → Header
header_by mark author committer encoding = record {
  ref = scratch;
  mark = mark;
  author = Some author;
  committer = committer;
  encoding = encoding;
}

opens : (digest : List ℕ → List ℕ) (w : Workspace) → IsScratchAlone w.stream.branches
    → (mark : Option ℕ) (message author committer : List ℕ) (encoding : Option (List ℕ)) (opening : Open)
    → begun_from w.objects (tip_commit w.stream.branches scratch) (begun (header_by mark author committer encoding) message) ≡ Ok opening
    → after_act digest (CommitAct (Message mark message)) (with_header w (said_by author committer encoding))
    ≡ quiet (record w {
      stream = record w.stream {
        branches = (scratch, tip_for (tip_commit w.stream.branches scratch)) ∷ [];
        command = open_command.Changes opening;
      };
    })
unfolding after_act commit_said
opens digest w alone mark message author committer encoding opening is =
    let tip = tip_for (tip_commit w.stream.branches scratch) in
    let new = begun (header_by mark author committer encoding) message in
    ap (λ (r : Result Branches Fault). and_then r (λ branches.
    and_then (begun_from w.objects (tip_commit w.stream.branches scratch) new) (λ opening.
    quiet (record w {
      stream = record w.stream { branches = branches; command = open_command.Changes opening };
    }))))
    (scratch-set w.stream.branches alone tip)
    ∙ ap (λ (r : Result Open Fault). and_then r (λ opening.
    quiet (record w {
      stream = record w.stream { branches = (scratch, tip) ∷ []; command = open_command.Changes opening };
    }))) is

-- The lines of a commit up to its message leave it open.
pub opened : (digest : List ℕ → List ℕ) (w : Workspace) → IsScratchAlone w.stream.branches
    → (mark : Option ℕ) (message author committer : List ℕ) (encoding : Option (List ℕ)) (opening : Open)
    → begun_from w.objects (tip_commit w.stream.branches scratch) (begun (header_by mark author committer encoding) message) ≡ Ok opening
    → Leaves digest
    ((asks (CommitAct (Begin scratch)) ∷ asks Wait ∷ asks (CommitAct (Author author)) ∷ asks (CommitAct (Committer committer))
    ∷ asks_if encoding_act encoding) ++ asks (CommitAct (Message mark message)) ∷ []) w
    (record w {
      stream = record w.stream {
        branches = (scratch, tip_for (tip_commit w.stream.branches scratch)) ∷ [];
        command = open_command.Changes opening;
      };
    })
opened digest w alone mark message author committer encoding opening is =
    both digest (lines-said digest w author committer encoding)
    (asked digest _ _ _ _ _ (opens digest w alone mark message author committer encoding opening is) (nothing _))

-- ---- the files that it begins with

-- A commit begins with some parents and files, whatever its branch stood at.
pub record Begins (objects : List Object) (branches : Branches) (header : Header) (message : List ℕ)
    : Type 0 where
  pub parents : List (List ℕ)
  pub files : FileMap
  pub are : begun_from objects (tip_commit branches scratch) (begun header message)
      ≡ Ok (record { header = header; message = message; parents = parents; files = files })

module _ (digest : List ℕ → List ℕ) (objects : List Object) (good : AreObjects digest objects)
    (fit : TreesFit [] objects) (header : Header) (message : List ℕ) where
  begins-at : (tip : Tip) → IsStreamBranch objects (scratch, tip)
      → Begins objects ((scratch, tip) ∷ []) header message
  begins-at Unborn is = record { parents = []; files = (begun header message).files; are = refl }
  begins-at Deleted is = record { parents = []; files = (begun header message).files; are = refl }
  begins-at (At id) is = record {
    parents = id ∷ [];
    files = commit_map objects id;
    are = ap changed_or (started digest objects good fit id is.tip (begun header message));
  }

  pub begins-with : (branches : Branches) → IsScratchAlone branches → All (IsStreamBranch objects) branches
      → Begins objects branches header message
  begins-with branches (inl none) are =
      subst (λ (b : Branches). Begins objects b header message) (sym none)
      (record { parents = []; files = (begun header message).files; are = refl })
  begins-with branches (inr found) are =
      subst (λ (b : Branches). Begins objects b header message) (sym found.1)
      (begins-at found.0 (All-head (IsStreamBranch objects) (scratch, found.0) [] (rw found.1 at are)))
