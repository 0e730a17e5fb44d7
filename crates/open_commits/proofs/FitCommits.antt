-- What open commits store leaves trees within the limits.
use Rattle.std.proofs.Common.{◌≡◌, ◌≢◌, ℕ, List, [], Option, None, Some, Result, Ok, ap, ◌∙◌, subst}
use Rattle.std.proofs.lemmas.List.Elements.{All-from_recursion}
use Rattle.git_model.specs.declared.file_mode.FileMode.{FileMode}
use Rattle.git_model.specs.declared.file_mode.FileMode.TheVariants as mode
use Rattle.git_model.specs.declared.kind.Kind.TheVariants as kind
use Rattle.git_model.specs.Content.{Content, content_from, name_by}
use Rattle.git_model.specs.GoodRepository.{AreObjects}
use Rattle.git_model.specs.Repository.{Object}
use Rattle.git_names.specs.Naming.{AnswersNames}
use Rattle.tenant_tables.specs.Sums.{TreesFit}
use Rattle.file_maps.specs.declared.entry.Entry.{Entry}
use Rattle.file_maps.specs.FileMap.{Path, Listed, listed, AreFiles}
use Rattle.file_maps.specs.Edits.{files_at}
use Rattle.file_maps.specs.HeldFiles.{IsFileHeld}
use Rattle.file_maps.specs.Trees.{entry_at}
use Rattle.file_maps.proofs.FitTrees.{nested-fit, other-fits}
use Rattle.file_maps.proofs.ListedOrder.{cut-root}
use Rattle.open_commits.specs.declared.fault.Fault.{Fault}
use Rattle.git_model.specs.Results.{and_then}
use Rattle.open_commits.specs.OpenCommit.{OpenCommit}
use Rattle.open_commits.specs.Storing.{stored, trees_stored}
use Rattle.open_commits.specs.Changes.{Left, entry_of, file_put, left_with, blob_put, contents_put}
use Rattle.open_commits.specs.Showing.{Shown, file_or_trees, found_shown, commit_entry_shown}
use Rattle.open_commits.specs.Ends.{Closed, closed, commit_content}
use Rattle.open_commits.specs.GoodCommits.{IsGoodCommit}
use Rattle.open_commits.proofs.GoodCommits.{ok_is, went, stored-ok, trees-ok}

-- one object that is no tree
pub stored-fits : (digest : List ℕ → List ℕ) (content : Content) → content.kind ≢ kind.Tree
    → (os more : List Object) → TreesFit [] os → stored digest content os ≡ Ok more
    → TreesFit [] more
stored-fits digest content ne os more fits is =
    subst (TreesFit []) (stored-ok digest content os more is).is
    (other-fits os fits (name_by digest content) content ne)

module _ (digest : List ℕ → List ℕ) (os : List Object) (fits : TreesFit [] os)
    (commit : OpenCommit) where
  blob-fits : (m : FileMode) (path : Path) (bytes : List ℕ) (left : Left)
      → blob_put digest os m path (content_from kind.Blob bytes) commit ≡ Ok left
      → TreesFit [] left.objects
  blob-fits m path bytes left is =
      let blob = content_from kind.Blob bytes in
      let first = went (file_put path (entry_of m (name_by digest blob)) commit)
      (λ next. and_then (stored digest blob os) (λ more. Ok (left_with more next))) left is in
      let second = went (stored digest blob os) (λ more. Ok (left_with more first.value)) left first.then in
      subst (λ (l : Left). TreesFit [] l.objects)
      (ok_is (left_with second.value first.value) left second.then)
      (stored-fits digest blob (λ tree. cc) os second.value fits second.was)

  pub contents_fit : (m : FileMode) (path : Path) (bytes : List ℕ) (left : Left)
      → contents_put digest os m path bytes commit ≡ Ok left → TreesFit [] left.objects
  contents_fit mode.Directory path bytes left is = absurd (cc is)
  contents_fit mode.Gitlink path bytes left is = absurd (cc is)
  contents_fit mode.Regular path bytes left is = blob-fits mode.Regular path bytes left is
  contents_fit mode.Executable path bytes left is = blob-fits mode.Executable path bytes left is
  contents_fit mode.Symlink path bytes left is = blob-fits mode.Symlink path bytes left is

module _ (digest : List ℕ → List ℕ) (names : AnswersNames digest) (os : List Object)
    (good : AreObjects digest os) (fits : TreesFit [] os) (commit : OpenCommit)
    (h : IsGoodCommit os commit) (are : AreFiles (listed commit.files)) where
  trees-fit : (path : Path) (more : List Object)
      → trees_stored digest (files_at commit.files path) os ≡ Ok more → TreesFit [] more
  trees-fit path more is =
      let was = trees-ok digest (files_at commit.files path) os more is in
      subst (TreesFit []) was.is
      (nested-fit digest names os good fits commit.files are
      (All-from_recursion (IsFileHeld os) (listed commit.files) h.held) path was.none)

  -- ---- what is shown

  entry-from : (path : Path) (found : Option Entry) (shown : Shown)
      → found_shown digest os commit.files path found ≡ Ok shown → TreesFit [] shown.objects
  entry-from path None shown is =
      subst (λ (s : Shown). TreesFit [] s.objects) (ok_is _ shown is) fits
  entry-from path (Some e) shown is =
      let step = went (file_or_trees digest os commit.files path e.mode)
      (λ more. Ok (record { entry = Some e; objects = more })) shown is in
      subst (λ (s : Shown). TreesFit [] s.objects) (ok_is _ shown step.then)
      (by e.mode step.value step.was)
    where
      same : (more : List Object) → ◌≡◌ {A = Result (List Object) Fault} (Ok os) (Ok more)
          → TreesFit [] more
      same more e = subst (TreesFit []) (ok_is os more e) fits

      by : (m : FileMode) (more : List Object)
          → file_or_trees digest os commit.files path m ≡ Ok more → TreesFit [] more
      by mode.Directory more e = trees-fit path more e
      by mode.Regular more e = same more e
      by mode.Executable more e = same more e
      by mode.Symlink more e = same more e
      by mode.Gitlink more e = same more e

  pub entry_fits : (path : Path) (shown : Shown)
      → commit_entry_shown digest os commit.files path ≡ Ok shown → TreesFit [] shown.objects
  entry_fits path shown is = entry-from path (entry_at digest commit.files path) shown is

  -- ---- the end

  pub end_fits : (end : Closed) → closed digest os commit ≡ Ok end → TreesFit [] end.objects
  end_fits end is =
      let content = commit_content digest commit in
      let files = listed commit.files in
      let root : files_at commit.files [] ≡ files = cut-root files in
      let first = went (trees_stored digest files os) (λ with_trees.
      and_then (stored digest content with_trees) (λ more.
      Ok (record { id = name_by digest content; objects = more }))) end is in
      let with = trees-fit [] first.value
      (ap (λ (l : Listed). trees_stored digest l os) root ∙ first.was) in
      let second = went (stored digest content first.value) (λ more.
      Ok (record { id = name_by digest content; objects = more })) end first.then in
      subst (λ (c : Closed). TreesFit [] c.objects) (ok_is _ end second.then)
      (stored-fits digest content (λ tree. cc) first.value second.value with second.was)
