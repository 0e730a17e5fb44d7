-- The end of a commit, step by step.
use Rattle.std.proofs.Common.{◌≡◌, ◌≢◌, ℕ, List, [], Option, None, Some, Result, Ok, Err, sym, ap, ◌∙◌, subst}
use Rattle.std.specs.Prelude.{IfOk}
use Rattle.git_model.specs.declared.kind.Kind.TheVariants as kind
use Rattle.git_model.specs.Commit.{commit_contents}
use Rattle.git_model.specs.Content.{content_from, name_by}
use Rattle.git_model.specs.Repository.{Object}
use Rattle.file_maps.specs.declared.fault.Fault.{Fault as FilesFault}
use Rattle.file_maps.specs.declared.fault.Fault.TheVariants as files_fault
use Rattle.file_maps.specs.FileMap.{Listed, listed}
use Rattle.file_maps.specs.Edits.{files_at}
use Rattle.file_maps.specs.Trees.{nested_trees, tree_id}
use Rattle.file_maps.specs.Storing.{with_trees, trees_fault}
use Rattle.file_maps.proofs.ListedOrder.{cut-root}
use Rattle.open_commits.specs.declared.fault.Fault.{Fault}
use Rattle.open_commits.specs.declared.fault.Fault.TheVariants as fault
use Rattle.git_model.specs.Results.{and_then}
use Rattle.open_commits.specs.Faults.{editing_fault}
use Rattle.open_commits.specs.OpenCommit.{OpenCommit}
use Rattle.open_commits.specs.Storing.{stored, trees_or}
use Rattle.open_commits.specs.Ends.{Closed, closed, commit_of, commit_content}
use Rattle.open_commits.specs.Calls.{Gives}

-- a refusal other than `Memory` comes from one other than `Memory`
pub not_memory : (e : FilesFault) (f : Fault) → f ≡ editing_fault e → f ≢ fault.Memory
    → e ≢ files_fault.Memory
not_memory e f is ne at = ne (is ∙ ap editing_fault at)

module _ (digest : List ℕ → List ℕ) (os : List Object) (commit : OpenCommit) where
  root : files_at commit.files [] ≡ listed commit.files
  root = cut-root (listed commit.files)

  after_trees : Option FilesFault → Result Closed Fault
  after_trees refusal =
      and_then (trees_or digest (nested_trees digest (listed commit.files)) os refusal) (λ more.
      and_then (stored digest (commit_content digest commit) more) (λ all.
      Ok (record { id = name_by digest (commit_content digest commit); objects = all })))

  after_stored : Result (List Object) Fault → Result Closed Fault
  after_stored result = and_then result (λ all.
      Ok (record { id = name_by digest (commit_content digest commit); objects = all }))

  pub trees_refused : (e : FilesFault) (f : Fault) → f ≡ editing_fault e
      → (e ≢ files_fault.Memory
      → trees_fault digest (nested_trees digest (files_at commit.files [])) os ≡ Some e)
      → f ≢ fault.Memory → closed digest os commit ≡ Err f
  unfolding after_trees
  trees_refused e f is refusal ne =
      ap after_trees (subst (λ (l : Listed). trees_fault digest (nested_trees digest l) os ≡ Some e)
      root (refusal (not_memory e f is ne)))
      ∙ ap (λ (x : Fault). Err x) (sym is)

  pub closes : (tree contents : List ℕ) (with_all more : List Object) (r : Result (List ℕ) Fault)
      → tree ≡ tree_id digest (files_at commit.files [])
      → trees_fault digest (nested_trees digest (files_at commit.files [])) os ≡ None
      → with_all ≡ with_trees digest (nested_trees digest (files_at commit.files [])) os
      → contents ≡ commit_contents (commit_of tree commit)
      → IfOk r (λ id. id ≡ name_by digest (content_from kind.Commit contents))
      → Gives (stored digest (content_from kind.Commit contents) with_all) (λ _. more) r
      → Gives (closed digest os commit) (λ id. record { id = id; objects = more }) r
  unfolding after_trees after_stored
  closes tree contents with_all more r tree-is none with-is is name gives =
      by r name gives
    where
      contents-is : content_from kind.Commit contents ≡ commit_content digest commit
      contents-is =
          ap (content_from kind.Commit) is
          ∙ ap (λ (t : List ℕ). content_from kind.Commit (commit_contents (commit_of t commit)))
          (tree-is ∙ ap (tree_id digest) root)

      whole : closed digest os commit
          ≡ after_stored (stored digest (content_from kind.Commit contents) with_all)
      whole =
          ap after_trees (subst (λ (l : Listed). trees_fault digest (nested_trees digest l) os ≡ None)
          root none)
          ∙ ap (λ (l : List Object). after_stored (stored digest (commit_content digest commit) l))
          (ap (λ (l : Listed). with_trees digest (nested_trees digest l) os) (sym root) ∙ sym with-is)
          ∙ ap (λ (c : _). after_stored (stored digest c with_all)) (sym contents-is)

      by : (r : Result (List ℕ) Fault)
          → IfOk r (λ id. id ≡ name_by digest (content_from kind.Commit contents))
          → Gives (stored digest (content_from kind.Commit contents) with_all) (λ _. more) r
          → Gives (closed digest os commit) (λ id. record { id = id; objects = more }) r
      by (Ok id) name gives =
          whole ∙ ap after_stored gives
          ∙ ap (λ (n : List ℕ). Ok (record { id = n; objects = more }))
          (sym (name ∙ ap (name_by digest) contents-is))
      by (Err e) name gives = λ ne. whole ∙ ap after_stored (gives ne)
