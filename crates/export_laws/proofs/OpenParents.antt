-- The parents of an open commit: it starts from the first, and merges the others.
use Rattle.std.proofs.Common.{◌≡◌, ℕ, zero, suc, ◌+◌, ◌<◌, ◌≤◌, Bool, true, List, [], ◌∷◌, ◌++◌, length, map, Option, Some, Result, Ok, refl, sym, ap, ◌∙◌, subst, append_assoc, append-nil, arith}
use Rattle.std.specs.List.{AllByRecursion}
use Rattle.std.proofs.lemmas.Bool.{lt-ltb}
use Rattle.std.proofs.lemmas.List.{length-append}
use Rattle.git_model.specs.declared.kind.Kind.{Kind}
use Rattle.git_model.specs.declared.kind.Kind.TheVariants as kind
use Rattle.git_model.specs.GoodRepository.{parents_limit}
use Rattle.git_model.specs.Peeling.{first_within, is_of, next_to, peeled_to}
use Rattle.git_model.specs.References.{kind_named}
use Rattle.git_model.specs.Repository.{Object}
use Rattle.git_model.proofs.Peelings.{is_of_kind}
use Rattle.revisions.specs.declared.fault.Fault.TheVariants as revision_fault
use Rattle.git_model.specs.Results.{or_fault}
use Rattle.revisions.specs.Resolution.{peeled}
use Rattle.file_maps.specs.StoredFiles.{commit_map}
use Rattle.stream_grammar.specs.Acts.{Commit as CommitAct}
use Rattle.stream_grammar.specs.Acts.{From, Merge}
use Rattle.stream_grammar.specs.Names.{Marked}
use Rattle.open_commits.specs.OpenCommit.{OpenCommit}
use Rattle.open_commits.specs.Parents.{merged, started_from}
use Rattle.stream_parts.specs.declared.fault.Fault.{Fault}
use Rattle.import_session.specs.Commits.{commit_said}
use Rattle.stream_commands.specs.CommitIshes.{commit_in}
use Rattle.git_model.specs.Results.{and_then}
use Rattle.stream_parts.specs.Faults.{resolved_or}
use Rattle.stream_commands.specs.Faults.{changed_or}
use Rattle.import_session.specs.Meaning.{after_act}
use Rattle.stream_parts.specs.OpenCommand.{Changes}
use Rattle.stream_commands.specs.Workspace.{Workspace, quiet, with_command}
use Rattle.export_text.specs.ExportActs.{merges, number_of, parent_acts}
use Rattle.export_laws.specs.Leaving.{Leaves, nothing}
use Rattle.export_laws.specs.Told.{StandsFor}
use Rattle.export_laws.proofs.Acts.{asked}
use Rattle.export_laws.proofs.MarksSet.{named-by-mark}

-- An object of a repository is there under its mark, with its kind.
pub record IsToldAs (os : List Object) (w : Workspace) (id : List ℕ) (k : Kind) : Type 0 where
  pub is : kind_named id w.objects ≡ Some k
  pub mark : StandsFor w.stream.marks (number_of os id) k id

-- A workspace with this commit open.
abbrev pub with_open : Workspace → OpenCommit → Workspace
with_open w commit = with_command w (Changes commit)

-- ---- a mark of a commit means it

at-once : {A : Type 0} (test : A → Bool) (next : A → Option A) (n : ℕ) (a : A) → test a ≡ true
    → first_within test next n a ≡ Some a
unfolding first_within
at-once test next zero a yea = rw yea refl
at-once test next (suc n) a yea = rw yea refl

peels : (os : List Object) (k : Kind) (id : List ℕ) → kind_named id os ≡ Some k
    → peeled_to os k id ≡ Some id
unfolding peeled_to
peels os k id is = at-once (is_of os k) (next_to os k) (length os) id ((is_of_kind os k id).1 is)

pub commit-meant : (os : List Object) (w : Workspace) (id : List ℕ) → IsToldAs os w id kind.Commit
    → commit_in w (Marked (number_of os id)) ≡ Ok id
commit-meant os w id told =
    ap (λ (r : Result (List ℕ) Fault). and_then r (λ id. resolved_or (peeled w.objects kind.Commit id)))
    (named-by-mark w.stream.marks (number_of os id) kind.Commit id told.mark)
    ∙ ap (λ (o : Option (List ℕ)). resolved_or (or_fault revision_fault.WrongKind o))
    (peels w.objects kind.Commit id told.is)

-- ---- what the two acts leave

starts : (digest : List ℕ → List ℕ) (os : List Object) (w : Workspace) (id : List ℕ)
    (commit next : OpenCommit) → IsToldAs os w id kind.Commit
    → started_from w.objects id commit ≡ Ok next
    → after_act digest (CommitAct (From (Marked (number_of os id)))) (with_open w commit)
    ≡ quiet (with_open w next)
unfolding after_act commit_said
starts digest os w id commit next told is =
    ap (λ (r : Result (List ℕ) Fault). and_then (and_then r (λ id. changed_or (started_from w.objects id commit)))
    (λ next. quiet (with_open w next))) (commit-meant os (with_open w commit) id (record { is = told.is; mark = told.mark }))
    ∙ ap (λ (r : Result OpenCommit _). and_then (changed_or r) (λ next. quiet (with_open w next))) is

merge-done : (id : List ℕ) (commit : OpenCommit) → length commit.parents < parents_limit
    → merged id commit ≡ Ok (record commit { parents = commit.parents ++ id ∷ [] })
merge-done id commit few = rw (lt-ltb (length commit.parents) parents_limit few) refl

merging : (digest : List ℕ → List ℕ) (os : List Object) (w : Workspace) (id : List ℕ)
    (commit next : OpenCommit) → IsToldAs os w id kind.Commit → merged id commit ≡ Ok next
    → after_act digest (CommitAct (Merge (Marked (number_of os id)))) (with_open w commit)
    ≡ quiet (with_open w next)
unfolding after_act commit_said
merging digest os w id commit next told is =
    ap (λ (r : Result (List ℕ) Fault). and_then (and_then r (λ id. changed_or (merged id commit)))
    (λ next. quiet (with_open w next))) (commit-meant os (with_open w commit) id (record { is = told.is; mark = told.mark }))
    ∙ ap (λ (r : Result OpenCommit _). and_then (changed_or r) (λ next. quiet (with_open w next))) is

-- ---- all parents

module _ (digest : List ℕ → List ℕ) (os : List Object) (w : Workspace) (commit : OpenCommit) where
  abbrev among : List (List ℕ) → OpenCommit
  among parents = record commit { parents = parents }

  others-merged : (others so_far : List (List ℕ))
      → AllByRecursion (λ id. IsToldAs os w id kind.Commit) others
      → length so_far + length others ≤ parents_limit
      → Leaves digest (map (merges os) others) (with_open w (among so_far))
      (with_open w (among (so_far ++ others)))
  others-merged [] so_far told few =
      subst (λ (l : List (List ℕ)). Leaves digest [] (with_open w (among so_far)) (with_open w (among l)))
      (sym (append-nil so_far)) (nothing _)
  others-merged (id ∷ others) so_far told few =
      asked digest _ _ _ _ _
      (merging digest os w id (among so_far) (among (so_far ++ id ∷ [])) told.0
      (merge-done id (among so_far) (omega (arith, few))))
      (subst (λ (l : List (List ℕ)). Leaves digest (map (merges os) others) (with_open w (among (so_far ++ id ∷ []))) (with_open w (among l)))
      (append_assoc so_far (id ∷ []) others)
      (others-merged others (so_far ++ id ∷ []) told.1
      (let n = length-append so_far (id ∷ []) in omega (arith, few, n))))

module _ (digest : List ℕ → List ℕ) (os : List Object) (w : Workspace) (commit : OpenCommit)
    (first : List ℕ) (others : List (List ℕ))
    (told : AllByRecursion (λ id. IsToldAs os w id kind.Commit) (first ∷ others))
    (few : length (first ∷ others) ≤ parents_limit)
    (starts_so : started_from w.objects first commit
    ≡ Ok (record commit { parents = first ∷ []; files = commit_map w.objects first })) where
  pub parents-told : Leaves digest (parent_acts os (first ∷ others)) (with_open w commit)
      (with_open w (record commit { parents = first ∷ others; files = commit_map w.objects first }))
  parents-told =
      asked digest _ _ _ _ _
      (starts digest os w first commit (record commit { parents = first ∷ []; files = commit_map w.objects first }) told.0 starts_so)
      (others-merged digest os w (record commit { files = commit_map w.objects first }) others (first ∷ []) told.1
      (omega (arith, few)))
