-- Trees within the limits stay so where something is stored, and where what is open goes.
use Rattle.std.proofs.Common.{◌≡◌, ◌≢◌, ℕ, zero, suc, List, [], ◌∷◌, take, Option, None, Some, Result, Ok, Err, refl}
use Rattle.std.specs.Prelude.{IfOk}
use Rattle.git_model.specs.declared.file_mode.FileMode.{FileMode}
use Rattle.git_model.specs.declared.kind.Kind.TheVariants as kind
use Rattle.git_model.specs.Content.{Content, name_by}
use Rattle.git_model.specs.Repository.{Object}
use Rattle.tenant_tables.specs.declared.fault.Fault.{Fault as TableFault}
use Rattle.tenant_tables.specs.Adding.{store_fault}
use Rattle.tenant_tables.specs.Sums.{Sums, sums_with, TreesFit}
use Rattle.file_maps.specs.FileMap.{Path}
use Rattle.file_maps.proofs.FitTrees.{other-fits}
use Rattle.open_commits.specs.declared.fault.Fault.{Fault as CommitFault}
use Rattle.open_commits.specs.Changes.{Left, contents_put}
use Rattle.open_commits.specs.OpenCommit.{OpenCommit}
use Rattle.open_commits.proofs.FitCommits.{contents_fit}
use Rattle.stream_commands.specs.Faults.{changed_or}
use Rattle.stream_parts.specs.Storing.{stored_or, with_content}

pub both_ok : {A E : Type 0} (P Q : A → Type 0) (r : Result A E) → IfOk r P → IfOk r Q
    → IfOk r (λ value. P value × Q value)
both_ok P Q (Ok value) p q = (p, q)
both_ok P Q (Err e) p q = tt

-- the first objects fit where all do
pub fits_taken : (n : ℕ) (so_far : Sums) (os : List Object) → TreesFit so_far os
    → TreesFit so_far (take n os)
fits_taken zero so_far os fits = tt
fits_taken (suc n) so_far [] fits = tt
fits_taken (suc n) so_far (o ∷ os) fits =
    (fits.0, fits_taken n (sums_with o.content.kind o.id o.content.bytes so_far) os fits.1)

-- a content that is no tree's
pub content_fits : (digest : List ℕ → List ℕ) (os : List Object) → TreesFit [] os
    → (content : Content) → content.kind ≢ kind.Tree
    → IfOk (with_content digest content os) (TreesFit [])
content_fits digest os fits content ne = by (store_fault (name_by digest content) content os)
  where
    by : (refusal : Option TableFault)
        → IfOk (stored_or (name_by digest content) content os refusal) (TreesFit [])
    by None = other-fits os fits (name_by digest content) content ne
    by (Some refusal) = tt

-- contents that come with their file
pub contents_left : (digest : List ℕ → List ℕ) (os : List Object) → TreesFit [] os
    → (commit : OpenCommit) (file_mode : FileMode) (path : Path) (bytes : List ℕ)
    → IfOk (changed_or (contents_put digest os file_mode path bytes commit))
    (λ left. TreesFit [] left.objects)
contents_left digest os fits commit file_mode path bytes =
    by (contents_put digest os file_mode path bytes commit)
    (λ left e. contents_fit digest os fits commit file_mode path bytes left e)
  where
    by : (r : Result Left CommitFault) → ((left : Left) → r ≡ Ok left → TreesFit [] left.objects)
        → IfOk (changed_or r) (λ left. TreesFit [] left.objects)
    by (Ok left) fits = fits left refl
    by (Err e) fits = tt
