-- The sizes of all trees among objects: how many files, how deep, how long a path. The limits are
-- those of gitpool.
use Rattle.std.specs.Prelude.{◌≡◌, ℕ, List, [], ◌∷◌, All}
use Rattle.std.specs.Map.{lookup}
use Rattle.std.specs.Str.{bytes_eq}
use Rattle.git_model.specs.declared.kind.Kind.{Kind}
use Rattle.git_model.specs.declared.kind.Kind.TheVariants as kind
use Rattle.git_model.specs.Tree.{TreeEntry, CanWriteTree, tree_contents}
use Rattle.git_model.specs.TreeReading.{tree_read}
use Rattle.git_model.specs.Repository.{Object}
use Rattle.tenant_tables.specs.declared.summary.Summary.{Summary}
use Rattle.tenant_tables.specs.Trees.{HasFilesBy, summary_by, tree_summary_by}
pub use Rattle.tenant_tables.specs.Trees.{IsWithin}

-- The summaries of the trees so far, under their names. If a name has two, the newer one counts.
abbrev pub Sums : Type 0
Sums = List (List ℕ × Summary)

-- What an entry adds, and all entries of a tree.
abbrev pub sum_of_entry : Sums → TreeEntry → Summary
sum_of_entry sums e = summary_by (λ id. lookup (bytes_eq id) sums) e

abbrev pub sum_of_tree : Sums → List TreeEntry → Summary
sum_of_tree sums es = tree_summary_by (λ id. lookup (bytes_eq id) sums) es

-- The tree of a directory has at least one file.
abbrev pub HasFiles : Sums → TreeEntry → Type 0
HasFiles sums e = HasFilesBy (λ id. lookup (bytes_eq id) sums) e

-- A tree with these entries fits after the trees so far.
pub record FitsAfter (sums : Sums) (es : List TreeEntry) : Type 0 where
  pub directories : All (HasFiles sums) es
  pub within : IsWithin (sum_of_tree sums es)

-- Bytes are those of a tree if they are the contents of entries that can be written.
pub record IsTreeText (bytes : List ℕ) (es : List TreeEntry) : Type 0 where
  pub writable : CanWriteTree es
  pub contents : bytes ≡ tree_contents es

-- A tree has contents that fit after the trees so far; every other object fits.
abbrev pub Fits : Kind → List ℕ → Sums → Type 0
Fits kind.Tree bytes sums = IsTreeText bytes (tree_read bytes) × FitsAfter sums (tree_read bytes)
Fits kind.Blob bytes sums = Unit {0}
Fits kind.Commit bytes sums = Unit {0}
Fits kind.Tag bytes sums = Unit {0}

-- The trees so far, with the object if it is a tree.
abbrev pub sums_with : Kind → List ℕ → List ℕ → Sums → Sums
sums_with kind.Tree id bytes sums = (id, sum_of_tree sums (tree_read bytes)) ∷ sums
sums_with kind.Blob id bytes sums = sums
sums_with kind.Commit id bytes sums = sums
sums_with kind.Tag id bytes sums = sums

-- Each object fits after those before it.
abbrev pub TreesFit : Sums → List Object → Type 0
TreesFit sums [] = Unit {0}
TreesFit sums (o ∷ os) = Fits o.content.kind o.content.bytes sums
    × TreesFit (sums_with o.content.kind o.id o.content.bytes sums) os
