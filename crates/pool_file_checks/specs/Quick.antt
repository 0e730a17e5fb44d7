-- What a quick look finds of a tenant's objects. It reads each object at most once.
use Rattle.std.specs.Prelude.{◌≡◌, ℕ, ◌<◌, List, [], ◌∷◌, ◌++◌, length, take, All, Some, slice_index_or}
use Rattle.std.specs.Map.{lookup}
use Rattle.std.specs.Str.{bytes_eq}
use Rattle.git_model.specs.declared.kind.Kind.{Kind}
use Rattle.git_model.specs.declared.kind.Kind.TheVariants as kind
use Rattle.git_model.specs.TreeReading.{tree_read}
use Rattle.git_model.specs.Repository.{Object}
use Rattle.git_model.specs.References.{references_of, object_at, place_of, kind_named}
use Rattle.git_model.specs.GoodRepository.{StandsBefore}
use Rattle.tenant_tables.specs.declared.summary.Summary.{Summary}
use Rattle.tenant_tables.specs.Trees.{no_files}
use Rattle.pool_file_format.specs.Format.{RawObject}
use Rattle.pool_file_checks.specs.Checks.{Passes}
use Rattle.pool_file_checks.specs.Objects.{kind_byte, IsText, IsContent}
use Rattle.pool_file_checks.specs.Own.{kind_of, content_at, own_objects}
use Rattle.pool_file_checks.specs.Connecting.{AreConnected}
use Rattle.pool_file_checks.specs.Sums.{Sums, Fits, TreesFit, sum_of_tree, sums_with}
use Rattle.pool_file_checks.specs.Whole.{own_checks}
use Rattle.pool_file_checks.specs.declared.known.KnownSums.{KnownSums}

-- The byte is that of a kind.
abbrev pub HasKind : RawObject → Type 0
HasKind o = kind_byte (kind_of o.kind) ≡ o.kind

-- The objects before a place have these summaries: of each tree, the one that is noted of it.
pub record AreKept (os : List Object) (place : ℕ) (kept : List Summary) (sums : Sums)
    : Type 0 where
  pub size : length kept ≡ place
  pub each : (id : List ℕ) → place_of id os < place → kind_named id os ≡ Some kind.Tree
      → lookup (bytes_eq id) sums ≡ Some (slice_index_or kept (place_of id os) no_files)

-- What fits has this summary: that of the tree, if it is a tree.
abbrev pub HasSum : Kind → List ℕ → Sums → Summary → Type 0
HasSum k bytes sums sum =
    Fits k bytes sums × (k ≡ kind.Tree → sum ≡ sum_of_tree sums (tree_read bytes))

-- The object is good at a place, and has this summary.
pub record IsGoodAt (os : List Object) (place : ℕ) (kept : List Summary) (k : Kind)
    (bytes : List ℕ) (sum : Summary) : Type 0 where
  pub text : IsText k bytes
  pub stands : All (StandsBefore os place) (references_of k bytes)
  pub fits : (sums : Sums) → AreKept os place kept sums → HasSum k bytes sums sum

-- The objects before a place are good, and have these summaries.
pub record AreGoodBefore (os : List Object) (place : ℕ) (kept : List Summary) : Type 0 where
  pub size : length kept ≡ place
  pub each : (i : ℕ) → i < place → IsGoodAt os i (take i kept) (object_at i os).content.kind
      (object_at i os).content.bytes (slice_index_or kept i no_files)

-- The first objects have contents of their kinds and are good, and these are their summaries.
pub record AreGoodFirst (os : List Object) (kept : List Summary) : Type 0 where
  pub before : AreGoodBefore os (length kept) kept
  pub contents : (i : ℕ) → i < length kept → IsContent (object_at i os).content

-- The object is good at this place, and its summary was added.
pub record Joins (os : List Object) (place : ℕ) (k : Kind) (bytes : List ℕ)
    (old new : List Summary) : Type 0 where
  pub sum : Summary
  pub added : new ≡ old ++ sum ∷ []
  pub good : IsGoodAt os place old k bytes sum

-- Each object has contents of its kind, what it refers to stands before it, and all trees fit.
pub record AreGood (os : List Object) : Type 0 where
  pub contents : (i : ℕ) → i < length os → IsContent (object_at i os).content
  pub connected : AreConnected os
  pub trees : TreesFit [] os

-- The objects of these numbers have contents of their kinds, and pass as those of a tenant.
pub record AreFound (digest : List ℕ → List ℕ) (os : List RawObject) (numbers : List ℕ)
    : Type 0 where
  pub contents : All (λ n. IsContent (content_at os n)) numbers
  pub own : Passes (own_checks digest os numbers)

-- These are the summaries of the first objects, in turn after the trees so far: of each tree, its
-- sum.
abbrev pub AreSums : Sums → List Summary → List Object → Type 0
AreSums sums [] os = Unit {0}
AreSums sums (s ∷ kept) [] = ⊥
AreSums sums (s ∷ kept) (o ∷ os) =
    (o.content.kind ≡ kind.Tree → s ≡ sum_of_tree sums (tree_read o.content.bytes))
    × AreSums (sums_with o.content.kind o.id o.content.bytes sums) kept os

-- The summaries are those of the tenant's objects that have these numbers.
abbrev pub KnowsSums : (List ℕ → List ℕ) → List RawObject → KnownSums → Type 0
KnowsSums digest os known =
    AreSums [] known.sums.items (own_objects digest os known.numbers.items)
