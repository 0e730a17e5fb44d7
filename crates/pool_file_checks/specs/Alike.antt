-- Trees that have the entries of an earlier tree, some of them with other object names. Mostly a
-- commit changes few names of a directory.
use Rattle.std.specs.Prelude.{◌≡◌, ◌⊎◌, ℕ, ◌≤◌, List, [], ◌∷◌, ◌++◌, length, take, drop, All, Some, slice_get, slice_index_or, slice_set}
use Rattle.git_model.specs.declared.file_mode.FileMode.TheVariants as mode
use Rattle.git_model.specs.ObjectName.{IsObjectName}
use Rattle.git_model.specs.Tree.{TreeEntry, CanWriteEntry, entry_text, tree_contents}
use Rattle.git_model.specs.Repository.{Object}
use Rattle.git_model.specs.References.{place_of}
use Rattle.tenant_tables.specs.declared.summary.Summary.{Summary}
use Rattle.tenant_tables.specs.Trees.{no_files}
use Rattle.pool_file_checks.specs.Connecting.{EntryStands}

-- Both texts begin with the same n bytes.
pub record Agree (n : ℕ) (a b : List ℕ) : Type 0 where
  pub first : n ≤ length a
  pub second : n ≤ length b
  pub bytes : take n a ≡ take n b

-- The same entry with another object name.
abbrev pub renamed : TreeEntry → List ℕ → TreeEntry
renamed e id = record { mode = e.mode; name = e.name; id = id }

-- The summary that is kept of the object with a name.
abbrev pub sum_kept : List Object → List Summary → List ℕ → Summary
sum_kept os kept id = slice_index_or kept (place_of id os) no_files

-- An entry may have this object name instead: the object stands before the place, and the tree of a
-- directory has the summary of the one that it replaces.
pub record MayName (os : List Object) (place : ℕ) (kept : List Summary) (e : TreeEntry)
    (id : List ℕ) : Type 0 where
  pub stands : EntryStands os place (renamed e id)
  pub sum : e.mode ≡ mode.Directory → sum_kept os kept id ≡ sum_kept os kept e.id

-- The entry is the same, or has an object name that it may have instead.
abbrev pub IsRenamed : List Object → ℕ → List Summary → TreeEntry → TreeEntry → Type 0
IsRenamed os place kept e f = (f ≡ e)
    ⊎ ((id : List ℕ) × (f ≡ renamed e id) × IsObjectName id × MayName os place kept e id)

-- The same of each entry of a tree.
abbrev pub AreRenamed : List Object → ℕ → List Summary → List TreeEntry → List TreeEntry → Type 0
AreRenamed os place kept [] [] = Unit {0}
AreRenamed os place kept [] (f ∷ fs) = ⊥
AreRenamed os place kept (e ∷ es) [] = ⊥
AreRenamed os place kept (e ∷ es) (f ∷ fs) =
    IsRenamed os place kept e f × AreRenamed os place kept es fs

-- Contents are those of entries that are the ones of other contents, renamed.
abbrev pub IsAlike : List Object → ℕ → List Summary → List ℕ → List ℕ → Type 0
IsAlike os place kept old new = (es : List TreeEntry) → All CanWriteEntry es
    → old ≡ tree_contents es
    → (fs : List TreeEntry) × (new ≡ tree_contents fs) × AreRenamed os place kept es fs

-- The first entry has this many bytes, and the new one is the old one, renamed.
abbrev pub BeginsAlike : List Object → ℕ → List Summary → List ℕ → List ℕ → ℕ → Type 0
BeginsAlike os place kept old new size = (e : TreeEntry) (rest : List ℕ) → CanWriteEntry e
    → old ≡ entry_text e ++ rest → (drop size old ≡ rest)
    × ((f : TreeEntry) × (new ≡ entry_text f ++ drop size new) × IsRenamed os place kept e f)

-- One of the places is answered, and another is noted instead. Of no places, 0 is answered.
abbrev pub Replaces : List ℕ → ℕ → ℕ → List ℕ → Type 0
Replaces [] answered noted new = (answered ≡ 0) × (new ≡ [])
Replaces (p ∷ ps) answered noted new = (n : ℕ) × (slice_get (p ∷ ps) n ≡ Some answered)
    × (new ≡ slice_set (p ∷ ps) n noted)
