-- The order in which the import of an export stores objects: git-fast-import(1), "blob", "commit"
-- and "tag"; git-write-tree(1).
use Rattle.std.specs.Prelude.{◌≡◌, ℕ, zero, suc, true, List, [], ◌∷◌, ◌++◌, length, All, is_some}
use Rattle.std.specs.List.{flat_map}
use Rattle.git_model.specs.declared.file_mode.FileMode.{FileMode}
use Rattle.git_model.specs.declared.file_mode.FileMode.TheVariants as mode
use Rattle.git_model.specs.declared.kind.Kind.{Kind}
use Rattle.git_model.specs.declared.kind.Kind.TheVariants as kind
use Rattle.git_model.specs.Tree.{TreeEntry}
use Rattle.git_model.specs.CommitReading.{commit_read}
use Rattle.git_model.specs.Repository.{Object, Repository, object_named, with_object}
use Rattle.git_model.specs.References.{content_named}
use Rattle.git_model.specs.StoredPath.{entries_of}
use Rattle.export_text.specs.Reached.{reached_objects}
-- Objects by their places in a repository.
pub use Rattle.tenant_tables.specs.Copied.{objects_at}

-- ---- which objects, by name

-- The trees of an entry: those of a directory, and none of any other entry.
abbrev pub trees_by : FileMode → List (List ℕ) → List (List ℕ)
trees_by mode.Directory below = below
trees_by mode.Regular below = []
trees_by mode.Executable below = []
trees_by mode.Symlink below = []
trees_by mode.Gitlink below = []

-- A tree with those of all directories below it, children first: the trees of its entries in their
-- order, and then the tree itself. At most so many levels.
unfoldable pub trees_within : List Object → ℕ → List ℕ → List (List ℕ)
trees_within os zero tree = []
trees_within os (suc levels) tree =
    flat_map (λ e. trees_by e.mode (trees_within os levels e.id)) (entries_of os tree) ++ tree ∷ []

-- A tree stands after those below it, so it has no more levels than there are objects.
abbrev pub trees_of : List Object → List ℕ → List (List ℕ)
trees_of os tree = trees_within os (length os) tree

-- What comes with an object: a commit after its trees. A tree comes only with the commits that have
-- it.
abbrev pub names_by : List Object → List ℕ → Kind → List ℕ → List (List ℕ)
names_by os id kind.Blob bytes = id ∷ []
names_by os id kind.Tree bytes = []
names_by os id kind.Commit bytes = trees_of os (commit_read bytes).tree ++ id ∷ []
names_by os id kind.Tag bytes = id ∷ []

abbrev pub names_with : List Object → Object → List (List ℕ)
names_with os o = names_by os o.id o.content.kind o.content.bytes

-- ---- the objects

-- The objects of these names, added to others in turn. One that is there is not added again.
abbrev pub with_named : List Object → List (List ℕ) → List Object → List Object
with_named os [] held = held
with_named os (id ∷ ids) held = with_named os ids (with_object id (content_named id os) held)

-- All that comes with some objects of a repository, in their order, each object once.
abbrev pub stored_with : List Object → List Object → List Object
stored_with os objects = with_named os (flat_map (names_with os) objects) []

-- The objects of a copy: all that comes with those that the refs reach.
abbrev pub copied_objects : Repository → List Object
copied_objects repository = stored_with repository.objects (reached_objects repository)

-- ---- trees that are there

-- Each directory among some entries has its tree among these objects.
abbrev pub HasDirectories : List Object → List TreeEntry → Type 0
HasDirectories held es =
    All (λ e. e.mode ≡ mode.Directory → is_some (object_named e.id held) ≡ true) es

-- No tree is among these objects without the trees of its directories.
abbrev pub AreWhole : List Object → List Object → Type 0
AreWhole os held = (id : List ℕ) → is_some (object_named id held) ≡ true
    → HasDirectories held (entries_of os id)

-- A tree of a repository is added to such objects, with those below it: if it is there, that is
-- nothing. Then it is there, and the objects are such ones again.
pub record IsTreeAdded (os held : List Object) (tree : List ℕ) : Type 0 where
  pub once : is_some (object_named tree held) ≡ true → with_named os (trees_of os tree) held ≡ held
  pub there : is_some (object_named tree (with_named os (trees_of os tree) held)) ≡ true
  pub whole : AreWhole os (with_named os (trees_of os tree) held)
