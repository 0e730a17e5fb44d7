-- The summary of a tree as a function of the objects. A tree has one if its text is a writer's, the
-- trees of its directories have files, and its own files are within the limits.
use Rattle.std.specs.Prelude.{◌≡◌, ℕ, ◌==◌, ◌&&◌, not, nat_lt, nat_le, Bool, true, false, List, [], ◌∷◌, ◌++◌, length, All, fold, Option, None, Some, if◌then◌else◌, codes}
use Rattle.std.specs.List.{list_all}
use Rattle.std.specs.Map.{lookup}
use Rattle.std.specs.Option.{option_and_then}
use Rattle.std.specs.Ordering.{is_lt}
use Rattle.std.specs.Str.{bytes_eq}
use Rattle.git_model.specs.declared.file_mode.FileMode.{FileMode}
use Rattle.git_model.specs.declared.file_mode.FileMode.TheVariants as mode
use Rattle.git_model.specs.declared.kind.Kind.{Kind}
use Rattle.git_model.specs.declared.kind.Kind.TheVariants as kind
use Rattle.git_model.specs.Content.{Content}
use Rattle.git_model.specs.Limits.{files_limit, path_bytes_limit, path_components_limit}
use Rattle.git_model.specs.Repository.{Object}
use Rattle.git_model.specs.Tree.{TreeEntry, tree_contents, tree_cmp}
use Rattle.git_model.specs.TreeReading.{tree_read}
use Rattle.tenant_tables.specs.declared.summary.Summary.{Summary}
use Rattle.tenant_tables.specs.Sums.{IsTreeText}
use Rattle.tenant_tables.specs.Trees.{HasFilesBy, IsWithin, tree_summary_by}

-- ---- the text of a tree

-- A name is one component of a path: the test of `IsEntryName`.
abbrev pub is_entry_name : List ℕ → Bool
is_entry_name name = not (bytes_eq name []) && list_all (λ byte. not (byte == 0)) name
    && list_all (λ byte. not (byte == 47)) name && not (bytes_eq name (codes "."))
    && not (bytes_eq name (codes ".."))

-- An object name is 20 bytes: the test of `IsObjectName`.
abbrev pub is_object_name : List ℕ → Bool
is_object_name id = (length id == 20) && list_all (λ byte. nat_lt byte 256) id

-- An entry can be written: the test of `CanWriteEntry`.
abbrev pub can_be_entry : TreeEntry → Bool
can_be_entry e = is_entry_name e.name && is_object_name e.id

-- No entry has the name of another one.
unfoldable pub have_own_names : List TreeEntry → Bool
have_own_names [] = true
have_own_names (e ∷ es) = list_all (λ other. not (bytes_eq e.name other.name)) es
    && have_own_names es

-- No entry comes before the one that it follows, in Git's order.
unfoldable pub are_in_order : List TreeEntry → Bool
are_in_order [] = true
are_in_order (e ∷ []) = true
are_in_order (e ∷ next ∷ es) = not (is_lt (tree_cmp next e)) && are_in_order (next ∷ es)

-- Entries make a tree: the test of `CanWriteTree`.
abbrev pub can_be_tree : List TreeEntry → Bool
can_be_tree es = list_all can_be_entry es && have_own_names es && are_in_order es

-- Bytes are the text of a tree if the entries that are read from them make a tree, and writing
-- these gives the same bytes.
unfoldable pub is_tree_text : List ℕ → Bool
is_tree_text bytes = can_be_tree (tree_read bytes)
    && bytes_eq bytes (tree_contents (tree_read bytes))

-- ---- the summary of a text

-- What is known of a tree says that it has a file.
abbrev pub has_files : Option Summary → Bool
has_files None = false
has_files (Some s) = not (s.files == 0)

-- An entry is known if it is no directory, or the tree of the directory has a file: the test of
-- `HasFilesBy`.
abbrev pub is_known : FileMode → Option Summary → Bool
is_known mode.Directory tree = has_files tree
is_known mode.Regular tree = true
is_known mode.Executable tree = true
is_known mode.Symlink tree = true
is_known mode.Gitlink tree = true

abbrev pub is_known_by : (List ℕ → Option Summary) → TreeEntry → Bool
is_known_by known e = is_known e.mode (known e.id)

-- A tree has no more files, no deeper and no longer paths than the limits allow: the test of
-- `IsWithin`.
abbrev pub is_within : Summary → Bool
is_within s = nat_le s.files files_limit && nat_le s.depth path_components_limit
    && nat_le s.longest path_bytes_limit

-- A tree is plain, by what is known of other trees, if its files can be known and are within the
-- limits.
abbrev pub is_plain : (List ℕ → Option Summary) → List ℕ → Bool
is_plain known bytes = is_tree_text bytes && list_all (is_known_by known) (tree_read bytes)
    && is_within (tree_summary_by known (tree_read bytes))

-- The summary of a plain tree. No other bytes have one.
unfoldable pub plain_sum : (List ℕ → Option Summary) → List ℕ → Option Summary
plain_sum known bytes =
    if is_plain known bytes then Some (tree_summary_by known (tree_read bytes)) else None

-- The same said as facts: what it is for a tree to be plain, with its summary.
pub record IsPlain (known : List ℕ → Option Summary) (bytes : List ℕ) (s : Summary)
    : Type 0 where
  pub text : IsTreeText bytes (tree_read bytes)
  pub directories : All (HasFilesBy known) (tree_read bytes)
  pub sum : s ≡ tree_summary_by known (tree_read bytes)
  pub within : IsWithin s

-- The summary of a content. Only a tree has one.
abbrev pub sum_by_kind : Kind → Option Summary → Option Summary
sum_by_kind kind.Tree tree = tree
sum_by_kind kind.Blob tree = None
sum_by_kind kind.Commit tree = None
sum_by_kind kind.Tag tree = None

abbrev pub content_sum : (List ℕ → Option Summary) → Content → Option Summary
content_sum known c = sum_by_kind c.kind (plain_sum known c.bytes)

-- ---- the summaries of objects

-- Names of objects with their summaries, oldest first. If a name stands twice, the first counts.
abbrev pub NamedSums : Type 0
NamedSums = List (List ℕ × Option Summary)

abbrev pub known_in : NamedSums → List ℕ → Option Summary
known_in sums id = option_and_then (λ s. s) (lookup (bytes_eq id) sums)

-- One object more, summed by those before it.
abbrev pub with_sum : NamedSums → Object → NamedSums
with_sum sums o = sums ++ (o.id, content_sum (known_in sums) o.content) ∷ []

-- The summaries of all objects, each by those before it.
unfoldable pub sums_of : List Object → NamedSums
sums_of os = fold with_sum [] os

-- The summary of the object with a name, if it is a plain tree.
unfoldable pub sum_in : List Object → List ℕ → Option Summary
sum_in os id = known_in (sums_of os) id
