-- Tree objects: "tree object" in gitglossary(7); which entries a tree may have: git-fsck(1).
use Rattle.std.specs.Prelude.{◌≢◌, ℕ, List, [], ◌∷◌, ◌++◌, All, AllPairs, IsSorted, codes}
use Rattle.std.specs.List.{flat_map}
use Rattle.std.specs.declared.cmp.Ordering.{Ordering}
use Rattle.std.specs.Ordering.{nat_cmp, on}
use Rattle.std.specs.Cmp.Lexicographic.{slice_cmp}
use Rattle.git_model.specs.declared.file_mode.FileMode.{FileMode}
use Rattle.git_model.specs.declared.file_mode.FileMode.TheVariants as mode
use Rattle.git_model.specs.ObjectName.{IsObjectName}

-- A direct entry of a tree: its mode, its name, and the name of its object.
pub record TreeEntry : Type 0 where
  pub mode : FileMode
  pub name : List ℕ
  pub id : List ℕ

-- A mode is written in octal, without a leading zero.
abbrev pub mode_digits : FileMode → List ℕ
mode_digits mode.Regular = codes "100644"
mode_digits mode.Executable = codes "100755"
mode_digits mode.Symlink = codes "120000"
mode_digits mode.Gitlink = codes "160000"
mode_digits mode.Directory = codes "40000"

-- An entry is written as its mode, a space, its name, a NUL, and the bytes of its object's name.
abbrev pub entry_text : TreeEntry → List ℕ
entry_text e = mode_digits e.mode ++ codes " " ++ e.name ++ 0 ∷ e.id

-- The contents of a tree are the texts of its entries, one after another.
abbrev pub tree_contents : List TreeEntry → List ℕ
tree_contents es = flat_map entry_text es

-- Git compares the name of a directory as if it ended in a slash.
abbrev pub slash_of : FileMode → List ℕ
slash_of mode.Directory = codes "/"
slash_of _ = []

abbrev pub order_key : TreeEntry → List ℕ
order_key e = e.name ++ slash_of e.mode

-- Git's order: entries compare by the bytes of their names, a directory as if its name ended in a
-- slash.
abbrev pub tree_cmp : TreeEntry → TreeEntry → Ordering
tree_cmp = on order_key (slice_cmp nat_cmp)

-- An entry's name is one component of a path: emptyName, fullPathname, hasDot and hasDotdot of
-- git-fsck(1), and no NUL, which ends the name.
pub record IsEntryName (name : List ℕ) : Type 0 where
  pub not_empty : name ≢ []
  pub no_nul : All (λ byte. byte ≢ 0) name
  pub no_slash : All (λ byte. byte ≢ 47) name
  pub not_dot : name ≢ codes "."
  pub not_dot_dot : name ≢ codes ".."

pub record CanWriteEntry (e : TreeEntry) : Type 0 where
  pub name : IsEntryName e.name
  pub id : IsObjectName e.id

-- Entries make a tree if each can be written, their names are distinct whatever their kinds
-- (duplicateEntries), and they are in Git's order (treeNotSorted).
pub record CanWriteTree (es : List TreeEntry) : Type 0 where
  pub entries : All CanWriteEntry es
  pub names_are_distinct : AllPairs (λ a b. a.name ≢ b.name) es
  pub in_order : IsSorted tree_cmp es
