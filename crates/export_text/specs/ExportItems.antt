-- The items of an exported object: git-fast-export(1), and git-fast-import(1), "Commands".
use Rattle.std.specs.Prelude.{ℕ, ◌+◌, List, [], ◌∷◌, ◌++◌, map, Option, None, Some, codes, decimal}
use Rattle.hex.specs.Hex.{encode_lower}
use Rattle.git_model.specs.declared.file_mode.FileMode.{FileMode}
use Rattle.git_model.specs.declared.file_mode.FileMode.TheVariants as mode
use Rattle.git_model.specs.declared.kind.Kind.{Kind}
use Rattle.git_model.specs.declared.kind.Kind.TheVariants as kind
use Rattle.git_model.specs.Modes.{six_digits}
use Rattle.git_model.specs.Commit.{Commit}
use Rattle.git_model.specs.CommitReading.{commit_read}
use Rattle.git_model.specs.Tag.{Tag}
use Rattle.git_model.specs.TagReading.{tag_read}
use Rattle.git_model.specs.Repository.{Object}
use Rattle.git_model.specs.References.{place_of}
use Rattle.git_paths.specs.Paths.{joined}
use Rattle.git_paths.specs.Quoting.{quoted}
use Rattle.file_maps.specs.declared.entry.Entry.{Entry}
use Rattle.file_maps.specs.FileMap.{Path, listed}
use Rattle.file_maps.specs.StoredFiles.{stored_map}
use Rattle.stream_lex.specs.Items.{Item, Line, Data, Blank}

-- The mark of an object is its place in the repository, counted from 1.
abbrev pub mark_text : List Object → List ℕ → List ℕ
mark_text os id = codes ":" ++ decimal (place_of id os + 1)

-- A line that refers to an object by its mark.
abbrev pub marked : List Object → List ℕ → List ℕ → Item
marked os word id = Line (word ++ mark_text os id)

-- A line that may be missing.
abbrev pub line_if : List ℕ → Option (List ℕ) → List Item
line_if word None = []
line_if word (Some text) = Line (word ++ text) ∷ []

-- 'blob' LF mark data
abbrev pub blob_items : List Object → List ℕ → List ℕ → List Item
blob_items os id bytes = Line (codes "blob") ∷ marked os (codes "mark ") id ∷ Data bytes ∷ []

-- The branch on which commits are exported.
abbrev pub scratch : List ℕ
scratch = codes "refs/export/scratch"

-- A commit without parents is the first one of an unborn branch.
abbrev pub fresh_branch : List (List ℕ) → List Item
fresh_branch [] = Line (codes "reset " ++ scratch) ∷ []
fresh_branch (first ∷ others) = []

-- The first parent is what the commit starts from, and each other one is merged.
abbrev pub parent_items : List Object → List (List ℕ) → List Item
parent_items os [] = []
parent_items os (first ∷ others) =
    marked os (codes "from ") first ∷ map (marked os (codes "merge ")) others

-- 'M' SP <mode> SP <dataref> SP <path> LF, a blob by its mark, and a gitlink by its name.
abbrev pub dataref_text : List Object → FileMode → List ℕ → List ℕ
dataref_text os mode.Gitlink id = encode_lower id
dataref_text os file id = mark_text os id

abbrev pub file_item : List Object → Path → Entry → Item
file_item os path e = Line (codes "M " ++ six_digits e.mode ++ codes " "
    ++ dataref_text os e.mode e.name ++ codes " " ++ quoted (joined path))

-- All files of the tree, in the order of the paths' bytes.
abbrev pub item_of_file : List Object → Path × Entry → Item
item_of_file os f = file_item os f.0 f.1

abbrev pub file_items : List Object → List ℕ → List Item
file_items os tree =
    Line (codes "deleteall") ∷ map (item_of_file os) (listed (stored_map os tree))

-- 'commit' SP <ref> LF mark author committer encoding? data from? merge* change* LF
abbrev pub commit_head : List Object → List ℕ → Commit → List Item
commit_head os id c = fresh_branch c.parents
    ++ Line (codes "commit " ++ scratch) ∷ marked os (codes "mark ") id
    ∷ Line (codes "author " ++ c.author) ∷ Line (codes "committer " ++ c.committer)
    ∷ line_if (codes "encoding ") c.encoding

abbrev pub commit_items : List Object → List ℕ → Commit → List Item
commit_items os id c = commit_head os id c ++ Data c.message ∷ []
    ++ parent_items os c.parents ++ file_items os c.tree ++ Blank ∷ []

-- 'tag' SP <name> LF mark? from tagger? data
abbrev pub mark_if : List Object → Option (List ℕ) → List Item
mark_if os None = []
mark_if os (Some id) = marked os (codes "mark ") id ∷ []

abbrev pub tag_items : List Object → Option (List ℕ) → Tag → List Item
tag_items os id t = Line (codes "tag " ++ t.name) ∷ mark_if os id
    ++ marked os (codes "from ") t.target ∷ []
    ++ line_if (codes "tagger ") t.tagger ++ Data t.message ∷ []

-- The items of an object, with its mark. Trees are exported with the commits that have them.
abbrev pub items_of : List Object → List ℕ → Kind → List ℕ → List Item
items_of os id kind.Blob bytes = blob_items os id bytes
items_of os id kind.Tree bytes = []
items_of os id kind.Commit bytes = commit_items os id (commit_read bytes)
items_of os id kind.Tag bytes = tag_items os (Some id) (tag_read bytes)

abbrev pub items_of_object : List Object → Object → List Item
items_of_object os o = items_of os o.id o.content.kind o.content.bytes
