-- What is printed of objects and refs: git-rev-parse(1), git-cat-file(1), git-ls-tree(1),
-- git-log(1), git-show-ref(1).
use Rattle.std.specs.Prelude.{◌≡◌, ℕ, ◌≤◌, ◌||◌, not, Bool, List, ◌++◌, length, map, take, find, unwrap_or, All, Option, None, Some, Result, Ok, Err, codes, decimal}
use Rattle.std.specs.List.{flat_map, list_all, range_with_len}
use Rattle.std.specs.Str.{bytes_eq}
use Rattle.hex.specs.Hex.{encode_lower}
use Rattle.git_model.specs.Bytes.{BeginsWith}
use Rattle.git_model.specs.Kind.{kind_word}
use Rattle.git_model.specs.CommitReading.{commit_read, first_line}
use Rattle.git_model.specs.Content.{Content}
use Rattle.git_model.specs.RefStore.{RefStore, listed_refs}
use Rattle.git_model.specs.Repository.{Object}
use Rattle.git_model.specs.References.{content_named}
use Rattle.git_model.specs.StoredPath.{entries_of}
use Rattle.git_model.specs.Tree.{TreeEntry}
use Rattle.git_objects.specs.Listing.{listing}
use Rattle.tenant_tables.specs.Abbreviation.{begins}
use Rattle.answers.specs.declared.fault.Fault.{Fault}
use Rattle.answers.specs.declared.fault.Fault.TheVariants as fault

-- A line with its line end.
abbrev pub line : List ℕ → List ℕ
line text = text ++ codes "\n"

-- ---- rev-parse, abbrev

abbrev pub name_line : List ℕ → List ℕ
name_line id = line (encode_lower id)

-- Whether digits begin no other name of these objects than this one.
abbrev pub begins_no_other : List Object → List ℕ → List ℕ → Bool
begins_no_other os id prefix = list_all (λ o. bytes_eq o.id id || not (begins prefix o.id)) os

-- The shortest prefix of a name, of 4 to 40 digits, that begins no other: all 40 digits begin no
-- other.
unfoldable pub shortest_prefix : List Object → List ℕ → List ℕ
shortest_prefix os id = let digits = encode_lower id in
    let prefixes = map (λ n. take n digits) (range_with_len 4 37) in
    unwrap_or (find (begins_no_other os id) prefixes) digits

-- A prefix of a name is unique where no other name of these objects begins with it. It has at
-- least 4 digits.
pub record IsUniquePrefix (os : List Object) (id prefix : List ℕ) : Type 0 where
  pub begins : BeginsWith (encode_lower id) prefix
  pub digits : 4 ≤ length prefix
  pub no_other : All (λ o. BeginsWith (encode_lower o.id) prefix → o.id ≡ id) os

-- The shortest one: no unique prefix of the name has fewer digits.
pub record IsShortestPrefix (os : List Object) (id prefix : List ℕ) : Type 0 where
  pub unique : IsUniquePrefix os id prefix
  pub shortest : (other : List ℕ) → IsUniquePrefix os id other → length prefix ≤ length other

-- ---- cat, ls, log, refs

-- <name> SP <kind> SP <size> LF <contents> LF
abbrev pub content_text : List ℕ → Content → List ℕ
content_text id content =
    line (encode_lower id ++ codes " " ++ kind_word content.kind ++ codes " "
    ++ decimal (length content.bytes)) ++ line content.bytes

-- An object that is not there is an unknown revision.
abbrev pub object_text : List ℕ → Option Content → Result (List ℕ) Fault
object_text id None = Err fault.UnknownRevision
object_text id (Some content) = Ok (content_text id content)

-- Each direct entry of a tree, in its order, under its own name.
abbrev pub tree_line : TreeEntry → List ℕ
tree_line e = line (listing e.mode e.id e.name)

abbrev pub tree_lines : List Object → List ℕ → List ℕ
tree_lines os tree = flat_map tree_line (entries_of os tree)

-- <name> SP <first line of the message> LF, for each commit.
abbrev pub log_line : List Object → List ℕ → List ℕ
log_line os id =
    line (encode_lower id ++ codes " " ++ first_line (commit_read (content_named id os).bytes))

abbrev pub log_lines : List Object → List (List ℕ) → List ℕ
log_lines os ids = flat_map (log_line os) ids

-- <name> SP <ref> LF, for each ref in the order of their bytes.
abbrev pub ref_line : (List ℕ × List ℕ) → List ℕ
ref_line ref = line (encode_lower ref.1 ++ codes " " ++ ref.0)

abbrev pub ref_lines : RefStore → List ℕ
ref_lines store = flat_map ref_line (listed_refs store)
