-- How edits change what a branch holds, for private contracts.
use Rattle.std.specs.Prelude.{ℕ, Bool, true, false, List, [], ◌∷◌, length, Option, None, Some, if◌then◌else◌}
use Rattle.std.specs.Cmp.Lexicographic.{slice_cmp}
use Rattle.std.specs.Ordering.{nat_cmp, is_lt}
use Rattle.std.specs.Str.{bytes_eq}
use Rattle.file_maps.specs.FileMap.{Path}
use Rattle.tree_build.specs.Shape.{What, file, unopened, opened, Shape, none, row, Held, Known, held_files}
use Rattle.tree_build.specs.Branch.{key_of}

-- The entry of a name in a directory.
abbrev pub child : Shape → List ℕ → Option Held
child none c = None
child (row d w inside rest) c =
    if bytes_eq d c then Some (record { what = w; inside = inside }) else child rest c

-- The entries without the one of a name.
abbrev pub removed : Shape → List ℕ → Shape
removed none c = none
removed (row d w inside rest) c = if bytes_eq d c then rest else row d w inside (removed rest c)

-- One entry more. It goes before the first entry that comes after it in Git's order.
abbrev pub inserted : List ℕ → Held → Shape → Shape
inserted c h none = row c h.what h.inside none
inserted c h (row d w inside rest) =
    if is_lt (slice_cmp nat_cmp (key_of c h.what) (key_of d w))
    then row c h.what h.inside (row d w inside rest)
    else row d w inside (inserted c h rest)

-- The entries, of which the one of a name now holds `h`.
abbrev pub changed : Shape → List ℕ → Held → Shape
changed none c h = none
changed (row d w inside rest) c h =
    if bytes_eq d c then row d h.what h.inside rest else row d w inside (changed rest c h)

-- An opened directory that does not have the name of a stored tree.
abbrev pub new_directory : Shape → Held
new_directory inside = record { what = opened None; inside = inside }

-- The entries of an opened directory. Anything else has none.
abbrev pub inside_of : What → Shape → Shape
inside_of (file e) inside = none
inside_of (unopened id) inside = none
inside_of (opened tree) inside = inside

abbrev pub entries_in : Option Held → Shape
entries_in None = none
entries_in (Some h) = inside_of h.what h.inside

abbrev pub is_opened : What → Bool
is_opened (file e) = false
is_opened (unopened id) = false
is_opened (opened tree) = true

abbrev pub has_opened : Option Held → Bool
has_opened None = false
has_opened (Some h) = is_opened h.what

-- What is put at a path replaces what was there, below it, or at a prefix of it.
abbrev pub put_next : Shape → List ℕ → Path → Held → Shape → Shape
put_next s c [] h below = inserted c h (removed s c)
put_next s c (d ∷ path) h below =
    if has_opened (child s c) then changed s c (new_directory below)
    else inserted c (new_directory below) (removed s c)

abbrev pub placed : Path → Held → Shape → Shape
placed [] h s = s
placed (c ∷ path) h s = put_next s c path h (placed path h (entries_in (child s c)))

-- What is left of an entry after something inside it was taken out: nothing, if nothing is left
-- inside. If `clear`, a file at a prefix of the path goes too.
abbrev pub is_none : Shape → Bool
is_none none = true
is_none (row c w inside rest) = false

abbrev pub unless_empty : Shape → Option Held
unless_empty none = None
unless_empty (row c w inside rest) = Some (new_directory (row c w inside rest))

abbrev pub left_by : Bool → What → Held → Shape → Option Held
left_by clear (file e) h below = if clear then None else Some h
left_by clear (unopened id) h below = Some h
left_by clear (opened tree) h below = unless_empty below

abbrev pub left : Bool → Path → Option Held → Shape → Option Held
left clear path None below = None
left clear [] (Some h) below = None
left clear (d ∷ path) (Some h) below = left_by clear h.what h below

abbrev pub put_back : Shape → List ℕ → Option Held → Shape
put_back s c None = removed s c
put_back s c (Some h) = changed s c h

abbrev pub dropped : Bool → Path → Shape → Shape
dropped clear [] s = s
dropped clear (c ∷ path) s =
    put_back s c
    (left clear path (child s c) (dropped clear path (entries_in (child s c))))

-- How many files `dropped` takes out.
abbrev pub taken_by : Known → Bool → What → Held → ℕ → ℕ
taken_by known clear (file e) h below = if clear then 1 else 0
taken_by known clear (unopened id) h below = 0
taken_by known clear (opened tree) h below = below

abbrev pub taken_at : Known → Bool → Path → Option Held → ℕ → ℕ
taken_at known clear path None below = 0
taken_at known clear [] (Some h) below = length (held_files known h)
taken_at known clear (d ∷ path) (Some h) below = taken_by known clear h.what h below

abbrev pub taken : Known → Bool → Path → Shape → ℕ
taken known clear [] s = 0
taken known clear (c ∷ path) s =
    taken_at known clear path (child s c) (taken known clear path (entries_in (child s c)))
