-- The lines that ask for a pack: git-pack-objects(1), --revs.
use Rattle.std.specs.Prelude.{ℕ, Bool, ◌||◌, ◌==◌, if◌then◌else◌, List, [], ◌∷◌, ◌++◌, filter_map, Option, None, is_some}
use Rattle.std.specs.List.{list_all}
use Rattle.std.specs.Result.{result_ok}
use Rattle.hex.specs.Hex.{decode_sized}

-- The text has at most 67,108,864 bytes.
abbrev pub text_limit : ℕ
text_limit = 67108864

-- The last line of a text: its bytes after the last line feed (10), unless there are none.
abbrev pub last_line : List ℕ → List (List ℕ)
last_line [] = []
last_line (byte ∷ line) = (byte ∷ line) ∷ []

-- The lines of a text, by the bytes of the first line so far and the bytes after them. A line feed
-- ends each line; after the last one it may be missing.
unfoldable pub lines_from : List ℕ → List ℕ → List (List ℕ)
lines_from line [] = last_line line
lines_from line (byte ∷ text) =
    if byte == 10 then line ∷ lines_from [] text else lines_from (line ++ byte ∷ []) text

abbrev pub lines_in : List ℕ → List (List ℕ)
lines_in text = lines_from [] text

-- The object name that a line of exactly 40 hexadecimal digits writes.
abbrev pub name_in : List ℕ → Option (List ℕ)
name_in digits = result_ok (decode_sized digits 20)

-- The name that a line wants, `NAME`.
abbrev pub want_in : List ℕ → Option (List ℕ)
want_in [] = None
want_in (byte ∷ line) = if byte == 94 then None else name_in (byte ∷ line)

-- The name that a line says its sender has, `^NAME`.
abbrev pub have_in : List ℕ → Option (List ℕ)
have_in [] = None
have_in (byte ∷ line) = if byte == 94 then name_in line else None

-- Every other line is malformed.
abbrev pub is_revision : List ℕ → Bool
is_revision line = is_some (want_in line) || is_some (have_in line)

abbrev pub are_revisions : List ℕ → Bool
are_revisions text = list_all is_revision (lines_in text)

-- The wants and the haves of a text, in its order.
abbrev pub wants_in : List ℕ → List (List ℕ)
wants_in text = filter_map want_in (lines_in text)

abbrev pub haves_in : List ℕ → List (List ℕ)
haves_in text = filter_map have_in (lines_in text)
