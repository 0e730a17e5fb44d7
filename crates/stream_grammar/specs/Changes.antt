-- The words of a change: modes, datarefs and paths; git-fast-import(1), "filemodify" and after.
use Rattle.std.specs.Prelude.{ℕ, Bool, false, ◌||◌, ◌&&◌, not, ◌==◌, nat_lt, if◌then◌else◌, List, [], ◌∷◌, length, Result, Ok, Err, codes}
use Rattle.std.specs.List.{list_all}
use Rattle.std.specs.Str.{bytes_eq}
use Rattle.git_model.specs.declared.file_mode.FileMode.{FileMode}
use Rattle.git_model.specs.declared.file_mode.FileMode.TheVariants as mode
use Rattle.git_model.specs.Results.{refused_as}
use Rattle.git_paths.specs.declared.fault.Fault.{Fault as PathFault}
use Rattle.git_paths.specs.declared.fault.Fault.TheVariants as path_fault
use Rattle.git_paths.specs.declared.place.Place.TheVariants.{Source, Last}
use Rattle.git_paths.specs.Reading.{path_at}
use Rattle.stream_grammar.specs.declared.fault.Fault.{Fault}
use Rattle.stream_grammar.specs.declared.fault.Fault.TheVariants as fault
use Rattle.stream_grammar.specs.declared.data_ref.DataRef.{DataRef}
use Rattle.stream_grammar.specs.Texts.{read, first_word, after_space, required, dataref_of}

-- The modes of the manual, with the short forms of the first two: <mode>
unfoldable pub mode_of : List ℕ → Result FileMode Fault
mode_of word =
    if bytes_eq word (codes "100644") || bytes_eq word (codes "644") then Ok mode.Regular
    else if bytes_eq word (codes "100755") || bytes_eq word (codes "755") then Ok mode.Executable
    else if bytes_eq word (codes "120000") then Ok mode.Symlink
    else if bytes_eq word (codes "160000") then Ok mode.Gitlink
    else if bytes_eq word (codes "040000") then Ok mode.Directory
    else Err fault.BadMode

-- The mode of inline contents must be that of a file.
abbrev pub mode_inline : FileMode → Result FileMode Fault
mode_inline mode.Regular = Ok mode.Regular
mode_inline mode.Executable = Ok mode.Executable
mode_inline mode.Symlink = Ok mode.Symlink
mode_inline mode.Gitlink = Err fault.Malformed
mode_inline mode.Directory = Err fault.Malformed

-- A path is the list of its components.
abbrev pub Path : Type 0
Path = List (List ℕ)

-- A fault of a path, as one of the grammar.
abbrev pub fault_of_path : PathFault → Fault
fault_of_path path_fault.BadPath = fault.BadPath
fault_of_path path_fault.Limit = fault.Limit
fault_of_path path_fault.Memory = fault.Memory

-- A path that was read, or its fault as one of the grammar.
abbrev pub path_read : {A : Type 0} → Result A PathFault → Result A Fault
path_read found = refused_as fault_of_path found

-- The path that is the rest of a line: <path>
abbrev pub last_path : List ℕ → Result Path Fault
last_path text = read (path_read (path_at Last text)) (λ found. Ok found.0)

-- A source with a space after it, and the path that is the rest of the line: <path> SP <path>
abbrev pub paths_of : List ℕ → Result (Path × Path) Fault
paths_of text =
    read (path_read (path_at Source text)) (λ source.
    read (last_path source.1) (λ path. Ok (source.0, path)))

-- <dataref> SP <path>
abbrev pub object_and_path : List ℕ → Result (DataRef × Path) Fault
object_and_path text =
    read (dataref_of (first_word text)) (λ object.
    read (required (after_space text)) (λ rest.
    read (last_path rest) (λ path. Ok (object, path))))

-- <mode> SP <dataref> SP <path>
abbrev pub modified : List ℕ → Result (FileMode × DataRef × Path) Fault
modified text =
    read (mode_of (first_word text)) (λ mode.
    read (required (after_space text)) (λ rest.
    read (object_and_path rest) (λ file. Ok (mode, file.0, file.1))))

-- <mode> SP 'inline' SP <path>, where the rest of the line begins with 'inline'
abbrev pub inline_path : List ℕ → Result Path Fault
inline_path rest = read (required (after_space rest)) (λ text. last_path text)

-- 'M' <mode> 'inline' <path>: the mode and the path.
abbrev pub modified_inline : List ℕ → Result (FileMode × Path) Fault
modified_inline text =
    read (mode_of (first_word text)) (λ mode.
    read (required (after_space text)) (λ rest.
    read (mode_inline mode) (λ file_mode.
    read (inline_path rest) (λ path. Ok (file_mode, path)))))

-- The text begins with a quote.
abbrev pub is_quoted : List ℕ → Bool
is_quoted [] = false
is_quoted (byte ∷ bytes) = byte == 34

-- An encoding has at least one byte and no line end.
abbrev pub is_encoding : List ℕ → Bool
is_encoding text = nat_lt 0 (length text) && list_all (λ byte. not (byte == 10)) text

-- 'encoding' <encoding>: the text, if it is an encoding.
abbrev pub encoding_of : List ℕ → Result (List ℕ) Fault
encoding_of text = if is_encoding text then Ok text else Err fault.Malformed
