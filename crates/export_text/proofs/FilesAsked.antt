-- What the line of a file asks for.
use Rattle.std.proofs.Common.{◌≡◌, ℕ, false, Bool, List, [], ◌∷◌, ◌++◌, Option, None, Some, Result, Ok, refl, sym, ap, subst, ◌∙◌, codes, append_assoc}
use Rattle.std.specs.Str.{bytes_eq}
use Rattle.git_model.specs.declared.file_mode.FileMode.{FileMode}
use Rattle.git_model.specs.declared.file_mode.FileMode.TheVariants as mode
use Rattle.git_model.specs.Modes.{six_digits}
use Rattle.git_paths.specs.declared.fault.Fault.{Fault as PathFault}
use Rattle.git_paths.specs.Paths.{IsPath, IsWithinLimits, joined}
use Rattle.git_paths.specs.Quoting.{quoted}
use Rattle.git_paths.proofs.Printed.{printed_is_read}
use Rattle.stream_lex.specs.Items.{Line}
use Rattle.stream_grammar.specs.declared.data_ref.DataRef.{DataRef}
use Rattle.stream_grammar.specs.declared.fault.Fault.{Fault}
use Rattle.stream_grammar.specs.declared.part.Part.TheVariants as part
use Rattle.stream_grammar.specs.declared.part.ChangeLine.TheVariants as change_line
use Rattle.stream_grammar.specs.declared.stage.Opened.TheVariants as opened
use Rattle.stream_grammar.specs.Texts.{read, required, first_word, after_space, dataref_of}
use Rattle.stream_grammar.specs.Changes.{Path, mode_of, path_read, last_path, object_and_path, modified}
use Rattle.stream_grammar.specs.Acts.{Act, Change, Effect, brings}
use Rattle.stream_grammar.specs.Acts.{Modify}
use Rattle.stream_grammar.specs.Grammar.{Term, Stands, fit, is_empty}
use Rattle.stream_grammar.specs.Parts.{part_by_word, part_of_line, with_inline}
use Rattle.export_text.specs.ExportActs.{asks}
use Rattle.export_text.proofs.WrittenWords.{HasNoSpace, word-first, rest-after}
use Rattle.export_text.proofs.Asking.{Gives, inside, under_way}

-- A word stands for an object.
pub record Refers (word : List ℕ) (object : DataRef) : Type 0 where
  pub no_space : HasNoSpace word
  pub no_inline : bytes_eq word (codes "inline") ≡ false
  pub is : dataref_of word ≡ Ok object

-- A path can be written.
pub record CanWritePath (path : Path) : Type 0 where
  pub components : IsPath path
  pub limits : IsWithinLimits path

abbrev rest_of : List ℕ → Path → List ℕ
rest_of word path = word ++ 32 ∷ quoted (joined path)

path-read : (path : Path) → CanWritePath path → last_path (quoted (joined path)) ≡ Ok path
path-read path can =
    ap (λ (r : Result (Path × List ℕ) PathFault). read (path_read r) (λ found. Ok found.0))
    (printed_is_read path can.components can.limits)

-- What follows where a path, an object and a mode were read.
with_path : DataRef → Path → Result (DataRef × Path) Fault
with_path object path = Ok (object, path)

before_path : Result Path Fault → DataRef → Result (DataRef × Path) Fault
before_path path object = read path (with_path object)

object-read : (word : List ℕ) (object : DataRef) (path : Path) → Refers word object
    → CanWritePath path → object_and_path (rest_of word path) ≡ Ok (object, path)
unfolding with_path before_path
object-read word object path refers can =
    let rest : List ℕ = quoted (joined path) in
    let text : List ℕ = rest_of word path in
    let first : object_and_path text ≡ read {B = DataRef × Path} (required (after_space text)) (λ r. before_path (last_path r) object) =
    ap (λ (w : List ℕ). read {B = DataRef × Path} (dataref_of w) (λ o. read {B = DataRef × Path} (required (after_space text)) (λ r. before_path (last_path r) o))) (word-first word rest refers.no_space)
    ∙ ap (λ (x : Result DataRef Fault). read {B = DataRef × Path} x (λ o. read {B = DataRef × Path} (required (after_space text)) (λ r. before_path (last_path r) o))) refers.is in
    first
    ∙ ap (λ (r : Option (List ℕ)). read {B = DataRef × Path} (required r) (λ r. before_path (last_path r) object)) (rest-after word rest refers.no_space)
    ∙ ap (λ (p : Result Path Fault). before_path p object) (path-read path can)

mode-read : (m : FileMode) (rest : List ℕ) → mode_of (first_word (six_digits m ++ 32 ∷ rest)) ≡ Ok m
unfolding mode_of
mode-read mode.Regular rest = refl
mode-read mode.Executable rest = refl
mode-read mode.Symlink rest = refl
mode-read mode.Gitlink rest = refl
mode-read mode.Directory rest = refl

after-mode : (m : FileMode) (rest : List ℕ) → after_space (six_digits m ++ 32 ∷ rest) ≡ Some rest
after-mode mode.Regular rest = refl
after-mode mode.Executable rest = refl
after-mode mode.Symlink rest = refl
after-mode mode.Gitlink rest = refl
after-mode mode.Directory rest = refl

with_file : FileMode → DataRef × Path → Result (FileMode × DataRef × Path) Fault
with_file m file = Ok (m, file.0, file.1)

-- A line of a file, without its first word.
abbrev said_of : FileMode → List ℕ → Path → List ℕ
said_of m word path = six_digits m ++ 32 ∷ rest_of word path

file-read : (m : FileMode) (word : List ℕ) (object : DataRef) (path : Path) → Refers word object
    → CanWritePath path → modified (said_of m word path) ≡ Ok (m, object, path)
unfolding with_file
file-read m word object path refers can =
    let text : List ℕ = said_of m word path in
    ap (λ (x : Result FileMode Fault). read {B = FileMode × DataRef × Path} x (λ x. read {B = FileMode × DataRef × Path} (required (after_space text)) (λ r. read (object_and_path r) (with_file x)))) (mode-read m (rest_of word path))
    ∙ ap (λ (r : Option (List ℕ)). read {B = FileMode × DataRef × Path} (required r) (λ r. read (object_and_path r) (with_file m))) (after-mode m (rest_of word path))
    ∙ ap (λ (f : Result (DataRef × Path) Fault). read f (with_file m)) (object-read word object path refers can)

abbrev line_of : FileMode → List ℕ → Path → List ℕ
line_of m word path = codes "M " ++ said_of m word path

inline-other : (word : List ℕ) (path : Path) → HasNoSpace word
    → bytes_eq word (codes "inline") ≡ false
    → bytes_eq (first_word (rest_of word path)) (codes "inline") ≡ false
inline-other word path h other =
    ap (λ (w : List ℕ). bytes_eq w (codes "inline")) (word-first word (quoted (joined path)) h) ∙ other

file-part : (m : FileMode) (word : List ℕ) (path : Path) → HasNoSpace word
    → bytes_eq word (codes "inline") ≡ false → part_of_line (line_of m word path) ≡ part.Change change_line.Modify
unfolding part_by_word
file-part mode.Regular word path h other = ap (with_inline (part.Change change_line.Modify)) (inline-other word path h other)
file-part mode.Executable word path h other = ap (with_inline (part.Change change_line.Modify)) (inline-other word path h other)
file-part mode.Symlink word path h other = ap (with_inline (part.Change change_line.Modify)) (inline-other word path h other)
file-part mode.Gitlink word path h other = ap (with_inline (part.Change change_line.Modify)) (inline-other word path h other)
file-part mode.Directory word path h other = ap (with_inline (part.Change change_line.Modify)) (inline-other word path h other)

-- The line as it is written.
abbrev pub file_line : FileMode → List ℕ → Path → List ℕ
file_line m word path = codes "M " ++ six_digits m ++ codes " " ++ word ++ codes " " ++ quoted (joined path)

pub file-line : (m : FileMode) (word : List ℕ) (path : Path)
    → file_line m word path ≡ codes "M " ++ (six_digits m ++ 32 ∷ (word ++ 32 ∷ quoted (joined path)))
file-line mode.Regular word path =
    ap (λ (t : List ℕ). codes "M 100644 " ++ t) (append_assoc word (32 ∷ []) (quoted (joined path)))
file-line mode.Executable word path =
    ap (λ (t : List ℕ). codes "M 100755 " ++ t) (append_assoc word (32 ∷ []) (quoted (joined path)))
file-line mode.Symlink word path =
    ap (λ (t : List ℕ). codes "M 120000 " ++ t) (append_assoc word (32 ∷ []) (quoted (joined path)))
file-line mode.Gitlink word path =
    ap (λ (t : List ℕ). codes "M 160000 " ++ t) (append_assoc word (32 ∷ []) (quoted (joined path)))
file-line mode.Directory word path =
    ap (λ (t : List ℕ). codes "M 040000 " ++ t) (append_assoc word (32 ∷ []) (quoted (joined path)))

-- What the line asks for, in a commit where files may change.
pub file-asked : (m : FileMode) (word : List ℕ) (object : DataRef) (path : Path) (left : List Term)
    → Refers word object → CanWritePath path → fit (part.Change change_line.Modify) left ≡ Stands left
    → is_empty left ≡ false
    → Gives (under_way opened.Changes None left) (Line (file_line m word path)) (asks (Change (Modify m object path))) (under_way opened.Changes None left)
file-asked m word object path left refers can fits some =
    subst (λ (t : List ℕ). Gives (under_way opened.Changes None left) (Line t) (asks (Change (Modify m object path))) (under_way opened.Changes None left))
    (sym (file-line m word path))
    (subst (λ (b : Bool). Gives (under_way opened.Changes None left) (Line (line_of m word path)) (record { ends_commit = b; act = Change (Modify m object path) }) (under_way opened.Changes None left)) some
    (inside (under_way opened.Changes None left) (line_of m word path) (part.Change change_line.Modify) left (record { mark = None; act = Change (Modify m object path) })
    (file-part m word path refers.no_space refers.no_inline) fits
    (ap (λ (f : Result (FileMode × DataRef × Path) Fault). read {B = Effect} (read {B = Act} f (λ f. Ok (Change (Modify f.0 f.1 f.2)))) (λ act. brings None act)) (file-read m word object path refers can))))
