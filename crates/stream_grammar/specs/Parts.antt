-- Parts: the kind of an item, by its first word, and of an `M` line by its third word too; by the
-- commands of git-fast-import(1).
use Rattle.std.specs.Prelude.{ℕ, Bool, true, false, nat_eq, if◌then◌else◌, List, [], ◌∷◌, ◌++◌, codes}
use Rattle.std.specs.List.{starts_with, ends_with}
use Rattle.std.specs.Str.{bytes_eq}
use Rattle.stream_lex.specs.Items.{Item, Line, Data, Blank}
use Rattle.stream_grammar.specs.Texts.{argument, first_word}
use Rattle.stream_grammar.specs.declared.part.OpeningLine.TheVariants as opening
use Rattle.stream_grammar.specs.declared.part.ReplyLine.TheVariants as reply
use Rattle.stream_grammar.specs.declared.part.ControlLine.TheVariants as control
use Rattle.stream_grammar.specs.declared.part.HeaderLine.TheVariants as header
use Rattle.stream_grammar.specs.declared.part.CommitIshLine.TheVariants as commit_ish
use Rattle.stream_grammar.specs.declared.part.ChangeLine.TheVariants as change
use Rattle.stream_grammar.specs.declared.part.Part.{Part}
use Rattle.stream_grammar.specs.declared.part.Part.TheVariants as part

-- The lines of the manual, each by its first word and the space after it, or by the whole line if
-- that has no space. First the lines that change the files of a commit:
abbrev pub change_words : List (List ℕ × Part)
change_words =
    (codes "M ", part.Change change.Modify)
    ∷ (codes "D ", part.Change change.Delete)
    ∷ (codes "C ", part.Change change.Copy)
    ∷ (codes "R ", part.Change change.Rename)
    ∷ (codes "deleteall", part.Change change.DeleteAll) ∷ []

-- The lines inside a command that say something about its object:
abbrev pub header_words : List (List ℕ × Part)
header_words =
    (codes "mark ", part.Header header.Mark)
    ∷ (codes "original-oid ", part.Header header.OriginalOid)
    ∷ (codes "author ", part.Header header.Author)
    ∷ (codes "committer ", part.Header header.Committer)
    ∷ (codes "encoding ", part.Header header.Encoding)
    ∷ (codes "tagger ", part.Header header.Tagger) ∷ []

-- The lines inside a command that name a commit:
abbrev pub commit_ish_words : List (List ℕ × Part)
commit_ish_words =
    (codes "from ", part.CommitIsh commit_ish.From)
    ∷ (codes "merge ", part.CommitIsh commit_ish.Merge)
    ∷ (codes "to ", part.CommitIsh commit_ish.To) ∷ []

-- The first lines of the commands of several lines:
abbrev pub opening_words : List (List ℕ × Part)
opening_words =
    (codes "blob", part.Opening opening.Blob)
    ∷ (codes "commit ", part.Opening opening.Commit)
    ∷ (codes "tag ", part.Opening opening.Tag)
    ∷ (codes "reset ", part.Opening opening.Reset)
    ∷ (codes "alias", part.Opening opening.Alias) ∷ []

-- The commands of one line that print something:
abbrev pub reply_words : List (List ℕ × Part)
reply_words =
    (codes "progress ", part.Reply reply.Progress)
    ∷ (codes "get-mark ", part.Reply reply.GetMark)
    ∷ (codes "cat-blob ", part.Reply reply.CatBlob)
    ∷ (codes "ls ", part.Reply reply.Ls) ∷ []

-- The commands of one line that are about the stream itself:
abbrev pub control_words : List (List ℕ × Part)
control_words =
    (codes "checkpoint", part.Control control.Checkpoint)
    ∷ (codes "done", part.Control control.Done)
    ∷ (codes "feature ", part.Control control.Feature)
    ∷ (codes "option ", part.Control control.OptionCommand) ∷ []

-- All of them. No line fits two of these words.
abbrev pub words : List (List ℕ × Part)
words =
    change_words ++ header_words ++ commit_ish_words
    ++ opening_words ++ reply_words ++ control_words

-- A line fits a word: it begins with a word that ends in a space, and is equal to any other word.
abbrev pub fits : List ℕ → List ℕ → Bool
fits word text =
    if ends_with nat_eq word (codes " ") then starts_with nat_eq text word else bytes_eq text word

-- The part of the first word in the list that a line fits. A line that fits none is unknown.
abbrev pub first_fit : List (List ℕ × Part) → List ℕ → Part
first_fit [] text = part.Unknown
first_fit (row ∷ rows) text = if fits row.0 text then row.1 else first_fit rows text

-- The part of the first word that the text begins with.
unfoldable pub part_by_word : List ℕ → Part
part_by_word text = first_fit words text

-- The third word of a line is `inline`.
abbrev pub is_inline : List ℕ → Bool
is_inline text = bytes_eq (first_word (argument (argument text))) (codes "inline")

-- The data of an `M` line whose third word is `inline` come after it.
abbrev pub with_inline : Part → Bool → Part
with_inline (part.Change change.Modify) inline =
    if inline then part.Change change.ModifyInline else part.Change change.Modify
with_inline known inline = known

-- The part of a line.
abbrev pub part_of_line : List ℕ → Part
part_of_line text = with_inline (part_by_word text) (is_inline text)

-- The part of an item.
abbrev pub part_of : Item → Part
part_of (Line text) = part_of_line text
part_of (Data contents) = part.Data
part_of Blank = part.Blank

-- A `feature` may still come after features, options and blank lines.
abbrev pub is_early : Part → Bool
is_early (part.Control control.Feature) = true
is_early (part.Control control.OptionCommand) = true
is_early part.Blank = true
is_early _ = false

-- The place of a part among all parts.
abbrev pub place_of : Part → ℕ
place_of (part.Opening opening.Blob) = 0
place_of (part.Opening opening.Commit) = 1
place_of (part.Opening opening.Tag) = 2
place_of (part.Opening opening.Reset) = 3
place_of (part.Opening opening.Alias) = 4
place_of (part.Reply reply.Progress) = 5
place_of (part.Reply reply.GetMark) = 6
place_of (part.Reply reply.CatBlob) = 7
place_of (part.Reply reply.Ls) = 8
place_of (part.Control control.Checkpoint) = 9
place_of (part.Control control.Done) = 10
place_of (part.Control control.Feature) = 11
place_of (part.Control control.OptionCommand) = 12
place_of (part.Header header.Mark) = 13
place_of (part.Header header.OriginalOid) = 14
place_of (part.Header header.Author) = 15
place_of (part.Header header.Committer) = 16
place_of (part.Header header.Encoding) = 17
place_of (part.Header header.Tagger) = 18
place_of (part.CommitIsh commit_ish.From) = 19
place_of (part.CommitIsh commit_ish.Merge) = 20
place_of (part.CommitIsh commit_ish.To) = 21
place_of (part.Change change.Modify) = 22
place_of (part.Change change.ModifyInline) = 23
place_of (part.Change change.Delete) = 24
place_of (part.Change change.Copy) = 25
place_of (part.Change change.Rename) = 26
place_of (part.Change change.DeleteAll) = 27
place_of part.Data = 28
place_of part.Blank = 29
place_of part.Unknown = 30

-- Whether two parts are one.
abbrev pub same : Part → Part → Bool
same a b = nat_eq (place_of a) (place_of b)
