-- The grammar of commands: git-fast-import(1), "Commands".
use Rattle.std.specs.Prelude.{Bool, true, false, if◌then◌else◌, List, [], ◌∷◌, ◌++◌, Option, Some, None}
use Rattle.std.specs.List.{list_any}
use Rattle.stream_grammar.specs.declared.part.Part.{Part}
use Rattle.stream_grammar.specs.declared.part.Part.TheVariants.{Opening, Reply, Control, Header, CommitIsh, Change, Data, Blank}
use Rattle.stream_grammar.specs.declared.part.OpeningLine.{OpeningLine}
use Rattle.stream_grammar.specs.declared.part.OpeningLine.TheVariants.{Blob, Commit, Tag, Reset, Alias}
use Rattle.stream_grammar.specs.declared.part.ReplyLine.TheVariants.{CatBlob, Ls}
use Rattle.stream_grammar.specs.declared.part.HeaderLine.TheVariants.{Mark, OriginalOid, Author, Committer, Encoding, Tagger}
use Rattle.stream_grammar.specs.declared.part.CommitIshLine.TheVariants.{From, Merge, To}
use Rattle.stream_grammar.specs.declared.part.ChangeLine.TheVariants.{Modify, ModifyInline, Delete, Copy, Rename, DeleteAll}
use Rattle.stream_grammar.specs.Parts.{same}

-- How often a part may come in its place.
pub data Often : Type 0 where
  Once Perhaps AnyNumber : Often

-- A term is a place in a command, with the parts that may come there.
pub record Term : Type 0 where
  pub often : Often
  pub parts : List Part

-- The part must come here, once.
abbrev pub once : Part → Term
once part = record { often = Once; parts = part ∷ [] }

-- The part may come here, once.
abbrev pub perhaps : Part → Term
perhaps part = record { often = Perhaps; parts = part ∷ [] }

-- These parts may come here, any number of times.
abbrev pub any_number : List Part → Term
any_number parts = record { often = AnyNumber; parts = parts }

-- The parts that may come in the place of a change: 'M', 'D', 'C', 'R', 'deleteall', and 'cat-blob'
-- and 'ls', which are commands too.
abbrev pub changes : List Part
changes =
    Change Modify ∷ Change ModifyInline ∷ Change Delete ∷ Change Copy ∷ Change Rename
    ∷ Change DeleteAll ∷ Reply CatBlob ∷ Reply Ls ∷ []

-- What comes after the first line of a command, in the order of the manual. A word below stands for
-- its line: 'mark' SP ':' <idnum> LF, and so on.
abbrev pub production : OpeningLine → List Term
-- 'blob' LF mark? original-oid? data
production Blob = perhaps (Header Mark) ∷ perhaps (Header OriginalOid) ∷ once Data ∷ []
-- 'commit' SP <ref> LF mark? original-oid? author? committer encoding? data
--     from? merge* change* LF?
production Commit =
    perhaps (Header Mark) ∷ perhaps (Header OriginalOid) ∷ perhaps (Header Author)
    ∷ once (Header Committer) ∷ perhaps (Header Encoding) ∷ once Data ∷ perhaps (CommitIsh From)
    ∷ any_number (CommitIsh Merge ∷ []) ∷ any_number changes ∷ perhaps Blank ∷ []
-- 'tag' SP <name> LF mark? from original-oid? tagger? data
production Tag =
    perhaps (Header Mark) ∷ once (CommitIsh From) ∷ perhaps (Header OriginalOid)
    ∷ perhaps (Header Tagger) ∷ once Data ∷ []
-- 'reset' SP <ref> LF from? LF?
production Reset = perhaps (CommitIsh From) ∷ perhaps Blank ∷ []
-- 'alias' LF mark to
production Alias = once (Header Mark) ∷ once (CommitIsh To) ∷ []

-- What comes after the first part of a command; none for a part that stands inside commands alone.
-- Nothing comes after a command of one line: 'progress' SP <any> LF, 'get-mark' SP ':' <idnum> LF,
-- 'cat-blob' SP <dataref> LF, 'ls' SP <dataref> SP <path> LF, 'checkpoint' LF, 'done' LF,
-- 'feature' SP <feature> ('=' <argument>)? LF, 'option' SP <option> LF. Any number of blank lines
-- may stand between commands (own; git takes one), and each is a command without effect.
abbrev pub production_of : Part → Option (List Term)
production_of (Opening line) = Some (production line)
production_of (Reply line) = Some []
production_of (Control line) = Some []
production_of Blank = Some []
production_of _ = None

-- Whether a part may come in a term.
abbrev pub accepts : Term → Part → Bool
accepts term part = list_any (same part) term.parts

-- Whether such a term may stay empty.
abbrev pub is_free : Often → Bool
is_free Once = false
is_free Perhaps = true
is_free AnyNumber = true

-- The terms that stay open after this one, the first of them, took a part.
abbrev pub used : Often → Term → List Term → List Term
used Once term terms = terms
used Perhaps term terms = terms
used AnyNumber term terms = term ∷ terms

-- 'M' SP <mode> SP 'inline' SP <path> LF data: its data come directly after it.
abbrev pub due : Part → List Term
due part = if same part (Change ModifyInline) then once Data ∷ [] else []

-- The terms that are left after a term, the first of them, took a part.
abbrev pub left_after : Part → Term → List Term → List Term
left_after part term terms = due part ++ used term.often term terms

-- How a part fits the terms that are left: it belongs to one of them and leaves others; it comes
-- after the command, which may end here; or a part before it is missing.
pub data Fit : Type 0 where
  Stands : List Term → Fit
  Ends : Fit
  Misses : Fit

-- A part belongs to the first term that accepts it, if no term before that one must be filled.
abbrev pub fit : Part → List Term → Fit
fit part [] = Ends
fit part (term ∷ terms) =
    if accepts term part then Stands (left_after part term terms)
    else if is_free term.often then fit part terms
    else Misses

-- Whether a command may end here.
abbrev pub may_end : List Term → Bool
may_end [] = true
may_end (term ∷ terms) = if is_free term.often then may_end terms else false

-- Whether no term is left: the command is whole.
abbrev pub is_empty : List Term → Bool
is_empty [] = true
is_empty (term ∷ terms) = false
