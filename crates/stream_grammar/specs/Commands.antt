-- Commands: what the items of a stream ask for, in order; git-fast-import(1), "Commands".
use Rattle.std.specs.Prelude.{ℕ, Bool, true, false, ◌&&◌, ◌||◌, not, if◌then◌else◌, List, [], ◌∷◌, ◌++◌}
use Rattle.std.specs.Prelude.{◌≡◌, Option, Some, None, Result, Ok, Err}
use Rattle.stream_lex.specs.Items.{Item}
use Rattle.stream_grammar.specs.declared.fault.Fault.{Fault}
use Rattle.stream_grammar.specs.declared.fault.Fault.TheVariants as fault
use Rattle.stream_grammar.specs.declared.part.Part.{Part}
use Rattle.stream_grammar.specs.declared.part.Part.TheVariants as part
use Rattle.stream_grammar.specs.declared.part.OpeningLine.{OpeningLine}
use Rattle.stream_grammar.specs.declared.part.OpeningLine.TheVariants as opening
use Rattle.stream_grammar.specs.declared.part.CommitIshLine.TheVariants as commit_ish
use Rattle.stream_grammar.specs.declared.part.ChangeLine.TheVariants as change
use Rattle.stream_grammar.specs.declared.stage.Opened.{Opened}
use Rattle.stream_grammar.specs.declared.stage.Opened.TheVariants as opened
use Rattle.stream_grammar.specs.Parts.{part_of, is_early}
use Rattle.stream_grammar.specs.Grammar.{Term, production_of, fit, Fit, Stands, Ends, Misses, may_end, is_empty}
use Rattle.stream_grammar.specs.Texts.{read}
use Rattle.stream_grammar.specs.Acts.{Act, Effect}
use Rattle.stream_grammar.specs.Lines.{inner_effect, first_act}

-- The open command: its kind, its mark, and the terms of its production that are left; and whether
-- it is too late for a `feature`.
pub record Open : Type 0 where
  pub late : Bool
  pub opened : Opened
  pub mark : Option ℕ
  pub left : List Term

-- What an item gives: whether a commit ends before the act, and the act.
pub record Done : Type 0 where
  pub ends_commit : Bool
  pub act : Act

-- What an item gives, and the open command after it.
pub record Step : Type 0 where
  pub done : Done
  pub next : Open

-- Whether a commit is open, after its message.
abbrev pub is_commit : Opened → Bool
is_commit opened.Changes = true
is_commit opened.Inline = true
is_commit _ = false

-- Data end a blob and a tag. The data of a commit are its message or the contents of a file; after
-- them its files may change.
abbrev pub opened_after_data : Opened → Opened
opened_after_data opened.Commit = opened.Changes
opened_after_data opened.Inline = opened.Changes
opened_after_data _ = opened.Nothing

-- Which command is open after a part of the open one.
abbrev pub opened_after : Part → Opened → Opened
opened_after part.Data now = opened_after_data now
opened_after (part.Change change.ModifyInline) now = opened.Inline
opened_after (part.CommitIsh commit_ish.To) now = opened.Nothing
opened_after part.Blank now = opened.Nothing
opened_after _ now = now

-- Which command is open after its first line.
abbrev pub opened_by_line : OpeningLine → Opened
opened_by_line opening.Blob = opened.Blob
opened_by_line opening.Commit = opened.Commit
opened_by_line opening.Tag = opened.Tag
opened_by_line opening.Reset = opened.Reset
opened_by_line opening.Alias = opened.Alias

-- Which command is open after a part that begins one. A command of one line is already over.
abbrev pub opened_by : Part → Opened
opened_by (part.Opening line) = opened_by_line line
opened_by _ = opened.Nothing

-- A part of the open command leaves these terms. A part that leaves no terms ends the command.
abbrev pub goes_on : Open → Part → List Term → Result Effect Fault → Result Step Fault
goes_on now part left (Ok effect) = Ok (record {
  done = record { ends_commit = is_commit now.opened && is_empty left; act = effect.act };
  next = record {
    late = now.late;
    opened = opened_after part now.opened;
    mark = effect.mark;
    left = left;
  };
})
goes_on now part left (Err e) = Err e

-- A part that begins a command leaves the terms of its production, and ends an open commit. Every
-- command but features, options and blank lines makes later features too late.
abbrev pub opens : Open → Part → List Term → Result Act Fault → Result Step Fault
opens now part left (Ok act) = Ok (record {
  done = record { ends_commit = is_commit now.opened; act = act };
  next = record {
    late = now.late || not (is_early part);
    opened = opened_by part;
    mark = None;
    left = left;
  };
})
opens now part left (Err e) = Err e

-- Only a part that has a production begins a command.
abbrev pub step_outside : Open → Option (List Term) → Part → Item → Result Step Fault
step_outside now None part item = Err fault.UnknownCommand
step_outside now (Some terms) part item = opens now part terms (first_act now.late part item)

-- An item belongs to the open command, or ends it and begins the next, or a part before it is
-- missing.
abbrev pub step_by : Open → Part → Item → Fit → Result Step Fault
step_by now part item (Stands left) =
    goes_on now part left (inner_effect now.opened now.mark part item)
step_by now part item Ends = step_outside now (production_of part) part item
step_by now part item Misses = Err fault.MissingPart

-- What an item gives. Its first word alone decides its place, before the rest of its line is read.
unfoldable pub step : Open → Item → Result Step Fault
step now item = step_by now (part_of item) item (fit (part_of item) now.left)

-- No command is open.
abbrev pub top : Open
top = record { late = false; opened = opened.Nothing; mark = None; left = [] }

-- A parser has an open command, or a fault that it answers from now on.
abbrev pub Parsing : Type 0
Parsing = Result Open Fault

-- What a step gives, and what it leaves.
abbrev pub done_of : Result Step Fault → Result Done Fault
done_of (Ok step) = Ok step.done
done_of (Err e) = Err e

-- What the grammar expects after a step. A refused line leaves the fault.
abbrev pub next_of : Result Step Fault → Parsing
next_of (Ok step) = Ok step.next
next_of (Err e) = Err e

-- What an item gives.
abbrev pub done_by : Parsing → Item → Result Done Fault
done_by parsing item = done_of (read parsing (λ now. step now item))

-- What an item leaves.
abbrev pub after : Parsing → Item → Parsing
after parsing item = next_of (read parsing (λ now. step now item))

-- The end of the stream: a part of the open command is missing, or whether the end ends a commit.
abbrev pub end_within : Open → Result Bool Fault
end_within now =
    if may_end now.left then Ok (is_commit now.opened) else Err fault.MissingPart

-- What the end of the stream gives.
abbrev pub end_of : Parsing → Result Bool Fault
end_of parsing = read parsing end_within

-- What some items give, and what they leave.
pub record Commands : Type 0 where
  pub given : List Done
  pub rest : Parsing

-- What one item gave, and then what later ones give.
abbrev pub then_given : Result Done Fault → Commands → Commands
then_given (Ok done) later = record { given = done ∷ later.given; rest = later.rest }
then_given (Err e) later = record { given = []; rest = Err e }

-- The commands of some items. From the first fault on nothing is given.
unfoldable pub commands : Parsing → List Item → Commands
commands parsing [] = record { given = []; rest = parsing }
commands parsing (item ∷ items) =
    then_given (done_by parsing item) (commands (after parsing item) items)

-- All items of a stream so far have given these acts and leave this parser.
abbrev pub Leads : List Item → List Done → Parsing → Type 0
Leads items given parsing = commands (Ok top) items ≡ record { given = given; rest = parsing }

-- What one item adds to what is given: one act, or nothing after a fault.
abbrev pub given_by : Result Done Fault → List Done
given_by (Ok done) = done ∷ []
given_by (Err e) = []

-- What was given, and then what further items give.
abbrev pub given_before : List Done → Commands → Commands
given_before given later = record { given = given ++ later.given; rest = later.rest }
