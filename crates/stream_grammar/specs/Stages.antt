-- The stages of the parser: each stands for the terms that are left of a production.
use Rattle.std.specs.Prelude.{◌≡◌, ℕ, Bool, true, false, List, [], ◌++◌, drop, Option, is_some}
use Rattle.stream_grammar.specs.declared.part.Part.{Part}
use Rattle.stream_grammar.specs.declared.part.Part.TheVariants as part
use Rattle.stream_grammar.specs.declared.part.OpeningLine.{OpeningLine}
use Rattle.stream_grammar.specs.declared.part.OpeningLine.TheVariants as opening
use Rattle.stream_grammar.specs.declared.part.HeaderLine.TheVariants as header
use Rattle.stream_grammar.specs.declared.part.CommitIshLine.TheVariants as commit_ish
use Rattle.stream_grammar.specs.declared.part.ChangeLine.TheVariants as change_line
use Rattle.stream_grammar.specs.declared.stage.BlobNext.{BlobNext}
use Rattle.stream_grammar.specs.declared.stage.BlobNext.TheVariants as blob
use Rattle.stream_grammar.specs.declared.stage.CommitNext.{CommitNext}
use Rattle.stream_grammar.specs.declared.stage.CommitNext.TheVariants as commit
use Rattle.stream_grammar.specs.declared.stage.ChangeNext.{ChangeNext}
use Rattle.stream_grammar.specs.declared.stage.ChangeNext.TheVariants as change
use Rattle.stream_grammar.specs.declared.stage.TagNext.{TagNext}
use Rattle.stream_grammar.specs.declared.stage.TagNext.TheVariants as tag
use Rattle.stream_grammar.specs.declared.stage.ResetNext.{ResetNext}
use Rattle.stream_grammar.specs.declared.stage.ResetNext.TheVariants as reset
use Rattle.stream_grammar.specs.declared.stage.AliasNext.{AliasNext}
use Rattle.stream_grammar.specs.declared.stage.AliasNext.TheVariants as alias
use Rattle.stream_grammar.specs.declared.stage.Stage.{Stage}
use Rattle.stream_grammar.specs.declared.stage.Stage.TheVariants as stage
use Rattle.stream_grammar.specs.declared.stage.Opened.{Opened}
use Rattle.stream_grammar.specs.declared.stage.Opened.TheVariants as opened
use Rattle.stream_grammar.specs.declared.stage.Fit.{Fit as StageFit}
use Rattle.stream_grammar.specs.declared.stage.Fit.TheVariants as found
use Rattle.stream_grammar.specs.Grammar.{Term, production, due, Fit, Stands, Ends, Misses}
use Rattle.stream_grammar.specs.Commands.{opened_after}

-- The terms of a command from the n-th on.
abbrev pub from_term : ℕ → OpeningLine → List Term
from_term n line = drop n (production line)

-- The terms of a blob from its next part on.
abbrev pub blob_terms : BlobNext → List Term
blob_terms blob.Mark = from_term 0 opening.Blob
blob_terms blob.OriginalOid = from_term 1 opening.Blob
blob_terms blob.Data = from_term 2 opening.Blob

-- The terms of a commit from its next part on, where its message has not come.
abbrev pub commit_terms : CommitNext → List Term
commit_terms commit.Mark = from_term 0 opening.Commit
commit_terms commit.OriginalOid = from_term 1 opening.Commit
commit_terms commit.Author = from_term 2 opening.Commit
commit_terms commit.Committer = from_term 3 opening.Commit
commit_terms commit.Encoding = from_term 4 opening.Commit
commit_terms commit.Data = from_term 5 opening.Commit

-- The terms of a commit from its next part on, after its message.
abbrev pub change_terms : ChangeNext → List Term
change_terms change.From = from_term 6 opening.Commit
change_terms change.Merge = from_term 7 opening.Commit
change_terms change.Change = from_term 8 opening.Commit

-- The terms of a tag from its next part on.
abbrev pub tag_terms : TagNext → List Term
tag_terms tag.Mark = from_term 0 opening.Tag
tag_terms tag.From = from_term 1 opening.Tag
tag_terms tag.OriginalOid = from_term 2 opening.Tag
tag_terms tag.Tagger = from_term 3 opening.Tag
tag_terms tag.Data = from_term 4 opening.Tag

-- The terms of a reset from its next part on.
abbrev pub reset_terms : ResetNext → List Term
reset_terms reset.From = from_term 0 opening.Reset
reset_terms reset.Blank = from_term 1 opening.Reset

-- The terms of an alias from its next part on.
abbrev pub alias_terms : AliasNext → List Term
alias_terms alias.Mark = from_term 0 opening.Alias
alias_terms alias.To = from_term 1 opening.Alias

-- The terms that are left at a stage.
abbrev pub terms_of : Stage → List Term
terms_of stage.Top = []
terms_of (stage.Blob next) = blob_terms next
terms_of (stage.Commit next) = commit_terms next
terms_of (stage.Changes next) = change_terms next
terms_of stage.Inline = due (part.Change change_line.ModifyInline) ++ change_terms change.Change
terms_of (stage.Tag next) = tag_terms next
terms_of (stage.Reset next) = reset_terms next
terms_of (stage.Alias next) = alias_terms next

-- The command that is open at a stage.
abbrev pub opened_of : Stage → Opened
opened_of stage.Top = opened.Nothing
opened_of (stage.Blob next) = opened.Blob
opened_of (stage.Commit next) = opened.Commit
opened_of (stage.Changes next) = opened.Changes
opened_of stage.Inline = opened.Inline
opened_of (stage.Tag next) = opened.Tag
opened_of (stage.Reset next) = opened.Reset
opened_of (stage.Alias next) = opened.Alias

-- How a part fits, as the parser found it.
abbrev pub fit_of : StageFit → Fit
fit_of (found.Stands stage) = Stands (terms_of stage)
fit_of found.Ends = Ends
fit_of found.Misses = Misses

-- The stage after a part that fits is one of the command that is open after the part.
abbrev pub KeepsOpened : Opened → Part → StageFit → Type 0
KeepsOpened now part (found.Stands stage) = opened_of stage ≡ opened_after part now
KeepsOpened now part found.Ends = Unit {0}
KeepsOpened now part found.Misses = Unit {0}

-- Whether a `from`, data and a `to` mean something at a stage.
abbrev pub takes_from : Opened → Bool
takes_from opened.Changes = true
takes_from opened.Tag = true
takes_from opened.Reset = true
takes_from _ = false

-- Whether what is open takes data.
abbrev pub takes_data : Opened → Bool
takes_data opened.Blob = true
takes_data opened.Commit = true
takes_data opened.Inline = true
takes_data opened.Tag = true
takes_data _ = false

-- Whether an alias takes its 'to' now.
abbrev pub takes_to : Stage → Bool
takes_to (stage.Alias alias.To) = true
takes_to _ = false

-- Whether the definitions of Lines mean something by a part at a stage.
abbrev pub has_meaning : Stage → Part → Bool
has_meaning now (part.CommitIsh commit_ish.From) = takes_from (opened_of now)
has_meaning now (part.CommitIsh commit_ish.To) = takes_to now
has_meaning now (part.CommitIsh commit_ish.Merge) = true
has_meaning now part.Data = takes_data (opened_of now)
has_meaning now (part.Header line) = true
has_meaning now (part.Change line) = true
has_meaning now (part.Reply line) = true
has_meaning now part.Blank = true
has_meaning now _ = false

-- Where the `to` of an alias comes next, its mark has come.
abbrev pub HasMark : Stage → Option ℕ → Type 0
HasMark (stage.Alias alias.To) mark = is_some mark ≡ true
HasMark _ mark = Unit {0}

-- The part before the `to` of an alias is its mark.
abbrev pub FollowsMark : Part → Stage → Type 0
FollowsMark taken (stage.Alias alias.To) = taken ≡ part.Header header.Mark
FollowsMark taken _ = Unit {0}

-- A part that fits at a stage means something there.
abbrev pub Means : Stage → Part → StageFit → Type 0
Means now taken (found.Stands next) = (has_meaning now taken ≡ true) × FollowsMark taken next
Means now taken found.Ends = Unit {0}
Means now taken found.Misses = Unit {0}
