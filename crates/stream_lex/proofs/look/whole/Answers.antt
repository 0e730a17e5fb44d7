use Rattle.std.proofs.Common.{◌≡◌, ◌+◌, take, ap, ◌∙◌}
use Rattle.stream_lex.specs.declared.header.LineKind.TheVariants.{Empty, Comment, Counted, Delimited, BadHeader, Other}
use Rattle.stream_lex.specs.Items.{Line}
use Rattle.stream_lex.specs.Headers.{kind_of}
use Rattle.stream_lex.specs.Reading.{Gives}
use Rattle.stream_lex.proofs.Lookings.{by_kind, in_counted, in_delimited}
use Rattle.stream_lex.proofs.look.whole.Goals as goal

pub counted-requires : goal.counted-requires
counted-requires c =
    let kind_is : Counted c.in-Counted.size ≡ kind_of (take c.args.end c.args.bytes.now) = c.in-Counted.ensures ∙ ap kind_of c.split_at.ensures.front in
    in_counted c.args.bytes.now c.args.end c.in-Counted.size c.requires.first c.requires.within_limit c.requires.inside kind_is

pub delimited-requires-clause-placed : goal.delimited-requires-clause-placed
delimited-requires-clause-placed c =
    let kind_is : Delimited ≡ kind_of (take c.args.end c.args.bytes.now) = c.in-Delimited.ensures ∙ ap kind_of c.split_at.ensures.front in
    rw c.requires.seen (in_delimited c.args.bytes.now c.args.end c.requires.first c.requires.within_limit c.requires.inside kind_is)

pub returns-in-Empty-clause-first : goal.returns-in-Empty-clause-first
returns-in-Empty-clause-first c =
    by_kind c.args.bytes.now c.args.end Empty c.requires.first c.requires.within_limit c.requires.inside (c.in-Empty.ensures ∙ ap kind_of c.split_at.ensures.front)

pub returns-in-Comment-clause-first : goal.returns-in-Comment-clause-first
returns-in-Comment-clause-first c =
    by_kind c.args.bytes.now c.args.end Comment c.requires.first c.requires.within_limit c.requires.inside (c.in-Comment.ensures ∙ ap kind_of c.split_at.ensures.front)

pub returns-in-BadHeader-clause-first : goal.returns-in-BadHeader-clause-first
returns-in-BadHeader-clause-first c =
    by_kind c.args.bytes.now c.args.end BadHeader c.requires.first c.requires.within_limit c.requires.inside (c.in-BadHeader.ensures ∙ ap kind_of c.split_at.ensures.front)

pub returns-in-Other-clause-first : goal.returns-in-Other-clause-first
returns-in-Other-clause-first c =
    ap (λ text. Gives (Line text) (c.args.end + 1)) c.split_at.ensures.front
    ∙ by_kind c.args.bytes.now c.args.end Other c.requires.first c.requires.within_limit c.requires.inside (c.in-Other.ensures ∙ ap kind_of c.split_at.ensures.front)
