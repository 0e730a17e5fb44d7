use Rattle.std.proofs.Common.{sym, ap, ◌∙◌}
use Rattle.stream_lex.specs.Lexer.{LexerState}
use Rattle.stream_lex.specs.Running.{extended}
use Rattle.uses.proofs.Outlined.{is-outlined}
use Rattle.uses.proofs.outlining.outline.Goals as goal

pub returns-clause-lines : goal.returns-clause-lines
returns-clause-lines c =
    (is-outlined c.args.stream.now _ _ _ _ _ c.in_ok-append_lines.ensures
    (c.in_ok-feed.ensures.ok ∙ ap (λ (l : LexerState). extended l.tail c.args.stream.now) c.new-lexer.ensures)
    c.new-text.ensures.items (sym c.end.ensures ∙ c.in_ok-end.was)).0

pub returns-clause-whole : goal.returns-clause-whole
returns-clause-whole c =
    (is-outlined c.args.stream.now _ _ _ _ _ c.in_ok-append_lines.ensures
    (c.in_ok-feed.ensures.ok ∙ ap (λ (l : LexerState). extended l.tail c.args.stream.now) c.new-lexer.ensures)
    c.new-text.ensures.items (sym c.end.ensures ∙ c.in_ok-end.was)).1
