use Rattle.std.proofs.Common.{◌∙◌, sym}
use Rattle.stream_grammar.proofs.Rows.{first_fit-next, first_fit-here}
use Rattle.stream_grammar.proofs.part.part_by_word.Goals as goal

pub loop-word-preserved : goal.loop-word-preserved
loop-word-preserved c =
    c.loop-word.invariant ∙ first_fit-next _ c.loop-word.word-index c.args.line.now _ c.loop-word-test.true (sym c.fits.ensures ∙ c.if-fits.false)

pub returns-then-fits : goal.returns-then-fits
returns-then-fits c =
    first_fit-here _ c.loop-word.word-index c.args.line.now _ c.loop-word-test.true
    (sym c.fits.ensures ∙ c.if-fits.true) ∙ sym c.loop-word.invariant
