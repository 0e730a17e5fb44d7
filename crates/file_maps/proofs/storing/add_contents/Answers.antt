use Rattle.std.proofs.Common.{ℕ, List, ap, ◌∙◌}
use Rattle.git_model.specs.declared.kind.Kind.TheVariants as kind
use Rattle.git_model.specs.Content.{content_from, name_by}
use Rattle.file_maps.proofs.Stored.{adds-one, unrefused-one, refused-one}
use Rattle.file_maps.proofs.storing.add_contents.Goals as goal

pub returns-in-Ok-clause-stores : goal.returns-in-Ok-clause-stores
returns-in-Ok-clause-stores g c es is = (
  c.in-Ok.ensures.answer.0
      ∙ ap (λ (b : List ℕ). name_by g.N.Naming.digest_of (content_from kind.Tree b)) is,
  unrefused-one g.N.Naming.digest_of es c.args.contents.items _ is c.in-Ok.ensures.answer.1,
  adds-one g.N.Naming.digest_of _ _ _ _ es c.args.contents.items c.args.summary is c.requires.stands c.requires.room
      c.requires.fits c.in-Ok.ensures.stands c.in-Ok.ensures.others c.in-Ok.ensures.answer.1 c.in-Ok.ensures.ok,
)

pub returns-in-Err-clause-stores : goal.returns-in-Err-clause-stores
returns-in-Err-clause-stores g c es is =
    refused-one g.N.Naming.digest_of _ _ _ _ es c.args.contents.items c.in-Err.refusal _ is c.requires.stands c.requires.room
    c.in-Err.ensures.answer c.in-Err.ensures.err c.as_fault.result c.as_fault.ensures
