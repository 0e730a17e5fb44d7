use Rattle.std.proofs.Common.{◌≡◌, subst, arith}
use Rattle.std.specs.Prelude.{IfSome}
use Rattle.std.proofs.lemmas.Bool.{OnTrue_from}
use Rattle.git_model.specs.Tag.{CanWriteTag, tag_contents}
use Rattle.git_objects.specs.Parts.{tag_of}
use Rattle.pool_file_checks.proofs.GoodLemmas.{tag_within}
use Rattle.pool_file_checks.proofs.good.is_good_tag.Goals as goal

pub returns-else-parts-gt-TAG_NAME_LIMIT-clause-text : goal.returns-else-parts-gt-TAG_NAME_LIMIT-clause-text
returns-else-parts-gt-TAG_NAME_LIMIT-clause-text c =
    let found = subst (λ o. IfSome o (λ parts. CanWriteTag (tag_of parts) × (c.args.bytes.now ≡ tag_contents (tag_of parts))))
    c.in-Ok-Some.field-0-is c.in-Ok-Some.ensures.found in
    let short = c.if-parts-gt-TAG_NAME_LIMIT.false in
    OnTrue_from c.stands_before.result _ (λ _. tag_within c.args.bytes.now (tag_of c.in-Ok-Some.parts) found.0 found.1 (omega (arith, short)))
