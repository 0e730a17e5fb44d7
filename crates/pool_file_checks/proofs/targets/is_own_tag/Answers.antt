use Rattle.std.proofs.Common.{◌≡◌, ap, subst}
use Rattle.std.specs.Option.{IsSomeAnd, is_some}
use Rattle.std.proofs.lemmas.Bool.{false≢true}
use Rattle.std.specs.Prelude.{IfSome}
use Rattle.git_model.specs.Tag.{CanWriteTag, tag_contents}
use Rattle.git_objects.specs.Parts.{tag_of}
use Rattle.pool_file_checks.proofs.RefLemmas.{own_tag}
use Rattle.pool_file_checks.proofs.targets.is_own_tag.Goals as goal

pub returns-in-Ok-Some : goal.returns-in-Ok-Some
returns-in-Ok-Some c =
    let e = c.in-Ok-Some.ensures in
    let is = c.in-Ok-Some.field-0-is in
    let found = subst (λ o. IfSome o (λ parts. CanWriteTag (tag_of parts) × (c.args.bytes.now ≡ tag_contents (tag_of parts)))) is e.found in
    own_tag c.args.name.now c.args.bytes.now (tag_of c.in-Ok-Some.parts) c.is_ref_of.result found.0 found.1
    (λ made writable same. subst (λ o. IsSomeAnd o (λ parts. tag_of parts ≡ made)) is (e.only made writable same))
    c.is_ref_of.ensures

pub returns-in-Ok-None : goal.returns-in-Ok-None
returns-in-Ok-None c = (
  λ e. absurd (false≢true e),
  λ own. absurd (c.in-Ok-None.ensures.exact (ap is_some c.in-Ok-None.field-0-is) own.tag own.writable own.contents),
)
