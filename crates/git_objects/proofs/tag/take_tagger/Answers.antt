use Rattle.std.proofs.Common.{refl, sym, subst, List, ℕ, Option}
use Rattle.std.specs.Option.{option_copied}
use Rattle.std.proofs.lemmas.Bool.{iff_false}
use Rattle.git_objects.specs.TagParts.{IsTagger}
use Rattle.git_objects.proofs.Fronts.{refined_missing, refined_wrong, refined_there}
use Rattle.git_objects.proofs.TagFronts.{tagger_one_line}
use Rattle.git_objects.proofs.tag.take_tagger.Goals as goal

pub returns-in_err-tagger : goal.returns-in_err-tagger
returns-in_err-tagger c =
    rw c.from_residual.ensures (refined_missing (λ (t : Option (List ℕ)). t) tagger_one_line (λ t. refl) c.args.bytes.now c.in_err-tagger.ensures)

pub returns-then-is_tagger : goal.returns-then-is_tagger
returns-then-is_tagger c =
    refined_there (λ (t : Option (List ℕ)). t) tagger_one_line (λ t. refl) c.args.bytes.now
    (option_copied c.in_ok-tagger.tagger) c.in_ok-tagger.message.now c.in_ok-tagger.ensures
    (option_copied c.in_ok-tagger.tagger) (c.is_tagger.ensures.0 c.if-is_tagger.true) refl
    (λ other is e. e)

pub returns-else-is_tagger : goal.returns-else-is_tagger
returns-else-is_tagger c =
    refined_wrong (λ (t : Option (List ℕ)). t) tagger_one_line (λ t. refl) c.args.bytes.now
    (option_copied c.in_ok-tagger.tagger) c.in_ok-tagger.message.now c.in_ok-tagger.ensures
    (λ t is e. iff_false c.is_tagger.ensures c.if-is_tagger.false (subst IsTagger (sym e) is))
