use Rattle.std.proofs.Common.{◌≡◌, sym, ◌∙◌, rules}
use Rattle.std.specs.List.{slice_split, list_all}
use Rattle.std.proofs.lemmas.Iterator.Search.{all_from_yields_List}
use Rattle.std.proofs.lemmas.Iterator.Splits.{YieldsList-from_slice_split}
use borrow.Author.Tests.{tests}
use Rattle.git_paths.specs.Paths.{is_slash, is_part}
use Rattle.git_paths.proofs.Joined.{is_path-components_of}
use Rattle.git_paths.proofs.judging.are_names.Goals as goal

pub returns-else-is_empty : goal.returns-else-is_empty
returns-else-is_empty c =
    let parts : c.all.result ≡ list_all is_part (slice_split is_slash c.args.bytes.now) =
    all_from_yields_List is_part _ _ _ c.all.ensures.ran
    (YieldsList-from_slice_split _ is_slash c.args.bytes.now c.split.ensures.rest c.split.ensures.done c.split.ensures.closure (λ x r q k. search (rules, tests)))
    (λ x r q k. search (rules, tests)) in
    parts
    ∙ sym (is_path-components_of c.args.bytes.now (sym c.is_empty.ensures ∙ c.if-is_empty.false))
