use Rattle.std.proofs.Common.{◌≡◌, sym, ◌∙◌, rules}
use Rattle.std.specs.List.{list_any}
use Rattle.std.proofs.lemmas.Iterator.{YieldsList-from_slice}
use Rattle.std.proofs.lemmas.Iterator.Search.{any_from_yields_List}
use borrow.Author.Tests.{tests}
use Rattle.git_paths.specs.Quoting.{is_special}
use Rattle.git_paths.proofs.Printed.{quoted-plain}
use Rattle.git_paths.proofs.printing.quote_into.Goals as goal

pub returns-then-not-any-clause-ok : goal.returns-then-not-any-clause-ok
returns-then-not-any-clause-ok c =
    let special : c.any.result ≡ list_any is_special c.args.bytes.now =
    any_from_yields_List is_special _ _ c.any.result c.any.ensures.ran
    (YieldsList-from_slice c.args.bytes.now c.iter.ensures.rest)
    (λ x b q k. search (rules, tests)) in
    rw (quoted-plain c.args.bytes.now (sym special ∙ c.if-not-any.true)) (search rules)

pub returns-then-is_err-clause-err : goal.returns-then-is_err-clause-err
returns-then-is_err-clause-err c = search rules
