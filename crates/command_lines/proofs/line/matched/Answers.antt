use Rattle.std.proofs.Common.{◌≡◌, ◌∙◌, ap, subst, map, List, IfErr, true}
use Rattle.std.proofs.lemmas.Result.{IfOk-weaker}
use Rattle.clap.specs.Words.{FailsBy, Text, fault_of, is_simple, is_simple_and_free, kind_of, subcommand_of, takes}
use Rattle.clap.specs.declared.error.kind.ErrorKind.TheVariants.{OutOfMemory}
use Rattle.command_lines.proofs.line.matched.Goals as goal

pub returns-clause-found : goal.returns-clause-found
returns-clause-found g c =
    let words : List Text = map g.S.AsStr.text c.args.words.now in
    let is = c.in_ok-gitpool.ensures in
    IfOk-weaker c.try_get_matches_from.result _ _ (λ m has. (has (ap is_simple is)).1 ∙ ap (λ a. subcommand_of a words) is) c.try_get_matches_from.ensures.matches

pub returns-clause-passes : goal.returns-clause-passes
returns-clause-passes g c =
    let words : List Text = map g.S.AsStr.text c.args.words.now in
    subst (λ a. IfErr c.try_get_matches_from.result (λ e. takes a words ≡ true → kind_of e ≡ OutOfMemory)) c.in_ok-gitpool.ensures c.try_get_matches_from.ensures.passes

pub returns-clause-exact : goal.returns-clause-exact
returns-clause-exact g c =
    let words : List Text = map g.S.AsStr.text c.args.words.now in
    let is = c.in_ok-gitpool.ensures in
    subst (λ a. FailsBy (fault_of a words) c.try_get_matches_from.result) is (c.try_get_matches_from.ensures.kinds (ap is_simple_and_free is))
