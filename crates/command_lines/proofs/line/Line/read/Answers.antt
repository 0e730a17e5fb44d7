use Rattle.std.proofs.Common.{◌≡◌, ◌∙◌, rules, ap, refl, sym, map, List, Option, Some, None, Result, Ok, Err, IsErrAnd, MatchResult, subst, unwrap_or, is_some, option_map, option_and_then, true}
use Rattle.clap.specs.Words.{FailsBy, Kinds, Text, fault_of, kind_of, takes}
use Rattle.clap.proofs.TakesLemmas.{passed_up}
use Rattle.command_lines.specs.Lines.{said, said_by, said_in}
use Rattle.command_lines.specs.Usage.{gitpool}
use Rattle.command_lines.specs.declared.line.Line.{Line}
use Rattle.clap.specs.declared.error.Error.{Error}
use Rattle.clap.specs.declared.error.kind.ErrorKind.TheVariants.{OutOfMemory}
use Rattle.command_lines.proofs.NamedLines.{always_said}
use Rattle.command_lines.proofs.WrittenLines.{version_fault, written_said, written_taken}
use Rattle.command_lines.proofs.line.Line.read.Goals as goal

pub returns-in_err-matches-clause-only : goal.returns-in_err-matches-clause-only
returns-in_err-matches-clause-only g c = passed_up c.from_residual.result _ _ c.from_residual.ensures.1 c.in_err-matches.ensures.passes

pub unwrap-requires : goal.unwrap-requires
unwrap-requires g c =
    let words : List Text = map g.S.AsStr.text c.args.words.now in
    let is = c.of_matches.ensures ∙ ap (option_and_then said_by) c.in_ok-matches.ensures.found in
    some_line c.of_matches.result (ap is_some is ∙ always_said words c.in_ok-matches.ensures.exact)
  where
    some_line : (o : Option Line) → is_some (option_map said o) ≡ true → is_some o ≡ true
    some_line None e = e
    some_line (Some l) e = refl

pub returns-in_err-matches-clause-written : goal.returns-in_err-matches-clause-written
returns-in_err-matches-clause-written g c =
    λ line e. failed c.from_residual.result _ (λ read. said read ≡ line) c.from_residual.ensures.1
    (c.in_err-matches.ensures.passes (ap (takes gitpool) e ∙ written_taken line))
  where
    failed : (r : Result Line Error) (err : Error) (P : Line → Type 0) → IsErrAnd r (λ y. y ≡ err) → kind_of err ≡ OutOfMemory
        → MatchResult r P (λ e. kind_of e ≡ OutOfMemory)
    failed (Ok x) err P is kind = absurd is
    failed (Err y) err P is kind = ap kind_of is ∙ kind

pub returns-clause-written : goal.returns-clause-written
returns-clause-written g c =
    let words : List Text = map g.S.AsStr.text c.args.words.now in
    let found : said_in words ≡ Some (said c.unwrap.result) = search rules in
    λ line e. ap (λ o. unwrap_or o line) (sym found ∙ ap said_in e ∙ written_said line)

pub returns-in_err-matches-clause-version : goal.returns-in_err-matches-clause-version
returns-in_err-matches-clause-version g c =
    let words : List Text = map g.S.AsStr.text c.args.words.now in
    let exact : FailsBy (fault_of gitpool words) c.from_residual.result = search rules in
    λ asked. subst (λ (kinds : Kinds). FailsBy kinds c.from_residual.result) (version_fault words asked) exact

pub returns-clause-version : goal.returns-clause-version
returns-clause-version g c = λ asked. sym (version_fault (map g.S.AsStr.text c.args.words.now) asked) ∙ c.in_ok-matches.ensures.exact
