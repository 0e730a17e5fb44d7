use Rattle.std.proofs.Common.{List, ap, ◌∙◌}
use Rattle.std.proofs.lemmas.Result.{err_from_is_err_and}
use Rattle.pool_file_format.specs.declared.fault.Fault.TheVariants as fault
use Rattle.pool_file_format.specs.declared.raw.RawObject.{RawObject}
use Rattle.pool_file_format.specs.Shown.{objects_of}
use Rattle.pool_file_checks.specs.Own.{names_of}
use Rattle.pool_file_checks.proofs.JudgedFiles.{none_read, none_passed, file_passed}
use Rattle.pool_file_checks.proofs.judged.read_judged_by.Goals as goal

pub returns-in_err-file : goal.returns-in_err-file
returns-in_err-file g c =
    let p = err_from_is_err_and c.from_residual.result c.from_residual.ensures.1 in
    rw (p.1, p.2) (none_read g.N.Naming.digest_of _ _ _ _ g.met.N.Naming.answers_names c.in_err-file.ensures)

pub returns-in_err-names : goal.returns-in_err-names
returns-in_err-names g c =
    let p = err_from_is_err_and c.from_residual-in_err-names.result c.from_residual-in_err-names.ensures.1 in
    rw (p.1, p.2) (none_passed g.N.Naming.digest_of _ _ _ _ fault.Memory g.met.N.Naming.answers_names c.in_ok-file.ensures tt)

pub returns-in_err-known : goal.returns-in_err-known
returns-in_err-known g c =
    let p = err_from_is_err_and c.from_residual-in_err-known.result c.from_residual-in_err-known.ensures.1 in
    let D = g.N.Naming.digest_of in
    let same = c.deref-2.ensures.value ∙ c.in_ok-names.ensures ∙ ap (λ (l : List RawObject). names_of D (objects_of l)) c.deref.ensures.value in
    rw (p.1, p.2) (none_passed D _ _ _ _ _ g.met.N.Naming.answers_names c.in_ok-file.ensures (c.in_err-known.ensures.checks D same))

pub returns : goal.returns
returns g c =
    let D = g.N.Naming.digest_of in
    let named = c.in_ok-names.ensures ∙ ap (λ (l : List RawObject). names_of D (objects_of l)) c.deref.ensures.value in
    let same = c.deref-2.ensures.value ∙ named in
    file_passed D _ _ _ _ g.met.N.Naming.answers_names c.in_ok-file.ensures (c.in_ok-known.ensures.checks D same) named
    (c.in_ok-known.ensures.known D same)
