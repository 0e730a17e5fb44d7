use Rattle.std.proofs.Common.{ℕ, List, sym, ap, ◌∙◌}
use Rattle.std.proofs.lemmas.Result.{err_from_is_err_and}
use Rattle.std.specs.Str.{bytes_eq}
use Rattle.pool_file_format.proofs.WholeLemmas.{sealed_none, sealed_reads, sealed_other}
use Rattle.pool_file_format.proofs.sealing.read_sealed_by.Goals as goal

pub returns-in_err-file : goal.returns-in_err-file
returns-in_err-file g c =
    let p = err_from_is_err_and c.from_residual.result c.from_residual.ensures.1 in
    rw (p.1, p.2) (sealed_none g.N.Naming.digest_of _ _ c.in_err-file.field-0.0 c.in_err-file.ensures)

pub returns-then-not-is_same : goal.returns-then-not-is_same
returns-then-not-is_same g c =
    sealed_other g.N.Naming.digest_of _ _ _ _
    (ap (λ (d : List ℕ). bytes_eq c.in_ok-file.digest d) (sym c.digest_of-own.ensures) ∙ sym c.is_same.ensures ∙ c.if-not-is_same.true) c.in_ok-file.ensures

pub returns : goal.returns
returns g c =
    sealed_reads g.N.Naming.digest_of _ _ _ _
    (ap (λ (d : List ℕ). bytes_eq c.in_ok-file.digest d) (sym c.digest_of-own.ensures) ∙ sym c.is_same.ensures ∙ c.if-not-is_same.false) c.in_ok-file.ensures
