use Rattle.std.proofs.Common.{refl}
use Rattle.tenant_service.specs.TenantState.{empty_repository}
use Rattle.gitpool.proofs.ExportLemmas.{takes-export}
use Rattle.gitpool.proofs.ImportLemmas.{imports-effect, new-can-open, new-imported}
use Rattle.gitpool.proofs.single_import.import_new.Goals as goal

pub returns-clause-imported : goal.returns-clause-imported
returns-clause-imported g c =
    imports-effect _ empty_repository _ _ _ _ _ _ c.import-imported.result (λ ended bytes effect. tt)
    (c.import-imported.ensures.imported empty_repository (new-can-open _ _ c.new-service.ensures refl))

pub returns-clause-taken : goal.returns-clause-taken
returns-clause-taken g c =
    new-imported _ _ _ c.import-imported.new.service _ _ _ _ c.import-imported.result c.new-service.ensures refl c.import-imported.ensures.imported

pub returns-clause-exports : goal.returns-clause-exports
returns-clause-exports g c =
    takes-export g.N.Naming.digest_of g.met.N.Naming.answers_names _ _ _ _ _
    (imports-effect _ empty_repository _ _ _ _ _ _ c.import-imported.result (λ ended bytes effect. tt)
    (c.import-imported.ensures.imported empty_repository (new-can-open _ _ c.new-service.ensures refl)))
