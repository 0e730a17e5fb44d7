use Rattle.std.proofs.Common.{◌≡◌, ap, ◌∙◌, subst}
use Rattle.std.specs.Prelude.{None, Some, OnOk, Result, Ok, Err, IfErr}
use Rattle.file_maps.specs.declared.fault.Fault.{Fault}
use Rattle.file_maps.specs.declared.fault.Fault.TheVariants as fault
use Rattle.file_maps.specs.Edits.{files_at, moved}
use Rattle.file_maps.specs.FileMap.{FileMap, Listed}
use Rattle.tree_build.specs.Branch.{files_in}
use Rattle.tree_build.specs.Moving.{path_fault}
use Rattle.tree_build.proofs.files.Files.open_source.Goals as goal
use Rattle.tree_build.proofs.files.Files.open_source.Goals.{In_ok-open_to}
use Rattle.tree_build.proofs.files.Files.open_source.Given.{Over}

-- the source has the same files
same : (g : Over) (c : In_ok-open_to g)
    → (let os = c.args.objects.now in
    files_at (files_in os c.open_to.new.self) c.components-from.result ≡ files_at (files_in os c.args.self.now) c.args.from.now)
same g c =
    let os = c.args.objects.now in
    ap (λ (m : FileMap). files_at m c.components-from.result) c.in_ok-open_to.ensures.files
    ∙ ap (files_at (files_in os c.args.self.now)) c.components-from.ensures

pub returns-clause-clean : goal.returns-clause-clean
returns-clause-clean g c =
    subst (λ (l : Listed). OnOk c.check_source.result (path_fault (moved c.args.to.now l) ≡ None))
    (same g (goal.at.returns-clause-clean g c).In_ok-open_to) c.check_source.ensures.ok

pub returns-clause-refusal : goal.returns-clause-refusal
returns-clause-refusal g c =
    let os = c.args.objects.now in
    whatever (λ e. path_fault (moved c.args.to.now (files_at (files_in os c.args.self.now) c.args.from.now)) ≡ Some e)
    c.check_source.result
    (subst (λ (l : Listed). IfErr c.check_source.result (λ e. path_fault (moved c.args.to.now l) ≡ Some e))
    (same g (goal.at.returns-clause-refusal g c).In_ok-open_to) c.check_source.ensures.err)
  where
    whatever : {A : Type 0} (P : Fault → Type 0) (r : Result A Fault) → IfErr r P
        → IfErr r (λ e. (e ≡ fault.Memory → ⊥) → P e)
    whatever P (Ok x) h = h
    whatever P (Err e) h = λ _. h
