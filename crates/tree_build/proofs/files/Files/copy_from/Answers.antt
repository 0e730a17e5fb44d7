use Rattle.std.proofs.Common.{◌≡◌, ◌≢◌, ℕ, length, sym, ap, ◌∙◌, subst}
use Rattle.std.specs.Prelude.{Some, Result, Err, IfErr}
use Rattle.std.proofs.lemmas.Result.{err_from_is_err_and}
use Rattle.tenant_tables.specs.declared.summary.Summary.{Summary}
use Rattle.file_maps.specs.declared.fault.Fault.{Fault}
use Rattle.file_maps.specs.declared.fault.Fault.TheVariants as fault
use Rattle.file_maps.specs.Edits.{files_at, moved}
use Rattle.file_maps.specs.FileMap.{Listed}
use Rattle.tree_build.specs.declared.dir.Node.{Node}
use Rattle.tree_build.specs.Branch.{Branch, files_in, IsBranch, closed_from}
use Rattle.tree_build.specs.Nodes.{held}
use Rattle.tree_build.specs.Sums.{IsSmall}
use Rattle.tree_build.specs.Moving.{path_fault}
use Rattle.tree_build.proofs.Moved.{IsThere, nothing-there, found, fault-there}
use Rattle.tree_build.proofs.Searched.{ordered_held}
use Rattle.tree_build.proofs.files.Files.copy_from.Goals as goal
use Rattle.tree_build.proofs.files.Files.copy_from.Goals.{In-Some}
use Rattle.tree_build.proofs.files.Files.copy_from.Given.{Over}

pub copy_at-requires : goal.copy_at-requires
copy_at-requires g c =
    let os = c.args.objects.now in
    ordered_held os _ (subst (IsBranch os) (sym c.self.view_is) c.in_ok-open_to.ensures.branch).held

pub returns-in_default-clause-refusal : goal.returns-in_default-clause-refusal
returns-in_default-clause-refusal g c = λ _.
    let os = c.args.objects.now in
    let b = subst (IsBranch os) (sym c.self.view_is) c.in_ok-open_to.ensures.branch in
    let shut = subst (λ (x : Branch). closed_from x.root c.components-from.result ≡ 0) (sym c.self.view_is) c.in_ok-open_to.ensures.shut in
    ap (λ (l : Listed). path_fault (moved c.args.to.now l))
    (nothing-there g.N.Naming.digest_of c.args.objects.now c.are_backed.ensures b c.components-from.result shut
    (ap (files_in os) c.self.view_is ∙ c.in_ok-open_to.ensures.files) c.components-from.ensures
    c.in_ok-node.field-0 c.in_default.is c.in_ok-node.ensures)

-- the copy
copy : (g : Over) (c : In-Some g)
    → (let os = c.args.objects.now in
    IsThere os (files_at (files_in os c.args.self.now) c.args.from.now) (held c.in-Some.node))
copy g c =
    let os = c.args.objects.now in
    let b = subst (IsBranch os) (sym c.self.view_is) c.in_ok-open_to.ensures.branch in
    let shut = subst (λ (x : Branch). closed_from x.root c.components-from.result ≡ 0) (sym c.self.view_is) c.in_ok-open_to.ensures.shut in
    found g.N.Naming.digest_of c.args.objects.now c.are_backed.ensures b c.components-from.result shut
    (ap (files_in os) c.self.view_is ∙ c.in_ok-open_to.ensures.files) c.components-from.ensures
    c.in_ok-node.field-0 c.in-Some.node c.in-Some.is c.in_ok-node.ensures

pub extent-files-requires-clause-sound : goal.extent-files-requires-clause-sound
extent-files-requires-clause-sound g c = (copy g (goal.at.extent-files-requires-clause-sound g c).In-Some).held

pub extent-files-requires-clause-small : goal.extent-files-requires-clause-small
extent-files-requires-clause-small g c = (copy g (goal.at.extent-files-requires-clause-small g c).In-Some).small

pub check_move-requires : goal.check_move-requires
check_move-requires g c =
    subst IsSmall (sym c.extent-files.ensures) (copy g (goal.at.check_move-requires g c).In-Some).small

pub returns-in_err-check_move-clause-refusal : goal.returns-in_err-check_move-clause-refusal
returns-in_err-check_move-clause-refusal g c =
    let os = c.args.objects.now in
    let there = copy g (goal.at.returns-in_err-check_move-clause-refusal g c).In-Some in
    let why = fault-there there c.args.to.now c.extent-files.result c.extent-files.ensures in
    let failed = err_from_is_err_and c.from_residual-in_err-check_move.result c.from_residual-in_err-check_move.ensures.1 in
    subst
    (λ (r : Result (Node × ℕ) Fault). IfErr r (λ e. e ≢ fault.Memory
    → path_fault (moved c.args.to.now (files_at (files_in os c.args.self.now) c.args.from.now))
    ≡ Some e))
    (sym (failed.1 ∙ ap (λ (e : Fault). Err e) failed.2))
    (λ _. sym why ∙ c.in_err-check_move.ensures.err)

pub returns-clause-moved : goal.returns-clause-moved
returns-clause-moved g c =
    let there = copy g (goal.at.returns-clause-moved g c).In-Some in record {
      held = there.held;
      files = there.files;
      count = ap (λ (s : Summary). s.files) c.extent-files.ensures ∙ ap (λ (l : Listed). length l) there.files;
    }

pub returns-clause-clean : goal.returns-clause-clean
returns-clause-clean g c =
    let there = copy g (goal.at.returns-clause-clean g c).In-Some in
    sym (fault-there there c.args.to.now c.extent-files.result c.extent-files.ensures) ∙ c.in_ok-check_move.ensures.ok
