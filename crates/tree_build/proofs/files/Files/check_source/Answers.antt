use Rattle.std.proofs.Common.{◌≡◌, refl, sym, ap, ◌∙◌, subst}
use Rattle.std.specs.Prelude.{Option, None, Some, OnOk, IfErr}
use Rattle.file_maps.specs.declared.fault.Fault.{Fault}
use Rattle.file_maps.specs.Edits.{files_at, moved}
use Rattle.file_maps.specs.FileMap.{Listed}
use Rattle.tree_build.specs.Branch.{Branch, files_in, IsBranch}
use Rattle.tree_build.specs.Nodes.{held}
use Rattle.tree_build.specs.Sums.{IsSmall}
use Rattle.tree_build.specs.Moving.{path_fault, standing}
use Rattle.tree_build.proofs.Moved.{IsThere, of_some, of_none, gone, stood, fault-there}
use Rattle.tree_build.proofs.NoLonger.{entries_have_files, clean_no_longer}
use Rattle.tree_build.proofs.Searched.{ordered_held}
use Rattle.tree_build.proofs.files.Files.check_source.Goals as goal
use Rattle.tree_build.proofs.files.Files.check_source.Goals.{In-Some}
use Rattle.tree_build.proofs.files.Files.check_source.Given.{Over}

pub find_at-requires : goal.find_at-requires
find_at-requires g c =
    let os = c.args.objects.now in
    ordered_held os _ (subst (IsBranch os) (sym c.self.view_is) c.requires.branch).held

-- the source
source : (g : Over) (c : In-Some g)
    → (let os = c.args.objects.now in
    IsThere os (files_at (files_in os c.args.self.now) c.args.from.now) (held c.in-Some.node.now))
source g c =
    stood c.requires.branch c.args.from.now c.requires.shut refl refl (held c.in-Some.node.now)
    (ap (λ (x : Branch). standing c.args.from.now (Some x.root)) (sym c.self.view_is)
    ∙ of_some _ _ _ _ c.find_at.ensures c.in-Some.is)

pub extent-requires-clause-sound : goal.extent-requires-clause-sound
extent-requires-clause-sound g c = (source g (goal.at.extent-requires-clause-sound g c).In-Some).held

pub extent-requires-clause-small : goal.extent-requires-clause-small
extent-requires-clause-small g c = (source g (goal.at.extent-requires-clause-small g c).In-Some).small

pub check_move-requires : goal.check_move-requires
check_move-requires g c = subst IsSmall (sym c.extent.ensures) (source g (goal.at.check_move-requires g c).In-Some).small

pub returns-clause-ok : goal.returns-clause-ok
returns-clause-ok g c =
    subst (λ (o : Option Fault). OnOk c.check_move.result (o ≡ None))
    (fault-there (source g (goal.at.returns-clause-ok g c).In-Some) c.args.to.now c.extent.result c.extent.ensures) c.check_move.ensures.ok

pub returns-clause-err : goal.returns-clause-err
returns-clause-err g c =
    subst (λ (o : Option Fault). IfErr c.check_move.result (λ e. o ≡ Some e))
    (fault-there (source g (goal.at.returns-clause-err g c).In-Some) c.args.to.now c.extent.result c.extent.ensures) c.check_move.ensures.err

pub returns-in_default-clause-err : goal.returns-in_default-clause-err
returns-in_default-clause-err g c =
    ap (λ (l : Listed). path_fault (moved c.args.to.now l))
    (gone c.requires.branch c.args.from.now c.requires.shut refl refl
    (ap (λ (x : Branch). standing c.args.from.now (Some x.root)) (sym c.self.view_is)
    ∙ of_none _ _ _ c.find_at.ensures c.in_default.is))

pub returns-then-is_no_longer-clause-ok : goal.returns-then-is_no_longer-clause-ok
returns-then-is_no_longer-clause-ok g c =
    let os = c.args.objects.now in
    let there = source g (goal.at.returns-then-is_no_longer-clause-ok g c).In-Some in
    let some = entries_have_files os (held c.in-Some.node.now) there.held (sym c.has_entries.ensures ∙ c.if-has_entries.true) in
    clean_no_longer (files_in os c.args.self.now) c.requires.branch.files c.args.to.now c.args.from.now
    (c.is_no_longer.ensures c.if-is_no_longer.true) (λ none. some (there.files ∙ none))
