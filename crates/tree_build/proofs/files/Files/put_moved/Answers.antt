use Rattle.std.proofs.Common.{ℕ, ◌+◌, ◌≤◌, ap, ◌∙◌, subst, arith}
use Rattle.file_maps.specs.StoredFiles.{stored_files}
use Rattle.tree_build.specs.Shape.{held_files}
use Rattle.tree_build.specs.Branch.{files_in}
use Rattle.tree_build.specs.Nodes.{held}
use Rattle.tree_build.proofs.Branches.{branch_small}
use Rattle.tree_build.proofs.Moves.{put-good, put-edits}
use Rattle.tree_build.proofs.Puts.{may_put}
use Rattle.tree_build.proofs.files.Files.put_moved.Goals as goal

pub overflow_add-total : goal.overflow_add-total
overflow_add-total g c =
    let few = branch_small c.args.objects.now c.open_to.new.self c.in_ok-open_to.ensures.branch in
    omega (arith, c.file_count.ensures, c.requires.few)

pub put_here-requires-clause-may : goal.put_here-requires-clause-may
put_here-requires-clause-may g c =
    let os = c.args.objects.now in
    may_put c.in_ok-open_to.ensures.branch c.components-to.result c.in_ok-open_to.ensures.shut (held c.args.node) c.requires.held c.requires.full _
    (ap (λ (n : ℕ). n + c.args.files) c.file_count.ensures ∙ ap (λ (n : ℕ). c.open_to.new.self.files + n) c.requires.added)
    (put-good (held_files (stored_files os) (held c.args.node)) c.in_ok-open_to.ensures.files c.components-to.ensures c.requires.good)

pub put_here-requires-clause-few : goal.put_here-requires-clause-few
put_here-requires-clause-few g c = subst (λ (n : ℕ). n ≤ 1048576) c.requires.added c.requires.few

pub returns-clause-branch : goal.returns-clause-branch
returns-clause-branch g c = λ ne. c.put_here.ensures.still ne c.in_ok-open_to.ensures.branch

pub returns-clause-edits : goal.returns-clause-edits
returns-clause-edits g c =
    let os = c.args.objects.now in
    put-edits c.put_here.result (files_in os c.put_here.new.self) (held_files (stored_files os) (held c.args.node)) c.in_ok-open_to.ensures.files c.components-to.ensures c.put_here.ensures.edits
