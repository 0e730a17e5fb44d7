use Rattle.std.proofs.Common.{◌≡◌, ℕ, ◌+◌, length, sym, ap, ◌∙◌, arith}
use Rattle.std.specs.FinMap as finmap
use Rattle.git_paths.specs.Paths.{strip_prefix}
use Rattle.file_maps.specs.FileMap.{Path, Listed, FileMap, is_apart}
use Rattle.file_maps.specs.Storable.{files_summary}
use Rattle.file_maps.specs.StoredFiles.{stored_files}
use Rattle.std.proofs.lemmas.Result.{on_ok_weaker}
use Rattle.tree_build.specs.declared.dir.Node.TheVariants.{Unopened}
use Rattle.tree_build.specs.Branch.{files_in}
use Rattle.tree_build.specs.Limits.{may_stand}
use Rattle.tree_build.specs.Nodes.{held}
use Rattle.tree_build.proofs.Limits.{put_good, edits_fit, few_stand}
use Rattle.tree_build.proofs.Branches.{branch_small}
use Rattle.tree_build.proofs.Puts.{may_put}
use Rattle.tree_build.proofs.Grafted.{none_put, placeable}
use Rattle.tree_build.proofs.files.Files.put_tree.Goals as goal

pub returns-then-files-eq0-clause-edits : goal.returns-then-files-eq0-clause-edits
returns-then-files-eq0-clause-edits g c =
    let os = c.args.objects.now in
    none_put os c.take_out.new.self c.take_out.ensures.branch (files_in os c.args.self.now)
    c.args.path.now (stored_files os c.args.name.now) (sym c.requires.files ∙ c.if-files-eq0.true)
    (c.take_out.ensures.files
    ∙ ap (λ (m : FileMap). finmap.retain_keys m (is_apart c.components-path.result))
    c.in_ok-open_to.ensures.files
    ∙ ap (λ (p : Path). finmap.retain_keys (files_in os c.args.self.now) (is_apart p))
    c.components-path.ensures)

pub put_node-requires-clause-may : goal.put_node-requires-clause-may
put_node-requires-clause-may g c =
    let os = c.args.objects.now in
    may_put c.in_ok-open_to.ensures.branch c.components-path.result c.in_ok-open_to.ensures.shut (held (Unopened c.args.name.now)) (c.requires.tree, tt)
    (λ none. let n : length (stored_files os c.args.name.now) ≡ 0 = ap (λ (l : Listed). length l) none in
    let all = c.requires.files in
    let some = c.if-files-eq0.false in omega arith) _
    (ap (λ (n : ℕ). n + c.args.files) c.file_count.ensures ∙ ap (λ (n : ℕ). c.open_to.new.self.files + n) c.requires.files)
    (put_good os c.open_to.new.self c.in_ok-open_to.ensures.branch c.components-path.result
    (held (Unopened c.args.name.now)) c.has_components.ensures
    (placeable os c.args.name.now c.requires.tree)
    (ap (λ (p : Path). may_stand p (files_summary (stored_files os c.args.name.now)))
    c.components-path.ensures ∙ c.requires.fits))

pub returns-clause-edits : goal.returns-clause-edits
returns-clause-edits g c =
    let os = c.args.objects.now in
    edits_fit c.put_node.result (files_in os c.open_to.new.self) (files_in os c.args.self.now)
    (files_in os c.put_node.new.self) c.in_ok-open_to.ensures.files c.components-path.result
    c.args.path.now c.components-path.ensures (stored_files os c.args.name.now)
    (placeable os c.args.name.now c.requires.tree).sound
    c.requires.fits c.put_node.ensures.puts.edits

pub returns-then-files-eq0-clause-open : goal.returns-then-files-eq0-clause-open
returns-then-files-eq0-clause-open g c =
    λ q apart. let opened = c.in_ok-open_to.ensures.«open» q in
    let taken = c.take_out.ensures.«open» q in omega arith

pub returns-clause-open : goal.returns-clause-open
returns-clause-open g c =
    on_ok_weaker c.put_node.result
    (λ put q apart. let opened = c.in_ok-open_to.ensures.«open» q in
    let there = put q (ap (λ (p : Path). strip_prefix p q) c.components-path.ensures ∙ apart) in
    omega arith)
    c.put_node.ensures.puts.stays

pub overflow_add-total : goal.overflow_add-total
overflow_add-total g c =
    let few = branch_small c.args.objects.now c.open_to.new.self c.in_ok-open_to.ensures.branch in
    let more = few_stand c.args.path.now (stored_files c.args.objects.now c.args.name.now) c.requires.fits in
    omega (arith, c.file_count.ensures, c.requires.files)

pub returns-clause-branch : goal.returns-clause-branch
returns-clause-branch g c = λ ne. c.put_node.ensures.puts.still ne c.in_ok-open_to.ensures.branch
