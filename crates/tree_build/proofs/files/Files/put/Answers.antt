use Rattle.std.proofs.Common.{◌≡◌, ℕ, ◌+◌, Bool, false, refl, sym, ap, ◌∙◌, subst, arith}
use Rattle.std.specs.Prelude.{IsTrue}
use Rattle.std.proofs.lemmas.Bool.{false≢true}
use Rattle.git_paths.specs.Paths.{is_within_limits}
use Rattle.tenant_tables.specs.Objects.{objects}
use Rattle.file_maps.specs.Edits.{put_at}
use Rattle.tree_build.specs.Branch.{files_in}
use Rattle.tree_build.specs.Putting.{file_held}
use Rattle.tree_build.proofs.Puts.{root_fault, long_fault, one_good, edits_put, may_put}
use Rattle.tree_build.proofs.Branches.{branch_small}
use Rattle.tree_build.proofs.OpenStays.{on_ok_both, open_file}
use Rattle.tree_build.proofs.files.Files.put.Goals as goal

no_path : {b : Bool} → IsTrue b → b ≡ false → ⊥
no_path {b} yea nay = false≢true (subst IsTrue nay yea)

pub returns-then-is_root-clause-edits : goal.returns-then-is_root-clause-edits
returns-then-is_root-clause-edits g c memory =
    let os = objects c.args.pool.now c.args.table.now.entries in (
      root_fault c.args.path.now c.args.entry (put_at (files_in os c.args.self.now) c.args.path.now c.args.entry)
          (c.is_root.ensures.0 c.if-is_root.true),
      refl,
    )

pub returns-then-not-is_short-clause-edits : goal.returns-then-not-is_short-clause-edits
returns-then-not-is_short-clause-edits g c memory =
    let os = objects c.args.pool.now c.args.table.now.entries in (
      long_fault c.args.path.now c.args.entry (put_at (files_in os c.args.self.now) c.args.path.now c.args.entry)
          (λ e. no_path (c.is_root.ensures.1 e) c.if-is_root.false)
          (sym c.is_short.ensures ∙ c.if-not-is_short.true),
      refl,
    )

pub put_file-requires-clause-some : goal.put_file-requires-clause-some
put_file-requires-clause-some g c =
    λ e. no_path (c.is_root.ensures.1 (sym c.components-path.ensures ∙ e)) c.if-is_root.false

pub put_file-requires-clause-within : goal.put_file-requires-clause-within
put_file-requires-clause-within g c =
    ap is_within_limits c.components-path.ensures ∙ sym c.is_short.ensures ∙ c.if-not-is_short.false

pub returns-then-file_count-lt-FILES_LIMIT-clause-edits :
    goal.returns-then-file_count-lt-FILES_LIMIT-clause-edits
returns-then-file_count-lt-FILES_LIMIT-clause-edits g c =
    let os = objects c.args.pool.now c.args.table.now.entries in
    edits_put c.put_file.result (files_in os c.args.self.now) (files_in os c.args.self.now) (files_in os c.put_file.new.self)
    refl c.components-path.result c.args.path.now c.components-path.ensures c.args.entry
    (λ e. no_path (c.is_root.ensures.1 e) c.if-is_root.false)
    (sym c.is_short.ensures ∙ c.if-not-is_short.false)
    (rw c.of-objects.ensures at c.put_file.ensures.edits)

pub put_node-requires-clause-may : goal.put_node-requires-clause-may
put_node-requires-clause-may g c =
    let os = objects c.args.pool.now c.args.table.now.entries in
    rw c.of-objects.ensures
    (may_put (rw c.of-objects.ensures at c.in_ok-open_to.ensures.branch) c.components-path.result c.in_ok-open_to.ensures.shut (file_held c.args.entry)
    ((c.requires.file, c.has_twenty_bytes.ensures), tt) (λ none. cc none) _
    (ap (λ (n : ℕ). n + 1) c.file_count-total.ensures)
    (one_good os c.open_to.new.self (rw c.of-objects.ensures at c.in_ok-open_to.ensures.branch) c.components-path.result c.args.entry
    (λ e. no_path (c.is_root.ensures.1 (sym c.components-path.ensures ∙ e)) c.if-is_root.false)
    c.has_components.ensures
    (ap is_within_limits c.components-path.ensures ∙ sym c.is_short.ensures ∙ c.if-not-is_short.false)
    c.requires.file c.has_twenty_bytes.ensures))

pub returns-clause-edits : goal.returns-clause-edits
returns-clause-edits g c =
    let os = objects c.args.pool.now c.args.table.now.entries in
    edits_put c.put_node.result (files_in os c.open_to.new.self) (files_in os c.args.self.now) (files_in os c.put_node.new.self)
    (rw c.of-objects.ensures at c.in_ok-open_to.ensures.files) c.components-path.result c.args.path.now c.components-path.ensures c.args.entry
    (λ e. no_path (c.is_root.ensures.1 e) c.if-is_root.false)
    (sym c.is_short.ensures ∙ c.if-not-is_short.false)
    (rw c.of-objects.ensures at c.put_node.ensures.puts.edits)

pub returns-clause-open : goal.returns-clause-open
returns-clause-open g c =
    on_ok_both c.put_node.result
    (open_file c.args.self.now.root c.open_to.new.self.root c.put_node.new.self.root c.components-path.result c.args.entry c.in_ok-open_to.ensures.«open»)
    c.put_node.ensures.puts.stays c.put_node.ensures.there

pub overflow_add-total : goal.overflow_add-total
overflow_add-total g c =
    let few = branch_small (objects c.args.pool.now c.args.table.now.entries) c.open_to.new.self (rw c.of-objects.ensures at c.in_ok-open_to.ensures.branch) in
    omega (arith, c.file_count-total.ensures)

pub returns-clause-branch : goal.returns-clause-branch
returns-clause-branch g c = λ ne. (rw c.of-objects.ensures at c.put_node.ensures.puts.still) ne (rw c.of-objects.ensures at c.in_ok-open_to.ensures.branch)
