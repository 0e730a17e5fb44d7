use Rattle.std.proofs.Common.{refl, sym, ◌∙◌, arith}
use Rattle.tenant_tables.specs.Objects.{objects}
use Rattle.tree_build.specs.Branch.{files_in}
use Rattle.tree_build.proofs.Branches.{without_root}
use Rattle.tree_build.proofs.files.Files.drop_path.Goals as goal

pub returns-then-is_root-clause-edits : goal.returns-then-is_root-clause-edits
returns-then-is_root-clause-edits g c =
    let os = objects c.args.pool.now c.args.table.now.entries in (
      refl,
      c.clear.ensures.files os
          ∙ sym (without_root (files_in os c.args.self.now) c.args.path.now (c.is_root.ensures.0 c.if-is_root.true)),
    )

pub returns-then-is_root-clause-open : goal.returns-then-is_root-clause-open
returns-then-is_root-clause-open g c = λ q. let none = c.clear.ensures.«open» q in omega arith
