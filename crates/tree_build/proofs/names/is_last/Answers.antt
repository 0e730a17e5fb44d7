use Rattle.std.proofs.Common.{ℕ, List, length, ◌-◌, sym, ap, ◌∙◌, arith}
use Rattle.std.specs.Prelude.{slice_index_or}
use Rattle.tree_build.specs.declared.dir.Node.{Node}
use Rattle.tree_build.proofs.Look.{is_bytes}
use Rattle.tree_build.proofs.Searched.{first_named}
use Rattle.tree_build.proofs.names.is_last.Goals as goal

pub returns-clause-last : goal.returns-clause-last
returns-clause-last c it =
    let es = c.args.entries.now.items in
    let n = c.len-count.ensures in
    let some = c.if-count-eq0.false in
    first_named c.args.name.now es c.requires (length es - 1) c.at.result.now (omega arith)
    (ap (λ (e : List ℕ × Node). e.0) (sym (c.at.ensures ∙ ap (λ (k : ℕ). slice_index_or es (k - 1) c.at.result.now) n))
    ∙ is_bytes c.at.result.now.0 c.args.name.now (sym c.is_named.ensures ∙ it))
