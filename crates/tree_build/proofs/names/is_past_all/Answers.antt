use Rattle.std.proofs.Common.{ℕ, not, sym, ap, ◌-◌, ◌∙◌, arith}
use Rattle.std.specs.Prelude.{slice_index_or}
use Rattle.git_model.specs.Tree.{order_key}
use Rattle.git_objects.specs.Parts.{entry_of}
use Rattle.tree_build.proofs.Searched.{past_all}
use Rattle.tree_build.proofs.names.is_past_all.Goals as goal

pub returns : goal.returns
returns c it =
    let es = c.args.entries.now.items in
    let n = c.len-count.ensures in
    let some = c.if-count-eq0.false in
    past_all (order_key (entry_of c.args.entry.now)) es c.requires c.at.result.now
    (c.at.ensures ∙ ap (λ (k : ℕ). slice_index_or es (k - 1) c.at.result.now) n) (omega arith) (ap not (sym c.comes_before.ensures) ∙ it)
