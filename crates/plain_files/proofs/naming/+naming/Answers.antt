use Rattle.std.proofs.Common.{◌≡◌, ◌-◌, List, map, IfOk, sym, ap, ◌∙◌, subst, arith}
use Rattle.git_model.specs.Tree.{TreeEntry}
use Rattle.file_maps.specs.Trees.{tree_name}
use Rattle.plain_files.specs.Below.{files_below, groups_of}
use Rattle.file_maps.specs.Below.{direct_of}
use Rattle.file_maps.proofs.Nested.{entries-nil, pushed}
use Rattle.plain_files.proofs.Nested.{entries-step, entries_turn}
use Rattle.plain_files.proofs.naming.+naming.Goals as goal

pub tree_id-returns-then-deep-eq0 : goal.tree_id-returns-then-deep-eq0
tree_id-returns-then-deep-eq0 g t c =
    subst
    (λ (es : List TreeEntry). IfOk c.name_of.result (λ id. id ≡ tree_name g.N.Naming.digest_of es))
    (sym (entries-nil g.N.Naming.digest_of c.args.deep (files_below c.args.files.now) c.if-deep-eq0.true)) c.name_of.ensures

pub tree_id-returns-in-Ok : goal.tree_id-returns-in-Ok
tree_id-returns-in-Ok g t c =
    subst
    (λ (es : List TreeEntry). IfOk c.tree_of_groups.result (λ id. id ≡ tree_name g.N.Naming.digest_of es))
    (ap (map (direct_of g.N.Naming.digest_of (c.args.deep - 1))) (ap groups_of c.deref.ensures.value ∙ c.in-Ok.ensures)
    ∙ sym
    (entries-step g.N.Naming.digest_of c.args.deep (files_below c.args.files.now) (omega arith)))
    c.tree_of_groups.ensures

pub push_entries-loop-group-preserved : goal.push_entries-loop-group-preserved
push_entries-loop-group-preserved g t c =
    entries_turn g.N.Naming.digest_of
    c.args.deep c.args.groups.now c.loop-group.group-index c.group-item.result c.in_ok-id.id c.entry_by.result _ _
    c.loop-group-test.true c.group-item.is c.in_ok-id.ensures c.entry_by.ensures c.loop-group.invariant
    (pushed c.push.result c.is_err.result _ _ _ c.is_err.ensures.negation c.if-is_err.false c.push.ensures.items)
