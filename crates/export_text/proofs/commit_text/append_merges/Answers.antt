use Rattle.std.proofs.Common.{ℕ, ◌+◌, ◌++◌, List, map, take, ap, ◌∙◌, codes}
use Rattle.std.proofs.lemmas.List.{take_all}
use Rattle.git_objects.proofs.Kept.{kept_front}
use Rattle.export_text.specs.ItemText.{items_text}
use Rattle.export_text.specs.ExportItems.{marked}
use Rattle.export_text.proofs.Pieces.{more-of, next-of}
use Rattle.export_text.proofs.commit_text.append_merges.Goals as goal

pub loop-parent-preserved : goal.loop-parent-preserved
loop-parent-preserved g c =
    let i = c.loop-parent.parent-index in
    more-of (marked c.args.objects.now (codes "merge ")) c.args.out.now.items c.loop-parent.out.items
    c.append_marked.new.out.items (take i c.args.parents.now) (take (i + 1) c.args.parents.now) c.parent-item.result
    (next-of c.args.parents.now i c.parent-item.result c.loop-parent-test.true c.parent-item.is)
    c.loop-parent.invariant c.in_ok-append_marked.ensures.written

pub returns-in_err-append_marked-clause-kept : goal.returns-in_err-append_marked-clause-kept
returns-in_err-append_marked-clause-kept g c =
    kept_front c.args.out.now.items c.loop-parent.out.items c.append_marked.new.out.items _ c.loop-parent.invariant c.in_err-append_marked.ensures.kept

pub returns-clause-written : goal.returns-clause-written
returns-clause-written g c =
    c.loop-parent.invariant
    ∙ ap (λ (ps : List (List ℕ)). c.args.out.now.items ++ items_text (map (marked c.args.objects.now (codes "merge ")) ps))
    (take_all c.loop-parent.parent-index c.args.parents.now c.loop-parent-test.false)
