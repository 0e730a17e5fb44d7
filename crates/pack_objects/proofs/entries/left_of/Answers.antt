use Rattle.std.proofs.Common.{ℕ, List, ◌++◌, Option, Some, sym, ap, ◌∙◌, take}
use Rattle.git_model.specs.Content.{content_from}
use Rattle.git_model.specs.declared.kind.Kind.{Kind}
use Rattle.pack_text.specs.PackText.{entry_text}
use Rattle.pack_objects.specs.Entries.{entries_text, left_after}
use Rattle.pack_objects.proofs.EntryTexts.{known-all, known-more, left-both}
use Rattle.pack_objects.proofs.entries.left_of.Goals as goal

pub loop-id-preserved : goal.loop-id-preserved
loop-id-preserved g c =
    let os = c.args.objects.now in
    let names = c.args.names.now in
    let i = c.loop-id.id-index in
    let kind : Kind = c.in-Some.field-0-0 in
    let content = content_from kind c.in-Some.contents.now in
    let before = entries_text os (take i names) in (
      known-all os names i c.id-item.result content c.loop-id-test.true c.id-item.is (sym c.in-Some.ensures) c.loop-id.invariant.0,
      c.left_after-left.ensures kind
          ∙ ap (λ (o : Option ℕ). left_after o (entry_text content)) c.loop-id.invariant.1
          ∙ left-both c.args.limit before (entry_text content)
          ∙ ap (λ (l : List ℕ). left_after (Some c.args.limit) l)
          (sym (known-more os names i c.id-item.result content c.loop-id-test.true c.id-item.is (sym c.in-Some.ensures))),
    )
