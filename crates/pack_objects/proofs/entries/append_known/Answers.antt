use Rattle.std.proofs.Common.{ℕ, List, ◌++◌, sym, ap, ◌∙◌, append_assoc, take}
use Rattle.git_model.specs.Content.{content_from}
use Rattle.pack_text.specs.PackText.{entry_text}
use Rattle.pack_objects.specs.Entries.{entries_text}
use Rattle.pack_objects.proofs.EntryTexts.{known-more, unknown-more}
use Rattle.pack_objects.proofs.entries.append_known.Goals as goal
use Rattle.pack_objects.proofs.entries.append_known.Goals.{in-Some+in_ok-append_entry, in_default}

pub loop-id-preserved : goal.loop-id-preserved
loop-id-preserved g c =
    let os = c.args.objects.now in
    let names = c.args.names.now in
    let i = c.loop-id.id-index in
    let old = c.args.out.now.items in
    elim c.match-get.branch [
      | in-Some+in_ok-append_entry w ↦
          let content = content_from w.in-Some.kind w.in-Some.contents.now in
          rw w.out-is (w.in_ok-append_entry.ensures.appended
          ∙ ap (λ (l : List ℕ). l ++ entry_text content) c.loop-id.invariant
          ∙ append_assoc old (entries_text os (take i names)) (entry_text content)
          ∙ ap (λ (l : List ℕ). old ++ l) (sym (known-more os names i c.id-item.result content c.loop-id-test.true c.id-item.is (sym w.in-Some.ensures))))
      | in_default w ↦
          rw w.out-is (c.loop-id.invariant
          ∙ ap (λ (l : List ℕ). old ++ l) (sym (unknown-more os names i c.id-item.result c.loop-id-test.true c.id-item.is (sym w.in_default.ensures))))
    ]
