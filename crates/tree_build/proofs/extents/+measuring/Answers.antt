use Rattle.std.proofs.Common.{◌∷◌, ◌+◌, [], ℕ, List, drop, sym, ap, ◌∙◌, subst, arith, rules, ◌<◌}
use Rattle.std.specs.Prelude.{Option}
use Rattle.std.specs.Option.{unwrap_or}
use Rattle.tenant_tables.specs.declared.summary.Summary.{Summary}
use Rattle.tenant_tables.specs.Trees.{below, both}
use Rattle.file_maps.specs.Edits.{moved}
use Rattle.file_maps.specs.Storable.{files_summary}
use Rattle.file_maps.specs.StoredFiles.{stored_files}
use Rattle.file_maps.proofs.KnownTrees.{plain-sum}
use Rattle.tree_build.specs.declared.dir.Node.{Node}
use Rattle.tree_build.specs.Shape.{opened, Directory, shape_files, held_files}
use Rattle.tree_build.specs.Branch.{IsWhat, IsHeld}
use Rattle.tree_build.specs.Nodes.{held, shape_of}
use Rattle.tree_build.specs.Sums.{IsSmall}
use Rattle.tree_build.proofs.Counted.{turn}
use Rattle.tree_build.proofs.Measured.{files-below, next-sum, dir-below, small-below, no_file_there}
use Rattle.tree_build.proofs.extents.+measuring.Goals as goal

pub extent-returns-in-Unopened : goal.extent-returns-in-Unopened
extent-returns-in-Unopened g t c =
    let os = c.args.objects.now in
    let sound = subst (λ (n : Node). IsHeld os (held n)) c.in-Unopened.is c.requires.sound in
    c.unwrap_or.ensures
    ∙ ap (λ (o : Option Summary). unwrap_or o c.no_files.result)
    (c.summary.ensures ∙ plain-sum os _ _ sound.0)
    ∙ ap (λ (n : Node). files_summary (held_files (stored_files os) (held n)))
    (sym c.in-Unopened.is)

pub extent_of_all-extent_under-requires : goal.extent_of_all-extent_under-requires
extent_of_all-extent_under-requires g t c κs within =
    let os = c.args.objects.now in
    let x = turn os c.args.entries.now.items c.loop-place.place c.at-entry.result.now c.requires.sound (subst (λ (n : ℕ). c.loop-place.place < n) c.len-place-end.ensures c.loop-place-test.true) c.at-entry.ensures in
    let n = next-sum os c.args.entries.now.items c.loop-place.place c.loop-place.sum c.at-entry.result.now (subst (λ (n : ℕ). c.loop-place.place < n) c.len-place-end.ensures c.loop-place-test.true) c.at-entry.ensures c.loop-place.invariant c.requires.small in
    let d = c.decreases in
    let s = x.smaller in (
      omega arith,
      (
        search (rules, within),
        (
          x.sound,
          subst (λ (name : List ℕ). IsSmall (files_summary
              (moved (name ∷ []) (held_files (stored_files os) (held c.at-entry.result.now.1)))))
              (sym c.as_bytes.ensures.bytes) n.entry,
        ),
      ),
    )

pub extent_of_all-both-sum-requires : goal.extent_of_all-both-sum-requires
extent_of_all-both-sum-requires g t c =
    let os = c.args.objects.now in
    let n = next-sum os c.args.entries.now.items c.loop-place.place c.loop-place.sum c.at-entry.result.now (subst (λ (n : ℕ). c.loop-place.place < n) c.len-place-end.ensures c.loop-place-test.true) c.at-entry.ensures c.loop-place.invariant c.requires.small in
    subst (λ (s : Summary). IsSmall (both c.loop-place.sum s))
    (sym (c.extent_under.ensures ∙ ap (λ (name : List ℕ). files_summary
    (moved (name ∷ []) (held_files (stored_files os)
    (held c.at-entry.result.now.1)))) c.as_bytes.ensures.bytes))
    n.sum

pub extent_of_all-loop-place-preserved : goal.extent_of_all-loop-place-preserved
extent_of_all-loop-place-preserved g t c =
    let os = c.args.objects.now in
    let n = next-sum os c.args.entries.now.items c.loop-place.place c.loop-place.sum c.at-entry.result.now (subst (λ (n : ℕ). c.loop-place.place < n) c.len-place-end.ensures c.loop-place-test.true) c.at-entry.ensures c.loop-place.invariant c.requires.small in
    let rest = files_summary (shape_files (stored_files os)
    (shape_of (drop (c.loop-place.place + 1) c.args.entries.now.items))) in
    ap (λ (s : Summary). both s rest)
    (c.both-sum.ensures ∙ ap (both c.loop-place.sum)
    (c.extent_under.ensures ∙ ap (λ (name : List ℕ). files_summary
    (moved (name ∷ []) (held_files (stored_files os)
    (held c.at-entry.result.now.1)))) c.as_bytes.ensures.bytes))
    ∙ n.next

pub extent_under-extent-requires : goal.extent_under-extent-requires
extent_under-extent-requires g t c κs within =
    let os = c.args.objects.now in
    let d = c.decreases in (
      omega arith,
      (
        search (rules, within),
        (
          c.requires.sound,
          small-below c.args.name.now (held_files (stored_files os) (held c.args.node.now))
              (dir-below os (held c.args.node.now).what
              (held c.args.node.now).inside c.requires.sound.0
              (no_file_there c.args.node.now c.in_default.not-File))
              c.requires.small,
        ),
      ),
    )

pub extent_under-below-requires : goal.extent_under-below-requires
extent_under-below-requires g t c =
    let os = c.args.objects.now in
    let fs = held_files (stored_files os) (held c.args.node.now) in
    subst IsSmall
    (files-below c.args.name.now fs (dir-below os (held c.args.node.now).what
    (held c.args.node.now).inside c.requires.sound.0
    (no_file_there c.args.node.now c.in_default.not-File))
    ∙ ap (below c.args.name.now) (sym c.extent.ensures))
    c.requires.small

pub extent_under-returns-in_default : goal.extent_under-returns-in_default
extent_under-returns-in_default g t c =
    let os = c.args.objects.now in
    let fs = held_files (stored_files os) (held c.args.node.now) in
    c.below.ensures
    ∙ ap (below c.args.name.now) c.extent.ensures
    ∙ sym (files-below c.args.name.now fs (dir-below os (held c.args.node.now).what
    (held c.args.node.now).inside c.requires.sound.0
    (no_file_there c.args.node.now c.in_default.not-File)))

pub extent_of_dir-returns-in-Some : goal.extent_of_dir-returns-in-Some
extent_of_dir-returns-in-Some g t c =
    let os = c.args.objects.now in
    let known = sym (ap (λ (d : Directory). d.tree) c.dir.view_is) ∙ c.in-Some.is in
    let lists = subst (λ (w : Option (List ℕ)). IsWhat os (opened w) (shape_files (stored_files os) c.args.dir.now.entries))
    known c.requires.sound.0 in
    c.unwrap_or.ensures
    ∙ ap (λ (o : Option Summary). unwrap_or o c.no_files.result)
    (c.summary.ensures ∙ plain-sum os _ _ lists)
