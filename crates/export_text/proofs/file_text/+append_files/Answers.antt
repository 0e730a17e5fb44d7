use Rattle.std.proofs.Common.{◌≡◌, ℕ, ◌-◌, ◌≤◌, [], ◌∷◌, ◌++◌, List, length, take, slice_range, refl, sym, ap, subst, ◌∙◌, arith, append-nil, append_assoc}
use Rattle.std.proofs.lemmas.List.{take_at}
use Rattle.git_model.specs.GoodRepository.{AreObjects}
use Rattle.git_objects.specs.Parts.{entries_of}
use Rattle.export_text.specs.Lines.{AreTold, IsTold, lines_within, prefix_below}
use Rattle.export_text.proofs.Again.{last-range, longer, on-ok, still-told}
use Rattle.export_text.proofs.Listing.{lines_from, file-turn, directory-turn, level-ends, no-level}
use Rattle.export_text.proofs.Pieces.{kept_twice, kept_thrice}
use Rattle.export_text.proofs.file_text.+append_files.Goals as goal
use Rattle.export_text.proofs.file_text.+append_files.Goals.{in-Directory+in_ok-enter-in-Directory+in_ok-append_files-in-Directory, in_default+in_ok-append_file-in_default}

pub returns-then-levels-eq0-clause-written : goal.returns-then-levels-eq0-clause-written
returns-then-levels-eq0-clause-written g t c = λ good told.
    sym (ap (λ text. c.args.out.now.items ++ text)
    (no-level c.args.objects.now c.args.levels c.args.prefix.now.items c.args.tree.now c.if-levels-eq0.true)
    ∙ append-nil c.args.out.now.items)

pub returns-then-branch-clause-in_mind : goal.returns-then-branch-clause-in_mind
returns-then-branch-clause-in_mind g t c = λ good told.
    still-told c.args.objects.now c.args.out.now.items c.append_again.new.out.items c.args.told.now
    c.in_ok-append_again.ensures.kept told

pub loop-entry-preserved : goal.loop-entry-preserved
loop-entry-preserved g t c =
    let os = c.args.objects.now in
    let n = c.args.levels - 1 in
    let prefix = c.args.prefix.now.items in
    let es = c.deref-entry-items.result.now in
    let i = c.loop-entry.entry-index in
    let e = c.entry-item.result in
    let old = c.append_again.new.out.items in
    let mid = c.loop-entry.out.items in
    elim c.match-entry.branch [
      | in-Directory+in_ok-enter-in-Directory+in_ok-append_files-in-Directory w ↦
          let inner : w.enter.new.prefix.items ≡ prefix_below prefix e.name.now =
          w.in_ok-enter-in-Directory.ensures ∙ ap (λ (p : List ℕ). prefix_below p e.name.now) c.loop-entry.invariant.prefix in
          record {
            prefix = rw w.prefix-is (w.truncate.ensures.items
                ∙ ap (take c.len-above.result) (w.in_ok-append_files-in-Directory.ensures.prefix ∙ inner ∙ append_assoc prefix e.name.now (47 ∷ []))
                ∙ take_at prefix (e.name.now ++ 47 ∷ []) c.len-above.result (sym (c.len-above.ensures ∙ c.args.prefix.now.ok.0)));
            kept = rw w.out-is (kept_twice old mid w.append_files.new.out.items
                c.loop-entry.invariant.kept w.in_ok-append_files-in-Directory.ensures.kept);
            written = λ good told. rw w.out-is (directory-turn os n prefix es i e c.loop-entry-test.true c.entry-item.is
                w.enter.new.prefix.items old mid w.append_files.new.out.items w.in-Directory.is inner
                (c.loop-entry.invariant.written good told)
                (w.in_ok-append_files-in-Directory.ensures.written good (c.loop-entry.invariant.in_mind good told)));
            in_mind = λ good told. rw w.out-is (rw w.told-is
                (w.in_ok-append_files-in-Directory.ensures.in_mind good (c.loop-entry.invariant.in_mind good told)));
          }
      | in_default+in_ok-append_file-in_default w ↦ record {
        prefix = rw w.prefix-is (w.in_ok-append_file-in_default.ensures.prefix ∙ c.loop-entry.invariant.prefix);
        kept = rw w.out-is (kept_twice old mid w.append_file.new.out.items
            c.loop-entry.invariant.kept w.in_ok-append_file-in_default.ensures.kept);
        written = λ good told. rw w.out-is (file-turn os n prefix es i e c.loop-entry-test.true c.entry-item.is
            c.loop-entry.prefix.items old mid w.append_file.new.out.items w.in_default.not-Directory c.loop-entry.invariant.prefix
            (c.loop-entry.invariant.written good told) w.in_ok-append_file-in_default.ensures.written);
        in_mind = λ good told. rw w.out-is (rw w.told-is
            (still-told os mid w.append_file.new.out.items c.loop-entry.told
            w.in_ok-append_file-in_default.ensures.kept (c.loop-entry.invariant.in_mind good told)));
      }
    ]

pub returns-clause-written : goal.returns-clause-written
returns-clause-written g t c = λ good told.
    let os = c.args.objects.now in
    let same = c.in_ok-append_again.ensures.same c.if-branch.false in
    on-ok c.keep.result (c.loop-entry.invariant.written good
    (still-told os c.args.out.now.items c.append_again.new.out.items c.args.told.now c.in_ok-append_again.ensures.kept told)
    ∙ ap (λ text. c.append_again.new.out.items ++ text)
    (level-ends os c.args.levels (c.args.levels - 1) c.args.prefix.now.items c.args.tree.now c.deref-entry-items.result.now c.loop-entry.entry-index
    (let ne = c.if-levels-eq0.false in omega arith) c.loop-entry-test.false
    (ap entries_of c.deref-entry-items.ensures.value ∙ c.in_ok-entries.ensures.entries good))
    ∙ ap (λ front. front ++ lines_within os c.args.levels c.args.prefix.now.items c.args.tree.now) same)

pub returns-clause-in_mind : goal.returns-clause-in_mind
returns-clause-in_mind g t c = λ good told.
    let os = c.args.objects.now in
    let again = c.append_again.new.out.items in
    let out = c.loop-entry.out.items in
    let start : c.len-start.result ≡ length again = c.len-start.ensures ∙ c.append_again.new.out.ok.0 in
    let end : c.len-end.result ≡ length out = c.len-end.ensures ∙ c.loop-entry.out.ok.0 in
    let now = still-told os c.args.out.now.items again c.args.told.now c.in_ok-append_again.ensures.kept told in
    let grown = longer again out c.loop-entry.invariant.kept in
    let all = c.loop-entry.invariant.written good now
    ∙ ap (λ text. again ++ text)
    (level-ends os c.args.levels (c.args.levels - 1) c.args.prefix.now.items c.args.tree.now c.deref-entry-items.result.now c.loop-entry.entry-index
    (let ne = c.if-levels-eq0.false in omega arith) c.loop-entry-test.false
    (ap entries_of c.deref-entry-items.ensures.value ∙ c.in_ok-entries.ensures.entries good)) in
    c.keep.ensures os out (c.loop-entry.invariant.in_mind good now)
    (omega (arith, start, end, grown)) (omega (arith, end))
    (ap (λ (a : ℕ). slice_range out a c.len-end.result) start ∙ ap (λ (b : ℕ). slice_range out (length again) b) end
    ∙ last-range again out (lines_within os c.args.levels c.args.prefix.now.items c.args.tree.now) all
    ∙ ap (λ (p : List ℕ). lines_within os c.args.levels p c.args.tree.now)
    (sym (c.deref-2.ensures.value ∙ c.loop-entry.invariant.prefix)))
