use Rattle.std.proofs.Common.{◌≡◌, ℕ, ◌++◌, List, length, true, refl, sym, ap, subst, ◌∙◌}
use Rattle.std.proofs.lemmas.List.{take_all}
use Rattle.std.proofs.lemmas.Option.{slice_get_read}
use Rattle.git_model.specs.declared.kind.Kind.TheVariants as kind
use Rattle.git_model.specs.Peeling.{is_of}
use Rattle.answers.specs.Printed.{log_line, log_lines}
use Rattle.answers.proofs.Kept.{kept_twice, one_more}
use Rattle.answers.proofs.log_printing.append_log.Goals as goal

pub loop-id-preserved : goal.loop-id-preserved
loop-id-preserved g c =
    let i = c.loop-id.id-index in
    let lt = c.loop-id-test.true in (
      kept_twice c.args.out.now.items c.loop-id.out.items c.append_log_line.new.out.items c.loop-id.invariant.0
          c.in_ok-append_log_line.ensures.kept,
      λ all. one_more (log_line c.args.objects.now) c.args.out.now.items c.loop-id.out.items c.append_log_line.new.out.items
          c.args.ids.now i c.id-item.result
          (sym (slice_get_read c.args.ids.now (length c.args.ids.now) i c.id-item.result refl lt c.id-item.is))
          (c.loop-id.invariant.1 all)
          (c.in_ok-append_log_line.ensures.written
          (subst (λ (id : List ℕ). is_of c.args.objects.now kind.Commit id ≡ true) (sym c.id-item.is) (all i c.id-item.result lt))),
    )

pub returns-in_err-append_log_line-clause-kept : goal.returns-in_err-append_log_line-clause-kept
returns-in_err-append_log_line-clause-kept g c =
    kept_twice c.args.out.now.items c.loop-id.out.items c.append_log_line.new.out.items c.loop-id.invariant.0
    c.in_err-append_log_line.ensures.kept

pub returns-clause-written : goal.returns-clause-written
returns-clause-written g c = λ all.
    c.loop-id.invariant.1 all
    ∙ ap (λ (ids : List (List ℕ)). c.args.out.now.items ++ log_lines c.args.objects.now ids)
    (take_all c.loop-id.id-index c.args.ids.now c.loop-id-test.false)

pub returns-clause-kept : goal.returns-clause-kept
returns-clause-kept g c = c.loop-id.invariant.0
