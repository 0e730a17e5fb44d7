use Rattle.std.proofs.Common.{◌≡◌, ◌++◌, length, take, true}
use Rattle.std.specs.Prelude.{All}
use Rattle.git_model.specs.declared.kind.Kind.TheVariants as kind
use Rattle.git_model.specs.Peeling.{is_of}
use Rattle.answers.specs.Printed.{log_lines}
use Rattle.answers.proofs.log_printing.append_log.Given as goal

abbrev pub invariant-loop-id : goal.invariant-loop-id
invariant-loop-id g l =
    (take (length l.initial.out.items) l.out.items ≡ l.initial.out.items)
    × (All (λ id. is_of l.objects kind.Commit id ≡ true) l.ids
    → l.out.items ≡ l.initial.out.items ++ log_lines l.objects (take l.id-index l.ids))
