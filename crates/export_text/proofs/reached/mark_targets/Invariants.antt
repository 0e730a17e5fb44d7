use Rattle.std.proofs.Common.{◌≡◌, ℕ, List, map, take}
use Rattle.git_model.specs.RefStore.{listed_refs}
use Rattle.export_text.specs.Marking.{with_flags}
use Rattle.export_text.proofs.reached.mark_targets.Given as goal

abbrev pub invariant-loop-position : goal.invariant-loop-position
invariant-loop-position g l =
    l.flags ≡ with_flags l.objects l.initial.flags
    (map (λ (ref : List ℕ × List ℕ). ref.1) (take l.position (listed_refs l.refs)))
