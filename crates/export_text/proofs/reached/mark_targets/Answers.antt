use Rattle.std.proofs.Common.{ℕ, ◌+◌, List, [], ◌∷◌, map, take, ap, ◌∙◌}
use Rattle.std.proofs.lemmas.List.{map-append}
use Rattle.git_model.specs.RefStore.{listed_refs}
use Rattle.export_text.proofs.Pieces.{next-at}
use Rattle.export_text.proofs.Marked.{one-more}
use Rattle.export_text.proofs.reached.mark_targets.Goals as goal

pub loop-position-preserved : goal.loop-position-preserved
loop-position-preserved g c =
    one-more c.args.objects.now c.args.flags.now c.loop-position.flags c.mark.new.flags
    (map (λ (ref : List ℕ × List ℕ). ref.1) (take c.loop-position.position (listed_refs c.args.refs.now)))
    (map (λ (ref : List ℕ × List ℕ). ref.1) (take (c.loop-position.position + 1) (listed_refs c.args.refs.now)))
    c.in-Some.entry.1
    (ap (map (λ (ref : List ℕ × List ℕ). ref.1))
    (next-at (listed_refs c.args.refs.now) c.loop-position.position (c.in-Some.entry.0.now, c.in-Some.entry.1) c.in-Some.ensures.entry)
    ∙ map-append (λ (ref : List ℕ × List ℕ). ref.1) (take c.loop-position.position (listed_refs c.args.refs.now)) ((c.in-Some.entry.0.now, c.in-Some.entry.1) ∷ []))
    c.loop-position.invariant c.mark.ensures
