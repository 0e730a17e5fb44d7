use Rattle.std.proofs.Common.{◌+◌, ◌/◌}
use Rattle.missing_objects.proofs.Words.{no-flags}
use Rattle.missing_objects.proofs.flags.Flags.none.Goals as goal

pub returns : goal.returns
returns c =
    no-flags c.in_ok-words.words.items (c.args.len / 64 + 1) c.args.len (c.in_ok-words.ensures.items_if_clones_equal (λ y e. e))
