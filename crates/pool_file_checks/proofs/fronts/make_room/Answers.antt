use Rattle.std.proofs.Common.{List, sym, subst}
use Rattle.std.specs.Prelude.{All}
use Rattle.pool_file_checks.specs.Fronts.{IsFront}
use Rattle.pool_file_checks.specs.declared.fronts.Front.{Front}
use Rattle.pool_file_checks.proofs.FrontLemmas.{others_are}
use Rattle.pool_file_checks.proofs.fronts.make_room.Goals as goal

pub returns-then-len-ge-FRONTS_LIMIT : goal.returns-then-len-ge-FRONTS_LIMIT
returns-then-len-ge-FRONTS_LIMIT c = λ digest os all.
    subst (λ (l : List Front). All (IsFront digest os) l) (sym c.remove.ensures.by_index.2)
    (others_are (IsFront digest os) c.args.fronts.now.items 0 all)
