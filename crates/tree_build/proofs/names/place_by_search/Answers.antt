use Rattle.tree_build.proofs.Searched.{found_or_none}
use Rattle.tree_build.proofs.names.place_by_search.Goals as goal

pub returns-in-None : goal.returns-in-None
returns-in-None c =
    found_or_none c.args.name.now c.args.entries.now.items c.place_before-in-None.result c.in-None.ensures
    c.place_before-in-None.ensures
