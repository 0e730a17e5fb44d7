use Rattle.file_maps.proofs.Edited.{one-below, one-apart}
use Rattle.plain_files.proofs.Edited.{edits-put}
use Rattle.plain_files.proofs.files.Files.put.Goals as goal

pub replace-requires-clause-below : goal.replace-requires-clause-below
replace-requires-clause-below g c =
    one-below c.args.path.now c.args.entry _ c.in_ok-files.ensures c.has_components.ensures c.requires.file c.has_twenty_bytes.ensures

pub replace-requires-clause-apart : goal.replace-requires-clause-apart
replace-requires-clause-apart g c = one-apart c.args.path.now c.args.entry _ c.in_ok-files.ensures

pub returns : goal.returns
returns g c = edits-put _ _ _ c.args.path.now c.args.entry _ c.in_ok-files.ensures c.replace.ensures
