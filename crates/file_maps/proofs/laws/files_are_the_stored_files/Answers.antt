use Rattle.std.proofs.Common.{sym}
use Rattle.file_maps.proofs.GoodObjects.{listed-stored}
use Rattle.file_maps.proofs.laws.files_are_the_stored_files.Goals as goal

pub returns : goal.returns
returns c = λ digest os good id files are. sym (listed-stored digest os good id files are.listed)
