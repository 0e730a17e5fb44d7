use Rattle.plain_files.proofs.files.Files.copy.Goals as goal

pub returns : goal.returns
returns g c = c.move_files.ensures
