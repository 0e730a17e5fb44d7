-- The files of open commits: git-fast-import(1), "filemodify" to "filedeleteall".
use Rattle.file_maps.specs.FileMap.{AreFiles, listed}
use Rattle.open_commits.specs.OpenCommit.{OpenCommit}

-- The files of an open commit are those of a branch.
abbrev pub HasFiles : OpenCommit → Type 0
HasFiles commit = AreFiles (listed commit.files)
