use Rattle.std.proofs.Common.{◌↔◌, drop}
use Rattle.store_format.specs.Sound.{AreSoundFrom}
use Rattle.store_format.specs.Shown.{contents_files_of, state_of}
use Rattle.store_format.proofs.state_checks.are_sound_files.Given as goal

-- All files are sound if those from the place of the loop on are, after the last one.
abbrev pub invariant-loop-file : goal.invariant-loop-file
invariant-loop-file l =
    AreSoundFrom (state_of l.state) l.last (contents_files_of (drop l.file-index l.files)) ↔ AreSoundFrom (state_of l.state) 0 (contents_files_of l.files)
