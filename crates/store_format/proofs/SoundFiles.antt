-- Files of contents that are sound, one by one.
use Rattle.std.proofs.Common.{ℕ, ◌+◌, ◌<◌, ◌↔◌, List, length, drop, get_or}
use Rattle.std.proofs.lemmas.List.{drop_more}
use Rattle.store_format.specs.declared.state.ContentsFile.{ContentsFile as CodeContentsFile}
use Rattle.store_format.specs.State.{State}
use Rattle.store_format.specs.Sound.{IsSoundFile, AreSoundFrom}
use Rattle.store_format.specs.Shown.{contents_file_of, contents_files_of}

pub sound_more : (s : State) (last : ℕ) (files : List CodeContentsFile) (i : ℕ) (d : CodeContentsFile) → i < length files
    → AreSoundFrom s last (contents_files_of (drop i files))
    ↔ (IsSoundFile s last (contents_file_of (get_or files i d)) × AreSoundFrom s (get_or files i d).number (contents_files_of (drop (i + 1) files)))
sound_more s last files i d lt = rw (drop_more files i d lt) ((λ x. x), (λ x. x))
