-- What stays of a map while files are moved within it, and what is put into it.
use Rattle.std.specs.Prelude.{◌≡◌, ◌≢◌, ℕ, ◌+◌, Bool, ◌&&◌, nat_le, [], ◌∷◌, ◌++◌, length, Option}
use Rattle.std.specs.Prelude.{Some, None, if◌then◌else◌}
use Rattle.std.specs.List.{list_any, list_all}
use Rattle.std.specs.FinMap as finmap
use Rattle.std.specs.FinMap.Entries.{put}
use Rattle.git_paths.specs.Order.{path_cmp}
use Rattle.git_paths.specs.Paths.{IsPath, is_within_limits}
use Rattle.git_model.specs.declared.file_mode.FileMode.TheVariants as mode
use Rattle.git_model.specs.Limits.{files_limit}
use Rattle.git_model.specs.ObjectName.{IsObjectName}
use Rattle.file_maps.specs.declared.entry.Entry.{Entry}
use Rattle.file_maps.specs.declared.fault.Fault.{Fault}
use Rattle.file_maps.specs.declared.fault.Fault.TheVariants as fault
use Rattle.file_maps.specs.FileMap.{Path, Listed, FileMap, is_apart}
use Rattle.file_maps.specs.Edits.{is_outside, is_root, with_files}

-- The source is removed where there is one, and the destination is replaced.
abbrev pub stays : Option Path → Path → Path → Bool
stays None to q = is_apart to q
stays (Some from) to q = is_outside from q && is_apart to q

-- The map with files in place of what does not stay.
abbrev pub replaced : Option Path → Path → Listed → FileMap → FileMap
replaced from to files m = with_files (finmap.retain_keys m (stays from to)) files

-- Files put one by one into those of a map, each at its place in the order.
abbrev pub put_all : Listed → Listed → Listed
put_all held [] = held
put_all held (f ∷ files) = put path_cmp f.0 f.1 (put_all held files)

-- A file that is to be put at or below a path, whose own path and entry are sound.
pub record IsBelow (to : Path) (f : Path × Entry) : Type 0 where
  pub rest : Path
  pub below : f.0 ≡ to ++ rest
  pub path : IsPath f.0
  pub mode : f.1.mode ≢ mode.Directory
  pub name : IsObjectName f.1.name

-- Why files cannot be put beside so many others.
abbrev pub refusal_beside : ℕ → Listed → Option Fault
refusal_beside staying files =
    if list_any (λ f. is_root f.0) files then Some fault.RootNotDirectory
    else if list_all (λ f. is_within_limits f.0) files
    && nat_le (staying + length files) files_limit
    then None else Some fault.Limit
