-- Which contents an entry has room for.
use Rattle.std.specs.Prelude.{◌<◌, ◌^◌, length}
use Rattle.git_model.specs.Content.{Content}

-- An entry has room for the size of the contents. A slice always has fewer bytes than this, and the
-- contents of an object of this service far fewer.
abbrev pub FitsEntry : Content → Type 0
FitsEntry content = length content.bytes < 2 ^ 64
