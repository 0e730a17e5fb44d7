-- How a content is held. No public clause cites this module.
use Rattle.std.specs.Prelude.{ℕ, List}
use Rattle.content_pool.specs.declared.bytes.Held.{Held}
use Rattle.content_pool.specs.declared.bytes.Held.TheVariants as held

-- The bytes, owned or lent.
abbrev pub bytes_of : Held → List ℕ
bytes_of (held.Owned items) = items.items
bytes_of (held.Lent lent) = lent.now
