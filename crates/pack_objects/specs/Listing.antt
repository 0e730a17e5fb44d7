-- Missing objects as bytes.
use Rattle.std.specs.Prelude.{ℕ, List, ◌∷◌, ◌++◌}
use Rattle.std.specs.Int.{w64, to_be_bytes}
use Rattle.std.specs.List.{flat_map}
use Rattle.pack_text.specs.PackText.{number_of}
use Rattle.pack_objects.specs.declared.missing_object.MissingObject.{MissingObject}

-- 29 bytes: the name, the kind as in a pack, and the size.
abbrev pub record_text : MissingObject → List ℕ
record_text o = o.id ++ number_of o.kind ∷ to_be_bytes w64 o.size

abbrev pub listing_text : List MissingObject → List ℕ
listing_text objects = flat_map record_text objects
