-- Objects as the entries of a pack, one after another.
use Rattle.std.specs.Prelude.{◌≡◌, ℕ, ◌-◌, nat_le, List, ◌++◌, length, filter_map, Option, None, Some, Result, Ok, Err, if◌then◌else◌, true, false}
use Rattle.std.specs.List.{flat_map}
use Rattle.git_model.specs.Content.{Content}
use Rattle.git_model.specs.Repository.{Object, object_named}
use Rattle.missing_objects.specs.Missing.{has_all}
use Rattle.pack_text.specs.PackText.{entry_text}
use Rattle.pack_objects.specs.declared.fault.PackFault.{PackFault}
use Rattle.pack_objects.specs.declared.fault.PackFault.TheVariants as fault

-- The contents of the objects of these names, in the order of the names.
abbrev pub contents_of : List Object → List (List ℕ) → List Content
contents_of os names = filter_map (λ id. object_named id os) names

-- The entries of the objects of these names.
abbrev pub entries_text : List Object → List (List ℕ) → List ℕ
entries_text os names = flat_map entry_text (contents_of os names)

-- What is left of so many bytes after a text, if the text is not longer.
abbrev pub left_after : Option ℕ → List ℕ → Option ℕ
left_after None text = None
left_after (Some left) text =
    if nat_le (length text) left then Some (left - length text) else None

-- What is appended where memory suffices: every name must be that of an object, and the entries
-- must not be longer than the limit.
abbrev pub entries_asked : List Object → List (List ℕ) → ℕ → Result (List ℕ) PackFault
entries_asked os names limit =
    if has_all os names then
    (if nat_le (length (entries_text os names)) limit then Ok (entries_text os names)
    else Err fault.Limit)
    else Err fault.UnknownObject

-- A refusal is answered as it is, and nothing is appended. What is not refused is appended, or
-- memory runs out and nothing is.
abbrev pub AppendsAnswer : Result (List ℕ) PackFault → List ℕ → Result Unit PackFault → List ℕ
    → Type 0
AppendsAnswer (Err refusal) old result new = (result ≡ Err refusal) × (new ≡ old)
AppendsAnswer (Ok text) old (Ok u) new = new ≡ old ++ text
AppendsAnswer (Ok text) old (Err refusal) new = (refusal ≡ fault.Memory) × (new ≡ old)

-- Every name is that of an object, and this is left of the limit; or one is not.
abbrev pub Measures : List Object → List (List ℕ) → ℕ → Result (Option ℕ) PackFault → Type 0
Measures os names limit (Ok left) = (has_all os names ≡ true)
    × (left ≡ left_after (Some limit) (entries_text os names))
Measures os names limit (Err refusal) =
    (has_all os names ≡ false) × (refusal ≡ fault.UnknownObject)
