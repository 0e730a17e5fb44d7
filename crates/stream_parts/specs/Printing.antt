-- What is printed of an object, and what a call that prints a line answers and leaves.
use Rattle.std.specs.Prelude.{◌≡◌, ◌≢◌, ℕ, List, ◌++◌, Result, Ok, Err, codes}
use Rattle.stream_parts.specs.declared.fault.Fault.{Fault}
use Rattle.stream_parts.specs.declared.fault.Fault.TheVariants as fault
use Rattle.std.specs.Prelude.{ℕ, List, ◌++◌, length, Option, None, Some, Result, Ok, Err, codes, decimal}
use Rattle.hex.specs.Hex.{encode_lower}
use Rattle.git_model.specs.declared.kind.Kind.{Kind}
use Rattle.git_model.specs.declared.kind.Kind.TheVariants as kind
use Rattle.git_model.specs.Content.{Content}

-- The line is appended to the text, with its line end; or the refusal is answered, and the text is
-- unchanged. `Memory` may take the place of either.
abbrev pub Shows : Result (List ℕ) Fault → List ℕ → List ℕ → Result Unit Fault → Type 0
Shows (Ok line) old new (Ok u) = new ≡ old ++ line ++ codes "\n"
Shows (Ok line) old new (Err e) = (e ≡ fault.Memory) × (new ≡ old)
Shows (Err refusal) old new (Ok u) = ⊥
Shows (Err refusal) old new (Err e) = (e ≢ fault.Memory → e ≡ refusal) × (new ≡ old)

-- 'cat-blob': the name, the kind and the size of a blob, and then its bytes. An object that the
-- repository does not have is missing, and one that is no blob is refused.
abbrev pub blob_text : List ℕ → List ℕ → List ℕ
blob_text id bytes =
    encode_lower id ++ codes " blob " ++ decimal (length bytes) ++ codes "\n" ++ bytes

-- A blob is shown, and nothing else.
abbrev pub shown_content : List ℕ → Kind → List ℕ → Result (List ℕ) Fault
shown_content id kind.Blob bytes = Ok (blob_text id bytes)
shown_content id _ bytes = Err fault.WrongKind

-- An object that is missing is named so.
abbrev pub shown_object : List ℕ → Option Content → Result (List ℕ) Fault
shown_object id None = Ok (encode_lower id ++ codes " missing")
shown_object id (Some content) = shown_content id content.kind content.bytes
