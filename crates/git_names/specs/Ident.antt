-- What the calls on idents answer.
use Rattle.std.specs.Prelude.{◌≡◌, ℕ, List, Option, None, Some, Result, Ok, Err}
use Rattle.git_model.specs.Ident.{written_ident}
use Rattle.git_model.specs.IdentReading.{BadIdent, read_ident}
use Rattle.git_model.specs.IdentReading as reading
use Rattle.git_names.specs.declared.ident_fault.IdentFault.{IdentFault}
use Rattle.git_names.specs.declared.ident_fault.IdentFault.TheVariants as fault

-- The number of each fault.
abbrev pub code_of : IdentFault → ℕ
code_of fault.BadIdentity = 21
code_of fault.BadDate = 22
code_of fault.Memory = 90

-- A call answers what reading gives. It answers `Memory` only if there is an ident to keep.
abbrev pub Answers : Result (List ℕ) IdentFault → Result (List ℕ) BadIdent → Type 0
Answers (Ok ident) read = read ≡ Ok ident
Answers (Err fault.BadIdentity) read = read ≡ Err reading.BadIdentity
Answers (Err fault.BadDate) read = read ≡ Err reading.BadDate
Answers (Err fault.Memory) read = (ident : List ℕ) × (read ≡ Ok ident)

-- What is wrong with a text, if anything. This is never `Memory`.
abbrev pub IsFaultOf : List ℕ → Option IdentFault → Type 0
IsFaultOf text None = read_ident text ≡ Ok (written_ident text)
IsFaultOf text (Some fault.BadIdentity) = read_ident text ≡ Err reading.BadIdentity
IsFaultOf text (Some fault.BadDate) = read_ident text ≡ Err reading.BadDate
IsFaultOf text (Some fault.Memory) = ⊥
