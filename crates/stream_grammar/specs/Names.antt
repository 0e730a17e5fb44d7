-- The names in a line: refs, idents and commit-ishes; git-fast-import(1), "commit", "from", "tag".
use Rattle.std.specs.Prelude.{ℕ, ◌++◌, nat_le, if◌then◌else◌, List, length, Option, Some, None, Result, Ok, Err, codes}
use Rattle.git_model.specs.Limits.{ref_name_limit}
use Rattle.git_model.specs.IdentReading.{BadIdent, BadIdentity, BadDate, read_ident}
use Rattle.git_names.specs.StoredName.{names_ref}
use Rattle.stream_grammar.specs.declared.fault.Fault.{Fault}
use Rattle.stream_grammar.specs.declared.fault.Fault.TheVariants as fault
use Rattle.stream_grammar.specs.Texts.{read, after_colon, idnum_of}

-- A ref is a ref name or `HEAD`, of at most 1,024 bytes: <ref>
unfoldable pub ref_of : List ℕ → Result (List ℕ) Fault
ref_of text =
    if names_ref text
    then (if nat_le (length text) ref_name_limit then Ok text else Err fault.Limit)
    else Err fault.BadRefName

-- The ref of a tag's name: <name>
abbrev pub tag_ref_of : List ℕ → Result (List ℕ) Fault
tag_ref_of name = ref_of (codes "refs/tags/" ++ name)

-- An ident as objects hold it, or what is wrong with it: (<name> SP)? '<' <email> '>' SP <when>
abbrev pub ident_judged : Result (List ℕ) BadIdent → Result (List ℕ) Fault
ident_judged (Ok ident) = Ok ident
ident_judged (Err BadIdentity) = Err fault.BadIdentity
ident_judged (Err BadDate) = Err fault.BadDate

-- A text as an ident.
abbrev pub ident_of : List ℕ → Result (List ℕ) Fault
ident_of text = ident_judged (read_ident text)

-- A commit-ish is a mark, or words that the importer looks up: <commit-ish>
pub data CommitIsh : Type 0 where
  Marked : ℕ → CommitIsh
  Expression : List ℕ → CommitIsh

-- A text that begins with a colon is a mark.
abbrev pub commit_at : List ℕ → Option (List ℕ) → Result CommitIsh Fault
commit_at text None = Ok (Expression text)
commit_at text (Some digits) = read (idnum_of digits) (λ mark. Ok (Marked mark))

-- A text as a commit-ish: a mark after a colon, or an expression.
abbrev pub commit_ish_of : List ℕ → Result CommitIsh Fault
commit_ish_of text = commit_at text (after_colon text)
