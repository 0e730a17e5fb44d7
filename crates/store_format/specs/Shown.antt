-- Values of the code as values of the definitions.
use Rattle.std.specs.Prelude.{◌≡◌, ℕ, List, Option, map, option_map, Result, Ok, Err}
use Rattle.std.specs.Borrow.{Bor}
use Rattle.pool_file_format.specs.declared.refusal.Refusal.{Refusal}
use Rattle.pool_file_format.specs.declared.fault.Fault.{Fault}
use Rattle.pool_file_format.specs.declared.fault.Fault.TheVariants as fault
use Rattle.pool_file_format.specs.Taking.{Fails}
use Rattle.store_format.specs.declared.state.ContentsFile.{ContentsFile as CodeContentsFile}
use Rattle.store_format.specs.declared.state.Listing.{Listing as CodeListing}
use Rattle.store_format.specs.declared.state.State.{State as CodeState}
use Rattle.store_format.specs.declared.row.Summary.{Summary as CodeSummary}
use Rattle.store_format.specs.declared.row.Row.{Row as CodeRow}
use Rattle.store_format.specs.declared.tenant_record.RefChange.{RefChange as CodeRefChange}
use Rattle.store_format.specs.declared.tenant_record.TenantRecord.{TenantRecord as CodeTenantRecord}
use Rattle.pool_file_format.specs.Format.{RawObject}
use Rattle.store_format.specs.declared.contents.LentFile.{LentFile}
use Rattle.store_format.specs.State.{ContentsFile, Listing, State}
use Rattle.store_format.specs.Rows.{Summary, Row}
use Rattle.store_format.specs.Records.{RefChange, TenantRecord}
use Rattle.store_format.specs.Saying.{Numbered}

-- What a call answers is what the reading answers, unless memory ran out.
abbrev pub Gives : {X Y : Type 0} → (X → Y) → Result X Fault → Result Y Refusal → Type 0
Gives view (Ok x) read = read ≡ Ok (view x)
Gives view (Err e) read = Fails e read

-- A call answers Ok if a condition holds, and this refusal if it does not.
abbrev pub Requires : Type 0 → Refusal → Result Unit Fault → Type 0
Requires Condition refusal (Ok u) = Condition
Requires Condition refusal (Err e) = (e ≡ fault.Refused refusal) × ¬ Condition

abbrev pub contents_file_of : CodeContentsFile → ContentsFile
contents_file_of c = record { number = c.number; size = c.size }

abbrev pub contents_files_of : List CodeContentsFile → List ContentsFile
contents_files_of cs = map contents_file_of cs

abbrev pub listing_of : CodeListing → Listing
listing_of l = record { number = l.number; count = l.count; size = l.size; chain = l.chain }

abbrev pub state_of : CodeState → State
state_of s = record {
  generation = s.generation;
  next = s.next;
  contents = contents_files_of s.contents.items;
  rows = listing_of s.rows;
  tenants = listing_of s.tenants;
}

abbrev pub sizes_of : CodeSummary → Summary
sizes_of s = record { files = s.files; depth = s.depth; longest = s.longest }

abbrev pub summary_of : Option CodeSummary → Option Summary
summary_of s = option_map sizes_of s

abbrev pub row_of : CodeRow → Row
row_of r = record {
  id = r.id;
  kind = r.kind;
  file = r.file;
  offset = r.offset;
  size = r.size;
  summary = summary_of r.summary;
}

abbrev pub rows_of : List CodeRow → List Row
rows_of rs = map row_of rs

abbrev pub change_of : CodeRefChange → RefChange
change_of c = record { name = c.name.items; target = c.target }

abbrev pub changes_of : List CodeRefChange → List RefChange
changes_of cs = map change_of cs

abbrev pub record_of : CodeTenantRecord → TenantRecord
record_of r = record {
  name = r.name.items;
  base = r.base;
  shared = r.shared;
  numbers = r.numbers.items;
  changes = changes_of r.changes.items;
  head = r.head.items;
}

abbrev pub records_of : List CodeTenantRecord → List TenantRecord
records_of rs = map record_of rs

-- Files of contents whose bytes are lent, under their numbers.
abbrev pub numbered_of : List LentFile → List Numbered
numbered_of fs = map (λ f. (f.number, f.bytes.now)) fs

-- The object of this kind with these contents.
abbrev pub raw_object_of : ℕ → List ℕ → RawObject
raw_object_of kind bytes = record { kind = kind; bytes = bytes }

-- Refs whose names are lent, each with the position of its target.
abbrev pub lent_refs_of : List (Bor (List ℕ) × ℕ) → List (List ℕ × ℕ)
lent_refs_of refs = map (λ e. (e.0.now, e.1)) refs
