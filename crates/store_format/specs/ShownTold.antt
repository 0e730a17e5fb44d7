-- What a record tells: the value of the code as a value of the definitions.
use Rattle.std.specs.Prelude.{◌≡◌, List, map, Result, Ok, Err}
use Rattle.std.specs.Borrow.{Bor}
use Rattle.pool_file_format.specs.declared.refusal.Refusal.{Refusal}
use Rattle.pool_file_format.specs.declared.fault.Fault.{Fault}
use Rattle.pool_file_format.specs.Taking.{Fails}
use Rattle.store_format.specs.declared.tenant_record.TenantRecord.{TenantRecord as CodeTenantRecord}
use Rattle.store_format.specs.declared.told.Told.{Told as CodeTold}
use Rattle.store_format.specs.Records.{TenantRecord}
use Rattle.store_format.specs.Saying.{Told}
use Rattle.store_format.specs.Shown.{record_of}
use Rattle.store_format.specs.Telling.{nothing_told, told_upon}

abbrev pub told_of : CodeTold → Told
told_of t = record {
  name = t.name.now;
  numbers = t.numbers.items;
  refs = t.refs;
  head = t.head.now;
}

abbrev pub lent_records_of : List (Bor CodeTenantRecord) → List TenantRecord
lent_records_of rs = map (λ r. record_of r.now) rs

-- The records that a call answers, told one upon the other, tell what is asked for. If it refuses,
-- that is refused.
abbrev pub Leads : {X : Type 0} → (X → List TenantRecord) → Result X Fault → Result Told Refusal
    → Type 0
Leads view (Ok x) told = told_upon (Ok nothing_told) (view x) ≡ told
Leads view (Err e) told = Fails e told
