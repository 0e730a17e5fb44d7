-- Values of the code as values of the definitions.
use Rattle.std.specs.Prelude.{ℕ, List, map}
use Rattle.pool_file_format.specs.declared.raw.RawObject.{RawObject as Object}
use Rattle.pool_file_format.specs.declared.raw.RawRef.{RawRef as Ref}
use Rattle.pool_file_format.specs.declared.raw.RawTenant.{RawTenant as Tenant}
use Rattle.pool_file_format.specs.declared.raw.RawFile.{RawFile as File}
use Rattle.pool_file_format.specs.declared.listed.LentObject.{LentObject}
use Rattle.pool_file_format.specs.declared.listed.Listed.{Listed}
use Rattle.pool_file_format.specs.Format.{RawObject, RawRef, RawTenant, RawFile, body_text}

abbrev pub object_of : Object → RawObject
object_of o = record { kind = o.kind; bytes = o.bytes }

abbrev pub objects_of : List Object → List RawObject
objects_of os = map object_of os

abbrev pub ref_of : Ref → RawRef
ref_of r = record { name = r.name.items; place = r.place }

abbrev pub refs_of : List Ref → List RawRef
refs_of rs = map ref_of rs

abbrev pub tenant_of : Tenant → RawTenant
tenant_of t = record {
  name = t.name.items;
  numbers = t.numbers.items;
  refs = refs_of t.refs.items;
  head = t.head.items;
}

abbrev pub tenants_of : List Tenant → List RawTenant
tenants_of ts = map tenant_of ts

abbrev pub file_of : File → RawFile
file_of f = record {
  version = f.version;
  objects = objects_of f.objects.items;
  tenants = tenants_of f.tenants.items;
}

-- An object whose contents are lent.
abbrev pub lent_object_of : LentObject → RawObject
lent_object_of o = record { kind = o.kind; bytes = o.bytes.now }

-- A file whose lists are lent; `object_of` says what each of its objects is.
abbrev pub listed_file : {O : Type 0} → (O → RawObject) → Listed O → RawFile
listed_file object_of f = record {
  version = f.version;
  objects = map object_of f.objects.now;
  tenants = tenants_of f.tenants.now;
}

-- All bytes before the digest of a file whose lists are lent.
unfoldable pub listed_text : {O : Type 0} → (O → RawObject) → Listed O → List ℕ
listed_text object_of f = body_text (listed_file object_of f)

-- A file of version 2 whose objects' contents are lent.
abbrev pub lent_file : List LentObject → List Tenant → RawFile
lent_file objects tenants = record {
  version = 2;
  objects = map lent_object_of objects;
  tenants = tenants_of tenants;
}
