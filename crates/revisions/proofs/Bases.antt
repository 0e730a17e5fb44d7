-- What a base names, case by case.
use Rattle.std.proofs.Common.{◌≡◌, ℕ, true, false, List, Result, Ok, Err, refl}
use Rattle.std.specs.Prelude.{◌≢◌}
use Rattle.hex.specs.declared.error.FromHexError.{FromHexError}
use Rattle.hex.specs.Hex.{decode_sized}
use Rattle.git_model.specs.RefStore.{RefStore, target_of}
use Rattle.git_model.specs.Repository.{Object}
use Rattle.revisions.specs.declared.fault.Fault.TheVariants as fault
use Rattle.git_model.specs.Results.{or_fault}
use Rattle.revisions.specs.Resolution.{is_head, if_there, ref_meant_by, ref_or_abbreviation, digits_or_ref, base_named}

pub base-head : (os : List Object) (store : RefStore) (base : List ℕ) → is_head base ≡ true
    → base_named os store base ≡ or_fault fault.UnknownRevision (target_of store store.head)
unfolding base_named
base-head os store base e = rw e refl

pub base-digits : (os : List Object) (store : RefStore) (base id : List ℕ) → is_head base ≡ false
    → decode_sized base 20 ≡ Ok id → base_named os store base ≡ if_there os id
unfolding base_named
base-digits os store base id e digits = rw (e, digits) refl

no_digits : (os : List Object) (store : RefStore) (base : List ℕ) (r : Result (List ℕ) FromHexError)
    → ((id : List ℕ) → r ≢ Ok id)
    → digits_or_ref os store base r ≡ ref_or_abbreviation os base (ref_meant_by store base)
no_digits os store base (Ok id) none = absurd (none id refl)
no_digits os store base (Err e) none = refl

pub base-other : (os : List Object) (store : RefStore) (base : List ℕ) → is_head base ≡ false
    → ((id : List ℕ) → decode_sized base 20 ≢ Ok id)
    → base_named os store base ≡ ref_or_abbreviation os base (ref_meant_by store base)
unfolding base_named
base-other os store base e none = rw e (no_digits os store base (decode_sized base 20) none)
