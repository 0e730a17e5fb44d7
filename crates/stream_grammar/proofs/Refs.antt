-- What reading a ref name gives, by the rules of ref names.
use Rattle.std.proofs.Common.{◌≡◌, ◌≤◌, ◌<◌, ℕ, false, List, length, Ok, Err, refl}
use Rattle.std.proofs.lemmas.Bool.{le-leb, lt-leb, false_from_ne_true}
use Rattle.git_names.specs.StoredName.{NamesRef, names_ref}
use Rattle.git_names.proofs.StoredNames.{names_ref-Decides}
use Rattle.stream_grammar.specs.declared.fault.Fault.TheVariants as fault
use Rattle.stream_grammar.specs.Names.{ref_of}

names_ref-no : (text : List ℕ) → ¬ NamesRef text → names_ref text ≡ false
names_ref-no text unnamed =
    false_from_ne_true _ (λ is. unnamed ((names_ref-Decides text).0 is))

pub ref_of-Ok : (text : List ℕ) → NamesRef text → length text ≤ 1024 → ref_of text ≡ Ok text
unfolding ref_of
ref_of-Ok text named short =
    rw ((names_ref-Decides text).1 named, le-leb (length text) 1024 short) refl

pub ref_of-bad : (text : List ℕ) → ¬ NamesRef text → ref_of text ≡ Err fault.BadRefName
unfolding ref_of
ref_of-bad text unnamed = rw (names_ref-no text unnamed) refl

pub ref_of-long : (text : List ℕ) → NamesRef text → 1024 < length text
    → ref_of text ≡ Err fault.Limit
unfolding ref_of
ref_of-long text named long =
    rw ((names_ref-Decides text).1 named, lt-leb (length text) 1024 long) refl
