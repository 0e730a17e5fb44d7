-- The file of one blob `ab`, held by the tenant `t`, in version 1 and under the naming by the tail.
use Rattle.std.proofs.Common.{◌≡◌, ℕ, List, [], ◌∷◌, ◌++◌, length, take, drop, Ok, Err, refl}
use Rattle.std.specs.Prelude.{replicate}
use Rattle.git_model.specs.RefStore.{first_head}
use Rattle.git_names.specs.Naming.{tail_digest}
use Rattle.pool_file_format.specs.declared.refusal.Refusal.TheVariants as refusal
use Rattle.pool_file_format.specs.Format.{RawFile, raw_text}
use Rattle.pool_file_format.specs.Lengths.{by_lengths, body_at, bytes_at, number_at, sized_at, many_at, counted_at, byte_at, object_at, ref_at, head_at, tenant_at, expected_at, front_at, version_at, end_at}

abbrev one_blob : RawFile
one_blob = record {
  version = 1;
  objects = record { kind = 3; bytes = 0x61 ∷ 0x62 ∷ [] } ∷ [];
  tenants = record { name = 0x74 ∷ []; numbers = 0 ∷ []; refs = []; head = first_head } ∷ [];
}

abbrev zeros : ℕ → List ℕ
zeros n = replicate n 0

abbrev body : List ℕ
body = 0x67 ∷ 0x69 ∷ 0x74 ∷ 0x70 ∷ 0x6f ∷ 0x6f ∷ 0x6c ∷ 0x0a ∷ zeros 3 ++ (1 ∷ zeros 7 ++ (1 ∷ 3 ∷ zeros 7 ++ (2 ∷ 0x61 ∷ 0x62 ∷ zeros 7
    ++ (1 ∷ 0 ∷ 1 ∷ 0x74 ∷ zeros 7 ++ (1 ∷ zeros 16)))))

abbrev whole : List ℕ
whole = body ++ (replicate 19 0xab ++ 0x49 ∷ [])

has_66_bytes : length body ≡ 66
has_66_bytes = refl

is_its_text : raw_text tail_digest one_blob ≡ whole
is_its_text = refl

is_read : by_lengths whole ≡ Ok ((one_blob, replicate 19 0xab ++ 0x49 ∷ []), [])
unfolding by_lengths body_at bytes_at number_at sized_at many_at counted_at byte_at object_at ref_at head_at tenant_at expected_at front_at version_at end_at
is_read = refl

-- Without its last byte it is cut off.
lacks_one : by_lengths (take 85 whole) ≡ Err refusal.CutOff
unfolding by_lengths body_at bytes_at number_at sized_at many_at counted_at byte_at object_at ref_at head_at tenant_at expected_at front_at version_at end_at
lacks_one = refl

-- As a file of version 2 it lacks the HEAD's length.
in_version_2 : by_lengths (take 11 whole ++ 2 ∷ drop 12 whole) ≡ Err refusal.CutOff
unfolding by_lengths body_at bytes_at number_at sized_at many_at counted_at byte_at object_at ref_at head_at tenant_at expected_at front_at version_at end_at
in_version_2 = refl

-- The first bytes are looked at one by one.
git_x : by_lengths (0x67 ∷ 0x69 ∷ 0x74 ∷ 0x78 ∷ []) ≡ Err refusal.NoPoolFile
unfolding by_lengths body_at byte_at expected_at front_at
git_x = refl

git_p : by_lengths (0x67 ∷ 0x69 ∷ 0x74 ∷ 0x70 ∷ []) ≡ Err refusal.CutOff
unfolding by_lengths body_at byte_at expected_at front_at
git_p = refl

-- One byte more stands after the digest.
has_one_more : by_lengths (whole ++ 0 ∷ []) ≡ Err refusal.TrailingBytes
unfolding by_lengths body_at bytes_at number_at sized_at many_at counted_at byte_at object_at ref_at head_at tenant_at expected_at front_at version_at end_at
has_one_more = refl
