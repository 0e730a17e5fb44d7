-- Both digests give object names.
use Rattle.std.proofs.Common.{◌≡◌, ◌<◌, ℕ, zero, suc, List, [], ◌∷◌, length, refl, arith, ◌%◌, All, replicate, sum}
use Rattle.std.specs.Int.{byte_at, bytes_high_first}
use Rattle.std.proofs.Math.Nat.{mod-lt}
use Rattle.std.proofs.lemmas.List.Elements.{All-nil, All-cons, All-append, All-replicate}
use Rattle.sha1.specs.Sha1.{sha1, digest_bytes}
use Rattle.git_names.specs.Naming.{AnswersNames, tail_digest}

abbrev IsByte : ℕ → Type 0
IsByte byte = byte < 256

byte_of : (place n : ℕ) → IsByte (byte_at place n)
byte_of zero n = mod-lt n (omega arith)
byte_of (suc place) n = mod-lt _ (omega arith)

bytes_of : (count n : ℕ) → All IsByte (bytes_high_first count n)
bytes_of zero n = All-nil IsByte
bytes_of (suc count) n = All-cons IsByte _ _ (byte_of count n) (bytes_of count n)

digest_bytes_of : (hash : List ℕ) (words : ℕ) → All IsByte (digest_bytes hash words)
unfolding digest_bytes
digest_bytes_of hash zero = All-nil IsByte
digest_bytes_of hash (suc words) =
    All-append IsByte _ _ (digest_bytes_of hash words) (bytes_of 4 _)

twenty : (hash : List ℕ) → length (digest_bytes hash 5) ≡ 20
unfolding digest_bytes
twenty hash = refl

pub sha1_answers_names : AnswersNames sha1
unfolding sha1
sha1_answers_names message = record { size = twenty _; bytes = digest_bytes_of _ 5 }

last : (message : List ℕ) → All IsByte (sum message % 256 ∷ [])
last message =
    All-cons IsByte (sum message % 256) [] (mod-lt (sum message) (omega arith)) (All-nil IsByte)

pub tail_answers_names : AnswersNames tail_digest
tail_answers_names message = record {
  size = refl;
  bytes = All-append IsByte (replicate 19 0xab) (sum message % 256 ∷ [])
      (All-replicate IsByte 19 0xab (omega arith)) (last message);
}
