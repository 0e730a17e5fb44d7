use Rattle.std.proofs.Common.{◌+◌, ◌*◌, ◌%◌, ℕ, arith, length, ap}
use Rattle.std.proofs.lemmas.List.{length-append}
use Rattle.pack_text.specs.Adler.{adler32}
use Rattle.pack_text.specs.PackText.{blocks_text, head_text, number_of, zlib_text}
use Rattle.std.specs.Int.{w32, to_be_bytes}
use Rattle.pack_text.proofs.Blocks.{blocks-length}
use Rattle.pack_text.proofs.entry_length.entry_len.Goals as goal

pub returns : goal.returns
returns c = λ content size small.
    let n = length content.bytes in
    let blocks = blocks_text n content.bytes in
    let sum = to_be_bytes w32 (adler32 content.bytes) in
    let head = c.rest_len-head.ensures.length (number_of content.kind * 16 + n % 16) in
    let at = ap (λ (m : ℕ). length (head_text content.kind m)) size in
    let all = length-append (head_text content.kind n) (zlib_text content.bytes) in
    let body = length-append blocks sum in
    omega (
      arith,
      all,
      body,
      blocks-length content.bytes,
      head,
      at,
      size,
      c.saturating_sub.ensures,
      c.saturating_add.ensures,
      small,
    )
