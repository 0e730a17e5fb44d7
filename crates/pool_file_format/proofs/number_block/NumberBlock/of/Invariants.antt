use Rattle.std.proofs.Common.{◌≡◌, ◌*◌, length, take}
use Rattle.std.specs.List.{flat_map}
use Rattle.pool_file_format.specs.Format.{number_text}
use Rattle.pool_file_format.proofs.number_block.NumberBlock.of.Given as goal

-- The block has the texts of all numbers before the place of the loop.
abbrev pub invariant-loop-number : goal.invariant-loop-number
invariant-loop-number l = (l.block ≡ flat_map number_text (take l.number-index l.numbers)) × (length l.block ≡ 8 * l.number-index)
