use Rattle.std.proofs.Common.{◌<◌, arith}
use Rattle.git_model.specs.declared.kind.Kind.{Kind}
use Rattle.git_model.specs.declared.kind.Kind.TheVariants as kind
use Rattle.store_format.specs.Rows.{kind_byte}
use Rattle.store_format.proofs.laws.a_held_object_has_a_row.Goals as goal

is_byte : (k : Kind) → kind_byte k < 256
is_byte kind.Commit = omega arith
is_byte kind.Tree = omega arith
is_byte kind.Blob = omega arith
is_byte kind.Tag = omega arith

pub returns : goal.returns
returns c = λ digest o file offset summary held in_file in_offset fits.
    let short = held.short in
    record { id = held.name.size; kind = is_byte o.content.kind; file = in_file; offset = in_offset; size = omega arith; summary = fits }
