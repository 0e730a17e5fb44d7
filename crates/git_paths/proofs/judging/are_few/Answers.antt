use Rattle.std.proofs.Common.{refl, arith, length}
use Rattle.std.proofs.lemmas.Bool.{le-leb, lt-leb, lt-ltb}
use Rattle.git_paths.specs.Paths.{components_of}
use Rattle.git_paths.proofs.Joined.{joined-components_of, length-components_of-le}
use Rattle.git_paths.proofs.judging.are_few.Goals as goal

pub returns-then-bytes-lt-MOST_COMPONENTS : goal.returns-then-bytes-lt-MOST_COMPONENTS
returns-then-bytes-lt-MOST_COMPONENTS c =
    let few = c.if-bytes-lt-MOST_COMPONENTS.true in
    let parts = length-components_of-le c.args.bytes.now in
    rw (joined-components_of c.args.bytes.now, lt-ltb _ _ few, le-leb (length c.args.bytes.now) 16383 (omega (arith, few)), le-leb (length (components_of c.args.bytes.now)) 256 (omega (arith, few, parts))) refl

pub returns-then-bytes-le-MOST_BYTES : goal.returns-then-bytes-le-MOST_BYTES
returns-then-bytes-le-MOST_BYTES c =
    rw (joined-components_of c.args.bytes.now, c.count_components.ensures, le-leb _ _ c.if-bytes-le-MOST_BYTES.true) refl

pub returns-else-bytes-le-MOST_BYTES : goal.returns-else-bytes-le-MOST_BYTES
returns-else-bytes-le-MOST_BYTES c =
    rw (joined-components_of c.args.bytes.now, lt-leb _ _ c.if-bytes-le-MOST_BYTES.false) refl
