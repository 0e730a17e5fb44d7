use Rattle.std.proofs.Common.{◌≡◌, ◌∙◌}
use Rattle.git_paths.specs.Paths.{joined, joined_both}
use Rattle.git_paths.proofs.Below.{components_of-both, test-both}
use Rattle.git_paths.proofs.path.Path.join.Goals as goal

pub of-requires : goal.of-requires
of-requires c =
    let bytes = c.in_ok-join_bytes.field-0.items in
    let is : bytes ≡ joined_both (joined c.args.self.now) (joined c.args.rest.now) =
    rw (← c.as_bytes.ensures.bytes, ← c.as_bytes-2.ensures.bytes) c.in_ok-join_bytes.ensures in
    test-both bytes c.args.self.now c.args.rest.now c.as_bytes.ensures.path c.as_bytes-2.ensures.path is

pub returns : goal.returns
returns c =
    let bytes = c.in_ok-join_bytes.field-0.items in
    let is : bytes ≡ joined_both (joined c.args.self.now) (joined c.args.rest.now) =
    rw (← c.as_bytes.ensures.bytes, ← c.as_bytes-2.ensures.bytes) c.in_ok-join_bytes.ensures in
    c.of.ensures.value
    ∙ components_of-both bytes c.args.self.now c.args.rest.now c.as_bytes.ensures.path c.as_bytes-2.ensures.path is
