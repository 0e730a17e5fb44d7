use Rattle.std.proofs.Common.{◌≡◌, sym, ◌∙◌, rules}
use Rattle.std.specs.List.{count_by}
use Rattle.git_paths.specs.Paths.{is_slash}
use Rattle.git_paths.proofs.Joined.{length-components_of}
use Rattle.git_paths.proofs.judging.count_components.Goals as goal

pub returns : goal.returns
returns c =
    let slashes : c.count.result ≡ count_by is_slash c.args.bytes.now = search rules in
    rw slashes (sym (length-components_of c.args.bytes.now (sym c.is_empty.ensures ∙ c.if-is_empty.false)))
