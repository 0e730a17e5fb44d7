use Rattle.std.proofs.Common.{rules}
use Rattle.git_names.proofs.sha1_naming.Sha1NamingNaming.digest_parts.Goals as goal

pub returns : goal.returns
returns c = search rules
