-- The subcommands of `gitpool` and what each takes: gitcli(7), as `clap` is told it.
use Rattle.std.specs.Prelude.{◌≡◌, List, [], ◌∷◌, ◌++◌, Some, Result, IfOk, codes, true, false}
use Rattle.std.specs.declared.alloc.AllocError.{AllocError}
use Rattle.clap.specs.Words.{App, Rule, Shape, Text, app_of, new_rule}
use Rattle.clap.specs.Simple.{new_shape}
use Rattle.clap.specs.declared.builder.action.ArgAction.TheVariants.{SetTrue}
use Rattle.clap.specs.declared.builder.command.Command.{Command}
use Rattle.clap.specs.declared.builder.command.Command.TheViews.{out-Command}

-- An argument without a dash, which has to be there.
abbrev pub argument : Text → Rule
argument id = record (new_rule id) { value_names = 1; required = true }

-- An option with a value, `--ID VALUE`, which has to be there.
abbrev pub option_of : Text → Rule
option_of id = record (argument id) { long = Some id }

-- `--pool FILE`.
abbrev pub pool_option : Rule
pool_option = option_of (codes "pool")

-- `--to FILE`.
abbrev pub to_option : Rule
to_option = option_of (codes "to")

-- An option without a value, `--ID`, which need not be there.
abbrev pub flag_of : Text → Rule
flag_of id = record (new_rule id) { long = Some id; action = Some SetTrue }

-- `--all`.
abbrev pub all_flag : Rule
all_flag = flag_of (codes "all")

-- A subcommand with what it takes, in order.
abbrev pub subcommand : Text → List Rule → Shape
subcommand name rules = record (new_shape name) { rules = rules }

-- `NAME --pool FILE`
abbrev pub pool_usage : Text → Shape
pool_usage name = subcommand name (pool_option ∷ [])

-- `NAME TENANT --pool FILE`
abbrev pub tenant_usage : Text → Shape
tenant_usage name = subcommand name (argument (codes "tenant") ∷ pool_option ∷ [])

-- `NAME FIRST SECOND --pool FILE`
abbrev pub two_usage : Text → Text → Text → Shape
two_usage name first second = subcommand name (argument first ∷ argument second ∷ pool_option ∷ [])

-- `serve --pool FILE`
abbrev pub serve_usage : Shape
serve_usage = pool_usage (codes "serve")

-- `import TENANT --pool FILE`
abbrev pub import_usage : Shape
import_usage = tenant_usage (codes "import")

-- `ask TENANT QUERY --pool FILE`
abbrev pub ask_usage : Shape
ask_usage = two_usage (codes "ask") (codes "tenant") (codes "query")

-- `check --pool FILE`
abbrev pub check_usage : Shape
check_usage = pool_usage (codes "check")

-- `copy FROM TO --pool FILE`
abbrev pub copy_usage : Shape
copy_usage = two_usage (codes "copy") (codes "from") (codes "to")

-- `remove TENANT --pool FILE`
abbrev pub remove_usage : Shape
remove_usage = tenant_usage (codes "remove")

-- `compact TENANT --pool FILE`
abbrev pub compact_usage : Shape
compact_usage = tenant_usage (codes "compact")

-- `sizes --pool FILE`
abbrev pub sizes_usage : Shape
sizes_usage = pool_usage (codes "sizes")

-- `extract TENANT --pool FILE --to FILE`
abbrev pub extract_usage : Shape
extract_usage = subcommand (codes "extract")
    (argument (codes "tenant") ∷ pool_option ∷ to_option ∷ [])

-- `merge FILE --pool FILE`
abbrev pub merge_usage : Shape
merge_usage = subcommand (codes "merge") (argument (codes "file") ∷ pool_option ∷ [])

-- `host --pool FILE`
abbrev pub host_usage : Shape
host_usage = pool_usage (codes "host")

-- `pack TENANT --pool FILE [--all]`
abbrev pub pack_usage : Shape
pack_usage = subcommand (codes "pack") (argument (codes "tenant") ∷ pool_option ∷ all_flag ∷ [])

-- The program without subcommands: its own name is none of the words, and it takes `--version`,
-- which no subcommand does.
abbrev pub alone : App
alone = record {
  top = record (new_shape (codes "gitpool")) {
    no_binary_name = true;
    has_version = true;
    subcommand_required = true;
  };
  subs = [];
}

-- The program: one of its subcommands has to be there.
abbrev pub gitpool : App
gitpool = record {
  top = record alone.top { is_leaf = false };
  subs = serve_usage ∷ import_usage ∷ ask_usage ∷ check_usage ∷ copy_usage ∷ remove_usage
      ∷ compact_usage ∷ sizes_usage ∷ extract_usage ∷ merge_usage ∷ host_usage ∷ pack_usage ∷ [];
}

-- A command that reads what the shape says, and has no subcommand.
abbrev pub ReadsWords : Command → Shape → Type 0
ReadsWords command shape = (app_of command ≡ record { top = shape; subs = [] })
    × ((out-Command command).has_globals ≡ false)

-- The shape of a command with one argument more.
abbrev pub taking : Shape → Rule → Shape
taking shape rule = record shape { rules = shape.rules ++ rule ∷ [] }

-- The command that was made takes one argument more.
abbrev pub TakesMore : Result Command AllocError → Rule → Result Command AllocError → Type 0
TakesMore old rule new = (shape : Shape) → IfOk old (λ c. ReadsWords c shape)
    → IfOk new (λ c. ReadsWords c (taking shape rule))
