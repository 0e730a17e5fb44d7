-- A command with one more argument, and a program with one more subcommand, read what they did, and that.
use Rattle.std.proofs.Common.{◌≡◌, ◌∙◌, ◌||◌, ap, ap₂, refl, Bool, true, false}
use Rattle.clap.specs.Words.{AddsArg, AddsSubcommand, App, Rule, Shape, app_of, rule_of, with_rule, with_subcommand}
use Rattle.clap.specs.declared.builder.arg.Arg.{Arg}
use Rattle.clap.specs.declared.builder.command.Command.{Command}
use Rattle.clap.specs.declared.builder.command.Command.TheViews.{out-Command}
use Rattle.command_lines.specs.Usage.{ReadsWords, taking}

or_false : (b : Bool) → (b || false) ≡ b
or_false true = refl
or_false false = refl

-- an argument that is not global
pub reads_more : (old new : Command) (shape : Shape) (arg : Arg) (rule : Rule) → rule_of arg ≡ rule → arg.global ≡ false → ReadsWords old shape → AddsArg old arg new
    → ReadsWords new (taking shape rule)
reads_more old new shape arg rule is local reads adds = (
  adds.shape local ∙ ap₂ with_rule reads.0 is,
  adds.globals ∙ ap (λ b. (out-Command old).has_globals || b) local ∙ or_false (out-Command old).has_globals ∙ reads.1,
)

abbrev top : App → Shape
top a = a.top

pub has_one : (old sub new : Command) (app : App) (usage : Shape) → app_of old ≡ app → ReadsWords sub usage → AddsSubcommand old sub new
    → app_of new ≡ with_subcommand app usage
has_one old sub new app usage is reads adds = adds.shape reads.1 ∙ ap₂ (λ a s. with_subcommand a (top s)) is reads.0
