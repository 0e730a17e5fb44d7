-- Command lines: which words name which line, by what `clap` matches them with.
use Rattle.std.specs.Prelude.{◌≡◌, ◌⊎◌, Bool, true, false, List, [], ◌∷◌, ◌++◌, Option, Some, None, codes, if◌then◌else◌, option_and_then, option_map}
use Rattle.std.specs.Option.{option_map_or}
use Rattle.std.specs.Str.{bytes_eq}
use Rattle.clap.specs.Words.{Row, Text, first_of, subcommand_of}
use Rattle.command_lines.specs.Usage.{gitpool}
use Rattle.command_lines.specs.declared.line.Line.{Line}
use Rattle.command_lines.specs.declared.line.Line.TheVariants as line

-- Words that ask for the version of the program, and for nothing else.
abbrev pub AsksVersion : List Text → Type 0
AsksVersion words = (words ≡ codes "--version" ∷ []) ⊎ (words ≡ codes "-V" ∷ [])

-- What a command line says: a subcommand, the arguments that it takes, and the pool file.
pub data Said : Type 0 where
  serve : Text → Said
  import : Text → Text → Said
  ask : Text → Text → Text → Said
  check : Text → Said
  copy : Text → Text → Text → Said
  remove : Text → Text → Said
  compact : Text → Text → Said
  sizes : Text → Said
  extract : Text → Text → Text → Said
  merge : Text → Text → Said
  host : Text → Said
  pack : Text → Bool → Text → Said

-- What a line says, as text.
abbrev pub said : Line → Said
said (line.Serve pool) = serve pool.now
said (line.Import tenant pool) = import tenant.now pool.now
said (line.Ask tenant query pool) = ask tenant.now query.now pool.now
said (line.Check pool) = check pool.now
said (line.Copy from to pool) = copy from.now to.now pool.now
said (line.Remove tenant pool) = remove tenant.now pool.now
said (line.Compact tenant pool) = compact tenant.now pool.now
said (line.Sizes pool) = sizes pool.now
said (line.Extract tenant file pool) = extract tenant.now file.now pool.now
said (line.Merge file pool) = merge file.now pool.now
said (line.Host pool) = host pool.now
said (line.Pack tenant all pool) = pack tenant.now all pool.now

-- The value that the matches have under this name.
abbrev pub given : List Row → Text → Option Text
given rows id = first_of id rows

-- The values under these two names, if both are there.
abbrev pub two_given : List Row → Text → Text → Option (Text × Text)
two_given rows first second =
    option_and_then (λ x. option_map (λ y. (x, y)) (given rows second)) (given rows first)

-- A line of the value under this name and the pool file.
abbrev pub line_of : (Text → Text → Said) → Text → List Row → Text → Option Said
line_of line id rows pool = option_map (λ x. line x pool) (given rows id)

-- A line of the values under these two names and the pool file.
abbrev pub line_of_two : (Text → Text → Text → Said) → Text → Text → List Row → Text → Option Said
line_of_two line first second rows pool =
    option_and_then (λ x. line_of (line x) second rows pool) (given rows first)

-- Whether the flag of this name was given: `clap` gives it a value, `true` or `false`.
abbrev pub is_set : List Row → Text → Bool
is_set rows id = option_map_or (λ text. bytes_eq text (codes "true")) (given rows id) false

-- What a subcommand of this name with these matches says beside the pool file.
abbrev pub said_with : Text → List Row → Text → Option Said
said_with name rows pool =
    if bytes_eq name (codes "serve") then Some (serve pool)
    else (if bytes_eq name (codes "import") then line_of import (codes "tenant") rows pool
    else (if bytes_eq name (codes "ask")
    then line_of_two ask (codes "tenant") (codes "query") rows pool
    else (if bytes_eq name (codes "check") then Some (check pool)
    else (if bytes_eq name (codes "copy")
    then line_of_two copy (codes "from") (codes "to") rows pool
    else (if bytes_eq name (codes "remove") then line_of remove (codes "tenant") rows pool
    else (if bytes_eq name (codes "compact") then line_of compact (codes "tenant") rows pool
    else (if bytes_eq name (codes "sizes") then Some (sizes pool)
    else (if bytes_eq name (codes "extract")
    then line_of_two extract (codes "tenant") (codes "to") rows pool
    else (if bytes_eq name (codes "merge") then line_of merge (codes "file") rows pool
    else (if bytes_eq name (codes "host") then Some (host pool)
    else (if bytes_eq name (codes "pack")
    then line_of (λ tenant. pack tenant (is_set rows (codes "all"))) (codes "tenant") rows pool
    else None)))))))))))

-- What a subcommand with its matches says.
abbrev pub said_by : Text × List Row → Option Said
said_by found = option_and_then (said_with found.0 found.1) (given found.1 (codes "pool"))

-- What the words say, by the subcommand that `clap` finds in them.
abbrev pub said_in : List Text → Option Said
said_in words = option_and_then said_by (subcommand_of gitpool words)

-- `--pool=FILE` as one word.
abbrev pub pool_word : Text → Text
pool_word pool = codes "--pool=" ++ pool

-- `--to=FILE` as one word.
abbrev pub to_word : Text → Text
to_word file = codes "--to=" ++ file

-- Words that say this, whatever its texts are: nothing after `--` is an option (gitcli(7)).
abbrev pub words_of : Said → List Text
words_of (serve pool) = codes "serve" ∷ pool_word pool ∷ []
words_of (import tenant pool) =
    codes "import" ∷ pool_word pool ∷ codes "--" ∷ tenant ∷ []
words_of (ask tenant query pool) =
    codes "ask" ∷ pool_word pool ∷ codes "--" ∷ tenant ∷ query ∷ []
words_of (check pool) = codes "check" ∷ pool_word pool ∷ []
words_of (copy from to pool) =
    codes "copy" ∷ pool_word pool ∷ codes "--" ∷ from ∷ to ∷ []
words_of (remove tenant pool) =
    codes "remove" ∷ pool_word pool ∷ codes "--" ∷ tenant ∷ []
words_of (compact tenant pool) =
    codes "compact" ∷ pool_word pool ∷ codes "--" ∷ tenant ∷ []
words_of (sizes pool) = codes "sizes" ∷ pool_word pool ∷ []
words_of (extract tenant file pool) =
    codes "extract" ∷ pool_word pool ∷ to_word file ∷ codes "--" ∷ tenant ∷ []
words_of (merge file pool) = codes "merge" ∷ pool_word pool ∷ codes "--" ∷ file ∷ []
words_of (host pool) = codes "host" ∷ pool_word pool ∷ []
words_of (pack tenant false pool) =
    codes "pack" ∷ pool_word pool ∷ codes "--" ∷ tenant ∷ []
words_of (pack tenant true pool) =
    codes "pack" ∷ pool_word pool ∷ codes "--all" ∷ codes "--" ∷ tenant ∷ []
