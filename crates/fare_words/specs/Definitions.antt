-- Each command's definition in `clap`: its name, its options, each of which takes one value, and its flags, which take
-- none. Each may stand once.
use Rattle.std.specs.Prelude.{List, [], ◌∷◌, Some, true, codes, fold}
use Rattle.clap.specs.Words.{App, Rule, Text, new_app, new_rule, with_rule}
use Rattle.clap.specs.declared.builder.action.ArgAction.TheVariants.{Set, SetTrue}
use Rattle.fare_words.specs.declared.name.CommandName.{CommandName}
use Rattle.fare_words.specs.declared.name.CommandName.TheVariants as named

-- an option of this name that may be left out
abbrev pub optional : Text → Rule
optional name = record (new_rule name) { long = Some name; action = Some Set }

-- an option of this name that has to stand
abbrev pub required : Text → Rule
required name = record (optional name) { required = true }

-- a flag of this name
abbrev pub flag : Text → Rule
flag name = record (new_rule name) { long = Some name; action = Some SetTrue }

-- a command of this name with these options and nothing else
abbrev pub command_with : Text → List Rule → App
command_with name options = fold with_rule (new_app name) options

-- `price [--workers W] [--best K] [--why] [--json]`
unfoldable pub price_definition : App
price_definition = command_with (codes "price")
    (optional (codes "workers") ∷ optional (codes "best") ∷ flag (codes "why") ∷ flag (codes "json") ∷ [])

-- `publish --store NAME`
unfoldable pub publish_definition : App
publish_definition = command_with (codes "publish") (required (codes "store") ∷ [])

-- `list --store NAME [--json]`
unfoldable pub list_definition : App
list_definition = command_with (codes "list") (required (codes "store") ∷ flag (codes "json") ∷ [])

-- `export --store NAME --edition N`
unfoldable pub export_definition : App
export_definition = command_with (codes "export") (required (codes "store") ∷ required (codes "edition") ∷ [])

-- `quote --store NAME [--workers W] [--best K] [--why] [--json]`
unfoldable pub quote_definition : App
quote_definition = command_with (codes "quote")
    (required (codes "store") ∷ optional (codes "workers") ∷ optional (codes "best")
    ∷ flag (codes "why") ∷ flag (codes "json") ∷ [])

-- `serve --store NAME --port P --count N [--workers W] [--round R]`
unfoldable pub serve_definition : App
serve_definition = command_with (codes "serve")
    (required (codes "store") ∷ required (codes "port") ∷ required (codes "count")
    ∷ optional (codes "workers") ∷ optional (codes "round") ∷ [])

-- `drill --seed S --sectors K [--extra E] [--workers W]`
unfoldable pub drill_definition : App
drill_definition = command_with (codes "drill")
    (required (codes "seed") ∷ required (codes "sectors") ∷ optional (codes "extra") ∷ optional (codes "workers") ∷ [])

-- `migrate --store NAME`
unfoldable pub migrate_definition : App
migrate_definition = command_with (codes "migrate") (required (codes "store") ∷ [])

-- `check`
unfoldable pub check_definition : App
check_definition = command_with (codes "check") []

-- `diff --store NAME --from N --to M`
unfoldable pub diff_definition : App
diff_definition = command_with (codes "diff")
    (required (codes "store") ∷ required (codes "from") ∷ required (codes "to") ∷ [])

-- `compare --store NAME --from N --to M [--workers W]`
unfoldable pub compare_definition : App
compare_definition = command_with (codes "compare")
    (required (codes "store") ∷ required (codes "from") ∷ required (codes "to") ∷ optional (codes "workers") ∷ [])

-- the definition of the command of this name
unfoldable pub definition_of : CommandName → App
definition_of named.Price = price_definition
definition_of named.Publish = publish_definition
definition_of named.List = list_definition
definition_of named.Export = export_definition
definition_of named.Quote = quote_definition
definition_of named.Serve = serve_definition
definition_of named.Drill = drill_definition
definition_of named.Migrate = migrate_definition
definition_of named.Check = check_definition
definition_of named.Diff = diff_definition
definition_of named.Compare = compare_definition
