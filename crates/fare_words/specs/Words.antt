-- The words of the command line.
use Rattle.std.specs.Prelude.{List, Option, Some, None, bytes_eq, codes, if◌then◌else◌, slice_get}
use Rattle.clap.specs.Words.{Text}
use Rattle.fare_words.specs.Commands.{command_in}
use Rattle.fare_words.specs.Definitions.{definition_of}
use Rattle.fare_words.specs.Options.{options_of}
use Rattle.fare_words.specs.Steps.{◌>>=◌}
use Rattle.fare_words.specs.declared.command.Command.{Command}
use Rattle.fare_words.specs.declared.name.CommandName.{CommandName}
use Rattle.fare_words.specs.declared.name.CommandName.TheVariants as named

-- the command that a word names
unfoldable pub name_of : Text → Option CommandName
name_of word =
    if bytes_eq word (codes "price") then Some named.Price
    else if bytes_eq word (codes "publish") then Some named.Publish
    else if bytes_eq word (codes "list") then Some named.List
    else if bytes_eq word (codes "export") then Some named.Export
    else if bytes_eq word (codes "quote") then Some named.Quote
    else if bytes_eq word (codes "serve") then Some named.Serve
    else if bytes_eq word (codes "drill") then Some named.Drill
    else if bytes_eq word (codes "migrate") then Some named.Migrate
    else if bytes_eq word (codes "check") then Some named.Check
    else if bytes_eq word (codes "diff") then Some named.Diff
    else if bytes_eq word (codes "compare") then Some named.Compare
    else None

-- the command that the words give: the first names it, its definition takes the others, and each value is in its form
unfoldable pub command_of : List Text → Option Command
command_of words = do
  first ← slice_get words 0
  name ← name_of first
  options ← options_of (definition_of name) words
  command_in name options
