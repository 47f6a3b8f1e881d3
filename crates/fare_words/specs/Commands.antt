-- Each command from the options that its definition found, where every value is in its form.
use Rattle.std.specs.Prelude.{List, Option, Some}
use Rattle.clap.specs.Words.{Row}
use Rattle.fare_words.specs.Values.{asked_in, count_in, edition_in, extra_in, from_in, json_in, port_in, round_in}
use Rattle.fare_words.specs.Values.{sectors_in, seed_in, store_in, to_in, workers_in}
use Rattle.fare_words.specs.Steps.{◌>>=◌}
use Rattle.fare_words.specs.declared.command.Command.{Command}
use Rattle.fare_words.specs.declared.command.Command.TheVariants as command
use Rattle.fare_words.specs.declared.name.CommandName.{CommandName}
use Rattle.fare_words.specs.declared.name.CommandName.TheVariants as named

-- `price`
unfoldable pub price_of : List Row → Option Command
price_of options = do
  workers ← workers_in options
  asked ← asked_in options
  Some (command.Price workers asked (json_in options))

-- `publish`
unfoldable pub publish_of : List Row → Option Command
publish_of options = do
  store ← store_in options
  Some (command.Publish store)

-- `list`
unfoldable pub list_of : List Row → Option Command
list_of options = do
  store ← store_in options
  Some (command.List store (json_in options))

-- `export`
unfoldable pub export_of : List Row → Option Command
export_of options = do
  store ← store_in options
  edition ← edition_in options
  Some (command.Export store edition)

-- `quote`
unfoldable pub quote_of : List Row → Option Command
quote_of options = do
  store ← store_in options
  workers ← workers_in options
  asked ← asked_in options
  Some (command.Quote store workers asked (json_in options))

-- `serve`
unfoldable pub serve_of : List Row → Option Command
serve_of options = do
  store ← store_in options
  port ← port_in options
  count ← count_in options
  workers ← workers_in options
  round ← round_in options
  Some (command.Serve store port count workers round)

-- `drill`
unfoldable pub drill_of : List Row → Option Command
drill_of options = do
  seed ← seed_in options
  sectors ← sectors_in options
  extra ← extra_in options
  workers ← workers_in options
  Some (command.Drill seed sectors extra workers)

-- `migrate`
unfoldable pub migrate_of : List Row → Option Command
migrate_of options = do
  store ← store_in options
  Some (command.Migrate store)

-- `diff`
unfoldable pub diff_of : List Row → Option Command
diff_of options = do
  store ← store_in options
  from ← from_in options
  to ← to_in options
  Some (command.Diff store from to)

-- `compare`
unfoldable pub compare_of : List Row → Option Command
compare_of options = do
  store ← store_in options
  from ← from_in options
  to ← to_in options
  workers ← workers_in options
  Some (command.Compare store from to workers)

-- the command of this name
unfoldable pub command_in : CommandName → List Row → Option Command
command_in named.Price options = price_of options
command_in named.Publish options = publish_of options
command_in named.List options = list_of options
command_in named.Export options = export_of options
command_in named.Quote options = quote_of options
command_in named.Serve options = serve_of options
command_in named.Drill options = drill_of options
command_in named.Migrate options = migrate_of options
command_in named.Check options = Some command.Check
command_in named.Diff options = diff_of options
command_in named.Compare options = compare_of options
