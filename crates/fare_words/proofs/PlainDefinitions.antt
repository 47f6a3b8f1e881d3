-- What the definitions have in common.
use Rattle.std.proofs.Common.{◌≡◌, true, refl}
use Rattle.std.specs.Prelude.{⊤}
use Rattle.clap.specs.Words.{is_simple_and_free}
use Rattle.clap.proofs.OnLiterals.{clap_on_literals}
use Rattle.fare_words.specs.Definitions.{definition_of, price_definition, publish_definition, list_definition}
use Rattle.fare_words.specs.Definitions.{export_definition}
use Rattle.fare_words.specs.Definitions.{quote_definition, serve_definition, drill_definition, migrate_definition}
use Rattle.fare_words.specs.Definitions.{check_definition, diff_definition, compare_definition}
use Rattle.fare_words.specs.declared.name.CommandName.{CommandName}
use Rattle.fare_words.specs.declared.name.CommandName.TheVariants as named

-- what is opened to compute with a definition that is named
unfoldable pub definitions_on_literals : ⊤
unfolding clap_on_literals definition_of price_definition publish_definition list_definition export_definition
    quote_definition serve_definition drill_definition migrate_definition check_definition diff_definition
    compare_definition
definitions_on_literals = tt

-- each has options alone, with no rule of one on another
pub definitions_are_plain : (name : CommandName) → is_simple_and_free (definition_of name) ≡ true
unfolding definitions_on_literals
definitions_are_plain named.Price = refl
definitions_are_plain named.Publish = refl
definitions_are_plain named.List = refl
definitions_are_plain named.Export = refl
definitions_are_plain named.Quote = refl
definitions_are_plain named.Serve = refl
definitions_are_plain named.Drill = refl
definitions_are_plain named.Migrate = refl
definitions_are_plain named.Check = refl
definitions_are_plain named.Diff = refl
definitions_are_plain named.Compare = refl
