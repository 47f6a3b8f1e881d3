use Rattle.std.proofs.Common.{◌∙◌, ap}
use Rattle.clap.specs.Words.{is_simple_and_free}
use Rattle.fare_words.proofs.PlainDefinitions.{definitions_are_plain}
use Rattle.fare_words.proofs.words.options_of.Goals as goal

pub read-requires : goal.read-requires
read-requires c = ap is_simple_and_free c.in_ok-definition.ensures ∙ definitions_are_plain c.args.name
