-- Words that are taken, and words that aren't, by computing.
use Rattle.std.proofs.Common.{◌≡◌, [], ◌∷◌, Some, None, true, false, codes, refl}
use Rattle.std.specs.Prelude.{⊤}
use Rattle.fare_words.proofs.PlainDefinitions.{definitions_on_literals}
use Rattle.fare_codes.specs.Numbers.{is_number, read_number}
use Rattle.fare_words.specs.Options.{has_flag, number_between, number_in, number_or, options_of}
use Rattle.fare_words.specs.Values.{asked_by, asked_in, best_in, count_in, edition_in, extra_in, from_in, json_in}
use Rattle.fare_words.specs.Values.{port_in, round_in, sectors_in, seed_in, store_in, to_in, workers_in}
use Rattle.fare_words.specs.Commands.{command_in, price_of, publish_of, list_of, export_of, quote_of, serve_of}
use Rattle.fare_words.specs.Commands.{drill_of, migrate_of, diff_of, compare_of}
use Rattle.fare_words.specs.Words.{command_of, name_of}
use Rattle.fare_words.specs.declared.asked.Asked.TheVariants as ask
use Rattle.fare_words.specs.declared.command.Command.TheVariants as command

-- what is opened to compute the command of words that are written out
unfoldable words_on_literals : ⊤
unfolding definitions_on_literals command_of name_of options_of command_in
    price_of publish_of list_of export_of quote_of serve_of drill_of migrate_of diff_of compare_of
    store_in workers_in best_in asked_by asked_in json_in edition_in from_in to_in port_in count_in round_in seed_in
    sectors_in extra_in has_flag number_in number_or number_between read_number is_number
words_on_literals = tt

-- `price` alone
price_alone : command_of (codes "price" ∷ []) ≡ Some (command.Price 1 ask.Quotation false)
unfolding words_on_literals
price_alone = refl

-- `price --`
price_with_two_hyphens : command_of (codes "price" ∷ codes "--" ∷ []) ≡ Some (command.Price 1 ask.Quotation false)
unfolding words_on_literals
price_with_two_hyphens = refl

-- `price --best 3 --workers=16`
price_with_options : command_of (codes "price" ∷ codes "--best" ∷ codes "3" ∷ codes "--workers=16" ∷ [])
    ≡ Some (command.Price 16 (ask.Best 3) false)
unfolding words_on_literals
price_with_options = refl

-- a number with a zero in front
price_with_a_zero_in_front : command_of (codes "price" ∷ codes "--workers=01" ∷ []) ≡ None
unfolding words_on_literals
price_with_a_zero_in_front = refl

-- an option that stands twice
price_with_an_option_twice : command_of (codes "price" ∷ codes "--best=1" ∷ codes "--best=1" ∷ []) ≡ None
unfolding words_on_literals
price_with_an_option_twice = refl

-- the word that asks for help
price_help : command_of (codes "price" ∷ codes "--help" ∷ []) ≡ None
unfolding words_on_literals
price_help = refl

-- a name that is a hyphen
publish_to_a_hyphen : command_of (codes "publish" ∷ codes "--store" ∷ codes "-" ∷ [])
    ≡ Some (command.Publish (codes "-"))
unfolding words_on_literals
publish_to_a_hyphen = refl

-- a name that begins with a hyphen is no word of its own
list_of_a_flag : command_of (codes "list" ∷ codes "--store" ∷ codes "-x" ∷ []) ≡ None
unfolding words_on_literals
list_of_a_flag = refl

-- but may stand behind the sign
list_with_a_sign : command_of (codes "list" ∷ codes "--store=-x" ∷ []) ≡ Some (command.List (codes "-x") false)
unfolding words_on_literals
list_with_a_sign = refl

-- a store that is left out
publish_nowhere : command_of (codes "publish" ∷ []) ≡ None
unfolding words_on_literals
publish_nowhere = refl

-- a drill with what is left out
drill_of_one : command_of (codes "drill" ∷ codes "--sectors" ∷ codes "1" ∷ codes "--seed=7" ∷ [])
    ≡ Some (command.Drill 7 1 0 1)
unfolding words_on_literals
drill_of_one = refl

-- a round of connections
serve_in_rounds :
    command_of (codes "serve" ∷ codes "--store=s" ∷ codes "--port=80" ∷ codes "--count=3" ∷ codes "--round=8" ∷ [])
    ≡ Some (command.Serve (codes "s") 80 3 1 8)
unfolding words_on_literals
serve_in_rounds = refl

-- an edition of a greater number than any has
export_beyond_the_last : command_of (codes "export" ∷ codes "--store=s" ∷ codes "--edition=100000" ∷ []) ≡ None
unfolding words_on_literals
export_beyond_the_last = refl

-- both flags, with an option between them
price_with_flags : command_of (codes "price" ∷ codes "--why" ∷ codes "--workers=2" ∷ codes "--json" ∷ [])
    ≡ Some (command.Price 2 ask.Why true)
unfolding words_on_literals
price_with_flags = refl

-- why and the first ten are two answers
price_why_and_best : command_of (codes "price" ∷ codes "--why" ∷ codes "--best=1" ∷ []) ≡ None
unfolding words_on_literals
price_why_and_best = refl

-- a flag that stands twice
price_with_a_flag_twice : command_of (codes "price" ∷ codes "--json" ∷ codes "--json" ∷ []) ≡ None
unfolding words_on_literals
price_with_a_flag_twice = refl

-- a flag with an empty value
price_with_a_sign : command_of (codes "price" ∷ codes "--json=" ∷ []) ≡ None
unfolding words_on_literals
price_with_a_sign = refl

-- a flag with a value behind it
price_with_a_value : command_of (codes "price" ∷ codes "--json" ∷ codes "true" ∷ []) ≡ None
unfolding words_on_literals
price_with_a_value = refl

-- a flag in the place of a name
quote_in_a_flag : command_of (codes "quote" ∷ codes "--store" ∷ codes "--json" ∷ []) ≡ None
unfolding words_on_literals
quote_in_a_flag = refl

-- a name that is spelled as the flag
list_of_a_flag_behind_the_sign : command_of (codes "list" ∷ codes "--store=--json" ∷ [])
    ≡ Some (command.List (codes "--json") false)
unfolding words_on_literals
list_of_a_flag_behind_the_sign = refl

-- `list` has no reasons
list_why : command_of (codes "list" ∷ codes "--why" ∷ codes "--store=s" ∷ []) ≡ None
unfolding words_on_literals
list_why = refl

-- `check --`
check_with_two_hyphens : command_of (codes "check" ∷ codes "--" ∷ []) ≡ Some command.Check
unfolding words_on_literals
check_with_two_hyphens = refl

-- `check` has no flag
check_in_json : command_of (codes "check" ∷ codes "--json" ∷ []) ≡ None
unfolding words_on_literals
check_in_json = refl

-- the editions in either order
diff_of_two : command_of (codes "diff" ∷ codes "--to=1" ∷ codes "--store" ∷ codes "s" ∷ codes "--from=7" ∷ [])
    ≡ Some (command.Diff (codes "s") 7 1)
unfolding words_on_literals
diff_of_two = refl

-- an edition that is left out
diff_of_one : command_of (codes "diff" ∷ codes "--store=s" ∷ codes "--from=1" ∷ []) ≡ None
unfolding words_on_literals
diff_of_one = refl

-- a comparison by four workers
compare_by_four :
    command_of (codes "compare" ∷ codes "--store=s" ∷ codes "--from=1" ∷ codes "--to=2" ∷ codes "--workers=4" ∷ [])
    ≡ Some (command.Compare (codes "s") 1 2 4)
unfolding words_on_literals
compare_by_four = refl
