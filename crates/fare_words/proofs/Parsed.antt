-- What a parse by `clap` tells of the options in the words.
use Rattle.std.proofs.Common.{◌≡◌, ◌≢◌, ◌⊎◌, inl, inr, ◌∙◌, refl, ap, arith, IfOk, Result, Ok, Err, ℕ, List, [], ◌∷◌}
use Rattle.std.proofs.Common.{Option, Some, None, option_map, Bool, true, false, ◌&&◌, if◌then◌else◌}
use Rattle.std.specs.Borrow.{Bor}
use Rattle.clap.specs.Walk.{is_empty}
use Rattle.clap.specs.Words.{App, Kinds, Row, Text, HasMatchesOf, IsAmong, fault_of, first_of, first_value, found_of}
use Rattle.clap.specs.Words.{is_simple, is_simple_and_free, matches_of, rows_of}
use Rattle.clap.specs.declared.error.kind.ErrorKind.{ErrorKind}
use Rattle.clap.specs.declared.error.kind.ErrorKind.TheVariants.{OutOfMemory}
use Rattle.fare_ports.specs.declared.no_memory.NoMemory.{NoMemory}
use Rattle.clap.specs.declared.parser.matches.ArgMatches.{ArgMatches}
use Rattle.clap.proofs.WalkLemmas.{first_value-rows}
use Rattle.fare_words.specs.Options.{options_of}

-- the text that a getter gives is the option's
pub text_of_rows : (m : ArgMatches) (name : Text) (found : Option (Bor (List ℕ)))
    → option_map (λ text. text.now) found ≡ first_value (found_of m) name
    → option_map (λ text. text.now) found ≡ first_of name (rows_of (found_of m))
text_of_rows m name found given = given ∙ first_value-rows (found_of m) name

-- what holds with another fact
first_holds : (a b : Bool) → (a && b) ≡ true → a ≡ true
first_holds true b h = refl
first_holds false b h = cc

-- where no fault comes the options are there
where_no_fault : (kinds : Kinds) (found rows : List Row) → kinds ≡ [] → found ≡ rows
    → Some found ≡ (if is_empty kinds then Some rows else None)
where_no_fault [] found rows none same = ap (λ (r : List Row). Some r) same
where_no_fault (k ∷ ks) found rows none same = cc

-- words without a fault have the options that the parse found
pub taken : (app : App) (words : List Text) (m : ArgMatches) → is_simple_and_free app ≡ true
    → fault_of app words ≡ [] → HasMatchesOf app words m → Some (rows_of (found_of m)) ≡ options_of app words
unfolding options_of
taken app words m plain none found =
    where_no_fault (fault_of app words) (rows_of (found_of m)) (matches_of app words) none
    (found (first_holds (is_simple app) _ plain)).0

-- where a fault comes there are none
where_fault : (kinds : Kinds) (kind : ErrorKind) (rows : List Row) → IsAmong kind kinds
    → None ≡ (if is_empty kinds then Some rows else None)
where_fault [] kind rows among = absurd among
where_fault (k ∷ ks) kind rows among = grind arith

-- words with a fault have no options
no_options : (app : App) (words : List Text) (kind : ErrorKind) → IsAmong kind (fault_of app words)
    → None ≡ options_of app words
unfolding options_of
no_options app words kind among = where_fault (fault_of app words) kind (matches_of app words) among

-- an error that isn't want of memory says that the words are not taken
pub refused : (app : App) (words : List Text) (kind : ErrorKind) (r : Result (Option ArgMatches) NoMemory)
    → (kind ≡ OutOfMemory) ⊎ IsAmong kind (fault_of app words)
    → IfOk r (λ found. (kind ≢ OutOfMemory) × (found ≡ None))
    → IfOk r (λ found. option_map (λ m. rows_of (found_of m)) found ≡ options_of app words)
refused app words kind (Err e) cause known = tt
refused app words kind (Ok found) (inl memory) known = absurd (known.0 memory)
refused app words kind (Ok found) (inr among) known =
    ap (option_map (λ m. rows_of (found_of m))) known.1 ∙ no_options app words kind among
