use Rattle.std.proofs.Common.{map, string_bytes}
use Rattle.clap.specs.Words.{app_of}
use Rattle.fare_words.proofs.Parsed.{refused, taken}
use Rattle.fare_words.proofs.parsing.parsed.Goals as goal

pub returns-in-Ok : goal.returns-in-Ok
returns-in-Ok c =
    taken (app_of c.args.definition) (map string_bytes c.args.words.now) c.in-Ok.found c.requires
    (c.in-Ok.ensures.kinds c.requires) c.in-Ok.ensures.matches

pub returns-in-Err : goal.returns-in-Err
returns-in-Err c =
    refused (app_of c.args.definition) (map string_bytes c.args.words.now) _ c.not_taken.result
    (rw c.kind.ensures (c.in-Err.ensures.kinds c.requires)) c.not_taken.ensures
