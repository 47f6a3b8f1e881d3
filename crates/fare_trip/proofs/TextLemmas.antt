-- No two trips have one text.
use Rattle.std.proofs.Common.{◌≡◌, ◌≤◌, List, [], ◌∷◌, map, Option, Some, refl, sym, ap, ◌∙◌, arith, append-nil}
use Rattle.std.specs.Prelude.{option_and_then}
use Rattle.json.specs.Json as json
use Rattle.json.specs.Lex.{tokens}
use Rattle.json.specs.Token.{Token}
use Rattle.json.specs.Tree as tree
use Rattle.json.proofs.Printed.Tokens.{tokens-print}
use Rattle.json.proofs.Printed.Trees.{ArePrintable-json_tokens, value-json_tokens}
use Rattle.serde_json.specs.Data.{Data, depth, items_depth}
use Rattle.serde_json.specs.Read.{read, of_json, of_items, max_depth}
use Rattle.serde_json.specs.View.{items_of}
use Rattle.serde_json.specs.Written.{outline, items_outline, compact_text}
use Rattle.serde_json.proofs.Texts.{print-outline}
use Rattle.fare_codes.specs.declared.cabin.Cabin.{Cabin}
use Rattle.fare_codes.specs.declared.cabin.Cabin.TheVariants as cabin
use Rattle.fare_codes.specs.declared.over.Over.{Over}
use Rattle.fare_codes.specs.declared.over.Over.TheVariants as over
use Rattle.fare_codes.specs.Over.{over_text, read_over}
use Rattle.fare_codes.specs.Words.{cabin_text, read_cabin}
use Rattle.fare_trip.specs.declared.sector.Sector.{Sector}
use Rattle.fare_trip.specs.Itinerary.{Itinerary}
use Rattle.fare_trip.specs.Written.{sector_data, trip_data, trip_text}
use Rattle.fare_trip.proofs.WrittenLemmas.{trip_is_shallow}

-- ---- the text is read as the value

sector_is_read : (s : Sector) → of_json (outline (sector_data s)) ≡ Some (sector_data s)
unfolding sector_data
sector_is_read s = refl

sectors_are_read : (sectors : List Sector) → of_items (items_outline (items_of (map sector_data sectors))) ≡ Some (items_of (map sector_data sectors))
sectors_are_read [] = refl
sectors_are_read (s ∷ sectors) = rw (sector_is_read s, sectors_are_read sectors)

trip_is_read : (t : Itinerary) → of_json (outline (trip_data t)) ≡ Some (trip_data t)
unfolding trip_data
trip_is_read t = rw (sectors_are_read t.sectors)

sectors_are_as_deep : (sectors : List Sector) → tree.items_depth (items_outline (items_of (map sector_data sectors))) ≡ items_depth (items_of (map sector_data sectors))
unfolding sector_data
sectors_are_as_deep [] = refl
sectors_are_as_deep (s ∷ sectors) = rw (sectors_are_as_deep sectors)

trip_is_as_deep : (t : Itinerary) → tree.depth (outline (trip_data t)) ≤ depth (trip_data t)
unfolding trip_data
trip_is_as_deep t = omega (arith, sectors_are_as_deep t.sectors)

sectors_have_numbers : (sectors : List Sector) → tree.ItemsHaveNumbers (items_outline (items_of (map sector_data sectors)))
unfolding sector_data
sectors_have_numbers [] = tt
sectors_have_numbers (s ∷ sectors) = ((tt, (tt, (tt, (tt, (tt, (tt, (tt, tt))))))), sectors_have_numbers sectors)

trip_has_numbers : (t : Itinerary) → tree.HasNumbers (outline (trip_data t))
unfolding trip_data
trip_has_numbers t = (tt, (tt, (sectors_have_numbers t.sectors, tt)))

-- the value that a JSON tree gives, where it is the whole of a text
abbrev whole : Option (json.Json × List Token) → Option Data
whole found = option_and_then of_json (option_and_then (λ p. json.if_last p.0 p.1) found)

pub text_is_read : (t : Itinerary) → read (trip_text t) ≡ Some (trip_data t)
unfolding trip_text
text_is_read t =
    let written = outline (trip_data t) in
    let printed : tokens (compact_text (trip_data t)) ≡ tree.json_tokens written = rw (← print-outline (trip_data t)) (tokens-print _ (ArePrintable-json_tokens _ (trip_has_numbers t))) in
    let shallow = trip_is_shallow t in
    let as_deep = trip_is_as_deep t in
    ap whole (ap (json.value max_depth) (printed ∙ sym (append-nil _)) ∙ value-json_tokens written max_depth [] (omega (arith, shallow, as_deep))) ∙ trip_is_read t

-- ---- the value tells the trip

cabin_is_read : (class : Cabin) → read_cabin (cabin_text class) ≡ Some class
unfolding read_cabin
cabin_is_read cabin.F = refl
cabin_is_read cabin.C = refl
cabin_is_read cabin.Y = refl

mark_is_read : (mark : Over) → read_over (over_text mark) ≡ Some mark
unfolding read_over
mark_is_read over.Unmarked = refl
mark_is_read over.AT = refl
mark_is_read over.PA = refl

one_cabin : (a b : Cabin) → cabin_text a ≡ cabin_text b → a ≡ b
one_cabin a b h =
    let both : Some a ≡ Some b = sym (cabin_is_read a) ∙ ap read_cabin h ∙ cabin_is_read b in
    cc

one_mark : (a b : Over) → over_text a ≡ over_text b → a ≡ b
one_mark a b h =
    let both : Some a ≡ Some b = sym (mark_is_read a) ∙ ap read_over h ∙ mark_is_read b in
    cc

one_sector : (a b : Sector) → sector_data a ≡ sector_data b → a ≡ b
unfolding sector_data
one_sector a b h =
    let to : a.to ≡ b.to = cc in
    let carrier : a.carrier ≡ b.carrier = cc in
    let day : a.day ≡ b.day = cc in
    let class = one_cabin a.cabin b.cabin cc in
    let mark = one_mark a.over b.over cc in
    let stop : a.stop ≡ b.stop = cc in
    let surface : a.surface ≡ b.surface = cc in
    λ i. record { to = to i; carrier = carrier i; day = day i; cabin = class i; over = mark i; stop = stop i; surface = surface i }

one_list : (some others : List Sector) → items_of (map sector_data some) ≡ items_of (map sector_data others) → some ≡ others
one_list [] [] h = refl
one_list [] (b ∷ more) h = absurd (cc)
one_list (a ∷ rest) [] h = absurd (cc)
one_list (a ∷ rest) (b ∷ more) h =
    let first = one_sector a b cc in
    let rests = one_list rest more cc in
    cc

one_trip : (a b : Itinerary) → trip_data a ≡ trip_data b → a ≡ b
unfolding trip_data
one_trip a b h =
    let sale : a.sale ≡ b.sale = cc in
    let from : a.from ≡ b.from = cc in
    let sectors = one_list a.sectors b.sectors cc in
    λ i. record { sale = sale i; from = from i; sectors = sectors i }

pub text_tells : (a b : Itinerary) → trip_text a ≡ trip_text b → a ≡ b
text_tells a b same =
    let reads = text_is_read a in
    let read_same = text_is_read b in
    let values : Some (trip_data a) ≡ Some (trip_data b) = sym reads ∙ ap read same ∙ read_same in
    one_trip a b cc
