-- A head and the body behind it, where the last bytes came later.
use Rattle.std.proofs.Common.{◌≡◌, ℕ, ◌+◌, ◌<◌, ◌≤◌, List, [], ◌∷◌, ◌++◌, length, take, drop, refl, sym, ap, ◌∙◌, arith, length-append, length-take, append-nil, inl, inr, ◌⊎◌}
use Rattle.std.proofs.lemmas.List.{take_all, take-append-le, length-map}
use Rattle.std.proofs.lemmas.Bool.{cases_lt}
use Rattle.httparse.specs.declared.spans.HeaderSpan.{HeaderSpan}
use Rattle.httparse.specs.declared.spans.RequestSpans.{RequestSpans}
use Rattle.httparse.specs.Grammar.{RequestHead}
use Rattle.httparse.specs.Spans.{IsRequestAt, IsRequestWithin, header_bytes, name_and_value}
use Rattle.httparse.proofs.GrammarLemmas.{ReadsRequest-append}
use Rattle.fare_http.specs.declared.head.TheConstants.{MOST_FIELDS, MOST_HEAD}
use Rattle.fare_http.specs.Requests.{HasHead}

-- the bytes that came behind a head leave it as it is
pub head-then : (taken piece : List ℕ) (fields : List HeaderSpan) (spans : RequestSpans) (head : RequestHead)
    → IsRequestAt taken fields spans head → IsRequestWithin taken fields spans
    → length taken ≤ MOST_HEAD → length fields ≡ MOST_FIELDS
    → HasHead (taken ++ piece) head (drop spans.len taken ++ piece)
head-then taken piece fields spans head at within short few =
    let same = ap length at.fields in
    let those = length-map (take spans.headers fields) (header_bytes taken) in
    let named = length-map head.fields name_and_value in
    record {
      reads = ReadsRequest-append taken head (drop spans.len taken) piece at.reads;
      short = omega (arith, at.len, within.section.len_fits, short);
      few = omega (arith, same, those, named, length-take spans.headers fields, few);
    }

-- a list of no length is empty
no-more : (bytes : List ℕ) → length bytes ≡ 0 → bytes ≡ []
no-more [] none = refl
no-more (byte ∷ bytes) none = absurd (omega (arith, none))

-- the body that was read is that behind the head
pub body-taken : (count : ℕ) (rest piece body : List ℕ) → body ≡ take count rest ++ piece → length body ≡ count
    → (count ≤ length (rest ++ piece)) × (body ≡ take count (rest ++ piece))
body-taken count rest piece body is whole = by-order (cases_lt (length rest) count)
  where
    long : length body ≡ length (take count rest) + length piece
    long = ap length is ∙ length-append (take count rest) piece

    by-order : (length rest < count) ⊎ (count ≤ length rest)
        → (count ≤ length (rest ++ piece)) × (body ≡ take count (rest ++ piece))
    by-order (inl short) =
        let all : take count rest ≡ rest = take_all count rest (omega (arith, short)) in
        let same : body ≡ rest ++ piece = is ∙ ap (λ front. front ++ piece) all in
        let size : length (rest ++ piece) ≡ count = sym (ap length same) ∙ whole in
        (omega (arith, size), same ∙ sym (take_all count (rest ++ piece) (omega (arith, size))))
    by-order (inr enough) =
        let none : piece ≡ [] = no-more piece (omega (arith, long, whole, enough, length-take count rest)) in
        let same : body ≡ take count rest = is ∙ ap (λ back. take count rest ++ back) none ∙ append-nil (take count rest) in
        (omega (arith, enough, length-append rest piece), same ∙ sym (take-append-le count rest piece enough))

-- a body that isn't whole is shorter than announced
pub body-short : (count : ℕ) (rest piece : List ℕ) → length (take count rest ++ piece) < count
    → length (rest ++ piece) < count
body-short count rest piece short =
    omega (arith, short, length-append (take count rest) piece, length-append rest piece, length-take count rest)
