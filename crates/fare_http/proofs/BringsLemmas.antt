-- What told bytes bring: heads, requests, faults and ends exclude one another.
use Rattle.std.proofs.Common.{◌≡◌, inl, inr, ℕ, ◌+◌, ◌<◌, ◌≤◌, List, [], ◌++◌, length, take, drop, Option, Some, None, Ok, Err, refl, sym, ap, ◌∙◌, subst, arith, append_assoc, append-nil, length-append}
use Rattle.std.proofs.lemmas.List.{take-append-le, take-append-drop}
use Rattle.std.proofs.Math.Seq.{take-append_seam}
use Rattle.std.specs.Io.KnownBytes.{Consumes}
use Rattle.httparse.specs.Grammar.{HasNoRequest, NeverHasRequest, ReadsRequest, RequestHead, print_request}
use Rattle.httparse.proofs.GrammarLemmas.{ReadsRequest-append, request_unique}
use Rattle.fare_http.specs.declared.lengths.BodyFault.{BodyFault}
use Rattle.fare_http.specs.declared.lengths.BodyFault.TheVariants.{Coded, BadLength, TooLong}
use Rattle.fare_http.specs.declared.reply.Reply.{Reply}
use Rattle.fare_http.specs.declared.request.Request.{Request}
use Rattle.fare_http.specs.Heads.{EndsEarly, IsOverLimit}
use Rattle.fare_http.specs.Refusals.{IsRefused, SaysFault, bad_head, head_limit, coded_body, bad_length, body_limit}
use Rattle.fare_http.specs.Requests.{Announces, HasHead, IsWhole, announced, path_of}
use Rattle.fare_http.specs.Serving.{Brings, BringsRefused, BringsTooLittle, BringsWhole}

-- the bytes that were taken stand before those that are left
pub taken-first : (bytes taken : List ℕ) (left : Option (List ℕ)) → Consumes (Some bytes) left taken
    → (back : List ℕ) × (left ≡ Some back) × (bytes ≡ taken ++ back)
taken-first bytes taken None never = absurd never
taken-first bytes taken (Some back) parts = (back, refl, parts)

-- the bytes behind a head leave it as it is
pub head-behind : (taken back rest : List ℕ) (head : RequestHead) → HasHead taken head rest
    → HasHead (taken ++ back) head (rest ++ back)
head-behind taken back rest head has =
    record { reads = ReadsRequest-append taken head rest back has.reads; short = has.short; few = has.few }

-- bytes begin with one head
pub one-head : (bytes rest others : List ℕ) (head other : RequestHead) → HasHead bytes head rest
    → HasHead bytes other others → (other ≡ head) × (others ≡ rest)
one-head bytes rest others head other has also = request_unique bytes other head others rest also.reads has.reads

-- what was taken begins with the head that all bytes begin with
pub head-of-taken : (bytes taken rest others : List ℕ) (left : Option (List ℕ)) (head other : RequestHead)
    → HasHead bytes head rest → Consumes (Some bytes) left taken → HasHead taken other others
    → (other ≡ head) × (back : List ℕ) × (left ≡ Some back) × (others ++ back ≡ rest)
head-of-taken bytes taken rest others left head other has parts also =
    let split = taken-first bytes taken left parts in
    let longer : HasHead bytes other (others ++ split.0) =
    subst (λ all. HasHead all other (others ++ split.0)) (sym split.2) (head-behind taken split.0 others other also) in
    let one = one-head bytes rest (others ++ split.0) head other has longer in
    (one.0, split.0, split.1, one.1)

-- the first of two lists that begin the same is a part of the second
front-of : (front back longer more : List ℕ) → longer ++ more ≡ front ++ back → length front ≤ length longer
    → longer ≡ front ++ drop (length front) longer
front-of front back longer more same short =
    let taken : take (length front) longer ≡ front =
    sym (take-append-le (length front) longer more short) ∙ ap (take (length front)) same ∙ take-append_seam front back in
    sym (take-append-drop (length front) longer) ∙ ap (λ some. some ++ drop (length front) longer) taken

-- bytes that others complete to a head can be continued to one
pub not-bad : (bytes more rest : List ℕ) (head : RequestHead) → HasHead (bytes ++ more) head rest
    → ¬ (Brings (Some bytes) (λ left. NeverHasRequest))
not-bad bytes more rest head has brings =
    let split = taken-first bytes brings.1.0 brings.0 brings.1.1 in
    let reads : ReadsRequest (brings.1.0 ++ (split.0 ++ more)) head rest =
    subst (λ all. ReadsRequest all head rest)
    (ap (λ front. front ++ more) split.2 ∙ append_assoc brings.1.0 split.0 more) has.reads in
    brings.1.2 (split.0 ++ more) head rest reads

-- bytes that others complete to a head within the limits are within them
pub within-limits : (bytes more rest : List ℕ) (head : RequestHead) → HasHead (bytes ++ more) head rest
    → ¬ (Brings (Some bytes) (λ left. IsOverLimit))
within-limits bytes more rest head has brings =
    let taken = brings.1.0 in
    let split = taken-first bytes taken brings.0 brings.1.1 in
    let reads : ReadsRequest (taken ++ (split.0 ++ more)) head rest =
    subst (λ all. ReadsRequest all head rest)
    (ap (λ front. front ++ more) split.2 ∙ append_assoc taken split.0 more) has.reads in
    by-limit taken (split.0 ++ more) reads brings.1.2
  where
    by-limit : (taken behind : List ℕ) → ReadsRequest (taken ++ behind) head rest → ¬ (IsOverLimit taken)
    by-limit taken behind reads (inl full) =
        let fits : length (print_request head) ≤ length taken = omega (arith, full.0, has.short) in
        full.1 head (drop (length (print_request head)) taken)
        (reads.0, front-of (print_request head) rest taken behind reads.1 fits)
    by-limit taken behind reads (inr many) = absurd (omega (arith, many.1 behind head rest reads, has.few))

-- the connection's end isn't reached before the head that its bytes begin with
pub not-early : (bytes rest : List ℕ) (head : RequestHead) → HasHead bytes head rest
    → ¬ (Brings (Some bytes) EndsEarly)
not-early bytes rest head has (None, (taken, parts, early)) = parts
not-early bytes rest head has (Some back, (taken, parts, early)) =
    let all : bytes ≡ taken = parts ∙ ap (λ some. taken ++ some) early.0 ∙ append-nil taken in
    early.1 head rest (subst (λ some. ReadsRequest some head rest) all has.reads)

-- a request that is brought behind a head is that head's: the length is announced, and the body is there
pub record IsRequestBehind (head : RequestHead) (rest : List ℕ) (request : Request) : Type 0 where
  pub count : ℕ
  pub announced : announced head ≡ Ok count
  pub within : count ≤ length rest
  pub method : request.method ≡ head.method
  pub path : request.path ≡ path_of head.target
  pub body : request.body ≡ take count rest

pub whole-behind : (bytes rest : List ℕ) (head : RequestHead) (request : Request) → HasHead bytes head rest
    → BringsWhole (Some bytes) request → IsRequestBehind head rest request
whole-behind bytes rest head request has brings =
    let whole = brings.1.2 in
    let found = head-of-taken bytes brings.1.0 rest whole.rest brings.0 head whole.head has brings.1.1 whole.has_head in
    let back = found.1 in
    record {
      count = whole.count;
      announced = ap announced (sym found.0) ∙ whole.announced;
      within = rw (← found.3) (omega (arith, whole.within, length-append whole.rest back));
      method = whole.method ∙ ap (λ (h : RequestHead). h.method) found.0;
      path = whole.path ∙ ap (λ (h : RequestHead). path_of h.target) found.0;
      body = whole.body ∙ sym (take-append-le whole.count whole.rest back whole.within)
          ∙ ap (take whole.count) found.3;
    }

-- the request of these parts
abbrev request_of : List ℕ → List ℕ → List ℕ → Request
request_of method path body = record { method = method; path = path; body = body }

-- requests of the same parts are the same
same-parts : (one other : Request) → one.method ≡ other.method → one.path ≡ other.path → one.body ≡ other.body
    → one ≡ other
same-parts one other method path body =
    ap (λ some. request_of some one.path one.body) method ∙ ap (λ some. request_of other.method some one.body) path
    ∙ ap (λ some. request_of other.method other.path some) body

-- two requests behind one head are the same
pub one-request : (head : RequestHead) (rest : List ℕ) (request other : Request)
    → IsRequestBehind head rest request → IsRequestBehind head rest other → other ≡ request
one-request head rest request other is also =
    let count : also.count ≡ is.count = cc (is.announced, also.announced) in
    let method : other.method ≡ request.method = also.method ∙ sym is.method in
    let path : other.path ≡ request.path = also.path ∙ sym is.path in
    let body : other.body ≡ request.body = also.body ∙ ap (λ some. take some rest) count ∙ sym is.body in
    same-parts other request method path body

-- a fixed answer to bytes that begin with a head tells what is wrong with the length that it announces
pub refused-behind : (bytes rest : List ℕ) (head : RequestHead) (reply : Reply) → HasHead bytes head rest
    → BringsRefused (Some bytes) reply
    → (fault : BodyFault) × (announced head ≡ Err fault) × SaysFault fault reply
refused-behind bytes rest head reply has (left, (taken, parts, refused)) = by-case refused
  where
    same-fault : (fault : BodyFault) → Announces (Err fault) taken → announced head ≡ Err fault
    same-fault fault announces =
        let found = head-of-taken bytes taken rest announces.1 left head announces.0 has parts announces.2 in
        ap announced (sym found.0) ∙ announces.3

    more-head : HasHead (bytes ++ []) head rest
    more-head = subst (λ some. HasHead some head rest) (sym (append-nil bytes)) has

    by-case : IsRefused reply taken → (fault : BodyFault) × (announced head ≡ Err fault) × SaysFault fault reply
    by-case (bad_head says never) = absurd (not-bad bytes [] rest head more-head (left, (taken, parts, never)))
    by-case (head_limit says over) = absurd (within-limits bytes [] rest head more-head (left, (taken, parts, over)))
    by-case (coded_body says announces) = (Coded, same-fault Coded announces, says)
    by-case (bad_length says announces) = (BadLength, same-fault BadLength announces, says)
    by-case (body_limit says announces) = (TooLong, same-fault TooLong announces, says)

-- bytes that begin with a head and end too early have less behind it than it announces
pub short-behind : (bytes rest : List ℕ) (head : RequestHead) → HasHead bytes head rest → BringsTooLittle (Some bytes)
    → (count : ℕ) × (announced head ≡ Ok count) × (length rest < count)
short-behind bytes rest head has (left, (taken, parts, inl early)) =
    absurd (not-early bytes rest head has (left, (taken, parts, early)))
short-behind bytes rest head has (None, (taken, parts, inr inside)) = absurd parts
short-behind bytes rest head has (Some back, (taken, parts, inr inside)) =
    let found = head-of-taken bytes taken rest inside.2 (Some back) head inside.1 has parts inside.4 in
    let behind : length rest ≡ length inside.2 + length back = by-back (found.1, found.2, found.3) in
    (inside.3, ap announced (sym found.0) ∙ inside.5, omega (arith, inside.6, behind, ap length inside.0))
  where
    by-back : (other : List ℕ) × (Some back ≡ Some other) × (inside.2 ++ other ≡ rest) → length rest ≡ length inside.2 + length back
    by-back (other, same, joined) =
        let one : back ≡ other = cc in rw (one, ← joined) (length-append inside.2 other)

-- bytes that hold a whole request bring it
pub brings-all : (bytes : List ℕ) (request : Request) → IsWhole request bytes → BringsWhole (Some bytes) request
brings-all bytes request whole = (Some [], (bytes, sym (append-nil bytes), whole))

-- bytes without a head that others complete to one have no fixed answer
pub no-refusal : (bytes more rest : List ℕ) (head : RequestHead) (reply : Reply) → HasNoRequest bytes
    → HasHead (bytes ++ more) head rest → ¬ (BringsRefused (Some bytes) reply)
no-refusal bytes more rest head reply none has (left, (taken, parts, refused)) = by-case refused
  where
    no-head : (fault : BodyFault) → ¬ (Announces (Err fault) taken)
    no-head fault announces =
        let split = taken-first bytes taken left parts in
        let longer = head-behind taken split.0 announces.1 announces.0 announces.2 in
        let whole : HasHead bytes announces.0 (announces.1 ++ split.0) =
        subst (λ all. HasHead all announces.0 (announces.1 ++ split.0)) (sym split.2) longer in
        none announces.0 (announces.1 ++ split.0) whole.reads

    by-case : ¬ (IsRefused reply taken)
    by-case (bad_head says never) = not-bad bytes more rest head has (left, (taken, parts, never))
    by-case (head_limit says over) = within-limits bytes more rest head has (left, (taken, parts, over))
    by-case (coded_body says announces) = no-head Coded announces
    by-case (bad_length says announces) = no-head BadLength announces
    by-case (body_limit says announces) = no-head TooLong announces
