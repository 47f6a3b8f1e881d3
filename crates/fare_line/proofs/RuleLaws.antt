-- The rule and the tag of a fare, as they are read.
use Rattle.std.proofs.Common.{◌≡◌, ◌∙◌, ◌<◌, ◌≤◌, ◌+◌, ℕ, Bool, true, false, ◌&&◌, List, [], ◌∷◌, ◌++◌, length, nat_lt, nat_le, Option, Some, None, codes, refl, sym, ap, subst, arith, append_assoc, append-nil, length-append}
use Rattle.std.proofs.lemmas.Bool.{ltb-true, lt-ltb, leb-true, le-leb}
use Rattle.std.specs.List.{list_all}
use Rattle.fare_codes.specs.Codes.{is_carrier, is_rule_id, is_code_character}
use Rattle.fare_codes.specs.Words.{cabin_text, kind_text}
use Rattle.fare_codes.specs.declared.cabin.Cabin.{Cabin}
use Rattle.fare_codes.specs.declared.cabin.Cabin.TheVariants.{F}
use Rattle.fare_codes.specs.declared.kind.Kind.{Kind}
use Rattle.fare_codes.specs.declared.kind.Kind.TheVariants.{OW}
use Rattle.fare_codes.specs.declared.rule_id.RuleId.{RuleId}
use Rattle.fare_line.specs.declared.reading.marks.Tag.{Tag}
use Rattle.fare_line.specs.Line.{is_rule}
use Rattle.fare_line.specs.LineText.{rule_text, tag_text}
use Rattle.fare_line.specs.reader.Reading.{scan, carrier_at}
use Rattle.fare_line.specs.reader.Pieces.{with_character, rule_of, rule_at, class_at, kind_at, tag_at}
use Rattle.fare_line.proofs.Readers.{Reads, same}
use Rattle.fare_line.proofs.Words.{Mapped, IsScanned, EndsAt, both_tests, mapped, none_is_not_some, reads_scanned, some_is, steps, steps_go, steps_none}
use Rattle.fare_line.proofs.Amounts.{IsText}
use Rattle.fare_line.proofs.Chains.{chain4}
use Rattle.fare_line.proofs.CodeLaws.{reads_carrier, reads_class, reads_kind}

-- one character more
character_taken : (id : List ℕ) (byte : ℕ) → is_code_character byte ≡ true → length id < 8 → with_character id byte ≡ Some (id ++ byte ∷ [])
character_taken id byte code short = rw (code, lt-ltb (length id) 8 short) refl

character_parts : (id : List ℕ) (byte : ℕ) (next : List ℕ) → with_character id byte ≡ Some next → (is_code_character byte ≡ true) × (length id < 8) × (next ≡ id ++ byte ∷ [])
character_parts id byte next h = go (is_code_character byte) refl (nat_lt (length id) 8) refl
  where
    go : (a : Bool) → is_code_character byte ≡ a → (b : Bool) → nat_lt (length id) 8 ≡ b → (is_code_character byte ≡ true) × (length id < 8) × (next ≡ id ++ byte ∷ [])
    go true e true f = (e, ltb-true (length id) 8 f, sym (some_is (id ++ byte ∷ []) next (rw (e, f) at h)))
    go true e false f = absurd (none_is_not_some next (rw (e, f) at h))
    go false e b f = absurd (none_is_not_some next (rw e at h))

-- characters that lead from one id to another
characters_lead : (bytes id out : List ℕ) → steps with_character id bytes ≡ Some out
    → (list_all is_code_character bytes ≡ true) × (out ≡ id ++ bytes) × (length id ≤ 8 → length out ≤ 8)
characters_lead [] id out h = (refl, sym (some_is id out h) ∙ sym (append-nil id), λ short. (let same_id = ap length (some_is id out h) in omega arith))
characters_lead (byte ∷ bytes) id out h = go (λ next e. characters_lead bytes next out (sym (steps_go with_character id byte next bytes e) ∙ h)) (with_character id byte) refl
  where
    go : ((next : List ℕ) → with_character id byte ≡ Some next → (list_all is_code_character bytes ≡ true) × (out ≡ next ++ bytes) × (length next ≤ 8 → length out ≤ 8))
        → (o : Option (List ℕ)) → with_character id byte ≡ o → (list_all is_code_character (byte ∷ bytes) ≡ true) × (out ≡ id ++ byte ∷ bytes) × (length id ≤ 8 → length out ≤ 8)
    go others None e = absurd (none_is_not_some out (sym (steps_none with_character id byte bytes e) ∙ h))
    go others (Some next) e =
        let parts = character_parts id byte next e in
        let rest = others next e in
        let all : list_all is_code_character (byte ∷ bytes) ≡ true = rw (parts.0, rest.0) refl in
        let size : length next ≡ length id + 1 = ap length parts.2 ∙ length-append id (byte ∷ []) in
        (all, rest.1 ∙ ap (λ (t : List ℕ). t ++ bytes) parts.2 ∙ append_assoc id (byte ∷ []) bytes, λ short. rest.2 (let below = parts.1 in omega arith))

lead_characters : (bytes id : List ℕ) → list_all is_code_character bytes ≡ true → length id + length bytes ≤ 8 → steps with_character id bytes ≡ Some (id ++ bytes)
lead_characters [] id all short = ap (λ (t : List ℕ). Some t) (sym (append-nil id))
lead_characters (byte ∷ bytes) id all short =
    let tests = both_tests (is_code_character byte) (list_all is_code_character bytes) all in
    let size : length (id ++ byte ∷ []) ≡ length id + 1 = length-append id (byte ∷ []) in
    steps_go with_character id byte (id ++ byte ∷ []) bytes (character_taken id byte tests.0 (omega arith))
    ∙ lead_characters bytes (id ++ byte ∷ []) tests.1 (omega arith) ∙ ap (λ (t : List ℕ). Some t) (append_assoc id (byte ∷ []) bytes)

slash_ends : EndsAt with_character 47
slash_ends id = refl

-- what an id says
pub id_parts : (id : List ℕ) → is_rule_id id ≡ true → (1 ≤ length id) × (length id ≤ 8) × (list_all is_code_character id ≡ true)
id_parts id h =
    let last = both_tests (nat_le 1 (length id) && nat_le (length id) 8) (list_all is_code_character id) h in
    let first = both_tests (nat_le 1 (length id)) (nat_le (length id) 8) last.0 in
    (leb-true 1 (length id) first.0, leb-true (length id) 8 first.1, last.1)

id_from : (id : List ℕ) → 1 ≤ length id → length id ≤ 8 → list_all is_code_character id ≡ true → is_rule_id id ≡ true
id_from id some short all = rw (le-leb 1 (length id) some, le-leb (length id) 8 short, all) refl

-- a rule with its slash
abbrev pub slashed : Option RuleId → List ℕ
slashed rule = rule_text rule ++ codes "/"

pub reads_rule : Reads (IsText is_rule slashed) rule_at
unfolding rule_at
reads_rule =
    same (Mapped (IsScanned with_character 47 []) rule_of) (IsText is_rule slashed) rule_at
    (mapped (IsScanned with_character 47 []) rule_of (scan with_character 47 []) (reads_scanned with_character 47 slash_ends []))
    (λ rule text m.
    let lead = characters_lead m.is.bytes [] m.origin m.is.leads in
    let all : list_all is_code_character m.origin ≡ true = subst (λ (t : List ℕ). list_all is_code_character t ≡ true) (sym lead.1) lead.0 in
    let short : length m.origin ≤ 8 = lead.2 (omega arith) in
    to m.origin rule text all short m.value (m.is.whole ∙ ap (λ (t : List ℕ). t ++ 47 ∷ []) (sym lead.1)))
    (λ rule text h. from rule text h)
  where
    to : (id : List ℕ) (rule : Option RuleId) (text : List ℕ) → list_all is_code_character id ≡ true → length id ≤ 8 → rule ≡ rule_of id → text ≡ id ++ 47 ∷ [] → IsText is_rule slashed rule text
    to [] rule text all short value whole = record { valid = ap is_rule value; spelled = whole ∙ ap slashed (sym value) }
    to (first ∷ others) rule text all short value whole = record { valid = ap is_rule value ∙ id_from (first ∷ others) (omega arith) short all; spelled = whole ∙ ap slashed (sym value) }

    from_id : (id : List ℕ) (text : List ℕ) → is_rule_id id ≡ true → text ≡ id ++ 47 ∷ [] → Mapped (IsScanned with_character 47 []) rule_of (Some id) text
    from_id [] text h whole = absurd (omega (arith, (id_parts [] h).0))
    from_id (first ∷ others) text h whole =
        let parts = id_parts (first ∷ others) h in
        record { origin = first ∷ others; is = record { bytes = first ∷ others; leads = lead_characters (first ∷ others) [] parts.2 (omega (arith, parts.1)); whole = whole }; value = refl }

    from : (rule : Option RuleId) (text : List ℕ) → IsText is_rule slashed rule text → Mapped (IsScanned with_character 47 []) rule_of rule text
    from None text h = record { origin = []; is = record { bytes = []; leads = refl; whole = h.spelled }; value = refl }
    from (Some id) text h = from_id id text h.valid h.spelled

-- a tag with its slash
abbrev pub is_tag : Tag → Bool
is_tag tag = is_carrier tag.carrier && is_rule tag.rule

abbrev pub slashed_tag : Tag → List ℕ
slashed_tag tag = tag_text tag.carrier tag.class tag.kind tag.rule ++ codes "/"

pub reads_tag : Reads (IsText is_tag slashed_tag) tag_at
unfolding tag_at
reads_tag =
    chain4 is_carrier (λ (c : List ℕ). c) (λ (c : Cabin). true) cabin_text (λ (k : Kind). true) kind_text is_rule slashed
    (λ (carrier : List ℕ) (class : Cabin) (kind : Kind) (rule : Option RuleId). record { carrier = carrier; class = class; kind = kind; rule = rule }) (IsText is_tag slashed_tag)
    carrier_at class_at kind_at rule_at reads_carrier reads_class reads_kind reads_rule F refl OW refl None refl
    (λ a b c d x y z w. record { valid = rw (x, w) refl; spelled = regroup a (cabin_text b) (kind_text c) (rule_text d) (codes "/") })
    (λ tag text h. let tests = both_tests (is_carrier tag.carrier) (is_rule tag.rule) h.valid in record {
      a = tag.carrier;
      b = tag.class;
      c = tag.kind;
      d = tag.rule;
      a_is = tests.0;
      b_is = refl;
      c_is = refl;
      d_is = tests.1;
      value = refl;
      whole = h.spelled ∙ sym (regroup tag.carrier (cabin_text tag.class) (kind_text tag.kind) (rule_text tag.rule) (codes "/"));
    })
  where
    regroup : (a b c d e : List ℕ) → a ++ (b ++ (c ++ (d ++ e))) ≡ (((a ++ b) ++ c) ++ d) ++ e
    regroup a b c d e = sym (simp append_assoc)
