-- before the pass, one key more, and after the pass
use Rattle.std.proofs.Common.{◌≡◌, ◌-◌, ◌+◌, ◌<◌, ◌∙◌, None, true, ap, rules, length, replicate, subst, sym, arith}
use Rattle.std.proofs.lemmas.List.{length-map, length-set}
use Rattle.fare_index.specs.Hashed.{hash_of}
use Rattle.fare_index.specs.Slots.{slot_by, slot_count}
use Rattle.fare_index.proofs.HashedKeys.{hash_at, key_at}
use Rattle.fare_index.proofs.Passed.{IsPassed, passed_all, passed_more, passed_none}
use Rattle.fare_index.proofs.places.places_by.Goals as goal

pub loop-place-init : goal.loop-place-init
loop-place-init c =
    let many_heads : length c.in_ok-heads.heads.items ≡ slot_count c.args.slots = omega (arith, c.in_ok-heads.ensures.len, c.in_ok-heads.heads.ok, c.count.ensures) in
    let many_links : length c.in_ok-links.links.items ≡ length c.args.hashes.now = omega (arith, c.in_ok-links.ensures.len, c.in_ok-links.links.ok) in
    let many_leads : length c.in_ok-leads.leads.items ≡ length c.args.hashes.now + 1 = omega (arith, c.in_ok-leads.ensures.len, c.in_ok-leads.leads.ok) in
    let empty : c.in_ok-heads.heads.items ≡ replicate (slot_count c.args.slots) None = search rules in
    let all : c.in_ok-leads.leads.items ≡ replicate (length c.args.hashes.now + 1) true = search rules in
    record {
      many_heads = many_heads;
      many_links = many_links;
      many_leads = many_leads;
      passed = λ keys hashed.
          let as_many : length c.args.hashes.now ≡ length keys = ap length hashed ∙ length-map keys hash_of in
          subst (λ n. IsPassed c.args.slots keys n c.in_ok-heads.heads.items c.in_ok-links.links.items c.in_ok-leads.leads.items) (sym as_many)
          (passed_none c.args.slots keys c.in_ok-heads.heads.items c.in_ok-links.links.items c.in_ok-leads.leads.items empty many_heads
          (many_links ∙ as_many) (many_leads ∙ ap (λ n. n + 1) as_many) (all ∙ ap (λ n. replicate (n + 1) true) as_many));
    }

pub loop-place-preserved : goal.loop-place-preserved
loop-place-preserved c =
    let place = c.loop-place.place - 1 in
    let was = c.loop-place.invariant in
    record {
      many_heads = length-set c.loop-place.heads.items c.by-slot.result c.to.result ∙ was.many_heads;
      many_links = length-set c.loop-place.links.items place c.index-later.result.now ∙ was.many_links;
      many_leads = c.follow.ensures.same_length ∙ was.many_leads;
      passed = λ keys hashed.
          let as_many : length c.args.hashes.now ≡ length keys = ap length hashed ∙ length-map keys hash_of in
          let within : place < length keys = omega (arith, c.loop-place-test.true, c.loop-place.auto.place, as_many) in
          let there = key_at keys place within in
          let hash = hash_at keys c.args.hashes.now place there.0 hashed within there.1 in
          passed_more c.args.slots keys c.loop-place.place place c.by-slot.result there.0 _ _ _ _ _ _
          (omega (arith, c.loop-place-test.true)) within there.1 (c.by-slot.ensures.slot ∙ ap (slot_by c.args.slots) hash) c.by-slot.ensures.within c.to.ensures c.index-later.ensures
          c.follow.ensures.same_length c.follow.ensures.leads c.follow.ensures.others (was.passed keys hashed);
    }

pub returns : goal.returns
returns c = λ keys hashed. passed_all keys c.loop-place.place _ (omega (arith, c.loop-place-test.false)) c.requires.some_slot (c.loop-place.invariant.passed keys hashed)
