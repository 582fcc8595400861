use Rattle.std.proofs.Common.{rules, ◌∙◌, sym, ap, refl, arith, nat_lt}
use Rattle.std.specs.Prelude.{is_some}
use Rattle.std.proofs.lemmas.Bool.{ltb-true, ltb-false}
use Rattle.std.proofs.lemmas.List.Sorted.{IsPartitionPoint-from_clause, IsPartitionedBy-ltb}
use Rattle.std.proofs.lemmas.Option.{same_Some, slice_get_read, slice_get_within}
use Rattle.irt_world.proofs.Numbers.{place, number_found, number_missing}
use Rattle.irt_world.proofs.forwardings.number_in.Goals as goal

pub returns-in-Some : goal.returns-in-Some
returns-in-Some c =
    number_found c.args.forwardings.now c.args.device.0 c.args.frame.0 c.place_of-wanted.result c.partition_point-number.result c.in-Some.found.now
    c.requires (search rules) c.place_of-wanted.ensures
    (IsPartitionPoint-from_clause (λ f. nat_lt (place f) c.place_of-wanted.result) c.args.forwardings.now c.partition_point-number.result
    c.partition_point-number.ensures.partitioned
    (IsPartitionedBy-ltb place c.args.forwardings.now c.place_of-wanted.result c.requires.places)
    (λ a r f' called. search rules))
    (slice_get_read _ _ _ _ refl (ltb-true _ _ (sym c.in-Some.ensures.lookup.0)) c.in-Some.ensures.lookup.1)
    (sym c.place_of.ensures ∙ c.if-place_of-wanted.true)

pub returns-in_default : goal.returns-in_default
returns-in_default c =
    number_missing c.args.forwardings.now c.args.device.0 c.args.frame.0 c.place_of-wanted.result c.partition_point-number.result
    c.requires c.place_of-wanted.ensures
    (IsPartitionPoint-from_clause (λ f. nat_lt (place f) c.place_of-wanted.result) c.args.forwardings.now c.partition_point-number.result
    c.partition_point-number.ensures.partitioned
    (IsPartitionedBy-ltb place c.args.forwardings.now c.place_of-wanted.result c.requires.places)
    (λ a r f' called. search rules))
    (λ f is same.
    let found = slice_get_read c.args.forwardings.now _ _ c.in-Some.found.now refl (ltb-true _ _ (sym c.in-Some.ensures.lookup.0)) c.in-Some.ensures.lookup.1 in
    c.if-place_of-wanted.false (c.place_of.ensures ∙ ap place (same_Some _ _ (sym found ∙ is)) ∙ same))

pub returns-in_default-2 : goal.returns-in_default-2
returns-in_default-2 c =
    number_missing c.args.forwardings.now c.args.device.0 c.args.frame.0 c.place_of-wanted.result c.partition_point-number.result
    c.requires c.place_of-wanted.ensures
    (IsPartitionPoint-from_clause (λ f. nat_lt (place f) c.place_of-wanted.result) c.args.forwardings.now c.partition_point-number.result
    c.partition_point-number.ensures.partitioned
    (IsPartitionedBy-ltb place c.args.forwardings.now c.place_of-wanted.result c.requires.places)
    (λ a r f' called. search rules))
    (λ f is same.
    let within = slice_get_within c.args.forwardings.now c.partition_point-number.result f is in
    let past = ltb-false _ _ (sym c.get.ensures.lookup.0 ∙ ap is_some c.in_default.is) in
    omega (arith, within, past))
