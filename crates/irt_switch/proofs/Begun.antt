-- Gates that begin a cycle one after another.
use Rattle.std.proofs.Common.{◌≡◌, ◌≢◌, ℕ, ◌+◌, ◌≤◌, ◌<◌, List, length, Some, option_map, slice_get, slice_index_or, get_or, set, sym, ◌∙◌, ap, subst, refl, inl, inr, arith, length-set, get_or-set_same, get_or-set_other}
use Rattle.std.proofs.lemmas.Option.{same_Some, slice_get-get_or, slice_get_past}
use Rattle.std.proofs.lemmas.Bool.{cases_lt}
use Rattle.irt_base.specs.Periods.{period_at}
use Rattle.irt_base.specs.declared.blocks.Bundle.{Bundle}
use Rattle.irt_base.specs.declared.blocks.Period.{Period}
use Rattle.irt_base.specs.declared.blocks.Side.TheVariants.{Tx}
use Rattle.irt_base.specs.declared.plants.Class.{Class}
use Rattle.irt_base.specs.declared.plants.Class.TheVariants.{Orange, Green}
use Rattle.period_gate.specs.declared.queue.TheConstants.{QUEUE_ROOM}
use Rattle.period_gate.specs.Gate.{Waiting, queue_of}
use Rattle.irt_switch.specs.Begin.{HasRoom, begun_gate, parcel_limit, AreBegun}

-- the gates below a place have begun, the others are as they were
pub record AreBegunBelow (bundle : Bundle) (k place : ℕ) (old new : List Waiting) : Type 0 where
  pub count : length new ≡ length old
  pub each : (index : ℕ) (tx : Period) → index < place → period_at bundle.periods (index + 1) k Tx ≡ Some tx →
      slice_get new index ≡ option_map (begun_gate bundle tx) (slice_get old index)
  pub room : (index : ℕ) (w : Waiting) → index < place → slice_get new index ≡ Some w → HasRoom w
  pub others : (index : ℕ) → place ≤ index → slice_get new index ≡ slice_get old index

pub none_begun : (bundle : Bundle) (k : ℕ) (gates : List Waiting) → AreBegunBelow bundle k 0 gates gates
none_begun bundle k gates = record {
  count = refl;
  each = λ index tx below is. absurd (omega arith);
  room = λ index w below is. absurd (omega arith);
  others = λ index from. refl;
}

at_set : (gates : List Waiting) (place index : ℕ) (w : Waiting) → index ≢ place → slice_get (set gates place w) index ≡ slice_get gates index
at_set gates place index w other =
    elim (cases_lt index (length gates)) [
      | inl below ↦
          slice_get-get_or (set gates place w) index w (omega (arith, length-set gates place w))
          ∙ ap Some (get_or-set_other gates place index w w other) ∙ sym (slice_get-get_or gates index w below)
      | inr past ↦ slice_get_past (set gates place w) index (omega (arith, length-set gates place w)) ∙ sym (slice_get_past gates index past)
    ]

at_place : (gates : List Waiting) (place : ℕ) (w : Waiting) → place < length gates → slice_get (set gates place w) place ≡ Some w
at_place gates place w below =
    slice_get-get_or (set gates place w) place w (omega (arith, length-set gates place w)) ∙ ap Some (get_or-set_same gates place w w below)

-- one more gate has begun
pub one_begun : (bundle : Bundle) (k place limit : ℕ) (old new : List Waiting) (tx : Period) (was after : Waiting) → AreBegunBelow bundle k place old new →
    place < length old → period_at bundle.periods (place + 1) k Tx ≡ Some tx → limit ≡ parcel_limit bundle.sync → was ≡ get_or new place was →
    after ≡ record (get_or new place was) { period = tx; limit = limit } → ((kind : Class) → length (queue_of kind after) ≤ QUEUE_ROOM) →
    AreBegunBelow bundle k (place + 1) old (set new place after)
one_begun bundle k place limit old new tx was after h below period is_limit is begun room =
    let count = h.count in
    let here : slice_get old place ≡ Some was =
    sym (h.others place (omega arith)) ∙ slice_get-get_or new place was (omega arith) ∙ ap Some (sym is) in
    let set_here = at_place new place after (omega arith) in
    let gate : after ≡ begun_gate bundle tx was =
    begun ∙ ap (λ (w : Waiting). record w { period = tx; limit = limit }) (sym is) ∙ ap (λ n. record was { period = tx; limit = n }) is_limit in
    record {
      count = length-set new place after ∙ count;
      each = λ index other low at.
          elim (cases_lt index place) [
            | inl less ↦ at_set new place index after (omega arith) ∙ h.each index other less at
            | inr more ↦
                let same : place ≡ index = omega arith in
                let At : ℕ → Type 0 = λ n. period_at bundle.periods (n + 1) k Tx ≡ Some other → slice_get (set new place after) n ≡ option_map (begun_gate bundle other) (slice_get old n) in
                let there : At place = λ given.
                let one : tx ≡ other = same_Some tx other (sym period ∙ given) in
                set_here ∙ ap Some (gate ∙ ap (λ (p : Period). begun_gate bundle p was) one) ∙ sym (ap (option_map (begun_gate bundle other)) here) in
                subst At same there at
          ];
      room = λ index w low at.
          elim (cases_lt index place) [
            | inl less ↦ h.room index w less (sym (at_set new place index after (omega arith)) ∙ at)
            | inr more ↦
                let same : index ≡ place = omega arith in
                let At : ℕ → Type 0 = λ n. slice_get (set new place after) n ≡ Some w in
                let whole : after ≡ w = same_Some after w (sym set_here ∙ subst At same at) in
                subst HasRoom whole (room Orange, room Green)
          ];
      others = λ index from. at_set new place index after (omega arith) ∙ h.others index (omega arith);
    }

pub all_begun : (bundle : Bundle) (k place : ℕ) (old new : List Waiting) → AreBegunBelow bundle k place old new → length new ≤ place → AreBegun bundle k old new
all_begun bundle k place old new h end = record {
  count = h.count;
  each = λ index tx below is. h.each index tx (let c = h.count in omega arith) is;
  room = λ index d below. h.room index (slice_index_or new index d) (omega arith) (slice_get-get_or new index d below);
}
