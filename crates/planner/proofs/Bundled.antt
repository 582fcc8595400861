-- Placed frames in another order have the same ends and bundles.
use Rattle.std.proofs.Common.{◌≡◌, ◌≢◌, ℕ, ◌+◌, ◌<◌, ◌≤◌, inl, inr, List, Some, AllPairs, length, get_or, subst, arith}
use Rattle.std.specs.Prelude.{Contains, slice_get, IfOk, Result, Ok, Err}
use Rattle.irt_base.specs.declared.memory.NoMemory.{NoMemory}
use Rattle.std.specs.List.Sorted.{IsPermutation, IsNonDecreasingBy}
use Rattle.std.proofs.lemmas.List.Elements.{All-from_recursion, All-contains}
use Rattle.std.proofs.lemmas.List.Sorted.{IsPermutation-sym, Contains-permutation}
use Rattle.irt_base.specs.declared.blocks.Bundle.{Bundle}
use Rattle.irt_base.specs.declared.blocks.Entry.{Entry}
use Rattle.irt_base.specs.declared.blocks.PeriodBlock.{PeriodBlock}
use Rattle.irt_base.specs.declared.blocks.PhasePair.{PhasePair}
use Rattle.irt_base.specs.declared.blocks.PortPeriods.{PortPeriods}
use Rattle.irt_base.specs.declared.limits.TheConstants.{MAX_PORTS}
use Rattle.irt_base.specs.declared.plants.Device.{Device}
use Rattle.irt_base.specs.declared.plants.Plant.{Plant}
use Rattle.plant_rules.specs.Meets.{MeetsRules, IsDevice}
use Rattle.fit_rules.specs.declared.frame_plan.FramePlan.{FramePlan}
use Rattle.fit_rules.specs.Blocks.{AreEntries, IsSentEnd, IsReceivedEnd, IsGreatest, IsPhase, ArePeriods, AreBundlesOf}
use Rattle.plan_blocks.specs.Blocks.{AreLastEnds}
use Rattle.plan_blocks.specs.Bundles.{AreSmallEnds}
use Rattle.plan_blocks.specs.Entries.{AreByFrame}
use Rattle.planner.specs.Steps.{HoldsPlaced}
use Rattle.planner.specs.declared.placed.Placed.{Placed}
use Rattle.planner.proofs.Entries.{contains_at}
use Rattle.planner.proofs.Places.{still_differ, numbers_differ}

greatest_alike : (P Q : ℕ → Type 0) (most : ℕ) → ((x : ℕ) → P x → Q x) → ((x : ℕ) → Q x → P x) → IsGreatest P most → IsGreatest Q most
greatest_alike P Q most there back is = record {
  bound = λ x q. is.bound x (back x q);
  some = elim is.some [ inl p ↦ inl (there most p) | inr (zero_is, none) ↦ inr (zero_is, λ x q. none x (back x q)) ];
}

module _ (plant : Plant) (xs ys : List FramePlan) (into : (p : FramePlan) → Contains xs p → Contains ys p) (back : (p : FramePlan) → Contains ys p → Contains xs p) where
  sent_to : (device port k x : ℕ) → IsSentEnd plant xs device port k x → IsSentEnd plant ys device port k x
  sent_to device port k x is = record { plan = is.plan; e = is.e; w = is.w; placed = into is.plan is.placed; sends = is.sends; due = is.due; is = is.is }

  sent_from : (device port k x : ℕ) → IsSentEnd plant ys device port k x → IsSentEnd plant xs device port k x
  sent_from device port k x is = record { plan = is.plan; e = is.e; w = is.w; placed = back is.plan is.placed; sends = is.sends; due = is.due; is = is.is }

  received_to : (device port k x : ℕ) → IsReceivedEnd plant xs device port k x → IsReceivedEnd plant ys device port k x
  received_to device port k x is = record { plan = is.plan; e = is.e; hop = is.hop; w = is.w; placed = into is.plan is.placed; comes = is.comes; here = is.here; due = is.due; is = is.is }

  received_from : (device port k x : ℕ) → IsReceivedEnd plant ys device port k x → IsReceivedEnd plant xs device port k x
  received_from device port k x is = record { plan = is.plan; e = is.e; hop = is.hop; w = is.w; placed = back is.plan is.placed; comes = is.comes; here = is.here; due = is.due; is = is.is }

  sent_most : (device port k most : ℕ) → IsGreatest (IsSentEnd plant xs device port k) most → IsGreatest (IsSentEnd plant ys device port k) most
  sent_most device port k most = greatest_alike (IsSentEnd plant xs device port k) (IsSentEnd plant ys device port k) most (sent_to device port k) (sent_from device port k)

  received_most : (device port k most : ℕ) → IsGreatest (IsReceivedEnd plant xs device port k) most → IsGreatest (IsReceivedEnd plant ys device port k) most
  received_most device port k most =
      greatest_alike (IsReceivedEnd plant xs device port k) (IsReceivedEnd plant ys device port k) most (received_to device port k) (received_from device port k)

  pub ends_alike : (tx rx : List ℕ) → AreLastEnds plant xs tx rx → AreLastEnds plant ys tx rx
  ends_alike tx rx ends = record {
    sent = λ device port k place. sent_most device port k _ (ends.sent device port k place);
    received = λ device port k place. received_most device port k _ (ends.received device port k place);
  }

  entries_alike : (device : ℕ) (entries : List Entry) → AreEntries xs device entries → AreEntries ys device entries
  entries_alike device entries are = record {
    only = λ e has. let (plan, listed, is) = are.only e has in (plan, into plan listed, is);
    all = λ plan e listed is. are.all plan e (back plan listed) is;
    ascending = are.ascending;
  }

  phase_alike : (device port : ℕ) (p : PortPeriods) (k : ℕ) (pair : PhasePair) → IsPhase plant xs device port p k pair → IsPhase plant ys device port p k pair
  phase_alike device port p k pair is = record {
    one = is.one;
    periods = is.periods;
    named = is.named;
    tx = record { red = is.tx.red; orange = sent_most device port k _ is.tx.orange; green = is.tx.green };
    rx = record { red = is.rx.red; orange = received_most device port k _ is.rx.orange; green = is.rx.green };
  }

  periods_alike : (device : ℕ) (d : Device) (b : PeriodBlock) → ArePeriods plant xs device d b → ArePeriods plant ys device d b
  periods_alike device d b are = record {
    begin = are.begin;
    end = are.end;
    count = are.count;
    ports = λ n p at.
        let own = are.ports n p at in
        record { count = own.count; each = λ k pair there. phase_alike device (n + 1) p k pair (own.each k pair there); numbered = own.numbered };
  }

  pub bundles_alike : (bundles : List Bundle) → AreBundlesOf plant xs bundles → AreBundlesOf plant ys bundles
  bundles_alike bundles are = record {
    count = are.count;
    each = λ device d b held at.
        let is = are.each device d b held at in
        record {
          sync = is.sync;
          slot = is.slot;
          subslot = is.subslot;
          global = is.global;
          mode = is.mode;
          entries = entries_alike device b.frames.entries is.entries;
          periods = periods_alike device d b.periods is.periods;
        };
  }

pub ports_few : (plant : Plant) → MeetsRules plant → (n : ℕ) (d : Device) → slice_get plant.devices n ≡ Some d → length d.ports ≤ MAX_PORTS
ports_few plant rules n d at =
    (All-contains IsDevice plant.devices d (All-from_recursion IsDevice plant.devices rules.devices) (contains_at plant.devices n d at)).port_count.1

pub ends_small : (plant : Plant) (placed : Placed) → MeetsRules plant → HoldsPlaced plant placed → AreSmallEnds plant.orange placed.tx
ends_small plant placed rules holds device port k place =
    let below = holds.small device port k place in
    let fits = rules.periods in
    let most = rules.factor.1 in
    omega (arith, below, fits, most)

module _ (plant : Plant) (placed : Placed) (holds : HoldsPlaced plant placed) (differ : AllPairs (λ (a b : FramePlan). a.frame.0 ≢ b.frame.0) placed.plans)
    (sorted : List FramePlan) (same : IsPermutation placed.plans sorted) (up : IsNonDecreasingBy (λ (p : FramePlan). p.frame.0) sorted) where
  pub by_frame : AreByFrame sorted
  by_frame = record {
    ascending = λ i j d less inside.
        let rises = up i j d (omega (arith, less)) inside in
        let apart = numbers_differ (λ (p : FramePlan). p.frame.0) sorted (still_differ (λ (p : FramePlan). p.frame.0) placed.plans sorted same differ) i j d less inside in
        above (get_or sorted i d).frame.0 (get_or sorted j d).frame.0 rises apart;
    named = λ plan device e has is. (holds.sound plan device e (Contains-permutation sorted placed.plans plan (IsPermutation-sym placed.plans sorted same) has) is).frame;
  }
    where
      above : (a b : ℕ) → a ≤ b → a ≢ b → a < b
      above a b most other = omega arith

  pub sorted_ends : AreLastEnds plant sorted placed.tx placed.rx
  sorted_ends = ends_alike plant placed.plans sorted (λ p. Contains-permutation placed.plans sorted p same)
      (λ p. Contains-permutation sorted placed.plans p (IsPermutation-sym placed.plans sorted same)) placed.tx placed.rx holds.ends

  pub placed_bundles : (bundles : List Bundle) → AreBundlesOf plant sorted bundles → AreBundlesOf plant placed.plans bundles
  placed_bundles = bundles_alike plant sorted placed.plans (λ p. Contains-permutation sorted placed.plans p (IsPermutation-sym placed.plans sorted same))
      (λ p. Contains-permutation placed.plans sorted p same)

-- the same, behind a sort
pub sorted_bundles : (plant : Plant) (placed : Placed) (moved sorted seen : List FramePlan) (r : Result (List Bundle) NoMemory) → HoldsPlaced plant placed →
    AllPairs (λ (a b : FramePlan). a.frame.0 ≢ b.frame.0) placed.plans → moved ≡ placed.plans → IsPermutation moved sorted →
    IsNonDecreasingBy (λ (p : FramePlan). p.frame.0) sorted → seen ≡ sorted →
    (AreLastEnds plant seen placed.tx placed.rx → AreByFrame seen → IfOk r (AreBundlesOf plant seen)) → IfOk r (AreBundlesOf plant placed.plans)
sorted_bundles plant placed moved sorted seen r holds differ first same up second gives =
    let order : IsPermutation placed.plans sorted = subst (λ (xs : List FramePlan). IsPermutation xs sorted) first same in
    let gave = subst (λ (xs : List FramePlan). AreLastEnds plant xs placed.tx placed.rx → AreByFrame xs → IfOk r (AreBundlesOf plant xs)) second gives in
    if_ok r (placed_bundles plant placed holds differ sorted order up) (gave (sorted_ends plant placed holds differ sorted order up) (by_frame plant placed holds differ sorted order up))
  where
    if_ok : (o : Result (List Bundle) NoMemory) → ((bundles : List Bundle) → AreBundlesOf plant sorted bundles → AreBundlesOf plant placed.plans bundles) →
        IfOk o (AreBundlesOf plant sorted) → IfOk o (AreBundlesOf plant placed.plans)
    if_ok (Ok bundles) to is = to bundles is
    if_ok (Err fault) to is = tt
