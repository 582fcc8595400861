-- A table of demands, filled from the last.
use Rattle.std.proofs.Common.{◌≡◌, ◌<◌, ◌≤◌, ◌-◌, ◌==◌, ℕ, zero, suc, inl, inr, List, [], ◌∷◌, Option, Some, None, length, get_or, set, drop, slice_get, find, option_and_then, refl, sym, ◌∙◌, ap, subst, arith}
use Rattle.std.proofs.lemmas.Bool.{cases_eq, eq-eqb, ne_eqb}
use Rattle.std.proofs.lemmas.List.{get_or-set_other, get_or-set_same}
use Rattle.std.proofs.lemmas.List.{length-set}
use Rattle.std.proofs.lemmas.Option.{none-some, same_Some, slice_get_within, slice_get_read, get_or_from_slice_get}
use Rattle.std.proofs.lemmas.List.Elements.{All-from_recursion}
use Rattle.plant_rules.specs.Meets.{MeetsRules, IsDemand}
use Rattle.irt_base.specs.declared.plants.Plant.{Plant}
use Rattle.irt_base.specs.declared.plants.Demand.{Demand}

-- the demand that has a frame, from a number on
abbrev pub demand_from : List Demand → ℕ → ℕ → Option Demand
demand_from demands number frame = find (λ (d : Demand). d.frame.0 == frame) (drop number demands)

-- the table as it is filled
pub record AreFilled (demands : List Demand) (number room : ℕ) (numbers : List (Option ℕ)) : Type 0 where
  pub within : number ≤ length demands
  pub room_is : length numbers ≡ room
  pub each : (frame : ℕ) → option_and_then (slice_get demands) (get_or numbers frame None) ≡ demand_from demands number frame

drop_at : (demands : List Demand) (i : ℕ) (d : Demand) → slice_get demands i ≡ Some d → drop i demands ≡ d ∷ drop (suc i) demands
drop_at [] i d at = absurd (none-some d at)
drop_at (e ∷ es) zero d at = rw (same_Some e d at) refl
drop_at (e ∷ es) (suc i) d at = drop_at es i d at

pub filled_more : (demands : List Demand) (number i room : ℕ) (numbers after : List (Option ℕ)) (d : Demand) → AreFilled demands number room numbers
    → number ≡ suc i → slice_get demands i ≡ Some d → d.frame.0 < room → after ≡ set numbers d.frame.0 (Some i) → AreFilled demands i room after
filled_more demands number i room numbers after d filled is at fits set_is =
    record {
      within = omega (arith, filled.within);
      room_is = rw set_is (length-set numbers d.frame.0 (Some i) ∙ filled.room_is);
      each = λ frame.
          let rest : demand_from demands i frame ≡ find (λ (e : Demand). e.frame.0 == frame) (d ∷ drop (suc i) demands) =
          ap (λ (xs : List Demand). find (λ (e : Demand). e.frame.0 == frame) xs) (drop_at demands i d at) in
          rw (set_is, rest) elim (cases_eq d.frame.0 frame) [
            | inl same ↦
                let read : get_or (set numbers d.frame.0 (Some i)) frame None ≡ Some i =
                subst (λ (f : ℕ). get_or (set numbers d.frame.0 (Some i)) f None ≡ Some i) same
                (get_or-set_same numbers d.frame.0 (Some i) None (omega (arith, filled.room_is))) in
                rw (read, eq-eqb d.frame.0 frame same) at
            | inr other ↦
                rw (get_or-set_other numbers d.frame.0 frame (Some i) None (λ e. other (sym e)), ne_eqb d.frame.0 frame other)
                (subst (λ (n : ℕ). option_and_then (slice_get demands) (get_or numbers frame None) ≡ demand_from demands n frame) is (filled.each frame))
          ];
    }

small_frame : (plant : Plant) (i : ℕ) (d : Demand) → MeetsRules plant → slice_get plant.demands i ≡ Some d → d.frame.0 < 1792
small_frame plant i d rules at =
    let is : IsDemand plant d =
    subst (IsDemand plant) (get_or_from_slice_get plant.demands i d d at)
    (All-from_recursion (IsDemand plant) plant.demands rules.demands i d (slice_get_within plant.demands i d at)) in
    omega (arith, is.frame.1)

pub filled_step : (plant : Plant) (demands : List Demand) (number : ℕ) (numbers after : List (Option ℕ)) (d : Demand) (frame : ℕ) → MeetsRules plant
    → AreFilled plant.demands number 1792 numbers → 0 < number → demands ≡ plant.demands → d ≡ get_or demands (number - 1) d
    → frame ≡ (get_or demands (number - 1) d).frame.0 → after ≡ set numbers frame (Some (number - 1))
    → AreFilled plant.demands (number - 1) 1792 after
filled_step plant demands number numbers after d frame rules filled some same item frame_is set_is =
    let at : slice_get plant.demands (number - 1) ≡ Some d =
    slice_get_read plant.demands (length plant.demands) (number - 1) d refl (omega (arith, filled.within))
    (item ∙ ap (λ (xs : List Demand). get_or xs (number - 1) d) same) in
    let named : frame ≡ d.frame.0 = frame_is ∙ ap (λ (x : Demand). x.frame.0) (sym item) in
    filled_more plant.demands number (number - 1) 1792 numbers after d filled (omega arith) at (small_frame plant (number - 1) d rules at)
    (set_is ∙ ap (λ (f : ℕ). set numbers f (Some (number - 1))) named)
