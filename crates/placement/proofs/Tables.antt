-- A slot added to one table.
use Rattle.std.proofs.Common.{◌≡◌, ◌+◌, ◌-◌, ◌<◌, ◌≤◌, ◌⊎◌, ℕ, inl, inr, List, [], length, get_or, set, sym, ◌∙◌, ap, subst, arith}
use Rattle.std.specs.Prelude.{Contains, insert, Result, Ok, Err, OnOk}
use Rattle.irt_base.specs.declared.memory.NoMemory.{NoMemory}
use Rattle.std.proofs.lemmas.Bool.{cases_lt, cases_eq}
use Rattle.std.proofs.lemmas.List.{get_or-set_same, get_or-set_other, get_or_default}
use Rattle.std.proofs.lemmas.List.Edits.{length-insert, get_or-insert_below, get_or-insert_at, get_or-insert_above}
use Rattle.gap_table.specs.Slots.{IsInserted}
use Rattle.gap_table.specs.declared.slot.Slot.{Slot}
use Rattle.placement.specs.Tables.{IsPlace, IsHere, Adds, place_of, table_at}
use Rattle.placement.specs.declared.gaps.TheConstants.{TABLES}

-- what an insertion leaves
module _ {X : Type 0} (xs : List X) (i : ℕ) (y : X) (inside : i ≤ length xs) where
  pub has_new : Contains (insert xs i y) y
  has_new =
      let long = length-insert xs i y inside in
      (i, omega (arith, long, inside), get_or-insert_at xs i y y inside)

  pub has_old : (x : X) → Contains xs x → Contains (insert xs i y) x
  has_old x (k, within, is) =
      let long = length-insert xs i y inside in
      elim (cases_lt k i) [
        | inl less ↦ (k, omega (arith, long, within), get_or-insert_below xs i y x k less inside ∙ is)
        | inr more ↦ (k + 1, omega (arith, long, within), get_or-insert_above xs i y x k more inside ∙ is)
      ]

  pub has_no_more : (x : X) → Contains (insert xs i y) x → Contains xs x ⊎ (x ≡ y)
  has_no_more x (k, within, is) =
      let long = length-insert xs i y inside in
      elim (cases_lt k i) [
        | inl less ↦ inl (k, omega (arith, less, inside), sym (get_or-insert_below xs i y x k less inside) ∙ is)
        | inr more ↦ elim (cases_eq k i) [
          | inl same ↦ inr (sym is ∙ ap (λ (n : ℕ). get_or (insert xs i y) n x) same ∙ get_or-insert_at xs i y x inside)
          | inr other ↦
              let next : k ≡ (k - 1) + 1 = omega (arith, more, other) in
              inl (
                k - 1,
                omega (arith, more, other, long, within),
                sym (ap (λ (n : ℕ). get_or (insert xs i y) n x) next ∙ get_or-insert_above xs i y x (k - 1) (omega (arith, more, other)) inside) ∙ is,
              )
        ]
      ]

-- different places have different tables
pub places_differ : (d p j device port k : ℕ) → IsPlace d p j → IsPlace device port k → place_of d p j ≡ place_of device port k →
    (d ≡ device) × (p ≡ port) × (j ≡ k)
places_differ d p j device port k first second same = (
  omega (arith, first.port_in, first.phase_in, second.port_in, second.phase_in, same),
  omega (arith, first.port_in, first.phase_in, second.port_in, second.phase_in, same),
  omega (arith, first.port_in, first.phase_in, second.port_in, second.phase_in, same),
)

pub inside_tables : (device port k : ℕ) → IsPlace device port k → place_of device port k < TABLES
inside_tables device port k is = omega (arith, is.device_in, is.port_in, is.phase_in)

module _ (tables : List (List Slot)) (device port k : ℕ) (slot : Slot) (table : List Slot) (count : length tables ≡ TABLES) (here : IsPlace device port k)
    (at : IsInserted slot (table_at tables device port k) table) where
  own : table_at (set tables (place_of device port k) table) device port k ≡ table
  own = get_or-set_same tables (place_of device port k) table [] (omega (arith, inside_tables device port k here, count))

  pub one_more_slot : Adds (IsHere device port k slot) tables (set tables (place_of device port k) table)
  one_more_slot = record {
    only = λ d p j s there has. elim (cases_eq (place_of d p j) (place_of device port k)) [
      | inl same ↦
          let are = places_differ d p j device port k there here same in
          let moved : Contains (insert (table_at tables device port k) at.place slot) s =
          subst (λ xs. Contains xs s) (ap (λ (n : ℕ). get_or (set tables (place_of device port k) table) n []) same ∙ own ∙ at.is) has in
          elim (has_no_more (table_at tables device port k) at.place slot at.inside s moved) [
            | inl old ↦ inl (subst (λ (n : ℕ). Contains (get_or tables n []) s) (sym same) old)
            | inr is ↦ inr (record { device_is = are.0; port_is = are.1; phase_is = are.2; slot_is = is })
          ]
      | inr other ↦ inl (subst (λ xs. Contains xs s) (get_or-set_other tables (place_of device port k) (place_of d p j) table [] other) has)
    ];
    keeps = λ d p j s there has. elim (cases_eq (place_of d p j) (place_of device port k)) [
      | inl same ↦
          let old : Contains (table_at tables device port k) s = subst (λ (n : ℕ). Contains (get_or tables n []) s) same has in
          subst (λ xs. Contains xs s) (sym (ap (λ (n : ℕ). get_or (set tables (place_of device port k) table) n []) same ∙ own ∙ at.is))
          (has_old (table_at tables device port k) at.place slot at.inside s old)
      | inr other ↦ subst (λ xs. Contains xs s) (sym (get_or-set_other tables (place_of device port k) (place_of d p j) table [] other)) has
    ];
    adds = λ d p j s there is.
        let same : place_of d p j ≡ place_of device port k = omega (arith, is.device_is, is.port_is, is.phase_is) in
        subst (λ (x : Slot). Contains (table_at (set tables (place_of device port k) table) d p j) x) (sym is.slot_is)
        (subst (λ xs. Contains xs slot) (sym (ap (λ (n : ℕ). get_or (set tables (place_of device port k) table) n []) same ∙ own ∙ at.is))
        (has_new (table_at tables device port k) at.place slot at.inside));
  }

pub added : (r : Result (Unit {0}) NoMemory) (tables : List (List Slot)) (device port k at : ℕ) (slot : Slot) (old table : List Slot) →
    length tables ≡ TABLES → IsPlace device port k → at ≡ place_of device port k → old ≡ get_or tables at old →
    OnOk r (IsInserted slot old table) → OnOk r (Adds (IsHere device port k slot) tables (set tables at table))
added (Ok _) tables device port k at slot old table count here is was inserted =
    subst (λ (n : ℕ). Adds (IsHere device port k slot) tables (set tables n table)) (sym is)
    (one_more_slot tables device port k slot table count here (subst (λ (x : List Slot). IsInserted slot x table) read inserted))
  where
    read : old ≡ table_at tables device port k
    read =
        was ∙ get_or_default tables at old [] (omega (arith, is, inside_tables device port k here, count)) ∙ ap (λ (n : ℕ). get_or tables n []) is
added (Err _) tables device port k at slot old table count here is was inserted = tt
