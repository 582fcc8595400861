-- Any bytes are the file of a world, or have a first wrong line and place.
use Rattle.std.proofs.Common.{◌≡◌, ◌<◌, ◌+◌, ◌⊎◌, ℕ, zero, suc, Bool, true, false, List, [], ◌∷◌, ◌++◌, length, Option, Some, None, Ok, Err, refl, sym, ◌∙◌, ap, arith, inl, inr}
use Rattle.std.proofs.lemmas.List.{append-nil}
use Rattle.irt_base.specs.declared.blocks.Bundle.{Bundle}
use Rattle.irt_base.specs.declared.plants.Plant.{Plant}
use Rattle.irt_world.specs.Forwardings.{forwardings}
use Rattle.irt_world.specs.declared.rows.Row.{Row}
use Rattle.irt_world.specs.declared.rows.World.{World}
use Rattle.plan_rules.specs.Plan.{IsPlan}
use Rattle.world_file.specs.Reading.{empty_draft, line_read, next_place, verdict_of}
use Rattle.world_file.specs.Text.{IsWorldFile, rows_text}
use Rattle.world_file.specs.Wrong.{IsFirstWrong}
use Rattle.world_file.specs.declared.draft.Draft.{Draft}
use Rattle.world_file.specs.declared.fault.WorldFault.TheVariants.{Refused}
use Rattle.world_file.proofs.LineRead.{LineFacts, line_facts, no_line}
use Rattle.world_file.proofs.PlanBounds.{delays_small, few_links}
use Rattle.world_file.proofs.WorldRead.{IsReadTo, refusal_at, row_read}

-- a world, or a first wrong place
abbrev pub HasAnswer : Plant → List Bundle → ℕ → List ℕ → Type 0
HasAnswer plant bundles cycles bytes =
    ((world : World) × IsWorldFile plant bundles cycles bytes world) ⊎ ((line : ℕ) × (place : ℕ) × IsFirstWrong plant bundles cycles bytes line place)

-- all lines are read
at_end : (plant : Plant) (bundles : List Bundle) (cycles : ℕ) (bytes : List ℕ) (rows : List Row) (rest : List ℕ) → IsReadTo plant bundles bytes rows rest cycles →
    HasAnswer plant bundles cycles bytes
at_end plant bundles cycles bytes rows [] read =
    inl (record { rows = rows }, record { count = read.count; fits = read.before; text = read.text ∙ append-nil (rows_text rows) })
at_end plant bundles cycles bytes rows (b ∷ bs) read =
    inr (
      cycles + 1,
      0,
      record {
        rows = rows;
        rest = b ∷ bs;
        at = ap (λ n. n + 1) (sym read.count);
        before = read.before;
        text = read.text;
        wrong = inr (read.count, omega arith, refl);
      },
    )

next_answer : (plant : Plant) (bundles : List Bundle) (cycles : ℕ) (bytes : List ℕ) (rows : List Row) (rest : List ℕ) (cycle : ℕ) → IsReadTo plant bundles bytes rows rest cycle →
    cycle < cycles → (d : Draft) (after : List ℕ) (wrong : Bool) → d.is_wrong ≡ wrong → LineFacts plant (forwardings plant bundles) rest d after →
    ((row : Row) → IsReadTo plant bundles bytes (rows ++ row ∷ []) after (cycle + 1) → HasAnswer plant bundles cycles bytes) → HasAnswer plant bundles cycles bytes
next_answer plant bundles cycles bytes rows rest cycle read within d after true is facts more =
    let verdict : verdict_of (cycle + 1) d ≡ Err (Refused (cycle + 1) (next_place d.row)) = rw is refl in
    inr (
      cycle + 1,
      next_place d.row,
      refusal_at plant bundles bytes rows rest cycle cycles (Refused (cycle + 1) (next_place d.row)) read within
          (facts.refused (cycle + 1) (Refused (cycle + 1) (next_place d.row)) verdict),
    )
next_answer plant bundles cycles bytes rows rest cycle read within d after false is facts more =
    let verdict : verdict_of (cycle + 1) d ≡ Ok d.row = rw is refl in
    more d.row (row_read plant bundles bytes rows (rows ++ d.row ∷ []) d.row rest after cycle refl read (facts.found (cycle + 1) d.row verdict bundles refl))

next_read : (plant : Plant) (bundles : List Bundle) (cycles : ℕ) (bytes : List ℕ) (rows : List Row) (rest : List ℕ) (cycle : ℕ) → IsPlan plant bundles →
    IsReadTo plant bundles bytes rows rest cycle → cycle < cycles → (o : Option (Draft × List ℕ)) →
    line_read plant.devices (forwardings plant bundles) (length plant.links) empty_draft rest ≡ o →
    ((row : Row) (after : List ℕ) → IsReadTo plant bundles bytes (rows ++ row ∷ []) after (cycle + 1) → HasAnswer plant bundles cycles bytes) →
    HasAnswer plant bundles cycles bytes
next_read plant bundles cycles bytes rows rest cycle plan read within None is more =
    inr (
      cycle + 1,
      0,
      refusal_at plant bundles bytes rows rest cycle cycles (Refused (cycle + 1) 0) read within
          (refl, no_line plant (forwardings plant bundles) empty_draft rest is),
    )
next_read plant bundles cycles bytes rows rest cycle plan read within (Some x) is more =
    next_answer plant bundles cycles bytes rows rest cycle read within x.0 x.1 x.0.is_wrong refl
    (line_facts plant (forwardings plant bundles) empty_draft rest x.0 x.1 refl (few_links plant plan.rules) (delays_small plant bundles plan) is)
    (λ row reads. more row x.1 reads)

from_line : (plant : Plant) (bundles : List Bundle) (cycles : ℕ) (bytes : List ℕ) (rows : List Row) (rest : List ℕ) (cycle left : ℕ) → IsPlan plant bundles →
    IsReadTo plant bundles bytes rows rest cycle → cycle + left ≡ cycles → HasAnswer plant bundles cycles bytes
from_line plant bundles cycles bytes rows rest cycle zero plan read all =
    let same : cycle ≡ cycles = omega (arith, all) in
    at_end plant bundles cycles bytes rows rest (record { text = read.text; before = read.before; count = read.count ∙ same })
from_line plant bundles cycles bytes rows rest cycle (suc left) plan read all =
    next_read plant bundles cycles bytes rows rest cycle plan read (omega (arith, all))
    (line_read plant.devices (forwardings plant bundles) (length plant.links) empty_draft rest) refl
    (λ row after reads. from_line plant bundles cycles bytes (rows ++ row ∷ []) after (cycle + 1) left plan reads (omega (arith, all)))

pub right_or_wrong : (plant : Plant) (bundles : List Bundle) (cycles : ℕ) (bytes : List ℕ) → IsPlan plant bundles → HasAnswer plant bundles cycles bytes
right_or_wrong plant bundles cycles bytes plan =
    from_line plant bundles cycles bytes [] bytes 0 cycles plan (record { text = refl; before = λ k d below. absurd (omega arith); count = refl }) (omega arith)
