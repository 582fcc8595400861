-- Reading a whole file: the laws of worlds and of first wrong places.
use Rattle.std.proofs.Common.{◌≡◌, ◌<◌, ◌+◌, ◌-◌, ◌⊎◌, ℕ, zero, suc, List, [], ◌∷◌, ◌++◌, length, All, Result, Ok, Err, refl, sym, ◌∙◌, ap, subst, arith, append_assoc, inl, inr}
use Rattle.std.specs.Prelude.{IfErr, IfOk, IsErrAnd, MatchResult}
use Rattle.std.proofs.lemmas.List.Elements.{All-head, All-tail}
use Rattle.irt_base.specs.declared.blocks.Bundle.{Bundle}
use Rattle.irt_base.specs.declared.plants.Plant.{Plant}
use Rattle.irt_world.specs.Forwardings.{forwardings}
use Rattle.irt_world.specs.Rows.{IsRowOf}
use Rattle.irt_world.specs.declared.rows.Row.{Row}
use Rattle.irt_world.specs.declared.rows.World.{World}
use Rattle.plan_rules.specs.Plan.{IsPlan}
use Rattle.world_file.specs.Text.{IsWorldFile, line_of, line_text, rows_text}
use Rattle.world_file.specs.Wrong.{IsFirstWrong, IsRefusal, IsWrongLine}
use Rattle.world_file.specs.declared.fault.WorldFault.{WorldFault}
use Rattle.world_file.specs.declared.fault.WorldFault.TheVariants.{NoMemory, Refused}
use Rattle.world_file.proofs.OneAnswer.{next_line, row_next, wrong_next}

-- the rows of so many lines, of which the first has a number, or the first wrong line and place
abbrev with_row : Row → Result (List Row) (ℕ × ℕ) → Result (List Row) (ℕ × ℕ)
with_row row (Ok rows) = Ok (row ∷ rows)
with_row row (Err e) = Err e

abbrev and_then : ℕ → Result (Row × List ℕ) ℕ → (List ℕ → Result (List Row) (ℕ × ℕ)) → Result (List Row) (ℕ × ℕ)
and_then line (Ok x) more = with_row x.0 (more x.1)
and_then line (Err place) more = Err (line, place)

walk : Plant → List Bundle → ℕ → ℕ → List ℕ → Result (List Row) (ℕ × ℕ)
walk plant bundles zero line [] = Ok []
walk plant bundles zero line (b ∷ bs) = Err (line, 0)
walk plant bundles (suc count) line bytes = and_then line (next_line plant bundles bytes) (λ rest. walk plant bundles count (line + 1) rest)

walk-none : (plant : Plant) (bundles : List Bundle) (line : ℕ) → walk plant bundles 0 line [] ≡ Ok []
unfolding walk
walk-none plant bundles line = refl

walk-past : (plant : Plant) (bundles : List Bundle) (line : ℕ) (rest : List ℕ) → 0 < length rest → walk plant bundles 0 line rest ≡ Err (line, 0)
unfolding walk
walk-past plant bundles line [] some = absurd (omega arith)
walk-past plant bundles line (b ∷ bs) some = refl

walk-next : (plant : Plant) (bundles : List Bundle) (count line : ℕ) (bytes : List ℕ) →
    walk plant bundles (suc count) line bytes ≡ and_then line (next_line plant bundles bytes) (λ rest. walk plant bundles count (line + 1) rest)
unfolding walk
walk-next plant bundles count line bytes = refl

world_walk : (plant : Plant) (bundles : List Bundle) (rows : List Row) (count line : ℕ) → IsPlan plant bundles → All (IsRowOf plant bundles) rows → length rows ≡ count →
    walk plant bundles count line (rows_text rows) ≡ Ok rows
world_walk plant bundles [] zero line plan fit same = walk-none plant bundles line
world_walk plant bundles [] (suc count) line plan fit same = absurd (omega arith)
world_walk plant bundles (row ∷ rows) zero line plan fit same = absurd (omega arith)
world_walk plant bundles (row ∷ rows) (suc count) line plan fit same =
    walk-next plant bundles count line (rows_text (row ∷ rows))
    ∙ ap (λ r. and_then line r (λ rest. walk plant bundles count (line + 1) rest))
    (row_next plant bundles row (rows_text rows) plan (All-head (IsRowOf plant bundles) row rows fit))
    ∙ ap (with_row row) (world_walk plant bundles rows count (line + 1) plan (All-tail (IsRowOf plant bundles) row rows fit) (omega arith))

wrong_walk : (plant : Plant) (bundles : List Bundle) (rows : List Row) (rest : List ℕ) (count left line next : ℕ) (e : ℕ × ℕ) → IsPlan plant bundles →
    All (IsRowOf plant bundles) rows → length rows + left ≡ count → line + length rows ≡ next → walk plant bundles left next rest ≡ Err e →
    walk plant bundles count line (rows_text rows ++ rest) ≡ Err e
wrong_walk plant bundles [] rest count left line next e plan fit counts lines is =
    let same_count : left ≡ count = omega (arith, counts) in
    let same_line : next ≡ line = omega (arith, lines) in
    subst (λ n. walk plant bundles n line rest ≡ Err e) same_count (subst (λ n. walk plant bundles left n rest ≡ Err e) same_line is)
wrong_walk plant bundles (row ∷ rows) rest zero left line next e plan fit counts lines is = absurd (omega (arith, counts))
wrong_walk plant bundles (row ∷ rows) rest (suc count) left line next e plan fit counts lines is =
    walk-next plant bundles count line (rows_text (row ∷ rows) ++ rest)
    ∙ ap (λ t. and_then line (next_line plant bundles t) (λ u. walk plant bundles count (line + 1) u)) (append_assoc (line_text (line_of row)) (rows_text rows) rest)
    ∙ ap (λ r. and_then line r (λ u. walk plant bundles count (line + 1) u))
    (row_next plant bundles row (rows_text rows ++ rest) plan (All-head (IsRowOf plant bundles) row rows fit))
    ∙ ap (with_row row) (wrong_walk plant bundles rows rest count left (line + 1) next e plan (All-tail (IsRowOf plant bundles) row rows fit)
    (omega (arith, counts)) (omega (arith, lines)) is)

first_walk : (plant : Plant) (bundles : List Bundle) (cycles : ℕ) (bytes : List ℕ) (line place : ℕ) → IsPlan plant bundles →
    IsFirstWrong plant bundles cycles bytes line place → walk plant bundles cycles 1 bytes ≡ Err (line, place)
first_walk plant bundles cycles bytes line place plan w =
    ap (walk plant bundles cycles 1) w.text ∙ go w.wrong where
      go : ((length w.rows < cycles) × IsWrongLine plant (forwardings plant bundles) w.rest place) ⊎ ((length w.rows ≡ cycles) × (0 < length w.rest) × (place ≡ 0)) →
          walk plant bundles cycles 1 (rows_text w.rows ++ w.rest) ≡ Err (line, place)
      go (inl (within, wrong)) =
          wrong_walk plant bundles w.rows w.rest cycles (suc (cycles - (length w.rows + 1))) 1 line (line, place) plan w.before (omega (arith, within)) (omega (arith, w.at))
          (walk-next plant bundles (cycles - (length w.rows + 1)) line w.rest
          ∙ ap (λ r. and_then line r (λ u. walk plant bundles (cycles - (length w.rows + 1)) (line + 1) u)) (wrong_next plant bundles w.rest place plan wrong))
      go (inr (same, some, whole)) =
          wrong_walk plant bundles w.rows w.rest cycles 0 1 line (line, place) plan w.before (omega (arith, same)) (omega (arith, w.at))
          (walk-past plant bundles line w.rest some ∙ ap (λ p. Err (line, p)) (sym whole))

file_walk : (plant : Plant) (bundles : List Bundle) (cycles : ℕ) (bytes : List ℕ) (world : World) → IsPlan plant bundles → IsWorldFile plant bundles cycles bytes world →
    walk plant bundles cycles 1 bytes ≡ Ok world.rows
file_walk plant bundles cycles bytes world plan is = ap (walk plant bundles cycles 1) is.text ∙ world_walk plant bundles world.rows cycles 1 plan is.fits is.count

ok_same : (x y : List Row) → ◌≡◌ {A = Result (List Row) (ℕ × ℕ)} (Ok x) (Ok y) → x ≡ y
ok_same x y same = cc

err_same : (x y : ℕ × ℕ) → ◌≡◌ {A = Result (List Row) (ℕ × ℕ)} (Err x) (Err y) → x ≡ y
err_same x y same = cc

ok_err : (x : List Row) (y : ℕ × ℕ) → ◌≡◌ {A = Result (List Row) (ℕ × ℕ)} (Ok x) (Err y) → ⊥
ok_err x y same = cc

pub one_world : (plant : Plant) (bundles : List Bundle) (cycles : ℕ) (bytes : List ℕ) (world other : World) → IsPlan plant bundles →
    IsWorldFile plant bundles cycles bytes world → IsWorldFile plant bundles cycles bytes other → world ≡ other
one_world plant bundles cycles bytes world other plan is also =
    let same : world.rows ≡ other.rows =
    ok_same world.rows other.rows (sym (file_walk plant bundles cycles bytes world plan is) ∙ file_walk plant bundles cycles bytes other plan also) in
    λ i. record { rows = same i }

pub one_first_wrong : (plant : Plant) (bundles : List Bundle) (cycles : ℕ) (bytes : List ℕ) (line place other_line other_place : ℕ) → IsPlan plant bundles →
    IsFirstWrong plant bundles cycles bytes line place → IsFirstWrong plant bundles cycles bytes other_line other_place → (line ≡ other_line) × (place ≡ other_place)
one_first_wrong plant bundles cycles bytes line place other_line other_place plan is also =
    let same : (line, place) ≡ (other_line, other_place) =
    err_same (line, place) (other_line, other_place) (sym (first_walk plant bundles cycles bytes line place plan is) ∙ first_walk plant bundles cycles bytes other_line other_place plan also) in
    (ap (λ x. x.0) same, ap (λ x. x.1) same)

pub none_wrong_in_a_file : (plant : Plant) (bundles : List Bundle) (cycles : ℕ) (bytes : List ℕ) (world : World) (line place : ℕ) → IsPlan plant bundles →
    IsWorldFile plant bundles cycles bytes world → IsFirstWrong plant bundles cycles bytes line place → ⊥
none_wrong_in_a_file plant bundles cycles bytes world line place plan is wrong =
    ok_err world.rows (line, place) (sym (file_walk plant bundles cycles bytes world plan is) ∙ first_walk plant bundles cycles bytes line place plan wrong)

-- the answer for a file of a world
pub only_answer : (plant : Plant) (bundles : List Bundle) (cycles : ℕ) (bytes : List ℕ) (r : Result World WorldFault) → IsPlan plant bundles →
    IfOk r (IsWorldFile plant bundles cycles bytes) → IfErr r (IsRefusal plant bundles cycles bytes) →
    (world : World) → IsWorldFile plant bundles cycles bytes world → MatchResult r (λ found. found ≡ world) (λ e. e ≡ NoMemory)
only_answer plant bundles cycles bytes (Ok found) plan right wrong world is = one_world plant bundles cycles bytes found world plan right is
only_answer plant bundles cycles bytes (Err NoMemory) plan right wrong world is = refl
only_answer plant bundles cycles bytes (Err (Refused line place)) plan right wrong world is =
    absurd (none_wrong_in_a_file plant bundles cycles bytes world line place plan is wrong)

-- the answer for a file that is wrong
pub exact_answer : (plant : Plant) (bundles : List Bundle) (cycles : ℕ) (bytes : List ℕ) (r : Result World WorldFault) → IsPlan plant bundles →
    IfOk r (IsWorldFile plant bundles cycles bytes) → IfErr r (IsRefusal plant bundles cycles bytes) →
    (line place : ℕ) → IsFirstWrong plant bundles cycles bytes line place → IsErrAnd r (λ e. (e ≡ NoMemory) ⊎ (e ≡ Refused line place))
exact_answer plant bundles cycles bytes (Ok found) plan right wrong line place is = absurd (none_wrong_in_a_file plant bundles cycles bytes found line place plan right is)
exact_answer plant bundles cycles bytes (Err NoMemory) plan right wrong line place is = inl refl
exact_answer plant bundles cycles bytes (Err (Refused at_line at_place)) plan right wrong line place is =
    let (lines, places) = one_first_wrong plant bundles cycles bytes at_line at_place line place plan wrong is in
    inr (ap (λ n. Refused n at_place) lines ∙ ap (λ n. Refused line n) places)
