-- The numbers that words ask for are in their ranges.
use Rattle.std.proofs.Common.{◌≡◌, ℕ, Bool, true, false, ◌&&◌, nat_le, List, codes, Option, Some, None, refl, arith}
use Rattle.std.specs.Prelude.{bytes_eq, is_some, option_and_then, if◌then◌else◌}
use Rattle.std.proofs.lemmas.Bool.Decides.{nat_tests}
use Rattle.clap.specs.Walk.{Row, first_of}
use Rattle.clap.specs.Words.{fault_of, subcommand_of}
use Rattle.irt_base.specs.Valid.{IsWithin}
use Rattle.irt_base.specs.declared.limits.TheConstants.{MAX_CYCLES, MAX_DEVICES, MAX_DEMANDS}
use Rattle.irt_words.specs.Asked.{as_number, as_number, as_within, asked_of, check_in, command_in, cycles_in, file_in, found_command, free_in, gen_in, is_free_of, number_in, plan_in, run_in, run_seed_in, run_world_in, seed_in, show_in, sync_in}
use Rattle.irt_words.specs.Commands.{Command, plan, check, show, sync, run, run_world, gen, free}
use Rattle.irt_words.specs.Grammar.{irt_app}
use Rattle.irt_words.specs.declared.asked.TheConstants.{MIN_GENERATED}
use Rattle.irt_top.specs.Commands.{HasRanges, calm_of}

bind_ranged : {A : Type 0} (o : Option A) (f : A → Option Command) → ((x : A) → HasRanges (f x)) → HasRanges (option_and_then f o)
bind_ranged None f each = tt
bind_ranged (Some x) f each = each x

if_ranged : (b : Bool) (one other : Option Command) → HasRanges one → HasRanges other → HasRanges (if b then one else other)
if_ranged true one other few more = few
if_ranged false one other few more = more

guard_ranged : (b : Bool) (n : ℕ) (f : ℕ → Option Command) → (b ≡ true → HasRanges (f n)) → HasRanges (option_and_then f (if b then Some n else None))
guard_ranged true n f each = each refl
guard_ranged false n f each = tt

within_of : (least most n : ℕ) → nat_le least n && nat_le n most ≡ true → IsWithin least most n
within_of least most n is = grind (arith, nat_tests)

within_ranged : (least most : ℕ) (o : Option ℕ) (f : ℕ → Option Command) → ((n : ℕ) → IsWithin least most n → HasRanges (f n)) →
    HasRanges (option_and_then f (option_and_then (as_within least most) o))
within_ranged least most None f each = tt
within_ranged least most (Some n) f each = guard_ranged (nat_le least n && nat_le n most) n f (λ is. each n (within_of least most n is))

number_ranged : (word : List ℕ) (least most : ℕ) (rows : List Row) (f : ℕ → Option Command) → ((n : ℕ) → IsWithin least most n → HasRanges (f n)) →
    HasRanges (option_and_then f (number_in word least most rows))
number_ranged word least most rows f each = within_ranged least most (option_and_then as_number (first_of word rows)) f each

cycles_ranged : (rows : List Row) (f : ℕ → Option Command) → ((n : ℕ) → IsWithin 1 MAX_CYCLES n → HasRanges (f n)) → HasRanges (option_and_then f (cycles_in rows))
cycles_ranged rows f each = number_ranged (codes "cycles") 1 MAX_CYCLES rows f each

-- a plant, cycles and a seed
seeded_ranged : (rows : List Row) (made : List ℕ → ℕ → ℕ → Option Command) → ((plant : List ℕ) (cycles seed : ℕ) → IsWithin 1 MAX_CYCLES cycles → HasRanges (made plant cycles seed)) →
    HasRanges (option_and_then (λ plant. option_and_then (λ cycles. option_and_then (λ seed. made plant cycles seed) (seed_in rows)) (cycles_in rows)) (file_in (codes "plant") rows))
seeded_ranged rows made each =
    bind_ranged (file_in (codes "plant") rows) (λ plant. option_and_then (λ cycles. option_and_then (λ seed. made plant cycles seed) (seed_in rows)) (cycles_in rows))
    (λ plant. cycles_ranged rows (λ cycles. option_and_then (λ seed. made plant cycles seed) (seed_in rows))
    (λ cycles few. bind_ranged (seed_in rows) (λ seed. made plant cycles seed) (λ seed. each plant cycles seed few)))

sync_ranged : (rows : List Row) → HasRanges (sync_in rows)
sync_ranged rows = seeded_ranged rows (λ plant cycles seed. Some (sync plant cycles seed)) (λ plant cycles seed few. few)

free_ranged : (rows : List Row) → HasRanges (free_in rows)
free_ranged rows = seeded_ranged rows (λ plant cycles seed. Some (free plant cycles seed)) (λ plant cycles seed few. few)

run_seed_ranged : (rows : List Row) → HasRanges (run_seed_in rows)
run_seed_ranged rows = seeded_ranged rows (λ plant cycles seed. Some (run plant cycles seed)) (λ plant cycles seed few. few)

run_world_ranged : (rows : List Row) → HasRanges (run_world_in rows)
run_world_ranged rows =
    bind_ranged (file_in (codes "plant") rows) (λ plant. option_and_then (λ cycles. option_and_then (λ world. Some (run_world plant cycles world)) (file_in (codes "world") rows)) (cycles_in rows))
    (λ plant. cycles_ranged rows (λ cycles. option_and_then (λ world. Some (run_world plant cycles world)) (file_in (codes "world") rows))
    (λ cycles few. bind_ranged (file_in (codes "world") rows) (λ world. Some (run_world plant cycles world)) (λ world. few)))

run_ranged : (rows : List Row) → HasRanges (run_in rows)
run_ranged rows =
    if_ranged (is_some (first_of (codes "world") rows)) (if is_some (first_of (codes "seed") rows) then None else run_world_in rows) (run_seed_in rows)
    (if_ranged (is_some (first_of (codes "seed") rows)) None (run_world_in rows) tt (run_world_ranged rows)) (run_seed_ranged rows)

gen_ranged : (rows : List Row) → HasRanges (gen_in rows)
gen_ranged rows =
    let devices = number_in (codes "devices") MIN_GENERATED MAX_DEVICES rows in
    let frames = number_in (codes "frames") 0 MAX_DEMANDS rows in
    let names = file_in (codes "name") rows in
    let named : ℕ → ℕ → ℕ → List ℕ → Option Command = λ seed count many name. Some (gen seed count many name) in
    bind_ranged (seed_in rows) (λ seed. option_and_then (λ count. option_and_then (λ many. option_and_then (named seed count many) names) frames) devices)
    (λ seed. number_ranged (codes "devices") MIN_GENERATED MAX_DEVICES rows (λ count. option_and_then (λ many. option_and_then (named seed count many) names) frames)
    (λ count some. number_ranged (codes "frames") 0 MAX_DEMANDS rows (λ many. option_and_then (named seed count many) names)
    (λ many few. bind_ranged names (named seed count many) (λ name. (some, few.1)))))

-- a command without numbers
plain_ranged : (o : Option (List ℕ)) (made : List ℕ → Option Command) → ((name : List ℕ) → HasRanges (made name)) → HasRanges (option_and_then made o)
plain_ranged o made each = bind_ranged o made each

command_ranged : (name : List ℕ) (rows : List Row) → HasRanges (command_in name rows)
command_ranged name rows =
    let is : List ℕ → Bool = λ word. bytes_eq name word in
    let frees : Option Command = if is (codes "free") then free_in rows else None in
    let gens : Option Command = if is (codes "gen") then gen_in rows else frees in
    let runs : Option Command = if is (codes "run") then run_in rows else gens in
    let syncs : Option Command = if is (codes "sync") then sync_in rows else runs in
    let shows : Option Command = if is (codes "show") then show_in rows else syncs in
    let checks : Option Command = if is (codes "check") then check_in rows else shows in
    if_ranged (is (codes "plan")) (plan_in rows) checks (plain_ranged (file_in (codes "plant") rows) (λ plant. Some (plan plant)) (λ plant. tt))
    (if_ranged (is (codes "check")) (check_in rows) shows (plain_ranged (file_in (codes "plant") rows) (λ plant. Some (check plant)) (λ plant. tt))
    (if_ranged (is (codes "show")) (show_in rows) syncs (plain_ranged (file_in (codes "file") rows) (λ file. Some (show file)) (λ file. tt))
    (if_ranged (is (codes "sync")) (sync_in rows) runs (sync_ranged rows)
    (if_ranged (is (codes "run")) (run_in rows) gens (run_ranged rows)
    (if_ranged (is (codes "gen")) (gen_in rows) frees (gen_ranged rows)
    (if_ranged (is (codes "free")) (free_in rows) None (free_ranged rows) tt))))))

found_ranged : (found : Option (List ℕ × List Row)) → HasRanges (found_command found)
found_ranged found = bind_ranged found (λ subcommand. command_in subcommand.0 subcommand.1) (λ subcommand. command_ranged subcommand.0 subcommand.1)

pub asked_ranged : (words : List (List ℕ)) → HasRanges (asked_of words)
unfolding asked_of
asked_ranged words =
    if_ranged (is_free_of (fault_of irt_app words)) (found_command (subcommand_of irt_app words)) None (found_ranged (subcommand_of irt_app words)) tt

pub calm_ranged : (asked : Option Command) → HasRanges asked → HasRanges (calm_of asked)
calm_ranged (Some (free p c s)) has = tt
calm_ranged None has = has
calm_ranged (Some (plan p)) has = has
calm_ranged (Some (check p)) has = has
calm_ranged (Some (show f)) has = has
calm_ranged (Some (sync p c s)) has = has
calm_ranged (Some (run p c s)) has = has
calm_ranged (Some (run_world p c w)) has = has
calm_ranged (Some (gen s d f n)) has = has
