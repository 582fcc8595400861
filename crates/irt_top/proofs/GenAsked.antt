-- Whether `gen` is asked for.
use Rattle.std.proofs.Common.{◌≡◌, ℕ, List, Option, Some, None, ap}
use Rattle.std.proofs.lemmas.Option.{none-some, same_Some}
use Rattle.irt_words.specs.Commands.{Command, plan, check, show, sync, run, run_world, gen, free}
use Rattle.irt_top.specs.Gen.{GenAsked, gen_asked}

-- the command of what is asked for
abbrev pub gen_of : GenAsked → Option Command
gen_of made = Some (gen made.seed made.devices made.frames made.name)

pub gen_asked_is : (asked : Option Command) (made : GenAsked) → gen_asked asked ≡ Some made → asked ≡ gen_of made
gen_asked_is (Some (gen s d f n)) made is = ap gen_of (same_Some (record { seed = s; devices = d; frames = f; name = n }) made is)
gen_asked_is None made is = absurd (none-some made is)
gen_asked_is (Some (plan p)) made is = absurd (none-some made is)
gen_asked_is (Some (check p)) made is = absurd (none-some made is)
gen_asked_is (Some (show f)) made is = absurd (none-some made is)
gen_asked_is (Some (sync p c s)) made is = absurd (none-some made is)
gen_asked_is (Some (run p c s)) made is = absurd (none-some made is)
gen_asked_is (Some (run_world p c w)) made is = absurd (none-some made is)
gen_asked_is (Some (free p c s)) made is = absurd (none-some made is)

pub no_gen : (s d f : ℕ) (n : List ℕ) → gen_asked (Some (gen s d f n)) ≡ None → ⊥
no_gen s d f n none = absurd cc
