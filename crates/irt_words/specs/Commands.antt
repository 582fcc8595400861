-- What words may ask for.
use Rattle.std.specs.Prelude.{ℕ, List}
use Rattle.irt_words.specs.declared.asked.Asked.{Asked}
use Rattle.irt_words.specs.declared.asked.Asked.TheVariants as words

pub data Command : Type 0 where
  plan : (plant : List ℕ) → Command
  check : (plant : List ℕ) → Command
  show : (file : List ℕ) → Command
  sync : (plant : List ℕ) (cycles seed : ℕ) → Command
  run : (plant : List ℕ) (cycles seed : ℕ) → Command
  run_world : (plant : List ℕ) (cycles : ℕ) (world : List ℕ) → Command
  gen : (seed devices frames : ℕ) (name : List ℕ) → Command
  free : (plant : List ℕ) (cycles seed : ℕ) → Command

abbrev pub command_of : Asked → Command
command_of (words.Plan plant) = plan plant.now
command_of (words.Check plant) = check plant.now
command_of (words.Show file) = show file.now
command_of (words.Sync plant cycles seed) = sync plant.now cycles seed
command_of (words.Run plant cycles seed) = run plant.now cycles seed
command_of (words.RunWorld plant cycles world) = run_world plant.now cycles world.now
command_of (words.Gen seed devices frames name) = gen seed devices frames name.now
command_of (words.Free plant cycles seed) = free plant.now cycles seed
