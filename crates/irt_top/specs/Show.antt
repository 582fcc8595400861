-- The command `show`: its steps.
use Rattle.std.specs.Prelude.{ℕ, List}
use Rattle.irt_show.specs.Show.{bundle_text}
use Rattle.irt_steps.specs.Steps.{Steps, gives, after}
use Rattle.irt_top.specs.DeviceFiles.{bundle_steps}

abbrev pub show_steps : List ℕ → Steps (List ℕ)
show_steps name = after (bundle_steps name) (λ bundle. gives (bundle_text bundle))
