-- Jobs that were started.
use Rattle.std.specs.Prelude.{ℕ}
use Rattle.iso_free.specs.declared.threads.Started.{Started}
use Rattle.iso_free.specs.declared.threads.Started.TheVariants as started

-- the number of the app of a job
abbrev pub place_of : {A N : Type 0} → Started A N → ℕ
place_of (started.Thread handle) = handle.promise.number
place_of (started.Here job) = job.number
