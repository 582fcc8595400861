-- Words that ask for `free`, and words that do not.
use Rattle.std.proofs.Common.{◌≡◌, ℕ, List, Option, Some, None, sym, subst}
use Rattle.irt_io.specs.Files.{Files}
use Rattle.irt_steps.specs.Ended.{Counts, EndsAs}
use Rattle.irt_words.specs.Commands.{Command, free}
use Rattle.irt_top.specs.Commands.{asked_steps, calm_of, StoresFiles}
use Rattle.irt_wait.specs.Free.{IsFreeOf}
use Rattle.irt_wait.specs.declared.FreeAsked.{FreeAsked}

-- a call that waits for nobody ends as this one, where `free` is not asked for
pub calm_ends : (asked : Option Command) (shelf sink : Counts) (old new : Option Files) (before after : Option (List ℕ)) (status : ℕ) →
    calm_of asked ≡ asked → EndsAs (asked_steps (calm_of asked)) shelf sink old new before after status →
    EndsAs (asked_steps asked) shelf sink old new before after status
calm_ends asked shelf sink old new before after status is ends =
    subst (λ a. EndsAs (asked_steps a) shelf sink old new before after status) is ends

pub calm_kept : (asked : Option Command) (old new : Option Files) → calm_of asked ≡ asked →
    (¬ StoresFiles (calm_of asked) → new ≡ old) → ¬ StoresFiles asked → new ≡ old
calm_kept asked old new is kept none = kept (λ stores. none (subst StoresFiles is stores))

-- a call ends as the steps of the command that is asked for
pub free_ends : (asked : Option Command) (command : Command) (shelf sink : Counts) (old new : Option Files)
    (before after : Option (List ℕ)) (status : ℕ) → asked ≡ Some command →
    EndsAs (asked_steps (Some command)) shelf sink old new before after status →
    EndsAs (asked_steps asked) shelf sink old new before after status
free_ends asked command shelf sink old new before after status is ends =
    subst (λ a. EndsAs (asked_steps a) shelf sink old new before after status) (sym is) ends

-- without arguments of `free` something else is asked for, and with them it is `free`
pub calm_same : (asked : Option Command) (o : Option FreeAsked) → o ≡ None → IsFreeOf asked o → calm_of asked ≡ asked
calm_same asked o is of = subst (IsFreeOf asked) is of

pub free_same : (asked : Option Command) (o : Option FreeAsked) (f : FreeAsked) → o ≡ Some f → IsFreeOf asked o →
    asked ≡ Some (free f.plant.now f.cycles f.seed)
free_same asked o f is of = subst (IsFreeOf asked) is of
