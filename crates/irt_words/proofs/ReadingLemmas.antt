-- From what `clap` answers to what the words ask for.
use Rattle.std.specs.Prelude.{if◌then◌else◌, IfOk, option_map, Result, Ok, Err}
use Rattle.irt_base.specs.declared.memory.NoMemory.{NoMemory}
use Rattle.irt_words.specs.declared.asked.Asked.{Asked}
use Rattle.std.proofs.Common.{◌≡◌, ◌≢◌, inl, inr, true, false, List, [], ◌∷◌, Option, None, refl, sym, ◌∙◌, ap, subst}
use Rattle.clap.specs.Words.{App, HasKind, HasMatchesOf, IsAmong, Kinds, Text, fault_of, is_simple, is_simple_and_free, kind_of, subcommand_of, subcommand_rows_of}
use Rattle.clap.specs.declared.error.Error.{Error}
use Rattle.clap.specs.declared.error.kind.ErrorKind.{ErrorKind}
use Rattle.clap.specs.declared.error.kind.ErrorKind.TheVariants as kinds
use Rattle.clap.specs.declared.parser.matches.ArgMatches.{ArgMatches}
use Rattle.clap.proofs.OnLiterals.{clap_on_literals}
use Rattle.irt_words.specs.Asked.{asked_of, found_command, is_free_of}
use Rattle.irt_words.specs.Commands.{Command, command_of}
use Rattle.irt_words.specs.Grammar.{irt_app}

irt_is_simple : is_simple irt_app ≡ true
unfolding clap_on_literals
irt_is_simple = refl

irt_is_free : is_simple_and_free irt_app ≡ true
unfolding clap_on_literals
irt_is_free = refl

-- words in which there is no fault
asked_free : (words : List Text) → fault_of irt_app words ≡ [] → asked_of words ≡ found_command (subcommand_of irt_app words)
unfolding asked_of
asked_free words none = free (fault_of irt_app words) none
  where
    free : (faults : Kinds) → faults ≡ [] → (if is_free_of faults then found_command (subcommand_of irt_app words) else None) ≡ found_command (subcommand_of irt_app words)
    free [] none = refl
    free (k ∷ more) none = absurd cc

pub read_found : (app : App) (words : List Text) (m : ArgMatches) (asked : Option Command) → app ≡ irt_app → HasMatchesOf app words m → (is_simple_and_free app ≡ true → fault_of app words ≡ []) →
    asked ≡ found_command (subcommand_rows_of m) → asked ≡ asked_of words
read_found app words m asked is matches free found =
    let simple : is_simple app ≡ true = ap is_simple is ∙ irt_is_simple in
    let none : fault_of irt_app words ≡ [] = ap (λ a. fault_of a words) (sym is) ∙ free (ap is_simple_and_free is ∙ irt_is_free) in
    found ∙ ap found_command ((matches simple).1 ∙ ap (λ a. subcommand_of a words) is) ∙ sym (asked_free words none)

among_some : (k : ErrorKind) (faults : Kinds) → IsAmong k faults → is_free_of faults ≡ false
among_some k [] among = absurd among
among_some k (x ∷ more) among = refl

-- words in which there is one
read_fault : (app : App) (words : List Text) (e : Error) → app ≡ irt_app → (is_simple_and_free app ≡ true → HasKind (fault_of app words) e) → kind_of e ≢ kinds.OutOfMemory →
    None ≡ asked_of words
unfolding asked_of
read_fault app words e is kind memory = elim (kind (ap is_simple_and_free is ∙ irt_is_free)) [
  | inl out ↦ absurd (memory out)
  | inr among ↦
      let some : is_free_of (fault_of irt_app words) ≡ false = among_some (kind_of e) (fault_of irt_app words) (subst (λ a. IsAmong (kind_of e) (fault_of a words)) is among) in
      sym (ap (λ b. if b then found_command (subcommand_of irt_app words) else None) some)
]

pub read_refused : (app : App) (words : List Text) (e : Error) (r : Result (Option Asked) NoMemory) → app ≡ irt_app → (is_simple_and_free app ≡ true → HasKind (fault_of app words) e) →
    IfOk r (λ asked. (asked ≡ None) × (kind_of e ≢ kinds.OutOfMemory)) → IfOk r (λ asked. option_map command_of asked ≡ asked_of words)
read_refused app words e (Ok asked) is kind (none, memory) = ap (option_map command_of) none ∙ read_fault app words e is kind memory
read_refused app words e (Err out) is kind free = tt
