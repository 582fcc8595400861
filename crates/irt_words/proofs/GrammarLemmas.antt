-- Commands that are built argument by argument.
use Rattle.std.proofs.Common.{◌≡◌, ◌<◌, ◌+◌, ℕ, List, [], ◌∷◌, ◌++◌, length, map, take, slice_index_or, Bor, Bool, false, ◌||◌, sym, ◌∙◌, ap, ap₂}
use Rattle.std.proofs.lemmas.List.{map-append, take_more}
use Rattle.clap.specs.Words.{AddsArg, App, Rule, Shape, Text, rule_of, with_rule}
use Rattle.clap.specs.declared.builder.arg.Arg.{Arg}
use Rattle.clap.specs.declared.builder.command.Command.{Command}
use Rattle.irt_words.specs.Grammar.{IsLeaf, required, required_all, subcommand}

abbrev leaf : Shape → App
leaf shape = record { top = shape; subs = [] }

-- one more argument
pub leaf_more : (old new : Command) (a : Arg) (name : Text) (rules : List Rule) (rule : Rule) → IsLeaf old (subcommand name rules) → AddsArg old a new → rule_of a ≡ rule → a.global ≡ false →
    IsLeaf new (subcommand name (rules ++ rule ∷ []))
leaf_more old new a name rules rule is adds same local = record {
  app = adds.shape local ∙ ap₂ with_rule is.app same;
  local = adds.globals ∙ ap₂ (λ (x y : Bool). x || y) is.local local;
}

-- the same of one of several arguments that must be there
pub leaf_at : (old new : Command) (a : Arg) (name : Text) (arguments : List (Bor Text)) (k : ℕ) (d : Bor Text) → k < length arguments →
    IsLeaf old (subcommand name (required_all (map (λ t. t.now) (take k arguments)))) → AddsArg old a new → rule_of a ≡ required (slice_index_or arguments k d).now → a.global ≡ false →
    IsLeaf new (subcommand name (required_all (map (λ t. t.now) (take (k + 1) arguments))))
leaf_at old new a name arguments k d inside is adds same local =
    let names : List Text = map (λ t. t.now) (take k arguments) in
    let next : Text = (slice_index_or arguments k d).now in
    let more = leaf_more old new a name (required_all names) (required next) is adds same local in
    let read : map (λ t. t.now) (take (k + 1) arguments) ≡ names ++ next ∷ [] =
    ap (map (λ (t : Bor Text). t.now)) (take_more arguments k d inside) ∙ map-append (λ (t : Bor Text). t.now) (take k arguments) (slice_index_or arguments k d ∷ []) in
    record {
      app = more.app ∙ ap (λ rules. leaf (subcommand name rules)) (sym (ap (map required) read ∙ map-append required names (next ∷ [])));
      local = more.local;
    }
