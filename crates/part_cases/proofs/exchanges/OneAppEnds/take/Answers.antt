use Rattle.std.proofs.Common.{◌≡◌, ℕ, zero, suc, ◌<◌, ◌==◌, if◌then◌else◌, List, [], ◌∷◌, ◌++◌, length, slice_set, refl, sym, ap, arith}
use Rattle.io_buffers.specs.declared.taken.Taken.{Taken}
use Rattle.io_buffers.specs.Given.{Given, given}
use Rattle.part_cases.proofs.exchanges.OneAppEnds.take.Goals as goal

one_word : (out : List ℕ) (t : Taken) → length out ≡ 1 → given t (slice_set out 0 0) ≡ given t (0 ∷ [])
one_word (x ∷ []) t e = refl
one_word [] t e = absurd (omega arith)
one_word (x ∷ y ∷ ys) t e = absurd (omega arith)

one_take : (app : ℕ) (out : List ℕ) (was : List Given) (t : Taken) → app < 1 → length out ≡ 1 → was ≡ [] → (if app == 0 then given t (0 ∷ []) ∷ [] else []) ≡ was ++ given t (slice_set out 0 0) ∷ []
one_take zero (x ∷ []) was t h e none = ap (λ (l : List Given). l ++ given t (0 ∷ []) ∷ []) (sym none)
one_take zero [] was t h e none = absurd (omega arith)
one_take zero (x ∷ y ∷ ys) was t h e none = absurd (omega arith)
one_take (suc app) out was t h e none = absurd (omega arith)

pub returns-clause-given : goal.returns-clause-given
returns-clause-given c = one_word c.args.out.now _ c.requires.words

pub returns-clause-takes : goal.returns-clause-takes
returns-clause-takes c = one_take c.args._app c.args.out.now _ _ c.requires.app c.requires.words c.requires.room
