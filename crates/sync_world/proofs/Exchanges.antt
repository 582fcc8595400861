-- Exchanges, one more each time.
use Rattle.std.proofs.Common.{◌≡◌, ℕ, ◌+◌, List, [], ◌∷◌, ◌++◌, map, refl, sym, ◌∙◌, ap, arith}
use Rattle.std.specs.List.{range_with_len}
use Rattle.std.proofs.lemmas.List.FromFn.{map-range_with_len_more}
use Rattle.line_delay.specs.Honest.{Stamps, after_all}
use Rattle.line_delay.specs.Line.{accepted, half_round}
use Rattle.sync_world.specs.Lines.{exchanged, half_by, halves_after}
use Rattle.sync_world.specs.declared.domain.Domain.{Domain}

-- a response after others
abbrev pub IsOneMore : Type 0
IsOneMore = (halves : List ℕ) (responses : List Stamps) (s : Stamps) →
    after_all halves (responses ++ s ∷ []) ≡ accepted (after_all halves responses) (half_round s.t1 s.t2 s.t3 s.t4)

pub halves_none : (domain : Domain) (device : ℕ) → [] ≡ halves_after domain device 0
unfolding halves_after
halves_none domain device = refl

pub halves_more : IsOneMore → (domain : Domain) (device count : ℕ) →
    accepted (halves_after domain device count) (half_by (exchanged domain device count)) ≡ halves_after domain device (count + 1)
unfolding halves_after
halves_more more domain device count =
    sym (ap (after_all []) (map-range_with_len_more (exchanged domain device) 0 count count (omega arith))
    ∙ more [] (map (exchanged domain device) (range_with_len 0 count)) (exchanged domain device count))

-- the line after one exchange more
pub measured_more : IsOneMore → (domain : Domain) (device count next : ℕ) (old new : List ℕ) → count + 1 ≡ next →
    new ≡ accepted old (half_by (exchanged domain device count)) → old ≡ halves_after domain device count → new ≡ halves_after domain device next
measured_more more domain device count next old new is_next step held =
    step ∙ ap (λ (l : List ℕ). accepted l (half_by (exchanged domain device count))) held
    ∙ halves_more more domain device count ∙ ap (halves_after domain device) is_next
