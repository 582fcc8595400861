-- The errors to which messages set clocks, by a table of what they meet.
use Rattle.std.proofs.Common.{◌≡◌, ℕ, ◌<◌, Bool, ◌||◌, List, [], ◌∷◌, drop, length, Option, Some, None, refl, ◌∙◌, ap, ap₂, subst, inl, inr, arith, All, if◌then◌else◌}
use Rattle.std.specs.List.{list_any}
use Rattle.std.specs.Prelude.{ℤ, ◌+ℤ◌}
use Rattle.std.proofs.lemmas.List.Elements.{All-head, All-tail, All-weaker, All-drop}
use Rattle.std.proofs.lemmas.Option.{slice_get_cases, get_or_from_slice_get}
use Rattle.irt_base.specs.declared.numbers.DevId.{DevId}
use Rattle.sync_world.specs.Clocks.{base_by, base_of, ends_error, is_lost_on, line_error, total}
use Rattle.sync_world.specs.Domain.{IsDomain, IsLine, line_of, no_line, walk_of}
use Rattle.sync_world.specs.Lines.{passage_of}
use Rattle.sync_world.specs.Table.{IsTableAt, passage_in}
use Rattle.sync_world.specs.declared.domain.Domain.{Domain}
use Rattle.sync_world.specs.declared.lines.LinePassages.{LinePassages}
use Rattle.sync_world.specs.declared.lines.Passage.{Passage}
use Rattle.sync_world.proofs.Totals.{total_same}

no_line_is_line : (devices : ℕ) → IsLine devices no_line
no_line_is_line devices = record { delay = omega arith; long = omega arith; walk = λ k v below. absurd (omega arith) }

-- the line of any device is in range
pub line_in_range : (domain : Domain) (device : ℕ) → IsDomain domain → IsLine (length domain.lines) (line_of domain device)
line_in_range domain device valid =
    elim (slice_get_cases domain.lines device).1 [
      | inl (line, within, is, same) ↦
          let there = subst (IsLine (length domain.lines)) (get_or_from_slice_get domain.lines device line line is) (valid.lines device line within) in
          rw is there
      | inr (past, none) ↦ rw none (no_line_is_line (length domain.lines))
    ]

any_same : (p q : DevId → Bool) (walk : List DevId) → All (λ v. p v ≡ q v) walk → list_any p walk ≡ list_any q walk
any_same p q [] all = refl
any_same p q (v ∷ more) all =
    ap₂ (λ (a b : Bool). a || b) (All-head (λ w. p w ≡ q w) v more all) (any_same p q more (All-tail (λ w. p w ≡ q w) v more all))

base_same : (at by : DevId → Passage) (walk : List DevId) (ends : ℤ) → All (λ v. at v ≡ by v) walk → base_by at walk ends ≡ base_by by walk ends
base_same at by walk ends all =
    let lost : is_lost_on at walk ≡ is_lost_on by walk =
    any_same (λ v. (at v).lost) (λ v. (by v).lost) walk
    (All-weaker (λ v. at v ≡ by v) (λ v. (at v).lost ≡ (by v).lost) (λ v e. ap (λ (p : Passage). p.lost) e) walk all) in
    let lines : total (λ v. line_error (at v)) walk ≡ total (λ v. line_error (by v)) walk =
    total_same (λ v. line_error (at v)) (λ v. line_error (by v)) walk
    (All-weaker (λ v. at v ≡ by v) (λ v. line_error (at v) ≡ line_error (by v)) (λ v e. ap line_error e) walk all) in
    let stays : total (λ v. (at v).stay) (drop 1 walk) ≡ total (λ v. (by v).stay) (drop 1 walk) =
    total_same (λ v. (at v).stay) (λ v. (by v).stay) (drop 1 walk)
    (All-weaker (λ v. at v ≡ by v) (λ v. (at v).stay ≡ (by v).stay) (λ v e. ap (λ (p : Passage). p.stay) e) (drop 1 walk)
    (All-drop (λ v. at v ≡ by v) 1 walk all)) in
    ap₂ (λ (b : Bool) (z : ℤ). if b then None else Some z) lost (ap₂ (λ (m n : ℤ). (m +ℤ n) +ℤ ends) lines stays)

-- by the table it is the domain's
pub base_is : (domain : Domain) (table : List LinePassages) (device sync : ℕ) (walk : List DevId) (ends : ℤ) (base : Option ℤ) → IsDomain domain →
    IsTableAt domain sync table → base ≡ base_by (passage_in table sync) walk ends → walk ≡ walk_of domain device →
    ends ≡ ends_error domain device sync → base ≡ base_of domain device sync
unfolding base_of
base_is domain table device sync walk ends base valid known is is_walk is_ends =
    is ∙ ap₂ (λ (w : List DevId) (z : ℤ). base_by (passage_in table sync) w z) is_walk is_ends
    ∙ base_same (passage_in table sync) (λ v. passage_of domain v.0 sync) (walk_of domain device) (ends_error domain device sync)
    (All-weaker (λ v. v.0 < length domain.lines) (λ v. passage_in table sync v ≡ passage_of domain v.0 sync) (λ v below. known v below)
    (walk_of domain device) (line_in_range domain device valid).walk)

pub walk_small : (domain : Domain) (device : ℕ) (walk : List DevId) → IsDomain domain → walk ≡ walk_of domain device → length walk < 256
walk_small domain device walk valid is =
    let long = (line_in_range domain device valid).long in
    let same = ap (λ (w : List DevId). length w) is in
    omega (arith, long, same)
