use Rattle.std.proofs.Common.{◌≡◌, ◌<◌, ◌||◌, ℕ, false, get_or, take}
use Rattle.std.specs.List.{AllByRecursion, list_any}
use Rattle.irt_base.specs.declared.plants.Link.{Link}
use Rattle.irt_topo.specs.Clocks.{joins}
use Rattle.irt_topo.proofs.rules.clocks.spread.Given as goal

abbrev pub invariant-loop-link : goal.invariant-loop-link
invariant-loop-link l =
    ((d : ℕ) → get_or l.reached d false ≡ (get_or l.fn.reached d false || list_any (joins (λ e. get_or l.before e false) d) (take l.link-index l.links)))
    × AllByRecursion (λ (k : Link). (k.a.0 < 256) × (k.b.0 < 256)) (take l.link-index l.links)
