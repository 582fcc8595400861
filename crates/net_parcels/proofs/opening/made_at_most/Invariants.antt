use Rattle.std.proofs.Common.{◌≡◌, ◌≤◌, ◌*◌, take}
use Rattle.std.specs.List.{sum_by}
use Rattle.irt_base.specs.declared.plants.Traffic.{Traffic}
use Rattle.net_parcels.proofs.opening.made_at_most.Given as goal

abbrev pub invariant-loop-t : goal.invariant-loop-t
invariant-loop-t l = (l.most ≡ sum_by (λ (t : Traffic). t.count) (take l.t-index l.t-items)) × (l.most ≤ l.t-index * 255)
