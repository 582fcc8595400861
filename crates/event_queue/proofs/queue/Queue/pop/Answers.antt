use Rattle.std.proofs.Common.{heap_items, IsPermutation, ◌∷◌, subst, map}
use Rattle.std.proofs.lemmas.List.Sorted.{IsPermutation-map}
use Rattle.event_queue.specs.Waiting.{event_in, Waiting}
use Rattle.event_queue.proofs.Order.{not_before, first_of}
use Rattle.cycle_events.specs.contracts.events.EventOrd.TheImpl.{ghosts}
use Rattle.cycle_events.specs.declared.events.Event.{Event}
use Rattle.event_queue.proofs.queue.Queue.pop.Goals as goal

pub returns-clause-taken : goal.returns-clause-taken
returns-clause-taken c =
    let perm = IsPermutation-map event_in _ _ c.in_ok-event.ensures.permutation in
    subst (λ (w : Waiting). IsPermutation w.events (c.in_ok-event.field-0.0 ∷ map event_in (heap_items c.pop.new.self))) c.self.view_is perm

pub returns-clause-least : goal.returns-clause-least
returns-clause-least c =
    not_before ghosts.cmp (λ (a b : Event) e. first_of a.at b.at _ e) c.in_ok-event.field-0 (heap_items c.pop.new.self) (c.in_ok-event.ensures.below_top c.self.invariant)
