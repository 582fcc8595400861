use Rattle.std.proofs.Common.{sym, ap, subst, List, All}
use Rattle.irt_base.specs.Valid.{IsEntry}
use Rattle.irt_base.specs.declared.blocks.Entry.{Entry}
use Rattle.irt_switch.specs.State.{SwitchState}
use Rattle.irt_switch.proofs.Ordered.{provided_valid, released_first, released_rest, next_of}
use Rattle.irt_switch.proofs.switch.Switch.release.Goals as goal

pub next_due-place-requires-clause-valid : goal.next_due-place-requires-clause-valid
next_due-place-requires-clause-valid c =
    subst (λ (xs : List Entry). All IsEntry xs) (sym c.as_slice.ensures.value)
    (provided_valid c.self.inside.bundle.frames.entries c.self.inside.provided.items c.self.invariant.valid.frames.each c.self.invariant.order)

pub returns-clause-first : goal.returns-clause-first
returns-clause-first c =
    let next = next_of _ _ _ _ _ _ _ c.as_slice.ensures.value c.deref.ensures.value c.next_due-place.ensures.skipped c.in_ok-entry.ensures.lookup.0 c.in_ok-entry.ensures.lookup.1
    c.next_due-place.ensures.found in
    released_first _ _ _ _ _ _ _ _ (ap (λ (v : SwitchState). v.left) c.self.view_is) c.if-not-self.false next c.outgoing.ensures

pub returns-clause-rest : goal.returns-clause-rest
returns-clause-rest c =
    let next = next_of _ _ _ _ _ _ _ c.as_slice.ensures.value c.deref.ensures.value c.next_due-place.ensures.skipped c.in_ok-entry.ensures.lookup.0 c.in_ok-entry.ensures.lookup.1
    c.next_due-place.ensures.found in
    let v = c.self.view_is in
    let left = released_rest _ _ _ _ _ _ _ (ap (λ (v : SwitchState). v.left) v) c.if-not-self.false next in
    λ i. record { bundle = (v i).bundle; cycle = (v i).cycle; in_step = (v i).in_step; left = left i; gates = (v i).gates }
