use Rattle.std.proofs.Common.{refl}
use Rattle.io_buffers.proofs.Kept.{store-event, publish-event, probe-event, take-event, load-event, end-event, whole_part}
use Rattle.io_buffers.proofs.laws.steps_are_events.Goals as goal

pub returns-clause-first : goal.returns-clause-first
returns-clause-first c = λ m. refl

pub returns-clause-store : goal.returns-clause-store
returns-clause-store c = store-event

pub returns-clause-publish : goal.returns-clause-publish
returns-clause-publish d = λ m w cells p c h full. publish-event m w cells p c h.sound.draft (whole_part m w cells p c full h)

pub returns-clause-probe : goal.returns-clause-probe
returns-clause-probe c = probe-event

pub returns-clause-take : goal.returns-clause-take
returns-clause-take d = λ m w cells p c h ready. take-event m w cells p c h.sound.front ready (h.number (h.sound.ready ready))

pub returns-clause-load : goal.returns-clause-load
returns-clause-load c = load-event

pub returns-clause-end : goal.returns-clause-end
returns-clause-end c = end-event
