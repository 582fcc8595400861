-- One turn of a run.
use Rattle.std.proofs.Common.{◌+◌, ◌≤◌, List, [], ◌∷◌, ◌++◌, length, ◌∙◌, ap, arith, append-nil, length-append, All}
use Rattle.std.proofs.lemmas.List.Concat.{flat_map-append}
use Rattle.std.proofs.lemmas.List.Elements.{All-contains, All-head, Contains-append_right}
use Rattle.std.proofs.lemmas.List.Sorted.{IsPermutation-refl, All-permutation}
use Rattle.plan_rules.specs.Network.{AllNear, IsNearCycle}
use Rattle.plan_rules.specs.Way.{IsInRange}
use Rattle.cycle_events.specs.declared.events.Event.{Event}
use Rattle.cycle_events.specs.declared.events.What.{What}
use Rattle.cycle_events.specs.declared.events.What.TheVariants.{Start, Arrive}
use Rattle.cycle_events.specs.Events.{Play, arrival_of, Happens, HappensAs, causes, rows_of}
use Rattle.cycle_events.specs.Places.{places}
use Rattle.cycle_events.specs.Run.{IsTurn, IsNearEvent, GivesRow, rows_given}
use Rattle.cycle_rows.proofs.Lists.{all_of}
use Rattle.cycle_events.proofs.Differ.{one_row}
use Rattle.cycle_events.proofs.Facts.{Facts}
use Rattle.cycle_events.proofs.Segment.{goes_on, short}

taken_happens : (play : Play) (first handled waiting rest : List Event) (e : Event) → IsTurn play first handled waiting e rest → Happens play e
taken_happens play first handled waiting rest e turn =
    let Is : Event → Type 0 = Happens play in
    let waits : All Is waiting = all_of Is waiting (λ x is. All-contains Is (handled ++ waiting) x turn.running.happen (Contains-append_right handled waiting x is)) in
    All-head Is e rest (All-permutation Is waiting (e ∷ rest) turn.taken waits)

near_as : (play : Play) → IsInRange play.setup play.row → AllNear play.setup → (e : Event) (what : What) → HappensAs play e what → IsNearCycle play.setup.plant play.cycle e.at
near_as play range near e Start is = (near.sent play.row range play.cycle e.device.0 e.port.0 e.frame.0 e.at is).begin
near_as play range near e Arrive (from, is) = (near.arrives play.row range from (arrival_of play e) is).begin

pub happen : (play : Play) → IsInRange play.setup play.row → AllNear play.setup → (first handled waiting rest : List Event) (e : Event) →
    IsTurn play first handled waiting e rest → IsNearEvent play e
happen play range near first handled waiting rest e turn =
    let is = taken_happens play first handled waiting rest e turn in
    record { happens = is; near = near_as play range near e e.what is }

pub fit : (play : Play) → Facts play → (first handled waiting rest : List Event) (e : Event) → IsTurn play first handled waiting e rest →
    length handled + 1 + (length (causes play e) + length rest) ≤ length (places play.setup)
fit play facts first handled waiting rest e turn =
    let left : List Event = causes play e ++ rest in
    let next = goes_on play facts first handled waiting rest left e turn.running turn.taken (IsPermutation-refl left) in
    let bound = short play facts first (handled ++ e ∷ []) left turn.begun next in
    let a = length-append (handled ++ e ∷ []) left in
    let b = length-append handled (e ∷ []) in
    let c = length-append (causes play e) rest in
    omega arith

pub gives_row : (play : Play) (handled : List Event) (e : Event) → GivesRow play handled e
gives_row play handled e = record {
  one = one_row play e e.what;
  last = flat_map-append (rows_of play) handled (e ∷ []) ∙ ap (λ ys. rows_given play handled ++ ys) (append-nil (rows_of play e));
}
