-- What a run gives, as the laws say it.
use Rattle.std.proofs.Common.{◌≡◌, ◌≤◌, List, [], ◌∷◌, ◌++◌, length, Some, slice_get, refl, subst, append-nil, All, AllPairs}
use Rattle.std.specs.List.{count_by}
use Rattle.std.specs.List.Sorted.{IsPermutation}
use Rattle.std.proofs.lemmas.List.Elements.{All-append, All-head, All-tail, All-push, All-contains, Contains-append_right}
use Rattle.std.proofs.lemmas.List.Sorted.{IsPermutation-sym, Contains-permutation, All-permutation}
use Rattle.plan_rules.specs.World.{WorldRow}
use Rattle.cycle_rows.specs.declared.rows.JournalRow.{JournalRow}
use Rattle.cycle_rows.specs.Journal.{IsSegment}
use Rattle.cycle_rows.specs.Order.{HasOtherKey, AreInOrder}
use Rattle.cycle_events.specs.declared.events.Event.{Event}
use Rattle.cycle_events.specs.declared.events.What.{What}
use Rattle.cycle_events.specs.declared.events.What.TheVariants.{Start, Arrive}
use Rattle.cycle_events.specs.Events.{Play, Happens, HappensAs, IsFirst, causes}
use Rattle.cycle_events.specs.Places.{is_at, places, EventPlace}
use Rattle.cycle_events.specs.Run.{IsBegun, IsRunning, HasRun, rows_given}
use Rattle.cycle_rows.proofs.Lists.{all_of}
use Rattle.cycle_events.proofs.Differ.{NeverMeet, rows_differ}
use Rattle.cycle_events.proofs.Facts.{Facts}
use Rattle.cycle_events.proofs.Given.{given_rows, all_given}
use Rattle.cycle_events.proofs.Room.{All-front, each_place_once, length-le-plan}
use Rattle.cycle_events.proofs.Steps.{causes_happen}
use Rattle.cycle_events.proofs.Worklist.{IsRun, run_starts, run_goes_on}

run_of : (play : Play) (first handled waiting : List Event) → IsRunning play first handled waiting → IsRun first (causes play) handled waiting
run_of play first handled waiting running = record { all = running.all }

first_as : (play : Play) (e : Event) (what : What) → e.what ≡ what → IsFirst play e → HappensAs play e what
first_as play e Start what one = one.sent
first_as play e Arrive what one = absurd (let start = one.start in cc)

-- the first ones happen
pub begin : (play : Play) (first waiting : List Event) → IsBegun play first → IsPermutation first waiting → IsRunning play first [] waiting
begin play first waiting begun same = record {
  all = (run_starts first (causes play) waiting same).all;
  happen = All-permutation (Happens play) first waiting same
      (all_of (Happens play) first (λ e is. first_as play e e.what refl (All-contains (IsFirst play) first e begun.only is)));
}

pub goes_on : (play : Play) → Facts play → (first handled waiting rest left : List Event) (e : Event) → IsRunning play first handled waiting →
    IsPermutation waiting (e ∷ rest) → IsPermutation (causes play e ++ rest) left → IsRunning play first (handled ++ e ∷ []) left
goes_on play facts first handled waiting rest left e running pop push =
    let next = run_goes_on first (causes play) handled waiting rest left e (run_of play first handled waiting running) pop push in
    let Is : Event → Type 0 = Happens play in
    let before : All Is handled = All-front Is handled waiting running.happen in
    let waits : All Is waiting = all_of Is waiting (λ x is. All-contains Is (handled ++ waiting) x running.happen (Contains-append_right handled waiting x is)) in
    let taken : All Is (e ∷ rest) = All-permutation Is waiting (e ∷ rest) pop waits in
    let here : Is e = All-head Is e rest taken in
    let more : All Is left = All-permutation Is (causes play e ++ rest) left push (All-append Is (causes play e) rest (causes_happen play facts e here) (All-tail Is e rest taken)) in
    record { all = next.all; happen = All-append Is (handled ++ e ∷ []) left (All-push Is handled e before here) more }

pub short : (play : Play) → Facts play → (first handled waiting : List Event) → IsBegun play first → IsRunning play first handled waiting →
    length (handled ++ waiting) ≤ length (places play.setup)
short play facts first handled waiting begun running =
    length-le-plan play facts first handled waiting begun (run_of play first handled waiting running) running.happen

module _ (play : Play) (facts : Facts play) (world : List WorldRow) (in_cycle : slice_get world play.cycle ≡ Some play.row) (apart : NeverMeet play world)
    (first handled : List Event) (begun : IsBegun play first) (run : HasRun play first handled) where
  happened : All (Happens play) handled
  happened = All-front (Happens play) handled [] run.happen

  once : (c : EventPlace) → count_by (is_at c) handled ≤ 1
  once c =
      subst (λ xs. count_by (is_at c) xs ≤ 1) (append-nil handled)
      (each_place_once play facts first handled [] begun (run_of play first handled [] run) run.happen c)

  pub differ : AllPairs HasOtherKey (rows_given play handled)
  differ = rows_differ play world in_cycle apart handled happened once

  pub segment : (rows : List JournalRow) → IsPermutation (rows_given play handled) rows → AreInOrder rows → IsSegment play.setup world play.cycle rows
  segment rows moved order = record {
    order = order;
    exactly = λ r. (
      λ is.
          given_rows play facts world in_cycle handled happened r
          (Contains-permutation rows (rows_given play handled) r (IsPermutation-sym (rows_given play handled) rows moved) is),
      λ is.
          Contains-permutation (rows_given play handled) rows r moved
          (all_given play facts world in_cycle first handled begun (run_of play first handled [] run) r is),
    );
  }
