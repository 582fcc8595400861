-- What a pass knows after a publication, and after a take.
use Rattle.std.proofs.Common.{◌≡◌, ℕ, ◌+◌, ◌-◌, ◌^◌, ◌<◌, ◌≤◌, min, Bool, not, List, [], ◌∷◌, ◌++◌, length, sym, ap, ◌∙◌, arith}
use Rattle.std.proofs.lemmas.List.{length-append}
use Rattle.io_buffers.specs.Given.{Given, given}
use Rattle.io_buffers.specs.declared.views.Made.{Made}
use Rattle.io_buffers.specs.declared.views.Made.TheVariants as made
use Rattle.io_buffers.specs.declared.views.View.TheVariants as view
use Rattle.io_buffers.specs.Steps.{steps_in, fresh_in, number_in, fresh_word, draft_of, part_of, published_in, held_in, shown_in, loaded_in, takes_in, with_stores, with_loads, with_look}
use Rattle.io_buffers.specs.Rule.{Sat, adds}
use Rattle.io_buffers.proofs.StepLists.{part-stores, published-stores, draft-stores, loaded-loads, held-loads, shown-loads, takes-loads, loaded-look, takes-look, shown-look, length-stores, length-loads, length-look}

stored_part : (es : List Made) (ws : List ℕ) → part_of es ≡ [] → part_of (with_stores 0 ws es) ≡ ws
stored_part es ws empty = part-stores 0 ws es ∙ ap (λ (l : List ℕ). l ++ ws) empty

pub publish_full : (es : List Made) (ws : List ℕ) (m : ℕ) → part_of es ≡ [] → length ws ≡ m → length (part_of (with_stores 0 ws es)) ≡ m
publish_full es ws m empty wide = ap (λ (l : List ℕ). length l) (stored_part es ws empty) ∙ wide

pub publish_word : (es : List Made) (ws : List ℕ) (x draft count : ℕ) → x ≡ fresh_word draft (count + 1) → draft ≡ draft_of es → count ≡ length (published_in es)
    → x ≡ fresh_word (draft_of (with_stores 0 ws es)) (length (published_in (with_stores 0 ws es)) + 1)
publish_word es ws x draft count is drafted counted =
    let d = draft-stores 0 ws es in
    let n = ap (λ (l : List (List ℕ)). length l) (published-stores 0 ws es) in
    omega arith

-- the view of a side after one step more
pub made_one : (me next : Sat) (e : Made) (es : List Made) → me ≡ (view.Producer es, []) → next ≡ (adds e me.0, me.1) → next ≡ (view.Producer (e ∷ es), [])
made_one me next e es is on = on ∙ ap (λ (z : Sat). (adds e z.0, z.1)) is

pub made_two : (me next : Sat) (e : Made) (es : List Made) → me ≡ (view.Consumer es, []) → next ≡ (adds e me.0, me.1) → next ≡ (view.Consumer (e ∷ es), [])
made_two me next e es is on = on ∙ ap (λ (z : Sat). (adds e z.0, z.1)) is

pub producer_steps_are : (me : Sat) (es : List Made) → me ≡ (view.Producer es, []) → (me ≡ (view.Producer (steps_in me.0), [])) × (steps_in me.0 ≡ es)
producer_steps_are me es e =
    let same = ap (λ (z : Sat). steps_in z.0) e in
    (e ∙ ap (λ (l : List Made). let r : Sat = (view.Producer l, []) in r) (sym same), same)

pub consumer_steps_are : (me : Sat) (es : List Made) → me ≡ (view.Consumer es, []) → (me ≡ (view.Consumer (steps_in me.0), [])) × (steps_in me.0 ≡ es)
consumer_steps_are me es e =
    let same = ap (λ (z : Sat). steps_in z.0) e in
    (e ∙ ap (λ (l : List Made). let r : Sat = (view.Consumer l, []) in r) (sym same), same)

-- the publications after one more
pub published_more : (es : List Made) (ws : List ℕ) (found : ℕ) (new : List Made) → new ≡ made.Published found ∷ with_stores 0 ws es → part_of es ≡ [] → published_in new ≡ published_in es ++ ws ∷ []
published_more es ws found new is empty =
    ap (λ (l : List Made). published_in l) is
    ∙ (ap (λ (l : List (List ℕ)). l ++ part_of (with_stores 0 ws es) ∷ []) (published-stores 0 ws es)
    ∙ ap (λ (l : List ℕ). published_in es ++ l ∷ []) (stored_part es ws empty))

pub counted_more : (es : List Made) (ws : List ℕ) (new : List Made) (count : ℕ) → published_in new ≡ published_in es ++ ws ∷ [] → count ≡ length (published_in es) → count + 1 ≡ length (published_in new)
counted_more es ws new count is counted =
    let n = ap (λ (l : List (List ℕ)). length l) is in
    let m = length-append (published_in es) (ws ∷ []) in
    omega arith

-- a take's row is loaded
pub take_full : (es looked : List Made) (out : List ℕ) (first old m : ℕ) → looked ≡ with_look first old es → length out ≡ m → length (loaded_in (with_loads 0 out looked)) ≡ m
take_full es looked out first old m is wide =
    ap (λ (l : List ℕ). length l) (loaded-loads 0 out looked ∙ ap (λ (l : List ℕ). l ++ out) (ap (λ (l : List Made). loaded_in l) is ∙ loaded-look first old es)) ∙ wide

-- the takes after one more
pub taken_more : (es looked new : List Made) (out : List ℕ) (first old last held : ℕ) (fresh window : Bool) → looked ≡ with_look first old es → new ≡ made.Ended last ∷ with_loads 0 out looked
    → held ≡ held_in looked → fresh ≡ fresh_in first → window ≡ not (fresh_in last)
    → takes_in new ≡ takes_in es ++ given (record { number = held; fresh = fresh; in_window = window }) out ∷ []
taken_more es looked new out first old last held fresh window is ended holds shows late =
    let c = with_loads 0 out looked in
    let before = takes-loads 0 out looked ∙ (ap (λ (l : List Made). takes_in l) is ∙ takes-look first old es) in
    let number = held-loads 0 out looked ∙ sym holds in
    let shown = shown-loads 0 out looked ∙ (ap (λ (l : List Made). shown_in l) is ∙ (shown-look first old es ∙ sym shows)) in
    let words = loaded-loads 0 out looked ∙ ap (λ (l : List ℕ). l ++ out) (ap (λ (l : List Made). loaded_in l) is ∙ loaded-look first old es) in
    ap (λ (l : List Made). takes_in l) ended
    ∙ (λ i. before i ++ given (record { number = number i; fresh = shown i; in_window = sym late i }) (words i) ∷ [])

-- what the last look found is compared with the number held
pub newer_than : (me : Sat) (out : List ℕ) (looked : List Made) (held last : ℕ) → me ≡ (view.Consumer (with_loads 0 out looked), []) → held ≡ held_in looked
    → held_in (steps_in me.0) < number_in last → held < number_in last
newer_than me out looked held last is holds above =
    let same = ap (λ (z : Sat). held_in (steps_in z.0)) is in
    let kept = held-loads 0 out looked in
    omega arith

pub ended_counted : (es looked new : List Made) (out : List ℕ) (last first old taken now : ℕ) → looked ≡ with_look first old es → new ≡ made.Ended last ∷ with_loads 0 out looked
    → taken ≡ min (length (takes_in looked)) (2 ^ 64 - 1) → now ≡ min (taken + 1) (2 ^ 64 - 1) → now ≡ min (length (takes_in new)) (2 ^ 64 - 1)
ended_counted es looked new out last first old taken now is ended counted more =
    let c = with_loads 0 out looked in
    let t = given (record { number = held_in c; fresh = shown_in c; in_window = not (fresh_in last) }) (loaded_in c) in
    let n = ap (λ (l : List Made). length (takes_in l)) ended in
    let m = length-append (takes_in c) (t ∷ []) in
    let k = ap (λ (l : List Given). length l) (takes-loads 0 out looked) in
    omega arith

pub published_steps : (es new : List Made) (ws : List ℕ) (found : ℕ) → new ≡ made.Published found ∷ with_stores 0 ws es → length new ≡ length es + (length ws + 1)
published_steps es new ws found is =
    let n = ap (λ (l : List Made). length l) is in
    let m = length-stores 0 ws es in
    omega arith

pub taken_steps : (es looked new : List Made) (out : List ℕ) (first old last wide : ℕ) → looked ≡ with_look first old es → new ≡ made.Ended last ∷ with_loads 0 out looked → length out ≡ wide
    → length new ≤ length es + (wide + 3)
taken_steps es looked new out first old last wide is ended sized =
    let n = ap (λ (l : List Made). length l) ended in
    let m = length-loads 0 out looked in
    let k = ap (λ (l : List Made). length l) is in
    let few = length-look first old es in
    omega arith
