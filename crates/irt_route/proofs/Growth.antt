-- Tables of parents, walk by walk.
use Rattle.std.proofs.Common.{◌≡◌, ◌<◌, ◌≢◌, ℕ, List, [], ◌∷◌, ◌++◌, length, set, Option, Some, None, option_map, ◌⊎◌, inl, inr, refl, sym, ◌∙◌, ap, subst, arith}
use Rattle.std.proofs.lemmas.Bool.{cases_eq}
use Rattle.std.proofs.lemmas.List.{get_or-set_same, get_or-set_other, length-set}
use Rattle.std.proofs.lemmas.Option.{same_Some}
use Rattle.irt_base.specs.declared.limits.TheConstants.{MAX_DEVICES}
use Rattle.irt_base.specs.declared.numbers.DevId.{DevId}
use Rattle.irt_base.specs.declared.numbers.PortNo.{PortNo}
use Rattle.irt_route.specs.Walks.{Peers, IsWalk, IsBestWalk, IsApart, IsFoundWalk, far_of}
use Rattle.irt_route.specs.NextHops.{IsWired}
use Rattle.irt_route.specs.Trees.{IsStep, IsBestStep, Parents, parent_at, GrowsBy, marked, grown}
use Rattle.irt_route.proofs.WalkLaws.{same_best}

-- the first step of a walk, and one of the rest
step_first : (peers : Peers) (at : DevId) (port : PortNo) (rest : List PortNo) (far : DevId × PortNo) → peers at.0 port.0 ≡ Some far
    → IsStep peers at.0 (port ∷ rest) (at, port) far.0.0
step_first peers at port rest far is =
    record { front = []; back = rest; split = refl; before = refl; far = far; over = is; there = refl }

step_later : (peers : Peers) (at : ℕ) (port : PortNo) (rest : List PortNo) (far : DevId × PortNo) (from : DevId × PortNo) (to : ℕ)
    → peers at port.0 ≡ Some far → IsStep peers far.0.0 rest from to → IsStep peers at (port ∷ rest) from to
step_later peers at port rest far from to is step =
    record {
      front = port ∷ step.front;
      back = step.back;
      split = ap (λ ps. port ∷ ps) step.split;
      before = (far, is, step.before);
      far = step.far;
      over = step.over;
      there = step.there;
    }

grown-step : (peers : Peers) (at : DevId) (port : PortNo) (rest : List PortNo) (far : DevId × PortNo) (parents : Parents) → peers at.0 port.0 ≡ Some far
    → grown peers at (port ∷ rest) parents ≡ grown peers far.0 rest (set parents far.0.0 (Some (at, port)))
grown-step peers at port rest far parents is =
    ap (λ (o : Option (DevId × PortNo)). grown peers (far_of at o) rest (marked at port o parents)) is

heads : (p q : PortNo) (ps qs : List PortNo) → p ∷ ps ≡ q ∷ qs → p ≡ q
heads p q ps qs same = cc

tails : (p q : PortNo) (ps qs : List PortNo) → p ∷ ps ≡ q ∷ qs → ps ≡ qs
tails p q ps qs same = cc

no_none : (x : DevId × PortNo) → Some x ≡ None → ⊥
no_none x e = cc

-- a step of a walk is its first, or one of the rest
step_cases : (peers : Peers) (at : ℕ) (port : PortNo) (rest : List PortNo) (far from : DevId × PortNo) (to : ℕ) → peers at port.0 ≡ Some far
    → IsStep peers at (port ∷ rest) from to → (far.0.0 ≡ to) ⊎ IsStep peers far.0.0 rest from to
step_cases peers at port rest far from to is step = cases_of step.front step.split step.before
  where
    cases_of : (front : List PortNo) → port ∷ rest ≡ front ++ from.1 ∷ step.back → IsWalk peers at front from.0.0
        → (far.0.0 ≡ to) ⊎ IsStep peers far.0.0 rest from to
    cases_of [] split before =
        let same : far ≡ step.far =
        same_Some far step.far (sym is ∙ ap (λ (q : PortNo). peers at q.0) (heads port from.1 rest step.back split) ∙ ap (λ d. peers d from.1.0) before ∙ step.over) in
        inl (ap (λ (f : DevId × PortNo). f.0.0) same ∙ step.there)
    cases_of (q ∷ front) split (next, on, before) =
        let same : next ≡ far =
        same_Some next far (sym on ∙ ap (λ (r : PortNo). peers at r.0) (sym (heads port q rest (front ++ from.1 ∷ step.back) split)) ∙ is) in
        inr (record {
          front = front;
          back = step.back;
          split = tails port q rest (front ++ from.1 ∷ step.back) split;
          before = subst (λ (f : DevId × PortNo). IsWalk peers f.0.0 front from.0.0) same before;
          far = step.far;
          over = step.over;
          there = step.there;
        })

-- the table after one step
abbrev one_step : DevId → PortNo → DevId × PortNo → Parents → Parents
one_step at port far parents = set parents far.0.0 (Some (at, port))

one_step-here : (at : DevId) (port : PortNo) (far : DevId × PortNo) (parents : Parents) (device : ℕ) → far.0.0 < length parents → device ≡ far.0.0
    → parent_at (one_step at port far parents) device ≡ Some (at, port)
one_step-here at port far parents device within same =
    ap (λ d. parent_at (one_step at port far parents) d) same ∙ get_or-set_same parents far.0.0 (Some (at, port)) None within

one_step-other : (at : DevId) (port : PortNo) (far : DevId × PortNo) (parents : Parents) (device : ℕ) → device ≢ far.0.0
    → parent_at (one_step at port far parents) device ≡ parent_at parents device
one_step-other at port far parents device other = get_or-set_other parents far.0.0 device (Some (at, port)) None other

later_sound : (peers : Peers) (at : DevId) (port : PortNo) (rest : List PortNo) (far : DevId × PortNo) (parents : Parents) (device : ℕ) (from : DevId × PortNo)
    → far.0.0 < length parents → peers at.0 port.0 ≡ Some far
    → (parent_at (one_step at port far parents) device ≡ Some from) ⊎ IsStep peers far.0.0 rest from device
    → (parent_at parents device ≡ Some from) ⊎ IsStep peers at.0 (port ∷ rest) from device
later_sound peers at port rest far parents device from within is (inl before) =
    elim (cases_eq device far.0.0) [
      | inl same ↦
          let one : (at, port) ≡ from = same_Some (at, port) from (sym (one_step-here at port far parents device within same) ∙ before) in
          inr (subst (λ (f : DevId × PortNo). IsStep peers at.0 (port ∷ rest) f device) one
          (subst (λ (d : ℕ). IsStep peers at.0 (port ∷ rest) (at, port) d) (sym same) (step_first peers at port rest far is)))
      | inr other ↦ inl (sym (one_step-other at port far parents device other) ∙ before)
    ]
later_sound peers at port rest far parents device from within is (inr step) = inr (step_later peers at.0 port rest far from device is step)

later_keeps : (at : DevId) (port : PortNo) (far : DevId × PortNo) (parents : Parents) (device : ℕ) → far.0.0 < length parents
    → parent_at (one_step at port far parents) device ≡ None → (device ≢ far.0.0) × (parent_at parents device ≡ None)
later_keeps at port far parents device within none =
    elim (cases_eq device far.0.0) [
      | inl same ↦ absurd (no_none (at, port) (sym (one_step-here at port far parents device within same) ∙ none))
      | inr other ↦ (other, sym (one_step-other at port far parents device other) ∙ none)
    ]

grows_later : (peers : Peers) (at : DevId) (port : PortNo) (rest : List PortNo) (far : DevId × PortNo) (parents final : Parents)
    → far.0.0 < length parents → peers at.0 port.0 ≡ Some far
    → GrowsBy (IsStep peers far.0.0 rest) (one_step at port far parents) final → GrowsBy (IsStep peers at.0 (port ∷ rest)) parents final
grows_later peers at port rest far parents final within is more =
    record {
      long = more.long ∙ length-set parents far.0.0 (Some (at, port));
      sound = λ device from found. later_sound peers at port rest far parents device from within is (more.sound device from found);
      complete = λ device from step none. elim (step_cases peers at.0 port rest far from device is step) [
        | inl here ↦ absurd ((later_keeps at port far parents device within (more.keeps device none)).0 (sym here))
        | inr later ↦ more.complete device from later none
      ];
      keeps = λ device none. (later_keeps at port far parents device within (more.keeps device none)).1;
    }

no_step : (x : PortNo) (back : List PortNo) (front : List PortNo) → [] ≡ front ++ x ∷ back → ⊥
no_step x back [] e = cc
no_step x back (y ∷ ys) e = cc

-- what a walk writes are its steps
walk_grows : (peers : Peers) (ports : List PortNo) (at : DevId) (end : ℕ) (parents : Parents) → IsWired peers → length parents ≡ MAX_DEVICES
    → IsWalk peers at.0 ports end → GrowsBy (IsStep peers at.0 ports) parents (grown peers at ports parents)
walk_grows peers [] at end parents wired long walk =
    record {
      long = refl;
      sound = λ device from is. inl is;
      complete = λ device from step none. no_step from.1 step.back step.front step.split;
      keeps = λ device none. none;
    }
walk_grows peers (port ∷ rest) at end parents wired long (far, is, walk) =
    let inside : far.0.0 < MAX_DEVICES = (wired.ends at.0 port.0 far is).2 in
    let more = walk_grows peers rest far.0 end (one_step at port far parents) wired (length-set parents far.0.0 (Some (at, port)) ∙ long) walk in
    subst (λ (t : Parents). GrowsBy (IsStep peers at.0 (port ∷ rest)) parents t) (sym (grown-step peers at port rest far parents is))
    (grows_later peers at port rest far parents (grown peers far.0 rest (one_step at port far parents)) (omega (arith, inside, long)) is more)

-- and those of the best walk to a device, where there is one
pub best_grows : (peers : Peers) (start : DevId) (end : ℕ) (ports : List PortNo) (old new : Parents) → IsWired peers → length old ≡ MAX_DEVICES
    → IsBestWalk peers start.0 ports end → new ≡ grown peers start ports old → GrowsBy (IsBestStep peers start.0 end) old new
best_grows peers start end ports old new wired long best is =
    let grows = walk_grows peers ports start end old wired long best.walk in
    subst (λ (t : Parents). GrowsBy (IsBestStep peers start.0 end) old t) (sym is)
    (record {
      long = grows.long;
      sound = λ device from found. elim (grows.sound device from found) [
        | inl before ↦ inl before
        | inr step ↦ inr (record { ports = ports; best = best; step = step })
      ];
      complete = λ device from step none.
          grows.complete device from
          (subst (λ (ps : List PortNo). IsStep peers start.0 ps from device) (same_best peers start.0 step.ports ports end step.best best) step.step) none;
      keeps = grows.keeps;
    })

pub none_grows : (peers : Peers) (start end : ℕ) (parents : Parents) → IsApart peers start end → GrowsBy (IsBestStep peers start end) parents parents
none_grows peers start end parents apart =
    record {
      long = refl;
      sound = λ device from is. inl is;
      complete = λ device from step none. apart step.ports step.best.walk;
      keeps = λ device none. none;
    }

-- the walk that was found
pub found_best : {W : Type 0} (peers : Peers) (start end : ℕ) (items : W → List PortNo) (found : Option W) (walk : W) → found ≡ Some walk
    → IsFoundWalk peers start end (option_map items found) → IsBestWalk peers start (items walk) end
found_best {W} peers start end items found walk is of = subst (λ (o : Option W). IsFoundWalk peers start end (option_map items o)) is of

pub found_none : {W : Type 0} (peers : Peers) (start end : ℕ) (items : W → List PortNo) (found : Option W) → found ≡ None
    → IsFoundWalk peers start end (option_map items found) → IsApart peers start end
found_none {W} peers start end items found is of = subst (λ (o : Option W). IsFoundWalk peers start end (option_map items o)) is of
