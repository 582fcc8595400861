-- Trees of best walks.
use Rattle.std.proofs.Common.{◌≡◌, ℕ, List, [], ◌∷◌, ◌++◌, length, get_or, replicate, Option, Some, None, ◌⊎◌, inl, inr, refl, sym, ◌∙◌, ap, subst, arith}
use Rattle.std.proofs.lemmas.Bool.{cases_lt}
use Rattle.std.proofs.lemmas.List.{get_or-replicate, get_or_past, length-append}
use Rattle.std.proofs.lemmas.Option.{same_Some}
use Rattle.irt_base.specs.declared.limits.TheConstants.{MAX_DEVICES}
use Rattle.irt_base.specs.declared.numbers.DevId.{DevId}
use Rattle.irt_base.specs.declared.numbers.PortNo.{PortNo}
use Rattle.irt_route.specs.Walks.{Peers, IsWalk}
use Rattle.irt_route.specs.Trees.{IsStep, IsBestStep, IsTreeStep, Parents, AreParents, GrowsBy}

-- walks one after the other
pub walk_append : (peers : Peers) (start : ℕ) (ps qs : List PortNo) (middle end : ℕ) → IsWalk peers start ps middle → IsWalk peers middle qs end
    → IsWalk peers start (ps ++ qs) end
walk_append peers start [] qs middle end first second = subst (λ (s : ℕ). IsWalk peers s qs end) (sym first) second
walk_append peers start (p ∷ ps) qs middle end (far, at, first) second = (far, at, walk_append peers far.0.0 ps qs middle end first second)

-- the rest of a walk
pub walk_rest : (peers : Peers) (start : ℕ) (ps qs : List PortNo) (middle end : ℕ) → IsWalk peers start (ps ++ qs) end → IsWalk peers start ps middle
    → IsWalk peers middle qs end
walk_rest peers start [] qs middle end whole first = subst (λ (s : ℕ). IsWalk peers s qs end) first whole
walk_rest peers start (p ∷ ps) qs middle end (far, at, whole) (next, on, first) =
    let same : next ≡ far = same_Some next far (sym on ∙ at) in
    walk_rest peers far.0.0 ps qs middle end whole (subst (λ (f : DevId × PortNo). IsWalk peers f.0.0 ps middle) same first)

-- no step of a best walk comes to its start
pub none_to_start : (peers : Peers) (start end : ℕ) (from : DevId × PortNo) → IsBestStep peers start end from start → ⊥
none_to_start peers start end from step =
    let one = step.step in
    let whole = subst (λ (ps : List PortNo). IsWalk peers start ps end) one.split step.best.walk in
    let (next, on, rest) = walk_rest peers start one.front (from.1 ∷ one.back) from.0.0 end whole one.before in
    let same : next ≡ one.far = same_Some next one.far (sym on ∙ one.over) in
    let back : IsWalk peers start one.back end =
    subst (λ (d : ℕ). IsWalk peers d one.back end) (ap (λ (f : DevId × PortNo). f.0.0) same ∙ one.there) rest in
    omega (arith, step.best.shortest one.back back, ap length one.split, length-append one.front (from.1 ∷ one.back))

-- the last step of a walk that has one
pub record HasLast (peers : Peers) (start : ℕ) (ports : List PortNo) (end : ℕ) : Type 0 where
  pub from : DevId × PortNo
  pub front : List PortNo
  pub split : ports ≡ front ++ from.1 ∷ []
  pub before : IsWalk peers start front from.0.0
  pub step : IsStep peers start ports from end

pub last_step : (peers : Peers) (start : DevId) (port : PortNo) (rest : List PortNo) (end : ℕ) → IsWalk peers start.0 (port ∷ rest) end
    → HasLast peers start.0 (port ∷ rest) end
last_step peers start port [] end (far, at, walk) =
    record {
      from = (start, port);
      front = [];
      split = refl;
      before = refl;
      step = record { front = []; back = []; split = refl; before = refl; far = far; over = at; there = walk };
    }
last_step peers start port (q ∷ qs) end (far, at, walk) =
    let later = last_step peers far.0 q qs end walk in
    record {
      from = later.from;
      front = port ∷ later.front;
      split = ap (λ ps. port ∷ ps) later.split;
      before = (far, at, later.before);
      step =
          record {
            front = port ∷ later.step.front;
            back = later.step.back;
            split = ap (λ ps. port ∷ ps) later.step.split;
            before = (far, at, later.step.before);
            far = later.step.far;
            over = later.step.over;
            there = later.step.there;
          };
    }

-- a tree with one more end
pub parents_more : (peers : Peers) (start end : ℕ) (IsEnd IsNow : ℕ → Type 0) (old new : Parents) → ((e : ℕ) → IsEnd e → IsNow e) → IsNow end
    → ((e : ℕ) → IsNow e → IsEnd e ⊎ (e ≡ end)) → AreParents (IsTreeStep peers start IsEnd) old → GrowsBy (IsBestStep peers start end) old new
    → AreParents (IsTreeStep peers start IsNow) new
parents_more peers start end IsEnd IsNow old new keeps here splits are grows =
    record {
      long = grows.long ∙ are.long;
      sound = λ device from is. elim (grows.sound device from is) [
        | inl before ↦
            let step = are.sound device from before in
            record { end = step.end; is_end = keeps step.end step.is_end; step = step.step }
        | inr step ↦ record { end = end; is_end = here; step = step }
      ];
      complete = λ device from step none. elim (splits step.end step.is_end) [
        | inl before ↦ are.complete device from (record { end = step.end; is_end = before; step = step.step }) (grows.keeps device none)
        | inr same ↦ grows.complete device from (subst (λ (e : ℕ). IsBestStep peers start e from device) same step.step) none
      ];
    }

none_at : (device : ℕ) → get_or (replicate MAX_DEVICES None) device None ≡ (let none : Option (DevId × PortNo) = None in none)
none_at device = elim (cases_lt device MAX_DEVICES) [
  | inl below ↦ get_or-replicate MAX_DEVICES device None None below
  | inr past ↦ get_or_past (replicate MAX_DEVICES None) device None (omega arith)
]

-- no tree has no ends
pub parents_none : (peers : Peers) (start : ℕ) (IsEnd : ℕ → Type 0) → ((e : ℕ) → IsEnd e → ⊥)
    → AreParents (IsTreeStep peers start IsEnd) (replicate MAX_DEVICES None)
parents_none peers start IsEnd no_end =
    record {
      long = refl;
      sound = λ device from is. absurd (no_some from (sym (none_at device) ∙ is));
      complete = λ device from step none. no_end step.end step.is_end;
    }
  where
    no_some : (x : DevId × PortNo) → None ≡ Some x → ⊥
    no_some x e = cc
