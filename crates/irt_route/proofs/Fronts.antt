-- Fronts of best walks, and what follows for trees.
use Rattle.std.proofs.Common.{◌≡◌, ℕ, zero, suc, List, [], ◌∷◌, ◌++◌, length, ◌⊎◌, inl, inr, refl, sym, ◌∙◌, ap, subst, arith, append_assoc}
use Rattle.std.proofs.lemmas.List.{append_cancel_right, append-nil, length-append, same_from_push}
use Rattle.std.proofs.lemmas.Option.{same_Some}
use Rattle.irt_base.specs.declared.numbers.DevId.{DevId}
use Rattle.irt_base.specs.declared.numbers.PortNo.{PortNo}
use Rattle.irt_route.specs.Walks.{Peers, IsWalk, IsBefore, IsBestWalk}
use Rattle.irt_route.specs.Trees.{IsBestStep, IsTreeStep, IsOnTree, IsParentChain, IsLeft}
use Rattle.irt_route.proofs.WalkLaws.{not_both, same_best}
use Rattle.irt_route.proofs.TreeLaws.{walk_append, walk_rest, last_step, HasLast}

-- lists that go on alike differ before
before_alike : (ps qs rest : List PortNo) → length ps ≡ length qs → IsBefore (ps ++ rest) (qs ++ rest) → IsBefore ps qs
before_alike [] [] rest same before = not_both rest rest before before
before_alike [] (q ∷ qs) rest same before = absurd (omega arith)
before_alike (p ∷ ps) [] rest same before = absurd (omega arith)
before_alike (p ∷ ps) (q ∷ qs) rest same (inl less) = inl less
before_alike (p ∷ ps) (q ∷ qs) rest same (inr more) = inr (more.0, before_alike ps qs rest (omega arith) more.1)

pub best_front : (peers : Peers) (start : ℕ) (front back : List PortNo) (middle end : ℕ) → IsBestWalk peers start (front ++ back) end
    → IsWalk peers start front middle → IsBestWalk peers start front middle
best_front peers start front back middle end best walk =
    let rest = walk_rest peers start front back middle end best.walk walk in
    record {
      walk = walk;
      shortest = λ others other.
          omega (
            arith,
            best.shortest (others ++ back) (walk_append peers start others back middle end other rest),
            length-append front back,
            length-append others back,
          );
      least = λ others other same.
          elim (best.least (others ++ back) (walk_append peers start others back middle end other rest)
          (omega (arith, same, length-append front back, length-append others back))) [
            | inl is ↦ inl (append_cancel_right front others back is)
            | inr before ↦ inr (before_alike front others back (sym same) before)
          ];
    }

-- a walk has one end
one_end : (peers : Peers) (start : ℕ) (ports : List PortNo) (a b : ℕ) → IsWalk peers start ports a → IsWalk peers start ports b → a ≡ b
one_end peers start [] a b first second = sym first ∙ second
one_end peers start (p ∷ ps) a b (far, at, first) (next, on, second) =
    let same : next ≡ far = same_Some next far (sym on ∙ at) in
    one_end peers far.0.0 ps a b first (subst (λ (f : DevId × PortNo). IsWalk peers f.0.0 ps b) same second)

-- a step's device is reached by the walk up to it, which is best
best_to_step : (peers : Peers) (start end : ℕ) (from : DevId × PortNo) (to : ℕ) → (step : IsBestStep peers start end from to)
    → IsBestWalk peers start (step.step.front ++ from.1 ∷ []) to
best_to_step peers start end from to step =
    let one = step.step in
    let whole : step.ports ≡ (one.front ++ from.1 ∷ []) ++ one.back = one.split ∙ sym (append_assoc one.front (from.1 ∷ []) one.back) in
    best_front peers start (one.front ++ from.1 ∷ []) one.back to end (subst (λ (ps : List PortNo). IsBestWalk peers start ps end) whole step.best)
    (walk_append peers start one.front (from.1 ∷ []) from.0.0 to one.before (one.far, one.over, one.there))

same_pair : (a b : DevId × PortNo) → a.0.0 ≡ b.0.0 → a.1 ≡ b.1 → a ≡ b
same_pair a b device port = λ i. (record { 0 = device i }, port i)

pub one_parent : (peers : Peers) (start : ℕ) (IsEnd : ℕ → Type 0) (from other : DevId × PortNo) (to : ℕ) → IsTreeStep peers start IsEnd from to
    → IsTreeStep peers start IsEnd other to → from ≡ other
one_parent peers start IsEnd from other to a b =
    let first = best_to_step peers start a.end from to a.step in
    let second = best_to_step peers start b.end other to b.step in
    let f = a.step.step.front in
    let g = b.step.step.front in
    let (fronts, ports) = same_from_push f g from.1 other.1 (same_best peers start (f ++ from.1 ∷ []) (g ++ other.1 ∷ []) to first second) in
    same_pair from other
    (one_end peers start g from.0.0 other.0.0 (subst (λ (ps : List PortNo). IsWalk peers start ps from.0.0) fronts a.step.step.before) b.step.step.before)
    ports

-- the last step of a front is a step of the tree
pub front_step : (peers : Peers) (start : DevId) (IsEnd : ℕ → Type 0) (device end : ℕ) (front back : List PortNo) → IsEnd end
    → IsBestWalk peers start.0 (front ++ back) end → (last : HasLast peers start.0 front device) → IsTreeStep peers start.0 IsEnd last.from device
front_step peers start IsEnd device end front back is_end best last =
    let step = last.step in
    record {
      end = end;
      is_end = is_end;
      step =
          record {
            ports = front ++ back;
            best = best;
            step =
                record {
                  front = step.front;
                  back = step.back ++ back;
                  split = ap (λ qs. qs ++ back) step.split ∙ append_assoc step.front (last.from.1 ∷ step.back) back;
                  before = step.before;
                  far = step.far;
                  over = step.over;
                  there = step.there;
                };
          };
    }

chain_of : (n : ℕ) (peers : Peers) (start : DevId) (IsEnd : ℕ → Type 0) (device end : ℕ) (front back : List PortNo) → length front ≡ n → IsEnd end
    → IsBestWalk peers start.0 (front ++ back) end → IsWalk peers start.0 front device → IsParentChain peers start.0 IsEnd n device
chain_of zero peers start IsEnd device end [] back long is_end best walk = sym walk
chain_of zero peers start IsEnd device end (p ∷ ps) back long is_end best walk = absurd (omega arith)
chain_of (suc n) peers start IsEnd device end [] back long is_end best walk = absurd (omega arith)
chain_of (suc n) peers start IsEnd device end (p ∷ ps) back long is_end best walk =
    let last = last_step peers start p ps device walk in
    let whole : (p ∷ ps) ++ back ≡ last.front ++ (last.from.1 ∷ back) =
    ap (λ qs. qs ++ back) last.split ∙ append_assoc last.front (last.from.1 ∷ []) back in
    let shorter : length last.front ≡ n = omega (arith, long, ap length last.split, length-append last.front (last.from.1 ∷ []), one_long last.from.1) in (
      last.from,
      front_step peers start IsEnd device end (p ∷ ps) back is_end best last,
      chain_of n peers start IsEnd last.from.0.0 end last.front (last.from.1 ∷ back) shorter is_end
          (subst (λ (qs : List PortNo). IsBestWalk peers start.0 qs end) whole best) last.before,
    )
  where
    one_long : (q : PortNo) → length (q ∷ []) ≡ 1
    one_long q = refl

pub parent_chain : (peers : Peers) (start : ℕ) (IsEnd : ℕ → Type 0) (device : ℕ) → (on : IsOnTree peers start IsEnd device)
    → IsParentChain peers start IsEnd (length on.front) device
parent_chain peers start IsEnd device on =
    chain_of (length on.front) peers (record { 0 = start }) IsEnd device on.end on.front on.back refl on.is_end on.best on.here

-- a device on the tree is an end, or a step leaves it
end_or_left : (peers : Peers) (start : ℕ) (IsEnd : ℕ → Type 0) (device : DevId) (end : ℕ) (front back : List PortNo) → IsEnd end
    → IsBestWalk peers start (front ++ back) end → IsWalk peers start front device.0 → IsEnd device.0 ⊎ IsLeft peers start IsEnd device.0
end_or_left peers start IsEnd device end front [] is_end best walk =
    let there = subst (λ (ps : List PortNo). IsWalk peers start ps end) (append-nil front) best.walk in
    inl (subst IsEnd (one_end peers start front end device.0 there walk) is_end)
end_or_left peers start IsEnd device end front (p ∷ ps) is_end best walk =
    let (far, at, rest) = walk_rest peers start front (p ∷ ps) device.0 end best.walk walk in
    inr (
      (device, p),
      far.0.0,
      refl,
      record {
        end = end;
        is_end = is_end;
        step =
            record {
              ports = front ++ p ∷ ps;
              best = best;
              step = record { front = front; back = ps; split = refl; before = walk; far = far; over = at; there = refl };
            };
      },
    )

pub leaves : (peers : Peers) (start : ℕ) (IsEnd : ℕ → Type 0) (device : ℕ) → IsOnTree peers start IsEnd device
    → IsEnd device ⊎ IsLeft peers start IsEnd device
leaves peers start IsEnd device on =
    end_or_left peers start IsEnd (record { 0 = device }) on.end on.front on.back on.is_end on.best on.here
