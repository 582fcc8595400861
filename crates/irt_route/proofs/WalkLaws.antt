-- Best walks: there is one, and what is left of it is best.
use Rattle.std.proofs.Common.{◌≡◌, ◌<◌, ◌≤◌, ℕ, suc, List, [], ◌∷◌, length, Some, ◌⊎◌, inl, inr, refl, sym, ◌∙◌, ap, subst, arith}
use Rattle.std.proofs.lemmas.Bool.{cases_eq}
use Rattle.std.proofs.lemmas.Option.{same_Some}
use Rattle.irt_base.specs.declared.numbers.DevId.{DevId}
use Rattle.irt_base.specs.declared.numbers.PortNo.{PortNo}
use Rattle.irt_route.specs.Walks.{Peers, IsWalk, IsBefore, IsBestWalk}

pub not_both : (ps qs : List PortNo) → IsBefore ps qs → IsBefore qs ps → ⊥
not_both [] qs a b = a
not_both (p ∷ ps) [] a b = a
not_both (p ∷ ps) (q ∷ qs) (inl less) (inl more) = omega arith
not_both (p ∷ ps) (q ∷ qs) (inl less) (inr more) = omega (arith, more.0)
not_both (p ∷ ps) (q ∷ qs) (inr less) (inl more) = omega (arith, less.0)
not_both (p ∷ ps) (q ∷ qs) (inr less) (inr more) = not_both ps qs less.1 more.1

-- there is one best walk
pub same_best : (peers : Peers) (start : ℕ) (ps qs : List PortNo) (end : ℕ) → IsBestWalk peers start ps end → IsBestWalk peers start qs end → ps ≡ qs
same_best peers start ps qs end a b =
    let longer = a.shortest qs b.walk in
    let shorter = b.shortest ps a.walk in
    let same : length qs ≡ length ps = omega (arith, longer, shorter) in
    elim (a.least qs b.walk same) [
      | inl is ↦ is
      | inr before ↦ elim (b.least ps a.walk (sym same)) [
        | inl is ↦ sym is
        | inr after ↦ absurd (not_both ps qs before after)
      ]
    ]

same_port : (p q : PortNo) → p.0 ≡ q.0 → p ≡ q
same_port p q same = λ i. record { 0 = same i }

tails : (p q : PortNo) (ps qs : List PortNo) → p ∷ ps ≡ q ∷ qs → ps ≡ qs
tails p q ps qs same = cc

-- the rest of a best walk is best from the next device on
pub best_rest : (peers : Peers) (start : ℕ) (port : PortNo) (rest : List PortNo) (end : ℕ) (far : DevId × PortNo) → peers start port.0 ≡ Some far
    → IsWalk peers far.0.0 rest end → IsBestWalk peers start (port ∷ rest) end → IsBestWalk peers far.0.0 rest end
best_rest peers start port rest end far at walk best =
    record {
      walk = walk;
      shortest = λ others other. omega (arith, best.shortest (port ∷ others) (far, at, other));
      least = λ others other same.
          elim (best.least (port ∷ others) (far, at, other) (ap suc same)) [
            | inl is ↦ inl (tails port port rest others is)
            | inr before ↦ elim before [
              | inl less ↦ absurd (omega arith)
              | inr more ↦ inr more.1
            ]
          ];
    }

pub best_next : (peers : Peers) (start : ℕ) (port : PortNo) (rest : List PortNo) (end : ℕ) → IsBestWalk peers start (port ∷ rest) end
    → (far : DevId × PortNo) × (peers start port.0 ≡ Some far) × IsBestWalk peers far.0.0 rest end
best_next peers start port rest end best =
    let (far, at, walk) = best.walk in
    (far, at, best_rest peers start port rest end far at walk best)

-- no link is the best walk from a device to itself
pub best_none : (peers : Peers) (device : ℕ) → IsBestWalk peers device [] device
best_none peers device =
    record {
      walk = refl;
      shortest = λ others other. omega arith;
      least = λ others other same. least_none others same;
    }
  where
    least_none : (others : List PortNo) → length others ≡ 0 → ([] ≡ others) ⊎ IsBefore [] others
    least_none [] same = inl refl
    least_none (q ∷ qs) same = absurd (omega arith)

-- a walk that goes on by the first port is best
pub best_more : (peers : Peers) (start : ℕ) (port : PortNo) (rest : List PortNo) (end : ℕ) (far : DevId × PortNo)
    → peers start port.0 ≡ Some far → IsBestWalk peers far.0.0 rest end
    → ((others : List PortNo) → IsWalk peers start others end → length rest < length others)
    → ((q : PortNo) (qs : List PortNo) → IsWalk peers start (q ∷ qs) end → length qs ≡ length rest → port.0 ≤ q.0)
    → IsBestWalk peers start (port ∷ rest) end
best_more peers start port rest end far at best far_off first =
    record {
      walk = (far, at, best.walk);
      shortest = λ others other. omega (arith, far_off others other);
      least = λ others other same. least_of others other same;
    }
  where
    least_of : (others : List PortNo) → IsWalk peers start others end → length others ≡ length (port ∷ rest)
        → (port ∷ rest ≡ others) ⊎ IsBefore (port ∷ rest) others
    least_of [] other same = absurd (omega arith)
    least_of (q ∷ qs) (next, on, walk) same =
        let long : length qs ≡ length rest = omega arith in
        let above = first q qs (next, on, walk) long in
        elim (cases_eq port.0 q.0) [
          | inl here ↦
              let also : far ≡ next = same_Some far next (sym at ∙ ap (peers start) here ∙ on) in
              elim (best.least qs (subst (λ (f : DevId × PortNo). IsWalk peers f.0.0 qs end) (sym also) walk) long) [
                | inl is ↦ inl (λ i. same_port port q here i ∷ is i)
                | inr before ↦ inr (inr (here, before))
              ]
          | inr other ↦ inr (inl (omega (arith, above, other)))
        ]
