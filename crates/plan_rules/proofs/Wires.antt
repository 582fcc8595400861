-- On a plant that meets its rules each end of a link is the other's peer.
use Rattle.std.proofs.Common.{◌≡◌, ◌⊎◌, ℕ, Bool, true, false, List, [], ◌∷◌, Option, Some, None, sym, ◌∙◌, ap, subst, refl, arith, find, option_map, ◌==◌, ◌&&◌, ◌||◌, inl, inr}
use Rattle.std.proofs.lemmas.Bool.{cases_Bool, and_parts, or_cases, eqb-true, eq-eqb, both_ways, or_left, or_right, and_from, cond-true, cond-false, ne_eqb, eqb-false, and_left}
use Rattle.std.proofs.lemmas.Option.{same_Some}
use Rattle.std.specs.List.{AllByRecursion, IsDistinct}
use Rattle.irt_base.specs.Wiring.{begins_at, ends_at, touches, link_at, far_end, peer_of}
use Rattle.irt_base.specs.declared.numbers.DevId.{DevId}
use Rattle.irt_base.specs.declared.numbers.PortNo.{PortNo}
use Rattle.irt_base.specs.declared.plants.Link.{Link}
use Rattle.irt_base.specs.declared.plants.Plant.{Plant}
use Rattle.plant_rules.specs.Words.{share_port}
use Rattle.plant_rules.specs.Meets.{IsLink, MeetsRules}

abbrev pub end_of : ℕ → ℕ → DevId × PortNo
end_of d p = (record { 0 = d }, record { 0 = p })

-- a link from one end to another
pub record Joins (d p v q : ℕ) (l : Link) : Type 0 where
  pub from : l.a.0 ≡ d
  pub from_port : l.a_port.0 ≡ p
  pub to : l.b.0 ≡ v
  pub to_port : l.b_port.0 ≡ q

pub begins : (d p : ℕ) (l : Link) → begins_at d p l ≡ true → (l.a.0 ≡ d) × (l.a_port.0 ≡ p)
begins d p l h = let (one, two) = and_parts _ (l.a_port.0 == p) h in (eqb-true _ _ one, eqb-true _ _ two)

pub ends : (d p : ℕ) (l : Link) → ends_at d p l ≡ true → (l.b.0 ≡ d) × (l.b_port.0 ≡ p)
ends d p l h = let (one, two) = and_parts _ (l.b_port.0 == p) h in (eqb-true _ _ one, eqb-true _ _ two)

begins_back : (d p : ℕ) (l : Link) → l.a.0 ≡ d → l.a_port.0 ≡ p → begins_at d p l ≡ true
begins_back d p l h k = and_from _ _ (eq-eqb _ _ h) (eq-eqb _ _ k)

ends_back : (d p : ℕ) (l : Link) → l.b.0 ≡ d → l.b_port.0 ≡ p → ends_at d p l ≡ true
ends_back d p l h k = and_from _ _ (eq-eqb _ _ h) (eq-eqb _ _ k)

far_of_begin : (d p : ℕ) (l : Link) → begins_at d p l ≡ true → far_end d p l ≡ (l.b, l.b_port)
far_of_begin d p l h = cond-true (begins_at d p l) (l.b, l.b_port) (l.a, l.a_port) h

far_of_end : (d p : ℕ) (l : Link) → begins_at d p l ≡ false → far_end d p l ≡ (l.a, l.a_port)
far_of_end d p l h = cond-false (begins_at d p l) (l.b, l.b_port) (l.a, l.a_port) h

joins : (d p v q : ℕ) (l : Link) → touches d p l ≡ true → far_end d p l ≡ end_of v q → Joins d p v q l ⊎ Joins v q d p l
joins d p v q l touched far =
    elim (cases_Bool (begins_at d p l)) [
      | inl so ↦
          let whole = sym (far_of_begin d p l so) ∙ far in
          let (one, two) = begins d p l so in
          inl (record { from = one; from_port = two; to = ap (λ (x : DevId × PortNo). x.0.0) whole; to_port = ap (λ (x : DevId × PortNo). x.1.0) whole })
      | inr other ↦
          let whole = sym (far_of_end d p l other) ∙ far in
          elim (or_cases (begins_at d p l) (ends_at d p l) touched) [
            | inl so ↦ absurd (both_ways _ other so)
            | inr so ↦
                let (one, two) = ends d p l so in
                inr (record { from = ap (λ (x : DevId × PortNo). x.0.0) whole; from_port = ap (λ (x : DevId × PortNo). x.1.0) whole; to = one; to_port = two })
          ]
    ]

touches_of : (d p v q : ℕ) (l : Link) → Joins d p v q l ⊎ Joins v q d p l → touches v q l ≡ true
touches_of d p v q l (inl j) = or_right (begins_at v q l) (ends_at v q l) (ends_back v q l j.to j.to_port)
touches_of d p v q l (inr j) = or_left (begins_at v q l) (ends_at v q l) (begins_back v q l j.from j.from_port)

other_end : (v q : ℕ) (l : Link) → (l.a.0 == l.b.0) ≡ false → l.b.0 ≡ v → begins_at v q l ≡ false
other_end v q l two is = and_left (l.a.0 == v) (l.a_port.0 == q) (ne_eqb _ _ (λ h. eqb-false _ _ two (h ∙ sym is)))

far_back : (d p v q : ℕ) (l : Link) → (l.a.0 == l.b.0) ≡ false → Joins d p v q l ⊎ Joins v q d p l → far_end v q l ≡ end_of d p
far_back d p v q l two (inl j) = far_of_end v q l (other_end v q l two j.to) ∙ (λ i. (record { 0 = j.from i }, record { 0 = j.from_port i }))
far_back d p v q l two (inr j) = far_of_begin v q l (begins_back v q l j.from j.from_port) ∙ (λ i. (record { 0 = j.to i }, record { 0 = j.to_port i }))

-- two links that touch one port share it
one_of_four : (a b c d : Bool) → (a ≡ true) ⊎ ((b ≡ true) ⊎ ((c ≡ true) ⊎ (d ≡ true))) → (a || b || c || d) ≡ true
one_of_four a b c d is = grind arith

met : (v q a p b r : ℕ) → (a ≡ v) × (p ≡ q) → (b ≡ v) × (r ≡ q) → ((a == b) && (p == r)) ≡ true
met v q a p b r first second = and_from _ _ (eq-eqb _ _ (first.0 ∙ sym second.0)) (eq-eqb _ _ (first.1 ∙ sym second.1))

share_from : (v q : ℕ) (x l : Link) → touches v q x ≡ true → touches v q l ≡ true → share_port x l ≡ true
share_from v q x l first second =
    one_of_four _ _ _ _
    (elim (or_cases (begins_at v q x) (ends_at v q x) first) [
      | inl a ↦ elim (or_cases (begins_at v q l) (ends_at v q l) second) [
        | inl b ↦ inl (met v q _ _ _ _ (begins v q x a) (begins v q l b))
        | inr b ↦ inr (inl (met v q _ _ _ _ (begins v q x a) (ends v q l b)))
      ]
      | inr a ↦ elim (or_cases (begins_at v q l) (ends_at v q l) second) [
        | inl b ↦ inr (inr (inl (met v q _ _ _ _ (ends v q x a) (begins v q l b))))
        | inr b ↦ inr (inr (inr (met v q _ _ _ _ (ends v q x a) (ends v q l b))))
      ]
    ])

-- what a search finds passes the test, and is an item like the others
pub found : {A : Type 0} (test : A → Bool) (P : A → Type 0) (xs : List A) (x : A) → AllByRecursion P xs → find test xs ≡ Some x → (test x ≡ true) × P x
found test P [] x all is = absurd (cc)
found test P (y ∷ ys) x all is =
    elim (cases_Bool (test y)) [
      | inl so ↦
          let same : y ≡ x = same_Some y x (sym (cond-true (test y) (Some y) (find test ys) so) ∙ is) in
          subst (λ z. (test z ≡ true) × P z) same (so, all.0)
      | inr other ↦ found test P ys x all.1 (sym (cond-false (test y) (Some y) (find test ys) other) ∙ is)
    ]

-- the link that a port finds is the one that the far port finds
same_link : (d p v q : ℕ) (ls : List Link) (l : Link) → IsDistinct share_port ls → find (touches d p) ls ≡ Some l → touches v q l ≡ true →
    find (touches v q) ls ≡ Some l
unfolding IsDistinct
same_link d p v q [] l distinct is far = absurd (cc)
same_link d p v q (x ∷ xs) l distinct is far =
    elim (cases_Bool (touches d p x)) [
      | inl so ↦
          let same : x ≡ l = same_Some x l (sym (cond-true (touches d p x) (Some x) (find (touches d p) xs) so) ∙ is) in
          cond-true (touches v q x) (Some x) (find (touches v q) xs) (ap (touches v q) same ∙ far) ∙ ap Some same
      | inr other ↦
          let rest : find (touches d p) xs ≡ Some l = sym (cond-false (touches d p x) (Some x) (find (touches d p) xs) other) ∙ is in
          let apart = (found (touches d p) (λ (y : Link). share_port x y ≡ false) xs l distinct.0 rest).1 in
          elim (cases_Bool (touches v q x)) [
            | inl both ↦ absurd (both_ways _ apart (share_from v q x l both far))
            | inr none ↦ cond-false (touches v q x) (Some x) (find (touches v q) xs) none ∙ same_link d p v q xs l distinct.1 rest far
          ]
    ]

pub mapped : {A B : Type 0} (f : A → B) (o : Option A) (y : B) → option_map f o ≡ Some y → (x : A) × (o ≡ Some x) × (f x ≡ y)
mapped f None y is = absurd (cc)
mapped f (Some x) y is = (x, refl, same_Some (f x) y is)

pub mutual_peers : (plant : Plant) → MeetsRules plant → (d p v q : ℕ) → peer_of plant d p ≡ Some (end_of v q) → peer_of plant v q ≡ Some (end_of d p)
mutual_peers plant rules d p v q is =
    let (l, at, far) = mapped (far_end d p) (link_at plant d p) (end_of v q) is in
    let (touched, link) = found (touches d p) (IsLink plant) plant.links l rules.links at in
    let ways = joins d p v q l touched far in
    let back = same_link d p v q plant.links l rules.ports_differ at (touches_of d p v q l ways) in
    ap (option_map (far_end v q)) back ∙ ap Some (far_back d p v q l link.two_devices ways)
